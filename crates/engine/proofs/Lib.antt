mod NineLaws
pub mod FirstModel
pub mod PosedLaws
pub mod ProblemLaws
mod AnswerLaws
pub mod StepLaws
pub mod FewerReasons
pub mod DimacsLaws
pub mod Numbers
pub mod LogLaws
pub mod SameScreens
pub mod Moments
pub mod ResumeLaws
pub mod Restarts

-- `c_interface::why_next_step` meets its contract. Assumes nothing.
use Rattle.std.proofs.Common.{refl, ap, rules}
use mir.Syntax.{w8}
use Rattle.c_interface.specs.Seen.{done}
use Rattle.c_interface.proofs.SeenLaws.{seen_done, seen_refused, shown_or}
use Rattle.c_interface.proofs.CastLaws.{cast_fits, cast_same}
use Rattle.c_interface.proofs.Told.{all_told}
use Rattle.c_interface.proofs.why_next_step.Goals as goal

pub overflow_cast-goal : goal.overflow_cast-goal
overflow_cast-goal c = cast_fits {w = w8} {z = c.unwrap_or-step.result.goal} tt (record { sfits = search rules })

pub returns-in-Err : goal.returns-in-Err
returns-in-Err c = let m = rw c.moment_of-moment.ensures at c.next_step.ensures in
    seen_refused m m.said ((all_told _).step _ _ _).as_meant c.in-Err.is refl c.refusal.ensures

pub returns-in-Ok : goal.returns-in-Ok
returns-in-Ok c = let m = rw c.moment_of-moment.ensures at c.next_step.ensures in
    rw (cast_same {w = w8} {z = c.unwrap_or-step.result.goal} tt (record { sfits = search rules }))
    (seen_done m m.said ((all_told _).step _ _ _).as_meant c.in-Ok.is (ap done (shown_or c.in-Ok.next c.unwrap_or-step.ensures)))

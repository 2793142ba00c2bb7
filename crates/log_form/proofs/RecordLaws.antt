-- Writing a record, part by part.
-- Assumes nothing.
use mathlib.Core.Path.{◌≡◌, refl, ap, ◌∙◌}
use mathlib.Core.List.{List, [], ◌∷◌, ◌++◌, append_assoc}
use Prim.Native.Nat.{ℕ, ◌+◌, ◌≤◌, ◌<◌}
use native.Mathlib.Omega.{arith}
use lib.ListN.{length, length-append}
use Rattle.std.specs.Int.{w16, w32, to_be_bytes}
use mir.Syntax.{w8}
use mir.Val.{SFits, to_z, of_z}
use mir.Facts.{to_z-of_z}
use Rattle.literals.specs.Literal.{byte_of}
use Rattle.log_form.specs.Format.{StepRecord, record_bytes, ST, OK, list_bytes, two_bytes, four_bytes, ok_bytes}
use Rattle.log_form.specs.Promises.{Put}
use Rattle.log_form.proofs.StoreLaws.{put_append, put_length}

-- the bytes of a record's reasons, and of its new literals
abbrev pub reasons_bytes : StepRecord → List ℕ
reasons_bytes s = list_bytes s.reasons

abbrev pub new_bytes : StepRecord → List ℕ
new_bytes s = list_bytes s.new

-- the parts of a record, one after the other
abbrev pub up_to_goal : StepRecord → List ℕ
up_to_goal s = ST ++ (byte_of s.goal ∷ [])

abbrev pub up_to_reasons : StepRecord → List ℕ
up_to_reasons s = up_to_goal s ++ reasons_bytes s

abbrev pub up_to_new : StepRecord → List ℕ
up_to_new s = up_to_reasons s ++ new_bytes s

pub step_parts : (s : StepRecord) → record_bytes s ≡ up_to_new s ++ two_bytes s.cost
unfolding record_bytes
step_parts s = simp append_assoc

-- how long the parts are
pub reasons_length : (s : StepRecord) → length (up_to_reasons s) ≡ 3 + length (reasons_bytes s)
reasons_length s = length-append (up_to_goal s) (reasons_bytes s)

pub new_length : (s : StepRecord) → length (up_to_new s) ≡ 3 + length (reasons_bytes s) + length (new_bytes s)
new_length s = length-append (up_to_reasons s) (new_bytes s) ∙ ap (λ k. k + length (new_bytes s)) (reasons_length s)

pub step_length : (s : StepRecord) → length (record_bytes s) ≡ 5 + length (reasons_bytes s) + length (new_bytes s)
unfolding two_bytes
step_length s = omega (arith, ap length (step_parts s), length-append (up_to_new s) (two_bytes s.cost), new_length s)

module _ (a : List ℕ) (at : ℕ) (s : StepRecord) (room : at + length (record_bytes s) ≤ length a) where
  pub mark_room : at + 2 ≤ length a
  mark_room = omega (arith, step_length s)

  pub goal_room_lem : {b : List ℕ} {k : ℕ} → Put a at ST b k → k < length b
  goal_room_lem p = omega (arith, step_length s, p.place, put_length ST p)

  module _ {b : List ℕ} {j : ℕ} (g : Put a at (up_to_goal s) b j) where
    pub reasons_room : j + length (reasons_bytes s) ≤ length b
    reasons_room = omega (arith, step_length s, g.place, put_length (up_to_goal s) g)

    module _ {c : List ℕ} {k : ℕ} (r : Put b j (reasons_bytes s) c k) where
      pub new_room : k + length (new_bytes s) ≤ length c
      new_room =
          let p = put_append (up_to_goal s) (reasons_bytes s) g r in
          omega (arith, step_length s, reasons_length s, p.place, put_length (up_to_reasons s) p)

      pub cost_room_lem : {d : List ℕ} {l : ℕ} → Put c k (new_bytes s) d l → l + 2 ≤ length d
      cost_room_lem n =
          let p = put_append (up_to_reasons s) (new_bytes s) (put_append (up_to_goal s) (reasons_bytes s) g r) n in
          omega (arith, step_length s, new_length s, p.place, put_length (up_to_new s) p)

-- the mark and the goal, whose byte is made of a signed number
pub goal_put : {a b c : List ℕ} {at j k x : ℕ} (s : StepRecord) → SFits w8 s.goal → x ≡ byte_of (to_z w8 (of_z w8 s.goal)) → Put a at ST b j
    → Put b j (x ∷ []) c k → Put a at (up_to_goal s) c k
goal_put s f e p q = put_append ST (byte_of s.goal ∷ []) p (rw (e, to_z-of_z f) at q)

-- the bytes of a number, the high byte first
two_be : (n : ℕ) → to_be_bytes w16 n ≡ two_bytes n
unfolding two_bytes
two_be n = refl

four_be : (n : ℕ) → to_be_bytes w32 n ≡ four_bytes n
unfolding four_bytes
four_be n = refl

-- the record is whole with its cost
pub step_put : {a b c d e : List ℕ} {at j k l r : ℕ} (s : StepRecord) → Put a at (up_to_goal s) b j → Put b j (reasons_bytes s) c k
    → Put c k (new_bytes s) d l → Put d l (to_be_bytes w16 s.cost) e r → Put a at (record_bytes s) e r
step_put s g p n q =
    let listed = put_append (up_to_reasons s) (new_bytes s) (put_append (up_to_goal s) (reasons_bytes s) g p) n in
    rw (step_parts s) (put_append (up_to_new s) (two_bytes s.cost) listed (rw (two_be s.cost) at q))

-- the record that ends the log
pub ok_put : {a b c d : List ℕ} {at j k r : ℕ} (steps total : ℕ) → Put a at OK b j → Put b j (steps ∷ []) c k → Put c k (to_be_bytes w32 total) d r
    → Put a at (ok_bytes steps total) d r
unfolding ok_bytes
ok_put steps total p q t = put_append OK (steps ∷ four_bytes total) p (put_append (steps ∷ []) (four_bytes total) q (rw (four_be total) at t))

pub ok_length : (steps total : ℕ) → length (ok_bytes steps total) ≡ 7
unfolding ok_bytes four_bytes
ok_length steps total = refl

module _ (a : List ℕ) (at steps total : ℕ) (room : at + length (ok_bytes steps total) ≤ length a) where
  pub ok_room : at + 2 ≤ length a
  ok_room = omega (arith, ok_length steps total)

  module _ {b : List ℕ} {j : ℕ} (p : Put a at OK b j) where
    pub ok_count_room : j < length b
    ok_count_room = omega (arith, ok_length steps total, p.place, put_length OK p)

    pub ok_total_room : {c : List ℕ} {k : ℕ} → Put b j (steps ∷ []) c k → k + 4 ≤ length c
    ok_total_room q = omega (arith, ok_length steps total, p.place, put_length OK p, q.place, put_length (steps ∷ []) q)

pub ruleset ok_laws = (ok_room, ok_count_room, ok_total_room, ok_put)

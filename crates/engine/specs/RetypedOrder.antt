-- Book P of document 01 retyped: two books that differ in V, R, the rules and the helpers and have the same screens, shown by computing (E1).
use Rattle.std.specs.Prelude.{◌≡◌, refl, true, List, [], ◌∷◌, map, ℕ, pos, negsuc}
use Rattle.literals.specs.Literal.{Literal}
use Rattle.records.specs.Format.{always, OrderBook}
use Rattle.book.specs.Orders.{order_c}
use Rattle.problem.specs.Problem.{problem_of}
use Rattle.consequence.specs.Meaning.{theory_of}
use Rattle.consequence.specs.SameFillings.{fillings_within, fillings_agree}
use Rattle.consequence.proofs.SameFillings.{fillings_agree_lem}
use Rattle.engine.specs.Orders.{noon, read_and_posed}
use Rattle.engine.specs.SameScreens.{Retyped}

-- P has the rules (-1, 5), (2, -5) and (-2, -3, 4), where 5 is a helper. Here the helper is left out, the rules come in another order, (-1, 2) is typed
-- twice, and (-1, 2, 4), which follows from it, is added.
unfoldable pub p_retyped : List ℕ
p_retyped =
    0x48 ∷ 0x44 ∷ 0x04 ∷ 0x04 ∷ 0x04 ∷ 0x43 ∷ 0x53 ∷ 0x01 ∷ 0x00 ∷ 0x05 ∷ 0x00 ∷ 0x09 ∷
    0x43 ∷ 0x53 ∷ 0x02 ∷ 0x00 ∷ 0x02 ∷ 0x00 ∷ 0x03 ∷ 0x43 ∷ 0x53 ∷ 0x03 ∷ 0x00 ∷ 0x04 ∷ 0x00 ∷ 0x01 ∷
    0x43 ∷ 0x53 ∷ 0x04 ∷ 0x00 ∷ 0x07 ∷ 0x00 ∷ 0x06 ∷ 0x52 ∷ 0x4C ∷ 0x03 ∷ 0xFE ∷ 0xFD ∷ 0x04 ∷
    0x52 ∷ 0x4C ∷ 0x02 ∷ 0xFF ∷ 0x02 ∷ 0x52 ∷ 0x4C ∷ 0x03 ∷ 0xFF ∷ 0x02 ∷ 0x04 ∷ 0x52 ∷ 0x4C ∷ 0x02 ∷ 0xFF ∷ 0x02 ∷
    0x46 ∷ 0x41 ∷ 0x01 ∷ 0x46 ∷ 0x41 ∷ 0x03 ∷ 0x45 ∷ 0x4E ∷ []

-- A book with the costs and facts of P, so many variables and these rules.
abbrev like_p : ℕ → ℕ → List (List Literal) → OrderBook
like_p variables count rules =
    record {
      header = record { variables = variables; choices = 4; rules = count };
      costs = record { of_yes = 5; of_no = 9 } ∷ record { of_yes = 2; of_no = 3 } ∷ record { of_yes = 4; of_no = 1 } ∷ record { of_yes = 7; of_no = 6 } ∷ [];
      rules = map always rules;
      facts = pos 1 ∷ pos 3 ∷ [];
    }

abbrev book_p : OrderBook
book_p = like_p 5 3 ((negsuc 0 ∷ pos 5 ∷ []) ∷ (pos 2 ∷ negsuc 4 ∷ []) ∷ (negsuc 1 ∷ negsuc 2 ∷ pos 4 ∷ []) ∷ [])

abbrev book_retyped : OrderBook
book_retyped =
    like_p 4 4 ((negsuc 1 ∷ negsuc 2 ∷ pos 4 ∷ []) ∷ (negsuc 0 ∷ pos 2 ∷ []) ∷ (negsuc 0 ∷ pos 2 ∷ pos 4 ∷ []) ∷ (negsuc 0 ∷ pos 2 ∷ []) ∷ [])

-- Their fillings of the choices, computed.
fillings_computed : fillings_agree (theory_of (problem_of noon book_p)) (theory_of (problem_of noon book_retyped)) ≡ true
unfolding read_and_posed fillings_agree fillings_within
fillings_computed = refl

pub p_same_screens : Retyped noon order_c p_retyped
unfolding read_and_posed order_c p_retyped
p_same_screens =
    record {
      possible = refl;
      books = record {
        book = book_p;
        end = 57;
        accepted = refl;
        other = book_retyped;
        other_end = 63;
        other_accepted = refl;
        same = record { same_choices = refl; same_costs = refl; same_facts = refl; same_fillings = fillings_agree_lem fillings_computed };
      };
    }

-- What C sees of the starred orders, computed: the number that each call but the readers returns of a to j, with a buffer long enough for the log. Order j
-- is refused with 6 at 12.
use Rattle.std.specs.Prelude.{◌≡◌, refl, List, [], ◌∷◌, map, ℕ, ◌+◌, ◌*◌}
use Rattle.engine.specs.Orders.{OrderRow, orders}
use Rattle.c_interface.specs.Seen.{code, returned, seen_model, seen_consequence, seen_log}

abbrev numbers : OrderRow → List ℕ
numbers r = returned (seen_model r.model) ∷ returned (seen_consequence r.consequence) ∷ returned (seen_log r.answer) ∷ []

abbrev thrice : ℕ → List ℕ
thrice n = n ∷ n ∷ n ∷ []

-- That these are the answers to the orders is `orders_agree` (engine/specs/Orders).
pub numbers_agree : map numbers orders ≡ map thrice (1 ∷ 0 ∷ 0 ∷ 0 ∷ 9 ∷ 9 ∷ 0 ∷ 0 ∷ 0 ∷ (6 + 256 * 12) ∷ [])
unfolding orders returned code
numbers_agree = refl

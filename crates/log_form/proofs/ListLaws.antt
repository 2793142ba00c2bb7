-- Writing a list of literals, member by member.
-- Assumes nothing.
use mathlib.Core.Path.{◌≡◌, refl, sym, ap, ap₂, ◌∙◌}
use mathlib.Core.List.{List, [], ◌∷◌, ◌++◌, map, map-map, map-append, append_assoc, append-nil}
use Prim.Native.Nat.{ℕ, suc, ◌+◌, ◌≤◌, ◌<◌}
use native.Mathlib.Omega.{arith}
use lib.ListN.{length, length-append, length-map}
use Rattle.sets.specs.Sets.{has, union, count, members, remove, Lowest}
use Rattle.sets.specs.Laws.Members.{members_zero, members_below_lem, members_next}
use Rattle.literals.specs.Literal.{byte_of, literals_of, literal_of}
use Rattle.log_form.specs.Format.{list_bytes}
use Rattle.log_form.specs.Laws.Lists.{list_length_is, members_count}
use Rattle.log_form.specs.Promises.{member_byte, Put}
use Rattle.log_form.proofs.StoreLaws.{put_append, put_none, put_length}

-- the bytes of a list are the number and a byte for each member
pub list_bytes_lem : (on off : ℕ) → list_bytes (literals_of on off) ≡ count (union on off) ∷ map (member_byte on) (members (union on off))
unfolding list_bytes literals_of
list_bytes_lem on off =
    ap₂ (λ (n : ℕ) (l : List ℕ). n ∷ l) (list_length_is on off) (map-map byte_of (λ v. literal_of v (has on v)) (members (union on off)))

pub list_length : (on off : ℕ) → length (list_bytes (literals_of on off)) ≡ suc (count (union on off))
unfolding list_bytes
list_length on off = ap suc (length-map (literals_of on off) byte_of ∙ list_length_is on off)

none_left : members 0 ≡ []
none_left = sym (members_below_lem 0 0 (omega arith)) ∙ members_zero 0

module _ (out₀ : List ℕ) (start : ℕ) (f : ℕ → ℕ) (all : ℕ) where
  -- after some members: their bytes are stored
  pub record Listing (out : List ℕ) (rest i : ℕ) : Type 0 where
    pub done : List ℕ
    pub split : members all ≡ done ++ members rest
    pub put : Put out₀ start (map f done) out i

  pub listing_none : Listing out₀ all start
  listing_none = record { done = []; split = refl; put = put_none out₀ start }

  module _ {out : List ℕ} {rest i : ℕ} (w : Listing out rest i) {v : ℕ} (least : Lowest rest v) where
    next : members all ≡ w.done ++ (v ∷ members (remove rest v))
    next = w.split ∙ ap (λ l. w.done ++ l) (members_next rest v least.least)

    -- there is room for one more
    pub listing_room : start + length (members all) ≤ length out₀ → i < length out
    listing_room h =
        omega (arith, put_length _ w.put, w.put.place, length-map w.done f, ap length next, length-append w.done (v ∷ members (remove rest v)))

    pub listing_more : {x next left : ℕ} {more : List ℕ} → x ≡ f v → Put out i (x ∷ []) more next → left ≡ remove rest v → Listing more left next
    listing_more e p r = rw r (record {
      done = w.done ++ (v ∷ []);
      split = next ∙ sym (append_assoc w.done (v ∷ []) (members (remove rest v)));
      put = rw (map-append f w.done (v ∷ [])) (put_append (map f w.done) (f v ∷ []) w.put (rw e at p));
    })

  pub listing_all : {out : List ℕ} {rest i : ℕ} → Listing out rest i → rest ≡ 0 → Put out₀ start (map f (members all)) out i
  listing_all w e =
      let same : members all ≡ w.done = w.split ∙ rw (e, none_left) (append-nil w.done) in
      rw same w.put

-- the number first, and then the members
pub listed : {a b out : List ℕ} {at k i : ℕ} (on off : ℕ) → Put a at (count (union on off) ∷ []) b k
    → Put b k (map (member_byte on) (members (union on off))) out i
    → Put a at (list_bytes (literals_of on off)) out i
listed on off p q = rw (list_bytes_lem on off) (put_append (count (union on off) ∷ []) (map (member_byte on) (members (union on off))) p q)

module _ (a : List ℕ) (at on off : ℕ) (room : at + length (list_bytes (literals_of on off)) ≤ length a) where
  pub number_room : at < length a
  number_room = omega (arith, list_length on off)

  pub members_room : {b : List ℕ} {x k : ℕ} → Put a at (x ∷ []) b k → k + length (members (union on off)) ≤ length b
  members_room {x = x} p = omega (arith, list_length on off, members_count (union on off), p.place, put_length (x ∷ []) p)

pub ruleset listing_laws = (listing_none, listing_room, listing_more, listing_all, listed, number_room, members_room, put_length)

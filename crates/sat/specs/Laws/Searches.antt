-- The steps of `follow`, `force`, `try_variable` and `search`: a law for each. Assumes nothing.
use Rattle.std.specs.Prelude.{◌≡◌, ◌≢◌, Bool, true, false, List, ℕ, ◌+◌, ◌*◌, ◌≤◌, ◌<◌, Option, Some, None, Result, Ok, Err}
use Rattle.std.proofs.Common.{sym, ap, subst, ◌∙◌, inl, arith}
use Rattle.std.proofs.Math.Logic.{by_cases}
use Rattle.std.proofs.Math.Decide.{ℕ_discrete, dec_lt}
use Rattle.sets.specs.Sets.{bit, has, union, inter, diff, remove, compl, Within, Lowest}
use Rattle.sets.specs.Laws.Bits.{bit_le, bit_union, bit_inter, bit_compl, bit_compl_high, union_lt, inter_lt, compl_lt, remove_lt, member_lt}
use Rattle.sets.specs.Laws.Subset.{within_refl, in_union}
use Rattle.literals.specs.declared.LiteralSet.{LiteralSet}
use Rattle.propagation.specs.Promises.{Assigned, Forces, Chosen, PassedAll, Acting, Placed, Hands, HandedUp, Resolvent}
use Rattle.propagation.specs.Laws.Assigns.{digit_has, assigned_other}
use Rattle.propagation.specs.Laws.Places.{placed_acts, failed_acts, left_some, lowest_forced, none_left, some_left}
use Rattle.propagation.specs.Laws.Resolution.{resolved_obeyed, resolved_conflicts}
use Rattle.propagation.specs.declared.pass.Pass.{Pass}
use Rattle.sat.specs.Meaning.{Model, NoModel}
use Rattle.sat.specs.Promises.{Posed, Unset, unset, Implied, Following, Forcing, Trying, Ends, Followed, PartialOf, Completes, Keeps, Searched}
use Rattle.sat.specs.Laws.Assigns.{model_assigned, assigned_model, posed_assigned, unset_less}
use Rattle.sat.specs.Laws.Implied.{listed_implied, conflict_none, forced_value, met_model}

-- ---- `complete`

-- what is not in s avoids what is
compl_clear : (n s v : ℕ) → bit (compl n s) v + bit s v ≤ 1
compl_clear n s v =
    by_cases (dec_lt v n) (λ h. omega (arith, bit_compl n s v h, bit_le s v)) (λ h. omega (arith, bit_compl_high n s v (omega arith), bit_le s v))

pub completes : {n on off s c i f : ℕ} (prefer : ℕ) → PartialOf n on off → s ≡ union on off → c ≡ compl n s → i ≡ inter c prefer → f ≡ union on i
    → Completes n on off f
completes {n} {on} {off} {s} {c} {i} {f} prefer p d e g h =
    rw h (record {
      below = union_lt n on i p.on_below (rw (g, e) (inter_lt n (compl n s) prefer (compl_lt n s)));
      keeps = in_union on i;
      avoids = record { avoids = λ v. omega (arith, bit_union on i v, p.apart.avoids v, free v) };
    })
  where
    free : (v : ℕ) → bit off v + bit i v ≤ 1
    free v =
        omega (
          arith,
          ap (λ (x : ℕ). bit x v) g,
          bit_inter c prefer v,
          ap (λ (x : ℕ). bit x v) e,
          compl_clear n s v,
          ap (λ (x : ℕ). bit x v) d,
          bit_union on off v,
        )

pub posed_partial : {n : ℕ} {ys ns : List ℕ} {on off base : ℕ} → Following n ys ns on off base → PartialOf n on off
posed_partial f = record { small = f.posed.small; on_below = f.posed.on_below; apart = f.posed.apart }

-- ---- `follow`

module _ {n : ℕ} {ys ns : List ℕ} {on off base : ℕ} {p : Pass} where
  -- a rule is a conflict
  pub follow_conflict : {rule : LiteralSet} → Following n ys ns on off base → PassedAll ys ns on off p → p ≡ Pass.Conflict rule
      → Followed n ys ns on off base (Err rule)
  follow_conflict f s e =
      let t = (subst (PassedAll ys ns on off) e s).said in
      record { ends = (listed_implied f.posed t.0, record { place = inl t.1 }) }

  -- a rule forces a variable
  pub follow_unit : {rule : LiteralSet} {next : ℕ} → Following n ys ns on off base → PassedAll ys ns on off p → p ≡ Pass.Unit rule next
      → Forcing n ys ns on off base rule.yes rule.no
  follow_unit f s e =
      let t = (subst (PassedAll ys ns on off) e s).said in
      record { following = f; implied = listed_implied f.posed t.0; unit = t.1 }

  -- each rule has a true literal
  pub follow_model : {x m : ℕ} → Following n ys ns on off base → PassedAll ys ns on off p → p ≡ Pass.Quiet x → x ≡ 0
      → Completes n on off m → Followed n ys ns on off base (Ok m)
  follow_model {x} {m} f s e z c =
      let t = (subst (PassedAll ys ns on off) e s).said in
      record { ends = met_model (t.none_met z) c }

  -- a variable is to be tried
  pub follow_trying : {x : ℕ} → Following n ys ns on off base → PassedAll ys ns on off p → p ≡ Pass.Quiet x → x ≢ 0
      → Trying n ys ns on off base x
  follow_trying f s e z =
      let t = (subst (PassedAll ys ns on off) e s).said in
      record { following = f; to_try = record { opened = t.opened; some = omega arith } }

-- ---- a variable set, and unset again where the branch failed: `force` and `try_variable`

-- a model of the branch is one without the variable set
pub branch_model : {n : ℕ} {ys ns : List ℕ} {on off v c d s base g : ℕ} {value : Bool} {r : Result ℕ LiteralSet} → Assigned on off v value c d → Followed n ys ns c d s r
    → r ≡ Ok g → Followed n ys ns on off base (Ok g)
branch_model {n} {ys} {ns} {on} {off} {v} {c} {d} {s} a z q = record { ends = (assigned_model a (subst (Followed n ys ns c d s) q z).ends).0 }

module _ {n : ℕ} {ys ns : List ℕ} {on off v c d s : ℕ} {value : Bool} (p : Posed n ys ns on off) (u : Unset n on off v) (a : Assigned on off v value c d)
    (w : Within s (union on off)) where
  -- what was set stays set
  set_following : Following n ys ns c d s
  set_following =
      record {
        posed = posed_assigned p u a;
        base_set = record {
          keeps = λ b.
              by_cases (ℕ_discrete b v)
              (λ e. rw e (omega (arith, w.keeps v, bit_union on off v, u.not_on, u.not_off)))
              (λ e. omega (arith, w.keeps b, bit_union on off b, bit_union c d b, (assigned_other a b e).0, (assigned_other a b e).1));
        };
      }

  module _ {r : Result ℕ LiteralSet} {rule : LiteralSet} (z : Followed n ys ns c d s r) (q : r ≡ Err rule) where
    failed : Ends n ys ns c d s (Err rule)
    failed = (subst (Followed n ys ns c d s) q z).ends

    -- the rule of the branch, handed up or not
    handed : {base : ℕ} {h b : Bool} → HandedUp base rule.yes rule.no on off h → h ≡ b → Hands base rule.yes rule.no on off b
    handed {base} k i =
        (subst (HandedUp base rule.yes rule.no on off) i k).said (failed_acts u.not_on u.not_off a w failed.1)

    handed_followed : {base : ℕ} {h : Bool} → HandedUp base rule.yes rule.no on off h → h ≡ true → Followed n ys ns on off base (Err rule)
    handed_followed k i = record { ends = (failed.0, handed k i) }

-- ---- `force`

-- the forced variable is one of the n
forced_unset : {n : ℕ} {ys ns : List ℕ} {y m on off v : ℕ} → Implied n ys ns y m → Forces y m on off v → Unset n on off v
forced_unset {n} {ys} {ns} {y} {m} {on} {off} {v} i t =
    record {
      below = by_cases (ℕ_discrete (bit y v) 1) (λ e. member_lt n y v e i.yes_below) (λ e. member_lt n m v (omega (arith, t.one_sign)) i.no_below);
      not_on = t.not_on;
      not_off = t.not_off;
    }

module _ {n : ℕ} {ys ns : List ℕ} {on off base y m : ℕ} where
  pub force_some : {l : ℕ} → Forcing n ys ns on off base y m → l ≡ diff (union y m) (union on off) → 0 < l
  force_some f d = left_some d f.unit

  pub force_lowest : {l v : ℕ} → Forcing n ys ns on off base y m → l ≡ diff (union y m) (union on off) → Lowest l v → Forces y m on off v
  force_lowest f d o = lowest_forced d f.unit o

  module _ {v c d : ℕ} {value : Bool} (f : Forcing n ys ns on off base y m) (t : Forces y m on off v) (s : Assigned on off v value c d) where
    pub force_following : Following n ys ns c d base
    force_following = set_following f.following.posed (forced_unset f.implied t) s f.following.base_set

    pub force_less : {k : ℕ} → 3 * unset n on off ≡ k → 3 * unset n c d + 2 < k
    force_less q = omega (arith, unset_less {a = c} {b = d} f.following.posed (forced_unset f.implied t) s)

    module _ {r : Result ℕ LiteralSet} {rule : LiteralSet} {h : Bool} (z : Followed n ys ns c d base r) (q : r ≡ Err rule)
        (k : HandedUp base rule.yes rule.no on off h) where
      -- a rule that is handed up
      pub force_handed : h ≡ true → Followed n ys ns on off base (Err rule)
      force_handed i = handed_followed f.following.posed (forced_unset f.implied t) s f.following.base_set z q k i

      -- a rule, resolved with the one that forced the variable
      pub force_resolved : {got : LiteralSet} → value ≡ has y v → h ≡ false → Resolvent v rule.yes rule.no y m got.yes got.no
          → Followed n ys ns on off base (Err got)
      force_resolved {got} e i o =
          rw (o.yes_said, o.no_said) (record {
            ends = (
              it,
              record { place = inl (resolved_conflicts base rule.yes rule.no y m on off v c d t s e f.following.base_set last.1 stays) },
            );
          })
        where
          last : Ends n ys ns c d base (Err rule)
          last = failed f.following.posed (forced_unset f.implied t) s f.following.base_set z q

          stays : Placed base rule.yes rule.no on off → ⊥
          stays = (handed f.following.posed (forced_unset f.implied t) s f.following.base_set z q k i).1

          it : Implied n ys ns (remove (union rule.yes y) v) (remove (union rule.no m) v)
          it = record {
            yes_below = remove_lt n _ v (union_lt n rule.yes y last.0.yes_below f.implied.yes_below);
            no_below = remove_lt n _ v (union_lt n rule.no m last.0.no_below f.implied.no_below);
            obeyed = λ g l.
                resolved_obeyed base rule.yes rule.no y m on off v c d t s e f.following.base_set last.1 stays g (last.0.obeyed g l)
                (f.implied.obeyed g l);
          }

-- ---- `try_variable`

module _ {n : ℕ} {ys ns : List ℕ} {on off base x : ℕ} where
  pub try_unset : {v : ℕ} → Trying n ys ns on off base x → Chosen ys ns on off v → Unset n on off v
  try_unset {v} f c =
      let p = f.following.posed in
      record {
        below = member_lt n c.among v c.member (c.opened.below n p.yes_masks p.no_masks);
        not_on = omega (arith, c.member, c.opened.not_set.avoids v, bit_union on off v);
        not_off = omega (arith, c.member, c.opened.not_set.avoids v, bit_union on off v);
      }

  module _ {v c d s : ℕ} {value : Bool} (f : Trying n ys ns on off base x) (u : Unset n on off v) (a : Assigned on off v value c d)
      (e : s ≡ union on off) where
    all_set : Within s (union on off)
    all_set = rw e (within_refl (union on off))

    pub try_following : Following n ys ns c d s
    try_following = set_following f.following.posed u a all_set

    pub try_less : {k : ℕ} → 3 * unset n on off + 1 ≡ k → 3 * unset n c d + 2 < k
    try_less q = omega (arith, unset_less {a = c} {b = d} f.following.posed u a)

    module _ {r : Result ℕ LiteralSet} {rule : LiteralSet} {h : Bool} (z : Followed n ys ns c d s r) (q : r ≡ Err rule)
        (k : HandedUp base rule.yes rule.no on off h) where
      -- a rule that is handed up, or acted on here
      pub try_handed : h ≡ true → Followed n ys ns on off base (Err rule)
      try_handed i = handed_followed f.following.posed u a all_set z q k i

      pub try_forcing : h ≡ false → Forcing n ys ns on off base rule.yes rule.no
      try_forcing i =
          record {
            following = f.following;
            implied = (failed f.following.posed u a all_set z q).0;
            unit = (handed f.following.posed u a all_set z q k i).0;
          }

-- the steps of the three functions that call each other
pub ruleset follow_laws = (posed_partial, follow_conflict, follow_unit, follow_model, follow_trying)

pub ruleset force_laws = (force_some, force_lowest, force_following, force_less, branch_model, force_handed, force_resolved)

pub ruleset try_laws = (try_unset, try_following, try_less, branch_model, try_handed, try_forcing)

-- ---- `search`

module _ {n : ℕ} {ys ns : List ℕ} {on off : ℕ} where
  pub search_start : Posed n ys ns on off → Keeps n ys ns on off on off
  search_start p = record { posed = p; forth = λ f m. m; back = λ f m. m }

  module _ {a b base : ℕ} where
    pub search_following : Keeps n ys ns on off a b → base ≡ union a b → Following n ys ns a b base
    search_following k e = record { posed = k.posed; base_set = rw e (within_refl (union a b)) }

    module _ {r : Result ℕ LiteralSet} (k : Keeps n ys ns on off a b) (z : Followed n ys ns a b base r) where
      -- a model
      pub search_model : {f : ℕ} → r ≡ Ok f → Searched n ys ns on off (Some f)
      search_model {f} q = record { found = k.back f (subst (Followed n ys ns a b base) q z).ends }

      module _ {rule : LiteralSet} {l : ℕ} (q : r ≡ Err rule) (d : l ≡ diff (union rule.yes rule.no) (union a b)) where
        implied : Implied n ys ns rule.yes rule.no
        implied = (subst (Followed n ys ns a b base) q z).ends.0

        acting_here : Acting rule.yes rule.no a b
        acting_here = placed_acts (subst (Followed n ys ns a b base) q z).ends.1

        -- a conflict
        pub search_none : l ≡ 0 → Searched n ys ns on off None
        search_none e = record { found = record { none = λ f m. conflict_none implied (k.forth f m) (none_left d acting_here e) } }

        -- one more variable
        module _ {v c g : ℕ} {value : Bool} (e : l ≢ 0) (o : Lowest l v) (h : value ≡ has rule.yes v) (s : Assigned a b v value c g) where
          forces_here : Forces rule.yes rule.no a b v
          forces_here = lowest_forced d (some_left d acting_here e) o

          pub search_forced : Keeps n ys ns on off c g
          search_forced =
              record {
                posed = posed_assigned k.posed (forced_unset implied forces_here) s;
                forth = λ f m.
                    let i = k.forth f m in
                    model_assigned s i (forced_value implied i v forces_here ∙ sym (digit_has rule.yes v value h));
                back = λ f m. k.back f (assigned_model s m).0;
              }

          pub search_less : unset n c g < unset n a b
          search_less =
              omega (arith, unset_less {a = c} {b = g} k.posed (forced_unset implied forces_here) s)

pub ruleset search_laws = (search_start, search_following, search_model, search_none, search_forced, search_less)

-- ---- what a caller reads of the answer

module _ {n : ℕ} {ys ns : List ℕ} {on off : ℕ} {r : Option ℕ} where
  pub searched_model : {m : ℕ} → Searched n ys ns on off r → r ≡ Some m → Model n ys ns on off m
  searched_model s e = (subst (Searched n ys ns on off) e s).found

  pub searched_none : Searched n ys ns on off r → r ≡ None → NoModel n ys ns on off
  searched_none s e = (subst (Searched n ys ns on off) e s).found

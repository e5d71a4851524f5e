-- Where no rule that is asked fires, none of those does that move trees over views on.
use Rattle.std.proofs.Common.{◌≡◌, refl, sym, ap, ◌∙◌, subst, ℕ, zero, suc, ◌+◌, true, false, List, [], ◌∷◌, Option, Some, None, is_some}
use Rattle.ess_semantics.specs.Names.{Names}
use Rattle.ess_semantics.specs.Trees.{Ex}
use Rattle.ess_semantics.specs.Types.{Ty}
use Rattle.ess_refine_laws.specs.AllRules.{Rule, not_equal, turned, strictly, equal_sets, included_sets, in_a_term, size, over_a_source, Supply, rewrite}
use Rattle.ess_kind_rules_laws.specs.KindRules.{cell_of_an_atom}
use Rattle.ess_open_rules_laws.specs.OpenRules.{over_one_source, fold_of_folds, KindRuling, of_kind, of_opening, kind_ruled}
use Rattle.ess_refine.specs.ess_rules.Ruled.{Ruling, plainly, by_kind, MayRule, ruled, root_of, supply_at, rules_asked, NoneOf, NoneFires}
use Rattle.ess_seen_progress_laws.specs.MovesOn as moving
use Rattle.ess_seen_progress_laws.specs.MovesOn.{moves_on, moves_on_by_kind, MovesOn}
use Rattle.ess_seen_settled_laws.proofs.Roots.{StaysItself}

-- The rule at a place of a list, from 0.
abbrev pub asked_at : ℕ → List Ruling → Option Ruling
asked_at k [] = None
asked_at zero (r ∷ rs) = Some r
asked_at (suc k) (r ∷ rs) = asked_at k rs

-- It makes nothing of the root, where none of them does.
none-at : (f : Ruling → Ex → Option Ex) (g : Names Ty) (a : Ex) (r : Ruling) (k : ℕ) (rs : List Ruling) → asked_at k rs ≡ Some r →
    NoneOf f g rs a → MayRule g r a → f r a ≡ None
none-at f g a r zero (x ∷ rs) q h m = let e : x ≡ r = cc in subst (λ z. f z a ≡ None) e (h.0 (subst (λ z. MayRule g z a) (sym e) m))
none-at f g a r (suc k) (x ∷ rs) q h m = none-at f g a r k rs q h.1 m
none-at f g a r k [] q h m = cc

-- Something isn't nothing.
nothing-there : (o p : Option Ex) → o ≡ None → p ≡ o → is_some p ≡ true → ⊥
nothing-there o p q e h = let r : is_some p ≡ false = ap is_some (e ∙ q) in no (sym h ∙ r)
  where
    no : true ≡ false → ⊥
    no h = cc

module _ (n : ℕ) (g : Names Ty) (a : Ex) (stays : StaysItself a) (none : NoneFires n g a) where
  -- What the rules take.
  abbrev taken : Supply
  taken = supply_at n none.count

  -- A rule that is asked at this place, and used at the root as it stands, doesn't fire.
  quiet : (r : Ruling) (k : ℕ) → asked_at k rules_asked ≡ Some r → MayRule g r a → root_of (n + 3 + none.count) r a ≡ a →
      is_some (ruled taken g r a) ≡ true → ⊥
  quiet r k q m e h =
      nothing-there (ruled taken g r (root_of (n + 3 + none.count) r a)) (ruled taken g r a)
      (none-at (λ r e. ruled taken g r (root_of (n + 3 + none.count) r e)) g a r k rules_asked q none.none m)
      (ap (ruled taken g r) (sym e)) h

  -- Those that read no kind.
  plainly-quiet : (u : Rule) → moves_on u ≡ true → is_some (rewrite taken g u a) ≡ true → ⊥
  plainly-quiet not_equal m h = quiet (plainly not_equal) 48 refl tt refl h
  plainly-quiet turned m h = quiet (plainly turned) 49 refl tt refl h
  plainly-quiet strictly m h = quiet (plainly strictly) 50 refl tt refl h
  plainly-quiet equal_sets m h = quiet (plainly equal_sets) 53 refl tt refl h
  plainly-quiet included_sets m h = quiet (plainly included_sets) 59 refl tt refl h
  plainly-quiet in_a_term m h = quiet (plainly in_a_term) 68 refl tt refl h
  plainly-quiet size m h = quiet (plainly size) 70 refl tt refl h
  plainly-quiet over_a_source m h = quiet (plainly over_a_source) 42 refl tt (stays (n + 3 + none.count)) h
  plainly-quiet _ m h = cc

  -- Those of kinds and openings.
  by-kind-quiet : (u : KindRuling) → moves_on_by_kind u ≡ true → is_some (kind_ruled taken g u a) ≡ true → ⊥
  by-kind-quiet (of_kind cell_of_an_atom) m h = quiet (by_kind (of_kind cell_of_an_atom)) 2 refl tt refl h
  by-kind-quiet (of_opening over_one_source) m h = quiet (by_kind (of_opening over_one_source)) 37 refl tt (stays (n + 3 + none.count)) h
  by-kind-quiet (of_opening fold_of_folds) m h = quiet (by_kind (of_opening fold_of_folds)) 44 refl tt refl h
  by-kind-quiet (of_kind _) m h = cc
  by-kind-quiet (of_opening _) m h = cc

  -- So none of them moves the tree on.
  pub all-quiet : MovesOn g a → ⊥
  all-quiet (moving.plainly u m f) = plainly-quiet u m (f taken)
  all-quiet (moving.by_kind u m f) = by-kind-quiet u m (f taken)

-- Where no rule fires at any part of a tree of a membership, nothing abstract is left in it: a rule fires at what is asked, and one at a
-- fold over the set.
use Rattle.std.proofs.Common.{◌≡◌, refl, sym, ◌∙◌, true≢false, ℕ, true, [], None}
use Rattle.ess_semantics.specs.Values.{Text}
use Rattle.ess_semantics.specs.Names.{Names}
use Rattle.ess_semantics.specs.Trees.{Ex, Dom}
use Rattle.ess_semantics.specs.Types.{Ty}
use Rattle.ess_semantics.specs.Refined.{is_refined}
use Rattle.ess_semantics.specs.Contexts.{hole}
use Rattle.ess_open_rules_laws.specs.OpenRules.{over_one_source, of_opening}
use Rattle.ess_seen_progress_laws.specs.MovesOn.{MovesOn, by_kind}
use Rattle.ess_seen_progress_laws.proofs.AtRoots.{member-moves}
use Rattle.ess_seen_settled_laws.proofs.Roots.{StaysItself}
use Rattle.ess_seen_settled_laws.proofs.Asked.{all-quiet}
use Rattle.ess_member_trees_laws.specs.Memberships.{Literal, Axis, view, over_set, Family, as_asked, the_cell, of_set, folded, listed}
use Rattle.ess_refine.specs.Settled as parts
use Rattle.ess_refine.specs.Refinements.{IsGivenUp}
use Rattle.ess_member_settled_laws.proofs.Folds.{cell-refined, fold-refined, alone-refined}

-- A rule fires at the root of what settles, so it doesn't.
at-the-root : {A : Type 0} (k : ℕ) (e : Ex) → StaysItself e → MovesOn [] e → parts.Settled k [] e → A
at-the-root k e t m s = absurd (all-quiet k [] e t (s hole e refl) m)

module _ (n : Text) (A : Dom) (L : Ex) where
  -- The fold over the set moves on: it becomes one over the domain.
  set-moves : (g : Names Ty) (x : Text) → MovesOn g (over_set n A L x)
  set-moves g x = by_kind (of_opening over_one_source) refl (λ u. refl)

  module _ (ax : Axis A) (l : Literal L) where
    -- A settled tree of the membership is refined.
    pub settled-refined : (k : ℕ) (e : Ex) → Family n A L e → parts.Settled k [] e → is_refined e ≡ true
    settled-refined k e as_asked s = at-the-root k e (λ j. refl) (member-moves (λ t. None) [] L (view n A L)) s
    settled-refined k e the_cell s = cell-refined n A L l
    settled-refined k e (of_set {x = x}) s = at-the-root k e (λ j. refl) (set-moves [] x) s
    settled-refined k e (folded o) s = fold-refined n A L l ax o
    settled-refined k e (listed o) s = alone-refined n A L l ax o

    -- So refining isn't given up there.
    pub not-given-up : (k : ℕ) (last : Ex) → Family n A L last → IsGivenUp last k → ⊥
    not-given-up k last f w = true≢false (sym (settled-refined k last f w.settled) ∙ w.abstract_left)

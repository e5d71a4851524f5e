-- The law of settled trees of a membership, stated at a function that does nothing.
use Rattle.std.specs.Prelude.{◌≡◌, ℕ, true, []}
use Rattle.ess_semantics.specs.Values.{Text}
use Rattle.ess_semantics.specs.Trees.{Ex, Dom}
use Rattle.ess_semantics.specs.Refined.{is_refined}
use Rattle.ess_member_trees_laws.specs.Memberships.{Literal, Axis, Family}
use Rattle.ess_refine.specs.Settled.{Settled}
use Rattle.ess_refine.specs.Refinements.{IsGivenUp}

-- Where none of the rules that are asked fires at any part of a tree of a membership, around which no name is bound, nothing abstract is
-- left in it. So refining that leads to such a tree isn't given up.
pub record SettledMembershipsAreRefined : Type 0 where
  pub refined : (n : Text) (A : Dom) (L : Ex) → Axis A → Literal L → (k : ℕ) (e : Ex) → Family n A L e → Settled k [] e →
      is_refined e ≡ true
  pub not_given_up : (n : Text) (A : Dom) (L : Ex) → Axis A → Literal L → (k : ℕ) (last : Ex) → Family n A L last →
      IsGivenUp last k → ⊥

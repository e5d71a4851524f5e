-- The law of settled trees over views, stated at a function that does nothing.
use Rattle.std.specs.Prelude.{◌≡◌, ℕ, Bool, true, List, [], Option}
use Rattle.ess_semantics.specs.Values.{Text}
use Rattle.ess_semantics.specs.Trees.{Ex}
use Rattle.ess_semantics.specs.Refined.{is_refined}
use Rattle.ess_seen_laws.specs.Seen.{Seen}
use Rattle.ess_refine.specs.Settled.{Settled}
use Rattle.ess_refine.specs.Refinements.{IsGivenUp}

-- Where none of the rules that are asked fires at any part of a tree over views, around which no name is bound, nothing abstract is left in
-- it. So refining that leads to such a tree isn't given up.
pub record SettledTreesAreRefined : Type 0 where
  pub refined : (cells : Text → Option (Bool × List ℕ)) (n : ℕ) (e : Ex) (m : Bool) → Seen cells [] e m → Settled n [] e →
      is_refined e ≡ true
  pub not_given_up : (cells : Text → Option (Bool × List ℕ)) (k : ℕ) (last : Ex) (m : Bool) → Seen cells [] last m →
      IsGivenUp last k → ⊥

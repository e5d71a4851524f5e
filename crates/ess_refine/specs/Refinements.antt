-- What came of refining a tree.
use Rattle.std.specs.Prelude.{◌≡◌, true, false, ℕ, []}
use Rattle.ess_semantics.specs.Trees.{Ex}
use Rattle.ess_semantics.specs.Refined.{is_refined}
use Rattle.ess_rules.specs.Ruled.{IsRuled}
use Rattle.ess_refine.specs.Chains.{Leads}
use Rattle.ess_refine.specs.Settled.{Settled}
use Rattle.ess_refine.specs.declared.refining.Refinement.{Refinement}

-- Why refining was given up, where rules led to this tree, with reserved names before the m-th: something abstract is left, and none of the
-- rules that are asked fires at any part.
pub record IsGivenUp (last : Ex) (m : ℕ) : Type 0 where
  pub abstract_left : is_refined last ≡ false
  pub settled : Settled m [] last

-- What is said of the tree where rules have led.
abbrev pub Says : Ex → ℕ → Refinement → Type 0
Says last m Refinement.Refined = is_refined last ≡ true
Says last m Refinement.Stuck = IsGivenUp last m

-- Rules led from `old` to `new`, and none fires there any more.
pub record IsEnded (n : ℕ) (old new : Ex) (m : ℕ) : Type 0 where
  pub leads : Leads IsRuled n [] old new m
  pub settled : Settled m [] new

-- No conditions are gathered at a bare tree.
use Rattle.std.proofs.Common.{◌≡◌, refl, ℕ, Bool, Option, None}
use Rattle.ess_semantics.specs.Values.{Text}
use Rattle.ess_semantics.specs.Names.{Names}
use Rattle.ess_semantics.specs.Trees.{Ex}
use Rattle.ess_gathered_laws.specs.GatheredConditions.{conditions_gathered}
use Rattle.ess_flat_laws.specs.Flat.{denied, both}
use Rattle.ess_bare_laws.specs.Bare.{before, all_hold, Bare, truth, one, two, chosen, folded, ordered}

module _ (cells : Text → Option (Bool × ℕ)) (r : Names Bool) where
  -- The rule doesn't fire at it.
  pub no-gathering : {e : Ex} {m : Bool} → Bare cells r e m → conditions_gathered e ≡ None
  no-gathering (one denied f) = refl
  no-gathering (two both f h) = refl
  no-gathering (chosen truth) = refl
  no-gathering (folded all_hold k f) = refl
  no-gathering (ordered before f h) = refl
  no-gathering f = refl

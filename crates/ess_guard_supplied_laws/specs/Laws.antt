-- What a judged term needs for its conditions to tell its value.
use Rattle.std.specs.Prelude.{◌≡◌, Some, is_some}
use Rattle.ess_semantics.specs.Values.{Text, truth}
use Rattle.ess_semantics.specs.Names.{Names}
use Rattle.ess_semantics.specs.Trees.{Ex}
use Rattle.ess_semantics.specs.Types.{Ty}
use Rattle.ess_semantics.specs.Meaning.{Env, meaning}
use Rattle.ess_guard_laws.specs.Guard.{has_value}
use Rattle.ess_guard_laws.specs.Supplied.{Supplied}
use Rattle.ess_refine_laws.specs.MarksStay.{HasMarks}
use Rattle.ess_guard_supplied_laws.specs.Present.{Present}
use Rattle.ess_guard_supplied_laws.specs.Applications.{ApplicationsAreTold}

-- Where what a tree with the right marks reads is there, it is supplied. So its conditions say whether it has a value.
pub record PresentIsSupplied : Type 0 where
  pub supplied : (e : Ex) (g : Names Ty) (env : Env) → HasMarks e g → ApplicationsAreTold e g → Present e env → Supplied e env
  pub tells : (x y : Text) (e : Ex) (g : Names Ty) (env : Env) → HasMarks e g → ApplicationsAreTold e g → Present e env →
      meaning (has_value x y e) env ≡ Some (truth (is_some (meaning e env)))

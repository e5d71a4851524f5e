-- Which judged trees are covered.
use Rattle.std.specs.Prelude.{◌≡◌, true}
use Rattle.ess_semantics.specs.Names.{Names}
use Rattle.ess_semantics.specs.Trees.{Ex}
use Rattle.ess_semantics.specs.Types.{Ty}
use Rattle.ess_semantics.specs.Scopes.{Scope, every}
use Rattle.ess_semantics.specs.Resolving.{IsResolved, resolve}
use Rattle.ess_types_laws.specs.SoundParts.{sound_parts}
use Rattle.ess_guard_laws.specs.Covered.{Covered}
use Rattle.ess_guard_types_laws.specs.HasTypes.{HasTypes}
use Rattle.ess_refine_laws.specs.MarksStay.{HasMarks}
use Rattle.ess_guard_covered_laws.specs.FormsTold.{FormsAreTold}

-- Where forms are told, a tree with the right marks is covered, so a resolved tree whose parts have types is, and so is a judged
-- expression once it is resolved. No less will do: the forms of a covered tree are told, where its parts have types.
pub record JudgedIsCovered : Type 0 where
  pub marked : (e : Ex) (g : Names Ty) → HasMarks e g → FormsAreTold e g → Covered e
  pub typed : (e : Ex) (g : Names Ty) → HasTypes e g → IsResolved e g → FormsAreTold e g → Covered e
  pub judged : (e : Ex) (s : Scope) → every sound_parts e s ≡ true → FormsAreTold (resolve e s.tys) s.tys → Covered (resolve e s.tys)
  pub needed : (e : Ex) (g : Names Ty) → HasTypes e g → Covered e → FormsAreTold e g

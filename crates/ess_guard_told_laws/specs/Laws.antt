-- Where guarded judged expressions are total but for tests.
use Rattle.std.specs.Prelude.{◌≡◌, true, false}
use Rattle.ess_semantics.specs.Values.{Text}
use Rattle.ess_semantics.specs.Names.{Names}
use Rattle.ess_semantics.specs.Trees.{Ex}
use Rattle.ess_semantics.specs.Types.{Ty}
use Rattle.ess_semantics.specs.Scopes.{Scope, every}
use Rattle.ess_semantics.specs.Resolving.{resolve}
use Rattle.ess_semantics.specs.Meaning.{Env}
use Rattle.ess_types_laws.specs.SoundParts.{sound_parts}
use Rattle.ess_guard_laws.specs.Guard.{has_value, make_total, make_natural}
use Rattle.ess_refine_laws.specs.MarksStay.{HasMarks}
use Rattle.ess_guard_tests_laws.specs.TotalButTests.{TotalButTests}
use Rattle.ess_guard_tests_laws.specs.FormsKnown.{FormsKnown}
use Rattle.ess_guard_places_laws.specs.TotalInPlaces.{TotalInPlaces}
use Rattle.ess_guard_told_laws.specs.TruthsTold.{is_told_truth, TruthsAreTold}

-- A tree with the right marks has known forms where truth values are told. So a judged expression, resolved and guarded, is total but for
-- tests in every env; with natural places so it is but for plain operators in these too; and so it is that a judged term has a value.
pub record JudgedGuardsAreTotal : Type 0 where
  pub marked : (e : Ex) (g : Names Ty) → HasMarks e g → TruthsAreTold e g → FormsKnown e
  pub boolean : (x y : Text) (e : Ex) (s : Scope) (env : Env) → every sound_parts e s ≡ true → TruthsAreTold (resolve e s.tys) s.tys →
      is_told_truth (resolve e s.tys) s.tys ≡ true → TotalButTests ⊥ (make_total x y (resolve e s.tys)) env
  pub natural : (x y : Text) (e : Ex) (s : Scope) (env : Env) → every sound_parts e s ≡ true → TruthsAreTold (resolve e s.tys) s.tys →
      is_told_truth (resolve e s.tys) s.tys ≡ true → TotalInPlaces false ⊥ (make_natural x y (resolve e s.tys)) env
  pub conditions : (x y : Text) (e : Ex) (s : Scope) (env : Env) → every sound_parts e s ≡ true → TruthsAreTold (resolve e s.tys) s.tys →
      TotalButTests ⊥ (has_value x y (resolve e s.tys)) env

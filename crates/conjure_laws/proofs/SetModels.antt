-- The model of a well typed specification of sets stands for it, and each solution has exactly one satisfying assignment.
use Rattle.std.proofs.Common.{◌≡◌, sym, subst, true, List}
use Rattle.ess_semantics.specs.Judgements.{is_well_typed}
use Rattle.ess_semantics.specs.ModelTrees.{header_of}
use Rattle.ess_semantics.specs.Models.{Models, IsExact}
use Rattle.conjure_laws.specs.ModelPremises.{Texts}
use Rattle.conjure_laws.specs.SetsOfAtoms.{Line, spec, none_declared}
use Rattle.conjure_laws.specs.ModelsOfSets.{no_options, model_of}
use Rattle.conjure_laws.proofs.Reduction.{models, exact}
use Rattle.conjure_laws.proofs.SetScopes.{Fine}
use Rattle.conjure_laws.proofs.SetRules.{layers, layers-rules}
use Rattle.conjure_laws.proofs.SetTexts.{texts}
use Rattle.conjure_laws.proofs.SmallSets.{domains-small}
use Rattle.conjure_laws.proofs.WellTypedSets.{well-typed-fine}

-- Where names are new and literals fit, the model with its header stands for the specification.
pub models-fine : (T : List Line) → Fine none_declared T → Models (spec T) no_options (header_of (spec T) no_options) (model_of T)
models-fine T ok =
    models (spec T) no_options (model_of T) (layers T ok) (header_of (spec T) no_options)
    (subst (Texts (spec T) no_options (header_of (spec T) no_options) (model_of T)) (sym (layers-rules T ok))
    (texts T ok (λ p q I u v. domains-small T ok p q I v)))

-- Under each parameter the satisfying assignments are exactly the canonical tables of solutions.
pub exact-fine : (T : List Line) → Fine none_declared T → IsExact (spec T) no_options (model_of T)
exact-fine T ok = exact (spec T) no_options (model_of T) (layers T ok)

-- The model of a well typed specification stands for it.
pub models-well-typed : (T : List Line) → is_well_typed (spec T) ≡ true →
    Models (spec T) no_options (header_of (spec T) no_options) (model_of T)
models-well-typed T e = models-fine T (well-typed-fine T e)

-- And each solution has exactly one satisfying assignment.
pub exact-well-typed : (T : List Line) → is_well_typed (spec T) ≡ true → IsExact (spec T) no_options (model_of T)
exact-well-typed T e = exact-fine T (well-typed-fine T e)

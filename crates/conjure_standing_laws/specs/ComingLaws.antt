-- The laws that a model is written: of a specification of scalars with flat and total constraints nothing is ever given up, and of one of
-- scalars and sets no part is; each stated at a function that does nothing.
use Rattle.std.specs.Prelude.{◌≡◌, true, List, Option, None}
use Rattle.ess_semantics.specs.Values.{Text}
use Rattle.ess_semantics.specs.Trees.{Stm}
use Rattle.ess_semantics.specs.Judgements.{fault}
use Rattle.ess_semantics.specs.Plans.{Options}
use Rattle.ess_grammar.specs.Readable.{ReadableStms}
use Rattle.ess_flat_models_laws.specs.FlatSpecifications.{is_flat_specification}
use Rattle.ess_mixed_models_laws.specs.MixedSpecifications.{is_mixed_specification}
use Rattle.conjure_modelling.specs.ess_models.declared.parts.Part.{Part}
use Rattle.conjure_modelling.specs.ess_models.Built.{NoneIsBuilt}
use Rattle.conjure_modelling.specs.declared.refusal.ModelNo.{ModelNo}
use Rattle.conjure_modelling.specs.Modelled.{IsLacking, IsUnmodelled}
use Rattle.conjure_standing_laws.specs.Standing.{IsFlatText}

-- Of a well typed specification of the class whose statements some text has, nothing lacks: each declaration is written, something comes of
-- the objective and of each rule, and some text has the model that is built.
abbrev pub FlatSpecificationsLackNothing : Type 0
FlatSpecificationsLackNothing =
    (S : List Stm) (o : Options) → ReadableStms S → fault S ≡ None → is_flat_specification S o ≡ true → IsLacking S o → ⊥

-- So "not supported yet" is never the answer on a text of a specification of scalars with flat and total constraints, with the
-- representations that the list names and else the defaults.
abbrev pub FlatTextsHaveModels : Type 0
FlatTextsHaveModels = (text : Text) (list : Option Text) → IsFlatText list text → IsUnmodelled text list ModelNo.NotYet → ⊥

-- Of a well typed specification of scalars and sets no part of the model lacks: each declaration is written, and something comes of what is
-- asked of the tables of each find, of the objective and of each constraint.
abbrev pub MixedPartsCome : Type 0
MixedPartsCome = (S : List Stm) (o : Options) → fault S ≡ None → is_mixed_specification S o ≡ true → (p : Part) → NoneIsBuilt S o p → ⊥

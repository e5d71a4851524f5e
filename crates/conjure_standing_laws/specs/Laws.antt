-- The laws of what is written for texts of specifications of scalars, of sets of atoms, and of scalars and sets, each stated at a
-- function that does nothing, so that its proof is checked with the code.
use Rattle.std.specs.Prelude.{Option}
use Rattle.ess_semantics.specs.Values.{Text}
use Rattle.conjure_modelling.specs.Modelled.{IsModelled}
use Rattle.conjure_standing_laws.specs.Standing.{StandsForListed, IsFlatText}
use Rattle.conjure_standing_laws.specs.MemberTexts.{IsMemberText}
use Rattle.conjure_standing_laws.specs.MixedTexts.{IsMixedText}

-- What is written for a text of a specification of scalars with flat and total constraints is a model with its header by the rules of
-- models, and stands for it, with the representations that the list names and else the defaults. Nothing else is assumed.
abbrev pub WrittenModelsOfScalarsStand : Type 0
WrittenModelsOfScalarsStand =
    (text : Text) (list : Option Text) (model : Text) → IsModelled text list model → IsFlatText list text → StandsForListed list text model

-- What is written for a text of a specification of sets of atoms with memberships is a model with its header by the rules of models, and
-- stands for it, where each set is kept by which members occur. Nothing else is assumed.
abbrev pub WrittenModelsOfSetsStand : Type 0
WrittenModelsOfSetsStand =
    (text : Text) (list : Option Text) (model : Text) → IsModelled text list model → IsMemberText list text →
    StandsForListed list text model

-- What is written for a text of a specification of scalars and sets, each constraint flat and total over the scalars, one over scalars,
-- ranges and nested sets, or a membership, is a model with its header by the rules of models, and stands for it, with the representations
-- that the list names and else the defaults. Nothing else is assumed.
abbrev pub WrittenMixedModelsStand : Type 0
WrittenMixedModelsStand =
    (text : Text) (list : Option Text) (model : Text) → IsModelled text list model → IsMixedText list text →
    StandsForListed list text model

-- Texts of specifications of scalars are texts of scalars and sets.
abbrev pub FlatTextsAreMixed : Type 0
FlatTextsAreMixed = (list : Option Text) (text : Text) → IsFlatText list text → IsMixedText list text

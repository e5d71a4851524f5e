-- No part of the model of a specification of scalars and sets lacks: its declarations are written, and something comes of each of its rules
-- and of its objective.
use Rattle.std.proofs.Common.{◌≡◌, true, List, None}
use Rattle.ess_semantics.specs.Trees.{Stm}
use Rattle.ess_semantics.specs.Prepared.{prepared}
use Rattle.ess_semantics.specs.Judgements.{fault}
use Rattle.ess_semantics.specs.Plans.{Options, finds_side, value_names, plans}
use Rattle.conjure_model_laws.specs.Shown.{shows_of}
use Rattle.conjure_model_laws.specs.IsBuiltFrom.{taken_names}
use Rattle.ess_mixed_models_laws.specs.MixedSpecifications.{is_mixed_specification}
use Rattle.conjure_modelling.specs.ess_models.declared.parts.Part.{Part}
use Rattle.conjure_modelling.specs.ess_models.Parts.{RulesLack}
use Rattle.conjure_standing_laws.specs.ComingLaws.{MixedPartsCome}
use Rattle.conjure_standing_laws.proofs.MixedScopes.{of-class, mixed-givens-come, mixed-finds-come, mixed-declares}
use Rattle.conjure_standing_laws.proofs.MixedRules.{no-rule-lacks}

module _ (S : List Stm) (o : Options) (f : fault S ≡ None) (w : is_mixed_specification S o ≡ true) where
  rules-come : (p : Part) → RulesLack (taken_names S o) (shows_of S o) (plans S o) (value_names finds_side S) (prepared S) p → ⊥
  rules-come p v =
      let r = of-class S o w in
      no-rule-lacks S o r.0 f r.1 r.2 v.givens v.finds (mixed-declares S o f w v.givens v.finds v.declared) p v.lacks

-- So no part lacks.
pub mixed-parts-come : MixedPartsCome
mixed-parts-come S o f w Part.Givens v = mixed-givens-come S o f w v
mixed-parts-come S o f w Part.Finds v = mixed-finds-come S o f w v
mixed-parts-come S o f w Part.Structures v = rules-come S o f w Part.Structures v
mixed-parts-come S o f w Part.Channels v = rules-come S o f w Part.Channels v
mixed-parts-come S o f w Part.Objective v = rules-come S o f w Part.Objective v
mixed-parts-come S o f w Part.Constraints v = rules-come S o f w Part.Constraints v

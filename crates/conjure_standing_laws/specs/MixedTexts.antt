-- Texts of specifications of scalars and sets side by side.
use Rattle.std.specs.Prelude.{◌≡◌, true, List, Option}
use Rattle.ess_semantics.specs.Values.{Text}
use Rattle.ess_semantics.specs.Trees.{Stm}
use Rattle.ess_semantics.specs.Plans.{Options, kept_names}
use Rattle.ess_grammar.specs.Texts.{ReadsSpecification}
use Rattle.ess_mixed_models_laws.specs.MixedSpecifications.{is_mixed_specification}
use Rattle.conjure_modelling.specs.Modelled.{AreOptionsOf}

-- The text is a specification of scalars and sets, with the options that the list names: each constraint is flat and total over the
-- scalars, one over scalars, ranges and nested sets, or a membership.
pub record IsMixedText (list : Option Text) (text : Text) : Type 0 where
  pub S : List Stm
  pub specification : ReadsSpecification text S
  pub mixed : (o : Options) → AreOptionsOf (kept_names S) list o → is_mixed_specification S o ≡ true

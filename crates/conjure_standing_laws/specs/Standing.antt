-- What it is that a text which is written stands for the text that it is written for; and texts of specifications of scalars.
use Rattle.std.specs.Prelude.{◌≡◌, true, List, Option}
use Rattle.ess_semantics.specs.Values.{Text}
use Rattle.ess_semantics.specs.Trees.{Stm}
use Rattle.ess_semantics.specs.Plans.{Options, kept_names}
use Rattle.ess_semantics.specs.ModelTrees.{Header, Model}
use Rattle.ess_semantics.specs.Models.{Models, IsExact}
use Rattle.ess_grammar.specs.Texts.{ReadsSpecification}
use Rattle.ess_grammar.specs.HeaderTexts.{ReadsModelWithHeader}
use Rattle.ess_flat_models_laws.specs.FlatSpecifications.{is_flat_specification}
use Rattle.conjure_modelling.specs.Modelled.{AreOptionsOf}

-- The text `text` is a specification S by the rules, the list names the options o for it (none where there is no list), the text `model` is
-- a model E with its header H by the rules, E with H stands for S with these options, and each solution has exactly one satisfying
-- assignment. Each text is at most one tree, so S, H and E are the only ones.
pub record StandsForListed (list : Option Text) (text model : Text) : Type 0 where
  pub S : List Stm
  pub o : Options
  pub H : Header
  pub E : Model
  pub specification : ReadsSpecification text S
  pub options : AreOptionsOf (kept_names S) list o
  pub is_model : ReadsModelWithHeader model H E
  pub models : Models S o H E
  pub exact : IsExact S o E

-- The text is a specification of scalars with flat and total constraints, with the options that the list names.
pub record IsFlatText (list : Option Text) (text : Text) : Type 0 where
  pub S : List Stm
  pub specification : ReadsSpecification text S
  pub flat : (o : Options) → AreOptionsOf (kept_names S) list o → is_flat_specification S o ≡ true

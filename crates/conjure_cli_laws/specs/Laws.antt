-- Laws of what is read and written, each stated at a function that does nothing, so that its proof is checked with the code.
use Rattle.std.specs.Prelude.{List}
use Rattle.ess_semantics.specs.Values.{Text}
use Rattle.ess_semantics.specs.Trees.{Stm}
use Rattle.ess_semantics.specs.Contexts.{Each}
use Rattle.ess_semantics.specs.ModelTrees.{Header, Model}
use Rattle.ess_semantics.specs.Models.{Models, IsExact}
use Rattle.ess_grammar.specs.Texts.{IsWithinLimits, ReadsSpecification}
use Rattle.ess_grammar.specs.ModelTexts.{header_lines}
use Rattle.ess_grammar.specs.HeaderTexts.{ReadsModelWithHeader}
use Rattle.conjure_laws.specs.Fields.{HasItsFields}
use Rattle.conjure_laws.specs.ModelsOfSets.{no_options}
use Rattle.conjure_cli_laws.specs.ModelText.{IsModelOf}

-- The text `text` is a specification S by the rules, the text `model` is a model E with its header H by the rules, each line of the header
-- within the limits of readers, E with H stands for S, and each solution has exactly one satisfying assignment. Each text is at most one
-- tree, so S, H and E are the only ones.
pub record StandsForText (text model : Text) : Type 0 where
  pub S : List Stm
  pub H : Header
  pub E : Model
  pub specification : ReadsSpecification text S
  pub is_model : ReadsModelWithHeader model H E
  pub limits : Each (header_lines model) IsWithinLimits
  pub models : Models S no_options H E
  pub exact : IsExact S no_options E

-- What is written for a text of the small grammar stands for it.
abbrev pub WrittenModelsStand : Type 0
WrittenModelsStand = (text model : Text) → IsModelOf text model → StandsForText text model

-- The domains of a specification that a text is read as have a name for each component of a record.
abbrev pub ReadSpecificationsHaveFields : Type 0
ReadSpecificationsHaveFields = (text : Text) (S : List Stm) → ReadsSpecification text S → Each S HasItsFields

-- What is answered: the model of a specification, its text, or why there is none.
use Rattle.std.specs.Prelude.{◌≡◌, false, List, IsTrue}
use Rattle.std.specs.List.{list_all}
use Rattle.ess_semantics.specs.Values.{Text}
use Rattle.ess_semantics.specs.Trees.{Stm}
use Rattle.ess_semantics.specs.Plans.{Options, kept_names}
use Rattle.ess_semantics.specs.ModelTrees.{Model, header_of}
use Rattle.ess_grammar.specs.Models.{is_readable_model}
use Rattle.ess_grammar.specs.ModelTexts.{ReadsModel}
use Rattle.ess_translate_header_laws.specs.Headers.{are_reprs_of}
use Rattle.ess_translate_header_laws.specs.WrittenLines.{header_texts}
use Rattle.eprime_tree.specs.ModelText.{model_text, is_head_line}
use Rattle.eprime_tree.specs.Views.{pure_model}
use Rattle.eprime_tree.specs.declared.models.PModel.{PModel}
use Rattle.ess_models.specs.declared.wholes.Modelled.{Modelled}
use Rattle.ess_models.specs.declared.texts.Spelled.{Spelled}
use Rattle.ess_models.specs.Checked.{Fit}
use Rattle.ess_models.specs.Built.{IsBuilt, NoneIsBuilt}

-- The model is built from the specification with these representations, and has the lines of its header.
pub record IsModelOf (S : List Stm) (o : Options) (m : PModel) : Type 0 where
  pub fit : Fit S o
  pub head : m.head ≡ header_texts (header_of S o)
  pub built : IsBuilt S o (header_of S o) (pure_model m)

-- The text spells a model that is built from the specification with these representations, behind its header; and is read as that model
-- where some text is.
pub record IsTextOf (S : List Stm) (o : Options) (text : Text) : Type 0 where
  pub fit : Fit S o
  pub model : Model
  pub built : IsBuilt S o (header_of S o) model
  pub spells : text ≡ model_text (header_texts (header_of S o)) model
  pub read : IsTrue (is_readable_model model) → IsTrue (list_all is_head_line (header_texts (header_of S o))) →
      ReadsModel text (header_texts (header_of S o)) model

module _ (S : List Stm) (o : Options) where
  -- The model, or why there is none.
  abbrev pub IsModelled : Modelled → Type 0
  IsModelled (Modelled.Model m) = IsModelOf S o m
  IsModelled Modelled.Misfit = are_reprs_of (kept_names S) o ≡ false
  IsModelled (Modelled.Lacks p) = NoneIsBuilt S o p

  -- The text, or why there is none.
  abbrev pub IsSpelled : Spelled → Type 0
  IsSpelled (Spelled.Text t) = IsTextOf S o t.items
  IsSpelled Spelled.Misfit = are_reprs_of (kept_names S) o ≡ false
  IsSpelled (Spelled.Lacks p) = NoneIsBuilt S o p

-- The text of a model that is built from a specification.
use Rattle.std.proofs.Common.{◌≡◌, ap, ◌∙◌, subst, List}
use Rattle.std.specs.Prelude.{IsTrue}
use Rattle.std.specs.List.{list_all}
use Rattle.ess_semantics.specs.Values.{Text}
use Rattle.ess_semantics.specs.Trees.{Stm}
use Rattle.ess_semantics.specs.Plans.{Options}
use Rattle.ess_grammar.specs.Models.{is_readable_model}
use Rattle.ess_grammar.specs.ModelTexts.{ReadsModel}
use Rattle.eprime_tree.specs.ModelText.{model_text, is_head_line}
use Rattle.eprime_tree.specs.Views.{pure_model}
use Rattle.eprime_tree.specs.declared.models.PModel.{PModel}
use Rattle.ess_models.specs.Modelled.{IsModelOf, IsTextOf}

-- What is printed for the model.
pub text_of : (S : List Stm) (o : Options) (m : PModel) (text : Text) → IsModelOf S o m → text ≡ model_text m.head (pure_model m)
    → (IsTrue (is_readable_model (pure_model m)) → IsTrue (list_all is_head_line m.head) → ReadsModel text m.head (pure_model m))
    → IsTextOf S o text
text_of S o m text i e k = record {
  fit = i.fit;
  model = pure_model m;
  built = i.built;
  spells = e ∙ ap (λ h. model_text h (pure_model m)) i.head;
  read = subst (λ h. IsTrue (is_readable_model (pure_model m)) → IsTrue (list_all is_head_line h) → ReadsModel text h (pure_model m)) i.head k;
}

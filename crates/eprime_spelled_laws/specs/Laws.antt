-- Laws of texts that spell models, each stated at a function that does nothing.
use Rattle.std.specs.Prelude.{◌≡◌, true, List}
use Rattle.std.specs.List.{list_all}
use Rattle.ess_semantics.specs.Values.{Text}
use Rattle.ess_semantics.specs.ModelTrees.{Model}
use Rattle.ess_grammar.specs.Words.{Token}
use Rattle.ess_grammar.specs.Models.{ReadModel}
use Rattle.ess_grammar.specs.Texts.{Reads}
use Rattle.ess_grammar.specs.ModelTexts.{HasModelParts, IsModel}
use Rattle.eprime_tree.specs.ModelText.{model_text, is_head_line}
use Rattle.eprime_spelled_laws.specs.SpelledModels.{IsSpelled}

-- Each list of tokens has at most one list of parts of a model, whether they are a model's or not.
abbrev pub OneListOfParts : Type 0
OneListOfParts = (p q : ReadModel) (ts : List Token) → HasModelParts p ts → HasModelParts q ts → p ≡ q

-- A text that spells a model's tree behind some lines, and is a model by the rules, is that model. So the tree is one that some text has,
-- though nothing was asked of the names in its conditions.
abbrev pub SpelledModelsAreRead : Type 0
SpelledModelsAreRead =
    (head : List Text) (E F : Model) → list_all is_head_line head ≡ true → IsSpelled E → Reads (model_text head E) (IsModel F) → F ≡ E

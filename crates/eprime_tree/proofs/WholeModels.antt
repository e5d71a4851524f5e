-- The text of a readable model is read again as the model.
use Rattle.std.proofs.Common.{◌≡◌, sym, ap, ◌∙◌, subst, List, None, true}
use Rattle.std.specs.List.{list_all}
use Rattle.ess_semantics.specs.Values.{Text}
use Rattle.ess_semantics.specs.ModelTrees.{Model}
use Rattle.ess_grammar.specs.Models.{is_readable_model}
use Rattle.ess_grammar.specs.ModelTexts.{ReadsModel}
use Rattle.ess_grammar.specs.Tokens.{lexed, first_outside}
use Rattle.ess_print_laws.specs.Pieces.{tokens_of}
use Rattle.ess_print_laws.proofs.LexedPieces.{printed-tokens, printed-inside}
use Rattle.eprime_tree.specs.declared.models.PModel.{PModel}
use Rattle.eprime_tree.specs.Views.{pure_model}
use Rattle.eprime_tree.specs.ModelText.{model_pieces, model_text, is_head_line}
use Rattle.eprime_tree.proofs.ModelsRead.{model-separate, model-derived}
use Rattle.eprime_tree.proofs.HeaderLines.{header-back}

pub text-read : (head : List Text) (m : Model) → is_readable_model m ≡ true → list_all is_head_line head ≡ true → ReadsModel (model_text head m) head m
text-read head m r h = (header-back head m h, (tokens_of (model_pieces head m), printed-tokens (model_pieces head m) (model-separate head m h r), model-derived head m r))

pub model-read : (t : Text) (m : PModel) → t ≡ model_text m.head (pure_model m) → is_readable_model (pure_model m) ≡ true → list_all is_head_line m.head ≡ true → ReadsModel t m.head (pure_model m)
model-read t m is r h = subst (λ t. ReadsModel t m.head (pure_model m)) (sym is) (text-read m.head (pure_model m) r h)

pub model-inside : (t : Text) (m : PModel) → t ≡ model_text m.head (pure_model m) → is_readable_model (pure_model m) ≡ true → list_all is_head_line m.head ≡ true → first_outside (lexed t) ≡ None
model-inside t m is r h = ap (λ t. first_outside (lexed t)) is ∙ printed-inside (model_pieces m.head (pure_model m)) (model-separate m.head (pure_model m) h r)

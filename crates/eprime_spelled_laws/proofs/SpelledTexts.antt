-- A text that spells a model's tree, and is a model by the rules, is that model.
use Rattle.std.proofs.Common.{◌≡◌, sym, ap, ◌∙◌, subst, List, true}
use Rattle.std.specs.List.{list_all}
use Rattle.std.proofs.lemmas.Option.{same_Some}
use Rattle.ess_semantics.specs.Values.{Text}
use Rattle.ess_semantics.specs.ModelTrees.{Model}
use Rattle.ess_grammar.specs.Models.{model_of, is_readable_model}
use Rattle.ess_grammar.specs.Texts.{Reads}
use Rattle.ess_grammar.specs.ModelTexts.{HasModelParts, IsModel}
use Rattle.ess_print_laws.specs.Pieces.{tokens_of}
use Rattle.ess_print_laws.proofs.LexedPieces.{printed-tokens}
use Rattle.eprime_tree.specs.ModelText.{model_pieces, model_text, is_head_line}
use Rattle.eprime_spelled_laws.specs.SpelledModels.{parts_of, IsSpelled}
use Rattle.eprime_spelled_laws.specs.Laws.{SpelledModelsAreRead}
use Rattle.eprime_spelled_laws.proofs.OneParts.{one-list-of-parts}
use Rattle.eprime_spelled_laws.proofs.SpelledPieces.{spelled-separate, spelled-parts}

-- So it is.
pub spelled-models-are-read : SpelledModelsAreRead
spelled-models-are-read head E F h w r =
    let d : IsModel F r.0 = r.2 in
    let e = same_Some (tokens_of (model_pieces head E)) r.0
    (sym (printed-tokens (model_pieces head E) (spelled-separate head E h w)) ∙ r.1) in
    d.is
    ∙ ap model_of (one-list-of-parts d.parts (parts_of E) r.0 d.read (subst (HasModelParts (parts_of E)) e (spelled-parts head E w)))
    ∙ w.back

-- And its tree is one that some text has.
pub spelled-models-are-readable : (head : List Text) (E F : Model) → list_all is_head_line head ≡ true → IsSpelled E →
    Reads (model_text head E) (IsModel F) → is_readable_model E ≡ true
spelled-models-are-readable head E F h w r =
    let d : IsModel F r.0 = r.2 in subst (λ M. is_readable_model M ≡ true) (spelled-models-are-read head E F h w r) d.readable

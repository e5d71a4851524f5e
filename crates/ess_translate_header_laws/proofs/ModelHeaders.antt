-- A text that is a model with a header begins with it.
use Rattle.std.proofs.Common.{◌≡◌, refl, sym, ap, ◌∙◌, subst, List, [], ◌∷◌, ◌++◌, append-nil, Option, Some, None}
use Rattle.std.specs.Option.{option_map}
use Rattle.ess_grammar.specs.Words.{Token}
use Rattle.ess_grammar.specs.Tokens.{Lexed, the_end, bad_byte, wide_number, next_token, tokens_in, lexed}
use Rattle.ess_grammar.specs.Models.{ReadModel}
use Rattle.ess_grammar.specs.ModelTexts.{HasModelParts, model_parts}
use Rattle.ess_translate_header_laws.specs.Headers.{language_line, BeginsWithTokens, AreWithinLimits}
use Rattle.ess_translate_header_laws.specs.Laws.{ModelsBeginWithTheirHeaders}

front-token : (u t : Token) (us : List Token) (o : Option (List Token)) → option_map (λ ws. u ∷ ws) o ≡ Some (t ∷ us) →
    (u ≡ t) × (o ≡ Some us)
front-token u t us None h = cc
front-token u t us (Some ws) h = (cc, cc)

-- The first of all tokens come first.
begins : (fs rest : List Token) (l : Lexed) → tokens_in l ≡ Some (fs ++ rest) → BeginsWithTokens fs l
begins [] rest l h = tt
begins (t ∷ fs) rest the_end h = cc
begins (t ∷ fs) rest (bad_byte p) h = cc
begins (t ∷ fs) rest (wide_number p) h = cc
begins (t ∷ fs) rest (next_token u bytes p more) h =
    let x = front-token u t (fs ++ rest) (tokens_in more) h in (x.0, begins fs rest more x.1)

-- A model's tokens begin with its language line.
parts-begin : {m : ReadModel} {ts : List Token} → HasModelParts m ts → (us : List Token) × (ts ≡ language_line ++ us)
parts-begin (model_parts {ts = ts} gs fs o c) = (ts, refl)

-- A model's text begins with the model's header.
pub begins-with-its-header : ModelsBeginWithTheirHeaders
begins-with-its-header text H E d w =
    let x = parts-begin d.2.1.2.read in record {
      language = begins language_line x.0 (lexed text) (d.2.1.1 ∙ ap Some x.1);
      lines = record {
        own = d.0;
        others = [];
        all = d.2.0 ∙ sym (append-nil d.0);
        header = d.1;
        limits = subst AreWithinLimits d.2.0 w;
      };
    }

-- The tokens of a text that the lexer doesn't refuse, and in which no word stands outside the subset, are fit.
use Rattle.std.proofs.Common.{◌≡◌, sym, subst, true, None, IsTrue}
use Rattle.ess_rows.specs.declared.place.Place.{Place}
use Rattle.ess_semantics.specs.Values.{Text}
use Rattle.ess_grammar.specs.Words.{Token}
use Rattle.ess_grammar.specs.Tokens.{Lexed, next_token, lexed, first_outside}
use Rattle.ess_grammar.specs.Load.{too_deep}
use Rattle.ess_grammar.proofs.ProperTokens.{tokens-proper}
use Rattle.ess_lex.specs.Lexing.{refusal}
use Rattle.ess_parse.specs.Refusals.{refused_first}
use Rattle.ess_parse.proofs.FirstRefusals.{none-first}
use Rattle.ess_parse.proofs.Runs.{all_tokens, all-these}
use Rattle.eprime_read.specs.Drafts.{is_fit_token, AreFit}
use Rattle.eprime_read_headers.specs.FrontTokens.{is_free_for}
use Rattle.eprime_read_headers.proofs.FreeTexts.{free_from}
use Rattle.eprime_read.proofs.PartTokens.{all_fit}

-- All tokens are fit.
abbrev pub AreFitTokens : Lexed → Type 0
AreFitTokens l = AreFit (all_tokens l)

pub lexed_fit : (text : Text) → refusal (lexed text) ≡ None → first_outside (lexed text) ≡ None → AreFitTokens (lexed text)
lexed_fit text u i =
    all_fit (all_tokens (lexed text)) (tokens-proper text (all_tokens (lexed text)) (all-these (lexed text) u) i)

-- Of a text that isn't refused first the lexer refuses nothing, and no word stands outside the subset.
pub unrefused : (text : Text) → refused_first text ≡ None → refusal (lexed text) ≡ None
unrefused text h = (none-first (refusal (lexed text)) (first_outside (lexed text)) (too_deep (lexed text)) h).0

pub without_outside : (text : Text) → refused_first text ≡ None → first_outside (lexed text) ≡ None
without_outside text h = (none-first (refusal (lexed text)) (first_outside (lexed text)) (too_deep (lexed text)) h).1

-- Nothing of the language line is refused.
pub unrefused_front : (text : Text) → refusal (lexed text) ≡ None → is_free_for 5 (lexed text) ≡ true
unrefused_front text u = free_from 5 (lexed text) u

-- The first token, and those behind it.
pub front_fit : (t : Token) (bytes : Text) (p : Place) (more all : Lexed) → next_token t bytes p more ≡ all → AreFitTokens all → IsTrue (is_fit_token t) × AreFitTokens more
front_fit t bytes p more all e h = subst AreFitTokens (sym e) h

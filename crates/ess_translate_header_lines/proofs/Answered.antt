-- From the lines of a header to the header of the whole text, in what the readers answer; and written lines are read again.
use Rattle.std.proofs.Common.{◌≡◌, sym, subst, List, ◌∷◌, Option, Some, None, Ok, Err, IfOk, MatchOption, map, codes}
use Rattle.std.specs.declared.result.Result.{Result}
use Rattle.ess_rows.specs.declared.memory.NoMemory.{NoMemory}
use Rattle.ess_semantics.specs.Values.{Text}
use Rattle.ess_semantics.specs.ModelTrees.{Header}
use Rattle.ess_core.specs.StatementViews.{pure_stm}
use Rattle.ess_parse.specs.NamedReprViews.{pure_named_reprs}
use Rattle.ess_grammar.specs.Tokens.{lexed}
use Rattle.ess_grammar.specs.ModelTexts.{header_lines}
use Rattle.ess_grammar.specs.HeaderTexts.{IsHeader}
use Rattle.ess_translate_header_laws.specs.Headers.{language_line, BeginsWithTokens, StandsFirst, BeginsWith}
use Rattle.ess_translate_header_laws.specs.Reading.{AreLinesOf, AreNoLines}
use Rattle.ess_translate_header_laws.specs.WrittenLines.{header_texts, ReadableHeader, AreShallow}
use Rattle.ess_translate_header_laws.proofs.WholeHeaders.{stands_first, other_version, no_lines_behind, no_lines, begins_with, no_header}
use Rattle.ess_translate_header_laws.proofs.WrittenLines.{written_headers, written_found}
use Rattle.ess_translate_header_lines.specs.declared.reading.HeaderLines.{HeaderLines}
use Rattle.ess_translate_header_lines.specs.Views.{header_with}

-- Behind the version.
pub version_first : (first : Text) (rest all : List Text) (r : Result (Option HeaderLines) NoMemory) → all ≡ first ∷ rest →
    first ≡ codes "conjure-header 1" →
    IfOk r (λ o. MatchOption o (AreNoLines rest) (λ l. AreLinesOf (map pure_stm l.statements) (map pure_named_reprs l.reprs) rest)) →
    IfOk r (λ o. MatchOption o ((H : Header) → StandsFirst H all → ⊥) (λ l. StandsFirst (header_with l.statements l.reprs) all))
version_first first rest all (Err why) e f h = tt
version_first first rest all (Ok None) e f h = λ H d. no_lines_behind H first rest h (subst (λ ls. StandsFirst H ls) e d)
version_first first rest all (Ok (Some l)) e f h =
    subst (λ ls. StandsFirst (header_with l.statements l.reprs) ls) (sym e) (stands_first (header_with l.statements l.reprs) first rest f h)

-- Under the language line.
pub language_first : (text : Text) (lines : List Text) (r : Result (Option HeaderLines) NoMemory) →
    BeginsWithTokens language_line (lexed text) →
    lines ≡ header_lines text →
    IfOk r (λ o. MatchOption o ((H : Header) → StandsFirst H lines → ⊥) (λ l. StandsFirst (header_with l.statements l.reprs) lines)) →
    IfOk r (λ o. MatchOption o ((H : Header) → BeginsWith text H → ⊥) (λ l. BeginsWith text (header_with l.statements l.reprs)))
language_first text lines (Err why) d e h = tt
language_first text lines (Ok None) d e h = no_header text lines e h
language_first text lines (Ok (Some l)) d e h = begins_with text (header_with l.statements l.reprs) lines d e h

-- Written lines of a header that can be read are that header.
pub written_header : (H : Header) (r : Result (List Text) NoMemory) → IfOk r (λ ls. ls ≡ header_texts H) → ReadableHeader H →
    IfOk r (λ ls. IsHeader H ls)
written_header H (Err why) e r = tt
written_header H (Ok ls) e r = subst (λ ms. IsHeader H ms) (sym e) (written_headers H r)

-- A reader finds it in them where none is nested too deeply.
pub written_again : (H : Header) (r : Result (List Text) NoMemory) → IfOk r (λ ls. ls ≡ header_texts H) → ReadableHeader H →
    IfOk r (λ ls. AreShallow ls → StandsFirst H ls)
written_again H (Err why) e r = tt
written_again H (Ok ls) e r = λ d. subst (λ ms. StandsFirst H ms) (sym e) (written_found H r (subst (λ ms. AreShallow ms) e d))

-- Where no header's lines stand first.
pub ruleset no_header_first = (other_version, no_lines)

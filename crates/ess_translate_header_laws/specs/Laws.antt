-- Laws of headers, each stated at a function that does nothing, so that its proof is checked with the code.
use Rattle.std.specs.Prelude.{◌≡◌, List, filter, None}
use Rattle.ess_semantics.specs.Values.{Text}
use Rattle.ess_semantics.specs.Trees.{Stm}
use Rattle.ess_semantics.specs.Judgements.{fault}
use Rattle.ess_semantics.specs.ModelTrees.{Header, Model, in_header}
use Rattle.ess_grammar.specs.ModelTexts.{header_lines}
use Rattle.ess_grammar.specs.HeaderTexts.{IsHeader, ReadsModelWithHeader}
use Rattle.ess_translate_header_laws.specs.Headers.{AreWithinLimits, StandsFirst, BeginsWith}
use Rattle.ess_translate_header_laws.specs.WrittenLines.{header_texts, ReadableHeader, AreShallow}

-- A text begins with at most one header.
abbrev pub OneHeader : Type 0
OneHeader = (text : Text) (H K : Header) → BeginsWith text H → BeginsWith text K → H ≡ K

-- A text that is a model with a header begins with it, where each line of the header is within the limits.
abbrev pub ModelsBeginWithTheirHeaders : Type 0
ModelsBeginWithTheirHeaders = (text : Text) (H : Header) (E : Model) → ReadsModelWithHeader text H E → AreWithinLimits (header_lines text) →
    BeginsWith text H

-- Written lines of a header that can be read are that header by the rules, however deeply they are nested.
abbrev pub WrittenHeadersAreRead : Type 0
WrittenHeadersAreRead = (H : Header) → ReadableHeader H → IsHeader H (header_texts H)

-- Where none of them is nested too deeply, a reader finds that header in them.
abbrev pub WrittenHeadersAreFound : Type 0
WrittenHeadersAreFound = (H : Header) → ReadableHeader H → AreShallow (header_texts H) → StandsFirst H (header_texts H)

-- Without its constraints and objectives a well typed specification is well typed.
abbrev pub HeadersStayTyped : Type 0
HeadersStayTyped = (S : List Stm) → fault S ≡ None → fault (filter in_header S) ≡ None

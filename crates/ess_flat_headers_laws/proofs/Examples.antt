-- Worked example. A condition of 126 signs is read, and the line of the header as which it is printed is above the limit of load: in it
-- each operand that is an operator's stands in brackets. The lines are the header for all that.
use Rattle.std.proofs.Common.{◌≡◌, refl, ℕ, zero, suc, true, List, [], ◌∷◌}
use Rattle.ess_semantics.specs.declared.words.Op1.{Op1}
use Rattle.ess_semantics.specs.Trees.{Ex, truth_ex, Stm, needs, ex1}
use Rattle.ess_semantics.specs.ModelTrees.{header_of}
use Rattle.ess_grammar.specs.Readable.{ReadableEx}
use Rattle.ess_grammar.specs.HeaderTexts.{IsHeader}
use Rattle.ess_translate_header_laws.specs.WrittenLines.{header_texts}
use Rattle.ess_flat_models_laws.specs.FlatSpecifications.{is_flat_specification}
use Rattle.ess_flat_headers_laws.proofs.FlatHeaders.{flat-headers-are-read}

-- `!` as often as the number says, before `true`.
abbrev nots : ℕ → Ex
nots zero = truth_ex true
nots (suc n) = ex1 true Op1.Not (nots n)

readable : (n : ℕ) → ReadableEx (nots n)
readable zero = tt
readable (suc n) = (refl, refl, (readable n, tt))

abbrev S : List Stm
S = needs (nots 126) ∷ []

of-the-class : is_flat_specification S [] ≡ true
of-the-class = refl

its-header : IsHeader (header_of S []) (header_texts (header_of S []))
its-header = flat-headers-are-read S [] (readable 126, tt) of-the-class

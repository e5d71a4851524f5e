-- Worked examples of headers: the header of a set, as it is written, read and found in a model; and headers that aren't this tool's.
use Rattle.std.specs.Prelude.{◌≡◌, refl, ℕ, true, false, [], ◌∷◌, ◌++◌, codes}
use Rattle.std.specs.Fmt.{digits}
use Rattle.ess_semantics.specs.declared.words.ReprKind.{ReprKind}
use Rattle.ess_semantics.specs.Values.{Text}
use Rattle.ess_semantics.specs.Names.{Names}
use Rattle.ess_semantics.specs.Trees.{both_ends, Repr, repr, no_reprs, more_reprs, no_exs, more_exs, Dom, int_dom, set_dom, given, find}
use Rattle.ess_semantics.specs.ModelTrees.{Header}
use Rattle.ess_grammar.specs.Tokens.{lexed}
use Rattle.ess_grammar.specs.ModelTexts.{lines_under_language_line, header_lines}
use Rattle.ess_grammar.proofs.ExamplesGrammar.{num}
use Rattle.ess_translate_header_laws.specs.Headers.{language_line, BeginsWithTokens, BeginsWith, are_reprs_of, IsOurs}
use Rattle.ess_translate_header_laws.specs.HeadLines.{begins_with_language}
use Rattle.ess_translate_header_laws.specs.WrittenLines.{reprs_line_text, header_texts, ReadableHeader, AreShallow}
use Rattle.ess_translate_header_laws.proofs.WrittenLines.{written_headers, written_within}

abbrev feed : Text
feed = 10 ∷ []

abbrev occurrence : Repr
occurrence = repr ReprKind.Occurrence no_reprs

abbrev atom : Repr
atom = repr ReprKind.Atom no_reprs

abbrev explicit : Repr
explicit = repr ReprKind.Explicit (more_reprs atom no_reprs)

-- From a number to a number.
abbrev run : ℕ → ℕ → Dom
run a b = int_dom (both_ends ∷ []) (more_exs (num a) (more_exs (num b) no_exs))

abbrev a_set : Dom
a_set = set_dom [] no_exs (run 1 3)

abbrev head : Header
head = record {
  statements = given (codes "n") (run 0 9) ∷ find (codes "s") a_set ∷ [];
  reprs = (codes "n", atom ∷ []) ∷ (codes "s", occurrence ∷ []) ∷ [];
}

-- ---- lines

-- The lines of the header.
lines : header_texts head ≡
    codes "conjure-header 1" ∷ codes "given n : int(0..9)" ∷ codes "find s : set of int(1..3)" ∷ codes "repr n Atom" ∷
    codes "repr s Occurrence" ∷ codes "end-header" ∷ []
unfolding digits
lines = refl

-- Two representations of a name.
two_reprs : reprs_line_text (codes "s") (explicit ∷ occurrence ∷ []) ≡ codes "repr s Explicit[Atom] + Occurrence"
two_reprs = refl

-- Without statements the header has two lines.
no_lines : header_texts (record { statements = []; reprs = [] }) ≡ codes "conjure-header 1" ∷ codes "end-header" ∷ []
no_lines = refl

-- ---- texts

-- A model's text, with another comment directly behind its header.
abbrev text : Text
text =
    codes "language ESSENCE' 1.0" ++ feed ++ codes "$ conjure-header 1" ++ feed ++ codes "$ given n : int(0..9)" ++ feed ++
    codes "$ find s : set of int(1..3)" ++ feed ++ codes "$ repr n Atom" ++ feed ++ codes "$ repr s Occurrence" ++ feed ++
    codes "$ end-header" ++ feed ++ codes "$ more" ++ feed

readable : ReadableHeader head
readable = record { statements = ((refl, (refl, (refl, (refl, tt)))), ((refl, (refl, tt, (refl, (refl, (refl, tt))))), tt)); reprs = refl }

shallow : AreShallow (header_texts head)
unfolding digits
shallow = (refl, (refl, (refl, (refl, (refl, (refl, tt))))))

-- The lines under its language line, all of which are UTF-8.
all_lines : lines_under_language_line text ≡ header_texts head ++ codes "more" ∷ []
unfolding digits
all_lines = refl

-- It begins with the header.
begins : header_lines text ≡ header_texts head ++ codes "more" ∷ [] → BeginsWith text head
begins lines_are = record {
  language = (refl, (refl, (refl, (refl, (refl, tt)))));
  lines = record {
    own = header_texts head;
    others = codes "more" ∷ [];
    all = lines_are;
    header = written_headers head readable;
    limits = written_within head readable shallow;
  };
}

-- Another version of the language isn't the language line, nor is a text that is cut off.
other_version : BeginsWithTokens language_line (lexed (codes "language ESSENCE' 1.1")) → ⊥
other_version d = cc

cut_off : BeginsWithTokens language_line (lexed (codes "language ESSENCE' 1.")) → ⊥
cut_off d = d.1.1.1.1

-- A line that begins with the word.
word_first : begins_with_language (lexed (codes "language Essence 1.3")) ≡ true
word_first = refl

-- ---- headers of this tool

-- The header is one.
ours : IsOurs head
ours = record { declares = refl; typed = refl; represented = refl }

abbrev names : Names Dom
names = (codes "n", run 0 9) ∷ (codes "s", a_set) ∷ []

-- The representations stand in another order.
other_order : are_reprs_of names ((codes "s", occurrence ∷ []) ∷ (codes "n", atom ∷ []) ∷ []) ≡ false
other_order = refl

-- One is missing, or there is one too many.
one_missing : are_reprs_of names ((codes "n", atom ∷ []) ∷ []) ≡ false
one_missing = refl

one_more : are_reprs_of ((codes "n", run 0 9) ∷ []) ((codes "n", atom ∷ []) ∷ (codes "s", occurrence ∷ []) ∷ []) ≡ false
one_more = refl

-- The second representation doesn't fit.
second_unfit : are_reprs_of ((codes "s", a_set) ∷ []) ((codes "s", occurrence ∷ atom ∷ []) ∷ []) ≡ false
second_unfit = refl

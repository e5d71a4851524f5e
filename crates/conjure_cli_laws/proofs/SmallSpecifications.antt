-- A text of the small grammar is derived by the rules of specifications as the specification that it stands for.
use Rattle.std.proofs.Common.{◌≡◌, refl, sym, ap, ◌∙◌, subst, ℕ, Bool, true, false, if◌then◌else◌, List, [], ◌∷◌, ◌++◌, pos, codes, ◌⊎◌, inl, inr}
use Rattle.std.specs.Prelude.{◌==◌}
use Rattle.std.proofs.lemmas.Bool.{eqb-true}
use Rattle.ess_semantics.specs.Values.{Text}
use Rattle.ess_semantics.specs.Trees.{Stm}
use Rattle.ess_semantics.specs.Trees as tree
use Rattle.ess_grammar.specs.Tokens.{lexed_after}
use Rattle.ess_grammar.specs.Readable.{ReadableStm}
use Rattle.ess_grammar.specs.Statements.{Statements, no_statements, more_statements, specification, no_language_line}
use Rattle.ess_grammar.specs.Texts.{ReadsSpecification}
use Rattle.ess_print_laws.specs.Pieces.{Piece, tokens_of}
use Rattle.ess_print_laws.specs.Statements.{stm_pieces}
use Rattle.ess_print_laws.proofs.Statements.{stm-derived}
use Rattle.conjure_laws.specs.SetsOfAtoms.{num, membership}
use Rattle.conjure_cli_laws.specs.SmallGrammar.{Statement, find, such_that, Says, SaysFind, SaysSuchThat, SayEach, lines_of, onto_first_line, is_name}
use Rattle.conjure_cli_laws.specs.SmallSets.{lines}
use Rattle.conjure_cli_laws.specs.SmallSets as sets
use Rattle.conjure_cli_laws.proofs.SmallNames.{name-spelled}
use Rattle.conjure_cli_laws.proofs.SmallStatements.{Spelled}
use Rattle.conjure_cli_laws.proofs.SmallTexts.{concat-before}
use Rattle.conjure_cli_laws.proofs.SmallHeaders.{find_stm, find-readable}
use Rattle.conjure_cli_laws.proofs.Bits.{Bit, bits_text, bits_tokens, Apart, IsRead, bits-read, nothing-read}
use Rattle.conjure_cli_laws.proofs.Bits as bits
use Rattle.conjure_cli_laws.proofs.SmallLines.{find_bits, find-apart, asked_bits, asked-apart, numeral-writes, name-ends}
use Rattle.ess_print_laws.specs.Touching.{ends_before}

-- ---- the first line of a text

-- The text is one line, or a line before others.
abbrev FirstLine : Text → Text → List Text → Type 0
FirstLine text l ls = ((text ≡ l) × (ls ≡ [])) ⊎ ((rest : Text) × (text ≡ l ++ (10 ∷ rest)) × (lines_of rest ≡ ls))

no-lines : (text : Text) → lines_of text ≡ [] → text ≡ []
no-lines [] e = refl
no-lines (b ∷ text) e = go (b == 10) (lines_of text) e
  where
    go : (q : Bool) (ls : List Text) → (if q then [] ∷ ls else onto_first_line b ls) ≡ [] → b ∷ text ≡ []
    go true ls e = cc
    go false [] e = cc
    go false (l ∷ ls) e = cc

first-line : (text l : Text) (ls : List Text) → lines_of text ≡ l ∷ ls → FirstLine text l ls
first-line [] l ls e = cc
first-line (b ∷ text) l ls e = go (b == 10) (lines_of text) refl refl e (first-line text)
  where
    go : (q : Bool) (ms : List Text) → (b == 10) ≡ q → lines_of text ≡ ms → (if q then [] ∷ ms else onto_first_line b ms) ≡ l ∷ ls →
        ((k : Text) (ks : List Text) → lines_of text ≡ k ∷ ks → FirstLine text k ks) → FirstLine (b ∷ text) l ls
    go true ms p h e f =
        let z : [] ≡ l = cc in
        let y : ms ≡ ls = cc in
        inr (text, ap (λ c. c ∷ text) (eqb-true b 10 p) ∙ ap (λ t. t ++ (10 ∷ text)) z, h ∙ y)
    go false [] p h e f =
        let z : b ∷ [] ≡ l = cc in
        let y : [] ≡ ls = cc in
        inl (ap (λ t. b ∷ t) (no-lines text h) ∙ z, sym y)
    go false (m ∷ ms) p h e f = at (f m ms h)
      where
        z : b ∷ m ≡ l
        z = cc

        y : ms ≡ ls
        y = cc

        at : FirstLine text m ms → FirstLine (b ∷ text) l ls
        at (inl k) = inl (ap (λ t. b ∷ t) k.0 ∙ z, sym y ∙ k.1)
        at (inr k) = inr (k.0, ap (λ t. b ∷ t) k.1 ∙ ap (λ t. t ++ (10 ∷ k.0)) z, k.2 ∙ y)

-- ---- tokens

-- A constraint as a statement.
abbrev asked_stm : ℕ → Text → Stm
asked_stm k x = tree.such_that (membership (num (pos k)) x)

-- The pieces of the statements as they are printed.
abbrev all_pieces : List Statement → List Piece
all_pieces [] = []
all_pieces (find x a b ∷ ss) = stm_pieces (find_stm x a b) (all_pieces ss)
all_pieces (such_that k x ∷ ss) = stm_pieces (asked_stm k x) (all_pieces ss)

-- What may follow a line: nothing, or a line feed.
abbrev Follows : Text → Type 0
Follows r = (r ≡ []) ⊎ ((rest : Text) × (r ≡ 10 ∷ rest))

bracket-ends : (r : Text) → Follows r → ends_before (codes ")") r ≡ true
bracket-ends r (inl e) = ap (ends_before (codes ")")) e
bracket-ends r (inr h) = ap (ends_before (codes ")")) h.1

name-stops : (x r : Text) → is_name x ≡ true → Follows r → ends_before x r ≡ true
name-stops x r h (inl e) = ap (ends_before x) e ∙ nothing x
  where
    nothing : (x : Text) → ends_before x [] ≡ true
    nothing [] = refl
    nothing (b ∷ bs) = refl
name-stops x r h (inr k) = ap (ends_before x) k.1 ∙ name-ends x h 10 k.0 refl

find-read : (l x : Text) (a b : ℕ) (r : Text) (ss : List Statement) → SaysFind l x a b → Spelled (find x a b ∷ ss) → Follows r →
    ((before : Text) → IsRead (lexed_after before r) (tokens_of (all_pieces ss))) → (before : Text) →
    IsRead (lexed_after before (l ++ r)) (tokens_of (all_pieces (find x a b ∷ ss)))
find-read l x a b r ss h s w k before =
    subst (λ t. IsRead (lexed_after before t) (tokens_of (all_pieces (find x a b ∷ ss))))
    (sym (ap (λ t. t ++ r) h.pieces ∙ concat-before (codes "find " ∷ x ∷ codes " : set of int(" ∷ h.lows ∷ codes ".." ∷
    h.highs ∷ codes ")" ∷ []) r))
    (bits-read (find_bits x a h.lows b h.highs) r (tokens_of (all_pieces ss))
    (find-apart x a h.lows b h.highs r s.0 (numeral-writes h.lows a h.lowest) s.1 (numeral-writes h.highs b h.highest) s.2
    (bracket-ends r w)) k before)

asked-read : (l : Text) (n : ℕ) (x r : Text) (ss : List Statement) → SaysSuchThat l n x → Spelled (such_that n x ∷ ss) → Follows r →
    ((before : Text) → IsRead (lexed_after before r) (tokens_of (all_pieces ss))) → (before : Text) →
    IsRead (lexed_after before (l ++ r)) (tokens_of (all_pieces (such_that n x ∷ ss)))
asked-read l n x r ss h s w k before =
    subst (λ t. IsRead (lexed_after before t) (tokens_of (all_pieces (such_that n x ∷ ss))))
    (sym (ap (λ t. t ++ r) h.pieces ∙ concat-before (codes "such that " ∷ h.digits ∷ codes " in " ∷ x ∷ []) r))
    (bits-read (asked_bits n h.digits x) r (tokens_of (all_pieces ss))
    (asked-apart n h.digits x r s.0 (numeral-writes h.digits n h.numeral) s.1 (name-stops x r s.0 w)) k before)

line-read : (l : Text) (s : Statement) (r : Text) (ss : List Statement) → Says l s → Spelled (s ∷ ss) → Follows r →
    ((before : Text) → IsRead (lexed_after before r) (tokens_of (all_pieces ss))) → (before : Text) →
    IsRead (lexed_after before (l ++ r)) (tokens_of (all_pieces (s ∷ ss)))
line-read l (find x a b) r ss h s w k before = find-read l x a b r ss h s w k before
line-read l (such_that n x) r ss h s w k before = asked-read l n x r ss h s w k before

later-spelled : (s : Statement) (ss : List Statement) → Spelled (s ∷ ss) → Spelled ss
later-spelled (find x a b) ss h = h.3
later-spelled (such_that k x) ss h = h.2

text-read : (ss : List Statement) (text : Text) → SayEach (lines_of text) ss → Spelled ss → (before : Text) →
    IsRead (lexed_after before text) (tokens_of (all_pieces ss))
text-read [] text h s before = go (lines_of text) refl h
  where
    go : (ls : List Text) → lines_of text ≡ ls → SayEach ls [] → IsRead (lexed_after before text) []
    go [] e h = subst (λ t. IsRead (lexed_after before t) []) (sym (no-lines text e)) (nothing-read before)
    go (l ∷ ls) e h = absurd h
text-read (s ∷ ss) text h p before = go (lines_of text) refl h (λ rest k. text-read ss rest k (later-spelled s ss p))
  where
    go : (ls : List Text) → lines_of text ≡ ls → SayEach ls (s ∷ ss) →
        ((rest : Text) → SayEach (lines_of rest) ss → (before : Text) → IsRead (lexed_after before rest) (tokens_of (all_pieces ss))) →
        IsRead (lexed_after before text) (tokens_of (all_pieces (s ∷ ss)))
    go [] e h f = absurd h
    go (l ∷ ls) e h f = at (first-line text l ls e)
      where
        nothing : (t : Text) → t ++ [] ≡ t
        nothing [] = refl
        nothing (b ∷ t) = ap (λ u. b ∷ u) (nothing t)

        at : FirstLine text l ls → IsRead (lexed_after before text) (tokens_of (all_pieces (s ∷ ss)))
        at (inl k) = subst (λ t. IsRead (lexed_after before t) (tokens_of (all_pieces (s ∷ ss)))) (nothing l ∙ sym k.0)
            (line-read l s [] ss h.0 p (inl refl) (f [] (subst (λ m. SayEach m ss) k.1 h.1)) before)
        at (inr k) = subst (λ t. IsRead (lexed_after before t) (tokens_of (all_pieces (s ∷ ss)))) (sym k.1)
            (line-read l s (10 ∷ k.0) ss h.0 p (inr (k.0, refl)) (λ b. feed b (f k.0 (subst (λ m. SayEach m ss) (sym k.2) h.1))) before)
          where
            feed : (b : Text) → ((b : Text) → IsRead (lexed_after b k.0) (tokens_of (all_pieces ss))) →
                IsRead (lexed_after b (10 ∷ k.0)) (tokens_of (all_pieces ss))
            feed b g = bits-read (bits.gap 10 ∷ []) k.0 (tokens_of (all_pieces ss)) (refl, tt) g b

-- ---- derivations

asked-readable : (k : ℕ) (x : Text) → is_name x ≡ true → Rattle.conjure_cli_laws.proofs.SmallStatements.IsRead k →
    ReadableStm (asked_stm k x)
asked-readable k x h p = (refl, refl, (p, (name-spelled x h, tt)))

statements-derived : (ss : List Statement) → Spelled ss → Statements (sets.specification ss) (tokens_of (all_pieces ss))
statements-derived [] s = no_statements
statements-derived (find x a b ∷ ss) s = more_statements (stm-derived (find_stm x a b) (find-readable x a b s.0 s.1 s.2)
    (all_pieces ss)) (statements-derived ss s.3)
statements-derived (such_that k x ∷ ss) s = more_statements (stm-derived (asked_stm k x) (asked-readable k x s.0 s.1)
    (all_pieces ss)) (statements-derived ss s.2)

-- The text is a specification with these statements.
pub small-specification : (ss : List Statement) (text : Text) → SayEach (lines_of text) ss → Spelled ss →
    ReadsSpecification text (sets.specification ss)
small-specification ss text h s = (
  tokens_of (all_pieces ss),
  (text-read ss text h s []).tokens,
  specification no_language_line (statements-derived ss s),
)

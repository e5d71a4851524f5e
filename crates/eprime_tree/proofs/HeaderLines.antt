-- The lines of a printed model's header are read again.
use Rattle.std.proofs.Common.{◌≡◌, refl, ap, ◌∙◌, ℕ, zero, suc, ◌≤◌, Bool, true, false, ◌&&◌, not, List, [], ◌∷◌, ◌++◌, length, take, drop, Option, Some, None, nat_eq, arith, length-append}
use Rattle.std.specs.Prelude.{codes, if◌then◌else◌}
use Rattle.std.specs.List.{list_all, position_or_len}
use Rattle.std.specs.Str.{is_utf8}
use Rattle.std.specs.Fmt.{digits}
use Rattle.ess_semantics.specs.Values.{Text}
use Rattle.ess_semantics.specs.DeclaredTables.{TableDecl}
use Rattle.ess_semantics.specs.ModelTrees.{Goal, no_goal, least, greatest, Model}
use Rattle.ess_semantics.specs.Trees.{Ex}
use Rattle.ess_semantics.proofs.Tests.{and-left, and-right, and-both, not-true}
use Rattle.ess_grammar.specs.ModelTexts.{behind_in, behind_language_line, first_line, next_lines, behind_mark, marked_lines, lines_under_language_line, utf8_lines, header_lines}
use Rattle.ess_grammar.specs.Places.{is_line_feed}
use Rattle.ess_grammar.specs.Tokens.{longest_token}
use Rattle.ess_grammar.specs.Words.{Token, number, prime_word, word, symbol, language_word, dot, given_word, find_word}
use Rattle.ess_grammar.proofs.Runs.{run-yes, run-no}
use Rattle.ess_print_laws.specs.Pieces.{Piece, text_of}
use Rattle.ess_print_laws.proofs.TokensBack.{token-back}
use Rattle.eprime_tree.specs.ModelText.{language_line, head_lines, declaration_lines, goal_line, such_that_lines, model_text, is_head_line}

abbrev plain_byte : ℕ → Bool
plain_byte b = not (is_line_feed b)

-- ---- the language line

-- What is behind a token that is found.
abbrev behind_first : ℕ → ℕ → Text → Option (Token × ℕ) → Text
behind_first turns n text o = elim o [ Some x ↦ behind_in turns n (drop x.1 text) | None ↦ [] ]

-- The text behind each token of the language line.
abbrev at_prime : Text → Text
at_prime r = codes "ESSENCE' 1.0\n" ++ r

abbrev at_number : Text → Text
at_number r = codes "1.0\n" ++ r

abbrev at_dot : Text → Text
at_dot r = codes ".0\n" ++ r

abbrev at_zero : Text → Text
at_zero r = codes "0\n" ++ r

language : (r : Text) → longest_token (codes "language " ++ at_prime r) ≡ Some (word language_word, 8)
language r = (token-back (word language_word) refl).longest (codes " " ++ at_prime r) refl

prime : (r : Text) → longest_token (at_prime r) ≡ Some (prime_word, 8)
prime r = (token-back prime_word refl).longest (codes " " ++ at_number r) refl

one : (r : Text) → longest_token (at_number r) ≡ Some (number 1, 1)
unfolding digits
one r = (token-back (number 1) refl).longest (at_dot r) refl

point : (r : Text) → longest_token (at_dot r) ≡ Some (symbol dot, 1)
point r = (token-back (symbol dot) refl).longest (at_zero r) refl

nought : (r : Text) → longest_token (at_zero r) ≡ Some (number 0, 1)
unfolding digits
nought r = (token-back (number 0) refl).longest (codes "\n" ++ r) refl

-- what is behind the language line's last token, with turns enough
behind-line : (n : ℕ) (r : Text) → behind_in (suc (suc (suc (suc (suc (suc (suc n))))))) 5 (codes "language " ++ at_prime r) ≡ codes "\n" ++ r
behind-line n r =
    ap (behind_first (suc (suc (suc (suc (suc (suc n)))))) 4 (codes "language " ++ at_prime r)) (language r)
    ∙ ap (behind_first (suc (suc (suc (suc n)))) 3 (at_prime r)) (prime r)
    ∙ ap (behind_first (suc (suc n)) 2 (at_number r)) (one r)
    ∙ ap (behind_first (suc n) 1 (at_dot r)) (point r)
    ∙ ap (behind_first n 0 (at_zero r)) (nought r)

-- ---- lines

-- a line without a line feed ends before one
line-length : (l r : Text) → list_all plain_byte l ≡ true → position_or_len is_line_feed (l ++ 10 ∷ r) ≡ length l
line-length [] r h = run-no plain_byte 10 r refl
line-length (b ∷ l) r h = run-yes plain_byte b (l ++ 10 ∷ r) (and-left (plain_byte b) (list_all plain_byte l) h) ∙ ap suc (line-length l r (and-right (plain_byte b) (list_all plain_byte l) h))

take-line : (l r : Text) → take (length l) (l ++ 10 ∷ r) ≡ l
take-line [] r = refl
take-line (b ∷ l) r = ap (λ x. b ∷ x) (take-line l r)

drop-line : (l r : Text) → drop (suc (length l)) (l ++ 10 ∷ r) ≡ r
drop-line [] r = refl
drop-line (b ∷ l) r = drop-line l r

first-line : (l r : Text) → list_all plain_byte l ≡ true → first_line (l ++ 10 ∷ r) ≡ l
first-line l r h = ap (λ n. take n (l ++ 10 ∷ r)) (line-length l r h) ∙ take-line l r

next-lines : (l r : Text) → list_all plain_byte l ≡ true → next_lines (l ++ 10 ∷ r) ≡ r
next-lines l r h = ap (λ n. drop (suc n) (l ++ 10 ∷ r)) (line-length l r h) ∙ drop-line l r

-- a text whose first line isn't marked has no marked lines
no-marks : (turns : ℕ) (r : Text) → behind_mark (first_line r) ≡ None → marked_lines turns r ≡ []
no-marks zero r h = refl
no-marks (suc turns) r h = ap (λ o. elim o [ Some l ↦ l ∷ marked_lines turns (next_lines r) | None ↦ [] ]) h

plain-line : (l : Text) → list_all plain_byte l ≡ true → list_all plain_byte (codes "$ " ++ l) ≡ true
plain-line l h = h

-- the lines of a header come first
marked : (turns : ℕ) (ls : List Text) (us : List Piece) → list_all (λ l. list_all plain_byte l) ls ≡ true → length ls ≤ turns → behind_mark (first_line (text_of us)) ≡ None →
    marked_lines turns (text_of (head_lines ls us)) ≡ ls
marked turns [] us h n k = no-marks turns (text_of us) k
marked zero (l ∷ ls) us h n k = absurd (omega arith)
marked (suc turns) (l ∷ ls) us h n k =
    let plain = and-left (list_all plain_byte l) (list_all (λ l. list_all plain_byte l) ls) h in
    let r = text_of (head_lines ls us) in
    let t = codes "$ " ++ l ++ 10 ∷ r in
    ap (λ o. elim o [ Some l ↦ l ∷ marked_lines turns (next_lines t) | None ↦ [] ]) (ap behind_mark (first-line (codes "$ " ++ l) r (plain-line l plain)))
    ∙ ap (λ x. l ∷ marked_lines turns x) (next-lines (codes "$ " ++ l) r (plain-line l plain))
    ∙ ap (λ x. l ∷ x) (marked turns ls us (and-right (list_all plain_byte l) (list_all (λ l. list_all plain_byte l) ls) h) (omega arith) k)

-- there are as many bytes as lines
bytes-enough : (ls : List Text) (us : List Piece) → length ls ≤ length (text_of (head_lines ls us))
bytes-enough [] us = omega arith
bytes-enough (l ∷ ls) us = omega (arith, bytes-enough ls us, length-append l (10 ∷ text_of (head_lines ls us)))

-- ---- what follows the header

not-marked : (b : ℕ) (bs : Text) → nat_eq b 36 ≡ false → behind_mark (take (position_or_len is_line_feed (b ∷ bs)) (b ∷ bs)) ≡ None
not-marked b bs h = go (position_or_len is_line_feed (b ∷ bs)) b bs h
  where
    go : (n b : ℕ) (bs : Text) → nat_eq b 36 ≡ false → behind_mark (take n (b ∷ bs)) ≡ None
    go zero b bs h = refl
    go (suc n) b bs h = two b (take n bs) h
      where
        two : (b : ℕ) (bs : Text) → nat_eq b 36 ≡ false → behind_mark (b ∷ bs) ≡ None
        two b [] h = refl
        two b (c ∷ bs) h = ap (λ i. if i && (nat_eq c 32 && true) then Some bs else None) h

-- Whether the text doesn't begin with `$`.
abbrev begins_plain : Text → Bool
begins_plain [] = true
begins_plain (b ∷ bs) = not (nat_eq b 36)

unmarked-text : (t : Text) → begins_plain t ≡ true → behind_mark (first_line t) ≡ None
unmarked-text [] h = refl
unmarked-text (b ∷ bs) h = not-marked b bs (not-true (nat_eq b 36) h)

-- the first line of what follows isn't marked
unmarked-rules : (es : List Ex) → behind_mark (first_line (text_of (such_that_lines es []))) ≡ None
unmarked-rules [] = refl
unmarked-rules (e ∷ es) = unmarked-text (text_of (such_that_lines (e ∷ es) [])) refl

unmarked-goal : (g : Goal) (es : List Ex) → behind_mark (first_line (text_of (goal_line g (such_that_lines es [])))) ≡ None
unmarked-goal no_goal es = unmarked-rules es
unmarked-goal (least e) es = unmarked-text (text_of (goal_line (least e) (such_that_lines es []))) refl
unmarked-goal (greatest e) es = unmarked-text (text_of (goal_line (greatest e) (such_that_lines es []))) refl

unmarked-finds : (fs : List TableDecl) (g : Goal) (es : List Ex) → behind_mark (first_line (text_of (declaration_lines find_word fs (goal_line g (such_that_lines es []))))) ≡ None
unmarked-finds [] g es = unmarked-goal g es
unmarked-finds (f ∷ fs) g es = unmarked-text (text_of (declaration_lines find_word (f ∷ fs) (goal_line g (such_that_lines es [])))) refl

unmarked : (m : Model) → behind_mark (first_line (text_of (declaration_lines given_word m.givens (declaration_lines find_word m.finds (goal_line m.goal (such_that_lines m.rules [])))))) ≡ None
unmarked m = go m.givens m.finds m.goal m.rules
  where
    go : (gs fs : List TableDecl) (g : Goal) (es : List Ex) → behind_mark (first_line (text_of (declaration_lines given_word gs (declaration_lines find_word fs (goal_line g (such_that_lines es [])))))) ≡ None
    go [] fs g es = unmarked-finds fs g es
    go (t ∷ gs) fs g es = unmarked-text (text_of (declaration_lines given_word (t ∷ gs) (declaration_lines find_word fs (goal_line g (such_that_lines es []))))) refl

-- ---- all of it

all-plain : (ls : List Text) → list_all is_head_line ls ≡ true → list_all (λ l. list_all plain_byte l) ls ≡ true
all-plain [] h = refl
all-plain (l ∷ ls) h =
    and-both (list_all plain_byte l) (list_all (λ l. list_all plain_byte l) ls)
    (and-right (is_utf8 l) (list_all plain_byte l) (and-left (is_head_line l) (list_all is_head_line ls) h)) (all-plain ls (and-right (is_head_line l) (list_all is_head_line ls) h))

all-utf8 : (ls : List Text) → list_all is_head_line ls ≡ true → utf8_lines ls ≡ ls
all-utf8 [] h = refl
all-utf8 (l ∷ ls) h =
    ap (λ i. if i then l ∷ utf8_lines ls else []) (and-left (is_utf8 l) (list_all plain_byte l) (and-left (is_head_line l) (list_all is_head_line ls) h))
    ∙ ap (λ x. l ∷ x) (all-utf8 ls (and-right (is_head_line l) (list_all is_head_line ls) h))

-- a text that begins with a language line has bytes enough for it
long-enough : (r : Text) → length (codes "language " ++ at_prime r) ≡ suc (suc (suc (suc (suc (suc (suc (length (codes "e ESSENCE' 1.0\n" ++ r))))))))
long-enough r = refl

behind-whole : (t r : Text) → t ≡ codes "language " ++ at_prime r → behind_language_line t ≡ codes "\n" ++ r
behind-whole t r e =
    ap (λ k. behind_in k 5 t) (ap length e ∙ long-enough r)
    ∙ ap (behind_in (suc (suc (suc (suc (suc (suc (suc (length (codes "e ESSENCE' 1.0\n" ++ r))))))))) 5) e
    ∙ behind-line (length (codes "e ESSENCE' 1.0\n" ++ r)) r

lines-of : (t r : Text) → t ≡ codes "language " ++ at_prime r → lines_under_language_line t ≡ marked_lines (length t) r
lines-of t r e = ap (λ x. marked_lines (length t) (next_lines x)) (behind-whole t r e) ∙ ap (marked_lines (length t)) (next-lines [] r refl)

header-of : (t : Text) (head : List Text) (us : List Piece) → t ≡ codes "language " ++ at_prime (text_of (head_lines head us)) → list_all is_head_line head ≡ true → behind_mark (first_line (text_of us)) ≡ None → header_lines t ≡ head
header-of t head us e h k =
    let r = text_of (head_lines head us) in
    let long = ap length e ∙ length-append (codes "language ESSENCE' 1.0\n") r in
    ap utf8_lines (lines-of t r e)
    ∙ ap utf8_lines (marked (length t) head us (all-plain head h) (omega (arith, bytes-enough head us, long)) k)
    ∙ all-utf8 head h

line-is : (us : List Piece) → text_of (language_line us) ≡ codes "language " ++ at_prime (text_of us)
unfolding digits
line-is us = refl

pub header-back : (head : List Text) (m : Model) → list_all is_head_line head ≡ true → header_lines (model_text head m) ≡ head
header-back head m h =
    let us = declaration_lines given_word m.givens (declaration_lines find_word m.finds (goal_line m.goal (such_that_lines m.rules []))) in
    header-of (model_text head m) head us (line-is (head_lines head us)) h (unmarked m)

-- Bytes before which each token of a printed text ends, and tokens that end before any byte.
use Rattle.std.proofs.Common.{◌≡◌, refl, sym, ap, ◌∙◌, subst, ℕ, ◌<◌, ◌^◌, Bool, true, false, ◌&&◌, ◌||◌, not, List, [], ◌∷◌, arith, nat_eq}
use Rattle.std.specs.Fmt.{decimal}
use Rattle.std.specs.List.{list_all, list_any}
use Rattle.std.proofs.lemmas.Bool.{and_parts, eqb-true, ltb-true}
use Rattle.std.proofs.lemmas.Bool.Decides.{nat_tests}
use Rattle.ess_semantics.specs.declared.words.Op2.{Op2}
use Rattle.ess_semantics.specs.declared.words.Fun.{Fun}
use Rattle.ess_grammar.specs.Words.{Text, Token, number, name, prime_word, word, operator, function, symbol, Word, language_word, given_word, find_word, letting_word, be_word, new_word, type_word, enum_word, domain_word, of_word, where_word, such_word, that_word, minimising_word, maximising_word, bool_word, int_word, tuple_word, record_word, matrix_word, indexed_word, by_word, set_word, mset_word, function_word, relation_word, partition_word, from_word, true_word, false_word, for_all_word, exists_word, Symbol, open_round, close_round, open_square, close_square, open_curly, close_curly, comma, semicolon, colon, dot, dots, bar, exclamation, maps_to, drawn_from}
use Rattle.ess_grammar.specs.Tokens.{is_digit, is_letter, is_name_byte, is_name}
use Rattle.ess_print_laws.specs.TokenTexts.{word_text, function_text, operator_text, symbol_text, token_text}
use Rattle.ess_print_laws.specs.Touching.{symbol_ends, ends_at, ends_before, is_printable}
use Rattle.ess_print_laws.proofs.Digits.{Writes, decimal-writes}
use Rattle.ess_print_laws.proofs.TokensBack.{name-of-subset}

-- A space, a line feed, `)`, `]`, `}`, `,`, `;`, `|`, `.`, `(` and `[`.
abbrev pub closing_bytes : List ℕ
closing_bytes = 32 ∷ 10 ∷ 41 ∷ 93 ∷ 125 ∷ 44 ∷ 59 ∷ 124 ∷ 46 ∷ 40 ∷ 91 ∷ []

-- Whether the text is at its end or begins with one of them.
abbrev pub closing : Text → Bool
closing [] = true
closing (b ∷ bs) = list_any (nat_eq b) closing_bytes

any-all : (p : ℕ → Bool) (b : ℕ) (cs : List ℕ) → list_all p cs ≡ true → list_any (nat_eq b) cs ≡ true → p b ≡ true
any-all p b [] h k = cc
any-all p b (c ∷ cs) h k = let parts = and_parts (p c) (list_all p cs) h in go (nat_eq b c) refl k parts.0 (any-all p b cs parts.1)
  where
    go : (i : Bool) → nat_eq b c ≡ i → (i || list_any (nat_eq b) cs) ≡ true → p c ≡ true → (list_any (nat_eq b) cs ≡ true → p b ≡ true) → p b ≡ true
    go true e q r ih = subst (λ n. p n ≡ true) (sym (eqb-true b c e)) r
    go false e q r ih = ih q

ends-by : (s r : Text) → list_all (ends_at s) closing_bytes ≡ true → closing r ≡ true → ends_before s r ≡ true
ends-by s [] h k = refl
ends-by s (b ∷ bs) h k = any-all (ends_at s) b closing_bytes h k

-- Whether the token is `.`, behind which another one would go on with it.
abbrev pub is_dot : Token → Bool
is_dot (symbol dot) = true
is_dot t = false

letter-closes : (c : ℕ) (cs : Text) → is_letter c ≡ true → list_all (ends_at (c ∷ cs)) closing_bytes ≡ true
letter-closes c cs h = ap (λ i. list_all (λ b. elim i [ true ↦ not (is_name_byte b) && not (nat_eq b 39) | false ↦ elim (is_digit c) [ true ↦ not (is_digit b) | false ↦ symbol_ends (c ∷ cs) b ] ]) closing_bytes) h

digit-closes : (c : ℕ) (cs : Text) → is_digit c ≡ true → list_all (ends_at (c ∷ cs)) closing_bytes ≡ true
digit-closes c cs h =
    let no : is_letter c ≡ false = grind (arith, nat_tests) in
    ap (λ i. list_all (λ b. elim i [ true ↦ not (is_name_byte b) && not (nat_eq b 39) | false ↦ elim (is_digit c) [ true ↦ not (is_digit b) | false ↦ symbol_ends (c ∷ cs) b ] ]) closing_bytes) no
    ∙ ap (λ i. list_all (λ b. elim i [ true ↦ not (is_digit b) | false ↦ symbol_ends (c ∷ cs) b ]) closing_bytes) h

name-closes : (a : Text) → is_name a ≡ true → list_all (ends_at a) closing_bytes ≡ true
name-closes [] h = cc
name-closes (c ∷ cs) h = letter-closes c cs (and_parts (is_letter c) (list_all is_name_byte cs) h).0

number-closes : (n : ℕ) (ds : Text) → Writes n ds → list_all (ends_at ds) closing_bytes ≡ true
number-closes n [] w = absurd (omega (arith, w.some))
number-closes n (c ∷ cs) w = digit-closes c cs (and_parts (is_digit c) (list_all is_digit cs) w.digits).0

word-closes : (x : Word) → list_all (ends_at (word_text x)) closing_bytes ≡ true
word-closes language_word = refl
word-closes given_word = refl
word-closes find_word = refl
word-closes letting_word = refl
word-closes be_word = refl
word-closes new_word = refl
word-closes type_word = refl
word-closes enum_word = refl
word-closes domain_word = refl
word-closes of_word = refl
word-closes where_word = refl
word-closes such_word = refl
word-closes that_word = refl
word-closes minimising_word = refl
word-closes maximising_word = refl
word-closes bool_word = refl
word-closes int_word = refl
word-closes tuple_word = refl
word-closes record_word = refl
word-closes matrix_word = refl
word-closes indexed_word = refl
word-closes by_word = refl
word-closes set_word = refl
word-closes mset_word = refl
word-closes function_word = refl
word-closes relation_word = refl
word-closes partition_word = refl
word-closes from_word = refl
word-closes true_word = refl
word-closes false_word = refl
word-closes for_all_word = refl
word-closes exists_word = refl

function-closes : (x : Fun) → list_all (ends_at (function_text x)) closing_bytes ≡ true
function-closes Fun.Sum = refl
function-closes Fun.Product = refl
function-closes Fun.And = refl
function-closes Fun.Or = refl
function-closes Fun.Min = refl
function-closes Fun.Max = refl
function-closes Fun.AllDiff = refl
function-closes Fun.ToInt = refl
function-closes Fun.Image = refl
function-closes Fun.PreImage = refl
function-closes Fun.Defined = refl
function-closes Fun.Range = refl
function-closes Fun.ToSet = refl
function-closes Fun.ToMSet = refl
function-closes Fun.ToRelation = refl
function-closes Fun.Freq = refl
function-closes Fun.Parts = refl
function-closes Fun.Party = refl
function-closes Fun.Participants = refl
function-closes Fun.Together = refl

operator-closes : (x : Op2) → list_all (ends_at (operator_text x)) closing_bytes ≡ true
operator-closes Op2.Member = refl
operator-closes Op2.Subset = refl
operator-closes Op2.SubsetEq = refl
operator-closes Op2.Supset = refl
operator-closes Op2.SupsetEq = refl
operator-closes Op2.Union = refl
operator-closes Op2.Intersect = refl
operator-closes Op2.Eq = refl
operator-closes Op2.Ne = refl
operator-closes Op2.Lt = refl
operator-closes Op2.Le = refl
operator-closes Op2.Gt = refl
operator-closes Op2.Ge = refl
operator-closes Op2.Plus = refl
operator-closes Op2.Minus = refl
operator-closes Op2.Times = refl
operator-closes Op2.Div = refl
operator-closes Op2.Mod = refl
operator-closes Op2.Pow = refl
operator-closes Op2.And = refl
operator-closes Op2.Or = refl
operator-closes Op2.Implies = refl
operator-closes Op2.Iff = refl
operator-closes Op2.LexLt = refl
operator-closes Op2.LexLe = refl
operator-closes Op2.LexGt = refl
operator-closes Op2.LexGe = refl

symbol-closes : (x : Symbol) → is_dot (symbol x) ≡ false → list_all (ends_at (symbol_text x)) closing_bytes ≡ true
symbol-closes open_round h = refl
symbol-closes close_round h = refl
symbol-closes open_square h = refl
symbol-closes close_square h = refl
symbol-closes open_curly h = refl
symbol-closes close_curly h = refl
symbol-closes comma h = refl
symbol-closes semicolon h = refl
symbol-closes colon h = refl
symbol-closes dot h = cc
symbol-closes dots h = refl
symbol-closes bar h = refl
symbol-closes exclamation h = refl
symbol-closes maps_to h = refl
symbol-closes drawn_from h = refl

token-closes : (t : Token) → is_printable t ≡ true → is_dot t ≡ false → list_all (ends_at (token_text t)) closing_bytes ≡ true
token-closes (number n) h k = number-closes n (decimal n) (decimal-writes n (let b : n < 2 ^ 63 = ltb-true n (2 ^ 63) h in omega arith))
token-closes (name a) h k = name-closes a (name-of-subset a h).named
token-closes prime_word h k = refl
token-closes (word w) h k = word-closes w
token-closes (operator o) h k = operator-closes o
token-closes (function f) h k = function-closes f
token-closes (symbol s) h k = symbol-closes s k

-- Each token but `.` ends before a closing byte.
pub token-ends : (t : Token) (r : Text) → is_printable t ≡ true → is_dot t ≡ false → closing r ≡ true → ends_before (token_text t) r ≡ true
token-ends t r h k q = ends-by (token_text t) r (token-closes t h k) q

-- Whether the symbol ends before any byte.
abbrev pub is_free : Symbol → Bool
is_free dot = false
is_free exclamation = false
is_free drawn_from = false
is_free s = true

free-at : (s : Symbol) → is_free s ≡ true → (b : ℕ) → ends_at (symbol_text s) b ≡ true
free-at open_round h b = refl
free-at close_round h b = refl
free-at open_square h b = refl
free-at close_square h b = refl
free-at open_curly h b = refl
free-at close_curly h b = refl
free-at comma h b = refl
free-at semicolon h b = refl
free-at colon h b = refl
free-at dot h b = cc
free-at dots h b = refl
free-at bar h b = refl
free-at exclamation h b = cc
free-at maps_to h b = refl
free-at drawn_from h b = cc

pub free-ends : (s : Symbol) (r : Text) → is_free s ≡ true → ends_before (symbol_text s) r ≡ true
free-ends s [] h = refl
free-ends s (b ∷ bs) h = free-at s h b

-- ---- what may stand behind a prefix

-- Whether a letter, a digit, `(`, `[`, `{` or `|` comes first.
abbrev pub begins_operand : Text → Bool
begins_operand [] = false
begins_operand (b ∷ bs) = is_name_byte b || list_any (nat_eq b) (40 ∷ 91 ∷ 123 ∷ 124 ∷ [])

pub minus-ends : (r : Text) → begins_operand r ≡ true → ends_before (operator_text Op2.Minus) r ≡ true
minus-ends [] h = cc
minus-ends (b ∷ bs) h = grind (arith, nat_tests)

pub exclamation-ends : (r : Text) → begins_operand r ≡ true → ends_before (symbol_text exclamation) r ≡ true
exclamation-ends [] h = cc
exclamation-ends (b ∷ bs) h = grind (arith, nat_tests)

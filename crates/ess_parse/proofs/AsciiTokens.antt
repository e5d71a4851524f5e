-- The bytes of a text's tokens are ASCII.
use Rattle.std.proofs.Common.{◌≡◌, refl, sym, subst, ℕ, zero, suc, ◌<◌, Bool, true, false, ◌&&◌, not, List, [], ◌∷◌, ◌++◌, take, drop, length, Option, Some, None, nat_lt, arith, if◌then◌else◌}
use Rattle.std.proofs.lemmas.Bool.Decides.{nat_tests}
use Rattle.std.proofs.lemmas.Bool.{ltb-true}
use Rattle.std.proofs.lemmas.Slice.Eq.{bytes_eq-Decides}
use Rattle.std.specs.List.{list_all}
use Rattle.std.specs.Str.{IsAscii, bytes_eq}
use Rattle.ess_rows.specs.declared.place.Place.{Place}
use Rattle.ess_semantics.specs.Values.{Text}
use Rattle.ess_semantics.specs.Names.{look_by}
use Rattle.ess_semantics.proofs.Tests.{and-left, and-right}
use Rattle.ess_grammar.specs.Words.{Token, number, prime_word, symbols, lex_symbols}
use Rattle.ess_grammar.specs.Places.{place}
use Rattle.ess_grammar.specs.Tokens.{is_digit, is_letter, is_name_byte, is_name, is_number, is_white, begins_comment, begins_with_name_byte, comment_length, value_of, or_else, only_if, name_or_word, symbol_of, prime_text, token_of, longest, longest_token, is_wide, Lexed, the_end, bad_byte, wide_number, next_token, token_first, first, lexed_in, lexed}

-- ---- bytes

-- Whether each byte is ASCII.
abbrev is_all_ascii : Text → Bool
is_all_ascii bs = list_all (λ b. nat_lt b 128) bs

ascii-from : (bs : Text) → is_all_ascii bs ≡ true → IsAscii bs
ascii-from [] h i = omega arith
ascii-from (b ∷ bs) h zero = ltb-true b 128 (and-left (nat_lt b 128) (is_all_ascii bs) h)
ascii-from (b ∷ bs) h (suc i) = ascii-from bs (and-right (nat_lt b 128) (is_all_ascii bs) h) i

digit-ascii : (b : ℕ) → is_digit b ≡ true → b < 128
digit-ascii b h = grind (arith, nat_tests)

letter-ascii : (b : ℕ) → is_letter b ≡ true → b < 128
letter-ascii b h = grind (arith, nat_tests)

name_byte-ascii : (b : ℕ) → is_name_byte b ≡ true → b < 128
name_byte-ascii b h = grind (arith, nat_tests)

each-ascii : (p : ℕ → Bool) → ((b : ℕ) → p b ≡ true → b < 128) → (bs : Text) → list_all p bs ≡ true → IsAscii bs
each-ascii p f [] h i = omega arith
each-ascii p f (b ∷ bs) h zero = f b (and-left (p b) (list_all p bs) h)
each-ascii p f (b ∷ bs) h (suc i) = each-ascii p f bs (and-right (p b) (list_all p bs) h) i

cons-ascii : (b : ℕ) (bs : Text) → b < 128 → IsAscii bs → IsAscii (b ∷ bs)
cons-ascii b bs h k zero = h
cons-ascii b bs h k (suc i) = k i

number-ascii : (t : Text) → is_number t ≡ true → IsAscii t
number-ascii [] h = cc
number-ascii (b ∷ bs) h = each-ascii is_digit digit-ascii (b ∷ bs) h

name-ascii : (t : Text) → is_name t ≡ true → IsAscii t
name-ascii [] h = cc
name-ascii (b ∷ bs) h =
    cons-ascii b bs (letter-ascii b (and-left (is_letter b) (list_all is_name_byte bs) h)) (each-ascii is_name_byte name_byte-ascii bs (and-right (is_letter b) (list_all is_name_byte bs) h))

-- ---- one token

-- Where there is a token, the bytes are ASCII.
abbrev AsciiIf : Option Token → Text → Type 0
AsciiIf None t = Unit {0}
AsciiIf (Some x) t = IsAscii t

all-ascii : (o : Option Token) (t : Text) → IsAscii t → AsciiIf o t
all-ascii None t h = tt
all-ascii (Some x) t h = h

either-ascii : (o p : Option Token) (t : Text) → AsciiIf o t → AsciiIf p t → AsciiIf (or_else o p) t
either-ascii None p t h k = k
either-ascii (Some x) p t h k = h

only-ascii : (b : Bool) (o : Option Token) (t : Text) → (b ≡ true → AsciiIf o t) → AsciiIf (only_if b o) t
only-ascii true o t h = h refl
only-ascii false o t h = tt

-- Whether the texts of a table are ASCII.
abbrev is_ascii_table : List (Text × Token) → Bool
is_ascii_table [] = true
is_ascii_table (e ∷ es) = is_all_ascii e.0 && is_ascii_table es

same-ascii : (s t : Text) → is_all_ascii s ≡ true → bytes_eq s t ≡ true → IsAscii t
same-ascii s t h k = subst IsAscii ((bytes_eq-Decides s t).0 k) (ascii-from s h)

by_test : {X : Type 0} (b : Bool) (P : X → Type 0) (x y : X) → (b ≡ true → P x) → (b ≡ false → P y) → P (elim b [ true ↦ x | false ↦ y ])
by_test true P x y f g = f refl
by_test false P x y f g = g refl

by_choice : {X : Type 0} (b : Bool) (P : X → Type 0) (x y : X) → (b ≡ true → P x) → (b ≡ false → P y) → P (if b then x else y)
by_choice true P x y f g = f refl
by_choice false P x y f g = g refl

table-ascii : (es : List (Text × Token)) (t : Text) → is_ascii_table es ≡ true → AsciiIf (look_by bytes_eq es t) t
table-ascii [] t h = tt
table-ascii (e ∷ es) t h =
    by_choice (bytes_eq e.0 t) (λ o. AsciiIf o t) (Some e.1) (look_by bytes_eq es t)
    (λ q. same-ascii e.0 t (and-left (is_all_ascii e.0) (is_ascii_table es) h) q) (λ q. table-ascii es t (and-right (is_all_ascii e.0) (is_ascii_table es) h))

symbol-ascii : (t rest : Text) → AsciiIf (symbol_of t rest) t
symbol-ascii t rest =
    either-ascii (look_by bytes_eq symbols t) (only_if (not (begins_with_name_byte rest)) (look_by bytes_eq lex_symbols t)) t
    (table-ascii symbols t refl) (only-ascii (not (begins_with_name_byte rest)) (look_by bytes_eq lex_symbols t) t
    (λ h. table-ascii lex_symbols t refl))

token-ascii : (t rest : Text) → AsciiIf (token_of t rest) t
token-ascii t rest =
    either-ascii (only_if (is_number t) (Some (number (value_of t))))
    (or_else (only_if (is_name t) (name_or_word t)) (or_else (only_if (bytes_eq t prime_text) (Some prime_word)) (symbol_of t rest))) t
    (only-ascii (is_number t) (Some (number (value_of t))) t (λ h. number-ascii t h))
    (either-ascii (only_if (is_name t) (name_or_word t)) (or_else (only_if (bytes_eq t prime_text) (Some prime_word)) (symbol_of t rest)) t
    (only-ascii (is_name t) (name_or_word t) t (λ h. all-ascii (name_or_word t) t (name-ascii t h)))
    (either-ascii (only_if (bytes_eq t prime_text) (Some prime_word)) (symbol_of t rest) t
    (only-ascii (bytes_eq t prime_text) (Some prime_word) t
    (λ h. subst IsAscii (sym ((bytes_eq-Decides t prime_text).0 h)) (ascii-from prime_text refl))) (symbol-ascii t rest)))

-- ---- the longest token

-- The bytes of the token that is found.
abbrev AsciiFound : Text → Option (Token × ℕ) → Type 0
AsciiFound bs None = Unit {0}
AsciiFound bs (Some f) = IsAscii (take f.1 bs)

found-ascii : (bs : Text) (o : Option Token) (n : ℕ) (r : Option (Token × ℕ)) → AsciiIf o (take n bs) → AsciiFound bs r → AsciiFound bs (elim o [ Some t ↦ Some (t, n) | None ↦ r ])
found-ascii bs None n r h k = k
found-ascii bs (Some t) n r h k = h

longest-ascii : (n : ℕ) (bs : Text) → AsciiFound bs (longest token_of n bs)
longest-ascii zero bs = tt
longest-ascii (suc n) bs = found-ascii bs (token_of (take (suc n) bs) (drop (suc n) bs)) (suc n) (longest token_of n bs) (token-ascii (take (suc n) bs) (drop (suc n) bs)) (longest-ascii n bs)

-- ---- all tokens

-- The bytes of each token are ASCII.
abbrev pub AreAscii : Lexed → Type 0
AreAscii the_end = Unit {0}
AreAscii (bad_byte p) = Unit {0}
AreAscii (wide_number p) = Unit {0}
AreAscii (next_token t bytes p more) = IsAscii bytes × AreAscii more

token-first : (p : Place) (bs : Text) (o : Option (Token × ℕ)) (more : ℕ → Lexed) → AsciiFound bs o → ((n : ℕ) → AreAscii (more n)) → AreAscii (token_first p bs o more)
token-first p bs None more h k = tt
token-first p bs (Some f) more h k =
    by_test (is_wide f.0) AreAscii (wide_number p) (next_token f.0 (take f.1 bs) p (more f.1)) (λ q. tt) (λ q. (h, k f.1))

first-ascii : (p : Place) (bs : Text) (more : ℕ → Lexed) → ((n : ℕ) → AreAscii (more n)) → AreAscii (first p bs more)
first-ascii p [] more k = tt
first-ascii p (b ∷ bs) more k =
    by_test (is_white b) AreAscii (more 1)
    (elim (begins_comment b) [ true ↦ more (comment_length (b ∷ bs)) | false ↦ token_first p (b ∷ bs) (longest_token (b ∷ bs)) more ])
    (λ h. k 1)
    (λ h. by_test (begins_comment b) AreAscii (more (comment_length (b ∷ bs))) (token_first p (b ∷ bs) (longest_token (b ∷ bs)) more)
    (λ q. k (comment_length (b ∷ bs)))
    (λ q. token-first p (b ∷ bs) (longest_token (b ∷ bs)) more (longest-ascii (length (b ∷ bs)) (b ∷ bs)) k))

lexed_in-ascii : (turns : ℕ) (before text : Text) → AreAscii (lexed_in turns before text)
lexed_in-ascii zero before text = tt
lexed_in-ascii (suc turns) before text = first-ascii (place before) text (λ n. lexed_in turns (before ++ take n text) (drop n text)) (λ n. lexed_in-ascii turns (before ++ take n text) (drop n text))

-- The bytes of each token of a text are ASCII.
pub lexed-ascii : (text : Text) → AreAscii (lexed text)
lexed-ascii text = lexed_in-ascii (length text) [] text

-- The same of the first token of a text, and of those behind it.
pub front-ascii : (t : Token) (bytes : Text) (p : Place) (more all : Lexed) → next_token t bytes p more ≡ all → AreAscii all → IsAscii bytes × AreAscii more
front-ascii t bytes p more all e h = subst AreAscii (sym e) h

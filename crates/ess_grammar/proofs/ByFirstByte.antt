-- Which tokens a text may be, by its first byte.
use Rattle.std.proofs.Common.{◌≡◌, refl, ap, ◌∙◌, subst, ℕ, Bool, true, false, ◌&&◌, not, List, [], ◌∷◌, Option, Some, None, nat_eq, arith, if◌then◌else◌}
use Rattle.std.proofs.lemmas.Bool.{not-true, and_parts, and_left, false_from_ne_true, eqb-true}
use Rattle.std.proofs.lemmas.Bool.Decides.{nat_tests}
use Rattle.std.specs.List.{list_all}
use Rattle.std.specs.Str.{bytes_eq}
use Rattle.ess_semantics.specs.Names.{look_by}
use Rattle.ess_grammar.specs.Words.{Text, Token, number, prime_word, symbols, lex_symbols}
use Rattle.ess_grammar.specs.Tokens.{is_digit, is_letter, is_name_byte, begins_with_name_byte, name_or_word, prime_text, symbol_of, token_of, or_else, only_if, value_of}

-- no entry of the table begins with a byte that passes
abbrev pub starts_with_no : (ℕ → Bool) → List (Text × Token) → Bool
starts_with_no p [] = true
starts_with_no p (e ∷ es) = elim e.0 [ [] ↦ false | b ∷ bs ↦ not (p b) && starts_with_no p es ]

pub differs : (p : ℕ → Bool) (c b : ℕ) → p c ≡ false → p b ≡ true → nat_eq c b ≡ false
differs p c b h k = false_from_ne_true (nat_eq c b) (λ q. let e : c ≡ b = eqb-true c b q in cc)

pub no_look : (p : ℕ → Bool) (es : List (Text × Token)) (b : ℕ) (t : Text) → starts_with_no p es ≡ true → p b ≡ true →
    look_by bytes_eq es (b ∷ t) ≡ None
no_look p [] b t h k = refl
no_look p (([], x) ∷ es) b t h k = cc
no_look p ((c ∷ cs, x) ∷ es) b t h k =
    let parts = and_parts (not (p c)) (starts_with_no p es) h in
    ap (λ i. if i && bytes_eq cs t then Some x else look_by bytes_eq es (b ∷ t)) (differs p c b (not-true (p c) parts.0) k)
    ∙ no_look p es b t parts.1 k

-- ---- letters

letter_is_no_digit : (b : ℕ) → is_letter b ≡ true → is_digit b ≡ false
letter_is_no_digit b h = grind (arith, nat_tests)

only_none : (i : Bool) → only_if {A = Token} i None ≡ None
only_none true = refl
only_none false = refl

no_symbol : (p : ℕ → Bool) (b : ℕ) (t rest : Text) → starts_with_no p symbols ≡ true → starts_with_no p lex_symbols ≡ true → p b ≡ true →
    symbol_of (b ∷ t) rest ≡ None
no_symbol p b t rest h k l =
    ap (λ o. or_else o (only_if (not (begins_with_name_byte rest)) (look_by bytes_eq lex_symbols (b ∷ t)))) (no_look p symbols b t h l)
    ∙ ap (only_if (not (begins_with_name_byte rest))) (no_look p lex_symbols b t k l)
    ∙ only_none (not (begins_with_name_byte rest))

-- a text that begins with a letter
abbrev pub letter_token : Text → Text → Option Token
letter_token t whole =
    or_else (only_if (list_all is_name_byte t) (name_or_word whole)) (or_else (only_if (bytes_eq whole prime_text) (Some prime_word)) None)

pub token_of-letter : (b : ℕ) (t rest : Text) → is_letter b ≡ true → token_of (b ∷ t) rest ≡ letter_token t (b ∷ t)
token_of-letter b t rest h =
    ap (λ i. or_else (only_if (i && list_all is_digit t) (Some (number (value_of (b ∷ t)))))
    (or_else (only_if (is_letter b && list_all is_name_byte t) (name_or_word (b ∷ t)))
    (or_else (only_if (bytes_eq (b ∷ t) prime_text) (Some prime_word)) (symbol_of (b ∷ t) rest)))) (letter_is_no_digit b h)
    ∙ ap (λ i. or_else (only_if (i && list_all is_name_byte t) (name_or_word (b ∷ t)))
    (or_else (only_if (bytes_eq (b ∷ t) prime_text) (Some prime_word)) (symbol_of (b ∷ t) rest))) h
    ∙ ap (λ o. or_else (only_if (list_all is_name_byte t) (name_or_word (b ∷ t)))
    (or_else (only_if (bytes_eq (b ∷ t) prime_text) (Some prime_word)) o)) (no_symbol is_letter b t rest refl refl h)

-- ---- digits

digit_is_no_letter : (b : ℕ) → is_digit b ≡ true → is_letter b ≡ false
digit_is_no_letter b h = grind (arith, nat_tests)

no_prime : (b : ℕ) (t : Text) → is_letter b ≡ false → bytes_eq (b ∷ t) prime_text ≡ false
no_prime b t h = and_left (nat_eq b 69) _ (false_from_ne_true (nat_eq b 69)
    (λ q. let e : b ≡ 69 = eqb-true b 69 q in let k : is_letter 69 ≡ false = subst (λ n. is_letter n ≡ false) e h in cc))

-- a text that begins with a digit
abbrev pub digit_token : Text → Text → Option Token
digit_token t whole = only_if (list_all is_digit t) (Some (number (value_of whole)))

or_none : (o : Option Token) → or_else o None ≡ o
or_none None = refl
or_none (Some x) = refl

pub token_of-digit : (b : ℕ) (t rest : Text) → is_digit b ≡ true → token_of (b ∷ t) rest ≡ digit_token t (b ∷ t)
token_of-digit b t rest h =
    ap (λ i. or_else (only_if (i && list_all is_digit t) (Some (number (value_of (b ∷ t)))))
    (or_else (only_if (is_letter b && list_all is_name_byte t) (name_or_word (b ∷ t)))
    (or_else (only_if (bytes_eq (b ∷ t) prime_text) (Some prime_word)) (symbol_of (b ∷ t) rest)))) h
    ∙ ap (or_else (digit_token t (b ∷ t)))
    (ap (λ i. or_else (only_if (i && list_all is_name_byte t) (name_or_word (b ∷ t)))
    (or_else (only_if (bytes_eq (b ∷ t) prime_text) (Some prime_word)) (symbol_of (b ∷ t) rest))) (digit_is_no_letter b h)
    ∙ ap (λ i. or_else (only_if i (Some prime_word)) (symbol_of (b ∷ t) rest)) (no_prime b t (digit_is_no_letter b h))
    ∙ no_symbol is_digit b t rest refl refl h)
    ∙ or_none (digit_token t (b ∷ t))

-- ---- other bytes

pub token_of-other : (b : ℕ) (t rest : Text) → is_letter b ≡ false → is_digit b ≡ false → token_of (b ∷ t) rest ≡ symbol_of (b ∷ t) rest
token_of-other b t rest h k =
    ap (λ i. or_else (only_if (i && list_all is_digit t) (Some (number (value_of (b ∷ t)))))
    (or_else (only_if (is_letter b && list_all is_name_byte t) (name_or_word (b ∷ t)))
    (or_else (only_if (bytes_eq (b ∷ t) prime_text) (Some prime_word)) (symbol_of (b ∷ t) rest)))) k
    ∙ ap (λ i. or_else (only_if (i && list_all is_name_byte t) (name_or_word (b ∷ t)))
    (or_else (only_if (bytes_eq (b ∷ t) prime_text) (Some prime_word)) (symbol_of (b ∷ t) rest))) h
    ∙ ap (λ i. or_else (only_if i (Some prime_word)) (symbol_of (b ∷ t) rest)) (no_prime b t h)

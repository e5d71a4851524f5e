-- The tokens of a text without words outside the subset are proper. So what the rules give for a text that is read is readable.
use Rattle.std.proofs.Common.{◌≡◌, refl, sym, ap, subst, ℕ, zero, suc, ◌^◌, Bool, true, false, ◌&&◌, not, List, [], ◌∷◌, ◌++◌, take, drop, length, Option, Some, None, if◌then◌else◌}
use borrow.Author.Tests.{leb-false, lt-ltb}
use Rattle.std.specs.Option.{is_some, option_map}
use Rattle.std.specs.Str.{bytes_eq}
use Rattle.ess_rows.specs.declared.place.Place.{Place}
use Rattle.ess_semantics.specs.Values.{Text}
use Rattle.ess_semantics.specs.Trees.{Stm}
use Rattle.ess_semantics.specs.Names.{look_by}
use Rattle.ess_semantics.proofs.Tests.{and-left, and-right, and-both}
use Rattle.ess_grammar.specs.Words.{Token, number, name, prime_word, word, operator, function, symbol, words, symbols, lex_symbols, is_outside}
use Rattle.ess_grammar.specs.Places.{place}
use Rattle.ess_grammar.specs.Tokens.{is_name, is_number, is_white, begins_comment, begins_with_name_byte, comment_length, value_of, or_else, only_if, name_or_word, symbol_of, prime_text, token_of, longest, longest_token, is_wide, Lexed, the_end, bad_byte, wide_number, next_token, token_first, first, lexed_in, lexed, tokens_in, tokens, first_outside}
use Rattle.ess_grammar.specs.Readable.{ReadableStms, ReadableLettings}
use Rattle.ess_grammar.specs.Texts.{ReadsSpecification, ReadsLettings}
use Rattle.ess_grammar.proofs.ReadableTrees.{is_proper, Proper}
use Rattle.ess_grammar.proofs.ReadableStatements.{specification-readable, lettings-readable}

-- a name token is a name and no reserved word
abbrev is_named : Token → Bool
is_named (name a) = is_name a && not (is_some (look_by bytes_eq words a))
is_named t = true

abbrev is_nameless : Token → Bool
is_nameless (name a) = false
is_nameless t = true

abbrev are_nameless : List (Text × Token) → Bool
are_nameless [] = true
are_nameless (e ∷ es) = is_nameless e.1 && are_nameless es

abbrev Named : Option Token → Type 0
Named None = Unit {0}
Named (Some t) = is_named t ≡ true

nameless-named : (t : Token) → is_nameless t ≡ true → is_named t ≡ true
nameless-named (name a) h = cc
nameless-named _ h = refl

by_test : {X : Type 0} (b : Bool) (P : X → Type 0) (x y : X) → (b ≡ true → P x) → (b ≡ false → P y) → P (elim b [ true ↦ x | false ↦ y ])
by_test true P x y f g = f refl
by_test false P x y f g = g refl

by_choice : {X : Type 0} (b : Bool) (P : X → Type 0) (x y : X) → (b ≡ true → P x) → (b ≡ false → P y) → P (if b then x else y)
by_choice true P x y f g = f refl
by_choice false P x y f g = g refl

table-named : (es : List (Text × Token)) (t : Text) → are_nameless es ≡ true → Named (look_by bytes_eq es t)
table-named [] t h = tt
table-named (e ∷ es) t h =
    by_choice (bytes_eq e.0 t) Named (Some e.1) (look_by bytes_eq es t)
    (λ q. nameless-named e.1 (and-left (is_nameless e.1) (are_nameless es) h))
    (λ q. table-named es t (and-right (is_nameless e.1) (are_nameless es) h))

either-named : (o p : Option Token) → Named o → Named p → Named (or_else o p)
either-named None p h k = k
either-named (Some t) p h k = h

only-named : (b : Bool) (o : Option Token) → (b ≡ true → Named o) → Named (only_if b o)
only-named true o h = h refl
only-named false o h = tt

word-named : (o : Option Token) (t : Text) → Named o → is_name t ≡ true → o ≡ look_by bytes_eq words t → Named (or_else o (Some (name t)))
word-named None t h k q = and-both (is_name t) (not (is_some (look_by bytes_eq words t))) k (ap (λ o. not (is_some o)) (sym q))
word-named (Some x) t h k q = h

symbol-named : (t rest : Text) → Named (symbol_of t rest)
symbol-named t rest =
    either-named (look_by bytes_eq symbols t) (only_if (not (begins_with_name_byte rest)) (look_by bytes_eq lex_symbols t))
    (table-named symbols t refl) (only-named (not (begins_with_name_byte rest)) (look_by bytes_eq lex_symbols t)
    (λ h. table-named lex_symbols t refl))

token-named : (t rest : Text) → Named (token_of t rest)
token-named t rest =
    either-named (only_if (is_number t) (Some (number (value_of t))))
    (or_else (only_if (is_name t) (name_or_word t)) (or_else (only_if (bytes_eq t prime_text) (Some prime_word)) (symbol_of t rest)))
    (only-named (is_number t) (Some (number (value_of t))) (λ h. refl))
    (either-named (only_if (is_name t) (name_or_word t)) (or_else (only_if (bytes_eq t prime_text) (Some prime_word)) (symbol_of t rest))
    (only-named (is_name t) (name_or_word t) (λ h. word-named (look_by bytes_eq words t) t (table-named words t refl) h refl))
    (either-named (only_if (bytes_eq t prime_text) (Some prime_word)) (symbol_of t rest)
    (only-named (bytes_eq t prime_text) (Some prime_word) (λ h. refl)) (symbol-named t rest)))

abbrev NamedFirst : Option (Token × ℕ) → Type 0
NamedFirst None = Unit {0}
NamedFirst (Some f) = is_named f.0 ≡ true

found-named : (o : Option Token) (n : ℕ) (r : Option (Token × ℕ)) → Named o → NamedFirst r →
    NamedFirst (elim o [ Some t ↦ Some (t, n) | None ↦ r ])
found-named None n r h k = k
found-named (Some t) n r h k = h

longest-named : (n : ℕ) (bs : Text) → NamedFirst (longest token_of n bs)
longest-named zero bs = tt
longest-named (suc n) bs = found-named (token_of (take (suc n) bs) (drop (suc n) bs)) (suc n) (longest token_of n bs)
    (token-named (take (suc n) bs) (drop (suc n) bs)) (longest-named n bs)

-- ---- all tokens

abbrev AllNamed : Lexed → Type 0
AllNamed the_end = Unit {0}
AllNamed (bad_byte p) = Unit {0}
AllNamed (wide_number p) = Unit {0}
AllNamed (next_token t bytes p more) = (is_named t ≡ true) × (is_wide t ≡ false) × AllNamed more

token-first : (p : Place) (bs : Text) (o : Option (Token × ℕ)) (more : ℕ → Lexed) → NamedFirst o → ((n : ℕ) → AllNamed (more n)) →
    AllNamed (token_first p bs o more)
token-first p bs None more h k = tt
token-first p bs (Some f) more h k =
    by_test (is_wide f.0) AllNamed (wide_number p) (next_token f.0 (take f.1 bs) p (more f.1)) (λ q. tt) (λ q. (h, q, k f.1))

first-named : (p : Place) (bs : Text) (more : ℕ → Lexed) → ((n : ℕ) → AllNamed (more n)) → AllNamed (first p bs more)
first-named p [] more k = tt
first-named p (b ∷ bs) more k =
    by_test (is_white b) AllNamed (more 1)
    (elim (begins_comment b) [ true ↦ more (comment_length (b ∷ bs)) | false ↦ token_first p (b ∷ bs) (longest_token (b ∷ bs)) more ])
    (λ h. k 1)
    (λ h. by_test (begins_comment b) AllNamed (more (comment_length (b ∷ bs))) (token_first p (b ∷ bs) (longest_token (b ∷ bs)) more)
    (λ q. k (comment_length (b ∷ bs)))
    (λ q. token-first p (b ∷ bs) (longest_token (b ∷ bs)) more (longest-named (length (b ∷ bs)) (b ∷ bs)) k))

lexed-named : (turns : ℕ) (before text : Text) → AllNamed (lexed_in turns before text)
lexed-named zero before text = tt
lexed-named (suc turns) before text = first-named (place before) text (λ n. lexed_in turns (before ++ take n text) (drop n text))
    (λ n. lexed-named turns (before ++ take n text) (drop n text))

named-proper : (t : Token) → is_named t ≡ true → is_wide t ≡ false → is_outside t ≡ false → is_proper t ≡ true
named-proper (number n) h w o = lt-ltb n (2 ^ 63) (leb-false (2 ^ 63) n w)
named-proper (name a) h w o =
    and-both (is_name a) (not (is_some (look_by bytes_eq words a)) && not (is_outside (name a)))
    (and-left (is_name a) (not (is_some (look_by bytes_eq words a))) h)
    (and-both (not (is_some (look_by bytes_eq words a))) (not (is_outside (name a)))
    (and-right (is_name a) (not (is_some (look_by bytes_eq words a))) h) (ap not o))
named-proper prime_word h w o = refl
named-proper (word x) h w o = refl
named-proper (operator x) h w o = refl
named-proper (function x) h w o = refl
named-proper (symbol x) h w o = refl

-- the first token of a text that is no word outside the subset, and those behind it
abbrev or_place : Bool → Place → Option Place → Option Place
or_place b p o = elim b [ true ↦ Some p | false ↦ o ]

not-outside : (b : Bool) (p : Place) (o : Option Place) → or_place b p o ≡ None → (b ≡ false) × (o ≡ None)
not-outside true p o h = cc
not-outside false p o h = (refl, h)

record Split (t : Token) (o : Option (List Token)) (ts : List Token) : Type 0 where
  us : List Token
  is : o ≡ Some us
  whole : t ∷ us ≡ ts

split : (t : Token) (o : Option (List Token)) (ts : List Token) → option_map (λ ts. t ∷ ts) o ≡ Some ts → Split t o ts
split t None ts h = cc
split t (Some us) ts h = record { us = us; is = refl; whole = cc }

all-proper : (l : Lexed) (ts : List Token) → AllNamed l → tokens_in l ≡ Some ts → first_outside l ≡ None → Proper ts
all-proper the_end ts a h o = subst Proper (let k : [] ≡ ts = cc in k) tt
all-proper (bad_byte p) ts a h o = cc
all-proper (wide_number p) ts a h o = cc
all-proper (next_token t bytes p more) ts a h o =
    let s = split t (tokens_in more) ts h in
    let n = not-outside (is_outside t) p (first_outside more) o in
    subst Proper s.whole (named-proper t a.0 a.1 n.0, all-proper more s.us a.2 s.is n.1)

-- the tokens of a text without words outside the subset
pub tokens-proper : (text : Text) (ts : List Token) → tokens text ≡ Some ts → first_outside (lexed text) ≡ None → Proper ts
tokens-proper text ts h o = all-proper (lexed text) ts (lexed-named (length text) [] text) h o

-- what is read is readable
pub specification-text-readable : (text : Text) (ss : List Stm) → ReadsSpecification text ss → first_outside (lexed text) ≡ None →
    ReadableStms ss
specification-text-readable text ss r o = specification-readable r.2 (tokens-proper text r.0 r.1 o)

pub lettings-text-readable : (text : Text) (ss : List Stm) → ReadsLettings text ss → first_outside (lexed text) ≡ None → ReadableLettings ss
lettings-text-readable text ss r o = lettings-readable r.2 (tokens-proper text r.0 r.1 o)

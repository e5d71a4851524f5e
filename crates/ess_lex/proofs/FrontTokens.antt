-- What stands at the front of a text, from what the code finds there.
use Rattle.std.proofs.Common.{◌≡◌, refl, sym, ap, ◌∙◌, subst, ℕ, zero, suc, ◌-◌, ◌≤◌, ◌<◌, ◌^◌, min, Bool, true, false, not, cond, List, [], ◌∷◌, length, take, drop, get_or, ℤ, pos, Option, Some, None, nat_eq, arith, is_some, unwrap_or, ◌⊎◌, inl, inr, ⊎_elim, if◌then◌else◌}
use Rattle.std.proofs.lemmas.Bool.{and_parts, false_from_ne_true, eqb-false, not-true, lt-leb, le-leb}
use Rattle.std.proofs.lemmas.Slice.Eq.{bytes_eq-Decides}
use Rattle.std.specs.Option.{option_map}
use Rattle.std.specs.List.{list_all, prefix_len}
use Rattle.std.specs.Str.{bytes_eq}
use Rattle.ess_semantics.specs.Names.{look_by}
use Rattle.ess_grammar.specs.declared.kind.Kind.{Kind}
use Rattle.ess_grammar.specs.Words.{Text, Token, number, name, prime_word, words, symbols, lex_symbols}
use Rattle.ess_grammar.specs.Kinds.{nat_of, token}
use Rattle.ess_grammar.specs.Tokens.{is_digit, is_letter, is_name_byte, begins_with_name_byte, name_or_word, prime_text, symbol_of, or_else, only_if, value_of, longest, longest_token, is_wide}
use Rattle.ess_grammar.proofs.Longest.{longest-shorter, longest-here}
use Rattle.ess_grammar.proofs.Runs.{longest_token-prime, longest_token-name, longest_token-number}
use Rattle.ess_grammar.proofs.SymbolRuns.{longest_token-symbol}
use Rattle.ess_grammar.proofs.OneLine.{longest-reads, longest_token-there}
use Rattle.ess_lex.specs.Tables.{of_length}
use Rattle.ess_lex.specs.Lexing.{IsNatural}
use Rattle.ess_lex.specs.Scan.{token_at, IsFirstToken, BeginsWide}

-- ---- tables

-- only entries of the text's length count
pub look-of_length : (es : List (Text × Token)) (t : Text) → look_by bytes_eq (of_length (length t) es) t ≡ look_by bytes_eq es t
look-of_length [] t = refl
look-of_length ((c, x) ∷ es) t = go (nat_eq (length t) (length c)) refl (look-of_length es t)
  where
    kept : List (Text × Token)
    kept = of_length (length t) es

    go : (i : Bool) → nat_eq (length t) (length c) ≡ i → look_by bytes_eq kept t ≡ look_by bytes_eq es t →
        look_by bytes_eq (cond i ((c, x) ∷ kept) kept) t ≡ look_by bytes_eq ((c, x) ∷ es) t
    go true e below = ap (λ r. if bytes_eq c t then Some x else r) below
    go false e below =
        let differs : bytes_eq c t ≡ false =
        false_from_ne_true (bytes_eq c t) (λ q. eqb-false (length t) (length c) e (ap length (sym ((bytes_eq-Decides c t).0 q)))) in
        below ∙ sym (ap (λ i. if i then Some x else look_by bytes_eq es t) differs)

look-passes : (q : Token → Bool) (es : List (Text × Token)) (t : Text) (x : Token) → list_all (λ e. q e.1) es ≡ true →
    look_by bytes_eq es t ≡ Some x → q x ≡ true
look-passes q [] t x h k = cc
look-passes q ((c, y) ∷ es) t x h k =
    let parts = and_parts (q y) (list_all (λ e. q e.1) es) h in
    go (bytes_eq c t) k parts.0 (look-passes q es t x parts.1)
  where
    go : (i : Bool) → (if i then Some y else look_by bytes_eq es t) ≡ Some x → q y ≡ true → (look_by bytes_eq es t ≡ Some x → q x ≡ true) →
        q x ≡ true
    go true k here below = let e : y ≡ x = cc in subst (λ z. q z ≡ true) e here
    go false k here below = below k

-- ---- words and symbols

abbrev token_if : Text → Option Kind → Option Token
token_if t o = option_map (λ k. token k t) o

pub word-found : (t : Text) (o : Option Kind) (k : Kind) → token_if t o ≡ look_by bytes_eq (of_length (length t) words) t →
    k ≡ unwrap_or o Kind.Name → Some (token k t) ≡ name_or_word t
word-found t None k h e =
    ap (λ k. Some (token k t)) e ∙ ap (λ r. or_else r (Some (name t))) (h ∙ look-of_length words t)
word-found t (Some x) k h e =
    ap (λ k. Some (token k t)) e ∙ ap (λ r. or_else r (Some (name t))) (h ∙ look-of_length words t)

or_none : (o : Option Token) → or_else o None ≡ o
or_none None = refl
or_none (Some x) = refl

pub symbol-plain : (t rest : Text) (o : Option Kind) → token_if t o ≡ look_by bytes_eq (of_length (length t) symbols) t →
    is_some o ≡ true → token_if t o ≡ symbol_of t rest
symbol-plain t rest None h k = cc
symbol-plain t rest (Some x) h k =
    ap (λ r. or_else r (only_if (not (begins_with_name_byte rest)) (look_by bytes_eq lex_symbols t))) (h ∙ look-of_length symbols t)

pub symbol-before_name : (t rest : Text) (o : Option Kind) → token_if t o ≡ look_by bytes_eq (of_length (length t) symbols) t →
    begins_with_name_byte rest ≡ true → token_if t o ≡ symbol_of t rest
symbol-before_name t rest o h k =
    h ∙ look-of_length symbols t ∙ sym (or_none (look_by bytes_eq symbols t))
    ∙ ap (λ i. or_else (look_by bytes_eq symbols t) (only_if (not i) (look_by bytes_eq lex_symbols t))) (sym k)

pub symbol-lex : (t rest : Text) (o p : Option Kind) → token_if t o ≡ look_by bytes_eq (of_length (length t) symbols) t →
    is_some o ≡ false → begins_with_name_byte rest ≡ false →
    token_if t p ≡ look_by bytes_eq (of_length (length t) lex_symbols) t → token_if t p ≡ symbol_of t rest
symbol-lex t rest (Some x) p h k l m = cc
symbol-lex t rest None p h k l m =
    m ∙ look-of_length lex_symbols t
    ∙ ap (λ i. only_if (not i) (look_by bytes_eq lex_symbols t)) (sym l)
    ∙ ap (λ r. or_else r (only_if (not (begins_with_name_byte rest)) (look_by bytes_eq lex_symbols t))) (h ∙ look-of_length symbols t)

-- where the first n bytes are no symbol, the longest is shorter
pub symbol-passed : (text : Text) (n : ℕ) (o : Option Kind) → 0 < n → token_if (take n text) o ≡ symbol_of (take n text) (drop n text) →
    o ≡ None →
    longest symbol_of n text ≡ longest symbol_of (n - 1) text
symbol-passed text zero o l h e = absurd (omega arith)
symbol-passed text (suc n) o l h e =
    let none : symbol_of (take (suc n) text) (drop (suc n) text) ≡ None = sym h ∙ ap (token_if (take (suc n) text)) e in
    let less : suc n - 1 ≡ n = omega arith in
    longest-shorter symbol_of n text none ∙ ap (λ m. longest symbol_of m text) (sym less)

pub symbol-here : (text : Text) (n : ℕ) (o : Option Kind) (k : Kind) → 0 < n →
    token_if (take n text) o ≡ symbol_of (take n text) (drop n text) → o ≡ Some k →
    token_at text (Some (k, n)) ≡ longest symbol_of n text
symbol-here text zero o k l h e = absurd (omega arith)
symbol-here text (suc n) o k l h e =
    sym (longest-here symbol_of n text (token k (take (suc n) text)) (sym h ∙ ap (token_if (take (suc n) text)) e))

-- ---- the first token

abbrev is_number : Token → Bool
is_number (number n) = true
is_number t = false

abbrev no_number : Token → Bool
no_number t = not (is_number t)

-- what is no number isn't too large
no_number-narrow : (t : Token) → is_number t ≡ false → is_wide t ≡ false
no_number-narrow (number n) h = cc
no_number-narrow t h = refl

-- the kind of what is no number is no number
no_number-natural : (k : Kind) (t : Text) → is_number (token k t) ≡ false → IsNatural k
no_number-natural (Kind.Num n) t h = cc
no_number-natural k t h = tt

or_else-is : (a b : Option Token) (x : Token) → or_else a b ≡ Some x → (a ≡ Some x) ⊎ (b ≡ Some x)
or_else-is None b x h = inr h
or_else-is (Some y) b x h = inl h

word-no_number : (t : Text) (x : Token) → name_or_word t ≡ Some x → is_number x ≡ false
word-no_number t x h = ⊎_elim
    (λ e. not-true (is_number x) (look-passes no_number words t x refl e))
    (λ e. let same : name t ≡ x = cc in subst (λ z. is_number z ≡ false) same refl)
    (or_else-is (look_by bytes_eq words t) (Some (name t)) x h)

symbol-no_number : (t rest : Text) (x : Token) → symbol_of t rest ≡ Some x → is_number x ≡ false
symbol-no_number t rest x h = ⊎_elim
    (λ e. not-true (is_number x) (look-passes no_number symbols t x refl e))
    (λ e. not-true (is_number x) (go (not (begins_with_name_byte rest)) e))
    (or_else-is (look_by bytes_eq symbols t) (only_if (not (begins_with_name_byte rest)) (look_by bytes_eq lex_symbols t)) x h)
  where
    go : (i : Bool) → only_if i (look_by bytes_eq lex_symbols t) ≡ Some x → no_number x ≡ true
    go true e = look-passes no_number lex_symbols t x refl e
    go false e = cc

first_token : (text : Text) (t : Token) (n : ℕ) → longest_token text ≡ Some (t, n) → is_wide t ≡ false → IsFirstToken t n text
first_token text t n h k =
    let there = longest_token-there text t n h in
    record { longest = h; narrow = k; begun = there.begun; within = there.within; one_line = there.one_line }

pub prime-first : (text : Text) → take 8 text ≡ prime_text → IsFirstToken prime_word 8 text
prime-first text h = first_token text prime_word 8 (longest_token-prime text h) refl

pub name-first : (text : Text) (k : Kind) (n : ℕ) → 0 < length text → is_letter (get_or text 0 0) ≡ true → (take 8 text ≡ prime_text → ⊥) →
    n ≡ prefix_len is_name_byte text →
    Some (token k (take n text)) ≡ name_or_word (take n text) → IsFirstToken (token k (take n text)) n text
name-first text k n l h q e w =
    let word : name_or_word (take (prefix_len is_name_byte text) text) ≡ Some (token k (take n text)) =
    ap (λ m. name_or_word (take m text)) (sym e) ∙ sym w in
    first_token text (token k (take n text)) n
    (longest_token-name text (token k (take n text)) l h q word ∙ ap (λ m. Some (token k (take n text), m)) (sym e))
    (no_number-narrow (token k (take n text)) (word-no_number (take n text) (token k (take n text)) (sym w)))

number-there : (text : Text) (n : ℕ) → 0 < length text → is_digit (get_or text 0 0) ≡ true → n ≡ prefix_len is_digit text →
    longest_token text ≡ Some (number (value_of (take n text)), n)
number-there text n l h e = longest_token-number text l h ∙ ap (λ m. Some (number (value_of (take m text)), m)) (sym e)

pub number-first : (text : Text) (m n : ℕ) → 0 < length text → is_digit (get_or text 0 0) ≡ true → n ≡ prefix_len is_digit text →
    m ≡ value_of (take n text) → value_of (take n text) < 2 ^ 63 →
    IsFirstToken (number m) n text
number-first text m n l h e value small =
    subst (λ m. IsFirstToken (number m) n text) (sym value)
    (first_token text (number (value_of (take n text))) n (number-there text n l h e) (lt-leb (2 ^ 63) (value_of (take n text)) small))

pub number-wide : (text : Text) (n : ℕ) → 0 < length text → is_digit (get_or text 0 0) ≡ true → n ≡ prefix_len is_digit text →
    2 ^ 63 ≤ value_of (take n text) → BeginsWide text
number-wide text n l h e wide = record {
  found = (number (value_of (take n text)), n);
  longest = number-there text n l h e;
  wide =
      le-leb (2 ^ 63) (value_of (take n text)) wide;
}

pub symbol-first : (text : Text) (k : Kind) (n : ℕ) → 0 < length text → is_letter (get_or text 0 0) ≡ false →
    is_digit (get_or text 0 0) ≡ false →
    token_at text (Some (k, n)) ≡ longest symbol_of (min (length text) 5) text → IsFirstToken (token k (take n text)) n text
symbol-first text k n l h i e =
    let t : Token = token k (take n text) in
    let read = longest-reads symbol_of (min (length text) 5) n text t (sym e) in
    let narrow = no_number-narrow t (symbol-no_number (take n text) (drop n text) t read.2) in
    first_token text t n (longest_token-symbol text l h i ∙ sym e) narrow

-- the kinds of a word or a name, of a symbol, and of a number
pub name-natural : (t : Text) (k : Kind) → Some (token k t) ≡ name_or_word t → IsNatural k
name-natural t k h = no_number-natural k t (word-no_number t (token k t) (sym h))

pub symbol-natural : (text : Text) (k : Kind) (n : ℕ) → token_at text (Some (k, n)) ≡ longest symbol_of (min (length text) 5) text
    → IsNatural k
symbol-natural text k n e =
    let t : Token = token k (take n text) in
    let read = longest-reads symbol_of (min (length text) 5) n text t (sym e) in
    no_number-natural k (take n text) (symbol-no_number (take n text) (drop n text) t read.2)

pub number-natural : (value : ℤ) (m : ℕ) → value ≡ pos m → pos (nat_of value) ≡ value
number-natural value m h = subst (λ v. pos (nat_of v) ≡ v) (sym h) refl

pub no-symbol : (text : Text) → 0 < length text → is_letter (get_or text 0 0) ≡ false → is_digit (get_or text 0 0) ≡ false →
    token_at text None ≡ longest symbol_of (min (length text) 5) text → longest_token text ≡ None
no-symbol text l h i e = longest_token-symbol text l h i ∙ sym e

-- A name, a word or digits at the front of a text are its longest token, where they end before what follows.
use Rattle.std.proofs.Common.{◌≡◌, refl, sym, ap, ◌∙◌, ℕ, zero, suc, Bool, true, false, ◌&&◌, not, [], ◌∷◌, ◌++◌, length, take, Some, arith, nat_eq}
use Rattle.std.proofs.Math.Seq.{take-append_seam}
use Rattle.std.proofs.lemmas.Bool.{and_parts, and_from, not-true, or_left}
use Rattle.std.proofs.lemmas.Bool.Decides.{nat_tests}
use Rattle.std.specs.List.{list_all, prefix_len}
use Rattle.ess_grammar.specs.Words.{Text, Token, number}
use Rattle.ess_grammar.specs.Tokens.{is_digit, is_letter, is_name_byte, is_name, name_or_word, prime_text, value_of, longest_token, Plain}
use Rattle.ess_grammar.proofs.Runs.{run-yes, run-no, longest_token-name, longest_token-number}
use Rattle.ess_print_laws.specs.Touching.{symbol_ends, ends_before}

-- ---- runs that end

-- The first byte doesn't pass, or there is none.
abbrev pub stops : (ℕ → Bool) → Text → Bool
stops p [] = true
stops p (b ∷ bs) = not (p b)

pub whole-run : (p : ℕ → Bool) (s r : Text) → list_all p s ≡ true → stops p r ≡ true → prefix_len p (s ++ r) ≡ length s
whole-run p [] [] h k = refl
whole-run p [] (b ∷ bs) h k = run-no p b bs (not-true (p b) k)
whole-run p (c ∷ cs) r h k =
    let parts = and_parts (p c) (list_all p cs) h in
    run-yes p c (cs ++ r) parts.0 ∙ omega (arith, whole-run p cs r parts.1 k)

-- ---- names and words

-- Whether the first byte that no name has is `'`.
abbrev quote_next : Text → Bool
quote_next [] = false
quote_next (b ∷ bs) = elim (is_name_byte b) [ true ↦ quote_next bs | false ↦ nat_eq b 39 ]

-- Neither a byte of a name nor `'` comes first.
abbrev stops_name : Text → Bool
stops_name [] = true
stops_name (b ∷ bs) = not (is_name_byte b) && not (nat_eq b 39)

no-quote : (n : ℕ) (s r : Text) → list_all is_name_byte s ≡ true → stops_name r ≡ true → quote_next (take n (s ++ r)) ≡ false
no-quote zero s r h k = refl
no-quote (suc n) [] [] h k = refl
no-quote (suc n) [] (b ∷ bs) h k =
    let parts = and_parts (not (is_name_byte b)) (not (nat_eq b 39)) k in
    ap (λ i. elim i [ true ↦ quote_next (take n bs) | false ↦ nat_eq b 39 ]) (not-true (is_name_byte b) parts.0) ∙ not-true (nat_eq b 39) parts.1
no-quote (suc n) (c ∷ cs) r h k =
    let parts = and_parts (is_name_byte c) (list_all is_name_byte cs) h in
    ap (λ i. elim i [ true ↦ quote_next (take n (cs ++ r)) | false ↦ nat_eq c 39 ]) parts.0 ∙ no-quote n cs r parts.1 k

no-prime : (s r : Text) → list_all is_name_byte s ≡ true → stops_name r ≡ true → take 8 (s ++ r) ≡ prime_text → ⊥
no-prime s r h k q = let a = no-quote 8 s r h k in let b : quote_next (take 8 (s ++ r)) ≡ true = ap quote_next q in cc

name-stops : (r : Text) → stops_name r ≡ true → stops is_name_byte r ≡ true
name-stops [] h = refl
name-stops (b ∷ bs) h = (and_parts (not (is_name_byte b)) (not (nat_eq b 39)) h).0

-- where a token with these first bytes ends, by its first byte
abbrev ends_if : Bool → Bool → Text → ℕ → Bool
ends_if letter digit s b = elim letter [ true ↦ not (is_name_byte b) && not (nat_eq b 39) | false ↦ elim digit [ true ↦ not (is_digit b) | false ↦ symbol_ends s b ] ]

letter-ends : (c : ℕ) (cs r : Text) → is_letter c ≡ true → ends_before (c ∷ cs) r ≡ true → stops_name r ≡ true
letter-ends c cs [] h k = refl
letter-ends c cs (b ∷ bs) h k = let e : ends_before (c ∷ cs) (b ∷ bs) ≡ ends_if true (is_digit c) (c ∷ cs) b = ap (λ i. ends_if i (is_digit c) (c ∷ cs) b) h in sym e ∙ k

pub letter-plain : (c : ℕ) → is_letter c ≡ true → Plain c
letter-plain c h = (grind (arith, nat_tests), grind (arith, nat_tests))

pub digit-plain : (c : ℕ) → is_digit c ≡ true → Plain c
digit-plain c h = (grind (arith, nat_tests), grind (arith, nat_tests))

-- a name or a word is read
pub name-is-read : (c : ℕ) (cs r : Text) (t : Token) → is_name (c ∷ cs) ≡ true → name_or_word (c ∷ cs) ≡ Some t → ends_before (c ∷ cs) r ≡ true →
    longest_token ((c ∷ cs) ++ r) ≡ Some (t, length (c ∷ cs))
name-is-read c cs r t h k e =
    let parts = and_parts (is_letter c) (list_all is_name_byte cs) h in
    let stop = letter-ends c cs r parts.0 e in
    let all : list_all is_name_byte (c ∷ cs) ≡ true = and_from (is_name_byte c) (list_all is_name_byte cs) (or_left (is_letter c) (is_digit c) parts.0) parts.1 in
    let run : prefix_len is_name_byte ((c ∷ cs) ++ r) ≡ length (c ∷ cs) = whole-run is_name_byte (c ∷ cs) r all (name-stops r stop) in
    let word : name_or_word (take (prefix_len is_name_byte ((c ∷ cs) ++ r)) ((c ∷ cs) ++ r)) ≡ Some t =
    ap (λ n. name_or_word (take n ((c ∷ cs) ++ r))) run ∙ ap name_or_word (take-append_seam (c ∷ cs) r) ∙ k in
    longest_token-name ((c ∷ cs) ++ r) t (omega arith) parts.0 (no-prime (c ∷ cs) r all stop) word ∙ ap (λ n. Some (t, n)) run

-- ---- digits

digit-ends : (c : ℕ) (cs r : Text) → is_digit c ≡ true → ends_before (c ∷ cs) r ≡ true → stops is_digit r ≡ true
digit-ends c cs [] h k = refl
digit-ends c cs (b ∷ bs) h k =
    let no : is_letter c ≡ false = grind (arith, nat_tests) in
    let e : ends_before (c ∷ cs) (b ∷ bs) ≡ ends_if false (is_digit c) (c ∷ cs) b = ap (λ i. ends_if i (is_digit c) (c ∷ cs) b) no in
    let f : ends_if false (is_digit c) (c ∷ cs) b ≡ not (is_digit b) = ap (λ i. ends_if false i (c ∷ cs) b) h in
    sym f ∙ (sym e ∙ k)

-- digits are read as their value
pub digits-are-read : (c : ℕ) (cs r : Text) → list_all is_digit (c ∷ cs) ≡ true → ends_before (c ∷ cs) r ≡ true →
    longest_token ((c ∷ cs) ++ r) ≡ Some (number (value_of (c ∷ cs)), length (c ∷ cs))
digits-are-read c cs r h e =
    let first : is_digit c ≡ true = (and_parts (is_digit c) (list_all is_digit cs) h).0 in
    let run : prefix_len is_digit ((c ∷ cs) ++ r) ≡ length (c ∷ cs) = whole-run is_digit (c ∷ cs) r h (digit-ends c cs r first e) in
    longest_token-number ((c ∷ cs) ++ r) (omega arith) first
    ∙ ap (λ n. Some (number (value_of (take n ((c ∷ cs) ++ r))), n)) run
    ∙ ap (λ s. Some (number (value_of s), length (c ∷ cs))) (take-append_seam (c ∷ cs) r)

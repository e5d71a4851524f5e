-- A token has at least one byte, and no line feed.
use Rattle.std.proofs.Common.{◌≡◌, refl, sym, ap, ◌∙◌, subst, ℕ, zero, suc, ◌≤◌, ◌<◌, Bool, true, false, not, List, [], ◌∷◌, length, take, drop, Option, Some, None, nat_eq, arith, ◌⊎◌, inl, inr, ⊎_elim, cond, if◌then◌else◌}
use Rattle.std.proofs.lemmas.List.Sums.{sum_by-cons}
use Rattle.std.proofs.lemmas.Bool.{and_parts, false_from_ne_true, eqb-true, and_from, or_left}
use Rattle.std.proofs.lemmas.Slice.Eq.{bytes_eq-Decides}
use Rattle.std.specs.List.{list_all}
use Rattle.std.specs.Str.{bytes_eq}
use Rattle.ess_semantics.specs.Names.{look_by}
use Rattle.ess_grammar.specs.Words.{Text, Token, number, prime_word, symbols, lex_symbols}
use Rattle.ess_grammar.specs.Places.{is_line_feed, lines_before}
use Rattle.ess_grammar.specs.Tokens.{is_digit, is_letter, is_name_byte, is_number, is_name, name_or_word, prime_text, begins_with_name_byte, symbol_of, token_of, or_else, only_if, value_of, longest, longest_token}
use Rattle.ess_grammar.proofs.Longest.{Reader, Reads, chosen}

or_else-is : (a b : Option Token) (x : Token) → or_else a b ≡ Some x → (a ≡ Some x) ⊎ (b ≡ Some x)
or_else-is None b x h = inr h
or_else-is (Some y) b x h = inl h

only_if-is : (i : Bool) (o : Option Token) (x : Token) → only_if i o ≡ Some x → (i ≡ true) × (o ≡ Some x)
only_if-is true o x h = (refl, h)
only_if-is false o x h = cc

abbrev feeds : ℕ → ℕ
feeds b = cond (is_line_feed b) 1 0

-- bytes of which each is no line feed
one_line : (p : ℕ → Bool) (t : Text) → p 10 ≡ false → list_all p t ≡ true → lines_before t ≡ 0
one_line p [] h k = refl
one_line p (b ∷ t) h k =
    let parts = and_parts (p b) (list_all p t) k in
    let other : is_line_feed b ≡ false = false_from_ne_true (is_line_feed b) (λ q. let e : b ≡ 10 = eqb-true b 10 q in cc) in
    let none : feeds b ≡ 0 = ap (λ i. cond i 1 0) other in
    omega (arith, sum_by-cons feeds b t, none, one_line p t h parts.1)

-- no entry of the table has a line feed
abbrev no_feeds : List (Text × Token) → Bool
no_feeds es = list_all (λ e. nat_eq (lines_before e.0) 0) es

one_line_entry : (es : List (Text × Token)) (s : Text) (x : Token) → no_feeds es ≡ true → look_by bytes_eq es s ≡ Some x →
    lines_before s ≡ 0
one_line_entry [] s x h k = cc
one_line_entry ((c, y) ∷ es) s x h k =
    let parts = and_parts (nat_eq (lines_before c) 0) (no_feeds es) h in
    go (bytes_eq c s) refl k parts.0 (one_line_entry es s x parts.1)
  where
    go : (i : Bool) → bytes_eq c s ≡ i → (if i then Some y else look_by bytes_eq es s) ≡ Some x → nat_eq (lines_before c) 0 ≡ true →
        (look_by bytes_eq es s ≡ Some x → lines_before s ≡ 0) → lines_before s ≡ 0
    go true e k here below = subst (λ t. lines_before t ≡ 0) ((bytes_eq-Decides c s).0 e) (eqb-true (lines_before c) 0 here)
    go false e k here below = below k

one_line_symbol : (t rest : Text) (x : Token) → symbol_of t rest ≡ Some x → lines_before t ≡ 0
one_line_symbol t rest x h = ⊎_elim
    (λ e. one_line_entry symbols t x refl e)
    (λ e. one_line_entry lex_symbols t x refl (only_if-is (not (begins_with_name_byte rest)) (look_by bytes_eq lex_symbols t) x e).1)
    (or_else-is (look_by bytes_eq symbols t) (only_if (not (begins_with_name_byte rest)) (look_by bytes_eq lex_symbols t)) x h)

one_line_number : (t : Text) → is_number t ≡ true → lines_before t ≡ 0
one_line_number [] h = cc
one_line_number (b ∷ t) h = one_line is_digit (b ∷ t) refl h

one_line_name : (t : Text) → is_name t ≡ true → lines_before t ≡ 0
one_line_name [] h = cc
one_line_name (b ∷ t) h =
    let parts = and_parts (is_letter b) (list_all is_name_byte t) h in
    one_line is_name_byte (b ∷ t) refl (and_from (is_name_byte b) (list_all is_name_byte t)
    (or_left (is_letter b) (is_digit b) parts.0) parts.1)

one_line_token : (t rest : Text) (x : Token) → token_of t rest ≡ Some x → lines_before t ≡ 0
one_line_token t rest x h = ⊎_elim
    (λ e. one_line_number t (only_if-is (is_number t) (Some (number (value_of t))) x e).0)
    (λ h. ⊎_elim
    (λ e. one_line_name t (only_if-is (is_name t) (name_or_word t) x e).0)
    (λ h. ⊎_elim
    (λ e. subst (λ s. lines_before s ≡ 0) (sym ((bytes_eq-Decides t prime_text).0
    (only_if-is (bytes_eq t prime_text) (Some prime_word) x e).0)) refl)
    (λ e. one_line_symbol t rest x e)
    (or_else-is (only_if (bytes_eq t prime_text) (Some prime_word)) (symbol_of t rest) x h))
    (or_else-is (only_if (is_name t) (name_or_word t)) (or_else (only_if (bytes_eq t prime_text) (Some prime_word))
    (symbol_of t rest)) x h))
    (or_else-is (only_if (is_number t) (Some (number (value_of t))))
    (or_else (only_if (is_name t) (name_or_word t)) (or_else (only_if (bytes_eq t prime_text) (Some prime_word))
    (symbol_of t rest))) x h)

-- the first k bytes are read as x
abbrev pub ReadAt : Reader → ℕ → ℕ → Text → Token → Type 0
ReadAt reads n k bs x = (0 < k) × (k ≤ n) × Reads reads k bs (Some x)

-- the longest first part that is read is there, and is read
pub longest-reads : (reads : Reader) (n k : ℕ) (bs : Text) (x : Token) → longest reads n bs ≡ Some (x, k) → ReadAt reads n k bs x
longest-reads reads zero k bs x h = cc
longest-reads reads (suc n) k bs x h = go (reads (take (suc n) bs) (drop (suc n) bs)) refl h (longest-reads reads n k bs x)
  where
    found : (y : Token) → Reads reads (suc n) bs (Some y) → y ≡ x → suc n ≡ k → ReadAt reads (suc n) k bs x
    found y e t m = (omega (arith, m), omega (arith, m), subst (λ j. Reads reads j bs (Some x)) m (e ∙ ap (λ z. Some z) t))

    shorter : ReadAt reads n k bs x → ReadAt reads (suc n) k bs x
    shorter r = (r.0, omega (arith, r.1), r.2)

    same : Token × ℕ → Token × ℕ → Type 0
    same a b = a ≡ b

    go : (o : Option Token) → Reads reads (suc n) bs o → chosen o (suc n) (longest reads n bs) ≡ Some (x, k) →
        (longest reads n bs ≡ Some (x, k) → ReadAt reads n k bs x) → ReadAt reads (suc n) k bs x
    go (Some y) e q below =
        let p : same (y, suc n) (x, k) = cc in
        found y e (ap (λ z. z.0) p) (ap (λ z. z.1) p)
    go None e q below = shorter (below q)

-- a longest token has a byte, lies within the text, and has no line feed
pub record IsThere (n : ℕ) (text : Text) : Type 0 where
  pub begun : 0 < n
  pub within : n ≤ length text
  pub one_line : lines_before (take n text) ≡ 0

pub longest_token-there : (text : Text) (t : Token) (n : ℕ) → longest_token text ≡ Some (t, n) → IsThere n text
longest_token-there text t n h =
    let r = longest-reads token_of (length text) n text t h in
    record { begun = r.0; within = r.1; one_line = one_line_token (take n text) (drop n text) t r.2 }

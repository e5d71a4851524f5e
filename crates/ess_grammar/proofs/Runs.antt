-- The longest token of a text that begins with a letter or a digit.
use Rattle.std.proofs.Common.{◌≡◌, refl, sym, ap, ◌∙◌, subst, ℕ, zero, suc, ◌+◌, ◌≤◌, ◌<◌, Bool, true, false, cond, [], ◌∷◌, ◌++◌, length, take, drop, get_or, Some, None, arith, length-take, ⊎_elim, take-append-drop, codes}
use Rattle.std.proofs.lemmas.Bool.{cases_Bool, and_from, and_left, and_right, false_from_ne_true, or_left}
use Rattle.std.proofs.lemmas.Slice.Eq.{bytes_eq-Decides}
use Rattle.std.proofs.lemmas.List.Sums.{prefix_len-le-length}
use Rattle.std.specs.List.{list_all, prefix_len}
use Rattle.std.specs.Str.{bytes_eq}
use Rattle.ess_grammar.specs.Words.{Text, Token, number, prime_word}
use Rattle.ess_grammar.specs.Tokens.{is_digit, is_letter, is_name_byte, name_or_word, prime_text, token_of, or_else, only_if, value_of, longest_token}
use Rattle.ess_grammar.proofs.Longest.{Reads, longest-is}
use Rattle.ess_grammar.proofs.ByFirstByte.{token_of-letter, token_of-digit}

-- ---- runs

pub run-yes : (p : ℕ → Bool) (b : ℕ) (t : Text) → p b ≡ true → prefix_len p (b ∷ t) ≡ suc (prefix_len p t)
run-yes p b t h = ap (λ i. cond i (1 + prefix_len p t) 0) h ∙ omega arith

pub run-no : (p : ℕ → Bool) (b : ℕ) (t : Text) → p b ≡ false → prefix_len p (b ∷ t) ≡ 0
run-no p b t h = ap (λ i. cond i (1 + prefix_len p t) 0) h

-- each byte within a run passes
pub within_run : (p : ℕ → Bool) (n : ℕ) (t : Text) → n ≤ prefix_len p t → list_all p (take n t) ≡ true
within_run p zero t h = refl
within_run p (suc n) [] h = refl
within_run p (suc n) (b ∷ t) h = ⊎_elim
    (λ q. let e = run-yes p b t q in and_from (p b) (list_all p (take n t)) q (within_run p n t (omega (arith, e, h))))
    (λ q. let e = run-no p b t q in absurd (omega (arith, e, h)))
    (cases_Bool (p b))

-- and one past it doesn't
pub past_run : (p : ℕ → Bool) (n : ℕ) (t : Text) → prefix_len p t < n → n ≤ length t → list_all p (take n t) ≡ false
past_run p zero t h l = absurd (omega arith)
past_run p (suc n) [] h l = absurd (omega arith)
past_run p (suc n) (b ∷ t) h l = ⊎_elim
    (λ q. let e = run-yes p b t q in and_right (p b) (list_all p (take n t)) (past_run p n t (omega (arith, e, h)) (omega arith)))
    (λ q. and_left (p b) (list_all p (take n t)) q)
    (cases_Bool (p b))

-- ---- ESSENCE'

not_prime_by_length : (s : Text) → (length s ≡ 8 → ⊥) → bytes_eq s prime_text ≡ false
not_prime_by_length s h = false_from_ne_true (bytes_eq s prime_text) (λ q. h (ap length ((bytes_eq-Decides s prime_text).0 q)))

not_prime_before : (text : Text) (k : ℕ) → (take 8 text ≡ prime_text → ⊥) → k ≤ length text → bytes_eq (take k text) prime_text ≡ false
not_prime_before text k h l = false_from_ne_true (bytes_eq (take k text) prime_text) (λ q.
    let e : take k text ≡ prime_text = (bytes_eq-Decides (take k text) prime_text).0 q in
    let n : length (take k text) ≡ 8 = ap length e in
    let m : k ≡ 8 = omega (arith, n, length-take k text) in
    h (subst (λ j. take j text ≡ prime_text) m e))

prime_run : (r : Text) → longest_token (prime_text ++ r) ≡ Some (prime_word, 8)
prime_run r = longest-is token_of 7 (length (prime_text ++ r)) (prime_text ++ r) prime_word (omega arith) refl longer
  where
    not_longer : (k : ℕ) → 8 < k → k ≤ length (prime_text ++ r) → bytes_eq (take k (prime_text ++ r)) prime_text ≡ false
    not_longer k h l = not_prime_by_length (take k (prime_text ++ r)) (λ e. omega (arith, e, length-take k (prime_text ++ r)))

    longer : (k : ℕ) → 8 < k → k ≤ length (prime_text ++ r) → Reads token_of k (prime_text ++ r) None
    longer zero h l = absurd (omega arith)
    longer (suc j) h l =
        let t : Text = codes "SSENCE'" ++ r in
        let e : list_all is_name_byte (take j t) ≡ false = past_run is_name_byte j t (omega arith) (omega arith) in
        token_of-letter 69 (take j t) (drop j t) refl
        ∙ ap (λ i. or_else (only_if i (name_or_word (69 ∷ take j t)))
        (or_else (only_if (bytes_eq (69 ∷ take j t) prime_text) (Some prime_word)) None)) e
        ∙ ap (λ i. or_else (only_if i (Some prime_word)) None) (not_longer (suc j) h l)

-- ESSENCE' is one token, whatever follows
pub longest_token-prime : (text : Text) → take 8 text ≡ prime_text → longest_token text ≡ Some (prime_word, 8)
longest_token-prime text h =
    let e : text ≡ prime_text ++ drop 8 text = sym (take-append-drop 8 text) ∙ ap (λ s. s ++ drop 8 text) h in
    ap longest_token e ∙ prime_run (drop 8 text)

-- ---- names and words

name_run : (b : ℕ) (t : Text) (w : Token) → is_letter b ≡ true → (take 8 (b ∷ t) ≡ prime_text → ⊥) →
    name_or_word (b ∷ take (prefix_len is_name_byte t) t) ≡ Some w →
    longest_token (b ∷ t) ≡ Some (w, suc (prefix_len is_name_byte t))
name_run b t w h q k =
    let n : ℕ = prefix_len is_name_byte t in
    let within : n ≤ length t = prefix_len-le-length is_name_byte t in
    longest-is token_of n (length (b ∷ t)) (b ∷ t) w (omega (arith, within)) (here n refl) (longer n refl)
  where
    here : (n : ℕ) → n ≡ prefix_len is_name_byte t → Reads token_of (suc n) (b ∷ t) (Some w)
    here n e =
        token_of-letter b (take n t) (drop n t) h
        ∙ ap (λ i. or_else (only_if i (name_or_word (b ∷ take n t)))
        (or_else (only_if (bytes_eq (b ∷ take n t) prime_text) (Some prime_word)) None))
        (within_run is_name_byte n t (omega (arith, e)))
        ∙ ap (λ o. or_else o (or_else (only_if (bytes_eq (b ∷ take n t) prime_text) (Some prime_word)) None))
        (ap (λ m. name_or_word (b ∷ take m t)) e ∙ k)

    longer : (n : ℕ) → n ≡ prefix_len is_name_byte t → (k : ℕ) → suc n < k → k ≤ length (b ∷ t) → Reads token_of k (b ∷ t) None
    longer n e zero i l = absurd (omega arith)
    longer n e (suc j) i l =
        token_of-letter b (take j t) (drop j t) h
        ∙ ap (λ i. or_else (only_if i (name_or_word (b ∷ take j t)))
        (or_else (only_if (bytes_eq (b ∷ take j t) prime_text) (Some prime_word)) None))
        (past_run is_name_byte j t (omega (arith, e)) (omega arith))
        ∙ ap (λ i. or_else (only_if i (Some prime_word)) None) (not_prime_before (b ∷ t) (suc j) q l)

letter_is_name_byte : (b : ℕ) → is_letter b ≡ true → is_name_byte b ≡ true
letter_is_name_byte b h = or_left (is_letter b) (is_digit b) h

-- the longest token of a text that begins with a letter, but not with ESSENCE', is the run of bytes of names
pub longest_token-name : (text : Text) (w : Token) → 0 < length text → is_letter (get_or text 0 0) ≡ true → (take 8 text ≡ prime_text → ⊥) →
    name_or_word (take (prefix_len is_name_byte text) text) ≡ Some w → longest_token text ≡ Some (w, prefix_len is_name_byte text)
longest_token-name [] w l h q k = absurd (omega arith)
longest_token-name (b ∷ t) w l h q k =
    let e : prefix_len is_name_byte (b ∷ t) ≡ suc (prefix_len is_name_byte t) = run-yes is_name_byte b t (letter_is_name_byte b h) in
    name_run b t w h q (subst (λ n. name_or_word (take n (b ∷ t)) ≡ Some w) e k) ∙ ap (λ n. Some (w, n)) (sym e)

-- ---- numbers

digit_run : (b : ℕ) (t : Text) → is_digit b ≡ true →
    longest_token (b ∷ t) ≡ Some (number (value_of (b ∷ take (prefix_len is_digit t) t)), suc (prefix_len is_digit t))
digit_run b t h =
    let n : ℕ = prefix_len is_digit t in
    let within : n ≤ length t = prefix_len-le-length is_digit t in
    longest-is token_of n (length (b ∷ t)) (b ∷ t) (number (value_of (b ∷ take n t))) (omega (arith, within)) (here n refl) (longer n refl)
  where
    here : (n : ℕ) → n ≡ prefix_len is_digit t → Reads token_of (suc n) (b ∷ t) (Some (number (value_of (b ∷ take n t))))
    here n e =
        token_of-digit b (take n t) (drop n t) h
        ∙ ap (λ i. only_if i (Some (number (value_of (b ∷ take n t))))) (within_run is_digit n t (omega (arith, e)))

    longer : (n : ℕ) → n ≡ prefix_len is_digit t → (k : ℕ) → suc n < k → k ≤ length (b ∷ t) → Reads token_of k (b ∷ t) None
    longer n e zero i l = absurd (omega arith)
    longer n e (suc j) i l =
        token_of-digit b (take j t) (drop j t) h
        ∙ ap (λ i. only_if i (Some (number (value_of (b ∷ take j t))))) (past_run is_digit j t (omega (arith, e)) (omega arith))

-- the longest token of a text that begins with a digit is the run of digits
pub longest_token-number : (text : Text) → 0 < length text → is_digit (get_or text 0 0) ≡ true →
    longest_token text ≡ Some (number (value_of (take (prefix_len is_digit text) text)), prefix_len is_digit text)
longest_token-number [] l h = absurd (omega arith)
longest_token-number (b ∷ t) l h =
    let e : prefix_len is_digit (b ∷ t) ≡ suc (prefix_len is_digit t) = run-yes is_digit b t h in
    digit_run b t h ∙ ap (λ n. Some (number (value_of (take n (b ∷ t))), n)) (sym e)

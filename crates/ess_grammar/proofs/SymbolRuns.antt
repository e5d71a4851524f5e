-- The longest token of a text that begins with no letter and no digit has at most five bytes.
use Rattle.std.proofs.Common.{◌≡◌, refl, ap, ◌∙◌, ℕ, zero, suc, ◌≤◌, ◌<◌, min, Bool, true, false, ◌&&◌, not, List, [], ◌∷◌, length, take, drop, get_or, Some, None, arith, length-take, nat_le, if◌then◌else◌}
use Rattle.std.proofs.lemmas.Bool.{and_parts, false_from_ne_true, leb-true}
use Rattle.std.proofs.lemmas.Slice.Eq.{bytes_eq-Decides}
use Rattle.std.specs.Str.{bytes_eq}
use Rattle.ess_semantics.specs.Names.{look_by}
use Rattle.ess_grammar.specs.Words.{Text, Token, symbols, lex_symbols}
use Rattle.ess_grammar.specs.Tokens.{is_digit, is_letter, begins_with_name_byte, symbol_of, token_of, or_else, only_if, longest, longest_token}
use Rattle.ess_grammar.proofs.Longest.{longest-past, longest-same}
use Rattle.ess_grammar.proofs.ByFirstByte.{token_of-other}

-- no entry of the table has more than n bytes
abbrev pub none_longer : ℕ → List (Text × Token) → Bool
none_longer n [] = true
none_longer n (e ∷ es) = nat_le (length e.0) n && none_longer n es

no_look_longer : (n : ℕ) (es : List (Text × Token)) (s : Text) → none_longer n es ≡ true → n < length s → look_by bytes_eq es s ≡ None
no_look_longer n [] s h l = refl
no_look_longer n ((c, x) ∷ es) s h l =
    let parts = and_parts (nat_le (length c) n) (none_longer n es) h in
    let short : length c ≤ n = leb-true (length c) n parts.0 in
    let differs : bytes_eq c s ≡ false = false_from_ne_true (bytes_eq c s)
    (λ q. let e : length c ≡ length s = ap length ((bytes_eq-Decides c s).0 q) in absurd (omega arith)) in
    ap (λ i. if i then Some x else look_by bytes_eq es s) differs ∙ no_look_longer n es s parts.1 l

only_none : (i : Bool) → only_if {A = Token} i None ≡ None
only_none true = refl
only_none false = refl

no_long_symbol : (s rest : Text) → 5 < length s → symbol_of s rest ≡ None
no_long_symbol s rest h =
    ap (λ o. or_else o (only_if (not (begins_with_name_byte rest)) (look_by bytes_eq lex_symbols s))) (no_look_longer 5 symbols s refl h)
    ∙ ap (only_if (not (begins_with_name_byte rest))) (no_look_longer 5 lex_symbols s refl h)
    ∙ only_none (not (begins_with_name_byte rest))

symbol_run : (text : Text) → longest symbol_of (length text) text ≡ longest symbol_of (min (length text) 5) text
symbol_run text = longest-past symbol_of (min (length text) 5) (length text) text (omega arith)
    (λ k h l. no_long_symbol (take k text) (drop k text) (omega (arith, length-take k text)))

as_symbols : (b : ℕ) (t : Text) (k : ℕ) → is_letter b ≡ false → is_digit b ≡ false → 0 < k →
    token_of (take k (b ∷ t)) (drop k (b ∷ t)) ≡ symbol_of (take k (b ∷ t)) (drop k (b ∷ t))
as_symbols b t zero h i l = absurd (omega arith)
as_symbols b t (suc j) h i l = token_of-other b (take j t) (drop j t) h i

pub longest_token-symbol : (text : Text) → 0 < length text → is_letter (get_or text 0 0) ≡ false → is_digit (get_or text 0 0) ≡ false →
    longest_token text ≡ longest symbol_of (min (length text) 5) text
longest_token-symbol [] l h i = absurd (omega arith)
longest_token-symbol (b ∷ t) l h i =
    longest-same token_of symbol_of (length (b ∷ t)) (b ∷ t) (λ k a _. as_symbols b t k h i a) ∙ symbol_run (b ∷ t)

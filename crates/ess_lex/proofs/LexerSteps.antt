-- A lexer's steps over the bytes of a text.
use Rattle.std.proofs.Common.{◌≡◌, refl, sym, ap, ◌∙◌, ℕ, suc, ◌+◌, ◌≤◌, ◌<◌, Bool, true, false, not, [], ◌∷◌, ◌++◌, length, take, drop, get_or, drop-cons, add-one, arith, length-take, length-drop}
use Rattle.std.proofs.Math.Seq.{take-suc, take-add}
use Rattle.std.proofs.lemmas.List.{nil_from_length}
use Rattle.std.proofs.lemmas.Bool.{eq-eqb}
use Rattle.ess_grammar.specs.Words.{Text}
use Rattle.ess_grammar.specs.Places.{is_line_feed, lines_before, bytes_in_line}
use Rattle.ess_grammar.specs.Tokens.{is_white, begins_comment, Lexed, the_end}
use Rattle.ess_grammar.proofs.Lexing.{lexed_within, lexed_after-white, lexed_within-begun, lexed_within-inside, lexed_within-ended, lexed_within-end}
use Rattle.ess_grammar.proofs.PlaceLaws.{lines_before-append, bytes_in_line-append}

-- what comes from a byte on, in a comment or not
abbrev pub from_byte : Bool → Text → ℕ → Lexed
from_byte i text at = lexed_within i (take at text) (drop at text)

step : (i j : Bool) (text : Text) (at : ℕ) → at < length text →
    ((before bs : Text) → lexed_within i before (get_or text at 0 ∷ bs) ≡ lexed_within j (before ++ get_or text at 0 ∷ []) bs) →
    from_byte i text at ≡ from_byte j text (at + 1)
step i j text at h law =
    ap (lexed_within i (take at text)) (drop-cons text at 0 h)
    ∙ law (take at text) (drop (suc at) text)
    ∙ ap (λ s. lexed_within j s (drop (suc at) text)) (sym (take-suc text at 0 h))
    ∙ ap (from_byte j text) (sym (add-one at))

pub step-white : (text : Text) (at : ℕ) → at < length text → is_white (get_or text at 0) ≡ true →
    from_byte false text at ≡ from_byte false text (at + 1)
step-white text at h w = step false false text at h (λ before bs. lexed_after-white before (get_or text at 0) bs w)

pub step-begun : (text : Text) (at : ℕ) → at < length text → begins_comment (get_or text at 0) ≡ true →
    from_byte false text at ≡ from_byte true text (at + 1)
step-begun text at h w = step false true text at h (λ before bs. lexed_within-begun before (get_or text at 0) bs w)

-- within a comment, which a line feed ends
pub step-comment : (text : Text) (at : ℕ) (i : Bool) → at < length text → is_line_feed (get_or text at 0) ≡ i →
    from_byte true text at ≡ from_byte (not i) text (at + 1)
step-comment text at true h w = step true false text at h (λ before bs. lexed_within-ended before (get_or text at 0) bs w)
step-comment text at false h w = step true true text at h (λ before bs. lexed_within-inside before (get_or text at 0) bs w)

-- the same for a loop that holds by i whether a comment is open, and by j behind the byte
pub loop-comment : (i j : Bool) (text : Text) (at : ℕ) → at < length text → i ≡ true → j ≡ not (is_line_feed (get_or text at 0)) →
    from_byte i text at ≡ from_byte j text (at + 1)
loop-comment i j text at h e f =
    ap (λ k. from_byte k text at) e ∙ step-comment text at (is_line_feed (get_or text at 0)) h refl
    ∙ ap (λ k. from_byte k text (at + 1)) (sym f)

pub loop-begun : (i j : Bool) (text : Text) (at : ℕ) → at < length text → i ≡ false → get_or text at 0 ≡ 36 → j ≡ true →
    from_byte i text at ≡ from_byte j text (at + 1)
loop-begun i j text at h e dollar f =
    ap (λ k. from_byte k text at) e ∙ step-begun text at h (eq-eqb (get_or text at 0) 36 dollar)
    ∙ ap (λ k. from_byte k text (at + 1)) (sym f)

pub loop-white : (i j : Bool) (text : Text) (at : ℕ) → at < length text → i ≡ false → is_white (get_or text at 0) ≡ true → j ≡ i →
    from_byte i text at ≡ from_byte j text (at + 1)
loop-white i j text at h e w f =
    ap (λ k. from_byte k text at) e ∙ step-white text at h w ∙ ap (λ k. from_byte k text (at + 1)) (sym (f ∙ e))

-- one turn, where the text stays
pub loop-turn : (i j : Bool) (text text' : Text) (at at' : ℕ) (all : Lexed) → text' ≡ text → at' ≡ at + 1 →
    from_byte i text at ≡ from_byte j text (at + 1) → from_byte i text at ≡ all → from_byte j text' at' ≡ all
loop-turn i j text text' at at' all same moved turn kept =
    ap (λ t. from_byte j t at') same ∙ ap (from_byte j text) moved ∙ sym turn ∙ kept

-- ---- many bytes at once

pub passed-more : (text : Text) (at n : ℕ) → take (at + n) text ≡ take at text ++ take n (drop at text)
passed-more text at n = take-add at n text

pub lines-same : (text : Text) (at n : ℕ) → lines_before (take n (drop at text)) ≡ 0 →
    lines_before (take (at + n) text) ≡ lines_before (take at text)
lines-same text at n h =
    ap lines_before (take-add at n text) ∙ lines_before-append (take at text) (take n (drop at text)) ∙ omega (arith, h)

pub columns-more : (text : Text) (at n : ℕ) → n ≤ length (drop at text) → lines_before (take n (drop at text)) ≡ 0 →
    bytes_in_line (take (at + n) text) ≡ bytes_in_line (take at text) + n
columns-more text at n l h =
    ap bytes_in_line (take-add at n text) ∙ bytes_in_line-append (take at text) (take n (drop at text)) h
    ∙ omega (arith, length-take n (drop at text))

-- at the end of the text nothing comes
pub from_byte-end : (i : Bool) (text : Text) (at : ℕ) → length text ≤ at → from_byte i text at ≡ the_end
from_byte-end i text at h =
    ap (lexed_within i (take at text)) (nil_from_length (drop at text) (omega (arith, length-drop at text)))
    ∙ lexed_within-end i (take at text)

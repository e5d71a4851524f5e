-- The lines of a header, one by one.
use Rattle.std.proofs.Common.{◌≡◌, refl, sym, ap, ◌∙◌, ℕ, zero, suc, ◌<◌, ◌≤◌, Bool, true, false, if◌then◌else◌, List, [], ◌∷◌, ◌++◌, append_assoc, append-nil, length, drop, Option, Some, None, arith, length-drop}
use Rattle.std.specs.List.{position_or_len}
use Rattle.std.specs.Str.{is_utf8, IsUtf8}
use Rattle.std.proofs.lemmas.Str.{IsUtf8-from_is_utf8, is_utf8-from_IsUtf8}
use Rattle.std.proofs.lemmas.List.{nil_from_length}
use Rattle.ess_semantics.specs.Values.{Text}
use Rattle.ess_grammar.specs.Places.{is_line_feed}
use Rattle.ess_grammar.specs.ModelTexts.{first_line, next_lines, behind_mark, marked_lines, behind_language_line, utf8_lines, header_lines}
use Rattle.eprime_read_headers.proofs.FifthToken.{short}

-- The lines from this one on, up to the first other one.
abbrev lines_by : ℕ → Text → Option Text → List Text
lines_by turns t o = elim o [ Some l ↦ l ∷ marked_lines turns (next_lines t) | None ↦ [] ]

lines-alike : (f g : ℕ) (t : Text) (o : Option Text) → marked_lines f (next_lines t) ≡ marked_lines g (next_lines t) → lines_by f t o ≡ lines_by g t o
lines-alike f g t None h = refl
lines-alike f g t (Some l) h = ap (λ ls. l ∷ ls) h

next-short : (b : ℕ) (bs : Text) → length (next_lines (b ∷ bs)) ≤ length bs
next-short b bs = omega (arith, length-drop (position_or_len is_line_feed (b ∷ bs)) bs)

turns : (f g : ℕ) (t : Text) → length t ≤ f → length t ≤ g → marked_lines f t ≡ marked_lines g t
turns zero zero t h k = refl
turns zero (suc g) [] h k = refl
turns zero (suc g) (b ∷ bs) h k = absurd (omega arith)
turns (suc f) zero [] h k = refl
turns (suc f) zero (b ∷ bs) h k = absurd (omega arith)
turns (suc f) (suc g) [] h k = refl
turns (suc f) (suc g) (b ∷ bs) h k =
    let s = next-short b bs in
    lines-alike f g (b ∷ bs) (behind_mark (first_line (b ∷ bs))) (turns f g (next_lines (b ∷ bs)) (omega arith) (omega arith))

-- The lines from this one on.
abbrev pub lines_from : Text → List Text
lines_from t = utf8_lines (marked_lines (length t) t)

-- Those before, and those from this one on.
abbrev pub HasLines : List Text → Text → Text → Type 0
HasLines ls rest text = ls ++ lines_from rest ≡ header_lines text

-- Behind the end of a text there is nothing.
pub nothing_behind : (t : Text) (n : ℕ) → length t ≤ n → drop (length t) t ≡ drop (suc n) t
nothing_behind t n h = nil_from_length (drop (length t) t) (omega (arith, length-drop (length t) t)) ∙ sym (nil_from_length (drop (suc n) t) (omega (arith, length-drop (suc n) t)))

-- Before the first line.
pub no_lines_yet : (text : Text) → HasLines [] (next_lines (behind_language_line text)) text
no_lines_yet text =
    let t : Text = behind_language_line text in
    let s = short (length text) 5 text in
    let n : ℕ = position_or_len is_line_feed t in
    ap utf8_lines (turns (length (next_lines t)) (length text) (next_lines t) (omega arith) (omega (arith, length-drop (suc n) t)))

lines-there : (t l : Text) → behind_mark (first_line t) ≡ Some l → marked_lines (length t) t ≡ l ∷ marked_lines (length (next_lines t)) (next_lines t)
lines-there [] l h = cc
lines-there (b ∷ bs) l h =
    let s = next-short b bs in
    ap (lines_by (length bs) (b ∷ bs)) h ∙ ap (λ ls. l ∷ ls) (turns (length bs) (length (next_lines (b ∷ bs))) (next_lines (b ∷ bs)) (omega arith) (omega arith))

-- A line of the header.
pub one_more_line : (ls new : List Text) (rest text l : Text) → behind_mark (first_line rest) ≡ Some l → IsUtf8 l → new ≡ ls ++ l ∷ [] → HasLines ls rest text → HasLines new (next_lines rest) text
one_more_line ls new rest text l m u n h =
    ap (λ ks. ks ++ lines_from (next_lines rest)) n ∙ append_assoc ls (l ∷ []) (lines_from (next_lines rest))
    ∙ ap (λ ks. ls ++ ks) (sym (ap utf8_lines (lines-there rest l m) ∙ ap (λ i. if i then l ∷ lines_from (next_lines rest) else []) (is_utf8-from_IsUtf8 l u)))
    ∙ h

-- Fewer bytes are left.
pub fewer_bytes : (rest l : Text) → behind_mark (first_line rest) ≡ Some l → length (next_lines rest) < length rest
fewer_bytes [] l h = cc
fewer_bytes (b ∷ bs) l h = let s = next-short b bs in omega arith

not-utf8 : (l : Text) (b : Bool) → is_utf8 l ≡ b → ¬ (IsUtf8 l) → b ≡ false
not-utf8 l true e n = absurd (n (IsUtf8-from_is_utf8 l e))
not-utf8 l false e n = refl

-- A line that isn't UTF-8.
pub no_utf8_line : (ls : List Text) (rest text l : Text) → behind_mark (first_line rest) ≡ Some l → ¬ (IsUtf8 l) → HasLines ls rest text → ls ≡ header_lines text
no_utf8_line ls rest text l m u h =
    sym (append-nil ls)
    ∙ ap (λ ks. ls ++ ks) (sym (ap utf8_lines (lines-there rest l m) ∙ ap (λ i. if i then l ∷ lines_from (next_lines rest) else []) (not-utf8 l (is_utf8 l) refl u)))
    ∙ h

no-lines : (t : Text) → behind_mark (first_line t) ≡ None → marked_lines (length t) t ≡ []
no-lines [] h = refl
no-lines (b ∷ bs) h = ap (lines_by (length bs) (b ∷ bs)) h

-- Another line.
pub no_marked_line : (ls : List Text) (rest text : Text) → behind_mark (first_line rest) ≡ None → HasLines ls rest text → ls ≡ header_lines text
no_marked_line ls rest text m h = sym (append-nil ls) ∙ ap (λ ks. ls ++ ks) (sym (ap utf8_lines (no-lines rest m))) ∙ h

-- Lines and columns behind more bytes.
use Rattle.std.proofs.Common.{◌≡◌, refl, sym, ap, ◌∙◌, ℕ, ◌+◌, ◌≤◌, Bool, true, false, not, cond, [], ◌∷◌, ◌++◌, length, reverse, arith, append_assoc, append-nil}
use Rattle.std.proofs.lemmas.List.{reverse-append}
use Rattle.std.proofs.lemmas.Bool.{not_from_false}
use Rattle.std.proofs.lemmas.List.Sums.{sum_by-cons, sum_by-append, count_by-le-length}
use Rattle.std.specs.List.{prefix_len}
use Rattle.ess_grammar.specs.Words.{Text}
use Rattle.ess_grammar.proofs.Runs.{run-yes}
use Rattle.ess_grammar.specs.Places.{is_line_feed, lines_before, bytes_in_line}

abbrev feeds : ℕ → ℕ
feeds b = cond (is_line_feed b) 1 0

pub lines_before-append : (s t : Text) → lines_before (s ++ t) ≡ lines_before s + lines_before t
lines_before-append s t = sum_by-append feeds s t

pub lines_before-le : (s : Text) → lines_before s ≤ length s
lines_before-le s = count_by-le-length is_line_feed s

no_feed : (b : ℕ) (t : Text) → lines_before (b ∷ t) ≡ 0 → (is_line_feed b ≡ false) × (lines_before t ≡ 0)
no_feed b t h = go (is_line_feed b) refl
  where
    total : feeds b + lines_before t ≡ 0
    total = sym (sum_by-cons feeds b t) ∙ h

    go : (i : Bool) → is_line_feed b ≡ i → (is_line_feed b ≡ false) × (lines_before t ≡ 0)
    go true e = let one : feeds b ≡ 1 = ap (λ i. cond i 1 0) e in absurd (omega (arith, one, total))
    go false e = (e, omega (arith, total))

abbrev stays : ℕ → Bool
stays b = not (is_line_feed b)

bytes_in_line-push : (s : Text) (b : ℕ) → is_line_feed b ≡ false → bytes_in_line (s ++ b ∷ []) ≡ bytes_in_line s + 1
bytes_in_line-push s b h =
    ap (prefix_len stays) (reverse-append s (b ∷ []))
    ∙ run-yes stays b (reverse s) (not_from_false (is_line_feed b) h)
    ∙ omega arith

-- bytes without a line feed stand in the line
pub bytes_in_line-append : (s t : Text) → lines_before t ≡ 0 → bytes_in_line (s ++ t) ≡ bytes_in_line s + length t
bytes_in_line-append s [] h = ap bytes_in_line (append-nil s) ∙ omega arith
bytes_in_line-append s (b ∷ t) h =
    let parts = no_feed b t h in
    ap bytes_in_line (sym (append_assoc s (b ∷ []) t))
    ∙ bytes_in_line-append (s ++ b ∷ []) t parts.1
    ∙ omega (arith, bytes_in_line-push s b parts.0)

-- The lines of the header of any text are lines that a header may have.
use Rattle.std.proofs.Common.{◌≡◌, refl, ◌≤◌, Bool, true, false, ◌&&◌, not, List, [], ◌∷◌, ℕ, zero, suc, length, Option, Some, None, arith}
use Rattle.std.specs.Prelude.{codes, if◌then◌else◌}
use Rattle.std.specs.List.{list_all, position_or_len}
use Rattle.std.specs.Str.{is_utf8, bytes_eq}
use Rattle.ess_semantics.specs.Values.{Text}
use Rattle.ess_semantics.proofs.Tests.{and-left, and-right, and-both}
use Rattle.ess_grammar.specs.ModelTexts.{behind_language_line, first_line, next_lines, behind_mark, marked_lines, lines_under_language_line, utf8_lines, header_lines}
use Rattle.ess_grammar.specs.Places.{is_line_feed}
use Rattle.ess_grammar.proofs.Runs.{within_run}
use Rattle.eprime_tree.specs.ModelText.{is_head_line}

-- Whether the bytes have no line feed.
abbrev one_line : Text → Bool
one_line l = list_all (λ b. not (is_line_feed b)) l

first-one_line : (t : Text) → one_line (first_line t) ≡ true
first-one_line t = within_run (λ b. not (is_line_feed b)) (position_or_len is_line_feed t) t (omega arith)

mark-one_line : (x l : Text) → behind_mark x ≡ Some l → one_line x ≡ true → one_line l ≡ true
mark-one_line [] l e h = cc
mark-one_line (a ∷ []) l e h = cc
mark-one_line (a ∷ b ∷ bs) l e h = go (bytes_eq (a ∷ b ∷ []) (codes "$ ")) e
  where
    rest : one_line bs ≡ true
    rest = and-right (not (is_line_feed b)) (one_line bs) (and-right (not (is_line_feed a)) (one_line (b ∷ bs)) h)

    go : (c : Bool) → (if c then Some bs else None) ≡ Some l → one_line l ≡ true
    go true e = let q : bs ≡ l = cc in rw (← q) rest
    go false e = cc

marked-one_line : (n : ℕ) (t : Text) → list_all one_line (marked_lines n t) ≡ true
marked-one_line zero t = refl
marked-one_line (suc n) t = go (marked-one_line n (next_lines t)) (behind_mark (first_line t)) refl
  where
    go : list_all one_line (marked_lines n (next_lines t)) ≡ true → (o : Option Text) → behind_mark (first_line t) ≡ o →
        list_all one_line (elim o [ Some l ↦ l ∷ marked_lines n (next_lines t) | None ↦ [] ]) ≡ true
    go ih None e = refl
    go ih (Some l) e =
        and-both (one_line l) (list_all one_line (marked_lines n (next_lines t))) (mark-one_line (first_line t) l e (first-one_line t)) ih

utf8-head : (ls : List Text) → list_all one_line ls ≡ true → list_all is_head_line (utf8_lines ls) ≡ true
utf8-head [] h = refl
utf8-head (l ∷ ls) h = go (utf8-head ls (and-right (one_line l) (list_all one_line ls) h)) (is_utf8 l) refl
  where
    go : list_all is_head_line (utf8_lines ls) ≡ true → (b : Bool) → is_utf8 l ≡ b →
        list_all is_head_line (if b then l ∷ utf8_lines ls else []) ≡ true
    go ih true e =
        and-both (is_head_line l) (list_all is_head_line (utf8_lines ls))
        (and-both (is_utf8 l) (one_line l) e (and-left (one_line l) (list_all one_line ls) h)) ih
    go ih false e = refl

pub header-head : (t : Text) → list_all is_head_line (header_lines t) ≡ true
header-head t =
    utf8-head (lines_under_language_line t) (marked-one_line (length t) (next_lines (behind_language_line t)))

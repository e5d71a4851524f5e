-- Laws of lines and of what they say.
use Rattle.std.proofs.Common.{◌≡◌, refl, sym, ap, ◌∙◌, ℕ, suc, ◌<◌, Bool, true, false, not, List, [], ◌∷◌, ◌++◌, length, take, drop, arith, append_assoc, Option, Some, None}
use Rattle.std.specs.Prelude.{◌==◌, if◌then◌else◌}
use Rattle.std.specs.Option.{option_map}
use Rattle.conjure_cli_laws.specs.SmallGrammar.{Statement, lines_of, onto_first_line}
use Rattle.conjure_cli.specs.Reading.{run_len, is_in_line, read_lines, line_at, ◌>>=◌}

-- what follows the first byte
abbrev pub behind_first : List ℕ → List ℕ
behind_first [] = []
behind_first (b ∷ bytes) = bytes

-- the first line reaches up to the first line feed
pub first_of_lines : (text : List ℕ) → 0 < length text
    → lines_of text ≡ take (run_len is_in_line text) text ∷ lines_of (behind_first (drop (run_len is_in_line text) text))
first_of_lines [] some = absurd (omega arith)
first_of_lines (b ∷ []) some = step (b == 10)
  where
    step : (feed : Bool) → (if feed then [] ∷ [] else (b ∷ []) ∷ [])
        ≡ take (if not feed then 1 else 0) (b ∷ []) ∷ lines_of (behind_first (drop (if not feed then 1 else 0) (b ∷ [])))
    step true = refl
    step false = refl
first_of_lines (b ∷ c ∷ text) some = step (b == 10) (first_of_lines (c ∷ text) (omega arith))
  where
    n : ℕ
    n = run_len is_in_line (c ∷ text)

    step : (feed : Bool) → lines_of (c ∷ text) ≡ take n (c ∷ text) ∷ lines_of (behind_first (drop n (c ∷ text)))
        → (if feed then [] ∷ lines_of (c ∷ text) else onto_first_line b (lines_of (c ∷ text)))
        ≡ take (if not feed then suc n else 0) (b ∷ c ∷ text) ∷ lines_of (behind_first (drop (if not feed then suc n else 0) (b ∷ c ∷ text)))
    step true h = refl
    step false h = ap (onto_first_line b) h

-- the same, of the parts that a split at the line feed gives
pub first_of_split : (text line rest after : List ℕ) (len : ℕ) → 0 < length text → len ≡ run_len is_in_line text
    → line ≡ take len text → rest ≡ drop len text → after ≡ behind_first rest → lines_of text ≡ line ∷ lines_of after
first_of_split text line rest after len some is_len front back behind =
    first_of_lines text some
    ∙ ap (λ n. take n text ∷ lines_of (behind_first (drop n text))) (sym is_len)
    ∙ ap (λ l. l ∷ lines_of (behind_first (drop len text))) (sym front)
    ∙ ap (λ r. line ∷ lines_of (behind_first r)) (sym back)
    ∙ ap (λ a. line ∷ lines_of a) (sym behind)

-- the statements with more in front of them
abbrev pub in_front : List Statement → Option (List Statement) → Option (List Statement)
in_front front read = option_map (λ more. front ++ more) read

pub in_front_nothing : (read : Option (List Statement)) → read ≡ in_front [] read
in_front_nothing None = refl
in_front_nothing (Some more) = refl

-- a line that was read moves to the front
pub in_front_next : (front : List Statement) (line : List ℕ) (lines : List (List ℕ)) (statement : Statement) → line_at line ≡ Some statement
    → in_front front (read_lines (line ∷ lines)) ≡ in_front (front ++ statement ∷ []) (read_lines lines)
in_front_next front line lines statement h =
    ap (λ read. in_front front (read >>= (λ first. read_lines lines >>= (λ more. Some (first ∷ more))))) h ∙ moved (read_lines lines)
  where
    moved : (read : Option (List Statement)) → in_front front (read >>= (λ more. Some (statement ∷ more))) ≡ in_front (front ++ statement ∷ []) read
    moved None = refl
    moved (Some more) = ap Some (sym (append_assoc front (statement ∷ []) more))

-- a line that says nothing
pub in_front_none : (front : List Statement) (line : List ℕ) (lines : List (List ℕ)) → line_at line ≡ None → in_front front (read_lines (line ∷ lines)) ≡ None
in_front_none front line lines h = ap (λ read. in_front front (read >>= (λ first. read_lines lines >>= (λ more. Some (first ∷ more))))) h

-- The text of a list as it is written: one value after the other, then the runs of its axis.
use Rattle.std.proofs.Common.{◌≡◌, refl, sym, ap, ◌∙◌, ℕ, zero, suc, ◌+◌, Bool, true, false, if◌then◌else◌, List, [], ◌∷◌, ◌++◌, codes, map, drop, ℤ, pos, negsuc, ◌+ℤ◌, append_assoc, append-nil, Some, None, arith}
use Rattle.std.specs.Fmt.{signed_decimal}
use Rattle.std.proofs.lemmas.Int.{ints}
use Rattle.std.specs.Ordering.{int_eq}
use Rattle.ess_semantics.specs.Values.{Text, number, of_list}
use Rattle.ess_semantics.specs.Tables.{volume, truth_of}
use Rattle.ess_grammar.specs.ValueTexts.{Run, before_runs, runs_of, number_text, runs_text, with_commas, value_text, value_texts}
use Rattle.ess_print_laws.specs.Parts.{comma_before}
use Rattle.eprime_cells_laws.specs.CellsText.{rows_from, table_value, no_names, list_end, run_break}

-- ---- values with commas between

-- What is still to be written of texts, where so many stand before.
abbrev pub behind : ℕ → List Text → Text
behind zero ts = with_commas ts
behind (suc k) [] = []
behind (suc k) (t ∷ ts) = codes ", " ++ with_commas (t ∷ ts)

commas-more : (t : Text) (ts : List Text) → with_commas (t ∷ ts) ≡ t ++ behind 1 ts
commas-more t [] = sym (append-nil t)
commas-more t (u ∷ us) = append_assoc t (codes ", ") (with_commas (u ∷ us))

behind-first : (k : ℕ) (t : Text) (ts : List Text) → behind k (t ∷ ts) ≡ comma_before k ++ (t ++ behind 1 ts)
behind-first zero t ts = commas-more t ts
behind-first (suc k) t ts = ap (λ w. codes ", " ++ w) (commas-more t ts)

behind-one : (k : ℕ) (ts : List Text) → behind (suc k) ts ≡ behind 1 ts
behind-one k [] = refl
behind-one k (t ∷ ts) = refl

behind-none : (k : ℕ) → behind k [] ≡ []
behind-none zero = refl
behind-none (suc k) = refl

one-behind : (k : ℕ) (out t : Text) (ts : List Text) → (out ++ comma_before k ++ t) ++ behind (suc k) ts ≡ out ++ behind k (t ∷ ts)
one-behind k out t ts =
    append_assoc (out ++ comma_before k) t (behind (suc k) ts)
    ∙ append_assoc out (comma_before k) (t ++ behind (suc k) ts)
    ∙ ap (λ w. out ++ (comma_before k ++ (t ++ w))) (behind-one k ts)
    ∙ ap (λ w. out ++ w) (sym (behind-first k t ts))

-- ---- rows

-- The texts of the rows that the items begin with, one for each of these members of an axis.
abbrev pub row_texts : Bool → List (List ℤ) → List ℤ → List ℤ → List Text
row_texts b as' a is = value_texts no_names (of_list (map (table_value b as') (rows_from a (volume as') is)))

-- One more row is written.
pub rows_more : (b : Bool) (as' : List (List ℤ)) (x : ℤ) (xs is rest : List ℤ) (k : ℕ) (out mid new : Text) → mid ≡ out ++ comma_before k →
    new ≡ mid ++ value_text no_names (table_value b as' is) → rest ≡ drop (volume as') is →
    new ++ behind (k + 1) (row_texts b as' xs rest) ≡ out ++ behind k (row_texts b as' (x ∷ xs) is)
rows_more b as' x xs is rest k out mid new first second third =
    let next : k + 1 ≡ suc k = omega arith in
    ap (λ w. w ++ behind (k + 1) (row_texts b as' xs rest)) (second ∙ ap (λ w. w ++ value_text no_names (table_value b as' is)) first)
    ∙ ap (λ j. (out ++ comma_before k ++ value_text no_names (table_value b as' is)) ++ behind j (row_texts b as' xs rest)) next
    ∙ ap (λ js. (out ++ comma_before k ++ value_text no_names (table_value b as' is)) ++ behind (suc k) (row_texts b as' xs js)) third
    ∙ one-behind k out (value_text no_names (table_value b as' is)) (row_texts b as' xs (drop (volume as') is))

-- All are written.
pub rows_all : (b : Bool) (as' : List (List ℤ)) (is : List ℤ) (k : ℕ) (out : Text) → out ++ behind k (row_texts b as' [] is) ≡ out
rows_all b as' is k out = ap (λ w. out ++ w) (behind-none k) ∙ append-nil out

-- A list is its bracket, its rows and its end.
pub list_written : (b : Bool) (a : List ℤ) (as' : List (List ℤ)) (is : List ℤ) (out begun rows whole : Text) → begun ≡ out ++ codes "[" →
    rows ≡ begun ++ with_commas (row_texts b as' a is) → whole ≡ rows ++ list_end a →
    whole ≡ out ++ value_text no_names (table_value b (a ∷ as') is)
list_written b [] as' is out begun rows whole first second third =
    third ∙ ap (λ w. w ++ codes "]") (second ∙ append-nil begun ∙ first) ∙ append_assoc out (codes "[") (codes "]")
list_written b (x ∷ xs) as' is out begun rows whole first second third =
    let ts = row_texts b as' (x ∷ xs) is in
    let rs = runs_text (runs_of (of_list (map number (x ∷ xs)))) in
    third ∙ ap (λ w. w ++ list_end (x ∷ xs)) (second ∙ ap (λ w. w ++ with_commas ts) first)
    ∙ append_assoc (out ++ codes "[") (with_commas ts) (list_end (x ∷ xs))
    ∙ append_assoc out (codes "[") (with_commas ts ++ list_end (x ∷ xs))
    ∙ ap (λ w. out ++ w) (ended (with_commas ts) rs)
  where
    ended : (w r : Text) → codes "[" ++ (w ++ (codes "; int(" ++ r ++ codes ")]"))
        ≡ codes "[" ++ w ++ codes "; " ++ (codes "int(" ++ r ++ codes ")") ++ codes "]"
    ended w r =
        ap (λ t. codes "[" ++ (w ++ t)) (ap (λ t. codes "; int(" ++ t) (sym (append_assoc r (codes ")") (codes "]"))))
        ∙ sym (append_assoc (codes "[" ++ w ++ codes "; ") (codes "int(" ++ r ++ codes ")") (codes "]")
        ∙ append_assoc (codes "[" ++ w) (codes "; ") ((codes "int(" ++ r ++ codes ")") ++ codes "]"))

-- ---- runs

-- What is still to be written of a run that has come to l, and of the numbers behind it.
abbrev pub runs_left : ℤ → List ℤ → Text
runs_left l [] = number_text l
runs_left l (n ∷ ns) = if int_eq (l +ℤ pos 1) n then runs_left n ns else run_break l n ++ runs_left n ns

-- The run goes on.
pub runs_on : (l n : ℤ) (ns : List ℤ) → int_eq (l +ℤ pos 1) n ≡ true → runs_left l (n ∷ ns) ≡ runs_left n ns
runs_on l n ns h = ap (λ b. if b then runs_left n ns else run_break l n ++ runs_left n ns) h

-- Another one begins.
pub runs_break : (l n : ℤ) (ns : List ℤ) → int_eq (l +ℤ pos 1) n ≡ false → runs_left l (n ∷ ns) ≡ run_break l n ++ runs_left n ns
runs_break l n ns h = ap (λ b. if b then runs_left n ns else run_break l n ++ runs_left n ns) h

-- The last number of the first run, and the runs behind it.
abbrev rest_text : ℤ → List Run → Text
rest_text l [] = number_text l
rest_text l (r ∷ rs) = number_text l ++ codes ", " ++ runs_text (r ∷ rs)

first-run : (f l : ℤ) (rs : List Run) → runs_text ((f, l) ∷ rs) ≡ (number_text f ++ codes "..") ++ rest_text l rs
first-run f l [] = refl
first-run f l (r ∷ rs) =
    append_assoc (number_text f ++ codes ".." ++ number_text l) (codes ", ") (runs_text (r ∷ rs))
    ∙ append_assoc (number_text f ++ codes "..") (number_text l) (codes ", " ++ runs_text (r ∷ rs))
    ∙ ap (λ w. (number_text f ++ codes "..") ++ w) (sym (append_assoc (number_text l) (codes ", ") (runs_text (r ∷ rs))))

-- The runs of rising numbers begin with one from the first number, and what is behind that number is written.
record RunsWritten (n : ℤ) (ns : List ℤ) : Type 0 where
  last : ℤ
  others : List Run
  runs : runs_of (of_list (map number (n ∷ ns))) ≡ (n, last) ∷ others
  rest : rest_text last others ≡ runs_left n ns

break-text : (a b w : Text) → a ++ codes ", " ++ ((b ++ codes "..") ++ w) ≡ (a ++ codes ", " ++ b ++ codes "..") ++ w
break-text a b w =
    ap (λ t. a ++ codes ", " ++ t) (append_assoc b (codes "..") w)
    ∙ sym (append_assoc (a ++ codes ", " ++ b) (codes "..") w ∙ append_assoc (a ++ codes ", ") b (codes ".." ++ w))

runs-begun : (n : ℤ) (ns : List ℤ) → RunsWritten n ns
runs-begun n [] = record { last = n; others = []; runs = refl; rest = refl }
runs-begun n (m ∷ ms) = go (runs-begun m ms) (int_eq (n +ℤ pos 1) m) refl
  where
    go : RunsWritten m ms → (b : Bool) → int_eq (n +ℤ pos 1) m ≡ b → RunsWritten n (m ∷ ms)
    go w true e = record {
      last = w.last;
      others = w.others;
      runs = ap (before_runs n) w.runs ∙ ap (λ b. if b then (n, w.last) ∷ w.others else (n, n) ∷ (m, w.last) ∷ w.others) e;
      rest = w.rest ∙ sym (runs_on n m ms e);
    }
    go w false e = record {
      last = n;
      others = (m, w.last) ∷ w.others;
      runs = ap (before_runs n) w.runs ∙ ap (λ b. if b then (n, w.last) ∷ w.others else (n, n) ∷ (m, w.last) ∷ w.others) e;
      rest =
          ap (λ t. number_text n ++ codes ", " ++ t) (first-run m w.last w.others)
          ∙ break-text (number_text n) (number_text m) (rest_text w.last w.others)
          ∙ ap (λ t. run_break n m ++ t) w.rest ∙ sym (runs_break n m ms e);
    }

-- The text of the runs is the first number, and what is behind it.
pub runs_written : (n : ℤ) (ns : List ℤ) →
    runs_text (runs_of (of_list (map number (n ∷ ns)))) ≡ (number_text n ++ codes "..") ++ runs_left n ns
runs_written n ns =
    let w = runs-begun n ns in ap runs_text w.runs ∙ first-run n w.last w.others ∙ ap (λ t. (number_text n ++ codes "..") ++ t) w.rest

-- ---- items

-- A number is written in its digits.
pub digits_written : (n : ℤ) → number_text n ≡ signed_decimal n
digits_written (pos n) = refl
digits_written (negsuc n) = refl

-- A truth value is true where its number is 1.
pub truth_written : (n : ℤ) → (elim (truth_of n) [ Some b ↦ b | None ↦ false ]) ≡ int_eq n (pos 1)
truth_written (pos zero) = refl
truth_written (pos (suc zero)) = refl
truth_written (pos (suc (suc k))) = let e : int_eq (pos (suc (suc k))) (pos 1) ≡ false = grind (arith, ints) in sym e
truth_written (negsuc k) = refl

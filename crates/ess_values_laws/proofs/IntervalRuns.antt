-- The runs of a list of numbers, as ranges of an index domain, hold exactly its numbers.
use Rattle.std.proofs.Common.{◌≡◌, refl, sym, ap, ◌∙◌, zero, suc, Bool, true, false, ◌&&◌, if◌then◌else◌, List, [], ◌∷◌, ◌++◌, map, ℤ, pos, negsuc, ◌+ℤ◌, ◌-ℤ◌, ◌≤ℤ◌, Some, option_map, arith}
use Rattle.std.proofs.lemmas.Int.{ints}
use Rattle.std.specs.Ordering.{int_eq}
use Rattle.std.specs.List.{list_all}
use Rattle.ess_semantics.specs.Lists.{and_then, all_some, append_all, is_empty}
use Rattle.ess_semantics.specs.Values.{Value, number, truth, item, node, of_list}
use Rattle.ess_semantics.specs.Collections.{sorted_once}
use Rattle.ess_semantics.specs.Numbers.{natural}
use Rattle.ess_semantics.specs.Trees.{int_dom}
use Rattle.ess_semantics.specs.Domains.{Span, numbers_up, interval, span_members, int_members}
use Rattle.ess_semantics.specs.Meaning.{Env, meaning, meanings, as_int, with_span, spans_of}
use Rattle.ess_semantics.specs.Literals.{is_number_literal, are_number_literals, is_one_or_both, is_literal_index}
use Rattle.ess_grammar.specs.ValueTexts.{Run, before_runs, runs_of, number_literal, run_bounds, run_ends}

-- ---- intervals

interval-first : (a b : ℤ) → a ≤ℤ b → interval a b ≡ number a ∷ interval (a +ℤ pos 1) b
interval-first a b h = go ((b -ℤ a) +ℤ pos 1) refl
  where
    go : (m : ℤ) → (b -ℤ a) +ℤ pos 1 ≡ m → numbers_up a (natural m) ≡ number a ∷ interval (a +ℤ pos 1) b
    go (pos zero) e = absurd (omega (arith, ints))
    go (pos (suc k)) e = let f : (b -ℤ (a +ℤ pos 1)) +ℤ pos 1 ≡ pos k = omega (arith, ints) in ap (λ m. number a ∷ numbers_up (a +ℤ pos 1) (natural m)) (sym f)
    go (negsuc k) e = absurd (omega (arith, ints))

interval-one : (a : ℤ) → interval a a ≡ number a ∷ []
interval-one a = let f : (a -ℤ a) +ℤ pos 1 ≡ pos 1 = omega (arith, ints) in ap (λ m. numbers_up a (natural m)) f

-- ---- runs

-- Both bounds of each run, in order.
abbrev RunsUp : List Run → Type 0
RunsUp [] = Unit {0}
RunsUp (r ∷ rs) = (r.0 ≤ℤ r.1) × RunsUp rs

-- The numbers of the runs.
abbrev pub run_members : List Run → List Value
run_members rs = append_all (map (λ r. interval r.0 r.1) rs)

equal-test : (a b : ℤ) → int_eq a b ≡ true → a ≡ b
equal-test a b e = grind (arith, ints)

before-up : (n : ℤ) (rs : List Run) → RunsUp rs → RunsUp (before_runs n rs)
before-up n [] h = (omega (arith, ints), tt)
before-up n (r ∷ rs) h = go (int_eq (n +ℤ pos 1) r.0) refl
  where
    go : (b : Bool) → int_eq (n +ℤ pos 1) r.0 ≡ b → RunsUp (if b then (n, r.1) ∷ rs else (n, n) ∷ r ∷ rs)
    go true e = let f = equal-test (n +ℤ pos 1) r.0 e in let g = h.0 in (omega (arith, ints), h.1)
    go false e = (omega (arith, ints), h)

before-members : (n : ℤ) (rs : List Run) → RunsUp rs → run_members (before_runs n rs) ≡ number n ∷ run_members rs
before-members n [] h = ap (λ l. l ++ []) (interval-one n)
before-members n (r ∷ rs) h = go (int_eq (n +ℤ pos 1) r.0) refl
  where
    go : (b : Bool) → int_eq (n +ℤ pos 1) r.0 ≡ b → run_members (if b then (n, r.1) ∷ rs else (n, n) ∷ r ∷ rs) ≡ number n ∷ run_members (r ∷ rs)
    go true e =
        let f = equal-test (n +ℤ pos 1) r.0 e in
        let g = h.0 in
        ap (λ l. l ++ run_members rs) (interval-first n r.1 (omega (arith, ints))) ∙ ap (λ m. number n ∷ (interval m r.1 ++ run_members rs)) f
    go false e = ap (λ l. l ++ run_members (r ∷ rs)) (interval-one n)

-- Each value is a number.
abbrev pub AllNumbers : List Value → Type 0
AllNumbers [] = Unit {0}
AllNumbers (number n ∷ vs) = AllNumbers vs
AllNumbers (v ∷ vs) = ⊥

runs-up : (vs : List Value) → AllNumbers vs → RunsUp (runs_of (of_list vs))
runs-up [] h = tt
runs-up (number n ∷ vs) h = before-up n (runs_of (of_list vs)) (runs-up vs h)
runs-up (truth b ∷ vs) h = absurd h
runs-up (item t k ∷ vs) h = absurd h
runs-up (node k us ∷ vs) h = absurd h

-- The runs of numbers hold the numbers.
pub runs-members : (vs : List Value) → AllNumbers vs → run_members (runs_of (of_list vs)) ≡ vs
runs-members [] h = refl
runs-members (number n ∷ vs) h = before-members n (runs_of (of_list vs)) (runs-up vs h) ∙ ap (λ l. number n ∷ l) (runs-members vs h)
runs-members (truth b ∷ vs) h = absurd h
runs-members (item t k ∷ vs) h = absurd h
runs-members (node k us ∷ vs) h = absurd h

pub before-some : (n : ℤ) (rs : List Run) → is_empty (before_runs n rs) ≡ false
before-some n [] = refl
before-some n (r ∷ rs) = go (int_eq (n +ℤ pos 1) r.0)
  where
    go : (b : Bool) → is_empty (if b then (n, r.1) ∷ rs else (n, n) ∷ r ∷ rs) ≡ false
    go true = refl
    go false = refl

-- ---- runs as ranges

pub number-means : (n : ℤ) (env : Env) → meaning (number_literal n) env ≡ Some (number n)
number-means (pos n) env = refl
number-means (negsuc n) env = refl

-- The ranges of runs.
abbrev pub run_spans : List Run → List Span
run_spans rs = map (λ r. record { low = Some r.0; high = Some r.1 }) rs

pub spans-of-runs : (rs : List Run) (env : Env) → spans_of (run_ends rs) (meanings (run_bounds rs) env) ≡ Some (run_spans rs)
spans-of-runs [] env = refl
spans-of-runs (r ∷ rs) env =
    ap (λ o. and_then (as_int o) (λ n. and_then (as_int (meaning (number_literal r.1) env)) (λ m. with_span (Some n) (Some m) (spans_of (run_ends rs) (meanings (run_bounds rs) env))))) (number-means r.0 env)
    ∙ ap (λ o. and_then (as_int o) (λ m. with_span (Some r.0) (Some m) (spans_of (run_ends rs) (meanings (run_bounds rs) env)))) (number-means r.1 env)
    ∙ ap (with_span (Some r.0) (Some r.1)) (spans-of-runs rs env)

spans-members : (rs : List Run) → all_some (map span_members (run_spans rs)) ≡ Some (map (λ r. interval r.0 r.1) rs)
spans-members [] = refl
spans-members (r ∷ rs) = ap (option_map (λ ls. interval r.0 r.1 ∷ ls)) (spans-members rs)

pub runs-int-members : (rs : List Run) → is_empty rs ≡ false → int_members (run_spans rs) ≡ Some (sorted_once (run_members rs))
runs-int-members [] h = cc
runs-int-members (r ∷ rs) h = ap (option_map (λ ls. sorted_once (append_all ls))) (spans-members (r ∷ rs))

-- ---- runs as the index domain of a literal

literal-number : (n : ℤ) → is_number_literal (number_literal n) ≡ true
literal-number (pos n) = refl
literal-number (negsuc n) = refl

ends-fit : (rs : List Run) → list_all is_one_or_both (run_ends rs) ≡ true
ends-fit [] = refl
ends-fit (r ∷ rs) = ends-fit rs

bounds-fit : (rs : List Run) → are_number_literals (run_bounds rs) ≡ true
bounds-fit [] = refl
bounds-fit (r ∷ rs) =
    ap (λ b. b && (is_number_literal (number_literal r.1) && are_number_literals (run_bounds rs))) (literal-number r.0)
    ∙ ap (λ b. b && are_number_literals (run_bounds rs)) (literal-number r.1) ∙ bounds-fit rs

pub runs-literal-index : (rs : List Run) → is_empty rs ≡ false → is_literal_index (int_dom (run_ends rs) (run_bounds rs)) ≡ true
runs-literal-index [] h = cc
runs-literal-index (r ∷ rs) h =
    ap (λ b. b && are_number_literals (run_bounds (r ∷ rs))) (ends-fit rs) ∙ bounds-fit (r ∷ rs)

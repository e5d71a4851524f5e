-- The literal of a value that is spelled is readable.
use Rattle.std.proofs.Common.{◌≡◌, refl, ℕ, Bool, true, false, ◌&&◌, if◌then◌else◌, List, [], ◌∷◌, ℤ, pos, negsuc}
use Rattle.std.proofs.lemmas.Bool.{and_parts, and_from}
use Rattle.std.specs.Prelude.{◌+ℤ◌}
use Rattle.std.specs.Ordering.{int_eq}
use Rattle.ess_semantics.specs.Values.{Text, Kind, a_tuple, a_matrix, a_set, a_mset, a_function, a_relation, a_partition, a_record, Value, Values, number, truth, item, node, nil, cons}
use Rattle.ess_grammar.specs.Readable.{are_name_tokens, fit_fields, fit_ranges, are_pairs, ReadableEx, ReadableExs, ReadableDom}
use Rattle.ess_grammar.specs.ValueTexts.{Run, before_runs, runs_of, number_literal, run_bounds, run_ends, index_literal, literal_of, literals_of}
use Rattle.ess_print_laws.specs.Spelled.{is_spelled_number, are_spelled_numbers, are_spelled_indices, some_values, fit_values, are_pairs_of_values, may_have, is_spelled, are_spelled}
use Rattle.ess_print_laws.proofs.Derived.{never}
use Rattle.ess_print_laws.proofs.ValueTexts.{IsPair, is_pair, pair-first, pair-rest}

-- ---- numbers and runs of them

number-readable : (n : ℤ) → is_spelled_number n ≡ true → ReadableEx (number_literal n)
number-readable (pos n) h = h
number-readable (negsuc n) h = (refl, refl, (h, tt))

-- Both bounds of each run are spelled.
abbrev SpelledRuns : List Run → Type 0
SpelledRuns [] = Unit {0}
SpelledRuns (r ∷ rs) = ((is_spelled_number r.0 ≡ true) × (is_spelled_number r.1 ≡ true)) × SpelledRuns rs

before-spelled : (n : ℤ) (rs : List Run) → is_spelled_number n ≡ true → SpelledRuns rs → SpelledRuns (before_runs n rs)
before-spelled n [] h k = ((h, h), tt)
before-spelled n (r ∷ rs) h k = go (int_eq (n +ℤ pos 1) r.0)
  where
    go : (b : Bool) → SpelledRuns (if b then (n, r.1) ∷ rs else (n, n) ∷ r ∷ rs)
    go true = ((h, k.0.1), k.1)
    go false = ((h, h), k)

runs-spelled : (vs : Values) → are_spelled_numbers vs ≡ true → SpelledRuns (runs_of vs)
runs-spelled nil h = tt
runs-spelled (cons (number n) vs) h =
    let parts = and_parts (is_spelled_number n) (are_spelled_numbers vs) h in before-spelled n (runs_of vs) parts.0 (runs-spelled vs parts.1)
runs-spelled (cons (truth b) vs) h = never h
runs-spelled (cons (item t k) vs) h = never h
runs-spelled (cons (node k xs) vs) h = never h

bounds-readable : (rs : List Run) → SpelledRuns rs → ReadableExs (run_bounds rs)
bounds-readable [] h = tt
bounds-readable (r ∷ rs) h = (number-readable r.0 h.0.0, (number-readable r.1 h.0.1, bounds-readable rs h.1))

ends-fit : (rs : List Run) → fit_ranges (run_ends rs) (run_bounds rs) ≡ true
ends-fit [] = refl
ends-fit (r ∷ rs) = ends-fit rs

index-readable : (is : Values) → are_spelled_indices is ≡ true → ReadableDom (index_literal is)
index-readable nil h = never h
index-readable (cons (number n) vs) h = (ends-fit (runs_of (cons (number n) vs)), bounds-readable (runs_of (cons (number n) vs)) (runs-spelled (cons (number n) vs) h))
index-readable (cons (truth b) vs) h = tt
index-readable (cons (item t k) vs) h = h
index-readable (cons (node k xs) vs) h = never h

-- ---- compound values

module _ (name_of : Text → ℕ → Text) where
  -- A value that is spelled has a readable literal.
  abbrev Law : Value → Type 0
  Law v = is_spelled name_of v ≡ true → ReadableEx (literal_of name_of v)

  -- The same of each part, and of the parts of each part.
  abbrev mutual
    EachLaw : Values → Type 0
    EachLaw nil = Unit {0}
    EachLaw (cons v vs) = Law v × InnerLaw v × EachLaw vs

    InnerLaw : Value → Type 0
    InnerLaw (node k vs) = EachLaw vs
    InnerLaw v = Unit {0}

  all-readable : (vs : Values) → are_spelled name_of vs ≡ true → EachLaw vs → ReadableExs (literals_of name_of vs)
  all-readable nil h k = tt
  all-readable (cons v vs) h k =
      let parts = and_parts (is_spelled name_of v) (are_spelled name_of vs) h in (k.0 parts.0, all-readable vs parts.1 k.2)

  fields-fit : (ns : List Text) (vs : Values) → fit_values ns vs ≡ true → fit_fields ns (literals_of name_of vs) ≡ true
  fields-fit [] nil h = refl
  fields-fit [] (cons v vs) h = never h
  fields-fit (a ∷ ns) nil h = never h
  fields-fit (a ∷ ns) (cons v vs) h = fields-fit ns vs h

  one-pair : (v : Value) (vs : Values) → IsPair name_of v → are_pairs (literals_of name_of vs) ≡ true → are_pairs (literals_of name_of (cons v vs)) ≡ true
  one-pair v vs is_pair h = h

  pairs-fit : (vs : Values) → are_pairs_of_values vs ≡ true → are_pairs (literals_of name_of vs) ≡ true
  pairs-fit nil h = refl
  pairs-fit (cons v vs) h = let is = pair-first name_of v vs h in one-pair v vs is (pairs-fit vs (pair-rest name_of v vs is h))

  tuple-readable : (vs : Values) → some_values vs ≡ true → are_spelled name_of vs ≡ true → EachLaw vs → ReadableEx (literal_of name_of (node a_tuple vs))
  tuple-readable nil s h k = never s
  tuple-readable (cons v vs) s h k = (refl, refl, all-readable (cons v vs) h k)

  record-readable : (ns : List Text) (vs : Values) → (some_values vs && (are_name_tokens ns && fit_values ns vs)) ≡ true → are_spelled name_of vs ≡ true → EachLaw vs →
      ReadableEx (literal_of name_of (node (a_record ns) vs))
  record-readable ns nil s h k = never s
  record-readable [] (cons v vs) s h k = never s
  record-readable (a ∷ ns) (cons v vs) s h k =
      let parts = and_parts (are_name_tokens (a ∷ ns)) (fit_values (a ∷ ns) (cons v vs)) s in
      (refl, and_from (are_name_tokens (a ∷ ns)) (fit_fields ns (literals_of name_of vs)) parts.0 (fields-fit ns vs parts.1), all-readable (cons v vs) h k)

  any-matrix-readable : (vs : Values) → EachLaw vs → Law (node a_matrix vs)
  any-matrix-readable nil k h = never h
  any-matrix-readable (cons (number n) vs) k h = never h
  any-matrix-readable (cons (truth b) vs) k h = never h
  any-matrix-readable (cons (item t m) vs) k h = never h
  any-matrix-readable (cons (node j is) nil) k h = never h
  any-matrix-readable (cons (node j is) (cons (number n) vs)) k h = never h
  any-matrix-readable (cons (node j is) (cons (truth b) vs)) k h = never h
  any-matrix-readable (cons (node j is) (cons (item t m) vs)) k h = never h
  any-matrix-readable (cons (node j is) (cons (node l nil) nil)) k h = (refl, refl, tt)
  any-matrix-readable (cons (node j is) (cons (node l (cons x xs)) nil)) k h =
      let parts = and_parts (are_spelled_indices is) (is_spelled name_of x && are_spelled name_of xs) h in
      (refl, all-readable (cons x xs) parts.1 k.2.1, index-readable is parts.0)
  any-matrix-readable (cons (node j is) (cons (node l nil) (cons y vs))) k h = never h
  any-matrix-readable (cons (node j is) (cons (node l (cons x xs)) (cons y vs))) k h = never h

  node-readable : (j : Kind) (vs : Values) → EachLaw vs → Law (node j vs)
  node-readable a_tuple vs k h = let parts = and_parts (some_values vs) (are_spelled name_of vs) h in tuple-readable vs parts.0 parts.1 k
  node-readable a_matrix vs k h = any-matrix-readable vs k h
  node-readable a_set vs k h = (refl, refl, all-readable vs h k)
  node-readable a_mset vs k h = (refl, refl, all-readable vs h k)
  node-readable a_function vs k h = let parts = and_parts (are_pairs_of_values vs) (are_spelled name_of vs) h in (refl, pairs-fit vs parts.0, all-readable vs parts.1 k)
  node-readable a_relation vs k h = (refl, refl, all-readable vs h k)
  node-readable a_partition vs k h = (refl, refl, all-readable vs h k)
  node-readable (a_record ns) vs k h = let parts = and_parts (may_have (a_record ns) vs) (are_spelled name_of vs) h in record-readable ns vs parts.0 parts.1 k

  mutual
    pub value-readable : (v : Value) → Law v
    value-readable (number n) = number-readable n
    value-readable (truth b) = λ h. tt
    value-readable (item t k) = λ h. h
    value-readable (node j vs) = node-readable j vs (each-readable vs)

    each-readable : (vs : Values) → EachLaw vs
    each-readable nil = tt
    each-readable (cons v vs) = (value-readable v, inner-readable v, each-readable vs)

    inner-readable : (v : Value) → InnerLaw v
    inner-readable (node j vs) = each-readable vs
    inner-readable v = tt

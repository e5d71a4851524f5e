-- The text of a value that is spelled is the printed text of its literal.
use Rattle.std.proofs.Common.{◌≡◌, refl, sym, ap, ◌∙◌, ℕ, Bool, true, false, ◌&&◌, if◌then◌else◌, List, [], ◌∷◌, ◌++◌, ℤ, pos, negsuc, codes, append_assoc}
use Rattle.std.proofs.lemmas.Bool.{and_parts}
use Rattle.std.specs.Prelude.{◌+ℤ◌}
use Rattle.std.specs.Ordering.{int_eq}
use Rattle.ess_semantics.specs.Values.{Text, Kind, a_tuple, a_matrix, a_set, a_mset, a_function, a_relation, a_partition, a_record, Value, Values, number, truth, item, node, nil, cons}
use Rattle.ess_semantics.specs.Trees.{int_dom}
use Rattle.ess_semantics.specs.declared.words.Op2.{Op2}
use Rattle.ess_grammar.specs.Words.{operator, tuple_word, record_word, mset_word, function_word, relation_word, partition_word, comma, semicolon, dots, maps_to, open_round, close_round, open_square, close_square, open_curly, close_curly}
use Rattle.ess_grammar.specs.ValueTexts.{Run, before_runs, runs_of, number_text, runs_text, index_text, with_commas, field_texts, tuple_text, matrix_text, value_text, value_texts, pair_texts, number_literal, run_bounds, run_ends, index_literal, matrix_literal_of, literal_of, literals_of}
use Rattle.ess_print_laws.specs.Pieces.{token, space, reserved, sign, named}
use Rattle.ess_print_laws.specs.Parts.{commas, tuple_pieces}
use Rattle.ess_print_laws.specs.Expressions.{wholes, field_printers, range_printers, ex_pieces, operands, dom_pieces}
use Rattle.ess_print_laws.specs.Texts.{ex_text}
use Rattle.ess_print_laws.specs.Spelled.{are_spelled_indices, are_pairs_of_values, may_have, is_spelled, are_spelled}
use Rattle.ess_print_laws.proofs.Derived.{never}
use Rattle.ess_print_laws.proofs.Prints.{Prints, as-text, alone, one-prints, front-prints, then-prints, within-prints, AllPrint, commas-print}
use Rattle.ess_print_laws.proofs.Literals.{pairs}

-- ---- numbers and runs of them

pub number-prints : (n : ℤ) → Prints (ex_pieces (number_literal n)) (number_text n)
number-prints (pos n) = one-prints _
number-prints (negsuc n) = front-prints _ (one-prints _)

-- a run before what follows it
run-text : (a b w : Text) → a ++ (codes ".." ++ (b ++ (codes ", " ++ w))) ≡ a ++ codes ".." ++ b ++ codes ", " ++ w
run-text a b w =
    sym (append_assoc (a ++ codes ".." ++ b) (codes ", ") w ∙ append_assoc (a ++ codes "..") b (codes ", " ++ w) ∙ append_assoc a (codes "..") (b ++ (codes ", " ++ w)))

runs-print : (rs : List Run) (r : Run) → Prints (commas (range_printers (run_ends (r ∷ rs)) (operands (run_bounds (r ∷ rs))))) (runs_text (r ∷ rs))
runs-print [] r =
    let k = then-prints (number-prints r.0) (front-prints (sign dots) (number-prints r.1)) in
    as-text (sym (append_assoc (number_text r.0) (codes "..") (number_text r.1))) (record { law = k.law })
runs-print (s ∷ rs) r =
    let k = then-prints (number-prints r.0) (front-prints (sign dots) (then-prints (number-prints r.1) (front-prints (sign comma) (front-prints space (runs-print rs s))))) in
    as-text (run-text (number_text r.0) (number_text r.1) (runs_text (s ∷ rs))) (record { law = k.law })

-- There is one or more.
data SomeRuns : List Run → Type 0 where
  some_runs : {r : Run} {rs : List Run} → SomeRuns (r ∷ rs)

before-some : (n : ℤ) (rs : List Run) → SomeRuns (before_runs n rs)
before-some n [] = some_runs
before-some n (r ∷ rs) = go (int_eq (n +ℤ pos 1) r.0)
  where
    go : (b : Bool) → SomeRuns (if b then (n, r.1) ∷ rs else (n, n) ∷ r ∷ rs)
    go true = some_runs
    go false = some_runs

int-prints : (rs : List Run) → SomeRuns rs → Prints (dom_pieces (int_dom (run_ends rs) (run_bounds rs))) (codes "int(" ++ runs_text rs ++ codes ")")
int-prints rs (some_runs {r = r} {rs = ss}) = front-prints _ (within-prints open_round close_round (runs-print ss r))

index-prints : (is : Values) → are_spelled_indices is ≡ true → Prints (dom_pieces (index_literal is)) (index_text is)
index-prints nil h = never h
index-prints (cons (number n) vs) h = int-prints (before_runs n (runs_of vs)) (before-some n (runs_of vs))
index-prints (cons (truth b) vs) h = one-prints _
index-prints (cons (item t k) vs) h = one-prints _
index-prints (cons (node k xs) vs) h = never h

-- ---- compound values

matrix-spread : (w i : Text) → codes "[" ++ (w ++ (codes "; " ++ (i ++ codes "]"))) ≡ codes "[" ++ w ++ codes "; " ++ i ++ codes "]"
matrix-spread w i = ap (λ t. codes "[" ++ t) (sym (append_assoc (w ++ codes "; ") i (codes "]") ∙ append_assoc w (codes "; ") (i ++ codes "]")))

module _ (name_of : Text → ℕ → Text) where
  -- A value that is spelled is written as its literal is printed.
  abbrev Law : Value → Type 0
  Law v = is_spelled name_of v ≡ true → Prints (ex_pieces (literal_of name_of v)) (value_text name_of v)

  -- The same of each part, and of the parts of each part.
  abbrev mutual
    EachLaw : Values → Type 0
    EachLaw nil = Unit {0}
    EachLaw (cons v vs) = Law v × InnerLaw v × EachLaw vs

    InnerLaw : Value → Type 0
    InnerLaw (node k vs) = EachLaw vs
    InnerLaw v = Unit {0}

  all-print : (vs : Values) → are_spelled name_of vs ≡ true → EachLaw vs → AllPrint (wholes (operands (literals_of name_of vs))) (value_texts name_of vs)
  all-print nil h k = tt
  all-print (cons v vs) h k =
      let parts = and_parts (is_spelled name_of v) (are_spelled name_of vs) h in (k.0 parts.0, all-print vs parts.1 k.2)

  list-prints : (vs : Values) → are_spelled name_of vs ≡ true → EachLaw vs → Prints (commas (wholes (operands (literals_of name_of vs)))) (with_commas (value_texts name_of vs))
  list-prints vs h k = commas-print (wholes (operands (literals_of name_of vs))) (value_texts name_of vs) (all-print vs h k)

  tuple-prints : (vs : Values) → are_spelled name_of vs ≡ true → EachLaw vs → Prints (tuple_pieces (wholes (operands (literals_of name_of vs)))) (tuple_text (value_texts name_of vs))
  tuple-prints nil h k = record { law = λ us. refl }
  tuple-prints (cons v nil) h k = let q = front-prints (reserved tuple_word) (front-prints space (within-prints open_round close_round (list-prints (cons v nil) h k))) in record { law = q.law }
  tuple-prints (cons v (cons w vs)) h k = let q = within-prints open_round close_round (list-prints (cons v (cons w vs)) h k) in record { law = q.law }

  fields-print : (ns : List Text) (vs : Values) → are_spelled name_of vs ≡ true → EachLaw vs → AllPrint (field_printers ns (operands (literals_of name_of vs))) (field_texts ns (value_texts name_of vs))
  fields-print [] vs h k = tt
  fields-print (a ∷ ns) nil h k = tt
  fields-print (a ∷ ns) (cons v vs) h k =
      let parts = and_parts (is_spelled name_of v) (are_spelled name_of vs) h in
      let q = front-prints (named a) (front-prints space (front-prints (token (operator Op2.Eq)) (front-prints space (k.0 parts.0)))) in
      (as-text (sym (append_assoc a (codes " = ") (value_text name_of v))) (record { law = q.law }), fields-print ns vs parts.1 k.2)

  -- A tuple of two.
  pub data IsPair : Value → Type 0 where
    is_pair : {a b : Value} → IsPair (node a_tuple (cons a (cons b nil)))

  pub pair-first : (v : Value) (vs : Values) → are_pairs_of_values (cons v vs) ≡ true → IsPair v
  pair-first (node a_tuple nil) vs h = never h
  pair-first (node a_tuple (cons a nil)) vs h = never h
  pair-first (node a_tuple (cons a (cons b nil))) vs h = is_pair
  pair-first (node a_tuple (cons a (cons b (cons c xs)))) vs h = never h
  pair-first (node k xs) vs h = never h
  pair-first (number n) vs h = never h
  pair-first (truth b) vs h = never h
  pair-first (item t k) vs h = never h

  pub pair-rest : (v : Value) (vs : Values) → IsPair v → are_pairs_of_values (cons v vs) ≡ true → are_pairs_of_values vs ≡ true
  pair-rest v vs is_pair h = h

  one-pair : (v : Value) (vs : Values) → IsPair v → is_spelled name_of v ≡ true → InnerLaw v → AllPrint (pairs (literals_of name_of vs)) (pair_texts name_of vs) →
      AllPrint (pairs (literals_of name_of (cons v vs))) (pair_texts name_of (cons v vs))
  one-pair v vs (is_pair {a = a} {b = b}) h k rest =
      let first = and_parts (is_spelled name_of a) (is_spelled name_of b && true) h in
      let second = and_parts (is_spelled name_of b) true first.1 in
      let q = then-prints (k.0 first.0) (front-prints space (front-prints (sign maps_to) (front-prints space (k.2.0 second.0)))) in
      (as-text (sym (append_assoc (value_text name_of a) (codes " --> ") (value_text name_of b))) (record { law = q.law }), rest)

  pairs-print : (vs : Values) → are_pairs_of_values vs ≡ true → are_spelled name_of vs ≡ true → EachLaw vs → AllPrint (pairs (literals_of name_of vs)) (pair_texts name_of vs)
  pairs-print nil p h k = tt
  pairs-print (cons v vs) p h k =
      let parts = and_parts (is_spelled name_of v) (are_spelled name_of vs) h in
      let is = pair-first v vs p in
      one-pair v vs is parts.0 k.1 (pairs-print vs (pair-rest v vs is p) parts.1 k.2)

  matrix-prints : (is xs : Values) → are_spelled_indices is ≡ true → are_spelled name_of xs ≡ true → EachLaw xs →
      Prints (ex_pieces (matrix_literal_of (index_literal is) (literals_of name_of xs))) (matrix_text (index_text is) (value_texts name_of xs))
  matrix-prints is nil h s k = record { law = λ us. refl }
  matrix-prints is (cons x xs) h s k =
      let q = front-prints (sign open_square) (then-prints (list-prints (cons x xs) s k) (front-prints (sign semicolon) (front-prints space (then-prints (index-prints is h) (one-prints (sign close_square)))))) in
      as-text (matrix-spread (with_commas (value_texts name_of (cons x xs))) (index_text is)) (record { law = q.law })

  any-matrix-prints : (vs : Values) → EachLaw vs → Law (node a_matrix vs)
  any-matrix-prints nil k h = never h
  any-matrix-prints (cons (number n) vs) k h = never h
  any-matrix-prints (cons (truth b) vs) k h = never h
  any-matrix-prints (cons (item t m) vs) k h = never h
  any-matrix-prints (cons (node j is) nil) k h = never h
  any-matrix-prints (cons (node j is) (cons (number n) vs)) k h = never h
  any-matrix-prints (cons (node j is) (cons (truth b) vs)) k h = never h
  any-matrix-prints (cons (node j is) (cons (item t m) vs)) k h = never h
  any-matrix-prints (cons (node j is) (cons (node l nil) nil)) k h = record { law = λ us. refl }
  any-matrix-prints (cons (node j is) (cons (node l (cons x xs)) nil)) k h =
      let parts = and_parts (are_spelled_indices is) (is_spelled name_of x && are_spelled name_of xs) h in matrix-prints is (cons x xs) parts.0 parts.1 k.2.1
  any-matrix-prints (cons (node j is) (cons (node l nil) (cons y vs))) k h = never h
  any-matrix-prints (cons (node j is) (cons (node l (cons x xs)) (cons y vs))) k h = never h

  node-prints : (j : Kind) (vs : Values) → EachLaw vs → Law (node j vs)
  node-prints a_tuple vs k h = let parts = and_parts (may_have a_tuple vs) (are_spelled name_of vs) h in tuple-prints vs parts.1 k
  node-prints a_matrix vs k h = any-matrix-prints vs k h
  node-prints a_set vs k h = let q = within-prints open_curly close_curly (list-prints vs h k) in record { law = q.law }
  node-prints a_mset vs k h = let q = front-prints (reserved mset_word) (within-prints open_round close_round (list-prints vs h k)) in record { law = q.law }
  node-prints a_function vs k h =
      let parts = and_parts (may_have a_function vs) (are_spelled name_of vs) h in
      let q = front-prints (reserved function_word) (within-prints open_round close_round (commas-print (pairs (literals_of name_of vs)) (pair_texts name_of vs) (pairs-print vs parts.0 parts.1 k))) in record { law = q.law }
  node-prints a_relation vs k h = let q = front-prints (reserved relation_word) (within-prints open_round close_round (list-prints vs h k)) in record { law = q.law }
  node-prints a_partition vs k h = let q = front-prints (reserved partition_word) (within-prints open_round close_round (list-prints vs h k)) in record { law = q.law }
  node-prints (a_record ns) vs k h =
      let parts = and_parts (may_have (a_record ns) vs) (are_spelled name_of vs) h in
      let q = front-prints (reserved record_word) (front-prints space (within-prints open_curly close_curly (commas-print (field_printers ns (operands (literals_of name_of vs))) (field_texts ns (value_texts name_of vs)) (fields-print ns vs parts.1 k)))) in
      record { law = q.law }

  mutual
    pub value-prints : (v : Value) → Law v
    value-prints (number n) = λ h. number-prints n
    value-prints (truth true) = λ h. one-prints _
    value-prints (truth false) = λ h. one-prints _
    value-prints (item t k) = λ h. one-prints _
    value-prints (node j vs) = node-prints j vs (each-prints vs)

    each-prints : (vs : Values) → EachLaw vs
    each-prints nil = tt
    each-prints (cons v vs) = (value-prints v, inner-prints v, each-prints vs)

    inner-prints : (v : Value) → InnerLaw v
    inner-prints (node j vs) = each-prints vs
    inner-prints v = tt

  -- A value's text is that of its literal.
  pub value-text-is : (v : Value) → is_spelled name_of v ≡ true → ex_text (literal_of name_of v) ≡ value_text name_of v
  value-text-is v h = alone (value-prints v h)

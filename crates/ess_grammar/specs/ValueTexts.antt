-- Texts of values: how solutions print them (the Conjure manual, on parameter and solution files). A value is written as the
-- literal of its kind, with one space behind a comma and none inside brackets; `name_of t k` is the name of the k-th value of
-- the named type t.
use Rattle.std.specs.Prelude.{ℕ, suc, true, false, if◌then◌else◌, List, [], ◌∷◌, ◌++◌, ℤ, pos, negsuc, ◌+ℤ◌, codes, decimal}
use Rattle.ess_semantics.specs.declared.words.Op1.{Op1}
use Rattle.ess_semantics.specs.Values.{Text, Kind, a_tuple, a_matrix, a_set, a_mset, a_function, a_relation, a_partition, a_record, Value, Values, number, truth, item, node, nil, cons}
use Rattle.std.specs.Ordering.{int_eq}
use Rattle.ess_semantics.specs.Trees.{tuple_literal, set_literal, mset_literal, function_literal, relation_literal, partition_literal, matrix_literal, record_literal, Ends, both_ends, Ex, Exs, number_ex, truth_ex, name_ex, matrix_ex, no_exs, more_exs, Dom, bool_dom, int_dom, name_dom, plain_node}
use Rattle.ess_grammar.specs.Grammar.{unary_ex}

-- ---- runs of numbers

-- A run of numbers, from the first to the second.
abbrev pub Run : Type 0
Run = ℤ × ℤ

-- A number before runs: it begins the first run where it stands directly below it, else one of its own.
abbrev pub before_runs : ℤ → List Run → List Run
before_runs n [] = (n, n) ∷ []
before_runs n (r ∷ rs) = if int_eq (n +ℤ pos 1) r.0 then (n, r.1) ∷ rs else (n, n) ∷ r ∷ rs

-- The maximal runs of rising numbers. Other values count as no number.
abbrev pub runs_of : Values → List Run
runs_of nil = []
runs_of (cons (number n) vs) = before_runs n (runs_of vs)
runs_of (cons v vs) = runs_of vs

-- ---- texts

-- A number in decimal digits.
abbrev pub number_text : ℤ → Text
number_text (pos n) = decimal n
number_text (negsuc n) = codes "-" ++ decimal (suc n)

-- Runs with `, ` between.
abbrev pub runs_text : List Run → Text
runs_text [] = []
runs_text (r ∷ []) = number_text r.0 ++ codes ".." ++ number_text r.1
runs_text (r ∷ s ∷ rs) = number_text r.0 ++ codes ".." ++ number_text r.1 ++ codes ", " ++ runs_text (s ∷ rs)

-- The index domain of a matrix with these indices.
abbrev pub index_text : Values → Text
index_text (cons (truth b) vs) = codes "bool"
index_text (cons (item t k) vs) = t
index_text vs = codes "int(" ++ runs_text (runs_of vs) ++ codes ")"

-- Texts with `, ` between.
abbrev pub with_commas : List Text → Text
with_commas [] = []
with_commas (t ∷ []) = t
with_commas (t ∷ u ∷ ts) = t ++ codes ", " ++ with_commas (u ∷ ts)

-- Names with their texts: `a = 1`.
abbrev pub field_texts : List Text → List Text → List Text
field_texts (a ∷ ns) (t ∷ ts) = (a ++ codes " = " ++ t) ∷ field_texts ns ts
field_texts _ _ = []

-- A tuple: one of a single component has its word.
abbrev pub tuple_text : List Text → Text
tuple_text (t ∷ []) = codes "tuple (" ++ t ++ codes ")"
tuple_text ts = codes "(" ++ with_commas ts ++ codes ")"

-- A matrix with the text of its index domain; without items it has none.
abbrev pub matrix_text : Text → List Text → Text
matrix_text i [] = codes "[]"
matrix_text i (t ∷ ts) = codes "[" ++ with_commas (t ∷ ts) ++ codes "; " ++ i ++ codes "]"

-- A compound value but a matrix and a function, from the texts of its parts.
abbrev pub compound_text : Kind → List Text → Text
compound_text a_tuple ts = tuple_text ts
compound_text (a_record ns) ts = codes "record {" ++ with_commas (field_texts ns ts) ++ codes "}"
compound_text a_set ts = codes "{" ++ with_commas ts ++ codes "}"
compound_text a_mset ts = codes "mset(" ++ with_commas ts ++ codes ")"
compound_text a_relation ts = codes "relation(" ++ with_commas ts ++ codes ")"
compound_text a_partition ts = codes "partition(" ++ with_commas ts ++ codes ")"
compound_text a_function ts = codes "function(" ++ with_commas ts ++ codes ")"
compound_text a_matrix ts = codes "[" ++ with_commas ts ++ codes "]"

abbrev mutual
  -- The text of a value.
  pub value_text : (Text → ℕ → Text) → Value → Text
  value_text name_of (number n) = number_text n
  value_text name_of (truth true) = codes "true"
  value_text name_of (truth false) = codes "false"
  value_text name_of (item t k) = name_of t k
  value_text name_of (node a_matrix (cons (node k is) (cons (node l xs) nil))) = matrix_text (index_text is) (value_texts name_of xs)
  value_text name_of (node a_function vs) = compound_text a_function (pair_texts name_of vs)
  value_text name_of (node k vs) = compound_text k (value_texts name_of vs)

  -- The texts of several values.
  pub value_texts : (Text → ℕ → Text) → Values → List Text
  value_texts name_of nil = []
  value_texts name_of (cons v vs) = value_text name_of v ∷ value_texts name_of vs

  -- The texts of a function's pairs: `1 --> 2`.
  pub pair_texts : (Text → ℕ → Text) → Values → List Text
  pair_texts name_of nil = []
  pair_texts name_of (cons (node k (cons a (cons b nil))) vs) =
      (value_text name_of a ++ codes " --> " ++ value_text name_of b) ∷ pair_texts name_of vs
  pair_texts name_of (cons v vs) = pair_texts name_of vs

-- ---- trees

-- The literal of a number: one below 0 is `-` before a number.
abbrev pub number_literal : ℤ → Ex
number_literal (pos n) = number_ex (pos n)
number_literal (negsuc n) = unary_ex Op1.Minus (number_ex (pos (suc n)))

-- The bounds of runs.
abbrev pub run_bounds : List Run → Exs
run_bounds [] = no_exs
run_bounds (r ∷ rs) = more_exs (number_literal r.0) (more_exs (number_literal r.1) (run_bounds rs))

-- Ranges with both bounds, one for each run.
abbrev pub run_ends : List Run → List Ends
run_ends [] = []
run_ends (r ∷ rs) = both_ends ∷ run_ends rs

-- The index domain of a matrix with these indices.
abbrev pub index_literal : Values → Dom
index_literal (cons (truth b) vs) = bool_dom
index_literal (cons (item t k) vs) = name_dom t
index_literal vs = int_dom (run_ends (runs_of vs)) (run_bounds (runs_of vs))

-- A matrix literal with its index domain; without items it has none.
abbrev pub matrix_literal_of : Dom → Exs → Ex
matrix_literal_of d no_exs = plain_node matrix_literal no_exs
matrix_literal_of d (more_exs e es) = matrix_ex (more_exs e es) d

-- The literal of a compound value.
abbrev pub compound_literal : Kind → Exs → Ex
compound_literal a_tuple es = plain_node tuple_literal es
compound_literal (a_record ns) es = plain_node (record_literal ns) es
compound_literal a_set es = plain_node set_literal es
compound_literal a_mset es = plain_node mset_literal es
compound_literal a_relation es = plain_node relation_literal es
compound_literal a_partition es = plain_node partition_literal es
compound_literal a_function es = plain_node function_literal es
compound_literal a_matrix es = plain_node matrix_literal es

abbrev mutual
  -- The literal that a value's text is.
  pub literal_of : (Text → ℕ → Text) → Value → Ex
  literal_of name_of (number n) = number_literal n
  literal_of name_of (truth b) = truth_ex b
  literal_of name_of (item t k) = name_ex (name_of t k)
  literal_of name_of (node a_matrix (cons (node k is) (cons (node l xs) nil))) =
      matrix_literal_of (index_literal is) (literals_of name_of xs)
  literal_of name_of (node k vs) = compound_literal k (literals_of name_of vs)

  -- The literals of several values.
  pub literals_of : (Text → ℕ → Text) → Values → Exs
  literals_of name_of nil = no_exs
  literals_of name_of (cons v vs) = more_exs (literal_of name_of v) (literals_of name_of vs)

-- Values that some text spells: those whose literal is a tree of the grammar (the Conjure manual, on parameter and solution
-- files). Numbers and their opposites are below 2^63, names are name tokens, tuples and records have parts, the entries of a
-- function are pairs, and a matrix with items has indices.
use Rattle.std.specs.Prelude.{ℕ, suc, Bool, true, false, ◌&&◌, List, [], ◌∷◌, ℤ, pos, negsuc}
use Rattle.ess_semantics.specs.Values.{Text, Kind, a_tuple, a_matrix, a_function, a_record, Value, Values, number, truth, item, node, nil, cons}
use Rattle.ess_grammar.specs.Readable.{is_name_token, are_name_tokens, is_number_token}

-- Whether the number has a literal.
abbrev pub is_spelled_number : ℤ → Bool
is_spelled_number (pos n) = is_number_token (pos n)
is_spelled_number (negsuc n) = is_number_token (pos (suc n))

-- Whether all are numbers that have.
abbrev pub are_spelled_numbers : Values → Bool
are_spelled_numbers nil = true
are_spelled_numbers (cons (number n) vs) = is_spelled_number n && are_spelled_numbers vs
are_spelled_numbers vs = false

-- Whether a matrix may have these indices: numbers, or those of bool or of a named type.
abbrev pub are_spelled_indices : Values → Bool
are_spelled_indices (cons (truth b) vs) = true
are_spelled_indices (cons (item t k) vs) = is_name_token t
are_spelled_indices (cons (number n) vs) = are_spelled_numbers (cons (number n) vs)
are_spelled_indices vs = false

-- Whether there is one or more.
abbrev pub some_values : Values → Bool
some_values nil = false
some_values (cons v vs) = true

-- Whether there is a name for each value.
abbrev pub fit_values : List Text → Values → Bool
fit_values [] nil = true
fit_values (a ∷ ns) (cons v vs) = fit_values ns vs
fit_values ns vs = false

-- Whether all are pairs.
abbrev pub are_pairs_of_values : Values → Bool
are_pairs_of_values nil = true
are_pairs_of_values (cons (node a_tuple (cons a (cons b nil))) vs) = are_pairs_of_values vs
are_pairs_of_values vs = false

-- Whether a compound value of this kind may have these parts: a matrix has its indices and its items.
abbrev pub may_have : Kind → Values → Bool
may_have a_tuple vs = some_values vs
may_have (a_record ns) vs = some_values vs && (are_name_tokens ns && fit_values ns vs)
may_have a_function vs = are_pairs_of_values vs
may_have a_matrix vs = false
may_have k vs = true

abbrev mutual
  -- Whether the value is spelled, with these names of values of named types.
  pub is_spelled : (Text → ℕ → Text) → Value → Bool
  is_spelled name_of (number n) = is_spelled_number n
  is_spelled name_of (truth b) = true
  is_spelled name_of (item t k) = is_name_token (name_of t k)
  is_spelled name_of (node a_matrix (cons (node k is) (cons (node l nil) nil))) = true
  is_spelled name_of (node a_matrix (cons (node k is) (cons (node l (cons x xs)) nil))) = are_spelled_indices is && (is_spelled name_of x && are_spelled name_of xs)
  is_spelled name_of (node k vs) = may_have k vs && are_spelled name_of vs

  -- Whether all are.
  pub are_spelled : (Text → ℕ → Text) → Values → Bool
  are_spelled name_of nil = true
  are_spelled name_of (cons v vs) = is_spelled name_of v && are_spelled name_of vs

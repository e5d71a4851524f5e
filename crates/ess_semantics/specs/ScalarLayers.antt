-- Atoms, tuples, records and matrices. A tuple, record or matrix has no table of its own.
use Rattle.std.specs.Prelude.{ℕ, zero, suc, ◌*◌, List, [], ◌∷◌, map, length, take, drop, Option, Some, option_map}
use Rattle.ess_semantics.specs.Lists.{and_then, each_of, only_of, append_all}
use Rattle.ess_semantics.specs.Values.{Text, a_record, Value, node, to_list, of_list, tuple, matrix}
use Rattle.ess_semantics.specs.Domains.{Domain, Domains, no_domains, more_domains, domain_list, member_list}
use Rattle.ess_semantics.specs.Tables.{code, atom_value, one_cell}
use Rattle.ess_semantics.specs.Cells.{only_grid}
use Rattle.ess_semantics.specs.Layers.{Layer, as_cell, codes_of, widened_table, plain_layer, some_each, only_child, first_of_each}

-- A number, truth value or position in one cell.
abbrev pub atom_layer : Domain → Layer
atom_layer d = record (plain_layer (λ c vss. only_grid c (λ f. and_then (f []) (atom_value d)))) {
  own = widened_table [] (as_cell d) ∷ [];
  own_tables = λ v ss. one_cell (code v) ∷ [];
}

-- Each value as the only one of its child.
abbrev pub each_alone : List Value → List (List (Option Value))
each_alone vs = map (λ v. Some v ∷ []) vs

-- The components of a tuple or record.
abbrev pub compound_items : Value → List Value
compound_items (node k vs) = to_list vs
compound_items v = []

-- Each component by itself.
abbrev pub tuple_layer : Domains → Layer
tuple_layer ds = record (plain_layer (λ c vss. Some (tuple (of_list (first_of_each vss))))) {
  children = domain_list ds;
  contents = λ v. each_alone (compound_items v);
}

-- Each component by itself, in the order of the fields.
abbrev pub record_layer : List Text → Domains → Layer
record_layer fs ds = record (plain_layer (λ c vss. Some (node (a_record fs) (of_list (first_of_each vss))))) {
  children = domain_list ds;
  contents = λ v. each_alone (compound_items v);
}

-- The elements of a nested matrix, row by row.
abbrev pub elements : Domains → Value → List Value
elements no_domains v = v ∷ []
elements (more_domains d ds) (matrix is xs) = append_all (map (elements ds) (to_list xs))
elements (more_domains d ds) _ = []

-- k lists of n items each.
abbrev pub in_lists_of : {A : Type 0} → ℕ → ℕ → List A → List (List A)
in_lists_of zero n xs = []
in_lists_of (suc k) n xs = take n xs ∷ in_lists_of k n (drop n xs)

-- How many elements a matrix has.
abbrev pub count_of_places : Domains → ℕ
count_of_places no_domains = 1
count_of_places (more_domains d ds) = length (member_list d) * count_of_places ds

-- The nested matrix of these elements.
abbrev pub nested_of : Domains → List Value → Option Value
nested_of no_domains vs = only_of vs
nested_of (more_domains d ds) vs =
    option_map (λ ys. matrix (of_list (member_list d)) (of_list ys))
    (each_of (in_lists_of (length (member_list d)) (count_of_places ds) vs) (nested_of ds))

-- The element's tables over the index domains.
abbrev pub matrix_layer : Domains → Domain → Layer
matrix_layer is d = record (plain_layer (λ c vss. nested_of is (only_child vss))) {
  children = d ∷ [];
  axes = map codes_of (domain_list is);
  contents = λ v. some_each (elements is v) ∷ [];
}

-- The representations of functions: a value for each argument, total or with flags, or the relation of the pairs.
use Rattle.std.specs.Prelude.{List, [], ◌∷◌, map, ℤ, Option, Some, None, option_map}
use Rattle.ess_semantics.specs.Lists.{and_then, is_some_and, only_of}
use Rattle.ess_semantics.specs.Values.{a_function, a_relation, Value, node, to_list, of_list, pair, items_of}
use Rattle.ess_semantics.specs.Collections.{value_at, function_of}
use Rattle.ess_semantics.specs.Domains.{Attribute, Domain, Domains, booleans, tuples, domain_list, member_list}
use Rattle.ess_semantics.specs.Attributes.{function_attributes_hold}
use Rattle.ess_semantics.specs.Sizes.{child_relation}
use Rattle.ess_semantics.specs.Tables.{code}
use Rattle.ess_semantics.specs.Cells.{Cells, Axes}
use Rattle.ess_semantics.specs.Layers.{Layer, where_flagged, codes_of, fixed_table, plain_layer, own_cell, chosen, only_child, flags_table}

-- A layer that builds functions from d to c, of which the attributes are asked.
abbrev pub function_layer : List Attribute → Domain → Domain → (Cells → List (List Value) → Option Value) → Layer
function_layer ks d c f =
    record (plain_layer f) { is_canonical = λ cs vss. is_some_and (f cs vss) (λ v. function_attributes_hold ks d c (items_of v)) }

-- The pairs of these arguments and values.
abbrev pub with_arguments : List Value → List Value → List Value
with_arguments (x ∷ xs) (v ∷ vs) = pair x v ∷ with_arguments xs vs
with_arguments _ _ = []

-- The function of these arguments and values.
abbrev pub function_with : List Value → List Value → Value
function_with xs vs = node a_function (of_list (with_arguments xs vs))

-- A value for each member of d, where the members stand row by row over the axes.
abbrev pub total_layer : List Attribute → Axes → Domain → Domain → Layer
total_layer ks as' d c =
    record (function_layer ks d c (λ cs vss. Some (function_with (member_list d) (only_child vss)))) {
      children = c ∷ [];
      axes = as';
      contents = λ v. map (value_at (items_of v)) (member_list d) ∷ [];
    }

-- A flag and a value for each member of d. `index` gives an argument's place among the axes.
abbrev pub partial_layer : List Attribute → Axes → (Value → List ℤ) → Domain → Domain → Layer
partial_layer ks as' index d c =
    record (function_layer ks d c (λ cs vss.
    option_map (λ xs. function_with xs (only_child vss)) (chosen (member_list d) (λ x. own_cell cs (index x))))) {
      own = fixed_table as' booleans ∷ [];
      children = c ∷ [];
      axes = as';
      in_use = where_flagged;
      contents = λ v. map (value_at (items_of v)) (member_list d) ∷ [];
      own_tables = λ v ss. flags_table as' ss ∷ [];
    }

-- From an atom.
abbrev pub function_1d_layer : List Attribute → Domain → Domain → Layer
function_1d_layer ks d c = total_layer ks (codes_of d ∷ []) d c

-- From an atom, with a flag for each argument.
abbrev pub function_1d_partial_layer : List Attribute → Domain → Domain → Layer
function_1d_partial_layer ks d c = partial_layer ks (codes_of d ∷ []) (λ x. code x ∷ []) d c

-- From a tuple of atoms, with one axis for each component.
abbrev pub function_nd_layer : List Attribute → Domains → Domain → Layer
function_nd_layer ks ds c = total_layer ks (map codes_of (domain_list ds)) (tuples ds) c

-- From a tuple of atoms, with a flag for each argument.
abbrev pub function_nd_partial_layer : List Attribute → Domains → Domain → Layer
function_nd_partial_layer ks ds c = partial_layer ks (map codes_of (domain_list ds)) (λ x. map code (items_of x)) (tuples ds) c

-- The function of the pairs of a relation.
abbrev pub function_from : Value → Option Value
function_from (node a_relation ps) = function_of (to_list ps)
function_from _ = None

-- The function whose pairs are a relation, and nothing where two of them have one argument.
abbrev pub function_as_relation_layer : List Attribute → Domain → Domain → Layer
function_as_relation_layer ks d c =
    record (function_layer ks d c (λ cs vss. and_then (only_of (only_child vss)) function_from)) {
      children = child_relation ks d c ∷ [];
      contents = λ v. (Some (node a_relation (of_list (items_of v))) ∷ []) ∷ [];
    }

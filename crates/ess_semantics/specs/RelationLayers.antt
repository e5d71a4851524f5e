-- The representations of relations: which tuples occur, or the set of the tuples.
use Rattle.std.specs.Prelude.{List, [], ◌∷◌, map, Option, Some, None, option_map}
use Rattle.ess_semantics.specs.Lists.{and_then, is_some_and, only_of}
use Rattle.ess_semantics.specs.Values.{a_set, a_relation, Value, node, of_list, items_of}
use Rattle.ess_semantics.specs.Collections.{holds}
use Rattle.ess_semantics.specs.Domains.{Attribute, Domains, booleans, tuples, domain_list, member_list}
use Rattle.ess_semantics.specs.Attributes.{relation_attributes_hold}
use Rattle.ess_semantics.specs.Sizes.{child_set}
use Rattle.ess_semantics.specs.Tables.{code, truth_number}
use Rattle.ess_semantics.specs.Cells.{Cells, only_grid}
use Rattle.ess_semantics.specs.Layers.{Layer, codes_of, fixed_table, plain_layer, chosen, only_child}

-- A layer that builds relations over the components ds, of which the attributes are asked.
abbrev pub relation_layer : List Attribute → Domains → (Cells → List (List Value) → Option Value) → Layer
relation_layer ks ds f = record (plain_layer f) { is_canonical = λ cs vss. is_some_and (f cs vss) (λ v. relation_attributes_hold ks ds (items_of v)) }

-- A truth value for each tuple.
abbrev pub relation_matrix_layer : List Attribute → Domains → Layer
relation_matrix_layer ks ds =
    record (relation_layer ks ds (λ c vss. only_grid c (λ f.
    option_map (λ xs. node a_relation (of_list xs)) (chosen (member_list (tuples ds)) (λ x. f (map code (items_of x))))))) {
      own = fixed_table (map codes_of (domain_list ds)) booleans ∷ [];
      own_tables = λ v ss. record {
        axes = map codes_of (domain_list ds);
        items = map (λ x. truth_number (holds (items_of v) x)) (member_list (tuples ds));
      } ∷ [];
    }

-- The relation of the members of a set of tuples.
abbrev pub relation_from : Value → Option Value
relation_from (node a_set ts) = Some (node a_relation ts)
relation_from _ = None

-- The relation whose tuples are a set.
abbrev pub relation_as_set_layer : List Attribute → Domains → Layer
relation_as_set_layer ks ds =
    record (relation_layer ks ds (λ c vss. and_then (only_of (only_child vss)) relation_from)) {
      children = child_set ks ds ∷ [];
      contents = λ v. (Some (node a_set (of_list (items_of v))) ∷ []) ∷ [];
    }

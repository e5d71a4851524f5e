-- Worked examples of how many items a list has at most.
use Rattle.std.specs.Prelude.{◌≡◌, refl, true, false, [], ◌∷◌, pos, codes, Option, Some, None}
use Rattle.ess_semantics.specs.declared.words.Op2.{Op2}
use Rattle.ess_semantics.specs.Lists.{and_then}
use Rattle.ess_semantics.specs.Values.{Text, a_function, a_set, a_record, Value, node, of_list, pair}
use Rattle.ess_semantics.specs.Domains.{Domain, between, tuples, records, matrices, sets, functions, no_domains, more_domains}
use Rattle.ess_semantics.specs.Trees.{to_component, to_field, tuple_literal, record_literal, function_literal, index, name_pat, Ex, Exs, node_ex, comp_ex, cell_ex, no_exs, Gens, no_gens, over, from, cond}
use Rattle.ess_semantics.specs.Operators.{list_value}
use Rattle.ess_semantics.specs.Meaning.{empty_env, meaning}
use Rattle.ess_semantics.proofs.Shorthands.{N, n, v, v2, es1, es2, bi, at, app, upto}
use Rattle.ess_rules_laws.specs.SourceRules.{list_of}
use Rattle.ess_numbered_laws.specs.MostItems.{an_item, a_result, a_component, a_field, all_summed, most_items}
use Rattle.ess_numbered_laws.specs.BoundLaws.{reach_at_most, follows}

abbrev q : Text
q = codes "q"

abbrev z : Text
z = codes "z"

abbrev k : Ex
k = cell_ex false (codes "k") no_exs

-- `[1, 2]` and `[3]`.
abbrev lists : Exs
lists = es2 (list_of (es2 (n 1) (n 2))) (list_of (es1 (n 3)))

-- The value of the number, where no table is read.
abbrev most_of : Ex → Option Value
most_of t = and_then (most_items z t) (λ m. meaning m empty_env)

-- `[[1, 2], [3]][k]` and a result of `function(1 --> [1, 2], 2 --> [3])` have `sum([2, 1])` at most, a component and a field as many as it
-- has.
abbrev pairs : Exs
pairs = es2 (node_ex false tuple_literal (es2 (n 1) (list_of (es2 (n 1) (n 2)))))
    (node_ex false tuple_literal (es2 (n 2) (list_of (es1 (n 3)))))

picked : (most_items z (at (list_of lists) k) ≡ Some (all_summed (es2 (n 2) (n 1)))) × (most_of (at (list_of lists) k) ≡ Some (v 3))
    × (most_of (app (node_ex false function_literal pairs) k) ≡ Some (v 3))
    × (most_of (node_ex false (index (to_component 2 ∷ [])) (es1 (node_ex false tuple_literal lists))) ≡ Some (v 1))
    × (most_of (node_ex false (index (to_field (codes "b") ∷ [])) (es1 (node_ex false (record_literal (codes "a" ∷ codes "b" ∷ [])) lists)))
    ≡ Some (v 1))
picked = (refl, refl, refl, refl, refl)

-- A condition counts where it reads no table; behind a picked source it is so often. Names tell nothing.
abbrev where_so : Gens → Ex
where_so gs = comp_ex (N q) gs

behind : (most_of (where_so (over (name_pat q) (upto 3) (cond (bi Op2.Gt (N q) (n 1)) no_gens))) ≡ Some (v 2))
    × (most_of (where_so (over (name_pat q) (upto 3) (cond (bi Op2.Gt (N q) k) no_gens))) ≡ Some (v 3))
    × (most_of (where_so (from (name_pat q) (at (list_of lists) k) (cond (bi Op2.Gt k (n 1)) no_gens))) ≡ Some (v 3))
    × (most_of (where_so (from (name_pat q) (at (list_of lists) k) (cond (bi Op2.Gt (N q) (n 1)) no_gens))) ≡ None)
    × (most_of (N q) ≡ None)
behind = (refl, refl, refl, refl, refl)

-- ---- values

-- Of `[[1, 2], []]` each item has 2 items at most, and not 1; a result of a function, a component, a field; a number has none.
abbrev rows : Value
rows = list_value (list_value v2 ∷ list_value [] ∷ [])

reached : (reach_at_most [] 2 rows ≡ true) × (reach_at_most [] 1 rows ≡ false)
    × (reach_at_most (an_item ∷ []) 2 rows ≡ true) × (reach_at_most (an_item ∷ []) 1 rows ≡ false)
    × (reach_at_most (a_result ∷ []) 1 (node a_function (of_list (pair (v 1) (list_value v2) ∷ []))) ≡ false)
    × (reach_at_most (a_component 2 ∷ []) 2 (pair (v 1) (list_value v2)) ≡ true)
    × (reach_at_most (a_component 3 ∷ []) 0 (pair (v 1) (list_value v2)) ≡ true)
    × (reach_at_most (a_field (codes "a") ∷ []) 1 (node (a_record (codes "a" ∷ [])) (of_list (list_value v2 ∷ []))) ≡ false)
    × (reach_at_most (an_item ∷ an_item ∷ []) 0 rows ≡ true)
reached = (refl, refl, refl, refl, refl, refl, refl, refl, refl)

-- Matrices over `int(1..2)` have two items, also as results of functions and as components. Of sets nothing is asked.
abbrev two : Domain → Domain
two d = matrices (more_domains (between (pos 1) (pos 2)) no_domains) d

abbrev ints : Domain
ints = between (pos 0) (pos 9)

followed : (follows (two ints) (list_value v2) ≡ true) × (follows (two ints) (list_value (v 1 ∷ [])) ≡ false)
    × (follows (functions [] ints (two ints)) (node a_function (of_list (pair (v 1) (list_value v2) ∷ []))) ≡ true)
    × (follows (functions [] ints (two ints)) (node a_function (of_list (pair (v 1) (list_value []) ∷ []))) ≡ false)
    × (follows (tuples (more_domains ints (more_domains (two ints) no_domains))) (pair (v 1) (list_value v2)) ≡ true)
    × (follows (tuples (more_domains ints no_domains)) (pair (v 1) (v 2)) ≡ false)
    × (follows (records (codes "a" ∷ []) (more_domains ints no_domains)) (node (a_record (codes "b" ∷ [])) (of_list (v 1 ∷ []))) ≡ false)
    × (follows (sets [] (two ints)) (node a_set (of_list (v 1 ∷ []))) ≡ true)
followed = (refl, refl, refl, refl, refl, refl, refl, refl)

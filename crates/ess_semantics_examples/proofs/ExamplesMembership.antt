-- Worked examples of membership: each case is a domain with some of its members and some values that are none.
use Rattle.std.specs.Prelude.{◌≡◌, refl, Bool, true, false, List, [], ◌∷◌, map, negsuc, codes, ◌&&◌, not}
use Rattle.ess_semantics.specs.declared.words.Key.{Key}
use Rattle.ess_semantics.specs.Values.{a_set, a_mset, a_relation, a_partition, a_record, Value, number, truth, item, node, of_list, pair, matrix}
use Rattle.ess_semantics.specs.Collections.{set_of, mset_of, relation_of}
use Rattle.ess_semantics.specs.Trees.{one_value, both_ends, low_end, high_end, flag, valued, no_exs, more_exs, Dom, bool_dom, int_dom, name_dom, record_dom, matrix_dom, set_dom, mset_dom, function_dom, relation_dom, partition_dom, no_doms, more_doms}
use Rattle.std.specs.List.{list_all, list_any}
use Rattle.ess_semantics.specs.Meaning.{Env, empty_env}
use Rattle.ess_semantics.specs.Parameters.{is_member}
use Rattle.ess_semantics.proofs.Shorthands.{n, es1, es2, ds2, range, upto, any_int, set, sized, v, function}

-- An enumerated type E and an unnamed type U, of two values each.
abbrev types : Env
types = record empty_env { types = record { name = codes "E"; count = 2; names = codes "red" ∷ codes "blue" ∷ [] } ∷ record { name = codes "U"; count = 2; names = [] } ∷ [] }

-- A domain, some of its members, and some values that aren't members.
abbrev Case : Type 0
Case = Dom × List Value × List Value

abbrev is_right : Case → Bool
is_right c = list_all (is_member c.0 types) c.1 && not (list_any (is_member c.0 types) c.2)

abbrev Hold : List Case → Type 0
Hold cs = map is_right cs ≡ map (λ c. true) cs

abbrev sets_and_multisets : List Case
sets_and_multisets =
    -- set (size 2) of int(1..4): {1, 3}; not {1}, {1, 2, 3}, {0, 1}
    (sized Key.Size 2 (upto 4), (set_of (v 1 ∷ v 3 ∷ []) ∷ []), (set_of (v 1 ∷ []) ∷ set_of (v 1 ∷ v 2 ∷ v 3 ∷ []) ∷ set_of (v 0 ∷ v 1 ∷ []) ∷ [])) ∷
    -- set (minSize 1, maxSize 2) of int(1..4): {4}, {1, 2}; not {}, {1, 2, 3}
    (set_dom (valued Key.MinSize ∷ valued Key.MaxSize ∷ []) (es2 (n 1) (n 2)) (upto 4), (set_of (v 4 ∷ []) ∷ set_of (v 1 ∷ v 2 ∷ []) ∷ []), (set_of [] ∷ set_of (v 1 ∷ v 2 ∷ v 3 ∷ []) ∷ [])) ∷
    -- mset (minOccur 2, maxOccur 3) of int(1..2): mset(), mset(1, 1), mset(1, 1, 2, 2, 2); not mset(1), mset(1, 1, 2), mset(1, 1, 1, 1)
    (mset_dom (valued Key.MinOccur ∷ valued Key.MaxOccur ∷ []) (es2 (n 2) (n 3)) (upto 2), (mset_of [] ∷ mset_of (v 1 ∷ v 1 ∷ []) ∷ mset_of (v 1 ∷ v 1 ∷ v 2 ∷ v 2 ∷ v 2 ∷ []) ∷ []), (mset_of (v 1 ∷ []) ∷ mset_of (v 1 ∷ v 1 ∷ v 2 ∷ []) ∷ mset_of (v 1 ∷ v 1 ∷ v 1 ∷ v 1 ∷ []) ∷ [])) ∷
    -- mset (size 3) of int(1..2): mset(1, 1, 2); not mset(1, 2)
    (mset_dom (valued Key.Size ∷ []) (es1 (n 3)) (upto 2), (mset_of (v 1 ∷ v 1 ∷ v 2 ∷ []) ∷ []), (mset_of (v 1 ∷ v 2 ∷ []) ∷ [])) ∷
    -- mset (minSize 1, maxSize 2) of int(1..2): mset(2, 2); not mset(), mset(1, 2, 2)
    (mset_dom (valued Key.MinSize ∷ valued Key.MaxSize ∷ []) (es2 (n 1) (n 2)) (upto 2), (mset_of (v 2 ∷ v 2 ∷ []) ∷ []), (mset_of [] ∷ mset_of (v 1 ∷ v 2 ∷ v 2 ∷ []) ∷ [])) ∷
    -- set (size 1) of set (minSize 1) of int(1..2): {{1}}, {{1, 2}}; not {{}}
    (sized Key.Size 1 (sized Key.MinSize 1 (upto 2)), (set_of (set_of (v 1 ∷ []) ∷ []) ∷ set_of (set_of (v 1 ∷ v 2 ∷ []) ∷ []) ∷ []), (set_of (set_of [] ∷ []) ∷ [])) ∷
    []

sets_and_multisets_hold : Hold sets_and_multisets
sets_and_multisets_hold = refl

abbrev functions : List Case
functions =
    -- function (total) int(1..2) --> bool: function(1 --> true, 2 --> true); not function(1 --> true)
    (function_dom (flag Key.Total ∷ []) no_exs (upto 2) bool_dom, (function (pair (v 1) (truth true) ∷ pair (v 2) (truth true) ∷ []) ∷ []), (function (pair (v 1) (truth true) ∷ []) ∷ [])) ∷
    -- function (injective) int(1..3) --> int(1..3): function(1 --> 2, 3 --> 1), function(); not function(1 --> 2, 3 --> 2)
    (function_dom (flag Key.Injective ∷ []) no_exs (upto 3) (upto 3), (function (pair (v 1) (v 2) ∷ pair (v 3) (v 1) ∷ []) ∷ function [] ∷ []), (function (pair (v 1) (v 2) ∷ pair (v 3) (v 2) ∷ []) ∷ [])) ∷
    -- function (surjective) int(1..3) --> int(1..2): function(1 --> 2, 3 --> 1); not function(1 --> 2, 3 --> 2)
    (function_dom (flag Key.Surjective ∷ []) no_exs (upto 3) (upto 2), (function (pair (v 1) (v 2) ∷ pair (v 3) (v 1) ∷ []) ∷ []), (function (pair (v 1) (v 2) ∷ pair (v 3) (v 2) ∷ []) ∷ [])) ∷
    -- function (bijective) int(1..3) --> int(1..2): function(1 --> 2, 3 --> 1); not function(1 --> 2, 2 --> 1, 3 --> 1), function(1 --> 2)
    (function_dom (flag Key.Bijective ∷ []) no_exs (upto 3) (upto 2), (function (pair (v 1) (v 2) ∷ pair (v 3) (v 1) ∷ []) ∷ []), (function (pair (v 1) (v 2) ∷ pair (v 2) (v 1) ∷ pair (v 3) (v 1) ∷ []) ∷ function (pair (v 1) (v 2) ∷ []) ∷ [])) ∷
    -- function (size 1) int(1..3) --> int(1..2): function(3 --> 2); not function()
    (function_dom (valued Key.Size ∷ []) (es1 (n 1)) (upto 3) (upto 2), (function (pair (v 3) (v 2) ∷ []) ∷ []), (function [] ∷ [])) ∷
    -- function (minSize 1, maxSize 2) int(1..3) --> int: function(3 --> -7); not function(), function(1 --> 1, 2 --> 1, 3 --> 1)
    (function_dom (valued Key.MinSize ∷ valued Key.MaxSize ∷ []) (es2 (n 1) (n 2)) (upto 3) any_int, (function (pair (v 3) (number (negsuc 6)) ∷ []) ∷ []), (function [] ∷ function (pair (v 1) (v 1) ∷ pair (v 2) (v 1) ∷ pair (v 3) (v 1) ∷ []) ∷ [])) ∷
    []

functions_hold : Hold functions
functions_hold = refl

abbrev relations : List Case
relations =
    -- relation (reflexive) of (int(1..2) * int(1..3)): relation((1, 1), (2, 2)), relation((1, 1), (2, 2), (1, 3)); not relation((1, 1), (3, 3))
    (relation_dom (flag Key.Reflexive ∷ []) no_exs (ds2 (upto 2) (upto 3)), (relation_of (pair (v 1) (v 1) ∷ pair (v 2) (v 2) ∷ []) ∷ relation_of (pair (v 1) (v 1) ∷ pair (v 2) (v 2) ∷ pair (v 1) (v 3) ∷ []) ∷ []), (relation_of (pair (v 1) (v 1) ∷ pair (v 3) (v 3) ∷ []) ∷ [])) ∷
    -- relation (irreflexive) of (int(1..2) * int(1..2)): relation((1, 2)), relation(); not relation((1, 2), (2, 2))
    (relation_dom (flag Key.Irreflexive ∷ []) no_exs (ds2 (upto 2) (upto 2)), (relation_of (pair (v 1) (v 2) ∷ []) ∷ relation_of [] ∷ []), (relation_of (pair (v 1) (v 2) ∷ pair (v 2) (v 2) ∷ []) ∷ [])) ∷
    -- relation (symmetric) of (int(1..2) * int(1..2)): relation((1, 2), (2, 1)), relation((1, 1)); not relation((1, 2))
    (relation_dom (flag Key.Symmetric ∷ []) no_exs (ds2 (upto 2) (upto 2)), (relation_of (pair (v 1) (v 2) ∷ pair (v 2) (v 1) ∷ []) ∷ relation_of (pair (v 1) (v 1) ∷ []) ∷ []), (relation_of (pair (v 1) (v 2) ∷ []) ∷ [])) ∷
    -- relation (antiSymmetric) of (int(1..2) * int(1..2)): relation((1, 2), (1, 1)), relation((1, 1), (2, 2)); not relation((1, 2), (2, 1))
    (relation_dom (flag Key.AntiSymmetric ∷ []) no_exs (ds2 (upto 2) (upto 2)), (relation_of (pair (v 1) (v 2) ∷ pair (v 1) (v 1) ∷ []) ∷ relation_of (pair (v 1) (v 1) ∷ pair (v 2) (v 2) ∷ []) ∷ []), (relation_of (pair (v 1) (v 2) ∷ pair (v 2) (v 1) ∷ []) ∷ [])) ∷
    -- relation (aSymmetric) of (int(1..2) * int(1..2)): relation((1, 2)); not relation((1, 2), (2, 1)), relation((1, 1))
    (relation_dom (flag Key.ASymmetric ∷ []) no_exs (ds2 (upto 2) (upto 2)), (relation_of (pair (v 1) (v 2) ∷ []) ∷ []), (relation_of (pair (v 1) (v 2) ∷ pair (v 2) (v 1) ∷ []) ∷ relation_of (pair (v 1) (v 1) ∷ []) ∷ [])) ∷
    -- relation (transitive) of (int(1..3) * int(1..3)): relation((1, 2), (2, 3), (1, 3)), relation(); not relation((1, 2), (2, 3)), relation((1, 2), (2, 1))
    (relation_dom (flag Key.Transitive ∷ []) no_exs (ds2 (upto 3) (upto 3)), (relation_of (pair (v 1) (v 2) ∷ pair (v 2) (v 3) ∷ pair (v 1) (v 3) ∷ []) ∷ relation_of [] ∷ []), (relation_of (pair (v 1) (v 2) ∷ pair (v 2) (v 3) ∷ []) ∷ relation_of (pair (v 1) (v 2) ∷ pair (v 2) (v 1) ∷ []) ∷ [])) ∷
    -- relation (size 1) of (int(1..2) * bool): relation((2, true)); not relation((2, true), (2, false)), relation((3, true))
    (relation_dom (valued Key.Size ∷ []) (es1 (n 1)) (ds2 (upto 2) bool_dom), (relation_of (pair (v 2) (truth true) ∷ []) ∷ []), (relation_of (pair (v 2) (truth true) ∷ pair (v 2) (truth false) ∷ []) ∷ relation_of (pair (v 3) (truth true) ∷ []) ∷ [])) ∷
    []

relations_hold : Hold relations
relations_hold = refl

abbrev partitions : List Case
partitions =
    -- partition (numParts 2) from int(1..3): partition({1, 3}, {2}); not partition({1, 2, 3}), partition({1}, {3})
    (partition_dom (valued Key.NumParts ∷ []) (es1 (n 2)) (upto 3), (node a_partition (of_list (set_of (v 1 ∷ v 3 ∷ []) ∷ set_of (v 2 ∷ []) ∷ [])) ∷ []), (node a_partition (of_list (set_of (v 1 ∷ v 2 ∷ v 3 ∷ []) ∷ [])) ∷ node a_partition (of_list (set_of (v 1 ∷ []) ∷ set_of (v 3 ∷ []) ∷ [])) ∷ [])) ∷
    -- partition (minNumParts 2, maxNumParts 2) from int(1..3): partition({1, 3}, {2}); not partition({1, 2, 3}), partition({1}, {2}, {3})
    (partition_dom (valued Key.MinNumParts ∷ valued Key.MaxNumParts ∷ []) (es2 (n 2) (n 2)) (upto 3), (node a_partition (of_list (set_of (v 1 ∷ v 3 ∷ []) ∷ set_of (v 2 ∷ []) ∷ [])) ∷ []), (node a_partition (of_list (set_of (v 1 ∷ v 2 ∷ v 3 ∷ []) ∷ [])) ∷ node a_partition (of_list (set_of (v 1 ∷ []) ∷ set_of (v 2 ∷ []) ∷ set_of (v 3 ∷ []) ∷ [])) ∷ [])) ∷
    -- partition (partSize 2) from int(1..4): partition({1, 3}, {2, 4}); not partition({1}, {2, 3, 4})
    (partition_dom (valued Key.PartSize ∷ []) (es1 (n 2)) (upto 4), (node a_partition (of_list (set_of (v 1 ∷ v 3 ∷ []) ∷ set_of (v 2 ∷ v 4 ∷ []) ∷ [])) ∷ []), (node a_partition (of_list (set_of (v 1 ∷ []) ∷ set_of (v 2 ∷ v 3 ∷ v 4 ∷ []) ∷ [])) ∷ [])) ∷
    -- partition (minPartSize 2) from int(1..5): partition({1, 3}, {2, 4, 5}); not partition({1}, {2, 3, 4, 5})
    (partition_dom (valued Key.MinPartSize ∷ []) (es1 (n 2)) (upto 5), (node a_partition (of_list (set_of (v 1 ∷ v 3 ∷ []) ∷ set_of (v 2 ∷ v 4 ∷ v 5 ∷ []) ∷ [])) ∷ []), (node a_partition (of_list (set_of (v 1 ∷ []) ∷ set_of (v 2 ∷ v 3 ∷ v 4 ∷ v 5 ∷ []) ∷ [])) ∷ [])) ∷
    -- partition (maxPartSize 2) from int(1..3): partition({1, 3}, {2}); not partition({1, 2, 3})
    (partition_dom (valued Key.MaxPartSize ∷ []) (es1 (n 2)) (upto 3), (node a_partition (of_list (set_of (v 1 ∷ v 3 ∷ []) ∷ set_of (v 2 ∷ []) ∷ [])) ∷ []), (node a_partition (of_list (set_of (v 1 ∷ v 2 ∷ v 3 ∷ []) ∷ [])) ∷ [])) ∷
    -- partition (regular) from int(1..4): partition({1, 3}, {2, 4}), partition({1}, {2}, {3}, {4}); not partition({1}, {2, 3, 4})
    (partition_dom (flag Key.Regular ∷ []) no_exs (upto 4), (node a_partition (of_list (set_of (v 1 ∷ v 3 ∷ []) ∷ set_of (v 2 ∷ v 4 ∷ []) ∷ [])) ∷ node a_partition (of_list (set_of (v 1 ∷ []) ∷ set_of (v 2 ∷ []) ∷ set_of (v 3 ∷ []) ∷ set_of (v 4 ∷ []) ∷ [])) ∷ []), (node a_partition (of_list (set_of (v 1 ∷ []) ∷ set_of (v 2 ∷ v 3 ∷ v 4 ∷ []) ∷ [])) ∷ [])) ∷
    -- partition from int(1..0): partition()
    (partition_dom [] no_exs (upto 0), (node a_partition (of_list []) ∷ []), []) ∷
    []

partitions_hold : Hold partitions
partitions_hold = refl

abbrev other_domains : List Case
other_domains =
    -- int(1..3, 2..5, 9): 1, 5, 9; not 6, 0
    (int_dom (both_ends ∷ both_ends ∷ one_value ∷ []) (more_exs (n 1) (more_exs (n 3) (more_exs (n 2) (es2 (n 5) (n 9))))), (v 1 ∷ v 5 ∷ v 9 ∷ []), (v 6 ∷ v 0 ∷ [])) ∷
    -- int(4..): 4, 100; not 3
    (int_dom (low_end ∷ []) (es1 (n 4)), (v 4 ∷ v 100 ∷ []), (v 3 ∷ [])) ∷
    -- int(..4): 4, -100; not 5
    (int_dom (high_end ∷ []) (es1 (n 4)), (v 4 ∷ number (negsuc 99) ∷ []), (v 5 ∷ [])) ∷
    -- matrix indexed by [int(2, 4)] of bool: [true, false; int(2, 4)]; not [true, false], [true; int(2)]
    (matrix_dom (more_doms (int_dom (one_value ∷ one_value ∷ []) (es2 (n 2) (n 4))) no_doms) bool_dom, (matrix (of_list (v 2 ∷ v 4 ∷ [])) (of_list (truth true ∷ truth false ∷ [])) ∷ []), (matrix (of_list (v 1 ∷ v 2 ∷ [])) (of_list (truth true ∷ truth false ∷ [])) ∷ matrix (of_list (v 2 ∷ [])) (of_list (truth true ∷ [])) ∷ [])) ∷
    -- matrix indexed by [bool, int(1..2)] of int(0..9): [[1, 2], [3, 4]; bool]; not [[1, 2], [3, 4]], [[1, 2], [3, 10]; bool]
    (matrix_dom (ds2 bool_dom (upto 2)) (range (n 0) (n 9)), (matrix (of_list (truth false ∷ truth true ∷ [])) (of_list (matrix (of_list (v 1 ∷ v 2 ∷ [])) (of_list (v 1 ∷ v 2 ∷ [])) ∷ matrix (of_list (v 1 ∷ v 2 ∷ [])) (of_list (v 3 ∷ v 4 ∷ [])) ∷ [])) ∷ []), (matrix (of_list (v 1 ∷ v 2 ∷ [])) (of_list (matrix (of_list (v 1 ∷ v 2 ∷ [])) (of_list (v 1 ∷ v 2 ∷ [])) ∷ matrix (of_list (v 1 ∷ v 2 ∷ [])) (of_list (v 3 ∷ v 4 ∷ [])) ∷ [])) ∷ matrix (of_list (truth false ∷ truth true ∷ [])) (of_list (matrix (of_list (v 1 ∷ v 2 ∷ [])) (of_list (v 1 ∷ v 2 ∷ [])) ∷ matrix (of_list (v 1 ∷ v 2 ∷ [])) (of_list (v 3 ∷ v 10 ∷ [])) ∷ [])) ∷ [])) ∷
    -- record {b : bool, a : int(1..2)}: record {a = 1, b = true}; not record {a = 3, b = true}
    (record_dom (codes "a" ∷ codes "b" ∷ []) (ds2 (upto 2) bool_dom), (node (a_record (codes "a" ∷ codes "b" ∷ [])) (of_list (v 1 ∷ truth true ∷ [])) ∷ []), (node (a_record (codes "a" ∷ codes "b" ∷ [])) (of_list (v 3 ∷ truth true ∷ [])) ∷ [])) ∷
    -- E: red, blue
    (name_dom (codes "E"), (item (codes "E") 1 ∷ item (codes "E") 2 ∷ []), []) ∷
    -- U: U_1, U_2
    (name_dom (codes "U"), (item (codes "U") 1 ∷ item (codes "U") 2 ∷ []), []) ∷
    []

other_domains_hold : Hold other_domains
other_domains_hold = refl

-- ---- values that aren't of canonical form

falling_set : is_member (set (upto 3)) types (node a_set (of_list (v 2 ∷ v 1 ∷ []))) ≡ false
falling_set = refl

set_with_repeat : is_member (set (upto 3)) types (node a_set (of_list (v 1 ∷ v 1 ∷ []))) ≡ false
set_with_repeat = refl

falling_multiset : is_member (mset_dom (valued Key.MaxSize ∷ []) (es1 (n 2)) (upto 3)) types (node a_mset (of_list (v 2 ∷ v 1 ∷ []))) ≡ false
falling_multiset = refl

multiset_with_repeat : is_member (mset_dom (valued Key.MaxSize ∷ []) (es1 (n 2)) (upto 3)) types (node a_mset (of_list (v 1 ∷ v 1 ∷ []))) ≡ true
multiset_with_repeat = refl

falling_arguments : is_member (function_dom [] no_exs (upto 3) (upto 3)) types (function (pair (v 2) (v 1) ∷ pair (v 1) (v 1) ∷ [])) ≡ false
falling_arguments = refl

two_results : is_member (function_dom [] no_exs (upto 3) (upto 3)) types (function (pair (v 1) (v 1) ∷ pair (v 1) (v 2) ∷ [])) ≡ false
two_results = refl

falling_tuples : is_member (relation_dom [] no_exs (ds2 (upto 3) (upto 3))) types (node a_relation (of_list (pair (v 2) (v 1) ∷ pair (v 1) (v 1) ∷ []))) ≡ false
falling_tuples = refl

falling_parts : is_member (partition_dom [] no_exs (upto 3)) types (node a_partition (of_list (set_of (v 2 ∷ []) ∷ set_of (v 1 ∷ v 3 ∷ []) ∷ []))) ≡ false
falling_parts = refl

with_empty_part : is_member (partition_dom [] no_exs (upto 3)) types (node a_partition (of_list (set_of [] ∷ set_of (v 1 ∷ v 2 ∷ v 3 ∷ []) ∷ []))) ≡ false
with_empty_part = refl

overlapping_parts : is_member (partition_dom [] no_exs (upto 3)) types (node a_partition (of_list (set_of (v 1 ∷ v 2 ∷ []) ∷ set_of (v 2 ∷ v 3 ∷ []) ∷ []))) ≡ false
overlapping_parts = refl

parts_of_too_few : is_member (partition_dom [] no_exs (upto 3)) types (node a_partition (of_list (set_of (v 1 ∷ []) ∷ []))) ≡ false
parts_of_too_few = refl

below_all_positions : is_member (name_dom (codes "U")) types (item (codes "U") 0) ≡ false
below_all_positions = refl

above_all_positions : is_member (name_dom (codes "U")) types (item (codes "U") 3) ≡ false
above_all_positions = refl

of_another_type : is_member (name_dom (codes "U")) types (item (codes "V") 1) ≡ false
of_another_type = refl

falling_indices : is_member (matrix_dom (more_doms (upto 2) no_doms) (upto 3)) types (matrix (of_list (v 2 ∷ v 1 ∷ [])) (of_list (v 1 ∷ v 1 ∷ []))) ≡ false
falling_indices = refl

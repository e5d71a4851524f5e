-- All representations of small domains: each fits, has as many names as tables with as many axes, and the canonical cells
-- of each value are tidy and stand for it.
use Rattle.std.specs.Prelude.{◌≡◌, refl, ℕ, Bool, true, false, ◌&&◌, List, [], ◌∷◌, length, pos, Option, Some, None, nat_eq, codes, zero, suc, filter, map, ◌++◌}
use Rattle.std.specs.List.{list_all}
use Rattle.std.specs.Fmt.{digits}
use Rattle.ess_semantics.specs.declared.words.Key.{Key}
use Rattle.ess_semantics.specs.declared.words.ReprKind.{ReprKind}
use Rattle.ess_semantics.specs.Lists.{is_some_and, each_of, only_of, append_all}
use Rattle.ess_semantics.specs.Values.{a_function, a_partition, a_record, Value, number, truth, node, of_list, cons, nil, pair, matrix}
use Rattle.ess_semantics.specs.Order.{same, same_ints}
use Rattle.ess_semantics.specs.Collections.{set_of, mset_of, relation_of}
use Rattle.ess_semantics.specs.Trees.{repr, no_reprs, more_reprs, both_ends, flag, valued, Repr, Exs, number_ex, no_exs, more_exs, Dom, Doms, bool_dom, int_dom, tuple_dom, record_dom, matrix_dom, set_dom, mset_dom, function_dom, relation_dom, partition_dom, no_doms, more_doms}
use Rattle.ess_semantics.specs.Domains.{Domain}
use Rattle.ess_semantics.specs.Tables.{Tables, same_axes}
use Rattle.ess_semantics.specs.Representations.{layer, width, value_of_tables}
use Rattle.ess_semantics.specs.Declarations.{Declaration, declarations}
use Rattle.ess_semantics.specs.Canonical.{tables_of_value}
use Rattle.ess_semantics.specs.Tidy.{tidy}
use Rattle.ess_semantics.specs.OneLayer.{inner_values, layer_tables, inner_tables, layer_value}
use Rattle.ess_semantics.specs.Kinds.{fits}
use Rattle.ess_semantics.specs.Choice.{all_reprs, default_repr, alone, over_child}
use Rattle.ess_semantics.specs.TableNames.{Named, table_names}
use Rattle.ess_semantics.specs.Meaning.{empty_env, domain_of}

abbrev same_numbers : List Named → List Declaration → Bool
same_numbers [] [] = true
same_numbers (n ∷ ns) (d ∷ ds) = nat_eq n.1 (length d.axes) && same_numbers ns ds
same_numbers ns ds = false

-- ---- one layer agrees with all layers

abbrev same_tables : Tables → Tables → Bool
same_tables [] [] = true
same_tables (t ∷ ts) (u ∷ us) = same_axes t.axes u.axes && same_ints t.items u.items && same_tables ts us
same_tables ts us = false

-- The canonical tables are those of one layer over the canonical tables of the inner values, and the value is that of one
-- layer over the values of the inner tables.
abbrev layer_agrees : Domain → Repr → Value → Tables → Bool
layer_agrees d (repr k (more_reprs r no_reprs)) v c =
    is_some_and (layer k d) (λ l. is_some_and (only_of l.children) (λ e.
    is_some_and (each_of (inner_values l v) (tables_of_value r e)) (λ cs. is_some_and (layer_tables (repr k (more_reprs r no_reprs)) d v cs) (same_tables c)) &&
    is_some_and (inner_tables k d c) (λ cs. is_some_and (each_of cs (λ t. value_of_tables r e t [])) (λ vs. is_some_and (layer_value k d c vs) (same v)))))
layer_agrees d (repr k no_reprs) v c = is_some_and (layer_tables (repr k no_reprs) d v []) (same_tables c) && is_some_and (layer_value k d c []) (same v)
layer_agrees d r v c = true

abbrev stands_for : Domain → Repr → Value → Bool
stands_for d r v = is_some_and (tables_of_value r d v) (λ c. is_some_and (value_of_tables r d c []) (same v) && tidy r d c [] && layer_agrees d r v c)

abbrev is_right : Dom → List Value → Repr → Bool
is_right dom vs r =
    fits r dom && is_some_and (domain_of dom empty_env) (λ d.
    same_numbers (table_names r dom) (declarations r d) && nat_eq (width r) (length (declarations r d)) && list_all (stands_for d r) vs)

-- How many representations there are, where all of them are right.
abbrev right_ones : Dom → List Value → Option ℕ
right_ones dom vs = elim (list_all (is_right dom vs) (all_reprs dom) && fits (default_repr dom) dom) [ true ↦ Some (length (all_reprs dom)) | false ↦ None ]

abbrev n : ℕ → Value
n k = number (pos k)

abbrev yes : Value
yes = truth true

abbrev nay : Value
nay = truth false

abbrev es1 : ℕ → Exs
es1 k = more_exs (number_ex (pos k)) no_exs

abbrev upto : ℕ → Dom
upto k = int_dom (both_ends ∷ []) (more_exs (number_ex (pos 1)) (es1 k))

abbrev two : Dom → Dom → Doms
two a b = more_doms a (more_doms b no_doms)

abbrev set : Dom → Dom
set d = set_dom [] no_exs d

abbrev sized : Key → ℕ → Dom → Dom
sized k m d = set_dom (valued k ∷ []) (es1 m) d

abbrev function : List Value → Value
function ps = node a_function (of_list ps)

abbrev partition : List Value → Value
partition ps = node a_partition (of_list ps)

abbrev s : List Value → Value
s vs = set_of vs

sets_of_numbers : right_ones (sized Key.Size 2 (upto 3)) (s (n 1 ∷ n 3 ∷ []) ∷ s (n 2 ∷ n 3 ∷ []) ∷ []) ≡ Some 5
unfolding digits
sets_of_numbers = refl

sets_of_sets : right_ones (sized Key.MaxSize 2 (set (upto 2))) (s [] ∷ s (s [] ∷ []) ∷ s (s (n 1 ∷ []) ∷ s (n 2 ∷ []) ∷ []) ∷ s (s [] ∷ s (n 1 ∷ n 2 ∷ []) ∷ []) ∷ []) ≡ Some 8
unfolding digits
sets_of_sets = refl

multisets : right_ones (mset_dom (valued Key.MaxSize ∷ []) (es1 3) (upto 2)) (mset_of [] ∷ mset_of (n 1 ∷ n 1 ∷ n 2 ∷ []) ∷ mset_of (n 2 ∷ n 2 ∷ []) ∷ []) ≡ Some 3
unfolding digits
multisets = refl

multisets_of_sets : right_ones (mset_dom (valued Key.Size ∷ []) (es1 2) (set bool_dom)) (mset_of (s (yes ∷ []) ∷ s (yes ∷ []) ∷ []) ∷ mset_of (s [] ∷ s (nay ∷ yes ∷ []) ∷ []) ∷ []) ≡ Some 6
unfolding digits
multisets_of_sets = refl

functions : right_ones (function_dom [] no_exs (upto 2) (set (upto 2)))
    (function [] ∷ function (pair (n 2) (s (n 1 ∷ [])) ∷ []) ∷ function (pair (n 1) (s []) ∷ pair (n 2) (s (n 1 ∷ n 2 ∷ [])) ∷ []) ∷ []) ≡ Some 12
unfolding digits
functions = refl

total_functions : right_ones (function_dom (flag Key.Total ∷ []) no_exs (upto 2) bool_dom) (function (pair (n 1) yes ∷ pair (n 2) nay ∷ []) ∷ []) ≡ Some 6
unfolding digits
total_functions = refl

functions_of_pairs : right_ones (function_dom (flag Key.Total ∷ []) no_exs (tuple_dom (two bool_dom bool_dom)) (upto 2))
    (function (pair (pair nay nay) (n 1) ∷ pair (pair nay yes) (n 2) ∷ pair (pair yes nay) (n 2) ∷ pair (pair yes yes) (n 1) ∷ []) ∷ []) ≡ Some 5
unfolding digits
functions_of_pairs = refl

relations : right_ones (relation_dom (valued Key.MaxSize ∷ []) (es1 2) (two (upto 2) bool_dom)) (relation_of [] ∷ relation_of (pair (n 1) yes ∷ pair (n 2) nay ∷ []) ∷ []) ≡ Some 3
unfolding digits
relations = refl

relations_of_sets : right_ones (relation_dom (valued Key.Size ∷ []) (es1 1) (two (set (upto 2)) bool_dom)) (relation_of (pair (s (n 2 ∷ [])) yes ∷ []) ∷ []) ≡ Some 12
unfolding digits
relations_of_sets = refl

partitions : right_ones (partition_dom [] no_exs (upto 3))
    (partition (s (n 1 ∷ n 2 ∷ n 3 ∷ []) ∷ []) ∷ partition (s (n 1 ∷ n 3 ∷ []) ∷ s (n 2 ∷ []) ∷ []) ∷ partition (s (n 1 ∷ []) ∷ s (n 2 ∷ n 3 ∷ []) ∷ []) ∷ []) ≡ Some 9
unfolding digits
partitions = refl

partitions_of_pairs : right_ones (partition_dom (valued Key.NumParts ∷ valued Key.PartSize ∷ []) (more_exs (number_ex (pos 2)) (es1 1)) (tuple_dom (two bool_dom (upto 1))))
    (partition (s (pair nay (n 1) ∷ []) ∷ s (pair yes (n 1) ∷ []) ∷ []) ∷ []) ≡ Some 9
unfolding digits
partitions_of_pairs = refl

records : right_ones (record_dom (codes "a" ∷ codes "b" ∷ []) (two (set bool_dom) bool_dom)) (node (a_record (codes "a" ∷ codes "b" ∷ [])) (cons (s (yes ∷ [])) (cons nay nil)) ∷ []) ≡ Some 3
unfolding digits
records = refl

matrices : right_ones (matrix_dom (two bool_dom (upto 1)) (set bool_dom))
    (matrix (cons nay (cons yes nil)) (cons (matrix (cons (n 1) nil) (cons (s []) nil)) (cons (matrix (cons (n 1) nil) (cons (s (nay ∷ yes ∷ [])) nil)) nil)) ∷ []) ≡ Some 3
unfolding digits
matrices = refl

-- ---- of all trees with one child at most at each level, those that fit are the ones listed

abbrev kinds : List ReprKind
kinds =
    ReprKind.Atom ∷ ReprKind.Tuple ∷ ReprKind.Rec ∷ ReprKind.Matrix ∷ ReprKind.Occurrence ∷ ReprKind.Explicit ∷ ReprKind.ExplicitVarSizeWithMarker ∷
    ReprKind.ExplicitVarSizeWithFlags ∷ ReprKind.ExplicitVarSizeWithDummy ∷ ReprKind.MSetOccurrence ∷ ReprKind.MSetExplicitWithRepetition ∷
    ReprKind.MSetExplicitWithFlags ∷ ReprKind.Function1D ∷ ReprKind.Function1DPartial ∷ ReprKind.FunctionND ∷ ReprKind.FunctionNDPartial ∷
    ReprKind.FunctionAsRelation ∷ ReprKind.RelationAsMatrix ∷ ReprKind.RelationAsSet ∷ ReprKind.PartitionOccurrence ∷ ReprKind.PartitionAsSet ∷ []

abbrev over_all : List Repr → List Repr
over_all rs = append_all (map (λ k. map (over_child k) rs) kinds)

abbrev leaves : List Repr
leaves = map alone kinds

abbrev trees : ℕ → List Repr
trees zero = leaves
trees (suc k) = leaves ++ over_all (trees k)

abbrev fitting : ℕ → Dom → ℕ
fitting k d = length (filter (λ r. fits r d) (trees k))

fitting_sets : fitting 1 (set (upto 2)) ≡ length (all_reprs (set (upto 2)))
fitting_sets = refl

fitting_sized_sets : fitting 1 (sized Key.Size 2 (upto 2)) ≡ length (all_reprs (sized Key.Size 2 (upto 2)))
fitting_sized_sets = refl

fitting_multisets : fitting 1 (mset_dom (valued Key.MaxSize ∷ []) (es1 3) (upto 2)) ≡ 3
fitting_multisets = refl

fitting_functions : fitting 1 (function_dom (flag Key.Total ∷ []) no_exs (upto 2) bool_dom) ≡ 3
fitting_functions = refl

fitting_sets_of_sets : fitting 2 (set (set bool_dom)) ≡ length (all_reprs (set (set bool_dom)))
fitting_sets_of_sets = refl

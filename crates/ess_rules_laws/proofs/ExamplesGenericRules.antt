-- Worked examples of the rules on partitions and matrices, on folds, on lists, and of listings of made terms.
use Rattle.std.specs.Prelude.{◌≡◌, refl, true, false, [], ◌∷◌, codes, Some, None}
use Rattle.ess_semantics.specs.declared.words.Op1.{Op1}
use Rattle.ess_semantics.specs.declared.words.Op2.{Op2}
use Rattle.ess_semantics.specs.declared.words.Fun.{Fun}
use Rattle.ess_semantics.specs.Values.{Text, truth, a_mset, a_function, a_partition, a_matrix, node, of_list}
use Rattle.ess_semantics.specs.Collections.{set_of}
use Rattle.ess_semantics.specs.Names.{Names}
use Rattle.ess_semantics.specs.Trees.{matrix_literal, function_literal, partition_literal, name_pat, Ex, truth_ex, node_ex, comp_ex, ex1, no_exs, no_gens, over, from, cond}
use Rattle.ess_semantics.specs.Types.{Ty, int_ty, compound1, compound2}
use Rattle.ess_semantics.specs.Meaning.{Env, empty_env, meaning}
use Rattle.ess_semantics.proofs.Shorthands.{N, n, v, es1, es2, bi, fn, fn2, range, upto}
use Rattle.ess_rules_laws.specs.ComponentRules.{component_of}
use Rattle.ess_rules_laws.specs.InclusionRules.{every, frequency}
use Rattle.ess_rules_laws.specs.PartitionRules.{lie_together, equal_parts}
use Rattle.ess_rules_laws.specs.MatrixRules.{every_over, lies_in, item_of, equal_items, equal_matrices, equal_to_nothing}
use Rattle.ess_rules_laws.specs.ConditionRules.{fold_at_once, fold_within, fold_condition}
use Rattle.ess_rules_laws.specs.ContainerListings.{arguments_listed, members_of_parts, made_listing, range_as_set}
use Rattle.ess_rules_laws.specs.ListRules.{members_list, list_term, lex_both, different_term}
use Rattle.ess_rules_laws.specs.Progress.{is_abstract, is_left}

abbrev p : Text
p = codes "p"

abbrev q : Text
q = codes "q"

abbrev m : Text
m = codes "m"

abbrev f : Text
f = codes "f"

abbrev c : Text
c = codes "c"

abbrev x : Text
x = codes "x"

abbrev y : Text
y = codes "y"

-- Partitions p and q, a matrix m, a function f, a multiset c, all of numbers.
abbrev types : Names Ty
types = (p, compound1 a_partition int_ty) ∷ (q, compound1 a_partition int_ty) ∷ (m, compound2 a_matrix int_ty int_ty)
    ∷ (f, compound2 a_function int_ty int_ty) ∷ (c, compound1 a_mset int_ty) ∷ []

abbrev list2 : Ex → Ex → Ex
list2 a b = node_ex false matrix_literal (es2 a b)

abbrev nothing : Ex
nothing = bi Op2.Div (n 1) (n 0)

-- ---- partitions

parts_equal : equal_parts types x (bi Op2.Eq (N p) (N q)) ≡
    Some (bi Op2.And (every x (N p) (lie_together (N x) (N q))) (every x (N q) (lie_together (N x) (N p))))
parts_equal = refl

-- A multiset is no partition.
no_parts : equal_parts types x (bi Op2.Eq (N c) (N c)) ≡ None
no_parts = refl

-- `partition({1, 2}, {3})` and `partition({1}, {2}, {3})`: each part of the second lies in one of the first, which isn't enough.
abbrev halves : Env
halves = record empty_env {
  vals = (p, node a_partition (of_list (set_of (v 1 ∷ v 2 ∷ []) ∷ set_of (v 3 ∷ []) ∷ [])))
      ∷ (q, node a_partition (of_list (set_of (v 1 ∷ []) ∷ set_of (v 2 ∷ []) ∷ set_of (v 3 ∷ []) ∷ []))) ∷ [];
}

lie_one_way : (meaning (every x (N q) (lie_together (N x) (N p))) halves ≡ Some (truth true))
    × (meaning (every x (N p) (lie_together (N x) (N q))) halves ≡ Some (truth false)) ×
    (meaning (bi Op2.Eq (N p) (N q)) halves ≡ Some (truth false))
lie_one_way = (refl, refl, refl)

-- ---- matrices

items_equal : equal_items (upto 2) types x (bi Op2.Eq (N m) (N m)) ≡
    Some (every_over x (upto 2) (bi Op2.Eq (item_of int_ty (N m) (N x)) (item_of int_ty (N m) (N x))))
items_equal = refl

domains_equal : equal_matrices (upto 2) (range (n 2) (n 3)) types x y (bi Op2.Eq (N m) (N m)) ≡
    Some (bi Op2.And (bi Op2.And (lies_in x y (upto 2) (range (n 2) (n 3))) (lies_in x y (range (n 2) (n 3)) (upto 2)))
    (every_over x (upto 2) (bi Op2.Eq (item_of int_ty (N m) (N x)) (item_of int_ty (N m) (N x)))))
domains_equal = refl

-- `int(2..3)` doesn't lie in `int(1..2)`, and `int(2..2)` does.
domain_outside : meaning (lies_in x y (range (n 2) (n 3)) (upto 2)) empty_env ≡ Some (truth false)
domain_outside = refl

domain_inside : meaning (lies_in x y (range (n 2) (n 2)) (upto 2)) empty_env ≡ Some (truth true)
domain_inside = refl

is_empty_list : equal_to_nothing types x (bi Op2.Eq (N m) (node_ex false matrix_literal no_exs)) ≡
    Some (ex1 true Op1.Not (fn Fun.Or (comp_ex (truth_ex true) (from (name_pat x) (N m) no_gens))))
is_empty_list = refl

-- `[1/0] = []` is false, and `!(or([true | x <- [1/0]]))` is true.
list_without_value : (meaning (bi Op2.Eq (node_ex false matrix_literal (es1 nothing)) (node_ex false matrix_literal no_exs)) empty_env
    ≡ Some (truth false))
    × (meaning (ex1 true Op1.Not
    (fn Fun.Or (comp_ex (truth_ex true) (from (name_pat x) (node_ex false matrix_literal (es1 nothing)) no_gens)))) empty_env
    ≡ Some (truth true))
list_without_value = (refl, refl)

-- ---- folds

condition_left : fold_condition (N y) (fn Fun.Sum (comp_ex (n 7) (cond (N x) no_gens))) ≡ Some (bi Op2.Times (fn Fun.ToInt (N x)) (N y))
condition_left = refl

condition_of_and : fold_condition (N y) (fn Fun.And (comp_ex (N q) (cond (N x) no_gens)))
    ≡ Some (bi Op2.Implies (N x) (fn Fun.And (comp_ex (N q) no_gens)))
condition_of_and = refl

-- `min` isn't a fold whose condition leaves.
condition_of_min : fold_condition (N y) (fn Fun.Min (comp_ex (n 7) (cond (N x) no_gens))) ≡ None
condition_of_min = refl

-- `or([1/1 = 1, 1/0 = 1] ..)`: where one inner list has nothing the fold of folds is true, and the fold at once is false.
fold_without_value : (meaning (fold_at_once true Fun.Or (truth_ex true) (over (name_pat x) (upto 2) no_gens)
    (from (name_pat y) (node_ex false matrix_literal (es1 (bi Op2.Div (n 1) (bi Op2.Minus (N x) (n 1))))) no_gens)) empty_env
    ≡ Some (truth false))
    × (meaning (fold_within true Fun.Or (truth_ex true) (over (name_pat x) (upto 2) no_gens)
    (from (name_pat y) (node_ex false matrix_literal (es1 (bi Op2.Div (n 1) (bi Op2.Minus (N x) (n 1))))) no_gens)) empty_env
    ≡ Some (truth true))
fold_without_value = (refl, refl)

-- ---- listings

arguments : made_listing types x y (fn Fun.Defined (N f)) ≡ Some (arguments_listed x int_ty (N f) no_gens ∷ [])
arguments = refl

sources_of_one : made_listing types x y (fn2 Fun.PreImage (N f) (n 1)) ≡
    Some (arguments_listed x int_ty (N f) (cond (bi Op2.Eq (component_of int_ty 2 (N x)) (n 1)) no_gens) ∷ [])
sources_of_one = refl

participants : made_listing types x y (fn Fun.Participants (N p)) ≡ Some (members_of_parts x y (N p) ∷ [])
participants = refl

parts_of_a_literal : made_listing types x y (node_ex false partition_literal (es2 (N p) (N q))) ≡
    Some (record { gens = no_gens; item = N p } ∷ record { gens = no_gens; item = N q } ∷ [])
parts_of_a_literal = refl

pairs_of_a_literal : made_listing types x y (node_ex false function_literal (es2 (N p) (N q))) ≡
    Some (record { gens = no_gens; item = N p } ∷ record {
      gens = cond
          (ex1 true Op1.Not (bi Op2.Eq (N p) (N q))) no_gens;
      item = N q;
    } ∷ [])
pairs_of_a_literal = refl

results : range_as_set types x (fn Fun.Range (N f))
    ≡ Some (fn Fun.ToSet (comp_ex (component_of int_ty 2 (N x)) (from (name_pat x) (N f) no_gens)))
results = refl

-- ---- lists

least_of_a_term : list_term x (fn Fun.Min (N c)) ≡ Some (fn Fun.Min (members_list x (N c)))
least_of_a_term = refl

least_of_a_list : list_term x (fn Fun.Min (list2 (n 1) (n 2))) ≡ None
least_of_a_list = refl

lex_of_terms : lex_both x (bi Op2.LexLt (N m) (N m)) ≡ Some (bi Op2.LexLt (members_list x (N m)) (members_list x (N m)))
lex_of_terms = refl

-- a list stays, and the matrix beside it becomes one
lex_of_a_list : lex_both x (bi Op2.LexLe (list2 (n 1) (n 2)) (N m)) ≡ Some (bi Op2.LexLe (list2 (n 1) (n 2)) (members_list x (N m)))
lex_of_a_list = refl

lex_of_lists : lex_both x (bi Op2.LexLe (list2 (n 1) (n 2)) (list2 (n 2) (n 1))) ≡ None
lex_of_lists = refl

different : different_term x (fn Fun.AllDiff (N m)) ≡ Some (every x (N m) (bi Op2.Eq (frequency (fn Fun.ToMSet (N m)) (N x)) (n 1)))
different = refl

-- ---- what has rules

sizes_look_in : is_abstract types (ex1 false Op1.Bar (N c)) ≡ true
sizes_look_in = refl

numbers_do_not : is_abstract types (bi Op2.Eq (n 1) (n 2)) ≡ false
numbers_do_not = refl

names_are_left : is_left types (N f) ≡ true
names_are_left = refl

sets_of_sets_are_not : is_left types (fn Fun.Parts (N p)) ≡ false
sets_of_sets_are_not = refl

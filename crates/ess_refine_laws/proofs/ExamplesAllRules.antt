-- Worked examples of all rules together, and of what progress counts on.
use Rattle.std.specs.Prelude.{◌≡◌, refl, true, false, [], ◌∷◌, codes, Some, None, is_some}
use Rattle.ess_semantics.specs.declared.words.Op2.{Op2}
use Rattle.ess_semantics.specs.declared.words.Fun.{Fun}
use Rattle.ess_semantics.specs.Values.{Text, a_set, a_matrix}
use Rattle.ess_semantics.specs.Names.{Names}
use Rattle.ess_semantics.specs.Trees.{binary, set_literal, matrix_literal, name_pat, tuple_pat, no_pats, more_pats, Ex, node_ex, comp_ex, no_gens, over, from, tuple_dom}
use Rattle.ess_semantics.specs.Types.{Ty, int_ty, compound1, compound2}
use Rattle.ess_semantics.specs.Typing.{type_of}
use Rattle.ess_semantics.proofs.Shorthands.{N, n, es2, bi, fn, ds2, upto, any_int, set}
use Rattle.ess_refine_laws.specs.AllRules.{Supply, over_a_term, over_a_source, equal_sets, equal_matrices_at, not_equal, in_a_literal, in_a_term, different_items, all_different, rewrite, rule_at}
use Rattle.ess_refine_laws.specs.Progress.{is_judged}

abbrev s : Text
s = codes "s"

abbrev t : Text
t = codes "t"

abbrev m : Text
m = codes "m"

abbrev j : Text
j = codes "j"

abbrev supply : Supply
supply = record { one = codes "x"; other = codes "y"; third = codes "z"; parts = codes "u" ∷ codes "v" ∷ []; index_domain = λ e. upto 2; copy = λ e. e }

-- Sets s and t, and a list m of sets.
abbrev types : Names Ty
types = (s, compound1 a_set int_ty) ∷ (t, compound1 a_set int_ty) ∷ (m, compound2 a_matrix int_ty (compound1 a_set int_ty)) ∷ []

abbrev pair_set : Ex
pair_set = node_ex false set_literal (es2 (n 1) (n 2))

abbrev list2 : Ex → Ex → Ex
list2 a b = node_ex false matrix_literal (es2 a b)

-- ---- the first rule that fires

of_sets : rule_at supply types (bi Op2.Eq (N s) (N t)) ≡ rewrite supply types equal_sets (bi Op2.Eq (N s) (N t))
of_sets = refl

of_matrices : rule_at supply types (bi Op2.Eq (N m) (N m)) ≡ rewrite supply types equal_matrices_at (bi Op2.Eq (N m) (N m))
of_matrices = refl

-- A literal has its own rule of `in`, before the general one.
in_literal : rule_at supply types (bi Op2.Member (n 1) pair_set) ≡ rewrite supply types in_a_literal (bi Op2.Member (n 1) pair_set)
in_literal = refl

in_name : rule_at supply types (bi Op2.Member (n 1) (N s)) ≡ rewrite supply types in_a_term (bi Op2.Member (n 1) (N s))
in_name = refl

-- A fold over a name becomes one over its members, whose source is left to a kind then.
fold_of_name : rule_at supply types (fn Fun.And (N m)) ≡ rewrite supply types over_a_term (fn Fun.And (N m))
fold_of_name = refl

members_of_a_name : rule_at supply types (fn Fun.Or (comp_ex (bi Op2.Eq (N j) (n 1)) (from (name_pat j) (N s) no_gens))) ≡ None
members_of_a_name = refl

members_of_a_union : rule_at supply types (fn Fun.Or (comp_ex (bi Op2.Eq (N j) (n 1)) (from (name_pat j) (bi Op2.Union (N s)
    (N t)) no_gens))) ≡
    rewrite supply types over_a_source (fn Fun.Or (comp_ex (bi Op2.Eq (N j) (n 1)) (from (name_pat j) (bi Op2.Union (N s) (N t)) no_gens)))
members_of_a_union = refl

-- A sum over the set of the items of `[j / 2 | j : int(1..4)]` takes each item once.
sum_of_a_set : is_some (rule_at supply types (fn Fun.Sum (comp_ex (N m) (from (name_pat m)
    (fn Fun.ToSet (comp_ex (bi Op2.Div (N j) (n 2)) (over (name_pat j) (upto 4) no_gens))) no_gens)))) ≡ true
sum_of_a_set = refl

-- Scalars stay as they are: `1 != 2`, `allDiff([1, 2])`, `1 + 2`.
scalars_stay : (rule_at supply types (bi Op2.Ne (n 1) (n 2)) ≡ None)
    × (rule_at supply types (fn Fun.AllDiff (list2 (n 1) (n 2))) ≡ None)
    × (rule_at supply types (bi Op2.Plus (n 1) (n 2)) ≡ None)
scalars_stay = (refl, refl, refl)

-- Sets don't.
sets_do_not : (rule_at supply types (bi Op2.Ne (N s) (N t)) ≡ rewrite supply types not_equal (bi Op2.Ne (N s) (N t)))
    × (rule_at supply types (fn Fun.AllDiff (list2 (N s) (N t))) ≡ rewrite supply types different_items (fn Fun.AllDiff (list2 (N s)
    (N t))))
    × (rule_at supply types (fn Fun.AllDiff (comp_ex (N s) no_gens)) ≡ rewrite supply types all_different (fn Fun.AllDiff (comp_ex
    (N s) no_gens)))
sets_do_not = (refl, refl, refl)

tuples_come_apart : rule_at supply types (comp_ex (n 1) (over (tuple_pat (more_pats (name_pat s) (more_pats (name_pat t) no_pats)))
    (tuple_dom (ds2 (upto 2) (upto 3))) no_gens)) ≡ Some (comp_ex (n 1) (over (name_pat s) (upto 2) (over (name_pat t) (upto 3) no_gens)))
tuples_come_apart = refl

-- ---- what progress counts on

sums_are_judged : is_judged (bi Op2.Lt (fn Fun.Sum (comp_ex (N j) (over (name_pat j) (upto 2) no_gens))) (n 3)) types ≡ true
sums_are_judged = refl

members_are_judged : is_judged (fn Fun.Or (comp_ex (bi Op2.Eq (N j) (n 1)) (from (name_pat j) (N s) no_gens))) types ≡ true
members_are_judged = refl

-- A wrong mark isn't, nor is a generator over all numbers or over sets, or a name without a type. A sum of sets has no type.
others_are_not : (is_judged (node_ex true (binary Op2.Plus) (es2 (n 1) (n 1))) types ≡ false)
    × (is_judged (fn Fun.Sum (comp_ex (n 1) (over (name_pat j) any_int no_gens))) types ≡ false)
    × (is_judged (fn Fun.Sum (comp_ex (n 1) (over (name_pat j) (set (upto 2)) no_gens))) types ≡ false)
    × (type_of (fn Fun.Sum (list2 (N s) (N t))) types ≡ None)
    × (is_judged (bi Op2.Plus (N j) (n 1)) types ≡ false)
others_are_not = (refl, refl, refl, refl, refl)

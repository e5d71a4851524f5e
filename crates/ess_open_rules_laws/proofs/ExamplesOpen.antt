-- Worked examples of the rules at the first generator that isn't plain, and of what is picked.
use Rattle.std.specs.Prelude.{◌≡◌, refl, true, false, [], ◌∷◌, pos, Some, None, codes}
use Rattle.ess_semantics.specs.declared.words.Op2.{Op2}
use Rattle.ess_semantics.specs.declared.words.Fun.{Fun}
use Rattle.ess_semantics.specs.declared.words.Key.{Key}
use Rattle.ess_semantics.specs.declared.words.ReprKind.{ReprKind}
use Rattle.ess_semantics.specs.Values.{a_relation}
use Rattle.ess_semantics.specs.Types.{int_ty, compound2}
use Rattle.ess_semantics.specs.Trees.{index, application, matrix_literal, tuple_literal, by_value, flag, valued, both_ends, repr, no_reprs, more_reprs, name_pat, Ex, number_ex, name_ex, node_ex, matrix_ex, comp_ex, seen_ex, no_exs, more_exs, no_gens, over, from, cond, Dom, bool_dom, int_dom, set_dom, function_dom, ex2, fun1}
use Rattle.ess_refine_laws.specs.AllRules.{Supply}
use Rattle.ess_open_rules_laws.specs.OpenRules.{open_rewrite, step_by_step, applied_relation, of_a_pick, a_pick_alone, without_repeats, without_its_indices, over_one_source, set_over_several, different_by_counts, fold_of_folds, set_of_a_term}

-- `int(1..n)`.
abbrev up_to : Ex → Dom
up_to n = int_dom (both_ends ∷ []) (more_exs (number_ex (pos 1)) (more_exs n no_exs))

-- Names that stand nowhere.
abbrev supply : Supply
supply = record { one = codes "#1"; other = codes "#2"; third = codes "#3"; parts = codes "#4" ∷ []; index_domain = λ e. bool_dom; copy = λ e. e }

-- s : set (size 2) of int(1..3), in two slots; and the view in slot x.
abbrev in_slots : Ex
in_slots = seen_ex (repr ReprKind.Explicit (more_reprs (repr ReprKind.Atom no_reprs) no_reprs))
    (set_dom (valued Key.Size ∷ []) (more_exs (number_ex (pos 2)) no_exs) (up_to (number_ex (pos 3)))) (codes "s_Explicit" ∷ []) no_exs

abbrev in_slot : Ex
in_slot = seen_ex (repr ReprKind.Atom no_reprs) (up_to (number_ex (pos 3))) (codes "s_Explicit" ∷ []) (more_exs (name_ex (codes "#1")) no_exs)

-- f : function (total) int(1..3) --> int(1..3).
abbrev total : Ex
total = seen_ex (repr ReprKind.Function1D (more_reprs (repr ReprKind.Atom no_reprs) no_reprs))
    (function_dom (flag Key.Total ∷ []) no_exs (up_to (number_ex (pos 3))) (up_to (number_ex (pos 3)))) (codes "f_Function1D" ∷ []) no_exs

abbrev x : Ex
x = name_ex (codes "x")

-- ---- sources

-- `sum([x | x <- s])`: over the slots, the view in each.
slots_are_summed : open_rewrite supply [] over_one_source (fun1 false Fun.Sum (comp_ex x (from (name_pat (codes "x")) in_slots no_gens)))
    ≡ Some (fun1 false Fun.Sum (comp_ex in_slot (over (name_pat (codes "#1")) (up_to (number_ex (pos 2))) no_gens)))
slots_are_summed = refl

-- So it is behind a generator over a domain: `max([x | i : bool, x <- s])`.
later_slots : open_rewrite supply [] over_one_source
    (fun1 false Fun.Max (comp_ex x (over (name_pat (codes "i")) bool_dom (from (name_pat (codes "x")) in_slots no_gens))))
    ≡ Some (fun1 false Fun.Max (comp_ex in_slot
    (over (name_pat (codes "i")) bool_dom (over (name_pat (codes "#1")) (up_to (number_ex (pos 2))) no_gens))))
later_slots = refl

-- `sum([x | i : bool, x <- y])` is the sum of sums; without a generator before it stays.
sums_of_sums : open_rewrite supply [] fold_of_folds
    (fun1 false Fun.Sum (comp_ex x (over (name_pat (codes "i")) bool_dom (from (name_pat (codes "x")) (name_ex (codes "y")) no_gens))))
    ≡ Some (fun1 false Fun.Sum (comp_ex (fun1 false Fun.Sum (comp_ex x (from (name_pat (codes "x")) (name_ex (codes "y")) no_gens)))
    (over (name_pat (codes "i")) bool_dom no_gens)))
sums_of_sums = refl

no_sum_of_sums : open_rewrite supply [] fold_of_folds (fun1 false Fun.Sum (comp_ex x (from (name_pat (codes "x")) (name_ex (codes "y")) no_gens)))
    ≡ None
no_sum_of_sums = refl

plain_sum : open_rewrite supply [] fold_of_folds (fun1 false Fun.Sum (comp_ex x (over (name_pat (codes "x")) bool_dom no_gens))) ≡ None
plain_sum = refl

-- `min` sees no repeats, `sum` does.
least_loosely : open_rewrite supply [] without_repeats
    (fun1 false Fun.Min (comp_ex x (from (name_pat (codes "x")) (fun1 false Fun.ToSet (name_ex (codes "l"))) no_gens)))
    ≡ Some (fun1 false Fun.Min (comp_ex x (from (name_pat (codes "x")) (name_ex (codes "l")) no_gens)))
least_loosely = refl

sum_strictly : open_rewrite supply [] without_repeats
    (fun1 false Fun.Sum (comp_ex x (from (name_pat (codes "x")) (fun1 false Fun.ToSet (name_ex (codes "l"))) no_gens))) ≡ None
sum_strictly = refl

-- `[x] <lex [1; bool]` compares lists.
listed : open_rewrite supply [] without_its_indices (ex2 true Op2.LexLt (name_ex (codes "l")) (matrix_ex (more_exs x no_exs) bool_dom))
    ≡ Some (ex2 true Op2.LexLt (name_ex (codes "l")) (node_ex false matrix_literal (more_exs x no_exs)))
listed = refl

-- A set of the items of a list that isn't laid open, and of one that is.
set_of_name : open_rewrite supply [] set_of_a_term (fun1 false Fun.ToSet (name_ex (codes "l")))
    ≡ Some (fun1 false Fun.ToSet (comp_ex (name_ex (codes "#1")) (from (name_pat (codes "#1")) (name_ex (codes "l")) no_gens)))
set_of_name = refl

set_of_list : open_rewrite supply [] set_of_a_term (fun1 false Fun.ToSet (node_ex false matrix_literal no_exs)) ≡ None
set_of_list = refl

-- `toSet([x | x <- [1, 2]])` is the union of two sets.
two_sets : open_rewrite supply [] set_over_several (fun1 false Fun.ToSet (comp_ex x (from (name_pat (codes "x"))
    (node_ex false matrix_literal (more_exs (number_ex (pos 1)) (more_exs (number_ex (pos 2)) no_exs))) no_gens)))
    ≡ Some (ex2 false Op2.Union (fun1 false Fun.ToSet (comp_ex (number_ex (pos 1)) no_gens))
    (fun1 false Fun.ToSet (comp_ex (number_ex (pos 2)) no_gens)))
two_sets = refl

-- `allDiff([x | x : bool, c])` where c is a cell can't stay; without a condition it can.
cells_differ : open_rewrite supply [] different_by_counts
    (fun1 true Fun.AllDiff (comp_ex x (over (name_pat (codes "x")) bool_dom no_gens))) ≡ None
cells_differ = refl

-- ---- what is picked

-- `f(a) = 3` of numbers: some result at an argument that is a is 3.
any_result : open_rewrite supply [] of_a_pick
    (ex2 true Op2.Eq (node_ex false application (more_exs total (more_exs (name_ex (codes "a")) no_exs))) (number_ex (pos 3)))
    ≡ Some (fun1 true Fun.Or (node_ex false matrix_literal (more_exs (fun1 true Fun.Or
    (comp_ex (ex2 true Op2.Eq (name_ex (codes "#1")) (number_ex (pos 3))) (from (name_pat (codes "#1"))
    (comp_ex (name_ex (codes "#4")) (from (name_pat (codes "#4"))
    (comp_ex (seen_ex (repr ReprKind.Atom no_reprs) (up_to (number_ex (pos 3))) (codes "f_Function1D" ∷ []) (more_exs (name_ex (codes "#3")) no_exs))
    (over (name_pat (codes "#3")) (up_to (number_ex (pos 3))) (cond (ex2 true Op2.Eq (name_ex (codes "#3")) (name_ex (codes "a"))) no_gens)))
    no_gens)) no_gens))) no_exs)))
any_result = refl

-- What isn't there gives no alternatives for a set: `f(a)` of an unknown f waits.
unknown_waits : open_rewrite supply [] a_pick_alone (node_ex false application (more_exs (name_ex (codes "f")) (more_exs x no_exs))) ≡ None
unknown_waits = refl

-- `r(a, b)` of a relation, and of a function.
of_a_relation : open_rewrite supply ((codes "r", compound2 a_relation int_ty int_ty) ∷ []) applied_relation
    (node_ex true application (more_exs (name_ex (codes "r")) (more_exs x (more_exs x no_exs))))
    ≡ Some (ex2 true Op2.Member (node_ex false tuple_literal (more_exs x (more_exs x no_exs))) (name_ex (codes "r")))
of_a_relation = refl

of_another : open_rewrite supply ((codes "r", int_ty) ∷ []) applied_relation
    (node_ex true application (more_exs (name_ex (codes "r")) (more_exs x no_exs))) ≡ None
of_another = refl

-- `m[1, 2]` is `m[1][2]`.
steps : open_rewrite supply [] step_by_step
    (node_ex false (index (by_value ∷ by_value ∷ [])) (more_exs x (more_exs (number_ex (pos 1)) (more_exs (number_ex (pos 2)) no_exs))))
    ≡ Some (node_ex false (index (by_value ∷ [])) (more_exs
    (node_ex false (index (by_value ∷ [])) (more_exs x (more_exs (number_ex (pos 1)) no_exs))) (more_exs (number_ex (pos 2)) no_exs)))
steps = refl

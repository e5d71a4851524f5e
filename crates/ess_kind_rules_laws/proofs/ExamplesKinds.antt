-- Worked examples of the rules that read the kind of a view.
use Rattle.std.specs.Prelude.{◌≡◌, refl, true, false, [], ◌∷◌, pos, Some, None, codes}
use Rattle.ess_semantics.specs.declared.words.Op1.{Op1}
use Rattle.ess_semantics.specs.declared.words.Op2.{Op2}
use Rattle.ess_semantics.specs.declared.words.Fun.{Fun}
use Rattle.ess_semantics.specs.declared.words.Key.{Key}
use Rattle.ess_semantics.specs.declared.words.ReprKind.{ReprKind}
use Rattle.ess_semantics.specs.Trees.{index, application, matrix_literal, by_value, flag, valued, both_ends, repr, no_reprs, more_reprs, name_pat, Ex, number_ex, name_ex, node_ex, comp_ex, cell_ex, seen_ex, no_exs, more_exs, no_gens, over, from, cond, Dom, bool_dom, int_dom, matrix_dom, set_dom, function_dom, more_doms, no_doms, ex1, ex2, fun1}
use Rattle.ess_refine_laws.specs.AllRules.{Supply}
use Rattle.ess_kind_rules_laws.specs.ViewListings.{view_listing}
use Rattle.ess_kind_rules_laws.specs.KindRules.{kind_rewrite, first_of_kinds, kind_rules, over_a_view, size_of_slots, size_of_a_function, truth_in_a_matrix}

-- `int(1..n)`.
abbrev up_to : Ex → Dom
up_to n = int_dom (both_ends ∷ []) (more_exs (number_ex (pos 1)) (more_exs n no_exs))

-- Names that stand nowhere.
abbrev supply : Supply
supply = record { one = codes "#1"; other = codes "#2"; third = codes "#3"; parts = []; index_domain = λ e. bool_dom; copy = λ e. e }

-- s : set of int(1..3), kept as the members that occur.
abbrev occurring : Ex
occurring = seen_ex (repr ReprKind.Occurrence no_reprs) (set_dom [] no_exs (up_to (number_ex (pos 3)))) (codes "s_Occurrence" ∷ []) no_exs

-- s : set (size 2) of int(1..3), in two slots.
abbrev in_slots : Ex
in_slots = seen_ex (repr ReprKind.Explicit (more_reprs (repr ReprKind.Atom no_reprs) no_reprs))
    (set_dom (valued Key.Size ∷ []) (more_exs (number_ex (pos 2)) no_exs) (up_to (number_ex (pos 3)))) (codes "s_Explicit" ∷ []) no_exs

-- f : function (total) int(1..3) --> int(1..3).
abbrev total : Ex
total = seen_ex (repr ReprKind.Function1D (more_reprs (repr ReprKind.Atom no_reprs) no_reprs))
    (function_dom (flag Key.Total ∷ []) no_exs (up_to (number_ex (pos 3))) (up_to (number_ex (pos 3)))) (codes "f_Function1D" ∷ []) no_exs

-- m : matrix indexed by [int(1..3)] of bool.
abbrev truths : Ex
truths = seen_ex (repr ReprKind.Matrix (more_reprs (repr ReprKind.Atom no_reprs) no_reprs))
    (matrix_dom (more_doms (up_to (number_ex (pos 3))) no_doms) bool_dom) (codes "m" ∷ []) no_exs

-- ---- listings

-- Of the members that occur: x over the inner domain, where the cell at x is true.
occurring_is_listed : view_listing (codes "x") (codes "y") [] occurring ≡ Some (record {
  gens = over (name_pat (codes "x")) (up_to (number_ex (pos 3)))
      (cond (cell_ex true (codes "s_Occurrence") (more_exs (name_ex (codes "x")) no_exs)) no_gens);
  item = name_ex (codes "x");
})
occurring_is_listed = refl

-- Neither a name nor a tuple's view offers one.
a_name_is_not : view_listing (codes "x") (codes "y") [] (name_ex (codes "s")) ≡ None
a_name_is_not = refl

-- ---- folds

-- `sum([x | x <- s])`, where s has two slots: over the slots, the view in each. The sum over the one alternative becomes that sum.
slots_are_summed : kind_rewrite supply [] over_a_view
    (fun1 false Fun.Sum (comp_ex (name_ex (codes "x")) (from (name_pat (codes "x")) in_slots no_gens)))
    ≡ Some (fun1 false Fun.Sum (node_ex false matrix_literal (more_exs (fun1 false Fun.Sum (comp_ex
    (seen_ex (repr ReprKind.Atom no_reprs) (up_to (number_ex (pos 3))) (codes "s_Explicit" ∷ []) (more_exs (name_ex (codes "#1")) no_exs))
    (over (name_pat (codes "#1")) (up_to (number_ex (pos 2))) no_gens))) no_exs)))
slots_are_summed = refl

-- ---- sizes

-- `|s|` of two slots is 2, `|f|` of a total function from three numbers is 3.
two_slots : kind_rewrite supply [] size_of_slots (ex1 false Op1.Bar in_slots) ≡ Some (number_ex (pos 2))
two_slots = refl

three_arguments : kind_rewrite supply [] size_of_a_function (ex1 false Op1.Bar total) ≡ Some (number_ex (pos 3))
three_arguments = refl

-- ---- items and results

-- `m[i]` of truth values, at any i, is the view there; where a number is asked it waits.
any_truth : kind_rewrite supply [] truth_in_a_matrix
    (node_ex true (index (by_value ∷ [])) (more_exs truths (more_exs (name_ex (codes "i")) no_exs)))
    ≡ Some (seen_ex (repr ReprKind.Atom no_reprs) bool_dom (codes "m" ∷ []) (more_exs (name_ex (codes "i")) no_exs))
any_truth = refl

-- The view of an atom is its cell.
atom : first_of_kinds supply [] kind_rules
    (seen_ex (repr ReprKind.Atom no_reprs) bool_dom (codes "m" ∷ []) (more_exs (name_ex (codes "i")) no_exs))
    ≡ Some (cell_ex true (codes "m") (more_exs (name_ex (codes "i")) no_exs))
atom = refl

-- `f(a)` of numbers at any a: the sum over the arguments that are a.
any_result : first_of_kinds supply [] kind_rules (node_ex false application (more_exs total (more_exs (name_ex (codes "a")) no_exs)))
    ≡ Some (fun1 false Fun.Sum (node_ex false matrix_literal (more_exs
    (fun1 false Fun.Sum (comp_ex (name_ex (codes "#1")) (from (name_pat (codes "#1"))
    (comp_ex (name_ex (codes "#2")) (from (name_pat (codes "#2"))
    (comp_ex (seen_ex (repr ReprKind.Atom no_reprs) (up_to (number_ex (pos 3))) (codes "f_Function1D" ∷ []) (more_exs (name_ex (codes "#3")) no_exs))
    (over (name_pat (codes "#3")) (up_to (number_ex (pos 3))) (cond (ex2 true Op2.Eq (name_ex (codes "#3")) (name_ex (codes "a"))) no_gens)))
    no_gens)) no_gens))) no_exs)))
any_result = refl

-- Worked examples of what rules make of trees over a view of a set kept in slots up to a marker.
use Rattle.std.proofs.Common.{◌≡◌, refl, true, false, [], ◌∷◌, pos, Some, codes}
use Rattle.ess_semantics.specs.declared.words.Op1.{Op1}
use Rattle.ess_semantics.specs.declared.words.Op2.{Op2}
use Rattle.ess_semantics.specs.declared.words.Fun.{Fun}
use Rattle.ess_semantics.specs.declared.words.ReprKind.{ReprKind}
use Rattle.ess_semantics.specs.Trees.{both_ends, repr, no_reprs, more_reprs, name_pat, Ex, number_ex, name_ex, comp_ex, cell_ex, seen_ex, no_exs, more_exs, Gens, no_gens, over, from, cond, Dom, bool_dom, int_dom, set_dom, ex1, ex2, fun1}
use Rattle.ess_rules_laws.specs.SourceRules.{list_of}
use Rattle.ess_refine_laws.specs.AllRules.{Supply, condition, rewrite}
use Rattle.ess_kind_rules_laws.specs.KindRules.{of_one_view, size_at_the_marker, kind_rewrite}
use Rattle.ess_refine_laws.specs.SpellingEnds.{numbers_of_tree}
use Rattle.ess_seen_names_laws.specs.Shapes.{no_numeral, of_numbers, no_step, up_to_the_marker, by_a_view, Shape, leaving, marker_of, alone}

-- Sets of numbers from 1 to 9, in the tables "m" and "c".
abbrev members : Dom
members = int_dom (both_ends ∷ []) (more_exs (number_ex (pos 1)) (more_exs (number_ex (pos 9)) no_exs))

abbrev view : Ex
view = seen_ex (repr ReprKind.ExplicitVarSizeWithMarker (more_reprs (repr ReprKind.Atom no_reprs) no_reprs)) (set_dom [] no_exs members)
    (codes "m" ∷ codes "c" ∷ []) no_exs

-- The new name is "x".
abbrev taken : Supply
taken = record { one = codes "x"; other = codes "y"; third = codes "z"; parts = []; index_domain = λ e. bool_dom; copy = λ e. e }

-- `|v|` becomes the marker.
abbrev size_of_view : Ex
size_of_view = ex1 false Op1.Bar view

size_is_the_marker : kind_rewrite taken [] size_at_the_marker size_of_view ≡ Some (cell_ex false (codes "m") no_exs)
size_is_the_marker = refl

marker_shape : Shape (codes "x") size_of_view (cell_ex false (codes "m") no_exs)
marker_shape = marker_of no_step

-- `and([a > 5 | a <- v])` becomes `and([c[x] > 5 | x : int(1..9), x <= m])`, where c[x] is the view in the slot.
abbrev fold : Ex
fold = fun1 true Fun.And (comp_ex (ex2 true Op2.Gt (name_ex (codes "a")) (number_ex (pos 5))) (from (name_pat (codes "a")) view no_gens))

abbrev slot : Ex
slot = seen_ex (repr ReprKind.Atom no_reprs) members (codes "c" ∷ []) (more_exs (name_ex (codes "x")) no_exs)

abbrev laid_open : Ex
laid_open = fun1 true Fun.And (comp_ex (ex2 true Op2.Gt slot (number_ex (pos 5)))
    (over (name_pat (codes "x")) (int_dom (both_ends ∷ []) (more_exs (number_ex (pos 1)) (more_exs (number_ex (pos 9)) no_exs)))
    (cond (ex2 true Op2.Le (name_ex (codes "x")) (cell_ex false (codes "m") no_exs)) no_gens)))

fold_over_view : kind_rewrite taken [] of_one_view fold ≡ Some laid_open
fold_over_view = refl

fold_shape : Shape (codes "x") fold laid_open
fold_shape = alone (codes "a") no_gens (by_a_view (up_to_the_marker no_numeral of_numbers no_step))

-- No number is spelled that wasn't but 1.
numbers_before : numbers_of_tree fold ≡ pos 5 ∷ pos 1 ∷ pos 9 ∷ []
numbers_before = refl

numbers_behind : numbers_of_tree laid_open ≡ pos 1 ∷ pos 9 ∷ pos 5 ∷ pos 1 ∷ pos 9 ∷ []
numbers_behind = refl

-- `sum([2 ** c[x] | x : int(1..9), x <= m])` becomes `sum([toInt(x <= m) * sum([2 ** max([c[x], 0])]) | x : int(1..9)])`, where c[x] and m
-- are cells: what is added has a value also where the condition doesn't hold.
abbrev in_use : Ex
in_use = ex2 true Op2.Le (name_ex (codes "x")) (cell_ex false (codes "m") no_exs)

abbrev cell : Ex
cell = cell_ex false (codes "c") (more_exs (name_ex (codes "x")) no_exs)

abbrev slots : Gens
slots = over (name_pat (codes "x")) members no_gens

abbrev sum_under : Ex
sum_under = fun1 false Fun.Sum (comp_ex (ex2 false Op2.Pow (number_ex (pos 2)) cell)
    (over (name_pat (codes "x")) members (cond in_use no_gens)))

abbrev sum_of_choices : Ex
sum_of_choices = fun1 false Fun.Sum (comp_ex (ex2 false Op2.Times (fun1 false Fun.ToInt in_use)
    (fun1 false Fun.Sum (comp_ex (ex2 false Op2.Pow (number_ex (pos 2))
    (fun1 false Fun.Max (list_of (more_exs cell (more_exs (number_ex (pos 0)) no_exs))))) no_gens))) slots)

condition_leaves_sum : rewrite taken [] condition sum_under ≡ Some sum_of_choices
condition_leaves_sum = refl

leaving_shape : Shape (codes "y") sum_under sum_of_choices
leaving_shape = leaving slots in_use no_gens

-- It spells 0, as said.
numbers_of_sum : numbers_of_tree sum_under ≡ pos 2 ∷ pos 1 ∷ pos 9 ∷ []
numbers_of_sum = refl

numbers_of_choices : numbers_of_tree sum_of_choices ≡ pos 2 ∷ pos 0 ∷ pos 1 ∷ pos 9 ∷ []
numbers_of_choices = refl

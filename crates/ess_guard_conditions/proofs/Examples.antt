-- Worked examples of conditions by parts of trees.
use Rattle.std.proofs.Common.{◌≡◌, refl, true, false, [], ◌∷◌, pos, Some, None}
use Rattle.std.specs.Prelude.{codes}
use Rattle.ess_semantics.specs.declared.words.Op2.{Op2}
use Rattle.ess_semantics.specs.declared.words.Fun.{Fun}
use Rattle.ess_semantics.specs.declared.words.ReprKind.{ReprKind}
use Rattle.ess_semantics.specs.Values.{Text}
use Rattle.ess_semantics.specs.Trees.{repr, no_reprs, more_reprs, tuple_literal, name_pat}
use Rattle.ess_semantics.specs.Trees.{Ex, number_ex, truth_ex, name_ex, node_ex, comp_ex, cell_ex, no_exs, more_exs, no_gens, over, cond}
use Rattle.ess_semantics.specs.Trees.{bool_dom, int_dom, function_dom, both_ends, ex2, fun1}
use Rattle.ess_guard_conditions.specs.ConditionForms.{of_pair, of_only, within_bounds, is_by_argument, is_among_arguments, pair_of, pairs_agree, are_pairs_apart, under_each}

-- Reserved names.
abbrev q : Text
q = 0 ∷ 1 ∷ []

abbrev i : Text
i = codes "i"

abbrev j : Text
j = codes "j"

abbrev one : Ex
one = number_ex (pos 1)

abbrev two : Ex
two = number_ex (pos 2)

-- The cell c, a number.
abbrev c : Ex
c = cell_ex false (codes "c") no_exs

-- `a = b`
abbrev equal : Ex → Ex → Ex
equal a b = ex2 true Op2.Eq a b

abbrev pair : Ex → Ex → Ex
pair a b = node_ex false tuple_literal (more_exs a (more_exs b no_exs))

-- ---- operands

pair_asks : of_pair (Some (one, two)) (λ a b. a ∷ b ∷ []) ≡ one ∷ two ∷ []
pair_asks = refl

no_pair_asks_nothing : of_pair None (λ a b. a ∷ b ∷ []) ≡ []
no_pair_asks_nothing = refl

only_one_asks : of_only (more_exs one no_exs) (λ a. a ∷ []) ≡ one ∷ []
only_one_asks = refl

two_ask_nothing : of_only (more_exs one (more_exs two no_exs)) (λ a. a ∷ []) ≡ []
two_ask_nothing = refl

-- ---- indices

-- Within the bounds of one range: `1 <= i /\ i <= c`
within_there : within_bounds q (name_ex i) (int_dom (both_ends ∷ []) (more_exs one (more_exs c no_exs))) (Some (one, c))
    ≡ ex2 true Op2.And (ex2 true Op2.Le one (name_ex i)) (ex2 true Op2.Le (name_ex i) c)
within_there = refl

-- Elsewhere in the set of the members.
within_members : within_bounds q (name_ex i) bool_dom None
    ≡ ex2 true Op2.Member (name_ex i) (fun1 false Fun.ToSet (comp_ex (name_ex q) (over (name_pat q) bool_dom no_gens)))
within_members = refl

kept_by_argument : is_by_argument (repr ReprKind.Function1D (more_reprs (repr ReprKind.Atom no_reprs) no_reprs)) ≡ true
kept_by_argument = refl

atom_is_not : is_by_argument (repr ReprKind.Atom no_reprs) ≡ false
atom_is_not = refl

argument_there : is_among_arguments [] (number_ex (pos 1)) (function_dom [] no_exs (int_dom (both_ends ∷ []) (more_exs one (more_exs two no_exs))) bool_dom)
    ≡ true
argument_there = refl

argument_outside : is_among_arguments [] (number_ex (pos 3)) (function_dom [] no_exs (int_dom (both_ends ∷ []) (more_exs one (more_exs two no_exs))) bool_dom)
    ≡ false
argument_outside = refl

no_function : is_among_arguments [] (number_ex (pos 1)) bool_dom ≡ false
no_function = refl

-- ---- pairs

pair_there : pair_of (pair one two) ≡ Some (one, two)
pair_there = refl

number_is_no_pair : pair_of one ≡ None
number_is_no_pair = refl

agreeing : pairs_agree (Some (one, two)) (Some (c, one)) ≡ ex2 true Op2.Implies (equal one c) (equal two one)
agreeing = refl

nothing_agrees : pairs_agree None (Some (c, one)) ≡ truth_ex true
nothing_agrees = refl

-- 1 and 2 are other arguments, 1 and c may be one.
numerals_apart : are_pairs_apart (Some (one, c)) (Some (two, c)) ≡ true
numerals_apart = refl

cell_not_apart : are_pairs_apart (Some (one, two)) (Some (c, one)) ≡ false
cell_not_apart = refl

nothing_apart : are_pairs_apart None (Some (c, one)) ≡ false
nothing_apart = refl

-- The last one is asked under those before it.
under_two : under_each (name_ex i ∷ name_ex j ∷ []) c
    ≡ fun1 true Fun.Or (comp_ex (fun1 true Fun.Or (comp_ex c (cond (name_ex j) no_gens))) (cond (name_ex i) no_gens))
under_two = refl

under_none : under_each [] c ≡ c
under_none = refl

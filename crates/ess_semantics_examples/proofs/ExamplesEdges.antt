-- Worked examples at further corners: empty axes, lettings given twice, tables without all items, truth values as indices,
-- patterns, and what stands behind a condition, in a codomain and in an index list.
use Rattle.std.specs.Prelude.{◌≡◌, refl, ℕ, Bool, true, false, List, [], ◌∷◌, map, pos, Some, None, IsTrue, codes}
use Rattle.ess_semantics.specs.declared.words.Op2.{Op2}
use Rattle.ess_semantics.specs.declared.words.Fun.{Fun}
use Rattle.ess_semantics.specs.declared.words.Key.{Key}
use Rattle.ess_semantics.specs.declared.words.ReprKind.{ReprKind}
use Rattle.ess_semantics.specs.Values.{Text, truth, item}
use Rattle.ess_semantics.specs.Trees.{mset_literal, flag, name_pat, tuple_pat, no_pats, more_pats, Ex, truth_ex, plain_node, matrix_ex, comp_ex, cell_ex, seen_ex, no_exs, no_gens, over, from, bool_dom, name_dom, tuple_dom, function_dom, given, given_enum, let_ex, let_enum, find, such_that}
use Rattle.ess_semantics.specs.Domains.{named, integers, booleans, matrices, sets, no_domains, more_domains, between}
use Rattle.ess_semantics.specs.Tables.{Table, one_cell, atom_value}
use Rattle.ess_semantics.specs.Choice.{alone, over_child}
use Rattle.ess_semantics.specs.Declarations.{Declaration, declarations, cell_count}
use Rattle.ess_semantics.specs.DeclaredTables.{DeclaredAs}
use Rattle.ess_semantics.specs.Meaning.{empty_env, domain_of}
use Rattle.ess_semantics.specs.Contexts.{hole, in_condition, behind_condition, in_generators, Where}
use Rattle.ess_semantics.specs.Totality.{Total}
use Rattle.ess_semantics.specs.Scoped.{Scoped}
use Rattle.ess_semantics.specs.Large.{is_large_dom}
use Rattle.ess_semantics.specs.Judgements.{double_name, ill_typed, not_enumerable, fault}
use Rattle.ess_semantics.specs.Assignments.{Assignment, nothing_given}
use Rattle.ess_semantics.specs.Parameters.{extra_name, param_verdict}
use Rattle.ess_semantics.specs.Solutions.{valid, false_constraint, verdict}
use Rattle.ess_semantics.specs.Plans.{size_plan, plan_stands, plans}
use Rattle.ess_semantics.specs.ModelTrees.{no_goal, least, greatest, Model, same_direction}
use Rattle.ess_semantics.specs.ModelMeaning.{model_value}
use Rattle.ess_semantics.specs.Satisfaction.{ModelVerdict, outside_domain, satisfied, model_verdict}
use Rattle.ess_semantics.specs.Models.{is_flat}
use Rattle.ess_semantics.proofs.Shorthands.{N, n, es1, es2, bi, fn, ds2, range, upto, any_int, set, v, gives1}
use Rattle.ess_semantics.proofs.CellWords.{atom, table, with}

abbrev x : Text
x = codes "x"

abbrev q : Text
q = codes "q"

abbrev r : Text
r = codes "r"

abbrev s : Text
s = codes "s"

abbrev E : Text
E = codes "E"

-- ---- cells

-- matrix indexed by [int(1..0), int(1..5)] of bool has no cells, but counts with its longest axis
longest_axis : cell_count (over_child ReprKind.Matrix atom) (matrices (more_domains (between (pos 1) (pos 0)) (more_domains (between (pos 1) (pos 5)) no_domains)) booleans) ≡ 5
longest_axis = refl

-- the members of a set of all numbers: int without ranges isn't widened
all_numbers_stay : map (λ (d : Declaration). d.cell) (declarations (over_child ReprKind.ExplicitVarSizeWithMarker atom) (sets (with Key.MaxSize 2) (integers []))) ≡
    between (pos 0) (pos 2) ∷ integers [] ∷ []
all_numbers_stay = refl

-- a position must be one of the type
positions_of_a_type : map (λ k. atom_value (named E 2) (pos k)) (0 ∷ 1 ∷ 2 ∷ 3 ∷ []) ≡ None ∷ Some (item E 1) ∷ Some (item E 2) ∷ None ∷ []
positions_of_a_type = refl

abbrev declared : List ℕ → Type 0
declared is = DeclaredAs (λ a. domain_of a empty_env) (record { name = x; axes = upto 3 ∷ []; cell = bool_dom } ∷ []) (record { axes = map pos is ∷ []; cell = booleans } ∷ [])

same_axes_are_declared : declared (1 ∷ 2 ∷ 3 ∷ [])
same_axes_are_declared = (refl, (λ k. refl), tt)

other_axes_are_not : declared (1 ∷ 2 ∷ []) → ⊥
other_axes_are_not h = cc

-- ---- parameters

abbrev one_type : Text × List Text → Text × List Text → Assignment
one_type a b = record { types = a ∷ b ∷ []; vals = [] }

-- given E new type enum: two lettings of E
type_given_twice : param_verdict (given_enum E ∷ []) (one_type (E, codes "a" ∷ []) (E, codes "b" ∷ [])) ≡ extra_name E
type_given_twice = refl

-- given x : int: a value q and a new type r are too many, and types come first
types_come_before_values : param_verdict (given x any_int ∷ []) (record { types = (r, codes "a" ∷ []) ∷ []; vals = (q, Some (v 1)) ∷ (x, Some (v 1)) ∷ [] }) ≡ extra_name r
types_come_before_values = refl

-- ---- lettings

-- letting q be sum([x | x : int(1..2)]), find x : int(1..3), such that x = q: the x of the letting is its own
newest_binding_counts : map (λ k. verdict (let_ex q (fn Fun.Sum (comp_ex (N x) (over (name_pat x) (upto 2) no_gens))) ∷ find x (upto 3) ∷ such_that (bi Op2.Eq (N x) (N q)) ∷ []) nothing_given (gives1 x (v k))) (2 ∷ 3 ∷ []) ≡
    false_constraint 3 ∷ valid ∷ []
newest_binding_counts = refl

-- ---- judgements

-- forAll (x, x) : (bool, bool) . x
pattern_with_one_name_twice : fault (such_that (fn Fun.And (comp_ex (N x) (over (tuple_pat (more_pats (name_pat x) (more_pats (name_pat x) no_pats))) (tuple_dom (ds2 bool_dom bool_dom)) no_gens))) ∷ []) ≡ Some (double_name, 1)
pattern_with_one_name_twice = refl

-- find x : E, find q : r, where E and r are enumerated types
two_named_types : map (λ e. fault (let_enum E (codes "a" ∷ []) ∷ let_enum r (codes "b" ∷ []) ∷ find x (name_dom E) ∷ find q (name_dom r) ∷ such_that e ∷ []))
    (bi Op2.Eq (N x) (N q) ∷ bi Op2.Eq (N x) (N (codes "a")) ∷ bi Op2.Eq (N x) (N (codes "b")) ∷ []) ≡ Some (ill_typed, 5) ∷ None ∷ Some (ill_typed, 5) ∷ []
two_named_types = refl

-- toMSet([q | q <- s]) = mset(1)
order_does_not_count : fault (find s (set (upto 2)) ∷ such_that (bi Op2.Eq (fn Fun.ToMSet (comp_ex (N q) (from (name_pat q) (N s) no_gens))) (plain_node mset_literal (es1 (n 1)))) ∷ []) ≡ None
order_does_not_count = refl

bijective_onto_sets : fault (find x (function_dom (flag Key.Bijective ∷ []) no_exs bool_dom (set bool_dom)) ∷ []) ≡ Some (not_enumerable, 1)
bijective_onto_sets = refl

-- ---- models

abbrev bits : List ℕ → List ℕ → Model × List (Text × Table)
bits as' is = (record { givens = []; finds = record { name = x; axes = upto 3 ∷ []; cell = bool_dom } ∷ []; goal = no_goal; rules = [] }, (x, table as' is) ∷ [])

abbrev verdict_on : List ℕ → List ℕ → ModelVerdict
verdict_on as' is = model_verdict (bits as' is).0 [] (bits as' is).1

tables_have_all_items : map (verdict_on (1 ∷ 2 ∷ 3 ∷ [])) ((0 ∷ 1 ∷ 0 ∷ []) ∷ (0 ∷ 1 ∷ []) ∷ (0 ∷ 1 ∷ 0 ∷ 1 ∷ []) ∷ []) ≡ satisfied ∷ outside_domain x ∷ outside_domain x ∷ []
tables_have_all_items = refl

-- the cell at 1 is true, and true is no index
truth_is_no_index : model_value (bits (1 ∷ 2 ∷ 3 ∷ []) (1 ∷ 0 ∷ 0 ∷ [])).0.finds (bits (1 ∷ 2 ∷ 3 ∷ []) (1 ∷ 0 ∷ 0 ∷ [])).1 (cell_ex true x (es1 (truth_ex true))) ≡ Some (truth false)
truth_is_no_index = refl

truth_as_a_number_is_flat : is_flat (plans (find x bool_dom ∷ []) []) (bi Op2.Eq (fn Fun.ToInt (N x)) (n 1)) ≡ true
truth_as_a_number_is_flat = refl

directions_differ : same_direction (least (n 1)) (greatest (n 1)) ≡ false
directions_differ = refl

-- E_Size is the number of values of E
size_of_a_type : map (λ k. plan_stands empty_env (record { types = (E, codes "a" ∷ codes "b" ∷ []) ∷ []; vals = [] }) ((codes "E_Size", one_cell (pos k)) ∷ []) (size_plan E (codes "E_Size"))) (1 ∷ 2 ∷ 3 ∷ []) ≡ false ∷ true ∷ false ∷ []
size_of_a_type = refl

-- ---- trees

-- [1 | false, q]: the second condition is never asked for
behind_a_false_condition : Where (in_generators (n 1) (behind_condition (truth_ex false) (in_condition hole no_gens))) empty_env (λ here. ⊥)
behind_a_false_condition = λ h. cc

two_items_over_three : Total (matrix_ex (es2 (n 1) (n 2)) (upto 3)) empty_env → ⊥
two_items_over_three h = never (h.0 refl refl)
  where
    never : IsTrue false → ⊥
    never k = cc

two_items_over_two : Total (matrix_ex (es2 (n 1) (n 2)) (upto 2)) empty_env
two_items_over_two = ((λ h. λ k. refl), (tt, (tt, tt)), (tt, (tt, tt)))

large_codomain : is_large_dom (function_dom [] no_exs bool_dom (range (n 0) (bi Op2.Pow (n 2) (n 63)))) empty_env ≡ true
large_codomain = refl

-- a view's index may be a name bound over a domain, but none bound over an expression
abbrev view_at_q : Ex
view_at_q = seen_ex (alone ReprKind.Occurrence) (set (upto 3)) (s ∷ []) (es1 (N q))

abbrev no_name : Text → Bool
no_name a = false

bound_over_a_domain : Scoped no_name no_name no_name (comp_ex view_at_q (over (name_pat q) (upto 3) no_gens))
bound_over_a_domain = (refl, (tt, (tt, tt)), ((tt, (tt, (tt, tt))), (refl, tt)))

bound_over_an_expression : Scoped no_name no_name no_name (comp_ex view_at_q (from (name_pat q) (plain_node mset_literal (es1 (n 1))) no_gens)) → ⊥
bound_over_an_expression h = cc

-- Worked examples of tables' names, of models and of what they stand for.
use Rattle.std.specs.Prelude.{◌≡◌, refl, ℕ, Bool, true, false, List, [], ◌∷◌, ◌++◌, map, length, filter, pos, ℤ, Option, Some, None, codes}
use Rattle.ess_semantics.specs.declared.words.Op1.{Op1}
use Rattle.ess_semantics.specs.declared.words.Op2.{Op2}
use Rattle.ess_semantics.specs.declared.words.Fun.{Fun}
use Rattle.ess_semantics.specs.declared.words.Key.{Key}
use Rattle.ess_semantics.specs.declared.words.ReprKind.{ReprKind}
use Rattle.ess_semantics.specs.Names.{Names}
use Rattle.ess_semantics.specs.Values.{Text, a_function, Value, truth, node, of_list, pair}
use Rattle.ess_semantics.specs.Collections.{set_of}
use Rattle.ess_semantics.specs.Trees.{plain_node, set_literal, more_exs, flag, valued, name_pat, Ex, truth_ex, comp_ex, cell_ex, no_exs, no_gens, from, bool_dom, name_dom, set_dom, function_dom, Stm, given, given_enum, find, such_that}
use Rattle.ess_semantics.specs.Tables.{Table, one_cell}
use Rattle.ess_semantics.specs.Choice.{alone, over_child}
use Rattle.ess_semantics.specs.Assignments.{Assignment, nothing_given}
use Rattle.ess_semantics.specs.Solutions.{Sol, valid, verdict}
use Rattle.ess_semantics.specs.Plans.{values_stood_for, Options, plans, table_list, Stands, canonical_tables, given_tables, cells_of_name, finds_side, givens_side}
use Rattle.ess_semantics.specs.DeclaredTables.{TableDecl}
use Rattle.ess_semantics.specs.ModelTrees.{no_goal, Model}
use Rattle.ess_semantics.specs.ModelMeaning.{model_value}
use Rattle.ess_semantics.specs.Satisfaction.{Sat, ModelVerdict, satisfied, missing_table, extra_table, outside_domain, false_rule, model_verdict}
use Rattle.ess_semantics.specs.Constants.{spells_constants}
use Rattle.ess_semantics.specs.Models.{is_flat, with_cells}
use Rattle.ess_semantics.specs.LargeModels.{declares_large}
use Rattle.ess_semantics.specs.SizeNumbers.{numbers_are_small}
use Rattle.ess_semantics.proofs.Shorthands.{N, n, es1, es2, un, bi, fn, app, range, upto, from_1, set, v, gives1}

-- ---- shorthands

abbrev s : Text
s = codes "s"

abbrev pub t : Text
t = codes "t"

abbrev f : Text
f = codes "f"

abbrev x : Text
x = codes "x"

abbrev pub i : Text
i = codes "i"

abbrev m : Text
m = codes "n"

abbrev E : Text
E = codes "E"

abbrev no_options : Options
no_options = []

abbrev names : List Stm → List (Text × ℕ)
names S = table_list finds_side S no_options

abbrev ints : List ℕ → List ℤ
ints = map pos

abbrev pub table : List ℕ → List ℕ → Table
table as' is = record { axes = ints as' ∷ []; items = ints is }

-- ---- one set over an occurrence table

abbrev pub s_occ : Text
s_occ = codes "s_Occurrence"

abbrev two_in_s : List Stm
two_in_s = find s (set (upto 3)) ∷ such_that (bi Op2.Member (n 2) (N s)) ∷ []

abbrev pub cell : ℕ → Ex
cell k = cell_ex true s_occ (es1 (n k))

abbrev pub model : Ex → Model
model e = record { givens = []; finds = record { name = s_occ; axes = upto 3 ∷ []; cell = bool_dom } ∷ []; goal = no_goal; rules = e ∷ [] }

abbrev pub bits : ℕ → ℕ → ℕ → Names Table
bits a b c = (s_occ, table (1 ∷ 2 ∷ 3 ∷ []) (a ∷ b ∷ c ∷ [])) ∷ []

abbrev pub all_bits : List (Names Table)
all_bits = bits 0 0 0 ∷ bits 0 0 1 ∷ bits 0 1 0 ∷ bits 0 1 1 ∷ bits 1 0 0 ∷ bits 1 0 1 ∷ bits 1 1 0 ∷ bits 1 1 1 ∷ []

abbrev x_declared : List TableDecl
x_declared = record { name = x; axes = []; cell = upto 3 } ∷ []

abbrev x_table : Names Table
x_table = (x, one_cell (pos 1)) ∷ []

abbrev is_satisfied : ModelVerdict → Bool
is_satisfied satisfied = true
is_satisfied w = false

abbrev assignments : Model → List (Names Table) → ℕ
assignments M cs = length (filter (λ c. is_satisfied (model_verdict M [] c)) cs)

s_names : names two_in_s ≡ (s_occ, 1) ∷ []
s_names = refl

two_is_in : Sat (model (cell 2)) [] (bits 0 1 0)
two_is_in = record { declared = refl; rules_hold = refl }

two_is_not_in : model_verdict (model (cell 2)) [] (bits 1 0 1) ≡ false_rule 1
two_is_not_in = refl

four_assignments : assignments (model (cell 2)) all_bits ≡ 4
four_assignments = refl

-- an index outside the axis makes its Boolean false
outside_axis : assignments (model (cell 9)) all_bits ≡ 0
outside_axis = refl

not_outside_axis : assignments (model (un Op1.Not (cell 9))) all_bits ≡ 8
not_outside_axis = refl

no_truth_value : model_verdict (model (cell 2)) [] (bits 0 1 2) ≡ outside_domain s_occ
no_truth_value = refl

no_table : model_verdict (model (cell 2)) [] [] ≡ missing_table s_occ
no_table = refl

-- each declared table once, in order
second_table : model_verdict (model (cell 2)) [] (bits 0 1 0 ++ bits 0 1 0) ≡ extra_table s_occ
second_table = refl

two_declared : map (λ c. model_verdict (record (model (cell 2)) { finds = (model (cell 2)).finds ++ x_declared }) [] c)
    ((bits 0 1 0 ++ x_table) ∷ (x_table ++ bits 0 1 0) ∷ (bits 0 1 0 ++ x_table ++ x_table) ∷ []) ≡ satisfied ∷ extra_table x ∷ extra_table x ∷ []
two_declared = refl

abbrev just_2 : Assignment
just_2 = gives1 s (set_of (v 2 ∷ []))

stands : Stands two_in_s no_options nothing_given just_2 (bits 0 1 0)
stands = record { names = refl; types = refl; tables = refl; each_stands = refl }

canonical : canonical_tables finds_side two_in_s no_options nothing_given just_2 ≡ Some (bits 0 1 0)
canonical = refl

solution : Sol two_in_s nothing_given just_2
solution = record { in_domains = record { all_finds = refl; nothing_else = refl; are_members = refl }; constraints_hold = refl; has_objective = refl }

constants : spells_constants two_in_s (model (cell 2)) ≡ true
constants = refl

no_constant : spells_constants two_in_s (model (cell 9)) ≡ false
no_constant = refl

-- the numbers from 1 to the number of items of a literal are constants
abbrev among_three : List Stm
among_three = find x (upto 9) ∷ such_that (bi Op2.Member (N x) (plain_node set_literal (more_exs (n 5) (es2 (n 6) (n 7))))) ∷ []

number_of_items : spells_constants among_three (model (cell 3)) ≡ true
number_of_items = refl

more_than_items : spells_constants among_three (record (model (cell 2)) { finds = []; rules = bi Op2.Eq (n 4) (n 4) ∷ [] }) ≡ false
more_than_items = refl

-- ---- edited models: Boolean tables with operands that don't fit

abbrev edited : Ex → Option Value
edited e = model_value ((model e).finds) (bits 0 1 0) e

two_indices : edited (bi Op2.Or (cell_ex true s_occ (es2 (n 1) (n 1))) (truth_ex true)) ≡ Some (truth true)
two_indices = refl

two_kinds : edited (bi Op2.Ne (cell 2) (n 0)) ≡ Some (truth false)
two_kinds = refl

two_kinds_ordered : edited (bi Op2.Lt (n 1) (truth_ex true)) ≡ Some (truth false)
two_kinds_ordered = refl

truth_added : edited (bi Op2.Plus (cell 2) (n 1)) ≡ None
truth_added = refl

truth_as_index : edited (cell_ex true s_occ (es1 (truth_ex true))) ≡ Some (truth false)
truth_as_index = refl

-- ---- several representations of one name

abbrev named : Text → ℕ → Text × ℕ
named a k = (a, k)

abbrev both_reprs : Options
both_reprs = (s, over_child ReprKind.Explicit (alone ReprKind.Atom) ∷ alone ReprKind.Occurrence ∷ []) ∷ []

abbrev size_1 : List Stm
size_1 = find s (set_dom (valued Key.Size ∷ []) (es1 (n 1)) (upto 2)) ∷ []

tied : Stands size_1 both_reprs nothing_given (gives1 s (set_of (v 2 ∷ []))) ((codes "s_Explicit", table (1 ∷ []) (2 ∷ [])) ∷ (s_occ, table (1 ∷ 2 ∷ []) (0 ∷ 1 ∷ [])) ∷ [])
tied = record { names = refl; types = refl; tables = refl; each_stands = refl }

-- ---- given tables

abbrev enums : List Stm
enums = given_enum E ∷ find s (set (name_dom E)) ∷ []

size_table : given_tables enums no_options (record { types = (E, codes "a" ∷ codes "b" ∷ codes "c" ∷ []) ∷ []; vals = [] }) ≡ Some ((codes "E_Size", one_cell (pos 3)) ∷ [])
size_table = refl

abbrev injections : List Stm
injections = given m from_1 ∷ find f (function_dom (flag Key.Total ∷ flag Key.Injective ∷ []) no_exs (range (n 1) (N m)) (range (n 1) (N m))) ∷ []

given_names : table_list givens_side injections no_options ≡ named m 0 ∷ []
given_names = refl

find_names : names injections ≡ named (codes "f_Function1D") 1 ∷ []
find_names = refl

given_3 : given_tables injections no_options (gives1 m (v 3)) ≡ Some ((m, one_cell (pos 3)) ∷ [])
given_3 = refl

-- ---- flat constraints

abbrev y : Text
y = codes "y"

abbrev xy : List Stm
xy = find x (range (n 0) (n 3)) ∷ find y (range (n 0) (n 3)) ∷ such_that (bi Op2.Lt (bi Op2.Plus (N x) (n 1)) (N y)) ∷ []

flat : is_flat (plans xy no_options) (bi Op2.Lt (bi Op2.Plus (N x) (n 1)) (N y)) ≡ true
flat = refl

flat_cells : with_cells (plans xy no_options) (bi Op2.Lt (bi Op2.Plus (N x) (n 1)) (N y)) ≡
    bi Op2.Lt (bi Op2.Plus (cell_ex false x no_exs) (n 1)) (cell_ex false y no_exs)
flat_cells = refl

not_flat : is_flat (plans xy no_options) (bi Op2.Eq (bi Op2.Div (N x) (n 1)) (N y)) ≡ false
not_flat = refl

-- ---- the self-test: a set and a function over int(1..20)

abbrev self_test : List Stm
self_test =
    given m from_1 ∷ find (codes "s1") (set (range (n 1) (N m))) ∷ find (codes "f1") (function_dom [] no_exs (range (n 1) (N m)) (range (n 0) (n 9))) ∷
    such_that (fn Fun.And (comp_ex (bi Op2.Eq (app (N (codes "f1")) (N i)) (n 1)) (from (name_pat i) (N (codes "s1")) no_gens))) ∷ []

abbrev threes : List Value
threes = v 3 ∷ v 6 ∷ v 9 ∷ v 12 ∷ v 15 ∷ v 18 ∷ []

abbrev twenty : Assignment
twenty = gives1 m (v 20)

abbrev tested : Assignment
tested = record { types = []; vals = (codes "s1", Some (set_of threes)) ∷ (codes "f1", Some (node a_function (of_list (map (λ a. pair a (v 1)) threes)))) ∷ [] }

self_test_is_valid : verdict self_test twenty tested ≡ valid
self_test_is_valid = refl

self_test_cells : cells_of_name self_test no_options twenty (codes "s1") ≡ 20
self_test_cells = refl

self_test_cells_f : cells_of_name self_test no_options twenty (codes "f1") ≡ 40
self_test_cells_f = refl

-- ---- what tables stand for, and numbers outside 64 bits in declared domains

stood_for : values_stood_for two_in_s no_options nothing_given (bits 1 0 1) ≡ (s, Some (set_of (v 1 ∷ v 3 ∷ []))) ∷ []
stood_for = refl

not_stood_for : values_stood_for two_in_s no_options nothing_given (bits 1 0 2) ≡ (s, None) ∷ []
not_stood_for = refl

not_tied : values_stood_for size_1 both_reprs nothing_given ((codes "s_Explicit", table (1 ∷ []) (1 ∷ [])) ∷ (s_occ, table (1 ∷ 2 ∷ []) (0 ∷ 1 ∷ [])) ∷ []) ≡ (s, None) ∷ []
not_tied = refl

abbrev sets_of_sets_to : ℕ → List Stm
sets_of_sets_to k = find t (set (set (upto k))) ∷ []

few_sets : numbers_are_small (sets_of_sets_to 10) no_options nothing_given ≡ true
few_sets = refl

many_sets : numbers_are_small (sets_of_sets_to 63) no_options nothing_given ≡ false
many_sets = refl

abbrev declares_power : ℕ → Model
declares_power k = record { givens = []; finds = record { name = codes "a"; axes = []; cell = range (n 0) (bi Op2.Pow (n 2) (n k)) } ∷ []; goal = no_goal; rules = [] }

small_declared : declares_large (declares_power 62) [] ≡ false
small_declared = refl

large_declared : declares_large (declares_power 63) [] ≡ true
large_declared = refl

-- Worked examples at the corners of definitions: equal operands, operands without a value, names that are taken, numbers
-- just outside 64 bits, and what stands behind a guard, in a view and behind a condition.
use Rattle.std.specs.Prelude.{◌≡◌, refl, ℕ, Bool, true, false, List, [], ◌∷◌, map, pos, Some, None, codes}
use Rattle.std.specs.Fmt.{digits}
use Rattle.ess_semantics.specs.declared.words.Op1.{Op1}
use Rattle.ess_semantics.specs.declared.words.Op2.{Op2}
use Rattle.ess_semantics.specs.declared.words.Fun.{Fun}
use Rattle.ess_semantics.specs.declared.words.ReprKind.{ReprKind}
use Rattle.ess_semantics.specs.Values.{Text, Value, truth, item, a_set, a_mset, a_relation, node, nil, of_list, pair}
use Rattle.ess_semantics.specs.Collections.{set_of}
use Rattle.ess_semantics.specs.Trees.{set_literal, matrix_literal, function_literal, tuple_literal, record_literal, one_value, name_pat, Ex, truth_ex, plain_node, comp_ex, cell_ex, seen_ex, no_exs, more_exs, no_gens, over, cond, Dom, bool_dom, int_dom, record_dom, no_doms, more_doms, Stm, given, let_enum, let_ex, find, such_that}
use Rattle.ess_semantics.specs.Types.{Ty, any_ty, int_ty, named_ty, compound, no_tys, compound1}
use Rattle.ess_semantics.specs.Domains.{sets, between}
use Rattle.ess_semantics.specs.Choice.{alone, over_child}
use Rattle.ess_semantics.specs.Kinds.{fits}
use Rattle.ess_semantics.specs.Meaning.{Env, empty_env}
use Rattle.ess_semantics.specs.Positions.{with_positions}
use Rattle.ess_semantics.specs.TypeMembers.{is_of_type}
use Rattle.ess_semantics.specs.Meets.{Meets}
use Rattle.ess_semantics.specs.Full.{IsFull}
use Rattle.ess_semantics.specs.Totality.{Total}
use Rattle.ess_semantics.specs.Refined.{is_refined}
use Rattle.ess_semantics.specs.Large.{is_large}
use Rattle.ess_semantics.specs.Tidy.{tidy}
use Rattle.ess_semantics.specs.Judgements.{unknown_name, fault}
use Rattle.ess_semantics.specs.Assignments.{nothing_given}
use Rattle.ess_semantics.specs.Literals.{literal_value, type_of_literal}
use Rattle.ess_semantics.specs.Plans.{plans, table_list, finds_side, givens_side}
use Rattle.ess_semantics.specs.ModelTrees.{no_goal, Model}
use Rattle.ess_semantics.specs.ModelMeaning.{env_of_tables}
use Rattle.ess_semantics.specs.Satisfaction.{undefined, model_verdict}
use Rattle.ess_semantics.specs.Constants.{spells_constants}
use Rattle.ess_semantics.specs.Models.{is_flat}
use Rattle.ess_semantics.specs.SizeNumbers.{numbers_are_small}
use Rattle.ess_semantics.proofs.Shorthands.{N, n, es1, es2, un, bi, fn, neg, range, upto, any_int, set, v, value}
use Rattle.ess_semantics.proofs.CellWords.{atom, one, table}

abbrev x : Text
x = codes "x"

abbrev y : Text
y = codes "y"

abbrev q : Text
q = codes "q"

-- ---- equal operands, and operands without a value

abbrev just_1 : Ex
just_1 = plain_node set_literal (es1 (n 1))

abbrev list_1 : Ex
list_1 = plain_node matrix_literal (es1 (n 1))

-- {1} subsetEq {1}, {1} supsetEq {1}, [1] <=lex [1], [1] >=lex [1], 1 <= 1, 1 >= 1
equal_operands : map (λ e. value e) (bi Op2.SubsetEq just_1 just_1 ∷ bi Op2.SupsetEq just_1 just_1 ∷ bi Op2.LexLe list_1 list_1 ∷ bi Op2.LexGe list_1 list_1 ∷ bi Op2.Le (n 1) (n 1) ∷ bi Op2.Ge (n 1) (n 1) ∷ []) ≡
    map (λ b. Some (truth b)) (true ∷ true ∷ true ∷ true ∷ true ∷ true ∷ [])
equal_operands = refl

-- the same with subset, supset, <lex, >lex, < and >
equal_operands_strictly : map (λ e. value e) (bi Op2.Subset just_1 just_1 ∷ bi Op2.Supset just_1 just_1 ∷ bi Op2.LexLt list_1 list_1 ∷ bi Op2.LexGt list_1 list_1 ∷ bi Op2.Lt (n 1) (n 1) ∷ bi Op2.Gt (n 1) (n 1) ∷ []) ≡
    map (λ b. Some (truth b)) (false ∷ false ∷ false ∷ false ∷ false ∷ false ∷ [])
equal_operands_strictly = refl

-- the least member of an empty set has no value, and no type of its own: a connective reads it as false
abbrev no_least : Ex
no_least = fn Fun.Min (plain_node set_literal no_exs)

connectives_read_nothing_as_false : map (λ e. value e) (un Op1.Not no_least ∷ bi Op2.And no_least (truth_ex true) ∷ bi Op2.Or no_least (truth_ex true) ∷ bi Op2.Implies no_least (truth_ex false) ∷ bi Op2.Iff no_least (truth_ex false) ∷ []) ≡
    map (λ b. Some (truth b)) (true ∷ false ∷ true ∷ true ∷ true ∷ [])
connectives_read_nothing_as_false = refl

-- ---- names and literals

abbrev two_of_u : Env
two_of_u = record empty_env { types = record { name = codes "U"; count = 2; names = [] } ∷ [] }

-- U_2, U_02, U_0, U_3, U_
names_of_values : map (λ a. literal_value (N a) (named_ty (codes "U")) two_of_u) (codes "U_2" ∷ codes "U_02" ∷ codes "U_0" ∷ codes "U_3" ∷ codes "U_" ∷ []) ≡
    Some (item (codes "U") 2) ∷ None ∷ None ∷ None ∷ None ∷ []
unfolding digits
names_of_values = refl

field_twice_is_no_literal : type_of_literal (plain_node (record_literal (x ∷ x ∷ [])) (es2 (n 1) (n 1))) empty_env ≡ None
field_twice_is_no_literal = refl

-- find x : bool, such that forAll x : bool . y
unknown_before_double : fault (find x bool_dom ∷ such_that (fn Fun.And (comp_ex (N y) (over (name_pat x) bool_dom no_gens))) ∷ []) ≡ Some (unknown_name, 2)
unknown_before_double = refl

-- ---- representations

no_dummy_above_one_value : fits (alone ReprKind.ExplicitVarSizeWithDummy) (set (int_dom (one_value ∷ []) (es1 (n 3)))) ≡ false
no_dummy_above_one_value = refl

no_dummy_above_bool : fits (alone ReprKind.ExplicitVarSizeWithDummy) (set bool_dom) ≡ false
no_dummy_above_bool = refl

abbrev three : List ℕ
three = 1 ∷ 2 ∷ 3 ∷ []

-- the cells stand for {9}, which is no member of set of int(1..3)
no_member_is_not_tidy : tidy (over_child ReprKind.ExplicitVarSizeWithMarker atom) (sets [] (between (pos 1) (pos 3))) (one 1 ∷ table three (9 ∷ 0 ∷ 0 ∷ []) ∷ []) [] ≡ false
no_member_is_not_tidy = refl

-- ---- names that are taken

-- the word alldifferent_except stands outside the subset
word_is_taken : table_list finds_side (find (codes "alldifferent") (record_dom (codes "except" ∷ []) (more_doms bool_dom no_doms)) ∷ []) [] ≡ (codes "alldifferent_except_", 0) ∷ []
word_is_taken = refl

declared_name_is_taken_for_a_given : table_list givens_side (given (codes "s") (set (upto 2)) ∷ find (codes "s_Occurrence") bool_dom ∷ []) [] ≡ (codes "s_Occurrence_", 1) ∷ []
declared_name_is_taken_for_a_given = refl

-- ---- values of types

types_have_their_values : map (λ (r : Ty × Value). is_of_type r.0 two_of_u r.1) (
    (named_ty (codes "U"), item (codes "U") 2) ∷ (named_ty (codes "U"), item (codes "U") 3) ∷ (named_ty (codes "U"), v 1) ∷
    (compound1 a_set int_ty, set_of (v 1 ∷ v 2 ∷ [])) ∷ (compound1 a_set int_ty, node a_set (of_list (v 2 ∷ v 1 ∷ []))) ∷
    (compound1 a_mset int_ty, node a_mset (of_list (v 1 ∷ v 1 ∷ []))) ∷ (any_ty, v 1) ∷ (int_ty, truth true) ∷ []) ≡
    true ∷ false ∷ false ∷ true ∷ false ∷ true ∷ false ∷ false ∷ []
types_have_their_values = refl

-- the empty literals have the types that they are given, and the type of their members has no value
empty_literals_have_their_types : map (λ (r : Ty × Value). is_of_type r.0 two_of_u r.1) (
    (compound1 a_set any_ty, set_of []) ∷ (compound1 a_set any_ty, set_of (v 1 ∷ [])) ∷
    (compound a_relation no_tys, node a_relation nil) ∷ (compound a_relation no_tys, node a_relation (of_list (v 1 ∷ []))) ∷ []) ≡
    true ∷ false ∷ true ∷ false ∷ []
empty_literals_have_their_types = refl

positions_stand_for_values : with_positions (set_of (pair (item (codes "U") 2) (truth true) ∷ [])) ≡ set_of (pair (v 2) (truth true) ∷ [])
positions_stand_for_values = refl

-- ---- numbers outside 64 bits

abbrev greatest : ℕ
greatest = 9223372036854775807

-- from -(2 ** 63 - 1) to 2 ** 63 - 1
both_ends_of_64_bits : map (λ e. is_large e empty_env) (n greatest ∷ bi Op2.Plus (n greatest) (n 1) ∷ neg greatest ∷ bi Op2.Minus (neg greatest) (n 1) ∷ []) ≡ false ∷ true ∷ false ∷ true ∷ []
both_ends_of_64_bits = refl

-- sum([1 | q : int(1..1), 2 ** 63 > 0])
large_in_a_condition : is_large (fn Fun.Sum (comp_ex (n 1) (over (name_pat q) (upto 1) (cond (bi Op2.Gt (bi Op2.Pow (n 2) (n 63)) (n 0)) no_gens)))) empty_env ≡ true
large_in_a_condition = refl

-- the difference of the bounds is 2 ** 63 - 1, so the number of members isn't in 64 bits
widest_range : map (λ k. numbers_are_small (find x (range (neg 4611686018427387904) (n k)) ∷ []) [] nothing_given) (4611686018427387902 ∷ 4611686018427387903 ∷ []) ≡ true ∷ false ∷ []
widest_range = refl

-- ---- models

abbrev with_rule : Dom → Ex → Model
with_rule d e = record { givens = []; finds = record { name = x; axes = []; cell = d } ∷ []; goal = no_goal; rules = e ∷ [] }

abbrev spells : List Stm → ℕ → Bool
spells S k = spells_constants S (with_rule bool_dom (bi Op2.Eq (n k) (n 0)))

-- four values of an enumerated type: the numbers up to 4
positions_are_constants : map (spells (let_enum (codes "C") (codes "a" ∷ codes "b" ∷ codes "c" ∷ codes "d" ∷ []) ∷ [])) (3 ∷ 4 ∷ 5 ∷ []) ≡ true ∷ true ∷ false ∷ []
positions_are_constants = refl

abbrev pair_of : ℕ → ℕ → Ex
pair_of a b = plain_node tuple_literal (es2 (n a) (n b))

-- function(7 --> 7, 8 --> 8, 9 --> 9) has three items, each pair two
items_are_counted : map (spells (let_ex y (plain_node function_literal (more_exs (pair_of 7 7) (es2 (pair_of 8 8) (pair_of 9 9)))) ∷ [])) (3 ∷ 4 ∷ 7 ∷ 8 ∷ 10 ∷ []) ≡
    true ∷ false ∷ true ∷ true ∷ false ∷ []
items_are_counted = refl

abbrev one_bool : List Stm
one_bool = find x bool_dom ∷ []

no_not_under_a_not : map (is_flat (plans one_bool [])) (un Op1.Not (N x) ∷ un Op1.Not (un Op1.Not (N x)) ∷ truth_ex true ∷ []) ≡ true ∷ false ∷ false ∷ []
no_not_under_a_not = refl

-- find x : int(1..1 / 0)
undefined_domain_comes_first : model_verdict (with_rule (range (n 1) (bi Op2.Div (n 1) (n 0))) (truth_ex true)) [] [] ≡ undefined
undefined_domain_comes_first = refl

no_generator_over_all_numbers : is_refined (fn Fun.Sum (comp_ex (n 1) (over (name_pat q) any_int no_gens))) ≡ false
no_generator_over_all_numbers = refl

-- ---- guards, views and conditions

abbrev view : Ex → Ex
view i = seen_ex (alone ReprKind.Occurrence) (set (upto 3)) (codes "s" ∷ []) (es1 i)

-- without a table no view is tidy, but this one stands behind a guard
guarded_view_is_met : Meets (bi Op2.And (truth_ex false) (bi Op2.Member (n 2) (view (n 1)))) (env_of_tables [])
guarded_view_is_met = (tt, λ h. cc)

view_is_not_met : Meets (bi Op2.And (truth_ex true) (bi Op2.Member (n 2) (view (n 1)))) (env_of_tables []) → ⊥
view_is_not_met h = no_view (h.1 refl)
  where
    no_view : Meets (bi Op2.Member (n 2) (view (n 1))) (env_of_tables []) × Unit {0} → ⊥
    no_view k = cc

-- a view counts as an operand with all that stands in it
view_is_an_operand : Total (view (bi Op2.Div (n 1) (n 0))) (env_of_tables [])
view_is_an_operand = tt

abbrev bits : Env
bits = env_of_tables ((codes "b", table three (0 ∷ 0 ∷ 0 ∷ [])) ∷ [])

-- the item of the table at 9, behind a false condition that reads the table: full asks for it all the same
behind_a_cell : IsFull (fn Fun.Sum (comp_ex (cell_ex false (codes "b") (es1 (n 9))) (cond (cell_ex true (codes "b") (es1 (n 1))) no_gens))) [] bits → ⊥
behind_a_cell h = cc

-- behind a false condition that reads no table it isn't asked for
behind_a_number : IsFull (fn Fun.Sum (comp_ex (cell_ex false (codes "b") (es1 (n 9))) (cond (bi Op2.Gt (n 0) (n 1)) no_gens))) [] bits
behind_a_number = (refl, (((tt, (tt, tt)), λ h. cc), tt))

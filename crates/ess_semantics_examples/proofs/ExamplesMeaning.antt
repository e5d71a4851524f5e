-- Worked examples of order, canonical values, meaning, lettings and numbers outside 64 bits.
use Rattle.std.specs.Prelude.{◌≡◌, refl, ℕ, Bool, true, false, List, [], ◌∷◌, map, pos, negsuc, Option, Some, None, codes}
use Rattle.ess_semantics.specs.declared.words.Op2.{Op2}
use Rattle.ess_semantics.specs.declared.words.Fun.{Fun}
use Rattle.ess_semantics.specs.declared.words.ReprKind.{ReprKind}
use Rattle.ess_semantics.specs.Values.{Text, a_set, a_function, a_record, Value, number, truth, item, node, nil, cons, pair}
use Rattle.ess_semantics.specs.Collections.{set_of, has_double_argument, has_empty_part, has_overlap}
use Rattle.ess_semantics.specs.Trees.{tuple_literal, set_literal, matrix_literal, record_literal, function_literal, both_ends, name_pat, Ex, truth_ex, plain_node, comp_ex, no_exs, more_exs, no_gens, over, from, cond, Dom, int_dom, set_dom, repr, no_reprs}
use Rattle.ess_semantics.specs.Types.{Ty, int_ty, compound1, compound2}
use Rattle.ess_semantics.specs.Meaning.{Env, empty_env}
use Rattle.ess_semantics.specs.Large.{in_64_bits, is_large, is_large_with}
use Rattle.ess_semantics.specs.Literals.{literal_value}
use Rattle.ess_semantics.proofs.Shorthands.{N, n, es1, es2, bi, fn, at, neg, upto, value_with, value}

abbrev n1 : Value
n1 = number (pos 1)

abbrev n2 : Value
n2 = number (pos 2)

abbrev n3 : Value
n3 = number (pos 3)

-- ---- order and canonical values

double_argument : has_double_argument (pair n1 n2 ∷ pair n1 n3 ∷ []) ≡ true
double_argument = refl

one_pair_twice : has_double_argument (pair n1 n2 ∷ pair n1 n2 ∷ []) ≡ false
one_pair_twice = refl

overlapping : has_overlap (set_of (n1 ∷ []) ∷ set_of (n1 ∷ n2 ∷ []) ∷ []) ≡ true
overlapping = refl

empty_part : has_empty_part (set_of [] ∷ []) ≡ true
empty_part = refl

-- ---- numbers

abbrev yes : Option Value
yes = Some (truth true)

abbrev nope : Option Value
nope = Some (truth false)

abbrev is : ℕ → Option Value
is k = Some (number (pos k))

wide : value (bi Op2.Times (n 9223372036854775807) (bi Op2.Pow (n 2) (n 100))) ≡ is 11692013098647223344361828061502034755750757138432
wide = refl

-- ---- truth tables: at false and false, false and true, true and false, true and true

abbrev answers : Op2 → Ex → Ex → List (Option Value)
answers o a b = value (bi o a a) ∷ value (bi o a b) ∷ value (bi o b a) ∷ value (bi o b b) ∷ []

abbrev truths : List Bool → List (Option Value)
truths bs = map (λ b. Some (truth b)) bs

abbrev on_truths : Op2 → List (Option Value)
on_truths o = answers o (truth_ex false) (truth_ex true)

and_table : on_truths Op2.And ≡ truths (false ∷ false ∷ false ∷ true ∷ [])
and_table = refl

or_table : on_truths Op2.Or ≡ truths (false ∷ true ∷ true ∷ true ∷ [])
or_table = refl

implies_table : on_truths Op2.Implies ≡ truths (true ∷ true ∷ false ∷ true ∷ [])
implies_table = refl

iff_table : on_truths Op2.Iff ≡ truths (true ∷ false ∷ false ∷ true ∷ [])
iff_table = refl

less_truth_table : on_truths Op2.Lt ≡ truths (false ∷ true ∷ false ∷ false ∷ [])
less_truth_table = refl

-- ---- comparisons of 1 and 2, of [1] and [1, 0], and of {1} and {1, 2}, in the same order

compared_numbers : map (λ o. answers o (n 1) (n 2)) (Op2.Eq ∷ Op2.Ne ∷ Op2.Lt ∷ Op2.Le ∷ Op2.Gt ∷ Op2.Ge ∷ []) ≡
    truths (true ∷ false ∷ false ∷ true ∷ []) ∷ truths (false ∷ true ∷ true ∷ false ∷ []) ∷ truths (false ∷ true ∷ false ∷ false ∷ []) ∷
    truths (true ∷ true ∷ false ∷ true ∷ []) ∷ truths (false ∷ false ∷ true ∷ false ∷ []) ∷ truths (true ∷ false ∷ true ∷ true ∷ []) ∷ []
compared_numbers = refl

compared_lists : map (λ o. answers o (plain_node matrix_literal (es1 (n 1))) (plain_node matrix_literal (es2 (n 1) (n 0)))) (Op2.LexLt ∷ Op2.LexLe ∷ Op2.LexGt ∷ Op2.LexGe ∷ []) ≡
    truths (false ∷ true ∷ false ∷ false ∷ []) ∷ truths (true ∷ true ∷ false ∷ true ∷ []) ∷ truths (false ∷ false ∷ true ∷ false ∷ []) ∷ truths (true ∷ false ∷ true ∷ true ∷ []) ∷ []
compared_lists = refl

compared_sets : map (λ o. answers o (plain_node set_literal (es1 (n 1))) (plain_node set_literal (es2 (n 1) (n 2)))) (Op2.Subset ∷ Op2.SubsetEq ∷ Op2.Supset ∷ Op2.SupsetEq ∷ []) ≡
    truths (false ∷ true ∷ false ∷ false ∷ []) ∷ truths (true ∷ true ∷ false ∷ true ∷ []) ∷ truths (false ∷ false ∷ true ∷ false ∷ []) ∷ truths (true ∷ false ∷ true ∷ true ∷ []) ∷ []
compared_sets = refl

-- ---- comprehensions

abbrev x : Text
x = codes "x"

abbrev y : Text
y = codes "y"

abbrev a : Text
a = codes "a"

abbrev sum_of_literal : Ex
sum_of_literal = fn Fun.Sum (comp_ex (N x) (from (name_pat x) (plain_node set_literal (es2 (N a) (n 1))) no_gens))

members_once : value_with (bi Op2.Eq sum_of_literal (n 1)) ((a, int_ty) ∷ []) ((a, n1) ∷ []) ≡ yes
members_once = refl

members_not_twice : value_with (bi Op2.Eq sum_of_literal (n 2)) ((a, int_ty) ∷ []) ((a, n1) ∷ []) ≡ nope
members_not_twice = refl

squares : value (fn Fun.Sum (comp_ex (bi Op2.Times (N x) (N x)) (over (name_pat x) (upto 10) (cond (bi Op2.Ne (N x) (n 3)) no_gens)))) ≡ is 376
squares = refl

grid : value (fn Fun.Sum (comp_ex (bi Op2.Times (N x) (N y)) (over (name_pat x) (upto 20) (over (name_pat y) (upto 20) no_gens)))) ≡ is 44100
grid = refl

-- a body without a value leaves the list without one, but not where there is no binding
no_binding : value (fn Fun.Sum (comp_ex (bi Op2.Div (n 1) (n 0)) (over (name_pat x) (upto 0) no_gens))) ≡ is 0
no_binding = refl

-- ---- records: a literal's fields in any order

abbrev ab : Ex
ab = plain_node (record_literal (codes "b" ∷ codes "a" ∷ [])) (es2 (truth_ex true) (n 1))

by_field : value ab ≡ Some (node (a_record (codes "a" ∷ codes "b" ∷ [])) (cons n1 (cons (truth true) nil)))
by_field = refl

field : value (at ab (N a)) ≡ is 1
field = refl

-- ---- numbers outside 64 bits

abbrev with_x : ℕ → Env
with_x k = record empty_env { vals = (x, number (pos k)) ∷ [] }

abbrev square_positive : Ex
square_positive = bi Op2.Ge (bi Op2.Times (N x) (N x)) (n 0)

small_square : is_large square_positive (with_x 3000000000) ≡ false
small_square = refl

large_square : is_large square_positive (with_x 4294967296) ≡ true
large_square = refl

-- a part counts at each binding, also behind a condition that fails
behind_condition : is_large (fn Fun.Sum (comp_ex (bi Op2.Pow (n 2) (n 63)) (over (name_pat x) (upto 1) (cond (bi Op2.Eq (N x) (n 2)) no_gens)))) empty_env ≡ true
behind_condition = refl

ends_of_64_bits : map in_64_bits (pos 9223372036854775807 ∷ pos 9223372036854775808 ∷ negsuc 9223372036854775806 ∷ negsuc 9223372036854775807 ∷ []) ≡ true ∷ false ∷ true ∷ false ∷ []
ends_of_64_bits = refl

-- partial sums are no parts
partial_sums : is_large (fn Fun.Sum (plain_node matrix_literal (more_exs (n 9223372036854775807) (es2 (n 1) (neg 1))))) empty_env ≡ false
partial_sums = refl

-- the dummy above the greatest number
abbrev to_top : Dom
to_top = set_dom [] no_exs (int_dom (both_ends ∷ []) (es2 (n 9223372036854775806) (n 9223372036854775807)))

large_dummy : is_large_with (repr ReprKind.ExplicitVarSizeWithDummy no_reprs) to_top empty_env ≡ true
large_dummy = refl

-- ---- literals

abbrev set_of_int : Ty
set_of_int = compound1 a_set int_ty

set_literal_value : literal_value (plain_node set_literal (more_exs (n 2) (es2 (n 1) (n 2)))) set_of_int empty_env ≡ Some (set_of (n1 ∷ n2 ∷ []))
set_literal_value = refl

no_literal : literal_value (bi Op2.Plus (n 1) (n 1)) int_ty empty_env ≡ None
no_literal = refl

no_value : literal_value (plain_node function_literal (es2 (plain_node tuple_literal (es2 (n 1) (n 2))) (plain_node tuple_literal (es2 (n 1) (n 3))))) (compound2 a_function int_ty int_ty) empty_env ≡ None
no_value = refl

abbrev two_types : Env
two_types = record empty_env { types = record { name = codes "C"; count = 2; names = codes "red" ∷ codes "blue" ∷ [] } ∷ record { name = codes "U"; count = 12; names = [] } ∷ [] }

value_of_enum : literal_value (N (codes "blue")) (Ty.named_ty (codes "C")) two_types ≡ Some (item (codes "C") 2)
value_of_enum = refl

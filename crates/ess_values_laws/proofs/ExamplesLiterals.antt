-- Worked examples of printed literals, and why an env must have names of its own for the values of named types.
use Rattle.std.specs.Prelude.{◌≡◌, refl, ◌^◌, true, false, [], ◌∷◌, pos, Option, Some, None, option_map, codes}
use Rattle.ess_semantics.specs.Lists.{and_then}
use Rattle.ess_semantics.specs.Values.{Text, a_matrix, a_set, a_function, a_record, Value, number, truth, item, node, nil, cons, tuple, matrix, of_list}
use Rattle.ess_semantics.specs.Trees.{tuple_literal, set_literal, function_literal, record_literal, one_value, both_ends, Ex, Exs, truth_ex, matrix_ex, plain_node, no_exs, more_exs, int_dom, name_dom}
use Rattle.ess_semantics.specs.Types.{Ty, bool_ty, int_ty, named_ty, compound, compound1, compound2, no_tys, more_tys}
use Rattle.ess_semantics.specs.Meaning.{Env, empty_env}
use Rattle.ess_semantics.specs.Literals.{literal_value}
use Rattle.ess_semantics.proofs.Shorthands.{N, n, es1, es2, neg}
use Rattle.ess_grammar.specs.ValueTexts.{literal_of}
use Rattle.ess_values_laws.specs.ItemNames.{item_name}
use Rattle.ess_values_laws.specs.Spellable.{numbers_fit, parts_fit, have_name_tokens}

-- The literal that is printed for the value of one.
abbrev printed : Ex → Ty → Env → Option Ex
printed e t env = option_map (literal_of (item_name env.types)) (literal_value e t env)

-- The value that the printed literal has.
abbrev value_again : Ex → Ty → Env → Option Value
value_again e t env = and_then (printed e t env) (λ x. literal_value x t env)

abbrev set_of : Exs → Ex
set_of es = plain_node set_literal es

abbrev pair_of : Ex → Ex → Ex
pair_of a b = plain_node tuple_literal (es2 a b)

-- ---- literals in order

-- {2, -1, 2}
set_in_order : printed (set_of (more_exs (n 2) (es2 (neg 1) (n 2)))) (compound1 a_set int_ty) empty_env ≡ Some (set_of (es2 (neg 1) (n 2)))
set_in_order = refl

-- -0
zero_has_no_sign : printed (neg 0) int_ty empty_env ≡ Some (n 0)
zero_has_no_sign = refl

-- function({2} --> 1, {} --> 3): the type of the empty set's members is that of the other one's
abbrev function_of_sets : Ex
function_of_sets = plain_node function_literal (es2 (pair_of (set_of (es1 (n 2))) (n 1)) (pair_of (set_of no_exs) (n 3)))

function_in_order : printed function_of_sets (compound2 a_function (compound1 a_set int_ty) int_ty) empty_env ≡
    Some (plain_node function_literal (es2 (pair_of (set_of no_exs) (n 3)) (pair_of (set_of (es1 (n 2))) (n 1))))
function_in_order = refl

-- record {b = 1, a = 2}
record_by_name : printed (plain_node (record_literal (codes "b" ∷ codes "a" ∷ [])) (es2 (n 1) (n 2))) (compound (a_record (codes "a" ∷ codes "b" ∷ [])) (more_tys int_ty (more_tys int_ty no_tys))) empty_env ≡
    Some (plain_node (record_literal (codes "a" ∷ codes "b" ∷ [])) (es2 (n 2) (n 1)))
record_by_name = refl

-- [true, false, true; int(5, -1..0)]
abbrev truths : Exs
truths = more_exs (truth_ex true) (es2 (truth_ex false) (truth_ex true))

index_in_runs : printed (matrix_ex truths (int_dom (one_value ∷ both_ends ∷ []) (more_exs (n 5) (es2 (neg 1) (n 0))))) (compound2 a_matrix int_ty bool_ty) empty_env ≡
    Some (matrix_ex truths (int_dom (both_ends ∷ both_ends ∷ []) (more_exs (neg 1) (more_exs (n 0) (es2 (n 5) (n 5))))))
index_in_runs = refl

-- ---- names of the values of named types

abbrev E : Text
E = codes "E"

-- where values count as positions, [true; E] has the indices of [true; int(1..1)], which is of another type
abbrev with_positions : Env
with_positions = record empty_env { positions = true; types = record { name = E; count = 1; names = codes "a" ∷ [] } ∷ [] }

abbrev over_e : Ty
over_e = compound2 a_matrix (named_ty E) bool_ty

matrix_over_positions : literal_value (matrix_ex (es1 (truth_ex true)) (name_dom E)) over_e with_positions ≡ Some (matrix (of_list (number (pos 1) ∷ [])) (of_list (truth true ∷ [])))
matrix_over_positions = refl

positions_are_not_kept : value_again (matrix_ex (es1 (truth_ex true)) (name_dom E)) over_e with_positions ≡ None
positions_are_not_kept = refl

-- where two types have one name, the values of the second one have no name
abbrev one_name_twice : Env
one_name_twice = record empty_env { types = record { name = E; count = 1; names = codes "a" ∷ [] } ∷ record { name = E; count = 2; names = codes "b" ∷ codes "c" ∷ [] } ∷ [] }

value_of_second : literal_value (N (codes "c")) (named_ty E) one_name_twice ≡ Some (item E 2)
value_of_second = refl

second_is_not_kept : value_again (N (codes "c")) (named_ty E) one_name_twice ≡ None
second_is_not_kept = refl

-- ---- what a text can have

fitting : numbers_fit (node a_set (cons (number (pos (2 ^ 63))) nil)) ≡ false
fitting = refl

empty_tuple : parts_fit (node a_set (cons (tuple nil) nil)) ≡ false
empty_tuple = refl

empty_matrix : parts_fit (matrix nil nil) ≡ true
empty_matrix = refl

word_as_name : have_name_tokens (record { name = E; count = 1; names = codes "set" ∷ [] } ∷ []) ≡ false
word_as_name = refl

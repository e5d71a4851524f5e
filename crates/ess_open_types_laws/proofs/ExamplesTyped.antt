-- Worked examples: where types wouldn't stay, so what rules of openings ask is needed.
use Rattle.std.specs.Prelude.{◌≡◌, refl, true, false, [], ◌∷◌, codes, pos, Some, None}
use Rattle.ess_semantics.specs.declared.words.Op2.{Op2}
use Rattle.ess_semantics.specs.Values.{Text, a_matrix, a_relation, a_set}
use Rattle.ess_semantics.specs.Trees.{application, tuple_literal, matrix_literal, Ex, number_ex, name_ex, node_ex, matrix_ex, comp_ex, ex2, fun1, no_exs, more_exs, no_gens, bool_dom}
use Rattle.ess_semantics.specs.Types.{any_ty, bool_ty, int_ty, named_ty, compound1, compound2}
use Rattle.ess_semantics.specs.Typing.{type_of}
use Rattle.ess_rules_laws.specs.AlternativeLookups.{picking_each}
use Rattle.ess_open_rules_laws.specs.OpenSources.{listed_plainly, sets_united}
use Rattle.ess_open_rules_laws.specs.OpenRules.{related}

abbrev r : Text
r = codes "r"

abbrev x : Text
x = codes "x"

-- ---- relations

-- `r()` of a relation with one component has a type, and `() in r` has none.
abbrev applied : Ex
applied = node_ex true application (more_exs (name_ex r) no_exs)

abbrev asked : Ex
asked = ex2 true Op2.Member (node_ex false tuple_literal no_exs) (name_ex r)

without_arguments : (type_of applied ((r, compound1 a_relation int_ty) ∷ []) ≡ Some bool_ty)
    × (related ((r, compound1 a_relation int_ty) ∷ []) applied ≡ Some asked)
    × (type_of asked ((r, compound1 a_relation int_ty) ∷ []) ≡ None)
without_arguments = (refl, refl, refl)

-- ---- lists

-- `[1, 2; bool] <lex r` has a type where r is a matrix over truth values, and `[1, 2] <lex r` has none.
abbrev one : Ex
one = number_ex (pos 1)

abbrev compared : Ex
compared = ex2 true Op2.LexLt (matrix_ex (more_exs one (more_exs one no_exs)) bool_dom) (name_ex r)

abbrev as_lists : Ex
as_lists = ex2 true Op2.LexLt (node_ex false matrix_literal (more_exs one (more_exs one no_exs))) (name_ex r)

over_truth_values : (type_of compared ((r, compound2 a_matrix bool_ty int_ty) ∷ []) ≡ Some bool_ty)
    × (listed_plainly compared ≡ Some as_lists) × (type_of as_lists ((r, compound2 a_matrix bool_ty int_ty) ∷ []) ≡ None)
over_truth_values = (refl, refl, refl)

-- ---- what is picked

-- A picked value of a named type has no sum: here the one of `[r | ]`.
of_a_named_type : type_of (picking_each false x (record { gens = no_gens; item = name_ex r } ∷ []) (name_ex x))
    ((r, named_ty (codes "colour")) ∷ []) ≡ None
of_a_named_type = refl

-- ---- sets

-- The set of no alternative has the type of an empty literal.
of_no_alternative : type_of (sets_united []) [] ≡ Some (compound1 a_set any_ty)
of_no_alternative = refl

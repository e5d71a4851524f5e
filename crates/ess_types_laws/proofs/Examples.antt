-- Worked examples of types and values: a value has the type of its expression, and what type soundness asks of trees is
-- needed.
use Rattle.std.specs.Prelude.{◌≡◌, refl, true, false, [], ◌∷◌, codes, Some}
use Rattle.ess_semantics.specs.declared.words.Op2.{Op2}
use Rattle.ess_semantics.specs.Values.{Text, a_set, a_relation, Value, nil, tuple}
use Rattle.ess_semantics.specs.Collections.{set_of, relation_of}
use Rattle.ess_semantics.specs.Trees.{tuple_literal, set_literal, relation_literal, name_pat, Ex, plain_node, comp_ex, from, no_gens, no_exs}
use Rattle.ess_semantics.specs.Types.{any_ty, int_ty, compound, no_tys, compound1}
use Rattle.ess_semantics.specs.Typing.{type_of}
use Rattle.ess_semantics.specs.Meaning.{empty_env, meaning}
use Rattle.ess_semantics.specs.TypeMembers.{is_of_type}
use Rattle.ess_semantics.proofs.Shorthands.{N, n, es1, es2, bi, v}
use Rattle.ess_types_laws.specs.WellBound.{WellBound}

abbrev x : Text
x = codes "x"

-- `{2, 1} union {}` is a set of int, and so is its value
abbrev union_with_empty : Ex
union_with_empty = bi Op2.Union (plain_node set_literal (es2 (n 2) (n 1))) (plain_node set_literal no_exs)

its_type : type_of union_with_empty [] ≡ Some (compound1 a_set int_ty)
its_type = refl

its_value : meaning union_with_empty empty_env ≡ Some (set_of (v 1 ∷ v 2 ∷ []))
its_value = refl

value_of_type : is_of_type (compound1 a_set int_ty) empty_env (set_of (v 1 ∷ v 2 ∷ [])) ≡ true
value_of_type = refl

-- over the members of an empty literal nothing is bound, so their type needs no value: `[x union {1} | x <- {}]`
over_empty : meaning
    (comp_ex (bi Op2.Union (N x) (plain_node set_literal (es1 (n 1)))) (from (name_pat x) (plain_node set_literal no_exs) no_gens))
    empty_env ≡
    meaning (comp_ex (n 1) (from (name_pat x) (plain_node set_literal no_exs) no_gens)) empty_env
over_empty = refl

no_value_of_any : (w : Value) → is_of_type any_ty empty_env w ≡ false
no_value_of_any w = refl

-- a relation of a tuple without parts, which no text has, would have the type of a relation of unknown arity, and no value of
-- it
abbrev of_nothing : Ex
of_nothing = plain_node relation_literal (es1 (plain_node tuple_literal no_exs))

unknown_arity : type_of of_nothing [] ≡ Some (compound a_relation no_tys)
unknown_arity = refl

no_value_of_type : is_of_type (compound a_relation no_tys) empty_env (relation_of (tuple nil ∷ [])) ≡ false
no_value_of_type = refl

not_well_bound : WellBound of_nothing [] → ⊥
not_well_bound h = no h.0
  where
    no : false ≡ true → ⊥
    no e = cc

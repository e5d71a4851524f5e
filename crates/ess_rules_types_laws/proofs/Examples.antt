-- Where types wouldn't stay: what the laws ask for is needed.
use Rattle.std.specs.Prelude.{◌≡◌, refl, false, [], ◌∷◌, codes, pos, Some, None}
use Rattle.ess_semantics.specs.declared.words.Fun.{Fun}
use Rattle.ess_semantics.specs.Values.{Text, a_tuple, a_record}
use Rattle.ess_semantics.specs.Trees.{by_value, to_component, index, name_ex, number_ex, node_ex, fun1, no_exs, more_exs}
use Rattle.ess_semantics.specs.Types.{any_ty, int_ty, compound, no_tys, more_tys}
use Rattle.ess_semantics.specs.Typing.{type_of}
use Rattle.ess_semantics.specs.Substitution.{substitute, for_name}
use Rattle.ess_rules_laws.specs.SourceRules.{list_of}

abbrev x : Text
x = codes "x"

abbrev f : Text
f = codes "f"

-- `x[1]` is a number where x is a tuple of one, and has no values where it is a member of an empty literal: so the items of alternatives
-- are to have the type of the members.
components : (type_of (node_ex false (index (to_component 1 ∷ [])) (more_exs (name_ex x) no_exs)) ((
  x,
  compound a_tuple
      (more_tys int_ty no_tys),
) ∷ [])
    ≡ Some int_ty)
    × (type_of (node_ex false (index (to_component 1 ∷ [])) (more_exs (name_ex x) no_exs)) ((x, any_ty) ∷ []) ≡ Some any_ty)
components = (refl, refl)

-- An index by value into a record says the field's name: with a term for the name there is no type.
fields : (type_of (node_ex false (index (by_value ∷ [])) (more_exs (name_ex x) (more_exs (name_ex f) no_exs)))
    ((x, compound (a_record (f ∷ [])) (more_tys int_ty no_tys)) ∷ []) ≡ Some int_ty)
    × (type_of (substitute (for_name f (number_ex (pos 1))) (node_ex false (index (by_value ∷ [])) (more_exs (name_ex x) (more_exs
    (name_ex f) no_exs))))
    ((x, compound (a_record (f ∷ [])) (more_tys int_ty no_tys)) ∷ []) ≡ None)
fields = (refl, refl)

-- `min([])` is of no number's type: so there is to be an alternative.
nothing_least : type_of (fun1 false Fun.Min (list_of no_exs)) [] ≡ Some any_ty
nothing_least = refl

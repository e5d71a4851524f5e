-- The type and the value of a literal side by side, where it has both.
use Rattle.std.specs.Prelude.{◌≡◌, ℕ, true, if◌then◌else◌, List, [], ◌∷◌, map, length, ℤ, pos, neg_ℤ, Option, Some, None, nat_eq, option_map}
use Rattle.std.specs.List.{list_all}
use Rattle.ess_semantics.specs.declared.words.Op1.{Op1}
use Rattle.ess_semantics.specs.Lists.{and_then, when, all_some}
use Rattle.ess_semantics.specs.Values.{Value, a_matrix, of_list, matrix}
use Rattle.ess_semantics.specs.Trees.{Op, unary, Ex, Exs, number_ex, node_ex, more_exs, no_exs, Dom}
use Rattle.ess_semantics.specs.Types.{Ty, compound2, join_all, type_of_dom}
use Rattle.ess_semantics.specs.OperatorTypes.{type_of_op, record_ty, partition_ty}
use Rattle.ess_semantics.specs.Operators.{value_of_op, record_value}
use Rattle.ess_semantics.specs.Names.{Names, keys, by_name, all_distinct}
use Rattle.ess_semantics.specs.Membership.{is_set}
use Rattle.ess_semantics.specs.Meaning.{Env, members_in, domain_of}
use Rattle.ess_semantics.specs.Literals.{type_of_literal, types_of_literals, value_of_literal, values_of_literals, is_literal_index}

-- Two answers side by side, where both are there.
abbrev pub both : {A B : Type 0} → Option A → Option B → Option (A × B)
both None p = None
both (Some x) p = option_map (λ y. (x, y)) p

-- The type and the value of a literal.
abbrev pub typed_literal : Ex → Env → Option (Ty × Value)
typed_literal e env = both (type_of_literal e env) (value_of_literal e env)

-- The types and the values of several literals.
abbrev pub typed_literals : Exs → Env → Option (List Ty × List Value)
typed_literals es env = both (all_some (types_of_literals es env)) (all_some (values_of_literals es env))

-- The type and the value of a literal of this kind, from those of its parts.
abbrev pub typed_node : Op → List Ty × List Value → Option (Ty × Value)
typed_node op p = both (type_of_op op p.0) (value_of_op op p.1)

-- The type and the members of an index domain that has n members.
abbrev pub index_of : Dom → ℕ → Env → Option (Ty × List Value)
index_of d n env =
    if is_literal_index d then and_then (members_in (domain_of d env)) (λ is. when (nat_eq (length is) n) (type_of_dom d, is)) else None

-- The type and the value of a matrix, from those of its items, with its index domain.
abbrev pub typed_matrix : Dom → Env → List Ty × List Value → Option (Ty × Value)
typed_matrix d env p =
    and_then (join_all p.0) (λ t. and_then (index_of d (length p.1) env) (λ i. Some (compound2 a_matrix i.0 t, matrix (of_list i.1) (of_list p.1))))

-- The number that a literal of a number stands for.
abbrev pub literal_number : Ex → Option ℤ
literal_number (number_ex (pos n)) = Some (pos n)
literal_number (node_ex b (unary Op1.Minus) (more_exs (number_ex (pos n)) no_exs)) = Some (neg_ℤ (pos n))
literal_number e = None

-- The types and the values of a record literal's fields, where each has both.
abbrev pub typed_fields : Names Ex → Env → Option (Names (Ty × Value))
typed_fields [] env = Some []
typed_fields (f ∷ fs) env = and_then (typed_literal f.1 env) (λ p. option_map (λ ps. (f.0, p) ∷ ps) (typed_fields fs env))

-- The type and the value of a record, from those of its fields.
abbrev pub typed_record : Names (Ty × Value) → Option (Ty × Value)
typed_record fs =
    when (all_distinct (keys fs)) (record_ty (map (λ f. (f.0, f.1.0)) (by_name fs)), record_value (map (λ f. (f.0, f.1.1)) (by_name fs)))

-- All values are sets where the types of the parts are those of sets.
abbrev pub SetsWhereTyped : List Ty × List Value → Type 0
SetsWhereTyped p = (t u : Ty) → join_all p.0 ≡ Some t → partition_ty t ≡ Some u → list_all is_set p.1 ≡ true

-- Values of the code with types put back, part by part.
use Rattle.std.specs.Prelude.{List, [], ◌∷◌, Option, Some, None, option_map}
use Rattle.ess_semantics.specs.Lists.{and_then, each_of}
use Rattle.ess_semantics.specs.Values.{Text, Value}
use Rattle.ess_core.specs.declared.values.Val.{Val}
use Rattle.ess_core.specs.declared.values.FieldVal.{FieldVal}
use Rattle.ess_core.specs.declared.values.Pair.{Pair}
use Rattle.ess_core.specs.ValueViews.{pure_val, pure_field_val, pure_pair}
use Rattle.ess_eval_domains.specs.declared.closed.Closed.{Closed}
use Rattle.ess_eval_domains.specs.declared.closed.FieldClosed.{FieldClosed}
use Rattle.ess_eval_domains.specs.ClosedViews.{pure_closed, pure_closeds, pure_field_closed}
use Rattle.ess_repr_positions_laws.specs.TypedParts.{typed_pair, typed_tuple, typed_set, typed, typed_each, typed_matrix}

-- f of items side by side, where there are as many and each answer is there.
abbrev pub each_both : {A B C : Type 0} → (A → B → Option C) → List A → List B → Option (List C)
each_both f [] [] = Some []
each_both f (a ∷ xs) (b ∷ ys) = and_then (f a b) (λ c. option_map (λ zs. c ∷ zs) (each_both f xs ys))
each_both f _ _ = None

-- A value.
abbrev pub val_typed : Closed → Val → Option Value
val_typed d v = typed (pure_closed d) (pure_val v)

-- A field of a record.
abbrev pub field_typed : FieldClosed → FieldVal → Option (Text × Value)
field_typed d f = option_map (λ w. ((pure_field_val f).0, w)) (typed (pure_field_closed d).1 (pure_field_val f).1)

-- A matrix over these axes, of such elements; the element itself where there is no axis.
abbrev pub nested_typed : List Closed → Closed → Val → Option Value
nested_typed is d v = typed_matrix (pure_closeds is) (typed (pure_closed d)) (pure_val v)

-- A pair.
abbrev pub pair_typed : Closed → Closed → Pair → Option Value
pair_typed d c p = typed_pair (typed (pure_closed d)) (typed (pure_closed c)) (pure_pair p)

-- A tuple.
abbrev pub tuple_typed : List Closed → Val → Option Value
tuple_typed ds v = typed_tuple (typed_each (pure_closeds ds)) (pure_val v)

-- A part of a partition.
abbrev pub part_typed : Closed → Val → Option Value
part_typed d v = typed_set (λ xs. each_of xs (typed (pure_closed d))) (pure_val v)

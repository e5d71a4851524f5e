-- The types that shapes stand for.
use Rattle.std.specs.Prelude.{List, [], ◌∷◌, map, Option, Some, None, option_map}
use Rattle.ess_semantics.specs.Lists.{and_then}
use Rattle.ess_semantics.specs.Values as pure
use Rattle.ess_semantics.specs.Values.{a_tuple, a_matrix, a_set, a_mset, a_function, a_relation, a_partition, a_record}
use Rattle.ess_semantics.specs.Types.{Ty, Tys, any_ty, bool_ty, int_ty, named_ty, compound, tys_of, join}
use Rattle.ess_values.specs.declared.shapes.Kind.{Kind}
use Rattle.ess_values.specs.declared.shapes.Kind.TheVariants.{Tuple, Matrix, Set, MSet, Function, Relation, Partition, Rec}
use Rattle.ess_values.specs.declared.shapes.Shape.{Shape}
use Rattle.ess_values.specs.declared.shapes.Shape.TheOpen.{Shape-F}
use Rattle.ess_values.specs.declared.shapes.Shape.TheFolds.{fold-Shape}

-- The pure kind of a kind.
abbrev pub pure_kind : Kind → pure.Kind
pure_kind Tuple = a_tuple
pure_kind Matrix = a_matrix
pure_kind Set = a_set
pure_kind MSet = a_mset
pure_kind Function = a_function
pure_kind Relation = a_relation
pure_kind Partition = a_partition
pure_kind (Rec ns) = a_record ns

-- A shape, with the types of its parts in their places.
abbrev pub shape_step : Shape-F Ty → Ty
shape_step Shape-F.Any = any_ty
shape_step Shape-F.Bool = bool_ty
shape_step Shape-F.Int = int_ty
shape_step (Shape-F.Named a) = named_ty a
shape_step (Shape-F.Node k ts) = compound (pure_kind k) (tys_of ts)

-- The type of a shape.
abbrev pub pure_shape : Shape → Ty
pure_shape = fold-Shape Ty shape_step

-- The types of several shapes.
abbrev pub pure_shapes : List Shape → Tys
pure_shapes ss = tys_of (map pure_shape ss)

-- The joins of types in pairs, where there are as many on both sides and each pair has one.
abbrev pub join_lists : List Ty → List Ty → Option (List Ty)
join_lists [] [] = Some []
join_lists (t ∷ ts) (u ∷ us) = and_then (join t u) (λ v. option_map (λ vs. v ∷ vs) (join_lists ts us))
join_lists ts us = None

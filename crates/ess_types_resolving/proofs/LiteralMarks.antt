-- Literals are never Boolean.
use Rattle.std.proofs.Common.{◌≡◌, refl, sym, ap, ◌∙◌, false, List, [], ◌∷◌, Option, Some, None}
use Rattle.ess_semantics.specs.Lists.{and_then, all_some}
use Rattle.ess_semantics.specs.Values.{Text, a_tuple, a_matrix, a_set, a_mset, a_function, a_relation, a_partition, a_record}
use Rattle.ess_semantics.specs.Trees.{Op, tuple_literal, set_literal, mset_literal, function_literal, relation_literal, partition_literal, matrix_literal, record_literal}
use Rattle.ess_semantics.specs.Types.{Ty, any_ty, bool_ty, int_ty, named_ty, compound, no_tys, more_tys, is_bool, join_all}
use Rattle.ess_semantics.specs.OperatorTypes.{function_ty, relation_ty, partition_ty, type_of_op, type_of_list}
use Rattle.ess_types_resolving.proofs.Marks.{never-one, never-two, never-then}

literal-mark : (op : Op) (u : Option Ty) (us : Option (List Ty)) → ((ts : List Ty) → is_bool (type_of_op op ts) ≡ false)
    → u ≡ and_then us (type_of_op op) → false ≡ is_bool u
literal-mark op u None h e = sym (ap is_bool e)
literal-mark op u (Some ts) h e = sym (ap is_bool e ∙ h ts)

-- A tuple literal is never Boolean.
pub tuple_marked : (u : Option Ty) (us : Option (List Ty)) → u ≡ and_then us (type_of_op tuple_literal) → false ≡ is_bool u
tuple_marked u us = literal-mark tuple_literal u us (λ ts. refl)

-- A record literal is never Boolean.
pub record_marked : (fs : List Text) (u : Option Ty) (us : Option (List Ty)) → u ≡ and_then us (type_of_op (record_literal fs))
    → false ≡ is_bool u
record_marked fs u us = literal-mark (record_literal fs) u us (λ ts. refl)

-- A set literal is never Boolean.
pub set_marked : (u : Option Ty) (us : Option (List Ty)) → u ≡ and_then us (type_of_op set_literal) → false ≡ is_bool u
set_marked u us = literal-mark set_literal u us (λ ts. never-one a_set (join_all ts))

-- A multiset literal is never Boolean.
pub mset_marked : (u : Option Ty) (us : Option (List Ty)) → u ≡ and_then us (type_of_op mset_literal) → false ≡ is_bool u
mset_marked u us = literal-mark mset_literal u us (λ ts. never-one a_mset (join_all ts))

never-function : (t : Ty) → is_bool (function_ty t) ≡ false
never-function any_ty = refl
never-function bool_ty = refl
never-function int_ty = refl
never-function (named_ty a) = refl
never-function (compound a_tuple no_tys) = refl
never-function (compound a_tuple (more_tys a no_tys)) = refl
never-function (compound a_tuple (more_tys a (more_tys b no_tys))) = refl
never-function (compound a_tuple (more_tys a (more_tys b (more_tys c ts)))) = refl
never-function (compound a_matrix ts) = refl
never-function (compound a_set ts) = refl
never-function (compound a_mset ts) = refl
never-function (compound a_function ts) = refl
never-function (compound a_relation ts) = refl
never-function (compound a_partition ts) = refl
never-function (compound (a_record fs) ts) = refl

-- A function literal is never Boolean.
pub function_marked : (u : Option Ty) (us : Option (List Ty)) → u ≡ and_then us (type_of_op function_literal) → false ≡ is_bool u
function_marked u us = literal-mark function_literal u us (λ ts. never-then function_ty never-function (join_all ts))

never-relation : (t : Ty) → is_bool (relation_ty t) ≡ false
never-relation any_ty = refl
never-relation bool_ty = refl
never-relation int_ty = refl
never-relation (named_ty a) = refl
never-relation (compound a_tuple ts) = refl
never-relation (compound a_matrix ts) = refl
never-relation (compound a_set ts) = refl
never-relation (compound a_mset ts) = refl
never-relation (compound a_function ts) = refl
never-relation (compound a_relation ts) = refl
never-relation (compound a_partition ts) = refl
never-relation (compound (a_record fs) ts) = refl

-- A relation literal is never Boolean.
pub relation_marked : (u : Option Ty) (us : Option (List Ty)) → u ≡ and_then us (type_of_op relation_literal) → false ≡ is_bool u
relation_marked u us = literal-mark relation_literal u us (λ ts. never-then relation_ty never-relation (join_all ts))

never-partition : (t : Ty) → is_bool (partition_ty t) ≡ false
never-partition any_ty = refl
never-partition bool_ty = refl
never-partition int_ty = refl
never-partition (named_ty a) = refl
never-partition (compound a_tuple ts) = refl
never-partition (compound a_matrix ts) = refl
never-partition (compound a_set no_tys) = refl
never-partition (compound a_set (more_tys a no_tys)) = refl
never-partition (compound a_set (more_tys a (more_tys b ts))) = refl
never-partition (compound a_mset ts) = refl
never-partition (compound a_function ts) = refl
never-partition (compound a_relation ts) = refl
never-partition (compound a_partition ts) = refl
never-partition (compound (a_record fs) ts) = refl

-- A partition literal is never Boolean.
pub partition_marked : (u : Option Ty) (us : Option (List Ty)) → u ≡ and_then us (type_of_op partition_literal) → false ≡ is_bool u
partition_marked u us = literal-mark partition_literal u us (λ ts. never-then partition_ty never-partition (join_all ts))

-- A matrix literal without an index domain is never Boolean.
pub list_marked : (u : Option Ty) (us : Option (List Ty)) → u ≡ and_then us (type_of_op matrix_literal) → false ≡ is_bool u
list_marked u us = literal-mark matrix_literal u us go
  where
    go : (ts : List Ty) → is_bool (type_of_list ts) ≡ false
    go [] = refl
    go (t ∷ ts) = never-two a_matrix int_ty (join_all (t ∷ ts))

-- A pair is a tuple.
pub pair_marked : (s t u : Option Ty) → u ≡ and_then (all_some (s ∷ t ∷ [])) (type_of_op tuple_literal) → false ≡ is_bool u
pair_marked s t u = tuple_marked u (all_some (s ∷ t ∷ []))

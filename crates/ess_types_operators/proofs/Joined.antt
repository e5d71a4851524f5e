-- The join of two types from those of their parts.
use Rattle.std.proofs.Common.{◌≡◌, refl, sym, ap, ◌∙◌, ℕ, zero, suc, ◌+◌, ◌<◌, ◌≤◌, true, false, eqb, if◌then◌else◌, List, [], ◌∷◌, ◌++◌, length, map, drop, get_or, Option, Some, None, option_map}
use Rattle.std.proofs.lemmas.Bool.{false≢true}
use Rattle.std.proofs.lemmas.List.{at_drop_more}
use Rattle.ess_semantics.specs.Lists.{and_then}
use Rattle.ess_semantics.specs.Values.{a_tuple, a_matrix, a_set, a_mset, a_function, a_relation, a_partition}
use Rattle.ess_semantics.specs.Order.{same_text}
use Rattle.ess_semantics.specs.Types as pure
use Rattle.ess_semantics.specs.Types.{Tys, compound, compound1, compound2, tys_of, join, joins, join_all}
use Rattle.ess_semantics.specs.OperatorTypes.{record_ty}
use Rattle.ess_core.specs.TypeViews.{pure_ty, pure_field_ty, pure_tys}
use Rattle.ess_core.specs.declared.types.Ty.{Ty}
use Rattle.ess_core.specs.declared.types.FieldTy.{FieldTy}
use Rattle.ess_core.specs.declared.types.Ty.TheViews.{out-FieldTy}
use Rattle.ess_core.specs.declared.types.Ty.TheVariants as variant
use Rattle.ess_core.proofs.TypeEquations.{pure_tuple, pure_rec, pure_matrix, pure_set, pure_mset, pure_function, pure_relation, pure_partition}
use Rattle.ess_types_operators.specs.Paired.{paired, ty_join, field_join, relation_parts}
use Rattle.ess_types_operators.proofs.Ahead.{ahead}
use Rattle.ess_types_operators.proofs.Paired.{each_more, each_none, each_short, each_long, each_all}
use Rattle.ess_types_operators.proofs.Joins.{one_joined, two_joined, many_joined, joins_paired, records_joined, relations_joined, mapped-twice}
use Rattle.ess_types_operators.proofs.Agreement.{field-views}

both-views : {t u v w : pure.Ty} → t ≡ v → u ≡ w → join t u ≡ join v w
both-views {t} {u} {v} {w} p q = ap (λ x. join x u) p ∙ ap (join v) q

pub sets_joined : (x y : Ty) → join (pure_ty (variant.Set x)) (pure_ty (variant.Set y)) ≡ option_map (compound1 a_set) (join (pure_ty x) (pure_ty y))
sets_joined x y = both-views (pure_set x) (pure_set y) ∙ one_joined a_set (pure_ty x) (pure_ty y)

pub msets_joined : (x y : Ty) → join (pure_ty (variant.MSet x)) (pure_ty (variant.MSet y)) ≡ option_map (compound1 a_mset) (join (pure_ty x) (pure_ty y))
msets_joined x y = both-views (pure_mset x) (pure_mset y) ∙ one_joined a_mset (pure_ty x) (pure_ty y)

pub partitions_joined : (x y : Ty) → join (pure_ty (variant.Partition x)) (pure_ty (variant.Partition y)) ≡ option_map (compound1 a_partition) (join (pure_ty x) (pure_ty y))
partitions_joined x y = both-views (pure_partition x) (pure_partition y) ∙ one_joined a_partition (pure_ty x) (pure_ty y)

pub matrices_joined : (x y z w : Ty) → join (pure_ty (variant.Matrix x y)) (pure_ty (variant.Matrix z w)) ≡ and_then (join (pure_ty x) (pure_ty z)) (λ i. option_map (compound2 a_matrix i) (join (pure_ty y) (pure_ty w)))
matrices_joined x y z w = both-views (pure_matrix x y) (pure_matrix z w) ∙ two_joined a_matrix (pure_ty x) (pure_ty y) (pure_ty z) (pure_ty w)

pub functions_joined : (x y z w : Ty) → join (pure_ty (variant.Function x y)) (pure_ty (variant.Function z w)) ≡ and_then (join (pure_ty x) (pure_ty z)) (λ i. option_map (compound2 a_function i) (join (pure_ty y) (pure_ty w)))
functions_joined x y z w = both-views (pure_function x y) (pure_function z w) ∙ two_joined a_function (pure_ty x) (pure_ty y) (pure_ty z) (pure_ty w)

pub tuples_joined : (xs ys : List Ty) → join (pure_ty (variant.Tuple xs)) (pure_ty (variant.Tuple ys)) ≡ option_map (λ ts. compound a_tuple (tys_of ts)) (paired ty_join xs ys)
tuples_joined xs ys =
    both-views (pure_tuple xs) (pure_tuple ys) ∙ many_joined a_tuple (pure_tys xs) (pure_tys ys) refl
    ∙ ap (option_map (compound a_tuple)) (joins_paired xs ys) ∙ mapped-twice (compound a_tuple) tys_of (paired ty_join xs ys)

pub recs_joined : (xs ys : List FieldTy) → join (pure_ty (variant.Rec xs)) (pure_ty (variant.Rec ys)) ≡ option_map record_ty (paired field_join xs ys)
recs_joined xs ys = both-views (pure_rec xs) (pure_rec ys) ∙ records_joined xs ys

pub rels_joined : (xs ys : List Ty) → join (pure_ty (variant.Relation xs)) (pure_ty (variant.Relation ys)) ≡ option_map (compound a_relation) (relation_parts xs ys)
rels_joined xs ys = both-views (pure_relation xs) (pure_relation ys) ∙ relations_joined xs ys

-- ---- relations

pub relations_each : (xs ys : List Ty) (o : Option (List Ty)) → eqb (length xs) 0 ≡ false → eqb (length ys) 0 ≡ false → option_map (map pure_ty) o ≡ paired ty_join xs ys → option_map pure_tys o ≡ relation_parts xs ys
relations_each [] ys o h k e = absurd (false≢true (sym h))
relations_each (x ∷ xs) [] o h k e = absurd (false≢true (sym k))
relations_each (x ∷ xs) (y ∷ ys) o h k e = sym (mapped-twice tys_of (map pure_ty) o) ∙ ap (option_map tys_of) e

-- ---- fields

pub fields_of_one_name : (x y : FieldTy) → same_text (out-FieldTy x).name (out-FieldTy y).name ≡ true
    → field_join x y ≡ option_map (λ v. ((out-FieldTy x).name, v)) (join (pure_ty (out-FieldTy x).ty) (pure_ty (out-FieldTy y).ty))
fields_of_one_name x y h =
    field-views x y ∙ ap (λ b. if b then option_map (λ v. ((out-FieldTy x).name, v)) (join (pure_ty (out-FieldTy x).ty) (pure_ty (out-FieldTy y).ty)) else None) h

-- ---- the loops over pairs

pub tys_more : (xs ys zs us : List Ty) (i : ℕ) (x y z : Ty) → i < length xs → i < length ys → x ≡ get_or xs i x → y ≡ get_or ys i y
    → Some (pure_ty z) ≡ join (pure_ty x) (pure_ty y) → us ≡ zs ++ z ∷ []
    → ahead (map pure_ty us) (paired ty_join (drop (i + 1) xs) (drop (i + 1) ys)) ≡ ahead (map pure_ty zs) (paired ty_join (drop i xs) (drop i ys))
tys_more = each_more ty_join pure_ty

pub tys_none : (xs ys zs : List Ty) (i : ℕ) (x y : Ty) → i < length xs → i < length ys → x ≡ get_or xs i x → y ≡ get_or ys i y → None ≡ join (pure_ty x) (pure_ty y)
    → ahead (map pure_ty zs) (paired ty_join (drop i xs) (drop i ys)) ≡ None
tys_none = each_none ty_join pure_ty

pub tys_short : (xs ys zs : List Ty) (i : ℕ) → i < length xs → length ys ≤ i → ahead (map pure_ty zs) (paired ty_join (drop i xs) (drop i ys)) ≡ None
tys_short = each_short ty_join pure_ty

pub tys_long : (xs ys zs : List Ty) (i : ℕ) → length xs ≤ i → i < length ys → ahead (map pure_ty zs) (paired ty_join (drop i xs) (drop i ys)) ≡ None
tys_long = each_long ty_join pure_ty

pub tys_all : (xs ys zs : List Ty) (i : ℕ) → length xs ≤ i → length ys ≤ i → ahead (map pure_ty zs) (paired ty_join (drop i xs) (drop i ys)) ≡ Some (map pure_ty zs)
tys_all = each_all ty_join pure_ty

pub fields_more : (xs ys zs us : List FieldTy) (i : ℕ) (x y z : FieldTy) → i < length xs → i < length ys → x ≡ get_or xs i x → y ≡ get_or ys i y
    → Some (pure_field_ty z) ≡ field_join x y → us ≡ zs ++ z ∷ []
    → ahead (map pure_field_ty us) (paired field_join (drop (i + 1) xs) (drop (i + 1) ys)) ≡ ahead (map pure_field_ty zs) (paired field_join (drop i xs) (drop i ys))
fields_more = each_more field_join pure_field_ty

pub fields_none : (xs ys zs : List FieldTy) (i : ℕ) (x y : FieldTy) → i < length xs → i < length ys → x ≡ get_or xs i x → y ≡ get_or ys i y → None ≡ field_join x y
    → ahead (map pure_field_ty zs) (paired field_join (drop i xs) (drop i ys)) ≡ None
fields_none = each_none field_join pure_field_ty

pub fields_short : (xs ys zs : List FieldTy) (i : ℕ) → i < length xs → length ys ≤ i → ahead (map pure_field_ty zs) (paired field_join (drop i xs) (drop i ys)) ≡ None
fields_short = each_short field_join pure_field_ty

pub fields_long : (xs ys zs : List FieldTy) (i : ℕ) → length xs ≤ i → i < length ys → ahead (map pure_field_ty zs) (paired field_join (drop i xs) (drop i ys)) ≡ None
fields_long = each_long field_join pure_field_ty

pub fields_all : (xs ys zs : List FieldTy) (i : ℕ) → length xs ≤ i → length ys ≤ i → ahead (map pure_field_ty zs) (paired field_join (drop i xs) (drop i ys)) ≡ Some (map pure_field_ty zs)
fields_all = each_all field_join pure_field_ty

-- ---- the join of all, from the last to the first

pub all_more : (xs : List Ty) (i : ℕ) (x j s : Ty) → i < length xs → x ≡ get_or xs i x → join_all (map pure_ty (drop (i + 1) xs)) ≡ Some (pure_ty j)
    → Some (pure_ty s) ≡ join (pure_ty x) (pure_ty j) → join_all (map pure_ty (drop i xs)) ≡ Some (pure_ty s)
all_more xs i x j s h is d e =
    at_drop_more (λ l. join_all (map pure_ty l)) xs i x h
    ∙ ap (λ o. and_then o (join (pure_ty (get_or xs i x)))) d
    ∙ ap (λ z. join (pure_ty z) (pure_ty j)) (sym is) ∙ sym e

none_before : (xs : List Ty) (i : ℕ) → join_all (map pure_ty (drop i xs)) ≡ None → join_all (map pure_ty xs) ≡ None
none_before xs zero e = e
none_before [] (suc i) e = e
none_before (x ∷ xs) (suc i) e = ap (λ o. and_then o (join (pure_ty x))) (none_before xs i e)

pub all_none : (xs : List Ty) (i : ℕ) (x j : Ty) → i < length xs → x ≡ get_or xs i x → join_all (map pure_ty (drop (i + 1) xs)) ≡ Some (pure_ty j)
    → None ≡ join (pure_ty x) (pure_ty j) → None ≡ join_all (map pure_ty xs)
all_none xs i x j h is d e =
    sym (none_before xs i
    (at_drop_more (λ l. join_all (map pure_ty l)) xs i x h
    ∙ ap (λ o. and_then o (join (pure_ty (get_or xs i x)))) d
    ∙ ap (λ z. join (pure_ty z) (pure_ty j)) (sym is) ∙ sym e))

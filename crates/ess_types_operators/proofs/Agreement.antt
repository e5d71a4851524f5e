-- Whether two compound types agree, by their parts.
use Rattle.std.proofs.Common.{◌≡◌, refl, sym, ap, ◌∙◌, ℕ, ◌+◌, ◌<◌, ◌≤◌, true, false, ◌&&◌, eqb, if◌then◌else◌, List, [], ◌∷◌, length, drop, get_or, Option, Some, None, option_map}
use Rattle.std.proofs.lemmas.Bool.{false≢true}
use Rattle.std.specs.Prelude.{is_some}
use Rattle.ess_semantics.specs.Lists.{and_then}
use Rattle.ess_semantics.specs.Values.{Kind, a_tuple, a_matrix, a_set, a_mset, a_function, a_relation, a_partition}
use Rattle.ess_semantics.specs.Types as pure
use Rattle.ess_semantics.specs.Types.{Tys, compound, compound1, compound2, tys_of, join, joins, is_relation}
use Rattle.ess_semantics.specs.OperatorTypes.{record_ty}
use Rattle.ess_core.specs.TypeViews.{pure_ty, pure_field_ty, pure_tys}
use Rattle.ess_core.specs.declared.types.Ty.{Ty}
use Rattle.ess_core.specs.declared.types.FieldTy.{FieldTy}
use Rattle.ess_core.specs.declared.types.Ty.TheVariants as variant
use Rattle.ess_semantics.specs.Order.{same_text}
use Rattle.ess_core.specs.declared.types.Ty.TheViews.{out-FieldTy}
use Rattle.ess_core.proofs.TypeEquations.{pure_field_ty_is, pure_tuple, pure_rec, pure_matrix, pure_set, pure_mset, pure_function, pure_relation, pure_partition}
use Rattle.ess_types_operators.specs.Paired.{paired, ty_join, named_join, field_join, relation_parts}
use Rattle.ess_types_operators.proofs.Paired.{some_mapped, test_more, test_none, test_short, test_long, test_all}
use Rattle.ess_types_operators.proofs.Joins.{one_joined, two_joined, many_joined, joins_paired, records_joined, relations_joined}

both-there : {A B C : Type 0} (f : A → B → C) (o : Option A) (p : Option B) → is_some (and_then o (λ a. option_map (f a) p)) ≡ is_some o && is_some p
both-there f None p = refl
both-there f (Some a) p = some_mapped (f a) p

both-views : {t u v w : pure.Ty} → t ≡ v → u ≡ w → is_some (join t u) ≡ is_some (join v w)
both-views {t} {u} {v} {w} p q = ap (λ x. is_some (join x u)) p ∙ ap (λ x. is_some (join v x)) q

one : (k : Kind) (x y : Ty) → is_some (join (compound1 k (pure_ty x)) (compound1 k (pure_ty y))) ≡ is_some (join (pure_ty x) (pure_ty y))
one k x y = ap is_some (one_joined k (pure_ty x) (pure_ty y)) ∙ some_mapped (compound1 k) (join (pure_ty x) (pure_ty y))

two : (k : Kind) (x y z w : Ty) → is_some (join (compound2 k (pure_ty x) (pure_ty y)) (compound2 k (pure_ty z) (pure_ty w))) ≡ is_some (join (pure_ty x) (pure_ty z)) && is_some (join (pure_ty y) (pure_ty w))
two k x y z w = ap is_some (two_joined k (pure_ty x) (pure_ty y) (pure_ty z) (pure_ty w)) ∙ both-there (λ a b. compound2 k a b) (join (pure_ty x) (pure_ty z)) (join (pure_ty y) (pure_ty w))

pub sets_agree : (x y : Ty) → is_some (join (pure_ty (variant.Set x)) (pure_ty (variant.Set y))) ≡ is_some (join (pure_ty x) (pure_ty y))
sets_agree x y = both-views (pure_set x) (pure_set y) ∙ one a_set x y

pub msets_agree : (x y : Ty) → is_some (join (pure_ty (variant.MSet x)) (pure_ty (variant.MSet y))) ≡ is_some (join (pure_ty x) (pure_ty y))
msets_agree x y = both-views (pure_mset x) (pure_mset y) ∙ one a_mset x y

pub partitions_agree : (x y : Ty) → is_some (join (pure_ty (variant.Partition x)) (pure_ty (variant.Partition y))) ≡ is_some (join (pure_ty x) (pure_ty y))
partitions_agree x y = both-views (pure_partition x) (pure_partition y) ∙ one a_partition x y

-- the first parts agree
pub matrices_agree : (x y z w : Ty) → is_some (join (pure_ty x) (pure_ty z)) ≡ true → is_some (join (pure_ty (variant.Matrix x y)) (pure_ty (variant.Matrix z w))) ≡ is_some (join (pure_ty y) (pure_ty w))
matrices_agree x y z w h = both-views (pure_matrix x y) (pure_matrix z w) ∙ two a_matrix x y z w ∙ ap (λ b. b && is_some (join (pure_ty y) (pure_ty w))) h

pub functions_agree : (x y z w : Ty) → is_some (join (pure_ty x) (pure_ty z)) ≡ true → is_some (join (pure_ty (variant.Function x y)) (pure_ty (variant.Function z w))) ≡ is_some (join (pure_ty y) (pure_ty w))
functions_agree x y z w h = both-views (pure_function x y) (pure_function z w) ∙ two a_function x y z w ∙ ap (λ b. b && is_some (join (pure_ty y) (pure_ty w))) h

-- they don't
pub matrices_differ : (x y z w : Ty) → is_some (join (pure_ty x) (pure_ty z)) ≡ false → is_some (join (pure_ty (variant.Matrix x y)) (pure_ty (variant.Matrix z w))) ≡ false
matrices_differ x y z w h = both-views (pure_matrix x y) (pure_matrix z w) ∙ two a_matrix x y z w ∙ ap (λ b. b && is_some (join (pure_ty y) (pure_ty w))) h

pub functions_differ : (x y z w : Ty) → is_some (join (pure_ty x) (pure_ty z)) ≡ false → is_some (join (pure_ty (variant.Function x y)) (pure_ty (variant.Function z w))) ≡ false
functions_differ x y z w h = both-views (pure_function x y) (pure_function z w) ∙ two a_function x y z w ∙ ap (λ b. b && is_some (join (pure_ty y) (pure_ty w))) h

pub tuples_agree : (xs ys : List Ty) → is_some (join (pure_ty (variant.Tuple xs)) (pure_ty (variant.Tuple ys))) ≡ is_some (joins (pure_tys xs) (pure_tys ys))
tuples_agree xs ys =
    both-views (pure_tuple xs) (pure_tuple ys) ∙ ap is_some (many_joined a_tuple (pure_tys xs) (pure_tys ys) refl)
    ∙ some_mapped (compound a_tuple) (joins (pure_tys xs) (pure_tys ys))

pub records_agree : (xs ys : List FieldTy) → is_some (join (pure_ty (variant.Rec xs)) (pure_ty (variant.Rec ys))) ≡ is_some (paired field_join xs ys)
records_agree xs ys = both-views (pure_rec xs) (pure_rec ys) ∙ ap is_some (records_joined xs ys) ∙ some_mapped record_ty (paired field_join xs ys)

pub relations_agree : (xs ys : List Ty) → is_some (join (pure_ty (variant.Relation xs)) (pure_ty (variant.Relation ys))) ≡ is_some (relation_parts xs ys)
relations_agree xs ys = both-views (pure_relation xs) (pure_relation ys) ∙ ap is_some (relations_joined xs ys) ∙ some_mapped (compound a_relation) (relation_parts xs ys)

pub lists_agree : (xs ys : List Ty) → is_some (joins (pure_tys xs) (pure_tys ys)) ≡ is_some (paired ty_join xs ys)
lists_agree xs ys = ap is_some (joins_paired xs ys) ∙ some_mapped tys_of (paired ty_join xs ys)

-- neither is of unknown arity
pub relations_each : (xs ys : List Ty) → eqb (length xs) 0 ≡ false → eqb (length ys) 0 ≡ false → is_some (relation_parts xs ys) ≡ is_some (joins (pure_tys xs) (pure_tys ys))
relations_each [] ys h k = absurd (false≢true (sym h))
relations_each (x ∷ xs) [] h k = absurd (false≢true (sym k))
relations_each (x ∷ xs) (y ∷ ys) h k = some_mapped tys_of (paired ty_join (x ∷ xs) (y ∷ ys)) ∙ sym (lists_agree (x ∷ xs) (y ∷ ys))

-- ---- fields

pub field-views : (x y : FieldTy) → field_join x y ≡ named_join ((out-FieldTy x).name, pure_ty (out-FieldTy x).ty) ((out-FieldTy y).name, pure_ty (out-FieldTy y).ty)
field-views x y = ap (λ f. named_join f (pure_field_ty y)) (pure_field_ty_is x) ∙ ap (named_join ((out-FieldTy x).name, pure_ty (out-FieldTy x).ty)) (pure_field_ty_is y)

-- fields of one name
pub same_fields : (x y : FieldTy) → same_text (out-FieldTy x).name (out-FieldTy y).name ≡ true → is_some (field_join x y) ≡ is_some (join (pure_ty (out-FieldTy x).ty) (pure_ty (out-FieldTy y).ty))
same_fields x y h =
    ap is_some (field-views x y ∙ ap (λ b. if b then option_map (λ v. ((out-FieldTy x).name, v)) (join (pure_ty (out-FieldTy x).ty) (pure_ty (out-FieldTy y).ty)) else None) h)
    ∙ some_mapped (λ v. ((out-FieldTy x).name, v)) (join (pure_ty (out-FieldTy x).ty) (pure_ty (out-FieldTy y).ty))

-- fields of two names
pub other_fields : (x y : FieldTy) → same_text (out-FieldTy x).name (out-FieldTy y).name ≡ false → field_join x y ≡ None
other_fields x y h = field-views x y ∙ ap (λ b. if b then option_map (λ v. ((out-FieldTy x).name, v)) (join (pure_ty (out-FieldTy x).ty) (pure_ty (out-FieldTy y).ty)) else None) h

-- ---- the loops over pairs

pub tys_more : (xs ys : List Ty) (i : ℕ) (x y : Ty) → i < length xs → i < length ys → x ≡ get_or xs i x → y ≡ get_or ys i y → is_some (join (pure_ty x) (pure_ty y)) ≡ true
    → is_some (paired ty_join (drop i xs) (drop i ys)) ≡ is_some (paired ty_join (drop (i + 1) xs) (drop (i + 1) ys))
tys_more = test_more ty_join

pub tys_none : (xs ys : List Ty) (i : ℕ) (x y : Ty) → i < length xs → i < length ys → x ≡ get_or xs i x → y ≡ get_or ys i y → is_some (join (pure_ty x) (pure_ty y)) ≡ false
    → is_some (paired ty_join (drop i xs) (drop i ys)) ≡ false
tys_none = test_none ty_join

pub tys_short : (xs ys : List Ty) (i : ℕ) → i < length xs → length ys ≤ i → is_some (paired ty_join (drop i xs) (drop i ys)) ≡ false
tys_short = test_short ty_join

pub tys_long : (xs ys : List Ty) (i : ℕ) → length xs ≤ i → i < length ys → is_some (paired ty_join (drop i xs) (drop i ys)) ≡ false
tys_long = test_long ty_join

pub tys_all : (xs ys : List Ty) (i : ℕ) → length xs ≤ i → length ys ≤ i → is_some (paired ty_join (drop i xs) (drop i ys)) ≡ true
tys_all = test_all ty_join

pub fields_more : (xs ys : List FieldTy) (i : ℕ) (x y : FieldTy) → i < length xs → i < length ys → x ≡ get_or xs i x → y ≡ get_or ys i y → is_some (field_join x y) ≡ true
    → is_some (paired field_join (drop i xs) (drop i ys)) ≡ is_some (paired field_join (drop (i + 1) xs) (drop (i + 1) ys))
fields_more = test_more field_join

pub fields_none : (xs ys : List FieldTy) (i : ℕ) (x y : FieldTy) → i < length xs → i < length ys → x ≡ get_or xs i x → y ≡ get_or ys i y → is_some (field_join x y) ≡ false
    → is_some (paired field_join (drop i xs) (drop i ys)) ≡ false
fields_none = test_none field_join

pub fields_short : (xs ys : List FieldTy) (i : ℕ) → i < length xs → length ys ≤ i → is_some (paired field_join (drop i xs) (drop i ys)) ≡ false
fields_short = test_short field_join

pub fields_long : (xs ys : List FieldTy) (i : ℕ) → length xs ≤ i → i < length ys → is_some (paired field_join (drop i xs) (drop i ys)) ≡ false
fields_long = test_long field_join

pub fields_all : (xs ys : List FieldTy) (i : ℕ) → length xs ≤ i → length ys ≤ i → is_some (paired field_join (drop i xs) (drop i ys)) ≡ true
fields_all = test_all field_join

-- The fields of records: names and types side by side.
use Rattle.std.proofs.Common.{◌≡◌, refl, sym, ap, ◌∙◌, ℕ, suc, ◌+◌, ◌<◌, ◌≤◌, List, [], ◌∷◌, ◌++◌, length, map, drop, get_or, arith}
use Rattle.std.proofs.lemmas.List.{at_drop_more, at_drop_all, map_push, append-nil, append_assoc}
use Rattle.ess_semantics.specs.Lists.{zip}
use Rattle.ess_semantics.specs.Values.{Text, a_record}
use Rattle.ess_semantics.specs.Names.{Names, keys}
use Rattle.ess_semantics.specs.Types as pure
use Rattle.ess_semantics.specs.Types.{compound, tys_of, more_tys}
use Rattle.ess_semantics.specs.OperatorTypes.{record_ty}
use Rattle.ess_core.specs.TypeViews.{pure_ty, pure_tys, pure_field_ty}
use Rattle.ess_core.specs.declared.types.Ty.{Ty}
use Rattle.ess_core.specs.declared.types.FieldTy.{FieldTy}
use Rattle.ess_core.specs.declared.types.Ty.TheVariants as variant
use Rattle.ess_core.proofs.TypeEquations.{pure_rec}

-- ---- as many names as types

names-kept : (ns : List Text) (ts : List Ty) → length ns ≡ length ts → keys (zip ns (map pure_ty ts)) ≡ ns
names-kept [] ts h = refl
names-kept (n ∷ ns) [] h = absurd (omega (arith, h))
names-kept (n ∷ ns) (t ∷ ts) h = ap (λ l. n ∷ l) (names-kept ns ts (omega (arith, h)))

types-kept : (ns : List Text) (ts : List Ty) → length ns ≡ length ts
    → tys_of (map {A = Text × pure.Ty} (λ f. f.1) (zip ns (map pure_ty ts))) ≡ pure_tys ts
types-kept [] [] h = refl
types-kept [] (t ∷ ts) h = absurd (omega (arith, h))
types-kept (n ∷ ns) [] h = absurd (omega (arith, h))
types-kept (n ∷ ns) (t ∷ ts) h = ap (more_tys (pure_ty t)) (types-kept ns ts (omega (arith, h)))

-- The type of records with these fields.
pub as_many : (ns : List Text) (ts : List Ty) (fs : List FieldTy) → length ns ≡ length ts → map pure_field_ty fs ≡ zip ns (map pure_ty ts)
    → pure_ty (variant.Rec fs) ≡ compound (a_record ns) (pure_tys ts)
as_many ns ts fs h e =
    pure_rec fs ∙ ap record_ty e
    ∙ ap (λ l. compound (a_record l) (tys_of (map {A = Text × pure.Ty} (λ f. f.1) (zip ns (map pure_ty ts))))) (names-kept ns ts h)
    ∙ ap (compound (a_record ns)) (types-kept ns ts h)

-- ---- one field after the other

left : (ns : List Text) (ts : List Ty) (i : ℕ) (n : Text) (t : Ty) → i < length ns → i < length ts → n ≡ get_or ns i n → t ≡ get_or ts i t
    → zip (drop i ns) (map pure_ty (drop i ts)) ≡ (n, pure_ty t) ∷ zip (drop (i + 1) ns) (map pure_ty (drop (i + 1) ts))
left ns ts i n t h k is it =
    at_drop_more (λ l. zip l (map pure_ty (drop i ts))) ns i n h
    ∙ at_drop_more (λ l. zip (get_or ns i n ∷ drop (i + 1) ns) (map pure_ty l)) ts i t k
    ∙ ap (λ m. (m, pure_ty (get_or ts i t)) ∷ zip (drop (i + 1) ns) (map pure_ty (drop (i + 1) ts))) (sym is)
    ∙ ap (λ u. (n, pure_ty u) ∷ zip (drop (i + 1) ns) (map pure_ty (drop (i + 1) ts))) (sym it)

pub zip_more : (ns : List Text) (ts : List Ty) (xs ys : List FieldTy) (i : ℕ) (n : Text) (t : Ty) (x : FieldTy)
    → i < length ns → i < length ts → n ≡ get_or ns i n → t ≡ get_or ts i t → pure_field_ty x ≡ (n, pure_ty t) → ys ≡ xs ++ x ∷ []
    → map pure_field_ty ys ++ zip (drop (i + 1) ns) (map pure_ty (drop (i + 1) ts))
    ≡ map pure_field_ty xs ++ zip (drop i ns) (map pure_ty (drop i ts))
zip_more ns ts xs ys i n t x h k is it e p =
    ap (λ l. map pure_field_ty l ++ zip (drop (i + 1) ns) (map pure_ty (drop (i + 1) ts))) p
    ∙ ap (λ l. l ++ zip (drop (i + 1) ns) (map pure_ty (drop (i + 1) ts))) (map_push pure_field_ty xs x)
    ∙ append_assoc (map pure_field_ty xs) (pure_field_ty x ∷ []) (zip (drop (i + 1) ns) (map pure_ty (drop (i + 1) ts)))
    ∙ ap (λ g. map pure_field_ty xs ++ (g ∷ zip (drop (i + 1) ns) (map pure_ty (drop (i + 1) ts)))) e
    ∙ ap (λ l. map pure_field_ty xs ++ l) (sym (left ns ts i n t h k is it))

none-right : (ns : List Text) → zip {A = Text} {B = pure.Ty} ns [] ≡ []
none-right [] = refl
none-right (n ∷ ns) = refl

pub zip_short : (ns : List Text) (ts : List Ty) (xs : List FieldTy) (i : ℕ) → length ts ≤ i
    → map pure_field_ty xs ++ zip (drop i ns) (map pure_ty (drop i ts)) ≡ map pure_field_ty xs
zip_short ns ts xs i k =
    at_drop_all (λ l. map pure_field_ty xs ++ zip (drop i ns) (map pure_ty l)) ts i k
    ∙ ap (λ l. map pure_field_ty xs ++ l) (none-right (drop i ns)) ∙ append-nil (map pure_field_ty xs)

pub zip_all : (ns : List Text) (ts : List Ty) (xs : List FieldTy) (i : ℕ) → length ns ≤ i
    → map pure_field_ty xs ++ zip (drop i ns) (map pure_ty (drop i ts)) ≡ map pure_field_ty xs
zip_all ns ts xs i k = at_drop_all (λ l. map pure_field_ty xs ++ zip l (map pure_ty (drop i ts))) ns i k ∙ append-nil (map pure_field_ty xs)

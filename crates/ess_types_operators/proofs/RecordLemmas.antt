-- The fields of a record literal's type, in the order of their names.
use Rattle.std.proofs.Common.{◌≡◌, refl, sym, ap, ◌∙◌, ℕ, suc, ◌+◌, ◌<◌, ◌≤◌, List, [], ◌∷◌, ◌++◌, length, map, drop, get_or, arith}
use Rattle.std.specs.Prelude.{◌≢◌}
use Rattle.std.specs.List.{insert}
use Rattle.std.proofs.lemmas.List.{at_drop_more, at_drop_all, map_push, append-nil, append_assoc}
use Rattle.std.specs.declared.cmp.Ordering.{Ordering}
use Rattle.std.specs.declared.cmp.Ordering.TheVariants.{Less, Equal, Greater}
use Rattle.ess_semantics.specs.Lists.{zip}
use Rattle.ess_semantics.specs.Values.{Text}
use Rattle.ess_semantics.specs.Order.{order_text}
use Rattle.ess_semantics.specs.Names.{Names, keys, by_name, insert_name, insert_by}
use Rattle.ess_semantics.specs.Types as pure
use Rattle.ess_core.specs.TypeViews.{pure_ty, pure_field_ty}
use Rattle.ess_core.specs.TreeViews.{pure_field_ex}
use Rattle.ess_core.specs.declared.types.Ty.{Ty}
use Rattle.ess_core.specs.declared.types.FieldTy.{FieldTy}
use Rattle.ess_core.specs.declared.types.Ty.TheViews.{out-FieldTy}
use Rattle.ess_core.specs.declared.expressions.FieldEx.{FieldEx}
use Rattle.ess_core.specs.declared.domains.Dom.TheViews.{out-FieldEx}
use Rattle.ess_core.proofs.TypeEquations.{pure_field_ty_is}
use Rattle.ess_core.proofs.PartEquations.{pure_field_ex_is}
use Rattle.ess_types_operators.specs.Places.{place_in, place_by}

-- ---- names and types side by side

-- What is left of both.
abbrev zipped : List FieldEx → List Ty → Names pure.Ty
zipped fs ts = zip (keys (map pure_field_ex fs)) (map pure_ty ts)

left : (fs : List FieldEx) (ts : List Ty) (i : ℕ) (f : FieldEx) (t : Ty) → i < length fs → i < length ts → f ≡ get_or fs i f → t ≡ get_or ts i t
    → zipped (drop i fs) (drop i ts) ≡ ((out-FieldEx f).name, pure_ty t) ∷ zipped (drop (i + 1) fs) (drop (i + 1) ts)
left fs ts i f t h k is it =
    at_drop_more (λ l. zipped l (drop i ts)) fs i f h ∙ at_drop_more (λ l. zipped (get_or fs i f ∷ drop (i + 1) fs) l) ts i t k
    ∙ ap (λ g. ((pure_field_ex g).0, pure_ty (get_or ts i t)) ∷ zipped (drop (i + 1) fs) (drop (i + 1) ts)) (sym is)
    ∙ ap (λ u. ((pure_field_ex f).0, pure_ty u) ∷ zipped (drop (i + 1) fs) (drop (i + 1) ts)) (sym it)
    ∙ ap (λ p. (p.0, pure_ty t) ∷ zipped (drop (i + 1) fs) (drop (i + 1) ts)) (pure_field_ex_is f)

pub zip_more : (fs : List FieldEx) (ts : List Ty) (xs ys : List FieldTy) (i : ℕ) (f : FieldEx) (t : Ty) (x : FieldTy) → i < length fs → i < length ts → f ≡ get_or fs i f → t ≡ get_or ts i t
    → pure_field_ty x ≡ ((out-FieldEx f).name, pure_ty t) → ys ≡ xs ++ x ∷ []
    → map pure_field_ty ys ++ zip (keys (map pure_field_ex (drop (i + 1) fs))) (map pure_ty (drop (i + 1) ts)) ≡ map pure_field_ty xs ++ zip (keys (map pure_field_ex (drop i fs))) (map pure_ty (drop i ts))
zip_more fs ts xs ys i f t x h k is it e p =
    ap (λ l. map pure_field_ty l ++ zipped (drop (i + 1) fs) (drop (i + 1) ts)) p
    ∙ ap (λ l. l ++ zipped (drop (i + 1) fs) (drop (i + 1) ts)) (map_push pure_field_ty xs x)
    ∙ append_assoc (map pure_field_ty xs) (pure_field_ty x ∷ []) (zipped (drop (i + 1) fs) (drop (i + 1) ts))
    ∙ ap (λ g. map pure_field_ty xs ++ (g ∷ zipped (drop (i + 1) fs) (drop (i + 1) ts))) e
    ∙ ap (λ l. map pure_field_ty xs ++ l) (sym (left fs ts i f t h k is it))

none-right : (ns : List Text) → zip {A = Text} {B = pure.Ty} ns [] ≡ []
none-right [] = refl
none-right (n ∷ ns) = refl

pub zip_short : (fs : List FieldEx) (ts : List Ty) (xs : List FieldTy) (i : ℕ) → length ts ≤ i → map pure_field_ty xs ++ zip (keys (map pure_field_ex (drop i fs))) (map pure_ty (drop i ts)) ≡ map pure_field_ty xs
zip_short fs ts xs i k =
    at_drop_all (λ l. map pure_field_ty xs ++ zipped (drop i fs) l) ts i k
    ∙ ap (λ l. map pure_field_ty xs ++ l) (none-right (keys (map pure_field_ex (drop i fs)))) ∙ append-nil (map pure_field_ty xs)

pub zip_all : (fs : List FieldEx) (ts : List Ty) (xs : List FieldTy) (i : ℕ) → length fs ≤ i → map pure_field_ty xs ++ zip (keys (map pure_field_ex (drop i fs))) (map pure_ty (drop i ts)) ≡ map pure_field_ty xs
zip_all fs ts xs i k = at_drop_all (λ l. map pure_field_ty xs ++ zipped l (drop i ts)) fs i k ∙ append-nil (map pure_field_ty xs)

-- ---- sorting by insertion, from the last to the first

-- Entries put into a map that is sorted by name, from the last to the first.
abbrev pub all_inserted : {A : Type 0} → Names A → Names A → Names A
all_inserted [] cs = cs
all_inserted (b ∷ bs) cs = insert_name b (all_inserted bs cs)

pub all_by_name : {A : Type 0} (bs : Names A) → all_inserted bs [] ≡ by_name bs
all_by_name [] = refl
all_by_name (b ∷ bs) = ap (insert_name b) (all_by_name bs)

pub one_inserted : (old new sorted put : List FieldTy) (f : FieldTy) → old ≡ new ++ f ∷ [] → map pure_field_ty put ≡ insert_name (pure_field_ty f) (map pure_field_ty sorted)
    → all_inserted (map pure_field_ty new) (map pure_field_ty put) ≡ all_inserted (map pure_field_ty old) (map pure_field_ty sorted)
one_inserted old new sorted put f e p = ap (all_inserted (map pure_field_ty new)) p ∙ last new ∙ ap (λ l. all_inserted (map pure_field_ty l) (map pure_field_ty sorted)) (sym e)
  where
    last : (fs : List FieldTy) → all_inserted (map pure_field_ty fs) (insert_name (pure_field_ty f) (map pure_field_ty sorted)) ≡ all_inserted (map pure_field_ty (fs ++ f ∷ [])) (map pure_field_ty sorted)
    last [] = refl
    last (g ∷ fs) = ap (insert_name (pure_field_ty g)) (last fs)

-- ---- the place of a field

pub place_within : (n : Text) (fs : List FieldTy) → place_in n (map pure_field_ty fs) ≤ length fs
place_within n [] = omega arith
place_within n (f ∷ fs) = go (order_text n (pure_field_ty f).0) (place_within n fs)
  where
    go : (o : Ordering) → place_in n (map pure_field_ty fs) ≤ length fs → place_by o (place_in n (map pure_field_ty fs)) ≤ suc (length fs)
    go Less h = omega arith
    go Equal h = omega arith
    go Greater h = omega (arith, h)

name-of : (f : FieldTy) → (pure_field_ty f).0 ≡ (out-FieldTy f).name
name-of f = ap (λ p. p.0) (pure_field_ty_is f)

pub field_inserted : (f : FieldTy) (fs : List FieldTy) → map pure_field_ty (insert fs (place_in (out-FieldTy f).name (map pure_field_ty fs)) f) ≡ insert_name (pure_field_ty f) (map pure_field_ty fs)
field_inserted f fs = ap (λ n. map pure_field_ty (insert fs (place_in n (map pure_field_ty fs)) f)) (sym (name-of f)) ∙ at fs
  where
    go : (g : FieldTy) (fs : List FieldTy) (o : Ordering) → map pure_field_ty (insert fs (place_in (pure_field_ty f).0 (map pure_field_ty fs)) f) ≡ insert_name (pure_field_ty f) (map pure_field_ty fs)
        → map pure_field_ty (insert (g ∷ fs) (place_by o (place_in (pure_field_ty f).0 (map pure_field_ty fs))) f) ≡ insert_by o (pure_field_ty f) (pure_field_ty g) (map pure_field_ty fs) (insert_name (pure_field_ty f) (map pure_field_ty fs))
    go g fs Less h = refl
    go g fs Equal h = refl
    go g fs Greater h = ap (λ l. pure_field_ty g ∷ l) h

    at : (fs : List FieldTy) → map pure_field_ty (insert fs (place_in (pure_field_ty f).0 (map pure_field_ty fs)) f) ≡ insert_name (pure_field_ty f) (map pure_field_ty fs)
    at [] = refl
    at (g ∷ fs) = go g fs (order_text (pure_field_ty f).0 (pure_field_ty g).0) (at fs)

place-left : (n : Text) (fs : List FieldTy) (i : ℕ) (f : FieldTy) → i < length fs → f ≡ get_or fs i f
    → place_in n (map pure_field_ty (drop i fs)) ≡ place_by (order_text n (out-FieldTy f).name) (place_in n (map pure_field_ty (drop (i + 1) fs)))
place-left n fs i f h is =
    at_drop_more (λ l. place_in n (map pure_field_ty l)) fs i f h ∙ ap (λ g. place_in n (map pure_field_ty (g ∷ drop (i + 1) fs))) (sym is)
    ∙ ap (λ m. place_by (order_text n m) (place_in n (map pure_field_ty (drop (i + 1) fs)))) (name-of f)

pub place_more : (n : Text) (fs : List FieldTy) (i : ℕ) (f : FieldTy) → i < length fs → f ≡ get_or fs i f → order_text n (out-FieldTy f).name ≡ Greater
    → i + place_in n (map pure_field_ty (drop i fs)) ≡ (i + 1) + place_in n (map pure_field_ty (drop (i + 1) fs))
place_more n fs i f h is e = ap (λ k. i + k) (place-left n fs i f h is ∙ ap (λ o. place_by o (place_in n (map pure_field_ty (drop (i + 1) fs)))) e) ∙ omega arith

pub place_found : (n : Text) (fs : List FieldTy) (i : ℕ) (f : FieldTy) → i < length fs → f ≡ get_or fs i f → order_text n (out-FieldTy f).name ≢ Greater → place_in n (map pure_field_ty (drop i fs)) ≡ 0
place_found n fs i f h is e = place-left n fs i f h is ∙ go (order_text n (out-FieldTy f).name) e
  where
    go : (o : Ordering) → o ≢ Greater → place_by o (place_in n (map pure_field_ty (drop (i + 1) fs))) ≡ 0
    go Less e = refl
    go Equal e = refl
    go Greater e = absurd (e refl)

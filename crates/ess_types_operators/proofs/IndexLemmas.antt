-- The types that the steps of an index reach.
use Rattle.std.proofs.Common.{pos, ◌≡◌, refl, sym, ap, ◌∙◌, ℕ, zero, suc, ◌+◌, ◌-◌, ◌<◌, ◌≤◌, true, false, eqb, if◌then◌else◌, List, [], ◌∷◌, length, map, drop, get_or, Option, Some, None, option_map, arith}
use Rattle.std.proofs.lemmas.List.{at_drop_more}
use Rattle.std.proofs.lemmas.Bool.{false≢true}
use Rattle.ess_semantics.specs.Lists.{and_then}
use Rattle.ess_semantics.specs.Values.{Text, a_tuple, a_matrix, a_record}
use Rattle.ess_semantics.specs.Order.{same_text}
use Rattle.ess_semantics.specs.Names.{keys}
use Rattle.ess_semantics.specs.Trees.{number_ex}
use Rattle.ess_semantics.specs.Types as pure
use Rattle.ess_semantics.specs.Types.{any_ty, compound, compound2, tys_of, fit}
use Rattle.ess_semantics.specs.Typing.{Static, a_number, a_name, other, static, step_ty, component_ty}
use Rattle.ess_core.specs.TypeViews.{pure_ty, pure_tys, pure_field_ty}
use Rattle.ess_core.specs.declared.types.Ty.{Ty}
use Rattle.ess_core.specs.declared.types.FieldTy.{FieldTy}
use Rattle.ess_core.specs.declared.types.Ty.TheViews.{out-FieldTy}
use Rattle.ess_core.specs.declared.types.Ty.TheVariants as variant
use Rattle.ess_core.proofs.TypeEquations.{pure_any, pure_tuple, pure_rec, pure_matrix, pure_field_ty_is}
use Rattle.ess_types_operators.specs.Steps.{number_of, name_of, field_in}

-- ---- places

pub matrix_steps : (i e : Ty) (s : Static) (t : Option pure.Ty) → step_ty (pure_ty (variant.Matrix i e)) s t ≡ and_then t (λ u. fit (pure_ty i) u (pure_ty e))
matrix_steps i e s t = ap (λ p. step_ty p s t) (pure_matrix i e) ∙ go t
  where
    go : (t : Option pure.Ty) → step_ty (compound2 a_matrix (pure_ty i) (pure_ty e)) s t ≡ and_then t (λ u. fit (pure_ty i) u (pure_ty e))
    go None = refl
    go (Some u) = refl

pub tuple_steps : (ts : List Ty) (s : Static) (t : Option pure.Ty) → step_ty (pure_ty (variant.Tuple ts)) s t ≡ and_then (number_of s) (component_ty (pure_tys ts))
tuple_steps ts s t = ap (λ p. step_ty p s t) (pure_tuple ts) ∙ go s
  where
    go : (s : Static) → step_ty (compound a_tuple (pure_tys ts)) s t ≡ and_then (number_of s) (component_ty (pure_tys ts))
    go (a_number n) = refl
    go (a_name a) = refl
    go other = refl

pub record_steps : (fs : List FieldTy) (s : Static) (t : Option pure.Ty) → step_ty (pure_ty (variant.Rec fs)) s t ≡ and_then (name_of s) (field_in (map pure_field_ty fs))
record_steps fs s t = ap (λ p. step_ty p s t) (pure_rec fs) ∙ go s
  where
    go : (s : Static) → step_ty (compound (a_record (keys (map pure_field_ty fs))) (tys_of (map {A = Text × pure.Ty} (λ f. f.1) (map pure_field_ty fs)))) s t ≡ and_then (name_of s) (field_in (map pure_field_ty fs))
    go (a_number n) = refl
    go (a_name a) = refl
    go other = refl

pub any_steps : (s : Static) (t : Option pure.Ty) → step_ty (pure_ty variant.Any) s t ≡ option_map (λ u. any_ty) t
any_steps s t = ap (λ p. step_ty p s t) pure_any ∙ go t
  where
    go : (t : Option pure.Ty) → step_ty any_ty s t ≡ option_map (λ u. any_ty) t
    go None = refl
    go (Some u) = refl

-- ---- what an index says

pub number_says : (k : ℕ) → number_of (static (number_ex (pos k))) ≡ Some k
number_says k = refl

-- ---- components

pub component_none : (ts : List Ty) → component_ty (pure_tys ts) 0 ≡ None
component_none [] = refl
component_none (t ∷ ts) = refl

after : (ts : List Ty) (k : ℕ) (t : Ty) → k < length ts → t ≡ get_or ts k t → component_ty (pure_tys ts) (suc k) ≡ Some (pure_ty t)
after [] k t h is = absurd (omega (arith, h))
after (x ∷ ts) zero t h is = ap (λ u. Some (pure_ty u)) (sym is)
after (x ∷ ts) (suc k) t h is = after ts k t (omega (arith, h)) is

past : (ts : List Ty) (k : ℕ) → length ts ≤ k → component_ty (pure_tys ts) (suc k) ≡ None
past [] k h = refl
past (x ∷ ts) zero h = absurd (omega (arith, h))
past (x ∷ ts) (suc k) h = past ts k (omega (arith, h))

back : (k : ℕ) → suc k - 1 ≡ k
back k = omega arith

pub component_there : (ts : List Ty) (n : ℕ) (t : Ty) → eqb n 0 ≡ false → n - 1 < length ts → t ≡ get_or ts (n - 1) t → component_ty (pure_tys ts) n ≡ Some (pure_ty t)
component_there ts zero t e h is = absurd (false≢true (sym e))
component_there ts (suc k) t e h is = after ts k t (omega (arith, h)) (is ∙ ap (λ j. get_or ts j t) (back k))

pub component_past : (ts : List Ty) (n : ℕ) → eqb n 0 ≡ false → length ts ≤ n - 1 → component_ty (pure_tys ts) n ≡ None
component_past ts zero e h = absurd (false≢true (sym e))
component_past ts (suc k) e h = past ts k (omega (arith, h))

-- ---- fields

field-first : (f : FieldTy) (fs : List FieldTy) (a : Text) → field_in (map pure_field_ty (f ∷ fs)) a ≡ (if same_text (out-FieldTy f).name a then Some (pure_ty (out-FieldTy f).ty) else field_in (map pure_field_ty fs) a)
field-first f fs a = ap (λ p. if same_text p.0 a then Some p.1 else field_in (map pure_field_ty fs) a) (pure_field_ty_is f)

left : (fs : List FieldTy) (i : ℕ) (f : FieldTy) (a : Text) → i < length fs → f ≡ get_or fs i f
    → field_in (map pure_field_ty (drop i fs)) a ≡ (if same_text (out-FieldTy f).name a then Some (pure_ty (out-FieldTy f).ty) else field_in (map pure_field_ty (drop (i + 1) fs)) a)
left fs i f a h is =
    at_drop_more (λ l. field_in (map pure_field_ty l) a) fs i f h ∙ ap (λ g. field_in (map pure_field_ty (g ∷ drop (i + 1) fs)) a) (sym is) ∙ field-first f (drop (i + 1) fs) a

pub field_found : (fs : List FieldTy) (i : ℕ) (f : FieldTy) (a : Text) → i < length fs → f ≡ get_or fs i f → same_text (out-FieldTy f).name a ≡ true
    → field_in (map pure_field_ty (drop i fs)) a ≡ Some (pure_ty (out-FieldTy f).ty)
field_found fs i f a h is e = left fs i f a h is ∙ ap (λ b. if b then Some (pure_ty (out-FieldTy f).ty) else field_in (map pure_field_ty (drop (i + 1) fs)) a) e

pub field_next : (fs : List FieldTy) (i : ℕ) (f : FieldTy) (a : Text) → i < length fs → f ≡ get_or fs i f → same_text (out-FieldTy f).name a ≡ false
    → field_in (map pure_field_ty (drop i fs)) a ≡ field_in (map pure_field_ty (drop (i + 1) fs)) a
field_next fs i f a h is e = left fs i f a h is ∙ ap (λ b. if b then Some (pure_ty (out-FieldTy f).ty) else field_in (map pure_field_ty (drop (i + 1) fs)) a) e

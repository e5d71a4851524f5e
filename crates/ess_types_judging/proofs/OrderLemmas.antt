-- Types whose values have an order.
use Rattle.std.proofs.Common.{◌≡◌, refl, sym, ap, ◌∙◌, ℕ, ◌+◌, ◌<◌, ◌≤◌, Bool, true, false, ◌&&◌, List, ◌∷◌, map, drop, length, get_or}
use Rattle.std.specs.List.{list_all}
use Rattle.std.proofs.lemmas.List.{at_drop_more, at_drop_all}
use Rattle.ess_semantics.specs.Values.{a_matrix, a_set, a_mset}
use Rattle.ess_semantics.specs.Types as pure
use Rattle.ess_semantics.specs.Types.{any_ty, bool_ty, int_ty, named_ty, compound, compound1, compound2}
use Rattle.ess_semantics.specs.Scopes.{Scope}
use Rattle.ess_semantics.specs.ExpressionJudgements.{is_ordered_ty}
use Rattle.ess_core.specs.TypeViews.{pure_ty}
use Rattle.ess_core.specs.declared.types.Ty.{Ty}
use Rattle.ess_core.specs.declared.types.Ty.TheVariants as variant
use Rattle.ess_core.proofs.TypeEquations.{pure_matrix, pure_set, pure_mset}
use Rattle.ess_types_judging.specs.Ordered.{is_ordered_item}

matrix-items : (i t : pure.Ty) (s : Scope) → is_ordered_ty (compound2 a_matrix i t) s ≡ is_ordered_item t s
matrix-items i any_ty s = refl
matrix-items i bool_ty s = refl
matrix-items i int_ty s = refl
matrix-items i (named_ty a) s = refl
matrix-items i (compound k ts) s = refl

set-members : (t : pure.Ty) (s : Scope) → is_ordered_ty (compound1 a_set t) s ≡ is_ordered_item t s
set-members any_ty s = refl
set-members bool_ty s = refl
set-members int_ty s = refl
set-members (named_ty a) s = refl
set-members (compound k ts) s = refl

mset-members : (t : pure.Ty) (s : Scope) → is_ordered_ty (compound1 a_mset t) s ≡ is_ordered_item t s
mset-members any_ty s = refl
mset-members bool_ty s = refl
mset-members int_ty s = refl
mset-members (named_ty a) s = refl
mset-members (compound k ts) s = refl

pub matrix_items : (i t : Ty) (s : Scope) → is_ordered_ty (pure_ty (variant.Matrix i t)) s ≡ is_ordered_item (pure_ty t) s
matrix_items i t s = ap (λ u. is_ordered_ty u s) (pure_matrix i t) ∙ matrix-items (pure_ty i) (pure_ty t) s

pub set_members : (t : Ty) (s : Scope) → is_ordered_ty (pure_ty (variant.Set t)) s ≡ is_ordered_item (pure_ty t) s
set_members t s = ap (λ u. is_ordered_ty u s) (pure_set t) ∙ set-members (pure_ty t) s

pub mset_members : (t : Ty) (s : Scope) → is_ordered_ty (pure_ty (variant.MSet t)) s ≡ is_ordered_item (pure_ty t) s
mset_members t s = ap (λ u. is_ordered_ty u s) (pure_mset t) ∙ mset-members (pure_ty t) s

-- Whether each of the types has an order.
abbrev pub ordered : List Ty → Scope → Bool
ordered ts s = list_all (λ u. is_ordered_ty u s) (map pure_ty ts)

ordered-first : (ts : List Ty) (s : Scope) (i : ℕ) (t : Ty) → i < length ts → t ≡ get_or ts i t →
    ordered (drop i ts) s ≡ is_ordered_ty (pure_ty t) s && ordered (drop (i + 1) ts) s
ordered-first ts s i t h is = at_drop_more (λ l. ordered l s) ts i t h ∙ ap (λ u. ordered (u ∷ drop (i + 1) ts) s) (sym is)

pub ordered_more : (ts : List Ty) (s : Scope) (i : ℕ) (t : Ty) → i < length ts → t ≡ get_or ts i t → is_ordered_ty (pure_ty t) s ≡ true →
    ordered (drop i ts) s ≡ ordered (drop (i + 1) ts) s
ordered_more ts s i t h is e = ordered-first ts s i t h is ∙ ap (λ b. b && ordered (drop (i + 1) ts) s) e

pub ordered_none : (ts : List Ty) (s : Scope) (i : ℕ) (t : Ty) → i < length ts → t ≡ get_or ts i t → is_ordered_ty (pure_ty t) s ≡ false →
    ordered (drop i ts) s ≡ false
ordered_none ts s i t h is e = ordered-first ts s i t h is ∙ ap (λ b. b && ordered (drop (i + 1) ts) s) e

pub ordered_all : (ts : List Ty) (s : Scope) (i : ℕ) → length ts ≤ i → ordered (drop i ts) s ≡ true
ordered_all ts s i h = at_drop_all (λ l. ordered l s) ts i h

-- Patterns at types, part by part.
use Rattle.std.proofs.Common.{◌≡◌, refl, sym, ap, ◌∙◌, ℕ, zero, suc, ◌+◌, ◌<◌, ◌≤◌, Bool, true, false, ◌&&◌, List, [], ◌∷◌, ◌++◌, length, map, drop, get_or, Some, None, arith}
use Rattle.std.specs.Prelude.{reverse}
use mathlib.Core.List.{reverse_aux}
use Rattle.std.proofs.lemmas.List.{at_drop_more, at_drop_all, map_push}
use Rattle.ess_semantics.specs.Names.{Names}
use Rattle.ess_semantics.specs.Trees.{no_pats}
use Rattle.ess_semantics.specs.Types as pure
use Rattle.ess_semantics.specs.Types.{Tys, any_ty, no_tys, more_tys, tys_of, bind_types, bind_all_types}
use Rattle.ess_semantics.specs.ExpressionJudgements.{pattern_fits, patterns_fit}
use Rattle.ess_core.specs.TypeViews.{pure_ty, pure_tys, pure_field_ty}
use Rattle.ess_core.specs.TreeViews.{pure_pat, pats_of}
use Rattle.ess_core.specs.declared.types.Ty.{Ty}
use Rattle.ess_core.specs.declared.types.FieldTy.{FieldTy}
use Rattle.ess_core.specs.declared.types.Ty.TheViews.{out-FieldTy}
use Rattle.ess_core.specs.declared.expressions.Pat.{Pat}
use Rattle.ess_core.proofs.TypeEquations.{pure_field_ty_is}
use Rattle.ess_types_operators.specs.Parts.{ty_at, tys_from, types_in, newest_first}

-- ---- whether patterns fit

-- Whether what is left of the patterns fits what is left of the types.
abbrev rest-fits : ℕ → List Pat → List Ty → Bool
rest-fits i ps ts = patterns_fit (pats_of (map pure_pat (drop i ps))) (pure_tys (drop i ts))

rest-more : (ps : List Pat) (ts : List Ty) (i : ℕ) (p : Pat) (t : Ty) → i < length ps → i < length ts → p ≡ get_or ps i p → t ≡ get_or ts i t
    → rest-fits i ps ts ≡ pattern_fits (pure_pat p) (pure_ty t) && rest-fits (i + 1) ps ts
rest-more ps ts i p t h k is it =
    at_drop_more (λ l. patterns_fit (pats_of (map pure_pat l)) (pure_tys (drop i ts))) ps i p h
    ∙ at_drop_more (λ l. patterns_fit (pats_of (map pure_pat (get_or ps i p ∷ drop (i + 1) ps))) (pure_tys l)) ts i t k
    ∙ ap (λ q. pattern_fits (pure_pat q) (pure_ty (get_or ts i t)) && rest-fits (i + 1) ps ts) (sym is)
    ∙ ap (λ u. pattern_fits (pure_pat p) (pure_ty u) && rest-fits (i + 1) ps ts) (sym it)

pub fit_more : (ps : List Pat) (ts : List Ty) (i : ℕ) (p : Pat) (t : Ty) → i < length ps → i < length ts → p ≡ get_or ps i p → t ≡ get_or ts i t
    → pattern_fits (pure_pat p) (pure_ty t) ≡ true
    → patterns_fit (pats_of (map pure_pat (drop i ps))) (pure_tys (drop i ts)) ≡ patterns_fit (pats_of (map pure_pat (drop (i + 1) ps))) (pure_tys (drop (i + 1) ts))
fit_more ps ts i p t h k is it e = rest-more ps ts i p t h k is it ∙ ap (λ b. b && rest-fits (i + 1) ps ts) e

pub fit_none : (ps : List Pat) (ts : List Ty) (i : ℕ) (p : Pat) (t : Ty) → i < length ps → i < length ts → p ≡ get_or ps i p → t ≡ get_or ts i t
    → pattern_fits (pure_pat p) (pure_ty t) ≡ false → patterns_fit (pats_of (map pure_pat (drop i ps))) (pure_tys (drop i ts)) ≡ false
fit_none ps ts i p t h k is it e = rest-more ps ts i p t h k is it ∙ ap (λ b. b && rest-fits (i + 1) ps ts) e

pub fit_short : (ps : List Pat) (ts : List Ty) (i : ℕ) → i < length ps → length ts ≤ i → patterns_fit (pats_of (map pure_pat (drop i ps))) (pure_tys (drop i ts)) ≡ false
fit_short ps ts i h k = at_drop_all (λ l. patterns_fit (pats_of (map pure_pat (drop i ps))) (pure_tys l)) ts i k ∙ behind ps i h
  where
    behind : (qs : List Pat) (i : ℕ) → i < length qs → patterns_fit (pats_of (map pure_pat (drop i qs))) no_tys ≡ false
    behind [] i h = absurd (omega arith)
    behind (q ∷ qs) zero h = refl
    behind (q ∷ qs) (suc i) h = behind qs i (omega arith)

pub fit_long : (ps : List Pat) (ts : List Ty) (i : ℕ) → length ps ≤ i → i < length ts → patterns_fit (pats_of (map pure_pat (drop i ps))) (pure_tys (drop i ts)) ≡ false
fit_long ps ts i h k = at_drop_all (λ l. patterns_fit (pats_of (map pure_pat l)) (pure_tys (drop i ts))) ps i h ∙ behind ts i k
  where
    behind : (us : List Ty) (i : ℕ) → i < length us → patterns_fit no_pats (pure_tys (drop i us)) ≡ false
    behind [] i h = absurd (omega arith)
    behind (u ∷ us) zero h = refl
    behind (u ∷ us) (suc i) h = behind us i (omega arith)

pub fit_all : (ps : List Pat) (ts : List Ty) (i : ℕ) → length ps ≤ i → length ts ≤ i → patterns_fit (pats_of (map pure_pat (drop i ps))) (pure_tys (drop i ts)) ≡ true
fit_all ps ts i h k = at_drop_all (λ l. patterns_fit (pats_of (map pure_pat l)) (pure_tys (drop i ts))) ps i h ∙ at_drop_all (λ l. patterns_fit no_pats (pure_tys l)) ts i k

-- ---- names pushed

onto-push : {A : Type 0} (xs ys : List A) (x : A) → reverse_aux (xs ++ x ∷ []) ys ≡ x ∷ reverse_aux xs ys
onto-push [] ys x = refl
onto-push (z ∷ xs) ys x = onto-push xs (z ∷ ys) x

next : (i : ℕ) → suc i ≡ i + 1
next i = omega arith

pub one_pushed : (fs : List FieldTy) (f : FieldTy) → newest_first (fs ++ f ∷ []) ≡ pure_field_ty f ∷ newest_first fs
one_pushed fs f = ap reverse (map_push pure_field_ty fs f) ∙ onto-push (map pure_field_ty fs) [] (pure_field_ty f)

-- ---- the parts of a type by place

pub part_there : (ts : List Ty) (i : ℕ) (t : Ty) → i < length ts → t ≡ get_or ts i t → ty_at (pure_tys ts) i ≡ Some (pure_ty t)
part_there [] i t h is = absurd (omega (arith, h))
part_there (x ∷ ts) zero t h is = ap (λ u. Some (pure_ty u)) (sym is)
part_there (x ∷ ts) (suc i) t h is = part_there ts i t (omega (arith, h)) is

pub part_past : (ts : List Ty) (i : ℕ) → length ts ≤ i → ty_at (pure_tys ts) i ≡ None
part_past [] i h = refl
part_past (x ∷ ts) zero h = absurd (omega (arith, h))
part_past (x ∷ ts) (suc i) h = part_past ts i (omega (arith, h))

pub field_there : (fs : List FieldTy) (i : ℕ) (f : FieldTy) → i < length fs → f ≡ get_or fs i f → ty_at (types_in (map pure_field_ty fs)) i ≡ Some (pure_ty (out-FieldTy f).ty)
field_there [] i f h is = absurd (omega (arith, h))
field_there (g ∷ fs) zero f h is = ap (λ x. Some (pure_field_ty x).1) (sym is) ∙ ap (λ p. Some p.1) (pure_field_ty_is f)
field_there (g ∷ fs) (suc i) f h is = field_there fs i f (omega (arith, h)) is

pub field_past : (fs : List FieldTy) (i : ℕ) → length fs ≤ i → ty_at (types_in (map pure_field_ty fs)) i ≡ None
field_past [] i h = refl
field_past (g ∷ fs) zero h = absurd (omega (arith, h))
field_past (g ∷ fs) (suc i) h = field_past fs i (omega (arith, h))

from-there : (ts : Tys) (i : ℕ) (t : pure.Ty) → Some t ≡ ty_at ts i → tys_from i ts ≡ more_tys t (tys_from (suc i) ts)
from-there no_tys i t e = cc
from-there (more_tys u ts) zero t e = ap (λ v. more_tys v ts) (cc e)
from-there (more_tys u ts) (suc i) t e = from-there ts i t e

from-none : (ts : Tys) (i : ℕ) → None ≡ ty_at ts i → tys_from i ts ≡ no_tys
from-none no_tys zero e = refl
from-none no_tys (suc i) e = refl
from-none (more_tys u ts) zero e = cc
from-none (more_tys u ts) (suc i) e = from-none ts i e

none-behind : (ts : Tys) (i : ℕ) → tys_from i ts ≡ no_tys → tys_from (suc i) ts ≡ no_tys
none-behind no_tys i e = refl
none-behind (more_tys u ts) zero e = cc
none-behind (more_tys u ts) (suc i) e = none-behind ts i e

-- ---- what is bound

pub parts_more : (ps : List Pat) (ts : Tys) (i : ℕ) (p : Pat) (t : pure.Ty) (g : Names pure.Ty) → i < length ps → p ≡ get_or ps i p → Some t ≡ ty_at ts i
    → bind_all_types (pats_of (map pure_pat (drop i ps))) (tys_from i ts) g ≡ bind_all_types (pats_of (map pure_pat (drop (i + 1) ps))) (tys_from (i + 1) ts) (bind_types (pure_pat p) t g)
parts_more ps ts i p t g h is e =
    at_drop_more (λ l. bind_all_types (pats_of (map pure_pat l)) (tys_from i ts) g) ps i p h
    ∙ ap (λ q. bind_all_types (pats_of (map pure_pat (q ∷ drop (i + 1) ps))) (tys_from i ts) g) (sym is)
    ∙ ap (λ us. bind_all_types (pats_of (map pure_pat (p ∷ drop (i + 1) ps))) us g) (from-there ts i t e)
    ∙ ap (λ k. bind_all_types (pats_of (map pure_pat (drop (i + 1) ps))) (tys_from k ts) (bind_types (pure_pat p) t g)) (next i)

pub parts_any : (ps : List Pat) (ts : Tys) (i : ℕ) (p : Pat) (g : Names pure.Ty) → i < length ps → p ≡ get_or ps i p → None ≡ ty_at ts i
    → bind_all_types (pats_of (map pure_pat (drop i ps))) (tys_from i ts) g ≡ bind_all_types (pats_of (map pure_pat (drop (i + 1) ps))) (tys_from (i + 1) ts) (bind_types (pure_pat p) any_ty g)
parts_any ps ts i p g h is e =
    at_drop_more (λ l. bind_all_types (pats_of (map pure_pat l)) (tys_from i ts) g) ps i p h
    ∙ ap (λ q. bind_all_types (pats_of (map pure_pat (q ∷ drop (i + 1) ps))) (tys_from i ts) g) (sym is)
    ∙ ap (λ us. bind_all_types (pats_of (map pure_pat (p ∷ drop (i + 1) ps))) us g) (from-none ts i e)
    ∙ ap (λ us. bind_all_types (pats_of (map pure_pat (drop (i + 1) ps))) us (bind_types (pure_pat p) any_ty g)) (sym (none-behind ts i (from-none ts i e)))
    ∙ ap (λ k. bind_all_types (pats_of (map pure_pat (drop (i + 1) ps))) (tys_from k ts) (bind_types (pure_pat p) any_ty g)) (next i)

pub any_more : (ps : List Pat) (i : ℕ) (p : Pat) (g : Names pure.Ty) → i < length ps → p ≡ get_or ps i p
    → bind_all_types (pats_of (map pure_pat (drop i ps))) no_tys g ≡ bind_all_types (pats_of (map pure_pat (drop (i + 1) ps))) no_tys (bind_types (pure_pat p) any_ty g)
any_more ps i p g h is =
    at_drop_more (λ l. bind_all_types (pats_of (map pure_pat l)) no_tys g) ps i p h
    ∙ ap (λ q. bind_all_types (pats_of (map pure_pat (drop (i + 1) ps))) no_tys (bind_types (pure_pat q) any_ty g)) (sym is)

-- Operands of scalar operators are scalars: what the types of operators say of the types of operands that are known.
use Rattle.std.proofs.Common.{◌≡◌, refl, sym, ap, ◌∙◌, Bool, true, false, ◌||◌, if◌then◌else◌, List, [], ◌∷◌, Option, Some, None, option_map}
use Rattle.std.specs.Prelude.{is_some}
use Rattle.ess_semantics.specs.Lists.{and_then, all_some, when}
use Rattle.ess_semantics.specs.Values.{Kind, a_tuple, a_matrix, a_set, a_mset, a_function, a_relation, a_partition, a_record}
use Rattle.ess_semantics.specs.Order.{same_text, same_kind}
use Rattle.ess_semantics.specs.Types.{Ty, Tys, any_ty, bool_ty, int_ty, named_ty, compound, join, joins, is_open, fit}
use Rattle.ess_semantics.specs.OperatorTypes.{united, subtracted, compared, included}
use Rattle.ess_rules_laws.specs.Progress.{is_parted}
use Rattle.ess_refine_laws.specs.ScalarItems.{is_scalar}
use Rattle.ess_refine_laws.specs.Progress.{is_known}

no : {A : Type 0} → false ≡ true → A
no h = cc

-- ---- scalar, or compound

-- A type of compound values is compound.
pub parted-is : (o : Option Ty) → is_parted o ≡ true → (k : Kind) × (ts : Tys) × (o ≡ Some (compound k ts))
parted-is (Some (compound k ts)) h = (k, ts, refl)
parted-is None h = no h
parted-is (Some any_ty) h = no h
parted-is (Some bool_ty) h = no h
parted-is (Some int_ty) h = no h
parted-is (Some (named_ty t)) h = no h

-- What is known is one of the two.
pub known-is : {A : Type 0} (o : Option Ty) → is_known o ≡ true → (is_scalar o ≡ true → A) → (is_parted o ≡ true → A) → A
known-is {A = A} o h f g = go (is_scalar o) refl h
  where
    go : (b : Bool) → is_scalar o ≡ b → b || is_parted o ≡ true → A
    go true q h = f q
    go false q h = g h

-- ---- joined types

-- A scalar joins no compound type.
scalar-alone : (t : Ty) (k : Kind) (ts : Tys) → is_scalar (Some t) ≡ true → join t (compound k ts) ≡ None
scalar-alone bool_ty k ts h = refl
scalar-alone int_ty k ts h = refl
scalar-alone (named_ty a) k ts h = refl
scalar-alone any_ty k ts h = no h
scalar-alone (compound l us) k ts h = no h

compound-alone : (k : Kind) (ts : Tys) (t : Ty) → is_scalar (Some t) ≡ true → join (compound k ts) t ≡ None
compound-alone k ts bool_ty h = refl
compound-alone k ts int_ty h = refl
compound-alone k ts (named_ty a) h = refl
compound-alone k ts any_ty h = no h
compound-alone k ts (compound l us) h = no h

module _ (F : Ty → Option Ty) (none : (k : Kind) (ts : Tys) → is_scalar (F (compound k ts)) ≡ false) where
  both-compound : (k l : Kind) (ts us : Tys) → is_scalar (and_then (join (compound k ts) (compound l us)) F) ≡ true → false ≡ true
  both-compound k l ts us = go (same_kind k l) (if is_open k ts then Some us else (if is_open k us then Some ts else joins ts us))
    where
      go : (b : Bool) (o : Option Tys) → is_scalar (and_then (if b then option_map (compound k) o else None) F) ≡ true → false ≡ true
      go true None h = h
      go true (Some vs) h = sym (none k vs) ∙ h
      go false o h = h

  -- What makes a scalar of two types that agree, and none of compound ones, has two scalars.
  pub two-scalars : (t u : Ty) → is_known (Some t) ≡ true → is_known (Some u) ≡ true → is_scalar (and_then (join t u) F) ≡ true →
      (is_scalar (Some t) ≡ true) × (is_scalar (Some u) ≡ true)
  two-scalars t u h k e =
      known-is (Some t) h
      (λ p. known-is (Some u) k (λ q. (p, q))
      (λ q. let r = parted-is (Some u) q in
      no (sym (ap (λ o. is_scalar (and_then o F)) (ap (λ z. join t z) (the u r.0 r.1 r.2) ∙ scalar-alone t r.0 r.1 p)) ∙ e)))
      (λ p. let r = parted-is (Some t) p in known-is (Some u) k
      (λ q. no (sym (ap (λ o. is_scalar (and_then o F)) (ap (λ z. join z u) (the t r.0 r.1 r.2) ∙ compound-alone r.0 r.1 u q)) ∙ e))
      (λ q. let s = parted-is (Some u) q in
      no (both-compound r.0 s.0 r.1 s.1
      (ap (λ z. is_scalar (and_then (join z (compound s.0 s.1)) F)) (sym (the t r.0 r.1 r.2))
      ∙ ap (λ z. is_scalar (and_then (join t z) F)) (sym (the u s.0 s.1 s.2)) ∙ e))))
    where
      the : (t : Ty) (k : Kind) (ts : Tys) → Some t ≡ Some (compound k ts) → t ≡ compound k ts
      the t k ts e = ap (λ o. elim o [ None ↦ t | Some z ↦ z ]) e

-- Two types that agree are both scalars, or both compound.
pub alike : {A : Type 0} (t u : Ty) → is_known (Some t) ≡ true → is_known (Some u) ≡ true → is_scalar (fit t u bool_ty) ≡ true →
    (is_scalar (Some t) ≡ true → is_scalar (Some u) ≡ true → A) → (is_parted (Some t) ≡ true → is_parted (Some u) ≡ true → A) → A
alike t u h k e f g =
    known-is (Some t) h
    (λ p. known-is (Some u) k (f p)
    (λ q. let r = parted-is (Some u) q in
    no (sym (ap (λ o. is_scalar (option_map (λ v. bool_ty) o)) (ap (λ z. join t z) (the u r.0 r.1 r.2) ∙ scalar-alone t r.0 r.1 p)) ∙ e)))
    (λ p. known-is (Some u) k
    (λ q. let r = parted-is (Some t) p in
    no (sym (ap (λ o. is_scalar (option_map (λ v. bool_ty) o)) (ap (λ z. join z u) (the t r.0 r.1 r.2) ∙ compound-alone r.0 r.1 u q)) ∙ e))
    (λ q. g p q))
  where
    the : (t : Ty) (k : Kind) (ts : Tys) → Some t ≡ Some (compound k ts) → t ≡ compound k ts
    the t k ts e = ap (λ o. elim o [ None ↦ t | Some z ↦ z ]) e

-- ---- what makes no scalar of compound types

pub fits-none : (r : Ty) → is_scalar (Some r) ≡ true → (s : Ty) (k : Kind) (ts : Tys) → is_scalar (fit (compound k ts) r s) ≡ false
fits-none r h s k ts = ap (λ o. is_scalar (option_map (λ v. s) o)) (compound-alone k ts r h)

pub compared-none : (k : Kind) (ts : Tys) → is_scalar (compared (compound k ts)) ≡ false
compared-none k ts = refl

pub united-none : (k : Kind) (ts : Tys) → is_scalar (united (compound k ts)) ≡ false
united-none a_tuple ts = refl
united-none (a_record fs) ts = refl
united-none a_matrix ts = refl
united-none a_set ts = refl
united-none a_mset ts = refl
united-none a_function ts = refl
united-none a_relation ts = refl
united-none a_partition ts = refl

pub subtracted-none : (k : Kind) (ts : Tys) → is_scalar (subtracted (compound k ts)) ≡ false
subtracted-none k ts = united-none k ts

-- No union of scalars is one.
pub no-union : (t u : Ty) → is_known (Some t) ≡ true → is_known (Some u) ≡ true → is_scalar (and_then (join t u) united) ≡ true →
    false ≡ true
no-union t u h k e = let s = two-scalars united united-none t u h k e in go t u s.0 s.1 e
  where
    go : (t u : Ty) → is_scalar (Some t) ≡ true → is_scalar (Some u) ≡ true → is_scalar (and_then (join t u) united) ≡ true → false ≡ true
    go bool_ty bool_ty a b e = e
    go bool_ty int_ty a b e = e
    go bool_ty (named_ty y) a b e = e
    go int_ty bool_ty a b e = e
    go int_ty int_ty a b e = e
    go int_ty (named_ty y) a b e = e
    go (named_ty x) bool_ty a b e = e
    go (named_ty x) int_ty a b e = e
    go (named_ty x) (named_ty y) a b e = names (same_text x y) e
      where
        names : (c : Bool) → is_scalar (and_then (when c (named_ty x)) united) ≡ true → false ≡ true
        names true e = e
        names false e = e
    go any_ty u a b e = a
    go (compound l us) u a b e = a
    go t any_ty a b e = b
    go t (compound l us) a b e = b

-- No inclusion of scalars is one.
pub included-parted : (t u : Ty) → is_known (Some t) ≡ true → is_known (Some u) ≡ true → is_scalar (and_then (join t u) included) ≡ true →
    (is_parted (Some t) ≡ true) × (is_parted (Some u) ≡ true)
included-parted t u h k e = known-is (Some t) h
    (λ p. no (scalar-left t u p e))
    (λ p. known-is (Some u) k (λ q. let r = parted-is (Some t) p in no (sym (ap (λ o. is_scalar (and_then o included))
    (ap (λ z. join z u) (ap (λ o. elim o [ None ↦ t | Some z ↦ z ]) r.2) ∙ compound-alone r.0 r.1 u q)) ∙ e)) (λ q. (p, q)))
  where
    scalar-left : (t u : Ty) → is_scalar (Some t) ≡ true → is_scalar (and_then (join t u) included) ≡ true → false ≡ true
    scalar-left bool_ty any_ty a e = e
    scalar-left bool_ty bool_ty a e = e
    scalar-left bool_ty int_ty a e = e
    scalar-left bool_ty (named_ty y) a e = e
    scalar-left bool_ty (compound l us) a e = e
    scalar-left int_ty any_ty a e = e
    scalar-left int_ty bool_ty a e = e
    scalar-left int_ty int_ty a e = e
    scalar-left int_ty (named_ty y) a e = e
    scalar-left int_ty (compound l us) a e = e
    scalar-left (named_ty x) any_ty a e = e
    scalar-left (named_ty x) bool_ty a e = e
    scalar-left (named_ty x) int_ty a e = e
    scalar-left (named_ty x) (named_ty y) a e = names (same_text x y) e
      where
        names : (c : Bool) → is_scalar (and_then (when c (named_ty x)) included) ≡ true → false ≡ true
        names true e = e
        names false e = e
    scalar-left (named_ty x) (compound l us) a e = e
    scalar-left any_ty u a e = a
    scalar-left (compound l us) u a e = a

-- ---- operands that may have no type

-- One operand.
pub alone-type : (o : Option Ty) (G : List Ty → Option Ty) → and_then (all_some (o ∷ [])) G ≡ and_then o (λ t. G (t ∷ []))
alone-type None G = refl
alone-type (Some t) G = refl

-- Two operands.
pub pair-type : (o p : Option Ty) (G : List Ty → Option Ty) →
    and_then (all_some (o ∷ p ∷ [])) G ≡ and_then o (λ t. and_then p (λ u. G (t ∷ u ∷ [])))
pair-type None p G = refl
pair-type (Some t) None G = refl
pair-type (Some t) (Some u) G = refl

-- Three or more.
pub many-types : (o p q : Option Ty) (os : List (Option Ty)) (G : List Ty → Option Ty) →
    ((t u v : Ty) (ts : List Ty) → G (t ∷ u ∷ v ∷ ts) ≡ None) → is_scalar (and_then (all_some (o ∷ p ∷ q ∷ os)) G) ≡ true → false ≡ true
many-types None p q os G n e = e
many-types (Some t) None q os G n e = e
many-types (Some t) (Some u) None os G n e = e
many-types (Some t) (Some u) (Some v) os G n e = go (all_some os) e
  where
    go : (z : Option (List Ty)) →
        is_scalar (and_then (option_map (λ xs. t ∷ xs) (option_map (λ xs. u ∷ xs) (option_map (λ xs. v ∷ xs) z))) G) ≡ true → false ≡ true
    go None e = e
    go (Some ts) e = sym (ap is_scalar (n t u v ts)) ∙ e

-- A scalar of one operand.
pub one-scalar : (F : Ty → Option Ty) → ((k : Kind) (ts : Tys) → is_scalar (F (compound k ts)) ≡ false) → (o : Option Ty) →
    is_known o ≡ true → is_scalar (and_then o F) ≡ true → is_scalar o ≡ true
one-scalar F n None h e = e
one-scalar F n (Some t) h e = known-is (Some t) h (λ p. p) (λ p. let r = parted-is (Some t) p in
    no (sym (n r.0 r.1) ∙ ap (λ o. is_scalar (and_then o F)) (sym r.2) ∙ e))

-- A scalar of two operands that agree.
pub pair-scalars : (F : Ty → Option Ty) → ((k : Kind) (ts : Tys) → is_scalar (F (compound k ts)) ≡ false) → (o p : Option Ty) →
    is_known o ≡ true → is_known p ≡ true → is_scalar (and_then o (λ t. and_then p (λ u. and_then (join t u) F))) ≡ true →
    (is_scalar o ≡ true) × (is_scalar p ≡ true)
pair-scalars F n None p h k e = no e
pair-scalars F n (Some t) None h k e = no e
pair-scalars F n (Some t) (Some u) h k e = two-scalars F n t u h k e

-- What is never a scalar makes none.
pub never-one : (F : Ty → Option Ty) → ((t : Ty) → is_scalar (F t) ≡ false) → (o : Option Ty) → is_scalar (and_then o F) ≡ true →
    false ≡ true
never-one F n None e = e
never-one F n (Some t) e = sym (n t) ∙ e

pub never-two : (F : Ty → Ty → Option Ty) → ((t u : Ty) → is_scalar (F t u) ≡ false) → (o p : Option Ty) →
    is_scalar (and_then o (λ t. and_then p (λ u. F t u))) ≡ true → false ≡ true
never-two F n None p e = e
never-two F n (Some t) None e = e
never-two F n (Some t) (Some u) e = sym (n t u) ∙ e

-- What has a scalar type has a type.
pub scalar-there : (o : Option Ty) → is_scalar o ≡ true → is_some o ≡ true
scalar-there None h = h
scalar-there (Some t) h = refl

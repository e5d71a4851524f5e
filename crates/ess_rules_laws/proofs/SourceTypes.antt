-- What the type of a source says of the types of its operands.
use Rattle.std.proofs.Common.{◌≡◌, refl, sym, ap, ◌∙◌, Bool, true, false, if◌then◌else◌, List, [], ◌∷◌, map, Option, Some, None, option_map}
use Rattle.ess_semantics.specs.Lists.{and_then, all_some, list_or_none, tail_of, when}
use Rattle.ess_semantics.specs.Values.{Text, Kind, a_tuple, a_matrix, a_set, a_mset, a_function, a_relation, a_partition, a_record}
use Rattle.ess_semantics.specs.Order.{same_text, same_kind}
use Rattle.ess_semantics.specs.Names.{Names}
use Rattle.ess_semantics.specs.Trees.{Ex, no_exs, more_exs}
use Rattle.ess_semantics.specs.Types.{Ty, Tys, any_ty, bool_ty, int_ty, named_ty, no_tys, compound, compound1, compound2, is_open, join, joins, fit}
use Rattle.ess_semantics.specs.OperatorTypes.{united, subtracted, sized, list_ty, chosen_ty, extreme_ty}
use Rattle.ess_semantics.specs.Typing.{type_of}
use Rattle.ess_semantics.proofs.Tests.{and-left, and-right}
use Rattle.ess_rules_laws.specs.InclusionRules.{both_sets}
use Rattle.ess_rules_laws.specs.ContainerListings.{of_function}
use Rattle.ess_rules_laws.specs.Progress.{is_told, are_told, has_members}

-- From what can not be.
pub no : {A : Type 0} → false ≡ true → A
no h = cc

-- An answer under a test that holds.
pub so : {A : Type 0} (c : Bool) (f : A) → c ≡ true → (if c then Some f else None) ≡ Some f
so true f h = refl
so false f h = no h

-- What is made of a type of functions.
pub of-function : {A : Type 0} (o : Option Ty) (h : Ty → Ty → A) (t u : Ty) → o ≡ Some (compound2 a_function t u) →
    of_function o h ≡ Some (h t u)
of-function o h t u q = ap (λ z. of_function z h) q

-- ---- types of operands

-- Values that are all there are these.
all-of : (os : List (Option Ty)) (ts : List Ty) → all_some os ≡ Some ts → os ≡ map Some ts
all-of [] ts q = ap (map Some) (ap list_or_none q)
all-of (None ∷ os) ts q = cc
all-of (Some t ∷ os) ts q = go (all_some os) q (λ us r. all-of os us r) refl
  where
    go : (o : Option (List Ty)) → option_map (λ us. t ∷ us) o ≡ Some ts → ((us : List Ty) → all_some os ≡ Some us → os ≡ map Some us) →
        all_some os ≡ o →
        Some t ∷ os ≡ map Some ts
    go None q f r = cc
    go (Some us) q f r = ap (λ z. Some t ∷ z) (f us r) ∙ ap (map Some) (ap list_or_none q)

-- The types of operands that are all there.
pub listed : (os : List (Option Ty)) (F : List Ty → Option Ty) → has_members (and_then (all_some os) F) ≡ true →
    (ts : List Ty) × (os ≡ map Some ts) × (has_members (F ts) ≡ true)
listed os F h = go (all_some os) refl h
  where
    go : (o : Option (List Ty)) → all_some os ≡ o → has_members (and_then o F) ≡ true →
        (ts : List Ty) × (os ≡ map Some ts) × (has_members (F ts) ≡ true)
    go None q h = no h
    go (Some ts) q h = (ts, all-of os ts q, h)

-- The first of the values.
abbrev pub first-of : (os : List (Option Ty)) → Option Ty
first-of [] = None
first-of (o ∷ os) = o

-- ---- unions, intersections, differences

-- Whether the type is of sets or of relations.
abbrev united_ty : Ty → Bool
united_ty (compound a_set ts) = true
united_ty (compound a_relation ts) = true
united_ty t = false

-- Only sets and relations can be united.
pub of-united : (t : Ty) → has_members (united t) ≡ true → united_ty t ≡ true
of-united (compound a_set ts) h = refl
of-united (compound a_relation ts) h = refl
of-united _ h = no h

-- Only sets and relations, and numbers, can be subtracted, and numbers have no members.
pub of-subtracted : (t : Ty) → has_members (subtracted t) ≡ true → united_ty t ≡ true
of-subtracted (compound a_set ts) h = refl
of-subtracted (compound a_relation ts) h = refl
of-subtracted _ h = no h

-- Types of one kind agree in a type of that kind.
kind-kept : (k : Kind) (o : Option Tys) (v : Ty) → option_map (compound k) o ≡ Some v → united_ty v ≡ true →
    united_ty (compound k no_tys) ≡ true
kind-kept k None v q h = cc
kind-kept k (Some ts) v q h = same-kind k ts (ap united_ty (ap (λ o. elim o [ Some t ↦ t | None ↦ any_ty ]) q) ∙ h)
  where
    same-kind : (k : Kind) (ts : Tys) → united_ty (compound k ts) ≡ true → united_ty (compound k no_tys) ≡ true
    same-kind a_set ts h = refl
    same-kind a_relation ts h = refl
    same-kind _ ts h = no h

-- Named types agree in a named type.
named-kept : (b : Bool) (a : Text) (v : Ty) → when b (named_ty a) ≡ Some v → united_ty v ≡ true → false ≡ true
named-kept true a v q h = ap united_ty (ap (λ o. elim o [ Some t ↦ t | None ↦ any_ty ]) q) ∙ h
named-kept false a v q h = cc

-- Two types that agree in one of sets or of relations are both so.
both-united : (t u v : Ty) → join t u ≡ Some v → united_ty v ≡ true → is_told (Some t) ≡ true → is_told (Some u) ≡ true →
    both_sets (Some t) (Some u) ≡ true
both-united (compound a_set ts) (compound a_set us) v q h k l = refl
both-united (compound a_relation ts) (compound a_relation us) v q h k l = refl
both-united (compound a_tuple ts) (compound a_tuple us) v q h k l = no (kind-kept a_tuple _ v q h)
both-united (compound a_matrix ts) (compound a_matrix us) v q h k l = no (kind-kept a_matrix _ v q h)
both-united (compound a_mset ts) (compound a_mset us) v q h k l = no (kind-kept a_mset _ v q h)
both-united (compound a_function ts) (compound a_function us) v q h k l = no (kind-kept a_function _ v q h)
both-united (compound a_partition ts) (compound a_partition us) v q h k l = no (kind-kept a_partition _ v q h)
both-united (compound (a_record fs) ts) (compound (a_record hs) us) v q h k l = no (records (same_kind (a_record fs) (a_record hs)) q)
  where
    records : (b : Bool) →
        (if b then option_map (compound (a_record fs))
        (if is_open (a_record fs) ts then Some us else (if is_open (a_record fs) us then Some ts else joins ts us)) else None) ≡ Some v →
        false ≡ true
    records true q = kind-kept (a_record fs) _ v q h
    records false q = cc
both-united (named_ty a) (named_ty b) v q h k l = no (named-kept (same_text a b) a v q h)
both-united bool_ty bool_ty v q h k l = no (ap united_ty (ap (λ o. elim o [ Some t ↦ t | None ↦ any_ty ]) q) ∙ h)
both-united int_ty int_ty v q h k l = no (ap united_ty (ap (λ o. elim o [ Some t ↦ t | None ↦ any_ty ]) q) ∙ h)
both-united _ _ v q h k l = cc

-- The same of the types of two operands that may be combined.
combined : (F : Ty → Option Ty) → ((t : Ty) → has_members (F t) ≡ true → united_ty t ≡ true) → (t u : Ty) →
    has_members (and_then (join t u) F) ≡ true →
    is_told (Some t) ≡ true → is_told (Some u) ≡ true → both_sets (Some t) (Some u) ≡ true
combined F f t u h k l = go (join t u) refl h
  where
    go : (o : Option Ty) → join t u ≡ o → has_members (and_then o F) ≡ true → both_sets (Some t) (Some u) ≡ true
    go None q h = no h
    go (Some v) q h = both-united t u v q (f v h) k l

-- ---- types without members

-- A type of no members has none.
pub fit-none : (r : Ty) → has_members (Some r) ≡ false → (o : Option Ty) → has_members (option_map (λ v. r) o) ≡ true → false ≡ true
fit-none r q None h = h
fit-none r q (Some v) h = sym q ∙ h

-- The same where the type comes of another one.
pub then-none : (F : Ty → Option Ty) → ((t : Ty) → has_members (F t) ≡ true → false ≡ true) → (o : Option Ty) →
    has_members (and_then o F) ≡ true → false ≡ true
then-none F f None h = h
then-none F f (Some t) h = f t h

-- What `min` and `max` choose among has no members.
chosen-none : (t : Ty) → has_members (chosen_ty t) ≡ true → false ≡ true
chosen-none int_ty h = h
chosen-none (named_ty a) h = h
chosen-none any_ty h = h
chosen-none _ h = h

-- So it is with the type of a least or greatest member.
pub extreme-none : (t : Ty) → has_members (extreme_ty t) ≡ true → false ≡ true
extreme-none (compound1 a_set e) h = chosen-none e h
extreme-none (compound1 a_mset e) h = chosen-none e h
extreme-none t h = then-none chosen_ty chosen-none (list_ty t) h

-- A size has no members.
pub sized-none : (t : Ty) → has_members (sized t) ≡ true → false ≡ true
sized-none int_ty h = h
sized-none any_ty h = h
sized-none (compound a_set ts) h = h
sized-none (compound a_mset ts) h = h
sized-none (compound a_function ts) h = h
sized-none (compound a_relation ts) h = h
sized-none _ h = h

-- The type of the first operand, where they are these.
pub first-is : (o : Option Ty) (os : List (Option Ty)) (t : Ty) (ts : List Ty) → o ∷ os ≡ map Some (t ∷ ts) → o ≡ Some t
first-is o os t ts q = ap first-of q

-- The types of the other operands.
rest-is : (o : Option Ty) (os : List (Option Ty)) (t : Ty) (ts : List Ty) → o ∷ os ≡ map Some (t ∷ ts) → os ≡ map Some ts
rest-is o os t ts q = ap tail_of q

-- Numbers have no members.
pub numbers : (t u : Ty) → has_members (and_then (join t u) (λ z. fit z int_ty int_ty)) ≡ true → false ≡ true
numbers t u h = then-none (λ z. fit z int_ty int_ty) (λ z. fit-none int_ty refl (join z int_ty)) (join t u) h

-- Both operands are sets or relations.
pub sets : (g : Names Ty) (F : Ty → Option Ty) → ((t : Ty) → has_members (F t) ≡ true → united_ty t ≡ true) → (a b : Ex) (t u : Ty) →
    type_of a g ∷ type_of b g ∷ [] ≡ map Some (t ∷ u ∷ []) → has_members (and_then (join t u) F) ≡ true →
    are_told g (more_exs a (more_exs b no_exs)) ≡ true →
    both_sets (type_of a g) (type_of b g) ≡ true
sets g F f a b t u q h m =
    let p = first-is (type_of a g) (type_of b g ∷ []) t (u ∷ []) q in
    let r = first-is (type_of b g) [] u [] (rest-is (type_of a g) (type_of b g ∷ []) t (u ∷ []) q) in
    let k = and-left (is_told (type_of a g)) _ m in
    let l = and-left (is_told (type_of b g)) _ (and-right (is_told (type_of a g)) _ m) in
    ap (λ z. both_sets z (type_of b g)) p ∙ ap (both_sets (Some t)) r
    ∙ combined F f t u h (ap is_told (sym p) ∙ k) (ap is_told (sym r) ∙ l)

-- Types of applications, of images and of items of matrices, where what is applied or indexed has a type of its own.
use Rattle.std.proofs.Common.{◌≡◌, refl, sym, ap, ◌∙◌, false, [], ◌∷◌, Some, Option, None, option_map}
use Rattle.ess_semantics.specs.declared.words.Fun.{Fun}
use Rattle.ess_semantics.specs.declared.words.Op2.{Op2}
use Rattle.ess_semantics.specs.Lists.{and_then, all_some}
use Rattle.ess_semantics.specs.OperatorTypes.{type_of_op, member_ty, asked_ty, tuple_ty, value_ty}
use Rattle.ess_semantics.specs.Trees.{word, binary, application}
use Rattle.ess_semantics.specs.Types.{Ty, Tys, no_tys, more_tys, compound, compound2, join, any_ty, bool_ty, is_open, fit}
use Rattle.ess_semantics.specs.Typing.{Static, a_number, a_name, other, step_ty}
use Rattle.ess_semantics.specs.Values.{a_tuple, a_matrix, a_function, a_relation}
use Rattle.ess_guard_types_laws.proofs.JoinedTypes.{join-any, Agree}
use Rattle.ess_refine_types_laws.proofs.TypeParts.{two-is, asked-is, given-is}

-- A step with nothing behind it.
pub step-is : (o : Option Ty) (t : Ty) → and_then o (λ v. Some v) ≡ Some t → o ≡ Some t
step-is None t q = cc
step-is (Some v) t q = q

-- What a function gives at an argument.
pub applied-is : (d c : Ty) (o : Option Ty) (t : Ty) →
    and_then (all_some (Some (compound2 a_function d c) ∷ o ∷ [])) (type_of_op application) ≡ Some t → t ≡ c
applied-is d c None t q = cc
applied-is d c (Some x) t q = (given-is (join d x) c t q).1

-- Functions that agree with the function that an image asks.
image-of : (d c : Ty) (o p : Option Ty) (t : Ty) → p ≡ Some c →
    and_then (option_map (compound a_function) (and_then o (λ v. option_map (more_tys v) (and_then p (λ w. option_map (more_tys w) (Some
    no_tys)))))) value_ty ≡ Some t →
    t ≡ c
image-of d c None p t h q = cc
image-of d c (Some v) None t h q = cc
image-of d c (Some v) (Some w) t h q = let i : w ≡ c = cc in let j : w ≡ t = cc in sym j ∙ i

-- What `image` gives.
pub image-is : (d c : Ty) (o : Option Ty) (t : Ty) →
    and_then (all_some (Some (compound2 a_function d c) ∷ o ∷ [])) (type_of_op (word Fun.Image)) ≡ Some t → t ≡ c
image-is d c None t q = cc
image-is d c (Some x) t q = image-of d c (join d x) (join c any_ty) t (join-any c) q

-- An item of a matrix.
item-of : (n : Ty) (o : Option Ty) (t : Ty) → and_then (option_map (λ v. n) o) (λ v. Some v) ≡ Some t → t ≡ n
item-of n None t q = cc
item-of n (Some v) t q = cc

-- What an index gives.
pub item-is : (i n : Ty) (s : Static) (o : Option Ty) (t : Ty) →
    and_then (step_ty (compound2 a_matrix i n) s o) (λ v. Some v) ≡ Some t → t ≡ n
item-is i n (a_number k) None t q = cc
item-is i n (a_name a) None t q = cc
item-is i n other None t q = cc
item-is i n s (Some u) t q = item-of n (join i u) t q

-- ---- membership

-- `in` gives a truth value.
pub in-truth : (o p : Option Ty) (t : Ty) → and_then (all_some (o ∷ p ∷ [])) (type_of_op (binary Op2.Member)) ≡ Some t → t ≡ bool_ty
in-truth o p t q = let r = two-is o p (type_of_op (binary Op2.Member)) t q in let m = asked-is r.1 r.0 t r.4 in m.3

-- It asks the same of two types with members of one type.
pub same-asked : (o : Option Ty) (s t : Ty) → asked_ty s ≡ asked_ty t →
    and_then (all_some (o ∷ Some s ∷ [])) (type_of_op (binary Op2.Member))
    ≡ and_then (all_some (o ∷ Some t ∷ [])) (type_of_op (binary Op2.Member))
same-asked None s t h = refl
same-asked (Some a) s t h = ap (λ z. and_then z (λ m. fit a m bool_ty)) h

-- And nothing of what has no members.
pub none-asked : (o : Option Ty) (s t : Ty) → asked_ty s ≡ None →
    and_then (all_some (o ∷ Some s ∷ [])) (type_of_op (binary Op2.Member)) ≡ Some t → ⊥
none-asked None s t h q = cc
none-asked (Some a) s t h q = let r : None ≡ Some t = sym (ap (λ z. and_then z (λ m. fit a m bool_ty)) h) ∙ q in cc

-- Nor where there is no type at all.
pub none-typed : (o : Option Ty) (t : Ty) → and_then (all_some (o ∷ None ∷ [])) (type_of_op (binary Op2.Member)) ≡ Some t → ⊥
none-typed None t q = cc
none-typed (Some a) t q = cc

-- Whose members the operand has one of.
pub member-is : (o : Option Ty) (s t : Ty) → and_then (all_some (o ∷ Some s ∷ [])) (type_of_op (binary Op2.Member)) ≡ Some t →
    (a : Ty) × (m : Ty) × (o ≡ Some a) × (member_ty s ≡ Some m) × Agree a m × (t ≡ bool_ty)
member-is None s t q = (any_ty, any_ty, cc, cc, cc, cc)
member-is (Some a) s t q = let k = asked-is s a t q in (a, k.0, refl, k.1, k.2, k.3)

-- The tuples of a relation that has a component.
pub tuples-of : (ts : Tys) → is_open a_relation ts ≡ false → tuple_ty ts ≡ compound a_tuple ts
tuples-of no_tys h = cc
tuples-of (more_tys t ts) h = refl

-- Operators that give no truth value by their type.
use Rattle.std.proofs.Common.{◌≡◌, refl, false, List, [], ◌∷◌, Option, Some, None, option_map}
use Rattle.ess_semantics.specs.declared.words.Op1.{Op1}
use Rattle.ess_semantics.specs.declared.words.Op2.{Op2}
use Rattle.ess_semantics.specs.declared.words.Fun.{Fun}
use Rattle.ess_semantics.specs.Lists.{and_then}
use Rattle.ess_semantics.specs.Values.{a_matrix, a_set, a_function, a_relation, a_partition}
use Rattle.ess_semantics.specs.Trees.{Op, unary, binary, word, matrix_literal}
use Rattle.ess_semantics.specs.Types.{Ty, any_ty, int_ty, compound, compound1, compound2, is_bool, fit, join, join_all}
use Rattle.ess_semantics.specs.OperatorTypes.{list_ty, member_ty, to_set_ty, united, subtracted, type_of_word1, type_of_op}

fitted : (o : Option Ty) → is_bool (option_map (λ v. int_ty) o) ≡ false
fitted None = refl
fitted (Some v) = refl

then-fitted : (o : Option Ty) → is_bool (and_then o (λ t. fit t int_ty int_ty)) ≡ false
then-fitted None = refl
then-fitted (Some t) = fitted (join t int_ty)

not-united : (t : Ty) → is_bool (united t) ≡ false
not-united any_ty = refl
not-united (compound a_set ts) = refl
not-united (compound a_relation ts) = refl
not-united t = refl

not-subtracted : (t : Ty) → is_bool (subtracted t) ≡ false
not-subtracted int_ty = refl
not-subtracted t = not-united t

then-subtracted : (o : Option Ty) → is_bool (and_then o subtracted) ≡ false
then-subtracted None = refl
then-subtracted (Some t) = not-subtracted t

no-set : (o : Option Ty) → is_bool (option_map (compound1 a_set) o) ≡ false
no-set None = refl
no-set (Some t) = refl

not-to-set : (t : Ty) → is_bool (to_set_ty t) ≡ false
not-to-set (compound a_set ts) = refl
not-to-set (compound a_partition ts) = refl
not-to-set t = no-set (member_ty t)

no-matrix : (o : Option Ty) → is_bool (option_map (compound2 a_matrix int_ty) o) ≡ false
no-matrix None = refl
no-matrix (Some t) = refl

not-defined : (t : Ty) → is_bool (type_of_word1 Fun.Defined t) ≡ false
not-defined (compound2 a_function a b) = refl
not-defined any_ty = refl
not-defined t = refl

not-participants : (t : Ty) → is_bool (type_of_word1 Fun.Participants t) ≡ false
not-participants (compound1 a_partition a) = refl
not-participants any_ty = refl
not-participants t = refl

-- What no operands give isn't given.
pub never : (op : Op) → ((ts : List Ty) → is_bool (type_of_op op ts) ≡ false) → (o : Option (List Ty)) →
    is_bool (and_then o (type_of_op op)) ≡ false
never op h None = refl
never op h (Some ts) = h ts

pub minus-one : (ts : List Ty) → is_bool (type_of_op (unary Op1.Minus) ts) ≡ false
minus-one [] = refl
minus-one (t ∷ []) = fitted (join t int_ty)
minus-one (t ∷ u ∷ ts) = refl

pub plus-two : (ts : List Ty) → is_bool (type_of_op (binary Op2.Plus) ts) ≡ false
plus-two [] = refl
plus-two (t ∷ []) = refl
plus-two (t ∷ u ∷ []) = then-fitted (join t u)
plus-two (t ∷ u ∷ v ∷ ts) = refl

pub times-two : (ts : List Ty) → is_bool (type_of_op (binary Op2.Times) ts) ≡ false
times-two [] = refl
times-two (t ∷ []) = refl
times-two (t ∷ u ∷ []) = then-fitted (join t u)
times-two (t ∷ u ∷ v ∷ ts) = refl

pub minus-two : (ts : List Ty) → is_bool (type_of_op (binary Op2.Minus) ts) ≡ false
minus-two [] = refl
minus-two (t ∷ []) = refl
minus-two (t ∷ u ∷ []) = then-subtracted (join t u)
minus-two (t ∷ u ∷ v ∷ ts) = refl

pub sum-of : (ts : List Ty) → is_bool (type_of_op (word Fun.Sum) ts) ≡ false
sum-of [] = refl
sum-of (t ∷ []) = then-fitted (list_ty t)
sum-of (t ∷ u ∷ []) = refl
sum-of (t ∷ u ∷ v ∷ ts) = refl

pub defined-of : (ts : List Ty) → is_bool (type_of_op (word Fun.Defined) ts) ≡ false
defined-of [] = refl
defined-of (t ∷ []) = not-defined t
defined-of (t ∷ u ∷ []) = refl
defined-of (t ∷ u ∷ v ∷ ts) = refl

pub participants-of : (ts : List Ty) → is_bool (type_of_op (word Fun.Participants) ts) ≡ false
participants-of [] = refl
participants-of (t ∷ []) = not-participants t
participants-of (t ∷ u ∷ []) = refl
participants-of (t ∷ u ∷ v ∷ ts) = refl

pub to-set-of : (ts : List Ty) → is_bool (type_of_op (word Fun.ToSet) ts) ≡ false
to-set-of [] = refl
to-set-of (t ∷ []) = not-to-set t
to-set-of (t ∷ u ∷ []) = refl
to-set-of (t ∷ u ∷ v ∷ ts) = refl

pub list-of : (ts : List Ty) → is_bool (type_of_op matrix_literal ts) ≡ false
list-of [] = refl
list-of (t ∷ ts) = no-matrix (join_all (t ∷ ts))

-- The number that is there everywhere has a number's type where the old one has.
use Rattle.std.proofs.Common.{◌≡◌, refl, sym, ap, ◌∙◌, Bool, true, false, if◌then◌else◌, [], ◌∷◌, Option, Some, None, option_map}
use Rattle.ess_semantics.specs.declared.words.Op1.{Op1}
use Rattle.ess_semantics.specs.declared.words.Op2.{Op2}
use Rattle.ess_semantics.specs.declared.words.Fun.{Fun}
use Rattle.ess_semantics.specs.Lists.{and_then, all_some, when}
use Rattle.ess_semantics.specs.Values.{Text, Kind, a_matrix, a_set, a_mset, a_function, a_relation, a_partition, a_tuple, a_record}
use Rattle.ess_semantics.specs.Order.{same_text, same_kind}
use Rattle.ess_semantics.specs.Names.{Names}
use Rattle.ess_semantics.specs.Trees.{Op, binary, unary, word, Ex, ex2}
use Rattle.ess_semantics.specs.Types.{Ty, Tys, any_ty, bool_ty, int_ty, named_ty, compound, join, joins, is_open, fit}
use Rattle.ess_semantics.specs.OperatorTypes.{type_of_op, type_of_list, type_of_binary, subtracted, list_ty}
use Rattle.ess_semantics.specs.Typing.{type_of}
use Rattle.ess_refine_laws.specs.Everywhere.{is_nonzero, is_positive, chosen, nil_number, divisor, base, exponent, raised}
use Rattle.ess_rules_types_laws.specs.TypesOfOthers.{is_numeric}

-- ---- numbers

pub never : {A : Type 0} → false ≡ true → A
never h = cc

-- What is numeric is of one of two types.
pub record Number (o : Option Ty) : Type 0 where
  pub ty : Ty
  pub there : o ≡ Some ty
  pub fits : is_numeric (Some ty) ≡ true

pub number-is : (o : Option Ty) → is_numeric o ≡ true → Number o
number-is None h = never h
number-is (Some t) h = record { ty = t; there = refl; fits = h }

no-compound : {A : Type 0} (k : Kind) (c : Bool) (o : Option Tys) (w : Ty) → (if c then option_map (compound k) o else None) ≡ Some w →
    is_numeric (Some w) ≡ true → A
no-compound k false o w q h = cc
no-compound k true None w q h = cc
no-compound k true (Some ts) w q h = never (ap is_numeric q ∙ h)

no-named : {A : Type 0} (a : Text) (c : Bool) (w : Ty) → when c (named_ty a) ≡ Some w → is_numeric (Some w) ≡ true → A
no-named a false w q h = cc
no-named a true w q h = never (ap is_numeric q ∙ h)

-- Where two types join to a number's both are.
pub joined-number : (u v w : Ty) → join u v ≡ Some w → is_numeric (Some w) ≡ true →
    (is_numeric (Some u) ≡ true) × (is_numeric (Some v) ≡ true)
joined-number any_ty v w q h = (refl, ap is_numeric q ∙ h)
joined-number int_ty any_ty w q h = (refl, refl)
joined-number int_ty int_ty w q h = (refl, refl)
joined-number int_ty bool_ty w q h = cc
joined-number int_ty (named_ty a) w q h = cc
joined-number int_ty (compound k ts) w q h = cc
joined-number bool_ty any_ty w q h = never (ap is_numeric q ∙ h)
joined-number bool_ty bool_ty w q h = never (ap is_numeric q ∙ h)
joined-number bool_ty int_ty w q h = cc
joined-number bool_ty (named_ty a) w q h = cc
joined-number bool_ty (compound k ts) w q h = cc
joined-number (named_ty a) any_ty w q h = never (ap is_numeric q ∙ h)
joined-number (named_ty a) (named_ty b) w q h = no-named a (same_text a b) w q h
joined-number (named_ty a) bool_ty w q h = cc
joined-number (named_ty a) int_ty w q h = cc
joined-number (named_ty a) (compound k ts) w q h = cc
joined-number (compound k ts) any_ty w q h = never (ap is_numeric q ∙ h)
joined-number (compound k ts) (compound l us) w q h =
    no-compound k (same_kind k l) (if is_open k ts then Some us else (if is_open k us then Some ts else joins ts us)) w q h
joined-number (compound k ts) bool_ty w q h = cc
joined-number (compound k ts) int_ty w q h = cc
joined-number (compound k ts) (named_ty a) w q h = cc

-- ---- operators on two numbers

-- Whether the operator computes.
abbrev computes : Op2 → Bool
computes Op2.Plus = true
computes Op2.Minus = true
computes Op2.Times = true
computes Op2.Div = true
computes Op2.Mod = true
computes Op2.Pow = true
computes o = false

fits-number : (w : Ty) → is_numeric (fit w int_ty int_ty) ≡ true → is_numeric (Some w) ≡ true
fits-number any_ty h = refl
fits-number int_ty h = refl
fits-number bool_ty h = h
fits-number (named_ty a) h = h
fits-number (compound k ts) h = h

takes-number : (w : Ty) → is_numeric (subtracted w) ≡ true → is_numeric (Some w) ≡ true
takes-number any_ty h = refl
takes-number int_ty h = refl
takes-number bool_ty h = h
takes-number (named_ty a) h = h
takes-number (compound a_set ts) h = h
takes-number (compound a_relation ts) h = h
takes-number (compound a_mset ts) h = h
takes-number (compound a_function ts) h = h
takes-number (compound a_partition ts) h = h
takes-number (compound a_matrix ts) h = h
takes-number (compound a_tuple ts) h = h
takes-number (compound (a_record fs) ts) h = h

from-joined : (u v : Ty) (o : Option Ty) (F : Ty → Option Ty) → join u v ≡ o → ((w : Ty) → is_numeric (F w) ≡ true →
    is_numeric (Some w) ≡ true) →
    is_numeric (and_then o F) ≡ true → (is_numeric (Some u) ≡ true) × (is_numeric (Some v) ≡ true)
from-joined u v None F q f h = never h
from-joined u v (Some w) F q f h = joined-number u v w q (f w h)

of-numbers : (o : Op2) (u v : Ty) → computes o ≡ true → is_numeric (type_of_binary o u v) ≡ true →
    (is_numeric (Some u) ≡ true) × (is_numeric (Some v) ≡ true)
of-numbers Op2.Plus u v c h = from-joined u v (join u v) (λ t. fit t int_ty int_ty) refl fits-number h
of-numbers Op2.Minus u v c h = from-joined u v (join u v) subtracted refl takes-number h
of-numbers Op2.Times u v c h = from-joined u v (join u v) (λ t. fit t int_ty int_ty) refl fits-number h
of-numbers Op2.Div u v c h = from-joined u v (join u v) (λ t. fit t int_ty int_ty) refl fits-number h
of-numbers Op2.Mod u v c h = from-joined u v (join u v) (λ t. fit t int_ty int_ty) refl fits-number h
of-numbers Op2.Pow u v c h = from-joined u v (join u v) (λ t. fit t int_ty int_ty) refl fits-number h
of-numbers _ u v c h = never c

gives-number : (o : Op2) (u v : Ty) → computes o ≡ true → is_numeric (Some u) ≡ true → is_numeric (Some v) ≡ true →
    is_numeric (type_of_binary o u v) ≡ true
gives-number Op2.Plus any_ty any_ty c h k = refl
gives-number Op2.Plus any_ty int_ty c h k = refl
gives-number Op2.Plus int_ty any_ty c h k = refl
gives-number Op2.Plus int_ty int_ty c h k = refl
gives-number Op2.Minus any_ty any_ty c h k = refl
gives-number Op2.Minus any_ty int_ty c h k = refl
gives-number Op2.Minus int_ty any_ty c h k = refl
gives-number Op2.Minus int_ty int_ty c h k = refl
gives-number Op2.Times any_ty any_ty c h k = refl
gives-number Op2.Times any_ty int_ty c h k = refl
gives-number Op2.Times int_ty any_ty c h k = refl
gives-number Op2.Times int_ty int_ty c h k = refl
gives-number Op2.Div any_ty any_ty c h k = refl
gives-number Op2.Div any_ty int_ty c h k = refl
gives-number Op2.Div int_ty any_ty c h k = refl
gives-number Op2.Div int_ty int_ty c h k = refl
gives-number Op2.Mod any_ty any_ty c h k = refl
gives-number Op2.Mod any_ty int_ty c h k = refl
gives-number Op2.Mod int_ty any_ty c h k = refl
gives-number Op2.Mod int_ty int_ty c h k = refl
gives-number Op2.Pow any_ty any_ty c h k = refl
gives-number Op2.Pow any_ty int_ty c h k = refl
gives-number Op2.Pow int_ty any_ty c h k = refl
gives-number Op2.Pow int_ty int_ty c h k = refl
gives-number _ _ _ c h k = cc

abbrev two-types : Op2 → Option Ty → Option Ty → Option Ty
two-types o p q = and_then (all_some (p ∷ q ∷ [])) (type_of_op (binary o))

abbrev one-type : Op → Option Ty → Option Ty
one-type op p = and_then (all_some (p ∷ [])) (type_of_op op)

pub operands : (o : Op2) (p q : Option Ty) → computes o ≡ true → is_numeric (two-types o p q) ≡ true →
    (is_numeric p ≡ true) × (is_numeric q ≡ true)
operands o None q c h = never h
operands o (Some u) None c h = never h
operands o (Some u) (Some v) c h = of-numbers o u v c h

pub two-numbers : (o : Op2) (p q : Option Ty) → computes o ≡ true → is_numeric p ≡ true → is_numeric q ≡ true →
    is_numeric (two-types o p q) ≡ true
two-numbers o None q c h k = never h
two-numbers o (Some u) None c h k = never k
two-numbers o (Some u) (Some v) c h k = gives-number o u v c h k

pub minus-of : (p : Option Ty) → is_numeric (one-type (unary Op1.Minus) p) ≡ true → is_numeric p ≡ true
minus-of None h = h
minus-of (Some u) h = fits-number u h

pub minus-to : (p : Option Ty) → is_numeric p ≡ true → is_numeric (one-type (unary Op1.Minus) p) ≡ true
minus-to (Some any_ty) h = refl
minus-to (Some int_ty) h = refl
minus-to _ h = cc

pub bar-to : (p : Option Ty) → is_numeric p ≡ true → is_numeric (one-type (unary Op1.Bar) p) ≡ true
bar-to (Some any_ty) h = refl
bar-to (Some int_ty) h = refl
bar-to _ h = cc

-- ---- guards

module _ (g : Names Ty) where
  -- A comparison of a number with 0.
  compared-nil : (o : Op2) → ((u : Ty) → is_numeric (Some u) ≡ true → type_of_binary o u int_ty ≡ Some bool_ty) → (b : Ex) →
      is_numeric (type_of b g) ≡ true → type_of (ex2 true o b nil_number) g ≡ Some bool_ty
  compared-nil o f b h = let n = number-is (type_of b g) h in ap (λ z. two-types o z (Some int_ty)) n.there ∙ f n.ty n.fits

  equal-nil : (b : Ex) → is_numeric (type_of b g) ≡ true → type_of (ex2 true Op2.Eq b nil_number) g ≡ Some bool_ty
  equal-nil b h = compared-nil Op2.Eq go b h
    where
      go : (u : Ty) → is_numeric (Some u) ≡ true → type_of_binary Op2.Eq u int_ty ≡ Some bool_ty
      go any_ty h = refl
      go int_ty h = refl
      go _ h = cc

  below-nil : (b : Ex) → is_numeric (type_of b g) ≡ true → type_of (ex2 true Op2.Le b nil_number) g ≡ Some bool_ty
  below-nil b h = compared-nil Op2.Le go b h
    where
      go : (u : Ty) → is_numeric (Some u) ≡ true → type_of_binary Op2.Le u int_ty ≡ Some bool_ty
      go any_ty h = refl
      go int_ty h = refl
      go _ h = cc

  plus-chosen : (b c : Ex) → is_numeric (type_of b g) ≡ true → type_of c g ≡ Some bool_ty →
      is_numeric (type_of (ex2 false Op2.Plus b (chosen c)) g) ≡ true
  plus-chosen b c h q = two-numbers Op2.Plus (type_of b g) (type_of (chosen c) g) refl h (ap (λ o. is_numeric (one-type
      (word Fun.ToInt) o)) q)

  pub divides : (b : Ex) → is_numeric (type_of b g) ≡ true → is_numeric (type_of (divisor b) g) ≡ true
  divides b h = go (is_nonzero b)
    where
      go : (c : Bool) → is_numeric (type_of (if c then b else ex2 false Op2.Plus b (chosen (ex2 true Op2.Eq b nil_number))) g) ≡ true
      go true = h
      go false = plus-chosen b (ex2 true Op2.Eq b nil_number) h (equal-nil b h)

  base-number : (a b : Ex) → is_numeric (type_of a g) ≡ true → is_numeric (type_of b g) ≡ true → is_numeric (type_of (base a b) g) ≡ true
  base-number a b h k = go (is_nonzero a)
    where
      c : Ex
      c = ex2 true Op2.And (ex2 true Op2.Eq a nil_number) (ex2 true Op2.Le b nil_number)

      go : (z : Bool) → is_numeric (type_of (if z then a else ex2 false Op2.Plus a (chosen c)) g) ≡ true
      go true = h
      go false = plus-chosen a c h (ap (λ o. two-types Op2.And o (type_of (ex2 true Op2.Le b nil_number) g)) (equal-nil a h)
          ∙ ap (λ o. two-types Op2.And (Some bool_ty) o) (below-nil b k))

  exponent-number : (b : Ex) → is_numeric (type_of b g) ≡ true → is_numeric (type_of (exponent b) g) ≡ true
  exponent-number b h = let n = number-is (type_of b g) h in
      ap (λ z. is_numeric (one-type (word Fun.Max) (and_then (all_some (z ∷ Some int_ty ∷ [])) type_of_list))) n.there ∙ go n.ty n.fits
    where
      go : (u : Ty) → is_numeric (Some u) ≡ true → is_numeric (one-type (word Fun.Max) (type_of_list (u ∷ int_ty ∷ []))) ≡ true
      go any_ty h = refl
      go int_ty h = refl
      go _ h = cc

  pub raised-number : (a b : Ex) → is_numeric (type_of a g) ≡ true → is_numeric (type_of b g) ≡ true →
      is_numeric (type_of (raised a b) g) ≡ true
  raised-number a b h k = go (is_positive b)
    where
      go : (c : Bool) → is_numeric (type_of (if c then ex2 false Op2.Pow a b else ex2 false Op2.Pow (base a b) (exponent b)) g) ≡ true
      go true = two-numbers Op2.Pow (type_of a g) (type_of b g) refl h k
      go false = two-numbers Op2.Pow (type_of (base a b) g) (type_of (exponent b) g) refl (base-number a b h k) (exponent-number b k)

-- ---- lists of numbers

-- A list that is folded to a number.
abbrev pub list_numeric : Option Ty → Bool
list_numeric o = is_numeric (and_then o list_ty)

pub sums-of : (f : Fun) → (o : Option Ty) → ((t : Ty) → type_of_op (word f) (t ∷ []) ≡ and_then (list_ty t) (λ e. fit e int_ty int_ty)) →
    is_numeric (one-type (word f) o) ≡ true → list_numeric o ≡ true
sums-of f None k h = h
sums-of f (Some t) k h = go (list_ty t) (ap is_numeric (sym (k t)) ∙ h)
  where
    go : (p : Option Ty) → is_numeric (and_then p (λ e. fit e int_ty int_ty)) ≡ true → is_numeric p ≡ true
    go None h = h
    go (Some e) h = fits-number e h

pub sums-to : (f : Fun) → (o : Option Ty) → ((t : Ty) → type_of_op (word f) (t ∷ []) ≡ and_then (list_ty t) (λ e. fit e int_ty int_ty)) →
    list_numeric o ≡ true → one-type (word f) o ≡ Some int_ty
sums-to f None k h = never h
sums-to f (Some t) k h = k t ∙ go (list_ty t) h
  where
    go : (p : Option Ty) → is_numeric p ≡ true → and_then p (λ e. fit e int_ty int_ty) ≡ Some int_ty
    go (Some any_ty) h = refl
    go (Some int_ty) h = refl
    go _ h = cc

-- Conditions on numbers have types.
use Rattle.std.proofs.Common.{◌≡◌, refl, sym, ap, ◌∙◌, Bool, true, false, if◌then◌else◌, [], ◌∷◌, Option, Some, None, option_map, is_some}
use Rattle.ess_semantics.specs.declared.words.Op2.{Op2}
use Rattle.ess_semantics.specs.Lists.{and_then, when}
use Rattle.ess_semantics.specs.Values.{Text, Kind}
use Rattle.ess_semantics.specs.Order.{same_text, same_kind}
use Rattle.ess_semantics.specs.Names.{Names}
use Rattle.ess_semantics.specs.Trees.{Ex, ex2}
use Rattle.ess_semantics.specs.Types.{Ty, Tys, any_ty, bool_ty, int_ty, named_ty, compound, is_open, join, joins, fit}
use Rattle.ess_semantics.specs.OperatorTypes.{type_of_binary}
use Rattle.ess_semantics.specs.Typing.{type_of}
use Rattle.ess_guard_laws.specs.Origins.{Origin, is_number}
use Rattle.ess_guard_laws.specs.Conditions.{unless, nil_ex, as_number, is_not_zero, is_above_zero, quotient_conditions, power_conditions}
use Rattle.ess_guard_types_laws.specs.HasTypes.{agrees, HasTypes}
use Rattle.ess_guard_types_laws.proofs.TypedConditions.{Cond, Conds, unless-conds, two-type, two-cond, its-type}

-- Whether it agrees with int.
abbrev pub is_num : Ty → Type 0
is_num t = is_some (join t int_ty) ≡ true

-- A number.
pub record Num (e : Ex) (g : Names Ty) : Type 0 where
  pub typed : HasTypes e g
  pub ty : Ty
  pub has : type_of e g ≡ Some ty
  pub num : is_num ty

-- What has types and agrees with int is one.
pub number-of : (e : Ex) (g : Names Ty) → HasTypes e g → agrees (type_of e g) int_ty ≡ true → Num e g
number-of e g h a =
    let t = its-type e g h in record { typed = h; ty = t.0; has = t.1; num = sym (ap (λ o. agrees o int_ty) t.1) ∙ a }

-- ---- operators on numbers

-- The parts of compound types of one kind.
abbrev parts_joined : Kind → Tys → Tys → Option Tys
parts_joined k ts us = if is_open k ts then Some us else (if is_open k us then Some ts else joins ts us)

abbrev of_numbers : Option Ty → Option Ty
of_numbers o = and_then o (λ t. fit t int_ty int_ty)

named-none : (c : Bool) (a : Text) → is_some (of_numbers (when c (named_ty a))) ≡ true → true ≡ false
named-none true a h = sym h
named-none false a h = sym h

compound-none : (c : Bool) (k : Kind) (o : Option Tys) → is_some (of_numbers (if c then option_map (compound k) o else None)) ≡ true →
    true ≡ false
compound-none true k None h = sym h
compound-none true k (Some ts) h = sym h
compound-none false k o h = sym h

-- Both operands of an operator on numbers are.
pub both-numbers : (a b : Ty) → is_some (of_numbers (join a b)) ≡ true → is_num a × is_num b
both-numbers any_ty any_ty h = (refl, refl)
both-numbers any_ty int_ty h = (refl, refl)
both-numbers int_ty any_ty h = (refl, refl)
both-numbers int_ty int_ty h = (refl, refl)
both-numbers (named_ty a) (named_ty b) h = let q = named-none (same_text a b) a h in (cc, cc)
both-numbers (compound k ts) (compound l us) h = let q = compound-none (same_kind k l) k (parts_joined k ts us) h in (cc, cc)
both-numbers bool_ty any_ty h = (cc, cc)
both-numbers bool_ty bool_ty h = (cc, cc)
both-numbers _ _ h = (cc, cc)

ne-int : (t : Ty) → is_num t → type_of_binary Op2.Ne t int_ty ≡ Some bool_ty
ne-int any_ty h = refl
ne-int int_ty h = refl
ne-int _ h = cc

ge-int : (t : Ty) → is_num t → type_of_binary Op2.Ge t int_ty ≡ Some bool_ty
ge-int any_ty h = refl
ge-int int_ty h = refl
ge-int _ h = cc

plus-int : (t : Ty) → is_num t → type_of_binary Op2.Plus t int_ty ≡ Some int_ty
plus-int any_ty h = refl
plus-int int_ty h = refl
plus-int _ h = cc

le-numbers : (a b : Ty) → is_num a → is_num b → type_of_binary Op2.Le a b ≡ Some bool_ty
le-numbers any_ty any_ty h k = refl
le-numbers any_ty int_ty h k = refl
le-numbers int_ty any_ty h k = refl
le-numbers int_ty int_ty h k = refl
le-numbers any_ty _ h k = cc
le-numbers int_ty _ h k = cc
le-numbers _ b h k = cc

-- ---- conditions

-- The number that an operator reads.
pub number-as : (k : Names Origin) (b : Ex) (g : Names Ty) → Num b g → Num (as_number k b) g
number-as k b g n = go (is_number k b)
  where
    go : (t : Bool) → Num (if t then b else ex2 false Op2.Plus b nil_ex) g
    go true = n
    go false =
        let q : type_of (ex2 false Op2.Plus b nil_ex) g ≡ Some int_ty =
        two-type Op2.Plus (type_of b g) (Some int_ty) n.ty int_ty n.has refl ∙ plus-int n.ty n.num in
        record { typed = (ap is_some q, refl, (n.typed, (tt, tt))); ty = int_ty; has = q; num = refl }

-- At most.
pub le-cond : (a b : Ex) (g : Names Ty) → Num a g → Num b g → Cond (ex2 true Op2.Le a b) g
le-cond a b g n m = two-cond Op2.Le a b n.ty m.ty g n.typed m.typed n.has m.has (le-numbers n.ty m.ty n.num m.num)

ne-cond : (k : Names Origin) (b : Ex) (g : Names Ty) → Num b g → Cond (ex2 true Op2.Ne (as_number k b) nil_ex) g
ne-cond k b g n = let m : Num (as_number k b) g = number-as k b g n in
    two-cond Op2.Ne (as_number k b) nil_ex m.ty int_ty g m.typed tt m.has refl (ne-int m.ty m.num)

ge-cond : (k : Names Origin) (b : Ex) (g : Names Ty) → Num b g → Cond (ex2 true Op2.Ge (as_number k b) nil_ex) g
ge-cond k b g n = let m : Num (as_number k b) g = number-as k b g n in
    two-cond Op2.Ge (as_number k b) nil_ex m.ty int_ty g m.typed tt m.has refl (ge-int m.ty m.num)

pub quotient-conds : (k : Names Origin) (b : Ex) (g : Names Ty) → Num b g → Conds (quotient_conditions k b) g
quotient-conds k b g n = unless-conds (is_not_zero b) _ g (ne-cond k b g n)

pub power-conds : (k : Names Origin) (a b : Ex) (g : Names Ty) → Num a g → Num b g → Conds (power_conditions k a b) g
power-conds k a b g m n = go (is_above_zero b)
  where
    either : Cond (ex2 true Op2.Or (ex2 true Op2.Ne (as_number k b) nil_ex) (ex2 true Op2.Ne (as_number k a) nil_ex)) g
    either =
        let p : Cond (ex2 true Op2.Ne (as_number k b) nil_ex) g = ne-cond k b g n in
        let q : Cond (ex2 true Op2.Ne (as_number k a) nil_ex) g = ne-cond k a g m in
        two-cond Op2.Or _ _ bool_ty bool_ty g p.typed q.typed p.bool q.bool refl

    go : (t : Bool) → Conds (if t then [] else ex2 true Op2.Ge (as_number k b) nil_ex ∷ unless (is_not_zero a)
        (ex2 true Op2.Or (ex2 true Op2.Ne (as_number k b) nil_ex) (ex2 true Op2.Ne (as_number k a) nil_ex))) g
    go true = tt
    go false = (ge-cond k b g n, unless-conds (is_not_zero a) _ g either)

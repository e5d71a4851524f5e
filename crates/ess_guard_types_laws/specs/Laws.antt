-- The law that guarding keeps types.
use Rattle.std.specs.Prelude.{◌≡◌, Bool, true, Some}
use Rattle.ess_semantics.specs.Values.{Text}
use Rattle.ess_semantics.specs.Names.{Names}
use Rattle.ess_semantics.specs.Trees.{Ex}
use Rattle.ess_semantics.specs.Types.{Ty, bool_ty, int_ty}
use Rattle.ess_semantics.specs.Typing.{type_of}
use Rattle.ess_guard_laws.specs.Guard.{make_total, make_natural, make_total_term}
use Rattle.ess_guard_types_laws.specs.HasTypes.{agrees, HasTypes}

-- Where each part of a tree has a type, each part of it has one under conditions, and the tree has its own. So it is with natural forms,
-- and with both answers for a term: that it has a value is a Boolean.
pub record GuardedKeepsTypes : Type 0 where
  pub total : (x y : Text) (g : Names Ty) (e : Ex) → HasTypes e g →
      HasTypes (make_total x y e) g × (type_of (make_total x y e) g ≡ type_of e g)
  pub natural : (x y : Text) (g : Names Ty) (e : Ex) → HasTypes e g →
      HasTypes (make_natural x y e) g × (type_of (make_natural x y e) g ≡ type_of e g)
  pub there : (x y : Text) (g : Names Ty) (is_int : Bool) (e : Ex) → HasTypes e g →
      HasTypes ((make_total_term x y is_int e).0) g × (type_of ((make_total_term x y is_int e).0) g ≡ Some bool_ty)
  pub term : (x y : Text) (g : Names Ty) (is_int : Bool) (e : Ex) → HasTypes e g → (is_int ≡ true → agrees (type_of e g) int_ty ≡ true) →
      HasTypes ((make_total_term x y is_int e).1) g

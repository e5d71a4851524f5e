-- The law that guarding keeps marks.
use Rattle.std.specs.Prelude.{◌≡◌, Bool, true}
use Rattle.ess_semantics.specs.Values.{Text}
use Rattle.ess_semantics.specs.Names.{Names}
use Rattle.ess_semantics.specs.Trees.{Ex}
use Rattle.ess_semantics.specs.Types.{Ty, int_ty}
use Rattle.ess_semantics.specs.Typing.{type_of}
use Rattle.ess_guard_laws.specs.Guard.{make_total, make_natural, make_total_term}
use Rattle.ess_guard_laws.specs.Covered.{Covered}
use Rattle.ess_guard_types_laws.specs.HasTypes.{agrees, HasTypes}
use Rattle.ess_refine_laws.specs.MarksStay.{HasMarks}

-- Where each part of a covered tree has a type and the right mark, so it is under conditions, and so it is with natural forms and with
-- both answers for a term.
pub record GuardingKeepsMarks : Type 0 where
  pub total : (x y : Text) (g : Names Ty) (e : Ex) → HasTypes e g → HasMarks e g → Covered e → HasMarks (make_total x y e) g
  pub natural : (x y : Text) (g : Names Ty) (e : Ex) → HasTypes e g → HasMarks e g → Covered e → HasMarks (make_natural x y e) g
  pub there : (x y : Text) (g : Names Ty) (is_int : Bool) (e : Ex) → HasTypes e g → HasMarks e g → Covered e →
      HasMarks ((make_total_term x y is_int e).0) g
  pub term : (x y : Text) (g : Names Ty) (is_int : Bool) (e : Ex) → HasTypes e g → HasMarks e g → Covered e →
      (is_int ≡ true → agrees (type_of e g) int_ty ≡ true) → HasMarks ((make_total_term x y is_int e).1) g

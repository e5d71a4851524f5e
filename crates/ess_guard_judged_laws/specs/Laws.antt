-- Laws of judged trees under the guard.
use Rattle.std.specs.Prelude.{◌≡◌, Bool, true, Some}
use Rattle.ess_semantics.specs.Values.{Text}
use Rattle.ess_semantics.specs.Trees.{Ex, Dom, Stm}
use Rattle.ess_semantics.specs.Types.{bool_ty, int_ty}
use Rattle.ess_semantics.specs.Typing.{type_of}
use Rattle.ess_semantics.specs.Scopes.{Scope, every, every_dom}
use Rattle.ess_semantics.specs.Judgements.{ill_typed, expression_of, domain_in, meets}
use Rattle.ess_semantics.specs.Resolving.{resolve, resolve_dom}
use Rattle.ess_guard_laws.specs.Guard.{make_total, make_natural, make_total_term}
use Rattle.ess_guard_types_laws.specs.HasTypes.{agrees, HasTypes, DomHasTypes}
use Rattle.ess_guard_judged_laws.specs.IndexedItems.{indexing}

-- Each part of the expression, and of the domain, of a statement that is judged to be well typed has a type once it is resolved.
pub record JudgedTreesHaveTypes : Type 0 where
  pub expressions : (w t : Stm) (s : Scope) (e : Ex) → expression_of t ≡ Some e → meets ill_typed w t s ≡ true → every indexing e s ≡ true →
      HasTypes (resolve e s.tys) s.tys
  pub domains : (w t : Stm) (s : Scope) (d : Dom) → domain_in t ≡ Some d → meets ill_typed w t s ≡ true → every_dom indexing d s ≡ true →
      DomHasTypes (resolve_dom d s.tys) s.tys

-- So the resolved expression of such a statement keeps its type, with each part typed, made total, with natural places, and as a term
-- under its conditions; that these hold is a Boolean.
pub record JudgedGuardsKeepTypes : Type 0 where
  pub total : (x y : Text) (w t : Stm) (s : Scope) (e : Ex) → expression_of t ≡ Some e → meets ill_typed w t s ≡ true →
      every indexing e s ≡ true →
      HasTypes (make_total x y (resolve e s.tys)) s.tys × (type_of (make_total x y (resolve e s.tys)) s.tys ≡ type_of e s.tys)
  pub natural : (x y : Text) (w t : Stm) (s : Scope) (e : Ex) → expression_of t ≡ Some e → meets ill_typed w t s ≡ true →
      every indexing e s ≡ true →
      HasTypes (make_natural x y (resolve e s.tys)) s.tys × (type_of (make_natural x y (resolve e s.tys)) s.tys ≡ type_of e s.tys)
  pub there : (x y : Text) (is_int : Bool) (w t : Stm) (s : Scope) (e : Ex) → expression_of t ≡ Some e → meets ill_typed w t s ≡ true →
      every indexing e s ≡ true →
      HasTypes ((make_total_term x y is_int (resolve e s.tys)).0) s.tys
      × (type_of ((make_total_term x y is_int (resolve e s.tys)).0) s.tys ≡ Some bool_ty)
  pub term : (x y : Text) (is_int : Bool) (w t : Stm) (s : Scope) (e : Ex) → expression_of t ≡ Some e → meets ill_typed w t s ≡ true →
      every indexing e s ≡ true → (is_int ≡ true → agrees (type_of e s.tys) int_ty ≡ true) →
      HasTypes ((make_total_term x y is_int (resolve e s.tys)).1) s.tys

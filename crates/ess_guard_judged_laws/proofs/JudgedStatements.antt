-- Statements that are judged to be well typed have trees whose parts have types.
use Rattle.std.proofs.Common.{◌≡◌, sym, ap, ◌∙◌, Bool, true, ◌&&◌, Option, Some}
use Rattle.std.specs.Prelude.{is_some}
use Rattle.std.specs.List.{list_all}
use Rattle.ess_semantics.specs.Lists.{is_none_or}
use Rattle.ess_semantics.specs.Trees.{Ex, Dom, Stm}
use Rattle.ess_semantics.specs.Typing.{type_of}
use Rattle.ess_semantics.specs.Kinds.{is_atom}
use Rattle.ess_semantics.specs.Scopes.{Scope, every, every_dom}
use Rattle.ess_semantics.specs.DomainJudgements.{are_ints, numbers_of, ranges_fit, ranges_of, marks_fit, index_domains, fields_distinct, dom_fits}
use Rattle.ess_semantics.specs.ExpressionJudgements.{ex_fits, part_fits}
use Rattle.ess_semantics.specs.Judgements.{ill_typed, expression_of, domain_in, every_of_stm, place_fits, order_is_fit, meets}
use Rattle.ess_semantics.specs.Resolving.{resolve}
use Rattle.ess_semantics.proofs.Tests.{and-left, and-right}
use Rattle.ess_guard_types_laws.specs.HasTypes.{HasTypes}
use Rattle.ess_guard_judged_laws.specs.IndexedItems.{indexes_something, indexing}
use Rattle.ess_guard_judged_laws.specs.Laws.{JudgedTreesHaveTypes}
use Rattle.ess_guard_judged_laws.proofs.TypedTogether.{typed, typed_parts, both-ex, both-dom}
use Rattle.ess_guard_judged_laws.proofs.JudgedTypes.{judged-types, dom-types}

-- ---- what the judgement asks

typed-part : (x : Ex) (z : Scope) → ex_fits x z && indexes_something x z ≡ true → is_some (type_of x z.tys) ≡ true
typed-part x z h = and-left (is_some (type_of x z.tys)) (part_fits x z) (and-left (ex_fits x z) (indexes_something x z) h)

item-part : (x : Ex) (z : Scope) → ex_fits x z && indexes_something x z ≡ true → indexes_something x z ≡ true
item-part x z h = and-right (ex_fits x z) (indexes_something x z) h

int-part : (d : Dom) (z : Scope) → dom_fits d z ≡ true → are_ints (numbers_of d) z ≡ true
int-part d z h =
    and-left (are_ints (numbers_of d) z) (ranges_fit (ranges_of d))
    (and-left (are_ints (numbers_of d) z && ranges_fit (ranges_of d)) (marks_fit d)
    (and-left (are_ints (numbers_of d) z && ranges_fit (ranges_of d) && marks_fit d) (list_all is_atom (index_domains d))
    (and-left (are_ints (numbers_of d) z && ranges_fit (ranges_of d) && marks_fit d && list_all is_atom (index_domains d))
    (fields_distinct d) h)))

-- ---- statements

holds-of : {A : Type 0} (o : Option A) (f : A → Bool) (a : A) → o ≡ Some a → is_none_or o f ≡ true → f a ≡ true
holds-of o f a e h = sym (ap (λ p. is_none_or p f) e) ∙ h

asked : (w t : Stm) (s : Scope) → meets ill_typed w t s ≡ true → every_of_stm typed t s ≡ true
asked w t s h =
    and-left (every_of_stm typed t s) (place_fits t s) (and-left (every_of_stm typed t s && place_fits t s) (order_is_fit t s) h)

pub expression-types : (w t : Stm) (s : Scope) (e : Ex) → expression_of t ≡ Some e → meets ill_typed w t s ≡ true →
    every indexing e s ≡ true → HasTypes (resolve e s.tys) s.tys
expression-types w t s e x h k =
    judged-types typed_parts typed-part item-part int-part e s
    (both-ex e s (holds-of (expression_of t) (λ e. every typed e s) e x
    (and-left (is_none_or (expression_of t) (λ e. every typed e s)) (is_none_or (domain_in t) (λ d. every_dom typed d s))
    (asked w t s h))) k)

pub judged-trees-typed : JudgedTreesHaveTypes
judged-trees-typed = record {
  expressions = expression-types;
  domains = λ w t s d x h k.
      dom-types typed_parts typed-part item-part int-part d s
      (both-dom d s (holds-of (domain_in t) (λ d. every_dom typed d s) d x
      (and-right (is_none_or (expression_of t) (λ e. every typed e s)) (is_none_or (domain_in t) (λ d. every_dom typed d s))
      (asked w t s h))) k);
}

-- From a judged tree of a specification to a refined tree over tables: each cell in a condition or a domain is one of a given.
use Rattle.std.specs.Prelude.{◌≡◌, Bool, true, [], ℕ, ◌≤◌, ◌^◌}
use Rattle.ess_semantics.specs.Values.{Text}
use Rattle.ess_semantics.specs.Names.{Names}
use Rattle.ess_semantics.specs.Trees.{Ex}
use Rattle.ess_semantics.specs.Types.{Ty}
use Rattle.ess_semantics.specs.Scopes.{Scope}
use Rattle.ess_semantics.specs.Refined.{is_refined}
use Rattle.ess_semantics.specs.Resolving.{resolve}
use Rattle.ess_semantics.specs.Judgements.{is_well_typed_at}
use Rattle.conjure_laws.specs.PlainTrees.{Plain}
use Rattle.conjure_model_laws.specs.ToldApart.{told, told_apart}
use Rattle.conjure_model_laws.specs.Shown.{Shows, in_place, shown}
use Rattle.ess_chain_names_laws.specs.NamesHave.{NamesHave}
use Rattle.ess_chain_names_laws.specs.Steps.{Chain}
use Rattle.ess_given_conditions_laws.specs.GivenChains.{IsGivenStep, SparesAll}
use Rattle.ess_given_conditions_laws.specs.ConditionsEnd.{SettledIn}
use Rattle.ess_given_judged_laws.specs.ShownGiven.{ShowsGiven}
use Rattle.ess_given_judged_laws.specs.JudgedGiven.{HasGivens}
use Rattle.ess_given_judged_laws.specs.SpecificationsGiven.{IsBegun}
use Rattle.ess_given_order_laws.specs.InOrder.{Ordered, InOrder}
use Rattle.ess_given_order_laws.specs.OrderEnds.{AllGiven}
use Rattle.ess_given_order_laws.specs.OrderInScope.{is_ordered_in}

-- What stands in the place of names is in order: views and cells are, since they have no comprehensions outside of domains.
pub record ShowsOrdered (sh : Shows) (u : Text → Bool) : Type 0 where
  pub first : (a : Text) → InOrder u (in_place sh.first a)
  pub last : (a : Text) → InOrder u (in_place sh.last a)

-- In a tree that is judged in a scope, resolved, comprehensions are in order at their places where order counts. Views in the place of
-- names leave them so. So from a judged tree of a specification, shown over its views, each chain of rules to a refined tree in which no
-- condition can leave ends with cells of givens alone in conditions and domains.
pub record SpecificationsStayGiven : Type 0 where
  pub judged : (counts : Bool) (e : Ex) (s : Scope) (w t : Text → Bool) → is_well_typed_at counts e s ≡ true →
      NamesHave w (resolve e s.tys) → Plain (resolve e s.tys) → HasGivens w s t → is_ordered_in t t (resolve e s.tys) ≡ true
  pub shown_over : (u : Text → Bool) (sh : Shows) → ShowsGiven sh u → ShowsOrdered sh u → (e : Ex) → Ordered u e → Ordered u (shown sh e)
  pub ends : (counts : Bool) (e : Ex) (s : Scope) (n m : ℕ) (sh : Shows) (w t : Text → Bool) (g : Names Ty) (new : Ex) →
      IsBegun counts e s n sh w t → ((v : Text → Bool) → ShowsOrdered sh v) →
      SparesAll (told (resolve e s.tys) [] n).1 (shown sh (told_apart n (resolve e s.tys))) →
      Chain IsGivenStep (told (resolve e s.tys) [] n).1 g (shown sh (told_apart n (resolve e s.tys))) new m → m ≤ 2 ^ 64 →
      is_refined new ≡ true → SettledIn new → AllGiven n m t new

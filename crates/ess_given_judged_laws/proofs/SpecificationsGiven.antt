-- From a judged tree of a specification to a refined tree over tables.
use Rattle.std.proofs.Common.{◌≡◌, ℕ, ◌≤◌, ◌^◌, Bool, true, [], arith}
use Rattle.ess_semantics.specs.Values.{Text}
use Rattle.ess_semantics.specs.Names.{Names}
use Rattle.ess_semantics.specs.Trees.{Ex}
use Rattle.ess_semantics.specs.Types.{Ty}
use Rattle.ess_semantics.specs.Scopes.{Scope}
use Rattle.ess_semantics.specs.Refined.{is_refined}
use Rattle.ess_semantics.specs.Resolving.{resolve}
use Rattle.conjure_model_laws.specs.ToldApart.{told, told_apart}
use Rattle.conjure_model_laws.specs.Shown.{Shows, shown}
use Rattle.ess_chain_names_laws.specs.Steps.{Chain}
use Rattle.ess_chain_names_laws.proofs.ToldNames.{ex-up}
use Rattle.ess_given_conditions_laws.specs.GivenChains.{IsGivenStep, SparesAll}
use Rattle.ess_given_conditions_laws.specs.ConditionsEnd.{SettledIn}
use Rattle.ess_given_conditions_laws.specs.GivenInConditions.{EndsGiven}
use Rattle.ess_given_conditions_laws.proofs.ToldTrees.{told-trees-are-given}
use Rattle.ess_given_conditions_laws.proofs.GivenChains.{grows-on}
use Rattle.ess_given_conditions_laws.proofs.GivenInConditions.{given-in-conditions}
use Rattle.ess_given_judged_laws.specs.SpecificationsGiven.{BeginsGiven, IsBegun, SpecificationsGiven}
use Rattle.ess_given_judged_laws.proofs.ShownGiven.{shown-trees-are-given}
use Rattle.ess_given_judged_laws.proofs.JudgedGiven.{judged-trees-are-given}

begins : (counts : Bool) (e : Ex) (s : Scope) (n : ℕ) (sh : Shows) (w t : Text → Bool) → IsBegun counts e s n sh w t →
    BeginsGiven n t sh (resolve e s.tys)
begins counts e s n sh w t b =
    let f = resolve e s.tys in
    let x = told-trees-are-given.apart t n f b.spared b.numbers
    (judged-trees-are-given counts e s w t b.judged b.names b.plain b.givens) in
    record {
      names = x.names;
      grow = x.grow;
      given = shown-trees-are-given.given x.names sh (b.shows x.names x.grow) (told_apart n f) x.given;
    }

ends : (counts : Bool) (e : Ex) (s : Scope) (n m : ℕ) (sh : Shows) (w t : Text → Bool) (g : Names Ty) (new : Ex) →
    IsBegun counts e s n sh w t →
    SparesAll (told (resolve e s.tys) [] n).1 (shown sh (told_apart n (resolve e s.tys))) →
    Chain IsGivenStep (told (resolve e s.tys) [] n).1 g (shown sh (told_apart n (resolve e s.tys))) new m → m ≤ 2 ^ 64 →
    is_refined new ≡ true → SettledIn new → EndsGiven n m t new
ends counts e s n m sh w t g new b a c l r d =
    let f = resolve e s.tys in
    let k = (told f [] n).1 in
    let x = begins counts e s n sh w t b in
    let y = given-in-conditions.of_given_trees x.names k m g (shown sh (told_apart n f)) new x.grow.none_from a x.given c l r d in
    record {
      names = y.names;
      grow = grows-on n n k m t x.names y.names (same n) (ex-up f [] n) x.grow y.grow;
      domains = y.domains;
      conditions = y.conditions;
    }
  where
    same : (i : ℕ) → i ≤ i
    same i = omega arith

-- What is proved of specifications.
pub specifications-given : SpecificationsGiven
specifications-given = record { begins = begins; ends = ends }

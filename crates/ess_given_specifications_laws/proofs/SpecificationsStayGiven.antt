-- From judged trees of a specification to refined trees whose conditions and domains read given tables.
use Rattle.std.proofs.Common.{◌≡◌, ℕ, ◌≤◌, ◌^◌, Bool, true, ◌&&◌, [], arith}
use Rattle.ess_semantics.specs.Values.{Text}
use Rattle.ess_semantics.specs.Names.{Names}
use Rattle.ess_semantics.specs.Trees.{Ex}
use Rattle.ess_semantics.specs.Types.{Ty}
use Rattle.ess_semantics.specs.Scopes.{Scope, nothing_asked, every}
use Rattle.ess_semantics.specs.ExpressionJudgements.{orders_fit}
use Rattle.ess_semantics.specs.Refined.{is_refined}
use Rattle.ess_semantics.specs.Resolving.{resolve}
use Rattle.ess_semantics.specs.Judgements.{name_is_known, domain_is_known, is_well_typed_at}
use Rattle.ess_semantics.proofs.Tests.{and-left, and-right}
use Rattle.conjure_laws.specs.PlainTrees.{Plain}
use Rattle.conjure_model_laws.specs.ToldApart.{told, told_apart}
use Rattle.conjure_model_laws.specs.Shown.{Shows, shown}
use Rattle.ess_chain_names_laws.specs.NamesHave.{NamesHave}
use Rattle.ess_chain_names_laws.specs.Steps.{Chain}
use Rattle.ess_chain_names_laws.proofs.ToldNames.{ex-up}
use Rattle.ess_given_conditions_laws.specs.GivenChains.{IsGivenStep, SparesAll}
use Rattle.ess_given_conditions_laws.specs.ConditionsEnd.{SettledIn}
use Rattle.ess_given_conditions_laws.proofs.GivenChains.{grows-on}
use Rattle.ess_given_judged_laws.specs.JudgedGiven.{HasGivens}
use Rattle.ess_given_judged_laws.specs.SpecificationsGiven.{IsBegun}
use Rattle.ess_given_judged_laws.proofs.ShownGiven.{shown-trees-are-given}
use Rattle.ess_given_judged_laws.proofs.JudgedDomains.{fit, listed}
use Rattle.ess_given_judged_laws.proofs.JudgedGiven.{judged-trees-are-given}
use Rattle.ess_given_order_laws.specs.OrderEnds.{AllGiven}
use Rattle.ess_given_order_laws.specs.OrderInScope.{is_ordered_in}
use Rattle.ess_given_order_laws.proofs.OrderEnds.{order-ends}
use Rattle.ess_given_order_laws.proofs.OrderInScope.{given-stays-in-conditions}
use Rattle.ess_given_specifications_laws.specs.JudgedOrder.{ShowsOrdered, SpecificationsStayGiven}
use Rattle.ess_given_specifications_laws.proofs.JudgedOrder.{judged-ordered}
use Rattle.ess_given_specifications_laws.proofs.ShownOrder.{order-shown}

judged : (counts : Bool) (e : Ex) (s : Scope) (w t : Text → Bool) → is_well_typed_at counts e s ≡ true →
    NamesHave w (resolve e s.tys) → Plain (resolve e s.tys) → HasGivens w s t → is_ordered_in t t (resolve e s.tys) ≡ true
judged counts e s w t h n p g =
    let known = every (record nothing_asked { of_ex = name_is_known; of_dom = domain_is_known }) e s in
    let b = and-left (known && every fit e s && orders_fit counts e s) (every listed e s) h in
    judged-ordered t w e s t g counts (and-right known (every fit e s) (and-left (known && every fit e s) (orders_fit counts e s) b))
    (and-right (known && every fit e s) (orders_fit counts e s) b) n p

ends : (counts : Bool) (e : Ex) (s : Scope) (n m : ℕ) (sh : Shows) (w t : Text → Bool) (g : Names Ty) (new : Ex) →
    IsBegun counts e s n sh w t → ((v : Text → Bool) → ShowsOrdered sh v) →
    SparesAll (told (resolve e s.tys) [] n).1 (shown sh (told_apart n (resolve e s.tys))) →
    Chain IsGivenStep (told (resolve e s.tys) [] n).1 g (shown sh (told_apart n (resolve e s.tys))) new m → m ≤ 2 ^ 64 →
    is_refined new ≡ true → SettledIn new → AllGiven n m t new
ends counts e s n m sh w t g new b o a c l r d =
    let f = resolve e s.tys in
    let k = (told f [] n).1 in
    let x = given-stays-in-conditions.apart t n f b.spared b.numbers
    (judged-trees-are-given counts e s w t b.judged b.names b.plain b.givens)
    (judged counts e s w t b.judged b.names b.plain b.givens) in
    let z = b.shows x.names x.grow in
    let y = order-ends.along x.names k m g (shown sh (told_apart n f)) new x.grow.none_from a
    (shown-trees-are-given.given x.names sh z (told_apart n f) x.given) (order-shown x.names sh z (o x.names) (told_apart n f)
    x.ordered)
    c l r d in
    record {
      names = y.names;
      grow = grows-on n n k m t x.names y.names (same n) (ex-up f [] n) x.grow y.grow;
      domains = y.domains;
      conditions = y.conditions;
    }
  where
    same : (i : ℕ) → i ≤ i
    same i = omega arith

-- What is proved of specifications.
pub specifications-stay-given : SpecificationsStayGiven
specifications-stay-given = record { judged = judged; shown_over = λ u sh g s e h. order-shown u sh g s e h; ends = ends }

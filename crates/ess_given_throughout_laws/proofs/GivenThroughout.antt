-- What is given in conditions stays along chains of all rules, from judged trees of a specification to refined trees over tables.
use Rattle.std.proofs.Common.{◌≡◌, ℕ, ◌≤◌, ◌^◌, Bool, true, [], arith}
use Rattle.ess_semantics.specs.Values.{Text}
use Rattle.ess_semantics.specs.Names.{Names}
use Rattle.ess_semantics.specs.Trees.{Ex}
use Rattle.ess_semantics.specs.Types.{Ty}
use Rattle.ess_semantics.specs.Scopes.{Scope}
use Rattle.ess_semantics.specs.Refined.{is_refined}
use Rattle.ess_semantics.specs.Resolving.{resolve}
use Rattle.ess_repr_declare_laws.specs.SizeTerms.{unused_name}
use Rattle.conjure_model_laws.specs.ToldApart.{told, told_apart}
use Rattle.conjure_model_laws.specs.Shown.{Shows, shown}
use Rattle.ess_chain_names_laws.proofs.ToldNames.{ex-up}
use Rattle.ess_given_laws.specs.Given.{GivenIn}
use Rattle.ess_given_laws.proofs.GivenEnds.{given-ends}
use Rattle.ess_given_conditions_laws.specs.ConditionsEnd.{SettledIn}
use Rattle.ess_given_conditions_laws.specs.GivenChains.{SparesAll}
use Rattle.ess_given_conditions_laws.specs.GrowingNames.{HasNoneFrom, Grows}
use Rattle.ess_given_conditions_laws.specs.InScope.{is_given_in}
use Rattle.ess_given_conditions_laws.proofs.GivenChains.{grows-on}
use Rattle.ess_given_conditions_laws.proofs.GivenSteps.{spares-told}
use Rattle.ess_given_order_laws.specs.InOrder.{Ordered}
use Rattle.ess_given_order_laws.specs.OrderEnds.{AllGiven}
use Rattle.ess_given_order_laws.specs.OrderInScope.{is_ordered_in}
use Rattle.ess_given_order_laws.proofs.OrderEnds.{order-ends}
use Rattle.ess_given_order_laws.proofs.OrderInScope.{given-stays-in-conditions}
use Rattle.ess_given_judged_laws.specs.SpecificationsGiven.{IsBegun}
use Rattle.ess_given_judged_laws.proofs.JudgedGiven.{judged-trees-are-given}
use Rattle.ess_given_judged_laws.proofs.ShownGiven.{shown-trees-are-given}
use Rattle.ess_given_offers_laws.specs.Seen.{Counts}
use Rattle.ess_given_specifications_laws.specs.JudgedOrder.{ShowsOrdered}
use Rattle.ess_given_specifications_laws.proofs.SpecificationsStayGiven.{specifications-stay-given}
use Rattle.ess_given_rulings_laws.specs.RulingChains.{RulingChain}
use Rattle.ess_given_rulings_laws.proofs.RulingChains.{ruling-chains-keep-given}
use Rattle.ess_given_throughout_laws.specs.GivenThroughout.{GivenThroughout}

on : (a b c : ℕ) → a ≤ b → b ≤ c → a ≤ c
on a b c p q = omega (arith, p, q)

itself : (a : ℕ) → a ≤ a
itself a = omega arith

along : (t : Text → Bool) (j n m : ℕ) (g : Names Ty) (old new : Ex) → Counts t → HasNoneFrom n t → SparesAll n old → GivenIn t old →
    Ordered t old → RulingChain j t n g old new m → m ≤ 2 ^ 64 → is_refined new ≡ true → SettledIn new → AllGiven n m t new
along t j n m g old new k f s h o c l r d = let x = ruling-chains-keep-given.along j t n m g old new c l k f s h o in record {
  names = x.names;
  grow = x.grow;
  domains = given-ends.domains x.names new x.given;
  conditions = order-ends.everywhere x.names new r d x.ordered;
}

judged-trees : (t : Text → Bool) (j n m : ℕ) (g : Names Ty) (e new : Ex) → Counts t → HasNoneFrom n t → SparesAll n e →
    is_given_in t t e ≡ true → is_ordered_in t t e ≡ true → (told e [] n).1 ≤ m → m ≤ 2 ^ 64 →
    ((v : Text → Bool) → Grows n (told e [] n).1 t v → RulingChain j v (told e [] n).1 g (told_apart n e) new m) →
    is_refined new ≡ true → SettledIn new → AllGiven n m t new
judged-trees t j n m g e new k f s h o p l c r d =
    let i = (told e [] n).1 in
    let b = on i m (2 ^ 64) p l in
    let x = given-stays-in-conditions.apart t n e f b h o in
    let y = along x.names j i m g (told_apart n e) new (x.grow.more unused_name k) x.grow.none_from (spares-told n e s b) x.given x.ordered
    (c x.names x.grow) l r d in
    record {
      names = y.names;
      grow = grows-on n n i m t x.names y.names (itself n) (ex-up e [] n) x.grow y.grow;
      domains = y.domains;
      conditions = y.conditions;
    }

specifications : (counts : Bool) (e : Ex) (s : Scope) (j n m : ℕ) (sh : Shows) (w t : Text → Bool) (g : Names Ty) (new : Ex) →
    Counts t → IsBegun counts e s n sh w t → ((v : Text → Bool) → ShowsOrdered sh v) →
    SparesAll (told (resolve e s.tys) [] n).1 (shown sh (told_apart n (resolve e s.tys))) →
    (told (resolve e s.tys) [] n).1 ≤ m → m ≤ 2 ^ 64 →
    ((v : Text → Bool) → Grows n (told (resolve e s.tys) [] n).1 t v →
    RulingChain j v (told (resolve e s.tys) [] n).1 g (shown sh (told_apart n (resolve e s.tys))) new m) →
    is_refined new ≡ true → SettledIn new → AllGiven n m t new
specifications counts e s j n m sh w t g new k b o a p l c r d =
    let f = resolve e s.tys in
    let i = (told f [] n).1 in
    let x = given-stays-in-conditions.apart t n f b.spared b.numbers
    (judged-trees-are-given counts e s w t b.judged b.names b.plain b.givens)
    (specifications-stay-given.judged counts e s w t b.judged b.names b.plain b.givens) in
    let z = b.shows x.names x.grow in
    let y = along x.names j i m g (shown sh (told_apart n f)) new (x.grow.more unused_name k) x.grow.none_from a
    (shown-trees-are-given.given x.names sh z (told_apart n f) x.given)
    (specifications-stay-given.shown_over x.names sh z (o x.names) (told_apart n f) x.ordered)
    (c x.names x.grow) l r d in
    record {
      names = y.names;
      grow = grows-on n n i m t x.names y.names (itself n) (ex-up f [] n) x.grow y.grow;
      domains = y.domains;
      conditions = y.conditions;
    }

-- What is proved of all of it.
pub given-throughout : GivenThroughout
given-throughout = record { along = along; of_judged_trees = judged-trees; of_specifications = specifications }

-- What is given in conditions stays along chains of all rules but those of counted sources, from judged trees of a specification to refined
-- trees over tables.
use Rattle.std.specs.Prelude.{◌≡◌, Bool, true, [], ℕ, ◌≤◌, ◌^◌}
use Rattle.ess_semantics.specs.Values.{Text}
use Rattle.ess_semantics.specs.Names.{Names}
use Rattle.ess_semantics.specs.Trees.{Ex}
use Rattle.ess_semantics.specs.Types.{Ty}
use Rattle.ess_semantics.specs.Scopes.{Scope}
use Rattle.ess_semantics.specs.Refined.{is_refined}
use Rattle.ess_semantics.specs.Resolving.{resolve}
use Rattle.conjure_model_laws.specs.ToldApart.{told, told_apart}
use Rattle.conjure_model_laws.specs.Shown.{Shows, shown}
use Rattle.ess_given_laws.specs.Given.{GivenIn}
use Rattle.ess_given_conditions_laws.specs.ConditionsEnd.{SettledIn}
use Rattle.ess_given_conditions_laws.specs.GivenChains.{SparesAll}
use Rattle.ess_given_conditions_laws.specs.GrowingNames.{HasNoneFrom, Grows}
use Rattle.ess_given_conditions_laws.specs.InScope.{is_given_in}
use Rattle.ess_given_order_laws.specs.InOrder.{Ordered}
use Rattle.ess_given_order_laws.specs.OrderEnds.{AllGiven}
use Rattle.ess_given_order_laws.specs.OrderInScope.{is_ordered_in}
use Rattle.ess_given_judged_laws.specs.SpecificationsGiven.{IsBegun}
use Rattle.ess_given_offers_laws.specs.Seen.{Counts}
use Rattle.ess_given_specifications_laws.specs.JudgedOrder.{ShowsOrdered}
use Rattle.ess_given_rulings_laws.specs.RulingChains.{RulingChain}

-- For each set t of names, with the one that sizes bind: each cell in a domain or a condition of a refined tree in which no condition can
-- leave is one of t, or has a reserved name, which no table has. So it is where a chain of rules of all sorts, but of those of counted
-- sources, ends that begins with a tree in which what is given is given, for t, and comprehensions are in order where order counts; with
-- the tree told apart whose numbers in domains, and conditions where order counts, are fixed at their places, where t are the names that
-- are fixed; and with a judged tree of a specification, resolved, told apart and shown over its views, where t has the tables of givens.
-- The chain is one for whatever names grow from t by reserved ones.
pub record GivenThroughout : Type 0 where
  pub along : (t : Text → Bool) (j n m : ℕ) (g : Names Ty) (old new : Ex) → Counts t → HasNoneFrom n t → SparesAll n old → GivenIn t old →
      Ordered t old → RulingChain j t n g old new m → m ≤ 2 ^ 64 → is_refined new ≡ true → SettledIn new → AllGiven n m t new
  pub of_judged_trees : (t : Text → Bool) (j n m : ℕ) (g : Names Ty) (e new : Ex) → Counts t → HasNoneFrom n t → SparesAll n e →
      is_given_in t t e ≡ true → is_ordered_in t t e ≡ true → (told e [] n).1 ≤ m → m ≤ 2 ^ 64 →
      ((v : Text → Bool) → Grows n (told e [] n).1 t v → RulingChain j v (told e [] n).1 g (told_apart n e) new m) →
      is_refined new ≡ true → SettledIn new → AllGiven n m t new
  pub of_specifications : (counts : Bool) (e : Ex) (s : Scope) (j n m : ℕ) (sh : Shows) (w t : Text → Bool) (g : Names Ty) (new : Ex) →
      Counts t → IsBegun counts e s n sh w t → ((v : Text → Bool) → ShowsOrdered sh v) →
      SparesAll (told (resolve e s.tys) [] n).1 (shown sh (told_apart n (resolve e s.tys))) →
      (told (resolve e s.tys) [] n).1 ≤ m → m ≤ 2 ^ 64 →
      ((v : Text → Bool) → Grows n (told (resolve e s.tys) [] n).1 t v →
      RulingChain j v (told (resolve e s.tys) [] n).1 g (shown sh (told_apart n (resolve e s.tys))) new m) →
      is_refined new ≡ true → SettledIn new → AllGiven n m t new

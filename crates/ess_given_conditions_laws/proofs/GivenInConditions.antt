-- What is given in conditions stays.
use Rattle.std.proofs.Common.{◌≡◌, ℕ, ◌≤◌, ◌^◌, Bool, true, [], arith}
use Rattle.ess_semantics.specs.Values.{Text}
use Rattle.ess_semantics.specs.Names.{Names}
use Rattle.ess_semantics.specs.Trees.{Ex}
use Rattle.ess_semantics.specs.Types.{Ty}
use Rattle.ess_semantics.specs.Refined.{is_refined}
use Rattle.ess_given_laws.specs.conjure_model_laws.ToldApart.{told, told_apart}
use Rattle.ess_given_laws.specs.ess_chain_names_laws.Steps.{Chain}
use Rattle.ess_given_laws.proofs.ess_chain_names_laws.ToldNames.{ex-up}
use Rattle.ess_given_laws.specs.Given.{GivenIn}
use Rattle.ess_given_laws.proofs.GivenEnds.{given-ends}
use Rattle.ess_given_conditions_laws.specs.InScope.{is_given_in}
use Rattle.ess_given_conditions_laws.specs.GrowingNames.{HasNoneFrom}
use Rattle.ess_given_conditions_laws.specs.GivenChains.{IsGivenStep, SparesAll}
use Rattle.ess_given_conditions_laws.specs.ConditionsEnd.{SettledIn}
use Rattle.ess_given_conditions_laws.specs.GivenInConditions.{EndsGiven, GivenInConditions}
use Rattle.ess_given_conditions_laws.proofs.ToldTrees.{told-trees-are-given}
use Rattle.ess_given_conditions_laws.proofs.GivenSteps.{spares-told}
use Rattle.ess_given_conditions_laws.proofs.GivenChains.{chain-up, grows-on, chains-keep-given}
use Rattle.ess_given_conditions_laws.proofs.ConditionsEnd.{conditions-end}

given-trees : (t : Text → Bool) (n m : ℕ) (g : Names Ty) (old new : Ex) → HasNoneFrom n t → SparesAll n old → GivenIn t old →
    Chain IsGivenStep n g old new m → m ≤ 2 ^ 64 → is_refined new ≡ true → SettledIn new → EndsGiven n m t new
given-trees t n m g old new f s h c l r e = let x = chains-keep-given.along t n m g old new c l f s h in record {
  names = x.names;
  grow = x.grow;
  domains = given-ends.domains x.names new x.given;
  conditions = conditions-end.everywhere new r e;
}

judged-trees : (t : Text → Bool) (n m : ℕ) (g : Names Ty) (e new : Ex) → HasNoneFrom n t → SparesAll n e →
    is_given_in t t e ≡ true → Chain IsGivenStep (told e [] n).1 g (told_apart n e) new m → m ≤ 2 ^ 64 → is_refined new ≡ true →
    SettledIn new → EndsGiven n m t new
judged-trees t n m g e new f s h c l r d =
    let k = (told e [] n).1 in
    let b = on k m (2 ^ 64) (chain-up k m g (told_apart n e) new c) l in
    let x = told-trees-are-given.apart t n e f b h in
    let y = given-trees x.names k m g (told_apart n e) new x.grow.none_from (spares-told n e s b) x.given c l r d in
    record {
      names = y.names;
      grow = grows-on n n k m t x.names y.names (same n) (ex-up e [] n) x.grow y.grow;
      domains = y.domains;
      conditions = y.conditions;
    }
  where
    on : (a b c : ℕ) → a ≤ b → b ≤ c → a ≤ c
    on a b c p q = omega (arith, p, q)

    same : (a : ℕ) → a ≤ a
    same a = omega arith

-- What is proved of conditions and domains together.
pub given-in-conditions : GivenInConditions
given-in-conditions = record { of_judged_trees = judged-trees; of_given_trees = given-trees }

-- What is given in conditions stays: from a tree that is judged over given tables to a refined one.
use Rattle.std.specs.Prelude.{◌≡◌, Bool, true, [], ℕ, ◌≤◌, ◌^◌}
use Rattle.ess_semantics.specs.Values.{Text}
use Rattle.ess_semantics.specs.Names.{Names}
use Rattle.ess_semantics.specs.Trees.{Ex}
use Rattle.ess_semantics.specs.Types.{Ty}
use Rattle.ess_semantics.specs.Refined.{is_refined}
use Rattle.ess_given_laws.specs.conjure_model_laws.ToldApart.{told, told_apart}
use Rattle.ess_given_laws.specs.ess_chain_names_laws.Steps.{Chain}
use Rattle.ess_given_laws.specs.Given.{GivenIn}
use Rattle.ess_given_laws.specs.GivenEnds.{domains_read_given}
use Rattle.ess_given_conditions_laws.specs.InScope.{is_given_in}
use Rattle.ess_given_conditions_laws.specs.GrowingNames.{HasNoneFrom, Grows}
use Rattle.ess_given_conditions_laws.specs.GivenChains.{IsGivenStep, SparesAll}
use Rattle.ess_given_conditions_laws.specs.ConditionsEnd.{SettledIn, no_condition_reads}

-- Each cell in a domain of the tree is one of t, or has the name of a reserved one between the n-th and the m-th, which no table has; and
-- no condition reads a table, but for those of lists that lex signs compare.
pub record EndsGiven (n m : ℕ) (t : Text → Bool) (e : Ex) : Type 0 where
  pub names : Text → Bool
  pub grow : Grows n m t names
  pub domains : domains_read_given names e ≡ true
  pub conditions : no_condition_reads e ≡ true

-- So it is where rewriting ends, for each set t of names such that in the old tree each number in a domain is fixed where the free names
-- and the cells and views of t count as givens, and all other cells and views as finds: its bound names are told apart, and rules lead
-- to a refined tree in which no condition can leave. The same from a tree in which what is given is given.
pub record GivenInConditions : Type 0 where
  pub of_judged_trees : (t : Text → Bool) (n m : ℕ) (g : Names Ty) (e new : Ex) → HasNoneFrom n t → SparesAll n e →
      is_given_in t t e ≡ true → Chain IsGivenStep (told e [] n).1 g (told_apart n e) new m → m ≤ 2 ^ 64 → is_refined new ≡ true →
      SettledIn new → EndsGiven n m t new
  pub of_given_trees : (t : Text → Bool) (n m : ℕ) (g : Names Ty) (old new : Ex) → HasNoneFrom n t → SparesAll n old → GivenIn t old →
      Chain IsGivenStep n g old new m → m ≤ 2 ^ 64 → is_refined new ≡ true → SettledIn new → EndsGiven n m t new

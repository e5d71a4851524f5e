-- From a judged tree of a specification to a refined tree over tables: what is given in conditions stays.
use Rattle.std.specs.Prelude.{◌≡◌, Bool, true, [], ℕ, ◌≤◌, ◌^◌}
use Rattle.ess_semantics.specs.Values.{Text}
use Rattle.ess_semantics.specs.Names.{Names}
use Rattle.ess_semantics.specs.Trees.{Ex}
use Rattle.ess_semantics.specs.Types.{Ty}
use Rattle.ess_semantics.specs.Scopes.{Scope}
use Rattle.ess_semantics.specs.Refined.{is_refined}
use Rattle.ess_semantics.specs.Resolving.{resolve}
use Rattle.ess_semantics.specs.Judgements.{is_well_typed_at}
use Rattle.conjure_laws.specs.PlainTrees.{Plain}
use Rattle.conjure_model_laws.specs.ToldApart.{told, told_apart}
use Rattle.conjure_model_laws.specs.Shown.{Shows, shown}
use Rattle.ess_chain_names_laws.specs.NamesHave.{NamesHave}
use Rattle.ess_chain_names_laws.specs.Steps.{Chain}
use Rattle.ess_given_laws.specs.Given.{GivenIn}
use Rattle.ess_given_conditions_laws.specs.GrowingNames.{HasNoneFrom, Grows}
use Rattle.ess_given_conditions_laws.specs.GivenChains.{IsGivenStep, SparesAll}
use Rattle.ess_given_conditions_laws.specs.ConditionsEnd.{SettledIn}
use Rattle.ess_given_conditions_laws.specs.GivenInConditions.{EndsGiven}
use Rattle.ess_given_judged_laws.specs.ShownGiven.{ShowsGiven}
use Rattle.ess_given_judged_laws.specs.JudgedGiven.{HasGivens}

-- The tree over tables that is made of e, with its bound names told apart from the n-th reserved one on, begins with what is given, where t
-- grows by these names.
pub record BeginsGiven (n : ℕ) (t : Text → Bool) (sh : Shows) (e : Ex) : Type 0 where
  pub names : Text → Bool
  pub grow : Grows n (told e [] n).1 t names
  pub given : GivenIn names (shown sh (told_apart n e))

-- What is counted on of a judged tree e in the scope s: w has its names, t those of them that depend on no find and the tables of givens,
-- and none is reserved from the n-th on; and what stands in the place of names is given.
pub record IsBegun (counts : Bool) (e : Ex) (s : Scope) (n : ℕ) (sh : Shows) (w t : Text → Bool) : Type 0 where
  pub judged : is_well_typed_at counts e s ≡ true
  pub names : NamesHave w (resolve e s.tys)
  pub plain : Plain (resolve e s.tys)
  pub givens : HasGivens w s t
  pub spared : HasNoneFrom n t
  pub numbers : (told (resolve e s.tys) [] n).1 ≤ 2 ^ 64
  pub shows : (v : Text → Bool) → Grows n (told (resolve e s.tys) [] n).1 t v → ShowsGiven sh v

-- So it begins with what is given; and where rules lead from it to a refined tree in which no condition can leave, each cell in a domain is
-- one of t and no condition reads a table, but for those of lists that lex signs compare.
pub record SpecificationsGiven : Type 0 where
  pub begins : (counts : Bool) (e : Ex) (s : Scope) (n : ℕ) (sh : Shows) (w t : Text → Bool) → IsBegun counts e s n sh w t →
      BeginsGiven n t sh (resolve e s.tys)
  pub ends : (counts : Bool) (e : Ex) (s : Scope) (n m : ℕ) (sh : Shows) (w t : Text → Bool) (g : Names Ty) (new : Ex) →
      IsBegun counts e s n sh w t →
      SparesAll (told (resolve e s.tys) [] n).1 (shown sh (told_apart n (resolve e s.tys))) →
      Chain IsGivenStep (told (resolve e s.tys) [] n).1 g (shown sh (told_apart n (resolve e s.tys))) new m → m ≤ 2 ^ 64 →
      is_refined new ≡ true → SettledIn new → EndsGiven n m t new

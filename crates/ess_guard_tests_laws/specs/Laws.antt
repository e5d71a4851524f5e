-- Laws of the guard where forms don't tell index domains and relations.
use Rattle.std.specs.Prelude.{◌≡◌, true}
use Rattle.ess_semantics.specs.Values.{Text}
use Rattle.ess_semantics.specs.Trees.{Ex}
use Rattle.ess_semantics.specs.Meaning.{Env}
use Rattle.ess_semantics.specs.Totality.{Total}
use Rattle.ess_guard_laws.specs.Guard.{there, has_value, make_total, make_total_term}
use Rattle.ess_guard_laws.specs.Holds.{Hold}
use Rattle.ess_guard_laws.specs.Covered.{asks_nothing, Covered}
use Rattle.ess_guard_tests_laws.specs.TotalButTests.{TotalButTests}
use Rattle.ess_guard_tests_laws.specs.FormsKnown.{FormsKnown}

-- A guarded Boolean is total but for tests, in every env, where its forms are known: whatever it indexes, and whatever it applies. So are
-- the conditions of a term, each under those before it; and where they hold the term is. A number under its
-- conditions is so everywhere.
pub record GuardedIsTotalButTests : Type 0 where
  pub boolean : (x y : Text) (e : Ex) (env : Env) → FormsKnown e → asks_nothing e ≡ true → TotalButTests ⊥ (make_total x y e) env
  pub conditions : (x y : Text) (e : Ex) (env : Env) → FormsKnown e → TotalButTests ⊥ (has_value x y e) env
  pub term : (x y : Text) (e : Ex) (env : Env) → FormsKnown e → Hold (there x y e) env → TotalButTests ⊥ (make_total x y e) env
  pub number : (x y : Text) (e : Ex) (env : Env) → FormsKnown e → TotalButTests ⊥ ((make_total_term x y true e).1) env

-- What is total is total but for tests, and what is covered has known forms.
pub record TotalIsSoButForTests : Type 0 where
  pub total : (e : Ex) (env : Env) → Total e env → TotalButTests ⊥ e env
  pub covered : (e : Ex) → Covered e → FormsKnown e

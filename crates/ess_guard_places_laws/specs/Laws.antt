-- The law of the guard with natural places where forms don't tell index domains.
use Rattle.std.specs.Prelude.{◌≡◌, [], Bool, true, false}
use Rattle.ess_semantics.specs.Values.{Text}
use Rattle.ess_semantics.specs.Trees.{Ex}
use Rattle.ess_semantics.specs.Meaning.{Env}
use Rattle.ess_guard_laws.specs.Guard.{make_natural, conditions}
use Rattle.ess_guard_laws.specs.Covered.{asks_nothing}
use Rattle.ess_guard_laws.specs.Holds.{Hold}
use Rattle.ess_guard_tests_laws.specs.FormsKnown.{FormsKnown}
use Rattle.ess_guard_places_laws.specs.TotalInPlaces.{TotalInPlaces}

-- Guarded with natural places, a Boolean with known forms is total but for plain operators in these and for tests, in every env. So is a
-- term where its conditions hold: all where w is false, and where it stands in a natural place those of what isn't plain there.
pub record NaturalIsTotalButTests : Type 0 where
  pub boolean : (x y : Text) (e : Ex) (env : Env) → FormsKnown e → asks_nothing e ≡ true → TotalInPlaces false ⊥ (make_natural x y e) env
  pub term : (x y : Text) (w : Bool) (e : Ex) (env : Env) → FormsKnown e → Hold (conditions true x y [] w e) env →
      TotalInPlaces w ⊥ (make_natural x y e) env

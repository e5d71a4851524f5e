-- Laws of the guard with natural places.
use Rattle.std.specs.Prelude.{[], Bool, true, false, IsTrue}
use Rattle.ess_semantics.specs.Values.{Text}
use Rattle.ess_semantics.specs.Trees.{Ex}
use Rattle.ess_semantics.specs.Meaning.{Env}
use Rattle.ess_semantics.specs.Totality.{Total}
use Rattle.ess_guard_laws.specs.Guard.{make_natural, conditions}
use Rattle.ess_guard_laws.specs.Covered.{asks_nothing, Covered}
use Rattle.ess_guard_laws.specs.Holds.{Hold}
use Rattle.ess_guard_natural_laws.specs.TotalButNatural.{TotalButNatural}

-- Guarded with natural places, a covered Boolean is total but for plain operators in these, in every env. So is a covered term where
-- its conditions hold: all where w is false, and where it stands in a natural place those of what isn't plain there.
pub record NaturalIsTotal : Type 0 where
  pub boolean : (x y : Text) (e : Ex) (env : Env) → Covered e → IsTrue (asks_nothing e) → TotalButNatural false (make_natural x y e) env
  pub term : (x y : Text) (w : Bool) (e : Ex) (env : Env) → Covered e → Hold (conditions true x y [] w e) env →
      TotalButNatural w (make_natural x y e) env

-- What is total is total but for nothing; and what is total in no natural place is so in one.
pub record TotalInPlaces : Type 0 where
  pub total : (w : Bool) (e : Ex) (env : Env) → Total e env → TotalButNatural w e env
  pub place : (w : Bool) (e : Ex) (env : Env) → TotalButNatural false e env → TotalButNatural w e env

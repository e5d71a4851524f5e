-- The law of flat trees over scalars that may be values of named types, stated at a function that does nothing.
use Rattle.std.specs.Prelude.{◌≡◌, ℕ, Bool, [], Option, Some}
use Rattle.ess_semantics.specs.Values.{Text, Value}
use Rattle.ess_semantics.specs.Names.{look}
use Rattle.ess_semantics.specs.Trees.{Ex}
use Rattle.ess_semantics.specs.Meaning.{Env, meaning}
use Rattle.ess_semantics.specs.Positions.{with_positions}
use Rattle.conjure_model_laws.specs.ToldApart.{told}
use Rattle.conjure_model_laws.specs.Shown.{Shows, in_place, shown}
use Rattle.ess_flat_laws.specs.Flat.{Flat, none_marked}
use Rattle.ess_named_flat_laws.specs.NamedFlat.{Sort, mark_of, OfSort, NamedFlat, named_sort, IsScalarView}

-- Each name of a sort has a value of it in env, and what stands for the name means its position in `there`.
pub record ScalarsHeld (names : Text → Option Sort) (sh : Shows) (env there : Env) : Type 0 where
  pub held : (a : Text) (m : Sort) → names a ≡ Some m →
      (v : Value) × OfSort m v × (look env.vals a ≡ Some v) × (meaning (in_place sh.first a) there ≡ Some (with_positions v))

-- What stands for each name of a sort is a position or a single cell of its mark.
pub record ScalarsShown (names : Text → Option Sort) (cells : Text → Option Bool) (sh : Shows) : Type 0 where
  pub views : (a : Text) (m : Sort) → names a ≡ Some m → IsScalarView cells (in_place sh.first a) (mark_of m)

-- The test says which trees are flat and total. Nothing is bound in one. It has a value of its sort, and with cells and positions in the
-- place of names it means the position of that, the value itself where it is of no named type. So shown it is flat over cells, where no
-- rule fires.
pub record NamedFlatTreesStand : Type 0 where
  pub tested : (names : Text → Option Sort) (e : Ex) (m : Sort) → named_sort names e ≡ Some m → NamedFlat names e m
  pub unbound : (names : Text → Option Sort) (e : Ex) (m : Sort) → NamedFlat names e m → (k : ℕ) → told e [] k ≡ (e, k)
  pub means : (names : Text → Option Sort) (sh : Shows) (env there : Env) → ScalarsHeld names sh env there → (e : Ex) (m : Sort) →
      NamedFlat names e m →
      (v : Value) × OfSort m v × (meaning e env ≡ Some v) × (meaning (shown sh e) there ≡ Some (with_positions v))
  pub flat : (names : Text → Option Sort) (cells : Text → Option Bool) (sh : Shows) → ScalarsShown names cells sh → (e : Ex) (m : Sort) →
      NamedFlat names e m → Flat none_marked cells (shown sh e) (mark_of m)

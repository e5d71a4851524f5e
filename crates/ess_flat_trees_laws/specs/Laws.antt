-- What becomes of flat total trees on the way to a rule, stated at a function that does nothing.
use Rattle.std.specs.Prelude.{◌≡◌, ℕ, Bool, true, List, [], Option, Some}
use Rattle.ess_semantics.specs.Values.{Text}
use Rattle.ess_semantics.specs.Trees.{Ex, truth_ex}
use Rattle.ess_semantics.specs.Plans.{Plan}
use Rattle.ess_semantics.specs.Models.{scalar_cell, cell_for, with_cells}
use Rattle.ess_guard_laws.specs.Guard.{has_value, make_total, make_natural}
use Rattle.ess_keys_laws.specs.Keyed.{nothing_around, keyed}
use Rattle.conjure_model_laws.specs.ToldApart.{told}
use Rattle.conjure_model_laws.specs.Shown.{Shows, in_place, shown}
use Rattle.conjure_model_laws.specs.Printed.{printed}
use Rattle.ess_flat_laws.specs.Flat.{Flat, none_marked}
use Rattle.ess_flat_models_laws.specs.FlatSpecifications.{scalar_mark}

-- A flat total tree binds no name, so that telling apart and printing leave it as it is; it needs no conditions: that it has a value is
-- `true`; and its keys are plain.
-- Where cells are shown for names it gets them.
pub record FlatTreesStay : Type 0 where
  pub told_apart : (names : Text → Option Bool) (e : Ex) (m : Bool) (k : ℕ) → Flat names none_marked e m → told e [] k ≡ (e, k)
  pub shows : (Ps : List Plan) (sh : Shows) →
      ((a : Text) (m : Bool) → scalar_mark Ps a ≡ Some m → in_place sh.first a ≡ cell_for a (scalar_cell Ps a)) →
      (e : Ex) (m : Bool) → Flat (scalar_mark Ps) none_marked e m → shown sh e ≡ with_cells Ps e
  pub natural : (cells : Text → Option Bool) (x y : Text) (e : Ex) (m : Bool) → Flat none_marked cells e m → make_natural x y e ≡ e
  pub total : (cells : Text → Option Bool) (x y : Text) (e : Ex) (m : Bool) → Flat none_marked cells e m → make_total x y e ≡ e
  pub sure : (cells : Text → Option Bool) (x y : Text) (e : Ex) (m : Bool) → Flat none_marked cells e m →
      has_value x y e ≡ truth_ex true
  pub keys : (cells : Text → Option Bool) (e : Ex) (m : Bool) → Flat none_marked cells e m → keyed nothing_around e ≡ e
  pub prints : (cells : Text → Option Bool) (taken : List Text) (e : Ex) (m : Bool) → Flat none_marked cells e m → printed taken e [] ≡ e

-- The law of numbers in trees over views that have a value everywhere, stated at a function that does nothing.
use Rattle.std.specs.Prelude.{◌≡◌, ℕ, Bool, true, false, List, Option}
use Rattle.ess_semantics.specs.Values.{Text}
use Rattle.ess_semantics.specs.Names.{Names}
use Rattle.ess_semantics.specs.Trees.{Ex}
use Rattle.ess_semantics.specs.Refined.{is_refined}
use Rattle.ess_semantics.specs.Typed.{Typed}
use Rattle.ess_semantics.specs.Meaning.{Env, meaning}
use Rattle.ess_refine_laws.specs.Everywhere.{everywhere, Replaces}
use Rattle.ess_values_along_laws.specs.Valued.{Valued}
use Rattle.ess_seen_laws.specs.Seen.{Bound, bound_types, Seen}
use Rattle.ess_seen_laws.specs.Filled.{InSlots, AreFilled}

-- Names have values of their types, those of slots the number of one, and each table of numbers has one at each slot.
pub record IsFilled (cells : Text → Option (Bool × List ℕ)) (r : Names Bound) (env : Env) : Type 0 where
  pub typed : Typed (bound_types r) env
  pub slots : InSlots r env
  pub filled : AreFilled cells env

-- The number that is there everywhere serves in the place of a refined number of such a tree, and each part of it has a value, whatever
-- conditions hold: each cell of a number is asked at slots of its table. So it is of refined truth values. The number that is there
-- everywhere is such a tree.
pub record SeenNumbersAreEverywhere : Type 0 where
  pub stays : (cells : Text → Option (Bool × List ℕ)) (r : Names Bound) (e : Ex) → Seen cells r e false → is_refined e ≡ true →
      Seen cells r (everywhere e) false
  pub serves : (cells : Text → Option (Bool × List ℕ)) (r : Names Bound) (e : Ex) → Seen cells r e false → is_refined e ≡ true →
      (env : Env) → IsFilled cells r env → Replaces (meaning e env) (meaning (everywhere e) env)
  pub valued : (cells : Text → Option (Bool × List ℕ)) (r : Names Bound) (e : Ex) → Seen cells r e false → is_refined e ≡ true →
      (env : Env) → IsFilled cells r env → Valued false (everywhere e) env
  pub truths : (cells : Text → Option (Bool × List ℕ)) (r : Names Bound) (e : Ex) → Seen cells r e true → is_refined e ≡ true →
      (env : Env) → IsFilled cells r env → Valued false e env

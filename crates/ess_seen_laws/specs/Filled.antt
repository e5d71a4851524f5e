-- Tables that have a number at each slot, and names that are bound over slots.
use Rattle.std.specs.Prelude.{◌≡◌, ℕ, ◌≤◌, Bool, false, List, [], ◌∷◌, ℤ, pos, Option, Some, IsTrue, is_some}
use Rattle.ess_semantics.specs.Values.{Text, Value, number}
use Rattle.ess_semantics.specs.Names.{Names, look}
use Rattle.ess_semantics.specs.Tables.{Table, cell_at}
use Rattle.ess_semantics.specs.Meaning.{Env}
use Rattle.ess_seen_laws.specs.Seen.{Bound, over_a_range, over_slots, from_a_set}

-- There is the number of one of so many slots.
pub record IsSlot (k : ℕ) (o : Option Value) : Type 0 where
  pub slot : ℕ
  pub first : 1 ≤ slot
  pub last : slot ≤ k
  pub is : o ≡ Some (number (pos slot))

-- What a name has that is bound so: a value, over slots the number of one.
abbrev pub IsAt : Bound → Option Value → Type 0
IsAt (over_slots k) o = IsSlot k o
IsAt (over_a_range m) o = IsTrue (is_some o)
IsAt (from_a_set k) o = IsTrue (is_some o)

-- Names that are bound have values, those that are bound over slots the number of one.
abbrev pub InSlots : Names Bound → Env → Type 0
InSlots r env = (a : Text) (b : Bound) → look r a ≡ Some b → IsAt b (look env.vals a)

-- Numbers of slots, one for each axis.
pub data AreSlots : List ℕ → List ℤ → Type 0 where
  no_slot : AreSlots [] []
  more_slots : {k i : ℕ} {ks : List ℕ} {is : List ℤ} → 1 ≤ i → i ≤ k → AreSlots ks is → AreSlots (k ∷ ks) (pos i ∷ is)

-- The table has a number at these places.
pub record HasCell (env : Env) (n : Text) (is : List ℤ) : Type 0 where
  pub table : Table
  pub found : look env.cells n ≡ Some table
  pub cell : ℤ
  pub there : cell_at table is ≡ Some cell

-- Each table of numbers has one at each of its slots.
abbrev pub AreFilled : (Text → Option (Bool × List ℕ)) → Env → Type 0
AreFilled cells env = (n : Text) (ks : List ℕ) → cells n ≡ Some (false, ks) → (is : List ℤ) → AreSlots ks is → HasCell env n is

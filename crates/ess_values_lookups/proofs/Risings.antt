-- Which values have items that rise, kind by kind.
use Rattle.std.proofs.Common.{◌≡◌, ap, ◌∙◌, ℕ, ℤ, Bool, false, List, map}
use Rattle.ess_semantics.specs.Values.{Text, itself, from_of, to_list, items_of}
use Rattle.ess_semantics.specs.Collections.{rises}
use Rattle.ess_semantics.proofs.Orders.{to_list-of_list}
use Rattle.ess_core.specs.ValueViews.{pure_val, pure_pair}
use Rattle.ess_core.specs.declared.values.Val.{Val}
use Rattle.ess_core.specs.declared.values.FieldVal.{FieldVal}
use Rattle.ess_core.specs.declared.values.Pair.{Pair}
use Rattle.ess_core.specs.declared.values.Val.TheVariants as variant
use Rattle.ess_core.proofs.ValueEquations.{pure_num, pure_truth, pure_item, pure_tuple, pure_rec, pure_matrix}
use Rattle.ess_core.proofs.ValueEquations.{pure_set, pure_mset, pure_function, pure_relation, pure_partition}
use Rattle.ess_values_lookups.specs.Rising.{has_rising_items}

-- ---- kinds whose items may rise

-- The items of a set are its members.
pub rising_set : (v : Val) (vs : List Val) → v ≡ variant.Set vs → has_rising_items (pure_val v) ≡ rises itself (map pure_val vs)
rising_set v vs e =
    ap (λ w. has_rising_items (pure_val w)) e ∙ ap has_rising_items (pure_set vs) ∙ ap (rises itself) (to_list-of_list (map pure_val vs))

-- Those of a relation its tuples.
pub rising_relation : (v : Val) (vs : List Val) → v ≡ variant.Relation vs → has_rising_items (pure_val v) ≡ rises itself (map pure_val vs)
rising_relation v vs e =
    ap (λ w. has_rising_items (pure_val w)) e ∙ ap has_rising_items (pure_relation vs)
    ∙ ap (rises itself) (to_list-of_list (map pure_val vs))

-- Those of a function its pairs, which rise by their first parts.
pub rising_function : (v : Val) (ps : List Pair) → v ≡ variant.Function ps
    → has_rising_items (pure_val v) ≡ rises from_of (map pure_pair ps)
rising_function v ps e =
    ap (λ w. has_rising_items (pure_val w)) e ∙ ap has_rising_items (pure_function ps)
    ∙ ap (rises from_of) (to_list-of_list (map pure_pair ps))

-- ---- kinds whose items don't count as rising

pub rising_num : (v : Val) (n : ℤ) → v ≡ variant.Num n → has_rising_items (pure_val v) ≡ false
rising_num v n e = ap (λ w. has_rising_items (pure_val w)) e ∙ ap has_rising_items (pure_num n)

pub rising_truth : (v : Val) (b : Bool) → v ≡ variant.Truth b → has_rising_items (pure_val v) ≡ false
rising_truth v b e = ap (λ w. has_rising_items (pure_val w)) e ∙ ap has_rising_items (pure_truth b)

pub rising_item : (v : Val) (t : Text) (k : ℕ) → v ≡ variant.Item t k → has_rising_items (pure_val v) ≡ false
rising_item v t k e = ap (λ w. has_rising_items (pure_val w)) e ∙ ap has_rising_items (pure_item t k)

pub rising_tuple : (v : Val) (vs : List Val) → v ≡ variant.Tuple vs → has_rising_items (pure_val v) ≡ false
rising_tuple v vs e = ap (λ w. has_rising_items (pure_val w)) e ∙ ap has_rising_items (pure_tuple vs)

pub rising_rec : (v : Val) (fs : List FieldVal) → v ≡ variant.Rec fs → has_rising_items (pure_val v) ≡ false
rising_rec v fs e = ap (λ w. has_rising_items (pure_val w)) e ∙ ap has_rising_items (pure_rec fs)

pub rising_matrix : (v : Val) (is vs : List Val) → v ≡ variant.Matrix is vs → has_rising_items (pure_val v) ≡ false
rising_matrix v is vs e = ap (λ w. has_rising_items (pure_val w)) e ∙ ap has_rising_items (pure_matrix is vs)

pub rising_mset : (v : Val) (vs : List Val) → v ≡ variant.MSet vs → has_rising_items (pure_val v) ≡ false
rising_mset v vs e = ap (λ w. has_rising_items (pure_val w)) e ∙ ap has_rising_items (pure_mset vs)

pub rising_partition : (v : Val) (vs : List Val) → v ≡ variant.Partition vs → has_rising_items (pure_val v) ≡ false
rising_partition v vs e = ap (λ w. has_rising_items (pure_val w)) e ∙ ap has_rising_items (pure_partition vs)

-- ---- the items

-- The items of a set are its members, those of a relation its tuples.
pub items_set : (v : Val) (vs : List Val) → v ≡ variant.Set vs → items_of (pure_val v) ≡ map pure_val vs
items_set v vs e = ap (λ w. items_of (pure_val w)) e ∙ ap items_of (pure_set vs) ∙ to_list-of_list (map pure_val vs)

pub items_relation : (v : Val) (vs : List Val) → v ≡ variant.Relation vs → items_of (pure_val v) ≡ map pure_val vs
items_relation v vs e = ap (λ w. items_of (pure_val w)) e ∙ ap items_of (pure_relation vs) ∙ to_list-of_list (map pure_val vs)

pub ruleset kinds = (
  rising_set,
  rising_relation,
  rising_function,
  rising_num,
  rising_truth,
  rising_item,
  rising_tuple,
  rising_rec,
  rising_matrix,
  rising_mset,
  rising_partition,
  items_set,
  items_relation,
)

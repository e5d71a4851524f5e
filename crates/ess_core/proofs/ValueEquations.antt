-- What a value stands for, variant by variant.
use Rattle.std.proofs.Common.{◌≡◌, sym, ap, ◌∙◌, Bool, List, map, ℤ, ℕ}
use Rattle.ess_semantics.specs.Values.{Text, Value, number, truth, item, node, a_tuple, a_set, a_mset, a_function, a_relation, a_partition, of_list, pair, matrix}
use Rattle.ess_core.specs.ValueViews.{record_value, val_step, field_val_step, pair_step, pure_val, pure_field_val, pure_pair, pure_vals}
use Rattle.ess_core.specs.declared.values.Val.{Val}
use Rattle.ess_core.specs.declared.values.FieldVal.{FieldVal}
use Rattle.ess_core.specs.declared.values.Pair.{Pair}
use Rattle.ess_core.specs.declared.values.Val.TheOpen.{Val-F}
use Rattle.ess_core.specs.declared.values.Val.TheVariants as variant
use Rattle.ess_core.specs.declared.values.Val.TheViews.{out-FieldVal, roll-out-FieldVal, out-Pair, roll-out-Pair}
use Rattle.ess_core.specs.declared.values.Val.TheFolds.{fold-roll-Val, fold-roll-FieldVal, fold-roll-Pair}

pub pure_num : (n : ℤ) → pure_val (variant.Num n) ≡ number n
pure_num n = ap pure_val (sym (variant.rolls-Num n)) ∙ fold-roll-Val Value (Text × Value) Value val_step field_val_step pair_step (Val-F.Num n)

pub pure_truth : (b : Bool) → pure_val (variant.Truth b) ≡ truth b
pure_truth b = ap pure_val (sym (variant.rolls-Truth b)) ∙ fold-roll-Val Value (Text × Value) Value val_step field_val_step pair_step (Val-F.Truth b)

pub pure_item : (t : Text) (k : ℕ) → pure_val (variant.Item t k) ≡ item t k
pure_item t k = ap pure_val (sym (variant.rolls-Item t k)) ∙ fold-roll-Val Value (Text × Value) Value val_step field_val_step pair_step (Val-F.Item t k)

pub pure_tuple : (vs : List Val) → pure_val (variant.Tuple vs) ≡ node a_tuple (pure_vals vs)
pure_tuple vs = ap pure_val (sym (variant.rolls-Tuple vs)) ∙ fold-roll-Val Value (Text × Value) Value val_step field_val_step pair_step (Val-F.Tuple vs)

pub pure_rec : (fs : List FieldVal) → pure_val (variant.Rec fs) ≡ record_value (map pure_field_val fs)
pure_rec fs = ap pure_val (sym (variant.rolls-Rec fs)) ∙ fold-roll-Val Value (Text × Value) Value val_step field_val_step pair_step (Val-F.Rec fs)

pub pure_matrix : (is vs : List Val) → pure_val (variant.Matrix is vs) ≡ matrix (pure_vals is) (pure_vals vs)
pure_matrix is vs = ap pure_val (sym (variant.rolls-Matrix is vs)) ∙ fold-roll-Val Value (Text × Value) Value val_step field_val_step pair_step (Val-F.Matrix is vs)

pub pure_set : (vs : List Val) → pure_val (variant.Set vs) ≡ node a_set (pure_vals vs)
pure_set vs = ap pure_val (sym (variant.rolls-Set vs)) ∙ fold-roll-Val Value (Text × Value) Value val_step field_val_step pair_step (Val-F.Set vs)

pub pure_mset : (vs : List Val) → pure_val (variant.MSet vs) ≡ node a_mset (pure_vals vs)
pure_mset vs = ap pure_val (sym (variant.rolls-MSet vs)) ∙ fold-roll-Val Value (Text × Value) Value val_step field_val_step pair_step (Val-F.MSet vs)

pub pure_function : (ps : List Pair) → pure_val (variant.Function ps) ≡ node a_function (of_list (map pure_pair ps))
pure_function ps = ap pure_val (sym (variant.rolls-Function ps)) ∙ fold-roll-Val Value (Text × Value) Value val_step field_val_step pair_step (Val-F.Function ps)

pub pure_relation : (vs : List Val) → pure_val (variant.Relation vs) ≡ node a_relation (pure_vals vs)
pure_relation vs = ap pure_val (sym (variant.rolls-Relation vs)) ∙ fold-roll-Val Value (Text × Value) Value val_step field_val_step pair_step (Val-F.Relation vs)

pub pure_partition : (vs : List Val) → pure_val (variant.Partition vs) ≡ node a_partition (pure_vals vs)
pure_partition vs = ap pure_val (sym (variant.rolls-Partition vs)) ∙ fold-roll-Val Value (Text × Value) Value val_step field_val_step pair_step (Val-F.Partition vs)

pub pure_field_val_is : (x : FieldVal) → pure_field_val x ≡ ((out-FieldVal x).name, pure_val (out-FieldVal x).val)
pure_field_val_is x = ap pure_field_val (sym (roll-out-FieldVal x)) ∙ fold-roll-FieldVal Value (Text × Value) Value val_step field_val_step pair_step (out-FieldVal x)

pub pure_pair_is : (x : Pair) → pure_pair x ≡ pair (pure_val (out-Pair x).from) (pure_val (out-Pair x).to)
pure_pair_is x = ap pure_pair (sym (roll-out-Pair x)) ∙ fold-roll-Pair Value (Text × Value) Value val_step field_val_step pair_step (out-Pair x)

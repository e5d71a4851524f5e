-- The pure value that a value stands for.
use Rattle.std.specs.Prelude.{List, map}
use Rattle.ess_semantics.specs.Values.{Text, Value, Values, number, truth, item, node, a_tuple, a_record, a_set, a_mset, a_function, a_relation, a_partition, of_list, pair, matrix}
use Rattle.ess_semantics.specs.Names.{Names, keys}
use Rattle.ess_core.specs.declared.values.Val.{Val}
use Rattle.ess_core.specs.declared.values.FieldVal.{FieldVal}
use Rattle.ess_core.specs.declared.values.Pair.{Pair}
use Rattle.ess_core.specs.declared.values.Val.TheOpen.{Val-F, FieldVal-F, Pair-F}
use Rattle.ess_core.specs.declared.values.Val.TheFolds.{fold-Val, fold-FieldVal, fold-Pair}

-- A record's fields as a value.
abbrev pub record_value : Names Value → Value
record_value fs = node (a_record (keys fs)) (of_list (map (λ f. f.1) fs))

-- A value, with the pure values of its parts in their places. A matrix has its indices and its items as two lists, a
-- function has its pairs as tuples.
abbrev pub val_step : Val-F Value (Text × Value) Value → Value
val_step (Val-F.Num n) = number n
val_step (Val-F.Truth b) = truth b
val_step (Val-F.Item t k) = item t k
val_step (Val-F.Tuple vs) = node a_tuple (of_list vs)
val_step (Val-F.Rec fs) = record_value fs
val_step (Val-F.Matrix is vs) = matrix (of_list is) (of_list vs)
val_step (Val-F.Set vs) = node a_set (of_list vs)
val_step (Val-F.MSet vs) = node a_mset (of_list vs)
val_step (Val-F.Function ps) = node a_function (of_list ps)
val_step (Val-F.Relation vs) = node a_relation (of_list vs)
val_step (Val-F.Partition vs) = node a_partition (of_list vs)

-- A field with its name.
abbrev pub field_val_step : FieldVal-F Value (Text × Value) Value → Text × Value
field_val_step f = (f.name, f.val)

-- A pair as a tuple.
abbrev pub pair_step : Pair-F Value (Text × Value) Value → Value
pair_step p = pair p.from p.to

-- The pure value of a value.
abbrev pub pure_val : Val → Value
pure_val = fold-Val Value (Text × Value) Value val_step field_val_step pair_step

-- The pure field of a field.
abbrev pub pure_field_val : FieldVal → Text × Value
pure_field_val = fold-FieldVal Value (Text × Value) Value val_step field_val_step pair_step

-- The pure tuple of a pair.
abbrev pub pure_pair : Pair → Value
pure_pair = fold-Pair Value (Text × Value) Value val_step field_val_step pair_step

-- The pure values of several values.
abbrev pub pure_vals : List Val → Values
pure_vals vs = of_list (map pure_val vs)

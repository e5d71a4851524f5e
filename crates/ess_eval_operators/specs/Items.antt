-- The items of a value, where those that aren't kept as values in a list stand beside it.
use Rattle.std.specs.Prelude.{List, []}
use Rattle.ess_semantics.specs.Values.{Value, node, a_record, a_function, to_list, matrix}

-- The items of a record or function, of which one keeps fields and the other pairs; none of any other value.
abbrev pub spare_items : Value → List Value
spare_items (node a_function xs) = to_list xs
spare_items (node (a_record fs) xs) = to_list xs
spare_items v = []

-- The items of a value that keeps its items as values, and `spare` for any other one.
abbrev pub items_or : List Value → Value → List Value
items_or spare (matrix is xs) = to_list xs
items_or spare (node a_function xs) = spare
items_or spare (node (a_record fs) xs) = spare
items_or spare (node k xs) = to_list xs
items_or spare v = spare

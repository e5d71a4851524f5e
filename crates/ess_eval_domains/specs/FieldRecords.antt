-- Records by the lists of values that their fields may have.
use Rattle.std.specs.Prelude.{List, map}
use Rattle.ess_semantics.specs.Lists.{zip}
use Rattle.ess_semantics.specs.Values.{Text, Value}
use Rattle.ess_semantics.specs.Domains.{lists_of}
use Rattle.ess_core.specs.ValueViews.{record_value}

-- All records with these fields and one value from each list, in lexicographic order.
abbrev pub records_with : List Text → List (List Value) → List Value
records_with fs cs = map (λ l. record_value (zip fs l)) (lists_of cs)

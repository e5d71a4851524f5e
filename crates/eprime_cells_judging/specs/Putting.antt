-- Items put behind others.
use Rattle.std.specs.Prelude.{◌≡◌, ℤ, Bool, true, false, List, ◌++◌, map, Option, Some, None, option_map}
use Rattle.ess_semantics.specs.Lists.{each_of, append_all}
use Rattle.ess_semantics.specs.Trees.{Ex}
use Rattle.eprime_cells_machine.specs.declared.values.CellValue.{CellValue}
use Rattle.eprime_cells_machine.specs.ValueViews.{pure_value}

-- Where there are items they are put, as the answer says; without them anything may have been.
abbrev pub Puts : Option (List ℤ) → List ℤ → List ℤ → Bool → Type 0
Puts (Some is) old new true = new ≡ old ++ is
Puts None old new false = Unit {0}
Puts _ old new _ = ⊥

-- The items of several values, one behind the other.
abbrev pub all_items : (Ex → Option (List ℤ)) → List CellValue → Option (List ℤ)
all_items f vs = option_map append_all (each_of (map pure_value vs) f)

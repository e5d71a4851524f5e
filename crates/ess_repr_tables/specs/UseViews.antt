-- Which slots are in use, as the definitions say it.
use Rattle.std.specs.Prelude.{ℕ, List, ℤ, Option, option_map}
use Rattle.ess_semantics.specs.Lists.{and_then, only_of}
use Rattle.ess_semantics.specs.Layers.{Use, everywhere, up_to_marker, where_flagged, where_counted, within_slots}
use Rattle.ess_repr_rows_laws.specs.Cutting.{numbers_from}
use Rattle.ess_repr_tables.specs.declared.numbers.SlotsInUse.{SlotsInUse}

-- Where all are in use it doesn't matter why.
abbrev pub pure_use : SlotsInUse → Use
pure_use SlotsInUse.All = everywhere
pure_use SlotsInUse.UpToMarker = up_to_marker
pure_use SlotsInUse.Flagged = where_flagged
pure_use SlotsInUse.Counted = where_counted

-- The numbers below a marker, which is the only item.
abbrev pub marked_numbers : List ℤ → ℕ → Option (List ℕ)
marked_numbers is n = and_then (only_of is) (λ m. option_map (numbers_from 0) (within_slots m n))

-- What the machine of the code stands for: a state of the machine of the definitions.
use Rattle.std.specs.Prelude.{List, [], ◌∷◌, map, Option, None}
use Rattle.ess_semantics.specs.Values.{Text}
use Rattle.ess_semantics.specs.Names.{Names}
use Rattle.ess_semantics.specs.Trees.{Ex}
use Rattle.eprime_read_cells_laws.specs.CellMachine as pure
use Rattle.eprime_read_cells_laws.specs.CellMachine.{CellsState, low_wanted, low_digits_wanted, low_read, high_wanted, high_digits_wanted, range_read, close_wanted, value_wanted, first_wanted, digits_wanted, item_read, int_wanted, open_wanted, in_ranges, Mode, nothing_read, prime_wanted, major_wanted, dot_wanted, minor_wanted, letting_wanted, name_wanted, be_wanted, in_value, with_value}
use Rattle.eprime_cells_machine.specs.declared.values.CellRange.{CellRange}
use Rattle.eprime_cells_machine.specs.declared.values.CellValue.{CellValue}
use Rattle.eprime_cells_machine.specs.declared.stages.RangeStage.{RangeStage}
use Rattle.eprime_cells_machine.specs.declared.stages.Stage.{Stage}
use Rattle.eprime_cells_machine.specs.declared.stages.Wanted.{Wanted}
use Rattle.eprime_cells_machine.specs.declared.stages.State.{State}
use Rattle.eprime_cells_machine.specs.declared.machine.Machine.{Machine}
use Rattle.eprime_cells_machine.specs.ValueViews.{pure_number, all_ends, all_bounds, list_of, pure_value, pure_lettings}

-- The stage in ranges.
abbrev pub view_range_stage : RangeStage → pure.RangeStage
view_range_stage RangeStage.LowWanted = low_wanted
view_range_stage RangeStage.LowDigitsWanted = low_digits_wanted
view_range_stage (RangeStage.LowRead low) = low_read (pure_number low)
view_range_stage (RangeStage.HighWanted low) = high_wanted (pure_number low)
view_range_stage (RangeStage.HighDigitsWanted low) = high_digits_wanted (pure_number low)
view_range_stage RangeStage.RangeRead = range_read

-- The stage in a value.
abbrev pub view_stage : Stage → pure.Stage
view_stage Stage.ValueWanted = value_wanted
view_stage Stage.FirstWanted = first_wanted
view_stage Stage.DigitsWanted = digits_wanted
view_stage Stage.ItemRead = item_read
view_stage Stage.IntWanted = int_wanted
view_stage Stage.OpenWanted = open_wanted
view_stage (Stage.InRanges rs s) = in_ranges (all_ends rs) (all_bounds rs) (view_range_stage s)
view_stage (Stage.CloseWanted rs) = in_ranges (all_ends rs) (all_bounds rs) close_wanted

-- A state in a value of the name a.
abbrev pub in_stage : Names Ex → Text → List (List Ex) → Stage → CellsState
in_stage cs a fs s = record { done = cs; mode = in_value a fs (view_stage s) }

-- Open lists in reverse, before others.
abbrev pub lists_onto : List (List CellValue) → List (List Ex) → List (List Ex)
lists_onto [] acc = acc
lists_onto (l ∷ ls) acc = lists_onto ls (map pure_value l ∷ acc)

-- The open lists from the innermost to the outermost.
abbrev pub view_lists : List (List CellValue) → List (List Ex)
view_lists ls = lists_onto ls []

-- What is wanted outside of values.
abbrev pub view_wanted : Wanted → Mode
view_wanted Wanted.Anything = nothing_read
view_wanted Wanted.Prime = prime_wanted
view_wanted Wanted.Major = major_wanted
view_wanted Wanted.Dot = dot_wanted
view_wanted Wanted.Minor = minor_wanted
view_wanted Wanted.Letting = letting_wanted

-- The state.
abbrev pub view_state : State → CellsState
view_state (State.Outside cs w) = record { done = pure_lettings cs; mode = view_wanted w }
view_state (State.Unnamed cs) = record { done = pure_lettings cs; mode = name_wanted }
view_state (State.Named cs a) = record { done = pure_lettings cs; mode = be_wanted a }
view_state (State.InValue o s) = in_stage (pure_lettings o.done) o.name (view_lists o.lists) s

-- The state of the machine.
abbrev pub view_machine : Machine → CellsState
view_machine m = view_state m.state

-- The innermost list closed, with or without its index domain.
abbrev pub closed : Names Ex → Text → List (List Ex) → Option (List CellRange) → Option CellsState
closed cs a [] o = None
closed cs a (es ∷ fs) o = with_value cs a fs (list_of es o)

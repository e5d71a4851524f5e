-- What the values of a text of cells stand for: the expressions of the grammar.
use Rattle.std.specs.Prelude.{neg_ℤ, List, [], ◌∷◌, map, Option, Some, None}
use Rattle.ess_semantics.specs.declared.words.Op1.{Op1}
use Rattle.ess_semantics.specs.Lists.{append_all}
use Rattle.ess_semantics.specs.Values.{Text}
use Rattle.ess_semantics.specs.Names.{Names}
use Rattle.ess_semantics.specs.Trees.{Ends, one_value, both_ends, Ex, number_ex, truth_ex}
use Rattle.ess_grammar.specs.Grammar.{unary_ex}
use Rattle.eprime_read_cells_laws.specs.CellMachine.{plain_list, indexed_list}
use Rattle.eprime_cells_machine.specs.declared.values.Number.{Number}
use Rattle.eprime_cells_machine.specs.declared.values.CellRange.{CellRange}
use Rattle.eprime_cells_machine.specs.declared.values.CellValue.{CellValue}
use Rattle.eprime_cells_machine.specs.declared.values.CellValue.TheOpen.{CellValue-F, CellList-F}
use Rattle.eprime_cells_machine.specs.declared.values.CellValue.TheFolds.{fold-CellValue, fold-CellList}
use Rattle.eprime_cells_machine.specs.declared.values.CellList.{CellList}
use Rattle.eprime_cells_machine.specs.declared.values.CellLetting.{CellLetting}

-- A number, or `-` before its opposite.
abbrev pub pure_number : Number → Ex
pure_number (Number.Plain n) = number_ex n
pure_number (Number.Minus n) = unary_ex Op1.Minus (number_ex (neg_ℤ n))

-- The form of a range.
abbrev pub ends_of : CellRange → Ends
ends_of (CellRange.One a) = one_value
ends_of (CellRange.Span a b) = both_ends

-- Its numbers.
abbrev pub bounds_of : CellRange → List Ex
bounds_of (CellRange.One a) = pure_number a ∷ []
bounds_of (CellRange.Span a b) = pure_number a ∷ pure_number b ∷ []

-- The forms of ranges, and their numbers one behind the other.
abbrev pub all_ends : List CellRange → List Ends
all_ends rs = map ends_of rs

abbrev pub all_bounds : List CellRange → List Ex
all_bounds rs = append_all (map bounds_of rs)

-- A list with or without its index domain.
abbrev pub list_of : List Ex → Option (List CellRange) → Ex
list_of es None = plain_list es
list_of es (Some rs) = indexed_list es (all_ends rs) (all_bounds rs)

abbrev pub value_step : CellValue-F Ex Ex → Ex
value_step (CellValue-F.Number n) = pure_number n
value_step (CellValue-F.Truth b) = truth_ex b
value_step (CellValue-F.List e) = e

abbrev pub list_step : CellList-F Ex Ex → Ex
list_step l = list_of l.items l.ranges

-- The expression of a value.
abbrev pub pure_value : CellValue → Ex
pure_value = fold-CellValue Ex Ex value_step list_step

-- The expression of a list.
abbrev pub pure_list : CellList → Ex
pure_list = fold-CellList Ex Ex value_step list_step

-- A name with its value.
abbrev pub pure_letting : CellLetting → Text × Ex
pure_letting l = (l.name, pure_value l.value)

-- The values of names, in order.
abbrev pub pure_lettings : List CellLetting → Names Ex
pure_lettings ls = map pure_letting ls

-- The equations of the view: the expression of each variant of a value.
use Rattle.std.proofs.Common.{◌≡◌, Bool, sym, ap, ◌∙◌, map}
use Rattle.ess_semantics.specs.Trees.{Ex, truth_ex}
use Rattle.eprime_cells_machine.specs.declared.values.Number.{Number}
use Rattle.eprime_cells_machine.specs.declared.values.CellValue.TheVariants as value
use Rattle.eprime_cells_machine.specs.declared.values.CellValue.TheOpen.{CellValue-F, CellList-F}
use Rattle.eprime_cells_machine.specs.declared.values.CellValue.TheViews.{out-CellList, roll-out-CellList}
use Rattle.eprime_cells_machine.specs.declared.values.CellValue.TheFolds.{fold-roll-CellValue, fold-roll-CellList}
use Rattle.eprime_cells_machine.specs.declared.values.CellList.{CellList}
use Rattle.eprime_cells_machine.specs.ValueViews.{pure_number, list_of, value_step, list_step, pure_value, pure_list}

pub pure_value_number : (n : Number) → pure_value (value.Number n) ≡ pure_number n
pure_value_number n = ap pure_value (sym (value.rolls-Number n)) ∙ fold-roll-CellValue Ex Ex value_step list_step (CellValue-F.Number n)

pub pure_value_truth : (b : Bool) → pure_value (value.Truth b) ≡ truth_ex b
pure_value_truth b = ap pure_value (sym (value.rolls-Truth b)) ∙ fold-roll-CellValue Ex Ex value_step list_step (CellValue-F.Truth b)

pub pure_value_list : (l : CellList) → pure_value (value.List l) ≡ pure_list l
pure_value_list l = ap pure_value (sym (value.rolls-List l)) ∙ fold-roll-CellValue Ex Ex value_step list_step (CellValue-F.List l)

pub pure_list_is : (l : CellList) → pure_list l ≡ list_of (map pure_value (out-CellList l).items) (out-CellList l).ranges
pure_list_is l = ap pure_list (sym (roll-out-CellList l)) ∙ fold-roll-CellList Ex Ex value_step list_step (out-CellList l)

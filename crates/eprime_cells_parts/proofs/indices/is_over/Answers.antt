use Rattle.std.proofs.Common.{◌≡◌, ap, ◌∙◌, Some}
use Rattle.eprime_cells_laws.specs.TableReading.{list_over}
use Rattle.eprime_cells_machine.specs.ValueViews.{list_of}
use Rattle.eprime_cells_parts.proofs.ListsOver.{other_length, plain_fits, indexed_fits}
use Rattle.eprime_cells_parts.proofs.indices.is_over.Goals as goal

pub returns-then-len-axis : goal.returns-then-len-axis
returns-then-len-axis c es h = other_length c.args.axis.now es c.args.ranges.now c.args.len h c.if-len-axis.true

pub returns-in-None : goal.returns-in-None
returns-in-None c es h = ap (λ o. list_over c.args.axis.now (list_of es o)) c.in-None.is ∙ plain_fits c.args.axis.now es c.args.len h c.if-len-axis.false

pub returns-in_ok-is_index-in-Some : goal.returns-in_ok-is_index-in-Some
returns-in_ok-is_index-in-Some c es h =
    let e : c.args.ranges.now ≡ Some c.as_slice.result.now = cc (c.in-Some.is, c.as_slice.ensures) in
    ap (λ o. list_over c.args.axis.now (list_of es o)) e
    ∙ indexed_fits c.args.axis.now es c.as_slice.result.now c.args.len c.in_ok-is_index-in-Some.field-0 h c.if-len-axis.false c.in_ok-is_index-in-Some.ensures

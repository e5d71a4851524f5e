use Rattle.std.proofs.Common.{sym, ap, ◌∙◌}
use Rattle.std.specs.List.{list_all}
use Rattle.ess_semantics.specs.Lists.{is_some_and}
use Rattle.ess_semantics.specs.Tables.{is_cell}
use Rattle.eprime_cells_judging.proofs.tables.are_inside.Goals as goal

pub returns-in-Ok : goal.returns-in-Ok
returns-in-Ok c s =
    ap (λ o. is_some_and o (λ d. list_all (is_cell d) c.args.items.now)) (c.in-Ok.ensures.ok s) ∙ sym c.all_in-inside.ensures

pub returns-in-Err-Undefined : goal.returns-in-Err-Undefined
returns-in-Err-Undefined c s =
    ap (λ o. is_some_and o (λ d. list_all (is_cell d) c.args.items.now)) (c.closed.ensures.undefined (cc (c.in-Err-Undefined.is, c.in-Err-Undefined.field-0-is)) s)

pub returns-in-Err-Big : goal.returns-in-Err-Big
returns-in-Err-Big c s = c.closed.ensures.big (cc (c.in-Err-Big.is, c.in-Err-Big.field-0-is)) s

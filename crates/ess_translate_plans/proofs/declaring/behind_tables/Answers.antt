use Rattle.std.proofs.Common.{ap, ◌∙◌}
use Rattle.ess_translate_plans.specs.SameTables.{are_left}
use Rattle.ess_translate_plans.proofs.SideTables.{tables_more, tables_fail, tables_all}
use Rattle.ess_translate_plans.proofs.declaring.behind_tables.Goals as goal

pub returns-in-None : goal.returns-in-None
returns-in-None c =
    tables_fail _ _ _ _ _ c.loop-table-test.true c.table-item.is c.loop-table.invariant
    (λ xs. c.behind_name.ensures xs ∙ ap (are_left xs) c.in-None.is)

pub loop-table-preserved : goal.loop-table-preserved
loop-table-preserved c =
    tables_more _ _ _ _ _ _ c.loop-table-test.true c.table-item.is c.loop-table.invariant
    (λ xs. c.behind_name.ensures xs ∙ ap (are_left xs) c.in-Some.is)

pub returns : goal.returns
returns c = tables_all _ _ _ _ c.loop-table-test.false c.loop-table.invariant

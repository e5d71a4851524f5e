use Rattle.std.proofs.Common.{sym, ◌∙◌, rules}
use Rattle.ess_translate_plans.proofs.SideTables.{first_other}
use Rattle.ess_translate_plans.proofs.declaring.behind_name.Goals as goal

pub returns-else-is_named : goal.returns-else-is_named
returns-else-is_named c =
    first_other c.args.name.now c.args.axes c.args.rest.now c.in-Some.more.now c.in-Some.decl.now (search rules)
    (sym c.is_named.ensures ∙ c.if-is_named.false)

use Rattle.std.proofs.Common.{◌∙◌}
use Rattle.ess_parse_expressions.proofs.Bound.{name_is_bound}
use Rattle.ess_parse_expressions.proofs.items.is_bound.Goals as goal

pub returns-in-Name : goal.returns-in-Name
returns-in-Name c = c.has.ensures ∙ name_is_bound c.args.names.now c.args.pattern.now _ c.in-Name.is

use Rattle.std.proofs.Common.{sym, ap, ◌∙◌}
use Rattle.std.specs.Option.{option_map}
use Rattle.ess_core.specs.TreeViews.{pure_dom}
use Rattle.ess_core.specs.StatementViews.{pure_stm}
use Rattle.eprime_read.specs.Statements.{pure_named}
use Rattle.eprime_read.proofs.PartStatements.{only_readable, find_readable}
use Rattle.eprime_read.proofs.endings.with_find_part.Goals as goal

pub with_find-requires-clause-name : goal.with_find-requires-clause-name
with_find-requires-clause-name c =
    (find_readable (pure_stm c.in-Some.stm) (c.in-Some-find_in.name, pure_dom c.in-Some-find_in.dom) (only_readable c.args.stms c.in-Some.stm c.requires.readable (sym c.only.ensures ∙ c.in-Some.is))
    (c.find_in.ensures ∙ ap (option_map pure_named) c.in-Some-find_in.is)).0

use Rattle.std.proofs.Common.{map}
use Rattle.ess_core.specs.TableViews.{pure_named_table}
use Rattle.ess_translate_values.proofs.FindAnswers.{common_found}
use Rattle.ess_translate_values.proofs.answers.common.Goals as goal

pub returns : goal.returns
returns c =
    common_found c.args.plans.now c.args.closed.now (map pure_named_table c.args.cells.now) c.args.name.now c.in_ok-answers.answers
    c.as_slice.result.now c.in_ok-agreed.field-0 c.as_slice.ensures c.in_ok-answers.ensures c.in_ok-agreed.ensures

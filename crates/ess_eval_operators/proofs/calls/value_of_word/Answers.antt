use Rattle.std.proofs.Common.{sym, ap, ◌∙◌, map, option_map, Some, false}
use Rattle.ess_core.specs.ValueViews.{pure_val}
use Rattle.ess_core.proofs.ValueEquations.{pure_truth}
use Rattle.ess_eval_operators.proofs.WordOperands.{word_of_many}
use Rattle.ess_eval_operators.proofs.calls.value_of_word.Goals as goal

pub returns-in-Some-clause-ok : goal.returns-in-Some-clause-ok
returns-in-Some-clause-ok c =
    ap Some (pure_truth false)
    ∙ word_of_many c.args.word c.args.operands.now (map pure_val c.in-Some.vals) c.if-operands-eq1.false c.if-operands-eq2.false
    (sym (ap (option_map (map pure_val)) c.in-Some.is) ∙ c.in_ok-vals.ensures)

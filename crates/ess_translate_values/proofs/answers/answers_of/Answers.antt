use Rattle.std.proofs.Common.{rules, ◌≡◌, refl, subst, ◌+◌, map, get_or, None}
use Rattle.ess_core.specs.TableViews.{pure_named_table}
use Rattle.ess_translate_values.proofs.FindAnswers.{AnswersSoFar, answers_more, answers_skip, answers_all}
use Rattle.ess_translate_values.proofs.answers.answers_of.Goals as goal
use Rattle.ess_translate_values.proofs.answers.answers_of.Goals.{then-is_plan_of+in_ok-answer+in_ok-push, else-is_plan_of}

pub loop-index-preserved : goal.loop-index-preserved
loop-index-preserved c = elim c.if-is_plan_of.branch [
  | then-is_plan_of+in_ok-answer+in_ok-push w ↦
      answers_more c.args.plans.now c.args.closed.now (map pure_named_table c.args.cells.now) c.args.name.now c.loop-index.index
      c.index-plans-index.result _ w.index-closed-index.result _ c.loop-index.answers c.loop-index-test.true c.if-index-closed.false
      c.index-plans-index.is w.index-closed-index.is c.loop-index.invariant c.if-is_plan_of.answers w.in_ok-answer.field-0 (search rules)
      w.in_ok-answer.ensures (search rules)
  | else-is_plan_of w ↦
      let is = w.answers-is in
      let q : c.loop-index.answers ≡ c.if-is_plan_of.answers = cc in
      subst (AnswersSoFar c.args.plans.now c.args.closed.now (map pure_named_table c.args.cells.now) c.args.name.now (c.loop-index.index + 1)) q
      (answers_skip c.args.plans.now c.args.closed.now (map pure_named_table c.args.cells.now) c.args.name.now c.loop-index.index
      c.index-plans-index.result _ (get_or c.args.closed.now c.loop-index.index None) None c.loop-index.answers c.loop-index-test.true
      c.if-index-closed.false c.index-plans-index.is refl c.loop-index.invariant (search rules))
]

pub returns : goal.returns
returns c =
    answers_all c.args.plans.now c.args.closed.now (map pure_named_table c.args.cells.now) c.args.name.now c.loop-index.index c.loop-index.answers
    c.loop-index-test.false c.loop-index.invariant

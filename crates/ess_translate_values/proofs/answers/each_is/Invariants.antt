use Rattle.ess_core.specs.ValueViews.{pure_val}
use Rattle.ess_translate_values.proofs.AgreedAnswers.{SameSoFar}
use Rattle.ess_translate_values.proofs.answers.each_is.Given as goal

abbrev pub invariant-loop-answer : goal.invariant-loop-answer
invariant-loop-answer l = SameSoFar (pure_val l.val) l.answers l.answer-index

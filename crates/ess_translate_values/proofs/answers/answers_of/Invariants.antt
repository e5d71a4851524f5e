use Rattle.std.proofs.Common.{map}
use Rattle.ess_core.specs.TableViews.{pure_named_table}
use Rattle.ess_translate_values.proofs.FindAnswers.{AnswersSoFar}
use Rattle.ess_translate_values.proofs.answers.answers_of.Given as goal

abbrev pub invariant-loop-index : goal.invariant-loop-index
invariant-loop-index l = AnswersSoFar l.plans l.closed (map pure_named_table l.cells) l.name l.index l.answers

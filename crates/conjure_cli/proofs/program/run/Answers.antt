use Rattle.conjure_cli.proofs.RunLaws.{ends_with, usage_is_two, test_gives, says_test, missing_by}
use Rattle.conjure_cli.proofs.RunLaws.{decides_by, refused_keeps, keeps_all_else, says_translation}
use Rattle.conjure_cli.proofs.StandingLaws.{model_stands, model_is_there}
use Rattle.conjure_cli.proofs.HoldingLaws.{says_whether_solution}
use Rattle.conjure_cli.proofs.program.run.Goals as goal

pub returns-clause-ended : goal.returns-clause-ended
returns-clause-ended g c = (c.done.result, ends_with _ _ _ _ _ _ _ _ _ _ c.done.ensures.ended c.status.ensures)

pub returns-clause-usage : goal.returns-clause-usage
returns-clause-usage g c = usage_is_two _ _ _ _ _ _ _ _ _ _ (ends_with _ _ _ _ _ _ _ _ _ _ c.done.ensures.ended c.status.ensures)

pub returns-clause-limitless : goal.returns-clause-limitless
returns-clause-limitless g c = test_gives _ _ _ _ _ _ _ _ _ _ (ends_with _ _ _ _ _ _ _ _ _ _ c.done.ensures.ended c.status.ensures)

pub returns-clause-tested : goal.returns-clause-tested
returns-clause-tested g c = says_test _ _ _ _ _ _ _ _ _ _ (ends_with _ _ _ _ _ _ _ _ _ _ c.done.ensures.ended c.status.ensures)

pub returns-clause-missing : goal.returns-clause-missing
returns-clause-missing g c = missing_by _ _ _ _ _ _ _ _ _ _ (ends_with _ _ _ _ _ _ _ _ _ _ c.done.ensures.ended c.status.ensures)

pub returns-clause-decided : goal.returns-clause-decided
returns-clause-decided g c = decides_by _ _ _ _ _ _ _ _ _ _ (ends_with _ _ _ _ _ _ _ _ _ _ c.done.ensures.ended c.status.ensures)

pub returns-clause-refused : goal.returns-clause-refused
returns-clause-refused g c = refused_keeps _ _ _ _ _ _ _ _ _ _ (ends_with _ _ _ _ _ _ _ _ _ _ c.done.ensures.ended c.status.ensures)

pub returns-clause-others : goal.returns-clause-others
returns-clause-others g c = keeps_all_else _ _ _ _ _ _ _ _ _ _ (ends_with _ _ _ _ _ _ _ _ _ _ c.done.ensures.ended c.status.ensures)

pub returns-clause-stands : goal.returns-clause-stands
returns-clause-stands g c = model_stands _ _ _ _ _ _ _ _ _ _ (ends_with _ _ _ _ _ _ _ _ _ _ c.done.ensures.ended c.status.ensures)

pub returns-clause-built : goal.returns-clause-built
returns-clause-built g c = model_is_there _ _ _ _ _ _ _ _ _ _ (ends_with _ _ _ _ _ _ _ _ _ _ c.done.ensures.ended c.status.ensures)

pub returns-clause-judged : goal.returns-clause-judged
returns-clause-judged g c = says_whether_solution _ _ _ _ _ _ _ _ _ _ (ends_with _ _ _ _ _ _ _ _ _ _ c.done.ensures.ended c.status.ensures)

pub returns-clause-translated : goal.returns-clause-translated
returns-clause-translated g c = says_translation _ _ _ _ _ _ _ _ _ _ (ends_with _ _ _ _ _ _ _ _ _ _ c.done.ensures.ended c.status.ensures)

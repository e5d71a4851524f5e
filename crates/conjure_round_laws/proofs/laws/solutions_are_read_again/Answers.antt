use Rattle.conjure_round_laws.proofs.SolutionsAgain.{solutions-are-read-again}
use Rattle.conjure_round_laws.proofs.laws.solutions_are_read_again.Goals as goal

pub returns : goal.returns
returns c = solutions-are-read-again

use Rattle.ess_refine_types_laws.proofs.laws.judged_trees_have_marks.Goals as goal
use Rattle.ess_refine_types_laws.proofs.MarksOfJudged.{judged-trees-have-marks}

pub returns : goal.returns
returns c = judged-trees-have-marks

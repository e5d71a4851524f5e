use Rattle.ess_refine_types_laws.proofs.laws.typed_trees_have_marks.Goals as goal
use Rattle.ess_refine_types_laws.proofs.MarksOfTyped.{typed-trees-have-marks}

pub returns : goal.returns
returns c = typed-trees-have-marks

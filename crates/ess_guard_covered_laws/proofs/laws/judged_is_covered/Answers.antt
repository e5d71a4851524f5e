use Rattle.ess_guard_covered_laws.proofs.laws.judged_is_covered.Goals as goal
use Rattle.ess_semantics.specs.Resolving.{resolve}
use Rattle.ess_refine_types_laws.proofs.MarksOfTyped.{typed-trees-have-marks}
use Rattle.ess_refine_types_laws.proofs.MarksOfJudged.{judged-trees-have-marks}
use Rattle.ess_guard_covered_laws.proofs.MarkedTrees.{covered}
use Rattle.ess_guard_covered_laws.proofs.FormsNeeded.{told}

pub returns : goal.returns
returns c = record {
  marked = λ e g m t. covered e g m t;
  typed = λ e g h r t. covered e g (typed-trees-have-marks e g h r) t;
  needed = told;
  judged = λ e s h t. covered (resolve e s.tys) s.tys (judged-trees-have-marks e s h) t;
}

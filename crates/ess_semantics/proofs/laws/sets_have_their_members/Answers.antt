use Rattle.std.proofs.Common.{ap, ◌∙◌}
use Rattle.ess_semantics.specs.Values.{itself}
use Rattle.ess_semantics.specs.Collections.{holds, rises, sorted_once}
use Rattle.ess_semantics.proofs.laws.sets_have_their_members.Goals as goal
use Rattle.ess_semantics.proofs.Orders.{to_list-of_list}
use Rattle.ess_semantics.proofs.Sorting.{sorted_once-rises, holds-sorted_once}

pub returns : goal.returns
returns c = λ xs. (
  ap (rises itself) (to_list-of_list (sorted_once xs)) ∙ sorted_once-rises xs,
  λ v. ap (λ ys. holds ys v) (to_list-of_list (sorted_once xs)) ∙ holds-sorted_once xs v,
)

use Rattle.ess_views_kept_laws.proofs.laws.children_serve.Goals as goal
use Rattle.ess_views_kept_laws.proofs.ChildViews.{kept-child}
use Rattle.ess_views_kept_laws.proofs.AskedChildren.{same-items, child-listed, asked_of_child-keeps}

pub returns : goal.returns
returns c = record {
  members_stay = λ e c q env h m. let k = kept-child e c q env h m in (same-items e c env k, k.met);
  members_are_offered = child-listed;
  the_child_is_asked = asked_of_child-keeps;
}

use Rattle.ess_views_kept_laws.proofs.laws.members_once_are_listed.Goals as goal
use Rattle.ess_views_kept_laws.proofs.MembersOnce.{members_once-offered}

pub returns : goal.returns
returns c = members_once-offered

use Rattle.ess_views_kept_laws.proofs.laws.numbered_members_are_listed.Goals as goal
use Rattle.ess_views_kept_laws.proofs.MultisetListing.{occurrence_members-offered}

pub returns : goal.returns
returns c = occurrence_members-offered

use Rattle.ess_views_kept_laws.proofs.laws.slotted_members_are_listed.Goals as goal
use Rattle.ess_views_kept_laws.proofs.RepetitionListing.{repetition_members-offered}

pub returns : goal.returns
returns c = repetition_members-offered

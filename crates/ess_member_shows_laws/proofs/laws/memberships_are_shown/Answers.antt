use Rattle.ess_member_shows_laws.proofs.ShownTables.{memberships-shown}
use Rattle.ess_member_shows_laws.proofs.laws.memberships_are_shown.Goals as goal

pub returns : goal.returns
returns c = memberships-shown

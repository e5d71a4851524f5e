use Rattle.ess_rules_laws.proofs.view_laws.dummy_views_are_listed.Goals as goal
use Rattle.ess_rules_laws.proofs.DummyListing.{dummy-listed}

pub returns : goal.returns
returns c = dummy-listed

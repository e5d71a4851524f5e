use Rattle.ess_given_throughout_laws.proofs.laws.axes_over_domains_are_given.Goals as goal
use Rattle.ess_given_throughout_laws.proofs.CountedAxes.{axes-count-fixed}

pub returns : goal.returns
returns c = axes-count-fixed

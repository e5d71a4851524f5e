use Rattle.ess_repr_functions.proofs.ArgumentLoops.{axes_all}
use Rattle.ess_repr_functions.proofs.forms.axes_of.Goals as goal

pub returns : goal.returns
returns c = axes_all c.args.domains.now c.loop-domain.domain-index c.loop-domain.axes c.loop-domain-test.false c.loop-domain.invariant

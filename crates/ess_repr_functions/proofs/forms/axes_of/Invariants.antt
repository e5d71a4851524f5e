use Rattle.std.proofs.Common.{◌≡◌, map, take}
use Rattle.ess_semantics.specs.Layers.{codes_of}
use Rattle.ess_eval_domains.specs.ClosedViews.{pure_closed}
use Rattle.ess_repr_functions.proofs.forms.axes_of.Given as goal

abbrev pub invariant-loop-domain : goal.invariant-loop-domain
invariant-loop-domain l = l.axes ≡ map codes_of (map pure_closed (take l.domain-index l.domains))

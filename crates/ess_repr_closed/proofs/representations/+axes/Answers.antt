use Rattle.std.proofs.Common.{rules, refl}
use Rattle.ess_core.specs.declared.representations.Repr.TheViews.{out-Repr}
use Rattle.ess_repr_closed.proofs.AllAxes.{axes_made}
use Rattle.ess_repr_closed.proofs.representations.+axes.Goals as goal

pub axes_of-returns : goal.axes_of-returns
axes_of-returns t c = axes_made c.args.repr.now c.args.domain.now (c.in_ok-own.own) (c.in_ok-with_children.field-0) (out-Repr c.args.repr.now).children (c.in_ok-parts.parts) c.as_slice.result.now (c.in_ok-front.front) c.as_slice-2.result.now (search rules) (search rules) (search rules) refl (search rules) (search rules) (search rules)

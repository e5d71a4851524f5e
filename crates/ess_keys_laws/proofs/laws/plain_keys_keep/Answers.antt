use Rattle.ess_keys_laws.proofs.Refined.{refined-keyable}
use Rattle.ess_keys_laws.proofs.Bound.{rel-nothing}
use Rattle.ess_keys_laws.proofs.Keying.{keyed-means}
use Rattle.ess_keys_laws.specs.Keyed.{nothing_around}
use Rattle.ess_keys_laws.proofs.laws.plain_keys_keep.Goals as goal

pub returns : goal.returns
returns c = λ e t z s o sc env.
    keyed-means env.positions env.types env.cells z e s o nothing_around env.vals env.vals (refined-keyable e t) sc
    (rel-nothing env.positions env.types env.cells s env.vals)

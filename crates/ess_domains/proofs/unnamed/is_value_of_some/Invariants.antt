use Rattle.std.proofs.Common.{◌≡◌, map, drop}
use Rattle.ess_semantics.specs.Names.{is_among}
use Rattle.ess_domains.specs.Sizes.{pure_size, names_of_sizes}
use Rattle.ess_domains.proofs.unnamed.is_value_of_some.Given as goal

abbrev pub invariant-loop-size : goal.invariant-loop-size
invariant-loop-size l = is_among (names_of_sizes (map pure_size l.sizes)) l.name ≡ is_among (names_of_sizes (map pure_size (drop l.size-index l.sizes))) l.name

use Rattle.std.proofs.Common.{◌≡◌, map, drop}
use Rattle.ess_semantics.specs.Parameters.{is_accepted}
use Rattle.ess_domains.specs.Sizes.{pure_size}
use Rattle.ess_domains.proofs.unnamed.is_accepted.Given as goal

abbrev pub invariant-loop-size : goal.invariant-loop-size
invariant-loop-size l = is_accepted (map pure_size l.sizes) l.own l.names ≡ is_accepted (map pure_size (drop l.size-index l.sizes)) l.own l.names

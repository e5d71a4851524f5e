use Rattle.std.proofs.Common.{◌≡◌, map, take}
use Rattle.ess_repr.proofs.Fronts.{front_of}
use Rattle.ess_repr.proofs.naming.named_fields.Given as goal

abbrev pub invariant-loop-field : goal.invariant-loop-field
invariant-loop-field l = l.names ≡ map front_of (take l.field-index l.fields)

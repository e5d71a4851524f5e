use Rattle.std.proofs.Common.{◌≡◌, take}
use Rattle.ess_repr_closed.proofs.copies.+copy_closed.Given as goal

abbrev pub invariant-several-loop-domain : goal.invariant-several-loop-domain
invariant-several-loop-domain l = l.copies ≡ take l.domain-index l.domains

abbrev pub invariant-copy_fields-loop-field : goal.invariant-copy_fields-loop-field
invariant-copy_fields-loop-field l = l.copies ≡ take l.field-index l.fields

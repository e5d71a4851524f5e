use Rattle.std.proofs.Common.{◌≡◌, drop}
use Rattle.ess_semantics.specs.Kinds.{all_fit}
use Rattle.ess_repr.proofs.FittingChildren.{kids, parts, field_parts}
use Rattle.ess_repr.proofs.+fits.Given as goal

abbrev pub invariant-fitting::parts_fit-loop-i : goal.invariant-fitting::parts_fit-loop-i
invariant-fitting::parts_fit-loop-i l =
    all_fit (kids l.children) (parts l.parts) ≡ all_fit (kids (drop l.i l.children)) (parts (drop l.i l.parts))

abbrev pub invariant-fitting::fields_fit-loop-i : goal.invariant-fitting::fields_fit-loop-i
invariant-fitting::fields_fit-loop-i l =
    all_fit (kids l.children) (field_parts l.fields) ≡ all_fit (kids (drop l.i l.children)) (field_parts (drop l.i l.fields))

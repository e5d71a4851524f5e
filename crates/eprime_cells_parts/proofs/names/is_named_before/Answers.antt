use Rattle.std.proofs.Common.{sym}
use Rattle.eprime_cells_parts.proofs.Places.{named_before, named_nowhere}
use Rattle.eprime_cells_parts.proofs.names.is_named_before.Goals as goal

pub returns-in-Some : goal.returns-in-Some
returns-in-Some c = named_before c.args.lettings.now c.args.places.now c.args.count c.in-Some.place.now c.args.name.now c.requires
    (sym c.in-Some.ensures.value)

pub returns-in-None : goal.returns-in-None
returns-in-None c = named_nowhere c.args.lettings.now c.args.places.now c.args.count c.args.name.now c.requires
    (sym c.in-None.ensures.value)

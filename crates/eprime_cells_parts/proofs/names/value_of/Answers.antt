use Rattle.std.proofs.Common.{sym, ◌∙◌}
use Rattle.eprime_cells_parts.proofs.Places.{value_missing, value_there}
use Rattle.eprime_cells_parts.proofs.names.value_of.Goals as goal

pub returns-in-Some : goal.returns-in-Some
returns-in-Some c = c.value_at.ensures ∙ value_there c.args.lettings.now c.args.places.now c.args.name.now c.in-Some.place.now c.requires
    (sym c.in-Some.ensures.value)

pub returns-in-None : goal.returns-in-None
returns-in-None c = value_missing c.args.lettings.now c.args.places.now c.args.name.now c.requires (sym c.in-None.ensures.value)

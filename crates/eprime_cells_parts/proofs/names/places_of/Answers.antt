use Rattle.eprime_cells_parts.proofs.Places.{placed_step, placed_all}
use Rattle.eprime_cells_parts.proofs.names.places_of.Goals as goal

pub loop-place-preserved : goal.loop-place-preserved
loop-place-preserved c =
    placed_step c.args.lettings.now c.loop-place.place c.index-lettings-place.result c.loop-place.places c.put_place.new.places
    c.loop-place.invariant c.loop-place-test.true c.index-lettings-place.is c.in_ok-put_place.ensures

pub returns : goal.returns
returns c = placed_all c.args.lettings.now c.loop-place.place c.loop-place.places c.loop-place.invariant c.loop-place-test.false

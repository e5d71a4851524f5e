use Rattle.std.proofs.Common.{rules, ◌≡◌, ◌<◌, get_or, length}
use Rattle.eprime_eval_kinds.proofs.Places.{places_more}
use Rattle.eprime_eval_kinds.proofs.declared.places_of.Goals as goal

pub loop-place-preserved : goal.loop-place-preserved
loop-place-preserved c =
    let s = c.index-shapes-place.result in
    let l : c.loop-place.place < length c.args.shapes.now = search rules in
    let g : s ≡ get_or c.args.shapes.now c.loop-place.place s = search rules in
    places_more c.args.shapes.now c.loop-place.place s c.loop-place.places.entries c.note.new.places.entries l g c.loop-place.invariant
    c.in_ok-note.ensures

use Rattle.std.proofs.Common.{sym, ◌∙◌}
use Rattle.eprime_cells_parts.proofs.Places.{place_put, place_known}
use Rattle.eprime_cells_parts.proofs.names.put_place.Goals as goal

pub returns-then-contains_key : goal.returns-then-contains_key
returns-then-contains_key c = λ ns h l. place_known ns c.args.name.now c.args.places.now h
    (sym c.contains_key.ensures ∙ c.if-contains_key.true)

pub returns : goal.returns
returns c = λ ns h l.
    place_put ns c.args.name.now c.in_ok-name.name c.args.place c.args.places.now c.insert.new.self h
    (sym c.contains_key.ensures ∙ c.if-contains_key.false) c.in_ok-name.ensures l c.in_ok-insert.ensures.updates

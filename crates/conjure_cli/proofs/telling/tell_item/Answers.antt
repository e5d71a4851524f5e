use Rattle.std.proofs.Common.{◌∙◌, refl, inl}
use Rattle.conjure_cli.specs.Reasons.{item_line}
use Rattle.conjure_cli.specs.Seen.{sink_at}
use Rattle.conjure_cli.proofs.PieceLaws.{line_left}
use Rattle.conjure_cli.proofs.telling.tell_item.Goals as goal

pub returns-in-Ok : goal.returns-in-Ok
returns-in-Ok g c = inl (
  refl,
  line_left c.put_all.result (item_line c.args.number) c.as_bytes.result.now
      (sink_at (g.E.Sink.bytes c.args.err.now) (g.E.Sink.faults c.args.err.now))
      (sink_at (g.E.Sink.bytes c.put_all.new.sink) (g.E.Sink.faults c.put_all.new.sink)) (c.as_bytes.ensures ∙ c.in-Ok.ensures)
      c.put_all.ensures.ok c.put_all.ensures.part c.put_all.ensures.failed,
)

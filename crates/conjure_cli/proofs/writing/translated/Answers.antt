use Rattle.std.proofs.Common.{sym, subst, option_map}
use Rattle.conjure_cli.specs.Seen.{files_at, sink_at}
use Rattle.conjure_cli.specs.Judging.{StopTold}
use Rattle.conjure_cli.specs.Translating.{Translates}
use Rattle.conjure_cli.proofs.TranslatingLaws.{ends_written, ends_stopped_source}
use Rattle.conjure_cli.proofs.writing.translated.Goals as goal

pub returns-in-Ok-clause-ended : goal.returns-in-Ok-clause-ended
returns-in-Ok-clause-ended g c =
    ends_written c.written-ending.result c.args.sources.model.now c.args.sources.param.now
    (option_map (λ name. name.now) c.args.sources.cells) c.args.place.now c.deref.result.now
    (files_at (g.F.Files.tree c.args.files.now) (g.F.Files.faults c.args.files.now) (g.F.Files.misses c.args.files.now))
    (files_at (g.F.Files.tree c.translation_of.new.files) (g.F.Files.faults c.translation_of.new.files)
    (g.F.Files.misses c.translation_of.new.files))
    (files_at (g.F.Files.tree c.written-ending.new.files) (g.F.Files.faults c.written-ending.new.files)
    (g.F.Files.misses c.written-ending.new.files))
    (sink_at (g.O.Sink.bytes c.args.out.now) (g.O.Sink.faults c.args.out.now))
    (sink_at (g.O.Sink.bytes c.written-ending.new.out) (g.O.Sink.faults c.written-ending.new.out))
    (sink_at (g.E.Sink.bytes c.args.err.now) (g.E.Sink.faults c.args.err.now))
    (sink_at (g.E.Sink.bytes c.report.new.err) (g.E.Sink.faults c.report.new.err))
    (subst (λ bytes. Translates (g.F.Files.tree c.args.files.now) c.args.sources.model.now c.args.sources.param.now
    (option_map (λ name. name.now) c.args.sources.cells) bytes) (sym c.deref.ensures.value) c.in-Ok.ensures.ok)
    c.in-Ok.ensures.later c.written-ending.ensures.written c.report.ensures

pub returns-in-Err-clause-ended : goal.returns-in-Err-clause-ended
returns-in-Err-clause-ended g c =
    ends_stopped_source c.in-Err.stop.outcome c.tell_stop.result c.in-Err.stop.at c.args.sources.model.now c.args.sources.param.now
    (option_map (λ name. name.now) c.args.sources.cells) c.args.place.now
    (files_at (g.F.Files.tree c.args.files.now) (g.F.Files.faults c.args.files.now) (g.F.Files.misses c.args.files.now))
    (files_at (g.F.Files.tree c.translation_of.new.files) (g.F.Files.faults c.translation_of.new.files)
    (g.F.Files.misses c.translation_of.new.files))
    (sink_at (g.O.Sink.bytes c.args.out.now) (g.O.Sink.faults c.args.out.now))
    (sink_at (g.E.Sink.bytes c.args.err.now) (g.E.Sink.faults c.args.err.now))
    (sink_at (g.E.Sink.bytes c.tell_stop.new.err) (g.E.Sink.faults c.tell_stop.new.err))
    c.in-Err.ensures.stops c.in-Err.ensures.later.tree
    (subst (λ file. StopTold c.in-Err.stop.outcome c.tell_stop.result file
    (sink_at (g.E.Sink.bytes c.args.err.now) (g.E.Sink.faults c.args.err.now))
    (sink_at (g.E.Sink.bytes c.tell_stop.new.err) (g.E.Sink.faults c.tell_stop.new.err))) c.told-told.ensures c.tell_stop.ensures)

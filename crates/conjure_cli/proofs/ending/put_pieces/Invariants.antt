use Rattle.std.proofs.Common.{◌≡◌, ◌≤◌, map, take}
use Rattle.std.specs.List.{concat}
use Rattle.ess_io.specs.Sinks.{grown}
use Rattle.conjure_cli.proofs.ending.put_pieces.Given as goal

abbrev pub invariant-loop-piece : goal.invariant-loop-piece
invariant-loop-piece g l =
    (g.S.Sink.bytes l.sink ≡ grown (g.S.Sink.bytes l.initial.sink) (concat (map (λ piece. piece.now) (take l.piece-index l.pieces))))
    × (g.S.Sink.faults l.initial.sink ≤ g.S.Sink.faults l.sink)

use Rattle.std.proofs.Common.{ap, ◌∙◌}
use Rattle.conjure_cli_laws.specs.ModelText.{header_representation}
use Rattle.conjure_cli.proofs.WritingLaws.{next_find, next_other}
use Rattle.conjure_cli.proofs.writer.put_representations.Goals as goal
use Rattle.conjure_cli.proofs.writer.put_representations.Goals.{in-Find+in_ok-put_representation-in-Find, in-SuchThat}

pub loop-line-preserved : goal.loop-line-preserved
loop-line-preserved c = elim c.match-line.branch [
  | in-Find+in_ok-put_representation-in-Find w ↦ next_find header_representation c.args.lines.now _ _ w.in-Find.name w.in-Find.low w.in-Find.high _ _ _
      c.loop-line-test.true w.in-Find.is c.loop-line.invariant (ap (λ t. t.items) w.text-is ∙ w.in_ok-put_representation-in-Find.ensures)
  | in-SuchThat w ↦ next_other header_representation c.args.lines.now _ _ w.in-SuchThat.number w.in-SuchThat.name _ _ _
      c.loop-line-test.true w.in-SuchThat.is c.loop-line.invariant (ap (λ t. t.items) w.text-is)
]

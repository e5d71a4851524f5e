use Rattle.std.proofs.Common.{ap, ◌∙◌, ◌++◌, ◌+◌, take, subst, sym}
use Rattle.conjure_cli.specs.Writing.{plain_constraint}
use Rattle.conjure_cli.proofs.WritingLaws.{next_constraint, no_constraint, all_written, written_all, Written, constraints}
use Rattle.conjure_cli.proofs.writer.put_constraints.Goals as goal
use Rattle.conjure_cli.proofs.writer.put_constraints.Goals.{in-Find, in-SuchThat+in_ok-put_before_constraint-in-SuchThat+in_ok-put_constraint-in-SuchThat}

pub loop-line-preserved : goal.loop-line-preserved
loop-line-preserved c = elim c.match-line.branch [
  | in-Find w ↦ no_constraint c.args.lines.now _ _ w.in-Find.name w.in-Find.low w.in-Find.high _ _ _ _ _
      c.loop-line-test.true w.in-Find.is c.loop-line.invariant (ap (λ t. t.items) w.text-is) w.some-is
  | in-SuchThat+in_ok-put_before_constraint-in-SuchThat+in_ok-put_constraint-in-SuchThat w ↦
      subst (λ some. Written c.args.text.now.items c.match-line.text.items some (constraints (take (c.loop-line.line-index + 1) c.args.lines.now))) (sym w.some-is)
      (next_constraint c.args.lines.now _ _ w.in-SuchThat.number w.in-SuchThat.name _ _ _ _
      c.loop-line-test.true w.in-SuchThat.is c.loop-line.invariant
      (ap (λ t. t.items) w.text-is ∙ w.in_ok-put_constraint-in-SuchThat.ensures
      ∙ ap (λ t. t ++ plain_constraint w.in-SuchThat.number w.in-SuchThat.name.now) w.in_ok-put_before_constraint-in-SuchThat.ensures))
]

pub returns : goal.returns
returns c = all_written _ _ _ _ _ (written_all c.args.lines.now c.loop-line.line-index _ _ _ c.loop-line-test.false c.loop-line.invariant) c.in_ok-put_behind_constraints.ensures

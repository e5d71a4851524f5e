use Rattle.std.proofs.Common.{◌≡◌, ◌++◌, length, take, drop, ap, sym, ◌∙◌, arith}
use Rattle.ess_core_parts.specs.Numbered.{row, found}
use Rattle.ess_core_parts.proofs.Searches.{lent-found, lent-put, turn, none-lent}
use Rattle.ess_core_parts.proofs.rows.RowParts.put_part.Goals as goal
use Rattle.ess_core_parts.proofs.rows.RowParts.put_part.Goals.{in-Some+in-Err, in_default}

pub returns-in-Ok-clause-was : goal.returns-in-Ok-clause-was
returns-in-Ok-clause-was g c =
    sym (c.loop-i.invariant.0 ∙ lent-found g.T.Parts.parted c.loop-i.self c.loop-i.i c.in-Some.tree.now (sym c.in-Some.ensures.value) c.loop-i.past c.loop-i.new c.in-Ok.was c.in-Ok.ensures.was)

pub returns-in-Ok-clause-after : goal.returns-in-Ok-clause-after
returns-in-Ok-clause-after g c =
    sym (c.loop-i.invariant.1 ∙ lent-put g.T.Parts.parted c.loop-i.self c.loop-i.i c.in-Some.tree.now c.put_part.new.self (sym c.in-Some.ensures.value) c.loop-i.past c.loop-i.new c.in-Ok.was c.in-Ok.ensures.was c.in-Ok.ensures.after)

pub loop-i-preserved : goal.loop-i-preserved
loop-i-preserved g c =
    elim c.match-get_mut.branch [
      | in-Some+in-Err w ↦
          let t = turn g.T.Parts.parted c.loop-i.self c.loop-i.i w.in-Some.tree.now w.put_part.new.self (sym w.in-Some.ensures.value)
          c.loop-i.past c.loop-i.new w.in-Err.left w.in-Err.back w.in-Err.ensures.was w.put_part.ensures.after
          c.match-get_mut.self c.match-get_mut.past c.match-get_mut.new w.self-is w.past-is w.new-is in
          (c.loop-i.invariant.0 ∙ t.0, c.loop-i.invariant.1 ∙ t.1, t.2 ∙ c.loop-i.invariant.2)
      | in_default w ↦
          absurd (none-lent g.T.Parts.parted c.loop-i.self c.loop-i.i (sym w.in_default.ensures.value) (omega (arith, c.loop-i-test.true, c.len-i-end.ensures, c.loop-i.invariant.2)))
    ]

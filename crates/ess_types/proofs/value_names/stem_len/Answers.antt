use Rattle.std.proofs.Common.{sym, ◌∙◌, arith}
use Rattle.ess_types.proofs.ValueNames.{stem_other}
use Rattle.ess_types.proofs.value_names.stem_len.Goals as goal
use Rattle.ess_types.proofs.value_names.stem_len.Goals.{then-loop-behind-test+else-is_ascii_digit, else-loop-behind-test}

pub returns-then-name-behind-ne95-clause-stem : goal.returns-then-name-behind-ne95-clause-stem
returns-then-name-behind-ne95-clause-stem c =
    stem_other c.args.name.now c.loop-behind.behind (omega (arith, c.if-behind-eq0.false)) c.loop-behind.invariant.within
    (elim c.loop-behind-test.branch [
      | then-loop-behind-test+else-is_ascii_digit w ↦ sym w.is_ascii_digit.ensures.value ∙ w.if-is_ascii_digit.false
      | else-loop-behind-test w ↦ absurd (omega (arith, w.loop-behind-test.false, c.if-behind-eq0.false))
    ])
    c.loop-behind.invariant.digits c.if-name-behind-ne95.true

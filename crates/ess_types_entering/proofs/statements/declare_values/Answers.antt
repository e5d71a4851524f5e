use Rattle.std.proofs.Common.{◌∙◌}
use Rattle.ess_types_entering.proofs.Values.{values_more, values_standing}
use Rattle.ess_types_entering.proofs.statements.declare_values.Goals as goal

pub loop-k-preserved : goal.loop-k-preserved
loop-k-preserved c = record {
  bound = c.in_ok-declare_value.ensures.bound ∙ c.loop-k.invariant.bound;
  done = values_more c.args.values.now c.loop-k.k c.index-values-values.result c.args.name.now _ _ _ c.loop-k-test.true
      c.index-values-values.is c.loop-k.invariant.done (c.in_ok-declare_value.ensures.ok c.in-Added.is);
}

pub returns-in-Standing-clause-standing : goal.returns-in-Standing-clause-standing
returns-in-Standing-clause-standing c h =
    values_standing c.args.values.now c.loop-k.k c.index-values-values.result c.args.name.now _ _ c.loop-k-test.true
    c.index-values-values.is c.loop-k.invariant.done (c.in_ok-declare_value.ensures.standing c.in-Standing.is)

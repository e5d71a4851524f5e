use Rattle.std.proofs.Common.{sym, ◌∙◌}
use Rattle.eprime_cells_parts.proofs.LookedThrough.{looked_none, looked_more, looked_undeclared, looked_twice}
use Rattle.eprime_cells_parts.proofs.names.first_extra.Goals as goal
use Rattle.eprime_cells_parts.proofs.names.first_extra.Goals.{then-not-has-via-then-not-has, then-not-has-via-else-not-has+then-is_named_before}

pub loop-index-init : goal.loop-index-init
loop-index-init c = looked_none c.args.declared.now c.args.lettings.now

pub returns-then-not-has : goal.returns-then-not-has
returns-then-not-has c = elim c.then-not-has.branch [
  | then-not-has-via-then-not-has w ↦
      sym (looked_undeclared c.args.declared.now c.args.lettings.now c.loop-index.index c.index-lettings-index.result
      c.loop-index.invariant c.loop-index-test.true c.index-lettings-index.is
      (sym c.has.ensures ∙ w.if-not-has.true))
  | then-not-has-via-else-not-has+then-is_named_before w ↦
      sym (looked_twice c.args.declared.now c.args.lettings.now c.loop-index.index c.index-lettings-index.result c.loop-index.invariant
      c.loop-index-test.true c.index-lettings-index.is
      (sym w.is_named_before.ensures ∙ w.if-is_named_before.true))
]

pub loop-index-preserved : goal.loop-index-preserved
loop-index-preserved c =
    looked_more c.args.declared.now c.args.lettings.now c.loop-index.index c.index-lettings-index.result c.loop-index.invariant
    c.loop-index-test.true c.index-lettings-index.is
    (sym c.has.ensures ∙ c.if-not-has.false) (sym c.is_named_before.ensures ∙ c.if-is_named_before.false)

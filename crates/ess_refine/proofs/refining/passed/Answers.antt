use Rattle.std.proofs.Common.{[], refl}
use Rattle.ess_semantics.specs.Contexts.{fill}
use Rattle.ess_semantics.specs.NamesAt.{names_at}
use Rattle.ess_core_nodes.specs.NodeViews.{pure_node}
use Rattle.ess_node_types.specs.TypedNames.{pure_names}
use Rattle.ess_refine.proofs.Chains.{passes-none}
use Rattle.ess_refine.proofs.NodeTurns.{pass_more}
use Rattle.ess_refine.proofs.Endings.{at_first, passes_settled}
use Rattle.ess_refine.proofs.refining.passed.Goals as goal

pub loop-pass-init : goal.loop-pass-init
loop-pass-init c = (
  passes-none fill names_at (at_first c.args.next.now) (at_first c.args.next.now) [] (pure_node c.args.node.now) refl,
  c.new-names.ensures,
)

pub loop-pass-preserved : goal.loop-pass-preserved
loop-pass-preserved c = (
  pass_more (at_first c.args.next.now) c.loop-pass.turns c.pass.new.turns (pure_names c.new-names.result) c.args.node.now c.loop-pass.node
      c.replace-old.result c.in_ok-new.new c.replace.new.dest c.loop-pass.invariant.0 c.loop-pass.invariant.1 c.replace-old.ensures.value
      c.in_ok-new.ensures c.replace.ensures.after,
  c.loop-pass.invariant.1,
)

pub returns-then-branch : goal.returns-then-branch
returns-then-branch c =
    passes_settled (at_first c.args.next.now) c.pass.new.turns (pure_names c.new-names.result) (pure_node c.args.node.now)
    (pure_node c.replace.new.dest)
    (pass_more (at_first c.args.next.now) c.loop-pass.turns c.pass.new.turns (pure_names c.new-names.result) c.args.node.now
    c.loop-pass.node c.replace-old.result c.in_ok-new.new c.replace.new.dest c.loop-pass.invariant.0 c.loop-pass.invariant.1 c.replace-old.ensures.value
    c.in_ok-new.ensures c.replace.ensures.after)
    c.loop-pass.invariant.1 (c.in_ok-rests.ensures c.if-branch.true)

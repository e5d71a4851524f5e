use Rattle.std.proofs.Common.{sym, ap}
use Rattle.ess_core_nodes.specs.NodeViews.{pure_node, pure_gens}
use Rattle.ess_rules_opening.specs.OpenedViews.{pure_opened}
use Rattle.ess_rules.proofs.SourcedRoots.{plain_made, plain_next, other_made, other_next, named_made, named_next}
use Rattle.ess_rules.proofs.sourced.comp_anew.Goals as goal

pub returns-in_default-clause-made : goal.returns-in_default-clause-made
returns-in_default-clause-made c =
    plain_made c.args.next.now (pure_node c.args.body.now) (pure_gens c.args.gens.now) (sym c.in_default.ensures)

pub returns-in_default-clause-next : goal.returns-in_default-clause-next
returns-in_default-clause-next c =
    plain_next c.args.next.now (pure_node c.args.body.now) (pure_gens c.args.gens.now) (sym c.in_default.ensures)

pub returns-in_default-source_in-clause-made : goal.returns-in_default-source_in-clause-made
returns-in_default-source_in-clause-made c =
    other_made c.args.next.now (pure_node c.args.body.now) (pure_gens c.args.gens.now) (pure_opened c.in-Some.opened)
    (sym c.in-Some.ensures) (sym c.in_default-source_in.ensures)

pub returns-in_default-source_in-clause-next : goal.returns-in_default-source_in-clause-next
returns-in_default-source_in-clause-next c =
    other_next c.args.next.now (pure_node c.args.body.now) (pure_gens c.args.gens.now) (pure_opened c.in-Some.opened)
    (sym c.in-Some.ensures) (sym c.in_default-source_in.ensures)

pub returns-clause-made : goal.returns-clause-made
returns-clause-made c =
    named_made c.args.next.now (pure_node c.args.body.now) (pure_gens c.args.gens.now) (pure_opened c.in-Some.opened)
    c.in-Some-source_in.name.now (pure_node c.in-Some-source_in.source.now) (pure_gens c.in-Some-source_in.rest.now)
    (pure_node c.in_ok-told.told) (pure_gens c.in_ok-gens.gens) (pure_node c.in_ok-body.body) (pure_node c.in_ok-comprehension.field-0)
    (sym c.in-Some.ensures) (sym c.in-Some-source_in.ensures) c.in_ok-told.ensures.tree c.in_ok-gens.ensures
    (ap pure_node c.in_ok-body.ensures) c.in_ok-comprehension.ensures

pub returns-clause-next : goal.returns-clause-next
returns-clause-next c =
    named_next c.args.next.now (pure_node c.args.body.now) (pure_gens c.args.gens.now) (pure_opened c.in-Some.opened)
    c.in-Some-source_in.name.now (pure_node c.in-Some-source_in.source.now) (pure_gens c.in-Some-source_in.rest.now)
    c.told_apart_from.new.next (sym c.in-Some.ensures) (sym c.in-Some-source_in.ensures) c.in_ok-told.ensures.next

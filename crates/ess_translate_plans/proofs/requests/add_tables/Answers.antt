use Rattle.std.proofs.lemmas.Result.{on_ok_weaker}
use Rattle.ess_core.specs.TreeViews.{pure_repr, pure_dom}
use Rattle.ess_translate_plans.specs.Views.{pure_side}
use Rattle.ess_translate_plans.proofs.Added.{one_added}
use Rattle.ess_translate_plans.proofs.requests.add_tables.Goals as goal

pub returns : goal.returns
returns c =
    on_ok_weaker c.push.result
    (λ g. one_added (pure_side c.args.side) c.args.name.now (pure_repr c.args.tree.now) (pure_dom c.args.dom.now) c.args.declared.now
    c.args.tables.now c.add_names.new.tables c.in_ok-names.names c.in_ok-plan.plan c.args.plans.now c.push.new.self
    c.in_ok-names.ensures (rw c.as_slice.ensures at c.in_ok-add_names.ensures) c.in_ok-plan.ensures g) c.push.ensures.ok

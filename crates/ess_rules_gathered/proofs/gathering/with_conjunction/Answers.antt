use Rattle.std.proofs.Common.{ap, ◌∙◌, false}
use Rattle.std.proofs.lemmas.Result.{IfOk-weaker}
use Rattle.ess_semantics.specs.Trees.{comp_ex, fun1}
use Rattle.ess_core_nodes.specs.NodeViews.{pure_node, pure_gens}
use Rattle.ess_rules_laws.specs.SpliceRules.{append_gens}
use Rattle.ess_refine_laws.specs.Everywhere.{everywhere_gens}
use Rattle.ess_gathered_laws.specs.GatheredConditions.{without_conditions}
use Rattle.ess_rules_gathered.proofs.ConditionRows.{with_last}
use Rattle.ess_rules_gathered.proofs.gathering.with_conjunction.Goals as goal

pub returns : goal.returns
returns c =
    IfOk-weaker c.word.result _ _
    (λ n h. h ∙ ap (fun1 false c.args.fun) (c.in_ok-list.ensures
    ∙ ap (λ b. comp_ex b (pure_gens c.push.new.self)) (ap pure_node c.in_ok-body.ensures)
    ∙ ap (comp_ex (pure_node c.args.body.now))
    (with_last c.in_ok-made.made c.push.new.self c.condition-last.result (everywhere_gens (without_conditions (pure_gens c.args.gens.now)))
    (pure_node c.args.last) c.in_ok-push.ensures.ok
    (c.in_ok-made.ensures ∙ ap everywhere_gens (ap pure_gens c.as_slice.ensures ∙ c.in_ok-left.ensures
    ∙ ap (λ z. append_gens (pure_gens z) (without_conditions (pure_gens c.args.gens.now))) c.new.ensures))
    c.condition-last.ensures)))
    c.word.ensures

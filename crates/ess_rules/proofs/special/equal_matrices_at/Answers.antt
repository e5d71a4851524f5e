use Rattle.std.proofs.Common.{sym, ap, ◌∙◌, Some}
use Rattle.std.specs.Prelude.{option_map}
use Rattle.std.proofs.lemmas.Result.{IfOk-weaker}
use Rattle.ess_core_nodes.specs.NodeViews.{pure_node, pure_dom}
use Rattle.ess_node_types.specs.TypedNames.{pure_names}
use Rattle.conjure_model_laws.specs.ToldApart.{told_apart}
use Rattle.ess_rules.proofs.SpecialRoots.{matrices_of_pair}
use Rattle.ess_rules.proofs.special.equal_matrices_at.Goals as goal

pub returns-in-Some-second : goal.returns-in-Some-second
returns-in-Some-second c =
    IfOk-weaker c.equal_matrices.result _ _
    (λ o h. h ∙ matrices_of_pair c.args.taken.now.one.now c.args.taken.now.other.now c.args.taken.now.third.now c.args.taken.now.parts.now
    (told_apart c.args.taken.now.next) (pure_names c.args.names.now) (pure_node c.args.node.now) c.in-Some.field-0-0
    (pure_node c.in-Some.a.now) (pure_node c.in-Some.b.now) (pure_dom c.get.result.now) (pure_dom c.get-in-Some.result.now)
    (sym c.in-Some.ensures) (ap (λ v. Some (pure_dom v)) c.get.ensures
    ∙ sym (ap (option_map pure_dom) c.in-Some-first.is) ∙ c.in_ok-first-in-Some.ensures)
    (ap (λ v. Some (pure_dom v)) c.get-in-Some.ensures
    ∙ sym (ap (option_map pure_dom) c.in-Some-second.is) ∙ c.in_ok-second-in-Some.ensures))
    c.equal_matrices.ensures

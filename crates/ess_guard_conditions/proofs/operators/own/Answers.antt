use Rattle.std.proofs.Common.{sym, ap, ◌∙◌, map}
use Rattle.std.proofs.lemmas.Result.{IfOk-weaker}
use Rattle.ess_semantics.specs.Trees.{index}
use Rattle.ess_core_nodes.specs.NodeViews.{pure_nodes, pure_op, pure_step}
use Rattle.ess_guard_laws.specs.Conditions.{own as own_asks}
use Rattle.ess_guard_forms.specs.KnownNames.{pure_known}
use Rattle.ess_guard_conditions.proofs.operators.own.Goals as goal

pub returns-in-Binary : goal.returns-in-Binary
returns-in-Binary c =
    IfOk-weaker c.own_binary.result _ _
    (λ o h. h c.args.y.now
    ∙ ap (λ t. own_asks (pure_known c.args.known.now) c.args.x.now c.args.y.now (pure_op t) (pure_nodes c.args.operands.now)) (sym c.in-Binary.is))
    c.own_binary.ensures

pub returns-in-Word : goal.returns-in-Word
returns-in-Word c =
    IfOk-weaker c.own_word.result _ _
    (λ o h. h c.args.y.now
    ∙ ap (λ t. own_asks (pure_known c.args.known.now) c.args.x.now c.args.y.now (pure_op t) (pure_nodes c.args.operands.now)) (sym c.in-Word.is))
    c.own_word.ensures

pub returns-in-Index : goal.returns-in-Index
returns-in-Index c =
    IfOk-weaker c.own_index.result _ _
    (λ o h. h c.args.y.now
    ∙ ap (λ t. own_asks (pure_known c.args.known.now) c.args.x.now c.args.y.now (index (map pure_step t)) (pure_nodes c.args.operands.now))
    c.as_slice.ensures
    ∙ ap (λ t. own_asks (pure_known c.args.known.now) c.args.x.now c.args.y.now (pure_op t) (pure_nodes c.args.operands.now)) (sym c.in-Index.is))
    c.own_index.ensures

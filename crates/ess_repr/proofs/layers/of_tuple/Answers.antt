use Rattle.std.proofs.Common.{◌≡◌, map}
use Rattle.std.proofs.lemmas.Result.{IfOk-weaker}
use Rattle.ess_semantics.specs.Trees.{tuple_dom}
use Rattle.ess_core.specs.TreeViews.{pure_dom, pure_doms}
use Rattle.ess_repr_declare_laws.specs.ChildDomains.{child_doms}
use Rattle.ess_repr.proofs.ChildRows.{tuple_children}
use Rattle.ess_repr.proofs.layers.of_tuple.Goals as goal

pub returns-in-Tuple : goal.returns-in-Tuple
returns-in-Tuple c =
    IfOk-weaker c.several.result (λ ds. ds ≡ c.args.parts.now) (λ ds. map pure_dom ds ≡ child_doms c.args.kind (tuple_dom (pure_doms c.args.parts.now)))
    (λ ds e. tuple_children c.args.kind c.args.parts.now ds c.in-Tuple.is e) c.several.ensures

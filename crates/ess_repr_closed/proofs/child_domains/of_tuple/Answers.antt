use Rattle.std.proofs.Common.{◌≡◌, map}
use Rattle.std.proofs.lemmas.Result.{IfOk-weaker}
use Rattle.ess_semantics.specs.Domains.{tuples}
use Rattle.ess_eval_domains.specs.ClosedViews.{pure_closed, pure_closeds}
use Rattle.ess_repr_layers_laws.specs.LayerParts.{children_of}
use Rattle.ess_repr_closed.proofs.ChildRows.{tuple_children}
use Rattle.ess_repr_closed.proofs.child_domains.of_tuple.Goals as goal

pub returns-in-Tuple : goal.returns-in-Tuple
returns-in-Tuple c =
    IfOk-weaker c.several.result (λ ds. ds ≡ c.args.parts.now) (λ ds. map pure_closed ds ≡ children_of c.args.kind (tuples (pure_closeds c.args.parts.now)))
    (λ ds e. tuple_children c.args.kind c.args.parts.now ds c.in-Tuple.is e) c.several.ensures

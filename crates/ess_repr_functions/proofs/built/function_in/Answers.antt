use Rattle.std.proofs.Common.{◌∙◌}
use Rattle.std.proofs.lemmas.Result.{IfOk-weaker}
use Rattle.ess_repr_functions.proofs.PairsOfValues.{relation_read}
use Rattle.ess_repr_functions.proofs.built.function_in.Goals as goal

pub returns-in-Relation : goal.returns-in-Relation
returns-in-Relation c =
    IfOk-weaker c.function_of_tuples.result _ _
    (λ o e. e ∙ relation_read c.args.val.now _ _ c.in-Relation.is c.as_slice.ensures) c.function_of_tuples.ensures

use Rattle.std.proofs.Common.{ap, ◌∙◌, [], ◌∷◌, ◌++◌}
use Rattle.ess_bound_names.proofs.NameLaws.{one_name_more}
use Rattle.ess_bound_names.proofs.names.BoundNames.with.Goals as goal

pub invariant_of-result : goal.invariant_of-result
invariant_of-result c =
    one_name_more c.self.inside.list c.push.new.self c.args.name.now c.in_ok-copy.field-0 c.self.inside.index c.insert.new.self
    (c.in_ok-push.ensures.ok ∙ ap (λ a. c.self.inside.list ++ a ∷ []) c.in_ok-copy-2.ensures) c.self.invariant c.in_ok-copy.ensures c.in_ok-insert.ensures.updates

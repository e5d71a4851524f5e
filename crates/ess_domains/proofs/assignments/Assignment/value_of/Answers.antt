use Rattle.std.proofs.Common.{◌∙◌, ap}
use Rattle.std.specs.List.{find}
use Rattle.std.specs.Option.{option_copied}
use Rattle.ess_semantics.specs.Order.{same_text}
use Rattle.ess_domains.proofs.Givens.{value_found}
use Rattle.ess_domains.proofs.assignments.Assignment.value_of.Goals as goal

pub returns : goal.returns
returns c =
    c.value_in.ensures ∙ value_found c.args.self.now.vals c.args.name.now (option_copied c.first_value.result)
    (c.first_value.ensures ∙ ap (λ gs. find (λ g. same_text g.name c.args.name.now) gs) c.as_slice.ensures)

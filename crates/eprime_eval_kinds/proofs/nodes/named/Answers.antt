use Rattle.std.proofs.Common.{◌∙◌, ap}
use Rattle.ess_semantics.specs.ModelMeaning.{kinded_name}
use Rattle.eprime_eval_kinds.proofs.Results.{ok-map}
use Rattle.eprime_eval_kinds.proofs.nodes.named.Goals as goal

pub returns-in-None : goal.returns-in-None
returns-in-None c = ok-map c.nothing.result (λ k h names. h names ∙ ap (kinded_name c.args.name.now) c.in-None.ensures) c.nothing.ensures

use Rattle.ess_named_values_laws.proofs.ShownValues.{values-shown, values-held}
use Rattle.ess_named_values_laws.proofs.laws.named_values_are_positions.Goals as goal

pub returns : goal.returns
returns c = record {
  shown = λ S o t ns e i. values-shown S o t ns e i;
  held = λ S o p a t ns n e P i m. values-held S o p a t ns n e P i m;
}

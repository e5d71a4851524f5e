use Rattle.ess_keys_laws.specs.Keyed.{nothing_around}
use Rattle.ess_keys_laws.proofs.StaysRefined.{keyed-refined, no-keys}
use Rattle.ess_keys_laws.proofs.laws.plain_keys_stay_refined.Goals as goal

pub returns : goal.returns
returns c = λ e t. keyed-refined e nothing_around no-keys t

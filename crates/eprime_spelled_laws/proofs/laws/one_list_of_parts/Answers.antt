use Rattle.eprime_spelled_laws.proofs.OneParts.{one-list-of-parts}
use Rattle.eprime_spelled_laws.proofs.laws.one_list_of_parts.Goals as goal

pub returns : goal.returns
returns c = one-list-of-parts

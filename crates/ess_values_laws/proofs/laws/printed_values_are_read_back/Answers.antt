use Rattle.ess_values_laws.proofs.laws.printed_values_are_read_back.Goals as goal
use Rattle.ess_values_laws.proofs.ReadBack.{readable-spelled, named-spelled, read-back}

pub returns : goal.returns
returns c =
    record {
      of_readable = λ e t v env names r h n. read-back e t v env names h (readable-spelled e t v env names r h n);
      of_named = λ e t v env names k h n p. read-back e t v env names h (named-spelled e t v env names k h n p);
    }

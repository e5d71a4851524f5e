-- What is shown of a tree stands for it.
use Rattle.conjure_model_laws.specs.TreeLaws.{ShownStands}
use Rattle.conjure_model_laws.proofs.ShownMeanings.{at-start, meaning-shown, domain-shown}
use Rattle.conjure_model_laws.proofs.ShownMeets.{meets-shown}

-- What is proved of what is shown.
pub shown-stands : ShownStands
shown-stands = record {
  means = λ sh n env there S e w o. meaning-shown sh n env there S e env.vals there.vals w o (at-start sh n env there S);
  meets = λ sh n env there S e w. meets-shown sh n env there S e there.vals w;
  domains = λ sh n env there S d w o. domain-shown sh n env there S d env.vals there.vals w o (at-start sh n env there S);
}

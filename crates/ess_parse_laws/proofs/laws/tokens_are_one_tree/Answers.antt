use Rattle.ess_parse_laws.proofs.laws.tokens_are_one_tree.Goals as goal
use Rattle.ess_parse_laws.proofs.Uniqueness.{one_reading, one-domain, one_specification}
use Rattle.ess_parse_laws.proofs.LettingsRuns.{one-file}
use Rattle.ess_parse_laws.proofs.RepresentationRuns.{one-representation}

pub returns : goal.returns
returns c =
    record {
      expressions = λ ts e f d g. one_reading d.derivation g.derivation;
      domains = λ ts d e k g. one-domain k g;
      specifications = λ ts rs ss d g. one_specification d g;
      lettings = λ ts rs ss d g. one-file d g;
      representations = λ ts q r d g. one-representation d g;
    }

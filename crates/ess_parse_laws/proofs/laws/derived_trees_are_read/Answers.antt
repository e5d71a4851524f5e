use Rattle.ess_parse_laws.proofs.laws.derived_trees_are_read.Goals as goal
use Rattle.ess_parse_laws.proofs.Complete.{complete, complete-domain}
use Rattle.ess_parse_laws.proofs.CompleteStatements.{complete-specification}
use Rattle.ess_parse_laws.proofs.LettingsRuns.{lettings-complete}
use Rattle.ess_parse_laws.proofs.RepresentationRuns.{representation-complete}

pub returns : goal.returns
returns c =
    record {
      expressions = λ ts e d. complete d.derivation;
      domains = λ ts d k. complete-domain k;
      specifications = λ ts ss d. complete-specification d;
      lettings = λ ts ss d. lettings-complete d;
      representations = λ ts r d. representation-complete d;
    }

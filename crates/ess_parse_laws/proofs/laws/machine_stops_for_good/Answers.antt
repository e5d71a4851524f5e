use Rattle.ess_parse_laws.proofs.laws.machine_stops_for_good.Goals as goal
use Rattle.ess_parse_laws.proofs.Places.{no-expression, no-domain, no-specification}
use Rattle.ess_parse_laws.proofs.LettingsRuns.{no-file}
use Rattle.ess_parse_laws.proofs.RepresentationRuns.{no-representation}

pub returns : goal.returns
returns c =
    record {
      expressions = λ ts us e h d. no-expression ts us h d.derivation;
      domains = λ ts us d h k. no-domain ts us h k;
      specifications = λ ts us ss h d. no-specification ts us h d;
      lettings = no-file;
      representations = no-representation;
    }

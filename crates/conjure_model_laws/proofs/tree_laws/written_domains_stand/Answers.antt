use Rattle.conjure_model_laws.proofs.tree_laws.written_domains_stand.Goals as goal
use Rattle.conjure_model_laws.proofs.WrittenDomains.{written-domains-stand}

pub returns : goal.returns
returns c = written-domains-stand

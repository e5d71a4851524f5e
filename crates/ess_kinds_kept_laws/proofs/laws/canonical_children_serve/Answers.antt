use Rattle.ess_kinds_kept_laws.proofs.laws.canonical_children_serve.Goals as goal
use Rattle.ess_kinds_kept_laws.proofs.CanonicalChildren.{canonical-children}

pub returns : goal.returns
returns c = canonical-children

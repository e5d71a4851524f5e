use Rattle.ess_types_laws.proofs.laws.prepared_is_resolved.Goals as goal
use Rattle.std.specs.Prelude.{[]}
use Rattle.ess_semantics.specs.Lettings.{put_in}
use Rattle.ess_types_laws.proofs.Resolved.{all-again}

pub returns : goal.returns
returns c = λ S. all-again (put_in S) []

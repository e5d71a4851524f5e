use Rattle.ess_views_kept_laws.proofs.laws.partitions_serve.Goals as goal
use Rattle.ess_views_kept_laws.proofs.PartitionViews.{number_of_parts-keeps}
use Rattle.ess_views_kept_laws.proofs.ParticipantViews.{is_participant-keeps}

pub returns : goal.returns
returns c = record { numbers_of_parts = number_of_parts-keeps; participants = is_participant-keeps }

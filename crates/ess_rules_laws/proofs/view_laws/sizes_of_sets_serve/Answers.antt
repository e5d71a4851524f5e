use Rattle.ess_rules_laws.proofs.view_laws.sizes_of_sets_serve.Goals as goal
use Rattle.ess_rules_laws.proofs.SetSizes.{size_by_marker-keeps, size_by_slots-keeps}

pub returns : goal.returns
returns c = record { of_a_marker = size_by_marker-keeps; of_slots_all_in_use = size_by_slots-keeps }

-- What holds of the index domain of a list.
use Rattle.std.proofs.Common.{Bool, true, false, Option, Some, None, if◌then◌else◌}
use Rattle.ess_semantics.specs.Trees.{Dom}
use Rattle.ess_guard_laws.specs.IndexDomains.{plain_axis}
use Rattle.ess_ordered_laws.specs.NumberedItems.{is_from_one}
use Rattle.ess_numbered_laws.specs.MostItems.{list_axis}
use Rattle.ess_numbered_laws.proofs.Answered.{Answered}

-- What holds of a plain index domain holds of that of a list.
pub list-plain : (P : Dom → Type 0) (o : Option Dom) → Answered (plain_axis o) P → Answered (list_axis o) P
list-plain P None h = tt
list-plain P (Some d) h = go (is_from_one d)
  where
    go : (c : Bool) → Answered (if c then plain_axis (Some d) else None) P
    go true = h
    go false = tt

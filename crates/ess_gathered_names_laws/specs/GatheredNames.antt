-- The rule that gathers conditions takes no new name: what all names of a tree have, all names of what it makes of the tree have.
use Rattle.std.specs.Prelude.{◌≡◌, Bool, Some}
use Rattle.ess_semantics.specs.Values.{Text}
use Rattle.ess_semantics.specs.Trees.{Ex}
use Rattle.ess_gathered_laws.specs.GatheredConditions.{conditions_gathered}
use Rattle.ess_chain_names_laws.specs.RulesKeepNames.{KeepsNames}

-- So a tree that spares reserved names spares them still.
abbrev pub GatheringKeepsNames : Type 0
GatheringKeepsNames = (u : Text → Bool) (e f : Ex) → conditions_gathered e ≡ Some f → KeepsNames u e f

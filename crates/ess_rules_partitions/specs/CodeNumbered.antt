-- What the parts of views in the code stand for.
use Rattle.ess_core_nodes.specs.NodeViews.{pure_nodes, pure_dom}
use Rattle.ess_rules_partitions.specs.NumberedViews.{NumberedParts}
use Rattle.ess_rules_partitions.specs.declared.numbered.Numbered.{Numbered}

-- The parts of a view of a partition.
abbrev pub pure_numbered : Numbered → NumberedParts
pure_numbered p = record { members = pure_dom p.members.now; parts = p.parts.now; numbers = p.numbers.now; at = pure_nodes p.at.now }

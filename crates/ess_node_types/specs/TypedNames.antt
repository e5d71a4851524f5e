-- The types of names that a row of names stands for.
use Rattle.ess_semantics.specs.Names.{Names}
use Rattle.ess_semantics.specs.Types as pure
use Rattle.ess_types_operators.specs.Parts.{newest_first}
use Rattle.ess_node_types.specs.declared.names.NameTypes.{NameTypes}

-- The names with their pure types, the newest first.
abbrev pub pure_names : NameTypes → Names pure.Ty
pure_names n = newest_first n.names

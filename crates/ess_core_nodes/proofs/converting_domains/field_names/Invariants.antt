use Rattle.std.proofs.Common.{◌≡◌, map, take}
use Rattle.ess_semantics.specs.Names.{keys}
use Rattle.ess_core.specs.TreeViews.{pure_field_dom}
use Rattle.ess_core_nodes.proofs.converting_domains.field_names.Given as goal

abbrev pub invariant-loop-field : goal.invariant-loop-field
invariant-loop-field l = l.names ≡ keys (map pure_field_dom (take l.field-index l.fields))

use Rattle.std.proofs.Common.{◌≡◌, take, option_map}
use Rattle.ess_semantics.specs.Literals.{item_of_name}
use Rattle.ess_core.specs.TableViews.{pure_type_entries}
use Rattle.ess_values.specs.Items.{typed_item}
use Rattle.ess_values.specs.Literals.{pure_literal}
use Rattle.ess_values.proofs.naming.newest_item.Given as goal

abbrev pub invariant-loop-entry : goal.invariant-loop-entry
invariant-loop-entry l = option_map pure_literal l.found ≡ typed_item (item_of_name (pure_type_entries (take l.entry-index l.types)) l.name)

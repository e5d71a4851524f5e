-- A rule that makes nothing of the root doesn't fire.
use Rattle.std.proofs.Common.{◌≡◌, sym, ap, ◌∙◌, Option, None}
use Rattle.std.specs.Prelude.{option_map}
use Rattle.ess_semantics.specs.Trees.{Ex}
use Rattle.ess_core_nodes.specs.declared.nodes.Node.{Node}
use Rattle.ess_core_nodes.specs.NodeViews.{pure_node}

-- Where the code answers nothing, what it says of the rule is that it makes nothing.
pub none_fires : {r : Option Ex} (o : Option Node) → option_map pure_node o ≡ r → o ≡ None → r ≡ None
none_fires o h e = sym h ∙ ap (option_map pure_node) e

-- So it is with the first of several rules, and with those behind it.
pub none_more : {r : Option Ex} {T : Type 0} (o : Option Node) → option_map pure_node o ≡ r → o ≡ None → T → (r ≡ None) × T
none_more o h e t = (none_fires o h e, t)

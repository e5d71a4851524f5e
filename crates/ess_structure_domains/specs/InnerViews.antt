-- What stands below a layer, as the definitions have it.
use Rattle.std.specs.Prelude.{map}
use Rattle.ess_core_nodes.specs.NodeViews.{pure_dom}
use Rattle.ess_structure_domains.specs.Inner as pure
use Rattle.ess_structure_domains.specs.Inner.{inner}
use Rattle.ess_structure_domains.specs.declared.below.Inner.{Inner}

-- The domain of the child, and the axes.
abbrev pub pure_inner : Inner → pure.Inner
pure_inner i = inner (pure_dom i.dom) (map pure_dom i.axes)

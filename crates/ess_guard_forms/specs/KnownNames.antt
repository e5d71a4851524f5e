-- What is known of bound names, as the row of them stands for it.
use Rattle.std.specs.Prelude.{List, map, reverse, Option, Some, None}
use Rattle.ess_semantics.specs.Values.{Text}
use Rattle.ess_semantics.specs.Names.{Names}
use Rattle.ess_guard_laws.specs.Origins.{Origin, runs_over, anywhere}
use Rattle.ess_core_nodes.specs.NodeViews.{pure_dom}
use Rattle.ess_core_nodes.specs.declared.nodes.NodeDom.{NodeDom}
use Rattle.ess_guard_forms.specs.declared.known.KnownName.{KnownName}

-- What is known of a name that runs over this domain, or of which no domain is known.
abbrev pub pure_origin : Option NodeDom → Origin
pure_origin None = anywhere
pure_origin (Some d) = runs_over (pure_dom d)

-- A name with what is known of it.
abbrev pub pure_entry : KnownName → Text × Origin
pure_entry b = (b.name, pure_origin b.dom)

-- The names with what is known of them, the newest first.
abbrev pub pure_known : List KnownName → Names Origin
pure_known bs = reverse (map pure_entry bs)

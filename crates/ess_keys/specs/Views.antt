-- What is known around a place, as the rows of it stand for it.
use Rattle.std.specs.Prelude.{List, map, reverse}
use Rattle.ess_semantics.specs.Values.{Text}
use Rattle.ess_semantics.specs.Names.{Names}
use Rattle.ess_semantics.specs.Trees.{Ex}
use Rattle.ess_core_nodes.specs.NodeViews.{pure_node}
use Rattle.ess_guard_forms.specs.KnownNames.{pure_known}
use Rattle.ess_keys_laws.specs.Keyed as pure
use Rattle.ess_keys.specs.declared.around.Key.{Key}
use Rattle.ess_keys.specs.declared.around.Around.{Around}

-- A name with its key.
abbrev pub pure_key : Key → Text × Ex
pure_key k = (k.name, pure_node k.key)

-- The names with their keys, the newest first.
abbrev pub pure_keys : List Key → Names Ex
pure_keys ks = reverse (map pure_key ks)

-- All that is known.
abbrev pub pure_around : Around → pure.Around
pure_around a = record { keys = pure_keys a.keys; origins = pure_known a.known }

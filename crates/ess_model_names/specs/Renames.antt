-- Names bound around a place of a tree, with what they have become, as the code keeps them: the newest last.
use Rattle.std.specs.Prelude.{◌≡◌, List, map, reverse, take, length}
use Rattle.ess_semantics.specs.Values.{Text}
use Rattle.ess_semantics.specs.Names.{Names}
use Rattle.ess_model_names.specs.declared.scopes.Renamed.{Renamed}

-- A name with what it has become.
abbrev pub pure_renamed : Renamed → Text × Text
pure_renamed r = (r.name, r.to)

-- The names with what they have become, the newest first.
abbrev pub pure_scope : List Renamed → Names Text
pure_scope rs = reverse (map pure_renamed rs)

-- Whether the second list has the names of the first, and perhaps others behind them.
abbrev pub Extends : List Renamed → List Renamed → Type 0
Extends rs ss = take (length rs) ss ≡ rs

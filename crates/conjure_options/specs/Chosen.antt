-- The representations of givens and finds: those that options name, else the default.
use Rattle.std.specs.Prelude.{List, map}
use Rattle.ess_semantics.specs.Names.{Names}
use Rattle.ess_semantics.specs.Trees.{Repr, Dom}
use Rattle.ess_semantics.specs.Plans.{Options, chosen_reprs}

-- Those of names with these domains.
abbrev pub chosen_for : Options → Names Dom → Names (List Repr)
chosen_for o ds = map (λ x. (x.0, chosen_reprs o x.0 x.1)) ds

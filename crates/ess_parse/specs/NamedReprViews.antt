-- What the reader of named representations stands for.
use Rattle.std.specs.Prelude.{map}
use Rattle.ess_core.specs.TreeViews.{pure_repr}
use Rattle.ess_parse.specs.declared.representations.named.NamedReprs.{NamedReprs}
use Rattle.ess_parse.specs.declared.representations.named.Line.{Line}
use Rattle.ess_parse.specs.NamedRepresentations.{Named, LineState, word_wanted, name_wanted, tree_begun}
use Rattle.ess_parse.specs.RepresentationViews.{view_machine}

-- The name with its pure representations.
abbrev pub pure_named_reprs : NamedReprs → Named
pure_named_reprs n = (n.name, map pure_repr n.trees)

-- The state.
abbrev pub view_line : Line → LineState
view_line Line.WordWanted = word_wanted
view_line Line.NameWanted = name_wanted
view_line (Line.TreeBegun n m) = tree_begun n.name (map pure_repr n.trees) (view_machine m)

use Rattle.std.proofs.Common.{◌≡◌, ◌++◌, map, take}
use Rattle.std.specs.List.{flat_map}
use Rattle.ess_core.specs.TreeViews.{pure_repr}
use Rattle.ess_translate_header_laws.specs.WrittenLines.{next_repr_text}
use Rattle.ess_translate_header_lines.proofs.writing.push_more_trees.Given as goal

abbrev pub invariant-loop-tree : goal.invariant-loop-tree
invariant-loop-tree l = l.line ≡ l.fn.line ++ flat_map next_repr_text (map pure_repr (take l.tree-index l.trees))

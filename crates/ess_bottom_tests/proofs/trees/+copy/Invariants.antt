use Rattle.std.proofs.Common.{◌≡◌, take}
use Rattle.ess_bottom_tests.proofs.trees.+copy.Given as goal

abbrev pub invariant-copy_trees-loop-tree : goal.invariant-copy_trees-loop-tree
invariant-copy_trees-loop-tree l = l.copies ≡ take l.tree-index l.tree-items

use Rattle.std.proofs.Common.{◌≡◌, take}
use Rattle.conjure_options.proofs.chosen.copies.Given as goal

abbrev pub invariant-loop-tree : goal.invariant-loop-tree
invariant-loop-tree l = l.copied ≡ take l.tree-index l.trees

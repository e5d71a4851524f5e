use Rattle.std.proofs.Common.{map, take}
use Rattle.ess_core.specs.TreeViews.{pure_repr, pure_dom}
use Rattle.conjure_options.proofs.Reprs.{texts, AreOnly}
use Rattle.conjure_options.proofs.trees.trees_of.Given as goal

abbrev pub invariant-loop-piece : goal.invariant-loop-piece
invariant-loop-piece l = AreOnly (pure_dom l.dom) (texts (take l.piece-index l.pieces)) (map pure_repr l.trees)

use Rattle.ess_core.specs.ValueViews.{pure_val}
use Rattle.ess_repr_relations.proofs.PartLists.{LeftBehind}
use Rattle.ess_repr_relations.proofs.numbers.number_of.Given as goal

abbrev pub invariant-loop-k : goal.invariant-loop-k
invariant-loop-k l = LeftBehind l.lists (pure_val l.val) l.k

use Rattle.std.proofs.Common.{◌≡◌, ◌++◌, map}
use Rattle.ess_semantics.specs.TableNames.{free_within}
use Rattle.ess_repr.specs.Fronts.{decl_text}
use Rattle.ess_repr.proofs.naming.tried.Given as goal

abbrev pub invariant-loop-left : goal.invariant-loop-left
invariant-loop-left l = free_within l.left (map decl_text l.tables ++ l.taken) l.name ≡ free_within l.tries (map decl_text l.tables ++ l.taken) l.fn.name

abbrev pub decreases-loop-left : goal.decreases-loop-left
decreases-loop-left l = l.left

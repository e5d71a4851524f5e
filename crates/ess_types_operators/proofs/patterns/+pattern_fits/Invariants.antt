use Rattle.std.proofs.Common.{◌≡◌, map, drop}
use Rattle.ess_semantics.specs.ExpressionJudgements.{patterns_fit}
use Rattle.ess_core.specs.TypeViews.{pure_tys}
use Rattle.ess_core.specs.TreeViews.{pure_pat, pats_of}
use Rattle.ess_types_operators.proofs.patterns.+pattern_fits.Given as goal

abbrev pub invariant-patterns_fit-loop-i : goal.invariant-patterns_fit-loop-i
invariant-patterns_fit-loop-i l = patterns_fit (pats_of (map pure_pat l.pats)) (pure_tys l.tys) ≡ patterns_fit (pats_of (map pure_pat (drop l.i l.pats))) (pure_tys (drop l.i l.tys))

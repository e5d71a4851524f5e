-- Judged expressions, resolved and guarded.
use Rattle.ess_semantics.specs.Resolving.{resolve}
use Rattle.ess_refine_types_laws.specs.MarksOfJudged.{JudgedTreesHaveMarks}
use Rattle.ess_guard_tests_laws.specs.Laws.{GuardedIsTotalButTests}
use Rattle.ess_guard_places_laws.specs.Laws.{NaturalIsTotalButTests}
use Rattle.ess_guard_told_laws.specs.Laws.{JudgedGuardsAreTotal}
use Rattle.ess_guard_told_laws.proofs.MarkedTrees.{known}
use Rattle.ess_guard_told_laws.proofs.TruthTypes.{truth-asks}

pub guards-total : JudgedTreesHaveMarks → GuardedIsTotalButTests → NaturalIsTotalButTests → JudgedGuardsAreTotal
guards-total m k n = record {
  marked = known;
  boolean = λ x y e s env h t b. k.boolean x y (resolve e s.tys) env (known (resolve e s.tys) s.tys (m e s h) t)
      (truth-asks (resolve e s.tys) s.tys (m e s h) b);
  natural = λ x y e s env h t b. n.boolean x y (resolve e s.tys) env (known (resolve e s.tys) s.tys (m e s h) t)
      (truth-asks (resolve e s.tys) s.tys (m e s h) b);
  conditions = λ x y e s env h t. k.conditions x y (resolve e s.tys) env (known (resolve e s.tys) s.tys (m e s h) t);
}

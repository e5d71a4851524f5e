-- What the guard keeps of judged trees.
use Rattle.std.proofs.Common.{ap, ◌∙◌}
use Rattle.ess_semantics.specs.Types.{int_ty}
use Rattle.ess_semantics.specs.Resolving.{resolve}
use Rattle.ess_types_laws.proofs.ResolvedTypes.{type-resolved}
use Rattle.ess_guard_types_laws.specs.HasTypes.{agrees}
use Rattle.ess_guard_types_laws.specs.Laws.{GuardedKeepsTypes}
use Rattle.ess_guard_judged_laws.specs.Laws.{JudgedGuardsKeepTypes}
use Rattle.ess_guard_judged_laws.proofs.JudgedStatements.{expression-types}

pub guards-keep : GuardedKeepsTypes → JudgedGuardsKeepTypes
guards-keep k = record {
  total = λ x y w t s e o h i. let r = k.total x y s.tys (resolve e s.tys) (expression-types w t s e o h i) in
      (r.0, r.1 ∙ type-resolved e s.tys);
  natural = λ x y w t s e o h i. let r = k.natural x y s.tys (resolve e s.tys) (expression-types w t s e o h i) in
      (r.0, r.1 ∙ type-resolved e s.tys);
  there = λ x y b w t s e o h i. k.there x y s.tys b (resolve e s.tys) (expression-types w t s e o h i);
  term = λ x y b w t s e o h i f. k.term x y s.tys b (resolve e s.tys) (expression-types w t s e o h i)
      (λ n. ap (λ p. agrees p int_ty) (type-resolved e s.tys) ∙ f n);
}

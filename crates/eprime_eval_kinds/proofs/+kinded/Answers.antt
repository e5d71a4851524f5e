use Rattle.std.proofs.Common.{sym, subst, [], ◌∷◌}
use Rattle.eprime_tree.specs.declared.expressions.PGen.TheVariants as gen
use Rattle.eprime_eval_kinds.specs.declared.tree.KGen.TheVariants as kgen
use Rattle.eprime_eval_kinds.specs.BoundNames.{scope_kinds}
use Rattle.eprime_eval_kinds.specs.Kinding.{IsKindedDom, AreKindedGens}
use Rattle.eprime_eval_kinds.proofs.Comprehensions.{over_kinded}
use Rattle.eprime_eval_kinds.proofs.+kinded.Goals as goal

pub generators::kinded_over-returns : goal.generators::kinded_over-returns
generators::kinded_over-returns t c =
    subst
    (λ b. AreKindedGens c.args.declared.now (scope_kinds c.args.scope.now) (gen.Over c.args.name.now c.args.dom.now ∷ [])
    (kgen.Over b c.in_ok-domain.domain ∷ [])
    (scope_kinds c.bind.new.scope))
    (sym c.in_ok-copy.ensures)
    (over_kinded c.args.declared.now (scope_kinds c.args.scope.now)
    (scope_kinds c.bind.new.scope) c.args.name.now c.args.dom.now c.in_ok-domain.domain c.kind_of_dom.result
    (subst (λ bs. IsKindedDom c.args.declared.now (scope_kinds bs) c.args.dom.now c.in_ok-domain.domain) c.as_slice.ensures
    c.in_ok-domain.ensures)
    c.kind_of_dom.ensures c.in_ok-bind.ensures)

-- Terms that code makes.
use Rattle.std.proofs.Common.{◌≡◌, refl, sym, ap, ◌∙◌, false, List, [], ◌∷◌, map, pos, codes}
use Rattle.ess_semantics.specs.declared.words.Fun.{Fun}
use Rattle.ess_semantics.specs.Trees as pure
use Rattle.ess_semantics.specs.Trees.{fun1, comp_ex, number_ex, over, no_gens}
use Rattle.ess_core.specs.declared.domains.Dom.{Dom}
use Rattle.ess_core.specs.declared.expressions.Ex.{Ex}
use Rattle.ess_core.specs.declared.expressions.Gen.{Gen}
use Rattle.ess_core.specs.declared.expressions.Ex.TheVariants as ex
use Rattle.ess_core.specs.declared.expressions.Gen.TheVariants as gen
use Rattle.ess_core.specs.declared.expressions.Pat.TheVariants as pat
use Rattle.ess_core.specs.TreeViews.{gens_of, pure_ex, pure_dom, pure_gen, pure_gens}
use Rattle.ess_core.proofs.ExpressionEquations.{pure_call, pure_comp}
use Rattle.ess_core.proofs.PartEquations.{pure_gen_over, pure_pat_name}
use Rattle.ess_repr_declare_laws.specs.SizeTerms.{one_ex, listed_ex}

gens-made : (gs : List Gen) (d : Dom) → gs ≡ gen.Over (pat.Name (codes "#")) d ∷ [] → pure_gens gs ≡ over (pure.name_pat (codes "#")) (pure_dom d) no_gens
gens-made gs d h =
    ap pure_gens h ∙ ap (λ i. gens_of (i ∷ [])) (pure_gen_over (pat.Name (codes "#")) d)
    ∙ ap (λ p. over p (pure_dom d) no_gens) (pure_pat_name (codes "#"))

pub listed_made : (o : Ex) (gs : List Gen) (d : Dom) → pure_ex o ≡ number_ex (pos 1) → gs ≡ gen.Over (pat.Name (codes "#")) d ∷ [] →
    pure_ex (ex.Call false Fun.Sum (ex.Comp o gs ∷ [])) ≡ listed_ex (pure_dom d)
listed_made o gs d p q =
    pure_call false Fun.Sum (ex.Comp o gs ∷ [])
    ∙ ap (λ e. fun1 false Fun.Sum e)
    (pure_comp o gs ∙ ap (λ e. comp_ex e (pure_gens gs)) p ∙ ap (comp_ex one_ex) (gens-made gs d q))

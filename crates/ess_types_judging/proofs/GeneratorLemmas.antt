-- What is gathered behind one generator more, in a scope that is as it was.
use Rattle.std.proofs.Common.{◌≡◌, ap, ◌∙◌}
use Rattle.ess_semantics.specs.Trees.{Pat, Ex, Dom}
use Rattle.ess_core.specs.TreeViews.{over_item, from_item}
use Rattle.ess_types_judging_laws.specs.Found.{Found}
use Rattle.ess_types_judging_laws.specs.Judged.{Judged, judged, judged_dom}
use Rattle.ess_types_judging_laws.specs.Combined.{over_gathered, from_gathered}
use Rattle.ess_types_judging.specs.declared.gathered.Gathered.{Gathered}
use Rattle.ess_types_judging.specs.declared.scope.Scope.{Scope}
use Rattle.ess_types_judging.specs.Judging.{pure_gathered, gathered_one}
use Rattle.ess_types_judging.specs.ScopeViews.{pure_scope}

-- Behind a generator over a domain, of which f is found.
pub over_by : (p : Pat) (d : Dom) (s t : Scope) (f : Found) (g : Gathered) → t ≡ s → f ≡ judged_dom d (pure_scope s) →
    over_gathered p d f (pure_gathered g (pure_scope t)) ≡ gathered_one (over_item p d) (pure_gathered g (pure_scope s))
over_by p d s t f g h k =
    ap (λ z. over_gathered p d f (pure_gathered g (pure_scope z))) h ∙ ap (λ x. over_gathered p d x (pure_gathered g (pure_scope s))) k

-- Behind a generator from a source, of which j is found.
pub from_by : (p : Pat) (e : Ex) (s t : Scope) (j : Judged) (g : Gathered) → t ≡ s → j ≡ judged e (pure_scope s) →
    from_gathered p j (pure_gathered g (pure_scope t)) ≡ gathered_one (from_item p e) (pure_gathered g (pure_scope s))
from_by p e s t j g h k =
    ap (λ z. from_gathered p j (pure_gathered g (pure_scope z))) h ∙ ap (λ x. from_gathered p x (pure_gathered g (pure_scope s))) k

-- What is put into several trees is put into one after the other.
use Rattle.std.proofs.Common.{◌≡◌, refl, ap, List, [], ◌∷◌, map}
use Rattle.ess_semantics.specs.Values.{Text}
use Rattle.ess_semantics.specs.Trees.{Ex, more_exs, Dom, more_doms, over, from, cond}
use Rattle.ess_semantics.specs.Kinds.{doms_of}
use Rattle.ess_semantics.specs.Substitution.{substitute, substitute_exs, substitute_gens, substitute_dom, substitute_doms}
use Rattle.ess_core.specs.TreeViews.{Item, over_item, from_item, cond_item, exs_of, gens_of}
use Rattle.ess_substitution.specs.Items.{substitute_item}

-- Expressions.
pub substituted_exs : (f : Text → Ex) (es : List Ex) → substitute_exs f (exs_of es) ≡ exs_of (map (substitute f) es)
substituted_exs f [] = refl
substituted_exs f (e ∷ es) = ap (λ l. more_exs (substitute f e) l) (substituted_exs f es)

-- Domains.
pub substituted_doms : (f : Text → Ex) (ds : List Dom) → substitute_doms f (doms_of ds) ≡ doms_of (map (substitute_dom f) ds)
substituted_doms f [] = refl
substituted_doms f (d ∷ ds) = ap (λ l. more_doms (substitute_dom f d) l) (substituted_doms f ds)

-- Generators and conditions.
pub substituted_gens : (f : Text → Ex) (is : List Item) → substitute_gens f (gens_of is) ≡ gens_of (map (substitute_item f) is)
substituted_gens f [] = refl
substituted_gens f (over_item p d ∷ is) = ap (λ l. over p (substitute_dom f d) l) (substituted_gens f is)
substituted_gens f (from_item p e ∷ is) = ap (λ l. from p (substitute f e) l) (substituted_gens f is)
substituted_gens f (cond_item e ∷ is) = ap (λ l. cond (substitute f e) l) (substituted_gens f is)

-- Patterns over sources, by the parts of the root.
use Rattle.std.proofs.Common.{◌≡◌, refl, ap, ◌∙◌, arith, ℕ, suc, ◌+◌, Option, None, option_map}
use Rattle.ess_semantics.specs.Lists.{and_then}
use Rattle.ess_semantics.specs.Values.{Text}
use Rattle.ess_semantics.specs.Names.{Names}
use Rattle.ess_semantics.specs.Types.{Ty, Tys, no_tys, more_tys}
use Rattle.ess_semantics.specs.Typing.{source_ty}
use Rattle.ess_semantics.specs.Trees.{Pat, Pats, name_pat, tuple_pat, no_pats, more_pats, Ex, comp_ex, Gens, from}
use Rattle.ess_open_rules_laws.specs.OpenSources.{pattern_opened, components_bound, tuple_parts}
use Rattle.ess_rules_folds.specs.Forms.{comp_parts, from_parts}
use Rattle.ess_rules_opening.specs.OpenedViews.{tuple_pats, component_bound}

pub pattern_by_parts : (g : Names Ty) (z : Text) (e : Ex) → pattern_opened g z e
    ≡ and_then (comp_parts e) (λ c. and_then (from_parts c.1) (λ f. and_then (tuple_pats f.0) (λ ps. and_then (tuple_parts (source_ty f.1 g))
    (λ ts. option_map (λ gs. comp_ex c.0 (from (name_pat z) f.1 gs)) (components_bound z 1 ps ts f.2)))))
pattern_by_parts g z (comp_ex e (from (tuple_pat ps) s hs)) = refl
pattern_by_parts g z e = refl

-- Patterns one by one.
pub one_bound : (z : Text) (k n : ℕ) (p : Pat) (ps : Pats) (t : Ty) (ts : Tys) (hs : Gens) (o : Option Gens) → n ≡ k + 1
    → o ≡ components_bound z n ps ts hs
    → option_map (component_bound z k p t) o ≡ components_bound z k (more_pats p ps) (more_tys t ts) hs
one_bound z k n p ps t ts hs o e h =
    let on : k + 1 ≡ suc k = omega arith in
    ap (option_map (component_bound z k p t)) (h ∙ ap (λ m. components_bound z m ps ts hs) (e ∙ on))

pub none_bound : (z : Text) (k : ℕ) (p : Pat) (ps : Pats) (hs : Gens) → None ≡ components_bound z k (more_pats p ps) no_tys hs
none_bound z k p ps hs = refl

pub none_left : (z : Text) (k : ℕ) (t : Ty) (ts : Tys) (hs : Gens) → None ≡ components_bound z k no_pats (more_tys t ts) hs
none_left z k t ts hs = refl

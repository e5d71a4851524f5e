-- What sets of items offer, by the parts of the root.
use Rattle.std.proofs.Common.{◌≡◌, refl, true, false}
use Rattle.ess_semantics.specs.declared.words.Fun.{Fun}
use Rattle.ess_semantics.specs.Lists.{and_then}
use Rattle.ess_semantics.specs.Values.{Text}
use Rattle.ess_semantics.specs.Trees.{word, name_pat, Ex, node_ex, comp_ex, fun1, no_gens, over, cond}
use Rattle.ess_refine_laws.specs.ItemsOnce.{items_once}
use Rattle.ess_rules_folds.specs.Forms.{word_parts}
use Rattle.ess_rules_sources.specs.OnceParts.{set_comp, once_by}

pub once_by_parts : (y z w : Text) (e : Ex)
    → items_once y z w e ≡ and_then (word_parts e) (λ q. and_then (set_comp q.0 q.1 q.2) (λ c. once_by y z w c.0 c.1 c.2))
once_by_parts y z w (fun1 false Fun.ToSet (comp_ex e no_gens)) = refl
once_by_parts y z w (fun1 false Fun.ToSet (comp_ex e (cond c gs))) = refl
once_by_parts y z w (fun1 false Fun.ToSet (comp_ex e (over (name_pat x) d gs))) = refl
once_by_parts y z w (node_ex true (word f) es) = refl
once_by_parts y z w e = refl

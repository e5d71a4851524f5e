-- Generators told apart one by one are those of the definition.
use Rattle.std.proofs.Common.{◌≡◌, refl, sym, ap, ◌∙◌, ℕ, List, [], ◌∷◌}
use Rattle.ess_semantics.specs.Values.{Text}
use Rattle.ess_semantics.specs.Names.{Names}
use Rattle.ess_semantics.specs.Trees.{Gens, over, from, cond}
use Rattle.ess_core.specs.TreeViews.{Item, over_item, from_item, cond_item, gens_of}
use Rattle.conjure_model_laws.specs.ToldApart.{told_pat, told, told_gens, told_dom}
use Rattle.ess_model_names.specs.ToldItems.{told_item, told_items}

-- The generators, the names behind them and the next number.
pub gens_told : (is : List Item) (r : Names Text) (k : ℕ)
    → told_gens (gens_of is) r k ≡ (gens_of (told_items is r k).0, (told_items is r k).1, (told_items is r k).2)
gens_told [] r k = refl
gens_told (over_item p d ∷ is) r k =
    let c = told_dom d r k in
    let q = told_pat p r c.1 in
    ap (λ (u : Gens × Names Text × ℕ). (over q.0 c.0 u.0, u.1, u.2)) (gens_told is q.1 q.2)
gens_told (from_item p e ∷ is) r k =
    let c = told e r k in
    let q = told_pat p r c.1 in
    ap (λ (u : Gens × Names Text × ℕ). (from q.0 c.0 u.0, u.1, u.2)) (gens_told is q.1 q.2)
gens_told (cond_item e ∷ is) r k =
    let c = told e r k in
    ap (λ (u : Gens × Names Text × ℕ). (cond c.0 u.0, u.1, u.2)) (gens_told is r c.1)

-- The generators alone.
pub gens_tree : (is : List Item) (r : Names Text) (k : ℕ) → (told_gens (gens_of is) r k).0 ≡ gens_of (told_items is r k).0
gens_tree is r k = ap (λ (u : Gens × Names Text × ℕ). u.0) (gens_told is r k)

-- The names behind them alone.
pub gens_names : (is : List Item) (r : Names Text) (k : ℕ) → (told_gens (gens_of is) r k).1 ≡ (told_items is r k).1
gens_names is r k = ap (λ (u : Gens × Names Text × ℕ). u.1) (gens_told is r k)

-- The next number alone.
pub gens_next : (is : List Item) (r : Names Text) (k : ℕ) → (told_gens (gens_of is) r k).2 ≡ (told_items is r k).2
gens_next is r k = ap (λ (u : Gens × Names Text × ℕ). u.2) (gens_told is r k)

-- Names of generators told apart, one generator or condition after the other.
use Rattle.std.specs.Prelude.{ℕ, List, [], ◌∷◌}
use Rattle.ess_semantics.specs.Values.{Text}
use Rattle.ess_semantics.specs.Names.{Names}
use Rattle.ess_semantics.specs.Trees.{Pat, Ex, Dom}
use Rattle.ess_core.specs.TreeViews.{Item, over_item, from_item, cond_item}
use Rattle.conjure_model_laws.specs.ToldApart.{told_pat, told, told_dom}

-- A generator or condition with its bound names told apart, the names behind it with what they have become, and the next number.
abbrev pub told_item : Item → Names Text → ℕ → Item × Names Text × ℕ
told_item (over_item p d) r k =
    let c : Dom × ℕ = told_dom d r k in
    let q : Pat × Names Text × ℕ = told_pat p r c.1 in
    (over_item q.0 c.0, q.1, q.2)
told_item (from_item p e) r k =
    let c : Ex × ℕ = told e r k in
    let q : Pat × Names Text × ℕ = told_pat p r c.1 in
    (from_item q.0 c.0, q.1, q.2)
told_item (cond_item e) r k = let c : Ex × ℕ = told e r k in (cond_item c.0, r, c.1)

-- The same of several, each under the names of those before it.
abbrev pub told_items : List Item → Names Text → ℕ → List Item × Names Text × ℕ
told_items [] r k = ([], r, k)
told_items (i ∷ is) r k =
    let q : Item × Names Text × ℕ = told_item i r k in
    let u : List Item × Names Text × ℕ = told_items is q.1 q.2 in
    (q.0 ∷ u.0, u.1, u.2)

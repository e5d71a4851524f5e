-- Rows that are simplified item by item, and generators.
use Rattle.std.specs.Prelude.{ℕ, zero, suc, List, [], ◌∷◌}
use Rattle.ess_core.specs.TreeViews.{Item, over_item, from_item, cond_item}
use Rattle.ess_simplify_laws.specs.Simplifying.{simplified, dom_simplified}

-- A generator or condition, simplified.
abbrev pub item_simplified : Item → Item
item_simplified (over_item p d) = over_item p (dom_simplified d)
item_simplified (from_item p e) = from_item p (simplified e)
item_simplified (cond_item e) = cond_item (simplified e)

-- The items with f of each of the first k in its place.
abbrev pub turned : {A : Type 0} → (A → A) → ℕ → List A → List A
turned f zero xs = xs
turned f (suc k) [] = []
turned f (suc k) (x ∷ xs) = f x ∷ turned f k xs

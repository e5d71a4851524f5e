-- Generators with one more before them: the conjunction of their conditions, and what is left without these.
use Rattle.std.proofs.Common.{◌≡◌, refl, sym, ap, ◌∙◌, Bool, true, false, if◌then◌else◌, List, [], ◌∷◌, ◌++◌, length, map, arith, Some, None}
use Rattle.ess_semantics.specs.Trees.{Ex, Gens, no_gens, over, from, cond}
use Rattle.ess_semantics.specs.Occurrences.{has_cells}
use Rattle.ess_core.specs.TreeViews.{Item, over_item, from_item, cond_item, gens_of}
use Rattle.ess_core_nodes.specs.declared.nodes.Gen.{Gen}
use Rattle.ess_core_nodes.specs.NodeViews.{pure_gen, pure_gens}
use Rattle.ess_rules_laws.specs.SpliceRules.{append_gens}
use Rattle.ess_rules_conditions.specs.PartedViews.{read_condition}
use Rattle.ess_gathered_laws.specs.GatheredConditions.{without_conditions}

-- ---- one item more

when-none : {A : Type 0} (b : Bool) (x y : A) (c : Ex) → None ≡ (if b then Some c else None) → (if b then x else y) ≡ y
when-none true x y c h = let k : None ≡ Some c = h in cc
when-none false x y c h = refl

left-none : (i : Item) (is : List Item) → None ≡ read_condition i
    → without_conditions (gens_of (i ∷ is)) ≡ append_gens (gens_of (i ∷ [])) (without_conditions (gens_of is))
left-none (over_item p d) is h = refl
left-none (from_item p e) is h = refl
left-none (cond_item c) is h =
    when-none (has_cells c) (without_conditions (gens_of is)) (cond c (without_conditions (gens_of is))) c h

-- ---- rows

items-behind : (is js : List Item) (gs : Gens)
    → append_gens (gens_of (is ++ js)) gs ≡ append_gens (gens_of is) (append_gens (gens_of js) gs)
items-behind [] js gs = refl
items-behind (over_item p d ∷ is) js gs = ap (over p d) (items-behind is js gs)
items-behind (from_item p e ∷ is) js gs = ap (from p e) (items-behind is js gs)
items-behind (cond_item c ∷ is) js gs = ap (cond c) (items-behind is js gs)

map-last : (gs : List Gen) (g : Gen) → map pure_gen (gs ++ (g ∷ [])) ≡ map pure_gen gs ++ (pure_gen g ∷ [])
map-last [] g = refl
map-last (x ∷ gs) g = ap (λ l. pure_gen x ∷ l) (map-last gs g)

none-behind : (is : List Item) → append_gens (gens_of is) no_gens ≡ gens_of is
none-behind [] = refl
none-behind (over_item p d ∷ is) = ap (over p d) (none-behind is)
none-behind (from_item p e ∷ is) = ap (from p e) (none-behind is)
none-behind (cond_item c ∷ is) = ap (cond c) (none-behind is)

-- Of no generators nothing is left.
pub others_end : (ds hs : List Gen) → length hs ≡ 0 → pure_gens ds ≡ append_gens (pure_gens ds) (without_conditions (pure_gens hs))
others_end ds [] e = sym (none-behind (map pure_gen ds))
others_end ds (h ∷ hs) e = absurd (omega arith)

-- What is left with an item before that is no such condition.
pub others_none : (ds es : List Gen) (x g : Gen) (gs hs : List Gen) → hs ≡ g ∷ gs → None ≡ read_condition (pure_gen g) → x ≡ g
    → es ≡ ds ++ (x ∷ [])
    → append_gens (pure_gens es) (without_conditions (pure_gens gs)) ≡ append_gens (pure_gens ds) (without_conditions (pure_gens hs))
others_none ds es x g gs hs e h y q =
    ap (λ l. append_gens (pure_gens l) (without_conditions (pure_gens gs))) (q ∙ ap (λ z. ds ++ (z ∷ [])) y)
    ∙ ap (λ l. append_gens (gens_of l) (without_conditions (pure_gens gs))) (map-last ds g)
    ∙ items-behind (map pure_gen ds) (pure_gen g ∷ []) (without_conditions (pure_gens gs))
    ∙ ap (append_gens (pure_gens ds)) (sym (left-none (pure_gen g) (map pure_gen gs) h)
    ∙ ap (λ l. without_conditions (pure_gens l)) (sym e))

-- ---- the whole

-- Generators and a condition behind them.
pub with_last : (gs ls : List Gen) (g : Gen) (ks : Gens) (c : Ex) → ls ≡ gs ++ (g ∷ []) → pure_gens gs ≡ ks → pure_gen g ≡ cond_item c
    → pure_gens ls ≡ append_gens ks (cond c no_gens)
with_last gs ls g ks c q e h =
    ap pure_gens q ∙ ap gens_of (map-last gs g) ∙ sym (none-behind (map pure_gen gs ++ (pure_gen g ∷ [])))
    ∙ items-behind (map pure_gen gs) (pure_gen g ∷ []) no_gens
    ∙ ap (λ i. append_gens (pure_gens gs) (append_gens (gens_of (i ∷ [])) no_gens)) h
    ∙ ap (λ u. append_gens u (cond c no_gens)) e

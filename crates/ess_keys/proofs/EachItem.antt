-- Generators with plain keys one by one are those of the definition.
use Rattle.std.proofs.Common.{◌≡◌, refl, sym, ap, ◌∙◌, ℕ, ◌+◌, ◌<◌, List, [], ◌∷◌, ◌++◌, length, map, drop, get_or, Option, Some, None}
use Rattle.std.specs.Prelude.{IfOk, Result}
use Rattle.std.proofs.lemmas.List.{drop_more}
use Rattle.std.proofs.lemmas.Result.{IfOk-weaker}
use Rattle.ess_semantics.specs.Trees.{Ex, Pat, Gens, Dom, comp_ex, over, from, cond}
use Rattle.ess_core.specs.TreeViews.{Item, over_item, from_item, cond_item, gens_of}
use Rattle.ess_semantics.specs.Trees as pure
use Rattle.ess_core_nodes.specs.NodeViews.{gen_step, node_step, dom_step, seen_step, pure_node, pure_gen, pure_gens}
use Rattle.ess_core_nodes.specs.declared.nodes.Node.{Node}
use Rattle.ess_core_nodes.specs.declared.nodes.Gen.{Gen}
use Rattle.ess_core_nodes.specs.declared.nodes.Gen.TheOpen.{Node-F}
use Rattle.ess_core_nodes.specs.declared.nodes.Node.TheVariants as node
use Rattle.ess_core_nodes.specs.declared.nodes.Gen.TheFolds.{fold-roll-Node}
use Rattle.ess_keys_laws.specs.Keyed.{Around, sure_key, entered_any, conjuncts, conditions_before, generator_before, laid, keyed, keyed_gens, keyed_behind, keyed_dom}
use Rattle.ess_keys.specs.Steps.{generator_left, items_left, behind_item, items_of, behind_items}

conditions-before : (cs : List Ex) (gs : List Item) → gens_of (map cond_item cs ++ gs) ≡ conditions_before cs (gens_of gs)
conditions-before [] gs = refl
conditions-before (c ∷ cs) gs = ap (cond c) (conditions-before cs gs)

generator-before : (p : Pat) (d : Dom) (o : Option Ex) (gs : List Item) → gens_of (generator_left p d o ++ gs) ≡ generator_before p d o (gens_of gs)
generator-before p d (Some t) gs = refl
generator-before p d None gs = refl

-- What is left of them.
pub gens_keyed : (c : Around) (gs : List Item) → gens_of (items_of c gs) ≡ keyed_gens c (gens_of gs)
gens_keyed c [] = refl
gens_keyed c (over_item p d ∷ gs) =
    let b = behind_item c (over_item p d) gs in
    generator-before p (keyed_dom c d) (sure_key c p (keyed_dom c d) (gens_of gs)) (items_of b gs)
    ∙ ap (generator_before p (keyed_dom c d) (sure_key c p (keyed_dom c d) (gens_of gs))) (gens_keyed b gs)
gens_keyed c (from_item p e ∷ gs) = ap (from p (keyed c e)) (gens_keyed (entered_any c p) gs)
gens_keyed c (cond_item e ∷ gs) =
    conditions-before (conjuncts c.origins (keyed c e)) (items_of c gs)
    ∙ ap (conditions_before (conjuncts c.origins (keyed c e))) (gens_keyed c gs)

-- What is known behind them.
pub behind_keyed : (c : Around) (gs : List Item) → behind_items c gs ≡ keyed_behind c (gens_of gs)
behind_keyed c [] = refl
behind_keyed c (over_item p d ∷ gs) = behind_keyed (behind_item c (over_item p d) gs) gs
behind_keyed c (from_item p e ∷ gs) = behind_keyed (entered_any c p) gs
behind_keyed c (cond_item e ∷ gs) = behind_keyed c gs

-- A comprehension.
pub comp_keyed : (c b : Around) (e f : Ex) (gs hs : List Item) → hs ≡ items_of c gs → b ≡ behind_items c gs → f ≡ keyed b e
    → laid f (gens_of hs) ≡ keyed c (comp_ex e (gens_of gs))
comp_keyed c b e f gs hs p q r =
    ap (laid f) (ap gens_of p ∙ gens_keyed c gs)
    ∙ ap (λ t. laid t (keyed_gens c (gens_of gs))) (r ∙ ap (λ b. keyed b e) (q ∙ behind_keyed c gs))

-- What is answered for a comprehension that another tree is.
pub comp_answer : {T F : Type 0} (r : Result T F) (view : T → Ex) (c b : Around) (e f w : Ex) (gs hs : List Item) → hs ≡ items_of c gs
    → b ≡ behind_items c gs → f ≡ keyed b e → comp_ex e (gens_of gs) ≡ w → IfOk r (λ n. view n ≡ laid f (gens_of hs))
    → IfOk r (λ n. view n ≡ keyed c w)
comp_answer r view c b e f w gs hs p q k s h =
    IfOk-weaker r (λ n. view n ≡ laid f (gens_of hs)) (λ n. view n ≡ keyed c w)
    (λ n m. m ∙ comp_keyed c b e f gs hs p q k ∙ ap (keyed c) s) h

-- ---- one more

-- What is left at a place is the item there and what is left behind it.
left-at : {A : Type 0} (xs : List A) (i : ℕ) (x : A) → i < length xs → x ≡ get_or xs i x → drop i xs ≡ x ∷ drop (i + 1) xs
left-at xs i x lt is = drop_more xs i x lt ∙ ap (λ z. z ∷ drop (i + 1) xs) (sym is)

-- What stands behind the item at a place.
pub rest_next : {A : Type 0} (xs old rest : List A) (i : ℕ) (x : A) → i < length xs → x ≡ get_or xs i x → old ≡ drop i xs → rest ≡ drop 1 old
    → rest ≡ drop (i + 1) xs
rest_next xs old rest i x lt is o r = r ∙ ap (drop 1) (o ∙ left-at xs i x lt is)

append-twice : {A : Type 0} (xs ys zs : List A) → (xs ++ ys) ++ zs ≡ xs ++ (ys ++ zs)
append-twice [] ys zs = refl
append-twice (x ∷ xs) ys zs = ap (λ l. x ∷ l) (append-twice xs ys zs)

-- What is left of generators, with one more.
pub items_more : (c b : Around) (gs done new rest : List Gen) (all : List Item) (i : ℕ) (x : Gen) → i < length gs → x ≡ get_or gs i x → rest ≡ drop (i + 1) gs
    → map pure_gen new ≡ map pure_gen done ++ items_left c (pure_gen x) (map pure_gen rest) → b ≡ behind_item c (pure_gen x) (map pure_gen rest)
    → map pure_gen done ++ items_of c (map pure_gen (drop i gs)) ≡ all → map pure_gen new ++ items_of b (map pure_gen (drop (i + 1) gs)) ≡ all
items_more c b gs done new rest all i x lt is r n e h =
    ap (λ l. l ++ items_of b (map pure_gen (drop (i + 1) gs)))
    (n ∙ ap (λ l. map pure_gen done ++ items_left c (pure_gen x) (map pure_gen l)) r)
    ∙ append-twice (map pure_gen done) (items_left c (pure_gen x) (map pure_gen (drop (i + 1) gs))) (items_of b (map pure_gen (drop (i + 1) gs)))
    ∙ ap (λ a. map pure_gen done ++ (items_left c (pure_gen x) (map pure_gen (drop (i + 1) gs)) ++ items_of a (map pure_gen (drop (i + 1) gs))))
    (e ∙ ap (λ l. behind_item c (pure_gen x) (map pure_gen l)) r)
    ∙ sym (ap (λ l. map pure_gen done ++ items_of c (map pure_gen l)) (left-at gs i x lt is)) ∙ h

-- What is known behind them.
pub behind_more : (c b d : Around) (gs rest : List Gen) (i : ℕ) (x : Gen) → i < length gs → x ≡ get_or gs i x → rest ≡ drop (i + 1) gs
    → b ≡ behind_item c (pure_gen x) (map pure_gen rest) → behind_items c (map pure_gen (drop i gs)) ≡ d
    → behind_items b (map pure_gen (drop (i + 1) gs)) ≡ d
behind_more c b d gs rest i x lt is r e h =
    ap (λ a. behind_items a (map pure_gen (drop (i + 1) gs))) (e ∙ ap (λ l. behind_item c (pure_gen x) (map pure_gen l)) r)
    ∙ sym (ap (λ l. behind_items c (map pure_gen l)) (left-at gs i x lt is)) ∙ h

-- ---- comprehensions of nodes

-- What a comprehension of nodes stands for.
pub node_comp : (e : Node) (gs : List Gen) → pure_node (node.Comp e gs) ≡ comp_ex (pure_node e) (pure_gens gs)
node_comp e gs =
    ap pure_node (sym (node.rolls-Comp e gs))
    ∙ fold-roll-Node Item pure.Ex pure.Dom pure.Ex gen_step node_step dom_step seen_step (Node-F.Comp e gs)

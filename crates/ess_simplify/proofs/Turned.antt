-- One item of a row after the other, simplified in its place.
use Rattle.std.proofs.Common.{◌≡◌, refl, sym, ap, ◌∙◌, ℕ, zero, suc, ◌+◌, ◌<◌, ◌≤◌, List, [], ◌∷◌, length, map, set, slice_get, Option, Some, None, arith}
use Rattle.ess_semantics.specs.Trees as pure
use Rattle.ess_semantics.specs.Trees.{more_exs, more_doms, over, from, cond}
use Rattle.ess_semantics.specs.Kinds.{doms_of}
use Rattle.ess_core.specs.TreeViews.{Item, over_item, from_item, cond_item, exs_of, gens_of}
use Rattle.ess_core_nodes.specs.NodeViews.{pure_node, pure_nodes, pure_gen, pure_gens, pure_dom, pure_doms}
use Rattle.ess_core_nodes.specs.declared.nodes.Node.{Node}
use Rattle.ess_core_nodes.specs.declared.nodes.Gen.{Gen}
use Rattle.ess_core_nodes.specs.declared.nodes.NodeDom.{NodeDom}
use Rattle.ess_simplify_laws.specs.Simplifying.{simplified, all_simplified, gens_simplified, dom_simplified, doms_simplified}
use Rattle.ess_simplify.specs.Turns.{item_simplified, turned}

got : {A : Type 0} (x y : A) → Some x ≡ Some y → x ≡ y
got x y h = ap (λ o. elim o [ Some z ↦ z | None ↦ x ]) h

module _ {A P : Type 0} (v : A → P) (f : P → P) where
  -- What stands at i, turned.
  at-place : (i : ℕ) (zs : List P) (u : P) → slice_get (turned f i zs) i ≡ Some u → set (turned f i zs) i (f u) ≡ turned f (suc i) zs
  at-place zero [] u h = cc
  at-place zero (z ∷ zs) u h = ap (λ x. f x ∷ zs) (sym (got z u h))
  at-place (suc i) [] u h = cc
  at-place (suc i) (z ∷ zs) u h = ap (λ l. f z ∷ l) (at-place i zs u h)

  set-map : (xs : List A) (i : ℕ) (y : A) → map v (set xs i y) ≡ set (map v xs) i (v y)
  set-map [] zero y = refl
  set-map [] (suc i) y = refl
  set-map (x ∷ xs) zero y = refl
  set-map (x ∷ xs) (suc i) y = ap (λ l. v x ∷ l) (set-map xs i y)

  get-map : (xs : List A) (i : ℕ) (x : A) → slice_get xs i ≡ Some x → slice_get (map v xs) i ≡ Some (v x)
  get-map [] i x h = cc
  get-map (z ∷ zs) zero x h = ap (λ w. Some (v w)) (got z x h)
  get-map (z ∷ zs) (suc i) x h = get-map zs i x h

  next : (i : ℕ) → suc i ≡ i + 1
  next i = omega arith

  -- A turn of the loop.
  pub turn : (xs ys : List A) (zs : List P) (i : ℕ) (x y : A) → map v xs ≡ turned f i zs → slice_get xs i ≡ Some x → v y ≡ f (v x) → ys ≡ set xs i y
      → map v ys ≡ turned f (i + 1) zs
  turn xs ys zs i x y inv h e p =
      ap (map v) p ∙ set-map xs i y ∙ ap (set (map v xs) i) e ∙ ap (λ l. set l i (f (v x))) inv
      ∙ at-place i zs (v x) (ap (λ l. slice_get l i) (sym inv) ∙ get-map xs i x h) ∙ ap (λ k. turned f k zs) (next i)

  all-turned : (zs : List P) (k : ℕ) → length zs ≤ k → turned f k zs ≡ map f zs
  all-turned [] zero h = refl
  all-turned [] (suc k) h = refl
  all-turned (z ∷ zs) zero h = absurd (omega (arith, h))
  all-turned (z ∷ zs) (suc k) h = ap (λ l. f z ∷ l) (all-turned zs k (omega (arith, h)))

  turned-length : (zs : List P) (k : ℕ) → length (turned f k zs) ≡ length zs
  turned-length zs zero = refl
  turned-length [] (suc k) = refl
  turned-length (z ∷ zs) (suc k) = ap suc (turned-length zs k)

  map-length : (xs : List A) → length (map v xs) ≡ length xs
  map-length [] = refl
  map-length (x ∷ xs) = ap suc (map-length xs)

  -- The loop doesn't change how many there are.
  pub same-length : (xs xs' : List A) (i : ℕ) → map v xs ≡ turned f i (map v xs') → length xs ≡ length xs'
  same-length xs xs' i h = sym (map-length xs) ∙ ap length h ∙ turned-length (map v xs') i ∙ map-length xs'

  -- Behind the last item all are turned.
  pub last : (xs xs' : List A) (i : ℕ) → map v xs ≡ turned f i (map v xs') → length xs' ≤ i → map v xs ≡ map f (map v xs')
  last xs xs' i h k = let e = map-length xs' in h ∙ all-turned (map v xs') i (omega (arith, k, e))

-- No item stands behind the last.
pub none-there : {A : Type 0} (xs : List A) (i : ℕ) → slice_get xs i ≡ None → i < length xs → ⊥
none-there [] i h l = omega arith
none-there (x ∷ xs) zero h l = cc
none-there (x ∷ xs) (suc i) h l = none-there xs i h (omega arith)

-- ---- nodes, generators, domains

nodes-mapped : (es : List pure.Ex) → exs_of (map simplified es) ≡ all_simplified (exs_of es)
nodes-mapped [] = refl
nodes-mapped (e ∷ es) = ap (more_exs (simplified e)) (nodes-mapped es)

-- Several trees, all simplified.
pub nodes_done : (xs zs : List Node) (i : ℕ) → map pure_node xs ≡ turned simplified i (map pure_node zs) → length zs ≤ i
    → pure_nodes xs ≡ all_simplified (pure_nodes zs)
nodes_done xs zs i h k = ap exs_of (last pure_node simplified xs zs i h k) ∙ nodes-mapped (map pure_node zs)

doms-mapped : (ds : List pure.Dom) → doms_of (map dom_simplified ds) ≡ doms_simplified (doms_of ds)
doms-mapped [] = refl
doms-mapped (d ∷ ds) = ap (more_doms (dom_simplified d)) (doms-mapped ds)

pub doms_done : (xs zs : List NodeDom) (i : ℕ) → map pure_dom xs ≡ turned dom_simplified i (map pure_dom zs) → length zs ≤ i
    → pure_doms xs ≡ doms_simplified (pure_doms zs)
doms_done xs zs i h k = ap doms_of (last pure_dom dom_simplified xs zs i h k) ∙ doms-mapped (map pure_dom zs)

gens-mapped : (gs : List Item) → gens_of (map item_simplified gs) ≡ gens_simplified (gens_of gs)
gens-mapped [] = refl
gens-mapped (over_item p d ∷ gs) = ap (over p (dom_simplified d)) (gens-mapped gs)
gens-mapped (from_item p e ∷ gs) = ap (from p (simplified e)) (gens-mapped gs)
gens-mapped (cond_item e ∷ gs) = ap (cond (simplified e)) (gens-mapped gs)

pub gens_done : (xs zs : List Gen) (i : ℕ) → map pure_gen xs ≡ turned item_simplified i (map pure_gen zs) → length zs ≤ i
    → pure_gens xs ≡ gens_simplified (pure_gens zs)
gens_done xs zs i h k = ap gens_of (last pure_gen item_simplified xs zs i h k) ∙ gens-mapped (map pure_gen zs)

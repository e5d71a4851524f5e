-- One item of a row after the other, led to in its place.
use Rattle.std.proofs.Common.{◌≡◌, refl, sym, ap, ◌∙◌, subst, ℕ, zero, suc, ◌+◌, List, [], ◌∷◌, ◌++◌, map, set, slice_get, take, Some, None, arith}
use Rattle.ess_semantics.specs.Names.{Names}
use Rattle.ess_semantics.specs.Trees.{Ex, more_exs, over, from, cond, Dom, more_doms}
use Rattle.ess_semantics.specs.Kinds.{doms_of}
use Rattle.ess_semantics.specs.Types.{Ty, bind_types, type_of_dom}
use Rattle.ess_semantics.specs.Typing.{source_ty}
use Rattle.ess_semantics.specs.Contexts.{in_first, in_later, in_generator_domain, behind_over, in_source, behind_from, in_condition, behind_condition, in_first_domain, in_later_domain, fill, fill_exs, fill_gens, fill_dom, fill_doms}
use Rattle.ess_semantics.specs.NamesAt.{names_behind, names_at, names_at_exs, names_at_gens, names_at_dom, names_at_doms}
use Rattle.ess_core.specs.TreeViews.{Item, over_item, from_item, cond_item, exs_of, gens_of}
use Rattle.ess_core_nodes.specs.declared.nodes.Node.{Node}
use Rattle.ess_core_nodes.specs.declared.nodes.Gen.{Gen}
use Rattle.ess_core_nodes.specs.declared.nodes.NodeDom.{NodeDom}
use Rattle.ess_core_nodes.specs.NodeViews.{pure_node, pure_nodes, pure_gen, pure_gens, pure_dom, pure_doms}
use Rattle.ess_refine.specs.Passes.{Passes, AllPass, GensPass, DomPasses, DomsPass, ItemPasses}
use Rattle.ess_refine.specs.declared.passing.Turns.{Turns}
use Rattle.ess_refine.proofs.Chains.{passes-inside, passes-then}

got : {A : Type 0} (x y : A) → Some x ≡ Some y → x ≡ y
got x y h = ap (λ o. elim o [ Some z ↦ z | None ↦ x ]) h

set-exs : (o n : Turns) (g : Names Ty) (xs : List Ex) (i : ℕ) (x y : Ex) → slice_get xs i ≡ Some x → Passes o g x y n
    → AllPass o g (exs_of xs) (exs_of (set xs i y)) n
set-exs o n g [] i x y h w = cc
set-exs o n g (z ∷ zs) zero x y h w = subst (λ u. AllPass o g (more_exs u (exs_of zs)) (more_exs y (exs_of zs)) n) (sym (got z x h))
    (passes-inside fill names_at fill_exs names_at_exs (λ c. in_first c (exs_of zs)) (λ u. more_exs u (exs_of zs)) g g (λ c u. refl)
    (λ c. refl) o n x y w)
set-exs o n g (z ∷ zs) (suc i) x y h w =
    passes-inside fill_exs names_at_exs fill_exs names_at_exs (in_later z) (more_exs z) g g (λ c u. refl) (λ c. refl) o n
    (exs_of zs) (exs_of (set zs i y)) (set-exs o n g zs i x y h w)

set-doms : (o n : Turns) (g : Names Ty) (xs : List Dom) (i : ℕ) (x y : Dom) → slice_get xs i ≡ Some x → DomPasses o g x y n
    → DomsPass o g (doms_of xs) (doms_of (set xs i y)) n
set-doms o n g [] i x y h w = cc
set-doms o n g (z ∷ zs) zero x y h w = subst (λ u. DomsPass o g (more_doms u (doms_of zs)) (more_doms y (doms_of zs)) n) (sym (got z x h))
    (passes-inside fill_dom names_at_dom fill_doms names_at_doms (λ c. in_first_domain c (doms_of zs)) (λ u. more_doms u (doms_of zs))
    g g (λ c u. refl) (λ c. refl) o n x y w)
set-doms o n g (z ∷ zs) (suc i) x y h w =
    passes-inside fill_doms names_at_doms fill_doms names_at_doms (in_later_domain z) (more_doms z) g g (λ c u. refl) (λ c. refl) o n
    (doms_of zs) (doms_of (set zs i y)) (set-doms o n g zs i x y h w)

item-first : (o n : Turns) (g : Names Ty) (gs : List Item) (i j : Item) → ItemPasses o g i j n
    → GensPass o g (gens_of (i ∷ gs)) (gens_of (j ∷ gs)) n
item-first o n g gs (over_item p d) (over_item q e) w = subst (λ r. GensPass o g (over p d (gens_of gs)) (over r e (gens_of gs)) n) w.0
    (passes-inside fill_dom names_at_dom fill_gens names_at_gens (λ c. in_generator_domain p c (gens_of gs))
    (λ u. over p u (gens_of gs)) g g (λ c u. refl) (λ c. refl) o n d e w.1)
item-first o n g gs (from_item p d) (from_item q e) w = subst (λ r. GensPass o g (from p d (gens_of gs)) (from r e (gens_of gs)) n) w.0
    (passes-inside fill names_at fill_gens names_at_gens (λ c. in_source p c (gens_of gs)) (λ u. from p u (gens_of gs)) g g
    (λ c u. refl) (λ c. refl) o n d e w.1)
item-first o n g gs (cond_item d) (cond_item e) w =
    passes-inside fill names_at fill_gens names_at_gens (λ c. in_condition c (gens_of gs)) (λ u. cond u (gens_of gs)) g g (λ c u. refl)
    (λ c. refl) o n d e w
item-first o n g gs (over_item p d) (from_item q e) w = absurd w
item-first o n g gs (over_item p d) (cond_item e) w = absurd w
item-first o n g gs (from_item p d) (over_item q e) w = absurd w
item-first o n g gs (from_item p d) (cond_item e) w = absurd w
item-first o n g gs (cond_item d) (over_item q e) w = absurd w
item-first o n g gs (cond_item d) (from_item q e) w = absurd w

set-gens : (o n : Turns) (g : Names Ty) (gs : List Item) (i : ℕ) (x y : Item) → slice_get gs i ≡ Some x
    → ItemPasses o (names_behind (gens_of (take i gs)) g) x y n → GensPass o g (gens_of gs) (gens_of (set gs i y)) n
set-gens o n g [] i x y h w = cc
set-gens o n g (z ∷ zs) zero x y h w = subst (λ u. GensPass o g (gens_of (u ∷ zs)) (gens_of (y ∷ zs)) n) (sym (got z x h))
    (item-first o n g zs x y w)
set-gens o n g (over_item p d ∷ zs) (suc i) x y h w =
    passes-inside fill_gens names_at_gens fill_gens names_at_gens (behind_over p d) (over p d) g (bind_types p (type_of_dom d) g)
    (λ c u. refl) (λ c. refl) o n (gens_of zs) (gens_of (set zs i y)) (set-gens o n (bind_types p (type_of_dom d) g) zs i x y h w)
set-gens o n g (from_item p e ∷ zs) (suc i) x y h w =
    passes-inside fill_gens names_at_gens fill_gens names_at_gens (behind_from p e) (from p e) g (bind_types p (source_ty e g) g)
    (λ c u. refl) (λ c. refl) o n (gens_of zs) (gens_of (set zs i y)) (set-gens o n (bind_types p (source_ty e g) g) zs i x y h w)
set-gens o n g (cond_item e ∷ zs) (suc i) x y h w =
    passes-inside fill_gens names_at_gens fill_gens names_at_gens (behind_condition e) (cond e) g g (λ c u. refl) (λ c. refl) o n
    (gens_of zs) (gens_of (set zs i y)) (set-gens o n g zs i x y h w)

-- ---- rows of trees

module _ {A P : Type 0} (v : A → P) where
  map-set : (xs : List A) (i : ℕ) (y : A) → map v (set xs i y) ≡ set (map v xs) i (v y)
  map-set [] zero y = refl
  map-set [] (suc i) y = refl
  map-set (x ∷ xs) zero y = refl
  map-set (x ∷ xs) (suc i) y = ap (λ l. v x ∷ l) (map-set xs i y)

  map-get : (xs : List A) (i : ℕ) (x : A) → slice_get xs i ≡ Some x → slice_get (map v xs) i ≡ Some (v x)
  map-get [] i x h = cc
  map-get (z ∷ zs) zero x h = ap (λ w. Some (v w)) (got z x h)
  map-get (z ∷ zs) (suc i) x h = map-get zs i x h

-- A turn of the loop over trees.
pub nodes_turn : (o k n : Turns) (g : Names Ty) (zs xs ys : List Node) (i : ℕ) (x y : Node) → AllPass o g (pure_nodes zs) (pure_nodes xs) k
    → slice_get xs i ≡ Some x → Passes k g (pure_node x) (pure_node y) n → ys ≡ set xs i y
    → AllPass o g (pure_nodes zs) (pure_nodes ys) n
nodes_turn o k n g zs xs ys i x y w h l e =
    passes-then fill_exs names_at_exs o k n g (pure_nodes zs) (pure_nodes xs) (pure_nodes ys) w
    (subst (λ u. AllPass k g (pure_nodes xs) (exs_of u) n) (sym (ap (map pure_node) e ∙ map-set pure_node xs i y))
    (set-exs k n g (map pure_node xs) i (pure_node x) (pure_node y) (map-get pure_node xs i x h) l))

-- The same, as the loop has it.
pub nodes_step : (o k n j : Turns) (g : Names Ty) (zs xs ys : List Node) (i : ℕ) (x old new y : Node)
    → AllPass o g (pure_nodes zs) (pure_nodes xs) k → Some x ≡ slice_get xs i → old ≡ x → Passes k g (pure_node old) (pure_node new) n
    → y ≡ new → ys ≡ set xs i y → j ≡ n → AllPass o g (pure_nodes zs) (pure_nodes ys) j
nodes_step o k n j g zs xs ys i x old new y w h a l b e q = nodes_turn o k j g zs xs ys i x y w (sym h)
    (subst (λ v. Passes k g (pure_node x) (pure_node v) j) (sym b)
    (subst (λ v. Passes k g (pure_node v) (pure_node new) j) a
    (subst (λ v. Passes k g (pure_node old) (pure_node new) v) (sym q) l))) e

-- The same of domains.
pub doms_turn : (o k n : Turns) (g : Names Ty) (zs xs ys : List NodeDom) (i : ℕ) (x y : NodeDom)
    → DomsPass o g (pure_doms zs) (pure_doms xs) k
    → slice_get xs i ≡ Some x → DomPasses k g (pure_dom x) (pure_dom y) n → ys ≡ set xs i y
    → DomsPass o g (pure_doms zs) (pure_doms ys) n
doms_turn o k n g zs xs ys i x y w h l e =
    passes-then fill_doms names_at_doms o k n g (pure_doms zs) (pure_doms xs) (pure_doms ys) w
    (subst (λ u. DomsPass k g (pure_doms xs) (doms_of u) n) (sym (ap (map pure_dom) e ∙ map-set pure_dom xs i y))
    (set-doms k n g (map pure_dom xs) i (pure_dom x) (pure_dom y) (map-get pure_dom xs i x h) l))

pub doms_step : (o k n j : Turns) (g : Names Ty) (zs xs ys : List NodeDom) (i : ℕ) (x old new y : NodeDom)
    → DomsPass o g (pure_doms zs) (pure_doms xs) k → Some x ≡ slice_get xs i → old ≡ x → DomPasses k g (pure_dom old) (pure_dom new) n
    → y ≡ new → ys ≡ set xs i y → j ≡ n → DomsPass o g (pure_doms zs) (pure_doms ys) j
doms_step o k n j g zs xs ys i x old new y w h a l b e q = doms_turn o k j g zs xs ys i x y w (sym h)
    (subst (λ v. DomPasses k g (pure_dom x) (pure_dom v) j) (sym b)
    (subst (λ v. DomPasses k g (pure_dom v) (pure_dom new) j) a
    (subst (λ v. DomPasses k g (pure_dom old) (pure_dom new) v) (sym q) l))) e

-- The same of generators, under the names of those before.
pub gens_turn : (o k n : Turns) (g u : Names Ty) (zs xs ys : List Gen) (i : ℕ) (x y : Gen) → GensPass o g (pure_gens zs) (pure_gens xs) k
    → u ≡ names_behind (gens_of (take i (map pure_gen xs))) g
    → slice_get xs i ≡ Some x → ItemPasses k u (pure_gen x) (pure_gen y) n → ys ≡ set xs i y
    → GensPass o g (pure_gens zs) (pure_gens ys) n
gens_turn o k n g u zs xs ys i x y w q h l e =
    passes-then fill_gens names_at_gens o k n g (pure_gens zs) (pure_gens xs) (pure_gens ys) w
    (subst (λ v. GensPass k g (pure_gens xs) (gens_of v) n) (sym (ap (map pure_gen) e ∙ map-set pure_gen xs i y))
    (set-gens k n g (map pure_gen xs) i (pure_gen x) (pure_gen y) (map-get pure_gen xs i x h)
    (subst (λ v. ItemPasses k v (pure_gen x) (pure_gen y) n) q l)))

pub gens_step : (o k n j : Turns) (g u : Names Ty) (zs xs ys : List Gen) (i : ℕ) (x old new y : Gen)
    → GensPass o g (pure_gens zs) (pure_gens xs) k → u ≡ names_behind (gens_of (take i (map pure_gen xs))) g → Some x ≡ slice_get xs i
    → old ≡ x → ItemPasses k u (pure_gen old) (pure_gen new) n → y ≡ new → ys ≡ set xs i y → j ≡ n
    → GensPass o g (pure_gens zs) (pure_gens ys) j
gens_step o k n j g u zs xs ys i x old new y w p h a l b e q = gens_turn o k j g u zs xs ys i x y w p (sym h)
    (subst (λ v. ItemPasses k u (pure_gen x) (pure_gen v) j) (sym b)
    (subst (λ v. ItemPasses k u (pure_gen v) (pure_gen new) j) a
    (subst (λ v. ItemPasses k u (pure_gen old) (pure_gen new) v) (sym q) l))) e

-- ---- names behind generators

names-more : (is js : List Item) (g : Names Ty) → names_behind (gens_of (is ++ js)) g ≡ names_behind (gens_of js) (names_behind (gens_of is) g)
names-more [] js g = refl
names-more (over_item p d ∷ is) js g = names-more is js (bind_types p (type_of_dom d) g)
names-more (from_item p e ∷ is) js g = names-more is js (bind_types p (source_ty e g) g)
names-more (cond_item e ∷ is) js g = names-more is js g

take-set : {A : Type 0} (xs : List A) (i : ℕ) (x y : A) → slice_get xs i ≡ Some x → take (suc i) (set xs i y) ≡ take i xs ++ (y ∷ [])
take-set [] i x y h = cc
take-set (z ∷ zs) zero x y h = refl
take-set (z ∷ zs) (suc i) x y h = ap (λ l. z ∷ l) (take-set zs i x y h)

next : (i : ℕ) → i + 1 ≡ suc i
next i = omega arith

-- Behind one generator more.
pub names_turn : (g u v : Names Ty) (xs ys : List Gen) (i : ℕ) (x y : Gen) → u ≡ names_behind (gens_of (take i (map pure_gen xs))) g
    → slice_get xs i ≡ Some x → ys ≡ set xs i y → names_behind (gens_of (pure_gen y ∷ [])) u ≡ v
    → v ≡ names_behind (gens_of (take (i + 1) (map pure_gen ys))) g
names_turn g u v xs ys i x y q h e w =
    sym w ∙ ap (names_behind (gens_of (pure_gen y ∷ []))) q
    ∙ sym (names-more (take i (map pure_gen xs)) (pure_gen y ∷ []) g)
    ∙ ap (λ l. names_behind (gens_of l) g) (sym (take-set (map pure_gen xs) i (pure_gen x) (pure_gen y) (map-get pure_gen xs i x h)))
    ∙ ap (λ l. names_behind (gens_of (take (suc i) l)) g) (sym (ap (map pure_gen) e ∙ map-set pure_gen xs i y))
    ∙ ap (λ k. names_behind (gens_of (take k (map pure_gen ys))) g) (sym (next i))

take-none : {A : Type 0} (xs : List A) (i : ℕ) → None ≡ slice_get xs i → take (suc i) xs ≡ take i xs
take-none [] zero h = refl
take-none [] (suc i) h = refl
take-none (z ∷ zs) zero h = cc
take-none (z ∷ zs) (suc i) h = ap (λ l. z ∷ l) (take-none zs i h)

module _ {A P : Type 0} (v : A → P) where
  map-none : (xs : List A) (i : ℕ) → None ≡ slice_get xs i → None ≡ slice_get (map v xs) i
  map-none [] i h = refl
  map-none (z ∷ zs) zero h = cc
  map-none (z ∷ zs) (suc i) h = map-none zs i h

-- Behind the last generator.
pub names_end : (g u : Names Ty) (xs ys : List Gen) (i : ℕ) → u ≡ names_behind (gens_of (take i (map pure_gen xs))) g
    → None ≡ slice_get xs i → ys ≡ xs → u ≡ names_behind (gens_of (take (i + 1) (map pure_gen ys))) g
names_end g u xs ys i q h e =
    q ∙ ap (λ l. names_behind (gens_of l) g) (sym (take-none (map pure_gen xs) i (map-none pure_gen xs i h)))
    ∙ ap (λ l. names_behind (gens_of (take (suc i) (map pure_gen l))) g) (sym e)
    ∙ ap (λ k. names_behind (gens_of (take k (map pure_gen ys))) g) (sym (next i))

-- Loops that convert one item after the other: what is left gives the same in the end.
use Rattle.std.proofs.Common.{◌≡◌, refl, sym, ap, ◌∙◌, subst, ℕ, ◌+◌, ◌<◌, List, [], ◌∷◌, ◌++◌, append_assoc, append-nil, length, get_or, drop, map, reverse, Option, Some, None}
use Rattle.std.proofs.lemmas.List.{drop_more, map-append}
use Rattle.std.specs.Option.{option_map}
use Rattle.ess_semantics.specs.Values.{Text}
use Rattle.ess_semantics.specs.Lists.{and_then, each_of}
use Rattle.ess_grammar.specs.Models.{Scope}
use Rattle.ess_core.specs.TreeViews.{Item}
use Rattle.eprime_tree.specs.Views as P
use Rattle.eprime_read_convert.specs.Converted.{Each, model_item, model_items, names_of_item}

-- The answers so far with those of the items that are left, where all are there.
abbrev pub put : {B : Type 0} → List B → Option (List B) → Option (List B)
put ys o = option_map (λ zs. ys ++ zs) o

-- What is left behind these answers gives what all items give.
abbrev pub Sweep : {A B : Type 0} → (A → Option B) → List B → List A → List A → Type 0
Sweep f ys rest all = put ys (each_of rest f) ≡ each_of all f

pub put-none : {B : Type 0} (o : Option (List B)) → put [] o ≡ o
put-none None = refl
put-none (Some zs) = refl

put-more : {B : Type 0} (ys : List B) (y : B) (o : Option (List B)) → put ys (option_map (λ zs. y ∷ zs) o) ≡ put (ys ++ (y ∷ [])) o
put-more ys y None = refl
put-more ys y (Some zs) = ap (λ xs. Some xs) (sym (append_assoc ys (y ∷ []) zs))

-- An item has its answer: it goes behind the others.
pub sweep-more : {A B : Type 0} (f : A → Option B) (ys : List B) (y : B) (x : A) (rest all : List A) → Some y ≡ f x → Sweep f ys (x ∷ rest) all → Sweep f (ys ++ (y ∷ [])) rest all
sweep-more f ys y x rest all e s = sym (put-more ys y (each_of rest f)) ∙ ap (λ o. put ys (and_then o (λ y. option_map (λ zs. y ∷ zs) (each_of rest f)))) e ∙ s

-- It has none: all have none.
pub sweep-none : {A B : Type 0} (f : A → Option B) (ys : List B) (x : A) (rest all : List A) → None ≡ f x → Sweep f ys (x ∷ rest) all → None ≡ each_of all f
sweep-none f ys x rest all e s = ap (λ o. put ys (and_then o (λ y. option_map (λ zs. y ∷ zs) (each_of rest f)))) e ∙ s

-- No item is left.
pub sweep-end : {A B : Type 0} (f : A → Option B) (ys : List B) (all : List A) → Sweep f ys [] all → Some ys ≡ each_of all f
sweep-end f ys all s = ap (λ xs. Some xs) (sym (append-nil ys)) ∙ s

-- The same of items of a comprehension, each inside those before it.
abbrev pub ItemSweep : Scope → List Text → List P.Item → List Item → List Text → List Item → Type 0
ItemSweep s h js rest g all = put js (model_items s h rest) ≡ model_items s g all

pub items-more : (s : Scope) (h : List Text) (js : List P.Item) (j : P.Item) (i : Item) (rest : List Item) (g : List Text) (all : List Item) → Some j ≡ model_item s h i → ItemSweep s h js (i ∷ rest) g all →
    ItemSweep s (names_of_item i ++ h) (js ++ (j ∷ [])) rest g all
items-more s h js j i rest g all e k =
    sym (put-more js j (model_items s (names_of_item i ++ h) rest)) ∙ ap (λ o. put js (and_then o (λ j. option_map (λ zs. j ∷ zs) (model_items s (names_of_item i ++ h) rest)))) e ∙ k

pub items-none : (s : Scope) (h : List Text) (js : List P.Item) (i : Item) (rest : List Item) (g : List Text) (all : List Item) → None ≡ model_item s h i → ItemSweep s h js (i ∷ rest) g all → None ≡ model_items s g all
items-none s h js i rest g all e k = ap (λ o. put js (and_then o (λ j. option_map (λ zs. j ∷ zs) (model_items s (names_of_item i ++ h) rest)))) e ∙ k

pub items-end : (s : Scope) (h : List Text) (js : List P.Item) (g : List Text) (all : List Item) → ItemSweep s h js [] g all → Some js ≡ model_items s g all
items-end s h js g all k = ap (λ xs. Some xs) (sym (append-nil js)) ∙ k

-- What each item from the one at i on has, each behind it has.
pub each-step : {G : Type 0} (P : Item → Type 0) (w : G → Item) (gs : List G) (i : ℕ) (p : G) → i < length gs → p ≡ get_or gs i p → Each P (map w (drop i gs)) → Each P (map w (drop (i + 1) gs))
each-step P w gs i p lt hp k =
    let e : drop i gs ≡ p ∷ drop (i + 1) gs = drop_more gs i p lt ∙ ap (λ q. q ∷ drop (i + 1) gs) (sym hp) in
    let m : Each P (w p ∷ map w (drop (i + 1) gs)) = subst (λ hs. Each P (map w hs)) e k in
    m.1

-- The item at i has its answer, and the names that it binds are put behind those of the items before it.
pub items-step : {G C : Type 0} (s : Scope) (h ns new : List Text) (v : C → P.Item) (w : G → Item) (xs ys : List C) (x : C) (o : Option C) (gs : List G) (i : ℕ) (p : G) → reverse new ≡ names_of_item (w p) ++ reverse ns →
    option_map v o ≡ model_item s (reverse ns ++ h) (w p) → o ≡ Some x → ys ≡ xs ++ x ∷ [] → i < length gs → p ≡ get_or gs i p → ItemSweep s (reverse ns ++ h) (map v xs) (map w (drop i gs)) h (map w gs) →
    ItemSweep s (reverse new ++ h) (map v ys) (map w (drop (i + 1) gs)) h (map w gs)
items-step s h ns new v w xs ys x o gs i p hn hm ho hy lt hp k =
    let rest : List Item = map w (drop (i + 1) gs) in
    let e : map w (drop i gs) ≡ w p ∷ rest = ap (map w) (drop_more gs i p lt ∙ ap (λ q. q ∷ drop (i + 1) gs) (sym hp)) in
    let m : ItemSweep s (reverse ns ++ h) (map v xs) (w p ∷ rest) h (map w gs) = subst (λ is. ItemSweep s (reverse ns ++ h) (map v xs) is h (map w gs)) e k in
    let f : reverse new ++ h ≡ names_of_item (w p) ++ (reverse ns ++ h) = ap (λ l. l ++ h) hn ∙ append_assoc (names_of_item (w p)) (reverse ns) h in
    let g : map v ys ≡ map v xs ++ v x ∷ [] = ap (map v) hy ∙ map-append v xs (x ∷ []) in
    subst (λ js. ItemSweep s (reverse new ++ h) js rest h (map w gs)) (sym g)
    (subst (λ l. ItemSweep s l (map v xs ++ v x ∷ []) rest h (map w gs)) (sym f)
    (items-more s (reverse ns ++ h) (map v xs) (v x) (w p) rest h (map w gs) (sym (ap (option_map v) ho) ∙ hm) m))

-- At first all items are left.
pub sweep-start : {A B C : Type 0} (f : A → Option B) (v : C → B) (xs : List C) (all : List A) → xs ≡ [] → Sweep f (map v xs) all all
sweep-start f v xs all h = ap (λ xs. put (map v xs) (each_of all f)) h ∙ put-none (each_of all f)

pub items-start : {C : Type 0} (s : Scope) (h g : List Text) (v : C → P.Item) (xs : List C) (all : List Item) → xs ≡ [] → h ≡ g → ItemSweep s h (map v xs) all g all
items-start s h g v xs all e k = ap (λ xs. put (map v xs) (model_items s h all)) e ∙ put-none (model_items s h all) ∙ ap (λ h. model_items s h all) k

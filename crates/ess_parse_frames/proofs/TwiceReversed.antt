-- Lists, expressions, domains and generators in reverse: what stands last comes first, and twice in reverse is as before.
use Rattle.std.proofs.Common.{◌≡◌, refl, sym, ap, ◌∙◌, List, [], ◌∷◌, ◌++◌, map}
use Rattle.ess_semantics.specs.Kinds.{doms_of}
use Rattle.ess_semantics.specs.Trees as pure
use Rattle.ess_semantics.specs.Trees.{no_exs, more_exs, no_doms, more_doms, no_gens, over, from, cond}
use Rattle.ess_parse_laws.specs.Reversed.{reverse_exs, reverse_list, reverse_doms, reverse_gens}
use Rattle.ess_core.specs.TreeViews.{Item, over_item, from_item, cond_item, exs_of, gens_of}

reverse_twice : {A : Type 0} (xs ys zs : List A) → reverse_list (reverse_list xs ys) zs ≡ reverse_list ys (xs ++ zs)
reverse_twice [] ys zs = refl
reverse_twice (x ∷ xs) ys zs = reverse_twice xs (x ∷ ys) zs

-- nothing behind a list
pub append-none : {A : Type 0} (xs : List A) → xs ++ [] ≡ xs
append-none [] = refl
append-none (x ∷ xs) = ap (λ ys. x ∷ ys) (append-none xs)

-- a list is itself twice in reverse
pub closed_list : {A : Type 0} (xs : List A) → xs ≡ reverse_list (reverse_list xs []) []
closed_list xs = sym (reverse_twice xs [] [] ∙ append-none xs)

-- in reverse, an expression behind others stands before them
pub exs-push : (es : List pure.Ex) (e : pure.Ex) (before : pure.Exs) → reverse_exs (exs_of (es ++ e ∷ [])) before ≡ more_exs e (reverse_exs (exs_of es) before)
exs-push [] e before = refl
exs-push (x ∷ es) e before = exs-push es e (more_exs x before)

abbrev before_all : pure.Exs → pure.Exs → pure.Exs
before_all no_exs fs = fs
before_all (more_exs e es) fs = more_exs e (before_all es fs)

before_none : (es : pure.Exs) → before_all es no_exs ≡ es
before_none no_exs = refl
before_none (more_exs e es) = ap (more_exs e) (before_none es)

exs-twice : (es : pure.Exs) (before more : pure.Exs) → reverse_exs (reverse_exs es before) more ≡ reverse_exs before (before_all es more)
exs-twice no_exs before more = refl
exs-twice (more_exs e es) before more = exs-twice es (more_exs e before) more

-- expressions that are put in reverse before others, and back, stand as they stood
pub exs-closed : (es before : pure.Exs) → reverse_exs (reverse_exs es before) no_exs ≡ reverse_exs before es
exs-closed es before = exs-twice es before no_exs ∙ ap (reverse_exs before) (before_none es)

-- each of a list with one more at its end
pub map-push : {A B : Type 0} (f : A → B) (xs : List A) (x : A) → map f (xs ++ x ∷ []) ≡ map f xs ++ f x ∷ []
map-push f [] x = refl
map-push f (y ∷ xs) x = ap (λ ys. f y ∷ ys) (map-push f xs x)

-- in reverse, an item behind others stands before them
pub reverse-push : {A : Type 0} (xs : List A) (x : A) (before : List A) → reverse_list (xs ++ x ∷ []) before ≡ x ∷ reverse_list xs before
reverse-push [] x before = refl
reverse-push (y ∷ xs) x before = reverse-push xs x (y ∷ before)

-- in reverse, a domain behind others stands before them
pub doms-push : (ds : List pure.Dom) (d : pure.Dom) (before : pure.Doms) → reverse_doms (doms_of (ds ++ d ∷ [])) before ≡ more_doms d (reverse_doms (doms_of ds) before)
doms-push [] d before = refl
doms-push (c ∷ ds) d before = doms-push ds d (more_doms c before)

abbrev doms_before : pure.Doms → pure.Doms → pure.Doms
doms_before no_doms ds = ds
doms_before (more_doms c cs) ds = more_doms c (doms_before cs ds)

doms-before_none : (ds : pure.Doms) → doms_before ds no_doms ≡ ds
doms-before_none no_doms = refl
doms-before_none (more_doms d ds) = ap (more_doms d) (doms-before_none ds)

doms-twice : (ds before more : pure.Doms) → reverse_doms (reverse_doms ds before) more ≡ reverse_doms before (doms_before ds more)
doms-twice no_doms before more = refl
doms-twice (more_doms d ds) before more = doms-twice ds (more_doms d before) more

-- domains are themselves twice in reverse
pub doms-closed : (ds : pure.Doms) → reverse_doms (reverse_doms ds no_doms) no_doms ≡ ds
doms-closed ds = doms-twice ds no_doms no_doms ∙ doms-before_none ds

-- an item before others
abbrev pub item_before : Item → pure.Gens → pure.Gens
item_before (over_item p d) gs = over p d gs
item_before (from_item p e) gs = from p e gs
item_before (cond_item e) gs = cond e gs

gens-item : (i : Item) (is : List Item) → gens_of (i ∷ is) ≡ item_before i (gens_of is)
gens-item (over_item p d) is = refl
gens-item (from_item p e) is = refl
gens-item (cond_item e) is = refl

-- in reverse, a generator or condition behind others stands before them
pub gens-push : (is : List Item) (i : Item) (before : pure.Gens) → reverse_gens (gens_of (is ++ i ∷ [])) before ≡ item_before i (reverse_gens (gens_of is) before)
gens-push [] (over_item p d) before = refl
gens-push [] (from_item p e) before = refl
gens-push [] (cond_item e) before = refl
gens-push (over_item p d ∷ is) i before = gens-push is i (over p d before)
gens-push (from_item p e ∷ is) i before = gens-push is i (from p e before)
gens-push (cond_item e ∷ is) i before = gens-push is i (cond e before)

-- generators before others
abbrev pub gens_before : pure.Gens → pure.Gens → pure.Gens
gens_before no_gens gs = gs
gens_before (over p d hs) gs = over p d (gens_before hs gs)
gens_before (from p e hs) gs = from p e (gens_before hs gs)
gens_before (cond e hs) gs = cond e (gens_before hs gs)

-- generators before none
pub gens-before_none : (gs : pure.Gens) → gens_before gs no_gens ≡ gs
gens-before_none no_gens = refl
gens-before_none (over p d gs) = ap (over p d) (gens-before_none gs)
gens-before_none (from p e gs) = ap (from p e) (gens-before_none gs)
gens-before_none (cond e gs) = ap (cond e) (gens-before_none gs)

-- generators that are put in reverse before others, and back, stand before what stood behind
pub gens-twice : (gs before more : pure.Gens) → reverse_gens (reverse_gens gs before) more ≡ reverse_gens before (gens_before gs more)
gens-twice no_gens before more = refl
gens-twice (over p d gs) before more = gens-twice gs (over p d before) more
gens-twice (from p e gs) before more = gens-twice gs (from p e before) more
gens-twice (cond e gs) before more = gens-twice gs (cond e before) more

-- The places of a table beside its items, where no two places are one.
use Rattle.std.proofs.Common.{◌≡◌, refl, sym, ap, ◌∙◌, suc, Bool, true, false, ◌&&◌, ◌||◌, List, [], ◌∷◌, ◌++◌, map, length, ℤ, pos, Option, Some, None, is_some}
use Rattle.std.specs.List.{list_any}
use Rattle.std.specs.Ordering.{is_eq, int_cmp, ordering_then}
use Rattle.std.specs.declared.cmp.Ordering.{Ordering}
use Rattle.std.specs.declared.cmp.Ordering.TheVariants.{Less, Equal, Greater}
use Rattle.ess_semantics.specs.Lists.{or_default}
use Rattle.ess_semantics.specs.Order.{same_int, same_ints, order_ints}
use Rattle.ess_semantics.specs.Domains.{add_heads, lists_of}
use Rattle.ess_semantics.specs.Tables.{volume, item_in}
use Rattle.ess_semantics.specs.Cells.{Grid, Axes, gather, row, is_index}
use Rattle.ess_semantics.proofs.Tests.{and-right, and-both, or-yes}
use Rattle.ess_semantics.proofs.Orders.{same_int-equal, same_int-itself, equal-of}
use Rattle.ess_repr_laws.proofs.RowsOfCells.{EachOf, EachIndex, each-map}
use Rattle.ess_repr_laws.proofs.CanonicalPlaces.{AllOf, all-of-map}
use Rattle.ess_repr_laws.proofs.TupleMembers.{map-append}
use Rattle.ess_repr_laws.proofs.Arguments.{index-places, all-of-under}
use Rattle.ess_repr_laws.proofs.TablesAndCells.{NumbersDiffer, AxesDiffer, row-of-items}
use Rattle.ess_repr_laws.proofs.ExactCells.{exact-items, same_int-turned}
use Rattle.ess_repr_laws.proofs.SideBySide.{Along, along-equal, along-left}

-- ---- the places of a table

map-map : {A B C : Type 0} (f : B → C) (g : A → B) (xs : List A) → map f (map g xs) ≡ map (λ x. f (g x)) xs
map-map f g [] = refl
map-map f g (x ∷ xs) = ap (λ l. f (g x) ∷ l) (map-map f g xs)

abbrev at : Grid → List ℤ → ℤ
at f p = or_default (f p) (pos 0)

-- The items of a table are those at its places.
pub row-places : (as' : Axes) (f : Grid) → row as' f ≡ map (λ p. or_default (f p) (pos 0)) (lists_of as')
row-places [] f = refl
row-places (a ∷ as') f = go a (λ k. row-places as' (λ js. f (k ∷ js)))
  where
    go : (ks : List ℤ) → ((k : ℤ) → row as' (λ js. f (k ∷ js)) ≡ map (λ p. or_default (f (k ∷ p)) (pos 0)) (lists_of as')) → gather ks (λ k. row as' (λ js. f (k ∷ js))) ≡ map (at f) (add_heads ks (lists_of as'))
    go [] h = refl
    go (k ∷ ks) h =
        ap (λ l. l ++ gather ks (λ k. row as' (λ js. f (k ∷ js)))) (h k ∙ sym (map-map (at f) (λ l. k ∷ l) (lists_of as')))
        ∙ ap (λ l. map (at f) (map (λ l. k ∷ l) (lists_of as')) ++ l) (go ks h)
        ∙ sym (map-append (at f) (map (λ l. k ∷ l) (lists_of as')) (add_heads ks (lists_of as')))

-- Each number of a list is in it.
pub each-self : (a : List ℤ) → EachOf a (λ k. list_any (same_int k) a ≡ true)
each-self [] = tt
each-self (k ∷ ks) = (ap (λ b. b || list_any (same_int k) ks) (same_int-itself k), each-map ks (λ j. list_any (same_int j) ks ≡ true) (λ j. same_int j k || list_any (same_int j) ks ≡ true) (λ j h. ap (λ b. same_int j k || b) h ∙ or-yes (same_int j k)) (each-self ks))

each-index : (as' : Axes) → EachIndex as' (λ js. is_index as' js ≡ true)
each-index [] = refl
each-index (a ∷ as') = each-map a (λ k. list_any (same_int k) a ≡ true) _ (λ k h. go k h as' (each-index as')) (each-self a)
  where
    go : (k : ℤ) → list_any (same_int k) a ≡ true → (bs : Axes) → EachIndex bs (λ js. is_index as' js ≡ true) → EachIndex bs (λ js. is_index (a ∷ as') (k ∷ js) ≡ true)
    go k h bs e = index-imply bs (λ js. is_index as' js ≡ true) (λ js. is_index (a ∷ as') (k ∷ js) ≡ true) (λ js q. and-both (list_any (same_int k) a) (is_index as' js) h q) e
      where
        index-imply : (bs : Axes) (P Q : List ℤ → Type 0) → ((js : List ℤ) → P js → Q js) → EachIndex bs P → EachIndex bs Q
        index-imply [] P Q f h = f [] h
        index-imply (b ∷ bs) P Q f h = each-map b _ _ (λ k e. index-imply bs (λ js. P (k ∷ js)) (λ js. Q (k ∷ js)) (λ js. f (k ∷ js)) e) h

-- Each place is an index list.
pub places-are : (as' : Axes) → AllOf (lists_of as') (λ p. is_index as' p ≡ true)
places-are as' = index-places as' (λ p. is_index as' p ≡ true) (each-index as')

-- An index list is as long as the axes.
pub index-length : (as' : Axes) (p : List ℤ) → is_index as' p ≡ true → length p ≡ length as'
index-length [] [] e = refl
index-length [] (j ∷ js) e = cc
index-length (a ∷ as') [] e = cc
index-length (a ∷ as') (j ∷ js) e = ap suc (index-length as' js (and-right (list_any (same_int j) a) (is_index as' js) e))

-- The items of a table beside its places.
pub items-along : (as' : Axes) → AxesDiffer as' → (xs : List ℤ) → length xs ≡ volume as' → Along (lists_of as') xs (λ p x. item_in as' xs p ≡ Some x)
items-along as' d xs e =
    along-left (lists_of as') xs (λ p. is_index as' p ≡ true) (λ p x. at (item_in as' xs) p ≡ x) (λ p x. item_in as' xs p ≡ Some x)
    (λ p x i h. there (item_in as' xs p) x (exact-items as' xs e p ∙ i) h) (places-are as')
    (along-equal (at (item_in as' xs)) (lists_of as') xs (sym (row-places as' (item_in as' xs)) ∙ row-of-items as' d xs e))
  where
    there : (o : Option ℤ) (x : ℤ) → is_some o ≡ true → or_default o (pos 0) ≡ x → o ≡ Some x
    there None x e h = cc
    there (Some y) x e h = ap Some h

-- ---- places differ

-- No two places are one.
abbrev pub PlacesDiffer : List (List ℤ) → Type 0
PlacesDiffer [] = Unit {0}
PlacesDiffer (p ∷ ps) = AllOf ps (λ q. same_ints p q ≡ false) × PlacesDiffer ps

differ-append : (xs ys : List (List ℤ)) → PlacesDiffer xs → PlacesDiffer ys → AllOf xs (λ x. AllOf ys (λ y. same_ints x y ≡ false)) → PlacesDiffer (xs ++ ys)
differ-append [] ys p q h = q
differ-append (x ∷ xs) ys p q h = (both xs p.0 h.0, differ-append xs ys p.1 q h.1)
  where
    both : (zs : List (List ℤ)) → AllOf zs (λ y. same_ints x y ≡ false) → AllOf ys (λ y. same_ints x y ≡ false) → AllOf (zs ++ ys) (λ y. same_ints x y ≡ false)
    both [] a b = b
    both (z ∷ zs) a b = (a.0, both zs a.1 b)

heads-same : (k : ℤ) (p q : List ℤ) → same_ints (k ∷ p) (k ∷ q) ≡ same_ints p q
heads-same k p q = ap (λ o. is_eq (ordering_then o (order_ints p q))) (equal-of (int_cmp k k) (same_int-itself k))

-- Index lists that begin with two numbers differ.
pub heads-differ : (k j : ℤ) (p q : List ℤ) → same_int k j ≡ false → same_ints (k ∷ p) (j ∷ q) ≡ false
heads-differ k j p q e = go (int_cmp k j) e
  where
    go : (o : Ordering) → is_eq o ≡ false → is_eq (ordering_then o (order_ints p q)) ≡ false
    go Less e = refl
    go Equal e = cc
    go Greater e = refl

differ-cons : (k : ℤ) (ls : List (List ℤ)) → PlacesDiffer ls → PlacesDiffer (map (λ l. k ∷ l) ls)
differ-cons k [] h = tt
differ-cons k (l ∷ ls) h = (all-of-under (λ l. k ∷ l) ls (λ q. same_ints (k ∷ l) q ≡ false) (all-of-map ls (λ q. same_ints l q ≡ false) (λ q. same_ints (k ∷ l) (k ∷ q) ≡ false) (λ q e. heads-same k l q ∙ e) h.0), differ-cons k ls h.1)

-- lists with a head of ks differ from one with another head
heads-apart : (k : ℤ) (p : List ℤ) (ks : List ℤ) (ls : List (List ℤ)) → EachOf ks (λ j. same_int k j ≡ false) → AllOf (add_heads ks ls) (λ q. same_ints (k ∷ p) q ≡ false)
heads-apart k p [] ls h = tt
heads-apart k p (j ∷ ks) ls h = go ls (heads-apart k p ks ls h.1)
  where
    go : (ms : List (List ℤ)) → AllOf (add_heads ks ls) (λ q. same_ints (k ∷ p) q ≡ false) → AllOf (map (λ l. j ∷ l) ms ++ add_heads ks ls) (λ q. same_ints (k ∷ p) q ≡ false)
    go [] r = r
    go (m ∷ ms) r = (heads-differ k j p m h.0, go ms r)

-- Places over axes without repeats differ.
pub places-differ : (as' : Axes) → AxesDiffer as' → PlacesDiffer (lists_of as')
places-differ [] d = (tt, tt)
places-differ (a ∷ as') d = go a d.0 (places-differ as' d.1)
  where
    go : (ks : List ℤ) → NumbersDiffer ks → PlacesDiffer (lists_of as') → PlacesDiffer (add_heads ks (lists_of as'))
    go [] n ih = tt
    go (k ∷ ks) n ih = differ-append (map (λ l. k ∷ l) (lists_of as')) (add_heads ks (lists_of as')) (differ-cons k (lists_of as') ih) (go ks n.1 ih) (each (lists_of as'))
      where
        each : (ms : List (List ℤ)) → AllOf (map (λ l. k ∷ l) ms) (λ x. AllOf (add_heads ks (lists_of as')) (λ y. same_ints x y ≡ false))
        each [] = tt
        each (m ∷ ms) = (heads-apart k m ks (lists_of as') n.0, each ms)

-- ---- index lists are places

any-append : (f : List ℤ → Bool) (xs ys : List (List ℤ)) → list_any f (xs ++ ys) ≡ list_any f xs || list_any f ys
any-append f [] ys = refl
any-append f (x ∷ xs) ys = ap (λ b. f x || b) (any-append f xs ys) ∙ or-assoc (f x) (list_any f xs) (list_any f ys)
  where
    or-assoc : (a b c : Bool) → a || (b || c) ≡ (a || b) || c
    or-assoc true b c = refl
    or-assoc false b c = refl

-- An index list is a place where it has a member of each axis.
pub any-place : (as' : Axes) (js : List ℤ) → list_any (λ p. same_ints p js) (lists_of as') ≡ is_index as' js
any-place [] [] = refl
any-place [] (j ∷ js) = refl
any-place (a ∷ as') [] = none a (lists_of as')
  where
    none : (ks : List ℤ) (ls : List (List ℤ)) → list_any (λ p. same_ints p []) (add_heads ks ls) ≡ false
    none [] ls = refl
    none (k ∷ ks) ls = go ls (none ks ls)
      where
        go : (ms : List (List ℤ)) → list_any (λ p. same_ints p []) (add_heads ks ls) ≡ false → list_any (λ p. same_ints p []) (map (λ l. k ∷ l) ms ++ add_heads ks ls) ≡ false
        go [] r = r
        go (m ∷ ms) r = go ms r
any-place (a ∷ as') (j ∷ js) = go a (any-place as' js)
  where
    one : (k : ℤ) (ms : List (List ℤ)) (b : Bool) → same_int k j ≡ b → list_any (λ p. same_ints p (j ∷ js)) (map (λ l. k ∷ l) ms) ≡ b && list_any (λ p. same_ints p js) ms
    one k [] true e = refl
    one k [] false e = refl
    one k (m ∷ ms) true e = ap (λ b. b || list_any (λ p. same_ints p (j ∷ js)) (map (λ l. k ∷ l) ms)) (ap (λ i. same_ints (i ∷ m) (j ∷ js)) (same_int-equal k j e) ∙ heads-same j m js) ∙ ap (λ b. same_ints m js || b) (one k ms true e)
    one k (m ∷ ms) false e = ap (λ b. b || list_any (λ p. same_ints p (j ∷ js)) (map (λ l. k ∷ l) ms)) (heads-differ k j m js e) ∙ one k ms false e

    go : (ks : List ℤ) → list_any (λ p. same_ints p js) (lists_of as') ≡ is_index as' js → list_any (λ p. same_ints p (j ∷ js)) (add_heads ks (lists_of as')) ≡ list_any (same_int j) ks && is_index as' js
    go [] ih = refl
    go (k ∷ ks) ih =
        any-append (λ p. same_ints p (j ∷ js)) (map (λ l. k ∷ l) (lists_of as')) (add_heads ks (lists_of as'))
        ∙ ap (λ b. b || list_any (λ p. same_ints p (j ∷ js)) (add_heads ks (lists_of as'))) (one k (lists_of as') (same_int k j) refl ∙ ap (λ b. same_int k j && b) ih)
        ∙ ap (λ b. (same_int k j && is_index as' js) || b) (go ks ih)
        ∙ ap (λ b. (b && is_index as' js) || (list_any (same_int j) ks && is_index as' js)) (same_int-turned k j)
        ∙ spread (same_int j k) (list_any (same_int j) ks) (is_index as' js)
      where
        spread : (a b c : Bool) → (a && c) || (b && c) ≡ (a || b) && c
        spread true true true = refl
        spread true true false = refl
        spread true false true = refl
        spread true false false = refl
        spread false b c = refl

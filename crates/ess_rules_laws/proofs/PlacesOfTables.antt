-- A table has a cell only at the places over its axes.
use Rattle.std.proofs.Common.{◌≡◌, refl, sym, ap, ◌∙◌, Bool, true, false, ◌||◌, if◌then◌else◌, ℕ, List, [], ◌∷◌, ◌++◌, map, take, drop, length, ℤ, Option, Some, None}
use Rattle.std.specs.List.{list_any}
use Rattle.ess_semantics.specs.Lists.{and_then}
use Rattle.ess_semantics.specs.Values.{Value}
use Rattle.ess_semantics.specs.Order.{same_int, same_ints}
use Rattle.ess_semantics.specs.Collections.{holds}
use Rattle.ess_semantics.specs.Domains.{add_heads, lists_of}
use Rattle.ess_semantics.specs.Tables.{Table, volume, chunk, item_in, cell_at, same_axes}
use Rattle.ess_semantics.specs.Cells.{Axes}
use Rattle.ess_semantics.proofs.Tests.{and-left, and-right}
use Rattle.ess_semantics.proofs.Orders.{same_int-equal, same_ints-equal, same_ints-itself, same-itself}

no : {A : Type 0} → false ≡ true → A
no h = cc

-- Whether an index list is one of these.
abbrev pub listed_in : List ℤ → List (List ℤ) → Bool
listed_in j ls = list_any (same_ints j) ls

or-left : (b c : Bool) → b ≡ true → b || c ≡ true
or-left true c h = refl
or-left false c h = no h

or-right : (b c : Bool) → c ≡ true → b || c ≡ true
or-right true c h = refl
or-right false c h = h

any-append-left : (j : List ℤ) (ls ms : List (List ℤ)) → listed_in j ls ≡ true → listed_in j (ls ++ ms) ≡ true
any-append-left j [] ms h = no h
any-append-left j (l ∷ ls) ms h = go (same_ints j l) h (λ z. any-append-left j ls ms z)
  where
    go : (b : Bool) → b || listed_in j ls ≡ true → (listed_in j ls ≡ true → listed_in j (ls ++ ms) ≡ true) →
        b || listed_in j (ls ++ ms) ≡ true
    go true h r = refl
    go false h r = r h

any-append-right : (j : List ℤ) (ls ms : List (List ℤ)) → listed_in j ms ≡ true → listed_in j (ls ++ ms) ≡ true
any-append-right j [] ms h = h
any-append-right j (l ∷ ls) ms h = or-right (same_ints j l) _ (any-append-right j ls ms h)

any-head : (k : ℤ) (j : List ℤ) (ls : List (List ℤ)) → listed_in j ls ≡ true → listed_in (k ∷ j) (map (λ l. k ∷ l) ls) ≡ true
any-head k j [] h = no h
any-head k j (l ∷ ls) h = go (same_ints j l) refl h (λ z. any-head k j ls z)
  where
    go : (b : Bool) → same_ints j l ≡ b → b || listed_in j ls ≡ true →
        (listed_in j ls ≡ true → listed_in (k ∷ j) (map (λ l. k ∷ l) ls) ≡ true) →
        same_ints (k ∷ j) (k ∷ l) || listed_in (k ∷ j) (map (λ l. k ∷ l) ls) ≡ true
    go true s h r = or-left _ _ (ap (λ z. same_ints (k ∷ j) (k ∷ z)) (sym (same_ints-equal j l s)) ∙ same_ints-itself (k ∷ j))
    go false s h r = or-right (same_ints (k ∷ j) (k ∷ l)) _ (r h)

-- A member of the first axis in front of a place over the others.
any-heads : (k : ℤ) (j a : List ℤ) (ls : List (List ℤ)) → list_any (λ x. same_int x k) a ≡ true → listed_in j ls ≡ true →
    listed_in (k ∷ j) (add_heads a ls) ≡ true
any-heads k j [] ls h g = no h
any-heads k j (x ∷ a) ls h g = go (same_int x k) refl h (λ z. any-heads k j a ls z g)
  where
    go : (b : Bool) → same_int x k ≡ b → b || list_any (λ x. same_int x k) a ≡ true →
        (list_any (λ x. same_int x k) a ≡ true → listed_in (k ∷ j) (add_heads a ls) ≡ true) →
        listed_in (k ∷ j) (map (λ l. x ∷ l) ls ++ add_heads a ls) ≡ true
    go true s h r = any-append-left (k ∷ j) (map (λ l. x ∷ l) ls) (add_heads a ls)
        (ap (λ z. listed_in (k ∷ j) (map (λ l. z ∷ l) ls)) (same_int-equal x k s) ∙ any-head k j ls g)
    go false s h r = any-append-right (k ∷ j) (map (λ l. x ∷ l) ls) (add_heads a ls) (r h)

chunk-in : (a : List ℤ) (v : ℕ) (is : List ℤ) (k : ℤ) (c : List ℤ) → chunk a v is k ≡ Some c → list_any (λ x. same_int x k) a ≡ true
chunk-in [] v is k c q = cc
chunk-in (x ∷ a) v is k c q = go (same_int x k) q (λ z. chunk-in a v (drop v is) k c z)
  where
    go : (b : Bool) → (if b then Some (take v is) else chunk a v (drop v is) k) ≡ Some c →
        (chunk a v (drop v is) k ≡ Some c → list_any (λ x. same_int x k) a ≡ true) → b || list_any (λ x. same_int x k) a ≡ true
    go true q r = refl
    go false q r = r q

-- An item stands at a place over the axes.
item-place : (as' : Axes) (is j : List ℤ) (z : ℤ) → item_in as' is j ≡ Some z → listed_in j (lists_of as') ≡ true
item-place [] is [] z q = refl
item-place [] is (k ∷ j) z q = cc
item-place (a ∷ as') is [] z q = cc
item-place (a ∷ as') is (k ∷ j) z q = go (chunk a (volume as') is k) refl q (λ c e. item-place as' c j z e)
  where
    go : (o : Option (List ℤ)) → chunk a (volume as') is k ≡ o → and_then o (λ c. item_in as' c j) ≡ Some z →
        ((c : List ℤ) → item_in as' c j ≡ Some z → listed_in j (lists_of as') ≡ true) → listed_in (k ∷ j) (lists_of (a ∷ as')) ≡ true
    go None e q r = cc
    go (Some c) e q r = any-heads k j a (lists_of as') (chunk-in a (volume as') is k c e) (r c q)

axes-equal : (xs ys : Axes) → same_axes xs ys ≡ true → xs ≡ ys
axes-equal [] [] h = refl
axes-equal [] (y ∷ ys) h = no h
axes-equal (x ∷ xs) [] h = no h
axes-equal (x ∷ xs) (y ∷ ys) h = ap (λ z. z ∷ xs) (same_ints-equal x y (and-left _ _ h))
    ∙ ap (λ l. y ∷ l) (axes-equal xs ys (and-right _ _ h))

behind-place : (as' axes : Axes) (is i j : List ℤ) (z : ℤ) → same_axes (drop (length i) as') axes ≡ true →
    item_in as' is (i ++ j) ≡ Some z →
    listed_in j (lists_of axes) ≡ true
behind-place as' axes is [] j z h q = ap (λ l. listed_in j (lists_of l)) (sym (axes-equal as' axes h)) ∙ item-place as' is j z q
behind-place [] axes is (k ∷ i) j z h q = cc
behind-place (a ∷ as') axes is (k ∷ i) j z h q = go (chunk a (volume as') is k) q (λ c e. behind-place as' axes c i j z h e)
  where
    go : (o : Option (List ℤ)) → and_then o (λ c. item_in as' c (i ++ j)) ≡ Some z →
        ((c : List ℤ) → item_in as' c (i ++ j) ≡ Some z → listed_in j (lists_of axes) ≡ true) → listed_in j (lists_of axes) ≡ true
    go None q r = cc
    go (Some c) q r = r c q

-- A cell behind an index list stands at a place over the other axes.
pub cell-place : (t : Table) (axes : Axes) (i j : List ℤ) (z : ℤ) → same_axes (drop (length i) t.axes) axes ≡ true →
    cell_at t (i ++ j) ≡ Some z → listed_in j (lists_of axes) ≡ true
cell-place t axes i j z h q = behind-place t.axes axes t.items i j z h q

-- A place that is an index of a member.
pub place-member : (index : Value → List ℤ) (j : List ℤ) (us : List Value) → listed_in j (map index us) ≡ true →
    (u : Value) × (holds us u ≡ true) × (index u ≡ j)
place-member index j [] h = no h
place-member index j (u ∷ us) h = go (same_ints j (index u)) refl h (λ z. place-member index j us z)
  where
    go : (b : Bool) → same_ints j (index u) ≡ b → b || listed_in j (map index us) ≡ true →
        (listed_in j (map index us) ≡ true → (v : Value) × (holds us v ≡ true) × (index v ≡ j)) →
        (v : Value) × (holds (u ∷ us) v ≡ true) × (index v ≡ j)
    go true s h r = (u, or-left _ _ (same-itself u), sym (same_ints-equal j (index u) s))
    go false s h r = let t = r h in (t.0, or-right _ _ t.1, t.2)

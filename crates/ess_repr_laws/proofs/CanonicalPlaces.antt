-- Layers whose places are all in use, in an order of their own: the children's values decide their rows, are members, and
-- are orderly, where the children are right.
use Rattle.std.proofs.Common.{◌≡◌, refl, sym, ap, ◌∙◌, Bool, true, ◌&&◌, ◌||◌, List, [], ◌∷◌, ◌++◌, map, take, drop, length, ℤ, Option, Some, None, option_map, nat_eq, subst}
use Rattle.std.specs.List.{list_all}
use Rattle.ess_semantics.specs.Lists.{and_then, each_of, is_some_and}
use Rattle.ess_semantics.specs.Values.{Value}
use Rattle.ess_semantics.specs.Trees.{Repr, Reprs, no_reprs, more_reprs}
use Rattle.ess_semantics.specs.Domains.{Domain, add_heads, lists_of}
use Rattle.ess_semantics.specs.Membership.{member}
use Rattle.ess_semantics.specs.Cells.{Cells, Axes, behind, are_zero, rows}
use Rattle.ess_semantics.specs.Layers.{Layer, plain_layer}
use Rattle.ess_semantics.specs.Representations.{width, value_of_cells, values_of_children}
use Rattle.ess_semantics.specs.Declarations.{axes_of}
use Rattle.ess_semantics.specs.CanonicalTest.{child_is_canonical, children_are_canonical, canonical}
use Rattle.ess_semantics.specs.Tidy.{is_orderly, are_orderly}
use Rattle.ess_repr_laws.specs.CanonicalTables.{Right}
use Rattle.ess_semantics.proofs.Tests.{and-left, and-right, and-both}
use Rattle.ess_repr_laws.proofs.RowsOfCells.{EachOf, EachIndex, axes_of_children, rows-under}
use Rattle.ess_repr_laws.proofs.CanonicalParts.{child-long, rows-of-child}

-- Each representation is right over its domain.
abbrev pub AllRight : Reprs → List Domain → Type 0
AllRight no_reprs [] = Unit {0}
AllRight (more_reprs r rs) (d ∷ ds) = Right r d × AllRight rs ds
AllRight _ _ = ⊥

-- ---- of each item of a list

-- P holds of each item.
abbrev pub AllOf : {A : Type 0} → List A → (A → Type 0) → Type 0
AllOf [] P = Unit {0}
AllOf (x ∷ xs) P = P x × AllOf xs P

-- A test of each item.
pub all-of-list : {A : Type 0} (xs : List A) (f : A → Bool) → list_all f xs ≡ true → AllOf xs (λ x. f x ≡ true)
all-of-list [] f e = tt
all-of-list (x ∷ xs) f e = (and-left (f x) (list_all f xs) e, all-of-list xs f (and-right (f x) (list_all f xs) e))

-- And the other way round.
pub list-of-all : {A : Type 0} (xs : List A) (f : A → Bool) → AllOf xs (λ x. f x ≡ true) → list_all f xs ≡ true
list-of-all [] f h = refl
list-of-all (x ∷ xs) f h = and-both (f x) (list_all f xs) h.0 (list-of-all xs f h.1)

-- What holds of an item gives something else of it.
pub all-of-map : {A : Type 0} (xs : List A) (P Q : A → Type 0) → ((x : A) → P x → Q x) → AllOf xs P → AllOf xs Q
all-of-map [] P Q f h = tt
all-of-map (x ∷ xs) P Q f h = (f x h.0, all-of-map xs P Q f h.1)

-- Two things that hold of an item.
pub all-of-both : {A : Type 0} (xs : List A) (P Q R : A → Type 0) → ((x : A) → P x → Q x → R x) → AllOf xs P → AllOf xs Q → AllOf xs R
all-of-both [] P Q R f h i = tt
all-of-both (x ∷ xs) P Q R f h i = (f x h.0 i.0, all-of-both xs P Q R f h.1 i.1)

all-of-left : {A B : Type 0} (g : A → B) (xs : List A) (ys : List B) (P : B → Type 0) → AllOf (map g xs ++ ys) P → AllOf xs (λ x. P (g x)) × AllOf ys P
all-of-left g [] ys P h = (tt, h)
all-of-left g (x ∷ xs) ys P h = let r = all-of-left g xs ys P h.1 in ((h.0, r.0), r.1)

-- What holds of each place holds of each index list.
pub places-index : (bs : Axes) (P : List ℤ → Type 0) → AllOf (lists_of bs) P → EachIndex bs P
places-index [] P h = h.0
places-index (b ∷ bs) P h = heads b (λ Q. places-index bs Q) h
  where
    heads : (ks : List ℤ) → ((Q : List ℤ → Type 0) → AllOf (lists_of bs) Q → EachIndex bs Q) → AllOf (add_heads ks (lists_of bs)) P → EachOf ks (λ k. EachIndex bs (λ js. P (k ∷ js)))
    heads [] f h = tt
    heads (k ∷ ks) f h = let r = all-of-left (λ l. k ∷ l) (lists_of bs) (add_heads ks (lists_of bs)) P h in (f (λ js. P (k ∷ js)) r.0, heads ks f r.1)

-- ---- values at places

-- Answers that are one list are one by one the same.
pub values-same : {A : Type 0} (js : List A) (f g : A → Option Value) (vs : List Value) → each_of js f ≡ Some vs → each_of js g ≡ Some vs → AllOf js (λ j. f j ≡ g j)
values-same [] f g vs p q = tt
values-same (j ∷ js) f g vs p q = go (f j) (g j) (each_of js f) (each_of js g) refl refl refl refl p q (λ zs. values-same js f g zs)
  where
    go : (x y : Option Value) (xs ys : Option (List Value)) → f j ≡ x → g j ≡ y → each_of js f ≡ xs → each_of js g ≡ ys →
        and_then x (λ v. option_map (λ l. v ∷ l) xs) ≡ Some vs → and_then y (λ v. option_map (λ l. v ∷ l) ys) ≡ Some vs →
        ((zs : List Value) → each_of js f ≡ Some zs → each_of js g ≡ Some zs → AllOf js (λ j. f j ≡ g j)) → (f j ≡ g j) × AllOf js (λ j. f j ≡ g j)
    go None y xs ys a b c d p q ih = cc
    go (Some v) None xs ys a b c d p q ih = cc
    go (Some v) (Some w) None ys a b c d p q ih = cc
    go (Some v) (Some w) (Some zs) None a b c d p q ih = cc
    go (Some v) (Some w) (Some zs) (Some us) a b c d p q ih =
        let e : v ∷ zs ≡ w ∷ us = let u : Some (v ∷ zs) ≡ Some (w ∷ us) = p ∙ sym q in cc in
        let vw : v ≡ w = cc in let zu : zs ≡ us = cc in
        (a ∙ ap Some vw ∙ sym b, ih zs c (d ∙ ap Some (sym zu)))

-- A test of each answer.
pub values-all : {A : Type 0} (js : List A) (f : A → Option Value) (g : Value → Bool) (vs : List Value) → each_of js f ≡ Some vs → AllOf js (λ j. (v : Value) → f j ≡ Some v → g v ≡ true) → list_all g vs ≡ true
values-all [] f g vs p h = let q : [] ≡ vs = cc in ap (list_all g) (sym q)
values-all (j ∷ js) f g vs p h = go (f j) (each_of js f) refl refl p (λ zs q. values-all js f g zs q h.1)
  where
    go : (o : Option Value) (c : Option (List Value)) → f j ≡ o → each_of js f ≡ c → and_then o (λ y. option_map (λ ys. y ∷ ys) c) ≡ Some vs → ((zs : List Value) → each_of js f ≡ Some zs → list_all g zs ≡ true) → list_all g vs ≡ true
    go None c x y e r = cc
    go (Some v) None x y e r = cc
    go (Some v) (Some zs) x y e r = let w : v ∷ zs ≡ vs = cc in ap (list_all g) (sym w) ∙ and-both (g v) (list_all g zs) (h.0 v x) (r zs y)

-- the values of a first child and of the others
pub record FirstChild (r : Repr) (d : Domain) (rs : Reprs) (ds : List Domain) (c : Cells) (js : List (List ℤ)) (vss : List (List Value)) : Type 0 where
  pub vs : List Value
  pub others : List (List Value)
  pub whole : vss ≡ vs ∷ others
  pub values : each_of js (λ j. value_of_cells r d (behind j (take (width r) c))) ≡ Some vs
  pub rest : values_of_children rs ds (drop (width r) c) js ≡ Some others

-- The first child's values and those of the others.
pub first-child : (r : Repr) (d : Domain) (rs : Reprs) (ds : List Domain) (c : Cells) (js : List (List ℤ)) (vss : List (List Value)) →
    values_of_children (more_reprs r rs) (d ∷ ds) c js ≡ Some vss → FirstChild r d rs ds c js vss
first-child r d rs ds c js vss q = go (each_of js (λ j. value_of_cells r d (behind j (take (width r) c)))) (values_of_children rs ds (drop (width r) c) js) refl refl q
  where
    go : (o : Option (List Value)) (p : Option (List (List Value))) → each_of js (λ j. value_of_cells r d (behind j (take (width r) c))) ≡ o → values_of_children rs ds (drop (width r) c) js ≡ p →
        and_then o (λ vs. option_map (λ vss. vs ∷ vss) p) ≡ Some vss → FirstChild r d rs ds c js vss
    go None p a b q = cc
    go (Some vs) None a b q = cc
    go (Some vs) (Some os) a b q = record { vs = vs; others = os; whole = sym (let z : vs ∷ os ≡ vss = cc in z); values = a; rest = b }

-- ---- all places in use

-- f builds the value, g is what else is asked; the layer has no table of its own
module _ (ds : List Domain) (bs : Axes) (f : Cells → List (List Value) → Option Value) (t : Value → List (List (Option Value))) (g : Cells → List (List Value) → Bool) where
  -- A layer with all places in use.
  abbrev pub all_places : Layer
  all_places = record (plain_layer f) { children = ds; axes = bs; contents = t; is_canonical = g }

  -- a child's cells are canonical at each place
  pub place-canonical : (own : Cells) (ass : List Axes) (p : Cells → Bool) (c : Cells) → child_is_canonical all_places own ass p c ≡ true → AllOf (lists_of bs) (λ js. p (behind js c) ≡ true)
  place-canonical own ass p c h =
      all-of-list (lists_of bs) (λ js. p (behind js c))
      (and-right (nat_eq (length c) (length ass)) (list_all (λ js. p (behind js c)) (lists_of bs))
      (and-left (nat_eq (length c) (length ass) && list_all (λ js. p (behind js c)) (lists_of bs)) true
      (and-left (nat_eq (length c) (length ass) && list_all (λ js. p (behind js c)) (lists_of bs) && true) (list_all (λ js. true || are_zero ass (behind js c)) (lists_of bs)) h)))

  -- Children with the same values have the same rows.
  pub children-once : (own own' : Cells) (rs : Reprs) (es : List Domain) → AllRight rs es → (c c' : Cells) (vss : List (List Value)) →
      children_are_canonical all_places own rs es c ≡ true → children_are_canonical all_places own' rs es c' ≡ true →
      values_of_children rs es c (lists_of bs) ≡ Some vss → values_of_children rs es c' (lists_of bs) ≡ Some vss → rows (axes_of_children rs es bs) c ≡ rows (axes_of_children rs es bs) c'
  children-once own own' no_reprs [] a c c' vss h h' q q' = none c ∙ sym (none c')
    where
      none : (c : Cells) → rows [] c ≡ []
      none [] = refl
      none (f ∷ fs) = refl
  children-once own own' no_reprs (e ∷ es) a c c' vss h h' q q' = absurd a
  children-once own own' (more_reprs r rs) [] a c c' vss h h' q q' = absurd a
  children-once own own' (more_reprs r rs) (e ∷ es) a c c' vss h h' q q' =
      let x = first-child r e rs es c (lists_of bs) vss q in
      let y = first-child r e rs es c' (lists_of bs) vss q' in
      let w : x.vs ∷ x.others ≡ y.vs ∷ y.others = sym x.whole ∙ y.whole in
      let vv : y.vs ≡ x.vs = cc in
      let oo : y.others ≡ x.others = cc in
      let hc = and-left (child_is_canonical all_places own (axes_of r e) (canonical r e) (take (width r) c)) (children_are_canonical all_places own rs es (drop (width r) c)) h in
      let hc' = and-left (child_is_canonical all_places own' (axes_of r e) (canonical r e) (take (width r) c')) (children_are_canonical all_places own' rs es (drop (width r) c')) h' in
      let l = child-long all_places own (axes_of r e) (canonical r e) (take (width r) c) hc in
      let l' = child-long all_places own' (axes_of r e) (canonical r e) (take (width r) c') hc' in
      let eqs = values-same (lists_of bs) (λ j. value_of_cells r e (behind j (take (width r) c))) (λ j. value_of_cells r e (behind j (take (width r) c'))) x.vs x.values (y.values ∙ ap Some vv) in
      let right = a.0 in
      let agree = places-index bs (λ js. rows (axes_of r e) (behind js (take (width r) c)) ≡ rows (axes_of r e) (behind js (take (width r) c')))
      (all-of-both (lists_of bs) (λ js. (canonical r e (behind js (take (width r) c)) ≡ true) × (canonical r e (behind js (take (width r) c')) ≡ true)) (λ js. value_of_cells r e (behind js (take (width r) c)) ≡ value_of_cells r e (behind js (take (width r) c')))
      (λ js. rows (axes_of r e) (behind js (take (width r) c)) ≡ rows (axes_of r e) (behind js (take (width r) c')))
      (λ js p s. right.unique (behind js (take (width r) c)) (behind js (take (width r) c')) p.0 p.1 s)
      (all-of-both (lists_of bs) (λ js. canonical r e (behind js (take (width r) c)) ≡ true) (λ js. canonical r e (behind js (take (width r) c')) ≡ true) (λ js. (canonical r e (behind js (take (width r) c)) ≡ true) × (canonical r e (behind js (take (width r) c')) ≡ true)) (λ js p s. (p, s))
      (place-canonical own (axes_of r e) (canonical r e) (take (width r) c) hc) (place-canonical own' (axes_of r e) (canonical r e) (take (width r) c') hc')) eqs) in
      rows-of-child r e rs es bs c l
      ∙ ap (λ z. z ++ rows (axes_of_children rs es bs) (drop (width r) c)) (rows-under bs (axes_of r e) (take (width r) c) (take (width r) c') l l' agree)
      ∙ ap (λ z. rows (map (λ as'. bs ++ as') (axes_of r e)) (take (width r) c') ++ z)
      (children-once own own' rs es a.1 (drop (width r) c) (drop (width r) c') x.others
      (and-right (child_is_canonical all_places own (axes_of r e) (canonical r e) (take (width r) c)) (children_are_canonical all_places own rs es (drop (width r) c)) h)
      (and-right (child_is_canonical all_places own' (axes_of r e) (canonical r e) (take (width r) c')) (children_are_canonical all_places own' rs es (drop (width r) c')) h')
      x.rest (y.rest ∙ ap Some oo))
      ∙ sym (rows-of-child r e rs es bs c' l')

  -- each child's values are members of its domain
  abbrev pub AllMembers : List Domain → List (List Value) → Type 0
  AllMembers [] [] = Unit {0}
  AllMembers (e ∷ es) (vs ∷ vss) = (list_all (member e) vs ≡ true) × AllMembers es vss
  AllMembers _ _ = ⊥

  -- The values of its children are members.
  pub children-members : (own : Cells) (rs : Reprs) (es : List Domain) → AllRight rs es → (c : Cells) (vss : List (List Value)) →
      children_are_canonical all_places own rs es c ≡ true → values_of_children rs es c (lists_of bs) ≡ Some vss → AllMembers es vss
  children-members own no_reprs [] a c vss h q = go vss q
    where
      go : (vss : List (List Value)) → Some [] ≡ Some vss → AllMembers [] vss
      go [] q = tt
      go (vs ∷ vss) q = cc
  children-members own no_reprs (e ∷ es) a c vss h q = absurd a
  children-members own (more_reprs r rs) [] a c vss h q = absurd a
  children-members own (more_reprs r rs) (e ∷ es) a c vss h q =
      let x = first-child r e rs es c (lists_of bs) vss q in
      let hc = and-left (child_is_canonical all_places own (axes_of r e) (canonical r e) (take (width r) c)) (children_are_canonical all_places own rs es (drop (width r) c)) h in
      let right = a.0 in
      go vss x.whole
      (values-all (lists_of bs) (λ j. value_of_cells r e (behind j (take (width r) c))) (member e) x.vs x.values
      (all-of-map (lists_of bs) (λ js. canonical r e (behind js (take (width r) c)) ≡ true) (λ js. (v : Value) → value_of_cells r e (behind js (take (width r) c)) ≡ Some v → member e v ≡ true)
      (λ js p v s. ap (λ o. is_some_and o (member e)) (sym s) ∙ and-left (is_some_and (value_of_cells r e (behind js (take (width r) c))) (member e)) (is_orderly r e (behind js (take (width r) c))) (right.tidies (behind js (take (width r) c)) p))
      (place-canonical own (axes_of r e) (canonical r e) (take (width r) c) hc)))
      (children-members own rs es a.1 (drop (width r) c) x.others (and-right (child_is_canonical all_places own (axes_of r e) (canonical r e) (take (width r) c)) (children_are_canonical all_places own rs es (drop (width r) c)) h) x.rest)
    where
      go : {vs : List Value} {others : List (List Value)} (vss : List (List Value)) → vss ≡ vs ∷ others → list_all (member e) vs ≡ true → AllMembers es others → AllMembers (e ∷ es) vss
      go {vs} {others} vss w p q = subst (AllMembers (e ∷ es)) (sym w) (p, q)

  -- Their cells are in order.
  pub children-orderly : (own : Cells) (rs : Reprs) (es : List Domain) → AllRight rs es → (c : Cells) →
      children_are_canonical all_places own rs es c ≡ true → are_orderly all_places rs es c (lists_of bs) ≡ true
  children-orderly own no_reprs [] a c h = refl
  children-orderly own no_reprs (e ∷ es) a c h = absurd a
  children-orderly own (more_reprs r rs) [] a c h = absurd a
  children-orderly own (more_reprs r rs) (e ∷ es) a c h =
      let hc = and-left (child_is_canonical all_places own (axes_of r e) (canonical r e) (take (width r) c)) (children_are_canonical all_places own rs es (drop (width r) c)) h in
      let right = a.0 in
      and-both (list_all (λ j. is_orderly r e (behind j (take (width r) c))) (lists_of bs) && true) (are_orderly all_places rs es (drop (width r) c) (lists_of bs))
      (and-both (list_all (λ j. is_orderly r e (behind j (take (width r) c))) (lists_of bs)) true
      (list-of-all (lists_of bs) (λ j. is_orderly r e (behind j (take (width r) c)))
      (all-of-map (lists_of bs) (λ js. canonical r e (behind js (take (width r) c)) ≡ true) (λ js. is_orderly r e (behind js (take (width r) c)) ≡ true)
      (λ js p. and-right (is_some_and (value_of_cells r e (behind js (take (width r) c))) (member e)) (is_orderly r e (behind js (take (width r) c))) (right.tidies (behind js (take (width r) c)) p))
      (place-canonical own (axes_of r e) (canonical r e) (take (width r) c) hc))) refl)
      (children-orderly own rs es a.1 (drop (width r) c) (and-right (child_is_canonical all_places own (axes_of r e) (canonical r e) (take (width r) c)) (children_are_canonical all_places own rs es (drop (width r) c)) h))

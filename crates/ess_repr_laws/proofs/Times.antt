-- How often the members of a multiset occur: repeated so they make it again, and the attributes say it of the numbers.
use Rattle.std.proofs.Common.{◌≡◌, refl, sym, ap, ◌∙◌, ℕ, zero, suc, ◌+◌, ◌*◌, ◌≤◌, Bool, true, false, ◌&&◌, ◌||◌, if◌then◌else◌, List, [], ◌∷◌, map, length, replicate, ℤ, pos, negsuc, Option, Some, None, is_some, IsTrue, int_le, arith, mul-suc, mul-le-mul_left, ◌⊎◌, inl, inr}
use Rattle.std.proofs.lemmas.Bool.{leb-true}
use Rattle.std.specs.List.{list_all}
use Rattle.std.specs.declared.cmp.Ordering.{Ordering}
use Rattle.std.specs.declared.cmp.Ordering.TheVariants.{Less, Equal, Greater}
use Rattle.ess_semantics.specs.declared.words.Key.{Key}
use Rattle.ess_semantics.specs.Lists.{or_else, or_default}
use Rattle.ess_semantics.specs.Values.{a_tuple, a_matrix, a_set, a_mset, a_function, a_relation, a_partition, a_record, Value, number, truth, item, node, to_list, of_list, itself}
use Rattle.ess_semantics.specs.Order.{order, same, same_int}
use Rattle.ess_semantics.specs.Collections.{holds, count, rises, rises_weakly, sorted, sorted_once, place, place_by}
use Rattle.ess_semantics.specs.Numbers.{natural}
use Rattle.ess_semantics.specs.Domains.{Attribute, numbered, flagged, Domain, msets, attribute}
use Rattle.ess_semantics.specs.Attributes.{size_holds, occurs_holds, each_number_holds, set_attributes_hold, mset_attributes_hold}
use Rattle.ess_semantics.specs.Membership.{member}
use Rattle.ess_semantics.specs.Sizes.{greatest_size, occurrences, bound, slots_of_mset}
use Rattle.ess_semantics.specs.Layers.{total, each_repeated}
use Rattle.ess_semantics.specs.MultisetLayers.{times_hold, counts_hold}
use Rattle.ess_repr_laws.specs.Finite.{Bounded, OccursBound}
use Rattle.ess_repr_laws.specs.Rooms.{MsetRoom}
use Rattle.ess_semantics.proofs.Tests.{and-left, and-right, and-both, or-yes}
use Rattle.ess_semantics.proofs.Orders.{same-equal, of_list-to_list}
use Rattle.ess_semantics.proofs.Sorting.{Distinct, sorted-of, sorted_once-rises, holds-sorted_once, all-sorted_once, all-holds}
use Rattle.ess_semantics.proofs.Multisets.{one-sorted-bag, sorted-rises, count-sorted, sorted-length, count-holds}
use Rattle.ess_semantics.proofs.Repeats.{count-append, count-replicate, sorted-distinct, repeated-weakly, of-weakly, repeated-length}
use Rattle.ess_repr_laws.proofs.Rooms.{attribute-said, greatest-is}
use Rattle.ess_repr_laws.proofs.CellsOfMembers.{map-long}

-- ---- counts

none-counted : (xs : List Value) (w : Value) → holds xs w ≡ false → count xs w ≡ 0
none-counted [] w h = refl
none-counted (x ∷ xs) w h = go (same x w) h (none-counted xs w)
  where
    go : (b : Bool) → b || holds xs w ≡ false → (holds xs w ≡ false → count xs w ≡ 0) → (if b then suc (count xs w) else count xs w) ≡ 0
    go true h ih = cc
    go false h ih = ih h

count-times : (xs zs : List Value) (w : Value) → Distinct zs → count (each_repeated (map (count xs) zs) zs) w ≡ (if holds zs w then count xs w else 0)
count-times xs [] w d = refl
count-times xs (z ∷ zs) w d = count-append (replicate (count xs z) z) (each_repeated (map (count xs) zs) zs) w ∙ go (same z w) refl (count-replicate (count xs z) z w) (count-times xs zs w d.1)
  where
    go : (b : Bool) → same z w ≡ b → count (replicate (count xs z) z) w ≡ (if same z w then count xs z else 0) → count (each_repeated (map (count xs) zs) zs) w ≡ (if holds zs w then count xs w else 0) →
        count (replicate (count xs z) z) w + count (each_repeated (map (count xs) zs) zs) w ≡ (if b || holds zs w then count xs w else 0)
    go true e p q =
        let zw : z ≡ w = same-equal z w e in
        let a : count (replicate (count xs z) z) w ≡ count xs w = p ∙ ap (λ b. if b then count xs z else 0) e ∙ ap (count xs) zw in
        let b : count (each_repeated (map (count xs) zs) zs) w ≡ 0 = q ∙ ap (λ b. if b then count xs w else 0) (ap (holds zs) (sym zw) ∙ d.0) in omega (arith, a, b)
    go false e p q =
        let a : count (replicate (count xs z) z) w ≡ 0 = p ∙ ap (λ b. if b then count xs z else 0) e in
        (let l : count (replicate (count xs z) z) w + count (each_repeated (map (count xs) zs) zs) w ≡ count (each_repeated (map (count xs) zs) zs) w = omega (arith, a) in l) ∙ q

-- zs has each item of xs
abbrev pub Among : List Value → List Value → Type 0
Among xs zs = (w : Value) → holds xs w ≡ true → holds zs w ≡ true

-- Members repeated as often as they occur occur as often.
pub counts-again : (xs zs : List Value) → Distinct zs → Among xs zs → (w : Value) → count (each_repeated (map (count xs) zs) zs) w ≡ count xs w
counts-again xs zs d inc w = count-times xs zs w d ∙ go (holds zs w) refl
  where
    none : (b : Bool) → holds xs w ≡ b → holds zs w ≡ false → holds xs w ≡ false
    none false e f = e
    none true e f = let z : true ≡ false = sym (inc w e) ∙ f in cc

    go : (b : Bool) → holds zs w ≡ b → (if b then count xs w else 0) ≡ count xs w
    go true e = refl
    go false e = sym (none-counted xs w (none (holds xs w) refl e))

-- Repeated as often as they occur, the items of a rising list make the multiset.
pub repeated-again : (xs zs : List Value) → rises_weakly xs ≡ true → rises itself zs ≡ true → Among xs zs → each_repeated (map (count xs) zs) zs ≡ xs
repeated-again xs zs w r inc =
    one-sorted-bag (each_repeated (map (count xs) zs) zs) xs (of-weakly (each_repeated (map (count xs) zs) zs) (repeated-weakly (map (count xs) zs) zs (sorted-of zs r))) w
    (counts-again xs zs (sorted-distinct zs (sorted-of zs r)) inc)

-- So do those of any list without repeats, once they are sorted.
pub sorted-again : (xs zs : List Value) → rises_weakly xs ≡ true → Distinct zs → Among xs zs → sorted (each_repeated (map (count xs) zs) zs) ≡ xs
sorted-again xs zs w d inc =
    one-sorted-bag (sorted (each_repeated (map (count xs) zs) zs)) xs (sorted-rises (each_repeated (map (count xs) zs) zs)) w
    (λ v. count-sorted (each_repeated (map (count xs) zs) zs) v ∙ counts-again xs zs d inc v)

-- The numbers of times sum up to the length.
pub total-again : (xs zs : List Value) → rises_weakly xs ≡ true → Distinct zs → Among xs zs → total (map pos (map (count xs) zs)) ≡ length xs
total-again xs zs w d inc =
    sym (repeated-length (map (count xs) zs) zs (map-long (count xs) zs)) ∙ sym (sorted-length (each_repeated (map (count xs) zs) zs)) ∙ ap length (sorted-again xs zs w d inc)

-- ---- attributes

-- Attributes hold where each gives one that does.
pub each-imply : (ks : List Attribute) (f f' : Key → ℤ → Bool) → ((k : Key) (n : ℤ) → f k n ≡ true → f' k n ≡ true) → each_number_holds ks f ≡ true → each_number_holds ks f' ≡ true
each-imply [] f f' i h = refl
each-imply (numbered k n ∷ ks) f f' i h = and-both (f' k n) (each_number_holds ks f') (i k n (and-left (f k n) (each_number_holds ks f) h)) (each-imply ks f f' i (and-right (f k n) (each_number_holds ks f) h))
each-imply (flagged k ∷ ks) f f' i h = each-imply ks f f' i h

-- what is asked of each member is asked of how often a value occurs
times-of : (k : Key) (n : ℤ) (xs : List Value) (z : Value) → occurs_holds k n xs ≡ true → times_hold k n (pos (count xs z)) ≡ true
times-of Key.MinOccur n xs z h = go (count xs z) refl
  where
    go : (m : ℕ) → count xs z ≡ m → same_int (pos m) (pos 0) || int_le n (pos m) ≡ true
    go zero e = refl
    go (suc m) e = ap (λ j. same_int (pos (suc m)) (pos 0) || int_le n (pos j)) (sym e) ∙ ap (λ b. same_int (pos (suc m)) (pos 0) || b) (all-holds (λ x. int_le n (pos (count xs x))) xs z h (count-holds xs z m e)) ∙ or-yes (same_int (pos (suc m)) (pos 0))
times-of Key.MaxOccur n xs z h = go (count xs z) refl
  where
    go : (m : ℕ) → count xs z ≡ m → same_int (pos m) (pos 0) || int_le (pos m) n ≡ true
    go zero e = refl
    go (suc m) e = ap (λ j. same_int (pos (suc m)) (pos 0) || int_le (pos j) n) (sym e) ∙ ap (λ b. same_int (pos (suc m)) (pos 0) || b) (all-holds (λ x. int_le (pos (count xs x)) n) xs z h (count-holds xs z m e)) ∙ or-yes (same_int (pos (suc m)) (pos 0))
times-of _ n xs z h = refl

-- The size of a multiset is as its attributes say.
pub set-part : (ks : List Attribute) (xs : List Value) → mset_attributes_hold ks xs ≡ true → set_attributes_hold ks (length xs) ≡ true
set-part ks xs h = each-imply ks (λ k n. size_holds k n (length xs) && occurs_holds k n xs) (λ k n. size_holds k n (length xs)) (λ k n e. and-left (size_holds k n (length xs)) (occurs_holds k n xs) e) h

-- So is how often members occur.
pub occurs-part : (ks : List Attribute) (xs : List Value) → mset_attributes_hold ks xs ≡ true → each_number_holds ks (λ k n. occurs_holds k n xs) ≡ true
occurs-part ks xs h = each-imply ks (λ k n. size_holds k n (length xs) && occurs_holds k n xs) (λ k n. occurs_holds k n xs) (λ k n e. and-right (size_holds k n (length xs)) (occurs_holds k n xs) e) h

-- What the attributes ask of the multiset they ask of the numbers of times.
pub counts-said : (ks : List Attribute) (xs zs : List Value) → rises_weakly xs ≡ true → Distinct zs → Among xs zs → mset_attributes_hold ks xs ≡ true → counts_hold ks (map pos (map (count xs) zs)) ≡ true
counts-said ks xs zs w d inc h =
    let ns : List ℤ = map pos (map (count xs) zs) in
    and-both (set_attributes_hold ks (total ns)) (each_number_holds ks (λ k n. list_all (times_hold k n) ns)) (ap (set_attributes_hold ks) (total-again xs zs w d inc) ∙ set-part ks xs h)
    (each-imply ks (λ k n. occurs_holds k n xs) (λ k n. list_all (times_hold k n) ns) (λ k n e. go k n e zs) (occurs-part ks xs h))
  where
    go : (k : Key) (n : ℤ) → occurs_holds k n xs ≡ true → (zs : List Value) → list_all (times_hold k n) (map pos (map (count xs) zs)) ≡ true
    go k n e [] = refl
    go k n e (z ∷ zs) = and-both (times_hold k n (pos (count xs z))) (list_all (times_hold k n) (map pos (map (count xs) zs))) (times-of k n xs z e) (go k n e zs)

-- ---- how often at most

count-most : (xs : List Value) (w : Value) → count xs w ≤ length xs
count-most [] w = omega arith
count-most (x ∷ xs) w = go (same x w) (count-most xs w)
  where
    go : (b : Bool) → count xs w ≤ length xs → (if b then suc (count xs w) else count xs w) ≤ suc (length xs)
    go true h = omega arith
    go false h = omega arith

-- No member occurs more often than the bound.
pub occurs-most : (ks : List Attribute) → OccursBound ks → (xs : List Value) → mset_attributes_hold ks xs ≡ true → (w : Value) → count xs w ≤ occurrences ks
occurs-most ks b xs h w = go (attribute Key.MaxOccur ks) refl b
  where
    sizes : (k : Key) (z : ℤ) → size_holds k z (length xs) && occurs_holds k z xs ≡ true → size_holds k z (length xs) ≡ true
    sizes k z e = and-left (size_holds k z (length xs)) (occurs_holds k z xs) e

    second : (o : Option ℕ) → greatest_size ks ≡ o → IsTrue (is_some o) → count xs w ≤ or_default o 0
    second None q b = cc
    second (Some n) q b = let g = greatest-is ks (λ k z. size_holds k z (length xs) && occurs_holds k z xs) (λ k. true) (length xs) n sizes h q in let c = count-most xs w in omega arith

    within : (z : ℤ) (n : ℕ) → natural z ≡ n → (c : ℕ) → count xs w ≡ c → occurs_holds Key.MaxOccur z xs ≡ true → count xs w ≤ n
    within z n e zero q t = omega (arith, q)
    within (pos a) n e (suc c) q t = let l : count xs w ≤ a = leb-true (count xs w) a (all-holds (λ x. int_le (pos (count xs x)) (pos a)) xs w t (count-holds xs w c q)) in let e' : a ≡ n = e in omega arith
    within (negsuc a) n e (suc c) q t = let f : false ≡ true = all-holds (λ x. false) xs w t (count-holds xs w c q) in cc

    go : (o : Option ℕ) → attribute Key.MaxOccur ks ≡ o → IsTrue (is_some (or_else o (greatest_size ks))) → count xs w ≤ or_default (or_else o (greatest_size ks)) 0
    go None q b = second (greatest_size ks) refl b
    go (Some n) q b =
        let r = attribute-said ks (λ k z. size_holds k z (length xs) && occurs_holds k z xs) (λ k. true) Key.MaxOccur n h q in
        within r.0 n r.1 (count xs w) refl (and-right (size_holds Key.MaxOccur r.0 (length xs)) (occurs_holds Key.MaxOccur r.0 xs) r.2)

-- without repeats a list is no longer
pub sorted_once-most : (xs : List Value) → length (sorted_once xs) ≤ length xs
sorted_once-most [] = omega arith
sorted_once-most (x ∷ xs) = let a = place-most x (sorted_once xs) in let b = sorted_once-most xs in omega (arith, a, b)
  where
    place-most : (v : Value) (xs : List Value) → length (place v xs) ≤ suc (length xs)
    place-most v [] = omega arith
    place-most v (x ∷ xs) = go (order v x) (place-most v xs)
      where
        go : (p : Ordering) → length (place v xs) ≤ suc (length xs) → length (place_by p v x xs (place v xs)) ≤ suc (suc (length xs))
        go Less h = omega arith
        go Equal h = omega arith
        go Greater h = omega arith

-- ---- slots

total-most : (xs zs : List Value) (m : ℕ) → ((w : Value) → count xs w ≤ m) → total (map pos (map (count xs) zs)) ≤ m * length zs
total-most xs [] m h = omega arith
total-most xs (z ∷ zs) m h = let a = h z in let b = total-most xs zs m h in let c = mul-suc m (length zs) in omega (arith, a, b, c)

-- what membership of a multiset says
pub record MsetMember (ks : List Attribute) (d : Domain) (xs : List Value) : Type 0 where
  pub rise : rises_weakly xs ≡ true
  pub inside : list_all (member d) xs ≡ true
  pub attributes : mset_attributes_hold ks xs ≡ true

-- A member of a domain of multisets is a multiset of such members.
pub mset-member : (ks : List Attribute) (d : Domain) (v : Value) → member (msets ks d) v ≡ true → (xs : List Value) × (v ≡ node a_mset (of_list xs)) × MsetMember ks d xs
mset-member ks d (node a_mset vs) h = (
  to_list vs,
  ap (λ w. node a_mset w) (sym (of_list-to_list vs)),
  record {
    rise = and-left (rises_weakly (to_list vs)) (list_all (member d) (to_list vs)) (and-left (rises_weakly (to_list vs) && list_all (member d) (to_list vs)) (mset_attributes_hold ks (to_list vs)) h);
    inside = and-right (rises_weakly (to_list vs)) (list_all (member d) (to_list vs)) (and-left (rises_weakly (to_list vs) && list_all (member d) (to_list vs)) (mset_attributes_hold ks (to_list vs)) h);
    attributes = and-right (rises_weakly (to_list vs) && list_all (member d) (to_list vs)) (mset_attributes_hold ks (to_list vs)) h;
  },
)
mset-member ks d (number n) h = cc
mset-member ks d (truth b) h = cc
mset-member ks d (item t k) h = cc
mset-member ks d (node a_tuple vs) h = cc
mset-member ks d (node a_matrix vs) h = cc
mset-member ks d (node a_set vs) h = cc
mset-member ks d (node a_function vs) h = cc
mset-member ks d (node a_relation vs) h = cc
mset-member ks d (node a_partition vs) h = cc
mset-member ks d (node (a_record fs) vs) h = cc

-- A list is among its sorted items.
pub among-sorted_once : (xs : List Value) → Among xs (sorted_once xs)
among-sorted_once xs w h = holds-sorted_once xs w ∙ h

-- The slots of a multiset are enough for its members.
pub mset-room : (ks : List Attribute) (d : Domain) → MsetRoom ks d → (xs : List Value) → MsetMember ks d xs → length xs ≤ slots_of_mset ks d
mset-room ks d room xs m = go (greatest_size ks) refl room.1
  where
    go : (o : Option ℕ) → greatest_size ks ≡ o → IsTrue (is_some o) ⊎ Bounded d → length xs ≤ or_default o (occurrences ks * bound d)
    go None q (inl s) = cc
    go None q (inr b) =
        let t = total-most xs (sorted_once xs) (occurrences ks) (occurs-most ks room.0 xs m.attributes) in
        let a = total-again xs (sorted_once xs) m.rise (sorted-distinct (sorted_once xs) (sorted-of (sorted_once xs) (sorted_once-rises xs))) (among-sorted_once xs) in
        let c : length (sorted_once xs) ≤ bound d = b (sorted_once xs) (sorted_once-rises xs) (all-sorted_once (member d) xs ∙ m.inside) in
        let e = mul-le-mul_left (occurrences ks) c in omega (arith, t, a, e)
    go (Some n) q s = greatest-is ks (λ k z. size_holds k z (length xs) && occurs_holds k z xs) (λ k. true) (length xs) n (λ k z e. and-left (size_holds k z (length xs)) (occurs_holds k z xs) e) m.attributes q

-- The same of tuples, records and partitions.
use Rattle.std.proofs.Common.{◌≡◌, refl, sym, ap, ◌∙◌, subst, ℕ, zero, suc, ◌+◌, ◌-◌, ◌*◌, ◌^◌, ◌≤◌, ◌<◌, Bool, true, false, ◌&&◌, ◌||◌, not, if◌then◌else◌, List, [], ◌∷◌, ◌++◌, map, filter, length, replicate, ℤ, pos, arith, mul-le-mul, le_refl, append-nil}
use Rattle.std.specs.List.{list_all}
use Rattle.ess_semantics.specs.Lists.{is_empty}
use Rattle.ess_semantics.specs.Values.{Text, Kind, a_tuple, a_matrix, a_set, a_mset, a_function, a_relation, a_partition, a_record, Value, number, truth, item, node, Values, nil, cons, to_list, of_list, items_of, itself}
use Rattle.ess_semantics.specs.Order.{same_int, same_texts, order_texts}
use Rattle.ess_semantics.specs.Collections.{holds, rises, sorted_once, set_of}
use Rattle.ess_semantics.specs.Numbers.{run_from, one_to}
use Rattle.ess_semantics.specs.Domains.{Attribute, Domain, Domains, tuples, records, partitions, no_domains, more_domains, lists_of}
use Rattle.ess_semantics.specs.Membership.{is_part, member, member_of_each}
use Rattle.ess_semantics.specs.Sizes.{bound, product_bound}
use Rattle.ess_semantics.specs.PartitionLayers.{members_numbered, part_number}
use Rattle.ess_semantics.proofs.Tests.{and-left, and-right}
use Rattle.ess_semantics.proofs.Orders.{texts_exact, equal-of, of_list-to_list, same_int-equal, same-itself}
use Rattle.ess_semantics.proofs.Sorting.{all-holds, one-sorted-list, sorted_once-rises, holds-sorted_once}
use Rattle.ess_repr_laws.proofs.CanonicalPlaces.{AllOf}
use Rattle.ess_repr_laws.proofs.RowsOfCells.{EachOf}
use Rattle.ess_repr_laws.proofs.AxesOfTables.{run-differs}
use Rattle.ess_semantics.proofs.Overlaps.{all_members, holds-append, no-overlap}
use Rattle.ess_repr_laws.proofs.PartNumbers.{numbered-holds}
use Rattle.ess_repr_laws.proofs.SideBySide.{Along}
use Rattle.ess_repr_laws.proofs.CellsOfMembers.{map-long}
use Rattle.ess_repr_laws.proofs.Parts.{PartitionMember, partition-member, part-of, all-inside, parts-most}
use Rattle.ess_repr_laws.proofs.MemberNumbers.{HasNumber, part-numbers, number-range}
use Rattle.ess_repr_laws.proofs.Universes.{In, in-map, in-holds, holds-in, AllIn, lists-in, lists-length, heads-length, all-in, power-most, Universe, sorted, universe-bounds}
use Rattle.ess_repr_laws.proofs.BoundedLists.{from-up-length, from_up, in-from}

-- ---- tuples and records

-- A list that has the components of each tuple.
pub record Lists (ds : Domains) : Type 0 where
  ls : List (List Value)
  short : length (lists_of ls) ≤ product_bound ds
  all : (vs : Values) → member_of_each ds vs ≡ true → AllIn (to_list vs) ls

-- With one more component.
pub more-lists : (d : Domain) (ds : Domains) → Universe (member d) (bound d) → Lists ds → Lists (more_domains d ds)
more-lists d ds u l = record {
  ls = u.us ∷ l.ls;
  short = subst (λ k. k ≤ bound d * product_bound ds) (sym (heads-length u.us (lists_of l.ls))) (mul-le-mul u.short l.short);
  all = all';
}
  where
    all' : (vs : Values) → member_of_each (more_domains d ds) vs ≡ true → AllIn (to_list vs) (u.us ∷ l.ls)
    all' nil h = cc
    all' (cons v vs) h = (in-holds u.us v (u.all v (and-left (member d v) (member_of_each ds vs) h)), l.all vs (and-right (member d v) (member_of_each ds vs) h))

-- Without components.
pub no-lists : Lists no_domains
no-lists = record { ls = []; short = le_refl 1; all = all' }
  where
    all' : (vs : Values) → member_of_each no_domains vs ≡ true → AllIn (to_list vs) []
    all' nil h = tt
    all' (cons v vs) h = cc

-- Compound values of such components.
pub compound-universe : (ds : Domains) (K : Kind) (g : Value → Bool) → Lists ds → ((v : Value) → g v ≡ true → (vs : Values) × (v ≡ node K vs) × (member_of_each ds vs ≡ true)) → Universe g (product_bound ds)
compound-universe ds K g l form = record {
  us = map B (lists_of l.ls);
  short = subst (λ k. k ≤ product_bound ds) (sym (map-long B (lists_of l.ls))) l.short;
  all = λ v h. let x = form v h in holds-in (map B (lists_of l.ls)) v (subst (λ w. In w (map B (lists_of l.ls))) (ap (node K) (of_list-to_list x.0) ∙ sym x.1) (in-map B (to_list x.0) (lists_of l.ls) (lists-in (to_list x.0) l.ls (l.all x.0 x.2))));
}
  where
    B : List Value → Value
    B vs = node K (of_list vs)

-- A member of a domain of tuples is a tuple of members.
pub tuple-form : (ds : Domains) (v : Value) → member (tuples ds) v ≡ true → (vs : Values) × (v ≡ node a_tuple vs) × (member_of_each ds vs ≡ true)
tuple-form ds (node a_tuple vs) h = (vs, refl, h)
tuple-form ds (number n) h = cc
tuple-form ds (truth b) h = cc
tuple-form ds (item t k) h = cc
tuple-form ds (node a_matrix vs) h = cc
tuple-form ds (node a_set vs) h = cc
tuple-form ds (node a_mset vs) h = cc
tuple-form ds (node a_function vs) h = cc
tuple-form ds (node a_relation vs) h = cc
tuple-form ds (node a_partition vs) h = cc
tuple-form ds (node (a_record fs) vs) h = cc

-- A member of a domain of records is a record of members.
pub record-form : (fs : List Text) (ds : Domains) (v : Value) → member (records fs ds) v ≡ true → (vs : Values) × (v ≡ node (a_record fs) vs) × (member_of_each ds vs ≡ true)
record-form fs ds (node (a_record gs) vs) h = (vs, ap (λ us. node (a_record us) vs) (sym (texts_exact fs gs (equal-of (order_texts fs gs) (and-left (same_texts fs gs) (member_of_each ds vs) h)))), and-right (same_texts fs gs) (member_of_each ds vs) h)
record-form fs ds (number n) h = cc
record-form fs ds (truth b) h = cc
record-form fs ds (item t k) h = cc
record-form fs ds (node a_tuple vs) h = cc
record-form fs ds (node a_matrix vs) h = cc
record-form fs ds (node a_set vs) h = cc
record-form fs ds (node a_mset vs) h = cc
record-form fs ds (node a_function vs) h = cc
record-form fs ds (node a_relation vs) h = cc
record-form fs ds (node a_partition vs) h = cc

-- ---- partitions

no-number : (k : ℕ) (ps : List Value) (v : Value) → holds (all_members ps) v ≡ false → part_number k ps v ≡ pos 0
no-number k [] v h = refl
no-number k (p ∷ ps) v h = go (holds (items_of p) v) (sym (holds-append (items_of p) (all_members ps) v) ∙ h) (no-number (suc k) ps v)
  where
    go : (b : Bool) → b || holds (all_members ps) v ≡ false → (holds (all_members ps) v ≡ false → part_number (suc k) ps v ≡ pos 0) → (if b then pos k else part_number (suc k) ps v) ≡ pos 0
    go true h ih = cc
    go false h ih = ih h

-- A list that has each partition, no longer than the bound.
pub partitions-universe : (ks : List Attribute) (d : Domain) → Universe (member d) (bound d) → Universe (member (partitions ks d)) (bound (partitions ks d))
partitions-universe ks d u = record {
  us = map B choices;
  short = (let e : length (map B choices) ≡ suc a ^ length S = map-long B choices ∙ lists-length (length S) numbers ∙ ap (λ k. k ^ length S) (map-long pos (from_up 0 (suc a)) ∙ from-up-length 0 (suc a)) in
      subst (λ k. k ≤ suc a ^ a) (sym e) (power-most (suc a) (suc a) (length S) a (le_refl (suc a)) s.1 (omega arith)));
  all = λ v h. let m = partition-member ks d v h in all' v m.0 m.1 m.2;
}
  where
    a : ℕ
    a = bound d

    s : (us : List Value) × (length us ≤ bound d) × ((v : Value) → member d v ≡ true → holds us v ≡ true) × (rises itself us ≡ true)
    s = sorted (member d) (bound d) u

    S : List Value
    S = s.0

    numbers : List ℤ
    numbers = map pos (from_up 0 (suc a))

    part_at : List ℤ → ℤ → Value
    part_at ws k = set_of (members_numbered S ws k)

    is_full : Value → Bool
    is_full p = not (is_empty (items_of p))

    B : List ℤ → Value
    B ws = node a_partition (of_list (filter is_full (map (part_at ws) (one_to a))))

    choices : List (List ℤ)
    choices = lists_of (replicate (length S) numbers)

    all' : (v : Value) (ps : List Value) → v ≡ node a_partition (of_list ps) → PartitionMember ks d ps → holds (map B choices) v ≡ true
    all' v ps form m = holds-in (map B choices) v (subst (λ x. In x (map B choices)) made (in-map B (map N S) choices (lists-in (map N S) (replicate (length S) numbers) chosen)))
      where
        N : Value → ℤ
        N x = part_number 1 ps x

        most : length ps ≤ a
        most = parts-most ks d (universe-bounds d u) ps m

        one-part : (j : ℤ) (p : Value) → same_int (pos 0) j ≡ false → is_part (member d) p ≡ true → HasNumber 1 ps j p → part_at (map N S) j ≡ p
        one-part j p z i h =
            let x = part-of (member d) p i in
            ap (λ l. node a_set (of_list l))
            (one-sorted-list (sorted_once (members_numbered S (map N S) j)) (to_list x.xs) (sorted_once-rises (members_numbered S (map N S) j)) x.rise
            (λ v. holds-sorted_once (members_numbered S (map N S) j) v ∙ numbered-holds N S j v ∙ same-test v (holds (all_members ps) v) refl ∙ sym (h v) ∙ ap (λ q. holds (items_of q) v) x.form))
            ∙ ap (node a_set) (of_list-to_list x.xs) ∙ sym x.form
          where
            none : (b : Bool) → b && false ≡ false
            none true = refl
            none false = refl

            same-test : (v : Value) (b : Bool) → holds (all_members ps) v ≡ b → holds S v && same_int (N v) j ≡ holds (all_members ps) v && same_int (N v) j
            same-test v true e = ap (λ b. b && same_int (N v) j) (s.2 v (all-holds (member d) (all_members ps) v (all-inside (member d) ps m.parts) e) ∙ sym e)
            same-test v false e = ap (λ b. holds S v && b) off ∙ none (holds S v) ∙ sym (ap (λ b. b && same_int (N v) j) e)
              where
                off : same_int (N v) j ≡ false
                off = ap (λ n. same_int n j) (no-number 1 ps v e) ∙ z

        is-full : (p : Value) → is_part (member d) p ≡ true → is_full p ≡ true
        is-full p i = let x = part-of (member d) p i in ap (λ q. not (is_empty (items_of q))) x.form ∙ x.full

        -- the first numbers have the parts
        firsts-again : (js : List ℤ) (qs : List Value) (rest : List Value) → EachOf js (λ j. same_int (pos 0) j ≡ false) → list_all (is_part (member d)) qs ≡ true → Along js qs (HasNumber 1 ps) →
            filter is_full (map (part_at (map N S)) js ++ rest) ≡ qs ++ filter is_full rest
        firsts-again [] [] rest z i h = refl
        firsts-again [] (q ∷ qs) rest z i h = absurd h
        firsts-again (j ∷ js) [] rest z i h = absurd h
        firsts-again (j ∷ js) (q ∷ qs) rest z i h =
            let iq = and-left (is_part (member d) q) (list_all (is_part (member d)) qs) i in
            ap (λ p. if is_full p then p ∷ filter is_full (map (part_at (map N S)) js ++ rest) else filter is_full (map (part_at (map N S)) js ++ rest)) (one-part j q z.0 iq h.0)
            ∙ ap (λ b. if b then q ∷ filter is_full (map (part_at (map N S)) js ++ rest) else filter is_full (map (part_at (map N S)) js ++ rest)) (is-full q iq)
            ∙ ap (λ l. q ∷ l) (firsts-again js qs rest z.1 (and-right (is_part (member d) q) (list_all (is_part (member d)) qs) i) h.1)

        -- the others have none
        empty-at : (j : ℕ) → length ps < j → is_full (part_at (map N S) (pos j)) ≡ false
        empty-at j h = ap (λ l. not (is_empty (items_of (set_of l)))) (no-items (members_numbered S (map N S) (pos j)) (λ v. numbered-holds N S (pos j) v ∙ off v (holds S v)))
          where
            no-items : (xs : List Value) → ((v : Value) → holds xs v ≡ false) → xs ≡ []
            no-items [] h = refl
            no-items (x ∷ xs) h = let z : true ≡ false = sym (ap (λ b. b || holds xs x) (same-itself x)) ∙ h x in cc

            differs : (v : Value) (b : Bool) → holds (all_members ps) v ≡ b → same_int (N v) (pos j) ≡ false
            differs v false e = ap (λ n. same_int n (pos j)) (no-number 1 ps v e) ∙ test (same_int (pos 0) (pos j)) refl
              where
                test : (b : Bool) → same_int (pos 0) (pos j) ≡ b → same_int (pos 0) (pos j) ≡ false
                test false e = e
                test true e = let q : pos 0 ≡ pos j = same_int-equal (pos 0) (pos j) e in let r : 0 ≡ j = cc in absurd (omega arith)
            differs v true e = let r = number-range 1 ps v e in ap (λ n. same_int n (pos j)) r.1 ∙ test r.0 r.3 (same_int (pos r.0) (pos j)) refl
              where
                test : (n : ℕ) → n < 1 + length ps → (b : Bool) → same_int (pos n) (pos j) ≡ b → same_int (pos n) (pos j) ≡ false
                test n l false e = e
                test n l true e = let q : pos n ≡ pos j = same_int-equal (pos n) (pos j) e in let r : n ≡ j = cc in absurd (omega arith)

            off : (v : Value) (b : Bool) → b && same_int (N v) (pos j) ≡ false
            off v true = differs v (holds (all_members ps) v) refl
            off v false = refl

        others : (k n : ℕ) → length ps < k → filter is_full (map (part_at (map N S)) (run_from k n)) ≡ []
        others k zero h = refl
        others k (suc n) h =
            ap (λ b. if b then part_at (map N S) (pos k) ∷ filter is_full (map (part_at (map N S)) (run_from (suc k) n)) else filter is_full (map (part_at (map N S)) (run_from (suc k) n))) (empty-at k h)
            ∙ others (suc k) n (omega arith)

        split : (f : ℤ → Value) (k n i : ℕ) → map f (run_from k (n + i)) ≡ map f (run_from k n) ++ map f (run_from (k + n) i)
        split f k zero i = let z : 0 + i ≡ i = omega arith in let w : k + 0 ≡ k = omega arith in ap (λ x. map f (run_from k x)) z ∙ ap (λ x. map f (run_from x i)) (sym w)
        split f k (suc n) i =
            let z : suc n + i ≡ suc (n + i) = omega arith in let w : suc k + n ≡ k + suc n = omega arith in
            ap (λ x. map f (run_from k x)) z ∙ ap (λ l. f (pos k) ∷ l) (split f (suc k) n i) ∙ ap (λ x. f (pos k) ∷ (map f (run_from (suc k) n) ++ map f (run_from x i))) w

        made : B (map N S) ≡ v
        made =
            ap (λ l. node a_partition (of_list l))
            (ap (λ n. filter is_full (map (part_at (map N S)) (run_from 1 n))) (let q = most in let e : a ≡ length ps + (a - length ps) = omega (arith, q) in e)
            ∙ ap (filter is_full) (split (part_at (map N S)) 1 (length ps) (a - length ps))
            ∙ firsts-again (run_from 1 (length ps)) ps (map (part_at (map N S)) (run_from (1 + length ps) (a - length ps))) (let r = run-differs 0 (suc (length ps)) in r.0) m.parts (part-numbers 1 ps (no-overlap ps m.apart))
            ∙ ap (λ l. ps ++ l) (others (1 + length ps) (a - length ps) (omega arith)) ∙ append-nil ps)
            ∙ sym form

        each : (zs : List Value) → AllOf (map N zs) (λ k. In k numbers)
        each [] = tt
        each (z ∷ zs) = (go (holds (all_members ps) z) refl, each zs)
          where
            go : (b : Bool) → holds (all_members ps) z ≡ b → In (N z) numbers
            go false e = subst (λ n. In n numbers) (sym (no-number 1 ps z e)) (in-map pos 0 (from_up 0 (suc a)) (in-from 0 (suc a) 0 (le_refl 0) (omega arith)))
            go true e = let r = number-range 1 ps z e in subst (λ n. In n numbers) (sym r.1) (in-map pos r.0 (from_up 0 (suc a)) (in-from 0 (suc a) r.0 (omega arith) (let l = r.3 in let q = most in omega (arith, l, q))))

        chosen : AllIn (map N S) (replicate (length S) numbers)
        chosen = subst (λ k. AllIn (map N S) (replicate k numbers)) (map-long N S) (all-in numbers (map N S) (each S))

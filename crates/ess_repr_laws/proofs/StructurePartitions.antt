-- The structure constraint of a partition whose parts are a set: that of the set, that each value is in one part, and that none is
-- empty. The numbers and sizes of parts are the set's own.
use Rattle.std.proofs.Common.{◌≡◌, refl, sym, ap, ◌∙◌, subst, ℕ, suc, ◌+◌, ◌<◌, Bool, true, false, ◌&&◌, ◌||◌, not, if◌then◌else◌, List, [], ◌∷◌, map, length, pos, ◌+ℤ◌, Option, Some, option_map, arith, le_refl}
use Rattle.std.specs.List.{list_all}
use Rattle.ess_semantics.specs.declared.words.ReprKind.{ReprKind}
use Rattle.ess_semantics.specs.declared.words.Key.{Key}
use Rattle.ess_semantics.specs.declared.words.Op1.{Op1}
use Rattle.ess_semantics.specs.declared.words.Op2.{Op2}
use Rattle.ess_semantics.specs.declared.words.Fun.{Fun}
use Rattle.ess_semantics.specs.Lists.{when, is_some_and}
use Rattle.ess_semantics.specs.Values.{Text, Value, a_set, a_partition, node, number, to_list, of_list, truth, itself, items_of}
use Rattle.ess_semantics.specs.Order.{same, same_text}
use Rattle.ess_semantics.specs.Collections.{holds, rises, partition_of, has_empty_part, has_overlap}
use Rattle.ess_semantics.specs.Trees.{unary, word, Mark, Repr, repr, no_reprs, more_reprs, Ex, Exs, number_ex, name_ex, comp_ex, no_gens, over, name_pat, Dom, partition_dom, ex1, ex2, fun1}
use Rattle.ess_semantics.specs.Domains.{Attribute, Domain, sets, partitions, members, member_list}
use Rattle.ess_semantics.specs.Membership.{covers, member}
use Rattle.ess_semantics.specs.Attributes.{all_equal, each_holds, part_sizes, set_attributes_hold, partition_attributes_hold, partition_holds, parts_hold}
use Rattle.ess_semantics.specs.Operators.{as_truth, all_true, list_value, sum_of, false_where_undefined, value_of_node}
use Rattle.ess_semantics.specs.Sizes.{child_parts}
use Rattle.ess_semantics.specs.Cells.{Cells, behind, cells_of}
use Rattle.ess_semantics.specs.PartitionLayers.{is_partition_of, partition_from, partition_of_child}
use Rattle.ess_semantics.specs.Representations.{width}
use Rattle.ess_semantics.specs.Declarations.{Declaration, declarations_below}
use Rattle.ess_semantics.specs.CanonicalTest.{canonical}
use Rattle.ess_semantics.specs.Meaning.{Env, attributes_of, meaning, meanings}
use Rattle.ess_semantics.proofs.Connectives.{and-means, all-means, binary-means}
use Rattle.ess_semantics.proofs.Orders.{to_list-of_list}
use Rattle.ess_semantics.proofs.Sorting.{sorted_once-itself}
use Rattle.ess_semantics.proofs.Tests.{and-left, and-right, and-both}
use Rattle.ess_repr_laws.specs.Finite.{Complete}
use Rattle.ess_repr_laws.specs.StructureParts.{Terms, and_ex, le_ex, keys_ex}
use Rattle.ess_repr_laws.specs.Structure.{shapes, structure}
use Rattle.ess_repr_laws.specs.StructureMeaning.{Bound, M, AxesAre, Attributes, DomainIs, axes_members}
use Rattle.ess_repr_laws.specs.PartSizes.{ArePartSizes, part_counts, part_sizes_of}
use Rattle.ess_repr_laws.specs.ViewParts.{view_ex, each_item, part_set_dom, times_held_ex, one_size_ex, regular_key_ex, parts_ex}
use Rattle.ess_repr_laws.proofs.Behind.{behind-length}
use Rattle.ess_repr_laws.proofs.CanonicalConversions.{set-member-form}
use Rattle.ess_repr_laws.proofs.CanonicalForms.{right}
use Rattle.ess_repr_laws.proofs.CanonicalPlaces.{AllOf, all-of-list, all-of-map}
use Rattle.ess_repr_laws.proofs.CellDomains.{axes-wide}
use Rattle.ess_repr_laws.proofs.CellsOfMembers.{map-long}
use Rattle.ess_repr_laws.proofs.OnceHeld.{SetOf, times_held, is_once_held, is_full, is_as_large, once-parts, one-size}
use Rattle.ess_repr_laws.proofs.StructureConversions.{conversion-asked, flags-means, all-flags}
use Rattle.ess_repr_laws.proofs.StructureFits.{Fit}
use Rattle.ess_repr_laws.proofs.StructureKeys.{attributes-apart}
use Rattle.ess_repr_laws.proofs.StructureNumbers.{le-means}
use Rattle.ess_repr_laws.proofs.StructureOf.{StructureOf}
use Rattle.ess_repr_laws.proofs.StructurePlaces.{placed-long}
use Rattle.ess_repr_laws.proofs.StructureRows.{looked}
use Rattle.ess_repr_laws.proofs.StructureTupleSets.{plain}
use Rattle.ess_repr_laws.proofs.ViewsOfCells.{Stands, items-run, members-run, view-stands}

-- The numbers and sizes of parts hold, so the attributes without a number are left.
flags-left : (ks : List Attribute) (ps : List Value) → each_holds ks (λ k n. partition_holds k n ps) (λ k. true) ≡ true → partition_attributes_hold ks ps ≡ each_holds ks (λ k n. true) (λ k. parts_hold k ps)
flags-left ks ps h = attributes-apart ks (λ k n. partition_holds k n ps) (λ k. parts_hold k ps) ∙ ap (λ b. b && each_holds ks (λ k n. true) (λ k. parts_hold k ps)) h

parts-asked : (ks : List Attribute) (x : Domain) (ps : List Value) (c : Bool) → rises itself ps ≡ true → partition_attributes_hold ks ps ≡ c →
    is_some_and (partition_of ps) (λ v. is_partition_of ks x (items_of v)) ≡ ((not (has_empty_part ps) && not (has_overlap ps)) && covers (members x) ps) && c
parts-asked ks x ps c h a =
    ap (λ l. is_some_and (when (not (has_empty_part ps) && not (has_overlap ps)) (node a_partition (of_list l))) (λ v. is_partition_of ks x (items_of v))) (sorted_once-itself ps h)
    ∙ go (not (has_empty_part ps) && not (has_overlap ps))
  where
    go : (b : Bool) → is_some_and (when b (node a_partition (of_list ps))) (λ v. is_partition_of ks x (items_of v)) ≡ (b && covers (members x) ps) && c
    go false = refl
    go true = ap (is_partition_of ks x) (to_list-of_list ps) ∙ ap (λ b. covers (members x) ps && b) a

set-is : (ks : List Attribute) (x : Domain) (p : Value) → member (sets ks x) p ≡ true → SetOf x p
set-is ks x p h = set-member-form ks x p h

module _ (env0 : Env) (q : ℕ → Text) (q-apart : (m l : ℕ) → l < m → same_text (q m) (q l) ≡ false) (terms : Terms) where
  abbrev N : Bound env0 q q-apart → Env
  N = M env0 q q-apart

  module _ (d : Dom) (x : Domain) (me : members x ≡ Some (member_list x)) (full : Complete x) (ax : AxesAre env0 q q-apart (d ∷ []) (member_list x ∷ [])) (l : ℕ) (bs : Bound env0 q q-apart) (e : Ex) (v : Value)
      (st : Stands env0 q q-apart l e v bs) (parts : AllOf (items_of v) (SetOf x)) where
    abbrev ps : List Value
    ps = items_of v

    times-means : (u : Value) → meaning (times_held_ex q l e) (N ((l, u) ∷ bs)) ≡ Some (number (pos (times_held u ps)))
    times-means u =
        ap (λ o. false_where_undefined false (value_of_node (word Fun.Sum) (option_map list_value o ∷ [])))
        (items-run env0 q q-apart (suc l) e no_gens ((l, u) ∷ bs) (λ here. option_map (λ z. z ∷ []) (meaning one here)) v bit (st ((l, u) ∷ []) (le_refl l, tt)) (each ps))
        ∙ ap (λ zs. Some (number (sum_of zs))) (to_list-of_list (map bit ps)) ∙ ap (λ z. Some (number z)) (sum ps)
      where
        one : Ex
        one = fun1 false Fun.ToInt (ex2 true Op2.Member (name_ex (q l)) (name_ex (q (suc l))))

        bit : Value → Value
        bit p = number (pos (if holds (items_of p) u then 1 else 0))

        each : (zs : List Value) → AllOf zs (λ p. option_map (λ z. z ∷ []) (meaning one (N ((suc l, p) ∷ (l, u) ∷ bs))) ≡ Some (bit p ∷ []))
        each [] = tt
        each (p ∷ zs) = (
          ap (λ o. option_map (λ z. z ∷ []) (false_where_undefined false (value_of_node (word Fun.ToInt) (o ∷ []))))
              (binary-means (N ((suc l, p) ∷ (l, u) ∷ bs)) true Op2.Member (name_ex (q l)) (name_ex (q (suc l))) u p
              (looked env0 q q-apart l u bs ((suc l, p) ∷ []) (le_refl (suc l), tt)) (looked env0 q q-apart (suc l) p ((l, u) ∷ bs) [] tt)),
          each zs,
        )

        sum : (zs : List Value) → sum_of (map bit zs) ≡ pos (times_held u zs)
        sum [] = refl
        sum (z ∷ zs) = ap (λ n. pos (if holds (items_of z) u then 1 else 0) +ℤ n) (sum zs)

    once-means : meaning (fun1 true Fun.And (comp_ex (ex2 true Op2.Eq (times_held_ex q l e) (number_ex (pos 1))) (over (name_pat (q l)) d no_gens))) (N bs) ≡ Some (truth (list_all (is_once_held ps) (member_list x)))
    once-means =
        all-means (N bs) part (over (name_pat (q l)) d no_gens) (map bit (member_list x))
        (members-run env0 q q-apart l d no_gens bs (λ here. option_map (λ z. z ∷ []) (meaning part here)) (member_list x) bit (ax.0 bs) (each (member_list x))) ∙ ap (λ b. Some (truth b)) (all-bit (member_list x))
      where
        part : Ex
        part = ex2 true Op2.Eq (times_held_ex q l e) (number_ex (pos 1))

        bit : Value → Value
        bit u = truth (is_once_held ps u)

        each : (us : List Value) → AllOf us (λ u. option_map (λ z. z ∷ []) (meaning part (N ((l, u) ∷ bs))) ≡ Some (bit u ∷ []))
        each [] = tt
        each (u ∷ us) = (
          ap (option_map (λ z. z ∷ [])) (binary-means (N ((l, u) ∷ bs)) true Op2.Eq (times_held_ex q l e) (number_ex (pos 1)) (number (pos (times_held u ps))) (number (pos 1)) (times-means u) refl),
          each us,
        )

        all-bit : (us : List Value) → all_true (map bit us) ≡ list_all (is_once_held ps) us
        all-bit [] = refl
        all-bit (u ∷ us) = ap (λ b. is_once_held ps u && b) (all-bit us)

    full-means : meaning (fun1 true Fun.And (comp_ex (le_ex (number_ex (pos 1)) (ex1 false Op1.Bar (name_ex (q l)))) (each_item q l e no_gens))) (N bs) ≡ Some (truth (list_all is_full ps))
    full-means =
        all-means (N bs) part (each_item q l e no_gens) (map bit ps)
        (items-run env0 q q-apart l e no_gens bs (λ here. option_map (λ z. z ∷ []) (meaning part here)) v bit (st [] tt)
        (all-of-map ps (SetOf x) (λ p. option_map (λ z. z ∷ []) (meaning part (N ((l, p) ∷ bs))) ≡ Some (bit p ∷ [])) (λ p h. ap (option_map (λ z. z ∷ [])) (one p h)) parts))
        ∙ ap (λ b. Some (truth b)) (all-bit ps)
      where
        part : Ex
        part = le_ex (number_ex (pos 1)) (ex1 false Op1.Bar (name_ex (q l)))

        bit : Value → Value
        bit p = truth (is_full p)

        size : (p : Value) → SetOf x p → meaning (ex1 false Op1.Bar (name_ex (q l))) (N ((l, p) ∷ bs)) ≡ Some (number (pos (length (items_of p))))
        size p h =
            ap (λ o. false_where_undefined false (value_of_node (unary Op1.Bar) (o ∷ []))) (looked env0 q q-apart l p bs [] tt)
            ∙ ap (λ z. false_where_undefined false (value_of_node (unary Op1.Bar) (Some z ∷ []))) h.1 ∙ ap (λ z. Some (number (pos (length (items_of z))))) (sym h.1)

        one : (p : Value) → SetOf x p → meaning part (N ((l, p) ∷ bs)) ≡ Some (bit p)
        one p h = le-means (N ((l, p) ∷ bs)) (number_ex (pos 1)) (ex1 false Op1.Bar (name_ex (q l))) (pos 1) (pos (length (items_of p))) refl (size p h)

        all-bit : (zs : List Value) → all_true (map bit zs) ≡ list_all is_full zs
        all-bit [] = refl
        all-bit (z ∷ zs) = ap (λ b. is_full z && b) (all-bit zs)

    -- The size of a part.
    pub bar-means : (k : ℕ) (p : Value) (b : Bound env0 q q-apart) → SetOf x p → meaning (name_ex (q k)) (N b) ≡ Some p → meaning (ex1 false Op1.Bar (name_ex (q k))) (N b) ≡ Some (number (pos (length (items_of p))))
    bar-means k p b h m =
        ap (λ o. false_where_undefined false (value_of_node (unary Op1.Bar) (o ∷ []))) m
        ∙ ap (λ z. false_where_undefined false (value_of_node (unary Op1.Bar) (Some z ∷ []))) h.1 ∙ ap (λ z. Some (number (pos (length (items_of z))))) (sym h.1)

    as-large-means : (p : Value) → SetOf x p → meaning (fun1 true Fun.And (comp_ex (ex2 true Op2.Eq (ex1 false Op1.Bar (name_ex (q l))) (ex1 false Op1.Bar (name_ex (q (suc l))))) (each_item q (suc l) e no_gens))) (N ((l, p) ∷ bs)) ≡ Some (truth (is_as_large ps p))
    as-large-means p h =
        all-means (N ((l, p) ∷ bs)) part (each_item q (suc l) e no_gens) (map bit ps)
        (items-run env0 q q-apart (suc l) e no_gens ((l, p) ∷ bs) (λ here. option_map (λ z. z ∷ []) (meaning part here)) v bit (st ((l, p) ∷ []) (le_refl l, tt))
        (all-of-map ps (SetOf x) (λ z. option_map (λ z. z ∷ []) (meaning part (N ((suc l, z) ∷ (l, p) ∷ bs))) ≡ Some (bit z ∷ [])) (λ z k. ap (option_map (λ z. z ∷ [])) (one z k)) parts))
        ∙ ap (λ b. Some (truth b)) (all-bit ps)
      where
        part : Ex
        part = ex2 true Op2.Eq (ex1 false Op1.Bar (name_ex (q l))) (ex1 false Op1.Bar (name_ex (q (suc l))))

        bit : Value → Value
        bit z = truth (same (number (pos (length (items_of p)))) (number (pos (length (items_of z)))))

        one : (z : Value) → SetOf x z → meaning part (N ((suc l, z) ∷ (l, p) ∷ bs)) ≡ Some (bit z)
        one z k =
            binary-means (N ((suc l, z) ∷ (l, p) ∷ bs)) true Op2.Eq (ex1 false Op1.Bar (name_ex (q l))) (ex1 false Op1.Bar (name_ex (q (suc l)))) (number (pos (length (items_of p)))) (number (pos (length (items_of z))))
            (bar-means l p ((suc l, z) ∷ (l, p) ∷ bs) h (looked env0 q q-apart l p bs ((suc l, z) ∷ []) (le_refl (suc l), tt))) (bar-means (suc l) z ((suc l, z) ∷ (l, p) ∷ bs) k (looked env0 q q-apart (suc l) z ((l, p) ∷ bs) [] tt))

        all-bit : (zs : List Value) → all_true (map bit zs) ≡ list_all (λ z. same (number (pos (length (items_of p)))) (number (pos (length (items_of z))))) zs
        all-bit [] = refl
        all-bit (z ∷ zs) = ap (λ b. same (number (pos (length (items_of p)))) (number (pos (length (items_of z)))) && b) (all-bit zs)

    one-size-means : meaning (one_size_ex q l e) (N bs) ≡ Some (truth (all_equal (part_sizes ps)))
    one-size-means =
        all-means (N bs) part (each_item q l e no_gens) (map bit ps)
        (items-run env0 q q-apart l e no_gens bs (λ here. option_map (λ z. z ∷ []) (meaning part here)) v bit (st [] tt)
        (all-of-map ps (SetOf x) (λ p. option_map (λ z. z ∷ []) (meaning part (N ((l, p) ∷ bs))) ≡ Some (bit p ∷ [])) (λ p h. ap (option_map (λ z. z ∷ [])) (as-large-means p h)) parts))
        ∙ ap (λ b. Some (truth b)) (all-bit ps ∙ one-size ps)
      where
        part : Ex
        part = fun1 true Fun.And (comp_ex (ex2 true Op2.Eq (ex1 false Op1.Bar (name_ex (q l))) (ex1 false Op1.Bar (name_ex (q (suc l))))) (each_item q (suc l) e no_gens))

        bit : Value → Value
        bit p = truth (is_as_large ps p)

        all-bit : (zs : List Value) → all_true (map bit zs) ≡ list_all (is_as_large ps) zs
        all-bit [] = refl
        all-bit (z ∷ zs) = ap (λ b. is_as_large ps z && b) (all-bit zs)

    -- What is asked of the sizes of parts that are to be equal.
    pub regular-key-means : (k : Key) → meaning (regular_key_ex (one_size_ex q l e) k) (N bs) ≡ Some (truth (parts_hold k ps))
    regular-key-means Key.Regular = one-size-means
    regular-key-means _ = refl

    join : (a b c : Bool) → a && (b && c) ≡ (a && b) && c
    join true b c = refl
    join false b c = refl

    -- What is asked of the parts.
    pub parts-means : (ms : List Mark) (os : List (Option Value)) (ks : List Attribute) → attributes_of ms os ≡ Some ks →
        meaning (parts_ex q l ms d e) (N bs) ≡ Some (truth (((not (has_empty_part ps) && not (has_overlap ps)) && covers (members x) ps) && each_holds ks (λ k n. true) (λ k. parts_hold k ps)))
    parts-means ms os ks at =
        and-means (N bs) (fun1 true Fun.And (comp_ex (ex2 true Op2.Eq (times_held_ex q l e) (number_ex (pos 1))) (over (name_pat (q l)) d no_gens))) (and_ex filled (keys_ex (regular_key_ex (one_size_ex q l e)) ms))
        (list_all (is_once_held ps) (member_list x)) (list_all is_full ps && regular) once-means
        (and-means (N bs) filled (keys_ex (regular_key_ex (one_size_ex q l e)) ms) (list_all is_full ps) regular full-means
        (flags-means (N bs) (regular_key_ex (one_size_ex q l e)) (λ k. parts_hold k ps) ms os ks at (all-flags (λ k. meaning (regular_key_ex (one_size_ex q l e) k) (N bs) ≡ Some (truth (parts_hold k ps))) ks regular-key-means)))
        ∙ ap (λ b. Some (truth b)) (join (list_all (is_once_held ps) (member_list x)) (list_all is_full ps) regular ∙ ap (λ b. b && regular) (once-parts x me full ps parts))
      where
        filled : Ex
        filled = fun1 true Fun.And (comp_ex (le_ex (number_ex (pos 1)) (ex1 false Op1.Bar (name_ex (q l)))) (each_item q l e no_gens))

        regular : Bool
        regular = each_holds ks (λ k n. true) (λ k. parts_hold k ps)

  -- The structure constraint of a partition as a set of parts means that its cells are canonical.
  pub partition-structure : (r : Repr) (ms : List Mark) (es : Exs) (d : Dom) (ks : List Attribute) (x : Domain) → members x ≡ Some (member_list x) → Complete x → AxesAre env0 q q-apart (d ∷ []) (member_list x ∷ []) →
      ArePartSizes ks x → Attributes env0 q q-apart terms ms es ks → DomainIs env0 q q-apart (part_set_dom terms ms es d) (child_parts ks x) → StructureOf env0 q q-apart terms r (part_set_dom terms ms es d) (child_parts ks x) →
      StructureOf env0 q q-apart terms (repr ReprKind.PartitionAsSet (more_reprs r no_reprs)) (partition_dom ms es d) (partitions ks x)
  partition-structure r ms es d ks x me full ax sizes at dm child = record {
    covered = child.covered;
    long = λ ns. child.long ns ∙ (let z : width r ≡ 0 + (width r + 0) = omega arith in z);
    axes = child.axes ∙ ap (map (λ (t : Declaration). t.axes)) (sym (plain (declarations_below false r E)));
    found = λ ns ts w h. child.found ns ts (omega (arith, w)) h;
    there = λ out ns ts i p c'. child.there (out || false) ns ts i p (subst (λ l. Fit l (behind i (cells_of ts))) (plain (declarations_below (out || false) r E)) c');
    means = λ out ns ts l is i bs p c' st.
        let second : Ex = parts_ex q l ms d (view_ex r D (shapes q terms r D ns) is) in
        let inner : Cells = behind i (cells_of ts) in
        and-means (N bs) (structure q terms r D ns l is) second (canonical r E inner) (as_truth (meaning second (N bs)))
        (child.means (out || false) ns ts l is i bs p (subst (λ l. Fit l inner) (plain (declarations_below (out || false) r E)) c') st) refl
        ∙ ap (λ b. Some (truth b))
        (sym (conversion-asked r E (right r E child.covered) (axes-wide r E child.covered) ReprKind.PartitionAsSet (partitions ks x) (λ v. Some (node a_set (of_list (items_of v))) ∷ [])
        (λ cs vss. partition_of_child vss) asked inner (as_truth (meaning second (N bs)))
        (behind-length i (cells_of ts) ∙ map-long _ ts ∙ placed-long env0 q q-apart (shapes q terms r D ns) (axes_members r E) ts p ∙ child.long ns)
        (λ v h m.
        let s = set-member-form (part_counts ks x) (sets (part_sizes_of ks) x) v m in
        let f : items_of v ≡ to_list s.0 = ap items_of s.1 in
        let parts : AllOf (items_of v) (SetOf x) =
        subst (λ l. AllOf l (SetOf x)) (sym f) (all-of-map (to_list s.0) (λ p. member (sets (part_sizes_of ks) x) p ≡ true) (SetOf x) (set-is (part_sizes_of ks) x) (all-of-list (to_list s.0) (member (sets (part_sizes_of ks) x)) s.3)) in
        let w = sym (ap (member E) s.1) ∙ m in
        let z : set_attributes_hold (part_counts ks x) (length (to_list s.0)) ≡ true = and-right _ (set_attributes_hold (part_counts ks x) (length (to_list s.0))) w in
        let n = flags-left ks (to_list s.0) (sizes (to_list s.0) z (each-size (to_list s.0) s.3)) in
        let b = at bs in
        ap (λ w. is_some_and (partition_from w) (λ v. is_partition_of ks x (items_of v))) s.1 ∙ parts-asked ks x (to_list s.0) (each_holds ks (λ k n. true) (λ k. parts_hold k (to_list s.0))) s.2 n
        ∙ ap (λ l. ((not (has_empty_part l) && not (has_overlap l)) && covers (members x) l) && each_holds ks (λ k n. true) (λ k. parts_hold k l)) (sym f)
        ∙ sym (ap as_truth (parts-means d x me full ax l bs (view_ex r D (shapes q terms r D ns) is) v
        (view-stands env0 q q-apart r D E (shapes q terms r D ns) (axes_members r E) ts l is i bs v refl dm p st h) parts ms (meanings es (N bs)) ks b.1)))));
  }
    where
      D : Dom
      D = part_set_dom terms ms es d

      E : Domain
      E = child_parts ks x

      asked : Cells → List (List Value) → Bool
      asked cs vss = is_some_and (partition_of_child vss) (λ v. is_partition_of ks x (items_of v))

      part-size : (p : Value) → member (sets (part_sizes_of ks) x) p ≡ true → set_attributes_hold (part_sizes_of ks) (length (items_of p)) ≡ true
      part-size p h =
          let s = set-member-form (part_sizes_of ks) x p h in
          let w = sym (ap (member (sets (part_sizes_of ks) x)) s.1) ∙ h in
          ap (λ z. set_attributes_hold (part_sizes_of ks) (length (items_of z))) s.1 ∙ and-right _ (set_attributes_hold (part_sizes_of ks) (length (to_list s.0))) w

      each-size : (ps : List Value) → list_all (member (sets (part_sizes_of ks) x)) ps ≡ true → list_all (λ p. set_attributes_hold (part_sizes_of ks) (length (items_of p))) ps ≡ true
      each-size [] h = refl
      each-size (p ∷ ps) h =
          and-both (set_attributes_hold (part_sizes_of ks) (length (items_of p))) (list_all (λ p. set_attributes_hold (part_sizes_of ks) (length (items_of p))) ps)
          (part-size p (and-left (member (sets (part_sizes_of ks) x) p) (list_all (member (sets (part_sizes_of ks) x)) ps) h)) (each-size ps (and-right (member (sets (part_sizes_of ks) x) p) (list_all (member (sets (part_sizes_of ks) x)) ps) h))

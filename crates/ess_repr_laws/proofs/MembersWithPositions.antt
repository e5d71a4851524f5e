-- The members of a domain with positions are exactly the values with positions of members of the domain.
use Rattle.std.proofs.Common.{◌≡◌, refl, sym, ap, ◌∙◌, ℕ, Bool, true, false, ◌&&◌, ◌||◌, List, length, pos, negsuc, nat_le, nat_eq, Option, Some, None, option_map}
use Rattle.std.specs.List.{list_all, list_any}
use Rattle.std.specs.Ordering.{is_eq}
use Rattle.std.proofs.lemmas.Cmp.{tied_itself}
use Rattle.ess_semantics.specs.Lists.{is_some_and}
use Rattle.ess_semantics.specs.Values.{Text, a_tuple, a_record, Value, number, truth, item, node, Values, nil, cons, to_list, of_list, tuple, matrix}
use Rattle.ess_semantics.specs.Order.{order, same_text, same_texts}
use Rattle.ess_semantics.specs.Domains.{Attribute, Span, Domain, Domains, booleans, integers, named, tuples, records, matrices, sets, msets, functions, relations, partitions, no_domains, more_domains, members}
use Rattle.ess_semantics.specs.Attributes.{size_holds, relation_holds, head_members, relation_attributes_hold}
use Rattle.ess_semantics.specs.Membership.{member, member_of_each, tuple_member, nested_matrix, same_list}
use Rattle.ess_semantics.specs.Positions.{with_positions, all_with_positions, domain_with_positions, domains_with_positions}
use Rattle.ess_semantics.proofs.Tests.{and-left, and-right, and-both}
use Rattle.ess_semantics.proofs.Orders.{to_list-of_list, of_list-to_list, orders_total, text_total}
use Rattle.ess_repr_laws.specs.TypedDomains.{SameOrder, is_unnumbered, ArePairs, Typed, AllTyped}
use Rattle.ess_repr_laws.proofs.CellsOfMatrices.{shape-of}
use Rattle.ess_repr_laws.proofs.OneType.{type-itself, types-themselves}
use Rattle.ess_repr_laws.proofs.TypesBack.{boolean-back, integer-back, indices-are, tuple-components}
use Rattle.ess_repr_laws.proofs.OrderOfPositions.{Agree, order-agrees, all-agree, tuples-agree}
use Rattle.ess_repr_laws.proofs.ListsOfPositions.{with_each, parts-with, list-with, length-with, all-there}
use Rattle.ess_repr_laws.proofs.MembersOfPositions.{members-with}
use Rattle.ess_repr_laws.proofs.AttributesOfPositions.{numbered-same}
use Rattle.ess_repr_laws.proofs.MatchedMembers.{Back, Matched, list-back}
use Rattle.ess_repr_laws.proofs.SetsOfPositions.{sets-matched, msets-matched, functions-matched}
use Rattle.ess_repr_laws.proofs.RelationsOfPositions.{pairs-attributes, relations-matched, partitions-matched}
use Rattle.ess_repr_laws.proofs.BoundedParts.{tuple-form}

-- ---- atoms

booleans-matched : Matched (member booleans) (member booleans)
booleans-matched = record { up = λ v h. ap (member booleans) (boolean-back v h) ∙ h; back = λ w h. (w, h, boolean-back w h) }

integers-matched : (ss : List Span) → Matched (member (integers ss)) (member (integers ss))
integers-matched ss = record { up = λ v h. ap (member (integers ss)) (integer-back ss v h) ∙ h; back = λ w h. (w, h, integer-back ss w h) }

named-matched : (t : Text) (n : ℕ) → Matched (member (named t n)) (member (domain_with_positions (named t n)))
named-matched t n = record { up = up; back = back }
  where
    apart : (a b c : Bool) → a && b && c ≡ true → (b && c) || false ≡ true
    apart true true true h = refl
    apart true true false h = cc
    apart true false c h = cc
    apart false b c h = cc

    joined : (b c : Bool) → (b && c) || false ≡ true → true && b && c ≡ true
    joined true true h = refl
    joined true false h = cc
    joined false c h = cc

    up : (v : Value) → member (named t n) v ≡ true → member (domain_with_positions (named t n)) (with_positions v) ≡ true
    up (item u k) h = apart (same_text t u) (nat_le 1 k) (nat_le k n) h
    up (number m) h = cc
    up (truth b) h = cc
    up (node k vs) h = cc

    back : (w : Value) → member (domain_with_positions (named t n)) w ≡ true → Back (member (named t n)) w
    back (number (pos k)) h =
        (item t k, ap (λ o. is_eq o && nat_le 1 k && nat_le k n) (tied_itself text_total t) ∙ joined (nat_le 1 k) (nat_le k n) h, refl)
    back (number (negsuc k)) h = cc
    back (truth b) h = cc
    back (item u k) h = cc
    back (node k vs) h = cc

-- ---- matrices

-- A list is the same as itself.
list-itself : (xs : List Value) → same_list xs xs ≡ true
list-itself xs = ap is_eq (tied_itself orders_total (of_list xs))

-- A matrix whose items match.
axis-matched : (i : Domain) (is : Domains) (p q : Value → Bool) →
    Matched (nested_matrix is p) (nested_matrix (domains_with_positions is) q) →
    Matched (nested_matrix (more_domains i is) p) (nested_matrix (domains_with_positions (more_domains i is)) q)
axis-matched i is p q rest = record { up = up; back = back }
  where
    made : (j : Domain) (js : Domains) (r : Value → Bool) (ix xs : Values) → members j ≡ Some (to_list ix) →
        nat_eq (length (to_list ix)) (length (to_list xs)) ≡ true →
        list_all (nested_matrix js r) (to_list xs) ≡ true → nested_matrix (more_domains j js) r (matrix ix xs) ≡ true
    made j js r ix xs e l h =
        ap (λ o. is_some_and o (λ vs. same_list vs (to_list ix)) && nat_eq (length (to_list ix)) (length (to_list xs)) && list_all (nested_matrix js r) (to_list xs)) e
        ∙ and-both (same_list (to_list ix) (to_list ix) && nat_eq (length (to_list ix)) (length (to_list xs)))
        (list_all (nested_matrix js r) (to_list xs))
        (and-both (same_list (to_list ix) (to_list ix)) (nat_eq (length (to_list ix)) (length (to_list xs))) (list-itself (to_list ix)) l) h

    lengths : (xs : Values) → length (to_list (all_with_positions xs)) ≡ length (to_list xs)
    lengths xs = ap length (parts-with xs) ∙ length-with (to_list xs)

    up : (v : Value) → nested_matrix (more_domains i is) p v ≡ true →
        nested_matrix (domains_with_positions (more_domains i is)) q (with_positions v) ≡ true
    up v h =
        let s = shape-of i is p v h in
        ap (λ u. nested_matrix (domains_with_positions (more_domains i is)) q (with_positions u)) s.form
        ∙ made (domain_with_positions i) (domains_with_positions is) q (all_with_positions s.ix) (all_with_positions s.xs)
        (members-with i ∙ ap (option_map with_each) (indices-are i s.ix s.indices) ∙ ap Some (sym (parts-with s.ix)))
        (ap (λ k. nat_eq k (length (to_list (all_with_positions s.xs)))) (lengths s.ix) ∙ ap (nat_eq (length (to_list s.ix))) (lengths s.xs) ∙ s.long)
        (ap (list_all (nested_matrix (domains_with_positions is) q)) (parts-with s.xs) ∙ all-there (nested_matrix is p) (nested_matrix (domains_with_positions is) q) rest.up (to_list s.xs) s.items)

    -- the members of the index domain whose values with positions these are
    listed : (o : Option (List Value)) (ys : List Value) → option_map with_each o ≡ Some ys →
        (vs : List Value) × (o ≡ Some vs) × (with_each vs ≡ ys)
    listed None ys e = cc
    listed (Some vs) ys e = (vs, refl, some e)
      where
        some : Some (with_each vs) ≡ Some ys → with_each vs ≡ ys
        some e = cc

    back : (w : Value) → nested_matrix (domains_with_positions (more_domains i is)) q w ≡ true →
        Back (nested_matrix (more_domains i is) p) w
    back w h =
        let s = shape-of (domain_with_positions i) (domains_with_positions is) q w h in
        let x = listed (members i) (to_list s.ix) (sym (members-with i) ∙ indices-are (domain_with_positions i) s.ix s.indices) in
        let y = list-back (nested_matrix is p) (nested_matrix (domains_with_positions is) q) rest (to_list s.xs) s.items in (
          matrix (of_list x.0) (of_list y.0),
          made i is p (of_list x.0) (of_list y.0) (x.1 ∙ ap Some (sym (to_list-of_list x.0)))
              (ap (λ l. nat_eq (length l) (length (to_list (of_list y.0)))) (to_list-of_list x.0) ∙ ap (λ l. nat_eq (length x.0) (length l)) (to_list-of_list y.0)
              ∙ ap (λ k. nat_eq k (length y.0)) (sym (length-with x.0) ∙ ap length x.2)
              ∙ ap (nat_eq (length (to_list s.ix))) (sym (length-with y.0) ∙ ap length y.2) ∙ s.long)
              (ap (list_all (nested_matrix is p)) (to_list-of_list y.0) ∙ y.1),
          ap (λ u. matrix u (all_with_positions (of_list y.0))) (list-with x.0 ∙ ap of_list x.2 ∙ of_list-to_list s.ix)
              ∙ ap (matrix s.ix) (list-with y.0 ∙ ap of_list y.2 ∙ of_list-to_list s.xs) ∙ sym s.form,
        )

matrices-matched : (is : Domains) (p q : Value → Bool) → Matched p q →
    Matched (nested_matrix is p) (nested_matrix (domains_with_positions is) q)
matrices-matched no_domains p q m = m
matrices-matched (more_domains i is) p q m = axis-matched i is p q (matrices-matched is p q m)

-- ---- tuples

-- Components that match.
record Components (ds : Domains) : Type 0 where
  up : (vs : Values) → member_of_each ds vs ≡ true → member_of_each (domains_with_positions ds) (all_with_positions vs) ≡ true
  back : (ws : Values) → member_of_each (domains_with_positions ds) ws ≡ true →
      (vs : Values) × (member_of_each ds vs ≡ true) × (all_with_positions vs ≡ ws)

tuples-matched : (ds : Domains) → Components ds → Matched (member (tuples ds)) (member (tuples (domains_with_positions ds)))
tuples-matched ds c = record {
  up = λ v h. let x = tuple-form ds v h in ap (λ u. member (tuples (domains_with_positions ds)) (with_positions u)) x.1 ∙ c.up x.0 x.2;
  back = λ w h. let x = tuple-form (domains_with_positions ds) w h in let y = c.back x.0 x.2 in
      (tuple y.0, y.1, ap (node a_tuple) y.2 ∙ sym x.1);
}

-- One more component.
joined : (d : Domain) (ds : Domains) → Matched (member d) (member (domain_with_positions d)) → Components ds →
    Components (more_domains d ds)
joined d ds m c = record { up = up; back = back }
  where
    up : (vs : Values) → member_of_each (more_domains d ds) vs ≡ true →
        member_of_each (domains_with_positions (more_domains d ds)) (all_with_positions vs) ≡ true
    up nil h = cc
    up (cons v vs) h =
        and-both (member (domain_with_positions d) (with_positions v)) (member_of_each (domains_with_positions ds) (all_with_positions vs))
        (m.up v (and-left (member d v) (member_of_each ds vs) h)) (c.up vs (and-right (member d v) (member_of_each ds vs) h))

    back : (ws : Values) → member_of_each (domains_with_positions (more_domains d ds)) ws ≡ true →
        (vs : Values) × (member_of_each (more_domains d ds) vs ≡ true) × (all_with_positions vs ≡ ws)
    back nil h = cc
    back (cons w ws) h =
        let x = m.back w (and-left (member (domain_with_positions d) w) (member_of_each (domains_with_positions ds) ws) h) in
        let y = c.back ws (and-right (member (domain_with_positions d) w) (member_of_each (domains_with_positions ds) ws) h) in
        (cons x.0 y.0, and-both (member d x.0) (member_of_each ds y.0) x.1 y.1, ap (λ v. cons v (all_with_positions y.0)) x.2 ∙ ap (cons w) y.2)

-- a tuple of components is one of members
whole-tuple : (ds : Domains) (vs : Values) → member_of_each ds vs ≡ true → tuple_member ds (tuple vs) ≡ true
whole-tuple no_domains nil h = refl
whole-tuple no_domains (cons v vs) h = cc
whole-tuple (more_domains d ds) nil h = cc
whole-tuple (more_domains d ds) (cons v vs) h = h

entries-matched : (ds : Domains) → Components ds → Matched (tuple_member ds) (tuple_member (domains_with_positions ds))
entries-matched ds c = record {
  up = λ v h. let x = tuple-components ds v h in
      ap (λ u. tuple_member (domains_with_positions ds) (with_positions u)) x.1
      ∙ whole-tuple (domains_with_positions ds) (all_with_positions x.0) (c.up x.0 x.2);
  back = λ w h. let x = tuple-components (domains_with_positions ds) w h in
      let y = c.back x.0 x.2 in (tuple y.0, whole-tuple ds y.0 y.1, ap (node a_tuple) y.2 ∙ sym x.1);
}

records-matched : (fs : List Text) (ds : Domains) → Components ds →
    Matched (member (records fs ds)) (member (records fs (domains_with_positions ds)))
records-matched fs ds c = record { up = up; back = back }
  where
    up : (v : Value) → member (records fs ds) v ≡ true → member (records fs (domains_with_positions ds)) (with_positions v) ≡ true
    up (node (a_record gs) vs) h =
        and-both (same_texts fs gs) (member_of_each (domains_with_positions ds) (all_with_positions vs))
        (and-left (same_texts fs gs) (member_of_each ds vs) h)
        (c.up vs (and-right (same_texts fs gs) (member_of_each ds vs) h))
    up (number n) h = cc
    up (truth b) h = cc
    up (item t k) h = cc
    up (node k vs) h = cc

    back : (w : Value) → member (records fs (domains_with_positions ds)) w ≡ true → Back (member (records fs ds)) w
    back (node (a_record gs) ws) h =
        let y = c.back ws (and-right (same_texts fs gs) (member_of_each (domains_with_positions ds) ws) h) in
        (node (a_record gs) y.0, and-both (same_texts fs gs) (member_of_each ds y.0) (and-left (same_texts fs gs) (member_of_each (domains_with_positions ds) ws) h) y.1, ap (node (a_record gs)) y.2)
    back (number n) h = cc
    back (truth b) h = cc
    back (item t k) h = cc
    back (node k vs) h = cc

-- ---- relations

-- Members of either of two domains whose members stand in one order.
either-agree : (d e : Domain) → Typed d → Typed e → SameOrder d e × SameOrder e d → Agree (λ v. member d v || member e v) (λ v. member d v || member e v)
either-agree d e t u o v w h k = go (member d v) refl (member d w) refl h k
  where
    go : (a : Bool) → member d v ≡ a → (b : Bool) → member d w ≡ b → a || member e v ≡ true → b || member e w ≡ true →
        order (with_positions v) (with_positions w) ≡ order v w
    go true p true q h k = order-agrees d d (type-itself d t) v w p q
    go true p false q h k = o.0 v w p k
    go false p true q h k = o.1 v w h q
    go false p false q h k = order-agrees e e (type-itself e u) v w h k

relation-attributes : (ks : List Attribute) (ds : Domains) → (list_any is_unnumbered ks ≡ true → ArePairs ds) → AllTyped ds →
    (ps : List Value) → list_all (tuple_member ds) ps ≡ true →
    relation_attributes_hold ks (domains_with_positions ds) (with_each ps) ≡ relation_attributes_hold ks ds ps
relation-attributes ks ds a t ps h = go (list_any is_unnumbered ks) refl
  where
    paired : (ds : Domains) → ArePairs ds → AllTyped ds → list_all (tuple_member ds) ps ≡ true →
        relation_attributes_hold ks (domains_with_positions ds) (with_each ps) ≡ relation_attributes_hold ks ds ps
    paired (more_domains d (more_domains e no_domains)) o t h = pairs-attributes ks d e (either-agree d e t.0 t.1.0 o) ps h
    paired no_domains o t h = absurd o
    paired (more_domains d no_domains) o t h = absurd o
    paired (more_domains d (more_domains e (more_domains f ds))) o t h = absurd o

    go : (b : Bool) → list_any is_unnumbered ks ≡ b →
        relation_attributes_hold ks (domains_with_positions ds) (with_each ps) ≡ relation_attributes_hold ks ds ps
    go false q =
        numbered-same ks (λ k z. size_holds k z (length (with_each ps))) (λ k z. size_holds k z (length ps))
        (λ k. relation_holds k (head_members (domains_with_positions ds)) (with_each ps)) (λ k. relation_holds k (head_members ds) ps) q
        (λ k z. ap (size_holds k z) (length-with ps))
    go true q = paired ds (a q) t h

-- ---- all domains

itself-agrees : (d : Domain) → Typed d → Agree (member d) (member d)
itself-agrees d t = order-agrees d d (type-itself d t)

mutual
  -- Members have values with positions that are members, and each of these is one.
  pub members-matched : (e : Domain) → Typed e → Matched (member e) (member (domain_with_positions e))
  members-matched booleans t = booleans-matched
  members-matched (integers ss) t = integers-matched ss
  members-matched (named a n) t = named-matched a n
  members-matched (tuples ds) t = tuples-matched ds (components ds t)
  members-matched (records fs ds) t = records-matched fs ds (components ds t)
  members-matched (matrices is d) t = matrices-matched is (member d) (member (domain_with_positions d)) (members-matched d t.1)
  members-matched (sets ks d) t = sets-matched ks d (itself-agrees d t) (members-matched d t)
  members-matched (msets ks d) t = msets-matched ks d (itself-agrees d t) (members-matched d t)
  members-matched (functions ks d c) t =
      functions-matched ks d c (itself-agrees d t.0) (itself-agrees c t.1) (members-matched d t.0) (members-matched c t.1)
  members-matched (relations ks ds) t =
      relations-matched ks ds (tuples-agree ds ds (all-agree ds ds (types-themselves ds t.1))) (entries-matched ds (components ds t.1))
      (relation-attributes ks ds t.0 t.1)
  members-matched (partitions ks d) t = partitions-matched ks d (itself-agrees d t) (members-matched d t)

  components : (ds : Domains) → AllTyped ds → Components ds
  components no_domains t = record { up = up; back = back }
    where
      up : (vs : Values) → member_of_each no_domains vs ≡ true → member_of_each no_domains (all_with_positions vs) ≡ true
      up nil h = refl
      up (cons v vs) h = cc

      back : (ws : Values) → member_of_each no_domains ws ≡ true →
          (vs : Values) × (member_of_each no_domains vs ≡ true) × (all_with_positions vs ≡ ws)
      back nil h = (nil, refl, refl)
      back (cons w ws) h = cc
  components (more_domains d ds) t = joined d ds (members-matched d t.0) (components ds t.1)

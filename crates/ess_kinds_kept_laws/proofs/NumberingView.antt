-- A view of a partition that is kept by the number of each member's part: its numbers, and the view of them as a function.
use Rattle.std.proofs.Common.{◌≡◌, refl, sym, ap, ◌∙◌, ℕ, ◌≤◌, Bool, true, false, ◌&&◌, not, if◌then◌else◌, List, [], ◌∷◌, ◌++◌, map, length, ℤ, pos, negsuc, Option, Some, None, option_map, nat_le}
use Rattle.std.proofs.lemmas.Bool.{leb-true}
use Rattle.std.specs.List.{list_all}
use Rattle.ess_semantics.specs.declared.words.Key.{Key}
use Rattle.ess_semantics.specs.declared.words.ReprKind.{ReprKind}
use Rattle.ess_semantics.specs.Lists.{and_then, each_of, is_some_and, when, list_or_none}
use Rattle.ess_semantics.specs.Values.{a_partition, Text, Value, number, node, from_of, to_of, of_list, itself}
use Rattle.ess_semantics.specs.Collections.{holds, sorted_once, rises, partition_of, has_empty_part, has_overlap}
use Rattle.ess_semantics.specs.Names.{look}
use Rattle.ess_semantics.specs.Trees.{both_ends, flag, Mark, Repr, repr, no_reprs, more_reprs, Ex, Exs, no_exs, seen_ex, Dom, partition_dom, function_dom}
use Rattle.ess_semantics.specs.Domains.{flagged, Domain, integers, functions, partitions, members, member_list, lists_of}
use Rattle.ess_semantics.specs.Membership.{member, is_pair}
use Rattle.ess_semantics.specs.Tables.{Table, code, cell_at}
use Rattle.ess_semantics.specs.Cells.{cells_at}
use Rattle.ess_semantics.specs.Layers.{codes_of, only_child}
use Rattle.ess_semantics.specs.FunctionLayers.{with_arguments, function_with}
use Rattle.ess_semantics.specs.PartitionLayers.{is_part_number, partition_from_numbers}
use Rattle.ess_semantics.specs.Representations.{value_of_tables}
use Rattle.ess_semantics.specs.Tidy.{tidy, over_axes, is_orderly}
use Rattle.ess_semantics.specs.Meaning.{Env, meaning, meanings, attributes_of, domain_of, indices, spans_of}
use Rattle.ess_semantics.specs.Meets.{Meets}
use Rattle.ess_semantics.specs.Atoms.{Listed}
use Rattle.ess_semantics.proofs.Tests.{and-left, and-right, and-both, some-and, not-true}
use Rattle.ess_semantics.proofs.Orders.{to_list-of_list}
use Rattle.ess_semantics.proofs.Overlaps.{apart-distinct, no-overlap}
use Rattle.ess_semantics.proofs.Sorting.{Distinct, sorted_once-length}
use Rattle.ess_repr_laws.proofs.AllMembersListed.{domain-listed}
use Rattle.ess_repr_laws.proofs.Parts.{partition-member}
use Rattle.ess_repr_laws.proofs.PartNumbers.{parts-length}
use Rattle.ess_rules_laws.specs.SlotListings.{slots_dom}
use Rattle.ess_rules_laws.proofs.FunctionViewParts.{tables-split}
use Rattle.ess_rules_laws.proofs.ArgumentRuns.{atom_index, atom-members-there}
use Rattle.ess_views_laws.specs.PartitionViews.{numbering}
use Rattle.ess_views_kept_laws.proofs.OpenedViews.{opened, opened-means, opened-value}
use Rattle.ess_views_kept_laws.proofs.ChildViews.{partition-parts}
use Rattle.ess_views_kept_laws.proofs.ComponentViews.{IsView, view-of}
use Rattle.ess_kinds_kept_laws.specs.PartitionAsks.{NumbersEnough}
use Rattle.ess_kinds_kept_laws.proofs.PartNumbering.{Part, Parts}
use Rattle.ess_kinds_kept_laws.proofs.MemberNumbers.{number_or_0, numbers-are, there-each, numbered-firsts, numbered-rise, numbered-members, all-themselves, wider, each-number, each-over, all-so}

-- ---- the view

module _ (ms : List Mark) (es : Exs) (dd : Dom) (m w : Text) (js : Exs) (env : Env) where
  abbrev R : Repr
  R = repr ReprKind.PartitionOccurrence no_reprs

  abbrev pub PartsView : Ex
  PartsView = seen_ex R (partition_dom ms es dd) (m ∷ w ∷ []) js

  -- How many parts there are, and the number of each member.
  pub record PartsSeen : Type 0 where
    pub x : Domain
    pub xs : List Value
    pub t : Table
    pub u : Table
    pub i : List ℤ
    pub c : ℕ
    pub inner_is : domain_of dd env ≡ Some x
    pub members_are : members x ≡ Some xs
    pub first_is : look env.cells m ≡ Some t
    pub second_is : look env.cells w ≡ Some u
    pub index_is : indices (meanings js env) ≡ Some i
    pub count_is : cell_at t (i ++ []) ≡ Some (pos c)
    pub numbers_are : each_of xs (λ v. cell_at u (i ++ (code v ∷ []))) ≡
        Some (map (λ v. number_or_0 (cell_at u (i ++ (code v ∷ [])))) xs)
    pub in_range : list_all (is_part_number c) (map (λ v. number_or_0 (cell_at u (i ++ (code v ∷ [])))) xs) ≡ true
    pub is_value : meaning PartsView env ≡
        Some (node a_partition (of_list (sorted_once (Parts xs (λ v. number_or_0 (cell_at u (i ++ (code v ∷ [])))) c))))
    pub different : Distinct (Parts xs (λ v. number_or_0 (cell_at u (i ++ (code v ∷ [])))) c)
    pub over_members : over_axes i ((codes_of x ∷ []) ∷ []) (u ∷ []) ≡ true

  -- A partition made of numbers.
  record Numbered (xs : List Value) (g : Value → Option ℤ) (o : Option ℤ) (v : Value) : Type 0 where
    pub c : ℕ
    pub count_is : o ≡ Some (pos c)
    pub numbers_are : each_of xs g ≡ Some (map (λ v. number_or_0 (g v)) xs)
    pub in_range : list_all (is_part_number c) (map (λ v. number_or_0 (g v)) xs) ≡ true
    pub whole : v ≡ node a_partition (of_list (sorted_once (Parts xs (λ v. number_or_0 (g v)) c)))
    pub different : Distinct (Parts xs (λ v. number_or_0 (g v)) c)

  numbered : (xs : List Value) (g : Value → Option ℤ) (o : Option ℤ) (p : Option (List ℤ)) (v : Value) → each_of xs g ≡ p →
      and_then o (λ n. and_then p (λ ws. partition_from_numbers xs ws n)) ≡ Some v → Numbered xs g o v
  numbered xs g None p v e q = cc
  numbered xs g (Some z) None v e q = cc
  numbered xs g (Some (negsuc n)) (Some ws) v e q = cc
  numbered xs g (Some (pos c)) (Some ws) v e q = let a = numbers-are g xs ws e in
      ranged (list_all (is_part_number c) (map W xs)) refl (ap (λ l. partition_from_numbers xs l (pos c)) (sym a) ∙ q) (e ∙ ap Some a)
    where
      W : Value → ℤ
      W v = number_or_0 (g v)

      P : List Value
      P = Parts xs W c

      made : (b : Bool) → not (has_empty_part P) && not (has_overlap P) ≡ b → when b (node a_partition (of_list (sorted_once P))) ≡ Some v →
          list_all (is_part_number c) (map W xs) ≡ true → each_of xs g ≡ Some (map W xs) → Numbered xs g (Some (pos c)) v
      made false d q r e = cc
      made true d q r e = record {
        c = c;
        count_is = refl;
        numbers_are = e;
        in_range = r;
        whole = sym (let z : node a_partition (of_list (sorted_once P)) ≡ v = cc in z);
        different = apart-distinct P (not-true (has_empty_part P) (and-left _ _ d)) (no-overlap P (and-right _ _ d));
      }

      ranged : (b : Bool) → list_all (is_part_number c) (map W xs) ≡ b → (if b then partition_of P else None) ≡ Some v →
          each_of xs g ≡ Some (map W xs) → Numbered xs g (Some (pos c)) v
      ranged false r q e = cc
      ranged true r q e = made (not (has_empty_part P) && not (has_overlap P)) refl q r e

  pub parts-seen : Meets PartsView env → PartsSeen
  parts-seen h = let o = opened R (partition_dom ms es dd) (m ∷ w ∷ []) js env h in
      let d = partition-parts (attributes_of ms (meanings es env)) (domain_of dd env) o.d o.domain_is in
      let s = tables-split m (w ∷ []) env o.ts o.tables_are in
      let r = tables-split w [] env s.1 s.3 in
      let ts-are : o.ts ≡ s.0 ∷ r.0 ∷ [] = s.4 ∙ ap (λ l. s.0 ∷ l) (r.4 ∙ ap (λ l. r.0 ∷ l)
      (let e : [] ≡ r.1 = let z : Some [] ≡ Some r.1 = r.3 in cc in sym e)) in
      let v = opened-value R (partition_dom ms es dd) (m ∷ w ∷ []) js env o in
      let y : tidy R (partitions d.0 d.1) (s.0 ∷ r.0 ∷ []) o.i ≡ true = ap (λ z. tidy R z (s.0 ∷ r.0 ∷ []) o.i) (sym d.2)
      ∙ ap (λ z. tidy R o.d z o.i) (sym ts-are) ∙ o.is_tidy in
      let value : value_of_tables R (partitions d.0 d.1) (s.0 ∷ r.0 ∷ []) o.i ≡ Some v.0 =
      ap (λ z. value_of_tables R z (s.0 ∷ r.0 ∷ []) o.i) (sym d.2) ∙ ap (λ z. value_of_tables R o.d z o.i) (sym ts-are) ∙ v.1 in
      let p = partition-member d.0 d.1 v.0 (ap (λ z. member z v.0) (sym d.2) ∙ v.2) in
      let us = some-and (members d.1) _ p.2.whole in
      let list-is : member_list d.1 ≡ us.0 = ap list_or_none us.1 in
      let n = numbered us.0 (λ v. cell_at r.0 (o.i ++ (code v ∷ []))) (cell_at s.0 (o.i ++ []))
      (each_of us.0 (λ v. cell_at r.0 (o.i ++ (code v ∷ [])))) v.0 refl
      (ap (λ l. and_then (cell_at s.0 (o.i ++ [])) (λ n. and_then (each_of l (λ v. cell_at r.0 (o.i ++ (code v ∷ []))))
      (λ ws. partition_from_numbers l ws n))) (sym list-is) ∙ value) in record {
        x = d.1;
        xs = us.0;
        t = s.0;
        u = r.0;
        i = o.i;
        c = n.c;
        inner_is = d.3;
        members_are = us.1;
        first_is = s.2;
        second_is = r.2;
        index_is = o.index_is;
        count_is = n.count_is;
        numbers_are = n.numbers_are;
        in_range = n.in_range;
        is_value = opened-means R (partition_dom ms es dd) (m ∷ w ∷ []) js env refl o ∙ v.1 ∙ ap Some n.whole;
        different = n.different;
        over_members = and-right _ _ (and-left _ _ y);
      }

  module _ (h : Meets PartsView env) (s : PartsSeen) (n : Ex) (enough : NumbersEnough n PartsView env) where
    -- The number of a member.
    abbrev pub W : Value → ℤ
    W v = number_or_0 (cell_at s.u (s.i ++ (code v ∷ [])))

    -- There are no more parts than numbers.
    pub few-parts : s.c ≤ enough.often
    few-parts = leb-true s.c enough.often
        (ap (λ k. nat_le k enough.often) (sym (sorted_once-length (Parts s.xs W s.c) s.different
        ∙ parts-length (Part s.xs W s.c) 1 s.c))
        ∙ ap (λ l. nat_le (length l) enough.often) (sym (to_list-of_list (sorted_once (Parts s.xs W s.c))))
        ∙ enough.enough (node a_partition (of_list (sorted_once (Parts s.xs W s.c)))) s.is_value)

    abbrev Numbers : Domain
    Numbers = integers (record { low = Some (pos 1); high = Some (pos enough.often) } ∷ [])

    abbrev F : Repr
    F = repr ReprKind.Function1D (more_reprs (repr ReprKind.Atom no_reprs) no_reprs)

    abbrev D : Domain
    D = functions (flagged Key.Total ∷ []) s.x Numbers

    abbrev Pairs : List Value
    Pairs = with_arguments s.xs (map number (map W s.xs))

    list-is : member_list s.x ≡ s.xs
    list-is = ap list_or_none s.members_are

    listed : Listed s.x
    listed = domain-listed s.x

    places-are : lists_of (codes_of s.x ∷ []) ≡ map atom_index s.xs
    places-are = atom-members-there s.x s.xs s.members_are

    -- What the table of numbers stands for as a function.
    stands : value_of_tables F D (s.u ∷ []) s.i ≡ Some (function_with s.xs (map number (map W s.xs)))
    stands = ap (λ l. and_then (and_then (each_of l (λ j. and_then (cell_at s.u (s.i ++ (j ++ []))) (λ z. Some (number z))))
        (λ vs. Some (vs ∷ []))) (λ vss. Some (function_with (member_list s.x) (only_child vss)))) places-are
        ∙ ap (λ o. and_then (and_then o (λ vs. Some (vs ∷ []))) (λ vss. Some (function_with (member_list s.x) (only_child vss))))
        (each-over atom_index (λ j. and_then (cell_at s.u (s.i ++ (j ++ []))) (λ z. Some (number z))) s.xs
        ∙ each-number (λ v. cell_at s.u (s.i ++ (code v ∷ []))) W s.xs s.numbers_are)
        ∙ ap (λ l. Some (function_with l (map number (map W s.xs)))) list-is

    abbrev Fits : List Value → Bool
    Fits l = rises from_of l && list_all (λ p. is_pair p && member s.x (from_of p) && member Numbers (to_of p)) l
        && (is_some_and (members s.x) (λ vs. list_all (λ x. holds (map from_of l) x) vs) && true)

    fits : Fits Pairs ≡ true
    fits = and-both (rises from_of Pairs && list_all (λ p. is_pair p && member s.x (from_of p) && member Numbers (to_of p)) Pairs) _
        (and-both (rises from_of Pairs) _ (numbered-rise W s.xs (ap (rises itself) (sym list-is) ∙ listed.sorted))
        (numbered-members W (member s.x) (member Numbers) s.xs (ap (list_all (member s.x)) (sym list-is) ∙ listed.members)
        (wider s.c enough.often few-parts (map W s.xs) s.in_range)))
        (and-both (is_some_and (members s.x) (λ vs. list_all (λ x. holds (map from_of Pairs) x) vs)) true
        (ap (λ o. is_some_and o (λ vs. list_all (λ x. holds (map from_of Pairs) x) vs)) s.members_are
        ∙ ap (λ l. list_all (λ x. holds l x) s.xs) (numbered-firsts W s.xs) ∙ all-themselves s.xs s.xs (λ v z. z)) refl)

    typed : member D (function_with s.xs (map number (map W s.xs))) ≡ true
    typed = ap Fits (to_list-of_list Pairs) ∙ fits

    orderly : is_orderly F D (cells_at (s.u ∷ []) s.i) ≡ true
    orderly = and-both (list_all (λ j. true) (lists_of (codes_of s.x ∷ [])) && true) true
        (and-both (list_all (λ j. true) (lists_of (codes_of s.x ∷ []))) true (all-so (lists_of (codes_of s.x ∷ []))) refl) refl

    -- The view of the numbers as a function from the members.
    pub numbering-view : IsView (numbering n dd w js) (function_with s.xs (map number (map W s.xs))) env
    numbering-view = view-of F (function_dom (flag Key.Total ∷ []) no_exs dd (slots_dom n)) (w ∷ []) js env D (s.u ∷ []) s.i
        (function_with s.xs (map number (map W s.xs)))
        (ap (λ o. and_then o (λ x. option_map (functions (flagged Key.Total ∷ []) x) (domain_of (slots_dom n) env))) s.inner_is
        ∙ ap (λ o. option_map (functions (flagged Key.Total ∷ []) s.x) (option_map integers
        (spans_of (both_ends ∷ []) (Some (number (pos 1)) ∷ o ∷ []))))
        enough.says)
        (ap (λ o. and_then o (λ t. option_map (λ ts. t ∷ ts) (Some []))) s.second_is) s.index_is stands typed s.over_members orderly
        (tt, h.1.1, (tt, (enough.met, tt))) h.2

    -- The number of a member is there.
    pub number-there : (v : Value) → holds s.xs v ≡ true → cell_at s.u (s.i ++ (code v ∷ [])) ≡ Some (W v)
    number-there v z = there-each (λ v. cell_at s.u (s.i ++ (code v ∷ []))) s.xs (map W s.xs) s.numbers_are v z

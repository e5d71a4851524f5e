-- Tables that fit are full for the structures of sets and multisets.
use Rattle.std.proofs.Common.{◌≡◌, ℕ, suc, ◌+◌, ◌≤◌, ◌<◌, true, false, List, [], ◌∷◌, drop, ℤ, pos, arith}
use Rattle.ess_semantics.specs.declared.words.Op1.{Op1}
use Rattle.ess_semantics.specs.declared.words.Op2.{Op2}
use Rattle.ess_semantics.specs.declared.words.Fun.{Fun}
use Rattle.ess_semantics.specs.declared.words.Key.{Key}
use Rattle.ess_semantics.specs.declared.words.ReprKind.{ReprKind}
use Rattle.ess_semantics.specs.Values.{Text, number}
use Rattle.ess_semantics.specs.Order.{same_text}
use Rattle.ess_semantics.specs.Sizes.{slots_of_set, slots_of_mset}
use Rattle.ess_semantics.specs.Trees.{word, unary, Mark, Repr, repr, no_reprs, more_reprs, Ex, Exs, number_ex, name_ex, cell_ex, Dom, set_dom, mset_dom}
use Rattle.ess_semantics.specs.Domains.{Attribute, numbered, Domain, sets, msets, member_list}
use Rattle.ess_semantics.specs.Tables.{Tables}
use Rattle.ess_semantics.specs.Meaning.{Env}
use Rattle.ess_repr_laws.specs.MultisetParts.{bare_mset_dom}
use Rattle.ess_repr_laws.specs.StructureParts.{Shape, add_ex, le_ex, upto, own_shape, first_name, next_ex}
use Rattle.ess_repr_laws.specs.Structure.{shapes, structure}
use Rattle.ess_repr_laws.specs.StructureMeaning.{Bound, M, Placed, DomainIs, SlotsAre, axes_members, slot_numbers, fit}
use Rattle.ess_repr_laws.proofs.StructureOf.{StructureOf}
use Rattle.ess_repr_laws.proofs.StructureRows.{Steady, There, steady-more}
use Rattle.ess_repr_declare_laws.specs.SizeTerms.{slots_ex, size_terms}
use Rattle.ess_repr_structure_laws.proofs.BuiltShapes as S'
use Rattle.ess_repr_structure_laws.proofs.BuiltShapes.{AxesHave}
use Rattle.ess_repr_structure_laws.proofs.BuiltStructures as B
use Rattle.ess_repr_structure_laws.proofs.MetParts.{Any}
use Rattle.ess_repr_full_laws.proofs.FullParts.{Anywhere, FullIn, in-here, number-full, two-full, one-full, size-full, sized-anywhere, number-anywhere, name-anywhere, next-anywhere}
use Rattle.ess_repr_full_laws.proofs.FullCells.{of-cells, fold-full}
use Rattle.ess_repr_full_laws.proofs.FullSlots.{Slot, slots-full, use-full, first-full, less-at, at-most-at, each-pair-full}
use Rattle.ess_repr_full_laws.proofs.FullCounts.{inside-full, dummy-anywhere, true-count-full, counts-full}
use Rattle.ess_repr_full_laws.proofs.FullSeen.{view-full, occurs-full}
use Rattle.ess_repr_full_laws.proofs.FullKinds.{FullOf, own-cell-full, slot-full, slot-there, slots-placed, here-full, next-full}

-- The axes of a view's tables read no table.
pub axes-free : (env0 : Env) (q : ℕ → Text) (r : Repr) (d : Dom) (ns : List Text) → B.Good (Anywhere env0) Any d →
    AxesHave (Anywhere env0) (shapes q size_terms r d ns)
axes-free env0 q r d ns g = S'.shapes-have q (Anywhere env0) Any (sized-anywhere env0) r d ns g

module _ (env0 : Env) (q : ℕ → Text) (q-apart : (m l : ℕ) → l < m → same_text (q m) (q l) ≡ false) where
  abbrev B' : Type 0
  B' = Bound env0 q q-apart

  abbrev N : B' → Env
  N = M env0 q q-apart

  -- ---- atoms, and which members occur

  pub atom-full : (d : Dom) (e : Domain) → B.Good (Anywhere env0) Any d → axes_members (repr ReprKind.Atom no_reprs) e ≡ [] ∷ [] →
      FullOf env0 q q-apart (repr ReprKind.Atom no_reprs) d e
  atom-full d e g x = record { full = at }
    where
      at : (ns : List Text) (ts : Tables) (l : ℕ) (is : Exs) (i : List ℤ) (bs : B') → Placed env0 q q-apart
          (shapes q size_terms (repr ReprKind.Atom no_reprs) d ns) (axes_members (repr ReprKind.Atom no_reprs) e) ts →
          There env0 q q-apart (shapes q size_terms (repr ReprKind.Atom no_reprs) d ns) (axes_members
          (repr ReprKind.Atom no_reprs) e) ts i →
          Steady env0 q q-apart l is i bs → B.AllHave (Anywhere env0) is →
          FullIn (structure q size_terms (repr ReprKind.Atom no_reprs) d ns l is) (N bs)
      at ns [] l is i bs p th st a = absurd p
      at ns (t ∷ ts) l is i bs p th st a =
          inside-full env0 (N bs) d _ g (own-cell-full env0 q q-apart _ (first_name ns) t _ l is i bs p.0 th.0 st a)

  pub occurrence-full : (ms : List Mark) (es : Exs) (d : Dom) (ks : List Attribute) (e : Domain) →
      B.Good (Anywhere env0) Any (set_dom ms es d) →
      FullOf env0 q q-apart (repr ReprKind.Occurrence no_reprs) (set_dom ms es d) (sets ks e)
  occurrence-full ms es d ks e g = record {
    full = λ ns ts l is i bs p th st a. at ns ts l is i bs p th st a;
  }
    where
      at : (ns : List Text) (ts : Tables) (l : ℕ) (is : Exs) (i : List ℤ) (bs : B') → Placed env0 q q-apart
          (own_shape ns true (d ∷ []) ∷ []) ((member_list e ∷ []) ∷ []) ts →
          There env0 q q-apart (own_shape ns true (d ∷ []) ∷ []) ((member_list e ∷ []) ∷ []) ts i → Steady env0 q q-apart l is i bs →
          B.AllHave (Anywhere env0) is →
          FullIn (structure q size_terms (repr ReprKind.Occurrence no_reprs) (set_dom ms es d) ns l is) (N bs)
      at ns [] l is i bs p th st a = absurd p
      at ns (t ∷ ts) l is i bs p th st a = size-full env0 (N bs) ms es _ g.0
          (true-count-full env0 q q-apart l (first_name ns) t (d ∷ []) (member_list e ∷ []) is i bs (fit true) p.0 p.1
          (B.good-has (Anywhere env0) Any d g.1, tt) a th.0 st)

  pub mset-occurrence-full : (ms : List Mark) (es : Exs) (d : Dom) (ks : List Attribute) (e : Domain) → B.Good (Anywhere env0) Any
      (mset_dom ms es d) → FullOf env0 q q-apart (repr ReprKind.MSetOccurrence no_reprs) (mset_dom ms es d) (msets ks e)
  mset-occurrence-full ms es d ks e g = record {
    full = λ ns ts l is i bs p th st a. at ns ts l is i bs p th st a;
  }
    where
      at : (ns : List Text) (ts : Tables) (l : ℕ) (is : Exs) (i : List ℤ) (bs : B') → Placed env0 q q-apart
          (own_shape ns false (d ∷ []) ∷ []) ((member_list e ∷ []) ∷ []) ts →
          There env0 q q-apart (own_shape ns false (d ∷ []) ∷ []) ((member_list e ∷ []) ∷ []) ts i → Steady env0 q q-apart l is i bs →
          B.AllHave (Anywhere env0) is →
          FullIn (structure q size_terms (repr ReprKind.MSetOccurrence no_reprs) (mset_dom ms es d) ns l is) (N bs)
      at ns [] l is i bs p th st a = absurd p
      at ns (t ∷ ts) l is i bs p th st a =
          counts-full env0 q q-apart l (first_name ns) t (d ∷ []) (member_list e ∷ []) is i bs (fit false) p.0 p.1
          (B.good-has (Anywhere env0) Any d g.2, tt) a th.0 st ms es g.1

  -- ---- sets in slots

  module _ (ms : List Mark) (es : Exs) (d : Dom) (ks : List Attribute) (e : Domain)
      (sl : SlotsAre env0 q q-apart size_terms (set_dom ms es d) (slots_of_set ks e))
      (g : B.Good (Anywhere env0) Any (set_dom ms es d)) where
    abbrev S : ℕ
    S = slots_of_set ks e

    abbrev size : Ex
    size = slots_ex (set_dom ms es d)

    size-free : Anywhere env0 size
    size-free = B.set-slots (Anywhere env0) Any (sized-anywhere env0) ms es d g

    abbrev Here : Repr → List Text → Tables → ℕ → Exs → List ℤ → B' → Type 0
    Here r ns ts l is i bs =
        Placed env0 q q-apart (shapes q size_terms r (set_dom ms es d) ns) (axes_members r (sets ks e)) ts →
        There env0 q q-apart (shapes q size_terms r (set_dom ms es d) ns) (axes_members r (sets ks e)) ts i →
        Steady env0 q q-apart l is i bs → B.AllHave (Anywhere env0) is → FullIn (structure q size_terms r (set_dom ms es d) ns l is) (N bs)

    dummy-at : (ns : List Text) (ts : Tables) (l : ℕ) (is : Exs) (i : List ℤ) (bs : B') →
        Here (repr ReprKind.ExplicitVarSizeWithDummy no_reprs) ns ts l is i bs
    dummy-at ns [] l is i bs p th st a = absurd p
    dummy-at ns (t ∷ ts) l is i bs p th st a =
        let n : Text = first_name ns in
        let df : Anywhere env0 (size_terms.dummy d) = dummy-anywhere env0 d g.1 in
        two-full (N bs) true Op2.And _ _
        (two-full (N bs) true Op2.And _ _
        (fold-full env0 q q-apart true Fun.And _ bs (of-cells env0 q q-apart l false n t (upto size ∷ []) (slot_numbers S) is i bs _
        (fit false) p.0 p.1
        ((number-anywhere env0 (pos 1), (size-free, tt)), tt) a th.0 st
        (λ cs c. two-full (N cs) true Op2.Or _ _ (inside-full env0 (N cs) d _ g.1 c)
        (two-full (N cs) true Op2.Eq (size_terms.dummy d) _ (in-here env0 (size_terms.dummy d) (N cs) df) c))))
        (each-pair-full env0 q q-apart l size _ S bs (sl bs) size-free
        (λ k x y. let z : B' = (l, number (pos k)) ∷ bs in
        two-full (N z) true Op2.Or _ _ (two-full (N z) true Op2.Eq (size_terms.dummy d) _ (in-here env0 (size_terms.dummy d) (N z) df)
        (next-full env0 q q-apart false n t S (fit false) l is i bs p.0 th.0 st a k x y))
        (two-full (N z) true Op2.Lt _ _
        (here-full env0 q q-apart false n t S (fit false) l is i bs p.0 th.0 st a k x (omega (arith, y)))
        (next-full env0 q q-apart false n t S (fit false) l is i bs p.0 th.0 st a k x y)))))
        (size-full env0 (N bs) ms es _ g.0 (fold-full env0 q q-apart false Fun.Sum _ bs
        (of-cells env0 q q-apart l false n t (upto size ∷ []) (slot_numbers S) is i bs _ (fit false) p.0 p.1
        ((number-anywhere env0 (pos 1), (size-free, tt)), tt) a th.0 st
        (λ cs c. one-full (N cs) false (word Fun.ToInt) _ (one-full (N cs) true (unary Op1.Not) _
        (two-full (N cs) true Op2.Eq (size_terms.dummy d) _ (in-here env0 (size_terms.dummy d) (N cs) df) c))))))

    pub dummy-full : FullOf env0 q q-apart (repr ReprKind.ExplicitVarSizeWithDummy no_reprs) (set_dom ms es d) (sets ks e)
    dummy-full = record { full = dummy-at }

    module _ (r : Repr) (m : FullOf env0 q q-apart r d e) where
      abbrev ss : List Text → List Shape
      ss ns = shapes q size_terms r d ns

      pub explicit-full : FullOf env0 q q-apart (repr ReprKind.Explicit (more_reprs r no_reprs)) (set_dom ms es d) (sets ks e)
      explicit-full = record {
        full = λ ns ts l is i bs p th st a.
            two-full (N bs) true Op2.And _ _ (size-full env0 (N bs) ms es size g.0 (in-here env0 size (N bs) size-free))
            (slots-full env0 q q-apart l size S (ss ns) (axes_members r e) ts is i bs (sl bs) size-free
            (slots-placed env0 q q-apart r d e m size S ns ts i p th) (slot-there env0 q q-apart r d e m size S ns ts i p th)
            (axes-free env0 q r d ns g.1) a st size _ (λ k. in-here env0 size (N ((l, number (pos k)) ∷ bs)) size-free)
            (slot-full env0 q q-apart r d e m size S ns ts i p th l is bs a st));
      }

      marker-at : (ns : List Text) (ts : Tables) (l : ℕ) (is : Exs) (i : List ℤ) (bs : B') →
          Here (repr ReprKind.ExplicitVarSizeWithMarker (more_reprs r no_reprs)) ns ts l is i bs
      marker-at ns [] l is i bs p th st a = absurd p
      marker-at ns (t ∷ ts) l is i bs p th st a =
          let n : Text = first_name ns in
          two-full (N bs) true Op2.And _ _ (size-full env0 (N bs) ms es (cell_ex false n is) g.0
          (own-cell-full env0 q q-apart false n t (fit false) l is i bs p.0 th.0 st a))
          (slots-full env0 q q-apart l size S (ss (drop 1 ns)) (axes_members r e) ts is i bs (sl bs) size-free
          (slots-placed env0 q q-apart r d e m size S (drop 1 ns) ts i p.2 th.1)
          (slot-there env0 q q-apart r d e m size S (drop 1 ns) ts i p.2 th.1)
          (axes-free env0 q r d (drop 1 ns) g.1) a st (cell_ex false n is) _
          (λ k. own-cell-full env0 q q-apart false n t (fit false) (suc l) is i ((l, number (pos k)) ∷ bs) p.0 th.0
          (steady-more env0 q q-apart l (number (pos k)) is i bs st) a)
          (slot-full env0 q q-apart r d e m size S (drop 1 ns) ts i p.2 th.1 l is bs a st))

      pub marker-full : FullOf env0 q q-apart (repr ReprKind.ExplicitVarSizeWithMarker (more_reprs r no_reprs)) (set_dom ms es d)
          (sets ks e)
      marker-full = record { full = marker-at }

      flags-at : (ns : List Text) (ts : Tables) (l : ℕ) (is : Exs) (i : List ℤ) (bs : B') →
          Here (repr ReprKind.ExplicitVarSizeWithFlags (more_reprs r no_reprs)) ns ts l is i bs
      flags-at ns [] l is i bs p th st a = absurd p
      flags-at ns (t ∷ ts) l is i bs p th st a =
          let n : Text = first_name ns in
          let fh = here-full env0 q q-apart true n t S (fit true) l is i bs p.0 th.0 st a in
          let fn = next-full env0 q q-apart true n t S (fit true) l is i bs p.0 th.0 st a in
          let pl = slots-placed env0 q q-apart r d e m size S (drop 1 ns) ts i p.2 th.1 in
          let at = slot-there env0 q q-apart r d e m size S (drop 1 ns) ts i p.2 th.1 in
          let ax = axes-free env0 q r d (drop 1 ns) g.1 in
          two-full (N bs) true Op2.And _ _
          (two-full (N bs) true Op2.And _ _ (first-full env0 q q-apart l size _ _ S bs (sl bs) size-free fh fn)
          (use-full env0 q q-apart l size S (ss (drop 1 ns)) (axes_members r e) ts is i bs (sl bs) size-free pl at ax a st _ _ _ _ fh fn
          (less-at env0 q q-apart l size S (ss (drop 1 ns)) (axes_members r e) ts is i bs (sl bs) size-free pl at ax a st)
          (slot-full env0 q q-apart r d e m size S (drop 1 ns) ts i p.2 th.1 l is bs a st)))
          (size-full env0 (N bs) ms es _ g.0 (true-count-full env0 q q-apart l n t (upto size ∷ []) (slot_numbers S) is i bs
          (fit true) p.0 p.1
          ((number-anywhere env0 (pos 1), (size-free, tt)), tt) a th.0 st))

      pub flags-full : FullOf env0 q q-apart (repr ReprKind.ExplicitVarSizeWithFlags (more_reprs r no_reprs)) (set_dom ms es d) (sets ks e)
      flags-full = record { full = flags-at }

  -- ---- multisets in slots

  module _ (ms : List Mark) (es : Exs) (d : Dom) (ks : List Attribute) (e : Domain)
      (sl : SlotsAre env0 q q-apart size_terms (mset_dom ms es d) (slots_of_mset ks e)) (g : B.Good (Anywhere env0) Any (mset_dom ms es d))
      (r : Repr) (m : FullOf env0 q q-apart r d e) where
    abbrev S2 : ℕ
    S2 = slots_of_mset ks e

    abbrev size2 : Ex
    size2 = slots_ex (mset_dom ms es d)

    size-free2 : Anywhere env0 size2
    size-free2 = B.mset-slots (Anywhere env0) Any (sized-anywhere env0) ms es d g

    abbrev ss2 : List Text → List Shape
    ss2 ns = shapes q size_terms r d ns

    abbrev Here2 : Repr → List Text → Tables → ℕ → Exs → List ℤ → B' → Type 0
    Here2 r ns ts l is i bs =
        Placed env0 q q-apart (shapes q size_terms r (mset_dom ms es d) ns) (axes_members r (msets ks e)) ts →
        There env0 q q-apart (shapes q size_terms r (mset_dom ms es d) ns) (axes_members r (msets ks e)) ts i →
        Steady env0 q q-apart l is i bs → B.AllHave (Anywhere env0) is → FullIn (structure q size_terms r (mset_dom ms es d) ns l is) (N bs)

    counted-at : (ns : List Text) (ts : Tables) (l : ℕ) (is : Exs) (i : List ℤ) (bs : B') →
        Here2 (repr ReprKind.MSetExplicitWithFlags (more_reprs r no_reprs)) ns ts l is i bs
    counted-at ns [] l is i bs p th st a = absurd p
    counted-at ns (t ∷ ts) l is i bs p th st a =
        let n : Text = first_name ns in
        let pl = slots-placed env0 q q-apart r d e m size2 S2 (drop 1 ns) ts i p.2 th.1 in
        let at = slot-there env0 q q-apart r d e m size2 S2 (drop 1 ns) ts i p.2 th.1 in
        let ax = axes-free env0 q r d (drop 1 ns) g.2 in
        two-full (N bs) true Op2.And _ _
        (two-full (N bs) true Op2.And _ _ (first-full env0 q q-apart l size2 _ _ S2 bs (sl bs) size-free2 fh fn)
        (use-full env0 q q-apart l size2 S2 (ss2 (drop 1 ns)) (axes_members r e) ts is i bs (sl bs) size-free2 pl at ax a st _ _ _ _ fh fn
        (less-at env0 q q-apart l size2 S2 (ss2 (drop 1 ns)) (axes_members r e) ts is i bs (sl bs) size-free2 pl at ax a st)
        (slot-full env0 q q-apart r d e m size2 S2 (drop 1 ns) ts i p.2 th.1 l is bs a st)))
        (counts-full env0 q q-apart l n t (upto size2 ∷ []) (slot_numbers S2) is i bs (fit false) p.0 p.1
        ((number-anywhere env0 (pos 1), (size-free2, tt)), tt) a th.0 st ms es g.1)
      where
        fh : (k : ℕ) → 1 ≤ k → k ≤ S2 → Slot env0 q q-apart l bs
            (le_ex (number_ex (pos 1)) (cell_ex false (first_name ns) (add_ex is (name_ex (q l))))) k
        fh k x y = two-full (N ((l, number (pos k)) ∷ bs)) true Op2.Le _ _ (number-full (N ((l, number (pos k)) ∷ bs)) (pos 1))
            (here-full env0 q q-apart false (first_name ns) t S2 (fit false) l is i bs p.0 th.0 st a k x y)

        fn : (k : ℕ) → 1 ≤ k → k + 1 ≤ S2 → Slot env0 q q-apart l bs
            (le_ex (number_ex (pos 1)) (cell_ex false (first_name ns) (add_ex is (next_ex q l)))) k
        fn k x y = two-full (N ((l, number (pos k)) ∷ bs)) true Op2.Le _ _ (number-full (N ((l, number (pos k)) ∷ bs)) (pos 1))
            (next-full env0 q q-apart false (first_name ns) t S2 (fit false) l is i bs p.0 th.0 st a k x y)

    pub counted-full : FullOf env0 q q-apart (repr ReprKind.MSetExplicitWithFlags (more_reprs r no_reprs)) (mset_dom ms es d) (msets ks e)
    counted-full = record { full = counted-at }

    abbrev kind : Repr
    kind = repr ReprKind.MSetExplicitWithRepetition (more_reprs r no_reprs)

    abbrev bare : Domain
    bare = msets (numbered Key.MaxSize (pos S2) ∷ []) e

    module _ (s : StructureOf env0 q q-apart size_terms kind (bare_mset_dom size2 d) bare)
        (inside : DomainIs env0 q q-apart (bare_mset_dom size2 d) bare) where
      repetition-at : (ns : List Text) (ts : Tables) (l : ℕ) (is : Exs) (i : List ℤ) (bs : B') → Here2 kind ns ts l is i bs
      repetition-at ns [] l is i bs p th st a = absurd p
      repetition-at ns (t ∷ ts) l is i bs p th st a =
          let n : Text = first_name ns in
          let pl = slots-placed env0 q q-apart r d e m size2 S2 (drop 1 ns) ts i p.2 th.1 in
          let at = slot-there env0 q q-apart r d e m size2 S2 (drop 1 ns) ts i p.2 th.1 in
          let ax = axes-free env0 q r d (drop 1 ns) g.2 in
          two-full (N bs) true Op2.And _ _
          (use-full env0 q q-apart l size2 S2 (ss2 (drop 1 ns)) (axes_members r e) ts is i bs (sl bs) size-free2 pl at ax a st
          (le_ex (name_ex (q l)) (cell_ex false n is)) (le_ex (next_ex q l) (cell_ex false n is)) _ _
          (λ k x y. two-full (N ((l, number (pos k)) ∷ bs)) true Op2.Le _ _
          (in-here env0 (name_ex (q l)) (N ((l, number (pos k)) ∷ bs)) (name-anywhere env0 (q l))) (cell k))
          (λ k x y. two-full (N ((l, number (pos k)) ∷ bs)) true Op2.Le _ _
          (in-here env0 (next_ex q l) (N ((l, number (pos k)) ∷ bs)) (next-anywhere env0 q l)) (cell k))
          (at-most-at env0 q q-apart l size2 S2 (ss2 (drop 1 ns)) (axes_members r e) ts is i bs (sl bs) size-free2 pl at ax a st)
          (slot-full env0 q q-apart r d e m size2 S2 (drop 1 ns) ts i p.2 th.1 l is bs a st))
          (two-full (N bs) true Op2.And _ _ (size-full env0 (N bs) ms es (cell_ex false n is) g.1
          (own-cell-full env0 q q-apart false n t (fit false) l is i bs p.0 th.0 st a))
          (occurs-full env0 q q-apart l bs _ (view-full env0 q q-apart kind (bare_mset_dom size2 d) bare s inside
          ((size-free2, tt), B.good-has (Anywhere env0) Any d g.2) ns (t ∷ ts) l is i bs p th st a) ms es g.1))
        where
          cell : (k : ℕ) → Slot env0 q q-apart l bs (cell_ex false (first_name ns) is) k
          cell k = own-cell-full env0 q q-apart false (first_name ns) t (fit false) (suc l) is i ((l, number (pos k)) ∷ bs) p.0 th.0
              (steady-more env0 q q-apart l (number (pos k)) is i bs st) a

      pub repetition-full : FullOf env0 q q-apart kind (mset_dom ms es d) (msets ks e)
      repetition-full = record { full = repetition-at }

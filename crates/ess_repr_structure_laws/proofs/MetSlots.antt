-- Tables meet the structures of sets and multisets.
use Rattle.std.proofs.Common.{◌≡◌, sym, ap, ◌∙◌, ℕ, suc, ◌<◌, Bool, true, false, ◌&&◌, ◌||◌, if◌then◌else◌, List, [], ◌∷◌, ◌++◌, drop, length, ℤ, pos, int_le, Some, append-nil}
use Rattle.std.proofs.lemmas.Bool.{le-leb}
use Rattle.ess_semantics.specs.declared.words.Key.{Key}
use Rattle.ess_semantics.specs.declared.words.ReprKind.{ReprKind}
use Rattle.ess_semantics.specs.Lists.{and_then}
use Rattle.ess_semantics.specs.Values.{Text, number, truth}
use Rattle.ess_semantics.specs.Order.{same_text}
use Rattle.ess_semantics.specs.Numbers.{one_to}
use Rattle.ess_semantics.specs.Operators.{as_truth}
use Rattle.ess_semantics.specs.Sizes.{slots_of_set, slots_of_mset, occurrences}
use Rattle.ess_semantics.specs.Trees.{Mark, valued, Repr, repr, no_reprs, more_reprs, Ex, Exs, number_ex, name_ex, cell_ex, no_exs, more_exs, Dom, set_dom, mset_dom}
use Rattle.ess_semantics.specs.Domains.{Attribute, numbered, Domain, booleans, sets, msets}
use Rattle.ess_semantics.specs.Layers.{up_to}
use Rattle.ess_semantics.specs.Tables.{Tables, Table, cell_at, same_axes, is_filled}
use Rattle.ess_semantics.specs.Cells.{Axes, behind, cells_of}
use Rattle.ess_semantics.specs.Declarations.{Declaration, under, widened, declarations_below}
use Rattle.ess_semantics.specs.Tidy.{over_axes}
use Rattle.ess_semantics.specs.Meaning.{Env, as_int, meaning}
use Rattle.ess_semantics.proofs.Tests.{and-both, and-right}
use Rattle.ess_repr_laws.specs.MultisetParts.{bare_mset_dom}
use Rattle.ess_repr_laws.specs.StructureParts.{add_ex, le_ex, upto, first_name, next_ex, at_most_ex, less_ex, true_count_ex}
use Rattle.ess_repr_laws.specs.Structure.{shapes, structure}
use Rattle.ess_repr_laws.specs.StructureMeaning.{Bound, M, Number, Placed, DomainIs, Attributes, SlotsAre, axes_members}
use Rattle.ess_repr_laws.proofs.StructureFits.{Fit, first-fit}
use Rattle.ess_repr_laws.proofs.StructureNumbers.{le-means}
use Rattle.ess_repr_laws.proofs.StructureOf.{StructureOf}
use Rattle.ess_repr_laws.proofs.StructureRepetition.{repetition-structure}
use Rattle.ess_repr_laws.proofs.StructureRows.{Steady, all_codes}
use Rattle.ess_repr_laws.proofs.StructureSets.{own-marker}
use Rattle.ess_repr_laws.proofs.StructureUse.{cell-means}
use Rattle.ess_repr_declare_laws.specs.SizeTerms.{slots_ex, size_terms}
use Rattle.ess_repr_structure_laws.proofs.BuiltStructures as B
use Rattle.ess_repr_structure_laws.proofs.BuiltStructures.{BuiltOf}
use Rattle.ess_repr_structure_laws.proofs.BuiltParts as C
use Rattle.ess_repr_structure_laws.proofs.BuiltAll as A
use Rattle.ess_repr_structure_laws.proofs.MetParts.{Any, MetIn, and-met}
use Rattle.ess_repr_structure_laws.proofs.MetLayers as M'
use Rattle.ess_repr_structure_laws.proofs.MetLayers.{here}
use Rattle.ess_repr_structure_laws.proofs.MetKinds as K
use Rattle.ess_repr_structure_laws.proofs.MetKinds.{Met}

module _ (env0 : Env) (q : ℕ → Text) (q-apart : (m l : ℕ) → l < m → same_text (q m) (q l) ≡ false) where
  abbrev Names : Type 0
  Names = Bound env0 q q-apart

  abbrev N : Names → Env
  N = M env0 q q-apart

  abbrev G : Ex → Type 0
  G = M'.G env0 q q-apart

  bt : BuiltOf q G Any (Unit {0}) (Unit {0})
  bt = K.built env0 q q-apart

  -- A cell.
  pub cell-met : (b : Bool) (n : Text) (is : Exs) → B.AllHave G is → G (cell_ex b n is)
  cell-met b n is a = let k : BuiltOf q G Any (Unit {0}) (Unit {0}) = bt in k.cells b n is a tt

  -- Of tables over axes those behind the first are.
  pub over-rest : (i : List ℤ) (a : Axes) (ass : List Axes) (t : Table) (ts : Tables) → over_axes i (a ∷ ass) (t ∷ ts) ≡ true → over_axes i
      ass ts ≡ true
  over-rest i a ass t ts o = and-right (is_filled t && same_axes (drop (length i) t.axes) a) (over_axes i ass ts) o

  module _ (r : Repr) (ms : List Mark) (es : Exs) (d : Dom) (ks : List Attribute) (e : Domain)
      (s : StructureOf env0 q q-apart size_terms r d e) (m : Met env0 q q-apart r d e)
      (sl : SlotsAre env0 q q-apart size_terms (set_dom ms es d) (slots_of_set ks e)) (g : B.Good G Any (set_dom ms es d)) where
    abbrev S : ℕ
    S = slots_of_set ks e

    abbrev size : Ex
    size = slots_ex (set_dom ms es d)

    size-met : G size
    size-met = B.set-slots-have q G Any bt ms es d g

    abbrev inner_declared : Bool → List Declaration
    inner_declared out = under (one_to S ∷ []) (declarations_below (out || true) r e) ++ []

    pub explicit-met : Met env0 q q-apart (repr ReprKind.Explicit (more_reprs r no_reprs)) (set_dom ms es d) (sets ks e)
    explicit-met = record {
      met = λ out ns ts l is i bs p c o st a.
          and-met _ _ (N bs) (here env0 q q-apart (C.size-has q G Any bt ms es size g.0 size-met) bs)
          (λ t. K.slots-met env0 q q-apart l size size (shapes q size_terms r d ns) is _ S bs (sl bs) size-met size-met
          (A.shapes-have q G Any bt r d ns g.1) a
          (K.slot-met env0 q q-apart r d e s m size S (out || false) ns ts i p c o l is bs a st));
    }

    marker-at : (out : Bool) (ns : List Text) (ts : Tables) (l : ℕ) (is : Exs) (i : List ℤ) (bs : Names) →
        Placed env0 q q-apart (shapes q size_terms (repr ReprKind.ExplicitVarSizeWithMarker (more_reprs r no_reprs)) (set_dom ms es d) ns)
        (axes_members (repr ReprKind.ExplicitVarSizeWithMarker (more_reprs r no_reprs)) (sets ks e)) ts →
        Fit (declarations_below out (repr ReprKind.ExplicitVarSizeWithMarker (more_reprs r no_reprs)) (sets ks e)) (behind i (cells_of ts))
        →
        over_axes i (all_codes env0 q q-apart (axes_members (repr ReprKind.ExplicitVarSizeWithMarker (more_reprs r no_reprs)) (sets ks e)))
        ts ≡ true → Steady env0 q q-apart l is i bs → B.AllHave G is →
        MetIn (structure q size_terms (repr ReprKind.ExplicitVarSizeWithMarker (more_reprs r no_reprs)) (set_dom ms es d) ns l is) (N bs)
    marker-at out ns [] l is i bs p c o st a = absurd p
    marker-at out ns (t ∷ ts) l is i bs p c o st a =
        let f = first-fit (record { axes = []; cell = if (if out then false else false) then widened (up_to S) else up_to S })
        (inner_declared out) (λ js. cell_at t (i ++ js)) (behind i (cells_of ts)) c in
        let mk : G (cell_ex false (first_name ns) is) = cell-met false (first_name ns) is a in
        and-met _ _ (N bs) (here env0 q q-apart (C.size-has q G Any bt ms es (cell_ex false (first_name ns) is) g.0 mk) bs)
        (λ w. K.slots-met env0 q q-apart l size (cell_ex false (first_name ns) is) (shapes q size_terms r d (drop 1 ns)) is _ S bs (sl bs)
        size-met mk
        (A.shapes-have q G Any bt r d (drop 1 ns) g.1) a
        (K.slot-met env0 q q-apart r d e s m size S (out || true) (drop 1 ns) ts i p.2 f.others (over-rest i [] _ t ts o) l is bs a st))

    pub marker-met : Met env0 q q-apart (repr ReprKind.ExplicitVarSizeWithMarker (more_reprs r no_reprs)) (set_dom ms es d) (sets ks e)
    marker-met = record { met = marker-at }

    abbrev flags : Repr
    flags = repr ReprKind.ExplicitVarSizeWithFlags (more_reprs r no_reprs)

    flags-fit : (out : Bool) (t : Table) (ts : Tables) (i : List ℤ) → Fit (declarations_below out flags (sets ks e))
        (behind i (cells_of (t ∷ ts))) → Fit (inner_declared out) (behind i (cells_of ts))
    flags-fit true t ts i c = let f = first-fit (record { axes = one_to S ∷ []; cell = booleans }) (inner_declared true)
        (λ js. cell_at t (i ++ js)) (behind i (cells_of ts)) c in f.others
    flags-fit false t ts i c = let f = first-fit (record { axes = one_to S ∷ []; cell = booleans }) (inner_declared false)
        (λ js. cell_at t (i ++ js)) (behind i (cells_of ts)) c in f.others

    flags-at : (out : Bool) (ns : List Text) (ts : Tables) (l : ℕ) (is : Exs) (i : List ℤ) (bs : Names) → Placed env0 q q-apart
        (shapes q size_terms flags (set_dom ms es d) ns) (axes_members flags (sets ks e)) ts →
        Fit (declarations_below out flags (sets ks e)) (behind i (cells_of ts)) → over_axes i
        (all_codes env0 q q-apart (axes_members flags (sets ks e))) ts ≡ true → Steady env0 q q-apart l is i bs → B.AllHave G is →
        MetIn (structure q size_terms flags (set_dom ms es d) ns l is) (N bs)
    flags-at out ns [] l is i bs p c o st a = absurd p
    flags-at out ns (t ∷ ts) l is i bs p c o st a =
        let x = A.shapes-have q G Any bt r d (drop 1 ns) g.1 in
        let used : G (cell_ex true (first_name ns) (add_ex is (name_ex (q l)))) = cell-met true (first_name ns) (add_ex is (name_ex (q l)))
        (C.name-added q G Any bt l is a) in
        let next : G (cell_ex true (first_name ns) (add_ex is (next_ex q l))) = cell-met true (first_name ns) (add_ex is (next_ex q l))
        (C.next-added q G Any bt l is a) in
        and-met _ _ (N bs)
        (and-met _ _ (N bs) (here env0 q q-apart (C.first-has q G Any bt l size _ _ size-met used next) bs)
        (λ w. K.use-met env0 q q-apart l size (cell_ex true (first_name ns) (add_ex is (name_ex (q l))))
        (cell_ex true (first_name ns) (add_ex is (next_ex q l)))
        (less_ex q (suc l) (shapes q size_terms r d (drop 1 ns)) (add_ex is (name_ex (q l))) (add_ex is (next_ex q l)))
        (shapes q size_terms r d (drop 1 ns)) is _ S bs (sl bs) size-met used next
        (C.rise-has q G Any bt l (shapes q size_terms r d (drop 1 ns)) is x a) x a
        (K.slot-met env0 q q-apart r d e s m size S (out || true) (drop 1 ns) ts i p.2 (flags-fit out t ts i c) (over-rest i _ _ t ts o) l
        is bs a st)))
        (λ w. here env0 q q-apart (C.size-has q G Any bt ms es (true_count_ex q l (upto size ∷ []) (first_name ns) is) g.0
        (C.true-count-has q G Any bt l (upto size ∷ []) (first_name ns) is (C.upto-has q G Any bt size size-met, tt) a)) bs)

    pub flags-met : Met env0 q q-apart flags (set_dom ms es d) (sets ks e)
    flags-met = record { met = flags-at }

  module _ (r : Repr) (ms : List Mark) (es : Exs) (d : Dom) (ks : List Attribute) (e : Domain)
      (s : StructureOf env0 q q-apart size_terms r d e) (m : Met env0 q q-apart r d e)
      (sl : SlotsAre env0 q q-apart size_terms (mset_dom ms es d) (slots_of_mset ks e)) (g : B.Good G Any (mset_dom ms es d)) where
    abbrev S' : ℕ
    S' = slots_of_mset ks e

    abbrev size' : Ex
    size' = slots_ex (mset_dom ms es d)

    size-met' : G size'
    size-met' = B.mset-slots-have q G Any bt ms es d g

    abbrev inner_declared' : Bool → List Declaration
    inner_declared' out = under (one_to S' ∷ []) (declarations_below (out || true) r e) ++ []

    abbrev counted : Repr
    counted = repr ReprKind.MSetExplicitWithFlags (more_reprs r no_reprs)

    counted-at : (out : Bool) (ns : List Text) (ts : Tables) (l : ℕ) (is : Exs) (i : List ℤ) (bs : Names) → Placed env0 q q-apart
        (shapes q size_terms counted (mset_dom ms es d) ns) (axes_members counted (msets ks e)) ts →
        Fit (declarations_below out counted (msets ks e)) (behind i (cells_of ts)) → over_axes i
        (all_codes env0 q q-apart (axes_members counted (msets ks e))) ts ≡ true → Steady env0 q q-apart l is i bs → B.AllHave G is →
        MetIn (structure q size_terms counted (mset_dom ms es d) ns l is) (N bs)
    counted-at out ns [] l is i bs p c o st a = absurd p
    counted-at out ns (t ∷ ts) l is i bs p c o st a =
        let f = first-fit (record {
          axes = one_to S' ∷ [];
          cell = if (if out then false else false) then widened (up_to (occurrences ks))
              else up_to (occurrences ks);
        }) (inner_declared' out) (λ js. cell_at t (i ++ js)) (behind i (cells_of ts)) c in
        let x = A.shapes-have q G Any bt r d (drop 1 ns) g.2 in
        let used : G (le_ex (number_ex (pos 1)) (cell_ex false (first_name ns) (add_ex is (name_ex (q l))))) = C.le-has q G Any bt
        (number_ex (pos 1)) _ (K.one-met env0 q q-apart)
        (cell-met false (first_name ns) (add_ex is (name_ex (q l))) (C.name-added q G Any bt l is a)) in
        let next : G (le_ex (number_ex (pos 1)) (cell_ex false (first_name ns) (add_ex is (next_ex q l)))) = C.le-has q G Any bt
        (number_ex (pos 1)) _ (K.one-met env0 q q-apart)
        (cell-met false (first_name ns) (add_ex is (next_ex q l)) (C.next-added q G Any bt l is a)) in
        and-met _ _ (N bs)
        (and-met _ _ (N bs) (here env0 q q-apart (C.first-has q G Any bt l size' _ _ size-met' used next) bs)
        (λ w. K.use-met env0 q q-apart l size' (le_ex (number_ex (pos 1)) (cell_ex false (first_name ns) (add_ex is (name_ex (q l)))))
        (le_ex (number_ex (pos 1)) (cell_ex false (first_name ns) (add_ex is (next_ex q l))))
        (less_ex q (suc l) (shapes q size_terms r d (drop 1 ns)) (add_ex is (name_ex (q l))) (add_ex is (next_ex q l)))
        (shapes q size_terms r d (drop 1 ns)) is _ S' bs (sl bs) size-met' used next
        (C.rise-has q G Any bt l (shapes q size_terms r d (drop 1 ns)) is x a) x a
        (K.slot-met env0 q q-apart r d e s m size' S' (out || true) (drop 1 ns) ts i p.2 f.others (over-rest i _ _ t ts o) l is bs a st)))
        (λ w. here env0 q q-apart (C.counts-have q G Any bt l ms es (upto size' ∷ []) (first_name ns) is g.1
        (C.upto-has q G Any bt size' size-met', tt) a) bs)

    pub counted-met : Met env0 q q-apart counted (mset_dom ms es d) (msets ks e)
    counted-met = record { met = counted-at }

    -- ---- slots in which equal members may stand

    abbrev kind : Repr
    kind = repr ReprKind.MSetExplicitWithRepetition (more_reprs r no_reprs)

    abbrev bare : Domain
    bare = msets (numbered Key.MaxSize (pos S') ∷ []) e

    bare-number : (bs : Names) (z : ℤ) → as_int (meaning size' (N bs)) ≡ Some z → Number size' (N bs) z
    bare-number bs z h =
        let x : Some (pos S') ≡ Some z = sym (ap as_int (sl bs)) ∙ h in
        let y : pos S' ≡ z = cc in sl bs ∙ ap (λ n. Some (number n)) y

    bare-attributes : Attributes env0 q q-apart size_terms (valued Key.MaxSize ∷ []) (more_exs size' no_exs)
        (numbered Key.MaxSize (pos S') ∷ [])
    bare-attributes bs = ((bare-number bs, tt), ap (λ o. and_then (as_int o) (λ n. Some (numbered Key.MaxSize n ∷ []))) (sl bs))

    module _ (inside : DomainIs env0 q q-apart (bare_mset_dom size' d) bare) where
      bare-structure : StructureOf env0 q q-apart size_terms kind (bare_mset_dom size' d) bare
      bare-structure = repetition-structure env0 q q-apart size_terms r (valued Key.MaxSize ∷ []) (more_exs size' no_exs) d
          (numbered Key.MaxSize (pos S') ∷ []) e s bare-attributes sl (λ h. inside)

      repetition-at : (out : Bool) (ns : List Text) (ts : Tables) (l : ℕ) (is : Exs) (i : List ℤ) (bs : Names) → Placed env0 q q-apart
          (shapes q size_terms kind (mset_dom ms es d) ns) (axes_members kind (msets ks e)) ts →
          Fit (declarations_below out kind (msets ks e)) (behind i (cells_of ts)) → over_axes i
          (all_codes env0 q q-apart (axes_members kind (msets ks e))) ts ≡ true → Steady env0 q q-apart l is i bs → B.AllHave G is →
          MetIn (structure q size_terms kind (mset_dom ms es d) ns l is) (N bs)
      repetition-at out ns [] l is i bs p c o st a = absurd p
      repetition-at out ns (t ∷ ts) l is i bs p c o st a =
          let f = first-fit (record { axes = []; cell = if (if out then false else false) then widened (up_to S') else up_to S' })
          (inner_declared' out) (λ js. cell_at t (i ++ js)) (behind i (cells_of ts)) c in
          let mk = own-marker out (cell_at t (i ++ [])) f.inside in
          let x = A.shapes-have q G Any bt r d (drop 1 ns) g.2 in
          let cell : G (cell_ex false (first_name ns) is) = cell-met false (first_name ns) is a in
          let le-cell : meaning (le_ex (cell_ex false (first_name ns) is) size') (N bs) ≡ Some (truth (int_le (pos mk.0) (pos S'))) =
          le-means (N bs) (cell_ex false (first_name ns) is) size' (pos mk.0) (pos S')
          (cell-means env0 q q-apart false (first_name ns) t is i bs (pos mk.0) p.0 (st [] tt) (ap (cell_at t) (sym (append-nil i)) ∙ mk.1))
          (sl bs) in
          and-met _ _ (N bs)
          (K.use-met env0 q q-apart l size' (le_ex (name_ex (q l)) (cell_ex false (first_name ns) is))
          (le_ex (next_ex q l) (cell_ex false (first_name ns) is))
          (at_most_ex q (suc l) (shapes q size_terms r d (drop 1 ns)) (add_ex is (name_ex (q l))) (add_ex is (next_ex q l)))
          (shapes q size_terms r d (drop 1 ns)) is _ S' bs (sl bs) size-met'
          (C.le-has q G Any bt (name_ex (q l)) _ (K.name-met env0 q q-apart l) cell)
          (C.le-has q G Any bt (next_ex q l) _ (C.next-has q G Any bt l) cell)
          (C.at-most-has q G Any bt (suc l) (shapes q size_terms r d (drop 1 ns)) (add_ex is (name_ex (q l))) (add_ex is (next_ex q l)) x
          (C.name-added q G Any bt l is a) (C.next-added q G Any bt l is a)) x a
          (K.slot-met env0 q q-apart r d e s m size' S' (out || true) (drop 1 ns) ts i p.2 f.others (over-rest i [] _ t ts o) l is bs a st))
          (λ u. and-met _ _ (N bs) (here env0 q q-apart (C.size-has q G Any bt ms es (cell_ex false (first_name ns) is) g.1 cell) bs)
          (λ w. K.occurs-met env0 q q-apart l _ ms es bs g.1
          (M'.view-met env0 q q-apart kind (bare_mset_dom size' d) bare bare-structure inside ((size-met', tt), B.good-has G Any d g.2) out
          ns (t ∷ ts) l is i bs p c o st a
          (and-both _ _ u (ap (λ z. ((as_truth z && true) && true)) le-cell ∙ ap (λ b. (b && true) && true) (le-leb mk.0 S' mk.2))))))

      pub repetition-met : Met env0 q q-apart kind (mset_dom ms es d) (msets ks e)
      repetition-met = record { met = repetition-at }

-- The structure constraint of a function with flags means that its cells are canonical: from an atom, or from a tuple of atoms.
use Rattle.std.proofs.Common.{◌≡◌, refl, sym, ◌∙◌, ℕ, ◌<◌, Bool, true, false, List, [], ◌∷◌, map, ℤ, Some, ap, suc, ◌+◌, ◌++◌, length, append-nil, arith, drop}
use Rattle.ess_semantics.specs.declared.words.ReprKind.{ReprKind}
use Rattle.ess_semantics.specs.Values.{Text, truth, Value}
use Rattle.ess_semantics.specs.Order.{same_text}
use Rattle.ess_semantics.specs.Kinds.{dom_list}
use Rattle.ess_semantics.specs.Trees.{Mark, Repr, repr, no_reprs, more_reprs, Exs, Dom, Doms, tuple_dom, function_dom}
use Rattle.ess_semantics.specs.Domains.{Attribute, Domain, Domains, functions, tuples, domain_list, member_list}
use Rattle.ess_semantics.specs.Tables.{Tables, code}
use Rattle.ess_semantics.specs.Cells.{Axes, behind, cells_of}
use Rattle.ess_semantics.specs.Layers.{codes_of}
use Rattle.ess_semantics.specs.FunctionLayers.{partial_layer}
use Rattle.ess_semantics.specs.Declarations.{declarations_below, axes_of}
use Rattle.ess_semantics.specs.CanonicalTest.{canonical}
use Rattle.ess_semantics.specs.Meaning.{Env, meaning}
use Rattle.ess_semantics.specs.Atoms.{IsAtom, AreAtoms}
use Rattle.ess_semantics.proofs.MemberLists.{atom-listed}
use Rattle.ess_semantics.specs.Representations.{width}
use Rattle.ess_repr_laws.proofs.CellsOfMembers.{map-long}
use Rattle.ess_repr_laws.specs.StructureParts.{Terms, on_axes}
use Rattle.ess_repr_laws.specs.Structure.{shapes, structure}
use Rattle.ess_repr_laws.specs.StructureMeaning.{Bound, M, AxesAre, Placed, Attributes, axes_members, index_members, EachFlag, FlagKeyReady, on_members}
use Rattle.ess_repr_laws.proofs.Arguments.{Arguments, atom-arguments, tuple-arguments}
use Rattle.ess_repr_laws.proofs.CanonicalForms.{atoms-listed}
use Rattle.ess_repr_laws.proofs.RowsOfCells.{axes-of-layer}
use Rattle.ess_repr_laws.proofs.StructureFits.{Fit}
use Rattle.ess_repr_laws.proofs.StructureMatrices.{index-codes}
use Rattle.ess_repr_laws.proofs.StructureOf.{StructureOf, own-child-found, under-codes}
use Rattle.ess_repr_laws.proofs.StructureRows.{Steady, There, codes, all_codes}
use Rattle.ess_repr_laws.proofs.TupleMembers.{place_of}
use Rattle.ess_repr_laws.proofs.FlaggedFunctions.{partial-there, partial-means}

module _ (env0 : Env) (q : ℕ → Text) (q-apart : (m l : ℕ) → l < m → same_text (q m) (q l) ≡ false) (terms : Terms) where
  module _ (r : Repr) (c : Dom) (y : Domain) (child : StructureOf env0 q q-apart terms r c y) (as' : List Dom) (uss : List (List Value))
      (bs0 : Axes) (same : codes env0 q q-apart uss ≡ bs0) where
    -- The axes of its tables.
    partial-axes : codes env0 q q-apart uss ∷ all_codes env0 q q-apart (on_members uss (axes_members r y)) ≡ bs0 ∷
        (map (λ a. bs0 ++ a) (axes_of r y) ++ [])
    partial-axes = ap (λ a. a ∷ all_codes env0 q q-apart (on_members uss (axes_members r y))) same
        ∙ ap (λ l. bs0 ∷ l) (under-codes env0 q q-apart terms uss bs0 (axes_members r y) same
        ∙ ap (map (λ (a : Axes). bs0 ++ a)) child.axes ∙ sym (append-nil (map (λ (a : Axes). bs0 ++ a) (axes_of r y))))

    -- As many tables as the child has, and one.
    partial-long : (ns : List Text) → suc (length (map (on_axes as') (shapes q terms r c (drop 1 ns)))) ≡ 1 + (width r + 0)
    partial-long ns = ap suc (map-long _ (shapes q terms r c (drop 1 ns)) ∙ child.long (drop 1 ns))
        ∙ (let z : suc (width r) ≡ 1 + (width r + 0) = omega arith in z)

  -- ---- from an atom

  module _ (r : Repr) (ms : List Mark) (es : Exs) (d c : Dom) (ks : List Attribute) (x y : Domain) (a : IsAtom x)
      (keys : EachFlag (FlagKeyReady env0 q q-apart d c x y) ks)
      (ax : AxesAre env0 q q-apart (d ∷ []) (member_list x ∷ [])) (at : Attributes env0 q q-apart terms ms es ks) (child : StructureOf env0 q q-apart terms r c y) where
    abbrev one : Repr
    one = repr ReprKind.Function1DPartial (more_reprs r no_reprs)

    args1 : Arguments x (codes_of x ∷ []) (λ x. code x ∷ [])
    args1 = atom-arguments x (atom-listed x a)

    there1 : (out : Bool) (ns : List Text) (ts : Tables) (i : List ℤ) → Placed env0 q q-apart (shapes q terms one (function_dom ms es d c) ns) (axes_members one (functions ks x y)) ts →
        Fit (declarations_below out one (functions ks x y)) (behind i (cells_of ts)) → There env0 q q-apart (shapes q terms one (function_dom ms es d c) ns) (axes_members one (functions ks x y)) ts i
    there1 out ns [] i p h = absurd p
    there1 true ns (t ∷ ts) i p h = partial-there env0 q q-apart terms ReprKind.Function1DPartial r ms es c ks x y child (d ∷ [])
        (member_list x ∷ []) (codes_of x ∷ []) refl ax (λ x. code x ∷ []) args1 at d keys refl refl true ns t ts i p.2 h
    there1 false ns (t ∷ ts) i p h = partial-there env0 q q-apart terms ReprKind.Function1DPartial r ms es c ks x y child (d ∷ [])
        (member_list x ∷ []) (codes_of x ∷ []) refl ax (λ x. code x ∷ []) args1 at d keys refl refl false ns t ts i p.2 h

    means1 : (out : Bool) (ns : List Text) (ts : Tables) (l : ℕ) (is : Exs) (i : List ℤ) (bs : Bound env0 q q-apart) → Placed env0 q q-apart (shapes q terms one (function_dom ms es d c) ns) (axes_members one (functions ks x y)) ts →
        Fit (declarations_below out one (functions ks x y)) (behind i (cells_of ts)) → Steady env0 q q-apart l is i bs →
        meaning (structure q terms one (function_dom ms es d c) ns l is) (M env0 q q-apart bs) ≡ Some (truth (canonical one (functions ks x y) (behind i (cells_of ts))))
    means1 out ns [] l is i bs p h st = absurd p
    means1 true ns (t ∷ ts) l is i bs p h st = partial-means env0 q q-apart terms ReprKind.Function1DPartial r ms es c ks x y child
        (d ∷ []) (member_list x ∷ []) (codes_of x ∷ []) refl ax (λ x. code x ∷ []) args1 at d keys refl refl true ns t ts l is i bs p h st
    means1 false ns (t ∷ ts) l is i bs p h st = partial-means env0 q q-apart terms ReprKind.Function1DPartial r ms es c ks x y child
        (d ∷ []) (member_list x ∷ []) (codes_of x ∷ []) refl ax (λ x. code x ∷ []) args1 at d keys refl refl false ns t ts l is i bs p h st

    -- The structure constraint of a function from an atom, with flags.
    pub partial-1d-structure : StructureOf env0 q q-apart terms one (function_dom ms es d c) (functions ks x y)
    partial-1d-structure = record {
      covered = (a, child.covered);
      long = λ ns. partial-long r c y child (d ∷ []) (member_list x ∷ []) (codes_of x ∷ []) refl ns;
      axes = partial-axes r c y child (d ∷ []) (member_list x ∷ []) (codes_of x ∷ []) refl
          ∙ sym (axes-of-layer (partial_layer ks (codes_of x ∷ []) (λ x. code x ∷ []) x y) (more_reprs r no_reprs));
      found = own-child-found env0 q q-apart terms r c y child (d ∷ []) (member_list x ∷ []) ax true (d ∷ []) (member_list x ∷ []) ax;
      there = there1;
      means = means1;
    }

  -- ---- from a tuple of atoms

  module _ (r : Repr) (ms : List Mark) (es : Exs) (ds : Doms) (c : Dom) (ks : List Attribute) (xs : Domains) (y : Domain) (a : AreAtoms xs)
      (keys : EachFlag (FlagKeyReady env0 q q-apart (tuple_dom ds) c (tuples xs) y) ks)
      (ax : AxesAre env0 q q-apart (dom_list ds) (index_members xs)) (at : Attributes env0 q q-apart terms ms es ks) (child : StructureOf env0 q q-apart terms r c y) where
    abbrev many : Repr
    many = repr ReprKind.FunctionNDPartial (more_reprs r no_reprs)

    abbrev axes : Axes
    axes = map codes_of (domain_list xs)

    same-axes : codes env0 q q-apart (index_members xs) ≡ axes
    same-axes = index-codes env0 q q-apart xs

    args : Arguments (tuples xs) axes place_of
    args = tuple-arguments xs (atoms-listed xs a)

    there : (out : Bool) (ns : List Text) (ts : Tables) (i : List ℤ) → Placed env0 q q-apart (shapes q terms many (function_dom ms es (tuple_dom ds) c) ns) (axes_members many (functions ks (tuples xs) y)) ts →
        Fit (declarations_below out many (functions ks (tuples xs) y)) (behind i (cells_of ts)) → There env0 q q-apart (shapes q terms many (function_dom ms es (tuple_dom ds) c) ns) (axes_members many (functions ks (tuples xs) y)) ts i
    there out ns [] i p h = absurd p
    there true ns (t ∷ ts) i p h = partial-there env0 q q-apart terms ReprKind.FunctionNDPartial r ms es c ks (tuples xs) y child
        (dom_list ds) (index_members xs) axes same-axes ax place_of args at (tuple_dom ds) keys refl refl true ns t ts i p.2 h
    there false ns (t ∷ ts) i p h = partial-there env0 q q-apart terms ReprKind.FunctionNDPartial r ms es c ks (tuples xs) y child
        (dom_list ds) (index_members xs) axes same-axes ax place_of args at (tuple_dom ds) keys refl refl false ns t ts i p.2 h

    means : (out : Bool) (ns : List Text) (ts : Tables) (l : ℕ) (is : Exs) (i : List ℤ) (bs : Bound env0 q q-apart) → Placed env0 q q-apart (shapes q terms many (function_dom ms es (tuple_dom ds) c) ns) (axes_members many (functions ks (tuples xs) y)) ts →
        Fit (declarations_below out many (functions ks (tuples xs) y)) (behind i (cells_of ts)) → Steady env0 q q-apart l is i bs →
        meaning (structure q terms many (function_dom ms es (tuple_dom ds) c) ns l is) (M env0 q q-apart bs) ≡ Some (truth (canonical many (functions ks (tuples xs) y) (behind i (cells_of ts))))
    means out ns [] l is i bs p h st = absurd p
    means true ns (t ∷ ts) l is i bs p h st = partial-means env0 q q-apart terms ReprKind.FunctionNDPartial r ms es c ks (tuples xs) y
        child (dom_list ds) (index_members xs) axes same-axes ax place_of args at (tuple_dom ds) keys refl refl true ns t ts l is i bs p h
        st
    means false ns (t ∷ ts) l is i bs p h st = partial-means env0 q q-apart terms ReprKind.FunctionNDPartial r ms es c ks (tuples xs) y
        child (dom_list ds) (index_members xs) axes same-axes ax place_of args at (tuple_dom ds) keys refl refl false ns t ts l is i bs p h
        st

    -- The structure constraint of a function from a tuple of atoms, with flags.
    pub partial-nd-structure : StructureOf env0 q q-apart terms many (function_dom ms es (tuple_dom ds) c) (functions ks (tuples xs) y)
    partial-nd-structure = record {
      covered = (a, child.covered);
      long = λ ns. partial-long r c y child (dom_list ds) (index_members xs) axes same-axes ns;
      axes = partial-axes r c y child (dom_list ds) (index_members xs) axes same-axes
          ∙ sym (axes-of-layer (partial_layer ks axes place_of (tuples xs) y) (more_reprs r no_reprs));
      found = own-child-found env0 q q-apart terms r c y child (dom_list ds) (index_members xs) ax true (dom_list ds) (index_members xs) ax;
      there = there;
      means = means;
    }

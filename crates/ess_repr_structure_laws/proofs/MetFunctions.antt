-- Tables meet the structures of matrices, functions, relations and partitions.
use Rattle.std.proofs.Common.{◌≡◌, refl, ℕ, ◌<◌, Bool, true, false, ◌||◌, List, [], ◌∷◌, ◌++◌, map, drop, length, ℤ, Some}
use Rattle.ess_semantics.specs.declared.words.ReprKind.{ReprKind}
use Rattle.ess_semantics.specs.Values.{Text}
use Rattle.ess_semantics.specs.Order.{same_text}
use Rattle.ess_semantics.specs.Kinds.{dom_list}
use Rattle.ess_semantics.specs.Trees.{Mark, Repr, repr, no_reprs, more_reprs, Ex, Exs, cell_ex, no_exs, Dom, Doms, tuple_dom, matrix_dom, function_dom, relation_dom, partition_dom}
use Rattle.ess_semantics.specs.Domains.{Attribute, Domain, Domains, booleans, tuples, matrices, functions, relations, partitions, domain_list, members, member_list}
use Rattle.ess_semantics.specs.Atoms.{IsAtom, AreAtoms}
use Rattle.ess_semantics.specs.Layers.{codes_of}
use Rattle.ess_semantics.specs.Tables.{Tables, Table, cell_at}
use Rattle.ess_semantics.specs.Cells.{behind, cells_of}
use Rattle.ess_semantics.specs.Declarations.{Declaration, under, declarations_below}
use Rattle.ess_semantics.specs.Tidy.{over_axes}
use Rattle.ess_semantics.specs.Meaning.{Env}
use Rattle.ess_semantics.proofs.Tests.{and-both}
use Rattle.ess_repr_laws.specs.FunctionParts.{bare_function_dom}
use Rattle.ess_repr_laws.specs.PartitionParts.{bare_partition_dom}
use Rattle.ess_repr_laws.specs.RelationParts.{bare_relation_dom}
use Rattle.ess_repr_laws.specs.StructureParts.{first_name}
use Rattle.ess_repr_laws.specs.Structure.{shapes, structure}
use Rattle.ess_repr_laws.specs.StructureMeaning.{Bound, M, AxesAre, Placed, DomainIs, axes_members, index_members}
use Rattle.ess_repr_laws.proofs.StructureFits.{Fit, first-fit}
use Rattle.ess_repr_laws.proofs.StructureFunctions.{function-1d-structure, function-nd-structure}
use Rattle.ess_repr_laws.proofs.StructureMatrices.{index-codes, axes-even}
use Rattle.ess_repr_laws.proofs.StructureNumbered.{numbered-structure, listed-complete}
use Rattle.ess_repr_laws.proofs.StructureOf.{StructureOf}
use Rattle.ess_repr_laws.proofs.StructurePartial.{partial-1d-structure, partial-nd-structure}
use Rattle.ess_repr_laws.proofs.StructureRelations.{relation-structure}
use Rattle.ess_repr_laws.proofs.StructureRows.{Steady, all_codes}
use Rattle.ess_repr_declare_laws.specs.SizeTerms.{size_terms}
use Rattle.ess_repr_structure_laws.proofs.BuiltStructures as B
use Rattle.ess_repr_structure_laws.proofs.BuiltStructures.{BuiltOf}
use Rattle.ess_repr_structure_laws.proofs.BuiltAll as A
use Rattle.ess_repr_structure_laws.proofs.MetParts.{Any, MetIn}
use Rattle.ess_repr_structure_laws.proofs.MetLayers as M'
use Rattle.ess_repr_structure_laws.proofs.MetLayers.{here}
use Rattle.ess_repr_structure_laws.proofs.MetKinds as K
use Rattle.ess_repr_structure_laws.proofs.MetKinds.{Met}
use Rattle.ess_repr_structure_laws.proofs.MetSlots.{cell-met, over-rest}

module _ (env0 : Env) (q : ℕ → Text) (q-apart : (m l : ℕ) → l < m → same_text (q m) (q l) ≡ false) where
  abbrev Names : Type 0
  Names = Bound env0 q q-apart

  abbrev N : Names → Env
  N = M env0 q q-apart

  abbrev G : Ex → Type 0
  G = M'.G env0 q q-apart

  bt : BuiltOf q G Any (Unit {0}) (Unit {0})
  bt = K.built env0 q q-apart

  -- ---- matrices

  pub matrix-met : (r : Repr) (is : Doms) (d : Dom) (js : Domains) (e : Domain) → StructureOf env0 q q-apart size_terms r d e → Met env0 q
      q-apart r d e →
      AxesAre env0 q q-apart (dom_list is) (index_members js) → B.Good G Any (matrix_dom is d) → Met env0 q q-apart
      (repr ReprKind.Matrix (more_reprs r no_reprs)) (matrix_dom is d) (matrices js e)
  matrix-met r is d js e s m ax g = record {
    met = λ out ns ts l es i bs p c o st a.
        K.each-place-met env0 q q-apart r d e s m (dom_list is) (index_members js) (map codes_of (domain_list js))
        (index-codes env0 q q-apart js)
        (axes-even env0 q q-apart (dom_list is) (index_members js) ax) (out || false) ns ts i p c o l es bs a ax (B.list-has G Any is g.0)
        st;
  }

  -- ---- functions with a value for each argument

  module _ (r : Repr) (ms : List Mark) (es : Exs) (d c : Dom) (ks : List Attribute) (x y : Domain)
      (s : StructureOf env0 q q-apart size_terms r c y) (m : Met env0 q q-apart r c y)
      (a : IsAtom x) (me : members x ≡ Some (member_list x)) (ax : AxesAre env0 q q-apart (d ∷ []) (member_list x ∷ []))
      (inside : DomainIs env0 q q-apart (bare_function_dom d c) (functions [] x y))
      (g : B.Good G Any (function_dom ms es d c)) where
    axis : B.ListHas G (d ∷ [])
    axis = A.one-domain q G Any bt d g.1

    pub function-1d-met : Met env0 q q-apart (repr ReprKind.Function1D (more_reprs r no_reprs)) (function_dom ms es d c) (functions ks x y)
    function-1d-met = record {
      met = λ out ns ts l is i bs p f o st z.
          K.total-met env0 q q-apart l ms es (d ∷ []) (shapes q size_terms r c ns) is r c _ _ bs g.0 axis z (B.good-has G Any c g.2)
          (K.each-place-met env0 q q-apart r c y s m (d ∷ []) (member_list x ∷ []) (codes_of x ∷ []) refl refl (out || false) ns ts i p f o
          l is bs z ax axis st)
          (λ t. M'.view-met env0 q q-apart (repr ReprKind.Function1D (more_reprs r no_reprs)) (bare_function_dom d c) (functions [] x y)
          (function-1d-structure env0 q q-apart size_terms r [] no_exs d c [] x y a me tt ax (λ bs. (tt, refl)) s) inside
          (tt, B.good-has G Any d g.1, B.good-has G Any c g.2)
          out ns ts l is i bs p f o st z (and-both _ true t refl));
    }

    abbrev flagged : Repr
    flagged = repr ReprKind.Function1DPartial (more_reprs r no_reprs)

    abbrev inner_declared : List Declaration
    inner_declared = under (codes_of x ∷ []) (declarations_below true r y) ++ []

    flags-fit : (out : Bool) (t : Table) (ts : Tables) (i : List ℤ) → Fit (declarations_below out flagged (functions ks x y))
        (behind i (cells_of (t ∷ ts))) → Fit inner_declared (behind i (cells_of ts))
    flags-fit true t ts i h = let f = first-fit (record { axes = codes_of x ∷ []; cell = booleans }) inner_declared
        (λ js. cell_at t (i ++ js)) (behind i (cells_of ts)) h in f.others
    flags-fit false t ts i h = let f = first-fit (record { axes = codes_of x ∷ []; cell = booleans }) inner_declared
        (λ js. cell_at t (i ++ js)) (behind i (cells_of ts)) h in f.others

    partial-at : (out : Bool) (ns : List Text) (ts : Tables) (l : ℕ) (is : Exs) (i : List ℤ) (bs : Names) → Placed env0 q q-apart
        (shapes q size_terms flagged (function_dom ms es d c) ns) (axes_members flagged (functions ks x y)) ts →
        Fit (declarations_below out flagged (functions ks x y)) (behind i (cells_of ts)) → over_axes i
        (all_codes env0 q q-apart (axes_members flagged (functions ks x y))) ts ≡ true → Steady env0 q q-apart l is i bs → B.AllHave G
        is →
        MetIn (structure q size_terms flagged (function_dom ms es d c) ns l is) (N bs)
    partial-at out ns [] l is i bs p f o st z = absurd p
    partial-at out ns (t ∷ ts) l is i bs p f o st z =
        K.partial-met env0 q q-apart l ms es (d ∷ []) (first_name ns) is c _ _ bs g.0 axis z (B.good-has G Any c g.2)
        (M'.each-met env0 q q-apart l (d ∷ []) (member_list x ∷ []) is i bs _ ax axis st
        (K.flagged-places env0 q q-apart l (d ∷ []) (member_list x ∷ []) is i (first_name ns) (shapes q size_terms r c (drop 1 ns)) _ z
        (A.shapes-have q G Any bt r c (drop 1 ns) g.2)
        (K.places-met env0 q q-apart r c y s m (d ∷ []) (member_list x ∷ []) (codes_of x ∷ []) refl refl true (drop 1 ns) ts i p.2
        (flags-fit out t ts i f) (over-rest env0 q q-apart i _ _ t ts o) l is z)))
        (λ u. M'.view-met env0 q q-apart flagged (bare_function_dom d c) (functions [] x y)
        (partial-1d-structure env0 q q-apart size_terms r [] no_exs d c [] x y a tt ax (λ bs. (tt, refl)) s) inside
        (tt, B.good-has G Any d g.1, B.good-has G Any c g.2)
        out ns (t ∷ ts) l is i bs p f o st z (and-both _ true u refl))

    pub partial-1d-met : Met env0 q q-apart flagged (function_dom ms es d c) (functions ks x y)
    partial-1d-met = record { met = partial-at }

  module _ (r : Repr) (ms : List Mark) (es : Exs) (ds : Doms) (c : Dom) (ks : List Attribute) (xs : Domains) (y : Domain)
      (s : StructureOf env0 q q-apart size_terms r c y) (m : Met env0 q q-apart r c y)
      (a : AreAtoms xs) (ax : AxesAre env0 q q-apart (dom_list ds) (index_members xs))
      (inside : DomainIs env0 q q-apart (bare_function_dom (tuple_dom ds) c) (functions [] (tuples xs) y))
      (g : B.Good G Any (function_dom ms es (tuple_dom ds) c)) where
    axes-have : B.ListHas G (dom_list ds)
    axes-have = B.list-has G Any ds g.1

    even : length (dom_list ds) ≡ length (index_members xs)
    even = axes-even env0 q q-apart (dom_list ds) (index_members xs) ax

    pub function-nd-met : members (tuples xs) ≡ Some (member_list (tuples xs)) → Met env0 q q-apart
        (repr ReprKind.FunctionND (more_reprs r no_reprs)) (function_dom ms es (tuple_dom ds) c) (functions ks (tuples xs) y)
    function-nd-met me = record {
      met = λ out ns ts l is i bs p f o st z.
          K.total-met env0 q q-apart l ms es (dom_list ds) (shapes q size_terms r c ns) is r c _ _ bs g.0 axes-have z
          (B.good-has G Any c g.2)
          (K.each-place-met env0 q q-apart r c y s m (dom_list ds) (index_members xs) (map codes_of (domain_list xs))
          (index-codes env0 q q-apart xs) even (out || false) ns ts i p f o l is bs z ax axes-have st)
          (λ t. M'.view-met env0 q q-apart (repr ReprKind.FunctionND (more_reprs r no_reprs)) (bare_function_dom (tuple_dom ds) c)
          (functions [] (tuples xs) y)
          (function-nd-structure env0 q q-apart size_terms r [] no_exs ds c [] xs y a me tt ax (λ bs. (tt, refl)) s) inside
          (tt, B.all-good-have G Any ds g.1, B.good-has G Any c g.2)
          out ns ts l is i bs p f o st z (and-both _ true t refl));
    }

    abbrev many : Repr
    many = repr ReprKind.FunctionNDPartial (more_reprs r no_reprs)

    abbrev inner_many : List Declaration
    inner_many = under (map codes_of (domain_list xs)) (declarations_below true r y) ++ []

    many-fit : (out : Bool) (t : Table) (ts : Tables) (i : List ℤ) → Fit (declarations_below out many (functions ks (tuples xs) y))
        (behind i (cells_of (t ∷ ts))) → Fit inner_many (behind i (cells_of ts))
    many-fit true t ts i h = let f = first-fit (record { axes = map codes_of (domain_list xs); cell = booleans }) inner_many
        (λ js. cell_at t (i ++ js)) (behind i (cells_of ts)) h in f.others
    many-fit false t ts i h = let f = first-fit (record { axes = map codes_of (domain_list xs); cell = booleans }) inner_many
        (λ js. cell_at t (i ++ js)) (behind i (cells_of ts)) h in f.others

    many-at : (out : Bool) (ns : List Text) (ts : Tables) (l : ℕ) (is : Exs) (i : List ℤ) (bs : Names) → Placed env0 q q-apart
        (shapes q size_terms many (function_dom ms es (tuple_dom ds) c) ns) (axes_members many (functions ks (tuples xs) y)) ts →
        Fit (declarations_below out many (functions ks (tuples xs) y)) (behind i (cells_of ts)) → over_axes i
        (all_codes env0 q q-apart (axes_members many (functions ks (tuples xs) y))) ts ≡ true →
        Steady env0 q q-apart l is i bs → B.AllHave G is → MetIn (structure q size_terms many (function_dom ms es (tuple_dom ds) c) ns l is)
        (N bs)
    many-at out ns [] l is i bs p f o st z = absurd p
    many-at out ns (t ∷ ts) l is i bs p f o st z =
        K.partial-met env0 q q-apart l ms es (dom_list ds) (first_name ns) is c _ _ bs g.0 axes-have z (B.good-has G Any c g.2)
        (M'.each-met env0 q q-apart l (dom_list ds) (index_members xs) is i bs _ ax axes-have st
        (K.flagged-places env0 q q-apart l (dom_list ds) (index_members xs) is i (first_name ns) (shapes q size_terms r c (drop 1 ns)) _ z
        (A.shapes-have q G Any bt r c (drop 1 ns) g.2)
        (K.places-met env0 q q-apart r c y s m (dom_list ds) (index_members xs) (map codes_of (domain_list xs))
        (index-codes env0 q q-apart xs) even true (drop 1 ns) ts i p.2 (many-fit out t ts i f)
        (over-rest env0 q q-apart i _ _ t ts o) l is z)))
        (λ u. M'.view-met env0 q q-apart many (bare_function_dom (tuple_dom ds) c) (functions [] (tuples xs) y)
        (partial-nd-structure env0 q q-apart size_terms r [] no_exs ds c [] xs y a tt ax (λ bs. (tt, refl)) s) inside
        (tt, B.all-good-have G Any ds g.1, B.good-has G Any c g.2)
        out ns (t ∷ ts) l is i bs p f o st z (and-both _ true u refl))

    pub partial-nd-met : Met env0 q q-apart many (function_dom ms es (tuple_dom ds) c) (functions ks (tuples xs) y)
    partial-nd-met = record { met = many-at }

  -- ---- relations as matrices, partitions by numbers

  pub relation-matrix-met : (ms : List Mark) (es : Exs) (ds : Doms) (ks : List Attribute) (xs : Domains) → AreAtoms xs → AxesAre env0 q
      q-apart (dom_list ds) (index_members xs) →
      DomainIs env0 q q-apart (bare_relation_dom ds) (relations [] xs) → B.Good G Any (relation_dom ms es ds) → Met env0 q q-apart
      (repr ReprKind.RelationAsMatrix no_reprs) (relation_dom ms es ds) (relations ks xs)
  relation-matrix-met ms es ds ks xs a ax inside g = record {
    met = λ out ns ts l is i bs p f o st z.
        K.relation-met env0 q q-apart l ms es ds (dom_list ds) (first_name ns) is _ bs g.0 (B.list-has G Any ds g.1) z
        (B.all-good-have G Any ds g.1)
        (M'.view-met env0 q q-apart (repr ReprKind.RelationAsMatrix no_reprs) (bare_relation_dom ds) (relations [] xs)
        (relation-structure env0 q q-apart size_terms [] no_exs ds [] xs a tt ax (λ bs. (tt, refl))) inside
        (tt, B.all-good-have G Any ds g.1) out ns ts l is i bs p f o st z refl);
  }

  pub numbers-met : (ms : List Mark) (es : Exs) (d : Dom) (ks : List Attribute) (x : Domain) → IsAtom x → members x ≡ Some (member_list x) →
      AxesAre env0 q q-apart (d ∷ []) (member_list x ∷ []) →
      DomainIs env0 q q-apart (bare_partition_dom d) (partitions [] x) → B.Good G Any (partition_dom ms es d) → Met env0 q q-apart
      (repr ReprKind.PartitionOccurrence no_reprs) (partition_dom ms es d) (partitions ks x)
  numbers-met ms es d ks x a me ax inside g = record {
    met = λ out ns ts l is i bs p f o st z.
        K.numbered-met env0 q q-apart l ms es d (cell_ex false (first_name ns) is) (first_name (drop 1 ns)) is _ bs g.0
        (B.good-has G Any d g.1) (cell-met env0 q q-apart false (first_name ns) is z) z
        (λ t. M'.view-met env0 q q-apart (repr ReprKind.PartitionOccurrence no_reprs) (bare_partition_dom d) (partitions [] x)
        (numbered-structure env0 q q-apart size_terms [] no_exs d [] x a me (listed-complete x a me) ax inside (λ bs. (tt, refl))) inside
        (tt, B.good-has G Any d g.1)
        out ns ts l is i bs p f o st z (and-both _ true t refl));
  }

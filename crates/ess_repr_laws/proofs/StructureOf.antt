-- What is shown of the structure constraint of a view, and what of this a layer over one child takes from the child.
use Rattle.std.proofs.Common.{◌≡◌, refl, sym, ap, ◌∙◌, subst, ℕ, ◌<◌, Bool, false, List, [], ◌∷◌, ◌++◌, map, drop, length, ℤ, arith, ◌+◌, Some}
use Rattle.std.proofs.lemmas.List.{map-append}
use Rattle.ess_semantics.specs.Values.{Text, Value, truth}
use Rattle.ess_semantics.specs.Order.{same_text}
use Rattle.ess_semantics.specs.Trees.{Repr, Exs, Dom}
use Rattle.ess_semantics.specs.Domains.{Domain, lists_of}
use Rattle.ess_semantics.specs.Tables.{Tables, code}
use Rattle.ess_semantics.specs.Cells.{Axes, behind, cells_of}
use Rattle.ess_semantics.specs.Representations.{width}
use Rattle.ess_semantics.specs.Declarations.{declarations_below, axes_of, under}
use Rattle.ess_semantics.specs.CanonicalTest.{canonical}
use Rattle.ess_semantics.specs.Meaning.{Env, meaning}
use Rattle.ess_repr_laws.specs.Rooms.{Covered}
use Rattle.ess_repr_laws.specs.StructureParts.{Terms, own_shape, row_index, level_behind, on_axes}
use Rattle.ess_repr_laws.specs.Structure.{shapes, structure}
use Rattle.ess_repr_laws.specs.StructureMeaning.{Bound, M, AxesAre, FoundBy, Placed, axes_members, on_members}
use Rattle.ess_repr_laws.proofs.Behind.{behind-length}
use Rattle.ess_repr_laws.proofs.CanonicalPlaces.{AllOf, all-of-map}
use Rattle.ess_repr_laws.proofs.CellsOfMembers.{map-long}
use Rattle.ess_repr_laws.proofs.StructureFits.{Fit, places-fit}
use Rattle.ess_repr_laws.proofs.StructureRows.{Steady, There, codes, all_codes}
use Rattle.ess_repr_laws.proofs.StructurePlaces.{MeansAt, inner-placed, outer-placed, outer-there, placed-long}

module _ (env0 : Env) (q : ℕ → Text) (q-apart : (m l : ℕ) → l < m → same_text (q m) (q l) ≡ false) (terms : Terms) where
  -- The structure constraint of a view, over tables on the declared axes with items in the declared domains, which may be out
  -- of use, means that the cells are canonical.
  pub record StructureOf (r : Repr) (d : Dom) (e : Domain) : Type 0 where
    pub covered : Covered r e
    pub long : (ns : List Text) → length (shapes q terms r d ns) ≡ width r
    pub axes : all_codes env0 q q-apart (axes_members r e) ≡ axes_of r e
    pub found : (ns : List Text) (ts : Tables) → length ns ≡ width r → FoundBy env0 q q-apart ns ts → Placed env0 q q-apart (shapes q terms r d ns) (axes_members r e) ts
    pub there : (out : Bool) (ns : List Text) (ts : Tables) (i : List ℤ) → Placed env0 q q-apart (shapes q terms r d ns) (axes_members r e) ts →
        Fit (declarations_below out r e) (behind i (cells_of ts)) → There env0 q q-apart (shapes q terms r d ns) (axes_members r e) ts i
    pub means : (out : Bool) (ns : List Text) (ts : Tables) (l : ℕ) (is : Exs) (i : List ℤ) (bs : Bound env0 q q-apart) →
        Placed env0 q q-apart (shapes q terms r d ns) (axes_members r e) ts → Fit (declarations_below out r e) (behind i (cells_of ts)) →
        Steady env0 q q-apart l is i bs → meaning (structure q terms r d ns l is) (M env0 q q-apart bs) ≡ Some (truth (canonical r e (behind i (cells_of ts))))

  -- Axes in front are members in front.
  pub under-codes : (uss : List (List Value)) (as' : Axes) (vsss : List (List (List Value))) → codes env0 q q-apart uss ≡ as' →
      all_codes env0 q q-apart (on_members uss vsss) ≡ map (λ bs. as' ++ bs) (all_codes env0 q q-apart vsss)
  under-codes uss as' [] h = refl
  under-codes uss as' (vss ∷ vsss) h =
      ap (λ bs. bs ∷ all_codes env0 q q-apart (on_members uss vsss)) (map-append (map code) uss vss ∙ ap (λ bs. bs ++ codes env0 q q-apart vss) h)
      ∙ ap (λ l. (as' ++ codes env0 q q-apart vss) ∷ l) (under-codes uss as' vsss h)

  -- ---- tables that are found by their names

  -- The only table of a view.
  pub own-found : (b : Bool) (as' : List Dom) (vss : List (List Value)) → AxesAre env0 q q-apart as' vss → (ns : List Text) (ts : Tables) → length ns ≡ 1 + 0 → FoundBy env0 q q-apart ns ts →
      Placed env0 q q-apart (own_shape ns b as' ∷ []) (vss ∷ []) ts
  own-found b as' vss ax (n ∷ []) (t ∷ []) w h = (h.0, ax, tt)
  own-found b as' vss ax [] ts w h = absurd (omega arith)
  own-found b as' vss ax (n ∷ m ∷ ns) ts w h = absurd (omega arith)
  own-found b as' vss ax (n ∷ []) [] w h = absurd h
  own-found b as' vss ax (n ∷ []) (t ∷ u ∷ ts) w h = absurd h.1

  module _ (r : Repr) (d : Dom) (e : Domain) (child : StructureOf r d e) (as' : List Dom) (uss : List (List Value)) (ax : AxesAre env0 q q-apart as' uss) where
    -- The tables of a view without tables of its own.
    pub child-found : (ns : List Text) (ts : Tables) → length ns ≡ 0 + (width r + 0) → FoundBy env0 q q-apart ns ts → Placed env0 q q-apart (map (on_axes as') (shapes q terms r d ns)) (on_members uss (axes_members r e)) ts
    child-found ns ts w h = outer-placed env0 q q-apart as' uss ax (shapes q terms r d ns) (axes_members r e) ts (child.found ns ts (omega (arith, w)) h)

    -- The tables of a view with one of its own.
    pub own-child-found : (b : Bool) (as0 : List Dom) (vss : List (List Value)) → AxesAre env0 q q-apart as0 vss → (ns : List Text) (ts : Tables) → length ns ≡ 1 + (width r + 0) → FoundBy env0 q q-apart ns ts →
        Placed env0 q q-apart (own_shape ns b as0 ∷ map (on_axes as') (shapes q terms r d (drop 1 ns))) (vss ∷ on_members uss (axes_members r e)) ts
    own-child-found b as0 vss a0 [] ts w h = absurd (omega arith)
    own-child-found b as0 vss a0 (n ∷ ns) [] w h = absurd h
    own-child-found b as0 vss a0 (n ∷ ns) (t ∷ ts) w h = (h.0, a0, child-found ns ts (omega (arith, w)) h.1)

  -- ---- a child under the axes as', whose members are uss and whose numbers are bs

  module _ (r : Repr) (d : Dom) (e : Domain) (child : StructureOf r d e) (as' : List Dom) (uss : List (List Value)) (bs : Axes) (same : codes env0 q q-apart uss ≡ bs)
      (even : length as' ≡ length uss) (out : Bool) (ns : List Text) (ts : Tables) (i : List ℤ)
      (p : Placed env0 q q-apart (map (on_axes as') (shapes q terms r d ns)) (on_members uss (axes_members r e)) ts)
      (c : Fit (under bs (declarations_below out r e) ++ []) (behind i (cells_of ts))) where
    -- The child's tables are found by their names.
    pub child-placed : Placed env0 q q-apart (shapes q terms r d ns) (axes_members r e) ts
    child-placed = inner-placed env0 q q-apart as' uss (shapes q terms r d ns) (axes_members r e) ts even p

    -- They are as many as the child has.
    pub child-long : length (behind i (cells_of ts)) ≡ width r
    child-long = behind-length i (cells_of ts) ∙ map-long _ ts ∙ placed-long env0 q q-apart (shapes q terms r d ns) (axes_members r e) ts child-placed ∙ child.long ns

    -- They lie in their domains at each place.
    pub child-fits : AllOf (lists_of bs) (λ js. Fit (declarations_below out r e) (behind (i ++ js) (cells_of ts)))
    child-fits = places-fit bs (declarations_below out r e) ts i c

    -- At each place the child's cells are there.
    pub child-there-each : AllOf (lists_of bs) (λ js. There env0 q q-apart (shapes q terms r d ns) (axes_members r e) ts (i ++ js))
    child-there-each = all-of-map (lists_of bs) _ _ (λ js x. child.there out ns ts (i ++ js) child-placed x) child-fits

    -- So the cells are there.
    pub child-there : There env0 q q-apart (map (on_axes as') (shapes q terms r d ns)) (on_members uss (axes_members r e)) ts i
    child-there =
        outer-there env0 q q-apart as' uss (shapes q terms r d ns) (axes_members r e) ts i
        (subst (λ a. AllOf (lists_of a) (λ js. There env0 q q-apart (shapes q terms r d ns) (axes_members r e) ts (i ++ js))) (sym same) child-there-each)

    -- The child's constraint at each place.
    pub child-means : (l : ℕ) (is : Exs) → AllOf (lists_of (codes env0 q q-apart uss))
        (λ js. MeansAt env0 q q-apart (level_behind l as') (row_index q l as' is) (structure q terms r d ns (level_behind l as') (row_index q l as' is)) (i ++ js)
        (canonical r e (behind (i ++ js) (cells_of ts))))
    child-means l is =
        subst (λ a. AllOf (lists_of a) (λ js. MeansAt env0 q q-apart (level_behind l as') (row_index q l as' is) (structure q terms r d ns (level_behind l as') (row_index q l as' is)) (i ++ js)
        (canonical r e (behind (i ++ js) (cells_of ts))))) (sym same)
        (all-of-map (lists_of bs) _ _ (λ js x. λ cs st. child.means out ns ts (level_behind l as') (row_index q l as' is) (i ++ js) cs child-placed x st) child-fits)

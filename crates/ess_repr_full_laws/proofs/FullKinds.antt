-- Tables that fit are full for a child of which the tables stand behind further axes, at each place and in each slot.
use Rattle.std.proofs.Common.{◌≡◌, refl, sym, ap, ◌∙◌, subst, ℕ, suc, ◌+◌, ◌≤◌, ◌<◌, Bool, true, false, List, [], ◌∷◌, ◌++◌, map, length, ℤ, pos, Some, is_some, arith, append-nil, append_assoc}
use Rattle.std.proofs.Math.Path.{fun_ext}
use Rattle.std.proofs.lemmas.List.{map-append}
use Rattle.ess_semantics.specs.Values.{Text, Value, number}
use Rattle.ess_semantics.specs.Order.{same_text}
use Rattle.ess_semantics.specs.Names.{look}
use Rattle.ess_semantics.specs.Trees.{Repr, Ex, Exs, name_ex, cell_ex, Dom}
use Rattle.ess_semantics.specs.Domains.{Domain, lists_of}
use Rattle.ess_semantics.specs.Tables.{Table, Tables, code, cell_at}
use Rattle.ess_semantics.specs.Cells.{every_cell}
use Rattle.ess_semantics.specs.Meaning.{Env}
use Rattle.ess_repr_laws.specs.StructureParts.{Shape, add_ex, upto, on_axes, row_index, level_behind, next_ex}
use Rattle.ess_repr_laws.specs.Structure.{shapes, structure}
use Rattle.ess_repr_laws.specs.StructureMeaning.{Bound, M, Placed, axes_members, on_members, slot_numbers, fit}
use Rattle.ess_repr_laws.proofs.CanonicalPlaces.{AllOf, all-of-map, all-of-both}
use Rattle.ess_repr_laws.proofs.FittingCells.{under-every}
use Rattle.ess_repr_laws.proofs.StructurePlaces.{inner-placed}
use Rattle.ess_repr_laws.proofs.StructureRows.{Steady, There, codes, grid_at, steady-name}
use Rattle.ess_repr_laws.proofs.StructureSlotted.{at-slot, slots-same}
use Rattle.ess_repr_declare_laws.specs.SizeTerms.{size_terms}
use Rattle.ess_repr_structure_laws.proofs.BuiltStructures as B
use Rattle.ess_repr_full_laws.proofs.FullParts.{Anywhere, FullIn, name-added, next-added, row-index-anywhere}
use Rattle.ess_repr_full_laws.proofs.FullCells.{every-there, cell-full, FullAt}
use Rattle.ess_repr_full_laws.proofs.FullSlots.{Slot, next-index}

-- Nothing, of each of a list.
units : (xs : List (List ℤ)) → AllOf xs (λ js. Unit {0})
units [] = tt
units (x ∷ xs) = (tt, units xs)

module _ (env0 : Env) (q : ℕ → Text) (q-apart : (m l : ℕ) → l < m → same_text (q m) (q l) ≡ false) where
  abbrev B' : Type 0
  B' = Bound env0 q q-apart

  abbrev N : B' → Env
  N = M env0 q q-apart

  -- Cells that are there behind further axes are there at each place of these.
  pub inner-there : (as' : List Dom) (uss : List (List Value)) (ss : List Shape) (vsss : List (List (List Value))) (ts : Tables)
      (i : List ℤ) →
      There env0 q q-apart (map (on_axes as') ss) (on_members uss vsss) ts i → AllOf (lists_of (codes env0 q q-apart uss))
      (λ js. There env0 q q-apart ss vsss ts (i ++ js))
  inner-there as' uss [] vsss ts i h = units (lists_of (codes env0 q q-apart uss))
  inner-there as' uss (s ∷ ss) [] ts i h = units (lists_of (codes env0 q q-apart uss))
  inner-there as' uss (s ∷ ss) (vss ∷ vsss) [] i h = units (lists_of (codes env0 q q-apart uss))
  inner-there as' uss (s ∷ ss) (vss ∷ vsss) (t ∷ ts) i h =
      all-of-both (lists_of (codes env0 q q-apart uss))
      (λ js. every_cell (codes env0 q q-apart vss) (fit s.truth) (λ ks. cell_at t (i ++ (js ++ ks))) ≡ true)
      (λ js. There env0 q q-apart ss vsss ts (i ++ js)) (λ js. There env0 q q-apart (s ∷ ss) (vss ∷ vsss) (t ∷ ts) (i ++ js))
      (λ js x y. (
        ap (every_cell (codes env0 q q-apart vss) (fit s.truth)) (fun_ext (λ ks. ap (cell_at t) (append_assoc i js ks))) ∙ x,
        y,
      ))
      (under-every (codes env0 q q-apart uss) (codes env0 q q-apart vss) (fit s.truth) (grid_at env0 q q-apart t i)
      (ap (λ a. every_cell a (fit s.truth) (grid_at env0 q q-apart t i)) (sym (map-append (map code) uss vss)) ∙ h.0))
      (inner-there as' uss ss vsss ts i h.1)

  -- A cell of a table without axes.
  pub own-cell-full : (b : Bool) (n : Text) (t : Table) (p : ℤ → Bool) (l : ℕ) (is : Exs) (i : List ℤ) (bs : B') →
      look env0.cells n ≡ Some t →
      every_cell [] p (grid_at env0 q q-apart t i) ≡ true → Steady env0 q q-apart l is i bs → B.AllHave (Anywhere env0) is →
      FullIn (cell_ex b n is) (N bs)
  own-cell-full b n t p l is i bs h e st a =
      let x = every-there [] p (grid_at env0 q q-apart t i) e in
      cell-full env0 q q-apart b n t is i bs h l st a (ap (λ j. is_some (cell_at t j)) (sym (append-nil i)) ∙ x.0)

  -- Tables that fit are full for the structure of a view.
  pub record FullOf (r : Repr) (d : Dom) (e : Domain) : Type 0 where
    pub full : (ns : List Text) (ts : Tables) (l : ℕ) (is : Exs) (i : List ℤ) (bs : B') → Placed env0 q q-apart (shapes q size_terms r d ns)
        (axes_members r e) ts →
        There env0 q q-apart (shapes q size_terms r d ns) (axes_members r e) ts i → Steady env0 q q-apart l is i bs →
        B.AllHave (Anywhere env0) is → FullIn (structure q size_terms r d ns l is) (N bs)

  -- ---- a child under further axes

  module _ (r : Repr) (d : Dom) (e : Domain) (m : FullOf r d e) (as' : List Dom) (uss : List (List Value)) (even : length as' ≡ length uss)
      (ns : List Text) (ts : Tables) (i : List ℤ)
      (p : Placed env0 q q-apart (map (on_axes as') (shapes q size_terms r d ns)) (on_members uss (axes_members r e)) ts)
      (th : There env0 q q-apart (map (on_axes as') (shapes q size_terms r d ns)) (on_members uss (axes_members r e)) ts i) where
    pub child-placed : Placed env0 q q-apart (shapes q size_terms r d ns) (axes_members r e) ts
    child-placed = inner-placed env0 q q-apart as' uss (shapes q size_terms r d ns) (axes_members r e) ts even p

    pub child-there : AllOf (lists_of (codes env0 q q-apart uss))
        (λ js. There env0 q q-apart (shapes q size_terms r d ns) (axes_members r e) ts (i ++ js))
    child-there = inner-there as' uss (shapes q size_terms r d ns) (axes_members r e) ts i th

    -- At each place.
    pub child-full : (l : ℕ) (is : Exs) → B.AllHave (Anywhere env0) is → AllOf (lists_of (codes env0 q q-apart uss))
        (λ js. FullAt env0 q q-apart (level_behind l as') (row_index q l as' is)
        (structure q size_terms r d ns (level_behind l as') (row_index q l as' is)) (i ++ js))
    child-full l is a =
        all-of-map (lists_of (codes env0 q q-apart uss))
        (λ js. There env0 q q-apart (shapes q size_terms r d ns) (axes_members r e) ts (i ++ js))
        (λ js. FullAt env0 q q-apart (level_behind l as') (row_index q l as' is)
        (structure q size_terms r d ns (level_behind l as') (row_index q l as' is)) (i ++ js))
        (λ js x. λ cs st. m.full ns ts (level_behind l as') (row_index q l as' is) (i ++ js) cs child-placed x st
        (row-index-anywhere env0 q l as' is a))
        child-there

  -- ---- a child in slots

  module _ (r : Repr) (d : Dom) (e : Domain) (m : FullOf r d e) (size : Ex) (S : ℕ) (ns : List Text) (ts : Tables) (i : List ℤ)
      (p : Placed env0 q q-apart (map (on_axes (upto size ∷ [])) (shapes q size_terms r d ns)) (on_members (slot_numbers S)
      (axes_members r e)) ts)
      (th : There env0 q q-apart (map (on_axes (upto size ∷ [])) (shapes q size_terms r d ns)) (on_members (slot_numbers S)
      (axes_members r e)) ts i) where
    pub slots-placed : Placed env0 q q-apart (shapes q size_terms r d ns) (axes_members r e) ts
    slots-placed = child-placed r d e m (upto size ∷ []) (slot_numbers S) refl ns ts i p th

    pub slot-there : (k : ℕ) → 1 ≤ k → k ≤ S → There env0 q q-apart (shapes q size_terms r d ns) (axes_members r e) ts (i ++ (pos k ∷ []))
    slot-there = at-slot S (λ js. There env0 q q-apart (shapes q size_terms r d ns) (axes_members r e) ts (i ++ js))
        (subst (λ a. AllOf (lists_of a) (λ js. There env0 q q-apart (shapes q size_terms r d ns) (axes_members r e) ts (i ++ js)))
        (slots-same env0 q q-apart S)
        (child-there r d e m (upto size ∷ []) (slot_numbers S) refl ns ts i p th))

    -- In each slot.
    pub slot-full : (l : ℕ) (is : Exs) (bs : B') → B.AllHave (Anywhere env0) is → Steady env0 q q-apart l is i bs → (k : ℕ) → 1 ≤ k →
        k ≤ S →
        Slot env0 q q-apart l bs (structure q size_terms r d ns (suc l) (add_ex is (name_ex (q l)))) k
    slot-full l is bs a st k x y =
        m.full ns ts (suc l) (add_ex is (name_ex (q l))) (i ++ (pos k ∷ [])) ((l, number (pos k)) ∷ bs) slots-placed (slot-there k x y)
        (steady-name env0 q q-apart l (number (pos k)) is i bs st) (name-added env0 q l is a)

  -- ---- a cell for each slot

  module _ (b : Bool) (n : Text) (t : Table) (S : ℕ) (p : ℤ → Bool) (l : ℕ) (is : Exs) (i : List ℤ) (bs : B')
      (h : look env0.cells n ≡ Some t)
      (e : every_cell (codes env0 q q-apart (slot_numbers S)) p (grid_at env0 q q-apart t i) ≡ true)
      (st : Steady env0 q q-apart l is i bs) (a : B.AllHave (Anywhere env0) is) where
    present : (k : ℕ) → 1 ≤ k → k ≤ S → is_some (cell_at t (i ++ (pos k ∷ []))) ≡ true
    present = at-slot S (λ js. is_some (cell_at t (i ++ js)) ≡ true)
        (subst (λ a. AllOf (lists_of a) (λ js. is_some (cell_at t (i ++ js)) ≡ true)) (slots-same env0 q q-apart S)
        (every-there (codes env0 q q-apart (slot_numbers S)) p (grid_at env0 q q-apart t i) e))

    -- Of a slot, and of the next one.
    pub here-full : (k : ℕ) → 1 ≤ k → k ≤ S → Slot env0 q q-apart l bs (cell_ex b n (add_ex is (name_ex (q l)))) k
    here-full k x y = cell-full env0 q q-apart b n t (add_ex is (name_ex (q l))) (i ++ (pos k ∷ [])) ((l, number (pos k)) ∷ bs) h (suc l)
        (steady-name env0 q q-apart l (number (pos k)) is i bs st) (name-added env0 q l is a) (present k x y)

    pub next-full : (k : ℕ) → 1 ≤ k → k + 1 ≤ S → Slot env0 q q-apart l bs (cell_ex b n (add_ex is (next_ex q l))) k
    next-full k x y = cell-full env0 q q-apart b n t (add_ex is (next_ex q l)) (i ++ (pos (k + 1) ∷ [])) ((l, number (pos k)) ∷ bs) h
        (suc l)
        (next-index env0 q q-apart l k is i bs st) (next-added env0 q l is a) (present (k + 1) (omega (arith, x)) y)

-- The structure constraint of a matrix: that of its element at each place.
use Rattle.std.proofs.Common.{◌≡◌, refl, sym, ap, ◌∙◌, ℕ, ◌+◌, ◌<◌, Bool, true, false, ◌&&◌, ◌||◌, List, [], ◌∷◌, ◌++◌, map, length, Some, append-nil, arith}
use Rattle.std.specs.List.{list_all}
use Rattle.ess_semantics.specs.declared.words.ReprKind.{ReprKind}
use Rattle.ess_semantics.specs.Values.{Text, Value, truth}
use Rattle.ess_semantics.specs.Order.{same_text}
use Rattle.ess_semantics.specs.Kinds.{dom_list}
use Rattle.ess_semantics.specs.Trees.{Repr, repr, no_reprs, more_reprs, Dom, Doms, matrix_dom}
use Rattle.ess_semantics.specs.Domains.{Domain, Domains, matrices, no_domains, more_domains, domain_list, lists_of}
use Rattle.ess_semantics.specs.Cells.{Axes, behind, cells_of}
use Rattle.ess_semantics.specs.Layers.{codes_of, some_each, only_child, always_canonical}
use Rattle.ess_semantics.specs.ScalarLayers.{matrix_layer, elements, nested_of}
use Rattle.ess_semantics.specs.Representations.{width}
use Rattle.ess_semantics.specs.Declarations.{axes_of}
use Rattle.ess_semantics.specs.CanonicalTest.{canonical}
use Rattle.ess_semantics.specs.Meaning.{Env}
use Rattle.ess_semantics.specs.Atoms.{AreAtoms}
use Rattle.ess_repr_laws.specs.Finite.{HaveLists}
use Rattle.ess_repr_laws.specs.StructureParts.{Terms, row_index, level_behind}
use Rattle.ess_repr_laws.specs.Structure.{shapes, structure}
use Rattle.ess_repr_laws.specs.StructureMeaning.{AxesAre, axes_members, index_members}
use Rattle.ess_repr_laws.proofs.Behind.{behind-append}
use Rattle.ess_repr_laws.proofs.CanonicalForms.{right}
use Rattle.ess_repr_laws.proofs.CellDomains.{axes-wide}
use Rattle.ess_repr_laws.proofs.CellsOfMembers.{map-long}
use Rattle.ess_repr_laws.proofs.RowsOfCells.{axes-of-layer}
use Rattle.ess_repr_laws.proofs.StructureLayers.{all-alike, everywhere-asked}
use Rattle.ess_repr_laws.proofs.StructureOf.{StructureOf, child-found, under-codes, child-there, child-long, child-means}
use Rattle.ess_repr_laws.proofs.StructurePlaces.{each-means}
use Rattle.ess_repr_laws.proofs.StructureRows.{codes}

module _ (env0 : Env) (q : ℕ → Text) (q-apart : (m l : ℕ) → l < m → same_text (q m) (q l) ≡ false) where
  -- The numbers of the members of index domains.
  pub index-codes : (is : Domains) → codes env0 q q-apart (index_members is) ≡ map codes_of (domain_list is)
  index-codes no_domains = refl
  index-codes (more_domains d ds) = ap (λ l. codes_of d ∷ l) (index-codes ds)

  -- As many axes as lists of members.
  pub axes-even : (as' : List Dom) (uss : List (List Value)) → AxesAre env0 q q-apart as' uss → length as' ≡ length uss
  axes-even [] [] h = refl
  axes-even (a ∷ as') (us ∷ uss) h = let x = axes-even as' uss h.1 in cc
  axes-even [] (us ∷ uss) h = absurd h
  axes-even (a ∷ as') [] h = absurd h

module _ (env0 : Env) (q : ℕ → Text) (q-apart : (m l : ℕ) → l < m → same_text (q m) (q l) ≡ false) (terms : Terms) where
  -- The structure constraint of a matrix means that its cells are canonical.
  pub matrix-structure : (r : Repr) (is : Doms) (d : Dom) (js : Domains) (e : Domain) → AreAtoms js → HaveLists js → AxesAre env0 q q-apart (dom_list is) (index_members js) →
      StructureOf env0 q q-apart terms r d e → StructureOf env0 q q-apart terms (repr ReprKind.Matrix (more_reprs r no_reprs)) (matrix_dom is d) (matrices js e)
  matrix-structure r is d js e a f ax child = record {
    covered = (a, f, child.covered);
    long = λ ns. map-long _ (shapes q terms r d ns) ∙ child.long ns ∙ (let z : width r ≡ 0 + (width r + 0) = omega arith in z);
    axes = under-codes env0 q q-apart terms (index_members js) bs (axes_members r e) same ∙ ap (map (λ (as' : Axes). bs ++ as')) child.axes
        ∙ sym (append-nil (map (λ (as' : Axes). bs ++ as') (axes_of r e))) ∙ sym (axes-of-layer (matrix_layer js e) (more_reprs r no_reprs));
    found = child-found env0 q q-apart terms r d e child (dom_list is) (index_members js) ax;
    there = λ out ns ts i p c. child-there env0 q q-apart terms r d e child (dom_list is) (index_members js) bs same even (out || false) ns ts i p c;
    means = λ out ns ts l is' i cs p c st.
        each-means env0 q q-apart l (dom_list is) (index_members js) is' i cs
        (structure q terms r d ns (level_behind l (dom_list is)) (row_index q l (dom_list is) is')) (λ js. canonical r e (behind (i ++ js) (cells_of ts))) ax st
        (child-means env0 q q-apart terms r d e child (dom_list is) (index_members js) bs same even (out || false) ns ts i p c l is')
        ∙ ap (λ b. Some (truth b))
        (ap (λ as'. list_all (λ js. canonical r e (behind (i ++ js) (cells_of ts))) (lists_of as')) same
        ∙ all-alike (lists_of bs) (λ js. canonical r e (behind (i ++ js) (cells_of ts))) (λ js. canonical r e (behind js (behind i (cells_of ts))))
        (λ js. ap (canonical r e) (behind-append i js (cells_of ts)))
        ∙ sym (everywhere-asked r e (right r e child.covered) (axes-wide r e child.covered) ReprKind.Matrix (matrices js e) bs (λ v. some_each (elements js v)) (λ c vss. nested_of js (only_child vss)) always_canonical
        (behind i (cells_of ts)) true (child-long env0 q q-apart terms r d e child (dom_list is) (index_members js) bs same even (out || false) ns ts i p c) (λ vs n. refl)
        ∙ and-true (list_all (λ js. canonical r e (behind js (behind i (cells_of ts)))) (lists_of bs))));
  }
    where
      bs : Axes
      bs = map codes_of (domain_list js)

      same : codes env0 q q-apart (index_members js) ≡ bs
      same = index-codes env0 q q-apart js

      even : length (dom_list is) ≡ length (index_members js)
      even = axes-even env0 q q-apart (dom_list is) (index_members js) ax

      and-true : (b : Bool) → b && true ≡ b
      and-true true = refl
      and-true false = refl

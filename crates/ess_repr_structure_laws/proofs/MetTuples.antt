-- Tables meet the structures of tuples and records: those of each component.
use Rattle.std.proofs.Common.{◌≡◌, sym, ap, ◌∙◌, subst, ℕ, ◌<◌, Bool, true, false, ◌||◌, List, [], ◌∷◌, ◌++◌, take, drop, length, ℤ}
use Rattle.std.proofs.lemmas.List.{map-append}
use Rattle.ess_semantics.specs.declared.words.ReprKind.{ReprKind}
use Rattle.ess_semantics.specs.Values.{Text}
use Rattle.ess_semantics.specs.Order.{same_text}
use Rattle.ess_semantics.specs.Trees.{Repr, Reprs, repr, more_reprs, Ex, Exs, Dom, Doms, more_doms, tuple_dom, record_dom}
use Rattle.ess_semantics.specs.Domains.{Domain, Domains, tuples, records, domain_list}
use Rattle.ess_semantics.specs.Tables.{Tables}
use Rattle.ess_semantics.specs.Cells.{behind, cells_of}
use Rattle.ess_semantics.specs.Representations.{width}
use Rattle.ess_semantics.specs.Declarations.{under, declarations_below, declarations_of_children}
use Rattle.ess_semantics.specs.Tidy.{over_axes}
use Rattle.ess_semantics.specs.Meaning.{Env}
use Rattle.ess_repr_laws.specs.StructureParts.{Shape}
use Rattle.ess_repr_laws.specs.Structure.{shapes, shapes_of_each, structure, structure_of_each}
use Rattle.ess_repr_laws.specs.StructureMeaning.{Bound, M, Placed, axes_members, members_of_axes}
use Rattle.ess_repr_laws.proofs.CellDomains.{axes-wide}
use Rattle.ess_repr_laws.proofs.CellsOfMembers.{map-long}
use Rattle.ess_repr_laws.proofs.RowsOfCells.{axes-below}
use Rattle.ess_repr_laws.proofs.StructureFits.{Fit, fit-split}
use Rattle.ess_repr_laws.proofs.StructureOf.{StructureOf}
use Rattle.ess_repr_laws.proofs.StructureRows.{Steady, all_codes}
use Rattle.ess_repr_laws.proofs.StructureTuples.{placed-split, under-none, first-cells, other-cells}
use Rattle.ess_repr_declare_laws.specs.SizeTerms.{size_terms}
use Rattle.ess_repr_structure_laws.proofs.BuiltStructures as B
use Rattle.ess_repr_structure_laws.proofs.MetParts.{MetIn, and-met}
use Rattle.ess_repr_structure_laws.proofs.MetLayers as M'
use Rattle.ess_repr_structure_laws.proofs.MetLayers.{here}
use Rattle.ess_repr_structure_laws.proofs.MetLayers.{over-split}
use Rattle.ess_repr_structure_laws.proofs.MetKinds.{Met}

module _ (env0 : Env) (q : ℕ → Text) (q-apart : (m l : ℕ) → l < m → same_text (q m) (q l) ≡ false) where
  abbrev Names : Type 0
  Names = Bound env0 q q-apart

  abbrev N : Names → Env
  N = M env0 q q-apart

  abbrev G : Ex → Type 0
  G = M'.G env0 q q-apart

  -- Tables that fit meet the structures of components.
  pub record EachMet (rs : Reprs) (ds : Doms) (es : List Domain) : Type 0 where
    pub met : (out : Bool) (ns : List Text) (ts : Tables) (l : ℕ) (is : Exs) (i : List ℤ) (bs : Names) → Placed env0 q q-apart
        (shapes_of_each q size_terms rs ds ns) (members_of_axes rs es) ts →
        Fit (declarations_of_children out rs es []) (behind i (cells_of ts)) → over_axes i
        (all_codes env0 q q-apart (members_of_axes rs es)) ts ≡ true → Steady env0 q q-apart l is i bs → B.AllHave G is →
        MetIn (structure_of_each q size_terms rs ds ns l is) (N bs)

  pub none-met : (rs : Reprs) (ds : Doms) (es : List Domain) →
      ((ns : List Text) (l : ℕ) (is : Exs) (bs : Names) → MetIn (structure_of_each q size_terms rs ds ns l is) (N bs)) → EachMet rs ds es
  none-met rs ds es h = record { met = λ out ns ts l is i bs p c o st a. h ns l is bs }

  -- One more component.
  pub more-met : (r : Repr) (rs : Reprs) (d : Dom) (ds : Doms) (e : Domain) (es : List Domain) → StructureOf env0 q q-apart size_terms r d e
      → Met env0 q q-apart r d e → EachMet rs ds es →
      EachMet (more_reprs r rs) (more_doms d ds) (e ∷ es)
  more-met r rs d ds e es s m each = record {
    met = λ out ns ts l is i bs p c o st a.
        let x = halves ns ts p in let y = parts out ts i c in let z = overs i ts o in
        and-met (structure q size_terms r d (take (width r) ns) l is) (structure_of_each q size_terms rs ds (drop (width r) ns) l is) (N bs)
        (m.met out (take (width r) ns) (take (width r) ts) l is i bs x.0 y.0 z.0 st a)
        (λ t. each.met out (drop (width r) ns) (drop (width r) ts) l is i bs x.1 y.1 z.1 st a);
  }
    where
      S : List Text → List Shape
      S ns = shapes q size_terms r d (take (width r) ns)

      T : List Text → List Shape
      T ns = shapes_of_each q size_terms rs ds (drop (width r) ns)

      wide : length (axes_members r e) ≡ width r
      wide = sym (ap length (sym s.axes) ∙ map-long _ (axes_members r e)) ∙ axes-wide r e s.covered

      halves : (ns : List Text) (ts : Tables) → Placed env0 q q-apart (S ns ++ T ns) (axes_members r e ++ members_of_axes rs es) ts →
          Placed env0 q q-apart (S ns) (axes_members r e) (take (width r) ts) × Placed env0 q q-apart (T ns) (members_of_axes rs es)
          (drop (width r) ts)
      halves ns ts p = subst (λ n. Placed env0 q q-apart (S ns) (axes_members r e) (take n ts) × Placed env0 q q-apart (T ns)
          (members_of_axes rs es) (drop n ts)) (s.long (take (width r) ns))
          (placed-split env0 q q-apart (S ns) (T ns) (axes_members r e) (members_of_axes rs es) ts (s.long (take (width r) ns) ∙ sym wide)
          p)

      declared-long : (out : Bool) → length (declarations_below out r e) ≡ width r
      declared-long out = sym (map-long (λ t. t.axes) (declarations_below out r e)) ∙ ap length (axes-below out r e) ∙ axes-wide r e
          s.covered

      parts : (out : Bool) (ts : Tables) (i : List ℤ) → Fit (under [] (declarations_below out r e) ++ declarations_of_children out rs es [])
          (behind i (cells_of ts)) →
          (Fit (declarations_below out r e) (behind i (cells_of (take (width r) ts)))) ×
          (Fit (declarations_of_children out rs es []) (behind i (cells_of (drop (width r) ts))))
      parts out ts i c =
          let x = fit-split (declarations_below out r e) (declarations_of_children out rs es []) (behind i (cells_of ts))
          (subst (λ l. Fit (l ++ declarations_of_children out rs es []) (behind i (cells_of ts))) (under-none (declarations_below out r e))
          c) in
          let y = subst (λ n. (Fit (declarations_below out r e) (take n (behind i (cells_of ts)))) ×
          (Fit (declarations_of_children out rs es []) (drop n (behind i (cells_of ts))))) (declared-long out) x in (
            subst (Fit (declarations_below out r e)) (first-cells (width r) i ts) y.0,
            subst (Fit (declarations_of_children out rs es []))
                (other-cells (width r) i ts) y.1,
          )

      codes-long : length (all_codes env0 q q-apart (axes_members r e)) ≡ width r
      codes-long = ap length s.axes ∙ axes-wide r e s.covered

      overs : (i : List ℤ) (ts : Tables) → over_axes i (all_codes env0 q q-apart (axes_members r e ++ members_of_axes rs es)) ts ≡ true →
          (over_axes i (all_codes env0 q q-apart (axes_members r e)) (take (width r) ts) ≡ true) ×
          (over_axes i (all_codes env0 q q-apart (members_of_axes rs es)) (drop (width r) ts) ≡ true)
      overs i ts o =
          subst (λ n. (over_axes i (all_codes env0 q q-apart (axes_members r e)) (take n ts) ≡ true) ×
          (over_axes i (all_codes env0 q q-apart (members_of_axes rs es)) (drop n ts) ≡ true)) codes-long
          (over-split i (all_codes env0 q q-apart (axes_members r e)) (all_codes env0 q q-apart (members_of_axes rs es)) ts
          (ap (λ a. over_axes i a ts) (sym (map-append _ (axes_members r e) (members_of_axes rs es))) ∙ o))

  pub tuple-met : (rs : Reprs) (ds : Doms) (es : Domains) → EachMet rs ds (domain_list es) → Met env0 q q-apart (repr ReprKind.Tuple rs)
      (tuple_dom ds) (tuples es)
  tuple-met rs ds es each = record { met = λ out ns ts l is i bs p c o st a. each.met (out || false) ns ts l is i bs p c o st a }

  pub record-met : (rs : Reprs) (fs gs : List Text) (ds : Doms) (es : Domains) → EachMet rs ds (domain_list es) → Met env0 q q-apart
      (repr ReprKind.Rec rs) (record_dom fs ds) (records gs es)
  record-met rs fs gs ds es each = record { met = λ out ns ts l is i bs p c o st a. each.met (out || false) ns ts l is i bs p c o st a }

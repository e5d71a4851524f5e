-- Tables that fit are full for the structures of tuples and records: for those of each component.
use Rattle.std.proofs.Common.{◌≡◌, sym, ap, ◌∙◌, subst, ℕ, ◌<◌, true, false, List, [], ◌∷◌, ◌++◌, take, drop, length, ℤ}
use Rattle.ess_semantics.specs.declared.words.Op2.{Op2}
use Rattle.ess_semantics.specs.Values.{Text, Value}
use Rattle.ess_semantics.specs.Order.{same_text}
use Rattle.ess_semantics.specs.Trees.{Repr, Reprs, more_reprs, Exs, Dom, Doms, more_doms}
use Rattle.ess_semantics.specs.Domains.{Domain}
use Rattle.ess_semantics.specs.Tables.{Tables}
use Rattle.ess_semantics.specs.Representations.{width}
use Rattle.ess_semantics.specs.Meaning.{Env}
use Rattle.ess_repr_laws.specs.StructureParts.{Shape}
use Rattle.ess_repr_laws.specs.Structure.{shapes, shapes_of_each, structure, structure_of_each}
use Rattle.ess_repr_laws.specs.StructureMeaning.{Bound, M, Placed, axes_members, members_of_axes}
use Rattle.ess_repr_laws.proofs.CellDomains.{axes-wide}
use Rattle.ess_repr_laws.proofs.CellsOfMembers.{map-long}
use Rattle.ess_repr_laws.proofs.StructureOf.{StructureOf}
use Rattle.ess_repr_laws.proofs.StructureRows.{Steady, There}
use Rattle.ess_repr_laws.proofs.StructureTuples.{placed-split}
use Rattle.ess_repr_declare_laws.specs.SizeTerms.{size_terms}
use Rattle.ess_repr_structure_laws.proofs.BuiltStructures as B
use Rattle.ess_repr_full_laws.proofs.FullParts.{Anywhere, FullIn, two-full}
use Rattle.ess_repr_full_laws.proofs.FullKinds.{FullOf}

module _ (env0 : Env) (q : ℕ → Text) (q-apart : (m l : ℕ) → l < m → same_text (q m) (q l) ≡ false) where
  abbrev B' : Type 0
  B' = Bound env0 q q-apart

  abbrev N : B' → Env
  N = M env0 q q-apart

  -- Cells that are there side by side are so on each side.
  there-split : (ss ss' : List Shape) (vsss wsss : List (List (List Value))) (ts : Tables) (i : List ℤ) → length ss ≡ length vsss →
      There env0 q q-apart (ss ++ ss') (vsss ++ wsss) ts i →
      There env0 q q-apart ss vsss (take (length ss) ts) i × There env0 q q-apart ss' wsss (drop (length ss) ts) i
  there-split [] ss' [] wsss ts i n h = (tt, h)
  there-split [] ss' (vss ∷ vsss) wsss ts i n h = cc
  there-split (s ∷ ss) ss' [] wsss ts i n h = cc
  there-split (s ∷ ss) ss' (vss ∷ vsss) wsss [] i n h = (tt, none ss' wsss)
    where
      none : (ss : List Shape) (vsss : List (List (List Value))) → There env0 q q-apart ss vsss [] i
      none [] vsss = tt
      none (s ∷ ss) [] = tt
      none (s ∷ ss) (vss ∷ vsss) = tt
  there-split (s ∷ ss) ss' (vss ∷ vsss) wsss (t ∷ ts) i n h =
      let n' : length ss ≡ length vsss = cc in
      let x = there-split ss ss' vsss wsss ts i n' h.1 in ((h.0, x.0), x.1)

  -- Tables that fit are full for the structures of components.
  pub record EachFull (rs : Reprs) (ds : Doms) (es : List Domain) : Type 0 where
    pub full : (ns : List Text) (ts : Tables) (l : ℕ) (is : Exs) (i : List ℤ) (bs : B') → Placed env0 q q-apart
        (shapes_of_each q size_terms rs ds ns) (members_of_axes rs es) ts →
        There env0 q q-apart (shapes_of_each q size_terms rs ds ns) (members_of_axes rs es) ts i → Steady env0 q q-apart l is i bs →
        B.AllHave (Anywhere env0) is → FullIn (structure_of_each q size_terms rs ds ns l is) (N bs)

  -- One more component.
  pub more-full : (r : Repr) (rs : Reprs) (d : Dom) (ds : Doms) (e : Domain) (es : List Domain) →
      StructureOf env0 q q-apart size_terms r d e
      → FullOf env0 q q-apart r d e → EachFull rs ds es →
      EachFull (more_reprs r rs) (more_doms d ds) (e ∷ es)
  more-full r rs d ds e es s m each = record {
    full = λ ns ts l is i bs p th st a.
        let x = placed ns ts p in
        let y = there ns ts i th in
        two-full (N bs) true Op2.And (structure q size_terms r d (take (width r) ns) l is)
        (structure_of_each q size_terms rs ds (drop (width r) ns) l is)
        (m.full (take (width r) ns) (take (width r) ts) l is i bs x.0 y.0 st a)
        (each.full (drop (width r) ns) (drop (width r) ts) l is i bs x.1 y.1 st a);
  }
    where
      S : List Text → List Shape
      S ns = shapes q size_terms r d (take (width r) ns)

      T : List Text → List Shape
      T ns = shapes_of_each q size_terms rs ds (drop (width r) ns)

      wide : length (axes_members r e) ≡ width r
      wide = sym (ap length (sym s.axes) ∙ map-long _ (axes_members r e)) ∙ axes-wide r e s.covered

      placed : (ns : List Text) (ts : Tables) → Placed env0 q q-apart (S ns ++ T ns) (axes_members r e ++ members_of_axes rs es) ts →
          Placed env0 q q-apart (S ns) (axes_members r e) (take (width r) ts) × Placed env0 q q-apart (T ns) (members_of_axes rs es)
          (drop (width r) ts)
      placed ns ts p = subst (λ n. Placed env0 q q-apart (S ns) (axes_members r e) (take n ts) × Placed env0 q q-apart (T ns)
          (members_of_axes rs es) (drop n ts)) (s.long (take (width r) ns))
          (placed-split env0 q q-apart (S ns) (T ns) (axes_members r e) (members_of_axes rs es) ts (s.long (take
          (width r) ns) ∙ sym wide) p)

      there : (ns : List Text) (ts : Tables) (i : List ℤ) →
          There env0 q q-apart (S ns ++ T ns) (axes_members r e ++ members_of_axes rs es) ts
          i →
          There env0 q q-apart (S ns) (axes_members r e) (take (width r) ts) i × There env0 q q-apart (T ns) (members_of_axes rs es)
          (drop (width r) ts) i
      there ns ts i h = subst (λ n. There env0 q q-apart (S ns) (axes_members r e) (take n ts) i × There env0 q q-apart (T ns)
          (members_of_axes rs es) (drop n ts) i) (s.long (take (width r) ns))
          (there-split (S ns) (T ns) (axes_members r e) (members_of_axes rs es) ts i (s.long (take (width r) ns) ∙ sym wide) h)

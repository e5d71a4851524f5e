-- The tables that a structure of nested sets reads have the marks and numbers of axes that are declared of them.
use Rattle.std.proofs.Common.{◌≡◌, refl, sym, ap, subst, ◌∙◌, ℕ, suc, ◌+◌, ◌<◌, Bool, true, false, ◌||◌, List, [], ◌∷◌, ◌++◌, map, drop, length, Option, Some, arith}
use Rattle.std.specs.Prelude.{codes}
use Rattle.ess_semantics.specs.Values.{Text}
use Rattle.ess_semantics.specs.Order.{same_text}
use Rattle.ess_semantics.specs.Trees.{Repr, Dom, set_dom}
use Rattle.ess_semantics.specs.Contexts.{Each}
use Rattle.ess_semantics.specs.Meaning.{is_bool_dom}
use Rattle.ess_semantics.specs.DeclaredTables.{TableDecl}
use Rattle.ess_semantics.specs.Representations.{width}
use Rattle.ess_repr_laws.specs.StructureParts.{Shape, upto, on_axes}
use Rattle.ess_repr_laws.specs.Structure.{shapes}
use Rattle.ess_repr_declare_laws.specs.SizeTerms.{slots_ex, size_terms}
use Rattle.ess_repr_declare_laws.specs.DeclaredTrees.{below_layer, trees_below, widened_if, cell_dom, with_dummy}
use Rattle.conjure_model_laws.specs.IsBuiltFrom.{with_whole_names}
use Rattle.ess_nested_laws.proofs.NestedForms.{WrittenAtom, written_truths, written_numbers, written_range, KeptAs, as_atom, by_occurrence, with_a_dummy, in_slots, with_a_marker, with_flags}
use Rattle.ess_bare_structures_laws.specs.Laws.{IsMarked, AreMarked}
use Rattle.ess_bare_structures_laws.proofs.BareLevels as V
use Rattle.ess_bare_structures_laws.proofs.BareSizes as Z

module _ (cells : Text → Option (Bool × ℕ)) where
  -- The table is read so, behind k indices.
  abbrev IsRead : ℕ → Shape → Type 0
  IsRead k s = cells s.name ≡ Some (s.truth, k + length s.axes)

  abbrev AreRead : ℕ → List Shape → Type 0
  AreRead k ss = Each ss (IsRead k)

  -- A declaration read behind k indices.
  abbrev IsSo : ℕ → TableDecl → Type 0
  IsSo k t = cells t.name ≡ Some (is_bool_dom t.cell, k + length t.axes)

  abbrev AreSo : ℕ → List Text → List TableDecl → Type 0
  AreSo k ns ts = Each (with_whole_names ns ts) (IsSo k)

  later : (k : ℕ) (b : Bool) (n : Text) (m : ℕ) → cells n ≡ Some (b, k + suc m) → cells n ≡ Some (b, suc k + m)
  later k b n m h =
      let e : k + suc m ≡ suc k + m = omega arith in h ∙ ap (λ j. Some (b, j)) e

  -- Declarations below a layer with one axis.
  below : (k : ℕ) (x : Text) (a : Dom) (ns : List Text) (ts : List TableDecl) → AreSo k ns (map (below_layer x (a ∷ [])) ts) →
      AreSo (suc k) ns ts
  below k x a [] ts h = tt
  below k x a (n ∷ ns) [] h = tt
  below k x a (n ∷ ns) (t ∷ ts) h = (later k (is_bool_dom t.cell) n (length t.axes) h.0, below k x a ns ts h.1)

  above : (k : ℕ) (a : Dom) (ss : List Shape) → AreRead (suc k) ss → AreRead k (map (on_axes (a ∷ [])) ss)
  above k a [] h = tt
  above k a (s ∷ ss) h =
      let e : suc k + length s.axes ≡ k + suc (length s.axes) = omega arith in
      (h.0 ∙ ap (λ j. Some (s.truth, j)) e, above k a ss h.1)

  append-none : (ts : List TableDecl) → ts ++ [] ≡ ts
  append-none [] = refl
  append-none (t ∷ ts) = ap (λ us. t ∷ us) (append-none ts)

  -- What is declared of children, where nothing stands behind them.
  alone : (k : ℕ) (x : Text) (a : Dom) (ns : List Text) (ts : List TableDecl) → AreSo k ns (map (below_layer x (a ∷ [])) ts ++ []) →
      AreSo (suc k) ns ts
  alone k x a ns ts h = below k x a ns ts (subst (λ us. AreSo k ns us) (append-none (map (below_layer x (a ∷ [])) ts)) h)

  atom-mark : {d : Dom} (out : Bool) → WrittenAtom d → is_bool_dom (widened_if out (cell_dom d)) ≡ is_bool_dom d
  atom-mark true written_truths = refl
  atom-mark false written_truths = refl
  atom-mark true written_numbers = refl
  atom-mark false written_numbers = refl

  dummy-mark : (out : Bool) (a b : ℕ) → is_bool_dom (widened_if out (with_dummy (written_range a b))) ≡ false
  dummy-mark true a b = refl
  dummy-mark false a b = refl

  -- The tables that are read have what is declared of them.
  pub tables-read : {r : Repr} {d : Dom} → KeptAs r d → (q : ℕ → Text) (out : Bool) (k : ℕ) (ns : List Text) → length ns ≡ width r →
      AreSo k ns (trees_below out r d) → AreRead k (shapes q size_terms r d ns)
  tables-read (as_atom {d} a) q out k [] w h = absurd (omega (arith, w))
  tables-read (as_atom {d} a) q out k (n ∷ ns) w h = (h.0 ∙ ap (λ b. Some (b, k + 0)) (atom-mark out a), tt)
  tables-read (by_occurrence {ms} {es} {d} s a) q out k [] w h = absurd (omega (arith, w))
  tables-read (by_occurrence {ms} {es} {d} s a) q out k (n ∷ ns) w h = (h.0, tt)
  tables-read (with_a_dummy {ms} {es} {a} {b} s) q out k [] w h = absurd (omega (arith, w))
  tables-read (with_a_dummy {ms} {es} {a} {b} s) q out k (n ∷ ns) w h = (h.0 ∙ ap (λ m. Some (m, k + 1)) (dummy-mark out a b), tt)
  tables-read (in_slots {ms} {es} {r} {d} s e g) q out k ns w h =
      above k (upto (slots_ex (set_dom ms es d))) (shapes q size_terms r d ns)
      (tables-read g q (out || false) (suc k) ns (omega (arith, w))
      (alone k (codes "_Explicit") (upto (slots_ex (set_dom ms es d))) ns (trees_below (out || false) r d) h))
  tables-read (with_a_marker {ms} {es} {r} {d} s g) q out k [] w h = absurd (omega (arith, w))
  tables-read (with_a_marker {ms} {es} {r} {d} s g) q out k (n ∷ ns) w h = (
    h.0,
    above k (upto (slots_ex (set_dom ms es d))) (shapes q size_terms r d ns)
        (tables-read g q (out || true) (suc k) ns (omega (arith, w))
        (alone k (codes "_ExplicitVarSizeWithMarker_Values") (upto (slots_ex (set_dom ms es d))) ns (trees_below (out || true) r d) h.1)),
  )
  tables-read (with_flags {ms} {es} {r} {d} s g) q out k [] w h = absurd (omega (arith, w))
  tables-read (with_flags {ms} {es} {r} {d} s g) q out k (n ∷ ns) w h = (
    h.0,
    above k (upto (slots_ex (set_dom ms es d))) (shapes q size_terms r d ns)
        (tables-read g q (out || true) (suc k) ns (omega (arith, w))
        (alone k (codes "_ExplicitVarSizeWithFlags_Values") (upto (slots_ex (set_dom ms es d))) ns (trees_below (out || true) r d) h.1)),
  )

  module _ (q : ℕ → Text) (apart : (m l : ℕ) → l < m → same_text (q m) (q l) ≡ false) where
    behind-is : (as' : List Dom) (k : ℕ) → V.indices_behind cells q apart k as' ≡ k + length as'
    behind-is [] k = omega arith
    behind-is (a ∷ as') k =
        let e : suc k + length as' ≡ k + suc (length as') = omega arith in behind-is as' (suc k) ∙ e

    abbrev HaveAxes : List Shape → Type 0
    HaveAxes ss = Each ss (λ s. V.AreAxes cells q apart s.axes)

    on-slots : (a : Dom) (ss : List Shape) → V.Axis cells q apart a → HaveAxes ss → HaveAxes (map (on_axes (a ∷ [])) ss)
    on-slots a [] x h = tt
    on-slots a (s ∷ ss) x h = ((x, h.0), on-slots a ss x h.1)

    -- Axes of tables are bare.
    pub axes-bare : {r : Repr} {d : Dom} → KeptAs r d → (ns : List Text) → HaveAxes (shapes q size_terms r d ns)
    axes-bare (as_atom a) ns = (tt, tt)
    axes-bare (by_occurrence s a) ns = ((Z.atom-axis cells q apart a, tt), tt)
    axes-bare (with_a_dummy {ms} {es} {a} {b} s) ns =
        ((V.upto-axis cells q apart (Z.atom-slots cells q apart ms es s (written_numbers {a = a} {b = b})), tt), tt)
    axes-bare (in_slots {ms} {es} {r} {d} s e g) ns =
        on-slots _ _ (V.upto-axis cells q apart (Z.kept-slots cells q apart ms es s g)) (axes-bare g ns)
    axes-bare (with_a_marker {ms} {es} {r} {d} s g) ns =
        (tt, on-slots _ _ (V.upto-axis cells q apart (Z.kept-slots cells q apart ms es s g)) (axes-bare g (drop 1 ns)))
    axes-bare (with_flags {ms} {es} {r} {d} s g) ns =
        let x = V.upto-axis cells q apart (Z.kept-slots cells q apart ms es s g) in
        ((x, tt), on-slots _ _ x (axes-bare g (drop 1 ns)))

    both : (k : ℕ) (ss : List Shape) → AreRead k ss → HaveAxes ss → V.ShapesFine cells q apart k ss
    both k [] h x = tt
    both k (s ∷ ss) h x = (
      record { marked = h.0 ∙ ap (λ j. Some (s.truth, j)) (sym (behind-is s.axes k)); axes = x.0 },
      both k ss h.1 x.1,
    )

    from-none : (ts : List TableDecl) → Each ts (IsMarked cells) → Each ts (IsSo 0)
    from-none [] h = tt
    from-none (t ∷ ts) h =
        let e : length t.axes ≡ 0 + length t.axes = omega arith in
        (h.0 ∙ ap (λ j. Some (is_bool_dom t.cell, j)) e, from-none ts h.1)

    -- So the tables that the structure reads are fine.
    pub shapes-fine : {r : Repr} {d : Dom} → KeptAs r d → (ns : List Text) → length ns ≡ width r → AreMarked cells r d ns →
        V.ShapesFine cells q apart 0 (shapes q size_terms r d ns)
    shapes-fine {r} {d} g ns w h =
        both 0 (shapes q size_terms r d ns) (tables-read g q false 0 ns w (from-none (with_whole_names ns (trees_below false r d)) h))
        (axes-bare g ns)

-- The constraint that the tables of a view of nested sets are canonical is bare and in scope, where its tables have the marks and numbers
-- of axes that it reads them with.
use Rattle.std.proofs.Common.{◌≡◌, ℕ, suc, ◌<◌, Bool, true, false, List, [], ◌∷◌, map, drop, Option, Some}
use Rattle.ess_semantics.specs.declared.words.ReprKind.{ReprKind}
use Rattle.ess_semantics.specs.Values.{Text}
use Rattle.ess_semantics.specs.Order.{same_text}
use Rattle.ess_semantics.specs.Names.{Names}
use Rattle.ess_semantics.specs.Trees.{Repr, repr, no_reprs, Mark, Ex, Exs, name_ex, cell_ex, Dom, set_dom}
use Rattle.ess_semantics.specs.Meaning.{is_bool_dom}
use Rattle.ess_repr_laws.specs.StructureParts.{Shape, add_ex, upto, on_axes, next_ex, own_shape, first_name}
use Rattle.ess_repr_laws.specs.Structure.{structure, shapes}
use Rattle.ess_repr_declare_laws.specs.SizeTerms.{slots_ex, dummy_ex, size_terms}
use Rattle.ess_nested_laws.proofs.NestedForms.{Sizes, written_numbers, written_range, KeptAs, as_atom, by_occurrence, with_a_dummy, in_slots, with_a_marker, with_flags}
use Rattle.ess_bare_structures_laws.proofs.BareParts as P
use Rattle.ess_bare_structures_laws.proofs.BareParts.{cell-fine, and-fine, or-fine, eq-fine, below-fine, not-fine, chosen-fine, sum-fine, sizes-fine}
use Rattle.ess_bare_structures_laws.proofs.BareLevels as V
use Rattle.ess_bare_structures_laws.proofs.BareSizes as Z

module _ (cells : Text → Option (Bool × ℕ)) (q : ℕ → Text) (apart : (m l : ℕ) → l < m → same_text (q m) (q l) ≡ false) where
  abbrev Fine : Names Bool → Ex → Bool → Type 0
  Fine = P.Fine cells

  abbrev Held : ℕ → Names Bool → Exs → ℕ → Type 0
  Held = V.Held cells q apart

  abbrev Under : ℕ → Names Bool → Type 0
  Under = V.Under cells q apart

  abbrev ShapesFine : ℕ → List Shape → Type 0
  ShapesFine = V.ShapesFine cells q apart

  abbrev Size : Ex → Type 0
  Size = V.Size cells q apart

  -- Tables behind the axis of slots have one index more.
  behind-slots : (k : ℕ) (n : Ex) (ss : List Shape) → ShapesFine k (map (on_axes (upto n ∷ [])) ss) → ShapesFine (suc k) ss
  behind-slots k n [] x = tt
  behind-slots k n (s ∷ ss) x =
      let y : V.ShapeFine cells q apart k (on_axes (upto n ∷ []) s) = x.0 in
      let z = y.axes in (record { marked = y.marked; axes = z.1 }, behind-slots k n ss x.1)

  -- A cell at an index list, and one at the slot of q l.
  cell-stays : (l k : ℕ) (r : Names Bool) (b : Bool) (n : Text) (is : Exs) → cells n ≡ Some (b, k) → Held l r is k →
      V.Stays cells q apart l r (cell_ex b n is) b
  cell-stays l k r b n is m h = record { at = λ t g. cell-fine cells t b n is k m (h.at t g) }

  slot-cell : (l k : ℕ) (r : Names Bool) (b : Bool) (n : Text) (is : Exs) → cells n ≡ Some (b, suc k) → Held l r is k →
      Fine ((q l, false) ∷ r) (cell_ex b n (add_ex is (name_ex (q l)))) b
  slot-cell l k r b n is m h =
      cell-fine cells ((q l, false) ∷ r) b n (add_ex is (name_ex (q l))) (suc k) m
      (V.held-here cells q apart (V.held-name cells q apart false h))

  next-cell : (l k : ℕ) (r : Names Bool) (b : Bool) (n : Text) (is : Exs) → cells n ≡ Some (b, suc k) → Held l r is k →
      Fine ((q l, false) ∷ r) (cell_ex b n (add_ex is (next_ex q l))) b
  next-cell l k r b n is m h =
      cell-fine cells ((q l, false) ∷ r) b n (add_ex is (next_ex q l)) (suc k) m
      (V.held-here cells q apart (V.held-next cells q apart h))

  -- Slots with a dummy.
  dummy-fine : (l k : ℕ) (r : Names Bool) (ms : List Mark) (es : Exs) (a b : ℕ) (n : Text) (is : Exs) → Sizes ms es →
      cells n ≡ Some (false, suc k) → Under l r → Held l r is k →
      Fine r (structure q size_terms (repr ReprKind.ExplicitVarSizeWithDummy no_reprs) (set_dom ms es (written_range a b)) (n ∷ []) l is)
      true
  dummy-fine l k r ms es a b n is s m u h =
      let w : Size (slots_ex (set_dom ms es (written_range a b))) = Z.atom-slots cells q apart ms es s (written_numbers {a = a} {b = b}) in
      let y : Size (dummy_ex (written_range a b)) = Z.dummy-size cells q apart a b in
      let here : Fine ((q l, false) ∷ r) (cell_ex false n (add_ex is (name_ex (q l)))) false = slot-cell l k r false n is m h in
      let next : Fine ((q l, false) ∷ r) (cell_ex false n (add_ex is (next_ex q l))) false = next-cell l k r false n is m h in
      and-fine cells (and-fine cells
      (V.each-slot-fine cells q apart l r _ _ w u
      (or-fine cells (Z.inside-fine cells q apart ((q l, false) ∷ r) (cell_ex false n (add_ex is (name_ex (q l))))
      (written_numbers {a = a} {b = b}) here) (eq-fine cells (y.at ((q l, false) ∷ r)) here)))
      (V.each-pair-fine cells q apart l r _ _ w u
      (or-fine cells (eq-fine cells (y.at ((q l, false) ∷ r)) next) (below-fine cells here next))))
      (sizes-fine cells _ s
      (sum-fine cells (V.row-axes cells q apart (upto (slots_ex (set_dom ms es (written_range a b))) ∷ []) l r
      (V.upto-axis cells q apart w, tt) u)
      (chosen-fine cells (not-fine cells (eq-fine cells (y.at ((q l, false) ∷ r)) here)))))

  -- The constraint at an index list of k indices.
  pub structure-fine : {r : Repr} {d : Dom} → KeptAs r d → (ns : List Text) (l k : ℕ) (t : Names Bool) (is : Exs) →
      ShapesFine k (shapes q size_terms r d ns) → Under l t → Held l t is k → Fine t (structure q size_terms r d ns l is) true
  structure-fine (as_atom {d} a) ns l k t is x u h =
      let y : V.ShapeFine cells q apart k (own_shape ns (is_bool_dom d) []) = x.0 in
      Z.inside-fine cells q apart t (cell_ex (is_bool_dom d) (first_name ns) is) a
      (V.stays-here cells q apart (cell-stays l k t (is_bool_dom d) (first_name ns) is y.marked h))
  structure-fine (by_occurrence {ms} {es} {d} s a) ns l k t is x u h =
      let y : V.ShapeFine cells q apart k (own_shape ns true (d ∷ [])) = x.0 in
      sizes-fine cells _ s (V.true-count-fine cells q apart l k t (d ∷ []) (first_name ns) is y.marked y.axes u h)
  structure-fine (with_a_dummy {ms} {es} {a} {b} s) ns l k t is x u h =
      let y : V.ShapeFine cells q apart k
      (own_shape ns false (upto (slots_ex (set_dom ms es (written_range a b))) ∷ [])) = x.0 in
      dummy-fine l k t ms es a b (first_name ns) is s y.marked u h
  structure-fine (in_slots {ms} {es} {r} {d} s e g) ns l k t is x u h =
      let w : Size (slots_ex (set_dom ms es d)) = Z.kept-slots cells q apart ms es s g in
      let ys : ShapesFine (suc k) (shapes q size_terms r d ns) = behind-slots k (slots_ex (set_dom ms es d)) _ x in
      let v : V.Stays cells q apart l t (slots_ex (set_dom ms es d)) false = V.stays-size cells q apart l t w in
      and-fine cells (sizes-fine cells _ s (V.stays-here cells q apart v))
      (V.slots-fine cells q apart l k t _ _ (shapes q size_terms r d ns) is _ w v ys u h
      (structure-fine g ns (suc l) (suc k) ((q l, false) ∷ t) (add_ex is (name_ex (q l))) ys
      (V.under-next cells q apart l t false u) (V.held-name cells q apart false h)))
  structure-fine (with_a_marker {ms} {es} {r} {d} s g) ns l k t is x u h =
      let w : Size (slots_ex (set_dom ms es d)) = Z.kept-slots cells q apart ms es s g in
      let y : V.ShapeFine cells q apart k (own_shape ns false []) = x.0 in
      let ys : ShapesFine (suc k) (shapes q size_terms r d (drop 1 ns)) = behind-slots k (slots_ex (set_dom ms es d)) _ x.1 in
      let v : V.Stays cells q apart l t (cell_ex false (first_name ns) is) false = cell-stays l k t false (first_name ns) is y.marked h in
      and-fine cells (sizes-fine cells _ s (V.stays-here cells q apart v))
      (V.slots-fine cells q apart l k t _ _ (shapes q size_terms r d (drop 1 ns)) is _ w v ys u h
      (structure-fine g (drop 1 ns) (suc l) (suc k) ((q l, false) ∷ t) (add_ex is (name_ex (q l))) ys
      (V.under-next cells q apart l t false u) (V.held-name cells q apart false h)))
  structure-fine (with_flags {ms} {es} {r} {d} s g) ns l k t is x u h =
      let w : Size (slots_ex (set_dom ms es d)) = Z.kept-slots cells q apart ms es s g in
      let y : V.ShapeFine cells q apart k (own_shape ns true (upto (slots_ex (set_dom ms es d)) ∷ [])) = x.0 in
      let ys : ShapesFine (suc k) (shapes q size_terms r d (drop 1 ns)) = behind-slots k (slots_ex (set_dom ms es d)) _ x.1 in
      let here : Fine ((q l, false) ∷ t) (cell_ex true (first_name ns) (add_ex is (name_ex (q l)))) true =
      slot-cell l k t true (first_name ns) is y.marked h in
      let next : Fine ((q l, false) ∷ t) (cell_ex true (first_name ns) (add_ex is (next_ex q l))) true =
      next-cell l k t true (first_name ns) is y.marked h in
      and-fine cells (and-fine cells (V.first-fine cells q apart l t _ _ _ w u here next)
      (V.flagged-fine cells q apart l k t _ _ _ (shapes q size_terms r d (drop 1 ns)) is _ w ys u h here next
      (structure-fine g (drop 1 ns) (suc l) (suc k) ((q l, false) ∷ t) (add_ex is (name_ex (q l))) ys
      (V.under-next cells q apart l t false u) (V.held-name cells q apart false h))))
      (sizes-fine cells _ s (V.true-count-fine cells q apart l k t (upto (slots_ex (set_dom ms es d)) ∷ []) (first_name ns) is y.marked
      y.axes u h))

-- Structures of nested sets bind few names: the tables of each layer have few axes.
use Rattle.std.proofs.Common.{◌≡◌, refl, ap, ℕ, suc, ◌+◌, ◌*◌, ◌≤◌, ◌<◌, Bool, true, false, List, [], ◌∷◌, map, drop, length, pos, Option, arith}
use Rattle.ess_semantics.specs.declared.words.Op1.{Op1}
use Rattle.ess_semantics.specs.declared.words.Key.{Key}
use Rattle.ess_semantics.specs.Values.{Text}
use Rattle.ess_semantics.specs.Order.{same_text}
use Rattle.ess_semantics.specs.Contexts.{Each}
use Rattle.ess_semantics.specs.Trees.{Repr, Mark, Ex, Exs, number_ex, name_ex, cell_ex, no_exs, more_exs, Dom, set_dom, ex1}
use Rattle.ess_semantics.specs.Meaning.{is_bool_dom}
use Rattle.ess_repr_laws.specs.StructureParts.{Shape, add_ex, le_ex, key_ex, size_ex, upto, row_gens, row_index, row_ex, less_ex, out_ex, zeros_ex, over_slots, over_pairs, next_ex, slots_ex, use_ex, true_count_ex, flags_ex, member_count_ex, dummy_ex, on_axes, first_name}
use Rattle.ess_repr_laws.specs.Structure.{structure, shapes}
use Rattle.ess_repr_declare_laws.specs.SizeTerms as T
use Rattle.ess_repr_declare_laws.specs.SizeTerms.{size_terms, inside_ex}
use Rattle.conjure_model_laws.specs.Printed.{binders, binders_of_all, binders_of_gens, binders_of_dom}
use Rattle.ess_nested_laws.proofs.NestedForms.{Sizes, no_sizes, one_size, WrittenAtom, written_truths, written_numbers, written_range, KeptAs, as_atom, by_occurrence, with_a_dummy, in_slots, with_a_marker, with_flags}
use Rattle.ess_bare_structures_laws.proofs.BareLevels as V
use Rattle.ess_bare_structures_laws.proofs.BareSizes as Z
use Rattle.ess_bare_structures_laws.proofs.MarkedShapes.{axes-bare}
use Rattle.ess_bare_structures_laws.proofs.LevelsAlike.{layers}

-- A set has at most three attributes, at each depth.
abbrev pub FewSizes : Dom → Type 0
FewSizes (set_dom ms es d) = (length ms ≤ 3) × FewSizes d
FewSizes d = Unit {0}

-- How many axes tables have.
abbrev axes_sum : List Shape → ℕ
axes_sum [] = 0
axes_sum (s ∷ ss) = length s.axes + axes_sum ss

module _ (cells : Text → Option (Bool × ℕ)) (q : ℕ → Text) (apart : (m l : ℕ) → l < m → same_text (q m) (q l) ≡ false) where
  abbrev AreAxes : List Dom → Type 0
  AreAxes = V.AreAxes cells q apart

  abbrev HaveAxes : List Shape → Type 0
  HaveAxes ss = Each ss (λ s. AreAxes s.axes)

  gens-few : (as' : List Dom) (l : ℕ) → AreAxes as' → binders_of_gens (row_gens q l as') ≡ length as'
  gens-few [] l x = refl
  gens-few (a ∷ as') l x =
      let y : V.Axis cells q apart a = x.0 in
      let z = gens-few as' (suc l) x.1 in
      let w : suc (binders_of_dom a + binders_of_gens (row_gens q (suc l) as')) ≡ suc (length as') = omega (arith, y.few, z) in w

  added-none : (is : Exs) (e : Ex) → binders_of_all is ≡ 0 → binders e ≡ 0 → binders_of_all (add_ex is e) ≡ 0
  added-none no_exs e h k = let w : binders e + 0 ≡ 0 = omega (arith, k) in w
  added-none (more_exs x is) e h k =
      let i = added-none is e (omega (arith, h)) k in
      let w : binders x + binders_of_all (add_ex is e) ≡ 0 = omega (arith, h, i) in w

  index-none : (as' : List Dom) (l : ℕ) (is : Exs) → binders_of_all is ≡ 0 → binders_of_all (row_index q l as' is) ≡ 0
  index-none [] l is h = h
  index-none (a ∷ as') l is h = index-none as' (suc l) (add_ex is (name_ex (q l))) (added-none is (name_ex (q l)) h refl)

  row-few : (l : ℕ) (s : Shape) (is : Exs) → AreAxes s.axes → binders_of_all is ≡ 0 → binders (row_ex q l s is) ≡ length s.axes
  row-few l s is x h =
      let g = gens-few s.axes l x in
      let i = index-none s.axes l is h in
      let w : binders_of_gens (row_gens q l s.axes) + binders_of_all (row_index q l s.axes is) ≡ length s.axes = omega (arith, g, i) in w

  less-few : (ss : List Shape) (l : ℕ) (is js : Exs) → HaveAxes ss → binders_of_all is ≡ 0 → binders_of_all js ≡ 0 →
      binders (less_ex q l ss is js) ≡ 4 * axes_sum ss
  less-few [] l is js x h k = refl
  less-few (s ∷ ss) l is js x h k =
      let a = row-few l s is x.0 h in
      let b = row-few l s js x.0 k in
      let c = less-few ss l is js x.1 h k in
      let w : (binders (row_ex q l s is) + (binders (row_ex q l s js) + 0))
      + (((binders (row_ex q l s is) + (binders (row_ex q l s js) + 0)) + (binders (less_ex q l ss is js) + 0)) + 0)
      ≡ 4 * (length s.axes + axes_sum ss) = omega (arith, a, b, c) in w

  out-none : (b : Bool) (n : Text) (is : Exs) → binders_of_all is ≡ 0 → binders (out_ex q b n is) ≡ 0
  out-none true n is h = let w : binders_of_all is + 0 ≡ 0 = omega (arith, h) in w
  out-none false n is h = let w : 0 + (binders_of_all is + 0) ≡ 0 = omega (arith, h) in w

  zeros-few : (ss : List Shape) (l : ℕ) (is : Exs) → HaveAxes ss → binders_of_all is ≡ 0 → binders (zeros_ex q l ss is) ≡ axes_sum ss
  zeros-few [] l is x h = refl
  zeros-few (s ∷ ss) l is x h =
      let g = gens-few s.axes l x.0 in
      let o = out-none s.truth s.name (row_index q l s.axes is) (index-none s.axes l is h) in
      let c = zeros-few ss l is x.1 h in
      let w : ((binders_of_gens (row_gens q l s.axes) + binders (out_ex q s.truth s.name (row_index q l s.axes is))) + 0)
      + (binders (zeros_ex q l ss is) + 0) ≡ length s.axes + axes_sum ss = omega (arith, g, o, c) in w

  -- ---- sizes

  key-few : (k : Key) (n : ℕ) (m : Ex) → binders m ≤ 1 → binders (key_ex k (number_ex (pos n)) m) ≤ 2
  key-few Key.Size n m h =
      let w : (0 + (binders m + 0)) + ((binders m + (0 + 0)) + 0) ≤ 2 = omega (arith, h) in w
  key-few Key.MinSize n m h = let w : 0 + (binders m + 0) ≤ 2 = omega (arith, h) in w
  key-few Key.MaxSize n m h = let w : binders m + (0 + 0) ≤ 2 = omega (arith, h) in w
  key-few _ n m h = let w : 0 ≤ 2 = omega arith in w

  sizes-few : {ms : List Mark} {es : Exs} (m : Ex) → Sizes ms es → binders m ≤ 1 → binders (size_ex ms es m) ≤ 2 * length ms
  sizes-few m no_sizes h = let w : 0 ≤ 2 * 0 = omega arith in w
  sizes-few m (one_size {k} {n} {ms} {es} e s) h =
      let a = key-few k n m h in
      let b = sizes-few m s h in
      let w : binders (key_ex k (number_ex (pos n)) m) + (binders (size_ex ms es m) + 0) ≤ 2 * suc (length ms) = omega (arith, a, b) in w

  -- ---- slots

  over-few : (l : ℕ) (size test e : Ex) → binders size ≡ 0 → binders test ≡ 0 → binders (over_slots q l size test e) ≡ suc (binders e)
  over-few l size test e s t =
      let w : (suc ((0 + (binders size + 0)) + (binders test + 0)) + binders e) + 0 ≡ suc (binders e) = omega (arith, s, t) in w

  pairs-few : (l : ℕ) (size test e : Ex) → binders size ≡ 0 → binders test ≡ 0 → binders (over_pairs q l size test e) ≡ suc (binders e)
  pairs-few l size test e s t =
      let w : (suc ((0 + ((binders size + (0 + 0)) + 0)) + (binders test + 0)) + binders e) + 0 ≡ suc (binders e) = omega (arith, s, t) in w

  slots-few : (l : ℕ) (size m : Ex) (ss : List Shape) (is : Exs) (part : Ex) → binders size ≡ 0 → binders m ≡ 0 → HaveAxes ss →
      binders_of_all is ≡ 0 → binders (slots_ex q l size m ss is part) ≡ binders part + (5 * axes_sum ss + 3)
  slots-few l size m ss is part s t x h =
      let test : Ex = le_ex (name_ex (q l)) m in
      let next : Ex = le_ex (next_ex q l) m in
      let other : Ex = ex1 true Op1.Not test in
      let less : Ex = less_ex q (suc l) ss (add_ex is (name_ex (q l))) (add_ex is (next_ex q l)) in
      let zeros : Ex = zeros_ex q (suc l) ss (add_ex is (name_ex (q l))) in
      let i : binders_of_all (add_ex is (name_ex (q l))) ≡ 0 = added-none is (name_ex (q l)) h refl in
      let j : binders_of_all (add_ex is (next_ex q l)) ≡ 0 = added-none is (next_ex q l) h refl in
      let a : 0 + (binders m + 0) ≡ 0 = omega (arith, t) in
      let b : (0 + (0 + 0)) + (binders m + 0) ≡ 0 = omega (arith, t) in
      let c : (0 + (binders m + 0)) + 0 ≡ 0 = omega (arith, t) in
      let u = over-few l size test part s a in
      let v = pairs-few l size next less s b in
      let w = over-few l size other zeros s c in
      let y = less-few ss (suc l) (add_ex is (name_ex (q l))) (add_ex is (next_ex q l)) x i j in
      let z = zeros-few ss (suc l) (add_ex is (name_ex (q l))) x i in
      let e : binders (over_slots q l size test part)
      + ((binders (over_pairs q l size next less) + (binders (over_slots q l size other zeros) + 0)) + 0)
      ≡ binders part + (5 * axes_sum ss + 3) = omega (arith, u, v, w, y, z) in e

  -- The same with flags.
  use-few : (l : ℕ) (size here next : Ex) (ss : List Shape) (is : Exs) (part : Ex) → binders size ≡ 0 → binders here ≡ 0 →
      binders next ≡ 0 → HaveAxes ss → binders_of_all is ≡ 0 →
      binders (use_ex q l size here next (less_ex q (suc l) ss (add_ex is (name_ex (q l))) (add_ex is (next_ex q l))) ss is part)
      ≡ binders part + (5 * axes_sum ss + 3)
  use-few l size here next ss is part s t n x h =
      let other : Ex = ex1 true Op1.Not here in
      let less : Ex = less_ex q (suc l) ss (add_ex is (name_ex (q l))) (add_ex is (next_ex q l)) in
      let zeros : Ex = zeros_ex q (suc l) ss (add_ex is (name_ex (q l))) in
      let i : binders_of_all (add_ex is (name_ex (q l))) ≡ 0 = added-none is (name_ex (q l)) h refl in
      let j : binders_of_all (add_ex is (next_ex q l)) ≡ 0 = added-none is (next_ex q l) h refl in
      let c : binders here + 0 ≡ 0 = omega (arith, t) in
      let u = over-few l size here part s t in
      let w = over-few l size other zeros s c in
      let y = less-few ss (suc l) (add_ex is (name_ex (q l))) (add_ex is (next_ex q l)) x i j in
      let z = zeros-few ss (suc l) (add_ex is (name_ex (q l))) x i in
      let e : binders (over_slots q l size here part)
      + ((((suc ((0 + ((binders size + (0 + 0)) + 0)) + 0) + (binders next + (binders less + 0))) + 0)
      + (binders (over_slots q l size other zeros) + 0)) + 0)
      ≡ binders part + (5 * axes_sum ss + 3) = omega (arith, u, w, s, n, y, z) in e

  count-few : (l : ℕ) (as' : List Dom) (n : Text) (is : Exs) → AreAxes as' → binders_of_all is ≡ 0 →
      binders (true_count_ex q l as' n is) ≡ length as'
  count-few l as' n is x h =
      let g = gens-few as' l x in
      let i = index-none as' l is h in
      let w : (binders_of_gens (row_gens q l as') + (binders_of_all (row_index q l as' is) + 0)) + 0 ≡ length as' = omega (arith, g, i) in w

  flags-few : (l : ℕ) (ms : List Mark) (es : Exs) (size : Ex) (n : Text) (ss : List Shape) (is : Exs) (part : Ex) → Sizes ms es →
      length ms ≤ 3 → V.Size cells q apart size → HaveAxes ss → binders_of_all is ≡ 0 →
      binders (flags_ex q l ms es size n ss is part) ≤ binders part + (5 * axes_sum ss + 10)
  flags-few l ms es size n ss is part g f s x h =
      let here : Ex = cell_ex true n (add_ex is (name_ex (q l))) in
      let next : Ex = cell_ex true n (add_ex is (next_ex q l)) in
      let i : binders here ≡ 0 = added-none is (name_ex (q l)) h refl in
      let j : binders next ≡ 0 = added-none is (next_ex q l) h refl in
      let c = count-few l (upto size ∷ []) n is (V.upto-axis cells q apart s, tt) h in
      let d : binders (true_count_ex q l (upto size ∷ []) n is) ≤ 1 = omega (arith, c) in
      let a = sizes-few (true_count_ex q l (upto size ∷ []) n is) g d in
      let u = use-few l size here next ss is part s.few i j x h in
      let inner : Ex = use_ex q l size here next (less_ex q (suc l) ss (add_ex is (name_ex (q l))) (add_ex is (next_ex q l))) ss is part in
      let w : ((((suc ((0 + ((binders size + (0 + 0)) + 0)) + 0) + (binders next + (binders here + 0))) + 0) + (binders inner + 0))
      + (binders (size_ex ms es (true_count_ex q l (upto size ∷ []) n is)) + 0)) ≤ binders part + (5 * axes_sum ss + 10) =
      omega (arith, a, u, s.few, i, j, f) in w

  -- ---- views

  axes-on : (a : Dom) (ss : List Shape) → axes_sum (map (on_axes (a ∷ [])) ss) ≡ length ss + axes_sum ss
  axes-on a [] = refl
  axes-on a (s ∷ ss) =
      let h = axes-on a ss in
      let w : suc (length s.axes) + axes_sum (map (on_axes (a ∷ [])) ss) ≡ suc (length ss) + (length s.axes + axes_sum ss) =
      omega (arith, h)
      in w

  long-on : (a : Dom) (ss : List Shape) → length (map (on_axes (a ∷ [])) ss) ≡ length ss
  long-on a [] = refl
  long-on a (s ∷ ss) = ap suc (long-on a ss)

  -- No more tables than layers, and few axes.
  record FewShapes (n : ℕ) (ss : List Shape) : Type 0 where
    tables : length ss ≤ n
    axes : axes_sum ss ≤ 252 * n

  few-on : (a : Dom) (n : ℕ) (ss : List Shape) → suc n ≤ 251 → FewShapes n ss → FewShapes (suc n) (map (on_axes (a ∷ [])) ss)
  few-on a n ss l f = let g = long-on a ss in let h = axes-on a ss in record {
    tables = omega (arith, g, f.tables);
    axes = omega (arith, h, f.axes, f.tables, l);
  }

  few-behind : (a : Dom) (s : Shape) (n : ℕ) (ss : List Shape) → length s.axes ≤ 1 → suc n ≤ 251 → FewShapes n ss →
      FewShapes (suc n) (s ∷ map (on_axes (a ∷ [])) ss)
  few-behind a s n ss k l f = let g = long-on a ss in let h = axes-on a ss in record {
    tables = omega (arith, g, f.tables);
    axes = omega (arith, h, f.axes, f.tables, l, k);
  }

  shapes-few : {r : Repr} {d : Dom} → KeptAs r d → (ns : List Text) → layers r ≤ 251 → FewShapes (layers r) (shapes q size_terms r d ns)
  shapes-few (as_atom a) ns l = record { tables = omega arith; axes = omega arith }
  shapes-few (by_occurrence s a) ns l = record { tables = omega arith; axes = omega arith }
  shapes-few (with_a_dummy s) ns l = record { tables = omega arith; axes = omega arith }
  shapes-few (in_slots {ms} {es} {r} {d} s e g) ns l =
      few-on _ (layers r) (shapes q size_terms r d ns) l (shapes-few g ns (omega (arith, l)))
  shapes-few (with_a_marker {ms} {es} {r} {d} s g) ns l =
      few-behind _ _ (layers r) (shapes q size_terms r d (drop 1 ns)) (omega arith) l (shapes-few g (drop 1 ns) (omega (arith, l)))
  shapes-few (with_flags {ms} {es} {r} {d} s g) ns l =
      few-behind _ _ (layers r) (shapes q size_terms r d (drop 1 ns)) (omega arith) l (shapes-few g (drop 1 ns) (omega (arith, l)))

  inside-none : {d : Dom} (x : Ex) → WrittenAtom d → binders x ≡ 0 → binders (inside_ex d x) ≡ 0
  inside-none x written_truths h = refl
  inside-none x (written_numbers {a} {b}) h =
      let w : ((0 + (binders x + 0)) + ((binders x + (0 + 0)) + 0)) + (0 + 0) ≡ 0 = omega (arith, h) in w

  dummy-few : (l : ℕ) (ms : List Mark) (es : Exs) (a b : ℕ) (n : Text) (is : Exs) → Sizes ms es → length ms ≤ 3 → binders_of_all is ≡ 0 →
      binders (dummy_ex q l ms es (T.slots_ex (set_dom ms es (written_range a b))) (T.dummy_ex (written_range a b))
      (inside_ex (written_range a b)) n is) ≤ 8
  dummy-few l ms es a b n is g f h =
      let s = Z.atom-slots cells q apart ms es g (written_numbers {a = a} {b = b}) in
      let size : Ex = T.slots_ex (set_dom ms es (written_range a b)) in
      let here : Ex = cell_ex false n (add_ex is (name_ex (q l))) in
      let next : Ex = cell_ex false n (add_ex is (next_ex q l)) in
      let i : binders here ≡ 0 = added-none is (name_ex (q l)) h refl in
      let j : binders next ≡ 0 = added-none is (next_ex q l) h refl in
      let o = inside-none here (written_numbers {a = a} {b = b}) i in
      let m : Ex = member_count_ex q l size (T.dummy_ex (written_range a b)) n is in
      let d : ((suc ((0 + (binders size + 0)) + 0) + ((((0 + (0 + 0)) + (binders here + 0)) + 0) + 0)) + 0) ≤ 1 = omega (arith, s.few, i) in
      let c = sizes-few m g d in
      let w : ((((suc ((0 + (binders size + 0)) + 0) + (binders (inside_ex (written_range a b) here)
      + (((0 + (0 + 0)) + (binders here + 0)) + 0))) + 0)
      + (((suc ((0 + ((binders size + (0 + 0)) + 0)) + 0) + (((0 + (0 + 0)) + (binders next + 0))
      + ((binders here + (binders next + 0)) + 0))) + 0) + 0)) + (binders (size_ex ms es m) + 0)) ≤ 8 =
      omega (arith, s.few, i, j, o, c, f) in w

  -- Each layer binds so many names at most.
  pub structure-few : {r : Repr} {d : Dom} → KeptAs r d → FewSizes d → (ns : List Text) (l : ℕ) (is : Exs) → layers r ≤ 251 →
      binders_of_all is ≡ 0 → binders (structure q size_terms r d ns l is) ≤ 315010 * layers r
  structure-few (as_atom {d} a) f ns l is k h =
      let c = inside-none (cell_ex (is_bool_dom d) (first_name ns) is) a h in omega (arith, c)
  structure-few (by_occurrence {ms} {es} {d} s a) f ns l is k h =
      let c = count-few l (d ∷ []) (first_name ns) is (Z.atom-axis cells q apart a, tt) h in
      let m : binders (true_count_ex q l (d ∷ []) (first_name ns) is) ≤ 1 = omega (arith, c) in
      let e = sizes-few (true_count_ex q l (d ∷ []) (first_name ns) is) s m in omega (arith, e, f.0)
  structure-few (with_a_dummy {ms} {es} {a} {b} s) f ns l is k h =
      let c = dummy-few l ms es a b (first_name ns) is s f.0 h in omega (arith, c)
  structure-few (in_slots {ms} {es} {r} {d} s e g) f ns l is k h =
      let z = Z.kept-slots cells q apart ms es s g in
      let size : Ex = T.slots_ex (set_dom ms es d) in
      let part : Ex = structure q size_terms r d ns (suc l) (add_ex is (name_ex (q l))) in
      let low : layers r ≤ 250 = omega (arith, k) in
      let x : FewShapes (layers r) (shapes q size_terms r d ns) = shapes-few g ns (omega (arith, k)) in
      let p = structure-few g f.1 ns (suc l) (add_ex is (name_ex (q l))) (omega (arith, k)) (added-none is (name_ex (q l)) h refl) in
      let o : binders size ≤ 1 = omega (arith, z.few) in
      let c = sizes-few size s o in
      let y = slots-few l size size (shapes q size_terms r d ns) is part z.few z.few (axes-bare cells q apart g ns) h in
      let w : binders (size_ex ms es size) + (binders (slots_ex q l size size (shapes q size_terms r d ns) is part) + 0)
      ≤ 315010 * suc (layers r) = omega (arith, y, c, p, f.0, x.axes, low) in w
  structure-few (with_a_marker {ms} {es} {r} {d} s g) f ns l is k h =
      let z = Z.kept-slots cells q apart ms es s g in
      let size : Ex = T.slots_ex (set_dom ms es d) in
      let m : Ex = cell_ex false (first_name ns) is in
      let part : Ex = structure q size_terms r d (drop 1 ns) (suc l) (add_ex is (name_ex (q l))) in
      let low : layers r ≤ 250 = omega (arith, k) in
      let x : FewShapes (layers r) (shapes q size_terms r d (drop 1 ns)) = shapes-few g (drop 1 ns) (omega (arith, k)) in
      let n = added-none is (name_ex (q l)) h refl in
      let p = structure-few g f.1 (drop 1 ns) (suc l) (add_ex is (name_ex (q l))) (omega (arith, k)) n in
      let o : binders m ≤ 1 = omega (arith, h) in
      let c = sizes-few m s o in
      let y = slots-few l size m (shapes q size_terms r d (drop 1 ns)) is part z.few h (axes-bare cells q apart g (drop 1 ns)) h in
      let w : binders (size_ex ms es m) + (binders (slots_ex q l size m (shapes q size_terms r d (drop 1 ns)) is part) + 0)
      ≤ 315010 * suc (layers r) = omega (arith, y, c, p, f.0, x.axes, low) in w
  structure-few (with_flags {ms} {es} {r} {d} s g) f ns l is k h =
      let z = Z.kept-slots cells q apart ms es s g in
      let size : Ex = T.slots_ex (set_dom ms es d) in
      let part : Ex = structure q size_terms r d (drop 1 ns) (suc l) (add_ex is (name_ex (q l))) in
      let low : layers r ≤ 250 = omega (arith, k) in
      let x : FewShapes (layers r) (shapes q size_terms r d (drop 1 ns)) = shapes-few g (drop 1 ns) (omega (arith, k)) in
      let n = added-none is (name_ex (q l)) h refl in
      let p = structure-few g f.1 (drop 1 ns) (suc l) (add_ex is (name_ex (q l))) (omega (arith, k)) n in
      let o = axes-bare cells q apart g (drop 1 ns) in
      let y = flags-few l ms es size (first_name ns) (shapes q size_terms r d (drop 1 ns)) is part s f.0 z o h
      in
      let w : binders (flags_ex q l ms es size (first_name ns) (shapes q size_terms r d (drop 1 ns)) is part) ≤ 315010 * suc (layers r) =
      omega (arith, y, p, f.0, x.axes, low) in w

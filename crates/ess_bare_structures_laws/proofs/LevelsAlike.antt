-- The structure of a view of nested sets binds few names: where two families of names agree below a limit, and no name is asked for from
-- there on, the structures with them are the same.
use Rattle.std.proofs.Common.{◌≡◌, refl, ap, ◌∙◌, ℕ, suc, ◌+◌, ◌≤◌, ◌<◌, Bool, true, false, List, [], ◌∷◌, map, drop, length, arith}
use Rattle.ess_semantics.specs.declared.words.Op1.{Op1}
use Rattle.ess_semantics.specs.declared.words.Op2.{Op2}
use Rattle.ess_semantics.specs.Values.{Text}
use Rattle.ess_semantics.specs.Contexts.{Each}
use Rattle.ess_semantics.specs.Trees.{Repr, repr, no_reprs, more_reprs, Mark, name_pat, Ex, Exs, name_ex, comp_ex, cell_ex, over, Dom, set_dom, ex1, ex2}
use Rattle.ess_repr_laws.specs.StructureParts.{Shape, add_ex, and_ex, or_ex, implies_ex, le_ex, all_ex, size_ex, upto, row_gens, row_index, row_ex, less_ex, out_ex, zeros_ex, over_slots, over_pairs, each_pair, next_ex, slots_ex, first_ex, true_count_ex, flags_ex, dummy_ex, occurrence_ex, on_axes, first_name}
use Rattle.ess_repr_laws.specs.Structure.{structure, shapes}
use Rattle.ess_repr_declare_laws.specs.SizeTerms as T
use Rattle.ess_repr_declare_laws.specs.SizeTerms.{size_terms, inside_ex}
use Rattle.ess_nested_laws.proofs.NestedForms.{KeptAs, as_atom, by_occurrence, with_a_dummy, in_slots, with_a_marker, with_flags, written_range}

-- How many layers a representation of nested sets has.
abbrev pub layers : Repr → ℕ
layers (repr k no_reprs) = 1
layers (repr k (more_reprs r rs)) = suc (layers r)

two-same : {A B C : Type 0} (f : A → B → C) {a c : A} {b d : B} → a ≡ c → b ≡ d → f a b ≡ f c d
two-same f {a} {c} {b} {d} p q = ap (λ x. f x b) p ∙ ap (f c) q

-- The slots with a name, where less, zeros and part are what is said of them.
abbrev slots_by : ℕ → Ex → Ex → Text → Ex → Ex → Ex → Ex
slots_by l size m n less zeros part =
    and_ex (over_slots (λ j. n) l size (le_ex (name_ex n) m) part)
    (and_ex (over_pairs (λ j. n) l size (le_ex (next_ex (λ j. n) l) m) less)
    (over_slots (λ j. n) l size (ex1 true Op1.Not (le_ex (name_ex n) m)) zeros))

-- Slots with flags.
abbrev flags_by : ℕ → List Mark → Exs → Ex → Text → Exs → Text → Ex → Ex → Ex → Ex
flags_by l ms es size a is n less zeros part =
    let here : Ex = cell_ex true a (add_ex is (name_ex n)) in
    let next : Ex = cell_ex true a (add_ex is (next_ex (λ j. n) l)) in
    and_ex (and_ex (first_ex (λ j. n) l size here next)
    (and_ex (over_slots (λ j. n) l size here part)
    (and_ex (each_pair (λ j. n) l size (implies_ex next less)) (over_slots (λ j. n) l size (ex1 true Op1.Not here) zeros))))
    (size_ex ms es (true_count_ex (λ j. n) l (upto size ∷ []) a is))

four-same : (f : Text → Ex → Ex → Ex → Ex) {n m : Text} {a b c d e g : Ex} → n ≡ m → a ≡ b → c ≡ d → e ≡ g → f n a c e ≡ f m b d g
four-same f {n} {m} {a} {b} {c} {d} {e} {g} p q r s =
    ap (λ x. f x a c e) p ∙ ap (λ x. f m x c e) q ∙ ap (λ x. f m b x e) r ∙ ap (λ x. f m b d x) s

module _ (p q : ℕ → Text) (lim : ℕ) (alike : (j : ℕ) → j < lim → p j ≡ q j) where
  gens-same : (as' : List Dom) (l : ℕ) → l + length as' ≤ lim → row_gens p l as' ≡ row_gens q l as'
  gens-same [] l h = refl
  gens-same (a ∷ as') l h =
      two-same (λ n gs. over (name_pat n) a gs) (alike l (omega (arith, h))) (gens-same as' (suc l) (omega (arith, h)))

  index-same : (as' : List Dom) (l : ℕ) (is : Exs) → l + length as' ≤ lim → row_index p l as' is ≡ row_index q l as' is
  index-same [] l is h = refl
  index-same (a ∷ as') l is h =
      ap (λ n. row_index p (suc l) as' (add_ex is (name_ex n))) (alike l (omega (arith, h)))
      ∙ index-same as' (suc l) (add_ex is (name_ex (q l))) (omega (arith, h))

  -- Names of the axes of tables are low.
  abbrev Low : ℕ → List Shape → Type 0
  Low l ss = Each ss (λ s. l + length s.axes ≤ lim)

  row-same : (l : ℕ) (s : Shape) (is : Exs) → l + length s.axes ≤ lim → row_ex p l s is ≡ row_ex q l s is
  row-same l s is h =
      two-same (λ js gs. comp_ex (cell_ex s.truth s.name js) gs) (index-same s.axes l is h) (gens-same s.axes l h)

  less-same : (ss : List Shape) (l : ℕ) (is js : Exs) → Low l ss → less_ex p l ss is js ≡ less_ex q l ss is js
  less-same [] l is js h = refl
  less-same (s ∷ ss) l is js h =
      two-same or_ex (two-same (ex2 true Op2.LexLt) (row-same l s is h.0) (row-same l s js h.0))
      (two-same and_ex (two-same (ex2 true Op2.LexLe) (row-same l s is h.0) (row-same l s js h.0)) (less-same ss l is js h.1))

  out-same : (b : Bool) (n : Text) (is : Exs) → out_ex p b n is ≡ out_ex q b n is
  out-same true n is = refl
  out-same false n is = refl

  zeros-same : (ss : List Shape) (l : ℕ) (is : Exs) → Low l ss → zeros_ex p l ss is ≡ zeros_ex q l ss is
  zeros-same [] l is h = refl
  zeros-same (s ∷ ss) l is h =
      two-same and_ex
      (two-same all_ex (out-same s.truth s.name (row_index p l s.axes is)
      ∙ ap (out_ex q s.truth s.name) (index-same s.axes l is h.0)) (gens-same s.axes l h.0))
      (zeros-same ss l is h.1)

  rise-same : (l : ℕ) (ss : List Shape) (is : Exs) → l < lim → Low (suc l) ss →
      less_ex p (suc l) ss (add_ex is (name_ex (p l))) (add_ex is (next_ex p l))
      ≡ less_ex q (suc l) ss (add_ex is (name_ex (q l))) (add_ex is (next_ex q l))
  rise-same l ss is k h =
      ap (λ n. less_ex p (suc l) ss (add_ex is (name_ex n)) (add_ex is (next_ex (λ j. n) l))) (alike l k)
      ∙ less-same ss (suc l) (add_ex is (name_ex (q l))) (add_ex is (next_ex q l)) h

  unused-same : (l : ℕ) (ss : List Shape) (is : Exs) → l < lim → Low (suc l) ss →
      zeros_ex p (suc l) ss (add_ex is (name_ex (p l))) ≡ zeros_ex q (suc l) ss (add_ex is (name_ex (q l)))
  unused-same l ss is k h =
      ap (λ n. zeros_ex p (suc l) ss (add_ex is (name_ex n))) (alike l k) ∙ zeros-same ss (suc l) (add_ex is (name_ex (q l))) h

  slots-same : (l : ℕ) (size m : Ex) (ss : List Shape) (is : Exs) (u v : Ex) → l < lim → Low (suc l) ss → u ≡ v →
      slots_ex p l size m ss is u ≡ slots_ex q l size m ss is v
  slots-same l size m ss is u v k h e =
      four-same (slots_by l size m) (alike l k) (rise-same l ss is k h) (unused-same l ss is k h) e

  flags-same : (l : ℕ) (ms : List Mark) (es : Exs) (size : Ex) (a : Text) (ss : List Shape) (is : Exs) (u v : Ex) → l < lim →
      Low (suc l) ss → u ≡ v → flags_ex p l ms es size a ss is u ≡ flags_ex q l ms es size a ss is v
  flags-same l ms es size a ss is u v k h e =
      four-same (flags_by l ms es size a is) (alike l k) (rise-same l ss is k h) (unused-same l ss is k h) e

  -- ---- views

  pub shapes-same : {r : Repr} {d : Dom} → KeptAs r d → (ns : List Text) → shapes p size_terms r d ns ≡ shapes q size_terms r d ns
  shapes-same (as_atom a) ns = refl
  shapes-same (by_occurrence s a) ns = refl
  shapes-same (with_a_dummy s) ns = refl
  shapes-same (in_slots {ms} {es} {r} {d} s e g) ns = ap (map (on_axes (upto (T.slots_ex (set_dom ms es d)) ∷ []))) (shapes-same g ns)
  shapes-same (with_a_marker {ms} {es} {r} {d} s g) ns =
      ap (λ ss. record { name = first_name ns; truth = false; axes = [] } ∷ map (on_axes (upto (T.slots_ex (set_dom ms es d)) ∷ [])) ss)
      (shapes-same g (drop 1 ns))
  shapes-same (with_flags {ms} {es} {r} {d} s g) ns =
      ap (λ ss. record { name = first_name ns; truth = true; axes = upto (T.slots_ex (set_dom ms es d)) ∷ [] }
      ∷ map (on_axes (upto (T.slots_ex (set_dom ms es d)) ∷ [])) ss) (shapes-same g (drop 1 ns))

  on-low : (l : ℕ) (a : Dom) (ss : List Shape) → Low (suc l) ss → Low l (map (on_axes (a ∷ [])) ss)
  on-low l a [] h = tt
  on-low l a (s ∷ ss) h = (omega (arith, h.0), on-low l a ss h.1)

  -- The tables of a view have no more axes than it has layers.
  shapes-low : {r : Repr} {d : Dom} → KeptAs r d → (ns : List Text) (l : ℕ) → l + layers r ≤ lim → Low l (shapes q size_terms r d ns)
  shapes-low (as_atom a) ns l h = (omega (arith, h), tt)
  shapes-low (by_occurrence s a) ns l h = (h, tt)
  shapes-low (with_a_dummy s) ns l h = (h, tt)
  shapes-low (in_slots {ms} {es} {r} {d} s e g) ns l h =
      on-low l _ (shapes q size_terms r d ns) (shapes-low g ns (suc l) (omega (arith, h)))
  shapes-low (with_a_marker {ms} {es} {r} {d} s g) ns l h =
      (omega (arith, h), on-low l _ (shapes q size_terms r d (drop 1 ns)) (shapes-low g (drop 1 ns) (suc l) (omega (arith, h))))
  shapes-low (with_flags {ms} {es} {r} {d} s g) ns l h =
      (omega (arith, h), on-low l _ (shapes q size_terms r d (drop 1 ns)) (shapes-low g (drop 1 ns) (suc l) (omega (arith, h))))

  -- The structures are the same.
  pub structure-same : {r : Repr} {d : Dom} → KeptAs r d → (ns : List Text) (l : ℕ) (is : Exs) → l + layers r ≤ lim →
      structure p size_terms r d ns l is ≡ structure q size_terms r d ns l is
  structure-same (as_atom a) ns l is h = refl
  structure-same (by_occurrence {ms} {es} {d} s a) ns l is h =
      ap (λ n. occurrence_ex (λ j. n) l ms es d (first_name ns) is) (alike l (omega (arith, h)))
  structure-same (with_a_dummy {ms} {es} {a} {b} s) ns l is h =
      ap (λ n. dummy_ex (λ j. n) l ms es (T.slots_ex (set_dom ms es (written_range a b))) (T.dummy_ex (written_range a b))
      (inside_ex (written_range a b)) (first_name ns) is) (alike l (omega (arith, h)))
  structure-same (in_slots {ms} {es} {r} {d} s e g) ns l is h =
      ap (λ ss. and_ex (size_ex ms es (T.slots_ex (set_dom ms es d))) (slots_ex p l (T.slots_ex (set_dom ms es d))
      (T.slots_ex (set_dom ms es d)) ss is (structure p size_terms r d ns (suc l) (add_ex is (name_ex (p l)))))) (shapes-same g ns)
      ∙ ap (and_ex (size_ex ms es (T.slots_ex (set_dom ms es d))))
      (slots-same l (T.slots_ex (set_dom ms es d)) (T.slots_ex (set_dom ms es d)) (shapes q size_terms r d ns) is _ _ (omega (arith, h))
      (shapes-low g ns (suc l) (omega (arith, h)))
      (ap (λ n. structure p size_terms r d ns (suc l) (add_ex is (name_ex n))) (alike l (omega (arith, h)))
      ∙ structure-same g ns (suc l) (add_ex is (name_ex (q l))) (omega (arith, h))))
  structure-same (with_a_marker {ms} {es} {r} {d} s g) ns l is h =
      ap (λ ss. and_ex (size_ex ms es (cell_ex false (first_name ns) is)) (slots_ex p l (T.slots_ex (set_dom ms es d))
      (cell_ex false (first_name ns) is) ss is (structure p size_terms r d (drop 1 ns) (suc l) (add_ex is (name_ex (p l))))))
      (shapes-same g (drop 1 ns))
      ∙ ap (and_ex (size_ex ms es (cell_ex false (first_name ns) is)))
      (slots-same l (T.slots_ex (set_dom ms es d)) (cell_ex false (first_name ns) is) (shapes q size_terms r d (drop 1 ns)) is _ _
      (omega (arith, h)) (shapes-low g (drop 1 ns) (suc l) (omega (arith, h)))
      (ap (λ n. structure p size_terms r d (drop 1 ns) (suc l) (add_ex is (name_ex n))) (alike l (omega (arith, h)))
      ∙ structure-same g (drop 1 ns) (suc l) (add_ex is (name_ex (q l))) (omega (arith, h))))
  structure-same (with_flags {ms} {es} {r} {d} s g) ns l is h =
      ap (λ ss. flags_ex p l ms es (T.slots_ex (set_dom ms es d)) (first_name ns) ss is
      (structure p size_terms r d (drop 1 ns) (suc l) (add_ex is (name_ex (p l))))) (shapes-same g (drop 1 ns))
      ∙ flags-same l ms es (T.slots_ex (set_dom ms es d)) (first_name ns) (shapes q size_terms r d (drop 1 ns)) is _ _ (omega (arith, h))
      (shapes-low g (drop 1 ns) (suc l) (omega (arith, h)))
      (ap (λ n. structure p size_terms r d (drop 1 ns) (suc l) (add_ex is (name_ex n))) (alike l (omega (arith, h)))
      ∙ structure-same g (drop 1 ns) (suc l) (add_ex is (name_ex (q l))) (omega (arith, h)))

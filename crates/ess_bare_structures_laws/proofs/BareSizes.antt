-- Sizes of domains of nested sets are bare wherever they stand: numbers, sums, differences and powers of numbers.
use Rattle.std.proofs.Common.{◌≡◌, refl, ℕ, ◌+◌, arith, Bool, true, false, List, ℤ, pos, Option, Some, if◌then◌else◌, ◌<◌}
use Rattle.std.specs.Ordering.{int_cmp}
use Rattle.std.specs.declared.cmp.Ordering.{Ordering}
use Rattle.std.specs.declared.cmp.Ordering.TheVariants.{Less, Equal, Greater}
use Rattle.ess_semantics.specs.Values.{Text}
use Rattle.ess_semantics.specs.Order.{same_text}
use Rattle.ess_semantics.specs.Names.{Names}
use Rattle.ess_semantics.specs.Trees.{Repr, Mark, Ex, Exs, number_ex, Dom, set_dom}
use Rattle.ess_semantics.specs.Meaning.{is_bool_dom}
use Rattle.ess_repr_declare_laws.specs.SizeTerms.{two_ex, one_ex, is_numeral, next_ex, plus_ex, minus_ex, power_ex, span_ex, span_by, bound_ex, slots_ex, dummy_ex, inside_ex, greatest_size_of}
use Rattle.ess_repr_structure_laws.proofs.PickedNumbers.{AllHave, default-has, greatest-may}
use Rattle.conjure_model_laws.specs.Printed.{binders}
use Rattle.ess_bare_laws.specs.Bare.{truths, numbers, no_bound, one_bound, number}
use Rattle.ess_nested_laws.proofs.NestedForms.{Sizes, no_sizes, one_size, WrittenAtom, written_truths, written_numbers, written_range, KeptAs, as_atom, by_occurrence, with_a_dummy, in_slots, with_a_marker, with_flags}
use Rattle.ess_bare_structures_laws.proofs.BareParts as P
use Rattle.ess_bare_structures_laws.proofs.BareParts.{number-fine, truth-fine, and-fine, or-fine, le-fine, plus-fine, minus-fine, power-fine}
use Rattle.ess_bare_structures_laws.proofs.BareLevels as V

module _ (cells : Text → Option (Bool × ℕ)) (q : ℕ → Text) (apart : (m l : ℕ) → l < m → same_text (q m) (q l) ≡ false) where
  abbrev Size : Ex → Type 0
  Size = V.Size cells q apart

  number-size : (n : ℤ) → Size (number_ex n)
  number-size n = record { at = λ t. number-fine cells t n; few = refl }

  next-size : (a : Ex) → Size a → Size (next_ex a)
  next-size a s =
      let z : binders a + (0 + 0) ≡ 0 = omega (arith, s.few) in
      record { at = λ t. plus-fine cells (s.at t) (number-fine cells t (pos 1)); few = z }

  one-of : (b : Bool) (x y : Ex) → Size x → Size y → Size (if b then x else y)
  one-of true x y g h = g
  one-of false x y g h = h

  span-size : (a b : Ex) → Size a → Size b → Size (span_ex a b)
  span-size a b g h =
      let z : (0 + (binders a + 0)) + (binders b + 0) ≡ 0 = omega (arith, g.few, h.few) in
      one-of (is_numeral (pos 0) a) (next_ex b) _ (next-size b h)
      (one-of (is_numeral (pos 1) a) b (plus_ex (minus_ex one_ex a) b) h
      (record { at = λ t. plus-fine cells (minus-fine cells (number-fine cells t (pos 1)) (g.at t)) (h.at t); few = z }))

  ordered-size : (o : Ordering) (a b : Ex) → Size a → Size b → Size (span_by (Some o) a b)
  ordered-size Less a b g h = span-size a b g h
  ordered-size Equal a b g h = number-size (pos 1)
  ordered-size Greater a b g h = number-size (pos 0)

  atom-bound : {d : Dom} → WrittenAtom d → Size (bound_ex d)
  atom-bound written_truths = number-size (pos 2)
  atom-bound (written_numbers {a} {b}) =
      ordered-size (int_cmp (pos a) (pos b)) (number_ex (pos a)) (number_ex (pos b)) (number-size (pos a)) (number-size (pos b))

  set-bound : (d : Dom) → Size (bound_ex d) → Size (power_ex two_ex (bound_ex d))
  set-bound d s =
      let z : 0 + (binders (bound_ex d) + 0) ≡ 0 = omega (arith, s.few) in
      record { at = λ t. power-fine cells (number-fine cells t (pos 2)) (s.at t); few = z }

  -- The bound of a domain of nested sets, or of their atoms.
  kept-bound : {r : Repr} {d : Dom} → KeptAs r d → Size (bound_ex d)
  kept-bound (as_atom a) = atom-bound a
  kept-bound (by_occurrence {ms} {es} {d} s a) = set-bound d (atom-bound a)
  kept-bound (with_a_dummy {ms} {es} {a} {b} s) = set-bound (written_range a b) (atom-bound (written_numbers {a = a} {b = b}))
  kept-bound (in_slots {ms} {es} {r} {d} s h k) = set-bound d (kept-bound k)
  kept-bound (with_a_marker {ms} {es} {r} {d} s k) = set-bound d (kept-bound k)
  kept-bound (with_flags {ms} {es} {r} {d} s k) = set-bound d (kept-bound k)

  sizes-have : {ms : List Mark} {es : Exs} → Sizes ms es → AllHave Size es
  sizes-have no_sizes = tt
  sizes-have (one_size {k} {n} q' s) = (number-size (pos n), sizes-have s)

  slots-of : (ms : List Mark) (es : Exs) (d : Dom) → Sizes ms es → Size (bound_ex d) → Size (slots_ex (set_dom ms es d))
  slots-of ms es d s b = default-has Size (greatest_size_of ms es) (bound_ex d) (greatest-may Size ms es (sizes-have s)) b

  -- The slots of sets, of atoms or of sets.
  pub atom-slots : {d : Dom} (ms : List Mark) (es : Exs) → Sizes ms es → WrittenAtom d → Size (slots_ex (set_dom ms es d))
  atom-slots {d} ms es s a = slots-of ms es d s (atom-bound a)

  pub kept-slots : {r : Repr} {d : Dom} (ms : List Mark) (es : Exs) → Sizes ms es → KeptAs r d → Size (slots_ex (set_dom ms es d))
  kept-slots {r} {d} ms es s k = slots-of ms es d s (kept-bound k)

  -- The dummy of numbers.
  pub dummy-size : (a b : ℕ) → Size (dummy_ex (written_range a b))
  dummy-size a b = next-size (number_ex (pos b)) (number-size (pos b))

  -- That a cell lies in an atom.
  pub inside-fine : {d : Dom} (r : Names Bool) (x : Ex) → WrittenAtom d → P.Fine cells r x (is_bool_dom d) →
      P.Fine cells r (inside_ex d x) true
  inside-fine r x written_truths h = truth-fine cells r true
  inside-fine r x (written_numbers {a} {b}) h =
      or-fine cells (and-fine cells (le-fine cells (number-fine cells r (pos a)) h) (le-fine cells h (number-fine cells r (pos b))))
      (truth-fine cells r false)

  -- An atom is an axis.
  pub atom-axis : {d : Dom} → WrittenAtom d → V.Axis cells q apart d
  atom-axis written_truths = record { at = λ r. record { bare = truths; scoped = tt; ranged = tt }; few = refl }
  atom-axis (written_numbers {a} {b}) =
      record {
        at = λ r. record {
          bare = numbers refl (one_bound number (one_bound number no_bound));
          scoped = (tt, (tt, tt));
          ranged = (tt, tt);
        };
        few = refl;
      }

-- Domains of nested sets are orderly, and have few attributes and layers.
use Rattle.std.proofs.Common.{◌≡◌, refl, ap, ℕ, zero, suc, ◌+◌, ◌≤◌, Bool, true, false, ◌&&◌, ◌||◌, not, List, [], ◌∷◌, length, ◌⊎◌, inl, inr, arith}
use Rattle.ess_semantics.specs.declared.words.Key.{Key}
use Rattle.ess_semantics.specs.Domains.{same_key}
use Rattle.ess_semantics.specs.Kinds.{key_of, has_key}
use Rattle.ess_semantics.specs.DomainJudgements.{mark_is_among, marks_among, size_keys, marks_distinct}
use Rattle.ess_semantics.specs.Trees.{Repr, Mark, valued, Exs, Dom, set_dom}
use Rattle.ess_semantics.proofs.Tests.{and-left, and-right, and-both, or-left-no, or-right-no, not-true}
use Rattle.ess_repr_structure_laws.specs.OrderlyDomains.{Orderly}
use Rattle.ess_nested_laws.specs.NestedDomains.{is_size_key, are_written_sizes, is_written_atom, is_nested_within}
use Rattle.ess_nested_laws.proofs.NestedForms.{no-yes, Sizes, no_sizes, one_size, sizes-form, atom-form, WrittenAtom, written_truths, written_numbers, KeptAs, as_atom, by_occurrence, with_a_dummy, in_slots, with_a_marker, with_flags}
use Rattle.ess_bare_structures_laws.proofs.LevelsAlike.{layers}
use Rattle.ess_bare_structures_laws.proofs.FewBinders.{FewSizes}

-- Sets of atoms or of sets, nested so deep at most, in which no attribute stands twice.
pub data NestedAt : ℕ → Dom → Type 0 where
  at_atoms : {n : ℕ} {ms : List Mark} {es : Exs} {d : Dom} → marks_distinct ms ≡ true → Sizes ms es → is_written_atom d ≡ true →
      NestedAt (suc n) (set_dom ms es d)
  at_sets : {n : ℕ} {ms : List Mark} {es : Exs} {d : Dom} → marks_distinct ms ≡ true → Sizes ms es → NestedAt n d →
      NestedAt (suc n) (set_dom ms es d)

either-test : (b c : Bool) → b || c ≡ true → (b ≡ true) ⊎ (c ≡ true)
either-test true c h = inl refl
either-test false c h = inr h

pub nested-at : (n : ℕ) (d : Dom) → is_nested_within n d ≡ true → NestedAt n d
nested-at zero d h = absurd (no-yes h)
nested-at (suc n) (set_dom ms es d) h =
    let k = and-right (marks_distinct ms) (are_written_sizes ms es && (is_written_atom d || is_nested_within n d)) h in
    go (and-left (marks_distinct ms) (are_written_sizes ms es && (is_written_atom d || is_nested_within n d)) h)
    (sizes-form ms es (and-left (are_written_sizes ms es) (is_written_atom d || is_nested_within n d) k))
    (either-test (is_written_atom d) (is_nested_within n d)
    (and-right (are_written_sizes ms es) (is_written_atom d || is_nested_within n d) k)) (nested-at n d)
  where
    go : marks_distinct ms ≡ true → Sizes ms es → (is_written_atom d ≡ true) ⊎ (is_nested_within n d ≡ true) →
        (is_nested_within n d ≡ true → NestedAt n d) → NestedAt (suc n) (set_dom ms es d)
    go m s (inl a) f = at_atoms m s a
    go m s (inr k) f = at_sets m s (f k)
nested-at (suc n) d h = absurd (no-yes h)

-- ---- layers

atom-layers : {r : Repr} {d : Dom} → KeptAs r d → is_written_atom d ≡ true → layers r ≤ 1
atom-layers (as_atom a) h = omega arith
atom-layers (by_occurrence s a) h = absurd (no-yes h)
atom-layers (with_a_dummy s) h = absurd (no-yes h)
atom-layers (in_slots s e g) h = absurd (no-yes h)
atom-layers (with_a_marker s g) h = absurd (no-yes h)
atom-layers (with_flags s g) h = absurd (no-yes h)

-- A representation has no more layers than its domain, and one for the atoms.
pub layers-low : {r : Repr} {d : Dom} (n : ℕ) → KeptAs r d → NestedAt n d → layers r ≤ suc n
layers-low n (as_atom a) k = omega arith
layers-low n (by_occurrence s a) k = omega arith
layers-low n (with_a_dummy s) k = omega arith
layers-low zero (in_slots s e g) k = elim k [ ]
layers-low zero (with_a_marker s g) k = elim k [ ]
layers-low zero (with_flags s g) k = elim k [ ]
layers-low (suc n) (in_slots {r = r} s e g) (at_atoms m z a) = let h = atom-layers g a in omega (arith, h)
layers-low (suc n) (in_slots {r = r} s e g) (at_sets m z k) = let h = layers-low n g k in omega (arith, h)
layers-low (suc n) (with_a_marker {r = r} s g) (at_atoms m z a) = let h = atom-layers g a in omega (arith, h)
layers-low (suc n) (with_a_marker {r = r} s g) (at_sets m z k) = let h = layers-low n g k in omega (arith, h)
layers-low (suc n) (with_flags {r = r} s g) (at_atoms m z a) = let h = atom-layers g a in omega (arith, h)
layers-low (suc n) (with_flags {r = r} s g) (at_sets m z k) = let h = layers-low n g k in omega (arith, h)

-- ---- attributes

-- 1 where it holds.
abbrev one_if : Bool → ℕ
one_if true = 1
one_if false = 0

-- How often an attribute stands among the marks.
abbrev tally : Key → List Mark → ℕ
tally k [] = 0
tally k (m ∷ ms) = one_if (same_key k (key_of m)) + tally k ms

no-tally : (k : Key) (ms : List Mark) → has_key k ms ≡ false → tally k ms ≡ 0
no-tally k [] h = refl
no-tally k (m ∷ ms) h =
    let i = no-tally k ms (or-right-no (same_key k (key_of m)) (has_key k ms) h) in
    let e : one_if (same_key k (key_of m)) ≡ 0 = ap one_if (or-left-no (same_key k (key_of m)) (has_key k ms) h) in
    let w : one_if (same_key k (key_of m)) + tally k ms ≡ 0 = omega (arith, i, e) in w

-- Each of three attributes stands once at most, and no other one does.
record Tallies (ms : List Mark) : Type 0 where
  size : tally Key.Size ms ≤ 1
  least : tally Key.MinSize ms ≤ 1
  most : tally Key.MaxSize ms ≤ 1
  all : length ms ≡ tally Key.Size ms + (tally Key.MinSize ms + tally Key.MaxSize ms)

one-more : (k : Key) (ms : List Mark) → is_size_key k ≡ true → has_key k ms ≡ false → Tallies ms → Tallies (valued k ∷ ms)
one-more Key.Size ms h n t =
    let z = no-tally Key.Size ms n in
    record { size = omega (arith, z); least = omega (arith, t.least); most = omega (arith, t.most); all = omega (arith, t.all) }
one-more Key.MinSize ms h n t =
    let z = no-tally Key.MinSize ms n in
    record { size = omega (arith, t.size); least = omega (arith, z); most = omega (arith, t.most); all = omega (arith, t.all) }
one-more Key.MaxSize ms h n t =
    let z = no-tally Key.MaxSize ms n in
    record { size = omega (arith, t.size); least = omega (arith, t.least); most = omega (arith, z); all = omega (arith, t.all) }
one-more k ms h n t = absurd (no-yes h)

tallies : {ms : List Mark} {es : Exs} → Sizes ms es → marks_distinct ms ≡ true → Tallies ms
tallies no_sizes h = record { size = omega arith; least = omega arith; most = omega arith; all = refl }
tallies (one_size {k} {n} {ms} {es} q s) h =
    one-more k ms q (not-true (has_key k ms) (and-left (not (has_key k ms)) (marks_distinct ms) h))
    (tallies s (and-right (not (has_key k ms)) (marks_distinct ms) h))

three : {ms : List Mark} {es : Exs} → Sizes ms es → marks_distinct ms ≡ true → length ms ≤ 3
three s h = let t = tallies s h in omega (arith, t.size, t.least, t.most, t.all)

atom-few : {d : Dom} → WrittenAtom d → FewSizes d
atom-few written_truths = tt
atom-few written_numbers = tt

-- So the domain has few attributes.
pub few-sizes : {d : Dom} (n : ℕ) → NestedAt n d → FewSizes d
few-sizes zero k = elim k [ ]
few-sizes (suc n) (at_atoms {d = d} m s a) = (three s m, atom-few (atom-form d a))
few-sizes (suc n) (at_sets m s k) = (three s m, few-sizes n k)

-- ---- order

size-among : (k : Key) → is_size_key k ≡ true → mark_is_among size_keys [] (valued k) ≡ true
size-among Key.Size h = refl
size-among Key.MinSize h = refl
size-among Key.MaxSize h = refl
size-among k h = absurd (no-yes h)

sizes-among : {ms : List Mark} {es : Exs} → Sizes ms es → marks_among size_keys [] ms ≡ true
sizes-among no_sizes = refl
sizes-among (one_size {k} {n} {ms} {es} q s) =
    and-both (mark_is_among size_keys [] (valued k)) (marks_among size_keys [] ms) (size-among k q) (sizes-among s)

atom-orderly : {d : Dom} → WrittenAtom d → Orderly d
atom-orderly written_truths = tt
atom-orderly written_numbers = tt

-- It is orderly.
pub nested-orderly : {d : Dom} (n : ℕ) → NestedAt n d → Orderly d
nested-orderly zero k = elim k [ ]
nested-orderly (suc n) (at_atoms {ms = ms} {d = d} m s a) =
    ((and-both (marks_among size_keys [] ms) (marks_distinct ms) (sizes-among s) m, refl), atom-orderly (atom-form d a))
nested-orderly (suc n) (at_sets {ms = ms} m s k) =
    ((and-both (marks_among size_keys [] ms) (marks_distinct ms) (sizes-among s) m, refl), nested-orderly n k)

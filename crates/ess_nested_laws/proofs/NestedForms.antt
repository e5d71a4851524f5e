-- The forms of domains of nested sets, and of the representations that fit them.
use Rattle.std.proofs.Common.{◌≡◌, refl, sym, ap, ◌∙◌, subst, ℕ, zero, suc, Bool, true, false, ◌&&◌, ◌||◌, if◌then◌else◌, List, [], ◌∷◌, ◌⊎◌, inl, inr, pos, Some, None}
use Rattle.ess_semantics.specs.declared.words.Key.{Key}
use Rattle.ess_semantics.specs.declared.words.ReprKind.{ReprKind}
use Rattle.ess_semantics.specs.Kinds.{has_key, is_atom, has_dummy, fits, all_fit}
use Rattle.ess_semantics.specs.DomainJudgements.{marks_distinct}
use Rattle.ess_semantics.specs.Trees.{Repr, Reprs, repr, no_reprs, more_reprs, both_ends, Mark, valued, Exs, number_ex, no_exs, more_exs, Dom, bool_dom, int_dom, set_dom}
use Rattle.ess_semantics.proofs.Tests.{and-left, and-right}
use Rattle.ess_nested_laws.specs.NestedDomains.{is_size_key, are_written_sizes, is_written_atom, is_nested_within}

-- ---- forms

-- The numbers between two that are written.
abbrev pub written_range : ℕ → ℕ → Dom
written_range a b = int_dom (both_ends ∷ []) (more_exs (number_ex (pos a)) (more_exs (number_ex (pos b)) no_exs))

-- Attributes that say sizes, with written numbers.
pub data Sizes : List Mark → Exs → Type 0 where
  no_sizes : Sizes [] no_exs
  one_size : {k : Key} {n : ℕ} {ms : List Mark} {es : Exs} → is_size_key k ≡ true → Sizes ms es →
      Sizes (valued k ∷ ms) (more_exs (number_ex (pos n)) es)

-- Truth values, or the numbers between two that are written.
pub data WrittenAtom : Dom → Type 0 where
  written_truths : WrittenAtom bool_dom
  written_numbers : {a b : ℕ} → WrittenAtom (written_range a b)

-- Sets of these, or of such sets.
pub data NestedSet : Dom → Type 0 where
  of_atoms : {ms : List Mark} {es : Exs} {d : Dom} → Sizes ms es → WrittenAtom d → NestedSet (set_dom ms es d)
  of_sets : {ms : List Mark} {es : Exs} {d : Dom} → Sizes ms es → NestedSet d → NestedSet (set_dom ms es d)

-- A representation of such a domain, or of its atoms.
pub data KeptAs : Repr → Dom → Type 0 where
  as_atom : {d : Dom} → WrittenAtom d → KeptAs (repr ReprKind.Atom no_reprs) d
  by_occurrence : {ms : List Mark} {es : Exs} {d : Dom} → Sizes ms es → WrittenAtom d →
      KeptAs (repr ReprKind.Occurrence no_reprs) (set_dom ms es d)
  with_a_dummy : {ms : List Mark} {es : Exs} {a b : ℕ} → Sizes ms es →
      KeptAs (repr ReprKind.ExplicitVarSizeWithDummy no_reprs) (set_dom ms es (written_range a b))
  in_slots : {ms : List Mark} {es : Exs} {r : Repr} {d : Dom} → Sizes ms es → has_key Key.Size ms ≡ true → KeptAs r d →
      KeptAs (repr ReprKind.Explicit (more_reprs r no_reprs)) (set_dom ms es d)
  with_a_marker : {ms : List Mark} {es : Exs} {r : Repr} {d : Dom} → Sizes ms es → KeptAs r d →
      KeptAs (repr ReprKind.ExplicitVarSizeWithMarker (more_reprs r no_reprs)) (set_dom ms es d)
  with_flags : {ms : List Mark} {es : Exs} {r : Repr} {d : Dom} → Sizes ms es → KeptAs r d →
      KeptAs (repr ReprKind.ExplicitVarSizeWithFlags (more_reprs r no_reprs)) (set_dom ms es d)

-- ---- from the tests

-- `false` isn't `true`.
pub no-yes : false ≡ true → ⊥
no-yes e = cc

either-test : (b c : Bool) → b || c ≡ true → (b ≡ true) ⊎ (c ≡ true)
either-test true c h = inl refl
either-test false c h = inr h

-- Sizes that are written have this form.
pub sizes-form : (ms : List Mark) (es : Exs) → are_written_sizes ms es ≡ true → Sizes ms es
sizes-form [] no_exs h = no_sizes
sizes-form (valued k ∷ ms) (more_exs (number_ex (pos n)) es) h =
    one_size (and-left (is_size_key k) (are_written_sizes ms es) h)
    (sizes-form ms es (and-right (is_size_key k) (are_written_sizes ms es) h))
sizes-form ms es h = absurd (no-yes h)

-- So have atoms.
pub atom-form : (d : Dom) → is_written_atom d ≡ true → WrittenAtom d
atom-form bool_dom h = written_truths
atom-form (int_dom (both_ends ∷ []) (more_exs (number_ex (pos a)) (more_exs (number_ex (pos b)) no_exs))) h = written_numbers
atom-form d h = absurd (no-yes h)

-- So have nested sets.
pub nested-form : (n : ℕ) (d : Dom) → is_nested_within n d ≡ true → NestedSet d
nested-form zero d h = absurd (no-yes h)
nested-form (suc n) (set_dom ms es d) h =
    let w : Bool = are_written_sizes ms es in
    let i : Bool = is_written_atom d || is_nested_within n d in
    let k = and-right (marks_distinct ms) (w && i) h in
    go (sizes-form ms es (and-left w i k)) (either-test (is_written_atom d) (is_nested_within n d) (and-right w i k)) (nested-form n d)
  where
    go : Sizes ms es → (is_written_atom d ≡ true) ⊎ (is_nested_within n d ≡ true) → (is_nested_within n d ≡ true → NestedSet d) →
        NestedSet (set_dom ms es d)
    go s (inl a) f = of_atoms s (atom-form d a)
    go s (inr k) f = of_sets s (f k)
nested-form (suc n) d h = absurd (no-yes h)

-- ---- representations that fit

-- No more children, or one.
no-child : (rs : Reprs) → all_fit rs [] ≡ true → rs ≡ no_reprs
no-child no_reprs h = refl
no-child (more_reprs r rs) h = absurd (no-yes h)

one-child : (rs : Reprs) (d : Dom) → all_fit rs (d ∷ []) ≡ true → (r : Repr) × (rs ≡ more_reprs r no_reprs) × (fits r d ≡ true)
one-child no_reprs d h = absurd (no-yes h)
one-child (more_reprs r rs) d h =
    (r, ap (more_reprs r) (no-child rs (and-right (fits r d) (all_fit rs []) h)), and-left (fits r d) (all_fit rs []) h)

-- A kind that asks for something has it where it fits.
asked : (b : Bool) (rs : Reprs) (ds : List Dom) →
    elim (if b then Some ds else None) [ None ↦ false | Some es ↦ all_fit rs es ] ≡ true → (b ≡ true) × (all_fit rs ds ≡ true)
asked true rs ds h = (refl, h)
asked false rs ds h = absurd (no-yes h)

atom-kept : (r : Repr) {d : Dom} → WrittenAtom d → fits r d ≡ true → KeptAs r d
atom-kept (repr ReprKind.Atom no_reprs) a h = as_atom a
atom-kept (repr ReprKind.Atom (more_reprs r rs)) written_truths h = absurd (no-yes h)
atom-kept (repr ReprKind.Atom (more_reprs r rs)) written_numbers h = absurd (no-yes h)
atom-kept (repr k rs) written_truths h = absurd (no-yes h)
atom-kept (repr k rs) written_numbers h = absurd (no-yes h)

-- Members that are atoms, or no atoms.
data Inner (d : Dom) : Type 0 where
  atoms : WrittenAtom d → Inner d
  others : is_atom d ≡ false → has_dummy d ≡ false → Inner d

set-others : {d : Dom} → NestedSet d → Inner d
set-others (of_atoms s a) = others refl refl
set-others (of_sets s n) = others refl refl

set-kept : {ms : List Mark} {es : Exs} {d : Dom} → Sizes ms es → Inner d → ((r : Repr) → fits r d ≡ true → KeptAs r d) →
    (r : Repr) → fits r (set_dom ms es d) ≡ true → KeptAs r (set_dom ms es d)
set-kept {ms = ms} {es = es} {d = d} s w g (repr ReprKind.Explicit rs) h =
    let u = asked (has_key Key.Size ms) rs (d ∷ []) h in
    let c = one-child rs d u.1 in
    subst (λ rs. KeptAs (repr ReprKind.Explicit rs) (set_dom ms es d)) (sym c.1) (in_slots s u.0 (g c.0 c.2))
set-kept {ms = ms} {es = es} {d = d} s w g (repr ReprKind.ExplicitVarSizeWithMarker rs) h =
    let c = one-child rs d h in
    subst (λ rs. KeptAs (repr ReprKind.ExplicitVarSizeWithMarker rs) (set_dom ms es d)) (sym c.1) (with_a_marker s (g c.0 c.2))
set-kept {ms = ms} {es = es} {d = d} s w g (repr ReprKind.ExplicitVarSizeWithFlags rs) h =
    let c = one-child rs d h in
    subst (λ rs. KeptAs (repr ReprKind.ExplicitVarSizeWithFlags rs) (set_dom ms es d)) (sym c.1) (with_flags s (g c.0 c.2))
set-kept {ms = ms} {es = es} {d = d} s (atoms a) g (repr ReprKind.Occurrence rs) h =
    let u = asked (is_atom d) rs [] h in
    subst (λ rs. KeptAs (repr ReprKind.Occurrence rs) (set_dom ms es d)) (sym (no-child rs u.1)) (by_occurrence s a)
set-kept {d = d} s (others a b) g (repr ReprKind.Occurrence rs) h = absurd (no-yes (sym a ∙ (asked (is_atom d) rs [] h).0))
set-kept {ms = ms} {es = es} s (atoms (written_numbers {a = a} {b = b})) g (repr ReprKind.ExplicitVarSizeWithDummy rs) h =
    subst (λ rs. KeptAs (repr ReprKind.ExplicitVarSizeWithDummy rs) (set_dom ms es (written_range a b))) (sym (no-child rs h))
    (with_a_dummy s)
set-kept s (atoms written_truths) g (repr ReprKind.ExplicitVarSizeWithDummy rs) h = absurd (no-yes h)
set-kept {d = d} s (others a b) g (repr ReprKind.ExplicitVarSizeWithDummy rs) h =
    absurd (no-yes (sym b ∙ (asked (has_dummy d) rs [] h).0))
set-kept s w g (repr k rs) h = absurd (no-yes h)

-- A representation that fits nested sets has one of these forms.
pub kept-as : {d : Dom} → NestedSet d → (r : Repr) → fits r d ≡ true → KeptAs r d
kept-as (of_atoms s a) r h = set-kept s (atoms a) (λ r k. atom-kept r a k) r h
kept-as (of_sets s n) r h = set-kept s (set-others n) (λ r k. kept-as n r k) r h

-- The same of the test.
pub kept-form : (n : ℕ) (r : Repr) (d : Dom) → is_nested_within n d ≡ true → fits r d ≡ true → KeptAs r d
kept-form n r d h k = kept-as (nested-form n d h) r k

-- The declared tables of nested sets spell constants of the specification alone.
use Rattle.std.proofs.Common.{◌≡◌, refl, ap, ◌∙◌, subst, ℕ, Bool, true, false, if◌then◌else◌, List, [], ◌∷◌, ◌++◌, map, ℤ, pos, Option, Some, None}
use Rattle.std.specs.List.{list_all, list_any}
use Rattle.std.specs.Ordering.{int_cmp}
use Rattle.std.specs.declared.cmp.Ordering.{Ordering}
use Rattle.std.specs.declared.cmp.Ordering.TheVariants.{Less, Equal, Greater}
use Rattle.ess_semantics.specs.declared.words.Key.{Key}
use Rattle.ess_semantics.specs.declared.words.Op2.{Op2}
use Rattle.ess_semantics.specs.Lists.{append_all, or_else}
use Rattle.ess_semantics.specs.Values.{Text}
use Rattle.ess_semantics.specs.Order.{same_int}
use Rattle.ess_semantics.specs.Trees.{Repr, Mark, Ex, Exs, number_ex, no_exs, more_exs, Dom, bool_dom, int_dom, set_dom, Stm, find, ex2}
use Rattle.ess_semantics.specs.Domains.{same_key, attribute}
use Rattle.ess_semantics.specs.Sizes.{greatest_size}
use Rattle.ess_semantics.specs.Contexts.{Each}
use Rattle.ess_semantics.specs.DeclaredTables.{TableDecl}
use Rattle.ess_semantics.specs.Occurrences.{parts_of, parts_of_all, parts_of_dom}
use Rattle.ess_semantics.specs.Constants.{constants_of, numbers_of_part, parts_of_decl}
use Rattle.ess_semantics.specs.Prepared.{prepared}
use Rattle.ess_semantics.proofs.Tests.{and-both}
use Rattle.ess_repr_declare_laws.specs.SizeTerms.{one_ex, next_ex, minus_ex, plus_ex, is_numeral, span_ex, span_by, between_ex, bound_ex, slots_ex}
use Rattle.ess_repr_declare_laws.specs.DeclaredTrees.{trees_below}
use Rattle.ess_nested_laws.proofs.NestedForms.{written_range, Sizes, no_sizes, one_size, WrittenAtom, written_truths, written_numbers, NestedSet, of_atoms, of_sets, KeptAs, as_atom, by_occurrence, with_a_dummy, in_slots, with_a_marker, with_flags}
use Rattle.ess_nested_laws.proofs.NestedDenoted.{written_attributes}
use Rattle.ess_nested_tables_laws.proofs.TableBounds.{slots-have, AllHave, DomHas, DeclHas, LayersHave, tables-have}
use Rattle.conjure_laws.specs.Members.{In}
use Rattle.conjure_laws.specs.ModelPremises.{spelled}
use Rattle.conjure_laws.proofs.Lists.{at-item, test-append}
use Rattle.ess_flat_models_laws.proofs.FlatValues.{NumbersOfAll}
use Rattle.ess_flat_models_laws.proofs.FlatTexts.{IsConst}
use Rattle.ess_flat_models_laws.proofs.SimpleTrees.{maps-append, are_simple}
use Rattle.ess_mixed_models_laws.proofs.PreparedSets.{is_ranged, RangeNumbers, RangesAre}
use Rattle.ess_mixed_models_laws.proofs.MixedConstants.{ranges-spelled}

-- ---- the numbers of a domain

sizes-simple : {ms : List Mark} {es : Exs} → Sizes ms es → are_simple es ≡ true
sizes-simple no_sizes = refl
sizes-simple (one_size h s) = sizes-simple s

atom-ranged : {d : Dom} → WrittenAtom d → is_ranged d ≡ true
atom-ranged written_truths = refl
atom-ranged written_numbers = refl

-- A domain of nested sets is one over scalars, with arithmetic.
pub nested-ranged : {d : Dom} → NestedSet d → is_ranged d ≡ true
nested-ranged (of_atoms {es = es} {d = d} s a) = and-both (are_simple es) (is_ranged d) (sizes-simple s) (atom-ranged a)
nested-ranged (of_sets {es = es} {d = d} s n) = and-both (are_simple es) (is_ranged d) (sizes-simple s) (nested-ranged n)

module _ (S : List Stm) where
  abbrev isc : ℤ → Bool
  isc n = list_any (same_int n) (constants_of S)

  -- The expression spells constants.
  abbrev pub Spells : Ex → Type 0
  Spells e = spelled S (parts_of e) ≡ true

  both-spelled : (xs ys : List Ex) → spelled S xs ≡ true → spelled S ys ≡ true → spelled S (xs ++ ys) ≡ true
  both-spelled xs ys p q =
      ap (list_all isc) (maps-append numbers_of_part xs ys)
      ∙ test-append isc (append_all (map numbers_of_part xs)) (append_all (map numbers_of_part ys))
      ∙ and-both (spelled S xs) (spelled S ys) p q

  number-spelled : (n : ℤ) → IsConst S n → Spells (number_ex n)
  number-spelled n h = and-both (isc n) true h refl

  two-spelled : (o : Op2) (a b : Ex) → Spells a → Spells b → Spells (ex2 false o a b)
  two-spelled o a b p q = both-spelled (parts_of a) (parts_of b ++ []) p (both-spelled (parts_of b) [] q refl)

  -- ---- sizes

  span-spelled : (a b : ℤ) → IsConst S a → IsConst S b → Spells (span_ex (number_ex a) (number_ex b))
  span-spelled a b p q = go (is_numeral (pos 0) (number_ex a)) (is_numeral (pos 1) (number_ex a))
    where
      go : (c d : Bool) → Spells (if c then next_ex (number_ex b) else (if d then number_ex b else plus_ex
          (minus_ex one_ex (number_ex a)) (number_ex b)))
      go true d = two-spelled Op2.Plus (number_ex b) one_ex (number-spelled b q) refl
      go false true = number-spelled b q
      go false false = two-spelled Op2.Plus (minus_ex one_ex (number_ex a)) (number_ex b)
          (two-spelled Op2.Minus one_ex (number_ex a) refl (number-spelled a p)) (number-spelled b q)

  between-spelled : (a b : ℤ) → IsConst S a → IsConst S b → Spells (between_ex (number_ex a) (number_ex b))
  between-spelled a b p q = go (int_cmp a b)
    where
      go : (o : Ordering) → Spells (span_by (Some o) (number_ex a) (number_ex b))
      go Less = span-spelled a b p q
      go Equal = refl
      go Greater = refl

  atom-spelled : {d : Dom} → WrittenAtom d → RangeNumbers (IsConst S) d → Spells (bound_ex d)
  atom-spelled written_truths h = refl
  atom-spelled (written_numbers {a = a} {b = b}) h = between-spelled (pos a) (pos b) h.0 h.1.0

  power-spelled : (e : Ex) → Spells e → Spells (ex2 false Op2.Pow (number_ex (pos 2)) e)
  power-spelled e h = two-spelled Op2.Pow (number_ex (pos 2)) e refl h

  bound-spelled : {r : Repr} {d : Dom} → KeptAs r d → RangeNumbers (IsConst S) d → Spells (bound_ex d)
  bound-spelled (as_atom a) h = atom-spelled a h
  bound-spelled (by_occurrence {d = d} s a) h = power-spelled (bound_ex d) (atom-spelled a h.1)
  bound-spelled (with_a_dummy {a = a} {b = b} s) h =
      power-spelled (bound_ex (written_range a b)) (between-spelled (pos a) (pos b) h.1.0 h.1.1.0)
  bound-spelled (in_slots {d = d} s k w) h = power-spelled (bound_ex d) (bound-spelled w h.1)
  bound-spelled (with_a_marker {d = d} s w) h = power-spelled (bound_ex d) (bound-spelled w h.1)
  bound-spelled (with_flags {d = d} s w) h = power-spelled (bound_ex d) (bound-spelled w h.1)

  -- The number of an attribute is a constant.
  size-const : {ms : List Mark} {es : Exs} → Sizes ms es → NumbersOfAll (IsConst S) es → (k : Key) (n : ℕ) →
      attribute k (written_attributes ms es) ≡ Some n → IsConst S (pos n)
  size-const no_sizes h k n e = cc
  size-const (one_size {k = j} {n = m} {ms = ms} {es = es} q s) h k n e = go (same_key k j) e (size-const s h.1 k n)
    where
      go : (b : Bool) → (if b then Some m else attribute k (written_attributes ms es)) ≡ Some n →
          (attribute k (written_attributes ms es) ≡ Some n → IsConst S (pos n)) → IsConst S (pos n)
      go true e f = let z : m ≡ n = cc in subst (λ z. IsConst S (pos z)) z h.0
      go false e f = f e

  greatest-const : {ms : List Mark} {es : Exs} → Sizes ms es → NumbersOfAll (IsConst S) es → (n : ℕ) →
      greatest_size (written_attributes ms es) ≡ Some n → IsConst S (pos n)
  greatest-const {ms = ms} {es = es} s h n e =
      go (attribute Key.Size (written_attributes ms es)) (size-const s h Key.Size n) e (size-const s h Key.MaxSize n)
    where
      go : (o : Option ℕ) → (o ≡ Some n → IsConst S (pos n)) → or_else o (attribute Key.MaxSize (written_attributes ms es)) ≡ Some n →
          (attribute Key.MaxSize (written_attributes ms es) ≡ Some n → IsConst S (pos n)) → IsConst S (pos n)
      go None f e g = g e
      go (Some m) f e g = f e

  slots-spelled : {ms : List Mark} {es : Exs} (d : Dom) → Sizes ms es → RangeNumbers (IsConst S) (set_dom ms es d) → Spells (bound_ex d) →
      Spells (slots_ex (set_dom ms es d))
  slots-spelled d s h b =
      slots-have (λ e. spelled S (parts_of e) ≡ true) d s (λ n e. number-spelled (pos n) (greatest-const s h.0 n e)) (λ e. b)

  -- ---- tables

  atom-bounds : {d : Dom} → WrittenAtom d → RangeNumbers (IsConst S) d → DomHas (λ e. spelled S (parts_of e) ≡ true) d
  atom-bounds written_truths h = tt
  atom-bounds (written_numbers {a = a} {b = b}) h = (number-spelled (pos a) h.0, (number-spelled (pos b) h.1.0, tt))

  layers-spelled : {r : Repr} {d : Dom} → KeptAs r d → RangeNumbers (IsConst S) d →
      LayersHave (λ e. spelled S (parts_of e) ≡ true) r d
  layers-spelled (as_atom written_truths) h = tt
  layers-spelled (as_atom (written_numbers {a = a} {b = b})) h = atom-bounds (written_numbers {a = a} {b = b}) h
  layers-spelled (by_occurrence s a) h = atom-bounds a h.1
  layers-spelled (with_a_dummy {a = a} {b = b} s) h = (
    slots-spelled (written_range a b) s h (between-spelled (pos a) (pos b) h.1.0 h.1.1.0),
    (
      number-spelled (pos a) h.1.0,
      (number-spelled (pos b) h.1.1.0, (two-spelled Op2.Plus (number_ex (pos b)) one_ex (number-spelled (pos b) h.1.1.0) refl, tt)),
    ),
  )
  layers-spelled (in_slots {d = d} s k w) h = (slots-spelled d s h (bound-spelled w h.1), layers-spelled w h.1)
  layers-spelled (with_a_marker {d = d} s w) h = (slots-spelled d s h (bound-spelled w h.1), layers-spelled w h.1)
  layers-spelled (with_flags {d = d} s w) h = (slots-spelled d s h (bound-spelled w h.1), layers-spelled w h.1)

  bounds-spelled : (es : Exs) → AllHave (λ e. spelled S (parts_of e) ≡ true) es → spelled S (parts_of_all es) ≡ true
  bounds-spelled no_exs h = refl
  bounds-spelled (more_exs e es) h = both-spelled (parts_of e) (parts_of_all es) h.0 (bounds-spelled es h.1)

  dom-spelled : (d : Dom) → DomHas (λ e. spelled S (parts_of e) ≡ true) d → spelled S (parts_of_dom d) ≡ true
  dom-spelled bool_dom h = refl
  dom-spelled (int_dom rs es) h = bounds-spelled es h
  dom-spelled d h = absurd h

  axes-spelled : (as' : List Dom) → Each as' (DomHas (λ e. spelled S (parts_of e) ≡ true)) →
      spelled S (append_all (map parts_of_dom as')) ≡ true
  axes-spelled [] h = refl
  axes-spelled (a ∷ as') h =
      both-spelled (parts_of_dom a) (append_all (map parts_of_dom as')) (dom-spelled a h.0) (axes-spelled as' h.1)

  -- A declared table whose bounds spell constants does.
  pub table-spells : (t : TableDecl) → DeclHas (λ e. spelled S (parts_of e) ≡ true) t → spelled S (parts_of_decl t) ≡ true
  table-spells t h =
      both-spelled (append_all (map parts_of_dom t.axes)) (parts_of_dom t.cell) (axes-spelled t.axes h.0) (dom-spelled t.cell h.1)

  -- The tables of nested sets spell constants.
  pub nested-spells : (x : Text) (r : Repr) (d : Dom) → NestedSet d → KeptAs r d → In (find x d) (prepared S) →
      Each (trees_below false r d) (DeclHas (λ e. spelled S (parts_of e) ≡ true))
  nested-spells x r d n w i =
      tables-have (λ e. spelled S (parts_of e) ≡ true) refl refl false w
      (layers-spelled w (at-item (RangesAre (IsConst S)) (prepared S) (find x d) (ranges-spelled S) i (nested-ranged n)))

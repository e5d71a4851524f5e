-- The bounds of the declared tables of nested sets: 0, 1, the slots of each layer, and the bounds of atoms.
use Rattle.std.proofs.Common.{◌≡◌, refl, sym, ap, ◌∙◌, subst, ℕ, Bool, true, false, ◌||◌, if◌then◌else◌, List, [], ◌∷◌, ◌++◌, map, codes, pos, Option, Some, None, option_map}
use Rattle.ess_semantics.specs.declared.words.Key.{Key}
use Rattle.ess_semantics.specs.declared.words.ReprKind.{ReprKind}
use Rattle.ess_semantics.specs.Lists.{or_else, or_default}
use Rattle.ess_semantics.specs.Values.{Text}
use Rattle.ess_semantics.specs.Contexts.{Each}
use Rattle.ess_semantics.specs.Trees.{Repr, repr, more_reprs, Mark, Ex, Exs, number_ex, no_exs, more_exs, Dom, bool_dom, int_dom, set_dom}
use Rattle.ess_semantics.specs.Domains.{same_key, attribute}
use Rattle.ess_semantics.specs.Sizes.{greatest_size}
use Rattle.ess_semantics.specs.DeclaredTables.{TableDecl}
use Rattle.ess_repr_laws.proofs.Rooms.{one-key}
use Rattle.ess_repr_declare_laws.specs.SizeTerms.{zero_ex, one_ex, number_of, greatest_size_of, bound_ex, slots_ex}
use Rattle.ess_repr_declare_laws.specs.DeclaredTrees.{axis_dom, cell_dom, widened_if, with_dummy, slot_axis, below_layer, trees_below}
use Rattle.ess_nested_laws.proofs.NestedForms.{Sizes, no_sizes, one_size, written_range, WrittenAtom, written_truths, written_numbers, KeptAs, as_atom, by_occurrence, with_a_dummy, in_slots, with_a_marker, with_flags}
use Rattle.ess_nested_laws.proofs.NestedDenoted.{written_attributes}

each-append : {A : Type 0} (P : A → Type 0) (xs ys : List A) → Each xs P → Each ys P → Each (xs ++ ys) P
each-append P [] ys h k = k
each-append P (x ∷ xs) ys h k = (h.0, each-append P xs ys h.1 k)

-- ---- sizes

numeral-or : (k j : Key) (n : ℕ) (o : Option Ex) (a : Option ℕ) → o ≡ option_map (λ n. number_ex (pos n)) a → (b : Bool) →
    (if b then Some (number_ex (pos n)) else o) ≡ option_map (λ n. number_ex (pos n)) (if b then Some n else a)
numeral-or k j n o a e true = refl
numeral-or k j n o a e false = e

turned : (k j : Key) → same_key j k ≡ same_key k j
turned k j = go (same_key j k) (same_key k j) refl refl
  where
    go : (a b : Bool) → same_key j k ≡ a → same_key k j ≡ b → a ≡ b
    go true true p q = refl
    go false false p q = refl
    go true false p q =
        let e : j ≡ k = one-key j k p in sym (ap (λ x. same_key x j) (sym e) ∙ ap (same_key j) e ∙ p) ∙ q
    go false true p q =
        let e : k ≡ j = one-key k j q in sym p ∙ ap (λ x. same_key x k) (sym e) ∙ ap (same_key k) e ∙ q

-- The number of an attribute as a tree is that of the closed domain.
pub number-attribute : {ms : List Mark} {es : Exs} → Sizes ms es → (k : Key) →
    number_of k ms es ≡ option_map (λ n. number_ex (pos n)) (attribute k (written_attributes ms es))
number-attribute no_sizes k = refl
number-attribute (one_size {k = j} {n = n} {ms = ms} {es = es} h s) k =
    ap (λ b. if b then Some (number_ex (pos n)) else number_of k ms es) (turned k j)
    ∙ numeral-or k j n (number_of k ms es) (attribute k (written_attributes ms es)) (number-attribute s k) (same_key k j)

either : (a b : Option ℕ) → or_else (option_map (λ n. number_ex (pos n)) a) (option_map (λ n. number_ex (pos n)) b)
    ≡ option_map (λ n. number_ex (pos n)) (or_else a b)
either None b = refl
either (Some n) b = refl

pub greatest-attribute : {ms : List Mark} {es : Exs} → Sizes ms es →
    greatest_size_of ms es ≡ option_map (λ n. number_ex (pos n)) (greatest_size (written_attributes ms es))
greatest-attribute {ms = ms} {es = es} s =
    ap (λ o. or_else o (number_of Key.MaxSize ms es)) (number-attribute s Key.Size)
    ∙ ap (or_else (option_map (λ n. number_ex (pos n)) (attribute Key.Size (written_attributes ms es)))) (number-attribute s Key.MaxSize)
    ∙ either (attribute Key.Size (written_attributes ms es)) (attribute Key.MaxSize (written_attributes ms es))

module _ (Q : Ex → Type 0) where
  -- The slots are the number that is written, else the bound of the members' domain.
  pub slots-have : {ms : List Mark} {es : Exs} (d : Dom) → Sizes ms es →
      ((n : ℕ) → greatest_size (written_attributes ms es) ≡ Some n → Q (number_ex (pos n))) →
      (greatest_size (written_attributes ms es) ≡ None → Q (bound_ex d)) → Q (slots_ex (set_dom ms es d))
  slots-have {ms = ms} {es = es} d s f g =
      subst (λ o. Q (or_default o (bound_ex d))) (sym (greatest-attribute s)) (go (greatest_size (written_attributes ms es)) f g)
    where
      go : (o : Option ℕ) → ((n : ℕ) → o ≡ Some n → Q (number_ex (pos n))) → (o ≡ None → Q (bound_ex d)) →
          Q (or_default (option_map (λ n. number_ex (pos n)) o) (bound_ex d))
      go (Some n) f g = f n refl
      go None f g = g refl

  -- ---- of domains and tables

  -- Q of each of these.
  abbrev pub AllHave : Exs → Type 0
  AllHave no_exs = Unit {0}
  AllHave (more_exs e es) = Q e × AllHave es

  -- Q of the bounds of a domain of numbers; truth values have none.
  abbrev pub DomHas : Dom → Type 0
  DomHas bool_dom = Unit {0}
  DomHas (int_dom rs es) = AllHave es
  DomHas d = ⊥

  -- Q of the bounds of a declared table.
  abbrev pub DeclHas : TableDecl → Type 0
  DeclHas t = Each t.axes DomHas × DomHas t.cell

  -- Q of what the bounds of the tables of a representation are made of: the slots of each layer, and the bounds of atoms.
  abbrev pub LayersHave : Repr → Dom → Type 0
  LayersHave (repr ReprKind.Occurrence rs) (set_dom ms es d) = DomHas d
  LayersHave (repr ReprKind.ExplicitVarSizeWithDummy rs) (set_dom ms es d) = Q (slots_ex (set_dom ms es d)) × DomHas (with_dummy d)
  LayersHave (repr k (more_reprs r rs)) (set_dom ms es d) = Q (slots_ex (set_dom ms es d)) × LayersHave r d
  LayersHave r d = DomHas d

  module _ (z : Q zero_ex) (i : Q one_ex) where
    axis-has : {d : Dom} → WrittenAtom d → DomHas d → DomHas (axis_dom d)
    axis-has written_truths h = (z, (i, tt))
    axis-has written_numbers h = h

    widened-has : (out : Bool) {d : Dom} → WrittenAtom d → DomHas d → DomHas (widened_if out d)
    widened-has true written_truths h = tt
    widened-has true written_numbers h = (z, h)
    widened-has false a h = h

    dummy-has : (out : Bool) (a b : ℕ) → DomHas (with_dummy (written_range a b)) → DomHas (widened_if out (with_dummy (written_range a b)))
    dummy-has true a b h = (z, h)
    dummy-has false a b h = h

    cell-has : (out : Bool) {d : Dom} → WrittenAtom d → DomHas d → DomHas (widened_if out (cell_dom d))
    cell-has out written_truths h = widened-has out written_truths h
    cell-has out written_numbers h = widened-has out written_numbers h

    below-has : (n : Text) (as' : List Dom) (ts : List TableDecl) → Each as' DomHas → Each ts DeclHas →
        Each (map (below_layer n as') ts) DeclHas
    below-has n as' [] h k = tt
    below-has n as' (t ∷ ts) h k = ((each-append DomHas as' t.axes h k.0.0, k.0.1), below-has n as' ts h k.1)

    behind : (ts : List TableDecl) → Each ts DeclHas → Each (ts ++ []) DeclHas
    behind ts h = each-append DeclHas ts [] h tt

    -- The tables of a child, behind the axis of the slots.
    inner : (n : Text) (ms : List Mark) (es : Exs) (d : Dom) (ts : List TableDecl) → Q (slots_ex (set_dom ms es d)) → Each ts DeclHas →
        Each (map (below_layer n (slot_axis (set_dom ms es d))) ts ++ []) DeclHas
    inner n ms es d ts q h =
        let as' : List Dom = slot_axis (set_dom ms es d) in
        behind (map (below_layer n as') ts) (below-has n as' ts ((i, (q, tt)), tt) h)

    -- So the bounds of all tables have it.
    pub tables-have : (out : Bool) {r : Repr} {d : Dom} → KeptAs r d → LayersHave r d → Each (trees_below out r d) DeclHas
    tables-have out (as_atom written_truths) h = ((tt, cell-has out written_truths h), tt)
    tables-have out (as_atom written_numbers) h = ((tt, cell-has out written_numbers h), tt)
    tables-have out (by_occurrence s a) h = (((axis-has a h, tt), tt), tt)
    tables-have out (with_a_dummy {a = a} {b = b} s) h = ((((i, (h.0, tt)), tt), dummy-has out a b h.1), tt)
    tables-have out (in_slots {ms = ms} {es = es} {r = r} {d = d} s k w) h =
        inner (codes "_Explicit") ms es d (trees_below (out || false) r d) h.0 (tables-have (out || false) w h.1)
    tables-have out (with_a_marker {ms = ms} {es = es} {r = r} {d = d} s w) h = (
      (tt, (z, (h.0, tt))),
      inner (codes "_ExplicitVarSizeWithMarker_Values") ms es d (trees_below (out || true) r d) h.0 (tables-have (out || true) w h.1),
    )
    tables-have out (with_flags {ms = ms} {es = es} {r = r} {d = d} s w) h = (
      (((i, (h.0, tt)), tt), tt),
      inner (codes "_ExplicitVarSizeWithFlags_Values") ms es d (trees_below (out || true) r d) h.0 (tables-have (out || true) w h.1),
    )

-- The tables of a representation of nested sets have terms of numerals as bounds.
use Rattle.std.proofs.Common.{refl, ℕ, Bool, true, false, ◌||◌, if◌then◌else◌, List, [], ◌∷◌, ◌++◌, map, ℤ, pos, codes, Option, Some, None}
use Rattle.std.specs.Ordering.{int_cmp}
use Rattle.std.specs.declared.cmp.Ordering.{Ordering}
use Rattle.std.specs.declared.cmp.Ordering.TheVariants.{Less, Equal, Greater}
use Rattle.ess_semantics.specs.declared.words.Key.{Key}
use Rattle.ess_semantics.specs.declared.words.ReprKind.{ReprKind}
use Rattle.ess_semantics.specs.Lists.{or_else, or_default}
use Rattle.ess_semantics.specs.Values.{Text}
use Rattle.ess_semantics.specs.Domains.{same_key}
use Rattle.ess_semantics.specs.Trees.{Mark, Repr, repr, no_reprs, Ex, Exs, number_ex, Dom, set_dom}
use Rattle.ess_semantics.specs.Contexts.{Each}
use Rattle.ess_semantics.specs.DeclaredTables.{TableDecl}
use Rattle.ess_repr_declare_laws.specs.SizeTerms.{is_numeral, span_ex, span_by, next_ex, plus_ex, minus_ex, one_ex, number_of, greatest_size_of, bound_ex, slots_ex}
use Rattle.ess_repr_declare_laws.specs.DeclaredTrees.{axis_dom, from_to, below_layer, trees_below}
use Rattle.conjure_model_laws.specs.IsBuiltFrom.{with_whole_names}
use Rattle.ess_nested_laws.proofs.NestedForms.{written_range, Sizes, no_sizes, one_size, WrittenAtom, written_truths, written_numbers, KeptAs, as_atom, by_occurrence, with_a_dummy, in_slots, with_a_marker, with_flags, kept-form}
use Rattle.conjure_standing_laws.specs.NestedFinds.{tables_by}
use Rattle.conjure_standing_laws.specs.NestedLaws.{NestedTablesStay}
use Rattle.conjure_standing_laws.proofs.NumberTerms.{OfNumerals, digits, plus, less, power}
use Rattle.conjure_standing_laws.proofs.NumberTables.{NumberDom, truths, ranges, NumberTable, tables-written}

-- ---- sizes

choice : (P : Ex → Type 0) (b : Bool) (x y : Ex) → P x → P y → P (if b then x else y)
choice P true x y p q = p
choice P false x y p q = q

-- How many numbers there are between two that are written.
span-numerals : (a b : ℤ) → OfNumerals (span_ex (number_ex a) (number_ex b))
span-numerals a b =
    choice OfNumerals (is_numeral (pos 0) (number_ex a)) (next_ex (number_ex b))
    (if is_numeral (pos 1) (number_ex a) then number_ex b else plus_ex (minus_ex one_ex (number_ex a)) (number_ex b))
    (plus digits digits)
    (choice OfNumerals (is_numeral (pos 1) (number_ex a)) (number_ex b) (plus_ex (minus_ex one_ex (number_ex a)) (number_ex b))
    digits (plus (less digits digits) digits))

between-numerals : (o : Ordering) (a b : ℤ) → OfNumerals (span_by (Some o) (number_ex a) (number_ex b))
between-numerals Less a b = span-numerals a b
between-numerals Equal a b = digits
between-numerals Greater a b = digits

atom-bound : {d : Dom} → WrittenAtom d → OfNumerals (bound_ex d)
atom-bound written_truths = digits
atom-bound (written_numbers {a = a} {b = b}) = between-numerals (int_cmp (pos a) (pos b)) (pos a) (pos b)

-- The bound of a domain that is kept.
kept-bound : {r : Repr} {d : Dom} → KeptAs r d → OfNumerals (bound_ex d)
kept-bound (as_atom a) = atom-bound a
kept-bound (by_occurrence s a) = power digits (atom-bound a)
kept-bound (with_a_dummy {a = a} {b = b} s) = power digits (atom-bound (written_numbers {a = a} {b = b}))
kept-bound (in_slots s k w) = power digits (kept-bound w)
kept-bound (with_a_marker s w) = power digits (kept-bound w)
kept-bound (with_flags s w) = power digits (kept-bound w)

-- The number of an attribute, if there is one.
data Digits : Option Ex → Type 0 where
  no_number : Digits None
  a_number : {k : ℤ} → Digits (Some (number_ex k))

choose-digits : (b : Bool) (o p : Option Ex) → Digits o → Digits p → Digits (if b then o else p)
choose-digits true o p w v = w
choose-digits false o p w v = v

sizes-digits : (k : Key) {ms : List Mark} {es : Exs} → Sizes ms es → Digits (number_of k ms es)
sizes-digits k no_sizes = no_number
sizes-digits k (one_size {k = j} {n = n} {ms = ms} {es = es} h s) =
    choose-digits (same_key j k) (Some (number_ex (pos n))) (number_of k ms es) a_number (sizes-digits k s)

else-digits : (o p : Option Ex) → Digits o → Digits p → Digits (or_else o p)
else-digits o p no_number v = v
else-digits o p a_number v = a_number

default-numerals : (o : Option Ex) (e : Ex) → Digits o → OfNumerals e → OfNumerals (or_default o e)
default-numerals o e no_number v = v
default-numerals o e a_number v = digits

-- The slots of sets with written sizes over such a bound.
slots-numerals : {ms : List Mark} {es : Exs} (d : Dom) → Sizes ms es → OfNumerals (bound_ex d) → OfNumerals (slots_ex (set_dom ms es d))
slots-numerals {ms} {es} d s w =
    default-numerals (greatest_size_of ms es) (bound_ex d)
    (else-digits (number_of Key.Size ms es) (number_of Key.MaxSize ms es) (sizes-digits Key.Size s) (sizes-digits Key.MaxSize s)) w

-- ---- tables

axis-numerals : {d : Dom} → WrittenAtom d → NumberDom (axis_dom d)
axis-numerals written_truths = ranges refl (digits, (digits, tt))
axis-numerals written_numbers = ranges refl (digits, (digits, tt))

atom-cell : (out : Bool) {d : Dom} → WrittenAtom d → Each (trees_below out (repr ReprKind.Atom no_reprs) d) NumberTable
atom-cell true written_truths = (record { axes = tt; cell = truths }, tt)
atom-cell false written_truths = (record { axes = tt; cell = truths }, tt)
atom-cell true written_numbers = (record { axes = tt; cell = ranges refl (digits, (digits, (digits, tt))) }, tt)
atom-cell false written_numbers = (record { axes = tt; cell = ranges refl (digits, (digits, tt)) }, tt)

slots-axis : {ms : List Mark} {es : Exs} (d : Dom) → Sizes ms es → OfNumerals (bound_ex d) →
    NumberDom (from_to one_ex (slots_ex (set_dom ms es d)))
slots-axis d s w = ranges refl (digits, (slots-numerals d s w, tt))

-- Tables below a layer.
below-numerals : (n : Text) (a : Dom) (ts : List TableDecl) → NumberDom a → Each ts NumberTable →
    Each (map (below_layer n (a ∷ [])) ts ++ []) NumberTable
below-numerals n a [] p w = tt
below-numerals n a (t ∷ ts) p w = (record { axes = (p, w.0.axes); cell = w.0.cell }, below-numerals n a ts p w.1)

dummy-cell : (out : Bool) {ms : List Mark} {es : Exs} (a b : ℕ) → Sizes ms es →
    Each (trees_below out (repr ReprKind.ExplicitVarSizeWithDummy no_reprs) (set_dom ms es (written_range a b))) NumberTable
dummy-cell true a b s = (
  record {
    axes = (slots-axis (written_range a b) s (atom-bound (written_numbers {a = a} {b = b})), tt);
    cell = ranges refl (digits, (digits, (digits, (plus digits digits, tt))));
  },
  tt,
)
dummy-cell false a b s = (
  record {
    axes = (slots-axis (written_range a b) s (atom-bound (written_numbers {a = a} {b = b})), tt);
    cell = ranges refl (digits, (digits, (plus digits digits, tt)));
  },
  tt,
)

-- The tables of a representation of nested sets.
pub kept-tables : (out : Bool) {r : Repr} {d : Dom} → KeptAs r d → Each (trees_below out r d) NumberTable
kept-tables out (as_atom a) = atom-cell out a
kept-tables out (by_occurrence s a) = (record { axes = (axis-numerals a, tt); cell = truths }, tt)
kept-tables out (with_a_dummy {a = a} {b = b} s) = dummy-cell out a b s
kept-tables out (in_slots {ms = ms} {es = es} {r = r} {d = d} s k w) =
    below-numerals (codes "_Explicit") (from_to one_ex (slots_ex (set_dom ms es d))) (trees_below (out || false) r d)
    (slots-axis d s (kept-bound w)) (kept-tables (out || false) w)
kept-tables out (with_a_marker {ms = ms} {es = es} {r = r} {d = d} s w) = (
  record { axes = tt; cell = ranges refl (digits, (slots-numerals d s (kept-bound w), tt)) },
  below-numerals (codes "_ExplicitVarSizeWithMarker_Values") (from_to one_ex (slots_ex (set_dom ms es d))) (trees_below (out || true) r d)
      (slots-axis d s (kept-bound w)) (kept-tables (out || true) w),
)
kept-tables out (with_flags {ms = ms} {es = es} {r = r} {d = d} s w) = (
  record { axes = (slots-axis d s (kept-bound w), tt); cell = truths },
  below-numerals (codes "_ExplicitVarSizeWithFlags_Values") (from_to one_ex (slots_ex (set_dom ms es d))) (trees_below (out || true) r d)
      (slots-axis d s (kept-bound w)) (kept-tables (out || true) w),
)

-- The same with whole names.
pub whole-numerals : (ns : List Text) (ts : List TableDecl) → Each ts NumberTable → Each (with_whole_names ns ts) NumberTable
whole-numerals [] ts w = tt
whole-numerals (n ∷ ns) [] w = tt
whole-numerals (n ∷ ns) (t ∷ ts) w = (record { axes = w.0.axes; cell = w.0.cell }, whole-numerals ns ts w.1)

-- What is declared of nested sets is written as it is.
pub nested-tables-stay : NestedTablesStay
nested-tables-stay add taken k r d ns h f us s gs v =
    tables-written add taken k (tables_by ns r d) us
    (whole-numerals ns (trees_below false r d) (kept-tables false (kept-form 250 r d h f))) s gs v

-- Domains of nested sets, and their sizes as terms, have no names.
use Rattle.std.proofs.Common.{Bool, true, false, if◌then◌else◌, List, pos, Option, Some, None}
use Rattle.std.specs.declared.cmp.Ordering.{Ordering}
use Rattle.std.specs.declared.cmp.Ordering.TheVariants.{Less, Equal, Greater}
use Rattle.ess_semantics.specs.declared.words.Key.{Key}
use Rattle.ess_semantics.specs.Lists.{or_else, or_default}
use Rattle.ess_semantics.specs.Values.{Text}
use Rattle.ess_semantics.specs.Domains.{same_key}
use Rattle.ess_semantics.specs.Trees.{Mark, Ex, Exs, number_ex, Dom, set_dom}
use Rattle.ess_semantics.specs.Substitution.{NamesAre, NamesAreExs, NamesAreDom}
use Rattle.ess_nested_laws.proofs.NestedForms.{Sizes, no_sizes, one_size, WrittenAtom, written_truths, written_numbers, NestedSet, of_atoms, of_sets}
use Rattle.ess_repr_declare_laws.specs.SizeTerms.{one_ex, next_ex, plus_ex, minus_ex, is_numeral, numerals_order, span_ex, span_by, number_of, greatest_size_of, bound_ex, slots_ex}

-- ---- domains of nested sets, and their sizes, have no names

module _ (u b : Text → Bool) where
  sizes-named : {ms : List Mark} {es : Exs} → Sizes ms es → NamesAreExs u b es
  sizes-named no_sizes = tt
  sizes-named (one_size q s) = (tt, sizes-named s)

  pub atom-named : {d : Dom} → WrittenAtom d → NamesAreDom u b d
  atom-named written_truths = tt
  atom-named written_numbers = (tt, (tt, tt))

  pub nested-named : {d : Dom} → NestedSet d → NamesAreDom u b d
  nested-named (of_atoms s a) = (sizes-named s, atom-named a)
  nested-named (of_sets s n) = (sizes-named s, nested-named n)

  -- The inner domain.
  pub inner-named : {ms : List Mark} {es : Exs} {d : Dom} → NestedSet (set_dom ms es d) → NamesAreDom u b d
  inner-named (of_atoms s a) = atom-named a
  inner-named (of_sets s n) = nested-named n

  abbrev SomeNamed : Option Ex → Type 0
  SomeNamed None = Unit {0}
  SomeNamed (Some e) = NamesAre u b e

  number-named : {ms : List Mark} {es : Exs} (k : Key) → Sizes ms es → SomeNamed (number_of k ms es)
  number-named k no_sizes = tt
  number-named k (one_size {k = j} {n} {ms} {es} q s) = go (same_key j k) (number-named k s)
    where
      go : (c : Bool) → SomeNamed (number_of k ms es) → SomeNamed (if c then Some (number_ex (pos n)) else number_of k ms es)
      go true h = tt
      go false h = h

  or-named : (o p : Option Ex) → SomeNamed o → SomeNamed p → SomeNamed (or_else o p)
  or-named None p h k = k
  or-named (Some e) p h k = h

  default-named : (o : Option Ex) (e : Ex) → SomeNamed o → NamesAre u b e → NamesAre u b (or_default o e)
  default-named None e h k = k
  default-named (Some x) e h k = h

  span-named : (x y : Ex) → NamesAre u b x → NamesAre u b y → NamesAre u b (span_ex x y)
  span-named x y h k = go (is_numeral (pos 0) x) (is_numeral (pos 1) x)
    where
      go : (p q : Bool) → NamesAre u b (if p then next_ex y else (if q then y else plus_ex (minus_ex one_ex x) y))
      go true q = (k, (tt, tt))
      go false true = k
      go false false = ((tt, (h, tt)), (k, tt))

  by-named : (o : Option Ordering) (x y : Ex) → NamesAre u b x → NamesAre u b y → NamesAre u b (span_by o x y)
  by-named (Some Less) x y h k = span-named x y h k
  by-named (Some Equal) x y h k = tt
  by-named (Some Greater) x y h k = tt
  by-named None x y h k = ((tt, (span-named x y h k, tt)), tt)

  bound-named : {d : Dom} → WrittenAtom d → NamesAre u b (bound_ex d)
  bound-named written_truths = tt
  bound-named (written_numbers {a = m} {b = n}) =
      by-named (numerals_order (number_ex (pos m)) (number_ex (pos n))) (number_ex (pos m)) (number_ex (pos n)) tt tt

  nested-bound : {d : Dom} → NestedSet d → NamesAre u b (bound_ex d)
  nested-bound (of_atoms s a) = (tt, (bound-named a, tt))
  nested-bound (of_sets s n) = (tt, (nested-bound n, tt))

  -- The number of slots has no name.
  pub slots-named : {ms : List Mark} {es : Exs} {d : Dom} → NestedSet (set_dom ms es d) → NamesAre u b (slots_ex (set_dom ms es d))
  slots-named (of_atoms {ms = ms} {es = es} {d = d} s a) = default-named (greatest_size_of ms es) (bound_ex d)
      (or-named (number_of Key.Size ms es) (number_of Key.MaxSize ms es) (number-named Key.Size s) (number-named Key.MaxSize s))
      (bound-named a)
  slots-named (of_sets {ms = ms} {es = es} {d = d} s n) = default-named (greatest_size_of ms es) (bound_ex d)
      (or-named (number_of Key.Size ms es) (number_of Key.MaxSize ms es) (number-named Key.Size s) (number-named Key.MaxSize s))
      (nested-bound n)

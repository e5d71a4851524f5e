-- Sizes of domains as expressions, over the domain's own numbers: how many members an atom has, the bound of a domain, how many slots
-- a set or multiset has, and how often a member of a multiset occurs. They are what the numbers of `Sizes` are under each env.
use Rattle.std.specs.Prelude.{Bool, true, false, if◌then◌else◌, List, [], ◌∷◌, ℤ, pos, Option, Some, None, option_map, codes}
use Rattle.std.specs.Ordering.{int_cmp}
use Rattle.std.specs.declared.cmp.Ordering.{Ordering}
use Rattle.std.specs.declared.cmp.Ordering.TheVariants.{Less, Equal, Greater}
use Rattle.ess_semantics.specs.declared.words.Op2.{Op2}
use Rattle.ess_semantics.specs.declared.words.Fun.{Fun}
use Rattle.ess_semantics.specs.declared.words.Key.{Key}
use Rattle.ess_semantics.specs.Lists.{and_then, is_some_and, or_else, or_default}
use Rattle.ess_semantics.specs.Values.{Text}
use Rattle.ess_semantics.specs.Order.{same_int}
use Rattle.ess_semantics.specs.Domains.{same_key}
use Rattle.ess_semantics.specs.Kinds.{is_bounded}
use Rattle.ess_semantics.specs.Trees.{Ends, one_value, both_ends, low_end, high_end, Mark, flag, valued, Repr, repr, name_pat, matrix_literal, Ex, Exs, number_ex, truth_ex, name_ex, node_ex, comp_ex, seen_ex, no_exs, more_exs, no_gens, over, Dom, Doms, bool_dom, int_dom, name_dom, tuple_dom, record_dom, matrix_dom, set_dom, mset_dom, function_dom, relation_dom, partition_dom, no_doms, more_doms, ex2, fun1}
use Rattle.ess_repr_laws.specs.StructureParts.{Terms, and_ex, or_ex, le_ex}

-- ---- numbers and operators

-- 0, 1 and 2.
abbrev pub zero_ex : Ex
zero_ex = number_ex (pos 0)

abbrev pub one_ex : Ex
one_ex = number_ex (pos 1)

abbrev pub two_ex : Ex
two_ex = number_ex (pos 2)

-- The sum, difference, product and power.
abbrev pub plus_ex : Ex → Ex → Ex
plus_ex a b = ex2 false Op2.Plus a b

abbrev pub minus_ex : Ex → Ex → Ex
minus_ex a b = ex2 false Op2.Minus a b

abbrev pub times_ex : Ex → Ex → Ex
times_ex a b = ex2 false Op2.Times a b

abbrev pub power_ex : Ex → Ex → Ex
power_ex a b = ex2 false Op2.Pow a b

-- One more than the term.
abbrev pub next_ex : Ex → Ex
next_ex a = plus_ex a one_ex

-- The term, or 0 where that is more.
abbrev pub at_least_0_ex : Ex → Ex
at_least_0_ex e = fun1 false Fun.Max (node_ex false matrix_literal (more_exs zero_ex (more_exs e no_exs)))

-- ---- the number of members of an atom

-- A name that no text has, for a generator whose body doesn't use it.
abbrev pub unused_name : Text
unused_name = codes "#"

-- How many members a domain has, counted one by one.
abbrev pub listed_ex : Dom → Ex
listed_ex d = fun1 false Fun.Sum (comp_ex one_ex (over (name_pat unused_name) d no_gens))

-- The number of a numeral.
abbrev pub numeral : Ex → Option ℤ
numeral (number_ex n) = Some n
numeral _ = None

-- Whether the term is this numeral.
abbrev pub is_numeral : ℤ → Ex → Bool
is_numeral k e = is_some_and (numeral e) (λ n. same_int n k)

-- The order of two numerals.
abbrev pub numerals_order : Ex → Ex → Option Ordering
numerals_order a b = and_then (numeral a) (λ m. option_map (λ n. int_cmp m n) (numeral b))

-- How many numbers there are from a to b, where b isn't below a.
abbrev pub span_ex : Ex → Ex → Ex
span_ex a b = if is_numeral (pos 0) a then next_ex b else (if is_numeral (pos 1) a then b else plus_ex (minus_ex one_ex a) b)

-- The same, as far as the order of a and b is known.
abbrev pub span_by : Option Ordering → Ex → Ex → Ex
span_by (Some Less) a b = span_ex a b
span_by (Some Equal) a b = one_ex
span_by (Some Greater) a b = zero_ex
span_by None a b = at_least_0_ex (span_ex a b)

-- How many numbers there are from a to b.
abbrev pub between_ex : Ex → Ex → Ex
between_ex a b = span_by (numerals_order a b) a b

-- An int domain whose one range says that it has both bounds, and has none.
abbrev pub lacks_bounds : Dom → Bool
lacks_bounds (int_dom (both_ends ∷ []) no_exs) = true
lacks_bounds _ = false

-- A bound of a range without bounds, which no text has. It has no meaning.
abbrev pub is_missing : Ex → Bool
is_missing (seen_ex r d ns is) = lacks_bounds d
is_missing _ = false

-- A bound, or 0 for a missing one.
abbrev pub bound_or_0 : Ex → Ex
bound_or_0 e = if is_missing e then zero_ex else e

-- The number of members of an int domain; 0 where they can't be listed.
abbrev pub count_ex : List Ends → Exs → Ex
count_ex (one_value ∷ []) es = one_ex
count_ex (both_ends ∷ []) (more_exs a (more_exs b no_exs)) = between_ex (bound_or_0 a) (bound_or_0 b)
count_ex rs es = if is_bounded rs then listed_ex (int_dom rs es) else zero_ex

-- ---- attributes

-- The number of an attribute.
abbrev pub number_of : Key → List Mark → Exs → Option Ex
number_of k [] es = None
number_of k (flag j ∷ ms) es = number_of k ms es
number_of k (valued j ∷ ms) no_exs = None
number_of k (valued j ∷ ms) (more_exs e es) = if same_key j k then Some e else number_of k ms es

-- `size`, else `maxSize`.
abbrev pub greatest_size_of : List Mark → Exs → Option Ex
greatest_size_of ms es = or_else (number_of Key.Size ms es) (number_of Key.MaxSize ms es)

-- How often a member of a multiset occurs: `maxOccur`, else `size`, else `maxSize`, else 0.
abbrev pub occurrences_ex : List Mark → Exs → Ex
occurrences_ex ms es = or_default (or_else (number_of Key.MaxOccur ms es) (greatest_size_of ms es)) zero_ex

-- ---- bounds

abbrev mutual
  -- The bound of a domain.
  pub bound_ex : Dom → Ex
  bound_ex bool_dom = two_ex
  bound_ex (int_dom rs es) = count_ex rs es
  bound_ex (name_dom a) = listed_ex (name_dom a)
  bound_ex (tuple_dom ds) = product_ex ds
  bound_ex (record_dom fs ds) = product_ex ds
  bound_ex (matrix_dom is d) = power_ex (next_ex (bound_ex d)) (product_ex is)
  bound_ex (set_dom ms es d) = power_ex two_ex (bound_ex d)
  bound_ex (mset_dom ms es d) = power_ex (next_ex (occurrences_ex ms es)) (bound_ex d)
  bound_ex (function_dom ms es d c) = power_ex (next_ex (bound_ex c)) (bound_ex d)
  bound_ex (relation_dom ms es ds) = power_ex two_ex (product_ex ds)
  bound_ex (partition_dom ms es d) = power_ex (next_ex (bound_ex d)) (bound_ex d)

  -- The product of the bounds.
  pub product_ex : Doms → Ex
  product_ex no_doms = one_ex
  product_ex (more_doms d ds) = product_behind (bound_ex d) ds

  -- The product of a term and the bounds.
  pub product_behind : Ex → Doms → Ex
  product_behind e no_doms = e
  product_behind e (more_doms d ds) = product_behind (times_ex e (bound_ex d)) ds

-- The slots of a set or multiset: `size`, else `maxSize`, else the bound of the inner domain, for a multiset as often as a member occurs.
abbrev pub slots_ex : Dom → Ex
slots_ex (set_dom ms es d) = or_default (greatest_size_of ms es) (bound_ex d)
slots_ex (mset_dom ms es d) = or_default (greatest_size_of ms es) (times_ex (occurrences_ex ms es) (bound_ex d))
slots_ex d = zero_ex

-- ---- numbers of atoms

-- One above the last member of an atom that has a dummy.
abbrev pub dummy_ex : Dom → Ex
dummy_ex (int_dom (both_ends ∷ []) (more_exs a (more_exs b no_exs))) = next_ex (bound_or_0 b)
dummy_ex (name_dom a) = next_ex (listed_ex (name_dom a))
dummy_ex d = zero_ex

-- Whether a number lies in one of the ranges.
abbrev pub in_ranges_ex : List Ends → Exs → Ex → Ex
in_ranges_ex (one_value ∷ rs) (more_exs a es) x = or_ex (ex2 true Op2.Eq x a) (in_ranges_ex rs es x)
in_ranges_ex (both_ends ∷ rs) (more_exs a (more_exs b es)) x = or_ex (and_ex (le_ex a x) (le_ex x b)) (in_ranges_ex rs es x)
in_ranges_ex (low_end ∷ rs) (more_exs a es) x = or_ex (le_ex a x) (in_ranges_ex rs es x)
in_ranges_ex (high_end ∷ rs) (more_exs b es) x = or_ex (le_ex x b) (in_ranges_ex rs es x)
in_ranges_ex _ es x = truth_ex false

-- Whether a number is one of the atom's, as a cell of it. Truth values are.
abbrev pub inside_ex : Dom → Ex → Ex
inside_ex (int_dom (r ∷ rs) es) x = in_ranges_ex (r ∷ rs) es x
inside_ex (name_dom a) x = and_ex (le_ex one_ex x) (le_ex x (listed_ex (name_dom a)))
inside_ex d x = truth_ex true

-- The terms that the structure of a view takes from domains.
abbrev pub size_terms : Terms
size_terms = record { slots = slots_ex; atom = inside_ex; dummy = dummy_ex }

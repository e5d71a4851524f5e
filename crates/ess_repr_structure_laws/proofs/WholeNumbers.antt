-- Sizes of domains as terms are whole numbers, where the numbers in the domains are.
use Rattle.std.proofs.Common.{◌≡◌, ap, Bool, true, false, if◌then◌else◌, List, [], ◌∷◌, ℤ, pos, Option, Some, None, option_map}
use Rattle.std.specs.declared.cmp.Ordering.{Ordering}
use Rattle.std.specs.declared.cmp.Ordering.TheVariants.{Less, Equal, Greater}
use Rattle.ess_semantics.specs.declared.words.Op2.{Op2}
use Rattle.ess_semantics.specs.declared.words.Fun.{Fun}
use Rattle.ess_semantics.specs.declared.words.Key.{Key}
use Rattle.ess_semantics.specs.Lists.{or_else, or_default}
use Rattle.ess_semantics.specs.Values.{Value, number}
use Rattle.ess_semantics.specs.Order.{below}
use Rattle.ess_semantics.specs.Numbers.{power_of}
use Rattle.ess_semantics.specs.Operators.{number_in, false_where_undefined, value_of_node, list_value}
use Rattle.ess_semantics.specs.Trees.{binary, word, matrix_literal, Ends, one_value, both_ends, low_end, high_end, Mark, flag, valued, name_pat, Ex, Exs, no_exs, more_exs, no_gens, over, Dom, Doms, bool_dom, int_dom, name_dom, tuple_dom, record_dom, matrix_dom, set_dom, mset_dom, function_dom, relation_dom, partition_dom, no_doms, more_doms}
use Rattle.ess_semantics.specs.Domains.{same_key}
use Rattle.ess_semantics.specs.Kinds.{is_bounded}
use Rattle.ess_semantics.specs.Meaning.{Env, as_int, meaning, items_under}
use Rattle.ess_repr_laws.specs.StructureMeaning.{AllNumbers}
use Rattle.ess_repr_declare_laws.specs.SizeTerms.{zero_ex, one_ex, two_ex, plus_ex, minus_ex, times_ex, power_ex, next_ex, unused_name, listed_ex, is_numeral, numerals_order, span_ex, span_by, between_ex, is_missing, bound_or_0, count_ex, number_of, greatest_size_of, occurrences_ex, bound_ex, product_ex, product_behind, slots_ex}
use Rattle.ess_repr_structure_laws.specs.DomainNumbers.{NumbersIn, AllNumbersIn}

-- A value that is read as a number is that number.
abbrev pub IsWhole : Option Value → Type 0
IsWhole o = (z : ℤ) → as_int o ≡ Some z → o ≡ Some (number z)

-- So is the value of the expression.
abbrev pub WholeEx : Ex → Env → Type 0
WholeEx e env = IsWhole (meaning e env)

number-whole : (n : ℤ) → IsWhole (Some (number n))
number-whole n z h = let q : n ≡ z = cc in ap (λ k. Some (number k)) q

none-whole : IsWhole None
none-whole z h = cc

-- ---- arithmetic

plus-whole : (x y : Option Value) → IsWhole (false_where_undefined false (value_of_node (binary Op2.Plus) (x ∷ y ∷ [])))
plus-whole (Some u) (Some v) = number-whole _
plus-whole (Some u) None = none-whole
plus-whole None (Some v) = none-whole
plus-whole None None = none-whole

times-whole : (x y : Option Value) → IsWhole (false_where_undefined false (value_of_node (binary Op2.Times) (x ∷ y ∷ [])))
times-whole (Some u) (Some v) = number-whole _
times-whole (Some u) None = none-whole
times-whole None (Some v) = none-whole
times-whole None None = none-whole

power-whole : (x y : Option Value) → IsWhole (false_where_undefined false (value_of_node (binary Op2.Pow) (x ∷ y ∷ [])))
power-whole (Some u) (Some v) = go (power_of (number_in u) (number_in v))
  where
    go : (o : Option ℤ) → IsWhole (option_map number o)
    go (Some n) = number-whole n
    go None = none-whole
power-whole (Some u) None = none-whole
power-whole None (Some v) = none-whole
power-whole None None = none-whole

max-whole : (x : Option Value) → IsWhole x →
    IsWhole (false_where_undefined false (value_of_node (word Fun.Max)
    (false_where_undefined false (value_of_node matrix_literal (Some (number (pos 0)) ∷ x ∷ [])) ∷ [])))
max-whole None h = none-whole
max-whole (Some v) h = go (below (number (pos 0)) v)
  where
    go : (b : Bool) → IsWhole (Some (if b then v else number (pos 0)))
    go true = h
    go false = number-whole (pos 0)

sum-whole : (o : Option (List Value)) → IsWhole (false_where_undefined false (value_of_node (word Fun.Sum) (option_map list_value o ∷ [])))
sum-whole (Some xs) = number-whole _
sum-whole None = none-whole

module _ (env : Env) where
  abbrev W : Ex → Type 0
  W e = WholeEx e env

  plus-is : (a b : Ex) → W (plus_ex a b)
  plus-is a b = plus-whole (meaning a env) (meaning b env)

  next-is : (a : Ex) → W (next_ex a)
  next-is a = plus-is a one_ex

  times-is : (a b : Ex) → W (times_ex a b)
  times-is a b = times-whole (meaning a env) (meaning b env)

  power-is : (a b : Ex) → W (power_ex a b)
  power-is a b = power-whole (meaning a env) (meaning b env)

  zero-is : W zero_ex
  zero-is = number-whole (pos 0)

  one-is : W one_ex
  one-is = number-whole (pos 1)

  -- How many members a domain has.
  pub listed-whole : (d : Dom) → W (listed_ex d)
  listed-whole d =
      sum-whole (items_under (over (name_pat unused_name) d no_gens) env (λ here. option_map (λ v. v ∷ []) (meaning one_ex here)))

  -- ---- ranges

  span-is : (a b : Ex) → W b → W (span_ex a b)
  span-is a b h = go (is_numeral (pos 0) a) (is_numeral (pos 1) a)
    where
      go : (s t : Bool) → W (if s then next_ex b else (if t then b else plus_ex (minus_ex one_ex a) b))
      go true t = next-is b
      go false true = h
      go false false = plus-is (minus_ex one_ex a) b

  between-is : (a b : Ex) → W b → W (between_ex a b)
  between-is a b h = go (numerals_order a b)
    where
      go : (o : Option Ordering) → W (span_by o a b)
      go (Some Less) = span-is a b h
      go (Some Equal) = one-is
      go (Some Greater) = zero-is
      go None = max-whole (meaning (span_ex a b) env) (span-is a b h)

  bound-or-0-is : (e : Ex) → W e → W (bound_or_0 e)
  bound-or-0-is e h = go (is_missing e)
    where
      go : (b : Bool) → W (if b then zero_ex else e)
      go true = zero-is
      go false = h

  counted-is : (rs : List Ends) (es : Exs) → W (if is_bounded rs then listed_ex (int_dom rs es) else zero_ex)
  counted-is rs es = go (is_bounded rs)
    where
      go : (b : Bool) → W (if b then listed_ex (int_dom rs es) else zero_ex)
      go true = listed-whole (int_dom rs es)
      go false = zero-is

  count-is : (rs : List Ends) (es : Exs) → AllNumbers es env → W (count_ex rs es)
  count-is [] es h = counted-is [] es
  count-is (one_value ∷ []) es h = one-is
  count-is (both_ends ∷ []) (more_exs a (more_exs b no_exs)) h = between-is (bound_or_0 a) (bound_or_0 b) (bound-or-0-is b h.1.0)
  count-is (both_ends ∷ []) no_exs h = counted-is (both_ends ∷ []) no_exs
  count-is (both_ends ∷ []) (more_exs a no_exs) h = counted-is (both_ends ∷ []) (more_exs a no_exs)
  count-is (both_ends ∷ []) (more_exs a (more_exs b (more_exs c es))) h = counted-is (both_ends ∷ [])
      (more_exs a (more_exs b (more_exs c es)))
  count-is (low_end ∷ []) es h = counted-is (low_end ∷ []) es
  count-is (high_end ∷ []) es h = counted-is (high_end ∷ []) es
  count-is (one_value ∷ r ∷ rs) es h = counted-is (one_value ∷ r ∷ rs) es
  count-is (both_ends ∷ r ∷ rs) es h = counted-is (both_ends ∷ r ∷ rs) es
  count-is (low_end ∷ r ∷ rs) es h = counted-is (low_end ∷ r ∷ rs) es
  count-is (high_end ∷ r ∷ rs) es h = counted-is (high_end ∷ r ∷ rs) es

  -- ---- attributes

  -- The term is whole where it is there.
  abbrev pub WholeOption : Option Ex → Type 0
  WholeOption None = Unit {0}
  WholeOption (Some e) = W e

  -- The number of an attribute.
  pub number-of-whole : (k : Key) (ms : List Mark) (es : Exs) → AllNumbers es env → WholeOption (number_of k ms es)
  number-of-whole k [] es h = tt
  number-of-whole k (flag j ∷ ms) es h = number-of-whole k ms es h
  number-of-whole k (valued j ∷ ms) no_exs h = tt
  number-of-whole k (valued j ∷ ms) (more_exs e es) h = go (same_key j k) (number-of-whole k ms es h.1)
    where
      go : (b : Bool) → WholeOption (number_of k ms es) → WholeOption (if b then Some e else number_of k ms es)
      go true r = h.0
      go false r = r

  else-whole : (o p : Option Ex) → WholeOption o → WholeOption p → WholeOption (or_else o p)
  else-whole None p h k = k
  else-whole (Some e) p h k = h

  default-whole : (o : Option Ex) (e : Ex) → WholeOption o → W e → W (or_default o e)
  default-whole None e h k = k
  default-whole (Some f) e h k = h

  greatest-whole : (ms : List Mark) (es : Exs) → AllNumbers es env → WholeOption (greatest_size_of ms es)
  greatest-whole ms es h =
      else-whole (number_of Key.Size ms es) (number_of Key.MaxSize ms es) (number-of-whole Key.Size ms es h)
      (number-of-whole Key.MaxSize ms es h)

  occurrences-whole : (ms : List Mark) (es : Exs) → AllNumbers es env → W (occurrences_ex ms es)
  occurrences-whole ms es h =
      default-whole (or_else (number_of Key.MaxOccur ms es) (greatest_size_of ms es)) zero_ex
      (else-whole (number_of Key.MaxOccur ms es) (greatest_size_of ms es) (number-of-whole Key.MaxOccur ms es h) (greatest-whole ms es h))
      zero-is

  -- ---- bounds and slots

  mutual
    -- The bound of a domain.
    pub bound-whole : (d : Dom) → NumbersIn d env → W (bound_ex d)
    bound-whole bool_dom h = number-whole (pos 2)
    bound-whole (int_dom rs es) h = count-is rs es h
    bound-whole (name_dom a) h = listed-whole (name_dom a)
    bound-whole (tuple_dom ds) h = product-whole ds h
    bound-whole (record_dom fs ds) h = product-whole ds h
    bound-whole (matrix_dom is d) h = power-is (next_ex (bound_ex d)) (product_ex is)
    bound-whole (set_dom ms es d) h = power-is two_ex (bound_ex d)
    bound-whole (mset_dom ms es d) h = power-is (next_ex (occurrences_ex ms es)) (bound_ex d)
    bound-whole (function_dom ms es d c) h = power-is (next_ex (bound_ex c)) (bound_ex d)
    bound-whole (relation_dom ms es ds) h = power-is two_ex (product_ex ds)
    bound-whole (partition_dom ms es d) h = power-is (next_ex (bound_ex d)) (bound_ex d)

    product-whole : (ds : Doms) → AllNumbersIn ds env → W (product_ex ds)
    product-whole no_doms h = one-is
    product-whole (more_doms d ds) h = behind-whole (bound_ex d) ds (bound-whole d h.0)

    behind-whole : (e : Ex) (ds : Doms) → W e → W (product_behind e ds)
    behind-whole e no_doms h = h
    behind-whole e (more_doms d ds) h = behind-whole (times_ex e (bound_ex d)) ds (times-is e (bound_ex d))

  -- The slots of a set.
  pub set-slots-whole : (ms : List Mark) (es : Exs) (d : Dom) → AllNumbers es env → NumbersIn d env → W (slots_ex (set_dom ms es d))
  set-slots-whole ms es d h k = default-whole (greatest_size_of ms es) (bound_ex d) (greatest-whole ms es h) (bound-whole d k)

  -- Those of a multiset.
  pub mset-slots-whole : (ms : List Mark) (es : Exs) (d : Dom) → AllNumbers es env → NumbersIn d env → W (slots_ex (mset_dom ms es d))
  mset-slots-whole ms es d h k =
      default-whole (greatest_size_of ms es) (times_ex (occurrences_ex ms es) (bound_ex d)) (greatest-whole ms es h)
      (times-is (occurrences_ex ms es) (bound_ex d))

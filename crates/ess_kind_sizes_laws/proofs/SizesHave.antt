-- What the numbers of a domain have, sizes of the domain as terms have: where it passes to sums, products and the like.
use Rattle.std.proofs.Common.{Bool, true, false, if◌then◌else◌, List, [], ◌∷◌, Option, Some, None}
use Rattle.std.specs.declared.cmp.Ordering.{Ordering}
use Rattle.std.specs.declared.cmp.Ordering.TheVariants.{Less, Equal, Greater}
use Rattle.ess_semantics.specs.declared.words.Key.{Key}
use Rattle.ess_semantics.specs.Lists.{or_else, or_default}
use Rattle.ess_semantics.specs.Domains.{same_key}
use Rattle.ess_semantics.specs.Kinds.{is_bounded}
use Rattle.ess_semantics.specs.Trees.{Ends, one_value, both_ends, Mark, flag, valued, Ex, Exs, no_exs, more_exs, Dom, Doms, bool_dom, int_dom, name_dom, tuple_dom, record_dom, matrix_dom, set_dom, mset_dom, function_dom, relation_dom, partition_dom, no_doms, more_doms}
use Rattle.ess_repr_declare_laws.specs.SizeTerms.{zero_ex, one_ex, two_ex, plus_ex, minus_ex, times_ex, power_ex, next_ex, at_least_0_ex, listed_ex, is_numeral, numerals_order, span_ex, span_by, is_missing, bound_or_0, count_ex, number_of, greatest_size_of, occurrences_ex, bound_ex, product_ex, product_behind, slots_ex, dummy_ex}

module _ (P : Ex → Type 0) (L : Dom → Type 0) where
  -- P of the parts of sizes; L of domains that are counted one by one.
  pub record SizeParts : Type 0 where
    pub zero : P zero_ex
    pub one : P one_ex
    pub two : P two_ex
    pub sums : (a b : Ex) → P a → P b → P (plus_ex a b)
    pub differences : (a b : Ex) → P a → P b → P (minus_ex a b)
    pub products : (a b : Ex) → P a → P b → P (times_ex a b)
    pub powers : (a b : Ex) → P a → P b → P (power_ex a b)
    pub most : (a : Ex) → P a → P (at_least_0_ex a)
    pub listed : (d : Dom) → L d → P (listed_ex d)

  -- P of each.
  abbrev pub AllHave : Exs → Type 0
  AllHave no_exs = Unit {0}
  AllHave (more_exs e es) = P e × AllHave es

  abbrev mutual
    -- P of each number of the domain, at each depth, and L of atoms.
    pub NumbersHave : Dom → Type 0
    NumbersHave bool_dom = Unit {0}
    NumbersHave (int_dom rs es) = AllHave es × L (int_dom rs es)
    NumbersHave (name_dom a) = L (name_dom a)
    NumbersHave (tuple_dom ds) = AllNumbersHave ds
    NumbersHave (record_dom fs ds) = AllNumbersHave ds
    NumbersHave (matrix_dom is d) = AllNumbersHave is × NumbersHave d
    NumbersHave (set_dom ms es d) = AllHave es × NumbersHave d
    NumbersHave (mset_dom ms es d) = AllHave es × NumbersHave d
    NumbersHave (function_dom ms es d c) = AllHave es × NumbersHave d × NumbersHave c
    NumbersHave (relation_dom ms es ds) = AllHave es × AllNumbersHave ds
    NumbersHave (partition_dom ms es d) = AllHave es × NumbersHave d

    -- The same of several domains.
    pub AllNumbersHave : Doms → Type 0
    AllNumbersHave no_doms = Unit {0}
    AllNumbersHave (more_doms d ds) = NumbersHave d × AllNumbersHave ds

  -- P, where it is there.
  abbrev pub MayHave : Option Ex → Type 0
  MayHave None = Unit {0}
  MayHave (Some e) = P e

  -- The number of an attribute has it, if there is one.
  pub number-has : (k : Key) (ms : List Mark) (es : Exs) → AllHave es → MayHave (number_of k ms es)
  number-has k [] es h = tt
  number-has k (flag j ∷ ms) es h = number-has k ms es h
  number-has k (valued j ∷ ms) no_exs h = tt
  number-has k (valued j ∷ ms) (more_exs e es) h = go (same_key j k) (number-has k ms es h.1)
    where
      go : (b : Bool) → MayHave (number_of k ms es) → MayHave (if b then Some e else number_of k ms es)
      go true r = h.0
      go false r = r

  -- One of two that are there.
  pub else-has : (o p : Option Ex) → MayHave o → MayHave p → MayHave (or_else o p)
  else-has None p h k = k
  else-has (Some e) p h k = h

  -- What is there, else what stands for it.
  pub default-has : (o : Option Ex) (e : Ex) → MayHave o → P e → P (or_default o e)
  default-has None e h k = k
  default-has (Some f) e h k = h

  -- The greatest size that is given, if there is one.
  pub greatest-has : (ms : List Mark) (es : Exs) → AllHave es → MayHave (greatest_size_of ms es)
  greatest-has ms es h =
      else-has (number_of Key.Size ms es) (number_of Key.MaxSize ms es) (number-has Key.Size ms es h) (number-has Key.MaxSize ms es h)

  module _ (p : SizeParts) where
    next-has : (a : Ex) → P a → P (next_ex a)
    next-has a h = p.sums a one_ex h p.one

    span-has : (a b : Ex) → P a → P b → P (span_ex a b)
    span-has a b g h = go (is_numeral _ a) (is_numeral _ a)
      where
        go : (x y : Bool) → P (if x then next_ex b else (if y then b else plus_ex (minus_ex one_ex a) b))
        go true y = next-has b h
        go false true = h
        go false false = p.sums (minus_ex one_ex a) b (p.differences one_ex a p.one g) h

    ordered-has : (o : Option Ordering) (a b : Ex) → P a → P b → P (span_by o a b)
    ordered-has (Some Less) a b g h = span-has a b g h
    ordered-has (Some Equal) a b g h = p.one
    ordered-has (Some Greater) a b g h = p.zero
    ordered-has None a b g h = p.most (span_ex a b) (span-has a b g h)

    end-has : (e : Ex) → P e → P (bound_or_0 e)
    end-has e h = go (is_missing e)
      where
        go : (b : Bool) → P (if b then zero_ex else e)
        go true = p.zero
        go false = h

    listed-if : (b : Bool) (rs : List Ends) (es : Exs) → L (int_dom rs es) → P (if b then listed_ex (int_dom rs es) else zero_ex)
    listed-if true rs es l = p.listed (int_dom rs es) l
    listed-if false rs es l = p.zero

    count-has : (rs : List Ends) (es : Exs) → AllHave es → L (int_dom rs es) → P (count_ex rs es)
    count-has (one_value ∷ []) es h l = p.one
    count-has (both_ends ∷ []) (more_exs x (more_exs y no_exs)) h l =
        ordered-has (numerals_order (bound_or_0 x) (bound_or_0 y)) (bound_or_0 x) (bound_or_0 y) (end-has x h.0) (end-has y h.1.0)
    count-has rs es h l = listed-if (is_bounded rs) rs es l

    -- How often a member of a multiset occurs.
    pub occurrences-have : (ms : List Mark) (es : Exs) → AllHave es → P (occurrences_ex ms es)
    occurrences-have ms es h =
        default-has (or_else (number_of Key.MaxOccur ms es) (greatest_size_of ms es)) zero_ex
        (else-has (number_of Key.MaxOccur ms es) (greatest_size_of ms es) (number-has Key.MaxOccur ms es h) (greatest-has ms es h)) p.zero

    mutual
      -- The bound of a domain.
      pub bound-has : (d : Dom) → NumbersHave d → P (bound_ex d)
      bound-has bool_dom h = p.two
      bound-has (int_dom rs es) h = count-has rs es h.0 h.1
      bound-has (name_dom a) h = p.listed (name_dom a) h
      bound-has (tuple_dom ds) h = product-has ds h
      bound-has (record_dom fs ds) h = product-has ds h
      bound-has (matrix_dom is d) h =
          p.powers (next_ex (bound_ex d)) (product_ex is) (next-has (bound_ex d) (bound-has d h.1)) (product-has is h.0)
      bound-has (set_dom ms es d) h = p.powers two_ex (bound_ex d) p.two (bound-has d h.1)
      bound-has (mset_dom ms es d) h =
          p.powers (next_ex (occurrences_ex ms es)) (bound_ex d) (next-has (occurrences_ex ms es) (occurrences-have ms es h.0))
          (bound-has d h.1)
      bound-has (function_dom ms es d c) h =
          p.powers (next_ex (bound_ex c)) (bound_ex d) (next-has (bound_ex c) (bound-has c h.2)) (bound-has d h.1)
      bound-has (relation_dom ms es ds) h = p.powers two_ex (product_ex ds) p.two (product-has ds h.1)
      bound-has (partition_dom ms es d) h =
          p.powers (next_ex (bound_ex d)) (bound_ex d) (next-has (bound_ex d) (bound-has d h.1)) (bound-has d h.1)

      product-has : (ds : Doms) → AllNumbersHave ds → P (product_ex ds)
      product-has no_doms h = p.one
      product-has (more_doms d ds) h = behind-has (bound_ex d) ds (bound-has d h.0) h.1

      behind-has : (e : Ex) (ds : Doms) → P e → AllNumbersHave ds → P (product_behind e ds)
      behind-has e no_doms h k = h
      behind-has e (more_doms d ds) h k = behind-has (times_ex e (bound_ex d)) ds (p.products e (bound_ex d) h (bound-has d k.0)) k.1

    -- The slots of a set.
    pub set-slots-have : (ms : List Mark) (es : Exs) (d : Dom) → AllHave es → NumbersHave d → P (slots_ex (set_dom ms es d))
    set-slots-have ms es d h k = default-has (greatest_size_of ms es) (bound_ex d) (greatest-has ms es h) (bound-has d k)

    -- Those of a multiset.
    pub mset-slots-have : (ms : List Mark) (es : Exs) (d : Dom) → AllHave es → NumbersHave d → P (slots_ex (mset_dom ms es d))
    mset-slots-have ms es d h k =
        default-has (greatest_size_of ms es) (times_ex (occurrences_ex ms es) (bound_ex d)) (greatest-has ms es h)
        (p.products (occurrences_ex ms es) (bound_ex d) (occurrences-have ms es h) (bound-has d k))

    -- The dummy of an atom.
    pub dummy-has : (d : Dom) → NumbersHave d → P (dummy_ex d)
    dummy-has (int_dom (both_ends ∷ []) (more_exs a (more_exs b no_exs))) h = next-has (bound_or_0 b) (end-has b h.0.1.0)
    dummy-has (name_dom a) h = next-has (listed_ex (name_dom a)) (p.listed (name_dom a) h)
    dummy-has _ h = p.zero

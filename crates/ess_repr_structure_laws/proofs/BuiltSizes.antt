-- Sizes as terms are built of what has a property.
use Rattle.std.proofs.Common.{◌≡◌, refl, Bool, true, false, if◌then◌else◌, List, [], ◌∷◌, pos, Option, Some, None}
use Rattle.std.specs.declared.cmp.Ordering.{Ordering}
use Rattle.std.specs.declared.cmp.Ordering.TheVariants.{Less, Equal, Greater}
use Rattle.ess_semantics.specs.declared.words.Op2.{Op2}
use Rattle.ess_semantics.specs.Kinds.{is_bounded}
use Rattle.ess_semantics.specs.Trees.{Ends, one_value, both_ends, Op, binary, Ex, Exs, node_ex, no_exs, more_exs, Dom, Doms, bool_dom, int_dom, name_dom, tuple_dom, record_dom, matrix_dom, set_dom, mset_dom, function_dom, relation_dom, partition_dom, no_doms, more_doms, ex2}
use Rattle.ess_repr_declare_laws.specs.SizeTerms.{zero_ex, one_ex, two_ex, plus_ex, minus_ex, times_ex, power_ex, next_ex, at_least_0_ex, listed_ex, is_numeral, numerals_order, span_ex, span_by, is_missing, bound_or_0, count_ex, occurrences_ex, bound_ex, product_ex, product_behind}
use Rattle.ess_repr_structure_laws.proofs.BuiltStructures as B
use Rattle.ess_repr_structure_laws.proofs.PickedNumbers.{occurrences-may}
use Rattle.ess_repr_structure_laws.proofs.BuiltStructures.{counts_nothing}

-- What sizes are built of has the property.
pub record SizesOf (P : Ex → Type 0) : Type 0 where
  pub zero : P zero_ex
  pub one : P one_ex
  pub two : P two_ex
  pub nodes : (b : Bool) (op : Op) (es : Exs) → counts_nothing op ≡ true → B.AllHave P es → P (node_ex b op es)
  pub most : (a : Ex) → P a → P (at_least_0_ex a)
  pub listed : (d : Dom) → B.DomHas P d → P (listed_ex d)

module _ (P : Ex → Type 0) (L : Dom → Type 0) (sizes : SizesOf P) where
  two-have : (o : Op2) (a b : Ex) → P a → P b → P (ex2 false o a b)
  two-have o a b g h = sizes.nodes false (binary o) (more_exs a (more_exs b no_exs)) refl (g, (h, tt))

  next-has : (a : Ex) → P a → P (next_ex a)
  next-has a h = two-have Op2.Plus a one_ex h sizes.one

  span-has : (a b : Ex) → P a → P b → P (span_ex a b)
  span-has a b g h = go (is_numeral (pos 0) a) (is_numeral (pos 1) a)
    where
      go : (x y : Bool) → P (if x then next_ex b else (if y then b else plus_ex (minus_ex one_ex a) b))
      go true y = next-has b h
      go false true = h
      go false false = two-have Op2.Plus (minus_ex one_ex a) b (two-have Op2.Minus one_ex a sizes.one g) h

  ordered-has : (o : Option Ordering) (a b : Ex) → P a → P b → P (span_by o a b)
  ordered-has (Some Less) a b g h = span-has a b g h
  ordered-has (Some Equal) a b g h = sizes.one
  ordered-has (Some Greater) a b g h = sizes.zero
  ordered-has None a b g h = sizes.most (span_ex a b) (span-has a b g h)

  end-has : (e : Ex) → P e → P (bound_or_0 e)
  end-has e h = go (is_missing e)
    where
      go : (b : Bool) → P (if b then zero_ex else e)
      go true = sizes.zero
      go false = h

  listed-if : (b : Bool) (rs : List Ends) (es : Exs) → B.AllHave P es → P (if b then listed_ex (int_dom rs es) else zero_ex)
  listed-if true rs es a = sizes.listed (int_dom rs es) a
  listed-if false rs es a = sizes.zero

  count-has : (rs : List Ends) (es : Exs) → B.AllHave P es → P (count_ex rs es)
  count-has (one_value ∷ []) es a = sizes.one
  count-has (both_ends ∷ []) (more_exs x (more_exs y no_exs)) a =
      ordered-has (numerals_order (bound_or_0 x) (bound_or_0 y)) (bound_or_0 x) (bound_or_0 y) (end-has x a.0) (end-has y a.1.0)
  count-has rs es a = listed-if (is_bounded rs) rs es a

  power-has : (a b : Ex) → P a → P b → P (power_ex a b)
  power-has a b g h = two-have Op2.Pow a b g h

  mutual
    -- The bound of a domain.
    pub bound-has : (d : Dom) → B.Good P L d → P (bound_ex d)
    bound-has bool_dom g = sizes.two
    bound-has (int_dom rs es) g = count-has rs es g.1
    bound-has (name_dom a) g = sizes.listed (name_dom a) tt
    bound-has (tuple_dom ds) g = product-has ds g
    bound-has (record_dom fs ds) g = product-has ds g
    bound-has (matrix_dom is d) g = power-has (next_ex (bound_ex d)) (product_ex is) (next-has (bound_ex d) (bound-has d g.1))
        (product-has is g.0)
    bound-has (set_dom ms es d) g = power-has two_ex (bound_ex d) sizes.two (bound-has d g.1)
    bound-has (mset_dom ms es d) g =
        power-has (next_ex (occurrences_ex ms es)) (bound_ex d) (next-has (occurrences_ex ms es) (occurrences-may P ms es g.1 sizes.zero))
        (bound-has d g.2)
    bound-has (function_dom ms es d c) g = power-has (next_ex (bound_ex c)) (bound_ex d) (next-has (bound_ex c) (bound-has c g.2))
        (bound-has d g.1)
    bound-has (relation_dom ms es ds) g = power-has two_ex (product_ex ds) sizes.two (product-has ds g.1)
    bound-has (partition_dom ms es d) g = power-has (next_ex (bound_ex d)) (bound_ex d) (next-has (bound_ex d) (bound-has d g.1))
        (bound-has d g.1)

    product-has : (ds : Doms) → B.AllGood P L ds → P (product_ex ds)
    product-has no_doms g = sizes.one
    product-has (more_doms d ds) g = behind-has (bound_ex d) ds (bound-has d g.0) g.1

    behind-has : (e : Ex) (ds : Doms) → P e → B.AllGood P L ds → P (product_behind e ds)
    behind-has e no_doms h g = h
    behind-has e (more_doms d ds) h g = behind-has (times_ex e (bound_ex d)) ds (two-have Op2.Times e (bound_ex d) h (bound-has d g.0)) g.1

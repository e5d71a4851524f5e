-- Each part of the size of a domain as a term has a value, where the domain denotes one without attribute values below 0 and its own parts
-- have values.
use Rattle.std.specs.Prelude.{IsTrue, is_some}
use Rattle.std.specs.declared.cmp.Ordering.{Ordering}
use Rattle.std.specs.declared.cmp.Ordering.TheVariants.{Less, Equal, Greater}
use Rattle.std.proofs.Common.{◌≡◌, refl, ap, ◌∙◌, Bool, true, false, ◌&&◌, if◌then◌else◌, List, [], ◌∷◌, ℤ, pos, Option, Some, None, option_map}
use Rattle.ess_semantics.specs.declared.words.Op2.{Op2}
use Rattle.ess_semantics.specs.declared.words.Fun.{Fun}
use Rattle.ess_semantics.specs.declared.words.Key.{Key}
use Rattle.ess_semantics.specs.Lists.{and_then, or_else}
use Rattle.ess_semantics.specs.Values.{Value, number, truth, item, node}
use Rattle.ess_semantics.specs.Kinds.{is_bounded}
use Rattle.ess_semantics.specs.Domains.{Domain, Domains, tuples, records, matrices, sets, msets, functions, relations, partitions, more_domains}
use Rattle.ess_semantics.specs.Membership.{no_negative_attribute, each_layer_of_all}
use Rattle.ess_semantics.specs.Operators.{false_where_undefined, value_of_node, list_value}
use Rattle.ess_semantics.specs.Sizes.{bound}
use Rattle.ess_semantics.specs.Trees.{binary, word, matrix_literal, Ends, one_value, both_ends, Mark, name_pat, Ex, Exs, no_exs, more_exs, no_gens, over, Dom, Doms, bool_dom, int_dom, name_dom, tuple_dom, record_dom, matrix_dom, set_dom, mset_dom, function_dom, relation_dom, partition_dom, no_doms, more_doms}
use Rattle.ess_semantics.specs.Contexts.{Each, EachOf}
use Rattle.ess_semantics.specs.Meaning.{Env, as_int, meaning, meanings, items_under, attributes_of, domain_of, domains_of, members_in}
use Rattle.ess_semantics.proofs.Tests.{and-left, and-right}
use Rattle.ess_repr_declare_laws.specs.SizeTerms.{zero_ex, one_ex, two_ex, plus_ex, minus_ex, times_ex, power_ex, next_ex, at_least_0_ex, unused_name, listed_ex, is_numeral, numerals_order, span_ex, span_by, is_missing, bound_or_0, count_ex, number_of, greatest_size_of, occurrences_ex, bound_ex, product_ex, product_behind, slots_ex, dummy_ex}
use Rattle.ess_repr_declare_laws.proofs.Readings.{Reads}
use Rattle.ess_repr_declare_laws.proofs.SizeNumbers.{mapped, chained, not_below}
use Rattle.ess_repr_declare_laws.proofs.IntSizes.{name-reads}
use Rattle.ess_repr_declare_laws.proofs.SizeMeaning.{Plain, AllPlain, bound-is}
use Rattle.ess_values_along_laws.specs.Valued.{Valued, AllValued, DomValued, DomsValued}
use Rattle.ess_values_along_laws.proofs.ValuesAlong.{values-along}
use Rattle.ess_kind_sizes_laws.proofs.SizesHave.{AllHave, number-has, else-has, default-has, greatest-has}

-- ---- values that are there

-- What is read is there.
read-there : (o : Option Value) (z : ℤ) → as_int o ≡ Some z → IsTrue (is_some o)
read-there None z h = cc
read-there (Some v) z h = refl

-- An operator on two values that are there.
abbrev on_two : Op2 → Option Value → Option Value → Option Value
on_two o x y = false_where_undefined false (value_of_node (binary o) (x ∷ y ∷ []))

plus-there : (x y : Option Value) → IsTrue (is_some x) → IsTrue (is_some y) → IsTrue (is_some (on_two Op2.Plus x y))
plus-there None y h k = cc
plus-there (Some u) None h k = cc
plus-there (Some u) (Some v) h k = refl

minus-there : (x y : Option Value) → IsTrue (is_some x) → IsTrue (is_some y) → IsTrue (is_some (on_two Op2.Minus x y))
minus-there None y h k = cc
minus-there (Some u) None h k = cc
minus-there (Some (number n)) (Some v) h k = refl
minus-there (Some (truth b)) (Some v) h k = refl
minus-there (Some (item t j)) (Some v) h k = refl
minus-there (Some (node j xs)) (Some v) h k = refl

times-there : (x y : Option Value) → IsTrue (is_some x) → IsTrue (is_some y) → IsTrue (is_some (on_two Op2.Times x y))
times-there None y h k = cc
times-there (Some u) None h k = cc
times-there (Some u) (Some v) h k = refl

-- The greater of 0 and a value.
abbrev listed_two : Option Value → Option Value
listed_two o = false_where_undefined false (value_of_node matrix_literal (Some (number (pos 0)) ∷ o ∷ []))

list-there : (o : Option Value) → IsTrue (is_some o) → IsTrue (is_some (listed_two o))
list-there None h = cc
list-there (Some v) h = refl

most-there : (o : Option Value) → IsTrue (is_some o) →
    IsTrue (is_some (false_where_undefined false (value_of_node (word Fun.Max) (listed_two o ∷ []))))
most-there None h = cc
most-there (Some v) h = refl

-- A sum is that of a list that is there.
sum-there : (o : Option (List Value)) →
    IsTrue (is_some (false_where_undefined false (value_of_node (word Fun.Sum) (option_map list_value o ∷ [])))) →
    IsTrue (is_some (option_map list_value o))
sum-there None h = cc
sum-there (Some xs) h = refl

each-any : (vs : List Value) (P : Value → Type 0) → ((v : Value) → P v) → Each vs P
each-any [] P h = tt
each-any (v ∷ vs) P h = (h v, each-any vs P h)

each-of-any : (o : Option (List Value)) (P : Value → Type 0) → ((v : Value) → P v) → EachOf o P
each-of-any None P h = tt
each-of-any (Some vs) P h = each-any vs P h

module _ (env : Env) where
  -- Each part of the expression has a value, in no natural place.
  abbrev pub V : Ex → Type 0
  V e = Valued false e env

  -- And each of a domain.
  abbrev pub AnyDom : Dom → Type 0
  AnyDom d = Unit {0}

  value-of : (e : Ex) → V e → IsTrue (is_some (meaning e env))
  value-of e h = values-along.value false e env refl h

  each-valued : (es : Exs) → AllValued false false es env → AllHave V AnyDom es
  each-valued no_exs h = tt
  each-valued (more_exs e es) h = (h.0, each-valued es h.1)

  -- ---- operators

  plus-valued : (a b : Ex) → V a → V b → V (plus_ex a b)
  plus-valued a b h k = (plus-there (meaning a env) (meaning b env) (value-of a h) (value-of b k), (h, (k, tt)))

  minus-valued : (a b : Ex) → V a → V b → V (minus_ex a b)
  minus-valued a b h k = (minus-there (meaning a env) (meaning b env) (value-of a h) (value-of b k), (h, (k, tt)))

  times-valued : (a b : Ex) → V a → V b → V (times_ex a b)
  times-valued a b h k = (times-there (meaning a env) (meaning b env) (value-of a h) (value-of b k), (h, (k, tt)))

  next-valued : (a : Ex) → V a → V (next_ex a)
  next-valued a h = plus-valued a one_ex h tt

  -- A power that reads a number.
  power-valued : (a b : Ex) (z : ℤ) → Reads (power_ex a b) env z → V a → V b → V (power_ex a b)
  power-valued a b z q h k = (read-there (meaning (power_ex a b) env) z q, (h, (k, tt)))

  most-valued : (a : Ex) → V a → V (at_least_0_ex a)
  most-valued a h =
      (most-there (meaning a env) (value-of a h), ((list-there (meaning a env) (value-of a h), (tt, (h, tt))), tt))

  -- A number of members that is read.
  listed-valued : (d : Dom) (z : ℤ) → Reads (listed_ex d) env z → DomValued d env → V (listed_ex d)
  listed-valued d z q h = (
    read-there (meaning (listed_ex d) env) z q,
    (
      (
        sum-there (items_under (over (name_pat unused_name) d no_gens) env (λ here. option_map (λ v. v ∷ []) (meaning one_ex here)))
            (read-there (meaning (listed_ex d) env) z q),
        (h, each-of-any (members_in (domain_of d env)) (λ v. Unit {0}) (λ v. tt)),
      ),
      tt,
    ),
  )

  -- ---- ranges

  span-valued : (a b : Ex) → V a → V b → V (span_ex a b)
  span-valued a b g h = go (is_numeral (pos 0) a) (is_numeral (pos 1) a)
    where
      go : (x y : Bool) → V (if x then next_ex b else (if y then b else plus_ex (minus_ex one_ex a) b))
      go true y = next-valued b h
      go false true = h
      go false false = plus-valued (minus_ex one_ex a) b (minus-valued one_ex a tt g) h

  ordered-valued : (o : Option Ordering) (a b : Ex) → V a → V b → V (span_by o a b)
  ordered-valued (Some Less) a b g h = span-valued a b g h
  ordered-valued (Some Equal) a b g h = tt
  ordered-valued (Some Greater) a b g h = tt
  ordered-valued None a b g h = most-valued (span_ex a b) (span-valued a b g h)

  end-valued : (e : Ex) → V e → V (bound_or_0 e)
  end-valued e h = go (is_missing e)
    where
      go : (b : Bool) → V (if b then zero_ex else e)
      go true = tt
      go false = h

  listed-if : (b : Bool) (rs : List Ends) (es : Exs) (z : ℤ) → Reads (if b then listed_ex (int_dom rs es) else zero_ex) env z →
      AllValued false false es env → V (if b then listed_ex (int_dom rs es) else zero_ex)
  listed-if true rs es z q h = listed-valued (int_dom rs es) z q h
  listed-if false rs es z q h = tt

  count-valued : (rs : List Ends) (es : Exs) (z : ℤ) → Reads (count_ex rs es) env z → AllValued false false es env → V (count_ex rs es)
  count-valued (one_value ∷ []) es z q h = tt
  count-valued (both_ends ∷ []) (more_exs x (more_exs y no_exs)) z q h =
      ordered-valued (numerals_order (bound_or_0 x) (bound_or_0 y)) (bound_or_0 x) (bound_or_0 y) (end-valued x h.0) (end-valued y h.1.0)
  count-valued rs es z q h = listed-if (is_bounded rs) rs es z q h

  -- ---- bounds

  occurrences-valued : (ms : List Mark) (es : Exs) → AllValued false false es env → V (occurrences_ex ms es)
  occurrences-valued ms es h =
      default-has V AnyDom (or_else (number_of Key.MaxOccur ms es) (greatest_size_of ms es)) zero_ex
      (else-has V AnyDom (number_of Key.MaxOccur ms es) (greatest_size_of ms es) (number-has V AnyDom Key.MaxOccur ms es (each-valued es h))
      (greatest-has V AnyDom ms es (each-valued es h))) tt

  mutual
    -- The bound of a domain.
    pub bound-valued : (d : Dom) (e : Domain) → domain_of d env ≡ Some e → Plain e → DomValued d env → V (bound_ex d)
    bound-valued bool_dom e h n v = tt
    bound-valued (int_dom rs es) e h n v = count-valued rs es (pos (bound e)) (bound-is env (int_dom rs es) e h n) v
    bound-valued (name_dom a) e h n v = listed-valued (name_dom a) (pos (bound e)) (name-reads env a e h) tt
    bound-valued (tuple_dom ds) e h n v =
        let m = mapped tuples (domains_of ds env) e h in product-valued ds m.0 m.1 (ap no_negative_attribute m.2 ∙ n) v
    bound-valued (record_dom fs ds) e h n v =
        let m = mapped (records fs) (domains_of ds env) e h in product-valued ds m.0 m.1 (ap no_negative_attribute m.2 ∙ n) v
    bound-valued (matrix_dom is d) e h n v =
        let c = chained (domains_of is env) (λ js. option_map (matrices js) (domain_of d env)) e h in
        let m = mapped (matrices c.0) (domain_of d env) e c.2 in
        let p : each_layer_of_all not_below c.0 && no_negative_attribute m.0 ≡ true = ap no_negative_attribute m.2 ∙ n in
        power-valued (next_ex (bound_ex d)) (product_ex is) (pos (bound e)) (bound-is env (matrix_dom is d) e h n)
        (next-valued (bound_ex d) (bound-valued d m.0 m.1 (and-right (each_layer_of_all not_below c.0) (no_negative_attribute m.0) p) v.1))
        (product-valued is c.0 c.1 (and-left (each_layer_of_all not_below c.0) (no_negative_attribute m.0) p) v.0)
    bound-valued (set_dom ms es d) e h n v =
        let c = chained (attributes_of ms (meanings es env)) (λ ks. option_map (sets ks) (domain_of d env)) e h in
        let m = mapped (sets c.0) (domain_of d env) e c.2 in
        let p : not_below c.0 && no_negative_attribute m.0 ≡ true = ap no_negative_attribute m.2 ∙ n in
        power-valued two_ex (bound_ex d) (pos (bound e)) (bound-is env (set_dom ms es d) e h n) tt
        (bound-valued d m.0 m.1 (and-right (not_below c.0) (no_negative_attribute m.0) p) v.1)
    bound-valued (mset_dom ms es d) e h n v =
        let c = chained (attributes_of ms (meanings es env)) (λ ks. option_map (msets ks) (domain_of d env)) e h in
        let m = mapped (msets c.0) (domain_of d env) e c.2 in
        let p : not_below c.0 && no_negative_attribute m.0 ≡ true = ap no_negative_attribute m.2 ∙ n in
        power-valued (next_ex (occurrences_ex ms es)) (bound_ex d) (pos (bound e)) (bound-is env (mset_dom ms es d) e h n)
        (next-valued (occurrences_ex ms es) (occurrences-valued ms es v.0))
        (bound-valued d m.0 m.1 (and-right (not_below c.0) (no_negative_attribute m.0) p) v.1)
    bound-valued (function_dom ms es d c) e h n v =
        let k = chained (attributes_of ms (meanings es env)) (λ ks. and_then (domain_of d env)
        (λ x. option_map (functions ks x) (domain_of c env))) e h in
        let x = chained (domain_of d env) (λ x. option_map (functions k.0 x) (domain_of c env)) e k.2 in
        let y = mapped (functions k.0 x.0) (domain_of c env) e x.2 in
        let p : (not_below k.0 && no_negative_attribute x.0) && no_negative_attribute y.0 ≡ true = ap no_negative_attribute y.2 ∙ n in
        let q : not_below k.0 && no_negative_attribute x.0 ≡ true = and-left (not_below k.0 && no_negative_attribute x.0)
        (no_negative_attribute y.0) p in
        power-valued (next_ex (bound_ex c)) (bound_ex d) (pos (bound e)) (bound-is env (function_dom ms es d c) e h n)
        (next-valued (bound_ex c) (bound-valued c y.0 y.1 (and-right (not_below k.0 && no_negative_attribute x.0)
        (no_negative_attribute y.0) p) v.2))
        (bound-valued d x.0 x.1 (and-right (not_below k.0) (no_negative_attribute x.0) q) v.1)
    bound-valued (relation_dom ms es ds) e h n v =
        let c = chained (attributes_of ms (meanings es env)) (λ ks. option_map (relations ks) (domains_of ds env)) e h in
        let m = mapped (relations c.0) (domains_of ds env) e c.2 in
        let p : not_below c.0 && each_layer_of_all not_below m.0 ≡ true = ap no_negative_attribute m.2 ∙ n in
        power-valued two_ex (product_ex ds) (pos (bound e)) (bound-is env (relation_dom ms es ds) e h n) tt
        (product-valued ds m.0 m.1 (and-right (not_below c.0) (each_layer_of_all not_below m.0) p) v.1)
    bound-valued (partition_dom ms es d) e h n v =
        let c = chained (attributes_of ms (meanings es env)) (λ ks. option_map (partitions ks) (domain_of d env)) e h in
        let m = mapped (partitions c.0) (domain_of d env) e c.2 in
        let p : not_below c.0 && no_negative_attribute m.0 ≡ true = ap no_negative_attribute m.2 ∙ n in
        let b = bound-valued d m.0 m.1 (and-right (not_below c.0) (no_negative_attribute m.0) p) v.1 in
        power-valued (next_ex (bound_ex d)) (bound_ex d) (pos (bound e)) (bound-is env (partition_dom ms es d) e h n)
        (next-valued (bound_ex d) b) b

    product-valued : (ds : Doms) (es : Domains) → domains_of ds env ≡ Some es → AllPlain es → DomsValued ds env → V (product_ex ds)
    product-valued no_doms es h n v = tt
    product-valued (more_doms d ds) es h n v =
        let c = chained (domain_of d env) (λ x. option_map (more_domains x) (domains_of ds env)) es h in
        let m = mapped (more_domains c.0) (domains_of ds env) es c.2 in
        let p : no_negative_attribute c.0 && each_layer_of_all not_below m.0 ≡ true = ap (each_layer_of_all not_below) m.2 ∙ n in
        behind-valued ds m.0 (bound_ex d) m.1 (and-right (no_negative_attribute c.0) (each_layer_of_all not_below m.0) p)
        (bound-valued d c.0 c.1 (and-left (no_negative_attribute c.0) (each_layer_of_all not_below m.0) p) v.0) v.1

    behind-valued : (ds : Doms) (es : Domains) (t : Ex) → domains_of ds env ≡ Some es → AllPlain es → V t → DomsValued ds env →
        V (product_behind t ds)
    behind-valued no_doms es t h n k v = k
    behind-valued (more_doms d ds) es t h n k v =
        let c = chained (domain_of d env) (λ x. option_map (more_domains x) (domains_of ds env)) es h in
        let m = mapped (more_domains c.0) (domains_of ds env) es c.2 in
        let p : no_negative_attribute c.0 && each_layer_of_all not_below m.0 ≡ true = ap (each_layer_of_all not_below) m.2 ∙ n in
        behind-valued ds m.0 (times_ex t (bound_ex d)) m.1 (and-right (no_negative_attribute c.0) (each_layer_of_all not_below m.0) p)
        (times-valued t (bound_ex d) k (bound-valued d c.0 c.1
        (and-left (no_negative_attribute c.0) (each_layer_of_all not_below m.0) p) v.0))
        v.1

  -- The slots of a set.
  pub slots-valued : (ms : List Mark) (es : Exs) (d : Dom) (e : Domain) → domain_of d env ≡ Some e → Plain e →
      DomValued (set_dom ms es d) env → V (slots_ex (set_dom ms es d))
  slots-valued ms es d e h n v =
      default-has V AnyDom (greatest_size_of ms es) (bound_ex d) (greatest-has V AnyDom ms es (each-valued es v.0))
      (bound-valued d e h n v.1)

  -- A dummy.
  pub dummy-valued : (d : Dom) (e : Domain) → domain_of d env ≡ Some e → DomValued d env → V (dummy_ex d)
  dummy-valued (int_dom (both_ends ∷ []) (more_exs a (more_exs b no_exs))) e h v = next-valued (bound_or_0 b) (end-valued b v.1.0)
  dummy-valued (name_dom a) e h v =
      next-valued (listed_ex (name_dom a)) (listed-valued (name_dom a) (pos (bound e)) (name-reads env a e h) tt)
  dummy-valued _ e h v = tt

-- Sizes of domains, and the domains of what values are kept as, are fixed where the domains are. They bind one name, which no text has.
use Rattle.std.proofs.Common.{◌≡◌, refl, Bool, true, false, ◌&&◌, ◌||◌, if◌then◌else◌, List, [], ◌∷◌, pos, Option, Some, None}
use Rattle.std.specs.declared.cmp.Ordering.{Ordering}
use Rattle.std.specs.declared.cmp.Ordering.TheVariants.{Less, Equal, Greater}
use Rattle.ess_semantics.specs.declared.words.Op2.{Op2}
use Rattle.ess_semantics.specs.declared.words.Key.{Key}
use Rattle.ess_semantics.specs.Lists.{or_else, or_default}
use Rattle.ess_semantics.specs.Values.{Text}
use Rattle.ess_semantics.specs.Domains.{same_key}
use Rattle.ess_semantics.specs.Kinds.{is_bounded, has_key}
use Rattle.ess_semantics.specs.Trees.{Ends, one_value, both_ends, Mark, flag, valued, Ex, Exs, no_exs, more_exs, Dom, Doms, bool_dom, int_dom, name_dom, tuple_dom, record_dom, matrix_dom, set_dom, mset_dom, function_dom, relation_dom, partition_dom, no_doms, more_doms, ex2}
use Rattle.ess_semantics.proofs.Tests.{and-left, and-right, and-both}
use Rattle.ess_repr_laws.specs.StructureParts.{number_of_key, tuple_set_dom}
use Rattle.ess_repr_laws.specs.ViewParts.{pair_relation_dom, number_as, part_dom, part_set_dom}
use Rattle.ess_repr_declare_laws.specs.SizeTerms.{zero_ex, one_ex, next_ex, plus_ex, minus_ex, at_least_0_ex, unused_name, listed_ex, is_numeral, numerals_order, span_ex, span_by, between_ex, is_missing, bound_or_0, count_ex, number_of, greatest_size_of, occurrences_ex, bound_ex, product_ex, product_behind, slots_ex, dummy_ex, size_terms}
use Rattle.ess_rules_laws.specs.SlotListings.{slots_dom}
use Rattle.ess_given_laws.specs.Given.{is_fixed, are_fixed, is_fixed_dom, are_fixed_doms}

module _ (u : Text → Bool) (counted : u unused_name ≡ true) where
  abbrev F : Ex → Type 0
  F e = is_fixed u e ≡ true

  abbrev D : Dom → Type 0
  D d = is_fixed_dom u d ≡ true

  -- ---- operators

  -- An operator on two fixed terms.
  pub two-fixed : (b : Bool) (o : Op2) (a c : Ex) → F a → F c → F (ex2 b o a c)
  two-fixed b o a c h k = and-both (is_fixed u a) (is_fixed u c && true) h (and-both (is_fixed u c) true k refl)

  next-fixed : (a : Ex) → F a → F (next_ex a)
  next-fixed a h = two-fixed false Op2.Plus a one_ex h refl

  floor-fixed : (e : Ex) → F e → F (at_least_0_ex e)
  floor-fixed e h = and-both (is_fixed u e && true) true (and-both (is_fixed u e) true h refl) refl

  listed-fixed : (d : Dom) → D d → F (listed_ex d)
  listed-fixed d h = and-both (u unused_name && (is_fixed_dom u d && true)) true
      (and-both (u unused_name) (is_fixed_dom u d && true) counted (and-both (is_fixed_dom u d) true h refl)) refl

  -- ---- numbers of atoms

  span-fixed : (a b : Ex) → F a → F b → F (span_ex a b)
  span-fixed a b h k = go (is_numeral (pos 0) a) (is_numeral (pos 1) a)
    where
      go : (c d : Bool) → F (if c then next_ex b else (if d then b else plus_ex (minus_ex one_ex a) b))
      go true d = next-fixed b k
      go false true = k
      go false false = two-fixed false Op2.Plus (minus_ex one_ex a) b (two-fixed false Op2.Minus one_ex a refl h) k

  between-fixed : (a b : Ex) → F a → F b → F (between_ex a b)
  between-fixed a b h k = go (numerals_order a b)
    where
      go : (o : Option Ordering) → F (span_by o a b)
      go (Some Less) = span-fixed a b h k
      go (Some Equal) = refl
      go (Some Greater) = refl
      go None = floor-fixed (span_ex a b) (span-fixed a b h k)

  end-fixed : (e : Ex) → F e → F (bound_or_0 e)
  end-fixed e h = go (is_missing e)
    where
      go : (c : Bool) → F (if c then zero_ex else e)
      go true = refl
      go false = h

  first : (a : Ex) (es : Exs) → are_fixed u (more_exs a es) ≡ true → F a
  first a es h = and-left (is_fixed u a) (are_fixed u es) h

  others : (a : Ex) (es : Exs) → are_fixed u (more_exs a es) ≡ true → are_fixed u es ≡ true
  others a es h = and-right (is_fixed u a) (are_fixed u es) h

  listed-or-none : (rs : List Ends) (es : Exs) → are_fixed u es ≡ true → F (if is_bounded rs then listed_ex (int_dom rs es) else zero_ex)
  listed-or-none rs es h = go (is_bounded rs)
    where
      go : (c : Bool) → F (if c then listed_ex (int_dom rs es) else zero_ex)
      go true = listed-fixed (int_dom rs es) h
      go false = refl

  count-fixed : (rs : List Ends) (es : Exs) → are_fixed u es ≡ true → F (count_ex rs es)
  count-fixed (one_value ∷ []) es h = refl
  count-fixed (both_ends ∷ []) (more_exs a (more_exs b no_exs)) h = between-fixed (bound_or_0 a) (bound_or_0 b)
      (end-fixed a (first a (more_exs b no_exs) h)) (end-fixed b (first b no_exs (others a (more_exs b no_exs) h)))
  count-fixed rs es h = listed-or-none rs es h

  -- ---- attributes

  abbrev SomeFixed : Option Ex → Type 0
  SomeFixed None = Unit {0}
  SomeFixed (Some e) = F e

  number-fixed : (k : Key) (ms : List Mark) (es : Exs) → are_fixed u es ≡ true → SomeFixed (number_of k ms es)
  number-fixed k [] es h = tt
  number-fixed k (flag j ∷ ms) es h = number-fixed k ms es h
  number-fixed k (valued j ∷ ms) no_exs h = tt
  number-fixed k (valued j ∷ ms) (more_exs e es) h = go (same_key j k) (number-fixed k ms es (others e es h))
    where
      go : (c : Bool) → SomeFixed (number_of k ms es) → SomeFixed (if c then Some e else number_of k ms es)
      go true q = first e es h
      go false q = q

  either-fixed : (o p : Option Ex) → SomeFixed o → SomeFixed p → SomeFixed (or_else o p)
  either-fixed None p h k = k
  either-fixed (Some e) p h k = h

  default-fixed : (o : Option Ex) (e : Ex) → SomeFixed o → F e → F (or_default o e)
  default-fixed None e h k = k
  default-fixed (Some x) e h k = h

  greatest-fixed : (ms : List Mark) (es : Exs) → are_fixed u es ≡ true → SomeFixed (greatest_size_of ms es)
  greatest-fixed ms es h = either-fixed (number_of Key.Size ms es) (number_of Key.MaxSize ms es)
      (number-fixed Key.Size ms es h) (number-fixed Key.MaxSize ms es h)

  -- How often a member of a multiset may be there.
  pub often-fixed : (ms : List Mark) (es : Exs) → are_fixed u es ≡ true → F (occurrences_ex ms es)
  often-fixed ms es h = default-fixed (or_else (number_of Key.MaxOccur ms es) (greatest_size_of ms es)) zero_ex
      (either-fixed (number_of Key.MaxOccur ms es) (greatest_size_of ms es) (number-fixed Key.MaxOccur ms es h) (greatest-fixed ms es h))
      refl

  -- ---- bounds

  mutual
    -- The bound of a fixed domain.
    pub bound-fixed : (d : Dom) → D d → F (bound_ex d)
    bound-fixed bool_dom h = refl
    bound-fixed (int_dom rs es) h = count-fixed rs es h
    bound-fixed (name_dom a) h = listed-fixed (name_dom a) refl
    bound-fixed (tuple_dom ds) h = product-fixed ds h
    bound-fixed (record_dom fs ds) h = product-fixed ds h
    bound-fixed (matrix_dom is d) h = two-fixed false Op2.Pow (next_ex (bound_ex d)) (product_ex is)
        (next-fixed (bound_ex d) (bound-fixed d (and-right (are_fixed_doms u is) (is_fixed_dom u d) h)))
        (product-fixed is (and-left (are_fixed_doms u is) (is_fixed_dom u d) h))
    bound-fixed (set_dom ms es d) h = two-fixed false Op2.Pow (bound_ex bool_dom) (bound_ex d) refl
        (bound-fixed d (and-right (are_fixed u es) (is_fixed_dom u d) h))
    bound-fixed (mset_dom ms es d) h = two-fixed false Op2.Pow (next_ex (occurrences_ex ms es)) (bound_ex d)
        (next-fixed (occurrences_ex ms es) (often-fixed ms es (and-left (are_fixed u es) (is_fixed_dom u d) h)))
        (bound-fixed d (and-right (are_fixed u es) (is_fixed_dom u d) h))
    bound-fixed (function_dom ms es d c) h =
        let k = and-right (are_fixed u es) (is_fixed_dom u d && is_fixed_dom u c) h in
        two-fixed false Op2.Pow (next_ex (bound_ex c)) (bound_ex d)
        (next-fixed (bound_ex c) (bound-fixed c (and-right (is_fixed_dom u d) (is_fixed_dom u c) k)))
        (bound-fixed d (and-left (is_fixed_dom u d) (is_fixed_dom u c) k))
    bound-fixed (relation_dom ms es ds) h = two-fixed false Op2.Pow (bound_ex bool_dom) (product_ex ds) refl
        (product-fixed ds (and-right (are_fixed u es) (are_fixed_doms u ds) h))
    bound-fixed (partition_dom ms es d) h = let k = and-right (are_fixed u es) (is_fixed_dom u d) h in
        two-fixed false Op2.Pow (next_ex (bound_ex d)) (bound_ex d) (next-fixed (bound_ex d) (bound-fixed d k)) (bound-fixed d k)

    product-fixed : (ds : Doms) → are_fixed_doms u ds ≡ true → F (product_ex ds)
    product-fixed no_doms h = refl
    product-fixed (more_doms d ds) h = behind-fixed (bound_ex d) ds (bound-fixed d (and-left (is_fixed_dom u d) (are_fixed_doms u ds) h))
        (and-right (is_fixed_dom u d) (are_fixed_doms u ds) h)

    behind-fixed : (e : Ex) (ds : Doms) → F e → are_fixed_doms u ds ≡ true → F (product_behind e ds)
    behind-fixed e no_doms h k = h
    behind-fixed e (more_doms d ds) h k = behind-fixed (ex2 false Op2.Times e (bound_ex d)) ds
        (two-fixed false Op2.Times e (bound_ex d) h (bound-fixed d (and-left (is_fixed_dom u d) (are_fixed_doms u ds) k)))
        (and-right (is_fixed_dom u d) (are_fixed_doms u ds) k)

  -- ---- slots and dummies

  -- How many slots there are.
  pub slots-fixed : (d : Dom) → D d → F (slots_ex d)
  slots-fixed (set_dom ms es d) h = default-fixed (greatest_size_of ms es) (bound_ex d)
      (greatest-fixed ms es (and-left (are_fixed u es) (is_fixed_dom u d) h))
      (bound-fixed d (and-right (are_fixed u es) (is_fixed_dom u d) h))
  slots-fixed (mset_dom ms es d) h = default-fixed (greatest_size_of ms es) (ex2 false Op2.Times (occurrences_ex ms es) (bound_ex d))
      (greatest-fixed ms es (and-left (are_fixed u es) (is_fixed_dom u d) h))
      (two-fixed false Op2.Times (occurrences_ex ms es) (bound_ex d)
      (often-fixed ms es (and-left (are_fixed u es) (is_fixed_dom u d) h))
      (bound-fixed d (and-right (are_fixed u es) (is_fixed_dom u d) h)))
  slots-fixed _ h = refl

  -- The dummy of a domain.
  pub dummy-fixed : (d : Dom) → D d → F (dummy_ex d)
  dummy-fixed (int_dom (both_ends ∷ []) (more_exs a (more_exs b no_exs))) h =
      next-fixed (bound_or_0 b) (end-fixed b (first b no_exs (others a (more_exs b no_exs) h)))
  dummy-fixed (name_dom a) h = next-fixed (listed_ex (name_dom a)) (listed-fixed (name_dom a) refl)
  dummy-fixed _ h = refl

  -- The numbers up to a fixed one.
  pub numbers-fixed : (n : Ex) → F n → D (slots_dom n)
  numbers-fixed n h = and-both (is_fixed u n) true h refl

  -- ---- what values are kept as

  abbrev Marked : List Mark × Exs → Type 0
  Marked p = are_fixed u p.1 ≡ true

  one-more : (e : Ex) (es : Exs) → F e → are_fixed u es ≡ true → are_fixed u (more_exs e es) ≡ true
  one-more e es h k = and-both (is_fixed u e) (are_fixed u es) h k

  key-fixed : (k : Key) (ms : List Mark) (es : Exs) (ns : List Mark) (os : Exs) → are_fixed u es ≡ true → are_fixed u os ≡ true →
      Marked (number_of_key k ms es ns os)
  key-fixed k [] es ns os h q = q
  key-fixed k (flag j ∷ ms) es ns os h q = key-fixed k ms es ns os h q
  key-fixed k (valued j ∷ ms) no_exs ns os h q = q
  key-fixed k (valued j ∷ ms) (more_exs e es) ns os h q = go (same_key j k) (key-fixed k ms es ns os (others e es h) q)
    where
      go : (c : Bool) → Marked (number_of_key k ms es ns os) →
          Marked (if c then (valued k ∷ ns, more_exs e os) else number_of_key k ms es ns os)
      go true r = one-more e os (first e es h) q
      go false r = r

  as-fixed : (k j : Key) (ms : List Mark) (es : Exs) (ns : List Mark) (os : Exs) → are_fixed u es ≡ true → are_fixed u os ≡ true →
      Marked (number_as k j ms es ns os)
  as-fixed k j [] es ns os h q = q
  as-fixed k j (flag i ∷ ms) es ns os h q = as-fixed k j ms es ns os h q
  as-fixed k j (valued i ∷ ms) no_exs ns os h q = q
  as-fixed k j (valued i ∷ ms) (more_exs e es) ns os h q = go (same_key i k) (as-fixed k j ms es ns os (others e es h) q)
    where
      go : (c : Bool) → Marked (number_as k j ms es ns os) →
          Marked (if c then (valued j ∷ ns, more_exs e os) else number_as k j ms es ns os)
      go true r = one-more e os (first e es h) q
      go false r = r

  if-fixed : (c : Bool) (p q : List Mark × Exs) → Marked p → Marked q → Marked (if c then p else q)
  if-fixed true p q h k = h
  if-fixed false p q h k = k

  -- The set of a relation's tuples.
  pub tuples-fixed : (ms : List Mark) (es : Exs) (ds : Doms) → D (relation_dom ms es ds) → D (tuple_set_dom ms es ds)
  tuples-fixed ms es ds h =
      let e = and-left (are_fixed u es) (are_fixed_doms u ds) h in
      let a : List Mark × Exs = number_of_key Key.MaxSize ms es [] no_exs in
      let b : List Mark × Exs = number_of_key Key.MinSize ms es a.0 a.1 in
      let c : List Mark × Exs = number_of_key Key.Size ms es b.0 b.1 in
      and-both (are_fixed u c.1) (are_fixed_doms u ds)
      (key-fixed Key.Size ms es b.0 b.1 e (key-fixed Key.MinSize ms es a.0 a.1 e (key-fixed Key.MaxSize ms es [] no_exs e refl)))
      (and-right (are_fixed u es) (are_fixed_doms u ds) h)

  -- The relation of a function's pairs.
  pub pairs-fixed : (ms : List Mark) (es : Exs) (d c : Dom) → D (function_dom ms es d c) → D (pair_relation_dom size_terms ms es d c)
  pairs-fixed ms es d c h =
      let e = and-left (are_fixed u es) (is_fixed_dom u d && is_fixed_dom u c) h in
      let k = and-right (are_fixed u es) (is_fixed_dom u d && is_fixed_dom u c) h in
      let hd = and-left (is_fixed_dom u d) (is_fixed_dom u c) k in
      let hc = and-right (is_fixed_dom u d) (is_fixed_dom u c) k in
      let a0 : List Mark × Exs = number_of_key Key.MaxSize ms es [] no_exs in
      let a1 : List Mark × Exs = (valued Key.MaxSize ∷ [], more_exs (bound_ex d) no_exs) in
      let a : List Mark × Exs = if has_key Key.MaxSize ms || (has_key Key.Total ms || has_key Key.Size ms) then a0 else a1 in
      let b : List Mark × Exs = number_of_key Key.MinSize ms es a.0 a.1 in
      let s0 : List Mark × Exs = (valued Key.Size ∷ b.0, more_exs (bound_ex d) b.1) in
      let s1 : List Mark × Exs = number_of_key Key.Size ms es b.0 b.1 in
      let s : List Mark × Exs = if has_key Key.Total ms then s0 else s1 in
      let ha : Marked a = if-fixed (has_key Key.MaxSize ms || (has_key Key.Total ms || has_key Key.Size ms)) a0 a1
      (key-fixed Key.MaxSize ms es [] no_exs e refl) (one-more (bound_ex d) no_exs (bound-fixed d hd) refl) in
      let hb : Marked b = key-fixed Key.MinSize ms es a.0 a.1 e ha in
      and-both (are_fixed u s.1) (is_fixed_dom u d && (is_fixed_dom u c && true))
      (if-fixed (has_key Key.Total ms) s0 s1 (one-more (bound_ex d) b.1 (bound-fixed d hd) hb) (key-fixed Key.Size ms es b.0 b.1 e hb))
      (and-both (is_fixed_dom u d) (is_fixed_dom u c && true) hd (and-both (is_fixed_dom u c) true hc refl))

  part-fixed : (ms : List Mark) (es : Exs) (d : Dom) → D (partition_dom ms es d) → D (part_dom ms es d)
  part-fixed ms es d h =
      let e = and-left (are_fixed u es) (is_fixed_dom u d) h in
      let a : List Mark × Exs = number_as Key.MaxPartSize Key.MaxSize ms es [] no_exs in
      let b : List Mark × Exs = number_as Key.MinPartSize Key.MinSize ms es a.0 a.1 in
      let s : List Mark × Exs = number_as Key.PartSize Key.Size ms es b.0 b.1 in
      and-both (are_fixed u s.1) (is_fixed_dom u d)
      (as-fixed Key.PartSize Key.Size ms es b.0 b.1 e (as-fixed Key.MinPartSize Key.MinSize ms es a.0 a.1 e
      (as-fixed Key.MaxPartSize Key.MaxSize ms es [] no_exs e refl))) (and-right (are_fixed u es) (is_fixed_dom u d) h)

  -- The set of a partition's parts.
  pub parts-fixed : (ms : List Mark) (es : Exs) (d : Dom) → D (partition_dom ms es d) → D (part_set_dom size_terms ms es d)
  parts-fixed ms es d h =
      let e = and-left (are_fixed u es) (is_fixed_dom u d) h in
      let hd = and-right (are_fixed u es) (is_fixed_dom u d) h in
      let a0 : List Mark × Exs = number_as Key.MaxNumParts Key.MaxSize ms es [] no_exs in
      let a1 : List Mark × Exs = (valued Key.MaxSize ∷ [], more_exs (bound_ex d) no_exs) in
      let a : List Mark × Exs = if has_key Key.MaxNumParts ms || has_key Key.NumParts ms then a0 else a1 in
      let b : List Mark × Exs = number_as Key.MinNumParts Key.MinSize ms es a.0 a.1 in
      let s : List Mark × Exs = number_as Key.NumParts Key.Size ms es b.0 b.1 in
      let ha : Marked a = if-fixed (has_key Key.MaxNumParts ms || has_key Key.NumParts ms) a0 a1
      (as-fixed Key.MaxNumParts Key.MaxSize ms es [] no_exs e refl) (one-more (bound_ex d) no_exs (bound-fixed d hd) refl) in
      and-both (are_fixed u s.1) (is_fixed_dom u (part_dom ms es d))
      (as-fixed Key.NumParts Key.Size ms es b.0 b.1 e (as-fixed Key.MinNumParts Key.MinSize ms es a.0 a.1 e ha)) (part-fixed ms es d h)

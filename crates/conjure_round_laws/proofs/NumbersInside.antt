-- The numbers in a member of a finite domain lie between its bounds. So they fit where no bound is outside 64 bits.
use Rattle.std.proofs.Common.{◌≡◌, refl, sym, ap, ◌∙◌, subst, ℕ, suc, ◌^◌, Bool, true, false, ◌&&◌, ◌||◌, not, List, [], ◌∷◌, nat_lt, int_le, ℤ, pos, negsuc, Option, Some, None, arith}
use Rattle.std.proofs.lemmas.Int.{ints}
use Rattle.std.proofs.lemmas.Bool.Decides.{nat_tests}
use Rattle.std.specs.List.{list_all, list_any}
use Rattle.ess_semantics.specs.Lists.{and_then, is_empty, is_none_or}
use Rattle.ess_semantics.specs.Values.{Text, a_set, a_mset, a_function, a_relation, a_partition, a_record, Value, number, truth, item, node, Values, nil, cons, to_list, tuple, pair, from_of, to_of, itself}
use Rattle.ess_semantics.specs.Order.{same_texts}
use Rattle.ess_semantics.specs.Collections.{rises, rises_weakly, has_overlap}
use Rattle.ess_semantics.specs.Attributes.{set_attributes_hold, mset_attributes_hold, function_attributes_hold, relation_attributes_hold, partition_attributes_hold}
use Rattle.ess_semantics.specs.Trees.{Ends, one_value, both_ends, low_end, high_end, Exs, no_exs, more_exs, int_dom}
use Rattle.ess_semantics.specs.Kinds.{is_closed_end}
use Rattle.ess_semantics.specs.Domains.{Span, Attribute, Domain, Domains, booleans, integers, named, tuples, records, sets, msets, functions, relations, partitions, no_domains, more_domains, members}
use Rattle.ess_semantics.specs.Membership.{in_span, is_pair, is_part, covers, member, member_of_each, tuple_member}
use Rattle.ess_semantics.specs.Meaning.{Env, as_int, with_span, spans_of, TypeEntry, named_domain, meaning, meanings}
use Rattle.ess_semantics.specs.Large.{in_64_bits, is_big, is_large, any_large}
use Rattle.ess_semantics.specs.DomainJudgements.{is_finite}
use Rattle.ess_semantics.proofs.Tests.{and-left, and-right, and-both, or-left-no, or-right-no}
use Rattle.ess_types_laws.proofs.SoundParts.{some-then, some-map}
use Rattle.ess_print_laws.specs.Spelled.{is_spelled_number}
use Rattle.ess_values_laws.specs.Spellable.{numbers_fit, all_numbers_fit}
use Rattle.ess_value_names_laws.proofs.SmallSizes.{means-small}

-- ---- numbers between bounds

-- A number between two that are in 64 bits is one that a text spells.
number-between : (n a b : ℤ) → in_64_bits a ≡ true → in_64_bits b ≡ true → int_le a n ≡ true → int_le n b ≡ true →
    is_spelled_number n ≡ true
number-between (pos n) a (pos b) h k l u = high n b k u
  where
    high : (n b : ℕ) → nat_lt b (2 ^ 63) ≡ true → int_le (pos n) (pos b) ≡ true → nat_lt n (2 ^ 63) ≡ true
    high n b k u = grind (arith, ints, nat_tests)
number-between (pos n) a (negsuc b) h k l u = let z : int_le (pos n) (negsuc b) ≡ false = refl in let y : true ≡ false = sym u ∙ z in cc
number-between (negsuc n) (negsuc a) b h k l u = low n a h l
  where
    low : (n a : ℕ) → nat_lt (suc a) (2 ^ 63) ≡ true → int_le (negsuc a) (negsuc n) ≡ true → nat_lt (suc n) (2 ^ 63) ≡ true
    low n a h l = grind (arith, ints, nat_tests)
number-between (negsuc n) (pos a) b h k l u = let z : int_le (pos a) (negsuc n) ≡ false = refl in let y : true ≡ false = sym l ∙ z in cc

-- The bounds of a range are there, in 64 bits.
record SmallSpan (s : Span) : Type 0 where
  a : ℤ
  b : ℤ
  low : s.low ≡ Some a
  high : s.high ≡ Some b
  small_low : in_64_bits a ≡ true
  small_high : in_64_bits b ≡ true

abbrev AreSmall : List Span → Type 0
AreSmall [] = Unit {0}
AreSmall (s ∷ ss) = SmallSpan s × AreSmall ss

span-holds : (n : ℤ) (s : Span) → SmallSpan s → in_span n s ≡ true → is_spelled_number n ≡ true
span-holds n s h e =
    let l = and-left (is_none_or s.low (λ a. int_le a n)) (is_none_or s.high (λ b. int_le n b)) e in
    let u = and-right (is_none_or s.low (λ a. int_le a n)) (is_none_or s.high (λ b. int_le n b)) e in
    number-between n h.a h.b h.small_low h.small_high (ap (λ o. is_none_or o (λ a. int_le a n)) (sym h.low) ∙ l)
    (ap (λ o. is_none_or o (λ b. int_le n b)) (sym h.high) ∙ u)

some-holds : (n : ℤ) (ss : List Span) → AreSmall ss → list_any (in_span n) ss ≡ true → is_spelled_number n ≡ true
some-holds n [] h e = cc
some-holds n (s ∷ ss) h e = go (in_span n s) refl e (some-holds n ss h.1)
  where
    go : (b : Bool) → in_span n s ≡ b → b || list_any (in_span n) ss ≡ true →
        (list_any (in_span n) ss ≡ true → is_spelled_number n ≡ true) → is_spelled_number n ≡ true
    go true q e k = span-holds n s h.0 q
    go false q e k = k e

not-no : (b : Bool) → not b ≡ false → b ≡ true
not-no true h = refl
not-no false h = cc

-- A bound that is no number outside 64 bits.
bound-small : (o : Option Value) (n : ℤ) → as_int o ≡ Some n → is_big o ≡ false → in_64_bits n ≡ true
bound-small None n e h = cc
bound-small (Some (number m)) n e h = let z : m ≡ n = cc in ap in_64_bits (sym z) ∙ not-no (in_64_bits m) h
bound-small (Some (truth b)) n e h = let z : pos 0 ≡ n = cc in ap in_64_bits (sym z) ∙ refl
bound-small (Some (item t k)) n e h = let z : pos 0 ≡ n = cc in ap in_64_bits (sym z) ∙ refl
bound-small (Some (node k vs)) n e h = let z : pos 0 ≡ n = cc in ap in_64_bits (sym z) ∙ refl

module _ (env : Env) where
  spans-small : (rs : List Ends) (es : Exs) (ss : List Span) → list_all is_closed_end rs ≡ true → any_large es env ≡ false →
      spans_of rs (meanings es env) ≡ Some ss → AreSmall ss × (is_empty rs ≡ is_empty ss)
  spans-small [] no_exs ss c l e = let z : [] ≡ ss = cc in (subst AreSmall z tt, ap is_empty z)
  spans-small [] (more_exs x es) ss c l e = cc
  spans-small (one_value ∷ rs) no_exs ss c l e = cc
  spans-small (one_value ∷ rs) (more_exs x es) ss c l e =
      let n = some-then (as_int (meaning x env)) (λ n. with_span (Some n) (Some n) (spans_of rs (meanings es env))) ss e in
      let t = some-map (spans_of rs (meanings es env)) (λ ts. record { low = Some n.0; high = Some n.0 } ∷ ts) ss n.2 in
      let r = spans-small rs es t.0 c (or-right-no (is_large x env) (any_large es env) l) t.1 in
      let b = bound-small (meaning x env) n.0 n.1 (means-small x env (or-left-no (is_large x env) (any_large es env) l)) in (
        subst AreSmall t.2 (record { a = n.0; b = n.0; low = refl; high = refl; small_low = b; small_high = b }, r.0),
        ap is_empty t.2,
      )
  spans-small (both_ends ∷ rs) no_exs ss c l e = cc
  spans-small (both_ends ∷ rs) (more_exs x no_exs) ss c l e = cc
  spans-small (both_ends ∷ rs) (more_exs x (more_exs y es)) ss c l e =
      let n = some-then (as_int (meaning x env)) (λ n. and_then (as_int (meaning y env))
      (λ m. with_span (Some n) (Some m) (spans_of rs (meanings es env)))) ss e in
      let m = some-then (as_int (meaning y env)) (λ m. with_span (Some n.0) (Some m) (spans_of rs (meanings es env))) ss n.2 in
      let t = some-map (spans_of rs (meanings es env)) (λ ts. record { low = Some n.0; high = Some m.0 } ∷ ts) ss m.2 in
      let k = or-right-no (is_large x env) (is_large y env || any_large es env) l in
      let r = spans-small rs es t.0 c (or-right-no (is_large y env) (any_large es env) k) t.1 in (
        subst AreSmall t.2 (
          record {
            a = n.0;
            b = m.0;
            low = refl;
            high = refl;
            small_low = bound-small (meaning x env) n.0 n.1
                (means-small x env (or-left-no (is_large x env) (is_large y env || any_large es env) l));
            small_high = bound-small (meaning y env) m.0 m.1
                (means-small y env (or-left-no (is_large y env) (any_large es env) k));
          },
          r.0,
        ),
        ap is_empty t.2,
      )
  spans-small (low_end ∷ rs) es ss c l e = cc
  spans-small (high_end ∷ rs) es ss c l e = cc

  pub int-fit : (rs : List Ends) (es : Exs) (ss : List Span) → is_finite (int_dom rs es) ≡ true → any_large es env ≡ false →
      spans_of rs (meanings es env) ≡ Some ss → (v : Value) → member (integers ss) v ≡ true → numbers_fit v ≡ true
  int-fit [] es ss f l e v m = cc
  int-fit (r ∷ rs) es [] f l e v m = let z = (spans-small (r ∷ rs) es [] f l e).1 in cc
  int-fit (r ∷ rs) es (s ∷ ss) f l e (number n) m = some-holds n (s ∷ ss) (spans-small (r ∷ rs) es (s ∷ ss) f l e).0 m
  int-fit (r ∷ rs) es (s ∷ ss) f l e _ m = cc

  pub named-fit : (a : Text) (o : Option TypeEntry) (c : Domain) → named_domain false a o ≡ Some c → (v : Value) → member c v ≡ true →
      numbers_fit v ≡ true
  named-fit a None c e v m = cc
  named-fit a (Some t) c e v m = go v (subst (λ d. member d v ≡ true) (let z : named a t.count ≡ c = cc in sym z) m)
    where
      go : (v : Value) → member (named a t.count) v ≡ true → numbers_fit v ≡ true
      go (item u k) m = refl
      go _ m = cc

  pub bool-fit : (v : Value) → member booleans v ≡ true → numbers_fit v ≡ true
  bool-fit (truth b) m = refl
  bool-fit _ m = cc

  -- ---- parts

  pub each-fit : (f : Value → Bool) (xs : Values) → ((w : Value) → f w ≡ true → numbers_fit w ≡ true) → list_all f (to_list xs) ≡ true →
      all_numbers_fit xs ≡ true
  each-fit f nil h e = refl
  each-fit f (cons v vs) h e =
      and-both (numbers_fit v) (all_numbers_fit vs) (h v (and-left (f v) (list_all f (to_list vs)) e))
      (each-fit f vs h (and-right (f v) (list_all f (to_list vs)) e))

  pub set-fit : (ks : List Attribute) (d : Domain) (v : Value) → ((w : Value) → member d w ≡ true → numbers_fit w ≡ true) →
      member (sets ks d) v ≡ true → numbers_fit v ≡ true
  set-fit ks d (node a_set xs) f m =
      each-fit (member d) xs f (and-right (rises itself (to_list xs)) (list_all (member d) (to_list xs))
      (and-left (rises itself (to_list xs) && list_all (member d) (to_list xs)) (set_attributes_hold ks _) m))
  set-fit ks d _ f m = cc

  pub mset-fit : (ks : List Attribute) (d : Domain) (v : Value) → ((w : Value) → member d w ≡ true → numbers_fit w ≡ true) →
      member (msets ks d) v ≡ true → numbers_fit v ≡ true
  mset-fit ks d (node a_mset xs) f m =
      each-fit (member d) xs f (and-right (rises_weakly (to_list xs)) (list_all (member d) (to_list xs))
      (and-left (rises_weakly (to_list xs) && list_all (member d) (to_list xs)) (mset_attributes_hold ks (to_list xs)) m))
  mset-fit ks d _ f m = cc

  pair-fit : (p : Value) → is_pair p ≡ true → numbers_fit (from_of p) ≡ true → numbers_fit (to_of p) ≡ true → numbers_fit p ≡ true
  pair-fit (pair a b) e h k =
      and-both (numbers_fit a) (numbers_fit b && true) h (and-both (numbers_fit b) true k refl)
  pair-fit _ e h k = cc

  pub function-fit : (ks : List Attribute) (d c : Domain) (v : Value) → ((w : Value) → member d w ≡ true → numbers_fit w ≡ true) →
      ((w : Value) → member c w ≡ true → numbers_fit w ≡ true) → member (functions ks d c) v ≡ true → numbers_fit v ≡ true
  function-fit ks d c (node a_function xs) f g m =
      let Q = list_all (λ p. is_pair p && member d (from_of p) && member c (to_of p)) (to_list xs) in
      each-fit (λ p. is_pair p && member d (from_of p) && member c (to_of p)) xs one
      (and-right (rises from_of (to_list xs)) Q
      (and-left (rises from_of (to_list xs) && Q) (function_attributes_hold ks d c (to_list xs)) m))
    where
      one : (p : Value) → is_pair p && member d (from_of p) && member c (to_of p) ≡ true → numbers_fit p ≡ true
      one p h =
          let a = and-left (is_pair p && member d (from_of p)) (member c (to_of p)) h in
          pair-fit p (and-left (is_pair p) (member d (from_of p)) a) (f (from_of p) (and-right (is_pair p) (member d (from_of p)) a))
          (g (to_of p) (and-right (is_pair p && member d (from_of p)) (member c (to_of p)) h))
  function-fit ks d c _ f g m = cc

  part-fit : (d : Domain) (x : Value) → ((w : Value) → member d w ≡ true → numbers_fit w ≡ true) → is_part (member d) x ≡ true →
      numbers_fit x ≡ true
  part-fit d (node a_set xs) f h =
      each-fit (member d) xs f
      (and-right (rises itself (to_list xs) && not (is_empty (to_list xs))) (list_all (member d) (to_list xs)) h)
  part-fit d _ f h = cc

  pub partition-fit : (ks : List Attribute) (d : Domain) (v : Value) → ((w : Value) → member d w ≡ true → numbers_fit w ≡ true) →
      member (partitions ks d) v ≡ true → numbers_fit v ≡ true
  partition-fit ks d (node a_partition ps) f m =
      let R = rises itself (to_list ps) in
      let Q = list_all (is_part (member d)) (to_list ps) in
      let O = not (has_overlap (to_list ps)) in
      let C = covers (members d) (to_list ps) in
      let c = and-left (R && Q) O (and-left (R && Q && O) C (and-left (R && Q && O && C) (partition_attributes_hold ks (to_list ps)) m)) in
      each-fit (is_part (member d)) ps (λ x h. part-fit d x f h) (and-right R Q c)
  partition-fit ks d _ f m = cc

  -- ---- components

  -- The members of each of these domains fit.
  abbrev pub AllFit : Domains → Type 0
  AllFit no_domains = Unit {0}
  AllFit (more_domains d ds) = ((w : Value) → member d w ≡ true → numbers_fit w ≡ true) × AllFit ds

  components-fit : (ds : Domains) (vs : Values) → AllFit ds → member_of_each ds vs ≡ true → all_numbers_fit vs ≡ true
  components-fit no_domains nil h m = refl
  components-fit no_domains (cons v vs) h m = cc
  components-fit (more_domains d ds) nil h m = cc
  components-fit (more_domains d ds) (cons v vs) h m =
      and-both (numbers_fit v) (all_numbers_fit vs) (h.0 v (and-left (member d v) (member_of_each ds vs) m))
      (components-fit ds vs h.1 (and-right (member d v) (member_of_each ds vs) m))

  pub tuple-fit : (ds : Domains) (v : Value) → AllFit ds → member (tuples ds) v ≡ true → numbers_fit v ≡ true
  tuple-fit ds (tuple vs) h m = components-fit ds vs h m
  tuple-fit ds _ h m = cc

  pub record-fit : (fs : List Text) (ds : Domains) (v : Value) → AllFit ds → member (records fs ds) v ≡ true → numbers_fit v ≡ true
  record-fit fs ds (node (a_record gs) vs) h m = components-fit ds vs h (and-right (same_texts fs gs) (member_of_each ds vs) m)
  record-fit fs ds _ h m = cc

  row-fit : (ds : Domains) (x : Value) → AllFit ds → tuple_member ds x ≡ true → numbers_fit x ≡ true
  row-fit no_domains (tuple nil) h m = refl
  row-fit (more_domains d ds) (tuple (cons v vs)) h m = components-fit (more_domains d ds) (cons v vs) h m
  row-fit no_domains _ h m = cc
  row-fit (more_domains d ds) _ h m = cc

  pub relation-fit : (ks : List Attribute) (ds : Domains) (v : Value) → AllFit ds → member (relations ks ds) v ≡ true → numbers_fit v ≡ true
  relation-fit ks ds (node a_relation xs) h m =
      let R = rises itself (to_list xs) in
      let Q = list_all (tuple_member ds) (to_list xs) in
      each-fit (tuple_member ds) xs (λ x k. row-fit ds x h k)
      (and-right R Q (and-left (R && Q) (relation_attributes_hold ks ds (to_list xs)) m))
  relation-fit ks ds _ h m = cc

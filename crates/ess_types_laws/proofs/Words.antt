-- What a function word gives for values of types that fit it has the type of its result.
use Rattle.std.proofs.Common.{◌≡◌, refl, sym, ap, ◌∙◌, subst, Bool, true, false, ◌&&◌, List, map, filter, ℤ, Option, Some, None, option_map}
use Rattle.std.specs.List.{list_all}
use Rattle.std.proofs.lemmas.List.Folds.{list_all-map}
use Rattle.ess_semantics.specs.declared.words.Fun.{Fun}
use Rattle.ess_semantics.specs.Lists.{and_then, append_all}
use Rattle.ess_semantics.specs.Values.{a_matrix, a_set, a_mset, a_function, a_relation, a_partition, Value, number, pair, from_of, to_of, items_of}
use Rattle.ess_semantics.specs.Order.{same}
use Rattle.ess_semantics.specs.Collections.{sorted, sorted_once, set_of, mset_of, relation_of, value_at}
use Rattle.ess_semantics.specs.Trees.{is_truth_word}
use Rattle.ess_semantics.specs.Types.{Ty, any_ty, bool_ty, int_ty, named_ty, compound, no_tys, more_tys, compound1, compound2, join, fit}
use Rattle.ess_semantics.specs.OperatorTypes.{member_ty, list_ty, chosen_ty, extreme_ty, to_set_ty, to_mset_ty, type_of_word1, type_of_word2}
use Rattle.ess_semantics.specs.Operators.{part_with, value_of_word1, value_of_word2}
use Rattle.ess_semantics.specs.Membership.{is_pair, is_part}
use Rattle.ess_semantics.specs.Meaning.{TypeEntry}
use Rattle.ess_semantics.specs.TypeMembers.{is_of, is_tuple_of}
use Rattle.ess_semantics.proofs.Tests.{and-left, and-right, and-both}
use Rattle.ess_semantics.proofs.Sorting.{sorted_once-rises, all-sorted_once}
use Rattle.ess_semantics.proofs.Multisets.{sorted-rises, sorted-all}
use Rattle.ess_types_laws.proofs.Joins.{Of, all-map, join-both, compound-sub}
use Rattle.ess_types_laws.proofs.Items.{is_pair_of, part-fits, items-fit, set-items, function-items, partition-items, set-fits, mset-fits, relation-fits}
use Rattle.ess_types_laws.proofs.Containers.{least-all, greatest-all, value-at-all, part-with-all, all-filtered, all-of-each}
use Rattle.ess_types_laws.proofs.ResolvedTypes.{image-type}

-- ---- types of results

-- The result has the type that was asked for.
pub fit-result : (t u r w : Ty) → fit t u r ≡ Some w → r ≡ w
fit-result t u r w e = go (join t u) e
  where
    go : (o : Option Ty) → option_map (λ v. r) o ≡ Some w → r ≡ w
    go None e = cc
    go (Some v) e = cc

list-result : (o : Option Ty) (u r w : Ty) → and_then o (λ e. fit e u r) ≡ Some w → r ≡ w
list-result None u r w e = cc
list-result (Some t) u r w e = fit-result t u r w e

chosen-same : (e r : Ty) → chosen_ty e ≡ Some r → e ≡ r
chosen-same any_ty r h = cc
chosen-same int_ty r h = cc
chosen-same (named_ty a) r h = cc
chosen-same _ r h = cc

-- The least item's type is that of the items.
extreme-member : (t r : Ty) → extreme_ty t ≡ Some r → member_ty t ≡ Some r
extreme-member (compound a_set (more_tys e no_tys)) r h = ap Some (chosen-same e r h)
extreme-member (compound a_mset (more_tys e no_tys)) r h = ap Some (chosen-same e r h)
extreme-member (compound a_matrix (more_tys i (more_tys e no_tys))) r h = ap Some (chosen-same e r h)
extreme-member any_ty r h = h
extreme-member _ r h = cc

list-member : (t r : Ty) → list_ty t ≡ Some r → member_ty t ≡ Some r
list-member (compound a_matrix (more_tys i (more_tys e no_tys))) r h = h
list-member any_ty r h = h
list-member _ r h = cc

module _ (p : Bool) (es : List TypeEntry) where
  -- A number.
  pub number-fits : (o : Option ℤ) (t : Ty) (v : Value) → int_ty ≡ t → option_map number o ≡ Some v → Of p es t v
  number-fits None t v q e = cc
  number-fits (Some n) t v q e = let z : number n ≡ v = cc in subst (λ x. Of p es x v) q (subst (λ y. Of p es int_ty y) z refl)

  -- The same of a number that is there.
  pub whole-fits : (n : ℤ) (t : Ty) (v : Value) → int_ty ≡ t → Some (number n) ≡ Some v → Of p es t v
  whole-fits n t v q e = number-fits (Some n) t v q e

  -- ---- sets and multisets made of items

  pub set-made : (a : Ty) (xs : List Value) → list_all (is_of p es a) xs ≡ true → Of p es (compound1 a_set a) (set_of xs)
  set-made a xs h = set-fits p es a (sorted_once xs) (sorted_once-rises xs) (all-sorted_once (is_of p es a) xs ∙ h)

  pub mset-made : (a : Ty) (xs : List Value) → list_all (is_of p es a) xs ≡ true → Of p es (compound1 a_mset a) (mset_of xs)
  mset-made a xs h = mset-fits p es a (sorted xs) (sorted-rises xs) (sorted-all (is_of p es a) xs ∙ h)

  pair-row : (a b : Ty) (x : Value) → is_pair_of p es a b x ≡ true → is_tuple_of p es (more_tys a (more_tys b no_tys)) x ≡ true
  pair-row a b (pair u w) h =
      and-both (is_of p es a u) (is_of p es b w && true) (and-left (is_of p es a u) (is_of p es b w) h)
      (and-both (is_of p es b w) true (and-right (is_of p es a u) (is_of p es b w) h) refl)
  pair-row a b _ h = cc

  relation-made : (a b : Ty) (xs : List Value) → list_all (is_pair_of p es a b) xs ≡ true →
      Of p es (compound2 a_relation a b) (relation_of xs)
  relation-made a b xs h =
      relation-fits p es (more_tys a (more_tys b no_tys)) (sorted_once xs) (sorted_once-rises xs)
      (all-sorted_once (is_tuple_of p es (more_tys a (more_tys b no_tys))) xs
      ∙ all-map (is_pair_of p es a b) (is_tuple_of p es (more_tys a (more_tys b no_tys))) xs (pair-row a b) h)

  from-fits : (a b : Ty) (x : Value) → is_pair_of p es a b x ≡ true → is_of p es a (from_of x) ≡ true
  from-fits a b x h = and-right (is_pair x) (is_of p es a (from_of x))
      (and-left (is_pair x && is_of p es a (from_of x)) (is_of p es b (to_of x)) h)

  to-fits : (a b : Ty) (x : Value) → is_pair_of p es a b x ≡ true → is_of p es b (to_of x) ≡ true
  to-fits a b x h = and-right (is_pair x && is_of p es a (from_of x)) (is_of p es b (to_of x)) h

  froms-fit : (a b : Ty) (xs : List Value) → list_all (is_pair_of p es a b) xs ≡ true → list_all (is_of p es a) (map from_of xs) ≡ true
  froms-fit a b xs h = list_all-map (is_of p es a) from_of xs
      ∙ all-map (is_pair_of p es a b) (λ x. is_of p es a (from_of x)) xs (from-fits a b) h

  tos-fit : (a b : Ty) (xs : List Value) → list_all (is_pair_of p es a b) xs ≡ true → list_all (is_of p es b) (map to_of xs) ≡ true
  tos-fit a b xs h = list_all-map (is_of p es b) to_of xs ∙ all-map (is_pair_of p es a b) (λ x. is_of p es b (to_of x)) xs (to-fits a b) h

  -- A value of this type, made of the items.
  pub made : (u t : Ty) (x v : Value) → u ≡ t → Some x ≡ Some v → Of p es u x → Of p es t v
  made u t x v q e o = let z : x ≡ v = cc in subst (λ y. Of p es y v) q (subst (λ y. Of p es u y) z o)

  to-set-fits : (a : Ty) (m : Option Ty) (t : Ty) (x v : Value) → member_ty a ≡ m → option_map (compound1 a_set) m ≡ Some t →
      Of p es a x → Some (set_of (items_of x)) ≡ Some v → Of p es t v
  to-set-fits a None t x v q e o h = cc
  to-set-fits a (Some m) t x v q e o h = let z : compound1 a_set m ≡ t = cc in
      made (compound1 a_set m) t (set_of (items_of x)) v z h (set-made m (items_of x) (items-fit p es a m x q o))

  to-mset-fits : (a : Ty) (m : Option Ty) (t : Ty) (x v : Value) → list_ty a ≡ m → option_map (compound1 a_mset) m ≡ Some t →
      Of p es a x → Some (mset_of (items_of x)) ≡ Some v → Of p es t v
  to-mset-fits a None t x v q e o h = cc
  to-mset-fits a (Some m) t x v q e o h =
      let z : compound1 a_mset m ≡ t = cc in
      made (compound1 a_mset m) t (mset_of (items_of x)) v z h (mset-made m (items_of x) (items-fit p es a m x (list-member a m q) o))

  -- ---- words on one operand

  to_set-word : (a t : Ty) (x v : Value) → to_set_ty a ≡ Some t → Of p es a x → Some (set_of (items_of x)) ≡ Some v → Of p es t v
  to_set-word (compound a_set ts) t x v e o h = cc
  to_set-word (compound a_partition ts) t x v e o h = cc
  to_set-word a t x v e o h = to-set-fits a (member_ty a) t x v refl e o h

  to_mset-word : (a t : Ty) (x v : Value) → to_mset_ty a ≡ Some t → Of p es a x → Some (mset_of (items_of x)) ≡ Some v → Of p es t v
  to_mset-word (compound a_set (more_tys a no_tys)) t x v e o h =
      let z : compound1 a_mset a ≡ t = cc in
      made (compound1 a_mset a) t (mset_of (items_of x)) v z h (mset-made a (items_of x) (set-items p es a x o).1)
  to_mset-word a t x v e o h = to-mset-fits a (list_ty a) t x v refl e o h

  defined-word : (a t : Ty) (x v : Value) → type_of_word1 Fun.Defined a ≡ Some t → Of p es a x →
      Some (set_of (map from_of (items_of x))) ≡ Some v → Of p es t v
  defined-word (compound a_function (more_tys a (more_tys b no_tys))) t x v e o h =
      let z : compound1 a_set a ≡ t = cc in
      made (compound1 a_set a) t (set_of (map from_of (items_of x))) v z h
      (set-made a (map from_of (items_of x)) (froms-fit a b (items_of x) (function-items p es a b x o)))
  defined-word any_ty t x v e o h = cc
  defined-word _ t x v e o h = cc

  range-word : (a t : Ty) (x v : Value) → type_of_word1 Fun.Range a ≡ Some t → Of p es a x →
      Some (set_of (map to_of (items_of x))) ≡ Some v → Of p es t v
  range-word (compound a_function (more_tys a (more_tys b no_tys))) t x v e o h =
      let z : compound1 a_set b ≡ t = cc in
      made (compound1 a_set b) t (set_of (map to_of (items_of x))) v z h
      (set-made b (map to_of (items_of x)) (tos-fit a b (items_of x) (function-items p es a b x o)))
  range-word any_ty t x v e o h = cc
  range-word _ t x v e o h = cc

  to_relation-word : (a t : Ty) (x v : Value) → type_of_word1 Fun.ToRelation a ≡ Some t → Of p es a x →
      Some (relation_of (items_of x)) ≡ Some v → Of p es t v
  to_relation-word (compound a_function (more_tys a (more_tys b no_tys))) t x v e o h =
      let z : compound2 a_relation a b ≡ t = cc in
      made (compound2 a_relation a b) t (relation_of (items_of x)) v z h
      (relation-made a b (items_of x) (function-items p es a b x o))
  to_relation-word any_ty t x v e o h = cc
  to_relation-word _ t x v e o h = cc

  parts-word : (a t : Ty) (x v : Value) → type_of_word1 Fun.Parts a ≡ Some t → Of p es a x → Some (set_of (items_of x)) ≡ Some v →
      Of p es t v
  parts-word (compound a_partition (more_tys a no_tys)) t x v e o h =
      let z : compound1 a_set (compound1 a_set a) ≡ t = cc in
      made (compound1 a_set (compound1 a_set a)) t (set_of (items_of x)) v z h
      (set-made (compound1 a_set a) (items_of x)
      (all-map (is_part (is_of p es a)) (is_of p es (compound1 a_set a)) (items_of x) (part-fits p es a)
      (partition-items p es a x o)))
  parts-word any_ty t x v e o h = cc
  parts-word _ t x v e o h = cc

  participants-word : (a t : Ty) (x v : Value) → type_of_word1 Fun.Participants a ≡ Some t → Of p es a x →
      Some (set_of (append_all (map items_of (items_of x)))) ≡ Some v → Of p es t v
  participants-word (compound a_partition (more_tys a no_tys)) t x v e o h =
      let z : compound1 a_set a ≡ t = cc in
      made (compound1 a_set a) t (set_of (append_all (map items_of (items_of x)))) v z h
      (set-made a (append_all (map items_of (items_of x)))
      (all-of-each (is_of p es a) (items_of x)
      (all-map (is_part (is_of p es a)) (λ y. list_all (is_of p es a) (items_of y)) (items_of x)
      (λ y q. (set-items p es a y (part-fits p es a y q)).1) (partition-items p es a x o))))
  participants-word any_ty t x v e o h = cc
  participants-word _ t x v e o h = cc

  -- What a word on one operand gives.
  pub word1-fits : (f : Fun) (a t : Ty) (x v : Value) → is_truth_word f ≡ false → type_of_word1 f a ≡ Some t → Of p es a x →
      value_of_word1 f x ≡ Some v → Of p es t v
  word1-fits Fun.Sum a t x v n e o h = whole-fits _ t v (list-result (list_ty a) int_ty int_ty t e) h
  word1-fits Fun.Product a t x v n e o h = whole-fits _ t v (list-result (list_ty a) int_ty int_ty t e) h
  word1-fits Fun.ToInt a t x v n e o h = whole-fits _ t v (fit-result a bool_ty int_ty t e) h
  word1-fits Fun.Min a t x v n e o h = least-all (is_of p es t) (items_of x) v (items-fit p es a t x (extreme-member a t e) o) h
  word1-fits Fun.Max a t x v n e o h = greatest-all (is_of p es t) (items_of x) v (items-fit p es a t x (extreme-member a t e) o) h
  word1-fits Fun.Defined a t x v n e o h = defined-word a t x v e o h
  word1-fits Fun.Range a t x v n e o h = range-word a t x v e o h
  word1-fits Fun.ToSet a t x v n e o h = to_set-word a t x v e o h
  word1-fits Fun.ToMSet a t x v n e o h = to_mset-word a t x v e o h
  word1-fits Fun.ToRelation a t x v n e o h = to_relation-word a t x v e o h
  word1-fits Fun.Parts a t x v n e o h = parts-word a t x v e o h
  word1-fits Fun.Participants a t x v n e o h = participants-word a t x v e o h
  word1-fits Fun.And a t x v n e o h = cc
  word1-fits Fun.Or a t x v n e o h = cc
  word1-fits Fun.AllDiff a t x v n e o h = cc
  word1-fits Fun.Together a t x v n e o h = cc
  word1-fits Fun.Image a t x v n e o h = cc
  word1-fits Fun.PreImage a t x v n e o h = cc
  word1-fits Fun.Freq a t x v n e o h = cc
  word1-fits Fun.Party a t x v n e o h = cc

  -- ---- words on two operands

  image-fits : (f x t : Ty) (a b v : Value) → type_of_word2 Fun.Image f x ≡ Some t → Of p es f a → value_at (items_of a) b ≡ Some v →
      Of p es t v
  image-fits (compound a_function (more_tys c (more_tys d no_tys))) x t a b v e o h =
      let z : d ≡ t = fit-result c x d t (sym (image-type c d x) ∙ e) in
      subst (λ y. Of p es y v) z
      (value-at-all (is_of p es d) (items_of a) b v
      (all-map (is_pair_of p es c d) (λ y. is_of p es d (to_of y)) (items_of a) (to-fits c d) (function-items p es c d a o)) h)
  image-fits any_ty x t a b v e o h = cc
  image-fits _ x t a b v e o h = cc

  preimage-type : (c d y t : Ty) → type_of_word2 Fun.PreImage (compound2 a_function c d) y ≡ Some t → compound1 a_set c ≡ t
  preimage-type c d y t e = go c (join d y) refl e
    where
      go : (c : Ty) (o : Option Ty) → join d y ≡ o → type_of_word2 Fun.PreImage (compound2 a_function c d) y ≡ Some t →
          compound1 a_set c ≡ t
      go any_ty None q e = let z = rw q at e in cc
      go any_ty (Some w) q e = let z = rw q at e in cc
      go bool_ty None q e = let z = rw q at e in cc
      go bool_ty (Some w) q e = let z = rw q at e in cc
      go int_ty None q e = let z = rw q at e in cc
      go int_ty (Some w) q e = let z = rw q at e in cc
      go (named_ty n) None q e = let z = rw q at e in cc
      go (named_ty n) (Some w) q e = let z = rw q at e in cc
      go (compound k ts) None q e = let z = rw q at e in cc
      go (compound k ts) (Some w) q e = let z = rw q at e in cc

  preimage-fits : (f y t : Ty) (a b v : Value) → type_of_word2 Fun.PreImage f y ≡ Some t → Of p es f a →
      Some (set_of (map from_of (filter (λ x. same (to_of x) b) (items_of a)))) ≡ Some v → Of p es t v
  preimage-fits (compound a_function (more_tys c (more_tys d no_tys))) y t a b v e o h =
      made (compound1 a_set c) t (set_of (map from_of (filter (λ x. same (to_of x) b) (items_of a)))) v (preimage-type c d y t e) h
      (set-made c (map from_of (filter (λ x. same (to_of x) b) (items_of a)))
      (froms-fit c d (filter (λ x. same (to_of x) b) (items_of a))
      (all-filtered (is_pair_of p es c d) (λ x. same (to_of x) b) (items_of a) (function-items p es c d a o))))
  preimage-fits any_ty y t a b v e o h = cc
  preimage-fits _ y t a b v e o h = cc

  party-type : (c x t : Ty) → type_of_word2 Fun.Party x (compound1 a_partition c) ≡ Some t →
      (w : Ty) × (join c x ≡ Some w) × (compound1 a_set w ≡ t)
  party-type c x t e = go (join c x) refl e
    where
      go : (o : Option Ty) → join c x ≡ o → type_of_word2 Fun.Party x (compound1 a_partition c) ≡ Some t →
          (w : Ty) × (join c x ≡ Some w) × (compound1 a_set w ≡ t)
      go None q e = let z = rw q at e in cc
      go (Some w) q e = let z = rw q at e in let r : compound1 a_set w ≡ t = cc in (w, q, r)

  party-fits : (x f t : Ty) (a b v : Value) → type_of_word2 Fun.Party x f ≡ Some t → Of p es f b → part_with (items_of b) a ≡ Some v →
      Of p es t v
  party-fits x (compound a_partition (more_tys c no_tys)) t a b v e o h =
      let r = party-type c x t e in
      subst (λ y. Of p es y v) r.2
      (compound-sub p es a_set (more_tys c no_tys) (more_tys r.0 no_tys) ((join-both p es c x r.0 r.1).0, tt) v
      (part-with-all (is_of p es (compound1 a_set c)) (items_of b) a v
      (all-map (is_part (is_of p es c)) (is_of p es (compound1 a_set c)) (items_of b) (part-fits p es c) (partition-items p es c b o))
      h))
  party-fits x any_ty t a b v e o h = cc
  party-fits x _ t a b v e o h = cc

  -- What a word on two operands gives.
  pub word2-fits : (f : Fun) (a b t : Ty) (x y v : Value) → is_truth_word f ≡ false → type_of_word2 f a b ≡ Some t → Of p es a x →
      Of p es b y → value_of_word2 f x y ≡ Some v → Of p es t v
  word2-fits Fun.Image a b t x y v n e o q h = image-fits a b t x y v e o h
  word2-fits Fun.PreImage a b t x y v n e o q h = preimage-fits a b t x y v e o h
  word2-fits Fun.Freq a b t x y v n e o q h = whole-fits _ t v (fit-result a (compound1 a_mset b) int_ty t e) h
  word2-fits Fun.Party a b t x y v n e o q h = party-fits a b t x y v e q h
  word2-fits Fun.Together a b t x y v n e o q h = cc
  word2-fits _ a b t x y v n e o q h = cc

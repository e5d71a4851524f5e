-- Two sets, two relations or two multisets: what inclusion and equality say of their members.
use Rattle.std.proofs.Common.{◌≡◌, refl, sym, ap, ◌∙◌, subst, ℕ, zero, suc, ◌≤◌, Bool, true, false, ◌&&◌, not, if◌then◌else◌, List, [], ◌∷◌, pos, Option, Some, nat_le, arith, le_refl}
use Rattle.std.specs.Prelude.{IsTrue}
use Rattle.std.specs.List.{list_all}
use Rattle.std.proofs.lemmas.Bool.{leb-true, le-leb}
use Rattle.ess_semantics.specs.Values.{Kind, a_set, a_mset, a_relation, Value, number, node, Values, to_list, of_list, items_of, itself}
use Rattle.ess_semantics.specs.Order.{same}
use Rattle.ess_semantics.specs.Collections.{holds, count, rises, rises_weakly, sorted_once}
use Rattle.ess_semantics.specs.Types.{Ty, Tys, no_tys, more_tys, compound}
use Rattle.ess_semantics.specs.TypeMembers.{is_of}
use Rattle.ess_semantics.specs.Meaning.{TypeEntry}
use Rattle.ess_semantics.specs.Operators.{within}
use Rattle.ess_semantics.proofs.Tests.{and-left, and-right, and-both, both-ways}
use Rattle.ess_semantics.proofs.Orders.{of_list-to_list, same-itself, same-equal}
use Rattle.ess_semantics.proofs.Sorting.{Distinct, sorted-of, one-sorted-list, all-holds, holds-all, all-sorted_once}
use Rattle.ess_semantics.proofs.Multisets.{one-sorted-bag, count-holds, holds-count, same-members}
use Rattle.ess_semantics.proofs.Repeats.{sorted-distinct}
use Rattle.ess_rules_laws.specs.InclusionRules.{both_sets, both_msets}

-- ---- counts

-- A value that isn't in a list is there no times.
pub count-absent : (xs : List Value) (v : Value) → holds xs v ≡ false → count xs v ≡ 0
count-absent xs v h = go (count xs v) refl
  where
    go : (n : ℕ) → count xs v ≡ n → count xs v ≡ 0
    go zero e = e
    go (suc n) e = let t = count-holds xs v n e in cc

-- One that is there is there once at least.
pub count-present : (xs : List Value) (v : Value) → holds xs v ≡ true → 1 ≤ count xs v
count-present xs v h = go (count xs v) refl
  where
    go : (n : ℕ) → count xs v ≡ n → 1 ≤ count xs v
    go zero e = let t = holds-count xs v e in cc
    go (suc n) e = omega arith

-- Where each item of a is in b as often at least, each value is.
pub within-counts : (a b : Value) → within a b ≡ true → (v : Value) → count (items_of a) v ≤ count (items_of b) v
within-counts a b h v = go (holds (items_of a) v) refl
  where
    go : (t : Bool) → holds (items_of a) v ≡ t → count (items_of a) v ≤ count (items_of b) v
    go true q = leb-true _ _ (all-holds (λ x. nat_le (count (items_of a) x) (count (items_of b) x)) (items_of a) v h q)
    go false q = let e = count-absent (items_of a) v q in omega arith

-- A container includes itself.
pub within-itself : (a : Value) → within a a ≡ true
within-itself a = holds-all _ (items_of a) (λ v h. le-leb (count (items_of a) v) (count (items_of a) v) (le_refl (count (items_of a) v)))

-- Two that include each other have the same items equally often.
pub within-both : (a b : Value) → within a b ≡ true → within b a ≡ true → (v : Value) → count (items_of a) v ≡ count (items_of b) v
within-both a b h k v = let p = within-counts a b h v in let q = within-counts b a k v in omega arith

-- ---- two sets, two multisets

-- Two values of one kind whose parts, in lists with the property R, are told by their counts.
pub record Pair (R : List Value → Type 0) (a b : Value) : Type 0 where
  pub kind : Kind
  pub left : Values
  pub right : Values
  pub left_is : a ≡ node kind left
  pub right_is : b ≡ node kind right
  pub left_items : items_of a ≡ to_list left
  pub right_items : items_of b ≡ to_list right
  pub left_rises : R (to_list left)
  pub right_rises : R (to_list right)
  pub parts : (us : Values) → items_of (node kind us) ≡ to_list us

-- Lists that rise strictly.
abbrev pub Strictly : List Value → Type 0
Strictly xs = rises itself xs ≡ true

-- Lists that rise.
abbrev pub Weakly : List Value → Type 0
Weakly xs = rises_weakly xs ≡ true

module _ (R : List Value → Type 0) (one : (xs ys : List Value) → R xs → R ys → ((v : Value) → count xs v ≡ count ys v) → xs ≡ ys) where
  -- They are equal where their counts are.
  pub pair-equal : (a b : Value) → Pair R a b → ((v : Value) → count (items_of a) v ≡ count (items_of b) v) → a ≡ b
  pair-equal a b p h =
      p.left_is
      ∙ ap (node p.kind) (sym (of_list-to_list p.left)
      ∙ ap of_list (one (to_list p.left) (to_list p.right) p.left_rises p.right_rises
      (λ v. ap (λ l. count l v) (sym p.left_items) ∙ h v ∙ ap (λ l. count l v) p.right_items)) ∙ of_list-to_list p.right)
      ∙ sym p.right_is

  -- Strict inclusion.
  pub pair-strictly : (a b : Value) → Pair R a b → within a b && not (same a b) ≡ within a b && not (within b a)
  pair-strictly a b p = go (within a b) refl
    where
      go : (t : Bool) → within a b ≡ t → t && not (same a b) ≡ t && not (within b a)
      go false q = refl
      go true q = ap not (both-ways (same a b) (within b a) (λ e. subst (λ z. within z a ≡ true) (same-equal a b e) (within-itself a))
          (λ e. subst (λ z. same a z ≡ true) (pair-equal a b p (within-both a b q e)) (same-itself a)))

-- Strictly rising lists with the same items are one.
pub one-strictly : (xs ys : List Value) → Strictly xs → Strictly ys → ((v : Value) → count xs v ≡ count ys v) → xs ≡ ys
one-strictly xs ys p q h = one-sorted-list xs ys p q (same-members xs ys h)

-- ---- sets

-- A list without repeats has each value once at most.
count-one : (xs : List Value) (v : Value) → Distinct xs → count xs v ≤ 1
count-one [] v d = omega arith
count-one (x ∷ xs) v d = go (same x v) refl (count-one xs v d.1)
  where
    go : (b : Bool) → same x v ≡ b → count xs v ≤ 1 → (if b then suc (count xs v) else count xs v) ≤ 1
    go false q h = h
    go true q h = let z = count-absent xs v (ap (holds xs) (sym (same-equal x v q)) ∙ d.0) in omega arith

-- No member of a set is there twice.
pub set-count : (xs : List Value) (v : Value) → Strictly xs → count xs v ≤ 1
set-count xs v r = count-one xs v (sorted-distinct xs (sorted-of xs r))

-- Inclusion of sets.
pub set-within : (a b : Value) → Pair Strictly a b → within a b ≡ list_all (λ x. holds (items_of b) x) (items_of a)
set-within a b p = both-ways _ _
    (λ h. holds-all _ (items_of a) (λ v q. go v (holds (items_of b) v) refl q (within-counts a b h v)))
    (λ h. holds-all _ (items_of a) (λ v q. let c = count-present (items_of b) v (all-holds _ (items_of a) v h q) in
    let d = subst (λ l. count l v ≤ 1) (sym p.left_items) (set-count (to_list p.left) v p.left_rises) in le-leb _ _ (omega arith)))
  where
    go : (v : Value) (t : Bool) → holds (items_of b) v ≡ t → holds (items_of a) v ≡ true → count (items_of a) v ≤ count (items_of b) v → t ≡ true
    go v true e q c = refl
    go v false e q c = let x = count-absent (items_of b) v e in let y = count-present (items_of a) v q in absurd (omega arith)

-- Equality of sets.
pub set-equal : (a b : Value) → Pair Strictly a b → same a b ≡ list_all (λ x. holds (items_of b) x) (items_of a) && list_all (λ x. holds (items_of a) x) (items_of b)
set-equal a b p = both-ways _ _
    (λ h. let e = same-equal a b h in and-both _ _ (subst (λ z. list_all (λ x. holds (items_of z) x) (items_of a) ≡ true) e (holds-all _ (items_of a) (λ v q. q)))
    (subst (λ z. list_all (λ x. holds (items_of a) x) (items_of z) ≡ true) e (holds-all _ (items_of a) (λ v q. q))))
    (λ h. subst (λ z. same a z ≡ true) (pair-equal Strictly one-strictly a b p (within-both a b (set-within a b p ∙ and-left _ _ h) (set-within b a (turned a b p) ∙ and-right _ _ h))) (same-itself a))
  where
    turned : (a b : Value) → Pair Strictly a b → Pair Strictly b a
    turned a b p = record { kind = p.kind; left = p.right; right = p.left; left_is = p.right_is; right_is = p.left_is; left_items = p.right_items; right_items = p.left_items; left_rises = p.right_rises; right_rises = p.left_rises; parts = p.parts }

-- ---- multisets

-- Equality of multisets.
pub mset-equal : (a b : Value) → Pair Weakly a b →
    same a b ≡ list_all (λ x. same (number (pos (count (items_of a) x))) (number (pos (count (items_of b) x)))) (sorted_once (items_of a)) && list_all (λ x. holds (items_of a) x) (items_of b)
mset-equal a b p = both-ways _ _
    (λ h. let e = same-equal a b h in and-both _ _
    (subst (λ z. list_all (λ x. same (number (pos (count (items_of a) x))) (number (pos (count (items_of z) x)))) (sorted_once (items_of a)) ≡ true) e (holds-all _ (sorted_once (items_of a)) (λ v q. same-itself (number (pos (count (items_of a) v))))))
    (subst (λ z. list_all (λ x. holds (items_of a) x) (items_of z) ≡ true) e (holds-all _ (items_of a) (λ v q. q))))
    (λ h. subst (λ z. same a z ≡ true) (pair-equal Weakly one-sorted-bag a b p (λ v. equal v
    (sym (all-sorted_once (λ x. same (number (pos (count (items_of a) x))) (number (pos (count (items_of b) x)))) (items_of a)) ∙ and-left _ _ h) (and-right _ _ h) (holds (items_of a) v) refl (holds (items_of b) v) refl)) (same-itself a))
  where
    equal : (v : Value) → list_all (λ x. same (number (pos (count (items_of a) x))) (number (pos (count (items_of b) x)))) (items_of a) ≡ true → list_all (λ x. holds (items_of a) x) (items_of b) ≡ true →
        (s : Bool) → holds (items_of a) v ≡ s → (t : Bool) → holds (items_of b) v ≡ t → count (items_of a) v ≡ count (items_of b) v
    equal v h k true q t r = let e : number (pos (count (items_of a) v)) ≡ number (pos (count (items_of b) v)) = same-equal _ _ (all-holds _ (items_of a) v h q) in cc
    equal v h k false q true r = let e = all-holds _ (items_of b) v k r in cc
    equal v h k false q false r = count-absent (items_of a) v q ∙ sym (count-absent (items_of b) v r)

-- ---- what types say

module _ (p : Bool) (es : List TypeEntry) where
  set-value : (ts : Tys) (v : Value) → is_of p es (compound a_set ts) v ≡ true → (vs : Values) × (v ≡ node a_set vs) × Strictly (to_list vs)
  set-value (more_tys t no_tys) (node a_set vs) h = (vs, refl, and-left _ _ h)
  set-value _ _ h = cc

  relation-value : (ts : Tys) (v : Value) → is_of p es (compound a_relation ts) v ≡ true → (vs : Values) × (v ≡ node a_relation vs) × Strictly (to_list vs)
  relation-value ts (node a_relation vs) h = (vs, refl, and-left _ _ h)
  relation-value _ _ h = cc

  mset-value : (ts : Tys) (v : Value) → is_of p es (compound a_mset ts) v ≡ true → (vs : Values) × (v ≡ node a_mset vs) × Weakly (to_list vs)
  mset-value (more_tys t no_tys) (node a_mset vs) h = (vs, refl, and-left _ _ h)
  mset-value _ _ h = cc

  together : (R : List Value → Type 0) (k : Kind) → ((us : Values) → items_of (node k us) ≡ to_list us) → (a b : Value) →
      ((vs : Values) × (a ≡ node k vs) × R (to_list vs)) → ((vs : Values) × (b ≡ node k vs) × R (to_list vs)) → Pair R a b
  together R k parts a b x y = record {
    kind = k;
    left = x.0;
    right = y.0;
    left_is = x.1;
    right_is = y.1;
    left_items = ap items_of x.1 ∙ parts x.0;
    right_items = ap items_of y.1 ∙ parts y.0;
    left_rises = x.2;
    right_rises = y.2;
    parts = parts;
  }

  -- Values of two types that are both of sets or both of relations.
  pub sets-of : (t u : Option Ty) (a b : Value) → both_sets t u ≡ true → ((s : Ty) → t ≡ Some s → IsTrue (is_of p es s a)) → ((s : Ty) → u ≡ Some s → IsTrue (is_of p es s b)) → Pair Strictly a b
  sets-of (Some (compound a_set ts)) (Some (compound a_set us)) a b h f g =
      together Strictly a_set (λ us. refl) a b (set-value ts a (f (compound a_set ts) refl)) (set-value us b (g (compound a_set us) refl))
  sets-of (Some (compound a_relation ts)) (Some (compound a_relation us)) a b h f g =
      together Strictly a_relation (λ us. refl) a b (relation-value ts a (f (compound a_relation ts) refl)) (relation-value us b (g (compound a_relation us) refl))
  sets-of _ _ a b h f g = cc

  -- The same of multisets.
  pub msets-of : (t u : Option Ty) (a b : Value) → both_msets t u ≡ true → ((s : Ty) → t ≡ Some s → IsTrue (is_of p es s a)) → ((s : Ty) → u ≡ Some s → IsTrue (is_of p es s b)) → Pair Weakly a b
  msets-of (Some (compound a_mset ts)) (Some (compound a_mset us)) a b h f g =
      together Weakly a_mset (λ us. refl) a b (mset-value ts a (f (compound a_mset ts) refl)) (mset-value us b (g (compound a_mset us) refl))
  msets-of _ _ a b h f g = cc

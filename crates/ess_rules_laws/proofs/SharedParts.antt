-- Two partitions are equal where each part of one lies in a part of the other.
use Rattle.std.proofs.Common.{◌≡◌, refl, sym, ap, ◌∙◌, subst, Bool, true, false, ◌&&◌, ◌||◌, not, List, [], ◌∷◌, ◌++◌, Option, Some, arith}
use Rattle.std.specs.Prelude.{IsTrue}
use Rattle.std.specs.List.{list_all, list_any}
use Rattle.ess_semantics.specs.Lists.{is_empty}
use Rattle.ess_semantics.specs.Values.{a_set, a_partition, Value, node, Values, to_list, of_list, items_of, itself}
use Rattle.ess_semantics.specs.Order.{same}
use Rattle.ess_semantics.specs.Collections.{holds, rises}
use Rattle.ess_semantics.specs.Types.{Ty, Tys, no_tys, more_tys, compound}
use Rattle.ess_semantics.specs.TypeMembers.{is_of}
use Rattle.ess_semantics.specs.Membership.{is_set, is_part}
use Rattle.ess_semantics.specs.Meaning.{TypeEntry}
use Rattle.ess_semantics.specs.Operators.{within}
use Rattle.ess_semantics.proofs.Tests.{and-left, and-right, and-both, both-ways, or-right-no, or-yes, not-true}
use Rattle.ess_semantics.proofs.Orders.{of_list-to_list, same-itself, same-equal}
use Rattle.ess_semantics.proofs.Sorting.{Distinct, one-sorted-list, all-holds, holds-all}
use Rattle.ess_semantics.proofs.Overlaps.{all_members, holds-append, no-overlap}
use Rattle.ess_rules_laws.specs.PartitionRules.{both_partitions}
use Rattle.ess_rules_laws.proofs.ContainerValues.{Strictly, one-strictly, pair-equal, within-counts, within-itself, within-both, count-present, count-absent}

-- ---- parts that share no member

-- Items of lists that differ: those of the first stand in none behind it.
distinct-append : (xs ys : List Value) → Distinct (xs ++ ys) →
    Distinct ys × ((v : Value) → holds xs v ≡ true → holds ys v ≡ true → ⊥)
distinct-append [] ys d = (d, λ v h k. cc)
distinct-append (x ∷ xs) ys d =
    let r = distinct-append xs ys d.1 in
    let n : holds xs x || holds ys x ≡ false = sym (holds-append xs ys x) ∙ d.0 in
    (r.0, λ v h k. go v (same x v) refl h k n (λ q. r.1 v q k))
  where
    go : (v : Value) (b : Bool) → same x v ≡ b → b || holds xs v ≡ true → holds ys v ≡ true → holds xs x || holds ys x ≡ false →
        (holds xs v ≡ true → ⊥) → ⊥
    go v true q h k n ih =
        let e = or-right-no (holds xs x) (holds ys x) n in let f : holds ys x ≡ true = ap (holds ys) (same-equal x v q) ∙ k in cc
    go v false q h k n ih = ih h

-- A member of a part is one of all members.
member-of-all : (ps : List Value) (p v : Value) → holds ps p ≡ true → holds (items_of p) v ≡ true → holds (all_members ps) v ≡ true
member-of-all [] p v h k = cc
member-of-all (q ∷ qs) p v h k =
    holds-append (items_of q) (all_members qs) v ∙ go (same q p) refl h (λ e. member-of-all qs p v e k)
  where
    go : (b : Bool) → same q p ≡ b → b || holds qs p ≡ true → (holds qs p ≡ true → holds (all_members qs) v ≡ true) →
        holds (items_of q) v || holds (all_members qs) v ≡ true
    go true e h ih = ap (λ b. b || holds (all_members qs) v) (ap (λ z. holds (items_of z) v) (same-equal q p e) ∙ k)
    go false e h ih = ap (λ b. holds (items_of q) v || b) (ih h) ∙ or-yes (holds (items_of q) v)

-- Two parts that share a member are one.
shared-part : (ps : List Value) (x y v : Value) → Distinct (all_members ps) → holds ps x ≡ true → holds ps y ≡ true →
    holds (items_of x) v ≡ true → holds (items_of y) v ≡ true → x ≡ y
shared-part [] x y v d h k m n = cc
shared-part (p ∷ ps) x y v d h k m n =
    let r = distinct-append (items_of p) (all_members ps) d in
    go (same p x) refl (same p y) refl h k r.1 (λ s t. shared-part ps x y v r.0 s t m n)
  where
    go : (b : Bool) → same p x ≡ b → (c : Bool) → same p y ≡ c → b || holds ps x ≡ true → c || holds ps y ≡ true →
        ((u : Value) → holds (items_of p) u ≡ true → holds (all_members ps) u ≡ true → ⊥) →
        (holds ps x ≡ true → holds ps y ≡ true → x ≡ y) → x ≡ y
    go true q true r h k other ih = sym (same-equal p x q) ∙ same-equal p y r
    go true q false r h k other ih =
        absurd (other v (ap (λ z. holds (items_of z) v) (same-equal p x q) ∙ m) (member-of-all ps y v k n))
    go false q true r h k other ih =
        absurd (other v (ap (λ z. holds (items_of z) v) (same-equal p y r) ∙ n) (member-of-all ps x v h m))
    go false q false r h k other ih = ih h k

-- ---- some item of a list

-- An item for which a test of some item holds.
some-of : (f : Value → Bool) (xs : List Value) → list_any f xs ≡ true → (x : Value) × (holds xs x ≡ true) × (f x ≡ true)
some-of f [] h = cc
some-of f (x ∷ xs) h = go (f x) refl h (some-of f xs)
  where
    go : (b : Bool) → f x ≡ b → b || list_any f xs ≡ true → (list_any f xs ≡ true → (y : Value) × (holds xs y ≡ true) × (f y ≡ true)) →
        (y : Value) × (same x y || holds xs y ≡ true) × (f y ≡ true)
    go true q h ih = (x, ap (λ b. b || holds xs x) (same-itself x), q)
    go false q h ih = let r = ih h in (r.0, ap (λ b. same x r.0 || b) r.1 ∙ or-yes (same x r.0), r.2)

-- A test of some item holds where it does of one.
of-some : (f : Value → Bool) (xs : List Value) (x : Value) → holds xs x ≡ true → f x ≡ true → list_any f xs ≡ true
of-some f [] x h q = cc
of-some f (y ∷ ys) x h q = go (same y x) refl h (λ k. of-some f ys x k q)
  where
    go : (b : Bool) → same y x ≡ b → b || holds ys x ≡ true → (holds ys x ≡ true → list_any f ys ≡ true) → f y || list_any f ys ≡ true
    go true e h ih = ap (λ b. b || list_any f ys) (ap f (same-equal y x e) ∙ q)
    go false e h ih = ap (λ b. f y || b) (ih h) ∙ or-yes (f y)

-- What a container has, one that includes it has.
within-holds : (a b v : Value) → within a b ≡ true → holds (items_of a) v ≡ true → holds (items_of b) v ≡ true
within-holds a b v h k = go (holds (items_of b) v) refl
  where
    go : (t : Bool) → holds (items_of b) v ≡ t → t ≡ true
    go true q = refl
    go false q =
        let c = within-counts a b h v in let d = count-present (items_of a) v k in let e = count-absent (items_of b) v q in
        absurd (omega arith)

-- ---- values of partitions

-- Whether a value may be a part: a set that isn't empty.
abbrev sound_part : Value → Bool
sound_part p = is_set p && rises itself (items_of p) && not (is_empty (items_of p))

-- A value of a type of partitions.
pub record IsPartition (v : Value) : Type 0 where
  pub parts : Values
  pub is_partition : v ≡ node a_partition parts
  pub rising : Strictly (to_list parts)
  pub sound : list_all sound_part (to_list parts) ≡ true
  pub apart : Distinct (all_members (to_list parts))

-- What holds of each item of a list by one test holds by a weaker one.
all-weaker : (f g : Value → Bool) (xs : List Value) → ((v : Value) → f v ≡ true → g v ≡ true) → list_all f xs ≡ true → list_all g xs ≡ true
all-weaker f g [] k h = refl
all-weaker f g (x ∷ xs) k h =
    and-both (g x) (list_all g xs) (k x (and-left (f x) (list_all f xs) h)) (all-weaker f g xs k (and-right (f x) (list_all f xs) h))

module _ (p : Bool) (es : List TypeEntry) where
  partition-value : (ts : Tys) (v : Value) → is_of p es (compound a_partition ts) v ≡ true → IsPartition v
  partition-value (more_tys t no_tys) (node a_partition ps) h = record {
    parts = ps;
    is_partition = refl;
    rising = and-left _ _ (and-left _ _ h);
    sound = all-weaker (is_part (is_of p es t)) sound_part (to_list ps) (λ q k. and-left _ _ k) (and-right _ _ (and-left _ _ h));
    apart = no-overlap (to_list ps) (and-right _ _ h);
  }
  partition-value _ _ h = cc

  -- Two values of types of partitions.
  pub partitions-of : (t u : Option Ty) (a b : Value) → both_partitions t u ≡ true → ((s : Ty) → t ≡ Some s → IsTrue (is_of p es s a)) →
      ((s : Ty) → u ≡ Some s → IsTrue (is_of p es s b)) → IsPartition a × IsPartition b
  partitions-of (Some (compound a_partition ts)) (Some (compound a_partition us)) a b h f g =
      (partition-value ts a (f (compound a_partition ts) refl), partition-value us b (g (compound a_partition us) refl))
  partitions-of _ _ a b h f g = cc

-- ---- equality

-- Two sets that include each other are one.
sets-one : (a b : Value) → sound_part a ≡ true → sound_part b ≡ true → within a b ≡ true → within b a ≡ true → a ≡ b
sets-one (node a_set xs) (node a_set ys) h k p q = pair-equal Strictly one-strictly (node a_set xs) (node a_set ys)
    (record {
      kind = a_set;
      left = xs;
      right = ys;
      left_is = refl;
      right_is = refl;
      left_items = refl;
      right_items = refl;
      left_rises = and-left _ _ h;
      right_rises = and-left _ _ k;
      parts = λ us. refl;
    })
    (within-both (node a_set xs) (node a_set ys) p q)
sets-one _ _ h k p q = cc

-- A set that isn't empty has a member.
a-member : (p : Value) → sound_part p ≡ true → (v : Value) × (holds (items_of p) v ≡ true)
a-member p h = go (items_of p)
    (not-true (is_empty (items_of p)) (and-right (is_set p && rises itself (items_of p)) (not (is_empty (items_of p))) h))
  where
    go : (xs : List Value) → is_empty xs ≡ false → (v : Value) × (holds xs v ≡ true)
    go [] e = cc
    go (x ∷ xs) e = (x, ap (λ b. b || holds xs x) (same-itself x))

-- Each part of one list of parts lies in some part of another.
abbrev lie : List Value → List Value → Bool
lie xs ys = list_all (λ x. list_any (within x) ys) xs

-- A part is one of the other list, where each part of one lies in some part of the other.
part-there : (xs ys : List Value) → Distinct (all_members xs) → list_all sound_part xs ≡ true → list_all sound_part ys ≡ true →
    lie xs ys ≡ true → lie ys xs ≡ true → (x : Value) → holds xs x ≡ true → holds ys x ≡ true
part-there xs ys d s t h k x m =
    let q = some-of (within x) ys (all-holds _ xs x h m) in
    let r = some-of (within q.0) xs (all-holds _ ys q.0 k q.1) in
    let v = a-member x (all-holds sound_part xs x s m) in
    let e : x ≡ r.0 = shared-part xs x r.0 v.0 d m r.1 v.1 (within-holds q.0 r.0 v.0 r.2 (within-holds x q.0 v.0 q.2 v.1)) in
    let f : x ≡ q.0 = sets-one x q.0 (all-holds sound_part xs x s m) (all-holds sound_part ys q.0 t q.1) q.2
    (subst (λ z. within q.0 z ≡ true) (sym e) r.2) in
    ap (holds ys) f ∙ q.1

-- Each part of a list lies in itself.
lie-itself : (xs : List Value) → lie xs xs ≡ true
lie-itself xs = holds-all _ xs (λ v h. of-some (within v) xs v h (within-itself v))

-- The two lists of parts are one where each part lies in some part of the other.
pub partition-equal : (a b : Value) → IsPartition a → IsPartition b →
    same a b ≡ list_all (λ x. list_any (within x) (items_of b)) (items_of a) &&
    list_all (λ x. list_any (within x) (items_of a)) (items_of b)
partition-equal a b p q =
    subst (λ z. same z b ≡ lie (items_of z) (items_of b) && lie (items_of b) (items_of z)) (sym p.is_partition)
    (subst (λ z. same (node a_partition p.parts) z ≡ lie (to_list p.parts) (items_of z) && lie (items_of z) (to_list p.parts))
    (sym q.is_partition)
    (both-ways _ _ same-lie lie-same))
  where
    xs : List Value
    xs = to_list p.parts

    ys : List Value
    ys = to_list q.parts

    same-lie : same (node a_partition p.parts) (node a_partition q.parts) ≡ true → lie xs ys && lie ys xs ≡ true
    same-lie h = let e : xs ≡ ys = ap items_of (same-equal (node a_partition p.parts) (node a_partition q.parts) h) in
        subst (λ z. lie xs z && lie z xs ≡ true) e (and-both (lie xs xs) (lie xs xs) (lie-itself xs) (lie-itself xs))

    lie-same : lie xs ys && lie ys xs ≡ true → same (node a_partition p.parts) (node a_partition q.parts) ≡ true
    lie-same h = let h0 = and-left (lie xs ys) (lie ys xs) h in let h1 = and-right (lie xs ys) (lie ys xs) h in
        let e : xs ≡ ys = one-sorted-list xs ys p.rising q.rising (λ v. both-ways (holds xs v) (holds ys v)
        (part-there xs ys p.apart p.sound q.sound h0 h1 v) (part-there ys xs q.apart q.sound p.sound h1 h0 v)) in
        let f : p.parts ≡ q.parts = sym (of_list-to_list p.parts) ∙ ap of_list e ∙ of_list-to_list q.parts in
        subst (λ z. same (node a_partition p.parts) (node a_partition z) ≡ true) f (same-itself (node a_partition p.parts))

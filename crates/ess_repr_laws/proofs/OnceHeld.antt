-- Sets are the parts of a partition where each value is in one of them, and none is empty.
use Rattle.std.proofs.Common.{◌≡◌, refl, sym, ap, ◌∙◌, ℕ, zero, suc, ◌+◌, ◌≤◌, Bool, true, false, ◌&&◌, ◌||◌, not, if◌then◌else◌, List, [], ◌∷◌, length, pos, int_le, Some, nat_eq, arith}
use Rattle.std.proofs.lemmas.Bool.{eq-eqb, eqb-true, le-leb}
use Rattle.std.proofs.lemmas.Cmp.{tied_itself}
use Rattle.std.specs.List.{list_all}
use Rattle.std.specs.Ordering.{is_eq}
use Rattle.std.specs.declared.cmp.Ordering.TheVariants.{Equal}
use Rattle.ess_semantics.specs.Lists.{is_empty}
use Rattle.ess_semantics.specs.Values.{a_set, Value, number, node, Values, to_list, of_list, itself, items_of}
use Rattle.ess_semantics.specs.Order.{orders, same}
use Rattle.ess_semantics.specs.Collections.{holds, count, sorted_once, rises, has_empty_part, has_overlap}
use Rattle.ess_semantics.specs.Domains.{Domain, members, member_list}
use Rattle.ess_semantics.specs.Attributes.{all_equal, part_sizes}
use Rattle.ess_semantics.specs.Membership.{covers, member, same_list}
use Rattle.ess_semantics.proofs.Multisets.{count-holds, holds-count}
use Rattle.ess_semantics.proofs.Orders.{equal-of, orders_exact, orders_total, same-itself, same-equal, to_list-of_list}
use Rattle.ess_semantics.proofs.Overlaps.{all_members, holds-append, no-overlap, overlap-none}
use Rattle.ess_semantics.proofs.Repeats.{count-append}
use Rattle.ess_semantics.proofs.Sorting.{Distinct, all-holds, holds-all, holds-sorted_once, one-set}
use Rattle.ess_semantics.proofs.Tests.{and-left, and-right, and-both, both-ways}
use Rattle.ess_repr_laws.specs.Finite.{Complete}
use Rattle.ess_repr_laws.proofs.BoundedLists.{count-once, sorted-set}
use Rattle.ess_repr_laws.proofs.CanonicalPlaces.{AllOf}

-- A set of members of x.
abbrev pub SetOf : Domain → Value → Type 0
SetOf x p = (xs : Values) × (p ≡ node a_set xs) × (rises itself (to_list xs) ≡ true) × (list_all (member x) (to_list xs) ≡ true)

-- How many of the sets hold u.
abbrev pub times_held : Value → List Value → ℕ
times_held u [] = 0
times_held u (p ∷ ps) = (if holds (items_of p) u then 1 else 0) + times_held u ps

-- Whether this is 1.
abbrev pub is_once_held : List Value → Value → Bool
is_once_held ps u = same (number (pos (times_held u ps))) (number (pos 1))

-- Whether a set has a member.
abbrev pub is_full : Value → Bool
is_full p = int_le (pos 1) (pos (length (items_of p)))

full-list : (xs : List Value) → int_le (pos 1) (pos (length xs)) ≡ not (is_empty xs)
full-list [] = refl
full-list (x ∷ xs) = le-leb 1 (suc (length xs)) (omega arith)

all-full : (ps : List Value) → list_all is_full ps ≡ not (has_empty_part ps)
all-full [] = refl
all-full (p ∷ ps) = ap (λ b. b && list_all is_full ps) (full-list (items_of p)) ∙ ap (λ b. not (is_empty (items_of p)) && b) (all-full ps) ∙ go (is_empty (items_of p)) (has_empty_part ps)
  where
    go : (a b : Bool) → not a && not b ≡ not (a || b)
    go true b = refl
    go false b = refl

held-count : (xs : List Value) (u : Value) → count xs u ≤ 1 → count xs u ≡ (if holds xs u then 1 else 0)
held-count xs u h = go (count xs u) refl h
  where
    go : (n : ℕ) → count xs u ≡ n → n ≤ 1 → count xs u ≡ (if holds xs u then 1 else 0)
    go zero e h = e ∙ ap (λ b. if b then 1 else 0) (sym (holds-count xs u e))
    go (suc n) e h = let z : suc n ≡ 1 = omega (arith, h) in e ∙ z ∙ ap (λ b. if b then 1 else 0) (sym (count-holds xs u n e))

times-count : (x : Domain) (ps : List Value) (u : Value) → AllOf ps (SetOf x) → count (all_members ps) u ≡ times_held u ps
times-count x [] u h = refl
times-count x (p ∷ ps) u h =
    let s = sorted-set (to_list h.0.0) h.0.2 in
    count-append (items_of p) (all_members ps) u
    ∙ ap (λ n. n + count (all_members ps) u) (ap (λ z. count (items_of z) u) h.0.1 ∙ held-count (to_list h.0.0) u (s.1 u) ∙ ap (λ z. if holds (items_of z) u then 1 else 0) (sym h.0.1))
    ∙ ap (λ n. (if holds (items_of p) u then 1 else 0) + n) (times-count x ps u h.1)

all-members-inside : (x : Domain) (ps : List Value) (u : Value) → AllOf ps (SetOf x) → holds (all_members ps) u ≡ true → member x u ≡ true
all-members-inside x [] u h k = cc
all-members-inside x (p ∷ ps) u h k = go (holds (items_of p) u) refl (sym (holds-append (items_of p) (all_members ps) u) ∙ k) (λ z. all-members-inside x ps u h.1 z)
  where
    go : (b : Bool) → holds (items_of p) u ≡ b → holds (items_of p) u || holds (all_members ps) u ≡ true → (holds (all_members ps) u ≡ true → member x u ≡ true) → member x u ≡ true
    go true e c ih = all-holds (member x) (to_list h.0.0) u h.0.3 (sym (ap (λ z. holds (items_of z) u) h.0.1) ∙ e)
    go false e c ih = ih (sym (ap (λ b. b || holds (all_members ps) u) e) ∙ c)

once-distinct : (xs : List Value) → ((v : Value) → count xs v ≤ 1) → Distinct xs
once-distinct [] h = tt
once-distinct (x ∷ xs) h = (go (count xs x) refl, once-distinct xs (λ v. less v (same x v) (h v)))
  where
    less : (v : Value) (b : Bool) → (if b then suc (count xs v) else count xs v) ≤ 1 → count xs v ≤ 1
    less v true h = omega arith
    less v false h = h

    go : (n : ℕ) → count xs x ≡ n → holds xs x ≡ false
    go zero e = holds-count xs x e
    go (suc n) e = let a = h x in let b : count (x ∷ xs) x ≡ suc (count xs x) = ap (λ b. if b then suc (count xs x) else count xs x) (same-itself x) in absurd (omega arith)

one-is : (n : ℕ) → same (number (pos n)) (number (pos 1)) ≡ true → n ≡ 1
one-is n h = inner (same-equal (number (pos n)) (number (pos 1)) h)
  where
    inner : number (pos n) ≡ number (pos 1) → n ≡ 1
    inner z = cc

-- Whether a set has as many members as each of the sets.
abbrev pub is_as_large : List Value → Value → Bool
is_as_large ps p = list_all (λ z. same (number (pos (length (items_of p)))) (number (pos (length (items_of z))))) ps

-- The set has n members.
abbrev Long : ℕ → Value → Type 0
Long n p = length (items_of p) ≡ n

all-long : (n : ℕ) (zs : List Value) → list_all (nat_eq n) (part_sizes zs) ≡ true → AllOf zs (Long n)
all-long n [] h = tt
all-long n (z ∷ zs) h =
    (sym (eqb-true n (length (items_of z)) (and-left (nat_eq n (length (items_of z))) (list_all (nat_eq n) (part_sizes zs)) h)), all-long n zs (and-right (nat_eq n (length (items_of z))) (list_all (nat_eq n) (part_sizes zs)) h))

long-all : (n : ℕ) (zs : List Value) → list_all (λ z. same (number (pos n)) (number (pos (length (items_of z))))) zs ≡ true → list_all (nat_eq n) (part_sizes zs) ≡ true
long-all n [] h = refl
long-all n (z ∷ zs) h =
    and-both (nat_eq n (length (items_of z))) (list_all (nat_eq n) (part_sizes zs))
    (eq-eqb n (length (items_of z)) (inner (length (items_of z)) (same-equal (number (pos n)) (number (pos (length (items_of z)))) (and-left (same (number (pos n)) (number (pos (length (items_of z))))) (list_all (λ z. same (number (pos n)) (number (pos (length (items_of z))))) zs) h))))
    (long-all n zs (and-right (same (number (pos n)) (number (pos (length (items_of z))))) (list_all (λ z. same (number (pos n)) (number (pos (length (items_of z))))) zs) h))
  where
    inner : (m : ℕ) → number (pos n) ≡ number (pos m) → n ≡ m
    inner m e = cc

one-large : (n m : ℕ) (ws : List Value) → m ≡ n → AllOf ws (Long n) → list_all (λ z. same (number (pos m)) (number (pos (length (items_of z))))) ws ≡ true
one-large n m [] e h = refl
one-large n m (w ∷ ws) e h =
    and-both (same (number (pos m)) (number (pos (length (items_of w))))) (list_all (λ z. same (number (pos m)) (number (pos (length (items_of z))))) ws)
    (ap (λ k. same (number (pos m)) (number (pos k))) (h.0 ∙ sym e) ∙ same-itself (number (pos m))) (one-large n m ws e h.1)

all-large : (n : ℕ) (zs ws : List Value) → AllOf zs (Long n) → AllOf ws (Long n) → list_all (is_as_large ws) zs ≡ true
all-large n [] ws h k = refl
all-large n (z ∷ zs) ws h k = and-both (is_as_large ws z) (list_all (is_as_large ws) zs) (one-large n (length (items_of z)) ws h.0 k) (all-large n zs ws h.1 k)

-- Sets are of one size where each is as large as each.
pub one-size : (ps : List Value) → list_all (is_as_large ps) ps ≡ all_equal (part_sizes ps)
one-size [] = refl
one-size (p ∷ ps) =
    both-ways (list_all (is_as_large (p ∷ ps)) (p ∷ ps)) (all_equal (part_sizes (p ∷ ps)))
    (λ h. long-all (length (items_of p)) ps (and-right (same (number (pos (length (items_of p)))) (number (pos (length (items_of p))))) (list_all (λ z. same (number (pos (length (items_of p)))) (number (pos (length (items_of z))))) ps)
    (and-left (is_as_large (p ∷ ps) p) (list_all (is_as_large (p ∷ ps)) ps) h)))
    (λ h. let a = all-long (length (items_of p)) ps h in all-large (length (items_of p)) (p ∷ ps) (p ∷ ps) (refl, a) (refl, a))

module _ (x : Domain) (me : members x ≡ Some (member_list x)) (full : Complete x) (ps : List Value) (sets : AllOf ps (SetOf x)) where
  abbrev us : List Value
  us = member_list x

  abbrev A : List Value
  A = all_members ps

  abbrev Once : Type 0
  Once = (u : Value) → holds us u ≡ true → times_held u ps ≡ 1

  counted : (u : Value) → count A u ≡ times_held u ps
  counted u = times-count x ps u sets

  once-held : Once → (u : Value) → holds us u ≡ true → holds A u ≡ true
  once-held o u h = count-holds A u 0 (counted u ∙ o u h)

  once-apart : Once → Distinct A
  once-apart o = once-distinct A (λ v. go v (count A v) refl)
    where
      go : (v : Value) (n : ℕ) → count A v ≡ n → count A v ≤ 1
      go v zero e = omega (arith, e)
      go v (suc n) e = let z = counted v ∙ o v (full v (all-members-inside x ps v sets (count-holds A v n e))) in omega (arith, z)

  once-covers : Once → covers (members x) ps ≡ true
  once-covers o =
      ap (λ m. covers m ps) me
      ∙ ap (λ l. same_list l (sorted_once A)) (one-set us A (λ v. both-ways (holds us v) (holds A v) (once-held o v) (λ h. full v (all-members-inside x ps v sets h))))
      ∙ ap is_eq (tied_itself orders_total (of_list (sorted_once A)))

  apart-once : Distinct A → covers (members x) ps ≡ true → Once
  apart-once d c u h =
      let e : sorted_once us ≡ sorted_once A = lists (sorted_once us) (sorted_once A) (equal-of (orders (of_list (sorted_once us)) (of_list (sorted_once A))) (sym (ap (λ m. covers m ps) me) ∙ c)) in
      let k : holds A u ≡ true = sym (holds-sorted_once A u) ∙ ap (λ l. holds l u) (sym e) ∙ holds-sorted_once us u ∙ h in
      let a = count-once A u d in sym (counted u) ∙ held-count A u a ∙ ap (λ b. if b then 1 else 0) k
    where
      lists : (xs ys : List Value) → orders (of_list xs) (of_list ys) ≡ Equal → xs ≡ ys
      lists xs ys q = sym (to_list-of_list xs) ∙ ap to_list (orders_exact (of_list xs) (of_list ys) q) ∙ to_list-of_list ys

  -- So are the parts of a partition.
  pub once-parts : list_all (is_once_held ps) us && list_all is_full ps ≡ (not (has_empty_part ps) && not (has_overlap ps)) && covers (members x) ps
  once-parts =
      ap (λ b. list_all (is_once_held ps) us && b) (all-full ps)
      ∙ both-ways (list_all (is_once_held ps) us && not (has_empty_part ps)) ((not (has_empty_part ps) && not (has_overlap ps)) && covers (members x) ps)
      (λ h. let o : Once = to-once (and-left (list_all (is_once_held ps) us) (not (has_empty_part ps)) h) in
      and-both (not (has_empty_part ps) && not (has_overlap ps)) (covers (members x) ps)
      (and-both (not (has_empty_part ps)) (not (has_overlap ps)) (and-right (list_all (is_once_held ps) us) (not (has_empty_part ps)) h) (overlap-none ps (once-apart o))) (once-covers o))
      (λ h.
      let a = and-left (not (has_empty_part ps) && not (has_overlap ps)) (covers (members x) ps) h in
      let c = and-right (not (has_empty_part ps) && not (has_overlap ps)) (covers (members x) ps) h in
      let o : Once = apart-once (no-overlap ps (and-right (not (has_empty_part ps)) (not (has_overlap ps)) a)) c in
      and-both (list_all (is_once_held ps) us) (not (has_empty_part ps))
      (holds-all (is_once_held ps) us (λ u k. ap (λ n. same (number (pos n)) (number (pos 1))) (o u k) ∙ same-itself (number (pos 1)))) (and-left (not (has_empty_part ps)) (not (has_overlap ps)) a))
    where
      to-once : list_all (is_once_held ps) us ≡ true → Once
      to-once h u k = one-is (times_held u ps) (all-holds (is_once_held ps) us u h k)

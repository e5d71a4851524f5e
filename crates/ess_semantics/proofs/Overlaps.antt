-- Sets that share no member: they differ, and sorting them keeps that they share none.
use Rattle.std.proofs.Common.{◌≡◌, refl, sym, ap, ◌∙◌, ℕ, zero, suc, ◌+◌, ◌≤◌, Bool, true, false, ◌||◌, not, if◌then◌else◌, List, [], ◌∷◌, ◌++◌, map, arith}
use Rattle.std.specs.declared.cmp.Ordering.{Ordering}
use Rattle.std.specs.declared.cmp.Ordering.TheVariants.{Less, Equal, Greater}
use Rattle.ess_semantics.specs.Lists.{is_empty, append_all}
use Rattle.ess_semantics.specs.Values.{Value, items_of, itself}
use Rattle.ess_semantics.specs.Order.{order, same}
use Rattle.ess_semantics.specs.Collections.{holds, count, place, place_by, sorted_once, no_twice, has_empty_part, has_overlap}
use Rattle.ess_semantics.proofs.Tests.{or-left-no, or-right-no, or-yes}
use Rattle.ess_semantics.proofs.Orders.{order_exact, same-itself, same-equal}
use Rattle.ess_semantics.proofs.Sorting.{Distinct, distinct-twice, twice-distinct, holds-sorted_once}
use Rattle.ess_semantics.proofs.Multisets.{count-holds, holds-count}
use Rattle.ess_semantics.proofs.Repeats.{count-append}

-- all members of the sets, one set behind the other
abbrev pub all_members : List Value → List Value
all_members ps = append_all (map items_of ps)

pub holds-append : (xs ys : List Value) (v : Value) → holds (xs ++ ys) v ≡ holds xs v || holds ys v
holds-append [] ys v = refl
holds-append (x ∷ xs) ys v = ap (λ b. same x v || b) (holds-append xs ys v) ∙ go (same x v) (holds xs v) (holds ys v)
  where
    go : (a b c : Bool) → a || (b || c) ≡ (a || b) || c
    go true b c = refl
    go false b c = refl

distinct-append : (xs ys : List Value) → Distinct (xs ++ ys) → Distinct ys × ((v : Value) → holds xs v ≡ true → holds ys v ≡ true → ⊥)
distinct-append [] ys d = (d, λ v h k. cc)
distinct-append (x ∷ xs) ys d =
    let r = distinct-append xs ys d.1 in
    let n : holds xs x || holds ys x ≡ false = sym (holds-append xs ys x) ∙ d.0 in
    (r.0, λ v h k. go v (same x v) refl h k n (λ q. r.1 v q k))
  where
    go : (v : Value) (b : Bool) → same x v ≡ b → b || holds xs v ≡ true → holds ys v ≡ true → holds xs x || holds ys x ≡ false → (holds xs v ≡ true → ⊥) → ⊥
    go v true q h k n ih = let e = or-right-no (holds xs x) (holds ys x) n in let f : holds ys x ≡ true = ap (holds ys) (same-equal x v q) ∙ k in cc
    go v false q h k n ih = ih h

member-of-all : (ps : List Value) (p v : Value) → holds ps p ≡ true → holds (items_of p) v ≡ true → holds (all_members ps) v ≡ true
member-of-all [] p v h k = cc
member-of-all (q ∷ qs) p v h k = holds-append (items_of q) (all_members qs) v ∙ go (same q p) refl h (λ e. member-of-all qs p v e k)
  where
    go : (b : Bool) → same q p ≡ b → b || holds qs p ≡ true → (holds qs p ≡ true → holds (all_members qs) v ≡ true) → holds (items_of q) v || holds (all_members qs) v ≡ true
    go true e h ih = ap (λ b. b || holds (all_members qs) v) (ap (λ z. holds (items_of z) v) (same-equal q p e) ∙ k)
    go false e h ih = ap (λ b. holds (items_of q) v || b) (ih h) ∙ or-yes (holds (items_of q) v)

-- a set with a member has one
some-member : (xs : List Value) → is_empty xs ≡ false → (v : Value) × (holds xs v ≡ true)
some-member [] h = cc
some-member (x ∷ xs) h = (x, ap (λ b. b || holds xs x) (same-itself x))

-- Sets that aren't empty and share no member differ.
pub apart-distinct : (ps : List Value) → has_empty_part ps ≡ false → Distinct (all_members ps) → Distinct ps
apart-distinct [] e d = tt
apart-distinct (p ∷ ps) e d =
    let r = distinct-append (items_of p) (all_members ps) d in
    (go (holds ps p) refl (some-member (items_of p) (or-left-no (is_empty (items_of p)) (has_empty_part ps) e)) r.1, apart-distinct ps (or-right-no (is_empty (items_of p)) (has_empty_part ps) e) r.0)
  where
    go : (b : Bool) → holds ps p ≡ b → (v : Value) × (holds (items_of p) v ≡ true) → ((v : Value) → holds (items_of p) v ≡ true → holds (all_members ps) v ≡ true → ⊥) → holds ps p ≡ false
    go false q m n = q
    go true q m n = absurd (n m.0 m.1 (member-of-all ps p m.0 q m.1))

-- ---- counts

count-one : (xs : List Value) (v : Value) → Distinct xs → count xs v ≤ 1
count-one [] v d = omega arith
count-one (x ∷ xs) v d = go (same x v) refl (count-one xs v d.1)
  where
    go : (b : Bool) → same x v ≡ b → count xs v ≤ 1 → (if b then suc (count xs v) else count xs v) ≤ 1
    go false q h = h
    go true q h = let z = none (count xs v) refl in omega arith
      where
        none : (n : ℕ) → count xs v ≡ n → count xs v ≡ 0
        none zero e = e
        none (suc n) e = let t : holds xs x ≡ true = ap (holds xs) (same-equal x v q) ∙ count-holds xs v n e in let f = d.0 in cc

one-count : (xs : List Value) → ((v : Value) → count xs v ≤ 1) → Distinct xs
one-count [] h = tt
one-count (x ∷ xs) h = (go (count xs x) refl, one-count xs (λ v. less v (same x v) (h v)))
  where
    less : (v : Value) (b : Bool) → (if b then suc (count xs v) else count xs v) ≤ 1 → count xs v ≤ 1
    less v true h = omega arith
    less v false h = h

    go : (n : ℕ) → count xs x ≡ n → holds xs x ≡ false
    go zero e = holds-count xs x e
    go (suc n) e = let a = h x in let b : count (x ∷ xs) x ≡ suc (count xs x) = ap (λ b. if b then suc (count xs x) else count xs x) (same-itself x) in absurd (omega arith)

count-place : (p : Value) (ps : List Value) (v : Value) → holds ps p ≡ false → count (all_members (place p ps)) v ≡ count (items_of p) v + count (all_members ps) v
count-place p [] v h = count-append (items_of p) [] v
count-place p (q ∷ qs) v h = go (order p q) refl (count-place p qs v (or-right-no (same q p) (holds qs p) h))
  where
    go : (o : Ordering) → order p q ≡ o → count (all_members (place p qs)) v ≡ count (items_of p) v + count (all_members qs) v →
        count (all_members (place_by o p q qs (place p qs))) v ≡ count (items_of p) v + count (items_of q ++ all_members qs) v
    go Less e ih = count-append (items_of p) (items_of q ++ all_members qs) v
    go Equal e ih = let f : same q p ≡ true = ap (λ z. same z p) (sym (order_exact p q e)) ∙ same-itself p in let g = or-left-no (same q p) (holds qs p) h in cc
    go Greater e ih =
        let a = count-append (items_of q) (all_members (place p qs)) v in
        let b = count-append (items_of q) (all_members qs) v in omega arith

count-sorted_once : (ps : List Value) (v : Value) → Distinct ps → count (all_members (sorted_once ps)) v ≡ count (all_members ps) v
count-sorted_once [] v d = refl
count-sorted_once (p ∷ ps) v d =
    let a = count-place p (sorted_once ps) v (holds-sorted_once ps p ∙ d.0) in
    let b = count-sorted_once ps v d.1 in
    let c = count-append (items_of p) (all_members ps) v in omega arith

-- Sorting keeps that sets share no member.
pub sorted_once-apart : (ps : List Value) → Distinct ps → Distinct (all_members ps) → Distinct (all_members (sorted_once ps))
sorted_once-apart ps d e = one-count (all_members (sorted_once ps)) (λ v. let a = count-sorted_once ps v d in let b = count-one (all_members ps) v e in omega arith)

pub no-overlap : (ps : List Value) → not (has_overlap ps) ≡ true → Distinct (all_members ps)
no-overlap ps h = twice-distinct (all_members ps) (go (no_twice itself (all_members ps)) h)
  where
    go : (b : Bool) → not (not b) ≡ true → b ≡ true
    go true h = refl
    go false h = cc

pub overlap-none : (ps : List Value) → Distinct (all_members ps) → not (has_overlap ps) ≡ true
overlap-none ps d = ap (λ b. not (not b)) (distinct-twice (all_members ps) d)

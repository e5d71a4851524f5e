-- Lists of members with bounded counts, and of functions and matrices, are no longer than their bounds say.
use Rattle.std.proofs.Common.{◌≡◌, refl, sym, ap, ◌∙◌, subst, ℕ, zero, suc, ◌+◌, ◌^◌, ◌≤◌, ◌<◌, Bool, true, false, if◌then◌else◌, List, [], ◌∷◌, map, length, replicate, Option, Some, None, arith, mul-le-mul, le_refl, eq-or-lt_of_le, ◌⊎◌, inl, inr}
use Rattle.std.specs.List.{list_all}
use Rattle.std.specs.Ordering.{is_le}
use Rattle.ess_semantics.specs.Lists.{or_default}
use Rattle.ess_semantics.specs.Values.{Text, Kind, a_function, Value, truth, node, of_list, itself}
use Rattle.ess_semantics.specs.Order.{same}
use Rattle.ess_semantics.specs.Collections.{holds, count, rises, rises_weakly, value_at}
use Rattle.ess_semantics.specs.Domains.{Attribute, Domain, Domains, booleans, integers, named, matrices, functions, no_domains, more_domains, items_from, member_list, lists_of}
use Rattle.ess_semantics.specs.Membership.{member}
use Rattle.ess_semantics.specs.Sizes.{bound, product_bound}
use Rattle.ess_semantics.specs.Layers.{each_repeated}
use Rattle.ess_semantics.specs.ScalarLayers.{elements, nested_of, count_of_places}
use Rattle.ess_repr_laws.specs.Finite.{FiniteAtom, FiniteAtoms}
use Rattle.ess_semantics.proofs.Tests.{and-left, and-right}
use Rattle.ess_semantics.proofs.Orders.{order_total, order_exact, same-equal}
use Rattle.ess_semantics.proofs.Sorting.{Distinct, Below, Rising, sorted-of, all-holds}
use Rattle.ess_semantics.proofs.Multisets.{Under, WeaklyRising, count-holds}
use Rattle.ess_semantics.proofs.Repeats.{sorted-distinct, of-weakly}
use Rattle.ess_repr_laws.proofs.CanonicalPlaces.{AllOf}
use Rattle.ess_repr_laws.proofs.CellsOfMembers.{Inside, map-long}
use Rattle.ess_repr_laws.proofs.CompleteLists.{atom-complete}
use Rattle.ess_repr_laws.proofs.FunctionPairs.{FunctionMember, function-member, firsts, rises-firsts, each-pair, each-first, values-inside, paired, paired-again}
use Rattle.ess_repr_laws.proofs.CellsOfMatrices.{Elements, elements-of}
use Rattle.ess_repr_laws.proofs.Times.{repeated-again}
use Rattle.ess_repr_laws.proofs.Universes.{In, in-map, in-holds, holds-in, AllIn, lists-in, lists-length, all-in, power-most, Universe, sorted}

-- ---- lists of members with bounded counts

-- n numbers, from a on.
abbrev pub from_up : ℕ → ℕ → List ℕ
from_up a zero = []
from_up a (suc n) = a ∷ from_up (suc a) n

-- They are n.
pub from-up-length : (a n : ℕ) → length (from_up a n) ≡ n
from-up-length a zero = refl
from-up-length a (suc n) = ap suc (from-up-length (suc a) n)

-- Each number between is one of them.
pub in-from : (a n k : ℕ) → a ≤ k → k < a + n → In k (from_up a n)
in-from a zero k p q = absurd (omega arith)
in-from a (suc n) k p q = go (eq-or-lt_of_le p) (λ h. in-from (suc a) n k h (omega arith))
  where
    go : (a ≡ k) ⊎ (a < k) → (a < k → In k (from_up (suc a) n)) → (a ≡ k) ⊎ In k (from_up (suc a) n)
    go (inl e) r = inl e
    go (inr h) r = inr (r h)

-- where each value of g is a rising list of f's, each at most m times, there are so many
pub counted : (f g : Value → Bool) (n m : ℕ) (K : Kind) → Universe f n → ((v : Value) → g v ≡ true → (xs : List Value) × (v ≡ node K (of_list xs)) × (rises_weakly xs ≡ true) × (list_all f xs ≡ true) × ((w : Value) → count xs w ≤ m)) → Universe g (suc m ^ n)
counted f g n m K u form = record {
  us = map B choices;
  short = (let e : length (map B choices) ≡ suc m ^ length S = map-long B choices ∙ lists-length (length S) (from_up 0 (suc m)) ∙ ap (λ k. k ^ length S) (from-up-length 0 (suc m)) in
      subst (λ k. k ≤ suc m ^ n) (sym e) (power-most (suc m) (suc m) (length S) n (le_refl (suc m)) s.1 (omega arith)));
  all = λ v h. all' v (form v h);
}
  where
    s : (us : List Value) × (length us ≤ n) × ((v : Value) → f v ≡ true → holds us v ≡ true) × (rises itself us ≡ true)
    s = sorted f n u

    S : List Value
    S = s.0

    B : List ℕ → Value
    B ns = node K (of_list (each_repeated ns S))

    choices : List (List ℕ)
    choices = lists_of (replicate (length S) (from_up 0 (suc m)))

    all' : (v : Value) → (xs : List Value) × (v ≡ node K (of_list xs)) × (rises_weakly xs ≡ true) × (list_all f xs ≡ true) × ((w : Value) → count xs w ≤ m) → holds (map B choices) v ≡ true
    all' v x = holds-in (map B choices) v (subst (λ w. In w (map B choices)) made (in-map B (map (count x.0) S) choices (lists-in (map (count x.0) S) (replicate (length S) (from_up 0 (suc m))) chosen)))
      where
        made : B (map (count x.0) S) ≡ v
        made = ap (λ l. node K (of_list l)) (repeated-again x.0 S x.2 s.3 (λ w h. s.2 w (all-holds f x.0 w x.3 h))) ∙ sym x.1

        each : (zs : List Value) → AllOf (map (count x.0) zs) (λ k. In k (from_up 0 (suc m)))
        each [] = tt
        each (z ∷ zs) = (in-from 0 (suc m) (count x.0 z) (omega arith) (let c = x.4 z in omega arith), each zs)

        chosen : AllIn (map (count x.0) S) (replicate (length S) (from_up 0 (suc m)))
        chosen = subst (λ k. AllIn (map (count x.0) S) (replicate k (from_up 0 (suc m)))) (map-long (count x.0) S) (all-in (from_up 0 (suc m)) (map (count x.0) S) (each S))

-- An item of a list without repeats stands once.
pub count-once : (xs : List Value) (v : Value) → Distinct xs → count xs v ≤ 1
count-once [] v d = omega arith
count-once (x ∷ xs) v d = go (same x v) refl (count-once xs v d.1)
  where
    go : (b : Bool) → same x v ≡ b → count xs v ≤ 1 → (if b then suc (count xs v) else count xs v) ≤ 1
    go false q h = h
    go true q h = let z = none (count xs v) refl in omega arith
      where
        none : (n : ℕ) → count xs v ≡ n → count xs v ≡ 0
        none zero e = e
        none (suc n) e = let t : holds xs x ≡ true = ap (holds xs) (same-equal x v q) ∙ count-holds xs v n e in let f = d.0 in cc

weakly : (xs : List Value) → rises itself xs ≡ true → rises_weakly xs ≡ true
weakly xs h = of-weakly xs (go xs (sorted-of xs h))
  where
    under : (x : Value) (ys : List Value) → Below order_total x ys → Under order_total order_exact x ys
    under x [] b = tt
    under x (y ∷ ys) b = (ap is_le b.0, under x ys b.1)

    go : (xs : List Value) → Rising order_total xs → WeaklyRising order_total order_exact xs
    go [] r = tt
    go (x ∷ xs) r = (under x xs r.0, go xs r.1)

-- A list that rises strictly rises, and has no item twice.
pub sorted-set : (xs : List Value) → rises itself xs ≡ true → (rises_weakly xs ≡ true) × ((w : Value) → count xs w ≤ 1)
sorted-set xs h = (weakly xs h, λ w. count-once xs w (sorted-distinct xs (sorted-of xs h)))

-- ---- atoms

-- The list of a finite atom's members has each of them.
pub atom-universe : (d : Domain) → FiniteAtom d → length (member_list d) ≡ bound d → Universe (member d) (bound d)
atom-universe d f e = record { us = member_list d; short = subst (λ k. length (member_list d) ≤ k) e (le_refl (length (member_list d))); all = atom-complete d f }

-- So many values of a type are listed.
pub items-length : (t : Text) (k n : ℕ) → length (items_from t k n) ≡ n
items-length t k zero = refl
items-length t k (suc n) = ap suc (items-length t (suc k) n)

-- A finite atom has as many members as its bound says.
pub atom-exact : (d : Domain) → FiniteAtom d → length (member_list d) ≡ bound d
atom-exact booleans f = refl
atom-exact (integers ss) f = refl
atom-exact (named t n) f = items-length t 1 n
atom-exact _ f = absurd f.0

-- ---- functions

-- A list that has each function, no longer than the bound.
pub functions-universe : (ks : List Attribute) (d c : Domain) → Universe (member d) (bound d) → Universe (member c) (bound c) → Universe (member (functions ks d c)) (bound (functions ks d c))
functions-universe ks d c u w = record {
  us = map B choices;
  short = (let e : length (map B choices) ≡ suc (length w.us) ^ length S = map-long B choices ∙ lists-length (length S) options ∙ ap (λ k. suc k ^ length S) (map-long (λ (v : Value). Some v) w.us) in
      subst (λ k. k ≤ suc (bound c) ^ bound d) (sym e) (power-most (suc (length w.us)) (suc (bound c)) (length S) (bound d) (let a = w.short in omega arith) s.1 (omega arith)));
  all = λ v h. let m = function-member ks d c v h in all' v m.0 m.1 m.2;
}
  where
    s : (us : List Value) × (length us ≤ bound d) × ((v : Value) → member d v ≡ true → holds us v ≡ true) × (rises itself us ≡ true)
    s = sorted (member d) (bound d) u

    S : List Value
    S = s.0

    options : List (Option Value)
    options = None ∷ map (λ v. Some v) w.us

    B : List (Option Value) → Value
    B os = node a_function (of_list (paired S os))

    choices : List (List (Option Value))
    choices = lists_of (replicate (length S) options)

    all' : (v : Value) (ps : List Value) → v ≡ node a_function (of_list ps) → FunctionMember ks d c ps → holds (map B choices) v ≡ true
    all' v ps form m = holds-in (map B choices) v (subst (λ x. In x (map B choices)) made (in-map B (map (value_at ps) S) choices (lists-in (map (value_at ps) S) (replicate (length S) options) chosen)))
      where
        made : B (map (value_at ps) S) ≡ v
        made =
            ap (λ l. node a_function (of_list l))
            (paired-again S ps (sorted-of S s.3) (sorted-of (firsts ps) (rises-firsts ps m.rise)) (each-pair d c ps m.pairs) (λ x h. s.2 x (all-holds (member d) (firsts ps) x (each-first d c ps m.pairs) h)))
            ∙ sym form

        each : (os : List (Option Value)) → AllOf os (Inside c) → AllOf os (λ o. In o options)
        each [] h = tt
        each (None ∷ os) h = (inl refl, each os h.1)
        each (Some y ∷ os) h = (inr (in-map (λ v. Some v) y w.us (in-holds w.us y (w.all y h.0))), each os h.1)

        chosen : AllIn (map (value_at ps) S) (replicate (length S) options)
        chosen = subst (λ k. AllIn (map (value_at ps) S) (replicate k options)) (map-long (value_at ps) S) (all-in options (map (value_at ps) S) (each (map (value_at ps) S) (values-inside d c ps S m.pairs)))

-- ---- matrices

places-bound : (is : Domains) → FiniteAtoms is → count_of_places is ≤ product_bound is
places-bound no_domains f = le_refl 1
places-bound (more_domains i is) f = mul-le-mul (subst (λ k. length (member_list i) ≤ k) (atom-exact i f.0) (le_refl (length (member_list i)))) (places-bound is f.1)

-- A list that has each matrix, no longer than the bound.
pub matrices-universe : (is : Domains) (d : Domain) → FiniteAtoms is → Universe (member d) (bound d) → Universe (member (matrices is d)) (bound (matrices is d))
matrices-universe is d f u = record {
  us = map B choices;
  short = (let e : length (map B choices) ≡ length u.us ^ count_of_places is = map-long B choices ∙ lists-length (count_of_places is) u.us in
      subst (λ k. k ≤ suc (bound d) ^ product_bound is) (sym e) (power-most (length u.us) (suc (bound d)) (count_of_places is) (product_bound is) (let a = u.short in omega arith) (places-bound is f) (omega arith)));
  all = λ v h. all' v (elements-of is (member d) v h);
}
  where
    B : List Value → Value
    B vs = or_default (nested_of is vs) (truth true)

    choices : List (List Value)
    choices = lists_of (replicate (count_of_places is) u.us)

    each : (xs : List Value) → list_all (member d) xs ≡ true → AllOf xs (λ x. In x u.us)
    each [] h = tt
    each (x ∷ xs) h = (in-holds u.us x (u.all x (and-left (member d x) (list_all (member d) xs) h)), each xs (and-right (member d x) (list_all (member d) xs) h))

    all' : (v : Value) → Elements is (member d) v → holds (map B choices) v ≡ true
    all' v e =
        holds-in (map B choices) v
        (subst (λ x. In x (map B choices)) (ap (λ o. or_default o (truth true)) e.back)
        (in-map B (elements is v) choices (lists-in (elements is v) (replicate (count_of_places is) u.us) (subst (λ k. AllIn (elements is v) (replicate k u.us)) e.long (all-in u.us (elements is v) (each (elements is v) e.inside))))))

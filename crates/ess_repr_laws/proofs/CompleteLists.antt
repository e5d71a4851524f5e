-- The list of a finite atom's members has each of them, and so has that of tuples of such.
use Rattle.std.proofs.Common.{◌≡◌, refl, sym, ap, ◌∙◌, ℕ, zero, suc, ◌+◌, ◌≤◌, ◌<◌, Bool, true, false, ◌&&◌, ◌||◌, List, [], ◌∷◌, map, ℤ, pos, negsuc, ◌+ℤ◌, ◌-ℤ◌, ◌≤ℤ◌, Option, Some, None, option_map, is_some, IsTrue, int_le, nat_le, arith, eq-or-lt_of_le, ◌⊎◌, inl, inr}
use Rattle.std.proofs.lemmas.Bool.{leb-true}
use Rattle.std.proofs.lemmas.Int.{ints}
use Rattle.std.specs.List.{list_any}
use Rattle.ess_semantics.specs.Lists.{and_then, all_some, append_all, is_none_or, list_or_none}
use Rattle.ess_semantics.specs.Values.{Text, a_tuple, a_matrix, a_set, a_mset, a_function, a_relation, a_partition, a_record, Value, number, truth, item, node, Values, nil, cons, of_list, to_list, tuple}
use Rattle.ess_semantics.specs.Order.{same, same_text, order_text}
use Rattle.ess_semantics.specs.Collections.{holds, sorted_once}
use Rattle.ess_semantics.specs.Numbers.{natural}
use Rattle.ess_semantics.specs.Domains.{Span, Domain, Domains, booleans, integers, named, tuples, no_domains, more_domains, numbers_up, interval, span_members, items_from, members, members_of_each, member_list, add_heads, lists_of}
use Rattle.ess_semantics.specs.Membership.{in_span, member, member_of_each}
use Rattle.ess_repr_laws.specs.Finite.{FiniteAtom, FiniteAtoms, Complete}
use Rattle.ess_semantics.proofs.Tests.{and-left, and-right, or-yes, if-not}
use Rattle.ess_semantics.proofs.Orders.{same-itself, same-equal, text_exact, equal-of, of_list-to_list}
use Rattle.ess_semantics.proofs.Sorting.{holds-sorted_once}
use Rattle.ess_semantics.proofs.Overlaps.{holds-append}
use Rattle.ess_repr_laws.proofs.TupleMembers.{map-append}
use Rattle.ess_repr_laws.proofs.Dummies.{le-of}

-- ---- named types

items-hold : (t : Text) (a n k : ℕ) → a ≤ k → k < a + n → holds (items_from t a n) (item t k) ≡ true
items-hold t a zero k p q = absurd (omega arith)
items-hold t a (suc n) k p q = go (eq-or-lt_of_le p) (λ h. items-hold t (suc a) n k h (omega arith))
  where
    go : (a ≡ k) ⊎ (a < k) → (a < k → holds (items_from t (suc a) n) (item t k) ≡ true) → same (item t a) (item t k) || holds (items_from t (suc a) n) (item t k) ≡ true
    go (inl e) r = ap (λ j. same (item t j) (item t k) || holds (items_from t (suc a) n) (item t k)) e ∙ ap (λ b. b || holds (items_from t (suc a) n) (item t k)) (same-itself (item t k))
    go (inr h) r = ap (λ b. same (item t a) (item t k) || b) (r h) ∙ or-yes (same (item t a) (item t k))

named-complete : (t : Text) (n : ℕ) → Complete (named t n)
named-complete t n (item u k) h =
    let e : t ≡ u = text_exact t u (equal-of (order_text t u) (and-left (same_text t u) (nat_le 1 k) (and-left (same_text t u && nat_le 1 k) (nat_le k n) h))) in
    let a : 1 ≤ k = leb-true 1 k (and-right (same_text t u) (nat_le 1 k) (and-left (same_text t u && nat_le 1 k) (nat_le k n) h)) in
    let b : k ≤ n = leb-true k n (and-right (same_text t u && nat_le 1 k) (nat_le k n) h) in
    ap (λ w. holds (items_from t 1 n) (item w k)) (sym e) ∙ items-hold t 1 n k a (omega arith)
named-complete t n (number k) h = cc
named-complete t n (truth b) h = cc
named-complete t n (node k vs) h = cc

-- ---- numbers

numbers-hold : (a b k : ℤ) (n : ℕ) → (a +ℤ pos n) ≡ (b +ℤ pos 1) → a ≤ℤ k → k ≤ℤ b → holds (numbers_up a n) (number k) ≡ true
numbers-hold a b k zero e p q = absurd (omega (arith, ints))
numbers-hold a b k (suc n) e p q = go (same (number a) (number k)) refl (λ h. numbers-hold (a +ℤ pos 1) b k n (omega (arith, ints)) h q)
  where
    above : same (number a) (number k) ≡ false → (a +ℤ pos 1) ≤ℤ k
    above f = let n : a ≡ k → ⊥ = (λ w. let z : true ≡ false = sym (same-itself (number k)) ∙ ap (λ j. same (number j) (number k)) (sym w) ∙ f in cc) in omega (arith, ints)

    go : (c : Bool) → same (number a) (number k) ≡ c → ((a +ℤ pos 1) ≤ℤ k → holds (numbers_up (a +ℤ pos 1) n) (number k) ≡ true) → c || holds (numbers_up (a +ℤ pos 1) n) (number k) ≡ true
    go true f r = refl
    go false f r = r (above f)

interval-holds : (a b k : ℤ) → a ≤ℤ k → k ≤ℤ b → holds (interval a b) (number k) ≡ true
interval-holds a b k p q = go ((b -ℤ a) +ℤ pos 1) refl
  where
    go : (m : ℤ) → (b -ℤ a) +ℤ pos 1 ≡ m → holds (numbers_up a (natural m)) (number k) ≡ true
    go (pos n) e = numbers-hold a b k n (omega (arith, ints)) p q
    go (negsuc n) e = absurd (omega (arith, ints))

span-holds : (s : Span) (k : ℤ) (vs : List Value) → in_span k s ≡ true → span_members s ≡ Some vs → holds vs (number k) ≡ true
span-holds s k vs h q = go s.low s.high h q
  where
    go : (lo hi : Option ℤ) → is_none_or lo (λ a. int_le a k) && is_none_or hi (λ b. int_le k b) ≡ true → and_then lo (λ a. and_then hi (λ b. Some (interval a b))) ≡ Some vs → holds vs (number k) ≡ true
    go None hi h q = cc
    go (Some a) None h q = cc
    go (Some a) (Some b) h q =
        let e : interval a b ≡ vs = cc in
        ap (λ l. holds l (number k)) (sym e) ∙ interval-holds a b k (le-of a k (and-left (int_le a k) (int_le k b) h)) (le-of k b (and-right (int_le a k) (int_le k b) h))

spans-hold : (ss : List Span) (k : ℤ) (ls : List (List Value)) → list_any (in_span k) ss ≡ true → all_some (map span_members ss) ≡ Some ls → holds (append_all ls) (number k) ≡ true
spans-hold [] k ls h q = cc
spans-hold (s ∷ ss) k ls h q = go (span_members s) (all_some (map span_members ss)) refl refl q (λ us e r. spans-hold ss k us e r)
  where
    go : (o : Option (List Value)) (p : Option (List (List Value))) → span_members s ≡ o → all_some (map span_members ss) ≡ p → and_then o (λ x. option_map (λ xs. x ∷ xs) p) ≡ Some ls →
        ((us : List (List Value)) → list_any (in_span k) ss ≡ true → all_some (map span_members ss) ≡ Some us → holds (append_all us) (number k) ≡ true) → holds (append_all ls) (number k) ≡ true
    go None p a b q ih = cc
    go (Some vs) None a b q ih = cc
    go (Some vs) (Some us) a b q ih =
        let e : vs ∷ us ≡ ls = cc in
        ap (λ l. holds (append_all l) (number k)) (sym e) ∙ holds-append vs (append_all us) (number k) ∙ here (in_span k s) refl
      where
        here : (c : Bool) → in_span k s ≡ c → holds vs (number k) || holds (append_all us) (number k) ≡ true
        here true e = ap (λ x. x || holds (append_all us) (number k)) (span-holds s k vs e a)
        here false e = ap (λ x. holds vs (number k) || x) (ih us (if-not (in_span k s) (list_any (in_span k) ss) e h) b) ∙ or-yes (holds vs (number k))

integers-complete : (ss : List Span) → IsTrue (is_some (members (integers ss))) → Complete (integers ss)
integers-complete [] f v h = cc
integers-complete (s ∷ ss) f (number k) h = go (all_some (map span_members (s ∷ ss))) refl f
  where
    go : (o : Option (List (List Value))) → all_some (map span_members (s ∷ ss)) ≡ o → IsTrue (is_some (option_map (λ ls. sorted_once (append_all ls)) o)) → holds (member_list (integers (s ∷ ss))) (number k) ≡ true
    go None q f = cc
    go (Some ls) q f =
        ap (λ o. holds (list_or_none (option_map (λ ls. sorted_once (append_all ls)) o)) (number k)) q ∙ holds-sorted_once (append_all ls) (number k) ∙ spans-hold (s ∷ ss) k ls h q
integers-complete (s ∷ ss) f (truth b) h = cc
integers-complete (s ∷ ss) f (item t k) h = cc
integers-complete (s ∷ ss) f (node k vs) h = cc

booleans-complete : Complete booleans
booleans-complete (truth true) h = refl
booleans-complete (truth false) h = refl
booleans-complete (number k) h = cc
booleans-complete (item t k) h = cc
booleans-complete (node k vs) h = cc

-- Each member of a finite atom is listed.
pub atom-complete : (d : Domain) → FiniteAtom d → Complete d
atom-complete booleans f = booleans-complete
atom-complete (integers ss) f = integers-complete ss f.1
atom-complete (named t n) f = named-complete t n
atom-complete _ f = absurd f.0

-- ---- tuples

-- each list has the value there
abbrev pub InEach : List (List Value) → List Value → Type 0
InEach [] [] = Unit {0}
InEach (vs ∷ ls) (x ∷ xs) = (holds vs x ≡ true) × InEach ls xs
InEach _ _ = ⊥

-- The tuple of a list.
abbrev pub T : List Value → Value
T l = tuple (of_list l)

cons-holds : (x : Value) (xs : List Value) (ms : List (List Value)) → holds (map T ms) (T xs) ≡ true → holds (map T (map (λ l. x ∷ l) ms)) (T (x ∷ xs)) ≡ true
cons-holds x xs [] h = cc
cons-holds x xs (m ∷ ms) h = go (same (T m) (T xs)) refl h (λ e. cons-holds x xs ms e)
  where
    go : (b : Bool) → same (T m) (T xs) ≡ b → b || holds (map T ms) (T xs) ≡ true → (holds (map T ms) (T xs) ≡ true → holds (map T (map (λ l. x ∷ l) ms)) (T (x ∷ xs)) ≡ true) →
        same (T (x ∷ m)) (T (x ∷ xs)) || holds (map T (map (λ l. x ∷ l) ms)) (T (x ∷ xs)) ≡ true
    go true e h ih =
        let q : T m ≡ T xs = same-equal (T m) (T xs) e in
        let l : of_list m ≡ of_list xs = cc in
        ap (λ b. b || holds (map T (map (λ l. x ∷ l) ms)) (T (x ∷ xs))) (ap (λ y. same (tuple (cons x y)) (T (x ∷ xs))) l ∙ same-itself (T (x ∷ xs)))
    go false e h ih = ap (λ b. same (T (x ∷ m)) (T (x ∷ xs)) || b) (ih h) ∙ or-yes (same (T (x ∷ m)) (T (x ∷ xs)))

heads-hold : (vs : List Value) (ls : List (List Value)) (x : Value) (xs : List Value) → holds vs x ≡ true → holds (map T ls) (T xs) ≡ true → holds (map T (add_heads vs ls)) (T (x ∷ xs)) ≡ true
heads-hold [] ls x xs p q = cc
heads-hold (v ∷ vs) ls x xs p q = ap (λ l. holds l (T (x ∷ xs))) (map-append T (map (λ l. v ∷ l) ls) (add_heads vs ls)) ∙ holds-append (map T (map (λ l. v ∷ l) ls)) (map T (add_heads vs ls)) (T (x ∷ xs)) ∙ go (same v x) refl p (λ e. heads-hold vs ls x xs e q)
  where
    go : (b : Bool) → same v x ≡ b → b || holds vs x ≡ true → (holds vs x ≡ true → holds (map T (add_heads vs ls)) (T (x ∷ xs)) ≡ true) →
        holds (map T (map (λ l. v ∷ l) ls)) (T (x ∷ xs)) || holds (map T (add_heads vs ls)) (T (x ∷ xs)) ≡ true
    go true e p ih = ap (λ b. b || holds (map T (add_heads vs ls)) (T (x ∷ xs))) (ap (λ w. holds (map T (map (λ l. w ∷ l) ls)) (T (x ∷ xs))) (same-equal v x e) ∙ cons-holds x xs ls q)
    go false e p ih = ap (λ b. holds (map T (map (λ l. v ∷ l) ls)) (T (x ∷ xs)) || b) (ih p) ∙ or-yes (holds (map T (map (λ l. v ∷ l) ls)) (T (x ∷ xs)))

-- A list with one item from each is among all such lists.
pub lists-hold : (ls : List (List Value)) (xs : List Value) → InEach ls xs → holds (map T (lists_of ls)) (T xs) ≡ true
lists-hold [] [] h = ap (λ b. b || false) (same-itself (T []))
lists-hold (vs ∷ ls) (x ∷ xs) h = heads-hold vs (lists_of ls) x xs h.0 (lists-hold ls xs h.1)
lists-hold [] (x ∷ xs) h = absurd h
lists-hold (vs ∷ ls) [] h = absurd h

finite-lists : (ds : Domains) → FiniteAtoms ds → (ls : List (List Value)) × (all_some (members_of_each ds) ≡ Some ls) × ((vs : Values) → member_of_each ds vs ≡ true → InEach ls (to_list vs))
finite-lists no_domains f = ([], refl, none)
  where
    none : (vs : Values) → member_of_each no_domains vs ≡ true → InEach [] (to_list vs)
    none nil h = tt
    none (cons v vs) h = cc
finite-lists (more_domains d ds) f = go (members d) refl f.0.1 (finite-lists ds f.1) (atom-complete d f.0)
  where
    go : (o : Option (List Value)) → members d ≡ o → IsTrue (is_some o) → (ls : List (List Value)) × (all_some (members_of_each ds) ≡ Some ls) × ((vs : Values) → member_of_each ds vs ≡ true → InEach ls (to_list vs)) → Complete d →
        (ls : List (List Value)) × (all_some (members_of_each (more_domains d ds)) ≡ Some ls) × ((vs : Values) → member_of_each (more_domains d ds) vs ≡ true → InEach ls (to_list vs))
    go None q f r c = cc
    go (Some vs) q f r c = (
      vs ∷ r.0,
      ap (λ o. and_then o (λ x. option_map (λ xs. x ∷ xs) (all_some (members_of_each ds)))) q ∙ ap (option_map (λ xs. vs ∷ xs)) r.1,
      each,
    )
      where
        each : (us : Values) → member_of_each (more_domains d ds) us ≡ true → InEach (vs ∷ r.0) (to_list us)
        each nil h = cc
        each (cons u us) h = (ap (λ o. holds (list_or_none o) u) (sym q) ∙ c u (and-left (member d u) (member_of_each ds us) h), r.2 us (and-right (member d u) (member_of_each ds us) h))

-- Each tuple of finite atoms is listed.
pub tuples-complete : (ds : Domains) → FiniteAtoms ds → Complete (tuples ds)
tuples-complete ds f (node a_tuple vs) h =
    let r = finite-lists ds f in
    ap (λ o. holds (list_or_none (option_map (λ ls. map T (lists_of ls)) o)) (tuple vs)) r.1
    ∙ ap (λ w. holds (map T (lists_of r.0)) (tuple w)) (sym (of_list-to_list vs)) ∙ lists-hold r.0 (to_list vs) (r.2 vs h)
tuples-complete ds f (number n) h = cc
tuples-complete ds f (truth b) h = cc
tuples-complete ds f (item t k) h = cc
tuples-complete ds f (node a_matrix vs) h = cc
tuples-complete ds f (node a_set vs) h = cc
tuples-complete ds f (node a_mset vs) h = cc
tuples-complete ds f (node a_function vs) h = cc
tuples-complete ds f (node a_relation vs) h = cc
tuples-complete ds f (node a_partition vs) h = cc
tuples-complete ds f (node (a_record fs) vs) h = cc

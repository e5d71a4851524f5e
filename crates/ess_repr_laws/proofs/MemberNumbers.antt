-- The numbers of members and of parts: their order, and the part before one with a number above the first.
use Rattle.std.proofs.Common.{◌≡◌, refl, sym, ap, ◌∙◌, subst, ℕ, suc, ◌+◌, ◌≤◌, ◌<◌, Bool, true, false, ◌&&◌, ◌||◌, not, if◌then◌else◌, List, [], ◌∷◌, ◌++◌, length, ℤ, pos, ◌+ℤ◌, int_lt, nat_le, arith, le_refl, ◌⊎◌, inl, inr}
use Rattle.std.specs.List.{list_all}
use Rattle.std.specs.Ordering.{is_lt, nat_cmp, ordering_then}
use Rattle.std.specs.declared.cmp.Ordering.{Ordering}
use Rattle.std.specs.declared.cmp.Ordering.TheVariants.{Less, Equal, Greater}
use Rattle.std.proofs.lemmas.Cmp.{tied_itself}
use Rattle.ess_semantics.specs.Lists.{is_empty}
use Rattle.ess_semantics.specs.Values.{Text, a_set, Value, number, truth, item, node, Values, nil, cons, to_list, items_of, itself}
use Rattle.ess_semantics.specs.Order.{order, orders, same, below, same_int, same_text, order_text}
use Rattle.ess_semantics.specs.Collections.{holds, rises}
use Rattle.ess_semantics.specs.Numbers.{run_from}
use Rattle.ess_semantics.specs.Domains.{Domain, booleans, integers, named}
use Rattle.ess_semantics.specs.Membership.{is_part, member}
use Rattle.ess_semantics.specs.Tables.{code}
use Rattle.ess_semantics.specs.PartitionLayers.{part_number}
use Rattle.ess_semantics.proofs.Tests.{and-left, and-right, and-both, or-yes, or-right-no}
use Rattle.ess_semantics.proofs.Orders.{order_total, order_exact, same_int-equal, same_int-itself, same-itself, same-equal, text_exact, text_total, equal-of}
use Rattle.ess_semantics.proofs.Sorting.{Distinct, less-of, below-less, below-has, holds-has, sorted-of}
use Rattle.ess_repr_laws.proofs.AxesOfTables.{run-differs}
use Rattle.ess_repr_laws.proofs.RowsOfCells.{EachOf}
use Rattle.ess_semantics.proofs.Overlaps.{all_members, holds-append}
use Rattle.ess_repr_laws.proofs.SideBySide.{Along}
use Rattle.ess_repr_laws.proofs.DummyNumbers.{below-numbers, lt-test, nat-less}
use Rattle.ess_repr_laws.proofs.Parts.{part-of}
use Rattle.std.proofs.lemmas.Int.{ints}
use Rattle.ess_semantics.specs.Atoms.{IsAtom}

-- ---- the order of atoms is that of their numbers

-- The numbers of members are in their order.
pub low-codes : (d : Domain) → IsAtom d → (x y : Value) → member d x ≡ true → member d y ≡ true → below x y ≡ true → int_lt (code x) (code y) ≡ true
low-codes booleans a (truth false) (truth true) h g l = refl
low-codes booleans a (truth false) (truth false) h g l = cc
low-codes booleans a (truth true) (truth b) h g l = go b l
  where
    go : (b : Bool) → below (truth true) (truth b) ≡ true → int_lt (code (truth true)) (code (truth b)) ≡ true
    go true l = cc
    go false l = cc
low-codes booleans a (truth b) (number n) h g l = cc
low-codes booleans a (truth b) (item t k) h g l = cc
low-codes booleans a (truth b) (node k vs) h g l = cc
low-codes booleans a (number n) y h g l = cc
low-codes booleans a (item t k) y h g l = cc
low-codes booleans a (node k vs) y h g l = cc
low-codes (integers ss) a (number n) (number m) h g l = below-numbers n m l
low-codes (integers ss) a (number n) (truth b) h g l = cc
low-codes (integers ss) a (number n) (item t k) h g l = cc
low-codes (integers ss) a (number n) (node k vs) h g l = cc
low-codes (integers ss) a (truth b) y h g l = cc
low-codes (integers ss) a (item t k) y h g l = cc
low-codes (integers ss) a (node k vs) y h g l = cc
low-codes (named t n) a (item u k) (item w j) h g l = lt-test (pos k) (pos j) (let s = smaller in omega (arith, ints))
  where
    type : (u : Text) (k : ℕ) → same_text t u && nat_le 1 k && nat_le k n ≡ true → t ≡ u
    type u k p = text_exact t u (equal-of (order_text t u) (and-left (same_text t u) (nat_le 1 k) (and-left (same_text t u && nat_le 1 k) (nat_le k n) p)))

    names : u ≡ w
    names = sym (type u k h) ∙ type w j g

    smaller : k < j
    smaller = nat-less k j (less-of (nat_cmp k j) (sym (ap (λ o. is_lt (ordering_then o (nat_cmp k j))) (ap (λ v. order_text u v) (sym names) ∙ tied_itself text_total u)) ∙ l))
low-codes (named t n) a (item u k) (number j) h g l = cc
low-codes (named t n) a (item u k) (truth b) h g l = cc
low-codes (named t n) a (item u k) (node j vs) h g l = cc
low-codes (named t n) a (number k) y h g l = cc
low-codes (named t n) a (truth b) y h g l = cc
low-codes (named t n) a (node k vs) y h g l = cc
low-codes _ a x y h g l = absurd a

-- ---- numbers of parts

-- a member of the parts has a number of one of them
pub number-range : (k : ℕ) (ps : List Value) (v : Value) → holds (all_members ps) v ≡ true → (n : ℕ) × (part_number k ps v ≡ pos n) × (k ≤ n) × (n < k + length ps)
number-range k [] v h = cc
number-range k (p ∷ ps) v h = go (holds (items_of p) v) (sym (holds-append (items_of p) (all_members ps) v) ∙ h) (number-range (suc k) ps v)
  where
    go : (b : Bool) → b || holds (all_members ps) v ≡ true → (holds (all_members ps) v ≡ true → (n : ℕ) × (part_number (suc k) ps v ≡ pos n) × (suc k ≤ n) × (n < suc k + length ps)) →
        (n : ℕ) × ((if b then pos k else part_number (suc k) ps v) ≡ pos n) × (k ≤ n) × (n < k + suc (length ps))
    go true h ih = (k, refl, le_refl k, omega arith)
    go false h ih = let r = ih h in (r.0, r.1, (let a = r.2 in omega arith), (let b = r.3 in omega arith))

-- what stands in the parts ps and not in p
apart-from : (p : Value) (ps : List Value) → Distinct (all_members (p ∷ ps)) → (v : Value) → holds (items_of p) v ≡ true → holds (all_members ps) v ≡ false
apart-from p ps d v h = go (items_of p) d h
  where
    go : (xs : List Value) → Distinct (xs ++ all_members ps) → holds xs v ≡ true → holds (all_members ps) v ≡ false
    go [] d h = cc
    go (x ∷ xs) d h = here (same x v) refl h (λ e. go xs d.1 e)
      where
        here : (b : Bool) → same x v ≡ b → b || holds xs v ≡ true → (holds xs v ≡ true → holds (all_members ps) v ≡ false) → holds (all_members ps) v ≡ false
        here true q h ih = or-right-no (holds xs v) (holds (all_members ps) v) (sym (holds-append xs (all_members ps) v) ∙ ap (holds (xs ++ all_members ps)) (sym (same-equal x v q)) ∙ d.0)
        here false q h ih = ih h

others-apart : (p : Value) (ps : List Value) → Distinct (all_members (p ∷ ps)) → Distinct (all_members ps)
others-apart p ps d = go (items_of p) d
  where
    go : (xs : List Value) → Distinct (xs ++ all_members ps) → Distinct (all_members ps)
    go [] d = d
    go (x ∷ xs) d = go xs d.1

-- No member of the later parts has the number before them.
pub higher : (k : ℕ) (ps : List Value) (v : Value) → holds (all_members ps) v && same_int (part_number (suc k) ps v) (pos k) ≡ false
higher k ps v = go (holds (all_members ps) v) refl
  where
    go : (b : Bool) → holds (all_members ps) v ≡ b → b && same_int (part_number (suc k) ps v) (pos k) ≡ false
    go false e = refl
    go true e = let r = number-range (suc k) ps v e in test (same_int (part_number (suc k) ps v) (pos k)) refl r.0 r.1 r.2
      where
        test : (c : Bool) → same_int (part_number (suc k) ps v) (pos k) ≡ c → (n : ℕ) → part_number (suc k) ps v ≡ pos n → suc k ≤ n → same_int (part_number (suc k) ps v) (pos k) ≡ false
        test false q n e h = q
        test true q n e h = let w : pos n ≡ pos k = sym e ∙ same_int-equal (part_number (suc k) ps v) (pos k) q in let u : n ≡ k = cc in absurd (omega arith)

-- Each part has the members with its number.
abbrev pub HasNumber : ℕ → List Value → ℤ → Value → Type 0
HasNumber k ps j p = (v : Value) → holds (items_of p) v ≡ holds (all_members ps) v && same_int (part_number k ps v) j

-- Each part has the members of its number.
pub part-numbers : (k : ℕ) (ps : List Value) → Distinct (all_members ps) → Along (run_from k (length ps)) ps (HasNumber k ps)
part-numbers k [] d = tt
part-numbers k (p ∷ ps) d = (first, later (run_from (suc k) (length ps)) ps apart (part-numbers (suc k) ps (others-apart p ps d)))
  where
    apart : EachOf (run_from (suc k) (length ps)) (λ j. same_int (pos k) j ≡ false)
    apart = let r = run-differs k (suc (length ps)) in r.0

    first : HasNumber k (p ∷ ps) (pos k) p
    first v = go (holds (items_of p) v) ∙ ap (λ b. b && same_int (part_number k (p ∷ ps) v) (pos k)) (sym (holds-append (items_of p) (all_members ps) v))
      where
        go : (b : Bool) → b ≡ (b || holds (all_members ps) v) && same_int (if b then pos k else part_number (suc k) ps v) (pos k)
        go true = sym (same_int-itself (pos k))
        go false = sym (higher k ps v)

    later : (js : List ℤ) (qs : List Value) → EachOf js (λ j. same_int (pos k) j ≡ false) → Along js qs (HasNumber (suc k) ps) → Along js qs (HasNumber k (p ∷ ps))
    later [] [] a h = tt
    later [] (q ∷ qs) a h = absurd h
    later (j ∷ js) [] a h = absurd h
    later (j ∷ js) (q ∷ qs) a h = (
      λ v. h.0 v ∙ go v (holds (items_of p) v) refl ∙ ap (λ b. b && same_int (part_number k (p ∷ ps) v) j) (sym (holds-append (items_of p) (all_members ps) v)),
      later js qs a.1 h.1,
    )
      where
        go : (v : Value) (b : Bool) → holds (items_of p) v ≡ b → holds (all_members ps) v && same_int (part_number (suc k) ps v) j ≡ (b || holds (all_members ps) v) && same_int (if b then pos k else part_number (suc k) ps v) j
        go v true e = ap (λ c. c && same_int (part_number (suc k) ps v) j) (apart-from p ps d v e) ∙ sym a.0
        go v false e = refl

-- ---- a part with a number above the first comes after the part before it

-- the least member of a part
record Least (p : Value) : Type 0 where
  y : Value
  ys : Values
  form : p ≡ node a_set (cons y ys)
  rise : rises itself (y ∷ to_list ys) ≡ true

least-of : (f : Value → Bool) (p : Value) → is_part f p ≡ true → Least p
least-of f p h = let x = part-of f p h in go x.xs x.form x.rise x.full
  where
    go : (xs : Values) → p ≡ node a_set xs → rises itself (to_list xs) ≡ true → not (is_empty (to_list xs)) ≡ true → Least p
    go nil e r f = cc
    go (cons y ys) e r f = record { y = y; ys = ys; form = e; rise = r }

-- y is the least
least-under : (y : Value) (ys : List Value) (x : Value) → rises itself (y ∷ ys) ≡ true → holds (y ∷ ys) x ≡ true → (y ≡ x) ⊎ (below y x ≡ true)
least-under y ys x r h = go (same y x) refl h
  where
    go : (b : Bool) → same y x ≡ b → b || holds ys x ≡ true → (y ≡ x) ⊎ (below y x ≡ true)
    go true e h = inl (same-equal y x e)
    go false e h = let s = sorted-of (y ∷ ys) r in inr (ap is_lt (below-has order_total y x ys s.0 (holds-has ys x h)))

-- A member of the part before, lower than x.
pub record Earlier (k : ℕ) (ps : List Value) (x : Value) : Type 0 where
  pub y : Value
  pub there : holds (all_members ps) y ≡ true
  pub low : below y x ≡ true
  pub next : part_number k ps x ≡ part_number k ps y +ℤ pos 1

-- the least member of a part is below all of the next part
next-low : (p q : Value) (u : Least p) (w : Least q) → below p q ≡ true → (x : Value) → holds (items_of q) x ≡ true → holds (items_of p) w.y ≡ false → below u.y x ≡ true
next-low p q u w l x h n = go (least-under w.y (to_list w.ys) x w.rise (sym (ap (λ z. holds (items_of z) x) w.form) ∙ h))
  where
    heads : below u.y w.y ≡ true
    heads = first (order u.y w.y) refl (sym (ap (λ z. below z q) u.form ∙ ap (λ z. below (node a_set (cons u.y u.ys)) z) w.form) ∙ l)
      where
        first : (o : Ordering) → order u.y w.y ≡ o → is_lt (ordering_then (order u.y w.y) (orders u.ys w.ys)) ≡ true → below u.y w.y ≡ true
        first Less e s = ap is_lt e
        first Equal e s =
            let uw = order_exact u.y w.y e in
            let z : true ≡ false = sym (ap (λ z. holds (items_of z) w.y) u.form ∙ ap (λ b. b || holds (to_list u.ys) w.y) (ap (λ v. same v w.y) uw ∙ same-itself w.y)) ∙ n in cc
        first Greater e s = let z : false ≡ true = ap (λ o. is_lt (ordering_then o (orders u.ys w.ys))) (sym e) ∙ s in cc

    go : (w.y ≡ x) ⊎ (below w.y x ≡ true) → below u.y x ≡ true
    go (inl e) = ap (below u.y) (sym e) ∙ heads
    go (inr b) = ap is_lt (order_total.trans u.y w.y x (below-less u.y w.y heads) (below-less w.y x b))

-- A member of a part behind the first has such a one.
pub earlier : (f : Value → Bool) (k : ℕ) (ps : List Value) → list_all (is_part f) ps ≡ true → rises itself ps ≡ true → Distinct (all_members ps) → (x : Value) → holds (all_members ps) x ≡ true →
    (part_number k ps x ≡ pos k) ⊎ Earlier k ps x
earlier f k [] i r d x h = cc
earlier f k (p ∷ ps) i r d x h = go (holds (items_of p) x) refl (sym (holds-append (items_of p) (all_members ps) x) ∙ h) ps refl
    (λ e. earlier f (suc k) ps (and-right (is_part f p) (list_all (is_part f) ps) i) (rest ps r) (others-apart p ps d) x e)
  where
    rest : (qs : List Value) → rises itself (p ∷ qs) ≡ true → rises itself qs ≡ true
    rest [] r = refl
    rest (q ∷ qs) r = and-right (below p q) (rises itself (q ∷ qs)) r

    -- where x isn't in the first part
    later : holds (items_of p) x ≡ false → (qs : List Value) → ps ≡ qs → (part_number (suc k) ps x ≡ pos (suc k)) ⊎ Earlier (suc k) ps x → holds (all_members ps) x ≡ true → Earlier k (p ∷ ps) x
    later e [] z s t = let w : false ≡ true = ap (λ l. holds (all_members l) x) (sym z) ∙ t in cc
    later e (q ∷ qs) z (inl s) t =
        let u = least-of f p (and-left (is_part f p) (list_all (is_part f) ps) i) in
        let iq : is_part f q ≡ true = and-left (is_part f q) (list_all (is_part f) qs) (ap (list_all (is_part f)) (sym z) ∙ and-right (is_part f p) (list_all (is_part f) ps) i) in
        let w = least-of f q iq in
        let pq : below p q ≡ true = and-left (below p q) (rises itself (q ∷ qs)) (ap (λ l. rises itself (p ∷ l)) (sym z) ∙ r) in
        let first : holds (items_of p) u.y ≡ true = ap (λ z. holds (items_of z) u.y) u.form ∙ ap (λ b. b || holds (to_list u.ys) u.y) (same-itself u.y) in
        record {
          y = u.y;
          there = holds-append (items_of p) (all_members ps) u.y ∙ ap (λ b. b || holds (all_members ps) u.y) first;
          low = next-low p q u w pq x (in-next q qs z s) (not-first q qs z w);
          next = ap (λ b. if b then pos k else part_number (suc k) ps x) e ∙ s ∙ (let a : suc k ≡ k + 1 = omega arith in ap pos a) ∙ sym (ap (λ b. (if b then pos k else part_number (suc k) ps u.y) +ℤ pos 1) first);
        }
      where
        -- the first number is that of the next part
        in-next : (q : Value) (qs : List Value) → ps ≡ q ∷ qs → part_number (suc k) ps x ≡ pos (suc k) → holds (items_of q) x ≡ true
        in-next q qs z s =
            let l = part-numbers (suc k) (q ∷ qs) (subst (λ l. Distinct (all_members l)) z (others-apart p ps d)) in
            l.0 x ∙ and-both (holds (all_members (q ∷ qs)) x) (same_int (part_number (suc k) (q ∷ qs) x) (pos (suc k))) (ap (λ l. holds (all_members l) x) (sym z) ∙ t)
            (ap (λ l. same_int (part_number (suc k) l x) (pos (suc k))) (sym z) ∙ ap (λ n. same_int n (pos (suc k))) s ∙ same_int-itself (pos (suc k)))

        not-first : (q : Value) (qs : List Value) → ps ≡ q ∷ qs → (w : Least q) → holds (items_of p) w.y ≡ false
        not-first q qs z w = test (holds (items_of p) w.y) refl
          where
            inq : holds (all_members ps) w.y ≡ true
            inq =
                ap (λ l. holds (all_members l) w.y) z ∙ holds-append (items_of q) (all_members qs) w.y
                ∙ ap (λ b. b || holds (all_members qs) w.y) (ap (λ z. holds (items_of z) w.y) w.form ∙ ap (λ b. b || holds (to_list w.ys) w.y) (same-itself w.y))

            test : (b : Bool) → holds (items_of p) w.y ≡ b → holds (items_of p) w.y ≡ false
            test false e = e
            test true e = let z : true ≡ false = sym inq ∙ apart-from p ps d w.y e in cc
    later e (q ∷ qs) z (inr s) t = record {
      y = s.y;
      there = holds-append (items_of p) (all_members ps) s.y ∙ ap (λ b. holds (items_of p) s.y || b) s.there ∙ or-yes (holds (items_of p) s.y);
      low = s.low;
      next = ap (λ b. if b then pos k else part_number (suc k) ps x) e ∙ s.next ∙ sym (ap (λ b. (if b then pos k else part_number (suc k) ps s.y) +ℤ pos 1) (out (holds (items_of p) s.y) refl));
    }
      where
        out : (b : Bool) → holds (items_of p) s.y ≡ b → holds (items_of p) s.y ≡ false
        out false e = e
        out true e = let z : true ≡ false = sym s.there ∙ apart-from p ps d s.y e in cc

    go : (b : Bool) → holds (items_of p) x ≡ b → b || holds (all_members ps) x ≡ true → (qs : List Value) → ps ≡ qs → (holds (all_members ps) x ≡ true → (part_number (suc k) ps x ≡ pos (suc k)) ⊎ Earlier (suc k) ps x) →
        (part_number k (p ∷ ps) x ≡ pos k) ⊎ Earlier k (p ∷ ps) x
    go true e h qs z ih = inl (ap (λ b. if b then pos k else part_number (suc k) ps x) e)
    go false e h qs z ih = inr (later e qs z (ih h) h)

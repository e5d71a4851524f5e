-- What the structure constraint of slots means: those in use are canonical and rise, all others hold 0 or false.
use Rattle.std.proofs.Common.{◌≡◌, refl, sym, ap, ◌∙◌, ℕ, zero, suc, ◌+◌, ◌≤◌, ◌<◌, Bool, true, false, ◌&&◌, ◌||◌, not, if◌then◌else◌, List, [], ◌∷◌, ◌++◌, map, ℤ, pos, ◌+ℤ◌, ◌-ℤ◌, Option, Some, option_map, int_le, arith, append-nil}
use Rattle.std.proofs.lemmas.Int.{ints}
use Rattle.std.proofs.lemmas.Bool.{leb-true, lt-leb}
use Rattle.std.specs.List.{list_all}
use Rattle.std.specs.Ordering.{is_lt}
use Rattle.std.specs.Cmp.{int_cmp_is}
use Rattle.std.specs.declared.cmp.Ordering.TheVariants.{Less}
use Rattle.ess_semantics.specs.declared.words.Op1.{Op1}
use Rattle.ess_semantics.specs.declared.words.Op2.{Op2}
use Rattle.ess_semantics.specs.Lists.{and_then, append_all}
use Rattle.ess_semantics.specs.Values.{Text, Value, number, truth, itself}
use Rattle.ess_semantics.specs.Order.{same_text, below}
use Rattle.ess_semantics.specs.Collections.{sorted_once, rises}
use Rattle.ess_semantics.specs.Numbers.{natural, run_from, one_to}
use Rattle.ess_semantics.specs.Trees.{both_ends, name_pat, Ex, Exs, number_ex, name_ex, no_gens, over, cond, Dom, ex1}
use Rattle.ess_semantics.specs.Domains.{integers, numbers_up, interval}
use Rattle.ess_semantics.specs.Operators.{all_true}
use Rattle.ess_semantics.specs.Tables.{Tables}
use Rattle.ess_semantics.specs.Cells.{behind, cells_of, are_zero, rows, order_rows}
use Rattle.ess_semantics.specs.Meaning.{Env, where_true, collect, members_in, spans_of, domain_of, meaning}
use Rattle.ess_semantics.proofs.Tests.{and-both}
use Rattle.ess_semantics.proofs.Sorting.{sorted_once-itself}
use Rattle.ess_repr_laws.proofs.RowsOfCells.{EachOf}
use Rattle.ess_repr_laws.proofs.SlotsUsed.{each-run}
use Rattle.ess_semantics.proofs.Connectives.{and-means, not-means, binary-means, all-means}
use Rattle.ess_repr_laws.specs.StructureParts.{Shape, add_ex, and_ex, le_ex, all_ex, upto, less_ex, zeros_ex, over_slots, pairs_dom, over_pairs, each_pair, next_ex, slots_ex}
use Rattle.ess_repr_laws.specs.StructureMeaning.{Number, Bound, M, Placed}
use Rattle.ess_repr_laws.proofs.StructureNumbers.{le-means}
use Rattle.ess_repr_laws.proofs.StructureRows.{From, Steady, looked, steady-more, steady-name, steady-add, There, all_codes, less-means, zeros-means}

-- ---- the numbers 1 to n

ones-up : (a n : ℕ) → numbers_up (pos a) n ≡ map number (run_from a n)
ones-up a zero = refl
ones-up a (suc n) = ap (λ k. number (pos a) ∷ numbers_up (pos k) n) (let e : a + 1 ≡ suc a = omega arith in e) ∙ ap (λ l. number (pos a) ∷ l) (ones-up (suc a) n)

ones-rise : (a n : ℕ) → rises itself (map number (run_from a n)) ≡ true
ones-rise a zero = refl
ones-rise a (suc zero) = refl
ones-rise a (suc (suc n)) = and-both (below (number (pos a)) (number (pos (suc a)))) (rises itself (map number (run_from (suc a) (suc n)))) (ap is_lt (sym (int_cmp_is (pos a) (pos (suc a)) Less (omega (arith, ints))))) (ones-rise (suc a) (suc n))

interval-ones : (n : ℕ) → interval (pos 1) (pos n) ≡ map number (one_to n)
interval-ones n = let e : (pos n -ℤ pos 1) +ℤ pos 1 ≡ pos n = omega (arith, ints) in ap (λ m. numbers_up (pos 1) (natural m)) e ∙ ones-up 1 n

-- The members of `int(1..n)`.
pub members-ones : (n : ℕ) → sorted_once (append_all (interval (pos 1) (pos n) ∷ [])) ≡ map number (one_to n)
members-ones n = ap sorted_once (append-nil (interval (pos 1) (pos n)) ∙ interval-ones n) ∙ sorted_once-itself (map number (one_to n)) (ones-rise 1 n)

list-same : (ks : List ℤ) (f g : ℤ → Bool) → ((k : ℤ) → f k ≡ g k) → list_all f ks ≡ list_all g ks
list-same [] f g e = refl
list-same (k ∷ ks) f g e = ap (λ b. b && list_all f ks) (e k) ∙ ap (λ b. g k && b) (list-same ks f g e)

picks : (ℤ → Bool) → (ℤ → Bool) → List ℤ → List Value
picks t p [] = []
picks t p (k ∷ ks) = if t k then truth (p k) ∷ picks t p ks else picks t p ks

picks-true : (t p : ℤ → Bool) (ks : List ℤ) → all_true (picks t p ks) ≡ list_all (λ k. not (t k) || p k) ks
unfolding picks
picks-true t p [] = refl
picks-true t p (k ∷ ks) = go (t k) (p k) (picks-true t p ks)
  where
    go : (b c : Bool) → all_true (picks t p ks) ≡ list_all (λ k. not (t k) || p k) ks → all_true (if b then truth c ∷ picks t p ks else picks t p ks) ≡ (not b || c) && list_all (λ k. not (t k) || p k) ks
    go true true e = e
    go true false e = refl
    go false c e = e

-- One less, or 0.
abbrev before : ℕ → ℕ
before zero = zero
before (suc n) = n

before-below : (s k : ℕ) → 1 ≤ k → k < 1 + before s → k + 1 ≤ s
before-below zero k a b = absurd (omega (arith, a, b))
before-below (suc n) k a b = omega (arith, b)

run-last : (p : ℤ → Bool) (a n : ℕ) → p (pos (a + n)) ≡ true → list_all p (run_from a n) ≡ list_all p (run_from a (suc n))
run-last p a zero h = let z : a + 0 ≡ a = omega arith in sym (ap (λ b. b && true) (ap (λ j. p (pos j)) (sym z) ∙ h))
run-last p a (suc n) h = let z : a + suc n ≡ suc a + n = omega arith in ap (λ b. p (pos a) && b) (run-last p (suc a) n (ap (λ j. p (pos j)) (sym z) ∙ h))

-- What holds of the last number of a run holds of all where it holds of all others.
all-but-last : (p : ℤ → Bool) (s : ℕ) → p (pos s) ≡ true → list_all p (one_to (before s)) ≡ list_all p (one_to s)
all-but-last p zero h = refl
all-but-last p (suc n) h = let z : 1 + n ≡ suc n = omega arith in run-last p 1 n (ap (λ j. p (pos j)) z ∙ h)

module _ (env0 : Env) (q : ℕ → Text) (q-apart : (m l : ℕ) → l < m → same_text (q m) (q l) ≡ false) where
  abbrev Mb : Bound env0 q q-apart → Env
  Mb bs = M env0 q q-apart bs

  -- with a slot's number
  abbrev At : ℕ → ℤ → Bound env0 q q-apart → Bound env0 q q-apart
  At l k bs = (l, number k) ∷ bs

  -- A constraint of each number of a domain where a test holds.
  over-run-means : (l : ℕ) (D : Dom) (test part : Ex) (ks : List ℤ) (t p : ℤ → Bool) (bs : Bound env0 q q-apart) → members_in (domain_of D (Mb bs)) ≡ Some (map number ks) →
      EachOf ks (λ k. (meaning test (Mb (At l k bs)) ≡ Some (truth (t k))) × (t k ≡ true → meaning part (Mb (At l k bs)) ≡ Some (truth (p k)))) →
      meaning (all_ex part (over (name_pat (q l)) D (cond test no_gens))) (Mb bs) ≡ Some (truth (list_all (λ k. not (t k) || p k) ks))
  unfolding picks
  over-run-means l D test part ks t p bs hs ok =
      all-means (Mb bs) part (over (name_pat (q l)) D (cond test no_gens)) (picks t p ks)
      (ap (λ o. and_then o (λ us. collect us H)) hs ∙ go ks ok)
      ∙ ap (λ b. Some (truth b)) (picks-true t p ks)
    where
      H : Value → Option (List Value)
      H v = where_true (meaning test (Mb ((l, v) ∷ bs))) (λ u. option_map (λ v. v ∷ []) (meaning part (Mb ((l, v) ∷ bs))))

      one : (k : ℤ) (b : Bool) → meaning test (Mb (At l k bs)) ≡ Some (truth b) → (b ≡ true → meaning part (Mb (At l k bs)) ≡ Some (truth (p k))) → H (number k) ≡ Some (if b then truth (p k) ∷ [] else [])
      one k true e f = ap (λ o. where_true o (λ u. option_map (λ v. v ∷ []) (meaning part (Mb (At l k bs))))) e ∙ ap (option_map (λ v. v ∷ [])) (f refl)
      one k false e f = ap (λ o. where_true o (λ u. option_map (λ v. v ∷ []) (meaning part (Mb (At l k bs))))) e

      join : (b : Bool) (x : Value) (xs : List Value) → (if b then x ∷ [] else []) ++ xs ≡ (if b then x ∷ xs else xs)
      join true x xs = refl
      join false x xs = refl

      go : (ks : List ℤ) → EachOf ks (λ k. (meaning test (Mb (At l k bs)) ≡ Some (truth (t k))) × (t k ≡ true → meaning part (Mb (At l k bs)) ≡ Some (truth (p k)))) → collect (map number ks) H ≡ Some (picks t p ks)
      go [] a = refl
      go (k ∷ ks) a =
          ap (λ o. and_then o (λ xs. option_map (λ ys. xs ++ ys) (collect (map number ks) H))) (one k (t k) a.0.0 a.0.1)
          ∙ ap (λ o. option_map (λ ys. (if t k then truth (p k) ∷ [] else []) ++ ys) o) (go ks a.1) ∙ ap Some (join (t k) (truth (p k)) (picks t p ks))

  -- A constraint of each slot where a test holds.
  pub over-slots-means : (l : ℕ) (size test part : Ex) (s : ℕ) (t p : ℤ → Bool) (bs : Bound env0 q q-apart) → Number size (Mb bs) (pos s) →
      EachOf (one_to s) (λ k. (meaning test (Mb (At l k bs)) ≡ Some (truth (t k))) × (t k ≡ true → meaning part (Mb (At l k bs)) ≡ Some (truth (p k)))) →
      meaning (over_slots q l size test part) (Mb bs) ≡ Some (truth (list_all (λ k. not (t k) || p k) (one_to s)))
  over-slots-means l size test part s t p bs hs ok =
      over-run-means l (upto size) test part (one_to s) t p bs
      (ap (λ o. members_in (option_map integers (spans_of (both_ends ∷ []) (Some (number (pos 1)) ∷ o ∷ [])))) hs ∙ ap Some (members-ones s)) ok

  -- All slots but the last.
  pairs-members : (size : Ex) (s : ℕ) (env : Env) → Number size env (pos s) → members_in (domain_of (pairs_dom q size) env) ≡ Some (map number (one_to (before s)))
  pairs-members size s env h =
      ap (λ o. members_in (option_map integers (spans_of (both_ends ∷ []) (Some (number (pos 1)) ∷ o ∷ []))))
      (binary-means env false Op2.Minus size (number_ex (pos 1)) (number (pos s)) (number (pos 1)) h refl) ∙ ap Some (go s)
    where
      go : (s : ℕ) → sorted_once (append_all (interval (pos 1) (pos s -ℤ pos 1) ∷ [])) ≡ map number (one_to (before s))
      go zero = refl
      go (suc n) = let e : pos (suc n) -ℤ pos 1 ≡ pos n = omega (arith, ints) in ap (λ z. sorted_once (append_all (interval (pos 1) z ∷ []))) e ∙ members-ones n

  -- A constraint of each slot but the last where a test holds that doesn't hold of the last.
  pub over-pairs-means : (l : ℕ) (size test part : Ex) (s : ℕ) (t p : ℤ → Bool) (bs : Bound env0 q q-apart) → Number size (Mb bs) (pos s) → t (pos s) ≡ false →
      ((k : ℕ) → 1 ≤ k → k + 1 ≤ s → (meaning test (Mb (At l (pos k) bs)) ≡ Some (truth (t (pos k)))) × (t (pos k) ≡ true → meaning part (Mb (At l (pos k) bs)) ≡ Some (truth (p (pos k))))) →
      meaning (over_pairs q l size test part) (Mb bs) ≡ Some (truth (list_all (λ k. not (t k) || p k) (one_to s)))
  over-pairs-means l size test part s t p bs hs last ok =
      over-run-means l (pairs_dom q size) test part (one_to (before s)) t p bs (pairs-members size s (Mb bs) hs)
      (each-run _ 1 (before s) (λ k a b. ok k a (before-below s k a b)))
      ∙ ap (λ b. Some (truth b)) (all-but-last (λ k. not (t k) || p k) s (ap (λ b. not b || p (pos s)) last))

  -- A constraint of each slot but the last, which holds of the last.
  pub each-pair-means : (l : ℕ) (size part : Ex) (s : ℕ) (p : ℤ → Bool) (bs : Bound env0 q q-apart) → Number size (Mb bs) (pos s) → p (pos s) ≡ true →
      ((k : ℕ) → 1 ≤ k → k + 1 ≤ s → meaning part (Mb (At l (pos k) bs)) ≡ Some (truth (p (pos k)))) →
      meaning (each_pair q l size part) (Mb bs) ≡ Some (truth (list_all p (one_to s)))
  each-pair-means l size part s p bs hs last ok =
      all-means (Mb bs) part (over (name_pat (q l)) (pairs_dom q size) no_gens) (map (λ k. truth (p k)) (one_to (before s)))
      (ap (λ o. and_then o (λ us. collect us H)) (pairs-members size s (Mb bs) hs) ∙ go (one_to (before s)) (each-run _ 1 (before s) (λ k a b. ok k a (before-below s k a b))))
      ∙ ap (λ b. Some (truth b)) (all-bits (one_to (before s)) ∙ all-but-last p s last)
    where
      H : Value → Option (List Value)
      H v = option_map (λ w. w ∷ []) (meaning part (Mb ((l, v) ∷ bs)))

      go : (ks : List ℤ) → EachOf ks (λ k. meaning part (Mb (At l k bs)) ≡ Some (truth (p k))) → collect (map number ks) H ≡ Some (map (λ k. truth (p k)) ks)
      go [] a = refl
      go (k ∷ ks) a =
          ap (λ o. and_then (option_map (λ w. w ∷ []) o) (λ xs. option_map (λ ys. xs ++ ys) (collect (map number ks) H))) a.0
          ∙ ap (option_map (λ ys. truth (p k) ∷ ys)) (go ks a.1)

      all-bits : (ks : List ℤ) → all_true (map (λ k. truth (p k)) ks) ≡ list_all p ks
      all-bits [] = refl
      all-bits (k ∷ ks) = ap (λ b. p k && b) (all-bits ks)

  -- What is said of slots of which the first n are in use.
  abbrev pub slots_canonical : ℕ → ℕ → List (List (List Value)) → Tables → List ℤ → (ℤ → Bool) → Bool
  slots_canonical s n vsss ts i p =
      list_all (λ k. not (int_le k (pos n)) || p k) (one_to s) &&
      (list_all (λ k. not (int_le (k +ℤ pos 1) (pos n)) ||
      is_lt (order_rows (rows (all_codes env0 q q-apart vsss) (behind (i ++ (k ∷ [])) (cells_of ts))) (rows (all_codes env0 q q-apart vsss) (behind (i ++ ((k +ℤ pos 1) ∷ [])) (cells_of ts))))) (one_to s) &&
      list_all (λ k. int_le k (pos n) || are_zero (all_codes env0 q q-apart vsss) (behind (i ++ (k ∷ [])) (cells_of ts))) (one_to s))

  -- The constraint of slots means the test of each slot.
  pub slots-means : (l : ℕ) (size m : Ex) (ss : List Shape) (vsss : List (List (List Value))) (ts : Tables) (is : Exs) (i : List ℤ) (bs : Bound env0 q q-apart) (part : Ex) (p : ℤ → Bool) (s n : ℕ) →
      Placed env0 q q-apart ss vsss ts → ((k : ℕ) → 1 ≤ k → k ≤ s → There env0 q q-apart ss vsss ts (i ++ (pos k ∷ []))) → Steady env0 q q-apart l is i bs →
      Number size (Mb bs) (pos s) → ((k : ℤ) → Number m (Mb (At l k bs)) (pos n)) → n ≤ s →
      ((k : ℕ) → 1 ≤ k → k ≤ n → meaning part (Mb (At l (pos k) bs)) ≡ Some (truth (p (pos k)))) →
      meaning (slots_ex q l size m ss is part) (Mb bs) ≡ Some (truth (slots_canonical s n vsss ts i p))
  slots-means l size m ss vsss ts is i bs part p s n hp th st hs hm room step =
      and-means (Mb bs) used_part (and_ex rise_part zero_part) (list_all (λ k. not (int_le k (pos n)) || p k) (one_to s)) (list_all (λ k. not (int_le (k +ℤ pos 1) (pos n)) || L k) (one_to s) && list_all (λ k. int_le k (pos n) || Z k) (one_to s))
      (over-slots-means l size (le_ex (name_ex (q l)) m) part s (λ k. int_le k (pos n)) p bs hs (each-run _ 1 s (λ k a b. (used (pos k), λ t. step k a (leb-true k n t)))))
      (and-means (Mb bs) rise_part zero_part (list_all (λ k. not (int_le (k +ℤ pos 1) (pos n)) || L k) (one_to s)) (list_all (λ k. int_le k (pos n) || Z k) (one_to s))
      (over-pairs-means l size (le_ex (next_ex q l) m) (less_ex q (suc l) ss (add_ex is (name_ex (q l))) (add_ex is (next_ex q l))) s (λ k. int_le (k +ℤ pos 1) (pos n)) L bs hs
      (lt-leb (s + 1) n (omega (arith, room))) (λ k a b. (
        le-means (Mb (At l (pos k) bs)) (next_ex q l) m (pos k +ℤ pos 1) (pos n) (next-at (pos k) [] tt) (hm (pos k)),
        λ t. let k' : k + 1 ≤ n = leb-true (k + 1) n t in
            less-means env0 q q-apart (suc l) ss vsss ts (add_ex is (name_ex (q l))) (add_ex is (next_ex q l)) (i ++ (pos k ∷ [])) (i ++ (pos (k + 1) ∷ [])) (At l (pos k) bs) hp
            (th k a (omega arith)) (th (k + 1) (omega arith) (omega arith)) (steady-name env0 q q-apart l (number (pos k)) is i bs st)
            (steady-add env0 q q-apart (suc l) (next_ex q l) (number (pos k +ℤ pos 1)) is i (At l (pos k) bs) (steady-more env0 q q-apart l (number (pos k)) is i bs st) (λ cs f. next-at (pos k) cs f)),
      )))
      (over-slots-means l size (ex1 true Op1.Not (le_ex (name_ex (q l)) m)) (zeros_ex q (suc l) ss (add_ex is (name_ex (q l)))) s (λ k. not (int_le k (pos n))) Z bs hs
      (each-run _ 1 s (λ k a b. (
        not-means (Mb (At l (pos k) bs)) (le_ex (name_ex (q l)) m) (int_le (pos k) (pos n)) (used (pos k)),
        λ t. zeros-means env0 q q-apart (suc l) ss vsss ts (add_ex is (name_ex (q l))) (i ++ (pos k ∷ [])) (At l (pos k) bs) hp (th k a (omega arith)) (steady-name env0 q q-apart l (number (pos k)) is i bs st),
      )))
      ∙ ap (λ b. Some (truth b)) (list-same (one_to s) (λ k. not (not (int_le k (pos n))) || Z k) (λ k. int_le k (pos n) || Z k) (λ k. not-not (int_le k (pos n)) (Z k)))))
    where
      used_part : Ex
      used_part = over_slots q l size (le_ex (name_ex (q l)) m) part

      rise_part : Ex
      rise_part = over_pairs q l size (le_ex (next_ex q l) m) (less_ex q (suc l) ss (add_ex is (name_ex (q l))) (add_ex is (next_ex q l)))

      zero_part : Ex
      zero_part = over_slots q l size (ex1 true Op1.Not (le_ex (name_ex (q l)) m)) (zeros_ex q (suc l) ss (add_ex is (name_ex (q l))))

      L : ℤ → Bool
      L k = is_lt (order_rows (rows (all_codes env0 q q-apart vsss) (behind (i ++ (k ∷ [])) (cells_of ts))) (rows (all_codes env0 q q-apart vsss) (behind (i ++ ((k +ℤ pos 1) ∷ [])) (cells_of ts))))

      Z : ℤ → Bool
      Z k = are_zero (all_codes env0 q q-apart vsss) (behind (i ++ (k ∷ [])) (cells_of ts))

      used : (k : ℤ) → meaning (le_ex (name_ex (q l)) m) (Mb (At l k bs)) ≡ Some (truth (int_le k (pos n)))
      used k = le-means (Mb (At l k bs)) (name_ex (q l)) m k (pos n) (looked env0 q q-apart l (number k) bs [] tt) (hm k)

      next-at : (k : ℤ) (cs : Bound env0 q q-apart) → From env0 q q-apart (suc l) cs → Number (next_ex q l) (Mb (cs ++ At l k bs)) (k +ℤ pos 1)
      next-at k cs f = binary-means (Mb (cs ++ At l k bs)) false Op2.Plus (name_ex (q l)) (number_ex (pos 1)) (number k) (number (pos 1)) (looked env0 q q-apart l (number k) bs cs f) refl

      not-not : (b c : Bool) → not (not b) || c ≡ b || c
      not-not true c = refl
      not-not false c = refl

-- The conditions of indices are total, and where they hold the matrix has an item there.
use Rattle.std.proofs.Common.{◌≡◌, refl, sym, ap, ◌∙◌, ℕ, zero, suc, ◌+◌, ◌≤◌, Bool, true, false, ◌&&◌, ◌||◌, not, if◌then◌else◌, List, [], ◌∷◌, ◌++◌, length, ℤ, pos, negsuc, ◌≤ℤ◌, ◌<ℤ◌, Option, Some, None, option_map, is_some, int_le, arith}
use Rattle.std.proofs.lemmas.Int.{ints}
use Rattle.std.specs.Ordering.{is_lt}
use Rattle.std.specs.Cmp.{int_cmp_is}
use Rattle.std.specs.declared.cmp.Ordering.TheVariants.{Less}
use Rattle.ess_semantics.specs.declared.words.Op2.{Op2}
use Rattle.ess_semantics.specs.declared.words.Fun.{Fun}
use Rattle.ess_semantics.specs.Lists.{and_then, list_or_none}
use Rattle.ess_semantics.specs.Values.{Text, Value, number, truth, item, node, of_list}
use Rattle.ess_semantics.specs.Order.{same, below}
use Rattle.ess_semantics.specs.Collections.{holds}
use Rattle.ess_semantics.specs.Trees.{word, binary, both_ends, name_pat, Ex, name_ex, comp_ex, no_exs, more_exs, no_gens, over, Dom, int_dom, ex2}
use Rattle.ess_semantics.specs.Operators.{as_truth, number_in, item_at, at_index, value_of_node, false_where_undefined, list_value, numbers_from}
use Rattle.ess_semantics.specs.Domains.{integers, members, member_list, between}
use Rattle.ess_semantics.specs.Meaning.{Env, with_pat, meaning, domain_of, members_in, collect}
use Rattle.ess_semantics.specs.Totality.{Total, TotalDom}
use Rattle.ess_semantics.proofs.Orders.{to_list-of_list, same-itself}
use Rattle.ess_semantics.proofs.Tests.{and-left, and-right}
use Rattle.ess_rules_laws.proofs.Agreement.{look-itself}
use Rattle.ess_guard_laws.specs.Origins.{is_number}
use Rattle.ess_guard_laws.specs.Conditions.{nil_ex, as_number, members_of, in_dom}
use Rattle.ess_guard_laws.proofs.NumberForms.{no-names, read-number}
use Rattle.ess_guard_laws.proofs.MetRows.{each-of-always}
use Rattle.ess_guard_laws.proofs.Behind.{safe-total}
use Rattle.ess_guard_laws.proofs.SetMembers.{set-member}
use Rattle.ess_guard_laws.proofs.TotalRows.{number-total}
use Rattle.ess_guard_laws.proofs.KnownNames.{range-listed, listed-in}

-- ---- conditions

-- `i in D` is total.
pub in-dom-total : (x : Text) (i : Ex) (d : Dom) (env : Env) → Total i env → TotalDom d env → Total (in_dom x i d) env
in-dom-total x i (int_dom (both_ends ∷ []) (more_exs a (more_exs b no_exs))) env t u =
    safe-total true (binary Op2.And) (more_exs (ex2 true Op2.Le (as_number [] a) i) (more_exs (ex2 true Op2.Le i (as_number [] b)) no_exs)) env refl
    (safe-total true (binary Op2.Le) (more_exs (as_number [] a) (more_exs i no_exs)) env refl (number-total [] a env u.0, (t, tt)), (safe-total true (binary Op2.Le) (more_exs i (more_exs (as_number [] b) no_exs)) env refl (t, (number-total [] b env u.1.0, tt)), tt))
in-dom-total x i d env t u = safe-total true (binary Op2.Member) (more_exs i (more_exs (members_of x d) no_exs)) env refl (
  t,
  (
    safe-total false (word Fun.ToSet) (more_exs (comp_ex (name_ex x) (over (name_pat x) d no_gens)) no_exs) env refl
        ((u, each-of-always (members_in (domain_of d env)) (λ v. Unit {0}) (λ v. tt)), tt),
    tt,
  ),
)

le-is : (a b : ℤ) → int_le a b ≡ true → a ≤ℤ b
le-is a b e = grind (arith, ints)

lt-is : (a b : ℤ) → int_le a b ≡ false → b <ℤ a
lt-is a b e = grind (arith, ints)

below-tells : (a z : ℤ) → not (below (number z) (number a)) ≡ true → a ≤ℤ z
below-tells a z h = go (int_le a z) refl
  where
    go : (t : Bool) → int_le a z ≡ t → a ≤ℤ z
    go true e = le-is a z e
    go false e = let q : not (below (number z) (number a)) ≡ false = ap (λ o. not (is_lt o)) (sym (int_cmp_is z a Less (lt-is a z e))) in let r : true ≡ false = sym h ∙ q in cc

-- A value between two numbers is a number between them.
between-tells : (a b : ℤ) (w : Value) → not (below w (number a)) && not (below (number b) w) ≡ true → (z : ℤ) × (w ≡ number z) × (a ≤ℤ z) × (z ≤ℤ b)
between-tells a b (number z) h = (z, refl, below-tells a z (and-left (not (below (number z) (number a))) (not (below (number b) (number z))) h), below-tells z b (and-right (not (below (number z) (number a))) (not (below (number b) (number z))) h))
between-tells a b (truth t) h = let r = and-right (not (below (truth t) (number a))) (not (below (number b) (truth t))) h in cc
between-tells a b (item t k) h = let r = and-right (not (below (item t k) (number a))) (not (below (number b) (item t k))) h in cc
between-tells a b (node k vs) h = let r = and-right (not (below (node k vs) (number a))) (not (below (number b) (node k vs))) h in cc

-- What a domain lists at an index.
abbrev pub Listed : Dom → Env → Value → Type 0
Listed d env w = (is : List Value) × (members_in (domain_of d env) ≡ Some is) × (holds is w ≡ true)

as-number-none : (b : Ex) (env : Env) → meaning b env ≡ None → meaning (as_number [] b) env ≡ None
as-number-none b env e = go (is_number [] b)
  where
    go : (t : Bool) → meaning (if t then b else ex2 false Op2.Plus b nil_ex) env ≡ None
    go true = e
    go false = ap (λ o. value_of_node (binary Op2.Plus) (o ∷ Some (number (pos 0)) ∷ [])) e

range-tells : (i a b : Ex) (env : Env) (w : Value) → meaning i env ≡ Some w →
    as_truth (meaning (ex2 true Op2.And (ex2 true Op2.Le (as_number [] a) i) (ex2 true Op2.Le i (as_number [] b))) env) ≡ true → Listed (int_dom (both_ends ∷ []) (more_exs a (more_exs b no_exs))) env w
range-tells i a b env w p h = go (meaning a env) (meaning b env) refl refl
  where
    Le : Option Value → Option Value → Bool
    Le o q = as_truth (false_where_undefined true (value_of_node (binary Op2.Le) (o ∷ q ∷ [])))

    go : (o q : Option Value) → meaning a env ≡ o → meaning b env ≡ q → Listed (int_dom (both_ends ∷ []) (more_exs a (more_exs b no_exs))) env w
    go None q e f = let r : Le None (meaning i env) && as_truth (meaning (ex2 true Op2.Le i (as_number [] b)) env) ≡ true = ap (λ z. Le z (meaning i env) && as_truth (meaning (ex2 true Op2.Le i (as_number [] b)) env)) (sym (as-number-none a env e)) ∙ h in cc
    go (Some v) None e f =
        let r : Le (meaning (as_number [] a) env) (meaning i env) && Le (meaning i env) None ≡ true = ap (λ z. Le (meaning (as_number [] a) env) (meaning i env) && Le (meaning i env) z) (sym (as-number-none b env f)) ∙ h in
        none (Le (meaning (as_number [] a) env) (meaning i env)) (meaning i env) r
      where
        none : (t : Bool) (o : Option Value) → t && Le o None ≡ true → Listed (int_dom (both_ends ∷ []) (more_exs a (more_exs b no_exs))) env w
        none true None r = cc
        none true (Some u) r = cc
        none false o r = cc
    go (Some v) (Some u) e f =
        let r : not (below w (number (number_in v))) && not (below (number (number_in u)) w) ≡ true =
        ap (λ z. Le (Some (number (number_in v))) (Some w) && Le (Some w) z) (sym (read-number [] b env u (no-names env) f))
        ∙ ap (λ z. Le z (Some w) && Le (Some w) (meaning (as_number [] b) env)) (sym (read-number [] a env v (no-names env) e))
        ∙ ap (λ z. Le (meaning (as_number [] a) env) z && Le z (meaning (as_number [] b) env)) (sym p) ∙ h in
        let s = between-tells (number_in v) (number_in u) w r in (
          member_list (between (number_in v) (number_in u)),
          ap (λ o. members_in (option_map integers (and_then (option_map number_in o) (λ n. and_then (option_map number_in (meaning b env)) (λ m. Some (record { low = Some n; high = Some m } ∷ [])))))) e
              ∙ ap (λ o. members_in (option_map integers (and_then (option_map number_in o) (λ m. Some (record { low = Some (number_in v); high = Some m } ∷ []))))) f,
          ap (holds (member_list (between (number_in v) (number_in u)))) s.1 ∙ range-listed (number_in v) (number_in u) s.0 s.2 s.3,
        )

member-tells : (x : Text) (i : Ex) (d : Dom) (env : Env) (w : Value) → meaning i env ≡ Some w → as_truth (meaning (ex2 true Op2.Member i (comp_ex (name_ex x) (over (name_pat x) d no_gens))) env) ≡ true → Listed d env w
member-tells x i d env w p h = go (members_in (domain_of d env)) refl
  where
    f : Value → Option (List Value)
    f v = option_map (λ u. u ∷ []) (meaning (name_ex x) (with_pat (name_pat x) v env))

    alone : (us : List Value) → collect us f ≡ Some us
    alone [] = refl
    alone (u ∷ us) = ap (λ o. and_then (option_map (λ w. w ∷ []) o) (λ xs. option_map (λ ys. xs ++ ys) (collect us f))) (look-itself x u env.vals) ∙ ap (option_map (λ ys. u ∷ ys)) (alone us)

    In : Option Value → Option (List Value) → Bool
    In o l = as_truth (false_where_undefined true (value_of_node (binary Op2.Member) (o ∷ option_map list_value l ∷ [])))

    go : (o : Option (List Value)) → members_in (domain_of d env) ≡ o → Listed d env w
    go None e = let r : In (Some w) None ≡ true = ap (λ z. In z None) (sym p) ∙ ap (λ z. In (meaning i env) (and_then z (λ vs. collect vs f))) (sym e) ∙ h in cc
    go (Some is) e = (is, e, ap (λ l. holds l w) (sym (to_list-of_list is)) ∙ ap (λ z. In (Some w) z) (sym (alone is)) ∙ ap (λ z. In z (collect is f)) (sym p) ∙ ap (λ z. In (meaning i env) (and_then z (λ vs. collect vs f))) (sym e) ∙ h)

-- Where `i in D` holds, i is a listed member of D.
pub in-dom-tells : (x : Text) (i : Ex) (d : Dom) (env : Env) (w : Value) → meaning i env ≡ Some w → as_truth (meaning (in_dom x i d) env) ≡ true → Listed d env w
in-dom-tells x i (int_dom (both_ends ∷ []) (more_exs a (more_exs b no_exs))) env w p h = range-tells i a b env w p h
in-dom-tells x i d env w p h = member-tells x i d env w p
    (sym (set-member i (comp_ex (name_ex x) (over (name_pat x) d no_gens)) env) ∙ h)

-- ---- items

-- A matrix has an item at each of its indices.
pub inside-items : (is xs : List Value) (z : Value) → length xs ≡ length is → holds is z ≡ true → is_some (item_at (of_list is) (of_list xs) z) ≡ true
inside-items [] xs z l e = cc
inside-items (i ∷ is) [] z l e = cc
inside-items (i ∷ is) (x ∷ xs) z l e = go (same i z) e (inside-items is xs z (ap (λ n. elim n [ zero ↦ 0 | suc m ↦ m ]) l))
  where
    go : (b : Bool) → b || holds is z ≡ true → (holds is z ≡ true → is_some (item_at (of_list is) (of_list xs) z) ≡ true) → is_some (if b then Some x else item_at (of_list is) (of_list xs) z) ≡ true
    go true e h = refl
    go false e h = h e

-- The numbers of a list.
numbers-length : (k : ℕ) (xs : List Value) → length xs ≡ length (numbers_from k xs)
numbers-length k [] = refl
numbers-length k (x ∷ xs) = ap suc (numbers-length (suc k) xs)

numbers-hold : (k : ℕ) (xs : List Value) (j : ℕ) → k ≤ j → suc j ≤ k + length xs → holds (numbers_from k xs) (number (pos j)) ≡ true
numbers-hold k [] j l u = absurd (omega (arith, l, u))
numbers-hold k (x ∷ xs) j l u = go (same (number (pos k)) (number (pos j))) refl (λ m. numbers-hold (suc k) xs j m (omega (arith, u)))
  where
    apart : same (number (pos k)) (number (pos j)) ≡ false → k ≡ j → ⊥
    apart e q = let r : true ≡ false = sym (same-itself (number (pos k))) ∙ ap (λ n. same (number (pos k)) (number (pos n))) q ∙ e in cc

    next : (k ≡ j → ⊥) → suc k ≤ j
    next n = omega (arith, l)

    go : (t : Bool) → same (number (pos k)) (number (pos j)) ≡ t → (suc k ≤ j → holds (numbers_from (suc k) xs) (number (pos j)) ≡ true) → t || holds (numbers_from (suc k) xs) (number (pos j)) ≡ true
    go true e f = refl
    go false e f = f (next (apart e))

-- A list has an item at each number from 1 to its length.
pub list-there : (xs : List Value) (w : Value) (is : List Value) → members (between (pos 1) (pos (length xs))) ≡ Some is → holds is w ≡ true → is_some (at_index (list_value xs) w) ≡ true
list-there xs w is e h = go (listed-in (pos 1) (pos (length xs)) w (ap (λ o. holds (list_or_none o) w) e ∙ h))
  where
    at : (z : ℤ) → pos 1 ≤ℤ z → z ≤ℤ pos (length xs) → is_some (item_at (of_list (numbers_from 1 xs)) (of_list xs) (number z)) ≡ true
    at (pos j) l u = inside-items (numbers_from 1 xs) xs (number (pos j)) (numbers-length 1 xs) (numbers-hold 1 xs j (low j l) (high j u))
      where
        low : (j : ℕ) → pos 1 ≤ℤ pos j → 1 ≤ j
        low j l = omega (arith, ints)

        high : (j : ℕ) → pos j ≤ℤ pos (length xs) → suc j ≤ 1 + length xs
        high j u = omega (arith, ints)
    at (negsuc j) l u = absurd (omega (arith, ints))

    go : (z : ℤ) × (w ≡ number z) × (pos 1 ≤ℤ z) × (z ≤ℤ pos (length xs)) → is_some (at_index (list_value xs) w) ≡ true
    go r = ap (λ v. is_some (at_index (list_value xs) v)) r.1 ∙ at r.0 r.2 r.3

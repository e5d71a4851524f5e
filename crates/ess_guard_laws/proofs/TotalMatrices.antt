-- The conditions of a matrix literal are total, and where they hold it has a value.
use Rattle.std.proofs.Common.{◌≡◌, refl, sym, ap, ◌∙◌, ℕ, zero, suc, Bool, true, false, ◌||◌, List, [], ◌∷◌, ◌++◌, length, ℤ, pos, ◌+ℤ◌, ◌-ℤ◌, ◌<ℤ◌, Option, Some, None, option_map, is_some, arith}
use Rattle.std.proofs.lemmas.Int.{ints}
use Rattle.std.proofs.lemmas.Bool.{eq-eqb}
use Rattle.ess_semantics.specs.declared.words.Op2.{Op2}
use Rattle.ess_semantics.specs.declared.words.Fun.{Fun}
use Rattle.ess_semantics.specs.Lists.{and_then, all_some, when}
use Rattle.ess_semantics.specs.Values.{Text, Value, number, of_list, matrix}
use Rattle.ess_semantics.specs.Order.{same, same_int}
use Rattle.ess_semantics.specs.Collections.{holds, sorted_once}
use Rattle.ess_semantics.specs.Numbers.{natural}
use Rattle.ess_semantics.specs.Trees.{binary, word, both_ends, name_pat, Exs, number_ex, matrix_ex, comp_ex, no_exs, more_exs, no_gens, over, Dom, int_dom, ex2, fun1}
use Rattle.ess_semantics.specs.Operators.{as_truth, value_of_node, false_where_undefined, list_value}
use Rattle.ess_semantics.specs.Domains.{numbers_up, interval}
use Rattle.ess_semantics.specs.Meaning.{Env, meaning, meanings, domain_of, members_in, matrix_value, collect}
use Rattle.ess_semantics.specs.Totality.{HasValue, TotalDom}
use Rattle.ess_semantics.specs.Constants.{operand_count}
use Rattle.ess_semantics.proofs.Orders.{same-equal, same_int-equal}
use Rattle.ess_semantics.proofs.Sorting.{Distinct, sorted_once-length}
use Rattle.ess_guard_laws.specs.Conditions.{unless, has_size, matrix_conditions}
use Rattle.ess_guard_laws.specs.Holds.{Hold}
use Rattle.ess_guard_laws.proofs.Holding.{the-value}
use Rattle.ess_guard_laws.proofs.LiteralRows.{number-of-values, count-means}
use Rattle.ess_guard_laws.proofs.MetRows.{each-of-always}
use Rattle.ess_guard_laws.proofs.Safe.{all-there}
use Rattle.ess_guard_laws.proofs.Behind.{Behind, EachTotal, each-total-unless, behind-asked, safe-total}

-- ---- the size of a range of numbers

up-outside : (a : ℤ) (n : ℕ) (z : ℤ) → z <ℤ a → holds (numbers_up a n) (number z) ≡ false
up-outside a zero z l = refl
up-outside a (suc n) z l = go (same_int a z) refl (up-outside (a +ℤ pos 1) n z (omega (arith, ints)))
  where
    differ : a ≡ z → ⊥
    differ e = omega (arith, ints)

    go : (t : Bool) → same_int a z ≡ t → holds (numbers_up (a +ℤ pos 1) n) (number z) ≡ false →
        same (number a) (number z) || holds (numbers_up (a +ℤ pos 1) n) (number z) ≡ false
    go true e k = absurd (differ (same_int-equal a z e))
    go false e k = ap (λ b. b || holds (numbers_up (a +ℤ pos 1) n) (number z)) e ∙ k

up-distinct : (a : ℤ) (n : ℕ) → Distinct (numbers_up a n)
up-distinct a zero = tt
up-distinct a (suc n) = (up-outside (a +ℤ pos 1) n a (omega (arith, ints)), up-distinct (a +ℤ pos 1) n)

up-length : (a : ℤ) (n : ℕ) → length (numbers_up a n) ≡ n
up-length a zero = refl
up-length a (suc n) = ap suc (up-length (a +ℤ pos 1) n)

no-more : (xs : List Value) → xs ++ [] ≡ xs
no-more [] = refl
no-more (x ∷ xs) = ap (λ l. x ∷ l) (no-more xs)

-- A range of numbers has as many members as its form tells.
size-form : (d : Dom) (n : ℕ) (env : Env) → has_size d n ≡ true →
    (is : List Value) × (members_in (domain_of d env) ≡ Some is) × (length is ≡ n)
size-form (int_dom (both_ends ∷ []) (more_exs (number_ex a) (more_exs (number_ex b) no_exs))) (suc n) env t =
    (sorted_once (interval a b ++ []), refl, counted)
  where
    wide : natural ((b -ℤ a) +ℤ pos 1) ≡ suc n
    wide = go ((b -ℤ a) +ℤ pos 1) refl
      where
        go : (m : ℤ) → (b -ℤ a) +ℤ pos 1 ≡ m → natural m ≡ suc n
        go m e = last m (sum b (same_int-equal b (a +ℤ pos n) t) ∙ e)
          where
            sum : (b : ℤ) → b ≡ a +ℤ pos n → pos (suc n) ≡ (b -ℤ a) +ℤ pos 1
            sum b q = omega (arith, ints)

            last : (m : ℤ) → pos (suc n) ≡ m → natural m ≡ suc n
            last m q = ap natural (sym q)

    counted : length (sorted_once (interval a b ++ [])) ≡ suc n
    counted = ap (λ l. length (sorted_once l)) (no-more (interval a b))
        ∙ sorted_once-length (interval a b) (up-distinct a (natural ((b -ℤ a) +ℤ pos 1)))
        ∙ up-length a (natural ((b -ℤ a) +ℤ pos 1)) ∙ wide
size-form d n env t = cc

-- Where `sum([1 | x : D]) = n` holds, D has n members.
size-tells : (x : Text) (d : Dom) (n : ℕ) (env : Env) →
    as_truth (meaning (ex2 true Op2.Eq (fun1 false Fun.Sum (comp_ex (number_ex (pos 1)) (over (name_pat x) d no_gens)))
    (number_ex (pos n))) env) ≡ true →
    (is : List Value) × (members_in (domain_of d env) ≡ Some is) × (length is ≡ n)
size-tells x d n env h = go (members_in (domain_of d env)) refl
  where
    Eq : Option Value → Bool
    Eq o = as_truth (false_where_undefined true (value_of_node (binary Op2.Eq) (o ∷ Some (number (pos n)) ∷ [])))

    number-equal : (a b : ℕ) → number (pos a) ≡ number (pos b) → a ≡ b
    number-equal a b e = ap (λ v. elim v [ number z ↦ natural z | v ↦ a ]) e

    go : (o : Option (List Value)) → members_in (domain_of d env) ≡ o →
        (is : List Value) × (members_in (domain_of d env) ≡ Some is) × (length is ≡ n)
    go None e =
        let r : Eq None ≡ true =
        ap (λ o. Eq (value_of_node (word Fun.Sum)
        (option_map list_value (and_then o (λ vs. collect vs (λ v. Some (number (pos 1) ∷ [])))) ∷ []))) (sym e) ∙ h in cc
    go (Some is) e =
        let r : same (number (pos (length is))) (number (pos n)) ≡ true = ap Eq (sym (count-means x d env is e)) ∙ h in
        (is, e, number-equal (length is) n (same-equal (number (pos (length is))) (number (pos n)) r))

number-there : (es : Exs) (d : Dom) (env : Env) →
    (is : List Value) × (members_in (domain_of d env) ≡ Some is) × (length is ≡ operand_count es) →
    HasValue (meaning (matrix_ex es d) env) (meanings es env)
number-there es d env s h =
    let r = the-value (all_some (meanings es env)) (all-there (meanings es env) h) in
    ap (λ o. is_some (and_then o (matrix_value (members_in (domain_of d env))))) r.1 ∙ ap (λ o. is_some (matrix_value o r.0)) s.1
    ∙ ap (λ b. is_some (when b (matrix (of_list s.0) (of_list r.0))))
    (eq-eqb (length s.0) (length r.0) (s.2 ∙ number-of-values es env r.0 r.1))

-- The condition of a matrix literal tells that it has a value.
pub matrix-tells : (x : Text) (es fs : Exs) (d : Dom) (env : Env) → operand_count es ≡ operand_count fs →
    Hold (matrix_conditions x es d) env → HasValue (meaning (matrix_ex fs d) env) (meanings fs env)
matrix-tells x es fs d env q h = go (has_size d (operand_count es)) refl h
  where
    go : (t : Bool) → has_size d (operand_count es) ≡ t →
        Hold (unless t (ex2 true Op2.Eq (fun1 false Fun.Sum (comp_ex (number_ex (pos 1)) (over (name_pat x) d no_gens)))
        (number_ex (pos (operand_count es))))) env → HasValue (meaning (matrix_ex fs d) env) (meanings fs env)
    go true z h = let r = size-form d (operand_count es) env z in number-there fs d env (r.0, r.1, r.2 ∙ q)
    go false z h = let r = size-tells x d (operand_count es) env h.0 in number-there fs d env (r.0, r.1, r.2 ∙ q)

matrix-asked : (x : Text) (es : Exs) (d : Dom) (env : Env) → TotalDom d env → EachTotal (matrix_conditions x es d) env
matrix-asked x es d env t = each-total-unless (has_size d (operand_count es)) _ env
    (safe-total true (binary Op2.Eq)
    (more_exs (fun1 false Fun.Sum (comp_ex (number_ex (pos 1)) (over (name_pat x) d no_gens)))
    (more_exs (number_ex (pos (operand_count es))) no_exs)) env refl (
      safe-total false (word Fun.Sum) (more_exs (comp_ex (number_ex (pos 1)) (over (name_pat x) d no_gens)) no_exs) env refl
          ((t, each-of-always (members_in (domain_of d env)) (λ v. Unit {0}) (λ v. tt)), tt),
      (tt, tt),
    ))

-- The row of a matrix literal.
pub matrix-total : (x : Text) (es fs : Exs) (d : Dom) (env : Env) → operand_count es ≡ operand_count fs → TotalDom d env →
    Behind (matrix_conditions x es d) env (HasValue (meaning (matrix_ex fs d) env) (meanings fs env))
matrix-total x es fs d env q t = behind-asked (matrix_conditions x es d) env _ (matrix-asked x es d env t) (matrix-tells x es fs d env q)

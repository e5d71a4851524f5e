-- The whole numbers that terms read under an env: arithmetic, the greater of a term and 0, and how many members a domain has.
use Rattle.std.proofs.Common.{◌≡◌, refl, sym, ap, ◌∙◌, ℕ, zero, suc, ◌+◌, ◌*◌, ◌^◌, Bool, true, false, if◌then◌else◌, List, [], ◌∷◌, ◌++◌, length, ℤ, pos, negsuc, ◌+ℤ◌, ◌-ℤ◌, ◌*ℤ◌, Option, Some, None, option_map, arith}
use Rattle.ess_semantics.specs.declared.words.Op2.{Op2}
use Rattle.ess_semantics.specs.declared.words.Fun.{Fun}
use Rattle.ess_semantics.specs.Lists.{and_then}
use Rattle.ess_semantics.specs.Values.{Text, Value, number, truth, item, node, to_list, of_list}
use Rattle.ess_semantics.specs.Order.{below}
use Rattle.std.proofs.lemmas.Int.{ints}
use Rattle.std.specs.Int.{int_pow}
use Rattle.std.specs.Cmp.{int_cmp_is}
use Rattle.std.specs.Ordering.{int_cmp, is_lt}
use Rattle.std.specs.declared.cmp.Ordering.{Ordering}
use Rattle.std.specs.declared.cmp.Ordering.TheVariants.{Less}
use Rattle.std.proofs.Math.IntN.{pos-*ℤ-pos}
use Rattle.ess_semantics.specs.Numbers.{natural, power_of}
use Rattle.ess_semantics.specs.Operators.{number_in, sum_of, value_of_node, false_where_undefined, list_value}
use Rattle.ess_semantics.specs.Domains.{Domain, members}
use Rattle.ess_semantics.specs.Trees.{binary, word, matrix_literal, Ex, number_ex, node_ex, more_exs, no_exs, Dom}
use Rattle.ess_semantics.specs.Meaning.{Env, meaning, as_int, collect, domain_of, members_in}
use Rattle.ess_semantics.proofs.Orders.{to_list-of_list}
use Rattle.ess_repr_declare_laws.specs.SizeTerms.{zero_ex, one_ex, two_ex, plus_ex, minus_ex, times_ex, power_ex, next_ex, at_least_0_ex, listed_ex}

-- The term reads this number.
abbrev pub Reads : Ex → Env → ℤ → Type 0
Reads e env z = as_int (meaning e env) ≡ Some z

-- The value that a reading comes from.
pub record From (o : Option Value) (z : ℤ) : Type 0 where
  pub value : Value
  pub there : o ≡ Some value
  pub reads : number_in value ≡ z

pub read-from : (o : Option Value) (z : ℤ) → as_int o ≡ Some z → From o z
read-from None z h = cc
read-from (Some v) z h = record { value = v; there = refl; reads = cc }

-- ---- arithmetic

-- An operator on two values that are there or not.
abbrev on_two : Op2 → Option Value → Option Value → Option Value
on_two o x y = false_where_undefined false (value_of_node (binary o) (x ∷ y ∷ []))

pub plus-reads : (env : Env) (a b : Ex) (x y : ℤ) → Reads a env x → Reads b env y → Reads (plus_ex a b) env (x +ℤ y)
plus-reads env a b x y p q =
    let u : From (meaning a env) x = read-from (meaning a env) x p in
    let v : From (meaning b env) y = read-from (meaning b env) y q in
    ap (λ o. as_int (on_two Op2.Plus o (meaning b env))) u.there ∙ ap (λ o. as_int (on_two Op2.Plus (Some u.value) o)) v.there
    ∙ ap (λ n. Some (n +ℤ number_in v.value)) u.reads ∙ ap (λ n. Some (x +ℤ n)) v.reads

pub times-reads : (env : Env) (a b : Ex) (m n : ℕ) → Reads a env (pos m) → Reads b env (pos n) → Reads (times_ex a b) env (pos (m * n))
times-reads env a b m n p q =
    let u : From (meaning a env) (pos m) = read-from (meaning a env) (pos m) p in
    let v : From (meaning b env) (pos n) = read-from (meaning b env) (pos n) q in
    ap (λ o. as_int (on_two Op2.Times o (meaning b env))) u.there ∙ ap (λ o. as_int (on_two Op2.Times (Some u.value) o)) v.there
    ∙ ap (λ k. Some (k *ℤ number_in v.value)) u.reads ∙ ap (λ k. Some (pos m *ℤ k)) v.reads ∙ ap Some (pos-*ℤ-pos m n)

-- A numeral less a term.
pub less-reads : (env : Env) (k : ℤ) (b : Ex) (y : ℤ) → Reads b env y → Reads (minus_ex (number_ex k) b) env (k -ℤ y)
less-reads env k b y q =
    let v : From (meaning b env) y = read-from (meaning b env) y q in
    ap (λ o. as_int (on_two Op2.Minus (Some (number k)) o)) v.there ∙ ap (λ n. Some (k -ℤ n)) v.reads

pub next-reads : (env : Env) (a : Ex) (n : ℕ) → Reads a env (pos n) → Reads (next_ex a) env (pos (suc n))
next-reads env a n p = plus-reads env a one_ex (pos n) (pos 1) p refl ∙ ap Some (omega (arith, ints))

int-pow : (m n : ℕ) → int_pow (pos m) n ≡ pos (m ^ n)
int-pow m n = refl

pub power-reads : (env : Env) (a b : Ex) (m n : ℕ) → Reads a env (pos (suc m)) → Reads b env (pos n) → Reads (power_ex a b) env (pos (suc m ^ n))
power-reads env a b m n p q =
    let u : From (meaning a env) (pos (suc m)) = read-from (meaning a env) (pos (suc m)) p in
    let v : From (meaning b env) (pos n) = read-from (meaning b env) (pos n) q in
    ap (λ o. as_int (on_two Op2.Pow o (meaning b env))) u.there ∙ ap (λ o. as_int (on_two Op2.Pow (Some u.value) o)) v.there
    ∙ ap (λ k. as_int (option_map number (power_of k (number_in v.value)))) u.reads ∙ ap (λ k. as_int (option_map number (power_of (pos (suc m)) k))) v.reads
    ∙ ap Some (int-pow (suc m) n)

-- ---- the greater of a term and 0

greater : (v : Value) → number_in (if below (number (pos 0)) v then v else number (pos 0)) ≡ pos (natural (number_in v))
greater (number (pos zero)) = refl
greater (number (pos (suc n))) =
    let l : int_cmp (pos 0) (pos (suc n)) ≡ Less = sym (int_cmp_is (pos 0) (pos (suc n)) Less (omega (arith, ints))) in
    ap (λ o. number_in (if is_lt o then number (pos (suc n)) else number (pos 0))) l
greater (number (negsuc n)) = refl
greater (truth b) = refl
greater (item t k) = refl
greater (node k xs) = refl

-- What stands for the term.
abbrev on_list : Option Value → Option Value
on_list o = false_where_undefined false (value_of_node (word Fun.Max) (false_where_undefined false (value_of_node matrix_literal (Some (number (pos 0)) ∷ o ∷ [])) ∷ []))

pub at-least-0-reads : (env : Env) (a : Ex) (x : ℤ) → Reads a env x → Reads (at_least_0_ex a) env (pos (natural x))
at-least-0-reads env a x p =
    let u : From (meaning a env) x = read-from (meaning a env) x p in
    ap (λ o. as_int (on_list o)) u.there ∙ ap Some (greater u.value ∙ ap (λ n. pos (natural n)) u.reads)

-- ---- counted one by one

-- As many times 1.
abbrev ones : List Value → List Value
ones [] = []
ones (v ∷ vs) = number (pos 1) ∷ ones vs

collected : (vs : List Value) → collect vs (λ v. Some (number (pos 1) ∷ [])) ≡ Some (ones vs)
collected [] = refl
collected (v ∷ vs) = ap (option_map (λ ys. number (pos 1) ∷ ys)) (collected vs)

summed : (vs : List Value) → sum_of (ones vs) ≡ pos (length vs)
summed [] = refl
summed (v ∷ vs) = ap (λ n. pos 1 +ℤ n) (summed vs) ∙ omega (arith, ints)

-- The sum of a list.
abbrev summed_list : Option (List Value) → Option Value
summed_list o = false_where_undefined false (value_of_node (word Fun.Sum) (option_map list_value o ∷ []))

pub listed-reads : (env : Env) (d : Dom) (vs : List Value) → members_in (domain_of d env) ≡ Some vs → Reads (listed_ex d) env (pos (length vs))
listed-reads env d vs h =
    ap (λ o. as_int (summed_list (and_then o (λ us. collect us (λ v. Some (number (pos 1) ∷ [])))))) h
    ∙ ap (λ o. as_int (summed_list o)) (collected vs)
    ∙ ap (λ l. Some (sum_of l)) (to_list-of_list (ones vs)) ∙ ap Some (summed vs)

-- The bound of a domain as a term is total, where ranges, named types and multisets have sizes and their numbers are total.
use Rattle.std.proofs.Common.{◌≡◌, refl, ℕ, suc, ◌^◌, Bool, true, false, if◌then◌else◌, List, [], ◌∷◌, ℤ, pos, Option, Some, None, is_some}
use Rattle.std.specs.declared.cmp.Ordering.{Ordering}
use Rattle.std.specs.declared.cmp.Ordering.TheVariants.{Less, Equal, Greater}
use Rattle.ess_semantics.specs.declared.words.Op2.{Op2}
use Rattle.ess_semantics.specs.declared.words.Fun.{Fun}
use Rattle.ess_semantics.specs.Values.{Value, number}
use Rattle.ess_semantics.specs.Kinds.{is_bounded}
use Rattle.ess_semantics.specs.Operators.{value_of_node, false_where_undefined}
use Rattle.ess_semantics.specs.Trees.{Ends, one_value, both_ends, binary, word, matrix_literal, Ex, Exs, comp_ex, no_exs, more_exs, no_gens, over, name_pat, Dom, int_dom}
use Rattle.ess_semantics.specs.Meaning.{Env, meaning, as_int, domain_of, members_in}
use Rattle.ess_semantics.specs.Totality.{HasValue, Total, TotalAll, TotalDom}
use Rattle.ess_guard_laws.proofs.Behind.{safe-total}
use Rattle.ess_guard_laws.proofs.MetRows.{each-of-always}
use Rattle.ess_repr_declare_laws.specs.SizeTerms.{zero_ex, one_ex, plus_ex, minus_ex, times_ex, power_ex, next_ex, at_least_0_ex, listed_ex, is_numeral, numerals_order, span_ex, span_by, is_missing, bound_or_0, count_ex, unused_name}
use Rattle.ess_repr_declare_laws.proofs.Readings.{Reads, power-reads}

module _ (env : Env) where
  pub plus-total : (a b : Ex) → Total a env → Total b env → Total (plus_ex a b) env
  plus-total a b g h = safe-total false (binary Op2.Plus) (more_exs a (more_exs b no_exs)) env refl (g, (h, tt))

  pub minus-total : (a b : Ex) → Total a env → Total b env → Total (minus_ex a b) env
  minus-total a b g h = safe-total false (binary Op2.Minus) (more_exs a (more_exs b no_exs)) env refl (g, (h, tt))

  pub times-total : (a b : Ex) → Total a env → Total b env → Total (times_ex a b) env
  times-total a b g h = safe-total false (binary Op2.Times) (more_exs a (more_exs b no_exs)) env refl (g, (h, tt))

  pub next-total : (a : Ex) → Total a env → Total (next_ex a) env
  next-total a g = plus-total a one_ex g tt

  read-some : (o : Option Value) (z : ℤ) → as_int o ≡ Some z → is_some o ≡ true
  read-some None z h = cc
  read-some (Some v) z h = refl

  -- A power of a number above 0, whose exponent isn't below 0.
  pub power-total : (a b : Ex) (m n : ℕ) → Reads a env (pos (suc m)) → Reads b env (pos n) → Total a env → Total b env → Total
      (power_ex a b) env
  power-total a b m n p q g h = (
    λ z. read-some (value_of_node (binary Op2.Pow) (meaning a env ∷ meaning b env ∷ [])) (pos (suc m ^ n)) (power-reads env a b m n p q),
    (g, (h, tt)),
  )

  -- The list of 0 and a term.
  abbrev list_of : Option Value → Option Value
  list_of o = false_where_undefined false (value_of_node matrix_literal (Some (number (pos 0)) ∷ o ∷ []))

  -- The greater of 0 and a term.
  pub most-total : (a : Ex) → Total a env → Total (at_least_0_ex a) env
  most-total a g = (go (meaning a env), (safe-total false matrix_literal (more_exs zero_ex (more_exs a no_exs)) env refl (tt, (g, tt)), tt))
    where
      go : (o : Option Value) → HasValue (value_of_node (word Fun.Max) (list_of o ∷ [])) (list_of o ∷ [])
      go None h = cc
      go (Some v) h = refl

  -- How many members a domain has, counted one by one.
  pub listed-total : (d : Dom) → TotalDom d env → Total (listed_ex d) env
  listed-total d t =
      safe-total false (word Fun.Sum) (more_exs (comp_ex one_ex (over (name_pat unused_name) d no_gens)) no_exs) env refl
      ((t, each-of-always (members_in (domain_of d env)) _ (λ v. tt)), tt)

  -- ---- ranges

  span-total : (a b : Ex) → Total a env → Total b env → Total (span_ex a b) env
  span-total a b g h = go (is_numeral (pos 0) a) (is_numeral (pos 1) a)
    where
      go : (x y : Bool) → Total (if x then next_ex b else (if y then b else plus_ex (minus_ex one_ex a) b)) env
      go true y = next-total b h
      go false true = h
      go false false = plus-total (minus_ex one_ex a) b (minus-total one_ex a tt g) h

  ordered-total : (o : Option Ordering) (a b : Ex) → Total a env → Total b env → Total (span_by o a b) env
  ordered-total (Some Less) a b g h = span-total a b g h
  ordered-total (Some Equal) a b g h = tt
  ordered-total (Some Greater) a b g h = tt
  ordered-total None a b g h = most-total (span_ex a b) (span-total a b g h)

  bound-total : (e : Ex) → Total e env → Total (bound_or_0 e) env
  bound-total e g = go (is_missing e)
    where
      go : (b : Bool) → Total (if b then zero_ex else e) env
      go true = tt
      go false = g

  listed-if : (b : Bool) (rs : List Ends) (es : Exs) → TotalAll es env → Total (if b then listed_ex (int_dom rs es) else zero_ex) env
  listed-if true rs es t = listed-total (int_dom rs es) t
  listed-if false rs es t = tt

  -- The number of members of an int domain.
  pub count-total : (rs : List Ends) (es : Exs) → TotalAll es env → Total (count_ex rs es) env
  count-total (one_value ∷ []) es t = tt
  count-total (both_ends ∷ []) (more_exs a (more_exs b no_exs)) t =
      ordered-total (numerals_order (bound_or_0 a) (bound_or_0 b)) (bound_or_0 a) (bound_or_0 b) (bound-total a t.0) (bound-total b t.1.0)
  count-total rs es t = listed-if (is_bounded rs) rs es t

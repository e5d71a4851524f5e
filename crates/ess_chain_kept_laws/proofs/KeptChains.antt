-- Chains of rules keep meanings where each step has what it counts on beside new names.
use Rattle.std.proofs.Common.{◌≡◌, refl, ◌∙◌, ℕ, ◌+◌, ◌≤◌, ◌^◌, Bool, true, false, not, if◌then◌else◌, Option, Some, None, arith}
use Rattle.ess_semantics.specs.Values.{Text}
use Rattle.ess_semantics.specs.Order.{same_text}
use Rattle.ess_semantics.specs.Names.{Names}
use Rattle.ess_semantics.specs.Trees.{Ex, ex2}
use Rattle.ess_semantics.specs.Types.{Ty}
use Rattle.ess_semantics.specs.Meaning.{Env}
use Rattle.ess_semantics.specs.Contexts.{In, fill}
use Rattle.ess_semantics.specs.NamesAt.{names_at}
use Rattle.ess_semantics.specs.Kept.{Keeps}
use Rattle.ess_rules_laws.specs.Rules.{Unused}
use Rattle.ess_rules_laws.specs.MatrixRules.{UnusedDom}
use Rattle.ess_rules_laws.specs.ListRules.{different_term}
use Rattle.ess_rules_laws.proofs.Kept.{kept-itself, where-stays}
use Rattle.ess_rules_laws.proofs.KeptUnder.{step-here}
use Rattle.ess_rules_laws.proofs.Places.{where-map}
use Rattle.ess_rules_laws.proofs.FoldRules.{alone-keeps, nothing-keeps, term-keeps}
use Rattle.ess_rules_laws.proofs.LooseRules.{loosely-keeps}
use Rattle.ess_rules_laws.proofs.TupleNames.{names-over-tuples}
use Rattle.ess_rules_laws.proofs.InclusionRules.{turned-keeps, included_often-keeps}
use Rattle.ess_rules_laws.proofs.MembershipRules.{member_term-keeps, member_changed-keeps}
use Rattle.ess_rules_laws.proofs.FunctionMembershipRules.{member_related-keeps}
use Rattle.ess_rules_laws.proofs.SizeRules.{frequency_term-keeps, together_term-keeps}
use Rattle.ess_rules_laws.proofs.LiteralRules.{extreme_listed-keeps}
use Rattle.ess_rules_laws.proofs.ListRules.{lists-keep}
use Rattle.ess_refine_laws.proofs.RecordNames.{names-over-records}
use Rattle.ess_refine_laws.proofs.AllRules.{all-keep}
use Rattle.ess_refine_laws.specs.WhatRulesCountOn.{MatricesIndexed}
use Rattle.ess_refine_laws.specs.AllRules.{Rule, over_nothing, over_one, over_one_binding, over_a_term, over_a_literal, over_a_made_set, over_a_source, of_one_source, over_a_comprehension, over_tuples, over_a_tuple, over_a_record, over_a_condition, component_of_a_tuple, field_of_a_record, not_equal, turned, strictly, equal_tuples, equal_records, equal_sets, equal_multisets, equal_functions, equal_partitions, with_nothing, equal_matrices_at, included_sets, included_multisets, in_two, in_one_made_of_another, in_a_literal, in_what_a_function_has, in_its_pairs, in_a_term, size_of_one_made_of_another, size, frequency_in_one_made_of_another, frequency_in_a_literal, frequency, together, least_of_a_literal, different_items, list_of_a_term, lists_on_both_sides, all_different, results, choice, condition, condition_behind, least_under_a_condition, least_of_alternatives, tells_scalars_apart, rewrite}
use Rattle.conjure_model_laws.specs.ToldApart.{reserved}
use Rattle.conjure_model_laws.proofs.ToldLaws.{reserved-differ}
use Rattle.ess_chain_names_laws.specs.NamesHave.{NamesHave}
use Rattle.ess_chain_names_laws.specs.Steps.{supply_at, told_axis, IsStep, by_a_rule, Chain, at_rest as resting, one_more as going}
use Rattle.ess_chain_names_laws.specs.SparedNames.{Spares}
use Rattle.ess_chain_names_laws.proofs.NamesHave.{dom-are, of-part}
use Rattle.ess_chain_names_laws.proofs.SparedNames.{chains-spare-names, axis-has, differs, spares-later, spares-step}
use Rattle.ess_chain_kept_laws.specs.CountsBeside.{CountsBeside, TakenIndexed, needs_names}
use Rattle.ess_chain_kept_laws.specs.KeptChains.{IsRuled, IsRuledBy, ChainThere, at_rest, one_more, ChainsKeep}

-- ---- new names

module _ (n k : ℕ) (bound : n + 3 + k ≤ 2 ^ 64) where
  first-unused : (e : Ex) → Spares n e → Unused (reserved n) e
  first-unused e s = chains-spare-names.unused n n e s (omega arith) (omega (arith, bound))

  axis-unused : (e : Ex) (u : Text → Bool) → NamesHave u e → u (reserved n) ≡ false → UnusedDom (reserved n) (told_axis e)
  axis-unused e u h f = dom-are u (λ a. not (same_text (reserved n) a)) (λ a. true) (differs u (reserved n) f) (λ a t. refl)
      (told_axis e) (axis-has u e h)

  -- ---- each rule

  unless-test : (b : Bool) (o : Option Ex) (f : Ex) → (if b then None else o) ≡ Some f → o ≡ Some f
  unless-test true o f q = cc
  unless-test false o f q = q

  at-matrices : (e : Ex) → Spares n e → (env : Env) → TakenIndexed (supply_at n k) e env → MatricesIndexed (supply_at n k) e env
  at-matrices (ex2 m o a b) s env i =
      let f = s.spared n (omega arith) (omega (arith, bound)) in (
        reserved-differ n (n + 1) (omega arith) (omega (arith, bound)),
        axis-unused a s.among s.has.0 f,
        axis-unused b s.among s.has.1.0 f,
        i,
      )
  at-matrices e s env i = tt

  each-keeps : (g : Names Ty) (r : Rule) (e f : Ex) → rewrite (supply_at n k) g r e ≡ Some f → Spares n e → (env : Env) →
      CountsBeside (supply_at n k) g r e env → Keeps e f env
  each-keeps g over_nothing e f q s env c = nothing-keeps e f q env
  each-keeps g over_one e f q s env c = all-keep.each (supply_at n k) g over_one e f q env c.0 c.1
  each-keeps g over_one_binding e f q s env c = all-keep.each (supply_at n k) g over_one_binding e f q env c.0 c.1
  each-keeps g over_a_term e f q s env c = term-keeps (reserved n) e f q (first-unused e s) env
  each-keeps g over_a_literal e f q s env c = all-keep.each (supply_at n k) g over_a_literal e f q env c.0 c.1
  each-keeps g over_a_made_set e f q s env c = loosely-keeps e f q env
  each-keeps g over_a_source e f q s env c = all-keep.each (supply_at n k) g over_a_source e f q env c.0 c.1
  each-keeps g of_one_source e f q s env c = all-keep.each (supply_at n k) g of_one_source e f q env c.0 c.1
  each-keeps g over_a_comprehension e f q s env c = all-keep.each (supply_at n k) g over_a_comprehension e f q env c.0 c.1
  each-keeps g over_tuples e f q s env c = all-keep.each (supply_at n k) g over_tuples e f q env c.0 c.1
  each-keeps g over_a_tuple e f q s env c = names-over-tuples (supply_at n k).parts e f q env
  each-keeps g over_a_record e f q s env c = names-over-records (supply_at n k).parts e f q env
  each-keeps g over_a_condition e f q s env c = alone-keeps e f q env
  each-keeps g component_of_a_tuple e f q s env c = all-keep.each (supply_at n k) g component_of_a_tuple e f q env c.0 c.1
  each-keeps g field_of_a_record e f q s env c = all-keep.each (supply_at n k) g field_of_a_record e f q env c.0 c.1
  each-keeps g not_equal e f q s env c = all-keep.each (supply_at n k) g not_equal e f q env c.0 c.1
  each-keeps g turned e f q s env c = turned-keeps e f q env
  each-keeps g strictly e f q s env c = all-keep.each (supply_at n k) g strictly e f q env c.0 (first-unused e s, c.1)
  each-keeps g equal_tuples e f q s env c = all-keep.each (supply_at n k) g equal_tuples e f q env c.0 (first-unused e s, c.1, c.2)
  each-keeps g equal_records e f q s env c = all-keep.each (supply_at n k) g equal_records e f q env c.0 (first-unused e s, c.1, c.2)
  each-keeps g equal_sets e f q s env c = all-keep.each (supply_at n k) g equal_sets e f q env c.0 (first-unused e s, c.1)
  each-keeps g equal_multisets e f q s env c = all-keep.each (supply_at n k) g equal_multisets e f q env c.0 (first-unused e s, c.1)
  each-keeps g equal_functions e f q s env c = all-keep.each (supply_at n k) g equal_functions e f q env c.0 (first-unused e s, c.1)
  each-keeps g equal_partitions e f q s env c = all-keep.each (supply_at n k) g equal_partitions e f q env c.0 (first-unused e s, c.1)
  each-keeps g with_nothing e f q s env c = all-keep.each (supply_at n k) g with_nothing e f q env c.0 (first-unused e s, c.1, c.2)
  each-keeps g equal_matrices_at e f q s env c =
      all-keep.each (supply_at n k) g equal_matrices_at e f q env c.0 (first-unused e s, c.1, c.2, at-matrices e s env c.3)
  each-keeps g included_sets e f q s env c = all-keep.each (supply_at n k) g included_sets e f q env c.0 (first-unused e s, c.1, c.2)
  each-keeps g included_multisets e f q s env c = included_often-keeps (reserved n) e f q (first-unused e s) env c
  each-keeps g in_two e f q s env c = all-keep.each (supply_at n k) g in_two e f q env c.0 c.1
  each-keeps g in_one_made_of_another e f q s env c = member_changed-keeps g (reserved n) e f q (first-unused e s) env
  each-keeps g in_a_literal e f q s env c = all-keep.each (supply_at n k) g in_a_literal e f q env c.0 c.1
  each-keeps g in_what_a_function_has e f q s env c =
      all-keep.each (supply_at n k) g in_what_a_function_has e f q env c.0 (first-unused e s, c.1)
  each-keeps g in_its_pairs e f q s env c = member_related-keeps (reserved n) e f q (first-unused e s) env
  each-keeps g in_a_term e f q s env c = member_term-keeps (reserved n) e f q (first-unused e s) env
  each-keeps g size_of_one_made_of_another e f q s env c =
      all-keep.each (supply_at n k) g size_of_one_made_of_another e f q env c.0 (first-unused e s, c.1)
  each-keeps g size e f q s env c = all-keep.each (supply_at n k) g size e f q env c.0 (first-unused e s, c.1)
  each-keeps g frequency_in_one_made_of_another e f q s env c =
      all-keep.each (supply_at n k) g frequency_in_one_made_of_another e f q env c.0 (first-unused e s, c.1, c.2)
  each-keeps g frequency_in_a_literal e f q s env c = all-keep.each (supply_at n k) g frequency_in_a_literal e f q env c.0 c.1
  each-keeps g frequency e f q s env c = frequency_term-keeps (reserved n) e f q (first-unused e s) env c
  each-keeps g together e f q s env c = together_term-keeps (reserved n) e f q (first-unused e s) env
  each-keeps g least_of_a_literal e f q s env c = extreme_listed-keeps e f q env
  each-keeps g different_items e f q s env c = all-keep.each (supply_at n k) g different_items e f q env c.0 c.1
  each-keeps g list_of_a_term e f q s env c = lists-keep.of_a_term (reserved n) e f q (first-unused e s) env
  each-keeps g lists_on_both_sides e f q s env c = lists-keep.on_both_sides (reserved n) e f q (first-unused e s) env
  each-keeps g all_different e f q s env c =
      lists-keep.all_different (reserved n) e f (unless-test (tells_scalars_apart g e) (different_term (reserved n) e) f q)
      (first-unused e s) env
  each-keeps g results e f q s env c = all-keep.each (supply_at n k) g results e f q env c.0 (first-unused e s, c.1)
  each-keeps g choice e f q s env c = all-keep.each (supply_at n k) g choice e f q env c.0 c.1
  each-keeps g condition e f q s env c = all-keep.each (supply_at n k) g condition e f q env c.0 c.1
  each-keeps g condition_behind e f q s env c = all-keep.each (supply_at n k) g condition_behind e f q env c.0 c.1
  each-keeps g least_of_alternatives e f q s env c = all-keep.each (supply_at n k) g least_of_alternatives e f q env c.0 c.1
  each-keeps g least_under_a_condition e f q s env c = all-keep.each (supply_at n k) g least_under_a_condition e f q env c.0 c.1

-- Rules that count on new names alone count on nothing else.
beside-nothing : (n k : ℕ) (r : Rule) → needs_names r ≡ true → (g : Names Ty) (e : Ex) (env : Env) → CountsBeside (supply_at n k) g r e env
beside-nothing n k over_nothing h g e env = tt
beside-nothing n k over_a_term h g e env = tt
beside-nothing n k over_a_made_set h g e env = tt
beside-nothing n k over_a_tuple h g e env = tt
beside-nothing n k over_a_record h g e env = tt
beside-nothing n k over_a_condition h g e env = tt
beside-nothing n k turned h g e env = tt
beside-nothing n k in_one_made_of_another h g e env = tt
beside-nothing n k in_its_pairs h g e env = tt
beside-nothing n k in_a_term h g e env = tt
beside-nothing n k together h g e env = tt
beside-nothing n k least_of_a_literal h g e env = tt
beside-nothing n k list_of_a_term h g e env = tt
beside-nothing n k lists_on_both_sides h g e env = tt
beside-nothing n k all_different h g e env = tt
beside-nothing n k over_one h g e env = cc
beside-nothing n k over_one_binding h g e env = cc
beside-nothing n k over_a_literal h g e env = cc
beside-nothing n k over_a_source h g e env = cc
beside-nothing n k of_one_source h g e env = cc
beside-nothing n k over_a_comprehension h g e env = cc
beside-nothing n k over_tuples h g e env = cc
beside-nothing n k component_of_a_tuple h g e env = cc
beside-nothing n k field_of_a_record h g e env = cc
beside-nothing n k not_equal h g e env = cc
beside-nothing n k strictly h g e env = cc
beside-nothing n k equal_tuples h g e env = cc
beside-nothing n k equal_records h g e env = cc
beside-nothing n k equal_sets h g e env = cc
beside-nothing n k equal_multisets h g e env = cc
beside-nothing n k equal_functions h g e env = cc
beside-nothing n k equal_partitions h g e env = cc
beside-nothing n k with_nothing h g e env = cc
beside-nothing n k equal_matrices_at h g e env = cc
beside-nothing n k included_sets h g e env = cc
beside-nothing n k included_multisets h g e env = cc
beside-nothing n k in_two h g e env = cc
beside-nothing n k in_a_literal h g e env = cc
beside-nothing n k in_what_a_function_has h g e env = cc
beside-nothing n k size_of_one_made_of_another h g e env = cc
beside-nothing n k size h g e env = cc
beside-nothing n k frequency_in_one_made_of_another h g e env = cc
beside-nothing n k frequency_in_a_literal h g e env = cc
beside-nothing n k frequency h g e env = cc
beside-nothing n k different_items h g e env = cc
beside-nothing n k results h g e env = cc
beside-nothing n k choice h g e env = cc
beside-nothing n k condition h g e env = cc
beside-nothing n k condition_behind h g e env = cc
beside-nothing n k least_under_a_condition h g e env = cc
beside-nothing n k least_of_alternatives h g e env = cc

-- ---- chains

le : (a b c : ℕ) → a ≤ b → b ≤ c → a ≤ c
le a b c p q = omega (arith, p, q)

rule-keeps : (n m : ℕ) (g : Names Ty) (a b : Ex) → (i : IsRuled n g a b m) → m ≤ 2 ^ 64 → Spares n a → (env : Env) →
    CountsBeside (supply_at n i.count) g i.rule a env → Keeps a b env
rule-keeps n m g a b i l s env c =
    each-keeps n i.count (le (n + 3 + i.count) m (2 ^ 64) i.takes l) g i.rule a b i.fires s env c

as-step : (n m : ℕ) (g : Names Ty) (a b : Ex) → IsRuled n g a b m → IsStep n g a b m
as-step n m g a b i = by_a_rule i.count i.rule i.fires i.takes i.passes

-- The part of a tree spares what the tree spares.
part-spares : (n : ℕ) (c : In) (a : Ex) → Spares n (fill c a) → Spares n a
part-spares n c a s = record { among = s.among; has = of-part s.among a c s.has; spared = s.spared }

-- The numbers of a chain rise.
chain-up : (env : Env) (n m : ℕ) (g : Names Ty) (old new : Ex) → ChainThere env n g old new m → n ≤ m
chain-up env n m g e d (at_rest l) = l
chain-up env n m g old e (one_more {s = t} {k = k} {b = b} c l i w u) =
    up n t i.count k m l i.takes (chain-up env k m g (fill c b) e u)
  where
    up : (n t x k m : ℕ) → n ≤ t → t + 3 + x ≤ k → k ≤ m → n ≤ m
    up n t x k m p q r = omega (arith, p, q, r)

along : (env : Env) (n m : ℕ) (g : Names Ty) (old new : Ex) → ChainThere env n g old new m → m ≤ 2 ^ 64 → Spares n old → Keeps old new env
along env n m g e d (at_rest l) b s = kept-itself (λ h. Unit {0}) e env tt
along env n m g old e (one_more {s = t} {k = k} {a = x} {b = y} c l i w u) b s =
    let s' = spares-later n t (fill c x) l s in
    let top = le k m (2 ^ 64) (chain-up env k m g (fill c y) e u) b in
    let first = step-here c x y env (where-map c env (CountsBeside (supply_at t i.count) (names_at c g) i.rule x) (Keeps x y)
    (λ here p. rule-keeps t k (names_at c g) x y i top (part-spares t c x s') here p) w) in
    let rest = along env k m g (fill c y) e u b (spares-step t k (names_at c g) x y (as-step t k (names_at c g) x y i) c s') in
    λ m'. let p = first m' in let r = rest p.1 in (p.0 ∙ r.0, r.1)

-- A chain of rules that count on new names alone has what it counts on.
there : (env : Env) (n m : ℕ) (g : Names Ty) (old new : Ex) → Chain (IsRuledBy needs_names) n g old new m → ChainThere env n g old new m
there env n m g e d (resting l) = at_rest l
there env n m g old e (going {s = t} {k = k} {a = x} {b = y} c l i u) =
    one_more c l i.ruled (where-map c env (λ h. Unit {0}) (CountsBeside (supply_at t i.ruled.count) (names_at c g) i.ruled.rule x)
    (λ here p. beside-nothing t i.ruled.count i.ruled.rule i.of_these (names_at c g) x here)
    (where-stays (λ h. Unit {0}) (λ p v h t. tt) c env tt)) (there env k m g (fill c y) e u)

-- What is proved of chains.
pub chains-keep : ChainsKeep
chains-keep = record {
  by_each_rule = rule-keeps;
  along = along;
  by_names_alone = λ n m g old new u b s env. along env n m g old new (there env n m g old new u) b s;
}

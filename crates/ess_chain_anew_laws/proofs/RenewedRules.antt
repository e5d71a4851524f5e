-- Rules used where the first source is told apart anew keep what they rewrite.
use Rattle.std.proofs.Common.{◌≡◌, refl, ◌∙◌, ℕ, ◌+◌, ◌≤◌, ◌^◌, Bool, true, false, if◌then◌else◌, Some, arith}
use Rattle.ess_semantics.specs.Values.{Text}
use Rattle.ess_semantics.specs.Names.{Names}
use Rattle.ess_semantics.specs.Trees.{word, Ex, comp_ex, fun1, no_exs, from}
use Rattle.ess_semantics.specs.Types.{Ty}
use Rattle.ess_semantics.specs.Meaning.{Env}
use Rattle.ess_semantics.specs.Typed.{Typed}
use Rattle.ess_semantics.specs.Contexts.{In, hole, in_operand, in_generators, in_first, in_source, fill}
use Rattle.ess_semantics.specs.Kept.{Keeps}
use Rattle.ess_rules_laws.proofs.KeptUnder.{step-here}
use Rattle.ess_refine_laws.specs.WhatRulesCountOn.{CountsOn}
use Rattle.ess_refine_laws.specs.AllRules.{Rule, over_nothing, over_one, over_one_binding, over_a_term, over_a_literal, over_a_made_set, over_a_source, of_one_source, over_a_comprehension, over_tuples, over_a_tuple, over_a_record, over_a_condition, component_of_a_tuple, field_of_a_record, not_equal, turned, strictly, equal_tuples, equal_records, equal_sets, equal_multisets, equal_functions, equal_partitions, with_nothing, equal_matrices_at, included_sets, included_multisets, in_two, in_one_made_of_another, in_a_literal, in_what_a_function_has, in_its_pairs, in_a_term, size_of_one_made_of_another, size, frequency_in_one_made_of_another, frequency_in_a_literal, frequency, together, least_of_a_literal, different_items, list_of_a_term, lists_on_both_sides, all_different, results, choice, condition, condition_behind, least_under_a_condition, least_of_alternatives, Supply, rewrite}
use Rattle.ess_refine_laws.proofs.AllRules.{all-keep}
use Rattle.conjure_model_laws.specs.ToldApart.{reserved, told_apart}
use Rattle.ess_chain_names_laws.specs.NamesHave.{NamesHave}
use Rattle.ess_chain_names_laws.specs.RulesKeepNames.{SupplyHas, TakesHave}
use Rattle.ess_chain_names_laws.specs.Steps.{supply_at}
use Rattle.ess_chain_names_laws.specs.SparedNames.{Spares}
use Rattle.ess_chain_names_laws.proofs.NamesHave.{names-wider, part-names, of-part}
use Rattle.ess_chain_names_laws.proofs.RulesKeepNames.{rules-keep-names}
use Rattle.ess_chain_names_laws.proofs.SparedNames.{is_before, up_to, wider, given, names-given, told-has, supply-has, both-false, before-none}
use Rattle.ess_chain_kept_laws.specs.CountsBeside.{CountsBeside}
use Rattle.ess_chain_kept_laws.proofs.KeptChains.{chains-keep}
use Rattle.ess_told_over_laws.proofs.ToldMeets.{told-trees-keep}
use Rattle.ess_chain_anew_laws.specs.RenewedRules.{renews, with_new_source, behind_source, renewed, IsRuledAnew, SourceScoped, RenewedRulesKeep}

-- ---- the source

source-keeps : (z s o : Text → Bool) (j : ℕ) (a : Ex) → SourceScoped z s o j a → behind_source j a ≤ 2 ^ 64 → (env : Env) →
    Keeps a (with_new_source j a) env
source-keeps z s o j (comp_ex e (from p t hs)) i l env =
    step-here (in_generators e (in_source p hole hs)) t (told_apart j t) env (told-trees-keep.keeps z s o j t i l env)
source-keeps z s o j (fun1 m f (comp_ex e (from p t hs))) i l env =
    step-here (in_operand m (word f) (in_first (in_generators e (in_source p hole hs)) no_exs)) t (told_apart j t) env
    (told-trees-keep.keeps z s o j t i l env)
source-keeps z s o j _ i l env = λ m. (refl, m)

-- ---- each rule

module _ (s : Supply) (g : Names Ty) where
  beside : (r : Rule) → renews r ≡ true → (e : Ex) (env : Env) → CountsBeside s g r e env → Typed g env × CountsOn s g r e env
  beside over_nothing h e env c = cc
  beside over_one h e env c = cc
  beside over_one_binding h e env c = cc
  beside over_a_term h e env c = cc
  beside over_a_literal h e env c = c
  beside over_a_made_set h e env c = cc
  beside over_a_source h e env c = c
  beside of_one_source h e env c = c
  beside over_a_comprehension h e env c = c
  beside over_tuples h e env c = cc
  beside over_a_tuple h e env c = cc
  beside over_a_record h e env c = cc
  beside over_a_condition h e env c = cc
  beside component_of_a_tuple h e env c = cc
  beside field_of_a_record h e env c = cc
  beside not_equal h e env c = cc
  beside turned h e env c = cc
  beside strictly h e env c = cc
  beside equal_tuples h e env c = cc
  beside equal_records h e env c = cc
  beside equal_sets h e env c = cc
  beside equal_multisets h e env c = cc
  beside equal_functions h e env c = cc
  beside equal_partitions h e env c = cc
  beside with_nothing h e env c = cc
  beside equal_matrices_at h e env c = cc
  beside included_sets h e env c = cc
  beside included_multisets h e env c = cc
  beside in_two h e env c = cc
  beside in_one_made_of_another h e env c = cc
  beside in_a_literal h e env c = cc
  beside in_what_a_function_has h e env c = cc
  beside in_its_pairs h e env c = cc
  beside in_a_term h e env c = cc
  beside size_of_one_made_of_another h e env c = cc
  beside size h e env c = cc
  beside frequency_in_one_made_of_another h e env c = cc
  beside frequency_in_a_literal h e env c = cc
  beside frequency h e env c = cc
  beside together h e env c = cc
  beside least_of_a_literal h e env c = cc
  beside different_items h e env c = cc
  beside list_of_a_term h e env c = cc
  beside lists_on_both_sides h e env c = cc
  beside all_different h e env c = cc
  beside results h e env c = cc
  beside choice h e env c = cc
  beside condition h e env c = cc
  beside condition_behind h e env c = cc
  beside least_under_a_condition h e env c = cc
  beside least_of_alternatives h e env c = c

le : (a b c : ℕ) → a ≤ b → b ≤ c → a ≤ c
le a b c p q = omega (arith, p, q)

by-each : (z s o : Text → Bool) (n m : ℕ) (g : Names Ty) (a b : Ex) → (i : IsRuledAnew n g a b m) → m ≤ 2 ^ 64 → Spares n a →
    SourceScoped z s o (n + 3 + i.count) a → (env : Env) →
    CountsBeside (supply_at n i.count) g i.rule (renewed (n + 3 + i.count) i.rule a) env → Keeps a b env
by-each z s o n m g a b i l p w env = go (renews i.rule) refl i.fires
  where
    j : ℕ
    j = n + 3 + i.count

    go : (q : Bool) → renews i.rule ≡ q → rewrite (supply_at n i.count) g i.rule (if q then with_new_source j a else a) ≡ Some b →
        CountsBeside (supply_at n i.count) g i.rule (if q then with_new_source j a else a) env → Keeps a b env
    go true e f c =
        let k = beside (supply_at n i.count) g i.rule e (with_new_source j a) env c in
        let first = source-keeps z s o j a w (le (behind_source j a) m (2 ^ 64) i.renewing l) env in
        let rest = all-keep.each (supply_at n i.count) g i.rule (with_new_source j a) b f env k.0 k.1 in
        λ x. let y = first x in let v = rest y.1 in (y.0 ∙ v.0, v.1)
    go false e f c =
        chains-keep.by_each_rule n m g a b
        (record { count = i.count; rule = i.rule; fires = f; takes = i.takes; passes = i.passes }) l p env c

-- ---- names

source-has : (u : Text → Bool) (m j : ℕ) (a : Ex) → behind_source j a ≤ m → NamesHave u a → NamesHave (up_to u m) (with_new_source j a)
source-has u m j (comp_ex e (from p t hs)) l h =
    part-names (up_to u m) t (told_apart j t) (λ k. told-has u m t j l h.1.1) (in_generators e (in_source p hole hs))
    (names-wider u (up_to u m) (wider u m) (comp_ex e (from p t hs)) h)
source-has u m j (fun1 q f (comp_ex e (from p t hs))) l h =
    part-names (up_to u m) t (told_apart j t) (λ k. told-has u m t j l h.0.1.1)
    (in_operand q (word f) (in_first (in_generators e (in_source p hole hs)) no_exs))
    (names-wider u (up_to u m) (wider u m) (fun1 q f (comp_ex e (from p t hs))) h)
source-has u m j e l h = names-wider u (up_to u m) (wider u m) e h

-- Rules that renew take names alone.
bare-supply : (u : Text → Bool) (m n k : ℕ) (r : Rule) (e : Ex) → n + 3 + k ≤ m → TakesHave (up_to u m) (supply_at n k) r e →
    SupplyHas (up_to u m) (supply_at n k) r e
bare-supply u m n k r e l t = record {
  one = given u m n (omega (arith, l));
  other = given u m (n + 1) (omega (arith, l));
  third = given u m (n + 2) (omega (arith, l));
  parts = names-given u m (n + 3) k (omega (arith, l));
  taken = t;
}

new-supply : (u : Text → Bool) (m n k : ℕ) (r : Rule) (e : Ex) → renews r ≡ true → n + 3 + k ≤ m →
    SupplyHas (up_to u m) (supply_at n k) r e
new-supply u m n k over_nothing e h l = cc
new-supply u m n k over_one e h l = cc
new-supply u m n k over_one_binding e h l = cc
new-supply u m n k over_a_term e h l = cc
new-supply u m n k over_a_literal e h l = bare-supply u m n k over_a_literal e l tt
new-supply u m n k over_a_made_set e h l = cc
new-supply u m n k over_a_source e h l = bare-supply u m n k over_a_source e l tt
new-supply u m n k of_one_source e h l = bare-supply u m n k of_one_source e l tt
new-supply u m n k over_a_comprehension e h l = bare-supply u m n k over_a_comprehension e l tt
new-supply u m n k over_tuples e h l = cc
new-supply u m n k over_a_tuple e h l = cc
new-supply u m n k over_a_record e h l = cc
new-supply u m n k over_a_condition e h l = cc
new-supply u m n k component_of_a_tuple e h l = cc
new-supply u m n k field_of_a_record e h l = cc
new-supply u m n k not_equal e h l = cc
new-supply u m n k turned e h l = cc
new-supply u m n k strictly e h l = cc
new-supply u m n k equal_tuples e h l = cc
new-supply u m n k equal_records e h l = cc
new-supply u m n k equal_sets e h l = cc
new-supply u m n k equal_multisets e h l = cc
new-supply u m n k equal_functions e h l = cc
new-supply u m n k equal_partitions e h l = cc
new-supply u m n k with_nothing e h l = cc
new-supply u m n k equal_matrices_at e h l = cc
new-supply u m n k included_sets e h l = cc
new-supply u m n k included_multisets e h l = cc
new-supply u m n k in_two e h l = cc
new-supply u m n k in_one_made_of_another e h l = cc
new-supply u m n k in_a_literal e h l = cc
new-supply u m n k in_what_a_function_has e h l = cc
new-supply u m n k in_its_pairs e h l = cc
new-supply u m n k in_a_term e h l = cc
new-supply u m n k size_of_one_made_of_another e h l = cc
new-supply u m n k size e h l = cc
new-supply u m n k frequency_in_one_made_of_another e h l = cc
new-supply u m n k frequency_in_a_literal e h l = cc
new-supply u m n k frequency e h l = cc
new-supply u m n k together e h l = cc
new-supply u m n k least_of_a_literal e h l = cc
new-supply u m n k different_items e h l = cc
new-supply u m n k list_of_a_term e h l = cc
new-supply u m n k lists_on_both_sides e h l = cc
new-supply u m n k all_different e h l = cc
new-supply u m n k results e h l = cc
new-supply u m n k choice e h l = cc
new-supply u m n k condition e h l = cc
new-supply u m n k condition_behind e h l = cc
new-supply u m n k least_under_a_condition e h l = cc
new-supply u m n k least_of_alternatives e h l = bare-supply u m n k least_of_alternatives e l tt

rule-has : (u : Text → Bool) (n m : ℕ) (g : Names Ty) (a b : Ex) → IsRuledAnew n g a b m → NamesHave u a → NamesHave (up_to u m) b
rule-has u n m g a b i h = go (renews i.rule) refl i.fires
  where
    j : ℕ
    j = n + 3 + i.count

    go : (q : Bool) → renews i.rule ≡ q → rewrite (supply_at n i.count) g i.rule (if q then with_new_source j a else a) ≡ Some b →
        NamesHave (up_to u m) b
    go true e f =
        rules-keep-names.by_each_rule (up_to u m) (supply_at n i.count) g i.rule (with_new_source j a) b f
        (new-supply u m n i.count i.rule (with_new_source j a) e i.takes) (source-has u m j a i.renewing h)
    go false e f =
        rules-keep-names.by_each_rule (up_to u m) (supply_at n i.count) g i.rule a b f
        (supply-has u m n i.count i.rule a i.takes i.passes h) (names-wider u (up_to u m) (wider u m) a h)

spare-names : (n m : ℕ) (g : Names Ty) (a b : Ex) → IsRuledAnew n g a b m → (c : In) → Spares n (fill c a) → Spares m (fill c b)
spare-names n m g a b i c s = record {
  among = up_to s.among m;
  has = part-names (up_to s.among m) a b (λ h. rule-has s.among n m g a b i (of-part s.among a c s.has)) c
      (names-wider s.among (up_to s.among m) (wider s.among m) (fill c a) s.has);
  spared = λ k l t. both-false (s.among (reserved k)) (is_before m (reserved k)) (s.spared k (up n i.count m k i.takes l) t)
      (before-none m k l t);
}
  where
    up : (n x m k : ℕ) → n + 3 + x ≤ m → m ≤ k → n ≤ k
    up n x m k p q = omega (arith, p, q)

-- What is proved of them.
pub renewed-rules-keep : RenewedRulesKeep
renewed-rules-keep = record { sources = source-keeps; by_each_rule = by-each; spare_names = spare-names }

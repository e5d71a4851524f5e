-- All rules keep what they rewrite.
use Rattle.std.proofs.Common.{◌≡◌, refl, ap, ◌∙◌, Bool, true, false, if◌then◌else◌, List, [], ◌∷◌, map, Option, Some, None}
use Rattle.std.specs.Prelude.{IsTrue, is_some}
use Rattle.ess_semantics.specs.Lists.{and_then, or_else}
use Rattle.ess_semantics.specs.Names.{Names}
use Rattle.ess_semantics.specs.Trees.{name_pat, Ex, comp_ex, ex2, fun1, from}
use Rattle.ess_semantics.specs.Types.{Ty}
use Rattle.ess_semantics.specs.Typed.{Typed}
use Rattle.ess_semantics.specs.Meaning.{Env, meaning}
use Rattle.ess_semantics.specs.Contexts.{EachOf}
use Rattle.ess_semantics.specs.Kept.{Keeps}
use Rattle.ess_semantics.proofs.Tests.{and-left}
use Rattle.ess_rules_laws.specs.Rules.{IsNumber, OperandsThere}
use Rattle.ess_rules_laws.specs.Listings.{Alternative, all_listed}
use Rattle.ess_rules_laws.specs.ListedSources.{source_alone, source_parts}
use Rattle.ess_rules_laws.specs.InclusionRules.{unequal}
use Rattle.ess_rules_laws.specs.LiteralRules.{different_listed}
use Rattle.ess_rules_laws.specs.ListRules.{different_term}
use Rattle.ess_rules_laws.proofs.FoldRules.{alone-keeps, nothing-keeps, one-keeps, bare-keeps, term-keeps}
use Rattle.ess_rules_laws.proofs.LooseRules.{loosely-keeps}
use Rattle.ess_rules_laws.proofs.LiteralSources.{fold_items-keeps}
use Rattle.ess_rules_laws.proofs.ListedSources.{listed_sources-keep}
use Rattle.ess_rules_laws.proofs.SpliceRules.{splice-keeps}
use Rattle.ess_rules_laws.proofs.SplitRules.{split-keeps}
use Rattle.ess_rules_laws.proofs.TupleNames.{names-over-tuples}
use Rattle.ess_rules_laws.proofs.LiteralRules.{component_listed-keeps, different_listed-keeps, extreme_listed-keeps}
use Rattle.ess_rules_laws.proofs.FieldLiterals.{field_listed-keeps}
use Rattle.ess_rules_laws.proofs.InclusionRules.{unequal-keeps, turned-keeps, strictly-keeps, included_members-keeps, included_often-keeps, equal_members-keeps, equal_often-keeps}
use Rattle.ess_rules_laws.proofs.FunctionRules.{equal_pairs-keeps}
use Rattle.ess_rules_laws.proofs.ComponentRules.{equal_components-keeps}
use Rattle.ess_rules_laws.proofs.FieldRules.{equal_fields-keeps}
use Rattle.ess_rules_laws.proofs.PartitionRules.{equal_parts-keeps}
use Rattle.ess_rules_laws.proofs.MatrixRules.{matrices-keep}
use Rattle.ess_rules_laws.proofs.MembershipRules.{member_term-keeps, member_combined-keeps, member_changed-keeps, member_listed-keeps}
use Rattle.ess_rules_laws.proofs.FunctionMembershipRules.{member_of_function-keeps, member_related-keeps}
use Rattle.ess_rules_laws.proofs.SizeRules.{size_term-keeps, frequency_term-keeps, together_term-keeps}
use Rattle.ess_rules_laws.proofs.ShortSizeRules.{size_made-keeps, frequency_made-keeps, frequency_listed-keeps}
use Rattle.ess_rules_laws.proofs.ListRules.{lists-keep}
use Rattle.ess_rules_laws.proofs.ContainerListings.{made-listings}
use Rattle.ess_rules_laws.proofs.ChoiceRules.{choices-keep}
use Rattle.ess_refine_laws.specs.WhatRulesCountOn.{ListedApart, SourceListed, CountsOn, FiringFit, AllRulesKeep}
use Rattle.ess_refine_laws.specs.AllRules.{Rule, over_nothing, over_one, over_one_binding, over_a_term, over_a_literal, over_a_made_set, over_a_source, of_one_source, over_a_comprehension, over_tuples, over_a_tuple, over_a_record, over_a_condition, component_of_a_tuple, field_of_a_record, not_equal, turned, strictly, equal_tuples, equal_records, equal_sets, equal_multisets, equal_functions, equal_partitions, with_nothing, equal_matrices_at, included_sets, included_multisets, in_two, in_one_made_of_another, in_a_literal, in_what_a_function_has, in_its_pairs, in_a_term, size_of_one_made_of_another, size, frequency_in_one_made_of_another, frequency_in_a_literal, frequency, together, least_of_a_literal, different_items, list_of_a_term, lists_on_both_sides, all_different, results, choice, condition, condition_behind, least_under_a_condition, least_of_alternatives, Supply, offered, source_listed, only_one, source_listed_once, extremes_listed, matrices_at, opposite_copied, compares_compound, tells_scalars_apart, rewrite, OfSome, all_rules, first_rewrite}
use Rattle.ess_refine_laws.specs.ExtremeAlternatives.{put_alternative, extreme_alternatives}
use Rattle.ess_refine_laws.proofs.RecordNames.{names-over-records}
use Rattle.ess_refine_laws.proofs.LeavingConditions.{conditions-leave}
use Rattle.ess_refine_laws.proofs.Copies.{copies-serve}
use Rattle.ess_refine_laws.proofs.ExtremeAlternatives.{alternatives-serve}
use Rattle.ess_refine_laws.proofs.MovingConditions.{conditions-move}

-- ---- listings of the first source

-- What is made of the alternatives that are offered.
of-offered : {A : Type 0} (o : Option A) (F : A → Option Ex) (f : Ex) (P : A → Type 0) (Q : Type 0) → and_then o F ≡ Some f → OfSome o P →
    ((a : A) → F a ≡ Some f → P a → Q) → Q
of-offered None F f P Q q c h = cc
of-offered (Some a) F f P Q q c h = h a q c

-- Where there is an only one it is what is offered.
only-offered : (o : Option (List Alternative)) (P : List Alternative → Type 0) → OfSome o P → OfSome (only_one o) (λ a. P (a ∷ []))
only-offered None P c = tt
only-offered (Some []) P c = tt
only-offered (Some (a ∷ [])) P c = c
only-offered (Some (a ∷ b ∷ l)) P c = tt

listed-keeps : (s : Supply) (g : Names Ty) (e f : Ex) → source_listed s g e ≡ Some f → (env : Env) → SourceListed s g e env →
    OperandsThere e env →
    Keeps e f env
listed-keeps s g (fun1 m w (comp_ex e (from (name_pat y) t hs))) f q env c o =
    of-offered (offered s g t) (λ l. source_parts l (fun1 m w (comp_ex e (from (name_pat y) t hs)))) f
    (λ l. ListedApart l (fun1 m w (comp_ex e (from (name_pat y) t hs))) env) (Keeps (fun1 m w (comp_ex e (from
    (name_pat y) t hs))) f env) q c
    (λ l p d. listed_sources-keep.in_parts d.0 d.1 l (fun1 m w (comp_ex e (from (name_pat y) t hs))) f p d.2 env d.3 o)
listed-keeps s g _ f q env c o = cc

listed-once-keeps : (s : Supply) (g : Names Ty) (e f : Ex) → source_listed_once s g e ≡ Some f → (env : Env) → SourceListed s g e env →
    Keeps e f env
listed-once-keeps s g (fun1 m w (comp_ex e (from (name_pat y) t hs))) f q env c =
    of-offered (only_one (offered s g t)) (λ a. source_alone a (fun1 m w (comp_ex e (from (name_pat y) t hs)))) f
    (λ a. ListedApart (a ∷ []) (fun1 m w (comp_ex e (from (name_pat y) t hs))) env) (Keeps (fun1 m w (comp_ex e (from
    (name_pat y) t hs))) f env) q
    (only-offered (offered s g t) (λ l. ListedApart l (fun1 m w (comp_ex e (from (name_pat y) t hs))) env) c)
    (λ a p d. listed_sources-keep.alone d.0 d.1 a (fun1 m w (comp_ex e (from (name_pat y) t hs))) f p d.2 env d.3)
listed-once-keeps s g _ f q env c = cc

alternatives-keep : (s : Supply) (g : Names Ty) (e f : Ex) → extremes_listed s g e ≡ Some f → (env : Env) →
    CountsOn s g least_of_alternatives e env → Keeps e f env
alternatives-keep s g (fun1 false w (comp_ex e (from (name_pat y) t hs))) f q env c =
    of-offered (offered s g t) (λ l. extreme_alternatives (map (put_alternative y e hs) l) (fun1 false w (comp_ex e (from
    (name_pat y) t hs)))) f
    (λ l. ListedApart l (fun1 false w (comp_ex e (from (name_pat y) t hs))) env
    × EachOf (all_listed (map (put_alternative y e hs) l) env) (λ v. IsNumber (Some v)))
    (Keeps (fun1 false w (comp_ex e (from (name_pat y) t hs))) f env) q c.2
    (λ l p d m. alternatives-serve.of_numbers (map (put_alternative y e hs) l) (fun1 false w (comp_ex e (from
    (name_pat y) t hs))) f p env (
      c.0,
      alternatives-serve.of_a_comprehension d.0.0 d.0.1 l (comp_ex e (from (name_pat y) t hs)) (map (put_alternative y e hs) l) refl
          d.0.2 env (and-left (is_some (meaning (comp_ex e (from (name_pat y) t hs)) env)) true c.1) m.0 d.0.3.1,
      d.1,
    ) m)
alternatives-keep s g _ f q env c = cc

matrices-at-keep : (s : Supply) (g : Names Ty) (e f : Ex) → matrices_at s g e ≡ Some f → (env : Env) → Typed g env →
    CountsOn s g equal_matrices_at e env → Keeps e f env
matrices-at-keep s g (ex2 m o a b) f q env t c =
    matrices-keep.over_two_domains (s.index_domain a) (s.index_domain b) g s.one s.other
    (ex2 m o a b) f q c.3.0 c.0 c.3.1 c.3.2 c.1 env t c.2 c.3.3
matrices-at-keep s g _ f q env t c = cc

-- ---- each rule

-- A rule under a test, and one where a test fails.
under-test : (b : Bool) (o : Option Ex) (f : Ex) → (if b then o else None) ≡ Some f → o ≡ Some f
under-test true o f q = q
under-test false o f q = cc

unless-test : (b : Bool) (o : Option Ex) (f : Ex) → (if b then None else o) ≡ Some f → o ≡ Some f
unless-test true o f q = cc
unless-test false o f q = q

each-keeps : (s : Supply) (g : Names Ty) (r : Rule) (e f : Ex) → rewrite s g r e ≡ Some f → (env : Env) → Typed g env →
    CountsOn s g r e env → Keeps e f env
each-keeps s g over_nothing e f q env t c = nothing-keeps e f q env
each-keeps s g over_one e f q env t c = one-keeps e f q env c
each-keeps s g over_one_binding e f q env t c = bare-keeps e f q env c
each-keeps s g over_a_term e f q env t c = term-keeps s.one e f q c env
each-keeps s g over_a_literal e f q env t c = fold_items-keeps c.0 e f q c.1 env c.2
each-keeps s g over_a_made_set e f q env t c = loosely-keeps e f q env
each-keeps s g over_a_source e f q env t c = listed-keeps s g e f q env c.0 c.1
each-keeps s g of_one_source e f q env t c = listed-once-keeps s g e f q env c
each-keeps s g over_a_comprehension e f q env t c = splice-keeps c.0 c.1 e f q c.2 env c.3
each-keeps s g over_tuples e f q env t c = split-keeps c.0 e f q c.1 env c.2
each-keeps s g over_a_tuple e f q env t c = names-over-tuples s.parts e f q env
each-keeps s g over_a_record e f q env t c = names-over-records s.parts e f q env
each-keeps s g over_a_condition e f q env t c = alone-keeps e f q env
each-keeps s g component_of_a_tuple e f q env t c = component_listed-keeps e f q env c
each-keeps s g field_of_a_record e f q env t c = field_listed-keeps e f q env c
each-keeps s g not_equal e f q env t c = unequal-keeps e f (under-test (compares_compound g e) (unequal e) f q) env c
each-keeps s g turned e f q env t c = turned-keeps e f q env
each-keeps s g strictly e f q env t c = strictly-keeps g s.one e f q c.0 c.1 env t
each-keeps s g equal_tuples e f q env t c = equal_components-keeps g s.one e f q c.0 c.1 env t c.2
each-keeps s g equal_records e f q env t c = equal_fields-keeps g s.one e f q c.0 c.1 env t c.2
each-keeps s g equal_sets e f q env t c = equal_members-keeps g s.one e f q c.0 c.1 env t
each-keeps s g equal_multisets e f q env t c = equal_often-keeps g s.one e f q c.0 c.1 env t
each-keeps s g equal_functions e f q env t c = equal_pairs-keeps g s.one e f q c.0 c.1 env t
each-keeps s g equal_partitions e f q env t c = equal_parts-keeps g s.one e f q c.0 c.1 env t
each-keeps s g with_nothing e f q env t c = matrices-keep.with_nothing g s.one e f q c.0 c.1 env t c.2
each-keeps s g equal_matrices_at e f q env t c = matrices-at-keep s g e f q env t c
each-keeps s g included_sets e f q env t c = included_members-keeps g s.one e f q c.0 c.1 env t c.2
each-keeps s g included_multisets e f q env t c = included_often-keeps s.one e f q c.0 env c.1
each-keeps s g in_two e f q env t c = member_combined-keeps e f q env c
each-keeps s g in_one_made_of_another e f q env t c = member_changed-keeps g s.one e f q c env
each-keeps s g in_a_literal e f q env t c = member_listed-keeps e f q env c
each-keeps s g in_what_a_function_has e f q env t c = member_of_function-keeps g s.one e f q c.0 c.1 env t
each-keeps s g in_its_pairs e f q env t c = member_related-keeps s.one e f q c env
each-keeps s g in_a_term e f q env t c = member_term-keeps s.one e f q c env
each-keeps s g size_of_one_made_of_another e f q env t c = size_made-keeps g s.one e f q c.0 c.1 env t
each-keeps s g size e f q env t c = size_term-keeps g s.one e f q c.0 c.1 env t
each-keeps s g frequency_in_one_made_of_another e f q env t c = frequency_made-keeps g s.one e f q c.0 c.1 env t c.2
each-keeps s g frequency_in_a_literal e f q env t c = frequency_listed-keeps e f q env c
each-keeps s g frequency e f q env t c = frequency_term-keeps s.one e f q c.0 env c.1
each-keeps s g together e f q env t c = together_term-keeps s.one e f q c env
each-keeps s g least_of_a_literal e f q env t c = extreme_listed-keeps e f q env
each-keeps s g different_items e f q env t c =
    different_listed-keeps e f (unless-test (tells_scalars_apart g e) (different_listed e) f q) env c
each-keeps s g list_of_a_term e f q env t c = lists-keep.of_a_term s.one e f q c env
each-keeps s g lists_on_both_sides e f q env t c = lists-keep.on_both_sides s.one e f q c env
each-keeps s g all_different e f q env t c =
    lists-keep.all_different s.one e f (unless-test (tells_scalars_apart g e) (different_term s.one e) f q) c env
each-keeps s g results e f q env t c = made-listings.results g s.one e f q c.0 c.1 env t
each-keeps s g choice e f q env t c = choices-keep e f q env c
each-keeps s g condition e f q env t c = conditions-leave.keeps e f q env c
each-keeps s g condition_behind e f q env t c = conditions-move c.0 e f q env c.1
each-keeps s g least_of_alternatives e f q env t c = alternatives-keep s g e f q env c
each-keeps s g least_under_a_condition e f q env t c = copies-serve c.0 (opposite_copied s e) e f q env c.1

-- The first that fires.
first-keeps : (s : Supply) (g : Names Ty) (rs : List Rule) (e f : Ex) → first_rewrite s g rs e ≡ Some f → (env : Env) → Typed g env →
    FiringFit s g rs e env → Keeps e f env
first-keeps s g [] e f q env t c = cc
first-keeps s g (r ∷ rs) e f q env t c = go (rewrite s g r e) refl q c.0 (λ p. first-keeps s g rs e f p env t c.1)
  where
    go : (o : Option Ex) → rewrite s g r e ≡ o → or_else o (first_rewrite s g rs e) ≡ Some f →
        (IsTrue (is_some (rewrite s g r e)) → CountsOn s g r e env) → (first_rewrite s g rs e ≡ Some f → Keeps e f env) → Keeps e f env
    go None p q c h = h q
    go (Some a) p q c h = each-keeps s g r e f (p ∙ q) env t (c (ap is_some p))

-- What they keep.
pub all-keep : AllRulesKeep
all-keep = record { each = each-keeps; together = λ s g e f q env t c. first-keeps s g all_rules e f q env t c }

-- Each rule keeps the scope.
use Rattle.std.proofs.Common.{subst, Bool, false, Option}
use Rattle.ess_semantics.specs.Values.{Text}
use Rattle.ess_semantics.specs.Names.{Names}
use Rattle.ess_semantics.specs.Trees.{matrix_literal, mset_literal, name_pat, tuple_pat, Ex, node_ex, comp_ex, ex2, fun1, from, over, tuple_dom, record_dom}
use Rattle.ess_semantics.specs.Types.{Ty}
use Rattle.ess_semantics.specs.Scoped.{Scoped}
use Rattle.ess_rules_laws.specs.InclusionRules.{unequal}
use Rattle.ess_rules_laws.specs.LiteralRules.{different_listed}
use Rattle.ess_rules_laws.specs.ListRules.{different_term}
use Rattle.ess_refine_laws.specs.AllRules.{Rule, over_nothing, over_one, over_one_binding, over_a_term, over_a_made_set, over_tuples, over_a_tuple, over_a_record, over_a_condition, component_of_a_tuple, field_of_a_record, not_equal, turned, strictly, equal_tuples, equal_records, equal_sets, equal_multisets, equal_functions, equal_partitions, with_nothing, equal_matrices_at, included_sets, included_multisets, in_two, in_one_made_of_another, in_a_literal, in_what_a_function_has, in_its_pairs, in_a_term, size_of_one_made_of_another, size, frequency_in_one_made_of_another, frequency_in_a_literal, frequency, together, least_of_a_literal, different_items, list_of_a_term, lists_on_both_sides, all_different, results, choice, condition, condition_behind, least_under_a_condition, Supply, matrices_at, opposite_copied, compares_compound, tells_scalars_apart, rewrite}
use Rattle.ess_refine_laws.specs.ScopesStay.{Scope}
use Rattle.ess_refine_laws.specs.ScopesOfRules.{NewSupply, ScopeFits, RulesKeepScopes}
use Rattle.ess_refine_laws.proofs.ScopesOfParts.{InScope, when, under, unless, nothing, one-item, bare, alone, term, loosely, component, field, apart, turns, strict, tuples, records, in-literal, frequency-listed, least-listed, different-listed, chosen-shorter}
use Rattle.ess_refine_laws.proofs.ScopesOfContainers.{combined, changed, frequency-made, members, often, same_members, same_often, same_pairs, same_parts, no-items, of-function, related, member, size-made, sized, counted, one-part, list-of-term, both-lists, different, results as results-scoped, matrices}
use Rattle.ess_refine_laws.proofs.ScopesOfConditions.{leaves, later, opposed}
use Rattle.ess_refine_laws.proofs.ScopesOfGenerators.{splits, tuple-name, record-name}
use Rattle.ess_refine_laws.proofs.ScopesOfSources.{offered-scoped, one-put, each-item-scoped, in-parts, in-one-part, in-extremes}
use Rattle.ess_rules_laws.specs.SpliceRules.{splice}
use Rattle.ess_rules_laws.specs.SourceRules.{is_marked, fold_items}
use Rattle.ess_refine_laws.specs.AllRules.{over_a_literal, over_a_source, of_one_source, over_a_comprehension, least_of_alternatives, offered, source_listed, source_listed_once, extremes_listed}

module _ (z : Text → Bool) (t : Supply) (g : Names Ty) (s : Scope) where
  abbrev A : Option Ex → Type 0
  A r = InScope z s.all s.over_domains r

  abbrev S : Ex → Type 0
  S e = Scoped z s.all s.over_domains e

  -- ---- those that count on more

  tuples-split : (e : Ex) → ScopeFits z t g s over_tuples e → S e → A (rewrite t g over_tuples e)
  tuples-split (comp_ex e (over (tuple_pat ps) (tuple_dom ds) hs)) k h = splits z s e ps ds hs k h
  tuples-split _ k h = tt

  tuple-named : (e : Ex) → NewSupply t s e → ScopeFits z t g s over_a_tuple e → S e → A (rewrite t g over_a_tuple e)
  tuple-named (comp_ex e (over (name_pat x) (tuple_dom ds) hs)) n k h = tuple-name z s t.parts n.3 e x ds hs k h
  tuple-named _ n k h = tt

  record-named : (e : Ex) → NewSupply t s e → ScopeFits z t g s over_a_record e → S e → A (rewrite t g over_a_record e)
  record-named (comp_ex e (over (name_pat x) (record_dom fs ds) hs)) n k h = record-name z s t.parts n.3 e x fs ds hs k h
  record-named _ n k h = tt

  matrices-named : (e : Ex) → NewSupply t s e → ScopeFits z t g s equal_matrices_at e → S e → A (matrices_at t g e)
  matrices-named (ex2 m o a b) n k h =
      matrices z s.all s.over_domains t.one n.0.0 t.other (t.index_domain a) (t.index_domain b) g (ex2 m o a b) n.1.0 n.2 k.2 k.3 k.0 k.1
      n.0.1 h
  matrices-named _ n k h = tt

  moved : (e : Ex) → ScopeFits z t g s condition_behind e → S e → A (rewrite t g condition_behind e)
  moved (fun1 false f (comp_ex e gs)) k h = later z s.all s.over_domains false f e gs h k
  moved _ k h = tt

  copied : (e : Ex) → ScopeFits z t g s least_under_a_condition e → S e → A (rewrite t g least_under_a_condition e)
  copied (fun1 false f (comp_ex e gs)) k h =
      opposed z s.all s.over_domains (opposite_copied t (fun1 false f (comp_ex e gs))) false f e gs k h
  copied _ k h = tt

  -- ---- those that put terms for names

  spliced : (e : Ex) → ScopeFits z t g s over_a_comprehension e → S e → A (splice e)
  spliced (comp_ex e (from (name_pat y) (comp_ex w ks) hs)) k h =
      one-put z s y e hs k.0 k.1 k.2 k.3 h.2 (record { gens = ks; item = w }) k.4.0 h.1
  spliced _ k h = tt

  literal-put : (e : Ex) → ScopeFits z t g s over_a_literal e → S e → A (fold_items e)
  literal-put (fun1 m f (comp_ex e (from (name_pat y) (node_ex false matrix_literal es) hs))) k h =
      when z s.all s.over_domains (is_marked m f) _ (each-item-scoped z s y e hs k.0 k.1 k.2 k.3 h.0.2 m f es k.4 h.0.1, tt)
  literal-put (fun1 m f (comp_ex e (from (name_pat y) (node_ex false mset_literal es) hs))) k h =
      when z s.all s.over_domains (is_marked m f) _ (each-item-scoped z s y e hs k.0 k.1 k.2 k.3 h.0.2 m f es k.4 h.0.1, tt)
  literal-put _ k h = tt

  sources-put : (e : Ex) → NewSupply t s e → ScopeFits z t g s over_a_source e → S e → A (source_listed t g e)
  sources-put (fun1 m f (comp_ex e (from (name_pat y) w hs))) n k h = in-parts z s y e w hs h.0.2 m f (offered t g w) k.0
      (offered-scoped z s t g w (fun1 m f (comp_ex e (from (name_pat y) w hs))) n n.0.1.0.1.1 n.4.1.0.1.1 k.1 h.0.1)
  sources-put _ n k h = tt

  source-put : (e : Ex) → NewSupply t s e → ScopeFits z t g s of_one_source e → S e → A (source_listed_once t g e)
  source-put (fun1 m f (comp_ex e (from (name_pat y) w hs))) n k h = in-one-part z s y e w hs h.0.2 m f (offered t g w) k.0
      (offered-scoped z s t g w (fun1 m f (comp_ex e (from (name_pat y) w hs))) n n.0.1.0.1.1 n.4.1.0.1.1 k.1 h.0.1)
  source-put _ n k h = tt

  extremes-put : (e : Ex) → NewSupply t s e → ScopeFits z t g s least_of_alternatives e → S e → A (extremes_listed t g e)
  extremes-put (fun1 false f (comp_ex e (from (name_pat y) w hs))) n k h = in-extremes z s y e w hs h.0.2 f (offered t g w) k.0
      (offered-scoped z s t g w (fun1 false f (comp_ex e (from (name_pat y) w hs))) n n.0.1.0.1.1 n.4.1.0.1.1 k.1 h.0.1)
  extremes-put _ n k h = tt

  -- ---- each rule

  each-scoped : (r : Rule) (e : Ex) → NewSupply t s e → ScopeFits z t g s r e → S e → A (rewrite t g r e)
  each-scoped over_nothing e n k h = nothing z s.all s.over_domains e h
  each-scoped over_one e n k h = one-item z s.all s.over_domains e h
  each-scoped over_one_binding e n k h = bare z s.all s.over_domains e h
  each-scoped over_a_term e n k h = term z s.all s.over_domains t.one n.0.0 e h
  each-scoped over_a_made_set e n k h = loosely z s.all s.over_domains e h
  each-scoped over_tuples e n k h = tuples-split e k h
  each-scoped over_a_tuple e n k h = tuple-named e n k h
  each-scoped over_a_record e n k h = record-named e n k h
  each-scoped over_a_condition e n k h = alone z s.all s.over_domains e h
  each-scoped component_of_a_tuple e n k h = component z s.all s.over_domains e h
  each-scoped field_of_a_record e n k h = field z s.all s.over_domains e h
  each-scoped not_equal e n k h = under z s.all s.over_domains (compares_compound g e) (unequal e) (apart z s.all s.over_domains e h)
  each-scoped turned e n k h = turns z s.all s.over_domains e h
  each-scoped strictly e n k h = strict z s.all s.over_domains g t.one e h
  each-scoped equal_tuples e n k h = tuples z s.all s.over_domains g t.one e h
  each-scoped equal_records e n k h = records z s.all s.over_domains g t.one e h
  each-scoped equal_sets e n k h = same_members z s.all s.over_domains t.one n.0.0 g e n.0.1 h
  each-scoped equal_multisets e n k h = same_often z s.all s.over_domains t.one n.0.0 g e n.0.1 h
  each-scoped equal_functions e n k h = same_pairs z s.all s.over_domains t.one n.0.0 g e n.0.1 h
  each-scoped equal_partitions e n k h = same_parts z s.all s.over_domains t.one n.0.0 g e n.0.1 h
  each-scoped with_nothing e n k h = no-items z s.all s.over_domains t.one n.0.0 g e h
  each-scoped equal_matrices_at e n k h = matrices-named e n k h
  each-scoped included_sets e n k h = members z s.all s.over_domains t.one n.0.0 g e n.0.1 h
  each-scoped included_multisets e n k h = often z s.all s.over_domains t.one n.0.0 e n.0.1 h
  each-scoped in_two e n k h = combined z s.all s.over_domains e h
  each-scoped in_one_made_of_another e n k h = changed z s.all s.over_domains t.one n.0.0 g e n.0.1 h
  each-scoped in_a_literal e n k h = in-literal z s.all s.over_domains e h
  each-scoped in_what_a_function_has e n k h = of-function z s.all s.over_domains t.one n.0.0 g e n.0.1 h
  each-scoped in_its_pairs e n k h = related z s.all s.over_domains t.one n.0.0 e n.0.1 h
  each-scoped in_a_term e n k h = member z s.all s.over_domains t.one n.0.0 e n.0.1 h
  each-scoped size_of_one_made_of_another e n k h = size-made z s.all s.over_domains t.one n.0.0 g e h
  each-scoped size e n k h = sized z s.all s.over_domains t.one n.0.0 g e h
  each-scoped frequency_in_one_made_of_another e n k h = frequency-made z s.all s.over_domains g t.one e h
  each-scoped frequency_in_a_literal e n k h = frequency-listed z s.all s.over_domains e h
  each-scoped frequency e n k h = counted z s.all s.over_domains t.one n.0.0 e n.0.1 h
  each-scoped together e n k h = one-part z s.all s.over_domains t.one n.0.0 e n.0.1 h
  each-scoped least_of_a_literal e n k h = least-listed z s.all s.over_domains e h
  each-scoped different_items e n k h =
      unless z s.all s.over_domains (tells_scalars_apart g e) (different_listed e) (different-listed z s.all s.over_domains e h)
  each-scoped list_of_a_term e n k h = list-of-term z s.all s.over_domains t.one n.0.0 e h
  each-scoped lists_on_both_sides e n k h = both-lists z s.all s.over_domains t.one n.0.0 e h
  each-scoped all_different e n k h =
      unless z s.all s.over_domains (tells_scalars_apart g e) (different_term t.one e)
      (different z s.all s.over_domains t.one n.0.0 e n.0.1 h)
  each-scoped results e n k h = results-scoped z s.all s.over_domains t.one n.0.0 g e h
  each-scoped choice e n k h = chosen-shorter z s.all s.over_domains e h
  each-scoped condition e n k h = leaves z s.all s.over_domains e h
  each-scoped condition_behind e n k h = moved e k h
  each-scoped least_under_a_condition e n k h = copied e k h
  each-scoped over_a_literal e n k h = literal-put e k h
  each-scoped over_a_source e n k h = sources-put e n k h
  each-scoped of_one_source e n k h = source-put e n k h
  each-scoped over_a_comprehension e n k h = spliced e k h
  each-scoped least_of_alternatives e n k h = extremes-put e n k h

-- What they keep.
pub rules-keep-scopes : RulesKeepScopes
rules-keep-scopes z t g r s e f q n k h = subst (λ o. InScope z s.all s.over_domains o) q (each-scoped z t g s r e n k h)

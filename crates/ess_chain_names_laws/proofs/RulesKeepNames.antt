-- Every rule brings no names but those that it takes.
use Rattle.std.proofs.Common.{subst, Bool, true, false, ◌&&◌, if◌then◌else◌, List, [], ◌∷◌, map, Option, Some, None, option_map}
use Rattle.std.specs.Prelude.{IsTrue}
use Rattle.ess_semantics.specs.declared.words.Fun.{Fun}
use Rattle.ess_semantics.specs.Lists.{and_then}
use Rattle.ess_semantics.specs.Values.{Text}
use Rattle.ess_semantics.specs.Names.{Names}
use Rattle.ess_semantics.specs.Trees.{name_pat, Ex, comp_ex, ex2, fun1, Gens, no_gens, over, from, cond}
use Rattle.ess_semantics.specs.Types.{Ty}
use Rattle.ess_semantics.specs.Substitution.{substitute_gens, for_name}
use Rattle.ess_semantics.specs.Refined.{is_refined, are_refined_gens}
use Rattle.ess_rules_laws.specs.SourceRules.{is_marked}
use Rattle.ess_rules_laws.specs.SpliceRules.{append_gens}
use Rattle.ess_rules_laws.specs.Listings.{Alternative}
use Rattle.ess_rules_laws.specs.ListedSources.{laid_out}
use Rattle.ess_rules_laws.specs.LiteralRules.{different_listed}
use Rattle.ess_rules_laws.specs.ListRules.{different_term}
use Rattle.ess_refine_laws.specs.LeavingConditions.{Parted, at_last_condition, under_condition, condition_leaves}
use Rattle.ess_refine_laws.specs.MovingConditions.{one_later, condition_later}
use Rattle.ess_refine_laws.specs.ExtremeRules.{is_extreme, are_none, either_number, extreme_condition}
use Rattle.ess_refine_laws.specs.Everywhere.{everywhere, everywhere_gens}
use Rattle.ess_refine_laws.specs.ExtremeAlternatives.{put_alternative, each_extreme, each_size, past_all, extreme_alternatives}
use Rattle.ess_refine_laws.specs.AllRules.{Rule, over_nothing, over_one, over_one_binding, over_a_term, over_a_literal, over_a_made_set, over_a_source, of_one_source, over_a_comprehension, over_tuples, over_a_tuple, over_a_record, over_a_condition, component_of_a_tuple, field_of_a_record, not_equal, turned, strictly, equal_tuples, equal_records, equal_sets, equal_multisets, equal_functions, equal_partitions, with_nothing, equal_matrices_at, included_sets, included_multisets, in_two, in_one_made_of_another, in_a_literal, in_what_a_function_has, in_its_pairs, in_a_term, size_of_one_made_of_another, size, frequency_in_one_made_of_another, frequency_in_a_literal, frequency, together, least_of_a_literal, different_items, list_of_a_term, lists_on_both_sides, all_different, results, choice, condition, condition_behind, least_under_a_condition, least_of_alternatives, Supply, offered, source_listed, source_listed_once, extremes_listed, matrices_at, opposite_copied, compares_compound, tells_scalars_apart, rewrite}
use Rattle.ess_chain_names_laws.specs.NamesHave.{NamesHave, AllNamesHave, GensNamesHave}
use Rattle.ess_chain_names_laws.specs.RulesKeepNames.{SupplyHas, TakesHave, RulesKeepNames}
use Rattle.ess_chain_names_laws.proofs.NamesHave.{put-names, put-gens, for-name, append-names, part-names, of-part}
use Rattle.ess_chain_names_laws.proofs.NamesOfListings.{PartedHas, parted-names, everywhere-names, gens-everywhere, dom-everywhere, extreme-names, offered-names}
use Rattle.ess_chain_names_laws.proofs.NamesOfFolds.{Answers, HaveAll, HaveSome, when, under, nothing, one-item, bare, alone, term, loosely, literal-items, in-parts, in-one-part, spliced, splits, tuple-name, record-name, component, field, apart, turns, strict, tuples, records}
use Rattle.ess_chain_names_laws.proofs.NamesOfContainers.{members, often, same_members, same_often, same_pairs, same_parts, no-items, matrices, combined, changed, in-literal, of-function, related, member, size-made, sized, frequency-made, frequency-listed, counted, one-part, least-listed, different-listed, list-of-term, both-lists, different, results as results-have, chosen-shorter}

module _ (u : Text → Bool) where
  abbrev A : Option Ex → Type 0
  A r = Answers u r

  -- ---- conditions that read cells

  under-names : (f : Fun) (c e : Ex) → NamesHave u c → NamesHave u e → NamesHave u (under_condition f c e)
  under-names Fun.And c e h k = (h, (k, tt))
  under-names Fun.Or c e h k = (h, (k, tt))
  under-names Fun.Sum c e h k = ((h, tt), (everywhere-names u e k, tt))
  under-names _ c e h k = (((h, tt), ((everywhere-names u e k, (tt, tt)), tt)), (tt, tt))

  leaves : (e : Ex) → NamesHave u e → A (condition_leaves e)
  leaves (fun1 b f (comp_ex e gs)) h = go (at_last_condition gs) (parted-names u gs h.0.1)
    where
      go : (r : Option Parted) → PartedHas u r → A (elim r [
        | None ↦ None
        | Some t ↦ if is_marked b f && (is_refined t.condition && (is_refined e && are_refined_gens t.after))
            then Some (fun1 b f (comp_ex (under_condition f t.condition (fun1 b f (comp_ex e t.after))) t.before)) else None
      ])
      go None k = tt
      go (Some t) k = when u (is_marked b f && (is_refined t.condition && (is_refined e && are_refined_gens t.after)))
          (fun1 b f (comp_ex (under_condition f t.condition (fun1 b f (comp_ex e t.after))) t.before))
          ((under-names f t.condition (fun1 b f (comp_ex e t.after)) k.1 ((h.0.0, k.2), tt), k.0), tt)
  leaves _ h = tt

  later-gens : (c : Ex) (gs ks : Gens) → NamesHave u c → GensNamesHave u gs → GensNamesHave u ks → (f : Fun) (e : Ex) →
      NamesHave u e → A (option_map (λ hs. fun1 false f (comp_ex e (append_gens ks hs))) (one_later c gs))
  later-gens c no_gens ks h k l f e j = tt
  later-gens c (over p d gs) ks h k l f e j =
      ((j, append-names u ks (over p _ (cond c gs)) l (k.0, dom-everywhere u d k.1, (h, k.2))), tt)
  later-gens c (from p x gs) ks h k l f e j = tt
  later-gens c (cond b gs) ks h k l f e j = ((j, append-names u ks (cond b (cond c gs)) l (k.0, (h, k.1))), tt)

  later : (e : Ex) → NamesHave u e → A (condition_later e)
  later (fun1 false f (comp_ex e gs)) h = go (at_last_condition gs) (parted-names u gs h.0.1)
    where
      go : (r : Option Parted) → PartedHas u r → A (elim r [
        | None ↦ None
        | Some t ↦ if is_extreme f && (is_refined t.condition && (is_refined e && are_refined_gens t.after))
            then option_map (λ hs. fun1 false f (comp_ex e (append_gens t.before hs))) (one_later t.condition t.after) else None
      ])
      go None k = tt
      go (Some t) k = under u (is_extreme f && (is_refined t.condition && (is_refined e && are_refined_gens t.after))) _
          (later-gens t.condition t.after t.before k.1 k.2 k.0 f e h.0.0)
  later _ h = tt

  opposed : (n : Ex) → NamesHave u n → (e : Ex) → NamesHave u e → A (extreme_condition n e)
  opposed n j (fun1 false f (comp_ex e gs)) h = go (at_last_condition gs) (parted-names u gs h.0.1)
    where
      go : (r : Option Parted) → PartedHas u r → A (elim r [
        | None ↦ None
        | Some t ↦ if (is_extreme f && are_none t.after) && (is_refined t.condition && (is_refined e && (is_refined n
            && are_refined_gens t.before)))
            then Some (fun1 false f (comp_ex (either_number t.condition (everywhere e) n) (everywhere_gens t.before))) else None
      ])
      go None k = tt
      go (Some t) k = when u ((is_extreme f && are_none t.after) && (is_refined t.condition && (is_refined e && (is_refined n
          && are_refined_gens t.before)))) _ (
            (
              (
                ((k.1, tt), (everywhere-names u e h.0.0, tt)),
                ((((k.1, tt), tt), (j, tt)), tt),
              ),
              gens-everywhere u t.before k.0,
            ),
            tt,
          )
  opposed n j _ h = tt

  -- ---- alternatives

  put-each : (y : Text) (e : Ex) (hs : Gens) (l : List Alternative) → HaveAll u l → NamesHave u e → GensNamesHave u hs →
      HaveAll u (map (put_alternative y e hs) l)
  put-each y e hs [] h k j = tt
  put-each y e hs (a ∷ l) h k j = (
    (
      put-names u (for_name y a.item) (for-name u y a.item h.0.0) e k,
      append-names u a.gens (substitute_gens (for_name y a.item) hs) h.0.1 (put-gens u (for_name y a.item)
          (for-name u y a.item h.0.0) hs j),
    ),
    put-each y e hs l h.1 k j,
  )

  sizes-have : (l : List Alternative) → HaveAll u l → AllNamesHave u (each_size l)
  sizes-have [] h = tt
  sizes-have (a ∷ l) h = ((((h.0.0, tt), h.0.1), tt), sizes-have l h.1)

  past-names : (f : Fun) (l : List Alternative) → HaveAll u l → NamesHave u (past_all f l)
  past-names Fun.Max l h = ((sizes-have l h, tt), tt)
  past-names _ l h = (sizes-have l h, tt)

  each-extreme-names : (f : Fun) (n : Ex) (l : List Alternative) → NamesHave u n → HaveAll u l → AllNamesHave u (each_extreme f n l)
  each-extreme-names f n [] h k = tt
  each-extreme-names f n (a ∷ l) h k = (
    (
      extreme-names u f (laid_out a) k.0,
      ((((((tt, k.0.1), tt), tt), tt), (h, tt)), tt),
    ),
    each-extreme-names f n l h k.1,
  )

  extremes : (f : Fun) (l : List Alternative) (t : Ex) → HaveAll u l → A (extreme_alternatives l (fun1 false f t))
  extremes f l t h = go f
    where
      go : (f : Fun) → A (extreme_alternatives l (fun1 false f t))
      go Fun.Min = (each-extreme-names Fun.Min (past_all Fun.Min l) l (past-names Fun.Min l h) h, tt)
      go Fun.Max = (each-extreme-names Fun.Max (past_all Fun.Max l) l (past-names Fun.Max l h) h, tt)
      go _ = tt

  -- ---- each rule

  unless : (c : Bool) (r : Option Ex) → A r → A (if c then None else r)
  unless true r h = tt
  unless false r h = h

  module _ (s : Supply) (g : Names Ty) (n : IsTrue (u s.one)) (m : IsTrue (u s.other)) (k : IsTrue (u s.third)) where
    some-offered : (t : Ex) → NamesHave u t → HaveSome u (offered s g t)
    some-offered t h = offered-names u s n m k g t h

    sources : (e : Ex) → NamesHave u e → A (source_listed s g e)
    sources (fun1 b f (comp_ex e (from (name_pat y) t hs))) h =
        in-parts u b f y e t hs (offered s g t) (some-offered t h.0.1.1) h.0.0 h.0.1.2
    sources _ h = tt

    source-alone : (e : Ex) → NamesHave u e → A (source_listed_once s g e)
    source-alone (fun1 b f (comp_ex e (from (name_pat y) t hs))) h =
        in-one-part u b f y e t hs (offered s g t) (some-offered t h.0.1.1) h.0.0 h.0.1.2
    source-alone _ h = tt

    extremes-have : (e : Ex) → NamesHave u e → A (extremes_listed s g e)
    extremes-have (fun1 false f (comp_ex e (from (name_pat y) t hs))) h = go (offered s g t) (some-offered t h.0.1.1)
      where
        go : (r : Option (List Alternative)) → HaveSome u r → A (and_then r
            (λ l. extreme_alternatives (map (put_alternative y e hs) l) (fun1 false f (comp_ex e (from (name_pat y) t hs)))))
        go None j = tt
        go (Some l) j = extremes f (map (put_alternative y e hs) l) (comp_ex e (from (name_pat y) t hs))
            (put-each y e hs l j h.0.0 h.0.1.2)
    extremes-have _ h = tt

    at-matrices : (e : Ex) → TakesHave u s equal_matrices_at e → NamesHave u e → A (matrices_at s g e)
    at-matrices (ex2 b p a c) j h = matrices u s.one n s.other m (s.index_domain a) (s.index_domain c) g (ex2 b p a c) j.0 j.1 h
    at-matrices _ j h = tt

  each-names : (s : Supply) (g : Names Ty) (r : Rule) (e : Ex) → SupplyHas u s r e → NamesHave u e → A (rewrite s g r e)
  each-names s g over_nothing e k h = nothing u e h
  each-names s g over_one e k h = one-item u e h
  each-names s g over_one_binding e k h = bare u e h
  each-names s g over_a_term e k h = term u s.one k.one e h
  each-names s g over_a_literal e k h = literal-items u e h
  each-names s g over_a_made_set e k h = loosely u e h
  each-names s g over_a_source e k h = sources s g k.one k.other k.third e h
  each-names s g of_one_source e k h = source-alone s g k.one k.other k.third e h
  each-names s g over_a_comprehension e k h = spliced u e h
  each-names s g over_tuples e k h = splits u e h
  each-names s g over_a_tuple e k h = tuple-name u s.parts k.parts e h
  each-names s g over_a_record e k h = record-name u s.parts k.parts e h
  each-names s g over_a_condition e k h = alone u e h
  each-names s g component_of_a_tuple e k h = component u e h
  each-names s g field_of_a_record e k h = field u e h
  each-names s g not_equal e k h = under u (compares_compound g e) _ (apart u e h)
  each-names s g turned e k h = turns u e h
  each-names s g strictly e k h = strict u g s.one e h
  each-names s g equal_tuples e k h = tuples u g s.one e h
  each-names s g equal_records e k h = records u g s.one e h
  each-names s g equal_sets e k h = same_members u s.one k.one g e h
  each-names s g equal_multisets e k h = same_often u s.one k.one g e h
  each-names s g equal_functions e k h = same_pairs u s.one k.one g e h
  each-names s g equal_partitions e k h = same_parts u s.one k.one g e h
  each-names s g with_nothing e k h = no-items u s.one k.one g e h
  each-names s g equal_matrices_at e k h = at-matrices s g k.one k.other k.third e k.taken h
  each-names s g included_sets e k h = members u s.one k.one g e h
  each-names s g included_multisets e k h = often u s.one k.one e h
  each-names s g in_two e k h = combined u e h
  each-names s g in_one_made_of_another e k h = changed u s.one k.one g e h
  each-names s g in_a_literal e k h = in-literal u e h
  each-names s g in_what_a_function_has e k h = of-function u s.one k.one g e h
  each-names s g in_its_pairs e k h = related u s.one k.one e h
  each-names s g in_a_term e k h = member u s.one k.one e h
  each-names s g size_of_one_made_of_another e k h = size-made u s.one k.one g e h
  each-names s g size e k h = sized u s.one k.one g e h
  each-names s g frequency_in_one_made_of_another e k h = frequency-made u s.one k.one g e h
  each-names s g frequency_in_a_literal e k h = frequency-listed u e h
  each-names s g frequency e k h = counted u s.one k.one e h
  each-names s g together e k h = one-part u s.one k.one e h
  each-names s g least_of_a_literal e k h = least-listed u e h
  each-names s g different_items e k h = unless (tells_scalars_apart g e) (different_listed e) (different-listed u e h)
  each-names s g list_of_a_term e k h = list-of-term u s.one k.one e h
  each-names s g lists_on_both_sides e k h = both-lists u s.one k.one e h
  each-names s g all_different e k h = unless (tells_scalars_apart g e) (different_term s.one e) (different u s.one k.one e h)
  each-names s g results e k h = results-have u s.one k.one g e h
  each-names s g choice e k h = chosen-shorter u e h
  each-names s g condition e k h = leaves e h
  each-names s g condition_behind e k h = later e h
  each-names s g least_of_alternatives e k h = extremes-have s g k.one k.other k.third e h
  each-names s g least_under_a_condition e k h = opposed (opposite_copied s e) k.taken e h

-- What rules keep.
pub rules-keep-names : RulesKeepNames
rules-keep-names = record {
  by_each_rule = λ u s g r e f q k h. subst (λ z. Answers u z) q (each-names u s g r e k h);
  at_a_part = λ u c a b k h. part-names u a b k c h;
  of_a_part = λ u c a h. of-part u a c h;
}

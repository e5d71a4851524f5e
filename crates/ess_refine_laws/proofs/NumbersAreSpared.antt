-- Every rule spells no new numbers but 0 and 1.
use Rattle.std.proofs.Common.{◌≡◌, refl, subst, Bool, true, false, ◌&&◌, if◌then◌else◌, List, [], ◌∷◌, map, ℤ, pos, Option, Some, None, option_map}
use Rattle.ess_semantics.specs.declared.words.Fun.{Fun}
use Rattle.ess_semantics.specs.Lists.{and_then}
use Rattle.ess_semantics.specs.Values.{Text}
use Rattle.ess_semantics.specs.Names.{Names}
use Rattle.ess_semantics.specs.Trees.{name_pat, Ex, comp_ex, ex2, fun1, Gens, no_gens, over, from, cond}
use Rattle.ess_semantics.specs.Types.{Ty}
use Rattle.ess_semantics.specs.Substitution.{substitute_gens, for_name}
use Rattle.ess_semantics.specs.Refined.{is_refined, are_refined_gens}
use Rattle.ess_rules_laws.specs.SourceRules.{is_marked}
use Rattle.ess_rules_laws.specs.SpliceRules.{append_gens}
use Rattle.ess_rules_laws.specs.Listings.{Alternative}
use Rattle.ess_rules_laws.specs.LiteralRules.{different_listed}
use Rattle.ess_rules_laws.specs.ListRules.{different_term}
use Rattle.ess_refine_laws.specs.LeavingConditions.{Parted, at_last_condition, under_condition, condition_leaves}
use Rattle.ess_refine_laws.specs.MovingConditions.{one_later, condition_later}
use Rattle.ess_refine_laws.specs.ExtremeRules.{is_extreme, are_none, extreme_condition}
use Rattle.ess_refine_laws.specs.Everywhere.{everywhere, everywhere_gens}
use Rattle.ess_refine_laws.specs.ExtremeAlternatives.{put_alternative, each_extreme, each_size, past_all, extreme_alternatives}
use Rattle.ess_refine_laws.specs.AllRules.{Supply, offered}
use Rattle.ess_refine_laws.specs.Spelling.{Spells, SpellsEach, SpellsGens}
use Rattle.ess_refine_laws.proofs.Spelling.{put-spells, put-gens, for-name, append-spells}
use Rattle.ess_refine_laws.proofs.SpellingParts.{SpellsAll, SpellsSome, SpellsParted, parted-spells, everywhere-spells, gens-everywhere, dom-everywhere}
use Rattle.ess_refine_laws.specs.AllRules.{Rule, over_nothing, over_one, over_one_binding, over_a_term, over_a_literal, over_a_made_set, over_a_source, of_one_source, over_a_comprehension, over_tuples, over_a_tuple, over_a_record, over_a_condition, component_of_a_tuple, field_of_a_record, not_equal, turned, strictly, equal_tuples, equal_records, equal_sets, equal_multisets, equal_functions, equal_partitions, with_nothing, equal_matrices_at, included_sets, included_multisets, in_two, in_one_made_of_another, in_a_literal, in_what_a_function_has, in_its_pairs, in_a_term, size_of_one_made_of_another, size, frequency_in_one_made_of_another, frequency_in_a_literal, frequency, together, least_of_a_literal, different_items, list_of_a_term, lists_on_both_sides, all_different, results, choice, condition, condition_behind, least_under_a_condition, least_of_alternatives, source_listed, source_listed_once, extremes_listed, matrices_at, opposite_copied, compares_compound, tells_scalars_apart, rewrite}
use Rattle.ess_refine_laws.specs.ExtremeRules.{either_number}
use Rattle.ess_refine_laws.specs.Spelling.{SpareSupply, NumbersAreSpared}
use Rattle.ess_refine_laws.proofs.Spelling.{part-spells, rewritten-spells, rewritten-kept-so, constants-of}
use Rattle.ess_refine_laws.proofs.SpellingParts.{offered-spells}
use Rattle.ess_refine_laws.proofs.SpellingRules.{Answers, when, under, nothing, one-item, bare, alone, term, loosely, literal-items, in-parts, in-one-part, spliced, splits, tuple-name, record-name, component, field, apart, turns, strict, tuples, records}
use Rattle.ess_refine_laws.proofs.SpellingContainers.{members, often, same_members, same_often, same_pairs, same_parts, no-items, matrices, combined, changed, in-literal, of-function, related, member, size-made, sized, frequency-made, frequency-listed, counted, one-part, least-listed, different-listed, list-of-term, both-lists, different, results as results-spell, chosen-shorter}

module _ (q : ℤ → Bool) (o : q (pos 0) ≡ true) (i : q (pos 1) ≡ true) where
  abbrev A : Bool → Option Ex → Type 0
  A m r = Answers q o i m r

  -- ---- conditions that read cells

  under-spells : (m : Bool) (f : Fun) (c e : Ex) → Spells q false c → Spells q false e → Spells q m (under_condition f c e)
  under-spells m Fun.And c e h k = (refl, (h, (k, tt)))
  under-spells m Fun.Or c e h k = (refl, (h, (k, tt)))
  under-spells m Fun.Sum c e h k = (refl, ((refl, (h, tt)), (everywhere-spells q o e k, tt)))
  under-spells m _ c e h k =
      (refl, ((refl, ((refl, (h, tt)), ((refl, (everywhere-spells q o e k, (i, tt))), tt))), (i, tt)))

  leaves : (m : Bool) (e : Ex) → Spells q m e → A m (condition_leaves e)
  leaves m (fun1 b f (comp_ex e gs)) h = go (at_last_condition gs) (parted-spells q gs h.1.0.1)
    where
      go : (r : Option Parted) → SpellsParted q r → A m (elim r [
        | None ↦ None
        | Some t ↦ if is_marked b f && (is_refined t.condition && (is_refined e && are_refined_gens t.after))
            then Some (fun1 b f (comp_ex (under_condition f t.condition (fun1 b f (comp_ex e t.after))) t.before)) else None
      ])
      go None k = tt
      go (Some t) k = when q o i (is_marked b f && (is_refined t.condition && (is_refined e && are_refined_gens t.after))) m
          (fun1 b f (comp_ex (under_condition f t.condition (fun1 b f (comp_ex e t.after))) t.before))
          (refl, ((under-spells false f t.condition (fun1 b f (comp_ex e t.after)) k.1 (refl, ((h.1.0.0, k.2), tt)), k.0), tt))
  leaves m _ h = tt

  later-gens : (c : Ex) (gs ks : Gens) → Spells q false c → SpellsGens q gs → SpellsGens q ks → (m : Bool) (f : Fun) (e : Ex) →
      Spells q false e → A m (option_map (λ hs. fun1 false f (comp_ex e (append_gens ks hs))) (one_later c gs))
  later-gens c no_gens ks h k l m f e j = tt
  later-gens c (over p d gs) ks h k l m f e j =
      (refl, ((j, append-spells q ks (over p _ (cond c gs)) l (dom-everywhere q o d k.0, (h, k.1))), tt))
  later-gens c (from p x gs) ks h k l m f e j = tt
  later-gens c (cond b gs) ks h k l m f e j = (refl, ((j, append-spells q ks (cond b (cond c gs)) l (k.0, (h, k.1))), tt))

  later : (m : Bool) (e : Ex) → Spells q m e → A m (condition_later e)
  later m (fun1 false f (comp_ex e gs)) h = go (at_last_condition gs) (parted-spells q gs h.1.0.1)
    where
      go : (r : Option Parted) → SpellsParted q r → A m (elim r [
        | None ↦ None
        | Some t ↦ if is_extreme f && (is_refined t.condition && (is_refined e && are_refined_gens t.after))
            then option_map (λ hs. fun1 false f (comp_ex e (append_gens t.before hs))) (one_later t.condition t.after) else None
      ])
      go None k = tt
      go (Some t) k = under q o i (is_extreme f && (is_refined t.condition && (is_refined e && are_refined_gens t.after))) m _
          (later-gens t.condition t.after t.before k.1 k.2 k.0 m f e h.1.0.0)
  later m _ h = tt

  opposed : (n : Ex) → Spells q false n → (m : Bool) (e : Ex) → Spells q m e → A m (extreme_condition n e)
  opposed n j m (fun1 false f (comp_ex e gs)) h = go (at_last_condition gs) (parted-spells q gs h.1.0.1)
    where
      go : (r : Option Parted) → SpellsParted q r → A m (elim r [
        | None ↦ None
        | Some t ↦ if (is_extreme f && are_none t.after) && (is_refined t.condition && (is_refined e && (is_refined n
            && are_refined_gens t.before)))
            then Some (fun1 false f (comp_ex (either_number t.condition (everywhere e) n) (everywhere_gens t.before))) else None
      ])
      go None k = tt
      go (Some t) k = when q o i ((is_extreme f && are_none t.after) && (is_refined t.condition && (is_refined e && (is_refined n
          && are_refined_gens t.before)))) m _ (
            refl,
            (
              (
                (
                  refl,
                  (
                    (refl, ((refl, (k.1, tt)), (everywhere-spells q o e h.1.0.0, tt))),
                    ((refl, ((refl, ((refl, (k.1, tt)), tt)), (j, tt))), tt),
                  ),
                ),
                gens-everywhere q o t.before k.0,
              ),
              tt,
            ),
          )
  opposed n j m _ h = tt

  -- ---- alternatives

  put-each : (y : Text) (e : Ex) (hs : Gens) (l : List Alternative) → SpellsAll q l → Spells q false e → SpellsGens q hs →
      SpellsAll q (map (put_alternative y e hs) l)
  put-each y e hs [] h k j = tt
  put-each y e hs (a ∷ l) h k j = (
    (
      put-spells q (for_name y a.item) (for-name q y a.item h.0.0) e false k,
      append-spells q a.gens (substitute_gens (for_name y a.item) hs) h.0.1 (put-gens q (for_name y a.item)
          (for-name q y a.item h.0.0) hs j),
    ),
    put-each y e hs l h.1 k j,
  )

  sizes-spell : (l : List Alternative) → SpellsAll q l → SpellsEach q false (each_size l)
  sizes-spell [] h = tt
  sizes-spell (a ∷ l) h = ((refl, (((refl, (h.0.0, tt)), h.0.1), tt)), sizes-spell l h.1)

  past-spells : (f : Fun) (l : List Alternative) → SpellsAll q l → Spells q false (past_all f l)
  past-spells Fun.Max l h = (refl, ((refl, ((refl, sizes-spell l h), tt)), tt))
  past-spells _ l h = (refl, ((refl, sizes-spell l h), tt))

  each-extreme-spells : (f : Fun) (n : Ex) (l : List Alternative) → Spells q false n → SpellsAll q l →
      SpellsEach q false (each_extreme f n l)
  each-extreme-spells f n [] h k = tt
  each-extreme-spells f n (a ∷ l) h k = (
    (
      refl,
      (
        (refl, (((refl, ((k.0.0, k.0.1), tt)), ((refl, ((tt, k.0.1), tt)), tt)), tt)),
        ((refl, ((refl, ((refl, ((refl, ((tt, k.0.1), tt)), tt)), tt)), (h, tt))), tt),
      ),
    ),
    each-extreme-spells f n l h k.1,
  )

  extremes : (m : Bool) (f : Fun) (l : List Alternative) (t : Ex) → SpellsAll q l → A m (extreme_alternatives l (fun1 false f t))
  extremes m f l t h = go f
    where
      go : (f : Fun) → A m (extreme_alternatives l (fun1 false f t))
      go Fun.Min = (refl, ((refl, each-extreme-spells Fun.Min (past_all Fun.Min l) l (past-spells Fun.Min l h) h), tt))
      go Fun.Max = (refl, ((refl, each-extreme-spells Fun.Max (past_all Fun.Max l) l (past-spells Fun.Max l h) h), tt))
      go _ = tt

  -- ---- sources

  sources : (s : Supply) (g : Names Ty) (m : Bool) (e : Ex) → Spells q m e → A m (source_listed s g e)
  sources s g m (fun1 b f (comp_ex e (from (name_pat y) t hs))) h =
      in-parts q o i m b f y e t hs (offered s g t) (offered-spells q s g t h.1.0.1.0) h.1.0.0 h.1.0.1.1
  sources s g m _ h = tt

  source-alone-spells : (s : Supply) (g : Names Ty) (m : Bool) (e : Ex) → Spells q m e → A m (source_listed_once s g e)
  source-alone-spells s g m (fun1 b f (comp_ex e (from (name_pat y) t hs))) h =
      in-one-part q o i m b f y e t hs (offered s g t) (offered-spells q s g t h.1.0.1.0) h.1.0.0 h.1.0.1.1
  source-alone-spells s g m _ h = tt

  extremes-spell : (s : Supply) (g : Names Ty) (m : Bool) (e : Ex) → Spells q m e → A m (extremes_listed s g e)
  extremes-spell s g m (fun1 false f (comp_ex e (from (name_pat y) t hs))) h = go (offered s g t) (offered-spells q s g t h.1.0.1.0)
    where
      go : (r : Option (List Alternative)) → SpellsSome q r → A m (and_then r
          (λ l. extreme_alternatives (map (put_alternative y e hs) l) (fun1 false f (comp_ex e (from (name_pat y) t hs)))))
      go None k = tt
      go (Some l) k = extremes m f (map (put_alternative y e hs) l) (comp_ex e (from (name_pat y) t hs))
          (put-each y e hs l k h.1.0.0 h.1.0.1.1)
  extremes-spell s g m _ h = tt

  at-matrices : (s : Supply) (g : Names Ty) (m : Bool) (e : Ex) → SpareSupply s equal_matrices_at e q → Spells q m e →
      A m (matrices_at s g e)
  at-matrices s g m (ex2 b p a c) k h = matrices q o i (s.index_domain a) (s.index_domain c) g s.one s.other m (ex2 b p a c) k.0 k.1 h
  at-matrices s g m _ k h = tt

  all-differ : (s : Supply) (g : Names Ty) (m : Bool) (e : Ex) → SpareSupply s all_different e q → Spells q m e →
      A m (different_term s.one e)
  all-differ s g m (fun1 true Fun.AllDiff l) k h = different q o i s.one m true Fun.AllDiff l k h
  all-differ s g m _ k h = tt

  unless : (c : Bool) (m : Bool) (r : Option Ex) → A m r → A m (if c then None else r)
  unless true m r h = tt
  unless false m r h = h

  -- ---- each rule

  each-spells : (s : Supply) (g : Names Ty) (r : Rule) (m : Bool) (e : Ex) → SpareSupply s r e q → Spells q m e → A m (rewrite s g r e)
  each-spells s g over_nothing m e k h = nothing q o i m e h
  each-spells s g over_one m e k h = one-item q o i m e h
  each-spells s g over_one_binding m e k h = bare q o i m e h
  each-spells s g over_a_term m e k h = term q o i s.one m e h
  each-spells s g over_a_literal m e k h = literal-items q o i m e h
  each-spells s g over_a_made_set m e k h = loosely q o i m e h
  each-spells s g over_a_source m e k h = sources s g m e h
  each-spells s g of_one_source m e k h = source-alone-spells s g m e h
  each-spells s g over_a_comprehension m e k h = spliced q o i m e h
  each-spells s g over_tuples m e k h = splits q o i m e h
  each-spells s g over_a_tuple m e k h = tuple-name q o i s.parts m e h
  each-spells s g over_a_record m e k h = record-name q o i s.parts m e h
  each-spells s g over_a_condition m e k h = alone q o i m e h
  each-spells s g component_of_a_tuple m e k h = component q o i m e h
  each-spells s g field_of_a_record m e k h = field q o i m e h
  each-spells s g not_equal m e k h = under q o i (compares_compound g e) m _ (apart q o i m e h)
  each-spells s g turned m e k h = turns q o i m e h
  each-spells s g strictly m e k h = strict q o i g s.one m e h
  each-spells s g equal_tuples m e k h = tuples q o i g s.one m e h
  each-spells s g equal_records m e k h = records q o i g s.one m e h
  each-spells s g equal_sets m e k h = same_members q o i g s.one m e h
  each-spells s g equal_multisets m e k h = same_often q o i g s.one m e h
  each-spells s g equal_functions m e k h = same_pairs q o i g s.one m e h
  each-spells s g equal_partitions m e k h = same_parts q o i g s.one m e h
  each-spells s g with_nothing m e k h = no-items q o i g s.one m e h
  each-spells s g equal_matrices_at m e k h = at-matrices s g m e k h
  each-spells s g included_sets m e k h = members q o i g s.one m e h
  each-spells s g included_multisets m e k h = often q o i s.one m e h
  each-spells s g in_two m e k h = combined q o i m e h
  each-spells s g in_one_made_of_another m e k h = changed q o i g s.one m e h
  each-spells s g in_a_literal m e k h = in-literal q o i m e h
  each-spells s g in_what_a_function_has m e k h = of-function q o i g s.one m e h
  each-spells s g in_its_pairs m e k h = related q o i s.one m e h
  each-spells s g in_a_term m e k h = member q o i s.one m e h
  each-spells s g size_of_one_made_of_another m e k h = size-made q o i g s.one m e h
  each-spells s g size m e k h = sized q o i g s.one m e h
  each-spells s g frequency_in_one_made_of_another m e k h = frequency-made q o i g s.one m e h
  each-spells s g frequency_in_a_literal m e k h = frequency-listed q o i m e h
  each-spells s g frequency m e k h = counted q o i s.one m e h
  each-spells s g together m e k h = one-part q o i s.one m e h
  each-spells s g least_of_a_literal m e k h = least-listed q o i m e h
  each-spells s g different_items m e k h = unless (tells_scalars_apart g e) m (different_listed e) (different-listed q o i m e h)
  each-spells s g list_of_a_term m e k h = list-of-term q o i s.one m e h
  each-spells s g lists_on_both_sides m e k h = both-lists q o i s.one m e h
  each-spells s g all_different m e k h = unless (tells_scalars_apart g e) m (different_term s.one e) (all-differ s g m e k h)
  each-spells s g results m e k h = results-spell q o i g s.one m e h
  each-spells s g choice m e k h = chosen-shorter q o i m e h
  each-spells s g condition m e k h = leaves m e h
  each-spells s g condition_behind m e k h = later m e h
  each-spells s g least_of_alternatives m e k h = extremes-spell s g m e h
  each-spells s g least_under_a_condition m e k h = opposed (opposite_copied s e) k m e h

-- What they spell.
pub numbers-are-spared : NumbersAreSpared
numbers-are-spared = record {
  by_each_rule = λ s g r m e f p q k o i h. subst (λ z. Answers q o i m z) p (each-spells q o i s g r m e k h);
  at_a_part = λ q c m a b k o i h. part-spells q a b c m (k o i) h;
  by_any_rules = λ q g old new u. (rewritten-kept-so q g old new u, rewritten-spells q g old new u);
  has_the_constants = λ q m e h. constants-of q m e h;
}

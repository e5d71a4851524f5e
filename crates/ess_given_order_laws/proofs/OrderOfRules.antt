-- Every rule keeps comprehensions in order where order counts.
use Rattle.std.proofs.Common.{◌≡◌, refl, ap, Bool, true, false, not, if◌then◌else◌, List, [], ◌∷◌, map, Option, Some, None}
use Rattle.ess_semantics.specs.declared.words.Fun.{Fun}
use Rattle.ess_semantics.specs.Lists.{and_then}
use Rattle.ess_semantics.specs.Values.{Text}
use Rattle.ess_semantics.specs.Names.{Names}
use Rattle.ess_semantics.specs.Trees.{word, name_pat, Ex, comp_ex, ex2, fun1, Gens, over, from, cond}
use Rattle.ess_semantics.specs.Types.{Ty}
use Rattle.ess_semantics.specs.ExpressionJudgements.{forgets_order}
use Rattle.ess_semantics.specs.Substitution.{substitute_gens, for_name}
use Rattle.ess_rules_laws.specs.Listings.{Alternative}
use Rattle.ess_rules_laws.specs.ListedSources.{laid_out}
use Rattle.ess_rules_laws.specs.LiteralRules.{different_listed}
use Rattle.ess_rules_laws.specs.ListRules.{different_term}
use Rattle.ess_refine_laws.specs.ExtremeRules.{extreme_condition}
use Rattle.ess_refine_laws.specs.ExtremeAlternatives.{put_alternative, each_extreme, each_size, past_all, extreme_alternatives}
use Rattle.ess_refine_laws.specs.AllRules.{Rule, over_nothing, over_one, over_one_binding, over_a_term, over_a_literal, over_a_made_set, over_a_source, of_one_source, over_a_comprehension, over_tuples, over_a_tuple, over_a_record, over_a_condition, component_of_a_tuple, field_of_a_record, not_equal, turned, strictly, equal_tuples, equal_records, equal_sets, equal_multisets, equal_functions, equal_partitions, with_nothing, equal_matrices_at, included_sets, included_multisets, in_two, in_one_made_of_another, in_a_literal, in_what_a_function_has, in_its_pairs, in_a_term, size_of_one_made_of_another, size, frequency_in_one_made_of_another, frequency_in_a_literal, frequency, together, least_of_a_literal, different_items, list_of_a_term, lists_on_both_sides, all_different, results, choice, condition, condition_behind, least_under_a_condition, least_of_alternatives, Supply, offered, source_listed, source_listed_once, extremes_listed, matrices_at, opposite_copied, compares_compound, tells_scalars_apart, rewrite}
use Rattle.ess_given_laws.specs.Given.{GivenIn}
use Rattle.ess_given_order_laws.specs.OrderStays.{TakesOrder}
use Rattle.ess_given_order_laws.specs.InOrder.{Ordered, AllOrdered, GensOrdered, InOrder}
use Rattle.ess_given_order_laws.proofs.OrderedParts.{put-kept, put-gens-order, append-order}
use Rattle.ess_given_order_laws.proofs.OrderOfListings.{of-word, AllAlternatives, SomeAlternatives, extreme-kept}
use Rattle.ess_given_order_laws.proofs.OrderOfFolds.{Answered, AnsweredFor, PutsAll, PutsSome, under, nothing, one-item, bare, alone, term, loosely, literal-items, in-parts, in-one-part, spliced, splits, tuple-name, record-name}
use Rattle.ess_given_order_laws.proofs.OrderOfComparisons.{component, field, apart, turns, strict, tuples, records}
use Rattle.ess_given_order_laws.proofs.OrderOfContainers.{members, often, same_members, same_often, same_pairs, same_parts, no-items, matrices, changed, of-function, related, member, size-made, sized, frequency-made, counted, one-part, list-of-term, both-lists, different, results as results-kept}
use Rattle.ess_given_order_laws.proofs.OrderOfLiterals.{combined, in-literal, frequency-listed, least-listed, different-listed, chosen-shorter}
use Rattle.ess_given_order_laws.proofs.OrderOfConditions.{leaves, later, opposed}

module _ (u : Text → Bool) where
  abbrev A : Option Ex → Type 0
  A r = Answered u r

  -- ---- alternatives

  put-each : (y : Text) (e : Ex) (hs : Gens) (l : List Alternative) → AllAlternatives u l → PutsAll u y l → InOrder u e → GensOrdered u hs →
      AllAlternatives u (map (put_alternative y e hs) l)
  put-each y e hs [] h p k j = tt
  put-each y e hs (a ∷ l) h p k j = (
    (
      put-kept u y a.item p.0 e k,
      append-order u a.gens (substitute_gens (for_name y a.item) hs) h.0.1 (put-gens-order u y a.item p.0 hs j),
    ),
    put-each y e hs l h.1 p.1 k j,
  )

  sizes-kept : (l : List Alternative) → AllAlternatives u l → AllOrdered u (each_size l) false
  sizes-kept [] h = tt
  sizes-kept (a ∷ l) h = ((refl, (((refl, (h.0.0, tt)), h.0.1), tt)), sizes-kept l h.1)

  past-kept : (f : Fun) (l : List Alternative) → AllAlternatives u l → InOrder u (past_all f l)
  past-kept Fun.Max l h = (refl, ((refl, (sizes-kept l h, tt)), tt))
  past-kept _ l h = (refl, (sizes-kept l h, tt))

  each-extreme-kept : (f : Fun) (m : Ex) (l : List Alternative) → forgets_order (word f) ≡ true → InOrder u m → AllAlternatives u l →
      AllOrdered u (each_extreme f m l) false
  each-extreme-kept f m [] q h k = tt
  each-extreme-kept f m (a ∷ l) q h k = (
    (
      refl,
      (
        extreme-kept u f (laid_out a) q k.0,
        ((refl, ((refl, ((refl, ((refl, (((refl, tt), k.0.1), tt)), tt)), tt)), (h, tt))), tt),
      ),
    ),
    each-extreme-kept f m l q h k.1,
  )

  extremes : (f : Fun) (l : List Alternative) (t : Ex) → AllAlternatives u l → A (extreme_alternatives l (fun1 false f t))
  extremes f l t h = go f
    where
      go : (f : Fun) → A (extreme_alternatives l (fun1 false f t))
      go Fun.Min = (refl, (each-extreme-kept Fun.Min (past_all Fun.Min l) l refl (past-kept Fun.Min l h) h, tt))
      go Fun.Max = (refl, (each-extreme-kept Fun.Max (past_all Fun.Max l) l refl (past-kept Fun.Max l h) h, tt))
      go _ = tt

  -- ---- sources

  -- What the first source offers is in order, and each item may be put in for the name.
  abbrev pub OffersOrder : Supply → Names Ty → Ex → Type 0
  OffersOrder s g (fun1 b f (comp_ex e (from (name_pat y) t hs))) = SomeAlternatives u (offered s g t) × PutsSome u y (offered s g t)
  OffersOrder s g e = Unit {0}

  module _ (s : Supply) (g : Names Ty) where
    sources : (e : Ex) → OffersOrder s g e → Ordered u e → A (source_listed s g e)
    sources (fun1 b f (comp_ex e (from (name_pat y) t hs))) o h =
        let k = of-word u (forgets_order (word f)) (comp_ex e (from (name_pat y) t hs)) h in
        in-parts u b f y e t hs (offered s g t) o.0 o.1 k.0 k.1.1
    sources _ o h = tt

    source-alone : (e : Ex) → OffersOrder s g e → Ordered u e → A (source_listed_once s g e)
    source-alone (fun1 b f (comp_ex e (from (name_pat y) t hs))) o h =
        let k = of-word u (forgets_order (word f)) (comp_ex e (from (name_pat y) t hs)) h in
        in-one-part u b f y e t hs (offered s g t) o.0 o.1 k.0 k.1.1
    source-alone _ o h = tt

    extremes-kept : (e : Ex) → OffersOrder s g e → Ordered u e → A (extremes_listed s g e)
    extremes-kept (fun1 false f (comp_ex e (from (name_pat y) t hs))) o h = go (offered s g t) o.0 o.1
      where
        k : Ordered u (comp_ex e (from (name_pat y) t hs))
        k = of-word u (forgets_order (word f)) (comp_ex e (from (name_pat y) t hs)) h

        go : (r : Option (List Alternative)) → SomeAlternatives u r → PutsSome u y r → A (and_then r
            (λ l. extreme_alternatives (map (put_alternative y e hs) l) (fun1 false f (comp_ex e (from (name_pat y) t hs)))))
        go None j p = tt
        go (Some l) j p = extremes f (map (put_alternative y e hs) l) (comp_ex e (from (name_pat y) t hs))
            (put-each y e hs l j p k.0 k.1.1)
    extremes-kept _ o h = tt

  -- ---- each rule

  -- What sources offer, at a rule for sources.
  abbrev pub OffersOf : Supply → Names Ty → Rule → Ex → Type 0
  OffersOf s g over_a_source e = OffersOrder s g e
  OffersOf s g of_one_source e = OffersOrder s g e
  OffersOf s g least_of_alternatives e = OffersOrder s g e
  OffersOf s g r e = Unit {0}

  -- With the copy that is taken.
  opposed-at : (s : Supply) (e : Ex) → TakesOrder u s least_under_a_condition e → Ordered u e →
      A (extreme_condition (opposite_copied s e) e)
  opposed-at s (fun1 false f (comp_ex e gs)) t h = opposed u (opposite_copied s (fun1 false f (comp_ex e gs))) t
      (fun1 false f (comp_ex e gs)) h
  opposed-at s _ t h = tt

  -- What is answered, said of a comprehension too.
  loosened : (e : Ex) (r : Option Ex) → A r → AnsweredFor u e r
  loosened e None h = tt
  loosened e (Some f) h = (λ q. h.0, h.1)

  unless : (c : Bool) (r : Option Ex) → A r → A (if c then None else r)
  unless true r h = tt
  unless false r h = h

  at-matrices : (s : Supply) (g : Names Ty) (e : Ex) → Ordered u e → A (matrices_at s g e)
  at-matrices s g (ex2 b p a c) h = matrices u s.one s.other (s.index_domain a) (s.index_domain c) g (ex2 b p a c) h
  at-matrices s g _ h = tt

  module _ (s : Supply) (g : Names Ty) where
    abbrev one : Text
    one = s.one

    plainly : (r : Rule) (e : Ex) → TakesOrder u s r e → OffersOf s g r e → GivenIn u e → Ordered u e → AnsweredFor u e (rewrite s g r e)
    plainly over_nothing e t o i h = loosened e _ (nothing u e h)
    plainly over_one e t o i h = loosened e _ (one-item u e h)
    plainly over_one_binding e t o i h = loosened e _ (bare u e h)
    plainly over_a_term e t o i h = loosened e _ (term u one e h)
    plainly over_a_literal e t o i h = loosened e _ (literal-items u e i h)
    plainly over_a_made_set e t o i h = loosened e _ (loosely u e h)
    plainly over_a_source e t o i h = loosened e _ (sources s g e o h)
    plainly of_one_source e t o i h = loosened e _ (source-alone s g e o h)
    plainly over_a_comprehension e t o i h = spliced u e i h
    plainly over_tuples e t o i h = splits u e h
    plainly over_a_tuple e t o i h = tuple-name u s.parts e h
    plainly over_a_record e t o i h = record-name u s.parts e h
    plainly over_a_condition e t o i h = loosened e _ (alone u e h)
    plainly component_of_a_tuple e t o i h = loosened e _ (component u e h)
    plainly field_of_a_record e t o i h = loosened e _ (field u e h)
    plainly not_equal e t o i h = loosened e _ (under u (compares_compound g e) _ (apart u e h))
    plainly turned e t o i h = loosened e _ (turns u e h)
    plainly strictly e t o i h = loosened e _ (strict u g one e h)
    plainly equal_tuples e t o i h = loosened e _ (tuples u g one e h)
    plainly equal_records e t o i h = loosened e _ (records u g one e h)
    plainly equal_sets e t o i h = loosened e _ (same_members u one g e h)
    plainly equal_multisets e t o i h = loosened e _ (same_often u one g e h)
    plainly equal_functions e t o i h = loosened e _ (same_pairs u one g e h)
    plainly equal_partitions e t o i h = loosened e _ (same_parts u one g e h)
    plainly with_nothing e t o i h = loosened e _ (no-items u one g e h)
    plainly equal_matrices_at e t o i h = loosened e _ (at-matrices s g e h)
    plainly included_sets e t o i h = loosened e _ (members u one g e h)
    plainly included_multisets e t o i h = loosened e _ (often u one e h)
    plainly in_two e t o i h = loosened e _ (combined u e h)
    plainly in_one_made_of_another e t o i h = loosened e _ (changed u one g e h)
    plainly in_a_literal e t o i h = loosened e _ (in-literal u e h)
    plainly in_what_a_function_has e t o i h = loosened e _ (of-function u one g e h)
    plainly in_its_pairs e t o i h = loosened e _ (related u one e h)
    plainly in_a_term e t o i h = loosened e _ (member u one e h)
    plainly size_of_one_made_of_another e t o i h = loosened e _ (size-made u one g e h)
    plainly size e t o i h = loosened e _ (sized u one g e h)
    plainly frequency_in_one_made_of_another e t o i h = loosened e _ (frequency-made u one g e h)
    plainly frequency_in_a_literal e t o i h = loosened e _ (frequency-listed u e h)
    plainly frequency e t o i h = loosened e _ (counted u one e h)
    plainly together e t o i h = loosened e _ (one-part u one e h)
    plainly least_of_a_literal e t o i h = loosened e _ (least-listed u e h)
    plainly different_items e t o i h = loosened e _ (unless (tells_scalars_apart g e) (different_listed e) (different-listed u e h))
    plainly list_of_a_term e t o i h = loosened e _ (list-of-term u one e h)
    plainly lists_on_both_sides e t o i h = loosened e _ (both-lists u one e h)
    plainly all_different e t o i h = loosened e _ (unless (tells_scalars_apart g e) (different_term one e) (different u one e h))
    plainly results e t o i h = loosened e _ (results-kept u one g e h)
    plainly choice e t o i h = loosened e _ (chosen-shorter u e h)
    plainly condition e t o i h = loosened e _ (leaves u e h)
    plainly condition_behind e t o i h = loosened e _ (later u e h)
    plainly least_of_alternatives e t o i h = loosened e _ (extremes-kept s g e o h)
    plainly least_under_a_condition e t o i h = loosened e _ (opposed-at s e t h)

  -- By each rule.
  pub each-in-order : (s : Supply) (g : Names Ty) (r : Rule) (e : Ex) → TakesOrder u s r e → OffersOf s g r e → GivenIn u e → Ordered u e →
      AnsweredFor u e (rewrite s g r e)
  each-in-order = plainly

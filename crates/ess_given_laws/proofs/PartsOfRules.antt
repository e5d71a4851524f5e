-- Every rule keeps what the parts of a tree have.
use Rattle.std.proofs.Common.{Bool, true, false, ◌&&◌, if◌then◌else◌, List, [], ◌∷◌, map, Option, Some, None, option_map}
use Rattle.std.specs.Prelude.{IsTrue}
use Rattle.ess_semantics.specs.declared.words.Fun.{Fun}
use Rattle.ess_semantics.specs.Lists.{and_then}
use Rattle.ess_semantics.specs.Values.{Text}
use Rattle.ess_semantics.specs.Names.{Names}
use Rattle.ess_semantics.specs.Trees.{Op, Pat, Pats, name_pat, tuple_pat, Ex, Exs, node_ex, comp_ex, ex2, fun1, Gens, no_gens, over, from, cond, Dom, Doms, tuple_dom, record_dom}
use Rattle.ess_rules_laws.specs.TupleNames.{tuples_over}
use Rattle.ess_refine_laws.specs.RecordNames.{records_over}
use Rattle.ess_semantics.specs.Types.{Ty}
use Rattle.ess_semantics.specs.Substitution.{substitute_gens, for_name}
use Rattle.ess_semantics.specs.Refined.{is_refined, are_refined_gens}
use Rattle.ess_rules_laws.specs.SourceRules.{is_marked}
use Rattle.ess_rules_laws.specs.SpliceRules.{append_gens}
use Rattle.ess_rules_laws.specs.Listings.{Alternative}
use Rattle.ess_rules_laws.specs.ListedSources.{laid_out}
use Rattle.ess_rules_laws.specs.LiteralRules.{different_listed}
use Rattle.ess_rules_laws.specs.ListRules.{different_term}
use Rattle.ess_refine_laws.specs.LeavingConditions.{Parted, at_last_condition, under_condition, condition_leaves}
use Rattle.ess_refine_laws.specs.MovingConditions.{one_later, condition_later}
use Rattle.ess_refine_laws.specs.ExtremeRules.{is_extreme, are_none, either_number, extreme_condition}
use Rattle.ess_refine_laws.specs.Everywhere.{everywhere, everywhere_gens, everywhere_dom}
use Rattle.ess_refine_laws.specs.ExtremeAlternatives.{put_alternative, each_extreme, each_size, past_all, extreme_alternatives}
use Rattle.ess_refine_laws.specs.AllRules.{Rule, over_nothing, over_one, over_one_binding, over_a_term, over_a_literal, over_a_made_set, over_a_source, of_one_source, over_a_comprehension, over_tuples, over_a_tuple, over_a_record, over_a_condition, component_of_a_tuple, field_of_a_record, not_equal, turned, strictly, equal_tuples, equal_records, equal_sets, equal_multisets, equal_functions, equal_partitions, with_nothing, equal_matrices_at, included_sets, included_multisets, in_two, in_one_made_of_another, in_a_literal, in_what_a_function_has, in_its_pairs, in_a_term, size_of_one_made_of_another, size, frequency_in_one_made_of_another, frequency_in_a_literal, frequency, together, least_of_a_literal, different_items, list_of_a_term, lists_on_both_sides, all_different, results, choice, condition, condition_behind, least_under_a_condition, least_of_alternatives, Supply, offered, source_listed, source_listed_once, extremes_listed, matrices_at, opposite_copied, compares_compound, tells_scalars_apart, rewrite}
use Rattle.ess_given_laws.specs.PartsHave.{Wanted, PartsHave, AllHave, GensHave}
use Rattle.ess_given_laws.proofs.PartsHave.{Puts, put-parts, put-gens, append-parts}
use Rattle.ess_given_laws.proofs.PartsOfListings.{New, PartedHas, parted-names, everywhere-names, gens-everywhere, extreme-names}
use Rattle.ess_given_laws.proofs.PartsOfFolds.{Answers, HaveAll, HaveSome, PutsAll, PutsSome, PutsEach, DomsHave, PatsHave, when, under, nothing, one-item, bare, alone, term, loosely, literal-items, in-parts, in-one-part, spliced, splits, tuple-name, record-name, component, field, apart, turns, strict, tuples, records}
use Rattle.ess_given_laws.proofs.PartsOfContainers.{members, often, same_members, same_often, same_pairs, same_parts, no-items, matrices, combined, changed, in-literal, of-function, related, member, size-made, sized, frequency-made, frequency-listed, counted, one-part, least-listed, different-listed, list-of-term, both-lists, different, results as results-have, chosen-shorter}

module _ (w : Wanted) where
  abbrev A : Option Ex → Type 0
  A r = Answers w r

  module _ (in_dom : (d : Dom) → IsTrue (w.dom d) → IsTrue (w.dom (everywhere_dom d))) where
    -- ---- conditions that read cells

    under-names : (f : Fun) (c e : Ex) → PartsHave w c → PartsHave w e → PartsHave w (under_condition f c e)
    under-names Fun.And c e h k = (h, (k, tt))
    under-names Fun.Or c e h k = (h, (k, tt))
    under-names Fun.Sum c e h k = ((h, tt), (everywhere-names w in_dom e k, tt))
    under-names _ c e h k = (((h, tt), ((everywhere-names w in_dom e k, (tt, tt)), tt)), (tt, tt))

    leaves : (e : Ex) → PartsHave w e → A (condition_leaves e)
    leaves (fun1 b f (comp_ex e gs)) h = go (at_last_condition gs) (parted-names w gs h.0.1)
      where
        go : (r : Option Parted) → PartedHas w r → A (elim r [
          | None ↦ None
          | Some t ↦ if is_marked b f && (is_refined t.condition && (is_refined e && are_refined_gens t.after))
              then Some (fun1 b f (comp_ex (under_condition f t.condition (fun1 b f (comp_ex e t.after))) t.before)) else None
        ])
        go None k = tt
        go (Some t) k = when w (is_marked b f && (is_refined t.condition && (is_refined e && are_refined_gens t.after)))
            (fun1 b f (comp_ex (under_condition f t.condition (fun1 b f (comp_ex e t.after))) t.before))
            ((under-names f t.condition (fun1 b f (comp_ex e t.after)) k.1 ((h.0.0, k.2), tt), k.0), tt)
    leaves _ h = tt

    later-gens : (c : Ex) (gs ks : Gens) → PartsHave w c → GensHave w gs → GensHave w ks → (f : Fun) (e : Ex) →
        PartsHave w e → A (option_map (λ hs. fun1 false f (comp_ex e (append_gens ks hs))) (one_later c gs))
    later-gens c no_gens ks h k l f e j = tt
    later-gens c (over p d gs) ks h k l f e j =
        ((j, append-parts w ks (over p _ (cond c gs)) l (k.0, in_dom d k.1, (h, k.2))), tt)
    later-gens c (from p x gs) ks h k l f e j = tt
    later-gens c (cond b gs) ks h k l f e j = ((j, append-parts w ks (cond b (cond c gs)) l (k.0, (h, k.1))), tt)

    later : (e : Ex) → PartsHave w e → A (condition_later e)
    later (fun1 false f (comp_ex e gs)) h = go (at_last_condition gs) (parted-names w gs h.0.1)
      where
        go : (r : Option Parted) → PartedHas w r → A (elim r [
          | None ↦ None
          | Some t ↦ if is_extreme f && (is_refined t.condition && (is_refined e && are_refined_gens t.after))
              then option_map (λ hs. fun1 false f (comp_ex e (append_gens t.before hs))) (one_later t.condition t.after) else None
        ])
        go None k = tt
        go (Some t) k = under w (is_extreme f && (is_refined t.condition && (is_refined e && are_refined_gens t.after))) _
            (later-gens t.condition t.after t.before k.1 k.2 k.0 f e h.0.0)
    later _ h = tt

    opposed : (n : Ex) → PartsHave w n → (e : Ex) → PartsHave w e → A (extreme_condition n e)
    opposed n j (fun1 false f (comp_ex e gs)) h = go (at_last_condition gs) (parted-names w gs h.0.1)
      where
        go : (r : Option Parted) → PartedHas w r → A (elim r [
          | None ↦ None
          | Some t ↦ if (is_extreme f && are_none t.after) && (is_refined t.condition && (is_refined e && (is_refined n
              && are_refined_gens t.before)))
              then Some (fun1 false f (comp_ex (either_number t.condition (everywhere e) n) (everywhere_gens t.before))) else None
        ])
        go None k = tt
        go (Some t) k = when w ((is_extreme f && are_none t.after) && (is_refined t.condition && (is_refined e && (is_refined n
            && are_refined_gens t.before)))) _ (
              (
                (
                  ((k.1, tt), (everywhere-names w in_dom e h.0.0, tt)),
                  ((((k.1, tt), tt), (j, tt)), tt),
                ),
                gens-everywhere w in_dom t.before k.0,
              ),
              tt,
            )
    opposed n j _ h = tt

  -- ---- alternatives

  put-each : (y : Text) (e : Ex) (hs : Gens) (l : List Alternative) → HaveAll w l → PutsAll w y l → PartsHave w e → GensHave w hs →
      HaveAll w (map (put_alternative y e hs) l)
  put-each y e hs [] h p k j = tt
  put-each y e hs (a ∷ l) h p k j = (
    (
      put-parts w y a.item p.0 e k,
      append-parts w a.gens (substitute_gens (for_name y a.item) hs) h.0.1 (put-gens w y a.item p.0 hs j),
    ),
    put-each y e hs l h.1 p.1 k j,
  )

  sizes-have : (l : List Alternative) → HaveAll w l → AllHave w (each_size l)
  sizes-have [] h = tt
  sizes-have (a ∷ l) h = ((((h.0.0, tt), h.0.1), tt), sizes-have l h.1)

  past-names : (f : Fun) (l : List Alternative) → HaveAll w l → PartsHave w (past_all f l)
  past-names Fun.Max l h = ((sizes-have l h, tt), tt)
  past-names _ l h = (sizes-have l h, tt)

  each-extreme-names : (f : Fun) (n : Ex) (l : List Alternative) → PartsHave w n → HaveAll w l → AllHave w (each_extreme f n l)
  each-extreme-names f n [] h k = tt
  each-extreme-names f n (a ∷ l) h k = (
    (
      extreme-names w f (laid_out a) k.0,
      ((((((tt, k.0.1), tt), tt), tt), (h, tt)), tt),
    ),
    each-extreme-names f n l h k.1,
  )

  extremes : (f : Fun) (l : List Alternative) (t : Ex) → HaveAll w l → A (extreme_alternatives l (fun1 false f t))
  extremes f l t h = go f
    where
      go : (f : Fun) → A (extreme_alternatives l (fun1 false f t))
      go Fun.Min = (each-extreme-names Fun.Min (past_all Fun.Min l) l (past-names Fun.Min l h) h, tt)
      go Fun.Max = (each-extreme-names Fun.Max (past_all Fun.Max l) l (past-names Fun.Max l h) h, tt)
      go _ = tt

  -- ---- sources

  -- What the first source offers has it, and each item may be put in for the name.
  abbrev pub OffersAt : Supply → Names Ty → Ex → Type 0
  OffersAt s g (fun1 b f (comp_ex e (from (name_pat y) t hs))) = HaveSome w (offered s g t) × PutsSome w y (offered s g t)
  OffersAt s g e = Unit {0}

  module _ (s : Supply) (g : Names Ty) where
    sources : (e : Ex) → OffersAt s g e → PartsHave w e → A (source_listed s g e)
    sources (fun1 b f (comp_ex e (from (name_pat y) t hs))) o h = in-parts w b f y e t hs (offered s g t) o.0 o.1 h.0.0 h.0.1.2
    sources _ o h = tt

    source-alone : (e : Ex) → OffersAt s g e → PartsHave w e → A (source_listed_once s g e)
    source-alone (fun1 b f (comp_ex e (from (name_pat y) t hs))) o h =
        in-one-part w b f y e t hs (offered s g t) o.0 o.1 h.0.0 h.0.1.2
    source-alone _ o h = tt

    extremes-have : (e : Ex) → OffersAt s g e → PartsHave w e → A (extremes_listed s g e)
    extremes-have (fun1 false f (comp_ex e (from (name_pat y) t hs))) o h = go (offered s g t) o.0 o.1
      where
        go : (r : Option (List Alternative)) → HaveSome w r → PutsSome w y r → A (and_then r
            (λ l. extreme_alternatives (map (put_alternative y e hs) l) (fun1 false f (comp_ex e (from (name_pat y) t hs)))))
        go None j p = tt
        go (Some l) j p = extremes f (map (put_alternative y e hs) l) (comp_ex e (from (name_pat y) t hs))
            (put-each y e hs l j p h.0.0 h.0.1.2)
    extremes-have _ o h = tt

  -- The same at a rule for sources.
  abbrev pub OffersOf : Supply → Names Ty → Rule → Ex → Type 0
  OffersOf s g over_a_source e = OffersAt s g e
  OffersOf s g of_one_source e = OffersAt s g e
  OffersOf s g least_of_alternatives e = OffersAt s g e
  OffersOf s g r e = Unit {0}

  pub from-sources : (s : Supply) (g : Names Ty) (e : Ex) → OffersAt s g e → PartsHave w e →
      A (source_listed s g e) × A (source_listed_once s g e) × A (extremes_listed s g e)
  from-sources s g e o h = (sources s g e o h, source-alone s g e o h, extremes-have s g e o h)

-- What the rule takes: the index domains of matrices, and a copy.
abbrev pub TakenHas : Wanted → Supply → Rule → Ex → Type 0
TakenHas w s equal_matrices_at (ex2 m o a b) = IsTrue (w.dom (s.index_domain a)) × IsTrue (w.dom (s.index_domain b))
TakenHas w s least_under_a_condition e = PartsHave w (opposite_copied s e)
TakenHas w s r e = Unit {0}

-- What is asked of w and of what rules take.
pub record Allows (w : Wanted) (s : Supply) : Type 0 where
  pub new : New w s
  pub in_dom : (d : Dom) → IsTrue (w.dom d) → IsTrue (w.dom (everywhere_dom d))
  pub made : (p : Pat) (t : Ex) → IsTrue (w.draws p (fun1 false Fun.ToSet t)) → IsTrue (w.draws p t)
  pub items : (y : Text) (b : Bool) (op : Op) (es : Exs) → IsTrue (w.draws (name_pat y) (node_ex b op es)) → AllHave w es → PutsEach w y es
  pub bodies : (y : Text) (k : Ex) (ks : Gens) → IsTrue (w.draws (name_pat y) (comp_ex k ks)) → PartsHave w k → Puts w y k
  pub pats : (ps : Pats) → IsTrue (w.binds (tuple_pat ps)) → PatsHave w ps
  pub doms : (ds : Doms) → IsTrue (w.dom (tuple_dom ds)) → DomsHave w ds
  pub tuples : (x : Text) (ds : Doms) → IsTrue (w.binds (name_pat x)) → IsTrue (w.dom (tuple_dom ds)) →
      IsTrue (w.draws (name_pat x) (tuples_over s.parts ds)) × PartsHave w (tuples_over s.parts ds)
  pub records : (x : Text) (fs : List Text) (ds : Doms) → IsTrue (w.binds (name_pat x)) → IsTrue (w.dom (record_dom fs ds)) →
      IsTrue (w.draws (name_pat x) (records_over fs s.parts ds)) × PartsHave w (records_over fs s.parts ds)

module _ (w : Wanted) (s : Supply) (g : Names Ty) (k : Allows w s) where
  abbrev one : Text
  one = s.one

  abbrev n : IsTrue (w.name s.one)
  n = k.new.one

  abbrev m : (t : Ex) → IsTrue (w.draws (name_pat s.one) t)
  m = k.new.from_one

  unless : (c : Bool) (r : Option Ex) → Answers w r → Answers w (if c then None else r)
  unless true r h = tt
  unless false r h = h

  at-matrices : (e : Ex) → TakenHas w s equal_matrices_at e → PartsHave w e → Answers w (matrices_at s g e)
  at-matrices (ex2 b p a c) j h =
      matrices w one n m s.other k.new.other k.new.over_one k.new.over_other (s.index_domain a) (s.index_domain c) g (ex2 b p a c) j.0 j.1 h
  at-matrices _ j h = tt

  pub each-has : (r : Rule) (e : Ex) → TakenHas w s r e → OffersOf w s g r e → PartsHave w e → Answers w (rewrite s g r e)
  each-has over_nothing e t o h = nothing w e h
  each-has over_one e t o h = one-item w e h
  each-has over_one_binding e t o h = bare w e h
  each-has over_a_term e t o h = term w one n m e h
  each-has over_a_literal e t o h = literal-items w k.items e h
  each-has over_a_made_set e t o h = loosely w k.made e h
  each-has over_a_source e t o h = sources w s g e o h
  each-has of_one_source e t o h = source-alone w s g e o h
  each-has over_a_comprehension e t o h = spliced w k.bodies e h
  each-has over_tuples e t o h = splits w k.pats k.doms e h
  each-has over_a_tuple e t o h = tuple-name w s.parts k.tuples e h
  each-has over_a_record e t o h = record-name w s.parts k.records e h
  each-has over_a_condition e t o h = alone w e h
  each-has component_of_a_tuple e t o h = component w e h
  each-has field_of_a_record e t o h = field w e h
  each-has not_equal e t o h = under w (compares_compound g e) _ (apart w e h)
  each-has turned e t o h = turns w e h
  each-has strictly e t o h = strict w g one e h
  each-has equal_tuples e t o h = tuples w g one e h
  each-has equal_records e t o h = records w g one e h
  each-has equal_sets e t o h = same_members w one n m g e h
  each-has equal_multisets e t o h = same_often w one n m g e h
  each-has equal_functions e t o h = same_pairs w one n m g e h
  each-has equal_partitions e t o h = same_parts w one n m g e h
  each-has with_nothing e t o h = no-items w one n m g e h
  each-has equal_matrices_at e t o h = at-matrices e t h
  each-has included_sets e t o h = members w one n m g e h
  each-has included_multisets e t o h = often w one n m e h
  each-has in_two e t o h = combined w e h
  each-has in_one_made_of_another e t o h = changed w one n m g e h
  each-has in_a_literal e t o h = in-literal w e h
  each-has in_what_a_function_has e t o h = of-function w one n m g e h
  each-has in_its_pairs e t o h = related w one n m e h
  each-has in_a_term e t o h = member w one n m e h
  each-has size_of_one_made_of_another e t o h = size-made w one n m g e h
  each-has size e t o h = sized w one n m g e h
  each-has frequency_in_one_made_of_another e t o h = frequency-made w one n m g e h
  each-has frequency_in_a_literal e t o h = frequency-listed w e h
  each-has frequency e t o h = counted w one n m e h
  each-has together e t o h = one-part w one n m e h
  each-has least_of_a_literal e t o h = least-listed w e h
  each-has different_items e t o h = unless (tells_scalars_apart g e) (different_listed e) (different-listed w e h)
  each-has list_of_a_term e t o h = list-of-term w one n m e h
  each-has lists_on_both_sides e t o h = both-lists w one n m e h
  each-has all_different e t o h = unless (tells_scalars_apart g e) (different_term one e) (different w one n m e h)
  each-has results e t o h = results-have w one n m g e h
  each-has choice e t o h = chosen-shorter w e h
  each-has condition e t o h = leaves w k.in_dom e h
  each-has condition_behind e t o h = later w k.in_dom e h
  each-has least_of_alternatives e t o h = extremes-have w s g e o h
  each-has least_under_a_condition e t o h = opposed w k.in_dom (opposite_copied s e) t e h

-- Gathering conditions keeps types and marks.
use Rattle.std.proofs.Common.{◌≡◌, refl, sym, ap, ◌∙◌, subst, false, ◌&&◌, List, [], ◌∷◌, Option, Some, None, option_map}
use Rattle.ess_semantics.specs.declared.words.Fun.{Fun}
use Rattle.ess_semantics.specs.Lists.{and_then}
use Rattle.ess_semantics.specs.Values.{a_matrix}
use Rattle.ess_semantics.specs.Names.{Names}
use Rattle.ess_semantics.specs.Refined.{is_refined, are_refined_gens}
use Rattle.ess_semantics.specs.Trees.{Ex, comp_ex, fun1, Gens, no_gens, cond}
use Rattle.ess_semantics.specs.Types.{Ty, int_ty, compound2}
use Rattle.ess_semantics.specs.Typing.{type_of, types_under}
use Rattle.ess_semantics.specs.NamesAt.{names_behind}
use Rattle.ess_types_laws.proofs.ResolvedTypes.{behind-types}
use Rattle.ess_refine_laws.specs.Everywhere.{everywhere_gens}
use Rattle.ess_refine_laws.specs.ExtremeRules.{is_extreme}
use Rattle.ess_refine_laws.specs.TypesStay.{KeepsType}
use Rattle.ess_refine_laws.specs.MarksStay.{HasMarks}
use Rattle.ess_rules_types_laws.proofs.EverywhereTyped.{gens-everywhere}
use Rattle.ess_rules_types_laws.proofs.PutListed.{append-types}
use Rattle.ess_rules_marks_laws.proofs.Grows.{Grows, as_it_is, a_comp, no_gens_grow, cond_grows}
use Rattle.ess_put_marks_laws.specs.MarksOfConditions.{GensBoundsNumbers}
use Rattle.ess_put_marks_laws.proofs.EverywhereMarked.{behind-everywhere, gens-grow}
use Rattle.ess_put_marks_laws.proofs.MarksOfListed.{append-behind}
use Rattle.ess_gathered_laws.specs.GatheredConditions.{cell_conditions, without_conditions, all_hold, gathered_gens, gathered_under, conditions_gathered}
use Rattle.ess_open_types_laws.proofs.TypesBehind.{KeepsBoth, BothKept, both-if, by-growth, at-word}
use Rattle.ess_ordered_types_laws.specs.GatheringTyped.{ConditionsApart, GatheringTyped, GatheringMarked, GatheringKeepsTypes, GatheringKeepsMarks}
use Rattle.ess_ordered_types_laws.proofs.ConditionsTyped.{without-behind, without-types, AllTruths, AllMarked, all-truths, all-marked, hold-type, hold-grows, under-condition, without-marks, without-bounds, append-grows}

module _ (g : Names Ty) (e : Ex) (gs : Gens) (a : ConditionsApart gs) (c : Ex) (cs : List Ex) (l : cell_conditions gs ≡ c ∷ cs) where
  abbrev Held : Ex
  Held = all_hold c cs

  abbrev Bounded : Gens
  Bounded = everywhere_gens (without_conditions gs)

  bounded-behind : names_behind Bounded g ≡ names_behind gs g
  bounded-behind = behind-everywhere (without_conditions gs) g ∙ without-behind gs g

  gathered-under : (h : Names Ty) → types_under gs g ≡ Some h → types_under (gathered_gens gs Held) g ≡ Some h
  gathered-under h q =
      let n : names_behind gs g ≡ h = behind-types gs g h q in
      let k = hold-type h c cs (subst (AllTruths h) l (subst (λ z. AllTruths z (cell_conditions gs)) n (all-truths gs g h q a))) in
      append-types Bounded (cond Held no_gens) g
      ∙ ap (λ o. and_then o (types_under (cond Held no_gens)))
      (gens-everywhere (without_conditions gs) g ∙ without-types gs g h q)
      ∙ under-condition h Held k.0 k.1 k.2

  gathered-type : KeepsType g (comp_ex e gs) (comp_ex e (gathered_gens gs Held))
  gathered-type v q = go (types_under gs g) refl q
    where
      L : Names Ty → Option Ty
      L h = option_map (compound2 a_matrix int_ty) (type_of e h)

      go : (o : Option (Names Ty)) → types_under gs g ≡ o → and_then o L ≡ Some v →
          and_then (types_under (gathered_gens gs Held) g) L ≡ Some v
      go None i p = cc
      go (Some h) i p = ap (λ o. and_then o L) (gathered-under h i) ∙ p

  gathered-grows : GensBoundsNumbers gs g → HasMarks (comp_ex e gs) g → Grows g (comp_ex e (gathered_gens gs Held))
  gathered-grows b m =
      a_comp (append-grows Bounded (cond Held no_gens) g
      (gens-grow (without_conditions gs) g (without-bounds gs g b) (without-marks gs g m.0))
      (cond_grows (subst (λ h. Grows h Held) (sym bounded-behind)
      (hold-grows (names_behind gs g) c cs (subst (AllMarked (names_behind gs g)) l (all-marked gs g m.0 a)))) no_gens_grow))
      (as_it_is (subst (HasMarks e) (sym (append-behind Bounded (cond Held no_gens) g ∙ bounded-behind)) m.1))

  gathered-both : (f : Fun) → KeepsBoth g (GensBoundsNumbers gs g) (fun1 false f (comp_ex e gs))
      (fun1 false f (comp_ex e (gathered_gens gs Held)))
  gathered-both f = at-word g (GensBoundsNumbers gs g) false f (comp_ex e gs) (comp_ex e (gathered_gens gs Held))
      (by-growth g (GensBoundsNumbers gs g) (comp_ex e gs) (comp_ex e (gathered_gens gs Held)) gathered-type gathered-grows)

gathers : (g : Names Ty) (e : Ex) → GatheringTyped e → BothKept g (GatheringMarked g e) e (conditions_gathered e)
gathers g (fun1 false f (comp_ex e gs)) a =
    both-if g (GensBoundsNumbers gs g) (is_extreme f && (is_refined e && are_refined_gens gs)) (fun1 false f (comp_ex e gs))
    (gathered_under f e gs (cell_conditions gs)) (at (cell_conditions gs) refl)
  where
    at : (cs : List Ex) → cell_conditions gs ≡ cs →
        BothKept g (GensBoundsNumbers gs g) (fun1 false f (comp_ex e gs)) (gathered_under f e gs cs)
    at [] q = tt
    at (c ∷ []) q = tt
    at (c ∷ d ∷ ds) q = gathered-both g e gs a c (d ∷ ds) q f
gathers g _ a = tt

answered : (g : Names Ty) (e f : Ex) → conditions_gathered e ≡ Some f → GatheringTyped e → KeepsBoth g (GatheringMarked g e) e f
answered g e f q h = subst (λ z. BothKept g (GatheringMarked g e) e z) q (gathers g e h)

-- Types stay.
pub gathering-keeps-types : GatheringKeepsTypes
gathering-keeps-types g e f q h = (answered g e f q h).0

-- And marks.
pub gathering-keeps-marks : GatheringKeepsMarks
gathering-keeps-marks g e f q h w t p m = (answered g e f q h).1 w t p m

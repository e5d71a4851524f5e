-- In trees over views ranges have their bounds: so what is written for a refined one is an expression of a model.
use Rattle.std.proofs.Common.{refl, ℕ, Bool, List, Option}
use Rattle.ess_semantics.specs.Values.{Text}
use Rattle.ess_semantics.specs.Names.{Names}
use Rattle.ess_semantics.specs.Trees.{Ex, Exs, Gens, Dom}
use Rattle.ess_seen_laws.specs.Seen.{Kind, Bound, Counted, so_many, from_to, from_0, subsets, none_below, counted_axes, Places, no_place, at_slot, SetTerm, view, drawn, combined, Seen, number, truth, named, counted, figure, flag, atom, one, two, chosen, folded, of_items, size, within, set_within, compared, Listed, last_item, item_before, Indices, no_index, one_index, Going, at_end, through, through_slots, among, where_holds, Range, truths, numbers}
use Rattle.ess_seen_ended_laws.proofs.Ended.{seen-ends}
use Rattle.ess_lowered_laws.specs.Ranges.{RangesFit, AllRangesFit, GensFit, DomFits}
use Rattle.ess_lowered_laws.specs.Laws.{SeenTreesAreLowered}
use Rattle.ess_lowered_laws.proofs.Ended.{ended-lowered}

counted-fits : {e : Ex} {n : ℕ} → Counted e n → RangesFit e
counted-fits so_many = tt
counted-fits (from_to q) = ((tt, (tt, tt)), (tt, tt))
counted-fits from_0 = (tt, (tt, tt))
counted-fits (subsets c) = (tt, (counted-fits c, tt))
counted-fits (none_below c) = ((counted-fits c, (tt, tt)), tt)

module _ (cells : Text → Option (Bool × List ℕ)) where
  places-fit : {r : Names Bound} {es : Exs} {ks : List ℕ} → Places cells r es ks → AllRangesFit es
  places-fit no_place = tt
  places-fit (at_slot q p) = (tt, places-fit p)

  set-fits : {r : Names Bound} {e : Ex} {k : Kind} → SetTerm cells r e k → RangesFit e
  set-fits (view n f h p) = tt
  set-fits (drawn q) = tt
  set-fits (combined c f g) = (set-fits f, (set-fits g, tt))

  mutual
    seen-fits : {r : Names Bound} {e : Ex} {m : Bool} → Seen cells r e m → RangesFit e
    seen-fits number = tt
    seen-fits truth = tt
    seen-fits (named q p) = tt
    seen-fits (counted c) = counted-fits c
    seen-fits (figure q p) = places-fit p
    seen-fits (flag q i) = indices-fit i
    seen-fits (atom k p) = tt
    seen-fits (one w f) = (seen-fits f, tt)
    seen-fits (two w f g) = (seen-fits f, (seen-fits g, tt))
    seen-fits (chosen f) = (seen-fits f, tt)
    seen-fits (folded w g f) = ((seen-fits f, going-fits g), tt)
    seen-fits (of_items w l) = (listed-fits l, tt)
    seen-fits (size v) = (set-fits v, tt)
    seen-fits (within f v) = (seen-fits f, (set-fits v, tt))
    seen-fits (set_within v w) = (set-fits v, (set-fits w, tt))
    seen-fits (compared c v w) = (set-fits v, (set-fits w, tt))

    listed-fits : {r : Names Bound} {es : Exs} {m : Bool} → Listed cells r es m → AllRangesFit es
    listed-fits (last_item f) = (seen-fits f, tt)
    listed-fits (item_before f l) = (seen-fits f, listed-fits l)

    indices-fit : {r : Names Bound} {es : Exs} {k : ℕ} → Indices cells r es k → AllRangesFit es
    indices-fit no_index = tt
    indices-fit (one_index f i) = (seen-fits f, indices-fit i)

    going-fits : {r t : Names Bound} {gs : Gens} → Going cells r gs t → GensFit gs
    going-fits at_end = tt
    going-fits (through d g) = (range-fits d, going-fits g)
    going-fits (through_slots c g) = ((refl, (tt, (counted-fits c, tt))), going-fits g)
    going-fits (among v g) = (set-fits v, going-fits g)
    going-fits (where_holds f g) = (seen-fits f, going-fits g)

    range-fits : {r : Names Bound} {d : Dom} {m : Bool} → Range cells r d m → DomFits d
    range-fits truths = tt
    range-fits (numbers f g) = (refl, (seen-fits f, (seen-fits g, tt)))

-- What is promised of trees over views.
pub seen-lowered : SeenTreesAreLowered
seen-lowered = record {
  fit = λ cells e m v. seen-fits cells v;
  lowered = λ cells taken e m v q s d. ended-lowered (counted_axes cells) taken e m (seen-ends cells e m v q) (seen-fits cells v) s d;
}

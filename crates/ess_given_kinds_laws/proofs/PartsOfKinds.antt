-- Every rule that reads the kind of a view keeps what the parts of a tree have.
use Rattle.std.proofs.Common.{Bool, true, false, ◌&&◌, not, if◌then◌else◌, List, [], ◌∷◌, ℕ, suc, Option, Some, None}
use Rattle.ess_semantics.specs.Lists.{and_then}
use Rattle.ess_semantics.specs.Values.{Text}
use Rattle.ess_semantics.specs.Names.{Names}
use Rattle.ess_semantics.specs.Trees.{name_pat, Ex, Exs, node_ex, comp_ex, fun1, no_exs, more_exs, from}
use Rattle.ess_semantics.specs.Types.{Ty}
use Rattle.ess_semantics.specs.Typing.{type_of}
use Rattle.ess_rules_laws.specs.Listings.{Alternative}
use Rattle.ess_rules_laws.specs.ListedSources.{source_alone, source_parts}
use Rattle.ess_rules_laws.specs.Lookups.{select_whole}
use Rattle.ess_rules_laws.specs.AlternativeLookups.{select_each, select_whole_each}
use Rattle.ess_rules_laws.specs.FunctionKeys.{result_at_argument, lookup_behind_flag}
use Rattle.ess_rules_laws.specs.Progress.{is_parted}
use Rattle.ess_refine_laws.specs.AllRules.{Supply}
use Rattle.ess_views_laws.specs.MatrixViews.{item_view}
use Rattle.ess_kind_rules_laws.specs.ViewListings.{view_listing, slots_of_operand, partitioned_second}
use Rattle.ess_kind_rules_laws.specs.TermLookups.{picks, looked_up}
use Rattle.ess_kind_rules_laws.specs.KindRules.{KindRule, cell_of_an_atom, component_of_a_view, truth_in_a_matrix, asked_of_its_child, over_a_view, of_one_view, member_at_a_cell, member_of_a_multiset, argument_with_a_flag, member_of_a_part, size_at_the_marker, size_of_slots, size_of_a_multiset, size_of_a_function, size_of_the_parts, frequency_by_cells, lie_together, party_by_number, truth_at_an_argument, truth_behind_a_flag, of_what_is_picked, picked, view_listed, asks_truth, first_picked, over_picked, picked_scalar, kind_rewrite}
use Rattle.ess_given_laws.specs.PartsHave.{Wanted, PartsHave, AllHave}
use Rattle.ess_given_laws.proofs.PartsHave.{Puts}
use Rattle.ess_given_laws.proofs.PartsOfFolds.{Answers, HaveSome, under, in-parts, in-one-part}
use Rattle.ess_given_offers_laws.specs.Seen.{Sees, OverDomains, OverAny, EachAny, AlternativeHas}
use Rattle.ess_given_offers_laws.proofs.PartsOfPicks.{selected-whole, selected-each, whole-each}
use Rattle.ess_given_offers_laws.proofs.PartsOfLookups.{picked-has}
use Rattle.ess_given_kinds_laws.proofs.PartsOfComponents.{cell-has, component-has, item-has, asked-has, member-cell, defined-has, result-has, behind-flag}
use Rattle.ess_given_kinds_laws.proofs.PartsOfSizes.{operand-slots, second-members, marker-size, slots-size, function-size, parts-size, multiset-size, multiset-frequency, multiset-member, participant-has, together-has, party-has}

-- The item of what a view offers may be put in for the name.
abbrev pub PutsItem : Wanted → Text → Option Alternative → Type 0
PutsItem w y None = Unit {0}
PutsItem w y (Some a) = Puts w y a.item

-- What the first source offers as a view has it, and its item may be put in for the name.
abbrev pub OffersView : Wanted → Supply → Ex → Type 0
OffersView w s (fun1 m f (comp_ex e (from (name_pat y) t hs))) =
    AlternativeHas w (view_listing s.one s.other s.parts t) × PutsItem w y (view_listing s.one s.other s.parts t)
OffersView w s e = Unit {0}

-- The new names over sources, in lookups.
pub record PickNames (w : Wanted) (s : Supply) : Type 0 where
  pub one : OverAny w s.one
  pub third : OverAny w s.third
  pub others : EachAny w (s.other ∷ s.parts)

-- What is asked of the new names, or of what a view offers, at each rule.
abbrev pub NamesFor : Wanted → Supply → KindRule → Ex → Type 0
NamesFor w s over_a_view e = OffersView w s e
NamesFor w s of_one_view e = OffersView w s e
NamesFor w s member_of_a_multiset e = OverDomains w s.one
NamesFor w s member_of_a_part e = OverDomains w s.one
NamesFor w s size_of_a_multiset e = OverDomains w s.one
NamesFor w s frequency_by_cells e = OverDomains w s.one
NamesFor w s lie_together e = OverDomains w s.one × OverAny w s.other
NamesFor w s truth_behind_a_flag e = OverAny w s.one
NamesFor w s of_what_is_picked e = PickNames w s
NamesFor w s picked e = PickNames w s
NamesFor w s r e = Unit {0}

module _ (u : Text → Bool) (w : Wanted) (k : Sees w u) (s : Supply) (g : Names Ty) where
  abbrev A : Option Ex → Type 0
  A r = Answers w r

  -- ---- sources

  in-view : (e : Ex) → OffersView w s e → PartsHave w e → A (view_listed (λ a. source_parts (a ∷ [])) s e)
  in-view (fun1 b f (comp_ex e (from (name_pat y) t hs))) o h = go (view_listing s.one s.other s.parts t) o.0 o.1
    where
      go : (r : Option Alternative) → AlternativeHas w r → PutsItem w y r →
          A (and_then r (λ a. source_parts (a ∷ []) (fun1 b f (comp_ex e (from (name_pat y) t hs)))))
      go None j p = tt
      go (Some a) j p = in-parts w b f y e t hs (Some (a ∷ [])) (j, tt) (p, tt) h.0.0 h.0.1.2
  in-view _ o h = tt

  in-one-view : (e : Ex) → OffersView w s e → PartsHave w e → A (view_listed source_alone s e)
  in-one-view (fun1 b f (comp_ex e (from (name_pat y) t hs))) o h = go (view_listing s.one s.other s.parts t) o.0 o.1
    where
      go : (r : Option Alternative) → AlternativeHas w r → PutsItem w y r →
          A (and_then r (λ a. source_alone a (fun1 b f (comp_ex e (from (name_pat y) t hs)))))
      go None j p = tt
      go (Some a) j p = in-one-part w b f y e t hs (Some (a ∷ [])) (j, tt) (p, tt) h.0.0 h.0.1.2
  in-one-view _ o h = tt

  -- ---- what is picked

  abbrev PickedHas : Option (ℕ × Ex) → Type 0
  PickedHas None = Unit {0}
  PickedHas (Some p) = PartsHave w p.1

  first-has : (i : ℕ) (es : Exs) → AllHave w es → PickedHas (first_picked g i es)
  first-has i no_exs h = tt
  first-has i (more_exs e es) h = go (picks e && is_parted (type_of e g)) (first-has (suc i) es h.1)
    where
      go : (c : Bool) → PickedHas (first_picked g (suc i) es) → PickedHas (if c then Some (i, e) else first_picked g (suc i) es)
      go true q = h.0
      go false q = q

  over-picked : PickNames w s → (e : Ex) → PartsHave w e → A (over_picked s g e)
  over-picked n (node_ex b op es) h = go (first_picked g 1 es) (first-has 1 es h)
    where
      each : (i : ℕ) (r : Option (List Alternative)) → HaveSome w r → A (and_then r (λ l. select_each s.one i l (node_ex b op es)))
      each i None j = tt
      each i (Some l) j = selected-each w s.one n.one.0.0 n.one.1 i l (node_ex b op es) j h

      go : (p : Option (ℕ × Ex)) → PickedHas p → A (and_then p
          (λ p. and_then (looked_up g s.third (s.other ∷ s.parts) p.1) (λ l. select_each s.one p.0 l (node_ex b op es))))
      go None j = tt
      go (Some p) j = each p.0 (looked_up g s.third (s.other ∷ s.parts) p.1)
          (picked-has w u k g s.third (s.other ∷ s.parts) n.third n.others p.1 j)
  over-picked n _ h = tt

  picked-alone : PickNames w s → (e : Ex) → PartsHave w e → A (picked_scalar s g e)
  picked-alone n e h = under w (picks e && not (is_parted (type_of e g))) _ (each (looked_up g s.third (s.other ∷ s.parts) e)
      (picked-has w u k g s.third (s.other ∷ s.parts) n.third n.others e h))
    where
      each : (r : Option (List Alternative)) → HaveSome w r → A (and_then r (λ l. select_whole_each s.one l e))
      each None j = tt
      each (Some l) j = whole-each w s.one n.one.0.0 n.one.1 l e j h

  flagged : OverAny w s.one → (e : Ex) → PartsHave w e → A (and_then (lookup_behind_flag e) (λ l. select_whole s.one l e))
  flagged n e h = go (lookup_behind_flag e) (behind-flag u w k e h)
    where
      go : (o : Option Ex) → A o → A (and_then o (λ l. select_whole s.one l e))
      go None j = tt
      go (Some l) j = selected-whole w s.one n.0.0 n.1 l e j h

  -- ---- each rule

  -- By each rule.
  pub each-kind : (r : KindRule) (e : Ex) → NamesFor w s r e → PartsHave w e → A (kind_rewrite s g r e)
  each-kind cell_of_an_atom e n h = cell-has u w k e h
  each-kind component_of_a_view e n h = component-has u w k e h
  each-kind truth_in_a_matrix e n h = under w (asks_truth e) (item_view e) (item-has u w k e h)
  each-kind asked_of_its_child e n h = asked-has u w k e h
  each-kind over_a_view e n h = in-view e n h
  each-kind of_one_view e n h = in-one-view e n h
  each-kind member_at_a_cell e n h = member-cell u w k e h
  each-kind member_of_a_multiset e n h = multiset-member u w k s.one n e h
  each-kind argument_with_a_flag e n h = defined-has u w k e h
  each-kind member_of_a_part e n h = participant-has u w k s.one n e h
  each-kind size_at_the_marker e n h = marker-size u w k e h
  each-kind size_of_slots e n h = slots-size u w k (slots_of_operand e) (operand-slots u w k e h) e h
  each-kind size_of_a_multiset e n h = multiset-size u w k s.one n (slots_of_operand e) (operand-slots u w k e h) e h
  each-kind size_of_a_function e n h = function-size u w k e h
  each-kind size_of_the_parts e n h = parts-size u w k e h
  each-kind frequency_by_cells e n h = multiset-frequency u w k s.one n (slots_of_operand e) (operand-slots u w k e h) e h
  each-kind lie_together e n h = together-has u w k s.one n.0 s.other n.1 (partitioned_second e) (second-members u w k e h) e h
  each-kind party_by_number e n h = party-has u w k (partitioned_second e) (second-members u w k e h) e h
  each-kind truth_at_an_argument e n h = under w (asks_truth e) (result_at_argument e) (result-has u w k e h)
  each-kind truth_behind_a_flag e n h = under w (asks_truth e) _ (flagged n e h)
  each-kind of_what_is_picked e n h = over-picked n e h
  each-kind picked e n h = picked-alone n e h

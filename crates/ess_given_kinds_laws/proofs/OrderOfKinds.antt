-- Every rule that reads the kind of a view keeps comprehensions in order where order counts.
use Rattle.std.proofs.Common.{Bool, true, false, ◌&&◌, not, if◌then◌else◌, List, [], ◌∷◌, ℕ, suc, Option, Some, None}
use Rattle.ess_semantics.specs.declared.words.Op1.{Op1}
use Rattle.ess_semantics.specs.declared.words.ReprKind.{ReprKind}
use Rattle.ess_semantics.specs.Lists.{and_then}
use Rattle.ess_semantics.specs.Values.{Text}
use Rattle.ess_semantics.specs.Names.{Names}
use Rattle.ess_semantics.specs.Trees.{word, name_pat, repr, Ex, Exs, node_ex, comp_ex, seen_ex, ex1, fun1, no_exs, more_exs, from, function_dom}
use Rattle.ess_semantics.specs.Types.{Ty}
use Rattle.ess_semantics.specs.Typing.{type_of}
use Rattle.ess_semantics.specs.ExpressionJudgements.{forgets_order}
use Rattle.ess_repr_declare_laws.specs.SizeTerms.{bound_ex}
use Rattle.ess_rules_laws.specs.Listings.{Alternative}
use Rattle.ess_rules_laws.specs.ListedSources.{source_alone, source_parts}
use Rattle.ess_rules_laws.specs.Lookups.{select_whole}
use Rattle.ess_rules_laws.specs.AlternativeLookups.{select_each, select_whole_each}
use Rattle.ess_rules_laws.specs.FunctionKeys.{result_at_argument, lookup_behind_flag}
use Rattle.ess_rules_laws.specs.Progress.{is_parted}
use Rattle.ess_refine_laws.specs.AllRules.{Supply}
use Rattle.ess_views_laws.specs.MatrixViews.{item_view}
use Rattle.ess_kind_rules_laws.specs.ViewListings.{view_listing, slots_of_operand, partitioned_second, members_of_first}
use Rattle.ess_kind_rules_laws.specs.TermLookups.{picks, looked_up}
use Rattle.ess_kind_rules_laws.specs.KindRules.{KindRule, cell_of_an_atom, component_of_a_view, truth_in_a_matrix, asked_of_its_child, over_a_view, of_one_view, member_at_a_cell, member_of_a_multiset, argument_with_a_flag, member_of_a_part, size_at_the_marker, size_of_slots, size_of_a_multiset, size_of_a_function, size_of_the_parts, frequency_by_cells, lie_together, party_by_number, truth_at_an_argument, truth_behind_a_flag, of_what_is_picked, picked, view_listed, asks_truth, first_picked, over_picked, picked_scalar, function_size, kind_rewrite}
use Rattle.ess_given_laws.specs.Given.{given, GivenIn}
use Rattle.ess_given_order_laws.specs.InOrder.{Ordered, AllOrdered, GensOrdered, InOrder}
use Rattle.ess_given_order_laws.proofs.OrderedParts.{PutsOrder}
use Rattle.ess_given_order_laws.proofs.OrderOfListings.{of-word, SomeAlternatives}
use Rattle.ess_given_order_laws.proofs.OrderOfFolds.{Answered, under, in-parts, in-one-part}
use Rattle.ess_given_offers_laws.specs.Seen.{Counts}
use Rattle.ess_given_offers_laws.proofs.FixedSizes.{bound-fixed}
use Rattle.ess_given_offers_laws.proofs.SeenParts.{first-inner}
use Rattle.ess_given_offers_laws.proofs.FixedOrder.{fixed-order}
use Rattle.ess_given_offers_laws.proofs.OrderOfViews.{OrderedAlternative}
use Rattle.ess_given_offers_laws.proofs.OrderOfPicks.{selected-whole, selected-each, whole-each}
use Rattle.ess_given_offers_laws.proofs.OrderOfLookups.{Looks, picked-order}
use Rattle.ess_given_offers_laws.proofs.GivenOffers.{sees-given}
use Rattle.ess_given_kinds_laws.proofs.PartsOfSizes.{operand-slots}
use Rattle.ess_given_kinds_laws.proofs.OrderOfComponents.{cell-order, component-order, item-order, asked-order, member-cell, defined-order, result-order, behind-flag}
use Rattle.ess_given_kinds_laws.proofs.OrderOfSizes.{marker-order, slots-order, parts-order, multiset-size, multiset-frequency, multiset-member, participant-order, together-order, party-order}

module _ (u : Text → Bool) where
  -- The item of what a view offers may be put in for the name.
  abbrev pub PutsInOrder : Text → Option Alternative → Type 0
  PutsInOrder y None = Unit {0}
  PutsInOrder y (Some a) = PutsOrder u y a.item

  -- What the first source offers as a view is in order, and its item may be put in for the name.
  abbrev pub OffersInOrder : Supply → Ex → Type 0
  OffersInOrder s (fun1 m f (comp_ex e (from (name_pat y) t hs))) =
      OrderedAlternative u (view_listing s.one s.other s.parts t) × PutsInOrder y (view_listing s.one s.other s.parts t)
  OffersInOrder s e = Unit {0}

  -- The same at the rules for views as sources.
  abbrev pub OffersFor : Supply → KindRule → Ex → Type 0
  OffersFor s over_a_view e = OffersInOrder s e
  OffersFor s of_one_view e = OffersInOrder s e
  OffersFor s r e = Unit {0}

  abbrev A : Option Ex → Type 0
  A r = Answered u r

  module _ (s : Supply) (g : Names Ty) where
    -- ---- sources

    in-view : (e : Ex) → OffersInOrder s e → Ordered u e → A (view_listed (λ a. source_parts (a ∷ [])) s e)
    in-view (fun1 b f (comp_ex e (from (name_pat y) t hs))) o h =
        let k = of-word u (forgets_order (word f)) (comp_ex e (from (name_pat y) t hs)) h in
        go k.0 k.1.1 (view_listing s.one s.other s.parts t) o.0 o.1
      where
        go : InOrder u e → GensOrdered u hs → (r : Option Alternative) → OrderedAlternative u r → PutsInOrder y r →
            A (and_then r (λ a. source_parts (a ∷ []) (fun1 b f (comp_ex e (from (name_pat y) t hs)))))
        go i q None j p = tt
        go i q (Some a) j p = in-parts u b f y e t hs (Some (a ∷ [])) (j, tt) (p, tt) i q
    in-view _ o h = tt

    in-one-view : (e : Ex) → OffersInOrder s e → Ordered u e → A (view_listed source_alone s e)
    in-one-view (fun1 b f (comp_ex e (from (name_pat y) t hs))) o h =
        let k = of-word u (forgets_order (word f)) (comp_ex e (from (name_pat y) t hs)) h in
        go k.0 k.1.1 (view_listing s.one s.other s.parts t) o.0 o.1
      where
        go : InOrder u e → GensOrdered u hs → (r : Option Alternative) → OrderedAlternative u r → PutsInOrder y r →
            A (and_then r (λ a. source_alone a (fun1 b f (comp_ex e (from (name_pat y) t hs)))))
        go i q None j p = tt
        go i q (Some a) j p = in-one-part u b f y e t hs (Some (a ∷ [])) (j, tt) (p, tt) i q
    in-one-view _ o h = tt

    -- ---- what is picked

    abbrev PickedOrder : Option (ℕ × Ex) → Type 0
    PickedOrder None = Unit {0}
    PickedOrder (Some p) = Ordered u p.1

    first-order : (i : ℕ) (es : Exs) (c : Bool) → AllOrdered u es c → PickedOrder (first_picked g i es)
    first-order i no_exs c h = tt
    first-order i (more_exs e es) true h = go (picks e && is_parted (type_of e g)) (first-order (suc i) es true h.1)
      where
        go : (d : Bool) → PickedOrder (first_picked g (suc i) es) → PickedOrder (if d then Some (i, e) else first_picked g (suc i) es)
        go true q = h.0
        go false q = q
    first-order i (more_exs e es) false h = go (picks e && is_parted (type_of e g)) (first-order (suc i) es false h.1)
      where
        go : (d : Bool) → PickedOrder (first_picked g (suc i) es) → PickedOrder (if d then Some (i, e) else first_picked g (suc i) es)
        go true q = h.0.1
        go false q = q

    over-picked : (e : Ex) → Ordered u e → A (over_picked s g e)
    over-picked (node_ex b op es) h = go (first_picked g 1 es) (first-order 1 es (forgets_order op) h)
      where
        each : (i : ℕ) (r : Option (List Alternative)) → SomeAlternatives u r →
            A (and_then r (λ l. select_each s.one i l (node_ex b op es)))
        each i None j = tt
        each i (Some l) j = selected-each u s.one i l (node_ex b op es) j h

        go : (p : Option (ℕ × Ex)) → PickedOrder p → A (and_then p
            (λ p. and_then (looked_up g s.third (s.other ∷ s.parts) p.1) (λ l. select_each s.one p.0 l (node_ex b op es))))
        go None j = tt
        go (Some p) j = each p.0 (looked_up g s.third (s.other ∷ s.parts) p.1) (picked-order u g s.third (s.other ∷ s.parts) p.1 j)
    over-picked _ h = tt

    picked-alone : (e : Ex) → Ordered u e → A (picked_scalar s g e)
    picked-alone e h = under u (picks e && not (is_parted (type_of e g))) _ (each (looked_up g s.third (s.other ∷ s.parts) e)
        (picked-order u g s.third (s.other ∷ s.parts) e h))
      where
        each : (r : Option (List Alternative)) → SomeAlternatives u r → A (and_then r (λ l. select_whole_each s.one l e))
        each None j = tt
        each (Some l) j = whole-each u s.one l e j

    flagged : (e : Ex) → Ordered u e → A (and_then (lookup_behind_flag e) (λ l. select_whole s.one l e))
    flagged e h = go (lookup_behind_flag e) (behind-flag u e h)
      where
        go : (o : Option Ex) → Looks u o → A (and_then o (λ l. select_whole s.one l e))
        go None j = tt
        go (Some l) j = selected-whole u s.one l e j

    -- ---- sizes

    module _ (c : Counts u) where
      slots-kept : (e : Ex) → GivenIn u e → InOrder u (slots_of_operand e)
      slots-kept e i = fixed-order u (slots_of_operand e) (operand-slots u (given u) (sees-given u c) e i)

      function-order : (e : Ex) → GivenIn u e → A (function_size e)
      function-order (ex1 false Op1.Bar v) i = go v i.0
        where
          go : (v : Ex) → GivenIn u v → A (members_of_first v)
          go (seen_ex (repr ReprKind.Function1D rs) (function_dom ms es d r) ns js) k =
              fixed-order u (bound_ex d) (bound-fixed u c d (first-inner u (given u) (sees-given u c) ms es d r k.1))
          go (seen_ex (repr ReprKind.FunctionND rs) (function_dom ms es d r) ns js) k =
              fixed-order u (bound_ex d) (bound-fixed u c d (first-inner u (given u) (sees-given u c) ms es d r k.1))
          go _ k = tt
      function-order _ i = tt

      -- ---- each rule

      -- By each rule.
      pub kind-order : (r : KindRule) (e : Ex) → OffersFor s r e → GivenIn u e → Ordered u e → A (kind_rewrite s g r e)
      kind-order cell_of_an_atom e o i h = cell-order u e h
      kind-order component_of_a_view e o i h = component-order u e h
      kind-order truth_in_a_matrix e o i h = under u (asks_truth e) (item_view e) (item-order u e h)
      kind-order asked_of_its_child e o i h = asked-order u e h
      kind-order over_a_view e o i h = in-view e o h
      kind-order of_one_view e o i h = in-one-view e o h
      kind-order member_at_a_cell e o i h = member-cell u e h
      kind-order member_of_a_multiset e o i h = multiset-member u s.one e h
      kind-order argument_with_a_flag e o i h = defined-order u e h
      kind-order member_of_a_part e o i h = participant-order u s.one e h
      kind-order size_at_the_marker e o i h = marker-order u e h
      kind-order size_of_slots e o i h = slots-order u (slots_of_operand e) (slots-kept e i) e
      kind-order size_of_a_multiset e o i h = multiset-size u s.one (slots_of_operand e) e h
      kind-order size_of_a_function e o i h = function-order e i
      kind-order size_of_the_parts e o i h = parts-order u e h
      kind-order frequency_by_cells e o i h = multiset-frequency u s.one (slots_of_operand e) e h
      kind-order lie_together e o i h = together-order u s.one s.other (partitioned_second e) e h
      kind-order party_by_number e o i h = party-order u (partitioned_second e) e h
      kind-order truth_at_an_argument e o i h = under u (asks_truth e) (result_at_argument e) (result-order u e h)
      kind-order truth_behind_a_flag e o i h = under u (asks_truth e) _ (flagged e h)
      kind-order of_what_is_picked e o i h = over-picked e h
      kind-order picked e o i h = picked-alone e h

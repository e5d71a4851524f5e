-- Each view offers its listing.
use Rattle.std.proofs.Common.{◌≡◌, refl, sym, subst, false, List, [], ◌∷◌, Option, Some, None, option_map}
use Rattle.ess_semantics.specs.declared.words.Fun.{Fun}
use Rattle.ess_semantics.specs.declared.words.ReprKind.{ReprKind}
use Rattle.ess_semantics.specs.Lists.{and_then}
use Rattle.ess_semantics.specs.Values.{Text}
use Rattle.ess_semantics.specs.Trees.{repr, Ex, seen_ex, fun1, no_gens}
use Rattle.ess_semantics.specs.Meaning.{Env}
use Rattle.ess_semantics.specs.Meets.{Meets}
use Rattle.ess_rules_laws.specs.Listings.{Alternative, those}
use Rattle.ess_rules_laws.specs.SetListings.{InOrderWhereMet, occurrence_listing}
use Rattle.ess_rules_laws.specs.SlotListings.{OffersWhereMet}
use Rattle.ess_rules_laws.proofs.LookedContainers.{in_order-offered}
use Rattle.ess_rules_laws.proofs.OccurrencesInOrder.{occurrences-in_order}
use Rattle.ess_rules_laws.proofs.OccurrenceViews.{relation_matrix-listed}
use Rattle.ess_rules_laws.proofs.ExplicitListing.{explicit-listed}
use Rattle.ess_rules_laws.proofs.MarkerListing.{marker-listed}
use Rattle.ess_rules_laws.proofs.FlagsListing.{flags-listed}
use Rattle.ess_rules_laws.proofs.DummyListing.{dummy-listed}
use Rattle.ess_rules_laws.proofs.Function1DViews.{function_1d-listed}
use Rattle.ess_rules_laws.proofs.Function1DPartialViews.{function_1d_partial-listed}
use Rattle.ess_rules_laws.proofs.FunctionNDViews.{function_nd-listed}
use Rattle.ess_rules_laws.proofs.FunctionNDPartialViews.{function_nd_partial-listed}
use Rattle.ess_views_laws.specs.ChildViews.{kept_as}
use Rattle.ess_views_kept_laws.specs.ChildrenKept.{KnownChild}
use Rattle.ess_views_kept_laws.proofs.AskedChildren.{child-listed}
use Rattle.ess_views_kept_laws.proofs.MultisetListing.{occurrence_members-offered}
use Rattle.ess_views_kept_laws.proofs.RepetitionListing.{repetition_members-offered}
use Rattle.ess_kind_rules_laws.specs.ViewListings.{dom_seen, slots_seen, dummy_of_members, occurrences_of, partitioned, names_for, matrix_listing, kept_listing, listing_of, view_listing}
use Rattle.ess_kinds_kept_laws.specs.ViewAsks.{ListingAsks, ViewAsks, ViewsOffer}
use Rattle.ess_kinds_kept_laws.proofs.MatrixItems.{matrix-listed}
use Rattle.ess_kinds_kept_laws.proofs.PartyRules.{partition_parts-offered}
use Rattle.ess_kinds_kept_laws.proofs.CountedMultisets.{once-offered, counted-offered}

-- What is offered in order is offered.
in-order : (o : Option Alternative) (e : Ex) (env : Env) → InOrderWhereMet o e env → OffersWhereMet o e env
in-order None e env h = tt
in-order (Some a) e env h = in_order-offered e a env h

kept-offered : (x : Text) (e : Ex) (env : Env) → KnownChild e env → Meets e env → OffersWhereMet (kept_listing x e) e env
kept-offered x e env h m = go (kept_as e) refl
  where
    go : (o : Option Ex) → kept_as e ≡ o → OffersWhereMet (option_map (λ c. those x c no_gens) o) e env
    go None q = tt
    go (Some c) q = child-listed x e (those x c no_gens ∷ [])
        (subst (λ o. and_then o (λ c. Some (those x c no_gens ∷ [])) ≡ Some (those x c no_gens ∷ [])) (sym q) refl) env h m

module _ (x y : Text) (zs : List Text) (v : Ex) (env : Env) (m : Meets v env) where
  by-kind : (k : ReprKind) → ListingAsks k x y zs v env → OffersWhereMet (listing_of k x y zs v) v env
  by-kind ReprKind.Occurrence h = in-order (occurrence_listing x v) v env (occurrences-in_order x v env h.0 m h.1)
  by-kind ReprKind.Explicit h = explicit-listed x (slots_seen v) v env h.0 m h.1
  by-kind ReprKind.ExplicitVarSizeWithMarker h = marker-listed x (slots_seen v) v env h.0 m h.1
  by-kind ReprKind.ExplicitVarSizeWithFlags h = flags-listed x (slots_seen v) v env h.0 m h.1
  by-kind ReprKind.ExplicitVarSizeWithDummy h =
      dummy-listed x (slots_seen v) (dummy_of_members (dom_seen v)) v env h.0 h.1 m h.2 h.3
  by-kind ReprKind.MSetOccurrence h = in-order (listing_of ReprKind.MSetOccurrence x y zs v) v env
      (occurrence_members-offered x y (occurrences_of (dom_seen v)) v env h.0.first h.0.second h.0.differ h.1 m h.2 h.3)
  by-kind ReprKind.MSetExplicitWithRepetition h = repetition_members-offered x (slots_seen v) v env h.0 m h.1
  by-kind ReprKind.MSetExplicitWithFlags h =
      counted-offered x y (slots_seen v) (occurrences_of (dom_seen v)) v env h.0.first h.0.second h.0.differ h.1 m h.2 h.3
  by-kind ReprKind.Function1D h = in-order (listing_of ReprKind.Function1D x y zs v) v env (function_1d-listed x v env h.0 m h.1)
  by-kind ReprKind.Function1DPartial h =
      in-order (listing_of ReprKind.Function1DPartial x y zs v) v env (function_1d_partial-listed x v env h.0 m h.1)
  by-kind ReprKind.FunctionND h = in-order (listing_of ReprKind.FunctionND x y zs v) v env (function_nd-listed (names_for zs (dom_seen v)) v env h.0 m h.1)
  by-kind ReprKind.FunctionNDPartial h =
      in-order (listing_of ReprKind.FunctionNDPartial x y zs v) v env (function_nd_partial-listed (names_for zs (dom_seen v)) v env h.0 m h.1)
  by-kind ReprKind.FunctionAsRelation h = kept-offered x v env h m
  by-kind ReprKind.RelationAsMatrix h =
      in-order (listing_of ReprKind.RelationAsMatrix x y zs v) v env (relation_matrix-listed (names_for zs (dom_seen v)) v env h.0 m h.1)
  by-kind ReprKind.RelationAsSet h = kept-offered x v env h m
  by-kind ReprKind.PartitionAsSet h = kept-offered x v env h m
  by-kind ReprKind.Matrix h = in-order (matrix_listing x v) v env (matrix-listed x v env h m)
  by-kind ReprKind.PartitionOccurrence h = partition_parts-offered x (partitioned (dom_seen v)) v env h.0 h.1 m h.2
  by-kind ReprKind.Atom h = tt
  by-kind ReprKind.Tuple h = tt
  by-kind ReprKind.Rec h = tt

view-offered : (x y : Text) (zs : List Text) (e : Ex) (env : Env) → ViewAsks x y zs e env → Meets e env →
    OffersWhereMet (view_listing x y zs e) e env
view-offered x y zs (seen_ex (repr k rs) d ns js) env h m = by-kind x y zs (seen_ex (repr k rs) d ns js) env m k h
view-offered x y zs (fun1 false Fun.ToSet v) env h m = once-offered x (slots_seen v) (fun1 false Fun.ToSet v) env (h.0, tt) m h.1
view-offered x y zs _ env h m = tt

pub views-offer : ViewsOffer
views-offer x y zs e a q env h m = subst (λ o. OffersWhereMet o e env) q (view-offered x y zs e env h m)

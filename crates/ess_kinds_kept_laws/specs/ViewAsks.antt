-- What the listing of a view counts on, kind by kind, and that the view then offers it.
use Rattle.std.specs.Prelude.{◌≡◌, List, [], ◌∷◌, Some}
use Rattle.ess_semantics.specs.declared.words.ReprKind.{ReprKind}
use Rattle.ess_semantics.specs.Values.{Text}
use Rattle.ess_semantics.specs.Trees.{repr, Ex, seen_ex, fun1}
use Rattle.ess_semantics.specs.Meaning.{Env}
use Rattle.ess_semantics.specs.Meets.{Meets}
use Rattle.ess_rules_laws.specs.Rules.{Unused}
use Rattle.ess_rules_laws.specs.Listings.{Alternative}
use Rattle.ess_rules_laws.specs.ListedSources.{Offers}
use Rattle.ess_rules_laws.specs.SetListings.{InnerThere}
use Rattle.ess_rules_laws.specs.SlotListings.{SlotsAre}
use Rattle.ess_rules_laws.specs.DummyListings.{DummyIs}
use Rattle.ess_rules_laws.specs.OccurrenceViews.{TuplesThere}
use Rattle.ess_rules_laws.specs.FunctionViews.{FirstThere, NamesUnused}
use Rattle.ess_views_kept_laws.specs.ChildrenKept.{KnownChild}
use Rattle.ess_views_kept_laws.specs.MultisetsKept.{NumbersMembers}
use Rattle.ess_views_kept_laws.specs.MultisetsListed.{OftenEnough, MultisetSlotsAre}
use Rattle.ess_kind_rules_laws.specs.ViewListings.{dom_seen, slots_seen, dummy_of_members, occurrences_of, partitioned, names_for, view_listing}
use Rattle.ess_kinds_kept_laws.specs.NewNames.{TwoNew}
use Rattle.ess_kinds_kept_laws.specs.MultisetAsks.{OfOnce}
use Rattle.ess_kinds_kept_laws.specs.PartitionAsks.{NumbersEnough}

-- What each kind asks. The sizes of the view's domain say how many slots there are, what the dummy is and how often a member may be
-- there; members of inner domains can be listed; the child of a value that is kept as another one stands for a member of its domain.
abbrev pub ListingAsks : ReprKind → Text → Text → List Text → Ex → Env → Type 0
ListingAsks ReprKind.Matrix x y zs v env = Unused x v
ListingAsks ReprKind.Occurrence x y zs v env = Unused x v × InnerThere v env
ListingAsks ReprKind.Explicit x y zs v env = Unused x v × SlotsAre (slots_seen v) v env
ListingAsks ReprKind.ExplicitVarSizeWithMarker x y zs v env = Unused x v × SlotsAre (slots_seen v) v env
ListingAsks ReprKind.ExplicitVarSizeWithFlags x y zs v env = Unused x v × SlotsAre (slots_seen v) v env
ListingAsks ReprKind.ExplicitVarSizeWithDummy x y zs v env =
    Unused x v × Unused x (dummy_of_members (dom_seen v)) × SlotsAre (slots_seen v) v env × DummyIs (dummy_of_members (dom_seen v)) v env
ListingAsks ReprKind.MSetOccurrence x y zs v env =
    TwoNew x y v × Unused x (occurrences_of (dom_seen v)) × NumbersMembers v env × OftenEnough (occurrences_of (dom_seen v)) v env
ListingAsks ReprKind.MSetExplicitWithRepetition x y zs v env = Unused x v × MultisetSlotsAre (slots_seen v) v env
ListingAsks ReprKind.MSetExplicitWithFlags x y zs v env =
    TwoNew x y v × Unused x (occurrences_of (dom_seen v)) × MultisetSlotsAre (slots_seen v) v env
    × OftenEnough (occurrences_of (dom_seen v)) v env
ListingAsks ReprKind.Function1D x y zs v env = Unused x v × FirstThere v env
ListingAsks ReprKind.Function1DPartial x y zs v env = Unused x v × FirstThere v env
ListingAsks ReprKind.FunctionND x y zs v env = NamesUnused (names_for zs (dom_seen v)) v × FirstThere v env
ListingAsks ReprKind.FunctionNDPartial x y zs v env = NamesUnused (names_for zs (dom_seen v)) v × FirstThere v env
ListingAsks ReprKind.FunctionAsRelation x y zs v env = KnownChild v env
ListingAsks ReprKind.RelationAsMatrix x y zs v env = NamesUnused (names_for zs (dom_seen v)) v × TuplesThere v env
ListingAsks ReprKind.RelationAsSet x y zs v env = KnownChild v env
ListingAsks ReprKind.PartitionAsSet x y zs v env = KnownChild v env
ListingAsks ReprKind.PartitionOccurrence x y zs v env =
    Unused x v × Unused x (partitioned (dom_seen v)) × NumbersEnough (partitioned (dom_seen v)) v env
ListingAsks k x y zs v env = Unit {0}

-- The same of a view, and of the set of a multiset's members.
abbrev pub ViewAsks : Text → Text → List Text → Ex → Env → Type 0
ViewAsks x y zs (seen_ex (repr k rs) d ns js) env = ListingAsks k x y zs (seen_ex (repr k rs) d ns js) env
ViewAsks x y zs (fun1 b f v) env = Unused x v × OfOnce (slots_seen v) (fun1 b f v) env
ViewAsks x y zs e env = Unit {0}

-- So the listing is offered where the tables meet the structure of the view.
abbrev pub ViewsOffer : Type 0
ViewsOffer = (x y : Text) (zs : List Text) (e : Ex) (a : Alternative) → view_listing x y zs e ≡ Some a → (env : Env) → ViewAsks x y zs e env →
    Meets e env → Offers e (a ∷ []) env

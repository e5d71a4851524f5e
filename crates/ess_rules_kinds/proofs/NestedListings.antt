-- Listings of views with one child, by the parts of the view.
use Rattle.std.proofs.Common.{◌≡◌, refl}
use Rattle.ess_semantics.specs.declared.words.ReprKind.{ReprKind}
use Rattle.ess_semantics.specs.Lists.{and_then}
use Rattle.ess_semantics.specs.Values.{Text}
use Rattle.ess_semantics.specs.Trees.{repr, no_reprs, more_reprs, Ex, seen_ex}
use Rattle.ess_rules_laws.specs.SlotListings.{explicit_listing, marker_listing, flags_listing}
use Rattle.ess_views_laws.specs.MultisetViews.{repetition_members, counted_members}
use Rattle.ess_rules_kinds.specs.ViewParts.{nested, nested_view}

-- Slots all in use.
pub explicit_by_parts : (x : Text) (n e : Ex) → explicit_listing x n e ≡ and_then (nested e) (λ p. explicit_listing x n (nested_view p))
explicit_by_parts x n (seen_ex (repr k (more_reprs r no_reprs)) d ns js) = refl
explicit_by_parts x n (seen_ex (repr ReprKind.Explicit no_reprs) d ns js) = refl
explicit_by_parts x n (seen_ex (repr ReprKind.Explicit (more_reprs r (more_reprs q rs))) d ns js) = refl
explicit_by_parts x n e = refl

-- Slots up to a marker.
pub marker_by_parts : (x : Text) (n e : Ex) → marker_listing x n e ≡ and_then (nested e) (λ p. marker_listing x n (nested_view p))
marker_by_parts x n (seen_ex (repr k (more_reprs r no_reprs)) d ns js) = refl
marker_by_parts x n (seen_ex (repr ReprKind.ExplicitVarSizeWithMarker no_reprs) d ns js) = refl
marker_by_parts x n (seen_ex (repr ReprKind.ExplicitVarSizeWithMarker (more_reprs r (more_reprs q rs))) d ns js) = refl
marker_by_parts x n e = refl

-- Slots with flags.
pub flags_by_parts : (x : Text) (n e : Ex) → flags_listing x n e ≡ and_then (nested e) (λ p. flags_listing x n (nested_view p))
flags_by_parts x n (seen_ex (repr k (more_reprs r no_reprs)) d ns js) = refl
flags_by_parts x n (seen_ex (repr ReprKind.ExplicitVarSizeWithFlags no_reprs) d ns js) = refl
flags_by_parts x n (seen_ex (repr ReprKind.ExplicitVarSizeWithFlags (more_reprs r (more_reprs q rs))) d ns js) = refl
flags_by_parts x n e = refl

-- A multiset in slots up to a marker.
pub repetition_by_parts : (x : Text) (n e : Ex) → repetition_members x n e ≡ and_then (nested e) (λ p. repetition_members x n (nested_view p))
repetition_by_parts x n (seen_ex (repr k (more_reprs r no_reprs)) d ns js) = refl
repetition_by_parts x n (seen_ex (repr ReprKind.MSetExplicitWithRepetition no_reprs) d ns js) = refl
repetition_by_parts x n (seen_ex (repr ReprKind.MSetExplicitWithRepetition (more_reprs r (more_reprs q rs))) d ns js) = refl
repetition_by_parts x n e = refl

-- A multiset in slots with numbers.
pub counted_by_parts : (x y : Text) (n o e : Ex)
    → counted_members x y n o e ≡ and_then (nested e) (λ p. counted_members x y n o (nested_view p))
counted_by_parts x y n o (seen_ex (repr k (more_reprs r no_reprs)) d ns js) = refl
counted_by_parts x y n o (seen_ex (repr ReprKind.MSetExplicitWithFlags no_reprs) d ns js) = refl
counted_by_parts x y n o (seen_ex (repr ReprKind.MSetExplicitWithFlags (more_reprs r (more_reprs q rs))) d ns js) = refl
counted_by_parts x y n o e = refl

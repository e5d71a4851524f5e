-- Listings of views over one table, by the parts of the view.
use Rattle.std.proofs.Common.{◌≡◌, refl, [], ◌∷◌}
use Rattle.ess_semantics.specs.declared.words.ReprKind.{ReprKind}
use Rattle.ess_semantics.specs.Lists.{and_then}
use Rattle.ess_semantics.specs.Values.{Text}
use Rattle.ess_semantics.specs.Trees.{repr, no_reprs, more_reprs, Ex, seen_ex, set_dom, mset_dom}
use Rattle.ess_rules_laws.specs.SetListings.{occurrence_listing}
use Rattle.ess_rules_laws.specs.DummyListings.{dummy_listing}
use Rattle.ess_views_laws.specs.MultisetViews.{occurrence_members}
use Rattle.ess_rules_kinds.specs.ViewParts.{leaf, leaf_view}

-- The members that occur.
pub occurrence_by_parts : (x : Text) (e : Ex) → occurrence_listing x e ≡ and_then (leaf e) (λ p. occurrence_listing x (leaf_view p))
occurrence_by_parts x (seen_ex (repr k no_reprs) d (n ∷ []) js) = refl
occurrence_by_parts x (seen_ex (repr ReprKind.Occurrence no_reprs) (set_dom ms es d) [] js) = refl
occurrence_by_parts x (seen_ex (repr ReprKind.Occurrence no_reprs) (set_dom ms es d) (n ∷ m ∷ ns) js) = refl
occurrence_by_parts x (seen_ex (repr ReprKind.Occurrence (more_reprs r rs)) d ns js) = refl
occurrence_by_parts x e = refl

-- Slots with a dummy.
pub dummy_by_parts : (x : Text) (n m e : Ex) → dummy_listing x n m e ≡ and_then (leaf e) (λ p. dummy_listing x n m (leaf_view p))
dummy_by_parts x n m (seen_ex (repr k no_reprs) d (t ∷ []) js) = refl
dummy_by_parts x n m (seen_ex (repr ReprKind.ExplicitVarSizeWithDummy no_reprs) (set_dom ms es d) [] js) = refl
dummy_by_parts x n m (seen_ex (repr ReprKind.ExplicitVarSizeWithDummy no_reprs) (set_dom ms es d) (t ∷ u ∷ ns) js) = refl
dummy_by_parts x n m (seen_ex (repr ReprKind.ExplicitVarSizeWithDummy (more_reprs r rs)) d ns js) = refl
dummy_by_parts x n m e = refl

-- How often each member is there.
pub members_by_parts : (x y : Text) (o e : Ex) → occurrence_members x y o e ≡ and_then (leaf e) (λ p. occurrence_members x y o (leaf_view p))
members_by_parts x y o (seen_ex (repr k no_reprs) d (t ∷ []) js) = refl
members_by_parts x y o (seen_ex (repr ReprKind.MSetOccurrence no_reprs) (mset_dom ms es d) [] js) = refl
members_by_parts x y o (seen_ex (repr ReprKind.MSetOccurrence no_reprs) (mset_dom ms es d) (t ∷ u ∷ ns) js) = refl
members_by_parts x y o (seen_ex (repr ReprKind.MSetOccurrence (more_reprs r rs)) d ns js) = refl
members_by_parts x y o e = refl

-- Listings of views kept by argument, by the parts of the view.
use Rattle.std.proofs.Common.{◌≡◌, refl, List, [], ◌∷◌}
use Rattle.ess_semantics.specs.declared.words.ReprKind.{ReprKind}
use Rattle.ess_semantics.specs.Lists.{and_then}
use Rattle.ess_semantics.specs.Values.{Text}
use Rattle.ess_semantics.specs.Trees.{repr, no_reprs, more_reprs, Ex, seen_ex, relation_dom}
use Rattle.ess_rules_laws.specs.Function1DViews.{function_1d_listing}
use Rattle.ess_rules_laws.specs.Function1DPartialViews.{function_1d_partial_listing}
use Rattle.ess_rules_laws.specs.FunctionNDViews.{function_nd_listing}
use Rattle.ess_rules_laws.specs.FunctionNDPartialViews.{function_nd_partial_listing}
use Rattle.ess_rules_laws.specs.OccurrenceViews.{relation_matrix_listing}
use Rattle.ess_rules_kinds.specs.ViewParts.{leaf, leaf_view, nested, nested_view}

-- Functions from atoms.
pub function_1d_listing_by_parts : (x : Text) (e : Ex) → function_1d_listing x e ≡ and_then (nested e) (λ p. function_1d_listing x (nested_view p))
function_1d_listing_by_parts x (seen_ex (repr k (more_reprs r no_reprs)) d ns js) = refl
function_1d_listing_by_parts x (seen_ex (repr ReprKind.Function1D no_reprs) d ns js) = refl
function_1d_listing_by_parts x (seen_ex (repr ReprKind.Function1D (more_reprs r (more_reprs q rs))) d ns js) = refl
function_1d_listing_by_parts x e = refl

-- With flags.
pub function_1d_partial_listing_by_parts : (x : Text) (e : Ex) → function_1d_partial_listing x e ≡ and_then (nested e) (λ p. function_1d_partial_listing x (nested_view p))
function_1d_partial_listing_by_parts x (seen_ex (repr k (more_reprs r no_reprs)) d ns js) = refl
function_1d_partial_listing_by_parts x (seen_ex (repr ReprKind.Function1DPartial no_reprs) d ns js) = refl
function_1d_partial_listing_by_parts x (seen_ex (repr ReprKind.Function1DPartial (more_reprs r (more_reprs q rs))) d ns js) = refl
function_1d_partial_listing_by_parts x e = refl

-- Functions from tuples.
pub function_nd_listing_by_parts : (x : List Text) (e : Ex) → function_nd_listing x e ≡ and_then (nested e) (λ p. function_nd_listing x (nested_view p))
function_nd_listing_by_parts x (seen_ex (repr k (more_reprs r no_reprs)) d ns js) = refl
function_nd_listing_by_parts x (seen_ex (repr ReprKind.FunctionND no_reprs) d ns js) = refl
function_nd_listing_by_parts x (seen_ex (repr ReprKind.FunctionND (more_reprs r (more_reprs q rs))) d ns js) = refl
function_nd_listing_by_parts x e = refl

-- With flags.
pub function_nd_partial_listing_by_parts : (x : List Text) (e : Ex) → function_nd_partial_listing x e ≡ and_then (nested e) (λ p. function_nd_partial_listing x (nested_view p))
function_nd_partial_listing_by_parts x (seen_ex (repr k (more_reprs r no_reprs)) d ns js) = refl
function_nd_partial_listing_by_parts x (seen_ex (repr ReprKind.FunctionNDPartial no_reprs) d ns js) = refl
function_nd_partial_listing_by_parts x (seen_ex (repr ReprKind.FunctionNDPartial (more_reprs r (more_reprs q rs))) d ns js) = refl
function_nd_partial_listing_by_parts x e = refl

-- Relations.
pub relation_matrix_listing_by_parts : (xs : List Text) (e : Ex)
    → relation_matrix_listing xs e ≡ and_then (leaf e) (λ p. relation_matrix_listing xs (leaf_view p))
relation_matrix_listing_by_parts xs (seen_ex (repr k no_reprs) d (n ∷ []) js) = refl
relation_matrix_listing_by_parts xs (seen_ex (repr ReprKind.RelationAsMatrix no_reprs) (relation_dom ms es ds) [] js) = refl
relation_matrix_listing_by_parts xs (seen_ex (repr ReprKind.RelationAsMatrix no_reprs) (relation_dom ms es ds) (n ∷ m ∷ ns) js) = refl
relation_matrix_listing_by_parts xs (seen_ex (repr ReprKind.RelationAsMatrix (more_reprs r rs)) d ns js) = refl
relation_matrix_listing_by_parts xs e = refl

-- The set of a multiset's members, as a listing.
use Rattle.std.specs.Prelude.{false, Option, None}
use Rattle.ess_semantics.specs.declared.words.Fun.{Fun}
use Rattle.ess_semantics.specs.Values.{Text}
use Rattle.ess_semantics.specs.Trees.{Ex, fun1}
use Rattle.ess_rules_laws.specs.Listings.{Alternative}
use Rattle.ess_views_laws.specs.MultisetViews.{members_once}
use Rattle.ess_kind_rules_laws.specs.ViewListings.{slots_seen}

-- The members of a multiset, each once.
abbrev pub members_listed : Text → Ex → Option Alternative
members_listed x (fun1 false Fun.ToSet v) = members_once x (slots_seen v) (fun1 false Fun.ToSet v)
members_listed x e = None

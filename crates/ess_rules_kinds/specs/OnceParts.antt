-- Each member of a multiset once, by the parts of its view.
use Rattle.std.specs.Prelude.{false, Option, Some, None}
use Rattle.ess_semantics.specs.declared.words.Fun.{Fun}
use Rattle.ess_semantics.specs.Values.{Text}
use Rattle.ess_semantics.specs.Trees.{Ex, fun1}
use Rattle.ess_rules_laws.specs.Listings.{Alternative}
use Rattle.ess_views_laws.specs.MultisetViews.{members_once}
use Rattle.ess_rules_kinds.specs.ViewParts.{LeafParts, NestedParts, leaf_view, nested_view}

-- Of a function word on one operand.
abbrev pub once_of_word : Text → Ex → Option (Fun × Ex) → Option Alternative
once_of_word x n None = None
once_of_word x n (Some p) = members_once x n (fun1 false p.0 p.1)

-- Of a view over one table, or with one child.
abbrev pub once_of_parts : Text → Ex → Option LeafParts → Option NestedParts → Option Alternative
once_of_parts x n (Some p) o = members_once x n (fun1 false Fun.ToSet (leaf_view p))
once_of_parts x n None (Some p) = members_once x n (fun1 false Fun.ToSet (nested_view p))
once_of_parts x n None None = None

-- The laws of what views offer and of what picks are looked up, each stated at a function that does nothing.
use Rattle.std.specs.Prelude.{◌≡◌, ◌≤◌, true, not, List, length, is_some}
use Rattle.ess_semantics.specs.Values.{Text}
use Rattle.ess_semantics.specs.Names.{Names}
use Rattle.ess_semantics.specs.Kinds.{fits}
use Rattle.ess_semantics.specs.Representations.{width}
use Rattle.ess_semantics.specs.Trees.{Repr, Ex, Exs, Dom, seen_ex}
use Rattle.ess_semantics.specs.Types.{Ty}
use Rattle.ess_semantics.specs.Typing.{type_of}
use Rattle.ess_kind_rules_laws.specs.TermLookups.{picks, looked_up}
use Rattle.ess_kind_rules_laws.specs.ViewListings.{view_listing}
use Rattle.ess_offered_laws.specs.Containers.{is_container, HasNames}
use Rattle.ess_offered_laws.specs.InnermostPicks.{innermost, depth_of_picks, is_told_pick, is_left_pick}

-- Each view of a container offers its members, whatever its kind.
abbrev pub ViewsHaveListings : Type 0
ViewsHaveListings = (x y : Text) (zs : List Text) (r : Repr) (d : Dom) (ns : List Text) (js : Exs) → fits r d ≡ true →
    is_container d ≡ true → length ns ≡ width r → HasNames zs d → is_some (view_listing x y zs (seen_ex r d ns js)) ≡ true

-- Whatever is picked is looked up, unless the innermost pick is left; then it isn't.
abbrev pub PicksAreLookedUp : Type 0
PicksAreLookedUp = (g : Names Ty) (x : Text) (ys : List Text) (e : Ex) → picks e ≡ true → is_some (type_of e g) ≡ true →
    depth_of_picks e ≤ length ys → is_told_pick g (innermost e) ≡ true →
    is_some (looked_up g x ys e) ≡ not (is_left_pick g (innermost e))

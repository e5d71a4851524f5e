-- Worked examples: n is a table of a given, f one of a find, which a view of a set reads.
use Rattle.std.proofs.Common.{◌≡◌, refl, Bool, true, false, ◌||◌, [], ◌∷◌, codes, Some}
use Rattle.ess_semantics.specs.declared.words.ReprKind.{ReprKind}
use Rattle.ess_semantics.specs.Values.{Text}
use Rattle.ess_semantics.specs.Order.{same_text}
use Rattle.ess_semantics.specs.Trees.{one_value, both_ends, name_pat, Repr, repr, no_reprs, more_reprs, Ex, cell_ex, comp_ex, seen_ex, no_exs, more_exs, no_gens, over, Dom, int_dom, set_dom}
use Rattle.ess_semantics.proofs.Shorthands.{N, n}
use Rattle.ess_repr_declare_laws.specs.SizeTerms.{unused_name, slots_ex}
use Rattle.ess_rules_laws.specs.SlotListings.{slots_dom}
use Rattle.ess_kind_rules_laws.specs.ViewListings.{view_listing}
use Rattle.ess_given_laws.specs.Given.{is_fixed_dom, GivenIn}
use Rattle.ess_given_order_laws.specs.InOrder.{Ordered}
use Rattle.ess_given_offers_laws.specs.Seen.{Counts}

-- The table n, without and with the name that sizes bind.
abbrev few : Text → Bool
few a = same_text (codes "n") a

abbrev u : Text → Bool
u a = few a || same_text unused_name a

counts : Counts u
counts = refl

-- `int(1..n)` and `int(1, 3)`.
abbrev up_to_n : Dom
up_to_n = int_dom (both_ends ∷ []) (more_exs (n 1) (more_exs (cell_ex false (codes "n") no_exs) no_exs))

abbrev two_values : Dom
two_values = int_dom (one_value ∷ one_value ∷ []) (more_exs (n 1) (more_exs (n 3) no_exs))

-- The slots of sets of them.
abbrev slots : Dom → Dom
slots d = slots_dom (slots_ex (set_dom [] no_exs d))

-- The size of the first one is a term over n, that of the second one counts its members, under a name that is asked to be one of u.
sizes : (is_fixed_dom few (slots up_to_n) ≡ true) × (is_fixed_dom few (slots two_values) ≡ false)
    × (is_fixed_dom u (slots two_values) ≡ true)
sizes = (refl, refl, refl)

abbrev atom : Repr
atom = repr ReprKind.Atom no_reprs

abbrev view : Ex
view = seen_ex (repr ReprKind.Explicit (more_reprs atom no_reprs)) (set_dom [] no_exs up_to_n) (codes "f" ∷ []) no_exs

-- A view of a find whose domain is given: it is listed over the slots, by the view in each of them.
abbrev item : Ex
item = seen_ex atom up_to_n (codes "f" ∷ []) (more_exs (N (codes "x")) no_exs)

listed : view_listing (codes "x") (codes "y") [] view
    ≡ Some (record { gens = over (name_pat (codes "x")) (slots up_to_n) no_gens; item = item })
listed = refl

-- So what is given in it is given, in order.
listed-given : GivenIn u (comp_ex item (over (name_pat (codes "x")) (slots up_to_n) no_gens))
listed-given = (((refl, tt), refl, (refl, tt)), (refl, refl, tt))

listed-ordered : Ordered u (comp_ex item (over (name_pat (codes "x")) (slots up_to_n) no_gens))
listed-ordered = ((refl, ((refl, tt), tt)), tt)

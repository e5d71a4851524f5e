-- A worked example: the members of a set of two numbers in slots stand for a name, and nothing that they bind stands behind it.
use Rattle.std.proofs.Common.{◌≡◌, refl, subst, Bool, false, [], ◌∷◌, pos, Some, codes}
use Rattle.ess_semantics.specs.declared.words.Key.{Key}
use Rattle.ess_semantics.specs.declared.words.ReprKind.{ReprKind}
use Rattle.ess_semantics.specs.Values.{Text}
use Rattle.ess_semantics.specs.Order.{same_text}
use Rattle.ess_semantics.specs.Trees.{valued, repr, no_reprs, more_reprs, name_pat, Ex, number_ex, name_ex, comp_ex, seen_ex, no_exs, more_exs, no_gens, over, from, Dom, set_dom}
use Rattle.ess_semantics.proofs.Shorthands.{N, upto}
use Rattle.ess_semantics.proofs.Texts.{same_text-equal}
use Rattle.ess_repr_declare_laws.specs.SizeTerms.{unused_name}
use Rattle.ess_rules_laws.specs.Listings.{Alternative}
use Rattle.ess_rules_laws.specs.ListedSources.{laid_out}
use Rattle.ess_rules_laws.specs.SlotListings.{slots_dom}
use Rattle.ess_rules_laws.specs.SpliceRules.{NamesApart}
use Rattle.ess_kind_rules_laws.specs.ViewListings.{view_listing}
use Rattle.ess_kind_sizes_laws.specs.ViewsBehind.{ViewBehind, taken, put}
use Rattle.ess_kind_sizes_laws.proofs.ViewsBehind.{listings-of-sets-are-apart}

abbrev w : Text
w = codes "w"

abbrev new : Text
new = codes "q1"

abbrev pair : Dom
pair = set_dom (valued Key.Size ∷ []) (more_exs (number_ex (pos 2)) no_exs) (upto 3)

abbrev pairs : Ex
pairs = seen_ex (repr ReprKind.Explicit (more_reprs (repr ReprKind.Atom no_reprs) no_reprs)) pair (codes "t" ∷ []) no_exs

-- The view in each slot.
abbrev in_slots : Alternative
in_slots = record {
  gens = over (name_pat new) (slots_dom (number_ex (pos 2))) no_gens;
  item = seen_ex (repr ReprKind.Atom no_reprs) (upto 3) (codes "t" ∷ []) (more_exs (name_ex new) no_exs);
}

offered : view_listing new (codes "q2") [] pairs ≡ Some in_slots
offered = refl

-- Behind it stands w.
abbrev behind_uses : Text → Bool
behind_uses a = same_text w a

abbrev none : Text → Bool
none a = false

stands : ViewBehind behind_uses none (same_text unused_name) new w pairs (N w) no_gens
stands = record {
  source = ((((tt, tt), (tt, (tt, tt)))), tt);
  gens = tt;
  body = refl;
  new = refl;
  within = λ a h. subst (λ c. same_text w c ≡ false) (same_text-equal unused_name a h) refl;
  sizes = refl;
}

apart : NamesApart (taken (same_text unused_name) new) (put none new w) (comp_ex (N w) (from (name_pat w) (laid_out in_slots) no_gens))
apart = listings-of-sets-are-apart behind_uses none (same_text unused_name) new w (codes "q2") [] pairs (N w) no_gens in_slots refl refl
    stands

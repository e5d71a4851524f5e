-- What views of multisets offer: the members of the inner domain, each as often as its number says, or the views in slots up to a marker.
use Rattle.std.specs.Prelude.{List, ◌≡◌, not, ℕ, Some, IsTrue, nat_le, pos}
use Rattle.ess_semantics.specs.Lists.{is_some_and}
use Rattle.ess_semantics.specs.Values.{Text, Value, number, items_of, itself}
use Rattle.ess_semantics.specs.Order.{same_text}
use Rattle.ess_semantics.specs.Collections.{count, no_twice}
use Rattle.ess_semantics.specs.Trees.{Ex, node_ex, seen_ex, no_exs, more_exs, mset_dom}
use Rattle.ess_semantics.specs.Domains.{Attribute, Domain, msets}
use Rattle.ess_semantics.specs.Sizes.{slots_of_mset}
use Rattle.ess_semantics.specs.Meaning.{Env, meaning, domain_of, members_in}
use Rattle.ess_semantics.specs.Meets.{Meets}
use Rattle.ess_rules_laws.specs.Rules.{Unused}
use Rattle.ess_rules_laws.specs.SetListings.{InOrderWhereMet}
use Rattle.ess_rules_laws.specs.SlotListings.{OffersWhereMet}
use Rattle.ess_views_laws.specs.MultisetViews.{occurrence_members, repetition_members, members_once}
use Rattle.ess_views_kept_laws.specs.MultisetsKept.{NumbersMembers}

-- The expression says a number that no member of the multiset is there more often than, and the tables meet its structures.
pub record OftenEnough (o e : Ex) (env : Env) : Type 0 where
  pub often : ℕ
  pub says : meaning o env ≡ Some (number (pos often))
  pub enough : (w : Value) → meaning e env ≡ Some w → (v : Value) → IsTrue (nat_le (count (items_of w) v) often)
  pub met : Meets o env

-- So the view offers them, in the order of the multiset.
abbrev pub NumberedMembersAreListed : Type 0
NumberedMembersAreListed = (x y : Text) (o e : Ex) (env : Env) → Unused x e → Unused y e → IsTrue (not (same_text y x)) → Unused x o →
    Meets e env → NumbersMembers e env → OftenEnough o e env → InOrderWhereMet (occurrence_members x y o e) e env

-- The expression has as its value the number of slots that the multiset of the view has.
abbrev pub CountsSlots : Ex → Ex → Env → Type 0
CountsSlots n (seen_ex r (mset_dom ms es d) ns js) env =
    (ks : List Attribute) (e : Domain) → domain_of (mset_dom ms es d) env ≡ Some (msets ks e) → meaning n env ≡
    Some (number (pos (slots_of_mset ks e)))
CountsSlots n e env = Unit {0}

-- The expression says how many slots the multiset of the view has, and the tables meet its structures.
pub record MultisetSlotsAre (n e : Ex) (env : Env) : Type 0 where
  pub counts : CountsSlots n e env
  pub met : Meets n env

-- A view in slots up to a marker offers the views in these.
abbrev pub SlottedMembersAreListed : Type 0
SlottedMembersAreListed = (x : Text) (n e : Ex) (env : Env) → Unused x e → Meets e env → MultisetSlotsAre n e env →
    OffersWhereMet (repetition_members x n e) e env

-- The view has a number for each member of the inner domain, and these can be listed and differ.
abbrev pub NumbersDifferent : Ex → Env → Type 0
NumbersDifferent (seen_ex r (mset_dom ms es d) ns js) env =
    NumbersMembers (seen_ex r (mset_dom ms es d) ns js) env × IsTrue (is_some_and (members_in (domain_of d env)) (no_twice itself))
NumbersDifferent e env = ⊥

-- So it is of the view whose set is taken.
abbrev pub OfNumbersDifferent : Ex → Env → Type 0
OfNumbersDifferent (node_ex b op (more_exs v no_exs)) env = NumbersDifferent v env
OfNumbersDifferent e env = ⊥

-- The set of such a multiset offers the members whose number is above 0.
abbrev pub MembersOnceAreListed : Type 0
MembersOnceAreListed = (x : Text) (n e : Ex) (env : Env) → Unused x e → Meets e env → OfNumbersDifferent e env →
    OffersWhereMet (members_once x n e) e env

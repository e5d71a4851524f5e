-- What sizes, frequencies and listings of views of multisets count on, whatever their kind.
use Rattle.std.specs.Prelude.{◌≡◌, not, Some, IsTrue}
use Rattle.ess_semantics.specs.declared.words.ReprKind.{ReprKind}
use Rattle.ess_semantics.specs.Values.{Text}
use Rattle.ess_semantics.specs.Order.{same_text}
use Rattle.ess_semantics.specs.Trees.{repr, Ex, node_ex, seen_ex, no_exs, more_exs}
use Rattle.ess_semantics.specs.Meaning.{Env}
use Rattle.ess_semantics.specs.Meets.{Meets}
use Rattle.ess_semantics.specs.Kept.{Keeps}
use Rattle.ess_rules_laws.specs.Rules.{Unused, OperandsThere}
use Rattle.ess_rules_laws.specs.SlotListings.{OffersWhereMet}
use Rattle.ess_views_laws.specs.MultisetViews.{multiset_size, multiset_frequency, counted_members, members_once}
use Rattle.ess_views_kept_laws.specs.MultisetsKept.{NumbersMembers}
use Rattle.ess_views_kept_laws.specs.MultisetsListed.{OftenEnough, MultisetSlotsAre, NumbersDifferent}

-- The members of the inner domain can be listed where each has a number, and n says how many slots there are where these have one.
abbrev pub CountAsks : Ex → Ex → Env → Type 0
CountAsks n (seen_ex (repr ReprKind.MSetOccurrence rs) d ns js) env = NumbersMembers (seen_ex (repr ReprKind.MSetOccurrence rs) d ns js) env
CountAsks n (seen_ex (repr ReprKind.MSetExplicitWithFlags rs) d ns js) env =
    MultisetSlotsAre n (seen_ex (repr ReprKind.MSetExplicitWithFlags rs) d ns js) env
CountAsks n e env = Unit {0}

-- So it is of the view whose size is taken.
abbrev pub SizeAsks : Ex → Ex → Env → Type 0
SizeAsks n (node_ex b op (more_exs v no_exs)) env = CountAsks n v env
SizeAsks n e env = Unit {0}

-- And of the view in which a frequency is.
abbrev pub FrequencyAsks : Ex → Ex → Env → Type 0
FrequencyAsks n (node_ex b op (more_exs v (more_exs a no_exs))) env = CountAsks n v env
FrequencyAsks n e env = Unit {0}

-- For the set of the members, those of the inner domain differ where each has a number.
abbrev pub OnceAsks : Ex → Ex → Env → Type 0
OnceAsks n (seen_ex (repr ReprKind.MSetOccurrence rs) d ns js) env =
    NumbersDifferent (seen_ex (repr ReprKind.MSetOccurrence rs) d ns js) env
OnceAsks n e env = CountAsks n e env

-- So it is of the view whose set is taken.
abbrev pub OfOnce : Ex → Ex → Env → Type 0
OfOnce n (node_ex b op (more_exs v no_exs)) env = OnceAsks n v env
OfOnce n e env = Unit {0}

-- So sizes and frequencies of views of multisets keep what they rewrite, the set of the members is offered, and so are the views in slots
-- with numbers, each as often as its number says: o says a number that none is there more often than.
pub record CountedMultisetsServe : Type 0 where
  pub sizes : (x : Text) (n e f : Ex) → multiset_size x n e ≡ Some f → Unused x e → (env : Env) → SizeAsks n e env → Keeps e f env
  pub frequencies : (x : Text) (n e f : Ex) → multiset_frequency x n e ≡ Some f → Unused x e → (env : Env) → OperandsThere e env →
      FrequencyAsks n e env → Keeps e f env
  pub members_are_offered_once : (x : Text) (n e : Ex) (env : Env) → Unused x e → Meets e env → OfOnce n e env →
      OffersWhereMet (members_once x n e) e env
  pub numbers_in_slots_are_listed : (x y : Text) (n o e : Ex) (env : Env) → Unused x e → Unused y e → IsTrue (not (same_text y x)) →
      Unused x o → Meets e env → MultisetSlotsAre n e env → OftenEnough o e env → OffersWhereMet (counted_members x y n o e) e env

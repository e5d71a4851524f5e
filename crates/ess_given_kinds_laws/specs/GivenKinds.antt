-- Rules that read the kind of a view keep what is given in domains, and comprehensions in order where order counts.
use Rattle.std.specs.Prelude.{◌≡◌, Bool, true, false, ◌||◌, List, [], ◌∷◌, Some}
use Rattle.std.specs.List.{list_all}
use Rattle.ess_semantics.specs.Values.{Text}
use Rattle.ess_semantics.specs.Names.{Names}
use Rattle.ess_semantics.specs.Trees.{Ex}
use Rattle.ess_semantics.specs.Types.{Ty}
use Rattle.ess_refine_laws.specs.AllRules.{Supply}
use Rattle.ess_kind_rules_laws.specs.KindRules.{KindRule, over_a_view, of_one_view, lie_together, truth_behind_a_flag, of_what_is_picked, picked, kind_rewrite}
use Rattle.ess_given_laws.specs.Given.{is_fixed, GivenIn}
use Rattle.ess_given_laws.specs.GivenStays.{draws_fixed}
use Rattle.ess_given_order_laws.specs.InOrder.{in_order, Ordered}
use Rattle.ess_given_offers_laws.specs.Seen.{Counts}
use Rattle.ess_given_offers_laws.specs.GivenOffers.{NoneIn}

-- ---- what a rule takes

-- Whether what the rule binds is fixed: where the root is, or the source that a view lists.
abbrev pub kind_binds : (Text → Bool) → KindRule → Ex → Bool
kind_binds u over_a_view e = is_fixed u e || draws_fixed u e
kind_binds u of_one_view e = is_fixed u e || draws_fixed u e
kind_binds u r e = is_fixed u e

-- All new names.
abbrev pub new_names : Supply → List Text
new_names s = s.one ∷ s.other ∷ s.third ∷ s.parts

-- Those that the rule may bind over a source; it binds all others over domains.
abbrev pub source_names : Supply → KindRule → List Text
source_names s over_a_view = s.one ∷ []
source_names s of_one_view = s.one ∷ []
source_names s lie_together = s.other ∷ []
source_names s truth_behind_a_flag = s.one ∷ []
source_names s of_what_is_picked = new_names s
source_names s picked = new_names s
source_names s r = []

-- All new names belong to u where what the rule binds is fixed; else none does that it may bind over a source.
pub record NewOfKinds (u : Text → Bool) (s : Supply) (r : KindRule) (e : Ex) : Type 0 where
  pub fixed : kind_binds u r e ≡ true → list_all u (new_names s) ≡ true
  pub others : kind_binds u r e ≡ false → NoneIn u (source_names s r)

-- ---- what is said

-- Each rule keeps what is given where it fires; and what is fixed stays fixed. Where order counts comprehensions stay in order, at the
-- root's own place too.
pub record KindsKeepGiven : Type 0 where
  pub by_each_rule : (u : Text → Bool) (s : Supply) (g : Names Ty) (r : KindRule) (e f : Ex) → kind_rewrite s g r e ≡ Some f → Counts u →
      NewOfKinds u s r e → GivenIn u e → GivenIn u f
  pub of_fixed_trees : (u : Text → Bool) (s : Supply) (g : Names Ty) (r : KindRule) (e f : Ex) → kind_rewrite s g r e ≡ Some f →
      Counts u → NewOfKinds u s r e → is_fixed u e ≡ true → is_fixed u f ≡ true
  pub keeps_order : (u : Text → Bool) (s : Supply) (g : Names Ty) (r : KindRule) (e f : Ex) → kind_rewrite s g r e ≡ Some f → Counts u →
      NewOfKinds u s r e → GivenIn u e → Ordered u e → Ordered u f
  pub in_its_place : (u : Text → Bool) (s : Supply) (g : Names Ty) (r : KindRule) (e f : Ex) → kind_rewrite s g r e ≡ Some f → Counts u →
      NewOfKinds u s r e → GivenIn u e → Ordered u e → in_order u f ≡ true

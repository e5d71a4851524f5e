-- What each rule of openings counts on beside values, and that the rest follows where each part of the tree has a value wherever its
-- context holds, but for numbers in natural places.
use Rattle.std.specs.Prelude.{◌≡◌, Bool, true, false, Some}
use Rattle.ess_semantics.specs.Names.{Names}
use Rattle.ess_semantics.specs.Trees.{Ex}
use Rattle.ess_semantics.specs.Types.{Ty}
use Rattle.ess_semantics.specs.Typed.{Typed}
use Rattle.ess_semantics.specs.Meaning.{Env}
use Rattle.ess_semantics.specs.Meets.{Meets}
use Rattle.ess_semantics.specs.Kept.{Keeps}
use Rattle.ess_rules_laws.specs.Rules.{Unused, SoundOperands}
use Rattle.ess_refine_laws.specs.AllRules.{Supply}
use Rattle.ess_values_along_laws.specs.Valued.{Valued}
use Rattle.ess_open_rules_laws.specs.OpenRules.{OpenRule, applied_relation, of_a_pick, a_pick_alone, over_one_source, over_what_is_picked, least_over_several, set_over_several, different_by_counts, in_order_of_its_source, open_rewrite}
use Rattle.ess_open_kept_laws.specs.OpenAsks.{OpenAsks}
use Rattle.ess_open_counted_laws.specs.LookupsBeside.{LookupBeside}
use Rattle.ess_open_counted_laws.specs.PicksBeside.{RootTyped, PickBeside}
use Rattle.ess_open_counted_laws.specs.SourcesBeside.{OpenedBeside, NumbersTyped, PickedSourceBeside, KeptBehindBeside}

-- What the rule asks beside values: of names and types, and of views. Nothing is asked of the rules that aren't named here.
abbrev pub OpenBeside : Supply → Names Ty → OpenRule → Ex → Env → Type 0
OpenBeside s g applied_relation e env = SoundOperands g e
OpenBeside s g of_a_pick e env = Unused s.one e × RootTyped g e × PickBeside s g e env
OpenBeside s g a_pick_alone e env = RootTyped g e × LookupBeside g s.third s.parts e env
OpenBeside s g over_one_source e env = OpenedBeside s g e env
OpenBeside s g over_what_is_picked e env = PickedSourceBeside s g e env
OpenBeside s g least_over_several e env = OpenedBeside s g e env × NumbersTyped g e
OpenBeside s g set_over_several e env = OpenedBeside s g e env
OpenBeside s g different_by_counts e env = Unused s.one e
OpenBeside s g in_order_of_its_source e env = KeptBehindBeside s g e env
OpenBeside s g r e env = Unit {0}

-- Whether the rule is one of what is picked. What these ask needn't hold: a number over what is picked may have nothing in a natural place,
-- and a Boolean that is picked out of what is picked may be none of its items.
abbrev pub is_of_picks : OpenRule → Bool
is_of_picks of_a_pick = true
is_of_picks a_pick_alone = true
is_of_picks r = false

-- So each rule that fires keeps what it rewrites, and each but those of what is picked has all that it counts on. w says that the tree
-- stands in a natural place.
pub record OpensAreCountedOn : Type 0 where
  pub asked : (s : Supply) (g : Names Ty) (r : OpenRule) (e f : Ex) → open_rewrite s g r e ≡ Some f → is_of_picks r ≡ false → (env : Env) →
      Typed g env → OpenBeside s g r e env → (w : Bool) → Valued w e env → Meets e env → OpenAsks s g r e env
  pub kept : (s : Supply) (g : Names Ty) (r : OpenRule) (e f : Ex) → open_rewrite s g r e ≡ Some f → (env : Env) → Typed g env →
      OpenBeside s g r e env → (w : Bool) → Valued w e env → Keeps e f env

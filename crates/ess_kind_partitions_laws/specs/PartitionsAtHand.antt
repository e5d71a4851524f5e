-- What rules of views of partitions by part numbers count on follows from what refining has at hand: types and values of the tree, new
-- names, structures met, and views of judged domains.
use Rattle.std.specs.Prelude.{◌≡◌, Bool, true, false, List, Some}
use Rattle.ess_semantics.specs.declared.words.ReprKind.{ReprKind}
use Rattle.ess_semantics.specs.Values.{Text}
use Rattle.ess_semantics.specs.Names.{Names}
use Rattle.ess_semantics.specs.Trees.{repr, Ex, node_ex, seen_ex, more_exs, partition_dom}
use Rattle.ess_semantics.specs.Types.{Ty}
use Rattle.ess_semantics.specs.Meaning.{Env}
use Rattle.ess_semantics.specs.Meets.{Meets}
use Rattle.ess_semantics.specs.Kept.{Keeps}
use Rattle.ess_refine_laws.specs.AllRules.{Supply}
use Rattle.ess_rules_laws.specs.Rules.{Unused}
use Rattle.ess_rules_laws.specs.Listings.{Alternative}
use Rattle.ess_values_along_laws.specs.Valued.{Valued}
use Rattle.ess_kind_rules_laws.specs.ViewListings.{view_listing}
use Rattle.ess_kind_rules_laws.specs.KindRules.{KindRule, member_of_a_part, size_of_the_parts, lie_together, party_by_number, kind_rewrite}
use Rattle.ess_kinds_kept_laws.specs.NewNames.{TwoNew}
use Rattle.ess_kinds_kept_laws.specs.ViewAsks.{ViewAsks}
use Rattle.ess_kinds_kept_laws.specs.KindAsks.{KindAsks}
use Rattle.ess_kind_steps_laws.specs.JudgedItems.{IsJudged}
use Rattle.ess_kind_steps_laws.specs.SetsAtHand.{AtHand}

-- ---- rules

-- The rules: of participants, of how many parts there are, of members that lie together, and of the part with a term.
abbrev pub is_of_partitions : KindRule → Bool
is_of_partitions member_of_a_part = true
is_of_partitions size_of_the_parts = true
is_of_partitions lie_together = true
is_of_partitions party_by_number = true
is_of_partitions r = false

-- What the last two have at hand: the view that stands second is one of a judged domain, and where two names are bound both are new.
abbrev pub PartitionsAtHand : Supply → KindRule → Ex → Env → Type 0
PartitionsAtHand s lie_together (node_ex b op (more_exs a (more_exs v es))) env =
    IsJudged v env × TwoNew s.one s.other (node_ex b op (more_exs a (more_exs v es)))
PartitionsAtHand s party_by_number (node_ex b op (more_exs a (more_exs v es))) env = IsJudged v env
PartitionsAtHand s r e env = Unit {0}

-- So each of these rules that fires has what it counts on where structures are met and each part of the tree has a value wherever its
-- context holds, but for numbers in natural places, and keeps what it rewrites. w says that the tree stands in one.
pub record PartitionRulesHaveWhatTheyAsk : Type 0 where
  pub asked : (s : Supply) (g : Names Ty) (r : KindRule) (e f : Ex) → kind_rewrite s g r e ≡ Some f → is_of_partitions r ≡ true →
      (env : Env) → AtHand s g r e env → PartitionsAtHand s r e env → (w : Bool) → Valued w e env → Meets e env → KindAsks s g r e env
  pub kept : (s : Supply) (g : Names Ty) (r : KindRule) (e f : Ex) → kind_rewrite s g r e ≡ Some f → is_of_partitions r ≡ true →
      (env : Env) → AtHand s g r e env → PartitionsAtHand s r e env → (w : Bool) → Valued w e env → Keeps e f env

-- ---- listings

-- Whether the expression is a view of a partition by part numbers.
abbrev pub is_by_part_number : Ex → Bool
is_by_part_number (seen_ex (repr ReprKind.PartitionOccurrence rs) (partition_dom ms es d) ns js) = true
is_by_part_number e = false

-- So what such a view offers has what it counts on, where the name is new and structures are met.
abbrev pub PartitionsAreListed : Type 0
PartitionsAreListed =
    (x y : Text) (zs : List Text) (t : Ex) (a : Alternative) → view_listing x y zs t ≡ Some a → is_by_part_number t ≡ true →
    Unused x t → (env : Env) → IsJudged t env → Meets t env → ViewAsks x y zs t env

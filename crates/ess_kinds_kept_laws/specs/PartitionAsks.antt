-- What is asked of views of partitions that are kept by the number of each member's part.
use Rattle.std.specs.Prelude.{◌≡◌, ℕ, List, length, nat_le, Some, IsTrue, pos}
use Rattle.ess_semantics.specs.Values.{Text, Value, number, items_of, itself}
use Rattle.ess_semantics.specs.Collections.{holds, no_twice}
use Rattle.ess_semantics.specs.Trees.{Ex, node_ex, seen_ex, no_exs, more_exs, Dom, partition_dom}
use Rattle.ess_semantics.specs.Tables.{code}
use Rattle.ess_semantics.specs.Meaning.{Env, meaning, domain_of, members_in}
use Rattle.ess_semantics.specs.Meets.{Meets}
use Rattle.ess_rules_laws.specs.Rules.{Unused, OperandsThere}
use Rattle.ess_rules_laws.specs.SlotListings.{OffersWhereMet}
use Rattle.ess_views_laws.specs.PartitionViews.{partition_parts, partition_party, are_together}
use Rattle.ess_kinds_kept_laws.specs.NewNames.{TwoNew}
use Rattle.ess_semantics.specs.Kept.{Keeps}

-- The expression says a number that the partition has no more parts than, and the tables meet its structures.
pub record NumbersEnough (n v : Ex) (env : Env) : Type 0 where
  pub often : ℕ
  pub says : meaning n env ≡ Some (number (pos often))
  pub enough : (p : Value) → meaning v env ≡ Some p → IsTrue (nat_le (length (items_of p)) often)
  pub met : Meets n env

-- The number of the value tells it from all members of the domain.
abbrev pub Tells : Value → Dom → Env → Type 0
Tells y d env = (us : List Value) (v : Value) → members_in (domain_of d env) ≡ Some us → IsTrue (holds us v) → code v ≡ code y → v ≡ y

-- So it is of the value of a term, if it has one.
abbrev pub TermTold : Ex → Ex → Env → Type 0
TermTold a (seen_ex r (partition_dom ms es d) ns js) env = (y : Value) → meaning a env ≡ Some y → Tells y d env
TermTold a v env = Unit {0}

-- And of each member of a set, if it has a value: that has no member twice.
pub record MembersTold (s : Ex) (d : Dom) (env : Env) : Type 0 where
  pub once : (w : Value) → meaning s env ≡ Some w → IsTrue (no_twice itself (items_of w))
  pub told : (w : Value) → meaning s env ≡ Some w → (y : Value) → IsTrue (holds (items_of w) y) → Tells y d env

abbrev pub SetTold : Ex → Ex → Env → Type 0
SetTold s (seen_ex r (partition_dom ms es d) ns js) env = MembersTold s d env
SetTold s v env = Unit {0}

-- What `party(a, v)` asks.
abbrev pub PartyAsks : Ex → Ex → Env → Type 0
PartyAsks n (node_ex b op (more_exs a (more_exs v no_exs))) env = NumbersEnough n v env × TermTold a v env
PartyAsks n e env = Unit {0}

-- What `together(s, v)` asks.
abbrev pub TogetherAsks : Ex → Ex → Env → Type 0
TogetherAsks n (node_ex b op (more_exs s (more_exs v no_exs))) env = NumbersEnough n v env × SetTold s v env
TogetherAsks n e env = Unit {0}

-- So they keep their meaning, and the parts are listed.
pub record PartitionsByNumberServe : Type 0 where
  pub parties : (n e f : Ex) → partition_party n e ≡ Some f → (env : Env) → PartyAsks n e env → Keeps e f env
  pub together : (x y : Text) (n e f : Ex) → are_together x y n e ≡ Some f → (env : Env) → TwoNew x y e → Unused x n →
      OperandsThere e env → TogetherAsks n e env → Keeps e f env
  pub parts_are_listed : (x : Text) (n e : Ex) (env : Env) → Unused x e → Unused x n → Meets e env → NumbersEnough n e env →
      OffersWhereMet (partition_parts x n e) e env

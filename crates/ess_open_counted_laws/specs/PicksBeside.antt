-- Rules of what is picked, and what they count on beside values. A number over what is picked may have nothing in a natural place: what is
-- picked is there.
use Rattle.std.specs.Prelude.{◌≡◌, Bool, false, not, ◌∷◌, Some, IsTrue}
use Rattle.ess_semantics.specs.Names.{Names}
use Rattle.ess_semantics.specs.Trees.{Ex, node_ex}
use Rattle.ess_semantics.specs.Types.{Ty, int_ty}
use Rattle.ess_semantics.specs.Typed.{Typed}
use Rattle.ess_semantics.specs.Meaning.{Env}
use Rattle.ess_semantics.specs.Kept.{Keeps}
use Rattle.ess_rules_laws.specs.Rules.{Unused}
use Rattle.ess_refine_laws.specs.AllRules.{Supply, OfSome}
use Rattle.ess_values_along_laws.specs.Valued.{Valued}
use Rattle.ess_counted_more_laws.specs.MoreCounted.{IsTyped}
use Rattle.ess_kind_rules_laws.specs.KindRules.{asks_truth, over_picked, picked_scalar, first_picked as first_of_kinds}
use Rattle.ess_open_rules_laws.specs.OpenRules.{compares_values, first_picked, over_a_pick, pick_alone}
use Rattle.ess_open_counted_laws.specs.LookupsBeside.{LookupBeside}

-- A root that isn't Boolean is a number by its type.
abbrev pub RootTyped : Names Ty → Ex → Type 0
RootTyped g (node_ex false op es) = IsTyped g int_ty (node_ex false op es)
RootTyped g e = Unit {0}

-- The first operand that picks a value isn't read as Boolean, and has what its lookup asks beside values.
abbrev pub PickBeside : Supply → Names Ty → Ex → Env → Type 0
PickBeside s g (node_ex b op es) env = OfSome (first_picked (compares_values b op) g 1 es)
    (λ p. IsTrue (not (asks_truth p.1)) × LookupBeside g s.third s.parts p.1 env)
PickBeside s g e env = Unit {0}

-- The same among the rules of kinds.
abbrev pub PickedBeside : Supply → Names Ty → Ex → Env → Type 0
PickedBeside s g (node_ex b op es) env = OfSome (first_of_kinds g 1 es)
    (λ p. IsTrue (not (asks_truth p.1)) × LookupBeside g s.third (s.other ∷ s.parts) p.1 env)
PickedBeside s g e env = Unit {0}

-- So each of these rules keeps what it rewrites where each part has a value wherever its context holds, but for numbers in natural places.
-- w says that the root stands in one.
pub record PicksAreCountedOn : Type 0 where
  pub of_a_pick : (s : Supply) (g : Names Ty) (e f : Ex) → over_a_pick s g e ≡ Some f → Unused s.one e → RootTyped g e → (env : Env) →
      Typed g env → PickBeside s g e env → (w : Bool) → Valued w e env → Keeps e f env
  pub a_pick_alone : (s : Supply) (g : Names Ty) (e f : Ex) → pick_alone s g e ≡ Some f → RootTyped g e → (env : Env) → Typed g env →
      LookupBeside g s.third s.parts e env → (w : Bool) → Valued w e env → Keeps e f env
  pub of_what_is_picked : (s : Supply) (g : Names Ty) (e f : Ex) → over_picked s g e ≡ Some f → Unused s.one e → RootTyped g e →
      (env : Env) → Typed g env → PickedBeside s g e env → (w : Bool) → Valued w e env → Keeps e f env
  pub picked : (s : Supply) (g : Names Ty) (e f : Ex) → picked_scalar s g e ≡ Some f → RootTyped g e → (env : Env) → Typed g env →
      LookupBeside g s.third (s.other ∷ s.parts) e env → (w : Bool) → Valued w e env → Keeps e f env

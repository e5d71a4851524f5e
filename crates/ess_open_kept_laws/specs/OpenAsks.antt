-- What each rule counts on at the first generator that isn't plain, of what is picked, of relations applied and of indices of several
-- steps, and that it then keeps what it rewrites.
use Rattle.std.specs.Prelude.{◌≡◌, Bool, not, List, Some, IsTrue, is_some}
use Rattle.ess_semantics.specs.Values.{Text}
use Rattle.ess_semantics.specs.Names.{Names}
use Rattle.ess_semantics.specs.Trees.{name_pat, Ex, node_ex, comp_ex, fun1, from}
use Rattle.ess_semantics.specs.Types.{Ty}
use Rattle.ess_semantics.specs.Typed.{Typed}
use Rattle.ess_semantics.specs.Meaning.{Env, meaning}
use Rattle.ess_semantics.specs.Contexts.{Each}
use Rattle.ess_semantics.specs.Kept.{Keeps}
use Rattle.ess_rules_laws.specs.Rules.{Unused, SoundOperands, OperandsThere}
use Rattle.ess_rules_laws.specs.Listings.{Alternative}
use Rattle.ess_rules_laws.specs.ListedSources.{SourceApart}
use Rattle.ess_refine_laws.specs.AllRules.{Supply, OfSome}
use Rattle.ess_kind_rules_laws.specs.KindRules.{asks_truth}
use Rattle.ess_kinds_kept_laws.specs.LookupAsks.{LookupAsks}
use Rattle.ess_kinds_kept_laws.specs.KindAsks.{RootFits, KindAsks}
use Rattle.ess_open_rules_laws.specs.OpenSources.{picked_members}
use Rattle.ess_open_rules_laws.specs.OpenRules.{OpenRule, step_by_step, applied_relation, of_a_pick, a_pick_alone, without_repeats, without_its_indices, over_one_source, over_what_is_picked, least_over_several, set_over_several, different_by_counts, in_order_of_its_source, fold_of_folds, set_of_a_term, KindRuling, of_kind, of_opening, compares_values, first_picked, open_rewrite, kind_ruled, first_opening}
use Rattle.ess_open_kept_laws.specs.OpenedAsks.{OpenedAsks, LeastAsks, KeptBehindAsks}

-- ---- folds

-- Names are told apart, and the first source is there, isn't read as Boolean, and has what its lookup asks.
abbrev pub PickedApart : Supply → Names Ty → List Alternative → Ex → Ex → Env → Type 0
PickedApart s g l t e env = (r : Text → Bool) × (u : Text → Bool) × SourceApart r u l e × IsTrue (is_some (meaning t env))
    × IsTrue (not (asks_truth t)) × LookupAsks g s.third s.parts t env

-- So it is of a fold over what is picked.
abbrev pub SourcePicked : Supply → Names Ty → Ex → Env → Type 0
SourcePicked s g (fun1 m w (comp_ex e (from (name_pat y) t hs))) env =
    OfSome (picked_members s g t) (λ l. PickedApart s g l t (fun1 m w (comp_ex e (from (name_pat y) t hs))) env)
SourcePicked s g e env = Unit {0}

-- ---- what is picked

-- The first operand that picks a value isn't read as Boolean, and has what its lookup asks.
abbrev pub PickAsks : Supply → Names Ty → Ex → Env → Type 0
PickAsks s g (node_ex b op es) env = OfSome (first_picked (compares_values b op) g 1 es)
    (λ p. IsTrue (not (asks_truth p.1)) × LookupAsks g s.third s.parts p.1 env)
PickAsks s g e env = Unit {0}

-- ---- each rule

-- What the rule counts on at a root, beside that names have values of their types.
abbrev pub OpenAsks : Supply → Names Ty → OpenRule → Ex → Env → Type 0
OpenAsks s g step_by_step e env = Unit {0}
OpenAsks s g applied_relation e env = SoundOperands g e
OpenAsks s g of_a_pick e env = Unused s.one e × PickAsks s g e env × RootFits e env
OpenAsks s g a_pick_alone e env = LookupAsks g s.third s.parts e env × RootFits e env
OpenAsks s g without_repeats e env = Unit {0}
OpenAsks s g without_its_indices e env = OperandsThere e env
OpenAsks s g over_one_source e env = OpenedAsks s g e env
OpenAsks s g over_what_is_picked e env = SourcePicked s g e env × OperandsThere e env
OpenAsks s g least_over_several e env = LeastAsks s g e env
OpenAsks s g set_over_several e env = OpenedAsks s g e env × OperandsThere e env
OpenAsks s g different_by_counts e env = Unused s.one e
OpenAsks s g in_order_of_its_source e env = KeptBehindAsks s g e env
OpenAsks s g fold_of_folds e env = OperandsThere e env
OpenAsks s g set_of_a_term e env = Unit {0}

-- Each rule that fires has what it counts on.
abbrev pub OpensFit : Supply → Names Ty → List OpenRule → Ex → Env → Type 0
OpensFit s g rs e env = Each rs (λ r. IsTrue (is_some (open_rewrite s g r e)) → OpenAsks s g r e env)

-- What a rule of the list with both counts on.
abbrev pub RulingAsks : Supply → Names Ty → KindRuling → Ex → Env → Type 0
RulingAsks s g (of_kind r) e env = KindAsks s g r e env
RulingAsks s g (of_opening r) e env = OpenAsks s g r e env

-- So each rule keeps what it rewrites, alone, in a list, and with those of kinds.
pub record OpenRulesKeep : Type 0 where
  pub each : (s : Supply) (g : Names Ty) (r : OpenRule) (e f : Ex) → open_rewrite s g r e ≡ Some f → (env : Env) → Typed g env →
      OpenAsks s g r e env → Keeps e f env
  pub together : (s : Supply) (g : Names Ty) (rs : List OpenRule) (e f : Ex) → first_opening s g rs e ≡ Some f → (env : Env) →
      Typed g env → OpensFit s g rs e env → Keeps e f env
  pub with_kinds : (s : Supply) (g : Names Ty) (r : KindRuling) (e f : Ex) → kind_ruled s g r e ≡ Some f → (env : Env) → Typed g env →
      RulingAsks s g r e env → Keeps e f env

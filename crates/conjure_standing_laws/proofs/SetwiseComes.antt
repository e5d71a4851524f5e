-- Something comes of each constraint and each objective over scalars, ranges and nested sets: over tables it is a tree over views, rules
-- lead to such trees alone, and where none fires any more nothing abstract is left.
use Rattle.std.proofs.Common.{◌≡◌, subst, ℕ, ◌<◌, ◌^◌, Bool, true, false, List, [], Option, arith}
use Rattle.ess_semantics.specs.Values.{Text}
use Rattle.ess_semantics.specs.Trees.{Ex, truth_ex}
use Rattle.ess_grammar.specs.Models.{Scope}
use Rattle.eprime_lowering_laws.specs.Lowerable.{is_lowerable}
use Rattle.ess_seen_laws.specs.Seen.{Kind, counted_axes, Seen, truth}
use Rattle.ess_lowered_laws.specs.Laws.{Declares, SeenTreesAreLowered}
use Rattle.ess_mixed_models_laws.specs.ess_setwise_laws.Setwise.{setwise_mark}
use Rattle.ess_mixed_models_laws.specs.ess_setwise_laws.Laws.{IsSeenOverTables, SetwiseTreesAreSeen}
use Rattle.ess_mixed_models_laws.specs.ess_setwise_laws.Objectives.{SetwiseNumbersAreThere}
use Rattle.conjure_model_laws.specs.Shown.{Shows}
use Rattle.conjure_model_laws.specs.IsBuiltFrom.{constraint_tree}
use Rattle.conjure_modelling.specs.ess_rules.Ruled.{IsRuled}
use Rattle.conjure_modelling.specs.ess_refine.Chains.{Leads}
use Rattle.conjure_modelling.specs.ess_model_trees.Written.{next_behind, IsNotWrittenBy, stuck, unlowered}
use Rattle.ess_seen_settled_laws.specs.Laws.{SettledTreesAreRefined}
use Rattle.conjure_standing_laws.specs.SeenLaws.{IsSeenWhole, SeenTreesStaySeen}
use Rattle.conjure_standing_laws.proofs.SetwiseObjectives.{mark-is}
use Rattle.conjure_standing_laws.specs.SetwiseComing.{SetwiseTreesCome}

no-both : {b : Bool} → b ≡ true → b ≡ false → ⊥
no-both {b = true} h k = cc
no-both {b = false} h k = cc

module _ (stay : SeenTreesStaySeen) (settled : SettledTreesAreRefined) (lowered : SeenTreesAreLowered) where
  -- Where rules lead from a tree over views, with few names, is such a tree.
  last-seen : (cells : Text → Option (Bool × List ℕ)) (n k : ℕ) (old last : Ex) (m : Bool) → IsSeenWhole cells n old m →
      Leads IsRuled n [] old last k → k < 2 ^ 62 → Seen cells [] last m
  last-seen cells n k old last m w leads few = (stay cells n k old last m w leads (omega (arith, few))).whole.seen

  -- So something comes of it.
  comes : (cells : Text → Option (Bool × List ℕ)) (taken : List Text) (s : Scope) (n k : ℕ) (old : Ex) (m : Bool) →
      IsSeenWhole cells n old m → Declares s (counted_axes cells) → IsNotWrittenBy s taken n old k → ⊥
  comes cells taken s n k old m w d (stuck v) =
      settled.not_given_up cells k v.last m (last-seen cells n k old v.last m w v.leads v.few) v.given_up
  comes cells taken s n k old m w d (unlowered v) =
      let u = v.written in
      no-both (lowered.lowered cells taken u.last m (last-seen cells n k old u.last m w u.leads u.few) u.refined s d)
      (subst (λ x. is_lowerable s x ≡ false) u.writes v.not_lowerable)

  -- The tree of a constraint, or of an objective, over tables.
  whole-of : (sh : Shows) (marks : Text → Option Bool) (sets : Text → Option Kind) (cells : Text → Option (Bool × List ℕ)) (e : Ex)
      (m : Bool) → IsSeenOverTables sh marks sets cells e m → IsSeenWhole cells (next_behind sh e) (constraint_tree sh e) m
  whole-of sh marks sets cells e m a = record { seen = a.seen; named = record { scoped = a.scoped; names = a.names } }

  -- `true` is one.
  truth-whole : (cells : Text → Option (Bool × List ℕ)) (n : ℕ) → IsSeenWhole cells n (truth_ex true) true
  truth-whole cells n = record { seen = truth; named = record { scoped = tt; names = tt } }

  pub setwise-comes-by : SetwiseTreesAreSeen → SetwiseNumbersAreThere → SetwiseTreesCome
  setwise-comes-by seen there = record {
    of_constraints = λ sh marks sets cells h e m t low taken s d c.
        comes cells taken s (next_behind sh e) c.0 (constraint_tree sh e) m
        (whole-of sh marks sets cells e m (seen sh marks sets cells h e m t low)) d c.1;
    of_objectives = λ sh marks sets cells h e t low taken s d c.
        let z = there sh marks sets cells h e t low in
        let u = mark-is (setwise_mark marks sets e) t in
        comes cells taken s (next_behind sh e) c.0 (constraint_tree sh e) false
        (whole-of sh marks sets cells e false (seen sh marks sets cells h e false u low)) d
        (subst (λ x. IsNotWrittenBy s taken (next_behind sh e) x c.0) z.tree c.1);
    of_conditions = λ sh marks sets cells h e t low taken s d c.
        let z = there sh marks sets cells h e t low in
        comes cells taken s (next_behind sh e) c.0 (truth_ex true) true (truth-whole cells (next_behind sh e)) d
        (subst (λ x. IsNotWrittenBy s taken (next_behind sh e) x c.0) z.condition c.1);
  }

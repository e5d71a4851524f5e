-- The rules of constraints that speak of nested sets stand, and so do objectives, by the laws of trees over views.
use Rattle.ess_bare_written_laws.proofs.Written.{ended-trees-are-written}
use Rattle.ess_mixed_models_laws.proofs.ess_setwise_laws.SetwiseLaws.{setwise-trees-are-seen, setwise-numbers-are-there}
use Rattle.conjure_standing_laws.proofs.SeenLaws.{depths-are-bounded, seen-trees-stay-seen}
use Rattle.conjure_standing_laws.specs.SetwiseLaws.{SetwiseRulesStand, SetwiseObjectivesStand}
use Rattle.conjure_standing_laws.proofs.SetwiseRules.{setwise-rules-by}
use Rattle.conjure_standing_laws.proofs.SetwiseObjectives.{setwise-objectives-by}
use Rattle.conjure_standing_laws.specs.SetwiseComing.{SetwiseTreesCome}
use Rattle.conjure_standing_laws.proofs.SetwiseComes.{setwise-comes-by}
use Rattle.ess_seen_laws.proofs.Told.{set-told}
use Rattle.ess_seen_progress_laws.proofs.Moving.{seen-moves}
use Rattle.ess_seen_settled_laws.proofs.Settled.{settled-by}
use Rattle.ess_lowered_laws.proofs.Seen.{seen-lowered}

-- The rule of a constraint that speaks of nested sets says what the constraint says.
pub setwise-rules-stand : SetwiseRulesStand
setwise-rules-stand = setwise-rules-by seen-trees-stay-seen ended-trees-are-written setwise-trees-are-seen depths-are-bounded

-- The objective is in the model what it is in the specification.
pub setwise-objectives-stand : SetwiseObjectivesStand
setwise-objectives-stand =
    setwise-objectives-by seen-trees-stay-seen ended-trees-are-written setwise-trees-are-seen setwise-numbers-are-there depths-are-bounded

-- Something comes of each constraint, and of each objective.
pub setwise-trees-come : SetwiseTreesCome
setwise-trees-come =
    setwise-comes-by seen-trees-stay-seen
    (settled-by (λ cells r e m n f. seen-moves cells n f) (record { told_apart = λ cells r e k s j. set-told cells s j })) seen-lowered
    setwise-trees-are-seen setwise-numbers-are-there

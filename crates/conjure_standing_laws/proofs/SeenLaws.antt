-- Trees over views stay such trees along chains, by the laws of rules in them.
use Rattle.ess_depth_laws.specs.Laws.{DepthsAreBounded}
use Rattle.ess_depth_laws.proofs.ByNames.{within-names}
use Rattle.ess_depth_laws.proofs.Depths.{within-binders, further}
use Rattle.ess_depth_laws.proofs.Below.{within-reserved, below-spared}
use Rattle.ess_seen_laws.proofs.Parts.{seen-part}
use Rattle.ess_seen_laws.proofs.Told.{set-told}
use Rattle.ess_seen_ended_laws.proofs.Ended.{seen-ends}
use Rattle.ess_seen_rules_laws.proofs.Few.{few-rules-fire}
use Rattle.ess_seen_stays_laws.proofs.Known.{types, more, puts, names}
use Rattle.ess_seen_stays_laws.proofs.Stays.{stays-seen}
use Rattle.ess_seen_values_laws.proofs.SeenRulesKeep.{seen-rules-keep, parts-of-seen-trees}
use Rattle.ess_seen_names_laws.proofs.Kept.{seen-rules-keep-names}
use Rattle.ess_seen_names_laws.proofs.NamesBelow.{names-at-parts}
use Rattle.conjure_standing_laws.specs.SeenLaws.{SeenTreesStaySeen}
use Rattle.conjure_standing_laws.proofs.SeenChains.{seen-by}

-- No more names are bound around a place than there are names.
pub depths-are-bounded : DepthsAreBounded
depths-are-bounded = record {
  by_names = within-names;
  by_reserved = within-reserved;
  by_binders = within-binders;
  further = λ n m e l h. further e n m l h;
  spared = below-spared;
}

-- Rules lead from such a tree to one that means the same.
pub seen-trees-stay-seen : SeenTreesStaySeen
seen-trees-stay-seen = seen-by seen-part (record { told_apart = λ cells r e k s j. set-told cells s j }) seen-ends
    (few-rules-fire types) (stays-seen types more puts names) seen-rules-keep parts-of-seen-trees seen-rules-keep-names names-at-parts
    depths-are-bounded

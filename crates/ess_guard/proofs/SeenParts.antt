-- A view under its conditions.
use Rattle.std.proofs.Common.{◌≡◌, refl, Bool, []}
use Rattle.ess_semantics.specs.Values.{Text}
use Rattle.ess_semantics.specs.Names.{Names}
use Rattle.ess_core_nodes.specs.declared.nodes.Seen.{Seen}
use Rattle.ess_core_nodes.specs.NodeViews.{pure_seen}
use Rattle.ess_core_nodes.proofs.NodeEquations.{pure_seen_is}
use Rattle.ess_guard_laws.specs.Origins.{Origin}
use Rattle.ess_guard_laws.specs.Guard.{guarded, conditions}

-- A view stays as it is.
pub seen_guarded : (n : Bool) (x y : Text) (k : Names Origin) (v : Seen) → guarded n x y k (pure_seen v) ≡ pure_seen v
seen_guarded n x y k v = rw (pure_seen_is v) refl

-- It asks nothing.
pub seen_asks : (n : Bool) (x y : Text) (k : Names Origin) (w : Bool) (v : Seen) → conditions n x y k w (pure_seen v) ≡ []
seen_asks n x y k w v = rw (pure_seen_is v) refl

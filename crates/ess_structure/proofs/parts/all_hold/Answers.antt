use Rattle.std.proofs.Common.{true, ap, ◌∙◌, map, [], ◌∷◌}
use Rattle.std.proofs.lemmas.List.{map-append}
use Rattle.ess_semantics.specs.Trees.{truth_ex}
use Rattle.ess_core_nodes.specs.NodeViews.{pure_node}
use Rattle.ess_repr_laws.specs.StructureParts.{and_ex}
use Rattle.ess_structure.specs.Together.{together}
use Rattle.ess_structure.proofs.ComponentSteps.{last_taken}
use Rattle.ess_structure.proofs.parts.all_hold.Goals as goal

pub loop-part-preserved : goal.loop-part-preserved
loop-part-preserved c =
    last_taken (map pure_node c.loop-part.parts) (map pure_node c.pop.new.self) (pure_node c.in-Some.part) (pure_node c.loop-part.total)
    (pure_node c.in_ok-total-2.total) (together (map pure_node c.args.parts) (truth_ex true))
    (ap (map pure_node) c.in-Some.ensures ∙ map-append pure_node c.pop.new.self (c.in-Some.part ∷ []))
    (c.in_ok-total-2.ensures ∙ ap (λ p. and_ex (pure_node p) (pure_node c.loop-part.total)) c.in_ok-part.ensures)
    c.loop-part.invariant

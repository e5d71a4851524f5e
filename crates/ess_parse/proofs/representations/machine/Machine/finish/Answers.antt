use Rattle.std.proofs.Common.{◌≡◌, sym, ◌∙◌, true, false}
use Rattle.ess_parse.specs.RepresentationViews.{view_mode}
use Rattle.ess_parse.proofs.representations.machine.Machine.finish.Goals as goal
use Rattle.ess_parse.proofs.RepresentationSteps.{unfinished}

pub returns-then-not-is_empty : goal.returns-then-not-is_empty
returns-then-not-is_empty c =
    unfinished (view_mode (c.args.self).mode) (c.args.self).frames (λ e. let some : false ≡ true = sym c.if-not-is_empty.true ∙ c.is_empty.ensures.1 e in cc)

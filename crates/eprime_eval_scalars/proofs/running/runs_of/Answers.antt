use Rattle.std.proofs.Common.{◌≡◌, refl, ap, ◌∙◌, ◌<◌, ◌++◌, ◌∷◌, [], None, length, arith}
use Rattle.eprime_eval_scalars.specs.declared.running.Run.{Run}
use Rattle.eprime_eval_scalars.proofs.Runs.{runs_of_all, runs_of_ranges}
use Rattle.eprime_eval_scalars.proofs.running.runs_of.Goals as goal

pub returns-then-ranges-eq0 : goal.returns-then-ranges-eq0
returns-then-ranges-eq0 c =
    let all : Run = record { from = None; to = None } in
    runs_of_all c.push.new.self c.args.ranges.now all c.if-ranges-eq0.true refl refl
    (c.in_ok-push.ensures.ok ∙ ap (λ xs. xs ++ all ∷ []) c.new-all.ensures)

pub returns : goal.returns
returns c =
    let l : 0 < length c.args.ranges.now = omega (arith, c.if-ranges-eq0.false) in
    runs_of_ranges c.in_ok-runs.runs c.args.ranges.now l c.in_ok-runs.ensures

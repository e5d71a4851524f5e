use Rattle.std.proofs.Common.{◌≡◌, rules, sym, ap, ◌∙◌, ◌++◌, pos, ◌-ℤ◌, ◌<ℤ◌, length, true, false, arith}
use Rattle.std.specs.Int.{w128}
use mir.Val.{to_z, of_z}
use Rattle.std.proofs.lemmas.Int.{ints}
use Rattle.ess_semantics.specs.Order.{same_ints}
use Rattle.eprime_cells_parts.specs.Sweeping.{up_from}
use Rattle.eprime_cells_parts.proofs.RunsInOrder.{behind_longer, behind_part}
use Rattle.eprime_cells_parts.proofs.sweeping.behind_run.Goals as goal

pub returns-then-count-list : goal.returns-then-count-list
returns-then-count-list c =
    let longer : pos (length c.args.list.now) <ℤ (c.args.end -ℤ c.args.from) = grind (arith, ints) in
    behind_longer c.args.from c.args.end c.args.list.now longer

pub returns-then-is_run : goal.returns-then-is_run
returns-then-is_run c =
    let parts : c.args.list.now ≡ c.split_at.result.0.now ++ c.split_at.result.1.now = search rules in
    let count : pos (length c.split_at.result.0.now) ≡ c.args.end -ℤ c.args.from = grind (arith, ints) in
    let from : to_z w128 (of_z w128 c.args.from) ≡ c.args.from = omega (arith, ints) in
    behind_part c.args.from c.args.end c.args.list.now c.split_at.result.0.now c.split_at.result.1.now true parts count
    (sym c.if-is_run.true ∙ c.is_run.ensures ∙ ap (λ a. same_ints (up_from a (length c.split_at.result.0.now)) c.split_at.result.0.now)
    from)

pub returns-else-is_run : goal.returns-else-is_run
returns-else-is_run c =
    let parts : c.args.list.now ≡ c.split_at.result.0.now ++ c.split_at.result.1.now = search rules in
    let count : pos (length c.split_at.result.0.now) ≡ c.args.end -ℤ c.args.from = grind (arith, ints) in
    let from : to_z w128 (of_z w128 c.args.from) ≡ c.args.from = omega (arith, ints) in
    behind_part c.args.from c.args.end c.args.list.now c.split_at.result.0.now c.split_at.result.1.now false parts count
    (sym c.if-is_run.false ∙ c.is_run.ensures
    ∙ ap (λ a. same_ints (up_from a (length c.split_at.result.0.now)) c.split_at.result.0.now) from)

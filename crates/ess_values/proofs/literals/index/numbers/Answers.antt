use Rattle.std.proofs.Common.{◌≡◌, sym, ap, ◌∙◌, eqb, false, length, map, option_map}
use Rattle.ess_core.specs.ValueViews.{pure_val}
use Rattle.ess_values.proofs.RangeLemmas.{numbers_other, numbers_fit}
use Rattle.ess_values.proofs.literals.index.numbers.Goals as goal

pub returns-then-len-count : goal.returns-then-len-count
returns-then-len-count c =
    let some : eqb (length c.args.ranges.now) 0 ≡ false = cc in
    let m = c.in_ok-members.ensures in let l = c.len.ensures in let t = c.if-len-count.true in
    numbers_other c.args.ranges.now c.args.count c.in-Some.found c.in_ok-members.members some (sym c.in_ok-found.ensures ∙ ap (option_map (map pure_val)) c.in-Some.is) m (λ e. t (l ∙ e))

pub returns : goal.returns
returns c =
    let some : eqb (length c.args.ranges.now) 0 ≡ false = cc in
    let m = c.in_ok-members.ensures in let l = c.len.ensures in let t = c.if-len-count.false in
    rw (c.in_ok-new.ensures) (numbers_fit c.args.ranges.now c.args.count c.in-Some.found c.in_ok-members.members some (sym c.in_ok-found.ensures ∙ ap (option_map (map pure_val)) c.in-Some.is) m (sym l ∙ t))

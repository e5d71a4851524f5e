use Rattle.std.proofs.Common.{sym, ◌∙◌, ◌<◌, length, arith}
use Rattle.ess_values.proofs.ItemLemmas.{no_digit}
use Rattle.ess_values.proofs.naming.number.Goals as goal

pub returns-in-None : goal.returns-in-None
returns-in-None c =
    let h : c.loop-digit.digit-index < length c.args.digits.now = omega arith in
    sym (c.loop-digit.invariant.0 ∙ no_digit c.args.limit c.loop-digit.so_far c.loop-digit.digit-index c.args.digits.now h (sym c.in-None.is ∙ c.with_digit.ensures))

use Rattle.std.proofs.Common.{rules, arith}
use Rattle.std.proofs.lemmas.Fmt.{decimal_digit, decimal_nonempty, length-decimal-le}
use Rattle.std.proofs.lemmas.List.{drop_all, drop-set}
use Rattle.ess_rows.proofs.Decimals.{last_digit-rest, length-tenth}
use Rattle.ess_rows.proofs.text.digits.write.Goals as goal

pub loop-left-init : goal.loop-left-init
loop-left-init c = (rw (drop_all 21 c.args.buffer.now (omega (arith, c.told-buffer))) (search rules), search (rules, length-decimal-le 20), search rules)

pub overflow_sub-start-in-loop-left : goal.overflow_sub-start-in-loop-left
overflow_sub-start-in-loop-left c = search (rules, decimal_nonempty c.loop-left.left)

pub loop-left-preserved : goal.loop-left-preserved
loop-left-preserved c = search (rules, decimal_nonempty c.loop-left.left, drop-set, last_digit-rest, length-tenth c.loop-left.left)

pub returns-clause-digits : goal.returns-clause-digits
returns-clause-digits c = search (rules, drop-set, decimal_digit c.loop-left.left)

pub returns-clause-room_for_sign : goal.returns-clause-room_for_sign
returns-clause-room_for_sign c = search (rules, decimal_nonempty c.loop-left.left)

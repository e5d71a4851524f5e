use Rattle.std.proofs.Common.{sym, subst, ◌+◌, ◌*◌, ◌-◌, ◌≤◌, ◌<◌, ◌^◌, length, get_or, arith}
use Rattle.ess_lex.proofs.bytes.number.Goals as goal
use Rattle.ess_lex.proofs.Values.{value_stays_large}

pub returns-in_default : goal.returns-in_default
returns-in_default c =
    let h : c.loop-digit.digit-index < length c.args.digits.now = omega arith in
    let k : 2 ^ 63 ≤ 10 * c.loop-digit.value + (get_or c.args.digits.now c.loop-digit.digit-index 0 - 48) =
    omega (arith, c.in_default.ensures) in
    subst (λ n. 2 ^ 63 ≤ n) (sym c.loop-digit.invariant)
    (value_stays_large c.loop-digit.value c.loop-digit.digit-index c.args.digits.now h k)

pub returns-in_default-checked_add : goal.returns-in_default-checked_add
returns-in_default-checked_add c =
    let h : c.loop-digit.digit-index < length c.args.digits.now = omega arith in
    let k : 2 ^ 63 ≤ 10 * c.loop-digit.value + (get_or c.args.digits.now c.loop-digit.digit-index 0 - 48) =
    omega (arith, c.in_default-checked_add.ensures, c.in-Some.ensures, c.saturating_sub.ensures) in
    subst (λ n. 2 ^ 63 ≤ n) (sym c.loop-digit.invariant)
    (value_stays_large c.loop-digit.value c.loop-digit.digit-index c.args.digits.now h k)

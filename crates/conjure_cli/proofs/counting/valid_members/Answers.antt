use Rattle.std.proofs.Common.{sym, ◌∙◌}
use Rattle.conjure_cli.proofs.Behind.{valid, not_valid, not_judged}
use Rattle.conjure_cli.proofs.counting.valid_members.Goals as goal

-- src/counting.rt
pub returns-then-valid : goal.returns-then-valid
returns-then-valid c =
    valid c.args.number c.args.sol.now c.in_ok-essence.essence c.as_bytes.result.now c.in-Ok.verdict c.members_in.result
    c.in_ok-essence.ensures c.as_bytes.ensures (sym c.is_valid-valid.ensures ∙ c.if-valid.true) c.in-Ok.ensures.ok c.members_in.ensures

-- src/counting.rt
pub returns-in-Ok : goal.returns-in-Ok
returns-in-Ok c =
    not_valid c.args.number c.args.sol.now c.in_ok-essence.essence c.as_bytes.result.now c.in-Ok.verdict c.in_ok-essence.ensures
    c.as_bytes.ensures (sym c.is_valid-valid.ensures ∙ c.if-valid.false) c.in-Ok.ensures.ok

-- src/counting.rt
pub returns : goal.returns
returns c =
    not_judged c.args.number c.args.sol.now c.in_ok-essence.essence c.as_bytes.result.now c.in-Err.why c.none_counted.result
    c.in_ok-essence.ensures c.as_bytes.ensures c.in-Err.ensures.refused c.none_counted.ensures

use Rattle.conjure_cli.proofs.Behind.{modelled, not_modelled}
use Rattle.conjure_cli.proofs.counting.counted.Goals as goal

-- src/counting.rt
pub returns-in-Ok : goal.returns-in-Ok
returns-in-Ok c =
    modelled c.args.number c.in_ok-essence.essence c.as_bytes.result.now c.in-Ok.made.text.items c.as_slice.result.now c.in-Ok.made.rules
    c.in_ok-members-in-Ok.members c.in_ok-essence.ensures c.as_bytes.ensures c.in-Ok.ensures.ok c.as_slice.ensures.value
    c.in_ok-members-in-Ok.ensures

-- src/counting.rt
pub returns : goal.returns
returns c =
    not_modelled c.args.number c.in_ok-essence.essence c.as_bytes.result.now c.in-Err.why c.none_made.result c.in_ok-essence.ensures
    c.as_bytes.ensures c.in-Err.ensures.refused c.none_made.ensures

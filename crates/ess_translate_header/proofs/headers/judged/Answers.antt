use Rattle.std.proofs.Common.{sym, ◌∙◌, rules}
use Rattle.ess_translate_header.proofs.Judged.{ill_typed, judged_header, judged_ours, judged_prepared, other_reprs}
use Rattle.ess_translate_header.proofs.headers.judged.Goals as goal

pub returns-in-Ok-clause-header : goal.returns-in-Ok-clause-header
returns-in-Ok-clause-header c =
    judged_header c.args.statements c.args.reprs c.in-Ok.spec c.with_reprs.result c.in-Ok.ensures.read c.with_reprs.ensures.header

pub returns-in-Ok-clause-ours : goal.returns-in-Ok-clause-ours
returns-in-Ok-clause-ours c =
    judged_ours c.args.statements c.args.reprs c.in-Ok.spec c.with_reprs.result (search rules) c.in-Ok.ensures.typed c.in-Ok.ensures.prepared
    c.with_reprs.ensures.fits

pub returns-in-Ok-clause-prepared : goal.returns-in-Ok-clause-prepared
returns-in-Ok-clause-prepared c =
    judged_prepared c.args.statements c.args.reprs c.in-Ok.spec c.with_reprs.result c.in-Ok.ensures.read c.in-Ok.ensures.prepared
    c.with_reprs.ensures.header

pub returns-in-Ok-clause-bad : goal.returns-in-Ok-clause-bad
returns-in-Ok-clause-bad c =
    other_reprs c.args.statements c.args.reprs c.in-Ok.spec c.with_reprs.result c.in-Ok.ensures.prepared c.with_reprs.ensures.bad

pub returns-in_ok-of_specification-in-Err-clause-bad : goal.returns-in_ok-of_specification-in-Err-clause-bad
returns-in_ok-of_specification-in-Err-clause-bad c e =
    ill_typed c.args.statements c.args.reprs c.in-Err.no c.check.result c.in-Err.is c.in_ok-of_specification-in-Err.ensures c.check.ensures.refused

use Rattle.std.proofs.Common.{rules}
use Rattle.ess_translate_header.proofs.Judged.{header_found, only_header, no_header_found}
use Rattle.ess_translate_header.proofs.headers.read_header.Goals as goal

pub returns-in-Some-clause-header : goal.returns-in-Some-clause-header
returns-in-Some-clause-header c =
    header_found c.args.text.now c.in-Some.field-0.statements c.in-Some.field-0.reprs c.judged.result (search rules) c.judged.ensures.header c.judged.ensures.ours

pub returns-in-Some-clause-only : goal.returns-in-Some-clause-only
returns-in-Some-clause-only c =
    only_header c.args.text.now c.in-Some.field-0.statements c.in-Some.field-0.reprs c.judged.result (search rules) c.judged.ensures.header

pub returns-in-Some-clause-bad : goal.returns-in-Some-clause-bad
returns-in-Some-clause-bad c e =
    no_header_found c.args.text.now c.in-Some.field-0.statements c.in-Some.field-0.reprs (search rules) (c.judged.ensures.bad e)

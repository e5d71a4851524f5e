use Rattle.std.proofs.Common.{rules, ◌≡◌, ◌∙◌, ◌<◌, Some}
use Rattle.ess_semantics.specs.Names.{is_among}
use Rattle.ess_model_printed.specs.PrintedNames.{q, passed}
use Rattle.ess_model_printed.proofs.PrintedNames.{found_on}
use Rattle.ess_model_printed.proofs.taken.Taken.printed_name.Goals as goal

pub loop-number-preserved : goal.loop-number-preserved
loop-number-preserved c =
    let lt : c.loop-number.number < c.in_ok-last.last = search rules in
    let on : Some c.in-Some.fewer ≡ passed (is_among c.args.self.now (q c.loop-number.number)) c.loop-number.left = search rules in
    found_on c.args.self.now c.in_ok-last.last c.loop-number.number c.loop-number.left c.in-Some.fewer lt on ∙ c.loop-number.invariant

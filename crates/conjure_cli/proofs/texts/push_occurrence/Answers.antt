use Rattle.std.specs.Prelude.{codes}
use Rattle.conjure_cli.specs.Texts.{numbered}
use Rattle.conjure_cli.specs.CellTexts.{truth_at, row_of, row_end}
use Rattle.conjure_cli.proofs.Upto.{three}
use Rattle.conjure_cli.proofs.texts.push_occurrence.Goals as goal

-- src/texts.rt
pub returns : goal.returns
returns c =
    three c.push_str.result c.args.text.now c.push_numbered.new.text c.push_truths.new.text c.push_str.new.self
    (numbered (codes "letting s") c.args.place (codes "_Occurrence be [")) (row_of (truth_at c.args.number c.args.place)) row_end
    c.in_ok-push_numbered.ensures c.in_ok-push_truths.ensures c.push_str.ensures.ok

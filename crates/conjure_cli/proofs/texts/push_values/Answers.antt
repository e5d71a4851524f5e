use Rattle.std.specs.Prelude.{codes}
use Rattle.conjure_cli.specs.Texts.{numbered}
use Rattle.conjure_cli.specs.CellTexts.{value_at, row_of, row_end}
use Rattle.conjure_cli.proofs.Upto.{three}
use Rattle.conjure_cli.proofs.texts.push_values.Goals as goal

-- src/texts.rt
pub returns : goal.returns
returns c =
    three c.push_str.result c.args.text.now c.push_numbered.new.text c.push_numbers.new.text c.push_str.new.self
    (numbered (codes "letting f") c.args.place (codes "_Function1DPartial_Values be ["))
    (row_of (value_at c.args.number c.args.place)) row_end
    c.in_ok-push_numbered.ensures c.in_ok-push_numbers.ensures c.push_str.ensures.ok

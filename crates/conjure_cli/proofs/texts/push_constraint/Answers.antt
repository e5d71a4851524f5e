use Rattle.std.proofs.Common.{[]}
use Rattle.std.specs.Prelude.{codes}
use Rattle.conjure_cli.specs.Texts.{numbered}
use Rattle.conjure_cli.proofs.Upto.{three}
use Rattle.conjure_cli.proofs.texts.push_constraint.Goals as goal

-- src/texts.rt
pub returns : goal.returns
returns c =
    three c.push_numbered-3.result c.args.text.now c.push_numbered.new.text c.push_numbered-2.new.text c.push_numbered-3.new.text
    (numbered (codes "such that forAll i in s") c.args.place (codes " . f")) (numbered [] c.args.place (codes "(i) = "))
    (numbered [] c.args.value (codes "\n")) c.in_ok-push_numbered.ensures c.in_ok-push_numbered-2.ensures c.push_numbered-3.ensures

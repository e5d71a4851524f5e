use Rattle.std.proofs.Common.{ap, ◌∙◌, ◌++◌, ◌∷◌, []}
use Rattle.std.specs.Prelude.{codes}
use Rattle.conjure_cli.specs.Lines.{statements}
use Rattle.conjure_cli.proofs.WritingLaws.{plain_text_by_parts}
use Rattle.conjure_cli.proofs.writer.print_model.Goals as goal

pub returns : goal.returns
returns c =
    plain_text_by_parts (statements c.args.lines.now) _ _ _ _ _ _
    (c.in_ok-extend_from_slice.ensures.items
    ∙ ap (λ t. t ++ ((codes "language ESSENCE' 1.0" ++ 10 ∷ []) ++ (codes "$ conjure-header 1" ++ 10 ∷ []))) c.new-text.ensures.items)
    c.in_ok-put_header_finds.ensures c.in_ok-put_representations.ensures c.in_ok-extend_from_slice-2.ensures.items
    c.in_ok-put_declarations.ensures c.in_ok-put_constraints.ensures

use Rattle.std.proofs.Common.{refl, ap, ◌∙◌, subst, true, false, Ok}
use Rattle.eprime_cells_judging.specs.TablesJudged.{AreInside}
use Rattle.eprime_cells_judging.proofs.tables.inside_cells.Goals as goal

pub returns-in-Ok-true : goal.returns-in-Ok-true
returns-in-Ok-true c =
    let inside : AreInside c.args.known.now c.args.givens.now c.args.decl.now.cell c.args.table.items (Ok true) =
    subst (λ r. AreInside c.args.known.now c.args.givens.now c.args.decl.now.cell c.args.table.items r) (c.in-Ok-true.is ∙ ap (λ b. Ok b) c.in-Ok-true.field-0-test)
    (subst (λ is. AreInside c.args.known.now c.args.givens.now c.args.decl.now.cell is c.are_inside.result) c.as_slice.ensures c.are_inside.ensures) in
    (refl, inside)

pub returns-in-Ok-false : goal.returns-in-Ok-false
returns-in-Ok-false c =
    let inside : AreInside c.args.known.now c.args.givens.now c.args.decl.now.cell c.args.table.items (Ok false) =
    subst (λ r. AreInside c.args.known.now c.args.givens.now c.args.decl.now.cell c.args.table.items r) (c.in-Ok-false.is ∙ ap (λ b. Ok b) c.in-Ok-false.field-0-test)
    (subst (λ is. AreInside c.args.known.now c.args.givens.now c.args.decl.now.cell is c.are_inside.result) c.as_slice.ensures c.are_inside.ensures) in
    inside

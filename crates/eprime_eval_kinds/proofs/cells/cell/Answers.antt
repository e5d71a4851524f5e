use Rattle.eprime_eval_kinds.proofs.Results.{ok-map}
use Rattle.eprime_eval_kinds.proofs.ShapedCells.{cell_declared, cell_undeclared, cell_beyond}
use Rattle.eprime_eval_kinds.proofs.cells.cell.Goals as goal

pub returns-in-Some-shape_at : goal.returns-in-Some-shape_at
returns-in-Some-shape_at c =
    ok-map c.cell_of.result
    (λ k h ds e. cell_declared c.args.declared.now ds c.args.name.now c.in-Some.place c.in-Some-shape_at.shape.now c.args.at k e
    c.in-Some.ensures c.in-Some-shape_at.ensures h)
    c.cell_of.ensures

pub returns-in-None-shape_at : goal.returns-in-None-shape_at
returns-in-None-shape_at c =
    ok-map c.nothing.result (λ k h ds e. cell_beyond _ c.args.declared.now c.args.name.now c.in-Some.place c.in-Some.ensures
    c.in-None-shape_at.ensures) c.nothing.ensures

pub returns-in-None : goal.returns-in-None
returns-in-None c =
    ok-map c.nothing-in-None.result (λ k h ds e. cell_undeclared c.args.declared.now ds c.args.name.now c.args.at k e c.in-None.ensures h)
    c.nothing-in-None.ensures

use Rattle.ess_rules_laws.proofs.view_laws.cells_serve.Goals as goal
use Rattle.ess_rules_laws.proofs.AtomViews.{atom_cell-keeps}
use Rattle.ess_rules_laws.proofs.OccurrenceViews.{member_by_cell-keeps, relation_matrix-listed}

pub returns : goal.returns
returns c = record {
  an_atom_is_its_cell = atom_cell-keeps;
  a_cell_says_member = member_by_cell-keeps;
  tuples_are_listed = relation_matrix-listed;
}

use Rattle.std.proofs.Common.{◌≡◌, ap, ◌∙◌}
use Rattle.ess_semantics.specs.DeclaredTables.{TableDecl}
use Rattle.ess_grammar.specs.Models.{Scope}
use Rattle.ess_core.specs.TableViews.{pure_cells}
use Rattle.eprime_cells_laws.specs.CellsText.{cells_text}
use Rattle.eprime_cells_laws.proofs.WholeText.{tables-read}
use Rattle.eprime_tree.specs.Views.{pure_decls}
use Rattle.eprime_tree.proofs.PrintedCells.{whole_text}
use Rattle.eprime_tree.proofs.printing.cells.print_cells.Goals as goal

is-text : (c : goal.After-into_bytes) (add : Scope → TableDecl → Scope) (s : Scope) →
    c.into_bytes.result.items ≡ cells_text (pure_decls add s c.args.decls.now) (pure_cells c.args.cells.now)
is-text c add s =
    ap (λ v. v.items) c.into_bytes.ensures.value ∙ c.into_string.ensures
    ∙ whole_text c.new-out.result c.push_str.new.self c.print_tables.new.out add s c.args.decls.now c.as_slice-2.result.now
    c.args.cells.now.list c.as_slice.result.now
    c.as_slice-2.ensures c.as_slice.ensures c.new-out.ensures c.in_ok-push_str.ensures.ok (c.in_ok-print_tables.ensures add s)

pub returns-clause-text : goal.returns-clause-text
returns-clause-text c add s = is-text c add s

pub returns-clause-read : goal.returns-clause-read
returns-clause-read c add s known q h p =
    tables-read known q (pure_decls add s c.args.decls.now) (pure_cells c.args.cells.now) c.into_bytes.result.items h p (is-text c add s)

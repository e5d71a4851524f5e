-- The given tables of a parameter fit the model's declarations, and are read again from their text.
use Rattle.std.proofs.Common.{◌≡◌, refl, sym, ap, ◌∙◌, true, ◌&&◌, List, [], map, Some}
use Rattle.std.specs.List.{list_all}
use Rattle.ess_semantics.specs.Lists.{zip}
use Rattle.ess_semantics.specs.Names.{Names, keys}
use Rattle.ess_semantics.specs.Tables.{Table}
use Rattle.ess_semantics.specs.DeclaredTables.{TableDecl, decl_name, DeclaredAs}
use Rattle.ess_semantics.specs.ModelTrees.{Header, Model, all_decls}
use Rattle.ess_semantics.specs.ModelMeaning.{model_domain}
use Rattle.ess_semantics.specs.Satisfaction.{tables_fit}
use Rattle.ess_semantics.specs.Assignments.{Assignment}
use Rattle.ess_semantics.specs.Parameters.{Param}
use Rattle.ess_semantics.specs.Plans.{givens_side, table_list, declared_under, name_tables, given_tables}
use Rattle.ess_semantics.proofs.Tests.{and-left}
use Rattle.ess_grammar.specs.Models.{empty_scope, with_given, with_find, scope_behind, is_model_ex, are_model_tables, is_model_goal, is_readable_model}
use Rattle.eprime_cells_laws.specs.CellsText.{cells_text}
use Rattle.eprime_cells_laws.specs.Laws.{are_printable_tables}
use Rattle.eprime_cells_laws.proofs.WholeText.{tables-read}
use Rattle.conjure_laws.proofs.NamedTables.{are-fit}
use Rattle.ess_translate_header_laws.specs.Headers.{IsOurs}
use Rattle.ess_translate_tables_laws.specs.HeaderTables.{DeclaresTables}
use Rattle.ess_translate_given_laws.specs.Ready.{Ready}
use Rattle.ess_translate_given_laws.specs.Printable.{are_in_64_bits}
use Rattle.ess_translate_given_laws.specs.Laws.{GivenTablesArePrinted}
use Rattle.ess_translate_given_laws.proofs.GivenTables.{given-tables-there}
use Rattle.ess_translate_given_laws.proofs.Printable.{tables-printable}

-- Given tables fit.
given-fit : (H : Header) (E : Model) (p : Assignment) (q : Names Table) → IsOurs H → Ready H.statements → Param H.statements p →
    DeclaresTables H E → given_tables H.statements H.reprs p ≡ Some q →
    DeclaredAs (model_domain (all_decls E) q) E.givens (declared_under givens_side H.statements H.reprs p) →
    tables_fit (all_decls E) q E.givens q ≡ true
given-fit H E p q h R P D e m =
    let g = given-tables-there H p h R P in
    let s : Some (name_tables (table_list givens_side H.statements H.reprs) g.tables) ≡ Some q = sym g.there ∙ e in
    let z : name_tables (table_list givens_side H.statements H.reprs) g.tables ≡ q = cc in
    let y : zip (keys (map decl_name E.givens)) g.tables ≡ q = ap (λ l. zip (keys l) g.tables) D.givens ∙ z in
    ap (tables_fit (all_decls E) q E.givens) (sym y)
    ∙ are-fit (all_decls E) q E.givens (declared_under givens_side H.statements H.reprs p) g.tables m g.declared

-- The given declarations of a model that some text has are those of a model.
given-decls : (E : Model) → is_readable_model E ≡ true → are_model_tables with_given empty_scope E.givens ≡ true
given-decls E h =
    let s = scope_behind with_given empty_scope E.givens in
    let t = scope_behind with_find s E.finds in
    let G = are_model_tables with_given empty_scope E.givens in
    let F = are_model_tables with_find s E.finds in
    let O = is_model_goal t E.goal in
    and-left G F (and-left (G && F) O (and-left (G && F && O) (list_all (is_model_ex t true []) E.rules) h))

printable : (E : Model) (known : List TableDecl) (q c : Names Table) → is_readable_model E ≡ true →
    tables_fit known q E.givens c ≡ true → are_in_64_bits c ≡ true → are_printable_tables c ≡ true
printable E known q c h f k = tables-printable known q empty_scope E.givens c (given-decls E h) f k

-- Given tables are printed.
pub given-tables-printed : GivenTablesArePrinted
given-tables-printed = record {
  fit = given-fit;
  printable = printable;
  read = λ E known q c h f k. tables-read known q E.givens c (cells_text E.givens c) f (printable E known q c h f k) refl;
}

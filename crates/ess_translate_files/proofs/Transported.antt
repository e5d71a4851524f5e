-- What is said at a borrowed model is said of the model itself.
use Rattle.std.proofs.Common.{◌≡◌, refl, sym, ap, ◌∙◌, subst, true, List, map}
use Rattle.ess_semantics.specs.Values.{Text}
use Rattle.ess_semantics.specs.Names.{Names}
use Rattle.ess_semantics.specs.Tables.{Table}
use Rattle.ess_semantics.specs.Assignments.{Assignment}
use Rattle.ess_semantics.specs.DeclaredTables.{TableDecl}
use Rattle.ess_semantics.specs.ModelTrees.{Header}
use Rattle.ess_grammar.specs.Models.{Scope, empty_scope, with_given}
use Rattle.ess_core.specs.declared.tables.Cells.{Cells}
use Rattle.ess_core.specs.declared.tables.NamedTable.{NamedTable}
use Rattle.ess_core.specs.TableViews.{pure_named_table, pure_cells}
use Rattle.eprime_cells_laws.specs.CellsText.{cells_text}
use Rattle.eprime_tree.specs.declared.models.PModel.{PModel}
use Rattle.eprime_tree.specs.Views.{pure_decls, pure_model}
use Rattle.ess_translate_tables_laws.specs.HeaderTables.{DeclaresTables}
use Rattle.ess_translate_members_laws.specs.DeclaresMembers.{DeclaresMembers}

-- The text of tables beside the givens of a model.
pub given_written : (m k : PModel) (q : Cells) (bytes : Text) → k ≡ m →
    ((add : Scope → TableDecl → Scope) (s : Scope) → bytes ≡ cells_text (pure_decls add s k.givens) (pure_cells q)) →
    bytes ≡ cells_text (pure_model m).givens (pure_cells q)
given_written m k q bytes e f =
    subst (λ n. bytes ≡ cells_text (pure_model n).givens (pure_cells q)) e (f with_given empty_scope)

-- The members of a header's tables that a model declares over tables.
pub members_here : (H : Header) (p : Assignment) (m k : PModel) (t : Cells) (l : List NamedTable) → k ≡ m → l ≡ t.list →
    DeclaresMembers H (pure_model k) p (map pure_named_table l) → DeclaresMembers H (pure_model m) p (pure_cells t)
members_here H p m k t l a b h =
    subst (λ u. DeclaresMembers H (pure_model m) p (map pure_named_table u)) b
    (subst (λ n. DeclaresMembers H (pure_model n) p (map pure_named_table l)) a h)

pub members_there : (H : Header) (p : Assignment) (m k : PModel) (t : Cells) (l : List NamedTable) → k ≡ m → l ≡ t.list →
    DeclaresMembers H (pure_model m) p (pure_cells t) → DeclaresMembers H (pure_model k) p (map pure_named_table l)
members_there H p m k t l a b h =
    subst (λ n. DeclaresMembers H (pure_model n) p (map pure_named_table l)) (sym a)
    (subst (λ u. DeclaresMembers H (pure_model m) p (map pure_named_table u)) (sym b) h)

-- The tables of a header that a model declares.
pub tables_here : (H : Header) (m k : PModel) → k ≡ m → DeclaresTables H (pure_model k) → DeclaresTables H (pure_model m)
tables_here H m k e h = subst (λ n. DeclaresTables H (pure_model n)) e h

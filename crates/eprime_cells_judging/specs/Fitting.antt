-- What is said of lettings as tables over declarations, whatever scopes the declarations stand in.
use Rattle.std.specs.Prelude.{◌≡◌, true, List, Option, Some, None, Ok, Err, option_map}
use Rattle.std.specs.declared.result.Result.{Result}
use Rattle.std.specs.List.{list_any}
use Rattle.ess_semantics.specs.Lists.{and_then}
use Rattle.ess_semantics.specs.Values.{Text}
use Rattle.ess_semantics.specs.Names.{Names, look}
use Rattle.ess_semantics.specs.Trees.{Ex}
use Rattle.ess_semantics.specs.DeclaredTables.{TableDecl}
use Rattle.ess_semantics.specs.LargeModels.{decl_is_large}
use Rattle.ess_grammar.specs.Models.{Scope}
use Rattle.ess_core.specs.declared.tables.Cells.{Cells}
use Rattle.ess_core.specs.declared.tables.Table.{Table}
use Rattle.ess_core.specs.TableViews.{pure_cells, pure_table}
use Rattle.eprime_tree.specs.declared.models.PDecl.{PDecl}
use Rattle.eprime_tree.specs.Views.{pure_decl, pure_decls}
use Rattle.eprime_eval.specs.DomainsOf.{given_decls}
use Rattle.eprime_cells_laws.specs.TableReading.{declared_table, tables, missing_letting, extra_letting, outside_domain, first_extra, tables_of, cells_answer}
use Rattle.eprime_cells_parts.specs.DeclaredNames.{missing_of}
use Rattle.eprime_cells_judging.specs.declared.tables.JudgeNo.{JudgeNo}
use Rattle.eprime_cells_judging.specs.declared.judging.FitNo.{FitNo}

-- A refusal of one table as one of all.
abbrev pub judged_no : JudgeNo → FitNo
judged_no JudgeNo.Big = FitNo.Big
judged_no JudgeNo.NoMemory = FitNo.NoMemory

-- The first of the declared names ds that isn't among the names ns of lettings, or else the first of these that is one too many.
abbrev pub names_no : List Text → List Text → Option FitNo
names_no ds ns = elim (missing_of ds ns) [ Some a ↦ Some (FitNo.Missing a) | None ↦ option_map FitNo.Extra (first_extra ds ns) ]

-- The table of a declaration.
abbrev pub IsTableOf : List PDecl → Cells → PDecl → Names Ex → Result (Option Table) JudgeNo → Type 0
IsTableOf ks q d cs (Ok o) = (s : Scope) → and_then (look cs d.name) (declared_table (given_decls ks) (pure_cells q) (pure_decl s d)) ≡ option_map pure_table o
IsTableOf ks q d cs (Err JudgeNo.Big) = (s : Scope) → decl_is_large (given_decls ks) (pure_cells q) (pure_decl s d) ≡ true
IsTableOf ks q d cs (Err JudgeNo.NoMemory) = Unit {0}

-- Some declaration has a number outside 64 bits on the way to a domain.
abbrev pub SomeLarge : List PDecl → Cells → List PDecl → Type 0
SomeLarge ks q ds = (add : Scope → TableDecl → Scope) (s : Scope) → list_any (decl_is_large (given_decls ks) (pure_cells q)) (pure_decls add s ds) ≡ true

-- The tables of declarations, up to the first value that stands for none.
abbrev pub AreTables : List PDecl → Cells → List PDecl → Names Ex → Result Cells FitNo → Type 0
AreTables ks q ds cs (Ok c) = (add : Scope → TableDecl → Scope) (s : Scope) → tables_of (given_decls ks) (pure_cells q) (pure_decls add s ds) cs ≡ tables (pure_cells c)
AreTables ks q ds cs (Err (FitNo.OutOfDomain a)) = (add : Scope → TableDecl → Scope) (s : Scope) → tables_of (given_decls ks) (pure_cells q) (pure_decls add s ds) cs ≡ outside_domain a
AreTables ks q ds cs (Err FitNo.Big) = SomeLarge ks q ds
AreTables ks q ds cs (Err FitNo.NoMemory) = Unit {0}
AreTables ks q ds cs (Err _) = ⊥

-- What lettings are for declarations: tables, or their first failure.
abbrev pub IsFit : List PDecl → Cells → List PDecl → Names Ex → Result Cells FitNo → Type 0
IsFit ks q ds cs (Ok c) = (add : Scope → TableDecl → Scope) (s : Scope) → cells_answer (given_decls ks) (pure_cells q) (pure_decls add s ds) cs ≡ tables (pure_cells c)
IsFit ks q ds cs (Err (FitNo.Missing a)) = (add : Scope → TableDecl → Scope) (s : Scope) → cells_answer (given_decls ks) (pure_cells q) (pure_decls add s ds) cs ≡ missing_letting a
IsFit ks q ds cs (Err (FitNo.Extra a)) = (add : Scope → TableDecl → Scope) (s : Scope) → cells_answer (given_decls ks) (pure_cells q) (pure_decls add s ds) cs ≡ extra_letting a
IsFit ks q ds cs (Err (FitNo.OutOfDomain a)) = (add : Scope → TableDecl → Scope) (s : Scope) → cells_answer (given_decls ks) (pure_cells q) (pure_decls add s ds) cs ≡ outside_domain a
IsFit ks q ds cs (Err FitNo.Big) = SomeLarge ks q ds
IsFit ks q ds cs (Err FitNo.NoMemory) = Unit {0}

-- What is said of the axes, the items and the table of a declaration under given tables.
use Rattle.std.specs.Prelude.{◌≡◌, ℤ, Bool, true, false, List, Option, Some, None, Ok, Err, map, option_map}
use Rattle.std.specs.declared.result.Result.{Result}
use Rattle.std.specs.List.{list_all, list_any}
use Rattle.ess_semantics.specs.Lists.{each_of, is_some_and}
use Rattle.ess_semantics.specs.Trees.{Ex}
use Rattle.ess_semantics.specs.Tables.{is_cell}
use Rattle.ess_semantics.specs.Satisfaction.{axis_of}
use Rattle.ess_semantics.specs.ModelMeaning.{model_domain}
use Rattle.ess_semantics.specs.LargeModels.{dom_is_large, decl_is_large}
use Rattle.ess_grammar.specs.Models.{Scope}
use Rattle.ess_core.specs.declared.tables.Cells.{Cells}
use Rattle.ess_core.specs.declared.tables.Table.{Table}
use Rattle.ess_core.specs.TableViews.{pure_cells, pure_table}
use Rattle.eprime_tree.specs.declared.expressions.PDom.{PDom}
use Rattle.eprime_tree.specs.declared.models.PDecl.{PDecl}
use Rattle.eprime_tree.specs.Views.{pure_dom, pure_decl}
use Rattle.eprime_eval.specs.DomainsOf.{given_decls}
use Rattle.eprime_cells_laws.specs.TableReading.{declared_table}
use Rattle.eprime_cells_judging.specs.declared.tables.JudgeNo.{JudgeNo}

-- The members of axes, where each has a meaning.
abbrev pub AreAxes : List PDecl → Cells → List PDom → Result (Option (List (List ℤ))) JudgeNo → Type 0
AreAxes ks q ds (Ok o) = (s : Scope) → each_of (map (pure_dom s) ds) (axis_of (given_decls ks) (pure_cells q)) ≡ o
AreAxes ks q ds (Err JudgeNo.Big) = (s : Scope) → list_any (dom_is_large (given_decls ks) (pure_cells q)) (map (pure_dom s) ds) ≡ true
AreAxes ks q ds (Err JudgeNo.NoMemory) = Unit {0}

-- Whether items are in a domain of cells, where it has a meaning.
abbrev pub AreInside : List PDecl → Cells → PDom → List ℤ → Result Bool JudgeNo → Type 0
AreInside ks q d is (Ok b) = (s : Scope) → is_some_and (model_domain (given_decls ks) (pure_cells q) (pure_dom s d)) (λ c. list_all (is_cell c) is) ≡ b
AreInside ks q d is (Err JudgeNo.Big) = (s : Scope) → dom_is_large (given_decls ks) (pure_cells q) (pure_dom s d) ≡ true
AreInside ks q d is (Err JudgeNo.NoMemory) = Unit {0}

-- The table over a declaration that an expression stands for, where it does.
abbrev pub IsTable : List PDecl → Cells → PDecl → Ex → Result (Option Table) JudgeNo → Type 0
IsTable ks q d e (Ok o) = (s : Scope) → declared_table (given_decls ks) (pure_cells q) (pure_decl s d) e ≡ option_map pure_table o
IsTable ks q d e (Err JudgeNo.Big) = (s : Scope) → decl_is_large (given_decls ks) (pure_cells q) (pure_decl s d) ≡ true
IsTable ks q d e (Err JudgeNo.NoMemory) = Unit {0}

-- A table, where its items are in the domain of cells.
abbrev pub IsInside : List PDecl → Cells → PDom → Table → Result (Option Table) JudgeNo → Type 0
IsInside ks q d t (Ok (Some u)) = (u ≡ t) × AreInside ks q d t.items (Ok true)
IsInside ks q d t (Ok None) = AreInside ks q d t.items (Ok false)
IsInside ks q d t (Err why) = AreInside ks q d t.items (Err why)

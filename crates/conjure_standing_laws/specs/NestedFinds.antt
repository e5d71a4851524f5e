-- Finds that are sets of any nesting, and models that declare their tables.
use Rattle.std.specs.Prelude.{◌≡◌, true, false, List, map, length, Some}
use Rattle.std.specs.List.{list_all, list_any}
use Rattle.ess_semantics.specs.Order.{same_int}
use Rattle.ess_semantics.specs.Names.{keys}
use Rattle.ess_semantics.specs.Values.{Text}
use Rattle.ess_semantics.specs.Trees.{Repr, Dom, Stm}
use Rattle.ess_semantics.specs.Kinds.{fits}
use Rattle.ess_semantics.specs.Contexts.{Each}
use Rattle.ess_semantics.specs.Constants.{dom_constants, constants_of}
use Rattle.ess_semantics.specs.DeclaredTables.{TableDecl, decl_name}
use Rattle.ess_semantics.specs.Representations.{width}
use Rattle.ess_semantics.specs.TableNames.{Named}
use Rattle.ess_semantics.specs.Plans.{Options, finds_side, value_plan, plans, table_list}
use Rattle.ess_semantics.specs.ModelTrees.{Model, all_decls}
use Rattle.ess_semantics.specs.ModelMeaning.{declaration_of}
use Rattle.ess_repr_declare_laws.specs.DeclaredTrees.{trees_below}
use Rattle.conjure_laws.specs.Members.{In}
use Rattle.conjure_model_laws.specs.IsBuiltFrom.{with_whole_names}
use Rattle.ess_nested_laws.specs.NestedDomains.{is_nested_dom}

-- The declared tables of a representation, by these names.
abbrev pub tables_by : List Text → Repr → Dom → List TableDecl
tables_by ns r d = with_whole_names ns (trees_below false r d)

-- The find is a set of any nesting, its representation fits, there is a name for each table, and its numbers are constants of the
-- specification.
pub record IsNestedFind (S : List Stm) (o : Options) (x : Text) (r : Repr) (d : Dom) (ns : List Named) : Type 0 where
  pub planned : In (value_plan finds_side x r d ns) (plans S o)
  pub nested : is_nested_dom d ≡ true
  pub fit : fits r d ≡ true
  pub named : length (keys ns) ≡ width r
  pub spelled : list_all (λ n. list_any (same_int n) (constants_of S)) (dom_constants d) ≡ true

-- The model declares the tables of the find, each under its own name; and as finds it declares the tables of the plans of finds.
pub record DeclaresNested (S : List Stm) (o : Options) (E : Model) (r : Repr) (d : Dom) (ns : List Named) : Type 0 where
  pub tables : Each (tables_by (keys ns) r d) (λ t. declaration_of (all_decls E) t.name ≡ Some t)
  pub finds : map decl_name E.finds ≡ table_list finds_side S o

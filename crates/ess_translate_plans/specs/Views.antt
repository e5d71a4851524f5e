-- What plans of the code stand for.
use Rattle.std.specs.Prelude.{◌≡◌, ℕ, List, map}
use Rattle.ess_semantics.specs.Values.{Text}
use Rattle.ess_semantics.specs.Order.{same_text}
use Rattle.ess_semantics.specs.TableNames.{Named}
use Rattle.ess_semantics.specs.Prepared.{prepared}
use Rattle.ess_semantics.specs.Plans as pure
use Rattle.ess_semantics.specs.Plans.{givens_side, finds_side, size_plan, value_plan}
use Rattle.ess_core.specs.TreeViews.{pure_repr, pure_dom}
use Rattle.ess_core.specs.StatementViews.{pure_spec}
use Rattle.ess_core.specs.declared.tables.CellDecl.{CellDecl}
use Rattle.ess_translate_header.specs.declared.headers.Header.{Header}
use Rattle.ess_translate_header.specs.Views.{pure_header}
use Rattle.ess_translate_header_laws.specs.Headers.{IsOurs}
use Rattle.ess_translate_plans.specs.declared.plans.Side.{Side}
use Rattle.ess_translate_plans.specs.declared.plans.TableName.{TableName}
use Rattle.ess_translate_plans.specs.declared.plans.ValuePlan.{ValuePlan}
use Rattle.ess_translate_plans.specs.declared.plans.Plan.{Plan}

-- The givens, or the finds.
abbrev pub pure_side : Side → pure.Side
pure_side Side.Givens = givens_side
pure_side Side.Finds = finds_side

-- A name with its number of axes.
abbrev pub pure_table_name : TableName → Named
pure_table_name t = (t.name, t.axes)

-- The plan of a given or find.
abbrev pub pure_value_plan : ValuePlan → pure.Plan
pure_value_plan v = value_plan (pure_side v.side) v.name (pure_repr v.tree) (pure_dom v.dom) (map pure_table_name v.tables)

-- A plan.
abbrev pub pure_plan : Plan → pure.Plan
pure_plan (Plan.Size t a) = size_plan t a
pure_plan (Plan.Value v) = pure_value_plan v

-- The name of a declared table.
abbrev pub decl_text : CellDecl → Text
decl_text d = d.name

-- What `read_header` says of a header: its specification is prepared, and it is one of this tool.
pub record IsReadHeader (h : Header) : Type 0 where
  pub prepared : pure_spec h.spec.prepared ≡ prepared (pure_spec h.spec.spec)
  pub ours : IsOurs (pure_header h)

-- What the answers on files hold, which the next steps need: a model's file has its header's plans, and what is given has the env and
-- the closed domains of the parameter.
use Rattle.std.specs.Prelude.{◌≡◌, true, List, map, Option, option_map}
use Rattle.ess_semantics.specs.Values.{Text}
use Rattle.ess_semantics.specs.Trees.{Stm}
use Rattle.ess_semantics.specs.Assignments.{Assignment, nothing_given, env_of}
use Rattle.ess_semantics.specs.Plans.{plans}
use Rattle.ess_semantics.specs.ModelTrees as pure
use Rattle.ess_grammar.specs.Models.{is_readable_model}
use Rattle.ess_core.specs.TableViews.{pure_env, pure_cells}
use Rattle.ess_eval_domains.specs.declared.closed.Closed.{Closed}
use Rattle.ess_eval_domains.specs.ClosedViews.{pure_closed}
use Rattle.ess_domains.specs.Assignments.{pure_assignment}
use Rattle.eprime_tree.specs.Views.{pure_model}
use Rattle.ess_translate_tables_laws.specs.HeaderTables.{DeclaresTables}
use Rattle.ess_translate_given_laws.specs.Ready.{Ready}
use Rattle.ess_translate_members_laws.specs.PlanDomains.{plan_closed}
use Rattle.ess_translate_header.specs.Views.{pure_header}
use Rattle.ess_translate_plans.specs.Views.{pure_plan, IsReadHeader}
use Rattle.ess_translate_files.specs.GivenFiles.{HasTables, IsGiven}
use Rattle.ess_translate_files.specs.declared.models.ModelFile.{ModelFile}
use Rattle.ess_translate_files.specs.declared.givens.Given.{Given}

-- The header of a model's file.
abbrev pub file_header : ModelFile → pure.Header
file_header m = pure_header m.header

-- Its model.
abbrev pub file_model : ModelFile → pure.Model
file_model m = pure_model m.model

-- The header is as it was read, and its statements are ready for parameters, the plans are its plans, and the model is one that some text
-- has and declares their tables.
pub record IsWhole (m : ModelFile) : Type 0 where
  pub header : IsReadHeader m.header
  pub ready : Ready (file_header m).statements
  pub plans : map pure_plan m.plans ≡ plans (file_header m).statements (file_header m).reprs
  pub tables : DeclaresTables (file_header m) (file_model m)
  pub readable : is_readable_model (file_model m) ≡ true

-- These are the domains of the plans under the parameter p.
abbrev pub AreClosed : ModelFile → List (Option Closed) → Assignment → Type 0
AreClosed m c p =
    map (option_map pure_closed) c ≡
    map (plan_closed (env_of (file_header m).statements p nothing_given)) (plans (file_header m).statements (file_header m).reprs)

-- The env and the closed domains of the plans are those of the parameter, and it has these tables.
pub record HoldsTables (m : ModelFile) (g : Given) : Type 0 where
  pub env : pure_env g.env ≡ env_of (file_header m).statements (pure_assignment g.param) nothing_given
  pub closed : AreClosed m g.closed (pure_assignment g.param)
  pub has : HasTables (file_header m) (file_model m) (pure_assignment g.param) (pure_cells g.tables)

-- Some text gives the parameter and the tables, and the env and the closed domains of the plans are those of the parameter.
pub record IsGivenFor (m : ModelFile) (g : Given) : Type 0 where
  pub text : Text
  pub file : List Stm
  pub given : IsGiven (file_header m) (file_model m) text file (pure_assignment g.param) (pure_cells g.tables)
  pub env : pure_env g.env ≡ env_of (file_header m).statements (pure_assignment g.param) nothing_given
  pub closed : AreClosed m g.closed (pure_assignment g.param)

-- What comes of the parts of a model, as the code answers them.
use Rattle.std.specs.Prelude.{◌≡◌, List, ◌++◌, map}
use Rattle.ess_semantics.specs.Values.{Text}
use Rattle.ess_semantics.specs.Trees.{Stm}
use Rattle.ess_semantics.specs.DeclaredTables.{TableDecl}
use Rattle.ess_semantics.specs.Plans.{givens_side, Plan}
use Rattle.ess_semantics.specs.ModelTrees.{goal_of}
use Rattle.ess_grammar.specs.Models.{Scope, empty_scope, with_given, with_find, scope_behind}
use Rattle.eprime_tree.specs.Views.{pure_ex, pure_goal, pure_decls, pure_model}
use Rattle.eprime_tree.specs.declared.models.PDecl.{PDecl}
use Rattle.eprime_tree.specs.declared.models.PModel.{PModel}
use Rattle.eprime_tree.specs.declared.expressions.PEx.{PEx}
use Rattle.eprime_read_convert.specs.Lines.{scope_of}
use Rattle.eprime_read_convert.specs.declared.lines.Line.{Line}
use Rattle.conjure_model_laws.specs.Shown.{Shows}
use Rattle.ess_model_written.specs.Answered.{AllCome, AllUsed}
use Rattle.ess_model_written.specs.RulesWritten.{TreeComes, GoalComes, unless_true}
use Rattle.ess_models.specs.declared.parts.Part.{Part}
use Rattle.ess_models.specs.declared.declared.Declarations.{Declarations}
use Rattle.ess_models.specs.declared.declared.DeclaredParts.{DeclaredParts}
use Rattle.ess_models.specs.declared.rules.Rules.{Rules}
use Rattle.ess_models.specs.declared.rules.RuledParts.{RuledParts}
use Rattle.ess_models.specs.declared.rules.TableRules.{TableRules}
use Rattle.ess_models.specs.declared.wholes.Modelled.{Modelled}
use Rattle.ess_model_written.specs.Coming.{DeclsAreWritten}
use Rattle.ess_models.specs.Parts.{tables_on, scope_of_tables, AreDeclared, GivensLack, FindsLack}
use Rattle.ess_models.specs.Parts.{all_structures, all_channels, AreRules, RuleLacks, PartLacks}

-- What givens of models declare.
abbrev pub given_tables : List PDecl → List TableDecl
given_tables gs = pure_decls with_given empty_scope gs

-- What finds declare behind them.
abbrev pub found_tables : List PDecl → List PDecl → List TableDecl
found_tables gs fs = pure_decls with_find (scope_behind with_given empty_scope (given_tables gs)) fs

module _ (taken : List Text) (sh : Shows) (Ps : List Plan) where
  -- The declarations are written, and the lines know them.
  pub record AreKnown (d : Declarations) : Type 0 where
    pub written : AreDeclared taken sh Ps (given_tables d.givens) (found_tables d.givens d.finds)
    pub known : scope_of d.lines ≡ scope_of_tables (given_tables d.givens) (found_tables d.givens d.finds)

  -- The declarations of the givens are written, and the lines know them.
  pub record GivensKnown (gs : List PDecl) (ls : List Line) : Type 0 where
    pub written : DeclsAreWritten with_given taken sh.next empty_scope (tables_on taken sh Ps givens_side) (given_tables gs)
    pub known : scope_of ls ≡ scope_behind with_given empty_scope (given_tables gs)

  -- The declarations, or the part that can't be written.
  abbrev pub DeclarationsCome : DeclaredParts → Type 0
  DeclarationsCome (DeclaredParts.All d) = AreKnown d
  DeclarationsCome (DeclaredParts.Lacks Part.Givens) = GivensLack taken sh Ps
  DeclarationsCome (DeclaredParts.Lacks Part.Finds) = FindsLack taken sh Ps
  DeclarationsCome (DeclaredParts.Lacks p) = ⊥

  module _ (xs : List Text) (cs : List Stm) where
    module _ (s : Scope) where
      -- The rules on the finds' tables are written: structures and channels.
      pub record AreOnTables (rs : List PEx) : Type 0 where
        pub structures : List PEx
        pub channels : List PEx
        pub all : rs ≡ structures ++ channels
        pub structures_written : AllUsed (TreeComes s taken sh.next) unless_true (all_structures taken sh Ps xs cs)
            (map (pure_ex s) structures)
        pub channels_written : AllCome (TreeComes s taken sh.next) (all_channels taken sh Ps xs cs) (map (pure_ex s) channels)

      -- They, or the part of them that can't be written.
      abbrev pub TableRulesCome : TableRules → Type 0
      TableRulesCome (TableRules.All rs) = AreOnTables rs
      TableRulesCome (TableRules.Lacks p) = RuleLacks taken sh Ps xs cs s p

      -- All but the constraints are written.
      pub record AreBeforeConstraints (r : Rules) : Type 0 where
        pub tables : List PEx
        pub goals : List PEx
        pub all : r.rules ≡ tables ++ goals
        pub on_tables : AreOnTables tables
        pub goal_written : GoalComes s taken sh (goal_of cs) (pure_goal s r.goal) (map (pure_ex s) goals)

      -- The objective and the rules, or the part that can't be written.
      abbrev pub RulesCome : RuledParts → Type 0
      RulesCome (RuledParts.All r) = AreRules taken sh Ps xs cs s (pure_goal s r.goal) (map (pure_ex s) r.rules)
      RulesCome (RuledParts.Lacks p) = RuleLacks taken sh Ps xs cs s p

    -- The parts of a model are written.
    pub record AreParts (lines : List Text) (m : PModel) : Type 0 where
      pub head : m.head ≡ lines
      pub declared : AreDeclared taken sh Ps (pure_model m).givens (pure_model m).finds
      pub rules : AreRules taken sh Ps xs cs (scope_of_tables (pure_model m).givens (pure_model m).finds) (pure_model m).goal
          (pure_model m).rules

    -- The model, or the part that can't be written.
    abbrev pub ModelComes : List Text → Modelled → Type 0
    ModelComes head (Modelled.Model m) = AreParts head m
    ModelComes head (Modelled.Lacks p) = PartLacks taken sh Ps xs cs p
    ModelComes head Modelled.Misfit = ⊥

-- The rules of a model, part by part.
use Rattle.std.proofs.Common.{◌≡◌, refl, sym, ap, ◌∙◌, subst, List, ◌++◌, map}
use Rattle.std.proofs.lemmas.List.{map-append}
use Rattle.ess_semantics.specs.Values.{Text}
use Rattle.ess_semantics.specs.Trees.{Ex, Stm}
use Rattle.ess_semantics.specs.Plans.{Plan}
use Rattle.ess_semantics.specs.ModelTrees.{goal_of}
use Rattle.ess_semantics.specs.Models.{constraints_of}
use Rattle.ess_grammar.specs.Models.{Scope}
use Rattle.eprime_tree.specs.declared.expressions.PEx.{PEx}
use Rattle.eprime_tree.specs.declared.models.PGoal.{PGoal}
use Rattle.eprime_tree.specs.Views.{pure_ex, pure_goal}
use Rattle.conjure_model_laws.specs.Shown.{Shows}
use Rattle.ess_model_written.specs.Answered.{AllCome, AllUsed}
use Rattle.ess_model_written.specs.RulesWritten.{TreeComes, ConstraintComes, GoalComes, unless_true}
use Rattle.ess_models.specs.declared.rules.Rules.{Rules}
use Rattle.ess_models.specs.Parts.{all_structures, all_channels, AreRules}
use Rattle.ess_models.specs.Coming.{AreOnTables, AreBeforeConstraints}

module _ (taken : List Text) (sh : Shows) (Ps : List Plan) (xs : List Text) (cs : List Stm) (s : Scope) where
  -- Structures with channels behind them.
  pub on_tables : (all structures channels : List PEx) → all ≡ structures ++ channels
      → AllUsed (TreeComes s taken sh.next) unless_true (all_structures taken sh Ps xs cs) (map (pure_ex s) structures)
      → AllCome (TreeComes s taken sh.next) (all_channels taken sh Ps xs cs) (map (pure_ex s) channels)
      → AreOnTables taken sh Ps xs cs s all
  on_tables all structures channels e h k = record {
    structures = structures;
    channels = channels;
    all = e;
    structures_written = h;
    channels_written = k;
  }

  -- The rule that the objective has a value behind them.
  pub before_constraints : (r : Rules) (goal : PGoal) (tables goals : List PEx) → r ≡ record { goal = goal; rules = tables ++ goals }
      → AreOnTables taken sh Ps xs cs s tables → GoalComes s taken sh (goal_of cs) (pure_goal s goal) (map (pure_ex s) goals)
      → AreBeforeConstraints taken sh Ps xs cs s r
  before_constraints r goal tables goals e h k =
      subst (AreBeforeConstraints taken sh Ps xs cs s) (sym e)
      (record { tables = tables; goals = goals; all = refl; on_tables = h; goal_written = k })

  -- The constraints behind all.
  pub all_rules : (r all : Rules) (last : List PEx) → AreBeforeConstraints taken sh Ps xs cs s r
      → all ≡ record { goal = r.goal; rules = r.rules ++ last }
      → AllCome (ConstraintComes s taken sh) (constraints_of cs) (map (pure_ex s) last)
      → AreRules taken sh Ps xs cs s (pure_goal s all.goal) (map (pure_ex s) all.rules)
  all_rules r all last b e k =
      let t = b.on_tables in
      let f : List PEx → List Ex = map (pure_ex s) in
      record {
        structures = f t.structures;
        channels = f t.channels;
        goals = f b.goals;
        constraints = f last;
        all = ap (λ q. f q.rules) e ∙ ap (λ l. f (l ++ last)) (b.all ∙ ap (λ l. l ++ b.goals) t.all)
            ∙ map-append (pure_ex s) (t.structures ++ t.channels ++ b.goals) last
            ∙ ap (λ l. l ++ f last) (map-append (pure_ex s) (t.structures ++ t.channels) b.goals)
            ∙ ap (λ l. l ++ f b.goals ++ f last) (map-append (pure_ex s) t.structures t.channels);
        structures_written = t.structures_written;
        channels_written = t.channels_written;
        goal_written = subst (λ q. GoalComes s taken sh (goal_of cs) (pure_goal s q.goal) (f b.goals)) (sym e) b.goal_written;
        constraints_written = k;
      }

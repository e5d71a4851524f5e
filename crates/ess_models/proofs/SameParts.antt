-- What comes of the parts of a model depends on what is there for names alone.
use Rattle.std.proofs.Common.{◌≡◌, ap, subst, List, [], ◌∷◌, Some, None}
use Rattle.ess_semantics.specs.Lists.{append_all}
use Rattle.ess_semantics.specs.Values.{Text}
use Rattle.ess_semantics.specs.Trees.{Ex, Stm}
use Rattle.ess_semantics.specs.DeclaredTables.{TableDecl}
use Rattle.ess_semantics.specs.Plans.{Side, givens_side, finds_side, Plan}
use Rattle.ess_semantics.specs.ModelTrees.{Goal, no_goal, least, greatest, goal_of}
use Rattle.ess_semantics.specs.Models.{constraints_of}
use Rattle.ess_grammar.specs.Models.{Scope, empty_scope, with_given, with_find, scope_behind}
use Rattle.conjure_model_laws.specs.Shown.{Shows}
use Rattle.conjure_model_laws.specs.IsBuiltFrom.{declared_of}
use Rattle.ess_model_shown.specs.Tables.{SameShows}
use Rattle.ess_model_written.specs.ess_model_trees.Written.{ComesFrom}
use Rattle.ess_model_declared.proofs.SameDeclared.{same_declared}
use Rattle.ess_model_written.specs.Coming.{DeclsAreWritten, OneDeclFails}
use Rattle.ess_model_written.specs.Answered.{AllCome, AllUsed, OneLacks}
use Rattle.ess_model_written.specs.RulesWritten.{TreeComes, ConstraintComes, ConditionComes, ObjectiveComes, BothCome, GoalComes, NoneComes, no_condition, no_objective, GoalLacks, unless_true}
use Rattle.ess_models.specs.declared.parts.Part.{Part}
use Rattle.ess_models.specs.Parts.{plans_on, tables_on, AreDeclared, all_structures, all_channels, AreRules, RuleLacks, RulesLack, PartLacks}
use Rattle.ess_models.proofs.SameTrees.{map-same, structures-same, all-channels-same, next-same, constraint-same, condition-same, objective-same}

module _ (taken : List Text) (Ps : List Plan) (s t : Shows) (h : SameShows s t) where
  tables-same : (f : Side) → tables_on taken s Ps f ≡ tables_on taken t Ps f
  tables-same f = ap append_all (map-same (declared_of s) (declared_of t) (λ P. same_declared s t P h) (plans_on taken s Ps f))

  decls-same : (add : Scope → TableDecl → Scope) (c : Scope) (f : Side) (es : List TableDecl)
      → DeclsAreWritten add taken s.next c (tables_on taken s Ps f) es → DeclsAreWritten add taken t.next c (tables_on taken t Ps f) es
  decls-same add c f es w =
      subst (λ k. DeclsAreWritten add taken k c (tables_on taken t Ps f) es) h.next
      (subst (λ ts. DeclsAreWritten add taken s.next c ts es) (tables-same f) w)

  fails-same : (add : Scope → TableDecl → Scope) (c : Scope) (f : Side)
      → OneDeclFails add taken s.next c (tables_on taken s Ps f) → OneDeclFails add taken t.next c (tables_on taken t Ps f)
  fails-same add c f w =
      subst (λ k. OneDeclFails add taken k c (tables_on taken t Ps f)) h.next
      (subst (λ ts. OneDeclFails add taken s.next c ts) (tables-same f) w)

  -- Declarations.
  pub are-declared-same : (gs fs : List TableDecl) → AreDeclared taken s Ps gs fs → AreDeclared taken t Ps gs fs
  are-declared-same gs fs d = record {
    givens = decls-same with_given empty_scope givens_side gs d.givens;
    finds = decls-same with_find (scope_behind with_given empty_scope gs) finds_side fs d.finds;
  }

  module _ (xs : List Text) (cs : List Stm) (c : Scope) where
    constraints-alike : ConstraintComes c taken s ≡ ConstraintComes c taken t
    constraints-alike = λ i e o. ComesFrom c taken (next-same s t h e i) (constraint-same s t h e i) o

    conditions-alike : ConditionComes c taken s ≡ ConditionComes c taken t
    conditions-alike = λ i e o. ComesFrom c taken (next-same s t h e i) (condition-same s t h e i) o

    objectives-alike : ObjectiveComes c taken s ≡ ObjectiveComes c taken t
    objectives-alike = λ i e o. ComesFrom c taken (next-same s t h e i) (objective-same s t h e i) o

    both-same : (e f r : Ex) → BothCome c taken s e f r → BothCome c taken t e f r
    both-same e f r b = record {
      condition = subst (λ C. C e (Some r)) conditions-alike b.condition;
      objective = subst (λ C. C e (Some f)) objectives-alike b.objective;
    }

    none-same : (e : Ex) → NoneComes c taken s e → NoneComes c taken t e
    none-same e (no_condition w) = no_condition (subst (λ C. C e None) conditions-alike w)
    none-same e (no_objective w) = no_objective (subst (λ C. C e None) objectives-alike w)

    goal-same : (g f : Goal) (rs : List Ex) → GoalComes c taken s g f rs → GoalComes c taken t g f rs
    goal-same no_goal no_goal rs w = w
    goal-same no_goal (least f) rs w = absurd w
    goal-same no_goal (greatest f) rs w = absurd w
    goal-same (least e) no_goal rs w = absurd w
    goal-same (least e) (greatest f) rs w = absurd w
    goal-same (greatest e) no_goal rs w = absurd w
    goal-same (greatest e) (least f) rs w = absurd w
    goal-same (least e) (least f) [] w = absurd w
    goal-same (least e) (least f) (r ∷ []) w = both-same e f r w
    goal-same (least e) (least f) (r ∷ q ∷ rs) w = absurd w
    goal-same (greatest e) (greatest f) [] w = absurd w
    goal-same (greatest e) (greatest f) (r ∷ []) w = both-same e f r w
    goal-same (greatest e) (greatest f) (r ∷ q ∷ rs) w = absurd w

    goal-lacks-same : (g : Goal) → GoalLacks c taken s g → GoalLacks c taken t g
    goal-lacks-same no_goal w = absurd w
    goal-lacks-same (least e) w = none-same e w
    goal-lacks-same (greatest e) w = none-same e w

    structures-alike : all_structures taken s Ps xs cs ≡ all_structures taken t Ps xs cs
    structures-alike = structures-same s t h (plans_on taken s Ps finds_side)

    channels-alike : all_channels taken s Ps xs cs ≡ all_channels taken t Ps xs cs
    channels-alike = all-channels-same s t h Ps xs

    used-same : (es : List Ex) → AllUsed (TreeComes c taken s.next) unless_true (all_structures taken s Ps xs cs) es
        → AllUsed (TreeComes c taken t.next) unless_true (all_structures taken t Ps xs cs) es
    used-same es w =
        subst (λ k. AllUsed (TreeComes c taken k) unless_true (all_structures taken t Ps xs cs) es) h.next
        (subst (λ ts. AllUsed (TreeComes c taken s.next) unless_true ts es) structures-alike w)

    come-same : (es : List Ex) → AllCome (TreeComes c taken s.next) (all_channels taken s Ps xs cs) es
        → AllCome (TreeComes c taken t.next) (all_channels taken t Ps xs cs) es
    come-same es w =
        subst (λ k. AllCome (TreeComes c taken k) (all_channels taken t Ps xs cs) es) h.next
        (subst (λ ts. AllCome (TreeComes c taken s.next) ts es) channels-alike w)

    lacks-same : (ts us : List Ex) → ts ≡ us → OneLacks (TreeComes c taken s.next) ts → OneLacks (TreeComes c taken t.next) us
    lacks-same ts us e w =
        subst (λ k. OneLacks (TreeComes c taken k) us) h.next (subst (λ l. OneLacks (TreeComes c taken s.next) l) e w)

    -- Rules.
    pub are-rules-same : (g : Goal) (rs : List Ex) → AreRules taken s Ps xs cs c g rs → AreRules taken t Ps xs cs c g rs
    are-rules-same g rs r = record {
      structures = r.structures;
      channels = r.channels;
      goals = r.goals;
      constraints = r.constraints;
      all = r.all;
      structures_written = used-same r.structures r.structures_written;
      channels_written = come-same r.channels r.channels_written;
      goal_written = goal-same (goal_of cs) g r.goals r.goal_written;
      constraints_written = subst (λ C. AllCome C (constraints_of cs) r.constraints) constraints-alike r.constraints_written;
    }

    rule-lacks-same : (p : Part) → RuleLacks taken s Ps xs cs c p → RuleLacks taken t Ps xs cs c p
    rule-lacks-same Part.Givens w = absurd w
    rule-lacks-same Part.Finds w = absurd w
    rule-lacks-same Part.Structures w =
        lacks-same (all_structures taken s Ps xs cs) (all_structures taken t Ps xs cs) structures-alike w
    rule-lacks-same Part.Channels w = lacks-same (all_channels taken s Ps xs cs) (all_channels taken t Ps xs cs) channels-alike w
    rule-lacks-same Part.Objective w = goal-lacks-same (goal_of cs) w
    rule-lacks-same Part.Constraints w = subst (λ C. OneLacks C (constraints_of cs)) constraints-alike w

  module _ (xs : List Text) (cs : List Stm) where
    rules-lack-same : (p : Part) → RulesLack taken s Ps xs cs p → RulesLack taken t Ps xs cs p
    rules-lack-same p w = record {
      givens = w.givens;
      finds = w.finds;
      declared = are-declared-same w.givens w.finds w.declared;
      lacks = rule-lacks-same xs cs (scope_behind with_find (scope_behind with_given empty_scope w.givens) w.finds) p w.lacks;
    }

    -- What can't be written.
    pub lacking-same : (p : Part) → PartLacks taken s Ps xs cs p → PartLacks taken t Ps xs cs p
    lacking-same Part.Givens w = fails-same with_given empty_scope givens_side w
    lacking-same Part.Finds w = record {
      givens = w.givens;
      declared = decls-same with_given empty_scope givens_side w.givens w.declared;
      lacks = fails-same with_find (scope_behind with_given empty_scope w.givens) finds_side w.lacks;
    }
    lacking-same Part.Structures w = rules-lack-same Part.Structures w
    lacking-same Part.Channels w = rules-lack-same Part.Channels w
    lacking-same Part.Objective w = rules-lack-same Part.Objective w
    lacking-same Part.Constraints w = rules-lack-same Part.Constraints w

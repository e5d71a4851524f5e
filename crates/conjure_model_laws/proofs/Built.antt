-- What follows of a model that is built from a specification by rules that keep.
use Rattle.std.proofs.Common.{◌≡◌, refl, sym, ◌∙◌, true, false, Bool, List, [], ◌∷◌, map}
use Rattle.ess_semantics.specs.Values.{Text}
use Rattle.ess_semantics.specs.Names.{Names}
use Rattle.ess_semantics.specs.Trees.{Ex, Exs, truth_ex, no_exs, more_exs, Dom, bool_dom, int_dom, Stm}
use Rattle.ess_semantics.specs.Types.{Ty}
use Rattle.ess_semantics.specs.Kept.{Kept}
use Rattle.ess_semantics.specs.Typed.{Typed}
use Rattle.ess_semantics.specs.DeclaredTables.{TableDecl}
use Rattle.ess_semantics.specs.Plans.{Options, givens_side, finds_side, plans_for}
use Rattle.ess_semantics.specs.Prepared.{prepared}
use Rattle.ess_semantics.specs.ModelTrees.{Header, Model, Goal, no_goal, least, greatest, goal_of, same_direction}
use Rattle.ess_semantics.specs.Models.{constraints_of}
use Rattle.ess_rules_laws.specs.Rewriting.{Rewritten}
use Rattle.ess_rules_laws.proofs.KeptUnder.{rewritten-kept}
use Rattle.ess_guard_laws.specs.Guard.{guarded}
use Rattle.ess_guard_laws.proofs.StructuresMet.{same, met}
use Rattle.conjure_laws.specs.SideBySide.{Along}
use Rattle.conjure_model_laws.specs.ToldApart.{reserved}
use Rattle.conjure_model_laws.specs.Shown.{Shows, shows_of}
use Rattle.conjure_model_laws.specs.IsBuiltFrom.{all_declared_of, BoundsAreWrittenFor, DomIsWrittenFor, DeclIsWrittenFor, tree_of, constraint_tree, condition_tree, structure_tree, all_channel_trees, taken_names, IsWrittenFor, AreWrittenFor, GoalIsWrittenFor, IsBuiltFrom}
use Rattle.conjure_model_laws.specs.RulesComeFrom.{IsPrintedFor, ArePrintedFor, BoundsArePrintedFor, DomIsPrintedFor, DeclIsPrintedFor, DeclarationsComeFrom, GoalIsPrintedFor, RulesComeFrom}

-- Any number of rules that keep.
pub rules-keep : (a b : Ex) → Rewritten Typed Kept [] a b → Kept [] a b
rules-keep = rewritten-kept Typed Kept (λ g a b k. k) []

-- What keeps a tree that keeps another one keeps that one.
pub kept-on : (g : Names Ty) (a b c : Ex) → Kept g a b → Kept g b c → Kept g a c
kept-on g a b c f h env p m = let r = f env p m in let q = h env p r.1 in (r.0 ∙ q.0, q.1)

-- A tree whose undefined terms are done away with keeps the tree.
pub guarded-kept : (natural : Bool) (x y : Text) (e : Ex) → Kept [] e (guarded natural x y [] e)
guarded-kept natural x y e env p m = (sym (same natural x y e [] env), met natural x y e [] env m)

-- What is written for a tree is printed for it.
pub written-printed : (taken : List Text) (old r : Ex) → IsWrittenFor Kept taken old r → IsPrintedFor taken old r
written-printed taken old r w = (w.0, rules-keep old w.0 w.1, w.2, w.4)

-- What is written for a tree with its undefined terms done away with is printed for the tree.
pub guarded-printed : (natural : Bool) (x y : Text) (taken : List Text) (e r : Ex) →
    IsWrittenFor Kept taken (guarded natural x y [] e) r → IsPrintedFor taken e r
guarded-printed natural x y taken e r w = (
  w.0,
  kept-on [] e (guarded natural x y [] e) w.0 (guarded-kept natural x y e) (rules-keep (guarded natural x y [] e) w.0 w.1),
  w.2,
  w.4,
)

-- One rule at most.
are-printed : (taken : List Text) (old : Ex) (rs : List Ex) → AreWrittenFor Kept taken old rs → ArePrintedFor taken old rs
are-printed taken old [] w = rules-keep old (truth_ex true) w
are-printed taken old (r ∷ []) w = written-printed taken old r w
are-printed taken old (r ∷ s ∷ rs) w = absurd w

-- What holds side by side of what f makes of items.
along-map : {A B C : Type 0} (f : A → B) (xs : List A) (ys : List C) (R : B → C → Type 0) (Q : A → C → Type 0) →
    ((x : A) (y : C) → R (f x) y → Q x y) → Along (map f xs) ys R → Along xs ys Q
along-map f [] [] R Q h a = tt
along-map f [] (y ∷ ys) R Q h a = absurd a
along-map f (x ∷ xs) [] R Q h a = absurd a
along-map f (x ∷ xs) (y ∷ ys) R Q h a = (h x y a.0, along-map f xs ys R Q h a.1)

-- What holds side by side.
along-each : {A C : Type 0} (xs : List A) (ys : List C) (R Q : A → C → Type 0) → ((x : A) (y : C) → R x y → Q x y) → Along xs ys R →
    Along xs ys Q
along-each [] [] R Q h a = tt
along-each [] (y ∷ ys) R Q h a = absurd a
along-each (x ∷ xs) [] R Q h a = absurd a
along-each (x ∷ xs) (y ∷ ys) R Q h a = (h x y a.0, along-each xs ys R Q h a.1)

goal-printed : (taken : List Text) (sh : Shows) (g h : Goal) (rs : List Ex) → GoalIsWrittenFor Kept taken sh g h rs →
    GoalIsPrintedFor taken sh g h rs
goal-printed taken sh no_goal no_goal rs w = w
goal-printed taken sh no_goal (least f) rs w = absurd w
goal-printed taken sh no_goal (greatest f) rs w = absurd w
goal-printed taken sh (least e) no_goal rs w = absurd w
goal-printed taken sh (least e) (greatest f) rs w = absurd w
goal-printed taken sh (greatest e) no_goal rs w = absurd w
goal-printed taken sh (greatest e) (least f) rs w = absurd w
goal-printed taken sh (least e) (least f) [] w = absurd w
goal-printed taken sh (least e) (least f) (r ∷ []) w =
    (written-printed taken (condition_tree sh e) r w.0, guarded-printed false (reserved 0) (reserved 1) taken (tree_of sh e) f w.1)
goal-printed taken sh (least e) (least f) (r ∷ s ∷ rs) w = absurd w
goal-printed taken sh (greatest e) (greatest f) [] w = absurd w
goal-printed taken sh (greatest e) (greatest f) (r ∷ []) w =
    (written-printed taken (condition_tree sh e) r w.0, guarded-printed false (reserved 0) (reserved 1) taken (tree_of sh e) f w.1)
goal-printed taken sh (greatest e) (greatest f) (r ∷ s ∷ rs) w = absurd w

-- The rules of a model that is built by rules that keep.
pub rules-come : (S : List Stm) (o : Options) (H : Header) (E : Model) → IsBuiltFrom Kept S o H E → RulesComeFrom S o E
rules-come S o H E b = record {
  structures = b.structures;
  channels = b.channels;
  goals = b.goals;
  constraints = b.constraints;
  all = b.all_rules;
  structures_come = along-map (structure_tree (shows_of S o)) (plans_for finds_side S o) b.structures (AreWrittenFor Kept (taken_names S o))
      (λ P rs. ArePrintedFor (taken_names S o) (structure_tree (shows_of S o) P) rs)
      (λ P rs w. are-printed (taken_names S o) (structure_tree (shows_of S o) P) rs w) b.structures_written;
  channels_come = along-each (all_channel_trees S o) b.channels (IsWrittenFor Kept (taken_names S o)) (IsPrintedFor (taken_names S o))
      (written-printed (taken_names S o)) b.channels_written;
  goal_comes = goal-printed (taken_names S o) (shows_of S o) (goal_of (prepared S)) E.goal b.goals b.goal;
  constraints_come = along-map (constraint_tree (shows_of S o)) (constraints_of (prepared S)) b.constraints
      (IsWrittenFor Kept (taken_names S o))
      (λ e r. IsPrintedFor (taken_names S o) (tree_of (shows_of S o) e) r)
      (λ e r w. guarded-printed true (reserved 0) (reserved 1) (taken_names S o) (tree_of (shows_of S o) e) r w) b.constraints_written;
}

-- An objective that is written for another one has its direction.
pub written-direction : (taken : List Text) (sh : Shows) (g h : Goal) (rs : List Ex) → GoalIsWrittenFor Kept taken sh g h rs →
    same_direction h g ≡ true
written-direction taken sh no_goal no_goal rs w = refl
written-direction taken sh no_goal (least f) rs w = absurd w
written-direction taken sh no_goal (greatest f) rs w = absurd w
written-direction taken sh (least e) no_goal rs w = absurd w
written-direction taken sh (least e) (least f) rs w = refl
written-direction taken sh (least e) (greatest f) rs w = absurd w
written-direction taken sh (greatest e) no_goal rs w = absurd w
written-direction taken sh (greatest e) (least f) rs w = absurd w
written-direction taken sh (greatest e) (greatest f) rs w = refl

-- ---- declarations

bounds-printed : (taken : List Text) (es fs : Exs) → BoundsAreWrittenFor Kept taken es fs → BoundsArePrintedFor taken es fs
bounds-printed taken no_exs no_exs w = tt
bounds-printed taken no_exs (more_exs f fs) w = absurd w
bounds-printed taken (more_exs e es) no_exs w = absurd w
bounds-printed taken (more_exs e es) (more_exs f fs) w = (written-printed taken e f w.0, bounds-printed taken es fs w.1)

dom-printed : (taken : List Text) (d e : Dom) → DomIsWrittenFor Kept taken d e → DomIsPrintedFor taken d e
dom-printed taken bool_dom bool_dom w = tt
dom-printed taken (int_dom rs es) (int_dom ss fs) w = (w.0, bounds-printed taken es fs w.1)
dom-printed taken d e w = absurd w

decl-printed : (taken : List Text) (t u : TableDecl) → DeclIsWrittenFor Kept taken t u → DeclIsPrintedFor taken t u
decl-printed taken t u w = (
  w.0,
  along-each t.axes u.axes (DomIsWrittenFor Kept taken) (DomIsPrintedFor taken) (dom-printed taken) w.1,
  dom-printed taken t.cell u.cell w.2,
)

-- The declarations of a model that is built by rules that keep.
pub declarations-come : (S : List Stm) (o : Options) (H : Header) (E : Model) → IsBuiltFrom Kept S o H E → DeclarationsComeFrom S o E
declarations-come S o H E b = record {
  givens_come = along-each (all_declared_of givens_side S o) E.givens (DeclIsWrittenFor Kept (taken_names S o))
      (DeclIsPrintedFor (taken_names S o)) (decl-printed (taken_names S o)) b.givens;
  finds_come = along-each (all_declared_of finds_side S o) E.finds (DeclIsWrittenFor Kept (taken_names S o))
      (DeclIsPrintedFor (taken_names S o)) (decl-printed (taken_names S o)) b.finds;
}

-- What rules of views that are kept by tuples of atoms count on follows from what refining has at hand: types and values of the tree, and
-- views of judged domains.
use Rattle.std.specs.Prelude.{◌≡◌, Bool, true, false, List, Some, IsTrue}
use Rattle.ess_semantics.specs.declared.words.ReprKind.{ReprKind}
use Rattle.ess_semantics.specs.Values.{Text}
use Rattle.ess_semantics.specs.Names.{Names}
use Rattle.ess_semantics.specs.Trees.{repr, Ex, node_ex, seen_ex, ex1, ex2, fun1, no_exs, more_exs}
use Rattle.ess_semantics.specs.Types.{Ty}
use Rattle.ess_semantics.specs.Typing.{type_of}
use Rattle.ess_semantics.specs.Typed.{Typed}
use Rattle.ess_semantics.specs.Meaning.{Env}
use Rattle.ess_semantics.specs.Meets.{Meets}
use Rattle.ess_semantics.specs.Kept.{Keeps}
use Rattle.ess_rules_laws.specs.Rules.{Unused, SoundOperands}
use Rattle.ess_rules_laws.specs.Listings.{Alternative}
use Rattle.ess_rules_laws.specs.FunctionViews.{NamesUnused}
use Rattle.ess_refine_laws.specs.AllRules.{Supply}
use Rattle.ess_values_along_laws.specs.Valued.{Valued}
use Rattle.ess_kind_rules_laws.specs.ViewListings.{view_listing}
use Rattle.ess_kind_rules_laws.specs.KindRules.{KindRule, member_at_a_cell, argument_with_a_flag, truth_behind_a_flag, size_of_a_function, kind_rewrite}
use Rattle.ess_kinds_kept_laws.specs.ViewAsks.{ViewAsks}
use Rattle.ess_kinds_kept_laws.specs.KindAsks.{KindAsks}
use Rattle.ess_kind_steps_laws.specs.JudgedItems.{IsJudged}

-- ---- rules

-- The rules: of members of relations, and of functions of arguments by their flags, results behind a flag and sizes.
abbrev pub is_of_tuples : KindRule → Bool
is_of_tuples member_at_a_cell = true
is_of_tuples argument_with_a_flag = true
is_of_tuples truth_behind_a_flag = true
is_of_tuples size_of_a_function = true
is_of_tuples r = false

-- Whether the view is one of a relation by cells, or of a function by tuples.
abbrev pub is_by_tuple : Ex → Bool
is_by_tuple (seen_ex (repr ReprKind.RelationAsMatrix rs) d ns js) = true
is_by_tuple (seen_ex (repr ReprKind.FunctionND rs) d ns js) = true
is_by_tuple (seen_ex (repr ReprKind.FunctionNDPartial rs) d ns js) = true
is_by_tuple e = false

-- What each rule has at hand: the view that it rewrites is such a one of a judged domain.
abbrev pub TuplesAtHand : KindRule → Ex → Env → Type 0
TuplesAtHand member_at_a_cell (ex2 b o a v) env = (is_by_tuple v ≡ true) × IsJudged v env
TuplesAtHand argument_with_a_flag (ex2 b o a (fun1 m w f)) env = (is_by_tuple f ≡ true) × IsJudged f env
TuplesAtHand truth_behind_a_flag (node_ex b op (more_exs f (more_exs a no_exs))) env = (is_by_tuple f ≡ true) × IsJudged f env
TuplesAtHand size_of_a_function (ex1 b o v) env = (is_by_tuple v ≡ true) × IsJudged v env
TuplesAtHand r e env = Unit {0}

-- What the whole tree has: a type, operands with values of their types, names with values of theirs, and positions for the values of named
-- types, as in models.
pub record TypesAtHand (g : Names Ty) (e : Ex) (env : Env) : Type 0 where
  pub type : Ty
  pub is_typed : type_of e g ≡ Some type
  pub sound : SoundOperands g e
  pub held : Typed g env
  pub positions : IsTrue env.positions

-- So each of these rules that fires has what it counts on where structures are met and each part of the tree has a value wherever its
-- context holds, but for numbers in natural places, and keeps what it rewrites. w says that the tree stands in one.
pub record TupleRulesHaveWhatTheyAsk : Type 0 where
  pub asked : (s : Supply) (g : Names Ty) (r : KindRule) (e f : Ex) → kind_rewrite s g r e ≡ Some f → is_of_tuples r ≡ true →
      (env : Env) → TypesAtHand g e env → TuplesAtHand r e env → (w : Bool) → Valued w e env → Meets e env → KindAsks s g r e env
  pub kept : (s : Supply) (g : Names Ty) (r : KindRule) (e f : Ex) → kind_rewrite s g r e ≡ Some f → is_of_tuples r ≡ true →
      (env : Env) → TypesAtHand g e env → TuplesAtHand r e env → (w : Bool) → Valued w e env → Keeps e f env

-- ---- listings

-- Whether the expression is a view that is kept by indices: of a matrix, of a function or of a relation.
abbrev pub is_by_argument : Ex → Bool
is_by_argument (seen_ex (repr ReprKind.Matrix rs) d ns js) = true
is_by_argument (seen_ex (repr ReprKind.Function1D rs) d ns js) = true
is_by_argument (seen_ex (repr ReprKind.Function1DPartial rs) d ns js) = true
is_by_argument (seen_ex (repr ReprKind.FunctionND rs) d ns js) = true
is_by_argument (seen_ex (repr ReprKind.FunctionNDPartial rs) d ns js) = true
is_by_argument (seen_ex (repr ReprKind.RelationAsMatrix rs) d ns js) = true
is_by_argument e = false

-- So what such a view of a judged domain offers has what it counts on, where the names are new.
abbrev pub ViewsByArgumentAreListed : Type 0
ViewsByArgumentAreListed =
    (x y : Text) (zs : List Text) (t : Ex) (a : Alternative) → view_listing x y zs t ≡ Some a → is_by_argument t ≡ true →
    Unused x t → NamesUnused zs t → (env : Env) → IsJudged t env → ViewAsks x y zs t env

-- What rules of views of sets count on follows from what refining has at hand: types and values of the tree, new names, structures met, and
-- views of judged domains.
use Rattle.std.specs.Prelude.{◌≡◌, Bool, true, Some, IsTrue}
use Rattle.ess_semantics.specs.Values.{Text}
use Rattle.ess_semantics.specs.Names.{Names}
use Rattle.ess_semantics.specs.Trees.{name_pat, Ex, comp_ex, ex1, ex2, fun1, Gens, from}
use Rattle.ess_semantics.specs.Types.{Ty}
use Rattle.ess_semantics.specs.Typing.{type_of}
use Rattle.ess_semantics.specs.Typed.{Typed}
use Rattle.ess_semantics.specs.Meaning.{Env}
use Rattle.ess_semantics.specs.Meets.{Meets}
use Rattle.ess_semantics.specs.Kept.{Keeps}
use Rattle.ess_rules_laws.specs.Rules.{Unused, SoundOperands}
use Rattle.ess_refine_laws.specs.AllRules.{Supply}
use Rattle.ess_values_along_laws.specs.Valued.{Valued}
use Rattle.ess_kind_rules_laws.specs.KindRules.{KindRule, over_a_view, of_one_view, member_at_a_cell, size_of_slots, kind_rewrite}
use Rattle.ess_kinds_kept_laws.specs.KindAsks.{KindAsks}
use Rattle.ess_kind_sizes_laws.specs.SetRules.{is_of_sets}
use Rattle.ess_kind_sizes_laws.specs.ViewsBehind.{is_view_of_set, ViewBehind}
use Rattle.ess_kind_steps_laws.specs.JudgedItems.{IsJudged}

-- ---- at hand

-- The source t of a fold is a view of a set of a judged domain; names are told apart from those of what stands behind it.
pub record FoldAtHand (s : Supply) (y : Text) (t e : Ex) (hs : Gens) (env : Env) : Type 0 where
  pub used : Text → Bool
  pub scope : Text → Bool
  pub bound : Text → Bool
  pub view : is_view_of_set t ≡ true
  pub judged : IsJudged t env
  pub names : ViewBehind used scope bound s.one y t e hs

-- What each rule has at hand: the view that it rewrites is one of a set of a judged domain.
abbrev pub SetsAtHand : Supply → KindRule → Ex → Env → Type 0
SetsAtHand s over_a_view (fun1 m w (comp_ex e (from (name_pat y) t hs))) env = FoldAtHand s y t e hs env
SetsAtHand s of_one_view (fun1 m w (comp_ex e (from (name_pat y) t hs))) env = FoldAtHand s y t e hs env
SetsAtHand s member_at_a_cell (ex2 b o a v) env = (is_view_of_set v ≡ true) × IsJudged v env
SetsAtHand s size_of_slots (ex1 b o v) env = (is_view_of_set v ≡ true) × IsJudged v env
SetsAtHand s r e env = Unit {0}

-- The same with what the whole tree has: the new name stands nowhere in it, it has a type, operands have values of their types, names have
-- values of theirs, and positions stand for the values of named types, as in models.
pub record AtHand (s : Supply) (g : Names Ty) (r : KindRule) (e : Ex) (env : Env) : Type 0 where
  pub new : Unused s.one e
  pub type : Ty
  pub is_typed : type_of e g ≡ Some type
  pub sound : SoundOperands g e
  pub held : Typed g env
  pub positions : IsTrue env.positions
  pub views : SetsAtHand s r e env

-- ---- what is said

-- So each of these rules that fires has what it counts on, and keeps what it rewrites: where the structures are met and each part of the
-- tree has a value wherever its context holds, but for numbers in natural places. w says that the tree stands in one.
pub record SetRulesHaveWhatTheyAsk : Type 0 where
  pub asked : (s : Supply) (g : Names Ty) (r : KindRule) (e f : Ex) → kind_rewrite s g r e ≡ Some f → is_of_sets r ≡ true → (env : Env) →
      AtHand s g r e env → (w : Bool) → Valued w e env → Meets e env → KindAsks s g r e env
  pub kept : (s : Supply) (g : Names Ty) (r : KindRule) (e f : Ex) → kind_rewrite s g r e ≡ Some f → is_of_sets r ≡ true → (env : Env) →
      AtHand s g r e env → (w : Bool) → Valued w e env → Keeps e f env

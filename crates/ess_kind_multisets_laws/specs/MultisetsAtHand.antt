-- What rules of views of multisets count on follows from what refining has at hand: values of the tree, new names, structures met, and
-- views of judged domains.
use Rattle.std.specs.Prelude.{◌≡◌, Bool, true, false, List, Some}
use Rattle.ess_semantics.specs.declared.words.Fun.{Fun}
use Rattle.ess_semantics.specs.Values.{Text}
use Rattle.ess_semantics.specs.Names.{Names}
use Rattle.ess_semantics.specs.Trees.{Ex, node_ex, seen_ex, more_exs, mset_dom, ex1, ex2, fun1}
use Rattle.ess_semantics.specs.Types.{Ty}
use Rattle.ess_semantics.specs.Meaning.{Env}
use Rattle.ess_semantics.specs.Meets.{Meets}
use Rattle.ess_semantics.specs.Kept.{Keeps}
use Rattle.ess_refine_laws.specs.AllRules.{Supply}
use Rattle.ess_rules_laws.specs.Listings.{Alternative}
use Rattle.ess_values_along_laws.specs.Valued.{Valued}
use Rattle.ess_kind_rules_laws.specs.ViewListings.{view_listing}
use Rattle.ess_kind_rules_laws.specs.KindRules.{KindRule, member_of_a_multiset, size_of_a_multiset, frequency_by_cells, kind_rewrite}
use Rattle.ess_kinds_kept_laws.specs.NewNames.{TwoNew}
use Rattle.ess_kinds_kept_laws.specs.ViewAsks.{ViewAsks}
use Rattle.ess_kinds_kept_laws.specs.KindAsks.{KindAsks}
use Rattle.ess_kind_steps_laws.specs.JudgedItems.{IsJudged}
use Rattle.ess_kind_steps_laws.specs.SetsAtHand.{AtHand}

-- ---- rules

-- The rules: of membership, sizes and frequencies.
abbrev pub is_of_multisets : KindRule → Bool
is_of_multisets member_of_a_multiset = true
is_of_multisets size_of_a_multiset = true
is_of_multisets frequency_by_cells = true
is_of_multisets r = false

-- What each rule has at hand: the view that it rewrites is one of a judged domain.
abbrev pub MultisetsAtHand : KindRule → Ex → Env → Type 0
MultisetsAtHand member_of_a_multiset (ex2 b o a v) env = IsJudged v env
MultisetsAtHand size_of_a_multiset (ex1 b o v) env = IsJudged v env
MultisetsAtHand frequency_by_cells (node_ex b op (more_exs v es)) env = IsJudged v env
MultisetsAtHand r e env = Unit {0}

-- So each of these rules that fires has what it counts on where structures are met and each part of the tree has a value wherever its
-- context holds, but for numbers in natural places, and keeps what it rewrites. w says that the tree stands in one.
pub record MultisetRulesHaveWhatTheyAsk : Type 0 where
  pub asked : (s : Supply) (g : Names Ty) (r : KindRule) (e f : Ex) → kind_rewrite s g r e ≡ Some f → is_of_multisets r ≡ true →
      (env : Env) → AtHand s g r e env → MultisetsAtHand r e env → (w : Bool) → Valued w e env → Meets e env → KindAsks s g r e env
  pub kept : (s : Supply) (g : Names Ty) (r : KindRule) (e f : Ex) → kind_rewrite s g r e ≡ Some f → is_of_multisets r ≡ true →
      (env : Env) → AtHand s g r e env → MultisetsAtHand r e env → (w : Bool) → Valued w e env → Keeps e f env

-- ---- listings

-- Whether the expression is a view of a multiset, or the set of the members of one.
abbrev pub is_multiset_source : Ex → Bool
is_multiset_source (seen_ex r (mset_dom ms es d) ns js) = true
is_multiset_source (fun1 false Fun.ToSet (seen_ex r (mset_dom ms es d) ns js)) = true
is_multiset_source e = false

-- The view is one of a judged domain.
abbrev pub SourceIsJudged : Ex → Env → Type 0
SourceIsJudged (fun1 b f v) env = IsJudged v env
SourceIsJudged e env = IsJudged e env

-- So what such a source offers has what it counts on, where its names are new and structures are met.
abbrev pub MultisetsAreListed : Type 0
MultisetsAreListed =
    (x y : Text) (zs : List Text) (t : Ex) (a : Alternative) → view_listing x y zs t ≡ Some a → is_multiset_source t ≡ true →
    TwoNew x y t → (env : Env) → SourceIsJudged t env → Meets t env → ViewAsks x y zs t env

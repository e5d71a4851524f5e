-- What folds over views count on follows from what refining has at hand: values of the tree, new names, structures met, views of judged
-- domains, and tables that are canonical. Folds over views of sets are done elsewhere.
use Rattle.std.specs.Prelude.{◌≡◌, Bool, true, false, ◌||◌, Some}
use Rattle.ess_semantics.specs.Values.{Text}
use Rattle.ess_semantics.specs.Names.{Names}
use Rattle.ess_semantics.specs.Trees.{name_pat, Ex, comp_ex, Gens, from, fun1}
use Rattle.ess_semantics.specs.Types.{Ty}
use Rattle.ess_semantics.specs.Typed.{Typed}
use Rattle.ess_semantics.specs.Meaning.{Env}
use Rattle.ess_semantics.specs.Meets.{Meets}
use Rattle.ess_semantics.specs.Kept.{Keeps}
use Rattle.ess_rules_laws.specs.FunctionViews.{NamesUnused}
use Rattle.ess_rules_laws.specs.Listings.{Alternative}
use Rattle.ess_rules_laws.specs.ListedSources.{laid_out}
use Rattle.ess_rules_laws.specs.SpliceRules.{NamesApart}
use Rattle.ess_refine_laws.specs.AllRules.{Supply}
use Rattle.ess_values_along_laws.specs.Valued.{Valued}
use Rattle.ess_kind_rules_laws.specs.ViewListings.{view_listing}
use Rattle.ess_kind_rules_laws.specs.KindRules.{KindRule, over_a_view, of_one_view, kind_rewrite}
use Rattle.ess_kinds_kept_laws.specs.NewNames.{TwoNew}
use Rattle.ess_kinds_kept_laws.specs.CanonicalChildren.{IsCanonical}
use Rattle.ess_kinds_kept_laws.specs.KindAsks.{KindAsks}
use Rattle.ess_kind_multisets_laws.specs.MultisetsAtHand.{is_multiset_source, SourceIsJudged}
use Rattle.ess_kind_partitions_laws.specs.PartitionsAtHand.{is_by_part_number}
use Rattle.ess_kind_views_laws.specs.PartsAtHand.{is_kept_view}
use Rattle.ess_kind_views_laws.specs.TuplesAtHand.{is_by_argument}

-- The rules: of folds by parts, and of the only alternative.
abbrev pub is_of_folds : KindRule → Bool
is_of_folds over_a_view = true
is_of_folds of_one_view = true
is_of_folds r = false

-- Whether the source is a view, but for those of sets, or the set of a multiset's members.
abbrev pub is_source : Ex → Bool
is_source t = is_multiset_source t || is_by_part_number t || is_by_argument t || is_kept_view t

-- The names of what the source t offers for the name y are apart from those of what stands behind it.
abbrev pub OfferedApart : Supply → Text → Ex → Ex → Gens → Type 0
OfferedApart s y t e hs =
    (a : Alternative) → view_listing s.one s.other s.parts t ≡ Some a →
    (u : Text → Bool) × (v : Text → Bool) × NamesApart u v (comp_ex e (from (name_pat y) (laid_out a) hs))

-- The source t of a fold is such a one of a judged domain, new names are new to it, and names are apart; tables are canonical where it is
-- kept as another value.
pub record FoldAtHand (s : Supply) (y : Text) (t e : Ex) (hs : Gens) (env : Env) : Type 0 where
  pub source : is_source t ≡ true
  pub judged : SourceIsJudged t env
  pub canonical : is_kept_view t ≡ true → IsCanonical t env
  pub new : TwoNew s.one s.other t
  pub others : NamesUnused s.parts t
  pub apart : OfferedApart s y t e hs

-- So it is of each fold that these rules rewrite.
abbrev pub FoldsAtHand : Supply → Ex → Env → Type 0
FoldsAtHand s (fun1 m w (comp_ex e (from (name_pat y) t hs))) env = FoldAtHand s y t e hs env
FoldsAtHand s e env = Unit {0}

-- So each of these rules that fires has what it counts on where structures are met and each part of the tree has a value wherever its
-- context holds, but for numbers in natural places, and keeps what it rewrites. w says that the tree stands in one.
pub record FoldsHaveWhatTheyAsk : Type 0 where
  pub asked : (s : Supply) (g : Names Ty) (r : KindRule) (e f : Ex) → kind_rewrite s g r e ≡ Some f → is_of_folds r ≡ true →
      (env : Env) → FoldsAtHand s e env → (w : Bool) → Valued w e env → Meets e env → KindAsks s g r e env
  pub kept : (s : Supply) (g : Names Ty) (r : KindRule) (e f : Ex) → kind_rewrite s g r e ≡ Some f → is_of_folds r ≡ true →
      (env : Env) → Typed g env → FoldsAtHand s e env → (w : Bool) → Valued w e env → Keeps e f env

-- Folds over views have what they count on, and keep what they rewrite.
use Rattle.std.proofs.Common.{◌≡◌, refl, Bool, true, false, ◌||◌, List, Option, Some, None}
use Rattle.std.specs.Prelude.{IsTrue, is_some}
use Rattle.ess_semantics.specs.declared.words.Fun.{Fun}
use Rattle.ess_semantics.specs.Values.{Text}
use Rattle.ess_semantics.specs.Names.{Names}
use Rattle.ess_semantics.specs.Trees.{word, name_pat, Ex, node_ex, comp_ex, seen_ex, no_exs, more_exs, Gens, from, fun1}
use Rattle.ess_semantics.specs.Types.{Ty}
use Rattle.ess_semantics.specs.Meaning.{Env, meaning}
use Rattle.ess_semantics.specs.Meets.{Meets}
use Rattle.ess_rules_laws.specs.Rules.{OperandsThere}
use Rattle.ess_rules_laws.specs.FunctionViews.{NamesUnused}
use Rattle.ess_rules_laws.specs.Listings.{Alternative}
use Rattle.ess_refine_laws.specs.AllRules.{Supply, OfSome}
use Rattle.ess_guard_natural_laws.specs.TotalButNatural.{opens_places}
use Rattle.ess_values_along_laws.specs.Valued.{Valued}
use Rattle.ess_values_along_laws.proofs.ValuesAlong.{values-along}
use Rattle.ess_kind_rules_laws.specs.ViewListings.{view_listing}
use Rattle.ess_kind_rules_laws.specs.KindRules.{KindRule, over_a_view, of_one_view, kind_rewrite}
use Rattle.ess_kinds_kept_laws.specs.NewNames.{TwoNew}
use Rattle.ess_kinds_kept_laws.specs.CanonicalChildren.{IsCanonical}
use Rattle.ess_kinds_kept_laws.specs.ViewAsks.{ViewAsks}
use Rattle.ess_kinds_kept_laws.specs.KindAsks.{ViewApart, SourceAsks, KindAsks}
use Rattle.ess_kinds_kept_laws.proofs.KindRulesKeep.{kind-rules-keep}
use Rattle.ess_kind_multisets_laws.specs.MultisetsAtHand.{is_multiset_source, SourceIsJudged}
use Rattle.ess_kind_multisets_laws.proofs.MultisetSources.{multisets-are-listed}
use Rattle.ess_kind_partitions_laws.specs.PartitionsAtHand.{is_by_part_number}
use Rattle.ess_kind_partitions_laws.proofs.PartitionSources.{partitions-are-listed}
use Rattle.ess_kind_views_laws.specs.PartsAtHand.{is_kept_view}
use Rattle.ess_kind_views_laws.proofs.PartsAsked.{kept-views-are-listed}
use Rattle.ess_kind_views_laws.specs.TuplesAtHand.{is_by_argument}
use Rattle.ess_kind_views_laws.proofs.ArgumentListings.{views-by-argument-are-listed}
use Rattle.ess_kind_views_laws.specs.FoldsAtHand.{is_of_folds, is_source, FoldAtHand, FoldsAtHand, FoldsHaveWhatTheyAsk}

no : {A : Type 0} → false ≡ true → A
no h = cc

-- A rule that doesn't fire.
absent : {A : Type 0} (f : Ex) → None ≡ Some f → A
absent f q = cc

-- ---- sources

first-of-four : (b : Bool) → b || false || false || false ≡ true → b ≡ true
first-of-four true h = refl
first-of-four false h = h

-- What such a source offers has what it counts on.
source-asks : (x y : Text) (zs : List Text) (t : Ex) (a : Alternative) → view_listing x y zs t ≡ Some a → is_source t ≡ true →
    TwoNew x y t → NamesUnused zs t → (env : Env) → SourceIsJudged t env → (is_kept_view t ≡ true → IsCanonical t env) → Meets t env →
    ViewAsks x y zs t env
source-asks x y zs (seen_ex r d ns js) a q i u us env j c m =
    go (is_multiset_source (seen_ex r d ns js)) (is_by_part_number (seen_ex r d ns js)) (is_by_argument (seen_ex r d ns js))
    (is_kept_view (seen_ex r d ns js)) refl refl refl refl i
  where
    go : (k l n o : Bool) → is_multiset_source (seen_ex r d ns js) ≡ k → is_by_part_number (seen_ex r d ns js) ≡ l →
        is_by_argument (seen_ex r d ns js) ≡ n → is_kept_view (seen_ex r d ns js) ≡ o → k || l || n || o ≡ true →
        ViewAsks x y zs (seen_ex r d ns js) env
    go true l n o f g h k i = multisets-are-listed x y zs (seen_ex r d ns js) a q f u env j m
    go false true n o f g h k i = partitions-are-listed x y zs (seen_ex r d ns js) a q g u.first env j m
    go false false true o f g h k i = views-by-argument-are-listed x y zs (seen_ex r d ns js) a q h u.first us env j
    go false false false true f g h k i = kept-views-are-listed x y zs (seen_ex r d ns js) a q k env j (c k) m
    go false false false false f g h k i = no i
source-asks x y zs (node_ex b op es) a q i u us env j c m =
    multisets-are-listed x y zs (node_ex b op es) a q (first-of-four (is_multiset_source (node_ex b op es)) i) u env j m
source-asks x y zs _ a q i u us env j c m = no i

-- ---- folds

module _ (s : Supply) (y : Text) (t e : Ex) (hs : Gens) (env : Env) (k : Bool) (f : Fun) where
  -- The fold.
  abbrev Fold : Ex
  Fold = fun1 k f (comp_ex e (from (name_pat y) t hs))

  fold-asked : FoldAtHand s y t e hs env → Meets t env → IsTrue (is_some (meaning t env)) → SourceAsks s Fold env
  fold-asked h m i = go (view_listing s.one s.other s.parts t) refl
    where
      go : (o : Option Alternative) → view_listing s.one s.other s.parts t ≡ o → OfSome o (λ a. ViewApart s a t Fold env)
      go None q = tt
      go (Some a) q =
          let n = h.apart a q in (
            n.0,
            n.1,
            (n.2, tt),
            i,
            source-asks s.one s.other s.parts t a q h.source h.new h.others env h.judged h.canonical m,
          )

-- The operand of a word on a comprehension stands in no natural place.
word-opens : (w m : Bool) (f : Fun) → opens_places w m (word f) ≡ false
word-opens w true f = refl
word-opens true false f = refl
word-opens false false f = refl

source-there : (w m : Bool) (f : Fun) (y : Text) (t e : Ex) (hs : Gens) (env : Env) →
    Valued w (fun1 m f (comp_ex e (from (name_pat y) t hs))) env → IsTrue (is_some (meaning t env))
source-there w m f y t e hs env h = values-along.source (opens_places w m (word f)) e (from (name_pat y) t hs) env h.1.0

operands-there : (w m : Bool) (f : Fun) (l : Ex) (env : Env) → Valued w (fun1 m f l) env → OperandsThere (fun1 m f l) env
operands-there w m f l env h = values-along.operands w m (word f) (more_exs l no_exs) env refl (word-opens w m f) h

parts-asked : (s : Supply) (g : Names Ty) (e f : Ex) → kind_rewrite s g over_a_view e ≡ Some f → (env : Env) → FoldsAtHand s e env →
    (w : Bool) → Valued w e env → Meets e env → KindAsks s g over_a_view e env
parts-asked s g (fun1 m k (comp_ex e (from (name_pat y) t hs))) f q env h w v n = (
  fold-asked s y t e hs env m k h n.0.0 (source-there w m k y t e hs env v),
  operands-there w m k (comp_ex e (from (name_pat y) t hs)) env v,
)
parts-asked s g _ f q env h w v n = absent f q

alone-asked : (s : Supply) (g : Names Ty) (e f : Ex) → kind_rewrite s g of_one_view e ≡ Some f → (env : Env) → FoldsAtHand s e env →
    (w : Bool) → Valued w e env → Meets e env → KindAsks s g of_one_view e env
alone-asked s g (fun1 m k (comp_ex e (from (name_pat y) t hs))) f q env h w v n =
    fold-asked s y t e hs env m k h n.0.0 (source-there w m k y t e hs env v)
alone-asked s g _ f q env h w v n = absent f q

-- ---- each rule

asked : (s : Supply) (g : Names Ty) (r : KindRule) (e f : Ex) → kind_rewrite s g r e ≡ Some f → is_of_folds r ≡ true → (env : Env) →
    FoldsAtHand s e env → (w : Bool) → Valued w e env → Meets e env → KindAsks s g r e env
asked s g over_a_view e f q i env h w v m = parts-asked s g e f q env h w v m
asked s g of_one_view e f q i env h w v m = alone-asked s g e f q env h w v m
asked s g _ e f q i env h w v m = no i

-- What is proved of them.
pub folds-have : FoldsHaveWhatTheyAsk
folds-have = record {
  asked = asked;
  kept = λ s g r e f q i env t h w v m. kind-rules-keep.each s g r e f q env t (asked s g r e f q i env h w v m) m;
}

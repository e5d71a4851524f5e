-- What lists a source keeps values in its place.
use Rattle.std.proofs.Common.{◌≡◌, refl, sym, ap, ◌∙◌, subst, Bool, true, false, if◌then◌else◌, List, [], ◌∷◌, Option, Some, None, option_map}
use Rattle.ess_semantics.specs.Values.{Text, items_of}
use Rattle.ess_semantics.specs.Trees.{word, name_pat, Ex, comp_ex, fun1, from}
use Rattle.ess_semantics.specs.ExpressionJudgements.{forgets_order}
use Rattle.ess_semantics.specs.Meaning.{Env, meaning}
use Rattle.ess_rules_laws.specs.Listings.{Alternative}
use Rattle.ess_rules_laws.specs.SourceRules.{is_marked, list_of}
use Rattle.ess_rules_laws.specs.ListedSources.{source_in_order, source_alone, each_put, source_parts, SourceApart, SourceInOrder, SourceOffers}
use Rattle.ess_values_along_laws.specs.Valued.{Valued}
use Rattle.ess_values_terms_laws.proofs.ValuedLists.{AnswerValued, when, answered}
use Rattle.ess_values_sources_laws.specs.ListedValues.{Under, AllUnder, ListedSourcesKeepValues}
use Rattle.ess_values_sources_laws.proofs.CollectedLists.{there-is}
use Rattle.ess_values_sources_laws.proofs.PutValues.{put-valued, good-items, parts-valued, alone-valued}

module _ (env : Env) where
  -- What is said of an answer, where nothing is known of meanings.
  abbrev Keeps : Bool → Option Ex → Type 0
  Keeps w None = Unit {0}
  Keeps w (Some f) = Valued w f env

  ordered : (w : Bool) (r s : Text → Bool) (a : Alternative) (e : Ex) → SourceApart r s (a ∷ []) e → SourceInOrder a e env → Under a env →
      Valued w e env → Keeps w (source_in_order a e)
  ordered w r s a (comp_ex e (from (name_pat y) t hs)) n o u h =
      let v = there-is (meaning t env) o.0 in
      put-valued y e hs env r s w a n.0 (items_of v.0) (sym o.1.items ∙ ap (option_map items_of) v.1) (good-items y e hs env t h v.0 v.1) u
  ordered w r s a _ n o u h = tt

  alone : (w : Bool) (r s : Text → Bool) (a : Alternative) (e : Ex) → SourceApart r s (a ∷ []) e → SourceOffers (a ∷ []) e env →
      Under a env → Valued w e env → AnswerValued w e (source_alone a e) env
  alone w r s a (fun1 m f (comp_ex e (from (name_pat y) t hs))) n o u h =
      when w (forgets_order (word f)) (fun1 m f (comp_ex e (from (name_pat y) t hs))) _ env
      (λ q. alone-valued y e hs env r s m w f t a n.0 h o.1 u q)
  alone w r s a _ n o u h = tt

  parted : (w : Bool) (r s : Text → Bool) (l : List Alternative) (e : Ex) → SourceApart r s l e → SourceOffers l e env → AllUnder l env →
      Valued w e env → Keeps w (source_parts l e)
  parted w r s l (fun1 m f (comp_ex e (from (name_pat y) t hs))) n o u h = go (is_marked m f) refl
    where
      go : (c : Bool) → is_marked m f ≡ c → Keeps w (if c then Some (fun1 m f (list_of (each_put m f y e hs l))) else None)
      go true k = parts-valued y e hs env r s m w f t l k n h o.1 u
      go false k = tt
  parted w r s l _ n o u h = tt

  kept : (w : Bool) (f : Ex) (o : Option Ex) → o ≡ Some f → Keeps w o → Valued w f env
  kept w f o q k = subst (λ z. Keeps w z) q k

-- What is proved of listings in the place of sources.
pub listed-sources-keep-values : ListedSourcesKeepValues
listed-sources-keep-values = record {
  in_order = λ r s a e f q n env o u w h. kept env w f (source_in_order a e) q (ordered env w r s a e n o u h);
  alone = λ r s a e f q n env o u m w h. answered w e f (source_alone a e) env q (alone env w r s a e n o u h) m;
  in_parts = λ r s l e f q n env o u w h. kept env w f (source_parts l e) q (parted env w r s l e n o u h);
}

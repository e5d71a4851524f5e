-- Folds over views keep types.
use Rattle.std.proofs.Common.{◌≡◌, subst, true, [], ◌∷◌}
use Rattle.ess_semantics.specs.Names.{Names}
use Rattle.ess_semantics.specs.Trees.{Ex, name_pat, comp_ex, fun1, from}
use Rattle.ess_semantics.specs.Types.{Ty}
use Rattle.ess_kind_rules_laws.specs.KindRules.{KindRule, over_a_view, of_one_view, view_listed, kind_rewrite}
use Rattle.ess_kind_rules_laws.specs.ViewListings.{view_listing}
use Rattle.ess_kind_types_laws.proofs.SetsKeepTypes.{part-type, alone-type, of-offered}
use Rattle.ess_refine_laws.specs.AllRules.{Supply}
use Rattle.ess_refine_types_laws.proofs.TypeParts.{TypeKept, no}
use Rattle.ess_rules_laws.specs.ListedSources.{source_alone, source_parts}
use Rattle.ess_kinds_typed_laws.proofs.ViewsOffered.{offered-fits}
use Rattle.ess_kinds_typed_laws.specs.FoldsTyped.{FoldsTyped, is_fold_of_a_view, FoldsKeepTypes}

module _ (g : Names Ty) where
  parts-type : (s : Supply) (e : Ex) → FoldsTyped s g e → TypeKept g e (view_listed (λ a. source_parts (a ∷ [])) s e)
  parts-type s (fun1 m f (comp_ex e (from (name_pat y) t hs))) h =
      let c = h.1 in
      of-offered g m f y t e hs (view_listing s.one s.other s.parts t)
      (λ a. source_parts (a ∷ []) (fun1 m f (comp_ex e (from (name_pat y) t hs))))
      (offered-fits s g y t e hs h.0 (c.1.0.0.1, c.1.0.1)) (part-type g m f y t e hs)
  parts-type s _ h = tt

  alone-types : (s : Supply) (e : Ex) → FoldsTyped s g e → TypeKept g e (view_listed source_alone s e)
  alone-types s (fun1 m f (comp_ex e (from (name_pat y) t hs))) h =
      let c = h.1 in
      of-offered g m f y t e hs (view_listing s.one s.other s.parts t)
      (λ a. source_alone a (fun1 m f (comp_ex e (from (name_pat y) t hs))))
      (offered-fits s g y t e hs h.0 (c.1.0.0.1, c.1.0.1)) (alone-type g m f y t e hs)
  alone-types s _ h = tt

  each-type : (s : Supply) (r : KindRule) (e : Ex) → is_fold_of_a_view r ≡ true → FoldsTyped s g e → TypeKept g e (kind_rewrite s g r e)
  each-type s over_a_view e i h = parts-type s e h
  each-type s of_one_view e i h = alone-types s e h
  each-type s _ e i h = no i

-- Types stay.
pub folds-keep-types : FoldsKeepTypes
folds-keep-types s g r e f q i h = subst (λ z. TypeKept g e z) q (each-type g s r e i h)

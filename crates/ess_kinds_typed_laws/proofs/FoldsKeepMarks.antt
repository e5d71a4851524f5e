-- Folds over views keep marks.
use Rattle.std.proofs.Common.{◌≡◌, subst, true, [], ◌∷◌}
use Rattle.ess_semantics.specs.Names.{Names}
use Rattle.ess_semantics.specs.Trees.{Ex, name_pat, comp_ex, fun1, from}
use Rattle.ess_semantics.specs.Types.{Ty}
use Rattle.ess_kind_rules_laws.specs.KindRules.{KindRule, over_a_view, of_one_view, view_listed, kind_rewrite}
use Rattle.ess_kind_rules_laws.specs.ViewListings.{view_listing}
use Rattle.ess_kind_types_laws.proofs.SetsKeepMarks.{alone-marks, part-marks, MarksKept, of-offered}
use Rattle.ess_refine_laws.specs.AllRules.{Supply}
use Rattle.ess_refine_types_laws.proofs.TypeParts.{no}
use Rattle.ess_rules_laws.specs.ListedSources.{source_alone, source_parts}
use Rattle.ess_kinds_typed_laws.proofs.FoldsKeepTypes.{folds-keep-types}
use Rattle.ess_kinds_typed_laws.proofs.ViewsOffered.{offered-fits, offered-marked}
use Rattle.ess_kinds_typed_laws.specs.FoldsTyped.{FoldsTyped, is_fold_of_a_view, FoldsKeepMarks}

module _ (g : Names Ty) where
  parts-marks : (s : Supply) (e : Ex) → FoldsTyped s g e → MarksKept g e (view_listed (λ a. source_parts (a ∷ [])) s e)
  parts-marks s (fun1 m f (comp_ex e (from (name_pat y) t hs))) h =
      let c = h.1 in
      of-offered g m f y t e hs (view_listing s.one s.other s.parts t)
      (λ a. source_parts (a ∷ []) (fun1 m f (comp_ex e (from (name_pat y) t hs))))
      (offered-fits s g y t e hs h.0 (c.1.0.0.1, c.1.0.1)) (λ n. offered-marked s g y t e hs h.0 n.1.0.0.1) (part-marks g m f y t e hs)
  parts-marks s _ h = tt

  one-marks : (s : Supply) (e : Ex) → FoldsTyped s g e → MarksKept g e (view_listed source_alone s e)
  one-marks s (fun1 m f (comp_ex e (from (name_pat y) t hs))) h =
      let c = h.1 in
      of-offered g m f y t e hs (view_listing s.one s.other s.parts t)
      (λ a. source_alone a (fun1 m f (comp_ex e (from (name_pat y) t hs))))
      (offered-fits s g y t e hs h.0 (c.1.0.0.1, c.1.0.1)) (λ n. offered-marked s g y t e hs h.0 n.1.0.0.1) (alone-marks g m f y t e hs)
  one-marks s _ h = tt

  each-marks : (s : Supply) (r : KindRule) (e : Ex) → is_fold_of_a_view r ≡ true → FoldsTyped s g e → MarksKept g e (kind_rewrite s g r e)
  each-marks s over_a_view e i h = parts-marks s e h
  each-marks s of_one_view e i h = one-marks s e h
  each-marks s _ e i h = no i

-- Marks stay.
pub folds-keep-marks : FoldsKeepMarks
folds-keep-marks s g r e f q i h t p m =
    subst (λ z. MarksKept g e z) q (each-marks g s r e i h) t p (folds-keep-types s g r e f q i h t p) m

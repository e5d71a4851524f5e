-- The rules of a supply are those by its three names.
use Rattle.std.proofs.Common.{◌≡◌, refl, ap, ◌∙◌, true, false, List, map, Option, Some}
use Rattle.ess_semantics.specs.Lists.{and_then}
use Rattle.ess_semantics.specs.Values.{Text}
use Rattle.ess_semantics.specs.Names.{Names}
use Rattle.ess_semantics.specs.Types.{Ty}
use Rattle.ess_semantics.specs.Trees.{word, name_pat, Ex, node_ex, comp_ex, fun1, more_exs, from}
use Rattle.ess_rules_laws.specs.Listings.{Alternative}
use Rattle.ess_refine_laws.specs.ExtremeAlternatives.{put_alternative, extreme_alternatives}
use Rattle.ess_refine_laws.specs.AllRules.{Supply, source_listed, source_listed_once, extremes_listed}
use Rattle.ess_rules_folds.specs.Forms.{FoldParts}
use Rattle.ess_rules_listings.specs.Offered.{offered_by, listed_by, listed_once_by, extremes_of, extremes_by}

module _ (s : Supply) (g : Names Ty) where
  -- A fold over the alternatives of the first source.
  pub listed_is : (e : Ex) → source_listed s g e ≡ listed_by g s.one s.other s.third e
  listed_is (fun1 m f (comp_ex e (from (name_pat y) t hs))) = refl
  listed_is e = refl

  -- A word over the only one.
  pub listed_once_is : (e : Ex) → source_listed_once s g e ≡ listed_once_by g s.one s.other s.third e
  listed_once_is (fun1 m f (comp_ex e (from (name_pat y) t hs))) = refl
  listed_once_is e = refl

  -- The least or the greatest over them.
  pub extremes_are : (e : Ex) → extremes_listed s g e ≡ extremes_by g s.one s.other s.third e
  extremes_are (fun1 false f (comp_ex e (from (name_pat y) t hs))) = refl
  extremes_are (node_ex true (word f) (more_exs (comp_ex e (from (name_pat y) t hs)) es)) = refl
  extremes_are e = refl

-- The comprehension of a fold that binds the name over the source.
abbrev comprehension : FoldParts → Ex
comprehension p = comp_ex p.body (from (name_pat p.name) p.source p.rest)

-- What is made of the alternatives of the whole comprehension, where its source offers these.
pub extremes_put : (g : Names Ty) (y z w : Text) (p : FoldParts) (found put : List Alternative) (o : Option Ex)
    → Some found ≡ offered_by g y z w p.source
    → put ≡ map (put_alternative p.name p.body p.rest) found
    → ((t : Ex) → o ≡ extreme_alternatives put (fun1 false p.fun t))
    → o ≡ extremes_of g y z w p
extremes_put g y z w p found put o offers is made =
    made (comprehension p)
    ∙ ap (λ l. extreme_alternatives l (fun1 false p.fun (comprehension p))) is
    ∙ ap (λ q. and_then q (λ l. extreme_alternatives (map (put_alternative p.name p.body p.rest) l) (fun1 false p.fun (comprehension p))))
    offers

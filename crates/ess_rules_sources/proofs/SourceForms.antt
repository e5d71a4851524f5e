-- The rules of sources by the parts of the root, and alternatives one by one.
use Rattle.std.proofs.Common.{◌≡◌, refl, ap, Bool, List, [], ◌∷◌, map}
use Rattle.ess_semantics.specs.declared.words.Fun.{Fun}
use Rattle.ess_semantics.specs.Lists.{and_then}
use Rattle.ess_semantics.specs.Values.{Text}
use Rattle.ess_semantics.specs.Trees.{name_pat, Ex, comp_ex, fun1, more_exs, Gens, from}
use Rattle.ess_core.specs.TreeViews.{exs_of}
use Rattle.ess_rules_laws.specs.Listings.{Alternative}
use Rattle.ess_rules_laws.specs.ListedSources.{each_put, source_alone, source_parts}
use Rattle.ess_rules_folds.specs.Forms.{fold_parts}
use Rattle.ess_rules_sources.specs.PureAlternatives.{put_fold, alone_put, parts_put}

-- A word over the only alternative of its source.
pub alone_by_parts : (a : Alternative) (e : Ex) → source_alone a e ≡ and_then (fold_parts e) (alone_put a)
alone_by_parts a (fun1 m f (comp_ex e (from (name_pat y) s hs))) = refl
alone_by_parts a e = refl

-- A fold over all of them.
pub parts_by_parts : (l : List Alternative) (e : Ex) → source_parts l e ≡ and_then (fold_parts e) (parts_put l)
parts_by_parts l (fun1 m f (comp_ex e (from (name_pat y) s hs))) = refl
parts_by_parts l e = refl

-- The fold over each alternative.
pub put_one_by_one : (m : Bool) (f : Fun) (y : Text) (e : Ex) (hs : Gens) (l : List Alternative)
    → each_put m f y e hs l ≡ exs_of (map (put_fold m f y e hs) l)
put_one_by_one m f y e hs [] = refl
put_one_by_one m f y e hs (a ∷ l) = ap (λ es. more_exs (put_fold m f y e hs a) es) (put_one_by_one m f y e hs l)

-- Rows of generators and folds one by one.
use Rattle.std.proofs.Common.{◌≡◌, refl, ap, Bool, false, List, [], ◌∷◌, map, None}
use Rattle.ess_semantics.specs.declared.words.Fun.{Fun}
use Rattle.ess_semantics.specs.Values.{Text}
use Rattle.ess_semantics.specs.Trees.{Ex, more_exs, Gens, cond}
use Rattle.ess_core.specs.TreeViews.{Item, over_item, from_item, cond_item, exs_of, gens_of}
use Rattle.ess_rules_laws.specs.SourceRules.{each_fold}
use Rattle.ess_rules_folds.specs.Forms.{are_no_gens, only_condition}
use Rattle.ess_rules_folds.specs.FoldParts.{item_fold}

-- Where there is a generator or condition there are some.
pub no_gens_more : (i : Item) (is : List Item) → are_no_gens (gens_of (i ∷ is)) ≡ false
no_gens_more (over_item p d) is = refl
no_gens_more (from_item p e) is = refl
no_gens_more (cond_item e) is = refl

-- A condition before another generator or condition isn't alone.
pub condition_with_more : (c : Ex) (i : Item) (is : List Item) → only_condition (cond c (gens_of (i ∷ is))) ≡ None
condition_with_more c (over_item p d) is = refl
condition_with_more c (from_item p e) is = refl
condition_with_more c (cond_item e) is = refl

-- The fold for each item.
pub items_one_by_one : (m : Bool) (f : Fun) (y : Text) (e : Ex) (hs : Gens) (es : List Ex)
    → each_fold m f y e hs (exs_of es) ≡ exs_of (map (item_fold m f y e hs) es)
items_one_by_one m f y e hs [] = refl
items_one_by_one m f y e hs (a ∷ es) = ap (λ l. more_exs (item_fold m f y e hs a) l) (items_one_by_one m f y e hs es)

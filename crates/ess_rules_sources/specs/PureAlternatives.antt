-- What rules make of what a term offers, by the parts of the root.
use Rattle.std.specs.Prelude.{Bool, false, if◌then◌else◌, List, Option, Some, None}
use Rattle.ess_semantics.specs.declared.words.Op1.{Op1}
use Rattle.ess_semantics.specs.declared.words.Fun.{Fun}
use Rattle.ess_semantics.specs.Values.{Text}
use Rattle.ess_semantics.specs.Trees.{word, Ex, comp_ex, ex1, fun1, Gens}
use Rattle.ess_semantics.specs.ExpressionJudgements.{forgets_order}
use Rattle.ess_rules_laws.specs.Listings as listings
use Rattle.ess_rules_laws.specs.SourceRules.{is_marked, list_of}
use Rattle.ess_rules_laws.specs.ListedSources.{put_listed, each_put}
use Rattle.ess_rules_folds.specs.Forms.{FoldParts, are_none}

-- An alternative of these generators with this item.
abbrev pub alternative_of : Gens → Ex → listings.Alternative
alternative_of gs e = record { gens = gs; item = e }

-- The fold over one alternative.
abbrev pub put_fold : Bool → Fun → Text → Ex → Gens → listings.Alternative → Ex
put_fold m f y e hs a = fun1 m f (put_listed y e hs a)

-- A word that forgets order over its only alternative.
abbrev pub alone_put : listings.Alternative → FoldParts → Option Ex
alone_put a p =
    if are_none p.others then (if forgets_order (word p.fun) then Some (put_fold p.mark p.fun p.name p.body p.rest a) else None) else None

-- A fold over several.
abbrev pub parts_put : List listings.Alternative → FoldParts → Option Ex
parts_put l p =
    if are_none p.others
    then (if is_marked p.mark p.fun then Some (fun1 p.mark p.fun (list_of (each_put p.mark p.fun p.name p.body p.rest l))) else None)
    else None

-- The sum of the sizes of the items of an alternative.
abbrev pub item_size : listings.Alternative → Ex
item_size a = fun1 false Fun.Sum (comp_ex (ex1 false Op1.Bar a.item) a.gens)

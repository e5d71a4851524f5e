-- What a source offers, and the folds over it, by the three names that a rule takes.
use Rattle.std.specs.Prelude.{false, if◌then◌else◌, List, map, Option, None}
use Rattle.ess_semantics.specs.Lists.{and_then, or_else}
use Rattle.ess_semantics.specs.Values.{Text}
use Rattle.ess_semantics.specs.Names.{Names}
use Rattle.ess_semantics.specs.Types.{Ty}
use Rattle.ess_semantics.specs.Trees.{Ex, Dom, comp_ex, fun1, from, name_pat}
use Rattle.ess_rules_laws.specs.Listings.{Alternative, listing}
use Rattle.ess_rules_laws.specs.ContainerListings.{made_listing}
use Rattle.ess_rules_laws.specs.ListedSources.{source_alone, source_parts}
use Rattle.ess_refine_laws.specs.ItemsOnce.{items_once}
use Rattle.ess_refine_laws.specs.ExtremeAlternatives.{put_alternative, extreme_alternatives}
use Rattle.ess_refine_laws.specs.AllRules.{Supply, only_one}
use Rattle.ess_rules_folds.specs.Forms.{FoldParts, fold_parts, are_none}

-- What rules take, by the three names: names for components, index domains and copies don't matter here.
abbrev pub supply_of : Text → Text → Text → List Text → (Ex → Dom) → (Ex → Ex) → Supply
supply_of y z w ys d c = record { one = y; other = z; third = w; parts = ys; index_domain = d; copy = c }

module _ (g : Names Ty) (y z w : Text) where
  -- What the term offers as a listing.
  abbrev pub offered_by : Ex → Option (List Alternative)
  offered_by t = or_else (listing g y t) (or_else (made_listing g y z t) (items_once y z w t))

  -- A fold over the alternatives of the first source.
  abbrev pub listed_by : Ex → Option Ex
  listed_by e =
      and_then (fold_parts e) (λ p. if are_none p.others then and_then (offered_by p.source) (λ l. source_parts l e) else None)

  -- A word that forgets order over the only one.
  abbrev pub listed_once_by : Ex → Option Ex
  listed_once_by e =
      and_then (fold_parts e) (λ p. if are_none p.others then and_then (only_one (offered_by p.source)) (λ a. source_alone a e) else None)

  -- The least or the greatest over them.
  abbrev pub extremes_of : FoldParts → Option Ex
  extremes_of p =
      and_then (offered_by p.source) (λ l. extreme_alternatives (map (put_alternative p.name p.body p.rest) l)
      (fun1 false p.fun (comp_ex p.body (from (name_pat p.name) p.source p.rest))))

  abbrev pub extremes_by : Ex → Option Ex
  extremes_by e = and_then (fold_parts e) (λ p. if p.mark then None else (if are_none p.others then extremes_of p else None))

-- Sources that are items, by the parts of the root and by the generators.
use Rattle.std.proofs.Common.{◌≡◌, refl, ap, ◌∙◌, Bool, true, false, if◌then◌else◌, Option, Some, None, option_map}
use Rattle.ess_semantics.specs.Lists.{and_then}
use Rattle.ess_semantics.specs.Trees.{name_pat, Ex, comp_ex, Gens, from, fun1}
use Rattle.ess_rules_laws.specs.SpliceRules.{append_gens}
use Rattle.ess_rules_laws.specs.Listings.{Alternative}
use Rattle.ess_refine_laws.specs.AllRules.{Supply, only_one}
use Rattle.ess_open_rules_laws.specs.OpenGenerators.{Opened, at_first_open, put_before}
use Rattle.ess_rules_folds.specs.Forms.{comp_parts}
use Rattle.ess_rules_opening.specs.OpenedViews.{comp_word}
use Rattle.ess_ordered_laws.specs.NumberedItems.{ordered_lookup}
use Rattle.ess_ordered_laws.specs.SourcesOfItems.{may_be_taken, item_source, item_behind, over_an_item}
use Rattle.ess_rules_ordered.specs.ItemForms.{under_word, gens_over, item_gens}

-- A comprehension, or a word of one.
pub over_item_by_parts : (s : Supply) (e : Ex) → over_an_item s e ≡ elim (comp_parts e) [
  | Some c ↦ item_behind s false (comp_ex c.0 c.1)
  | None ↦ and_then (comp_word e) (under_word s)
]
over_item_by_parts s (comp_ex e gs) = refl
over_item_by_parts s (fun1 m f (comp_ex e gs)) = refl
over_item_by_parts s e = refl

-- ---- behind plain generators

taken-over : (e : Ex) (f : Alternative → Gens) (b : Alternative → Bool) (o : Option Alternative)
    → and_then o (λ a. if b a then Some (comp_ex e (f a)) else None)
    ≡ option_map (comp_ex e) (and_then o (λ a. if b a then Some (f a) else None))
taken-over e f b None = refl
taken-over e f b (Some a) = go (b a)
  where
    go : (c : Bool) → (if c then Some (comp_ex e (f a)) else None) ≡ option_map (comp_ex e) (if c then Some (f a) else None)
    go true = refl
    go false = refl

at-source : (s : Supply) (any : Bool) (e : Ex) (gs : Gens) → item_source s any (comp_ex e gs) ≡ option_map (comp_ex e) (item_gens s any gs)
at-source s any e (from (name_pat y) t hs) =
    taken-over e (λ a. gens_over s.other y a hs) (may_be_taken any) (only_one (ordered_lookup s.third s.parts t))
at-source s any e gs = refl

put-over : (e : Ex) (gs : Gens) (o : Option Gens)
    → and_then (option_map (comp_ex e) o) (put_before gs) ≡ option_map (λ ks. comp_ex e (append_gens gs ks)) o
put-over e gs None = refl
put-over e gs (Some ks) = refl

at-open : (s : Supply) (any : Bool) (e : Ex) (o : Option Opened)
    → and_then o (λ t. and_then (item_source s any (comp_ex e t.after)) (put_before t.before))
    ≡ and_then o (λ t. option_map (λ ks. comp_ex e (append_gens t.before ks)) (item_gens s any t.after))
at-open s any e None = refl
at-open s any e (Some t) =
    ap (λ o. and_then o (put_before t.before)) (at-source s any e t.after) ∙ put-over e t.before (item_gens s any t.after)

-- At the first generator that isn't plain.
pub behind_by_gens : (s : Supply) (any : Bool) (e : Ex) (gs : Gens) → item_behind s any (comp_ex e gs)
    ≡ and_then (at_first_open gs) (λ t. option_map (λ ks. comp_ex e (append_gens t.before ks)) (item_gens s any t.after))
behind_by_gens s any e gs = at-open s any e (at_first_open gs)

-- Comprehensions over what is picked: by their parts, by what the source looks up, and one by one.
use Rattle.std.proofs.Common.{◌≡◌, refl, ap, ◌∙◌, Bool, true, false, ◌&&◌, ◌||◌, not, if◌then◌else◌, List, [], ◌∷◌, map, Option, Some, None, option_map, is_some}
use Rattle.ess_semantics.specs.Lists.{and_then, or_else, is_some_and}
use Rattle.ess_semantics.specs.Values.{Text}
use Rattle.ess_semantics.specs.Names.{Names}
use Rattle.ess_semantics.specs.Occurrences.{has_cells}
use Rattle.ess_semantics.specs.Trees.{by_value, index, name_pat, Ex, number_ex, truth_ex, name_ex, node_ex, matrix_ex, comp_ex, cell_ex, seen_ex, no_exs, more_exs, Gens, from}
use Rattle.ess_semantics.specs.Types.{Ty}
use Rattle.ess_core.specs.TreeViews.{Item, over_item, from_item, cond_item, gens_of}
use Rattle.ess_guard_laws.specs.IndexDomains.{index_dom}
use Rattle.ess_rules_laws.specs.Listings.{Alternative}
use Rattle.ess_rules_laws.specs.AlternativeLookups.{members_of_each, lookup_through_each}
use Rattle.ess_refine_laws.specs.AllRules.{Supply}
use Rattle.ess_kind_rules_laws.specs.ViewListings.{matrix_listing}
use Rattle.ess_kind_rules_laws.specs.TermLookups.{picks, picked_within, looked_up_alone, looked_up}
use Rattle.ess_open_rules_laws.specs.OpenSources.{is_decided, are_decided, decided_one, picked_members, in_order_told}
use Rattle.ess_rules_folds.specs.Forms.{comp_parts, source_parts}
use Rattle.ess_rules_alternatives.specs.Cases.{put_through}
use Rattle.ess_ordered_laws.specs.NumberedItems.{numbered_lookup, ordered_lookup}
use Rattle.ess_ordered_laws.specs.PickedSources.{is_untold, source_lookup, each_source, picked_source}
use Rattle.ess_rules_ordered.specs.PickedForms.{untold_lookup, is_told, is_not_told, item_or_other, are_decided_items}

-- ---- by parts

mapped-if : {A B : Type 0} (b : Bool) (f : A → B) (o : Option A)
    → (if b then option_map f o else None) ≡ option_map f (if b then o else None)
mapped-if true f o = refl
mapped-if false f o = refl

at-source : (s : Supply) (g : Names Ty) (e : Ex) (gs : Gens) → picked_source s g (comp_ex e gs)
    ≡ and_then (source_parts gs) (λ q. option_map (λ l. each_source s.other q.0 l e q.2) (untold_lookup s g q.1))
at-source s g e (from (name_pat y) t hs) =
    mapped-if (is_untold s g t) (λ l. each_source s.other y l e hs) (source_lookup s g t)
at-source s g e gs = refl

-- A comprehension, by its first source.
pub source_by_parts : (s : Supply) (g : Names Ty) (e : Ex) → picked_source s g e
    ≡ and_then (comp_parts e) (λ c. and_then (source_parts c.1)
    (λ q. option_map (λ l. each_source s.other q.0 l c.0 q.2) (untold_lookup s g q.1)))
source_by_parts s g (comp_ex e gs) = at-source s g e gs
source_by_parts s g e = refl

-- Over each alternative, one by one.
pub sources_one_by_one : (x y : Text) (l : List Alternative) (e : Ex) (hs : Gens)
    → each_source x y l e hs ≡ map (put_through x (comp_ex e (from (name_pat y) (name_ex x) hs))) l
sources_one_by_one x y [] e hs = refl
sources_one_by_one x y (a ∷ l) e hs =
    ap (λ m. put_through x (comp_ex e (from (name_pat y) (name_ex x) hs)) a ∷ m) (sources_one_by_one x y l e hs)

-- ---- what can't be taken in order

-- What is picked is no view.
no-view : (x : Text) (t : Ex) → picks t ≡ true → matrix_listing x t ≡ None
no-view x (number_ex n) p = refl
no-view x (truth_ex b) p = refl
no-view x (name_ex a) p = refl
no-view x (node_ex b o es) p = refl
no-view x (matrix_ex es d) p = refl
no-view x (comp_ex e gs) p = refl
no-view x (cell_ex b a es) p = refl
no-view x (seen_ex r d ns js) p = cc

told-if : {A : Type 0} (b : Bool) (a : A) → is_some (if b then Some a else None) ≡ b
told-if true a = refl
told-if false a = refl

-- The members of what is picked are told in order where there is one alternative that no table decides.
told-alone : (x y : Text) (o : Option (List Alternative)) → is_some (decided_one (option_map (members_of_each x y) o)) ≡ is_some_and o is_told
told-alone x y None = refl
told-alone x y (Some []) = refl
told-alone x y (Some (a ∷ b ∷ l)) = refl
told-alone x y (Some (a ∷ [])) = told-if (are_decided a.gens) _

told-in-order : (s : Supply) (g : Names Ty) (t : Ex) → picks t ≡ true
    → is_some (in_order_told s g t) ≡ is_some_and (looked_up g s.third s.parts t) is_told
told-in-order s g t p =
    ap (λ o. is_some (or_else o (decided_one (picked_members s g t)))) (no-view s.one t p)
    ∙ ap (λ b. is_some (decided_one (if b then option_map (members_of_each s.one s.other) (looked_up g s.third s.parts t) else None))) p
    ∙ told-alone s.one s.other (looked_up g s.third s.parts t)

not-told : {A : Type 0} (b : Bool) (a : A) → (if not b then Some a else None) ≡ (if b then None else Some a)
not-told true a = refl
not-told false a = refl

by-cases : (b : Bool) (p o : Option (List Alternative)) → ((l : List Alternative) → p ≡ Some l → o ≡ None)
    → (if not (b || is_some_and o is_told) then or_else p o else None)
    ≡ (if b then None else or_else p (and_then o (λ l. if is_told l then None else Some l)))
by-cases true p o h = refl
by-cases false None None h = refl
by-cases false None (Some l) h = not-told (is_told l) l
by-cases false (Some k) o h = ap (λ o. if not (is_some_and o is_told) then Some k else None) (h k refl)

-- An item of a comprehension by its number has no other lookup.
item-alone : (g : Names Ty) (z y : Text) (ys : List Text) (e : Ex) (l : List Alternative)
    → numbered_lookup z ys e ≡ Some l → looked_up_alone g z y ys e ≡ None
item-alone g z y ys (node_ex b (index (by_value ∷ [])) (more_exs (comp_ex e gs) (more_exs i no_exs))) l q = refl
item-alone g z y ys _ l q = cc

-- Nor has what is picked out of one.
no-other : (g : Names Ty) (z : Text) (ys : List Text) (e : Ex) (l : List Alternative)
    → ordered_lookup z ys e ≡ Some l → looked_up g z ys e ≡ None
no-other g z [] e l q = refl
no-other g z (y ∷ ys) e l q = go (picked_within e) (no-other g z ys) q
  where
    go : (o : Option Ex) → ((t : Ex) (k : List Alternative) → ordered_lookup z ys t ≡ Some k → looked_up g z ys t ≡ None)
        → elim o as (λ o. Option (List Alternative)) [
          | None ↦ numbered_lookup z ys e
          | Some t ↦ and_then (ordered_lookup z ys t) (λ l. lookup_through_each y 1 l e)
        ] ≡ Some l → elim o as (λ o. Option (List Alternative)) [
          | None ↦ looked_up_alone g z y ys e
          | Some t ↦ and_then (looked_up g z ys t) (λ l. lookup_through_each y 1 l e)
        ] ≡ None
    go None h q = item-alone g z y ys e l q
    go (Some t) h q = within (ordered_lookup z ys t) refl q
      where
        within : (p : Option (List Alternative)) → ordered_lookup z ys t ≡ p → and_then p (λ l. lookup_through_each y 1 l e) ≡ Some l
            → and_then (looked_up g z ys t) (λ l. lookup_through_each y 1 l e) ≡ None
        within None r q = cc
        within (Some k) r q = ap (λ p. and_then p (λ l. lookup_through_each y 1 l e)) (h t k r)

-- What is picked, by what it looks up.
pub untold_by_lookup : (s : Supply) (g : Names Ty) (t : Ex)
    → untold_lookup s g t ≡ (if picks t then (if is_some (index_dom t) then None else item_or_other s g t) else None)
untold_by_lookup s g t = go (picks t) refl
  where
    go : (b : Bool) → picks t ≡ b
        → (if b && not (is_some (index_dom t) || is_some (in_order_told s g t)) then source_lookup s g t else None)
        ≡ (if b then (if is_some (index_dom t) then None else item_or_other s g t) else None)
    go false p = refl
    go true p =
        ap (λ c. if not (is_some (index_dom t) || c) then source_lookup s g t else None) (told-in-order s g t p)
        ∙ by-cases (is_some (index_dom t)) (ordered_lookup s.third s.parts t) (looked_up g s.third s.parts t)
        (no-other g s.third s.parts t)

open-by-lookup : (o : Option (List Alternative)) → not (is_some_and o is_told) ≡ is_not_told o
open-by-lookup None = refl
open-by-lookup (Some l) = refl

-- Whether that can't be taken in order, by what it looks up.
pub untold_by_axis : (s : Supply) (g : Names Ty) (t : Ex) → is_untold s g t ≡ (if picks t
    then (if is_some (index_dom t) then false else is_not_told (looked_up g s.third s.parts t)) else false)
untold_by_axis s g t = go (picks t) refl
  where
    by-axis : (a : Bool) (o : Option (List Alternative))
        → not (a || is_some_and o is_told) ≡ (if a then false else is_not_told o)
    by-axis true o = refl
    by-axis false o = open-by-lookup o

    go : (b : Bool) → picks t ≡ b → (b && not (is_some (index_dom t) || is_some (in_order_told s g t)))
        ≡ (if b then (if is_some (index_dom t) then false else is_not_told (looked_up g s.third s.parts t)) else false)
    go false p = refl
    go true p =
        ap (λ c. not (is_some (index_dom t) || c)) (told-in-order s g t p)
        ∙ by-axis (is_some (index_dom t)) (looked_up g s.third s.parts t)

-- So it is both where it is picked and has no index domain.
pub untold-open : (s : Supply) (g : Names Ty) (t : Ex) → picks t ≡ true → is_some (index_dom t) ≡ false
    → untold_lookup s g t ≡ item_or_other s g t
untold-open s g t p q = untold_by_lookup s g t
    ∙ ap (λ b. if b then (if is_some (index_dom t) then None else item_or_other s g t) else None) p
    ∙ ap (λ b. if b then None else item_or_other s g t) q

-- ---- generators that no table decides

-- One by one.
pub decided_one_by_one : (is : List Item) → are_decided (gens_of is) ≡ are_decided_items is
decided_one_by_one [] = refl
decided_one_by_one (over_item p d ∷ is) = decided_one_by_one is
decided_one_by_one (from_item p e ∷ is) = ap (λ b. is_decided e && b) (decided_one_by_one is)
decided_one_by_one (cond_item c ∷ is) = ap (λ b. not (has_cells c) && b) (decided_one_by_one is)

-- Items of comprehensions: by what is picked within, by the generators, and domains by their range.
use Rattle.std.proofs.Common.{◌≡◌, refl, ap, if◌then◌else◌, List, [], ◌∷◌, Some, None, option_map}
use Rattle.ess_semantics.specs.Lists.{and_then, is_some_and}
use Rattle.ess_semantics.specs.Values.{Text}
use Rattle.ess_semantics.specs.Trees.{both_ends, Pat, name_pat, tuple_pat, Ex, name_ex, no_exs, more_exs, Gens, no_gens, over, from, cond, Dom, int_dom}
use Rattle.ess_semantics.specs.Substitution.{substitute, substitute_gens, for_name}
use Rattle.ess_rules_laws.specs.AlternativeLookups.{lookup_through_each}
use Rattle.ess_refine_laws.specs.ItemsOnce.{is_atom_dom}
use Rattle.ess_refine_laws.specs.ExtremeRules.{are_none}
use Rattle.ess_kind_rules_laws.specs.TermLookups.{picked_within}
use Rattle.ess_guard_forms.specs.PartForms.{one_range}
use Rattle.ess_rules_folds.specs.Forms.{are_no_gens, pattern_name}
use Rattle.ess_ordered_laws.specs.NumberedItems.{is_one, is_from_one, numbered_item, number_behind, at_each_value, numbered_gens, numbered_over, numbered_lookup, ordered_lookup}
use Rattle.ess_rules_ordered.specs.AloneForms.{alone_over}

-- Where nothing is picked within.
pub ordered_alone : (z y : Text) (ys : List Text) (e : Ex) → None ≡ picked_within e
    → numbered_lookup z ys e ≡ ordered_lookup z (y ∷ ys) e
ordered_alone z y ys e p = ap (λ o. elim o [
  | None ↦ numbered_lookup z ys e
  | Some t ↦ and_then (ordered_lookup z ys t) (λ l. lookup_through_each y 1 l e)
]) p

-- Where something is, through the alternatives of that.
pub ordered_within : (z y : Text) (ys : List Text) (e t : Ex) → Some t ≡ picked_within e
    → and_then (ordered_lookup z ys t) (λ l. lookup_through_each y 1 l e) ≡ ordered_lookup z (y ∷ ys) e
ordered_within z y ys e t p = ap (λ o. elim o [
  | None ↦ numbered_lookup z ys e
  | Some u ↦ and_then (ordered_lookup z ys u) (λ l. lookup_through_each y 1 l e)
]) p

-- A comprehension, by whether its generators are a name over a domain alone.
pub over_by_parts : (z : Text) (ws : List Text) (e : Ex) (gs : Gens) (i : Ex) → numbered_over z ws e gs i ≡ elim (alone_over gs) [
  | Some o ↦ if is_atom_dom o.1 then Some (numbered_item z o.0 o.1 e i ∷ []) else None
  | None ↦ option_map (λ a. a ∷ []) (numbered_gens ws e gs i)
]
over_by_parts z ws e no_gens i = refl
over_by_parts z ws e (from p t gs) i = refl
over_by_parts z ws e (cond c gs) i = refl
over_by_parts z ws e (over (name_pat x) d no_gens) i = refl
over_by_parts z ws e (over (tuple_pat ps) d no_gens) i = refl
over_by_parts z ws e (over (name_pat x) d (over q c gs)) i = refl
over_by_parts z ws e (over (name_pat x) d (from q t gs)) i = refl
over_by_parts z ws e (over (name_pat x) d (cond c gs)) i = refl
over_by_parts z ws e (over (tuple_pat ps) d (over q c gs)) i = refl
over_by_parts z ws e (over (tuple_pat ps) d (from q t gs)) i = refl
over_by_parts z ws e (over (tuple_pat ps) d (cond c gs)) i = refl

-- No generators, as both tests tell it.
none-alike : (gs : Gens) → are_none gs ≡ are_no_gens gs
none-alike no_gens = refl
none-alike (over p d gs) = refl
none-alike (from p t gs) = refl
none-alike (cond c gs) = refl

-- Several generators, by the name that the first one binds.
pub over_by_name : (w : Text) (ws : List Text) (e : Ex) (p : Pat) (d : Dom) (gs : Gens) (i : Ex) → numbered_gens (w ∷ ws) e (over p d gs) i
    ≡ and_then (pattern_name p) (λ x. if is_atom_dom d
    then (if are_no_gens gs then Some (numbered_item x w d (substitute (for_name x (name_ex w)) e) i)
    else option_map (at_each_value w d) (numbered_gens ws (substitute (for_name x (name_ex w)) e)
    (substitute_gens (for_name x (name_ex w)) gs) (number_behind w x d gs i))) else None)
over_by_name w ws e (name_pat x) d gs i =
    ap (λ b. if is_atom_dom d
    then (if b then Some (numbered_item x w d (substitute (for_name x (name_ex w)) e) i)
    else option_map (at_each_value w d) (numbered_gens ws (substitute (for_name x (name_ex w)) e)
    (substitute_gens (for_name x (name_ex w)) gs) (number_behind w x d gs i))) else None) (none-alike gs)
over_by_name w ws e (tuple_pat ps) d gs i = refl

-- A domain, by its one range.
pub from_one_by_range : (d : Dom) → is_from_one d ≡ is_some_and (one_range d) (λ p. is_one p.0)
from_one_by_range (int_dom (both_ends ∷ []) (more_exs a (more_exs n no_exs))) = refl
from_one_by_range d = refl

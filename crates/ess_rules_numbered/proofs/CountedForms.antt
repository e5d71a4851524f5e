-- Counted terms by the type of their items, and lists over them by their parts.
use Rattle.std.proofs.Common.{◌≡◌, refl, ap, Bool, true, false, not, if◌then◌else◌, [], ◌∷◌, Option, Some, None, option_map}
use Rattle.ess_semantics.specs.declared.words.Op2.{Op2}
use Rattle.ess_semantics.specs.Lists.{and_then}
use Rattle.ess_semantics.specs.Values.{Text}
use Rattle.ess_semantics.specs.Names.{Names}
use Rattle.ess_semantics.specs.NamesAt.{names_behind}
use Rattle.ess_semantics.specs.Occurrences.{free_of}
use Rattle.ess_semantics.specs.Trees.{by_value, index, name_pat, Ex, node_ex, comp_ex, no_exs, more_exs, Gens, from, ex2}
use Rattle.ess_semantics.specs.Types.{Ty}
use Rattle.ess_semantics.specs.Typing.{type_of}
use Rattle.ess_refine_laws.specs.AllRules.{Supply}
use Rattle.ess_refine_laws.specs.IndexedLists.{of_matrix}
use Rattle.ess_open_rules_laws.specs.OpenGenerators.{at_first_open}
use Rattle.ess_rules_folds.specs.Forms.{comp_parts, source_parts}
use Rattle.ess_rules_forms.specs.Forms.{truth_pair, of_pair}
use Rattle.ess_rules_ordered.specs.IndexForms.{item_of_matrix}
use Rattle.ess_rules_ordered.proofs.IndexedForms.{of_matrix-items}
use Rattle.ess_numbered_laws.specs.MostItems.{most_items, so_often}
use Rattle.ess_numbered_laws.specs.CountedSources.{is_counted, numbered_items, numbered_term, numbered_source, numbered_behind, within_an_item, within_a_pair, begins_counted, is_over_counted, counted_list}
use Rattle.ess_rules_numbered.specs.CountedForms.{item_at}
use Rattle.ess_rules_numbered.specs.BehindForms.{behind_parts, with_source, item_parts}
use Rattle.ess_rules_numbered.proofs.BehindForms.{of-source, source_by_parts}

-- ---- a source

by-items : (x z : Text) (t : Ex) (o : Option Ty) (p : Option Ex) → and_then p (λ n. of_matrix o (numbered_items x z t n))
    ≡ and_then p (λ n. option_map (numbered_items x z t n) (item_of_matrix o))
by-items x z t o None = refl
by-items x z t o (Some n) = of_matrix-items o (numbered_items x z t n)

-- A term by its numbers, by the type of its items.
pub term_by_type : (s : Supply) (g : Names Ty) (t : Ex) → numbered_term s g t ≡ (if is_counted s g t
    then and_then (most_items s.third t) (λ n. option_map (numbered_items s.one s.other t n) (item_of_matrix (type_of t g))) else None)
term_by_type s g t = ap (λ o. if is_counted s g t then o else None) (by-items s.one s.other t (type_of t g) (most_items s.third t))

first-numbered : (s : Supply) (g : Names Ty) (e : Ex) (hs : Gens) → numbered_source s g (comp_ex e hs) ≡ of-source (numbered_term s g) e hs
first-numbered s g e (from (name_pat y) t hs) = refl
first-numbered s g e hs = refl

-- At the first generator that isn't plain.
pub behind_by_parts : (s : Supply) (g : Names Ty) (e : Ex) → numbered_behind s g e
    ≡ and_then (behind_parts e) (λ p. option_map (with_source p) (numbered_term s (names_behind p.before g) p.source))
behind_by_parts s g e = source_by_parts g (numbered_term s) (numbered_source s) (first-numbered s) e

-- ---- where such a list stands

-- An item by its number, by its parts.
pub item_by_parts : (s : Supply) (g : Names Ty) (e : Ex) → within_an_item s g e
    ≡ and_then (item_parts e) (λ p. option_map (λ c. item_at p.0 c p.1.1) (numbered_behind s g p.1.0))
item_by_parts s g (node_ex b (index (by_value ∷ [])) (more_exs a (more_exs i no_exs))) = refl
item_by_parts s g e = refl

-- A side of an equality or a sign, by both.
pub pair_by_sides : (s : Supply) (g : Names Ty) (e : Ex) → within_a_pair s g e ≡ of_pair (within_a_pair s g) (truth_pair e)
pair_by_sides s g (ex2 true o a b) = refl
pair_by_sides s g e = refl

-- ---- the whole comprehension

-- Generators, by the first one.
pub begins_by_parts : (s : Supply) (g : Names Ty) (gs : Gens) → begins_counted s g gs ≡ elim (source_parts gs) [
  | None ↦ false
  | Some q ↦ is_counted s g q.1
]
begins_by_parts s g (from (name_pat y) t hs) = refl
begins_by_parts s g gs = refl

-- The number of its items, by its generators.
pub list_by_parts : (s : Supply) (g : Names Ty) (e : Ex) → counted_list s g e ≡ elim (comp_parts e) [
  | None ↦ None
  | Some c ↦ if is_over_counted s g (at_first_open c.1) then most_items s.third e else None
]
list_by_parts s g (comp_ex e gs) = refl
list_by_parts s g e = refl

-- ---- a name that runs over items

unless : {A : Type 0} (b : Bool) (a : Option A) → (if b then a else None) ≡ (if not b then None else a)
unless true a = refl
unless false a = refl

-- A number behind a name, where it speaks of it, and where not.
pub often_by_name : (y : Text) (k n : Ex) → so_often (name_pat y) k n
    ≡ (if not (free_of (y ∷ []) (more_exs n no_exs)) then None else Some (ex2 false Op2.Times k n))
often_by_name y k n = unless (free_of (y ∷ []) (more_exs n no_exs)) (Some (ex2 false Op2.Times k n))

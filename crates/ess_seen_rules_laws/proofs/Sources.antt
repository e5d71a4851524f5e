-- The first source of generators of a tree over views is a set: it isn't made of another container, no matrix, and nothing is picked.
use Rattle.std.proofs.Common.{◌≡◌, refl, ap, ℕ, Bool, false, if◌then◌else◌, List, [], ◌∷◌, Option, Some, None, option_map}
use Rattle.ess_semantics.specs.declared.words.ReprKind.{ReprKind}
use Rattle.ess_semantics.specs.Lists.{and_then, or_else}
use Rattle.ess_semantics.specs.Values.{Text}
use Rattle.ess_semantics.specs.Names.{Names}
use Rattle.ess_semantics.specs.Trees.{Mark, Repr, repr, no_reprs, more_reprs, name_pat, Ex, Exs, name_ex, comp_ex, seen_ex, Gens, over, from, cond, Dom, set_dom, ex2}
use Rattle.ess_semantics.specs.Types.{Ty}
use Rattle.ess_rules_laws.specs.ListedSources.{source_in_order}
use Rattle.ess_rules_laws.specs.SlotListings.{slots_dom}
use Rattle.ess_refine_laws.specs.AllRules.{Supply, only_one}
use Rattle.ess_kind_rules_laws.specs.ViewListings.{matrix_listing}
use Rattle.ess_open_rules_laws.specs.OpenGenerators.{Opened, with_first, at_first_open}
use Rattle.ess_open_rules_laws.specs.OpenSources.{loose_source, kept_in_order}
use Rattle.ess_ordered_laws.specs.NumberedItems.{ordered_lookup}
use Rattle.ess_ordered_laws.specs.IndexedSources.{indexed_source}
use Rattle.ess_ordered_laws.specs.SourcesOfItems.{may_be_taken, over_the_item, item_source}
use Rattle.ess_seen_laws.specs.Seen.{Kind, Bound, SetTerm, view, drawn, combined, Going, at_end, through, through_slots, among, where_holds, truths, numbers}

-- A name, a view over a domain of sets, or what is made of two terms.
abbrev pub IsSetForm : Ex → Type 0
IsSetForm (name_ex a) = Unit {0}
IsSetForm (seen_ex p (set_dom ms es d) ns js) = Unit {0}
IsSetForm (ex2 false o a b) = Unit {0}
IsSetForm e = ⊥

-- The first generator binds a name over such a source.
abbrev pub IsSource : Gens → Type 0
IsSource (from (name_pat y) t hs) = IsSetForm t
IsSource gs = ⊥

-- Where generators are opened at one it is such.
abbrev pub OpensAtSet : Option Opened → Type 0
OpensAtSet None = Unit {0}
OpensAtSet (Some t) = IsSource t.after

opens-behind : (f : Gens → Gens) (o : Option Opened) → OpensAtSet o → OpensAtSet (option_map (with_first f) o)
opens-behind f None h = tt
opens-behind f (Some t) h = h

module _ (cells : Text → Option (Bool × List ℕ)) where
  -- A set has this form.
  pub set-form : {r : Names Bound} {e : Ex} {k : Kind} → SetTerm cells r e k → IsSetForm e
  set-form (view a b c d) = tt
  set-form (drawn h) = tt
  set-form (combined o h k) = tt

  -- So generators of a tree over views are opened at a set.
  pub opens-at-set : {r t : Names Bound} {gs : Gens} → Going cells r gs t → OpensAtSet (at_first_open gs)
  opens-at-set at_end = tt
  opens-at-set (through {a = a} {d = d} {gs = gs} truths k) = opens-behind (over (name_pat a) d) (at_first_open gs) (opens-at-set k)
  opens-at-set (through {a = a} {d = d} {gs = gs} (numbers b es) k) =
      opens-behind (over (name_pat a) d) (at_first_open gs) (opens-at-set k)
  opens-at-set (through_slots {a = a} {e = e} {gs = gs} c k) =
      opens-behind (over (name_pat a) (slots_dom e)) (at_first_open gs) (opens-at-set k)
  opens-at-set (among h k) = set-form h
  opens-at-set (where_holds {c = c} {gs = gs} f k) = opens-behind (cond c) (at_first_open gs) (opens-at-set k)

-- ---- what such a source doesn't offer

-- A view over a domain of sets is none of a matrix.
pub no-matrix-listing : (x : Text) (p : Repr) (ms : List Mark) (es : Exs) (d : Dom) (ns : List Text) (js : Exs) →
    matrix_listing x (seen_ex p (set_dom ms es d) ns js) ≡ None
no-matrix-listing x (repr ReprKind.Matrix no_reprs) ms es d ns js = refl
no-matrix-listing x (repr ReprKind.Matrix (more_reprs r no_reprs)) ms es d ns js = refl
no-matrix-listing x (repr ReprKind.Matrix (more_reprs r (more_reprs q rs))) ms es d ns js = refl
no-matrix-listing x p ms es d ns js = refl

-- It isn't made of another container.
pub not-loose : (gs : Gens) → IsSource gs → loose_source gs ≡ None
not-loose (from (name_pat y) (name_ex a) hs) h = refl
not-loose (from (name_pat y) (seen_ex p d ns js) hs) h = refl
not-loose (from (name_pat y) (ex2 false o a b) hs) h = refl
not-loose (from (name_pat y) t hs) h = absurd h
not-loose gs h = absurd h

-- It is no item of a comprehension, and isn't picked out of one.
form-lookup : (t : Ex) → IsSetForm t → (z : Text) (ys : List Text) → ordered_lookup z ys t ≡ None
form-lookup t h z [] = refl
form-lookup (name_ex a) h z (y ∷ ys) = refl
form-lookup (seen_ex p d ns js) h z (y ∷ ys) = refl
form-lookup (ex2 false o a b) h z (y ∷ ys) = refl
form-lookup t h z (y ∷ ys) = absurd h

module _ (s : Supply) (g : Names Ty) (e : Ex) where
  -- No rule of comprehensions in any place fires.
  pub not-kept : (gs : Gens) → IsSource gs → kept_in_order s g (comp_ex e gs) ≡ None
  not-kept (from (name_pat y) (name_ex a) hs) h = refl
  not-kept (from (name_pat y) (seen_ex p (set_dom ms es d) ns js) hs) h =
      ap (λ o. and_then (or_else o None) (λ a. source_in_order a (comp_ex e (from (name_pat y) (seen_ex p (set_dom ms es d) ns js) hs))))
      (no-matrix-listing s.one p ms es d ns js)
  not-kept (from (name_pat y) (ex2 false o a b) hs) h = refl
  not-kept (from (name_pat y) t hs) h = absurd h
  not-kept gs h = absurd h

  -- And none by indices.
  pub not-indexed : (gs : Gens) → IsSource gs → indexed_source g s.one (comp_ex e gs) ≡ None
  not-indexed (from (name_pat y) (name_ex a) hs) h = refl
  not-indexed (from (name_pat y) (seen_ex p d ns js) hs) h = refl
  not-indexed (from (name_pat y) (ex2 false o a b) hs) h = refl
  not-indexed (from (name_pat y) t hs) h = absurd h
  not-indexed gs h = absurd h

  -- And none of items.
  pub not-an-item : (any : Bool) (gs : Gens) → IsSource gs → item_source s any (comp_ex e gs) ≡ None
  not-an-item any (from (name_pat y) t hs) h = ap (λ o. and_then (only_one o)
      (λ a. if may_be_taken any a then Some (over_the_item s.other y e hs a) else None)) (form-lookup t h s.third s.parts)
  not-an-item any gs h = absurd h

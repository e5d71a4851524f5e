-- A rule is used at a part of a tree over views as that stands: a set isn't changed where it is told apart as a source.
use Rattle.std.proofs.Common.{◌≡◌, refl, ap, ℕ, Bool, false, List, Option}
use Rattle.ess_semantics.specs.declared.words.Fun.{Fun}
use Rattle.ess_semantics.specs.Values.{Text}
use Rattle.ess_semantics.specs.Names.{Names}
use Rattle.ess_semantics.specs.Trees.{name_pat, Ex, comp_ex, fun1, Gens, over, from, cond}
use Rattle.ess_rules_laws.specs.SlotListings.{slots_dom}
use Rattle.ess_seen_laws.specs.Seen.{Kind, Bound, Counted, so_many, from_to, from_0, subsets, none_below}
use Rattle.ess_seen_laws.specs.Seen.{SetTerm, view, drawn, combined, Seen, number, truth, named, counted, figure, flag, atom, one, two}
use Rattle.ess_seen_laws.specs.Seen.{chosen, folded, of_items, size, within, set_within, compared}
use Rattle.ess_seen_laws.specs.Seen.{Going, at_end, through, through_slots, among, where_holds, truths, numbers}
use Rattle.ess_seen_laws.specs.SeenParts.{IsStill, numeral, slot, count, start, pair, Items, gone_through, items_listed}
use Rattle.ess_seen_laws.specs.Laws.{SetsStayAsTheyAre}
use Rattle.ess_refine.specs.ess_rules.Ruled.{new_source, with_new_source}

-- Where the source is told apart nothing changes.
abbrev pub StaysItself : Ex → Type 0
StaysItself e = (j : ℕ) → (with_new_source j e).0 ≡ e

-- No source stands in a number of slots.
counted-stays : {e : Ex} {n : ℕ} → Counted e n → StaysItself e
counted-stays so_many j = refl
counted-stays (from_to q) j = refl
counted-stays from_0 j = refl
counted-stays (subsets c) j = refl
counted-stays (none_below c) j = refl

chosen-count : {e : Ex} {n : ℕ} → Counted e n → StaysItself (fun1 false Fun.ToInt e)
chosen-count so_many j = refl
chosen-count (from_to q) j = refl
chosen-count from_0 j = refl
chosen-count (subsets c) j = refl
chosen-count (none_below c) j = refl

module _ (cells : Text → Option (Bool × List ℕ)) (same : SetsStayAsTheyAre) where
  -- The same of generators.
  abbrev Stay : Gens → Type 0
  Stay gs = (j : ℕ) → (new_source j gs).0 ≡ gs

  source-stays : {r : Names Bound} {k : Kind} {s : Ex} (a : Text) (gs : Gens) → SetTerm cells r s k → Stay (from (name_pat a) s gs)
  source-stays {r} {k} {s} a gs t j = ap (λ p. from (name_pat a) p.0 gs) (same.told_apart cells r s k t j)

  going-stays : {r t : Names Bound} {gs : Gens} → Going cells r gs t → Stay gs
  going-stays at_end j = refl
  going-stays (through {a = a} {d = d} truths g) j = ap (over (name_pat a) d) (going-stays g j)
  going-stays (through {a = a} {d = d} (numbers f h) g) j = ap (over (name_pat a) d) (going-stays g j)
  going-stays (through_slots {a = a} {e = e} c g) j = ap (over (name_pat a) (slots_dom e)) (going-stays g j)
  going-stays (among {a = a} {gs = gs} s g) j = source-stays a gs s j
  going-stays (where_holds {c = c} f g) j = ap (cond c) (going-stays g j)

  chosen-stays : {r : Names Bound} {x : Ex} {m : Bool} → Seen cells r x m → StaysItself (fun1 false Fun.ToInt x)
  chosen-stays number j = refl
  chosen-stays truth j = refl
  chosen-stays (named h k) j = refl
  chosen-stays (counted c) j = chosen-count c j
  chosen-stays (figure h i) j = refl
  chosen-stays (flag h i) j = refl
  chosen-stays (atom h i) j = refl
  chosen-stays (one o f) j = refl
  chosen-stays (two o f h) j = refl
  chosen-stays (chosen f) j = refl
  chosen-stays (folded w g f) j = refl
  chosen-stays (of_items w f) j = refl
  chosen-stays (size s) j = refl
  chosen-stays (within f s) j = refl
  chosen-stays (set_within s t) j = refl
  chosen-stays (compared o s t) j = refl

  -- So it is at scalars, at sets and at lists.
  pub scalar-stays : {r : Names Bound} {e : Ex} {m : Bool} → Seen cells r e m → StaysItself e
  scalar-stays number j = refl
  scalar-stays truth j = refl
  scalar-stays (named h k) j = refl
  scalar-stays (counted c) j = counted-stays c j
  scalar-stays (figure h i) j = refl
  scalar-stays (flag h i) j = refl
  scalar-stays (atom h i) j = refl
  scalar-stays (one o f) j = refl
  scalar-stays (two o f h) j = refl
  scalar-stays (chosen f) j = chosen-stays f j
  scalar-stays (folded {m = m} {f = w} {e = e} v g f) j = ap (λ z. fun1 m w (comp_ex e z)) (going-stays g j)
  scalar-stays (of_items w f) j = refl
  scalar-stays (size s) j = refl
  scalar-stays (within f s) j = refl
  scalar-stays (set_within s t) j = refl
  scalar-stays (compared o s t) j = refl

  pub set-stays : {r : Names Bound} {e : Ex} {k : Kind} → SetTerm cells r e k → StaysItself e
  set-stays (view n q h i) j = refl
  set-stays (drawn h) j = refl
  set-stays (combined o s t) j = refl

  pub list-stays : {r : Names Bound} {e : Ex} {m : Bool} → Items cells r e m → StaysItself e
  list-stays (gone_through {e = e} g f) j = ap (comp_ex e) (going-stays g j)
  list-stays (items_listed f) j = refl

-- And at a part at which no rule fires.
pub still-stays : {r : Names Bound} {e : Ex} → IsStill r e → StaysItself e
still-stays numeral j = refl
still-stays (slot h) j = refl
still-stays (count c) j = counted-stays c j
still-stays start j = refl
still-stays (pair c) j = refl

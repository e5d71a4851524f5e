-- Each part of a refined tree over views has a value, where bound names have values and each table of numbers has one at each slot.
use Rattle.std.proofs.Common.{refl, ℕ, ◌≤◌, Bool, List, ◌∷◌, pos, Option}
use Rattle.ess_semantics.specs.Values.{Text, Value, number as number_value}
use Rattle.ess_semantics.specs.Names.{Names, look}
use Rattle.ess_semantics.specs.Trees.{name_pat, Ex, Exs, Gens, over, Dom}
use Rattle.ess_semantics.specs.Meaning.{Env, with_pat}
use Rattle.ess_seen_laws.specs.Seen.{Kind, sets_of, Bound, over_a_range, over_slots, from_a_set, SetTerm, view, drawn, combined, Seen, number, truth, named, counted, figure, flag, atom, one, two, chosen, folded, of_items, size, within, set_within, compared, Listed, last_item, item_before, Indices, no_index, one_index, Going, at_end, through, through_slots, among, where_holds, Range, truths, numbers}
use Rattle.ess_seen_laws.specs.Filled.{InSlots, AreFilled}
use Rattle.ess_seen_everywhere_laws.proofs.Figures.{has-value, slots-more, filled-more, places-valued, figure-there}
use Rattle.ess_seen_everywhere_laws.proofs.FineParts.{Fine, AllFine, ListFine, Refined, AllRefined, GensRefined, view-unrefined, member-unrefined, source-unrefined, fine-one, fine-two, fine-chosen, fine-fold, fine-items, fine-size, fine-compared, fine-combined, fine-count, fine-flag, none-fine, more-fine, last-fine, cond-fine, over-fine, slots-fine, truths-fine, bounds-fine, behind-truths, behind-range, behind-slots}

module _ (cells : Text → Option (Bool × List ℕ)) where
  -- Bound names have values, those over slots the number of one, and each table of numbers has one at each slot.
  pub record Fills (r : Names Bound) (env : Env) : Type 0 where
    pub slots : InSlots r env
    pub filled : AreFilled cells env

  -- So it is with a name more, over a range or over slots.
  fills-more : {r : Names Bound} (a : Text) (m : Bool) (env : Env) → Fills r env → (v : Value) →
      Fills ((a, over_a_range m) ∷ r) (with_pat (name_pat a) v env)
  fills-more {r = r} a m env f v = record {
    slots = slots-more r a (over_a_range m) v env refl f.slots;
    filled = filled-more cells a v env f.filled;
  }

  fills-slots : {r : Names Bound} (a : Text) (k i : ℕ) (env : Env) → 1 ≤ i → i ≤ k → Fills r env →
      Fills ((a, over_slots k) ∷ r) (with_pat (name_pat a) (number_value (pos i)) env)
  fills-slots {r = r} a k i env l u f = record {
    slots = slots-more r a (over_slots k) (number_value (pos i)) env (record { slot = i; first = l; last = u; is = refl }) f.slots;
    filled = filled-more cells a (number_value (pos i)) env f.filled;
  }

  -- Each part of a refined set has a value: names, and differences of those.
  pub set-fine : {r : Names Bound} {e : Ex} {k : Kind} → SetTerm cells r e k → Refined e → (env : Env) → Fills r env → Fine e env
  set-fine (view n x k p) h env f = absurd (view-unrefined h)
  set-fine (drawn {a = a} {k = k} q) h env f =
      record { parts = has-value (from_a_set (sets_of k)) (look env.vals a) (f.slots a (from_a_set (sets_of k)) q) }
  set-fine (combined {s = x} {t = y} o g k) h env f =
      fine-combined o x y env h (λ i. set-fine g i env f) (λ i. set-fine k i env f)

  mutual
    -- Each part of the tree has a value.
    pub filled-fine : {r : Names Bound} {e : Ex} {m : Bool} → Seen cells r e m → Refined e → (env : Env) → Fills r env → Fine e env
    filled-fine number h env f = record { parts = tt }
    filled-fine truth h env f = record { parts = tt }
    filled-fine (named {a = a} {b = b} q k) h env f = record { parts = has-value b (look env.vals a) (f.slots a b q) }
    filled-fine (counted c) h env f = fine-count c env
    filled-fine (figure q p) h env f =
        record { parts = (figure-there cells q p env f.slots f.filled, places-valued cells p env f.slots) }
    filled-fine (flag {n = n} {es = es} q i) h env f = fine-flag n es env h (λ j. indices-fine i j env f)
    filled-fine (atom k p) h env f = absurd (view-unrefined h)
    filled-fine (one {x = x} o g) h env f = fine-one o x env h (λ i. filled-fine g i env f)
    filled-fine (two {x = x} {y = y} o g k) h env f =
        fine-two o x y env h (λ i. filled-fine g i env f) (λ i. filled-fine k i env f)
    filled-fine (chosen {x = x} g) h env f = fine-chosen x env h (λ i. filled-fine g i env f)
    filled-fine (folded {e = e} {gs = gs} o g k) h env f =
        fine-fold o e gs env h (λ i j. going-fine g j e (λ here l. filled-fine k i here l) env f)
    filled-fine (of_items {es = es} o l) h env f = fine-items o es env h (λ i. listed-fine l i env f)
    filled-fine (size {s = x} g) h env f = fine-size x env h (λ i. set-fine g i env f)
    filled-fine (within g k) h env f = absurd (member-unrefined h)
    filled-fine (set_within g k) h env f = absurd (member-unrefined h)
    filled-fine (compared {s = x} {t = y} o g k) h env f =
        fine-compared o x y env h (λ i. set-fine g i env f) (λ i. set-fine k i env f)

    -- The same of items.
    pub listed-fine : {r : Names Bound} {es : Exs} {m : Bool} → Listed cells r es m → AllRefined es → (env : Env) → Fills r env →
        AllFine es env
    listed-fine (last_item {e = e} g) h env f = more-fine e _ env h (λ i. filled-fine g i env f) (λ i. none-fine env)
    listed-fine (item_before {e = e} {es = es} g l) h env f =
        more-fine e es env h (λ i. filled-fine g i env f) (λ i. listed-fine l i env f)

    -- And of indices of a cell.
    pub indices-fine : {r : Names Bound} {es : Exs} {k : ℕ} → Indices cells r es k → AllRefined es → (env : Env) → Fills r env →
        AllFine es env
    indices-fine no_index h env f = none-fine env
    indices-fine (one_index {e = e} {es = es} g i) h env f =
        more-fine e es env h (λ j. filled-fine g j env f) (λ j. indices-fine i j env f)

    -- The items behind generators are there.
    pub going-fine : {r t : Names Bound} {gs : Gens} → Going cells r gs t → GensRefined gs → (e : Ex) →
        ((here : Env) → Fills t here → Fine e here) → (env : Env) → Fills r env → ListFine e gs env
    going-fine at_end h e k env f = last-fine e env (k env f)
    going-fine (through {m = m} {a = a} {d = d} {gs = gs} n g) h e k env f =
        range-fine n a gs h e env f (λ i v. going-fine g i e k (with_pat (name_pat a) v env) (fills-more a m env f v))
    going-fine (through_slots {k = n} {a = a} {e = x} {gs = gs} c g) h e k env f = slots-fine a c e gs env
        (λ i l u. going-fine g (behind-slots x gs h) e k (with_pat (name_pat a) (number_value (pos i)) env) (fills-slots a n i env l u f))
    going-fine (among s g) h e k env f = absurd (source-unrefined h)
    going-fine (where_holds {c = c} {gs = gs} p g) h e k env f =
        cond-fine c e gs env h (λ i. filled-fine p i env f) (λ i. going-fine g i e k env f)

    -- So they are behind a range.
    range-fine : {r : Names Bound} {d : Dom} {m : Bool} → Range cells r d m → (a : Text) (gs : Gens) →
        GensRefined (over (name_pat a) d gs) → (e : Ex) (env : Env) → Fills r env → (GensRefined gs → (v : Value) → ListFine e gs (with_pat (name_pat a) v env)) →
        ListFine e (over (name_pat a) d gs) env
    range-fine truths a gs h e env f k = over-fine a _ e gs env (truths-fine env) (k (behind-truths h))
    range-fine (numbers {a = x} {b = y} p q) a gs h e env f k =
        let s = behind-range x y gs h in
        over-fine a _ e gs env (bounds-fine x y env (filled-fine p s.0 env f) (filled-fine q s.1 env f)) (k s.2)

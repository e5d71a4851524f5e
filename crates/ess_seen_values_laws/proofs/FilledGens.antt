-- Generators of a tree over views before others: at each of their bindings names have values, those over slots the number of one, and each
-- table of numbers has one at each slot.
use Rattle.std.proofs.Common.{refl, ℕ, Bool, List, ◌∷◌, Option, Some}
use Rattle.ess_semantics.specs.Values.{Text, Value}
use Rattle.ess_semantics.specs.Names.{Names}
use Rattle.ess_semantics.specs.Trees.{name_pat, Ex, Gens, no_gens, over, from, cond, Dom}
use Rattle.ess_semantics.specs.Typed.{Typed}
use Rattle.ess_semantics.specs.Meaning.{Env, meaning, domain_of, members_in, with_pat}
use Rattle.ess_semantics.specs.Contexts.{EachOf, EachIn, AtEach}
use Rattle.ess_semantics.specs.Meets.{Meets, MeetsGens}
use Rattle.ess_rules_laws.specs.SlotListings.{slots_dom}
use Rattle.ess_rules_laws.specs.SpliceRules.{append_gens}
use Rattle.ess_rules_laws.proofs.Bindings.{each-of-map, each-in-map, each-of-join, each-in-join}
use Rattle.ess_seen_laws.specs.Seen.{Kind, Bound, over_a_range, over_slots, from_a_set, bound_types, Counted, SetTerm, Range, Going, at_end, through, through_slots, among, where_holds}
use Rattle.ess_seen_laws.specs.Filled.{IsSlot, IsAt}
use Rattle.ess_seen_laws.proofs.Counts.{slots-each}
use Rattle.ess_seen_laws.proofs.Held.{slots-more, slot-at}
use Rattle.ess_seen_everywhere_laws.specs.Laws.{IsFilled}
use Rattle.ess_seen_everywhere_laws.proofs.Figures.{filled-more}
use Rattle.ess_seen_values_laws.proofs.DrawnNames.{drawn-typed}
use Rattle.ess_seen_values_laws.proofs.OpenedGens.{range-holds, slots-hold}

-- ---- one more name

module _ (cells : Text → Option (Bool × List ℕ)) where
  more-filled : (r : Names Bound) (env : Env) (a : Text) (b : Bound) (v : Value) → IsFilled cells r env →
      Typed (bound_types ((a, b) ∷ r)) (with_pat (name_pat a) v env) → IsAt b (Some v) →
      IsFilled cells ((a, b) ∷ r) (with_pat (name_pat a) v env)
  more-filled r env a b v f t i =
      record { typed = t; slots = slots-more r a b v env f.slots i; filled = filled-more cells a v env f.filled }

  -- ---- one generator

  range-filled : {r : Names Bound} {d : Dom} {m : Bool} (a : Text) → Range cells r d m → (env : Env) → IsFilled cells r env →
      EachOf (members_in (domain_of d env)) (λ v. IsFilled cells ((a, over_a_range m) ∷ r) (with_pat (name_pat a) v env))
  range-filled {r} {d} {m} a g env f =
      each-of-map (members_in (domain_of d env)) _ _ (λ v t. more-filled r env a (over_a_range m) v f t refl)
      (range-holds cells a g env f.typed)

  slots-filled : (r : Names Bound) {e : Ex} {k : ℕ} (a : Text) → Counted e k → (env : Env) → IsFilled cells r env →
      EachOf (members_in (domain_of (slots_dom e) env)) (λ v. IsFilled cells ((a, over_slots k) ∷ r) (with_pat (name_pat a) v env))
  slots-filled r {e} {k} a c env f =
      each-of-join (members_in (domain_of (slots_dom e) env)) _ (λ v. IsSlot k (Some v)) _
      (λ v t i. more-filled r env a (over_slots k) v f t i)
      (slots-hold cells r k a e env f.typed)
      (slots-each (λ v. IsSlot k (Some v)) c env (λ i l h. slot-at k i l h))

  drawn-filled : {r : Names Bound} {e : Ex} {k : Kind} (a : Text) → SetTerm cells r e k → (env : Env) → IsFilled cells r env →
      Meets e env → EachIn (meaning e env) (λ v. IsFilled cells ((a, from_a_set k) ∷ r) (with_pat (name_pat a) v env))
  drawn-filled {r} {e} {k} a s env f m =
      each-in-map (meaning e env) _ _ (λ v t. more-filled r env a (from_a_set k) v f t refl) (drawn-typed cells s a env f.typed m)

  -- ---- several

  -- So it is at each binding of generators, where tables meet the structures of these and of what stands behind them.
  pub filled-behind : {r t : Names Bound} {gs : Gens} → Going cells r gs t → (hs : Gens) (Q : Env → Type 0) (env : Env) →
      IsFilled cells r env → MeetsGens (append_gens gs hs) env Q → AtEach gs env (IsFilled cells t)
  filled-behind at_end hs Q env f m = f
  filled-behind (through {a = a} {d = d} g k) hs Q env f m = each-of-join (members_in (domain_of d env)) _ _ _
      (λ v u w. filled-behind k hs Q (with_pat (name_pat a) v env) u w) (range-filled a g env f) m.1
  filled-behind {r = r} (through_slots {a = a} {e = e} c k) hs Q env f m =
      each-of-join (members_in (domain_of (slots_dom e) env)) _ _ _
      (λ v u w. filled-behind k hs Q (with_pat (name_pat a) v env) u w) (slots-filled r a c env f) m.1
  filled-behind (among {a = a} {s = s} t k) hs Q env f m = each-in-join (meaning s env) _ _ _
      (λ v u w. filled-behind k hs Q (with_pat (name_pat a) v env) u w) (drawn-filled a t env f m.0) m.1
  filled-behind (where_holds c k) hs Q env f m = λ h. filled-behind k hs Q env f (m.1 h)

  -- Generators in two parts, and the names between these.
  pub record InTwo (r : Names Bound) (gs hs : Gens) (u : Names Bound) : Type 0 where
    pub around : Names Bound
    pub before : Going cells r gs around
    pub after : Going cells around hs u

  pub in-two : {r u : Names Bound} (gs hs : Gens) → Going cells r (append_gens gs hs) u → InTwo r gs hs u
  in-two {r = r} no_gens hs g = record { around = r; before = at_end; after = g }
  in-two (over p d gs) hs (through g k) =
      let o = in-two gs hs k in record { around = o.around; before = through g o.before; after = o.after }
  in-two (over p d gs) hs (through_slots c k) =
      let o = in-two gs hs k in record { around = o.around; before = through_slots c o.before; after = o.after }
  in-two (from p s gs) hs (among t k) =
      let o = in-two gs hs k in record { around = o.around; before = among t o.before; after = o.after }
  in-two (cond c gs) hs (where_holds f k) =
      let o = in-two gs hs k in record { around = o.around; before = where_holds f o.before; after = o.after }

-- Names have values, those over slots the number of one, wherever the context of a part holds.
use Rattle.std.proofs.Common.{◌≡◌, refl, subst, ℕ, ◌≤◌, Bool, true, false, if◌then◌else◌, List, ◌∷◌, pos, Option, Some}
use Rattle.ess_semantics.specs.Values.{Text, Value, number}
use Rattle.ess_semantics.specs.Order.{same_text}
use Rattle.ess_semantics.specs.Names.{Names, look}
use Rattle.ess_semantics.specs.Trees.{name_pat, Gens}
use Rattle.ess_semantics.specs.Meaning.{Env, meaning, domain_of, members_in, with_pat}
use Rattle.ess_semantics.specs.Contexts.{AtEach, Guarded}
use Rattle.ess_rules_laws.proofs.RuleAnswers.{each-in-any}
use Rattle.ess_rules_laws.proofs.MatrixRules.{each-of-any}
use Rattle.ess_seen_laws.specs.Seen.{Bound, over_a_range, over_slots, from_a_set, Going, at_end, through, through_slots, among, where_holds}
use Rattle.ess_seen_laws.specs.Filled.{IsSlot, IsAt, InSlots}
use Rattle.ess_seen_laws.proofs.Counts.{slots-each}

-- What is guarded holds where it holds at all.
pub guarded : (g : Bool) (o : Option Value) (X : Type 0) → X → Guarded g o X
guarded true o X x = λ q. x
guarded false o X x = x

same-bound : (b c : Bound) → Some b ≡ Some c → b ≡ c
same-bound b c q = cc

-- One more name has the value that it is given.
pub slots-more : (r : Names Bound) (a : Text) (b : Bound) (v : Value) (env : Env) → InSlots r env → IsAt b (Some v) →
    InSlots ((a, b) ∷ r) (with_pat (name_pat a) v env)
slots-more r a b v env h i x c q = go (same_text a x) (h x c) q
  where
    go : (w : Bool) → (look r x ≡ Some c → IsAt c (look env.vals x)) → (if w then Some b else look r x) ≡ Some c →
        IsAt c (if w then Some v else look env.vals x)
    go true f p = subst (λ d. IsAt d (Some v)) (same-bound b c p) i
    go false f p = f p

-- The number of a slot is one of its slots.
pub slot-at : (k i : ℕ) → 1 ≤ i → i ≤ k → IsSlot k (Some (number (pos i)))
slot-at k i l h = record { slot = i; first = l; last = h; is = refl }

-- At each binding of generators names have values so.
pub going-slots : {cells : Text → Option (Bool × List ℕ)} {r t : Names Bound} {gs : Gens} → Going cells r gs t → (env : Env)
    (Q : Env → Type 0) → InSlots r env → ((here : Env) → InSlots t here → Q here) → AtEach gs env Q
going-slots at_end env Q h f = f env h
going-slots {r = r} (through {m = m} {a = a} {d = d} {gs = gs} n g) env Q h f =
    each-of-any (members_in (domain_of d env)) (λ v. AtEach gs (with_pat (name_pat a) v env) Q)
    (λ v. going-slots g (with_pat (name_pat a) v env) Q (slots-more r a (over_a_range m) v env h refl) f)
going-slots {r = r} (through_slots {k = k} {a = a} {gs = gs} c g) env Q h f =
    slots-each (λ v. AtEach gs (with_pat (name_pat a) v env) Q) c env
    (λ i l u. going-slots g (with_pat (name_pat a) (number (pos i)) env) Q
    (slots-more r a (over_slots k) (number (pos i)) env h (slot-at k i l u)) f)
going-slots {r = r} (among {k = k} {a = a} {s = s} {gs = gs} v g) env Q h f =
    each-in-any (meaning s env) (λ w. AtEach gs (with_pat (name_pat a) w env) Q)
    (λ w. going-slots g (with_pat (name_pat a) w env) Q (slots-more r a (from_a_set k) w env h refl) f)
going-slots (where_holds c g) env Q h f = λ q. going-slots g env Q h f

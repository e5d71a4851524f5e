-- A cell of a number at slots of its table is there, where bound names have values and each table of numbers has one at each slot.
use Rattle.std.proofs.Common.{◌≡◌, refl, ap, ◌∙◌, subst, ℕ, Bool, true, false, if◌then◌else◌, List, [], ◌∷◌, map, ℤ, pos, Option, Some, None, option_map}
use Rattle.std.specs.Prelude.{IsTrue, is_some}
use Rattle.ess_semantics.specs.Lists.{all_some}
use Rattle.ess_semantics.specs.Values.{Text, Value, number}
use Rattle.ess_semantics.specs.Order.{same_text}
use Rattle.ess_semantics.specs.Names.{Names, look}
use Rattle.ess_semantics.specs.Tables.{code}
use Rattle.ess_semantics.specs.Trees.{name_pat, Exs, cell_ex}
use Rattle.ess_semantics.specs.Meaning.{Env, with_pat, meaning, meanings, indices, cell_in, cell_value}
use Rattle.ess_values_along_laws.specs.Valued.{AllValued}
use Rattle.ess_seen_laws.specs.Seen.{Bound, over_a_range, over_slots, from_a_set, Places, no_place, at_slot}
use Rattle.ess_seen_laws.specs.Filled.{IsSlot, IsAt, InSlots, AreSlots, no_slot, more_slots, AreFilled}

-- ---- bound names

-- A bound name has a value.
pub has-value : (b : Bound) (o : Option Value) → IsAt b o → IsTrue (is_some o)
has-value (over_slots k) o h = ap is_some h.is
has-value (over_a_range m) o h = h
has-value (from_a_set k) o h = h

-- So it is with a name more that has a value.
pub slots-more : (r : Names Bound) (a : Text) (b : Bound) (v : Value) (env : Env) → IsAt b (Some v) → InSlots r env →
    InSlots ((a, b) ∷ r) (with_pat (name_pat a) v env)
slots-more r a b v env t h x d q = go (same_text a x) q (h x d)
  where
    go : (y : Bool) → (if y then Some b else look r x) ≡ Some d → (look r x ≡ Some d → IsAt d (look env.vals x)) →
        IsAt d (if y then Some v else look env.vals x)
    go true q f = subst (λ z. IsAt z (Some v)) (let e : b ≡ d = cc in e) t
    go false q f = f q

-- No binding changes the tables.
pub filled-more : (cells : Text → Option (Bool × List ℕ)) (a : Text) (v : Value) (env : Env) → AreFilled cells env →
    AreFilled cells (with_pat (name_pat a) v env)
filled-more cells a v env f n ks q is s =
    let h = f n ks q is s in record { table = h.table; found = h.found; cell = h.cell; there = h.there }

-- ---- places

-- One index more.
index-more : (o : Option Value) (os : List (Option Value)) (i : ℕ) (is : List ℤ) → o ≡ Some (number (pos i)) → indices os ≡ Some is →
    indices (o ∷ os) ≡ Some (pos i ∷ is)
index-more o os i is e q = ap (λ z. indices (z ∷ os)) e ∙ go (all_some os) q
  where
    go : (p : Option (List Value)) → option_map (map code) p ≡ Some is →
        option_map (map code) (option_map (λ xs. number (pos i) ∷ xs) p) ≡ Some (pos i ∷ is)
    go None q = cc
    go (Some xs) q = ap (option_map (λ l. pos i ∷ l)) q

-- Where the indices of a view are, one at a slot of each axis.
pub record Placed (ks : List ℕ) (es : Exs) (env : Env) : Type 0 where
  pub are : List ℤ
  pub there : indices (meanings es env) ≡ Some are
  pub slots : AreSlots ks are

module _ (cells : Text → Option (Bool × List ℕ)) where
  -- So they are at slots.
  pub placed : {r : Names Bound} {es : Exs} {ks : List ℕ} → Places cells r es ks → (env : Env) → InSlots r env → Placed ks es env
  placed no_place env h = record { are = []; there = refl; slots = no_slot }
  placed (at_slot {a = a} {es = es} {k = k} q p) env h =
      let s : IsSlot k (look env.vals a) = h a (over_slots k) q in
      let t = placed p env h in
      record {
        are = pos s.slot ∷ t.are;
        there = index-more (look env.vals a) (meanings es env) s.slot t.are s.is t.there;
        slots = more_slots s.first s.last t.slots;
      }

  -- And each has a value.
  pub places-valued : {r : Names Bound} {es : Exs} {ks : List ℕ} → Places cells r es ks → (env : Env) → InSlots r env →
      AllValued false false es env
  places-valued no_place env h = tt
  places-valued (at_slot {a = a} {k = k} q p) env h =
      (has-value (over_slots k) (look env.vals a) (h a (over_slots k) q), places-valued p env h)

  -- The number is there.
  pub figure-there : {r : Names Bound} {n : Text} {ks : List ℕ} {es : Exs} → cells n ≡ Some (false, ks) → Places cells r es ks →
      (env : Env) → InSlots r env → AreFilled cells env → IsTrue (is_some (meaning (cell_ex false n es) env))
  figure-there {n = n} {ks = ks} {es = es} q p env h f =
      let t = placed p env h in
      let c = f n ks q t.are t.slots in
      ap is_some (ap (λ o. cell_in false o (indices (meanings es env))) c.found ∙ ap (λ o. cell_in false (Some c.table) o) t.there
      ∙ ap (option_map (cell_value false)) c.there)

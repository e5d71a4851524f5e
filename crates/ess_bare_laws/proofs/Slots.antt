-- What operands of a bare node are: each fills a slot of the node, and any others that fill these slots may stand in their place.
use Rattle.std.proofs.Common.{ℕ, suc, Bool, true, false, List, [], ◌∷◌, Option}
use Rattle.ess_semantics.specs.declared.words.Op2.{Op2}
use Rattle.ess_semantics.specs.declared.words.Fun.{Fun}
use Rattle.ess_semantics.specs.Values.{Text}
use Rattle.ess_semantics.specs.Names.{Names}
use Rattle.ess_semantics.specs.Trees.{unary, binary, word, Ex, Exs, node_ex, comp_ex, no_exs, more_exs, Gens}
use Rattle.ess_bare_laws.specs.Bare.{TruthWord, Bare, number, truth, named, cell, one, two, power, chosen, folded, added, ordered, Row, row, Ranging, Indices, no_index, one_index, Bounds, no_bound, one_bound}

-- A bare tree with a mark, a row of such, or a list of truth values.
pub data Slot : Type 0 where
  scalar_slot row_slot : Bool → Slot
  truths_slot : Slot

module _ (cells : Text → Option (Bool × ℕ)) where
  -- A list of truth values.
  pub data Truths : Names Bool → Ex → Type 0 where
    listed : {r t : Names Bool} {e : Ex} {gs : Gens} → Ranging cells r gs t → Bare cells t e true → Truths r (comp_ex e gs)

  -- The expression fills the slot.
  abbrev pub Fills : Names Bool → Slot → Ex → Type 0
  Fills r (scalar_slot m) e = Bare cells r e m
  Fills r (row_slot m) e = Row cells r e m
  Fills r truths_slot e = Truths r e

  -- Each of these fills its slot.
  abbrev pub AllFill : Names Bool → List Slot → Exs → Type 0
  AllFill r [] no_exs = Unit {0}
  AllFill r (k ∷ ks) (more_exs e es) = Fills r k e × AllFill r ks es
  AllFill r ks es = ⊥

  -- The expressions fill slots, and others that fill them have the property P too.
  abbrev pub Slotted : Names Bool → Exs → (Exs → Type 0) → Type 0
  Slotted r es P = (ks : List Slot) × AllFill r ks es × ((fs : Exs) → AllFill r ks fs → P fs)

  -- ---- one operand, and two

  one-slot : (r : Names Bool) (k : Slot) (P : Exs → Type 0) → ((x : Ex) → Fills r k x → P (more_exs x no_exs)) → (fs : Exs) →
      AllFill r (k ∷ []) fs → P fs
  one-slot r k P f no_exs h = absurd h
  one-slot r k P f (more_exs x no_exs) h = f x h.0
  one-slot r k P f (more_exs x (more_exs y ys)) h = absurd h.1

  two-slots : (r : Names Bool) (k j : Slot) (P : Exs → Type 0) →
      ((x y : Ex) → Fills r k x → Fills r j y → P (more_exs x (more_exs y no_exs))) → (fs : Exs) → AllFill r (k ∷ j ∷ []) fs → P fs
  two-slots r k j P f no_exs h = absurd h
  two-slots r k j P f (more_exs x no_exs) h = absurd h.1
  two-slots r k j P f (more_exs x (more_exs y no_exs)) h = f x y h.0 h.1.0
  two-slots r k j P f (more_exs x (more_exs y (more_exs z zs))) h = absurd h.1.1

  -- ---- nodes

  -- What is said of the operands of a node.
  abbrev pub NodeSlots : Names Bool → Ex → Bool → Type 0
  NodeSlots r (node_ex b op es) m = Slotted r es (λ fs. Bare cells r (node_ex b op fs) m)
  NodeSlots r e m = Unit {0}

  truths-again : {r : Names Bool} {f : Fun} → TruthWord f → (x : Ex) → Truths r x →
      Bare cells r (node_ex true (word f) (more_exs x no_exs)) true
  truths-again w x (listed g b) = folded w g b

  sum-again : {r : Names Bool} (x : Ex) → Row cells r x false → Bare cells r (node_ex false (word Fun.Sum) (more_exs x no_exs)) false
  sum-again x (row g b) = added g b

  -- The operands of a bare node fill slots.
  pub node-slots : {r : Names Bool} {e : Ex} {m : Bool} → Bare cells r e m → NodeSlots r e m
  node-slots number = tt
  node-slots truth = tt
  node-slots (named h) = tt
  node-slots (cell h i) = tt
  node-slots {r} (one {b = b} {m = k} {o = o} w f) = (
    scalar_slot k ∷ [],
    (f, tt),
    one-slot r (scalar_slot k) (λ fs. Bare cells r (node_ex b (unary o) fs) b) (λ x h. one w h),
  )
  node-slots {r} (two {b = b} {m = i} {k = k} {o = o} w f h) = (
    scalar_slot i ∷ scalar_slot k ∷ [],
    (f, (h, tt)),
    two-slots r (scalar_slot i) (scalar_slot k) (λ fs. Bare cells r (node_ex b (binary o) fs) b) (λ x y p q. two w p q),
  )
  node-slots {r} (power f h) = (
    scalar_slot false ∷ scalar_slot false ∷ [],
    (f, (h, tt)),
    two-slots r (scalar_slot false) (scalar_slot false) (λ fs. Bare cells r (node_ex false (binary Op2.Pow) fs) false)
        (λ x y p q. power p q),
  )
  node-slots {r} (chosen f) = (
    scalar_slot true ∷ [],
    (f, tt),
    one-slot r (scalar_slot true) (λ fs. Bare cells r (node_ex false (word Fun.ToInt) fs) false) (λ x h. chosen h),
  )
  node-slots {r} (folded {f = w} v g f) = (
    truths_slot ∷ [],
    (listed g f, tt),
    one-slot r truths_slot (λ fs. Bare cells r (node_ex true (word w) fs) true) (truths-again v),
  )
  node-slots {r} (added g f) = (
    row_slot false ∷ [],
    (row g f, tt),
    one-slot r (row_slot false) (λ fs. Bare cells r (node_ex false (word Fun.Sum) fs) false) sum-again,
  )
  node-slots {r} (ordered {m = m} {o = o} w f h) = (
    row_slot m ∷ row_slot m ∷ [],
    (f, (h, tt)),
    two-slots r (row_slot m) (row_slot m) (λ fs. Bare cells r (node_ex true (binary o) fs) true) (λ x y p q. ordered w p q),
  )

  -- ---- indices and bounds

  indices-again : {r : Names Bool} {k : ℕ} (m : Bool) (ks : List Slot) → ((fs : Exs) → AllFill r ks fs → Indices cells r fs k) →
      (fs : Exs) → AllFill r (scalar_slot m ∷ ks) fs → Indices cells r fs (suc k)
  indices-again m ks f no_exs h = absurd h
  indices-again m ks f (more_exs x xs) h = one_index h.0 (f xs h.1)

  none-again : {r : Names Bool} → (fs : Exs) → AllFill r [] fs → Indices cells r fs 0
  none-again no_exs h = no_index
  none-again (more_exs x xs) h = absurd h

  -- Indices fill slots.
  pub index-slots : {r : Names Bool} {es : Exs} {k : ℕ} → Indices cells r es k → Slotted r es (λ fs. Indices cells r fs k)
  index-slots no_index = ([], tt, none-again)
  index-slots (one_index {m = m} f i) =
      let v = index-slots i in (scalar_slot m ∷ v.0, (f, v.1), indices-again m v.0 v.2)

  bounds-again : {r : Names Bool} (ks : List Slot) → ((fs : Exs) → AllFill r ks fs → Bounds cells r fs) →
      (fs : Exs) → AllFill r (scalar_slot false ∷ ks) fs → Bounds cells r fs
  bounds-again ks f no_exs h = absurd h
  bounds-again ks f (more_exs x xs) h = one_bound h.0 (f xs h.1)

  no-bounds-again : {r : Names Bool} → (fs : Exs) → AllFill r [] fs → Bounds cells r fs
  no-bounds-again no_exs h = no_bound
  no-bounds-again (more_exs x xs) h = absurd h

  -- Bounds fill slots.
  pub bound-slots : {r : Names Bool} {es : Exs} → Bounds cells r es → Slotted r es (λ fs. Bounds cells r fs)
  bound-slots no_bound = ([], tt, no-bounds-again)
  bound-slots (one_bound f i) = let v = bound-slots i in (scalar_slot false ∷ v.0, (f, v.1), bounds-again v.0 v.2)

-- What operands of a node over views are: each fills a slot of the node, and any others that fill these slots may stand in their place; or
-- no rule fires at any of them.
use Rattle.std.proofs.Common.{ℕ, suc, Bool, true, false, List, [], ◌∷◌, Option}
use Rattle.ess_semantics.specs.declared.words.Op1.{Op1}
use Rattle.ess_semantics.specs.declared.words.Op2.{Op2}
use Rattle.ess_semantics.specs.declared.words.Fun.{Fun}
use Rattle.ess_semantics.specs.Values.{Text}
use Rattle.ess_semantics.specs.Names.{Names}
use Rattle.ess_semantics.specs.Trees.{both_ends, unary, binary, word, Ex, Exs, node_ex, seen_ex, no_exs, more_exs, Dom, bool_dom, int_dom}
use Rattle.ess_bare_laws.specs.Lean.{FoldWord}
use Rattle.ess_seen_laws.specs.Seen.{Kind, scalars, sets_of, Bound, Counted, so_many, from_to, from_0, subsets, none_below, SetTerm, view, drawn, combined, Seen, number, truth, named, counted, figure, flag, atom, one, two, chosen, folded, of_items, size, within, set_within, compared, Listed, last_item, item_before, Indices, no_index, one_index, Range, truths, numbers}
use Rattle.ess_seen_laws.specs.SeenParts.{Items, gone_through, items_listed}
use Rattle.ess_seen_laws.proofs.Written.{Written, keeps-written}
use Rattle.ess_seen_laws.proofs.ViewParts.{AreStill, places-are-still, counted-parts}

-- A scalar with a mark, a list of scalars with a mark, or a set of members of a kind.
pub data Slot : Type 0 where
  scalar_slot list_slot : Bool → Slot
  set_slot : Kind → Slot

module _ (cells : Text → Option (Bool × List ℕ)) where
  -- The expression fills the slot.
  abbrev pub Fills : Names Bound → Slot → Ex → Type 0
  Fills r (scalar_slot m) e = Seen cells r e m
  Fills r (list_slot m) e = Items cells r e m
  Fills r (set_slot k) e = SetTerm cells r e k

  -- Each of these fills its slot.
  abbrev pub AllFill : Names Bound → List Slot → Exs → Type 0
  AllFill r [] no_exs = Unit {0}
  AllFill r (k ∷ ks) (more_exs e es) = Fills r k e × AllFill r ks es
  AllFill r ks es = ⊥

  -- The expressions fill slots, and others that fill them have the property P too.
  abbrev pub Slotted : Names Bound → Exs → (Exs → Type 0) → Type 0
  Slotted r es P = (ks : List Slot) × AllFill r ks es × ((fs : Exs) → AllFill r ks fs → P fs)

  -- Or no rule fires at any of them.
  pub data Operands (r : Names Bound) (es : Exs) (P : Exs → Type 0) : Type 0 where
    slotted : Slotted r es P → Operands r es P
    all_still : AreStill r es → Operands r es P

  -- ---- one operand, and two

  one-slot : (r : Names Bound) (k : Slot) (P : Exs → Type 0) → ((x : Ex) → Fills r k x → P (more_exs x no_exs)) → (fs : Exs) →
      AllFill r (k ∷ []) fs → P fs
  one-slot r k P f no_exs h = absurd h
  one-slot r k P f (more_exs x no_exs) h = f x h.0
  one-slot r k P f (more_exs x (more_exs y ys)) h = absurd h.1

  two-slots : (r : Names Bound) (k j : Slot) (P : Exs → Type 0) →
      ((x y : Ex) → Fills r k x → Fills r j y → P (more_exs x (more_exs y no_exs))) → (fs : Exs) → AllFill r (k ∷ j ∷ []) fs → P fs
  two-slots r k j P f no_exs h = absurd h
  two-slots r k j P f (more_exs x no_exs) h = absurd h.1
  two-slots r k j P f (more_exs x (more_exs y no_exs)) h = f x y h.0 h.1.0
  two-slots r k j P f (more_exs x (more_exs y (more_exs z zs))) h = absurd h.1.1

  -- ---- nodes

  -- What is said of the operands of a scalar node, of a set that is made of two, and of a list of items.
  abbrev pub NodeSlots : Names Bound → Ex → Bool → Type 0
  NodeSlots r (node_ex b op es) m = Operands r es (λ fs. Seen cells r (node_ex b op fs) m)
  NodeSlots r e m = Unit {0}

  abbrev pub SetSlots : Names Bound → Ex → Kind → Type 0
  SetSlots r (node_ex b op es) k = Slotted r es (λ fs. SetTerm cells r (node_ex b op fs) k)
  SetSlots r e k = Unit {0}

  abbrev pub ListSlots : Names Bound → Ex → Bool → Type 0
  ListSlots r (node_ex b op es) m = Slotted r es (λ fs. Items cells r (node_ex b op fs) m)
  ListSlots r e m = Unit {0}

  -- A word of a list.
  fold-again : {r : Names Bound} {m : Bool} {f : Fun} → FoldWord m f → (x : Ex) → Items cells r x m →
      Seen cells r (node_ex m (word f) (more_exs x no_exs)) m
  fold-again w x (gone_through g b) = folded w g b
  fold-again w x (items_listed l) = of_items w l

  fold-slots : {r : Names Bound} {m : Bool} {f : Fun} {x : Ex} → FoldWord m f → Items cells r x m →
      Operands r (more_exs x no_exs) (λ fs. Seen cells r (node_ex m (word f) fs) m)
  fold-slots {r} {m} {f} w i = slotted (
    list_slot m ∷ [],
    (i, tt),
    one-slot r (list_slot m) (λ fs. Seen cells r (node_ex m (word f) fs) m) (λ x h. fold-again w x h),
  )

  -- What a number of slots is made of.
  counted-slots : {e : Ex} {k : ℕ} (r : Names Bound) → Counted e k → NodeSlots r e false
  counted-slots r so_many = tt
  counted-slots r (from_to q) = all_still (counted-parts r (from_to q))
  counted-slots r from_0 = all_still (counted-parts r from_0)
  counted-slots r (subsets c) = all_still (counted-parts r (subsets c))
  counted-slots r (none_below c) = all_still (counted-parts r (none_below c))

  -- The operands of a scalar node are such.
  pub node-slots : {r : Names Bound} {e : Ex} {m : Bool} → Seen cells r e m → NodeSlots r e m
  node-slots number = tt
  node-slots truth = tt
  node-slots (named h k) = tt
  node-slots {r} (counted c) = counted-slots r c
  node-slots (figure h p) = tt
  node-slots (flag h i) = tt
  node-slots (atom k p) = tt
  node-slots {r} (one {b = b} {m = k} {o = o} w f) = slotted (
    scalar_slot k ∷ [],
    (f, tt),
    one-slot r (scalar_slot k) (λ fs. Seen cells r (node_ex b (unary o) fs) b) (λ x h. one w h),
  )
  node-slots {r} (two {b = b} {m = i} {k = k} {o = o} w f h) = slotted (
    scalar_slot i ∷ scalar_slot k ∷ [],
    (f, (h, tt)),
    two-slots r (scalar_slot i) (scalar_slot k) (λ fs. Seen cells r (node_ex b (binary o) fs) b) (λ x y p q. two w p q),
  )
  node-slots {r} (chosen f) = slotted (
    scalar_slot true ∷ [],
    (f, tt),
    one-slot r (scalar_slot true) (λ fs. Seen cells r (node_ex false (word Fun.ToInt) fs) false) (λ x h. chosen h),
  )
  node-slots (folded v g f) = fold-slots v (gone_through g f)
  node-slots (of_items v l) = fold-slots v (items_listed l)
  node-slots {r} (size {k = k} s) = slotted (
    set_slot k ∷ [],
    (s, tt),
    one-slot r (set_slot k) (λ fs. Seen cells r (node_ex false (unary Op1.Bar) fs) false) (λ x h. size h),
  )
  node-slots {r} (within {m = m} f s) = slotted (
    scalar_slot m ∷ set_slot (scalars m) ∷ [],
    (f, (s, tt)),
    two-slots r (scalar_slot m) (set_slot (scalars m)) (λ fs. Seen cells r (node_ex true (binary Op2.Member) fs) true)
        (λ x y p q. within p q),
  )
  node-slots {r} (set_within {k = k} u v) = slotted (
    set_slot k ∷ set_slot (sets_of k) ∷ [],
    (u, (v, tt)),
    two-slots r (set_slot k) (set_slot (sets_of k)) (λ fs. Seen cells r (node_ex true (binary Op2.Member) fs) true)
        (λ x y p q. set_within p q),
  )
  node-slots {r} (compared {o = o} {k = k} c u v) = slotted (
    set_slot k ∷ set_slot k ∷ [],
    (u, (v, tt)),
    two-slots r (set_slot k) (set_slot k) (λ fs. Seen cells r (node_ex true (binary o) fs) true) (λ x y p q. compared c p q),
  )

  -- So do those of a set that is made of two.
  pub set-slots : {r : Names Bound} {e : Ex} {k : Kind} → SetTerm cells r e k → SetSlots r e k
  set-slots (view n f h p) = tt
  set-slots (drawn q) = tt
  set-slots {r} (combined {o = o} {k = k} c u v) = (
    set_slot k ∷ set_slot k ∷ [],
    (u, (v, tt)),
    two-slots r (set_slot k) (set_slot k) (λ fs. SetTerm cells r (node_ex false (binary o) fs) k) (λ x y p q. combined c p q),
  )

  last-again : {r : Names Bound} (m : Bool) → (fs : Exs) → AllFill r (scalar_slot m ∷ []) fs → Listed cells r fs m
  last-again m no_exs h = absurd h
  last-again m (more_exs x no_exs) h = last_item h.0
  last-again m (more_exs x (more_exs y ys)) h = absurd h.1

  before-again : {r : Names Bound} (m : Bool) (ks : List Slot) → ((fs : Exs) → AllFill r ks fs → Listed cells r fs m) →
      (fs : Exs) → AllFill r (scalar_slot m ∷ ks) fs → Listed cells r fs m
  before-again m ks f no_exs h = absurd h
  before-again m ks f (more_exs x xs) h = item_before h.0 (f xs h.1)

  -- So do items.
  pub listed-slots : {r : Names Bound} {es : Exs} {m : Bool} → Listed cells r es m → Slotted r es (λ fs. Listed cells r fs m)
  listed-slots (last_item {m = m} f) = (scalar_slot m ∷ [], (f, tt), last-again m)
  listed-slots (item_before {m = m} f l) = let v = listed-slots l in (scalar_slot m ∷ v.0, (f, v.1), before-again m v.0 v.2)

  slotted-map : {r : Names Bound} {es : Exs} {P Q : Exs → Type 0} → ((fs : Exs) → P fs → Q fs) → Slotted r es P → Slotted r es Q
  slotted-map g v = (v.0, v.1, λ fs h. g fs (v.2 fs h))

  -- So do those of a list of items.
  pub list-slots : {r : Names Bound} {e : Ex} {m : Bool} → Items cells r e m → ListSlots r e m
  list-slots (gone_through g f) = tt
  list-slots (items_listed l) = slotted-map (λ fs h. items_listed h) (listed-slots l)

  -- ---- indices and ranges

  indices-again : {r : Names Bound} {k : ℕ} (m : Bool) (ks : List Slot) → ((fs : Exs) → AllFill r ks fs → Indices cells r fs k) →
      (fs : Exs) → AllFill r (scalar_slot m ∷ ks) fs → Indices cells r fs (suc k)
  indices-again m ks f no_exs h = absurd h
  indices-again m ks f (more_exs x xs) h = one_index h.0 (f xs h.1)

  none-again : {r : Names Bound} → (fs : Exs) → AllFill r [] fs → Indices cells r fs 0
  none-again no_exs h = no_index
  none-again (more_exs x xs) h = absurd h

  -- Indices fill slots.
  pub index-slots : {r : Names Bound} {es : Exs} {k : ℕ} → Indices cells r es k → Slotted r es (λ fs. Indices cells r fs k)
  index-slots no_index = ([], tt, none-again)
  index-slots (one_index {m = m} f i) =
      let v = index-slots i in (scalar_slot m ∷ v.0, (f, v.1), indices-again m v.0 v.2)

  -- The bounds of a range fill slots.
  abbrev pub RangeSlots : Names Bound → Dom → Bool → Type 0
  RangeSlots r bool_dom m = Unit {0}
  RangeSlots r (int_dom rs es) m = Slotted r es (λ fs. Range cells r (int_dom rs fs) m)
  RangeSlots r d m = ⊥

  pub range-slots : {r : Names Bound} {d : Dom} {m : Bool} → Range cells r d m → RangeSlots r d m
  range-slots truths = tt
  range-slots {r} (numbers f g) = (
    scalar_slot false ∷ scalar_slot false ∷ [],
    (f, (g, tt)),
    two-slots r (scalar_slot false) (scalar_slot false) (λ fs. Range cells r (int_dom (both_ends ∷ []) fs) false)
        (λ x y p q. numbers p q),
  )

  -- ---- views

  -- The domain of a view is written, and no rule fires at its indices.
  abbrev pub ViewParts : Names Bound → Ex → Type 0
  ViewParts r (seen_ex s d ns es) = Written d × AreStill r es
  ViewParts r e = Unit {0}

  counted-view : {e : Ex} {k : ℕ} (r : Names Bound) → Counted e k → ViewParts r e
  counted-view r so_many = tt
  counted-view r (from_to q) = tt
  counted-view r from_0 = tt
  counted-view r (subsets c) = tt
  counted-view r (none_below c) = tt

  pub atom-parts : {r : Names Bound} {e : Ex} {m : Bool} → Seen cells r e m → ViewParts r e
  atom-parts (atom h p) = (keeps-written h, places-are-still p)
  atom-parts number = tt
  atom-parts truth = tt
  atom-parts (named h k) = tt
  atom-parts {r} (counted c) = counted-view r c
  atom-parts (figure h p) = tt
  atom-parts (flag h i) = tt
  atom-parts (one w f) = tt
  atom-parts (two w f h) = tt
  atom-parts (chosen f) = tt
  atom-parts (folded v g f) = tt
  atom-parts (of_items v l) = tt
  atom-parts (size s) = tt
  atom-parts (within f s) = tt
  atom-parts (set_within u v) = tt
  atom-parts (compared c u v) = tt

  pub set-parts : {r : Names Bound} {e : Ex} {k : Kind} → SetTerm cells r e k → ViewParts r e
  set-parts (view n f h p) = (keeps-written h, places-are-still p)
  set-parts (drawn q) = tt
  set-parts (combined c u v) = tt

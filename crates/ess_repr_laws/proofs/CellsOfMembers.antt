-- What is shown of the canonical cells of a member, and slots that hold such cells.
use Rattle.ess_semantics.specs.declared.words.ReprKind.{ReprKind}
use Rattle.std.proofs.Common.{◌≡◌, refl, sym, ap, ◌∙◌, ℕ, zero, suc, true, List, [], ◌∷◌, ◌++◌, map, take, drop, length, ℤ, Option, Some, None, option_map, append-nil, Bool, false, subst}
use Rattle.ess_semantics.specs.Lists.{and_then, each_of}
use Rattle.ess_semantics.specs.Values.{Value}
use Rattle.ess_semantics.specs.Trees.{Repr, Reprs, repr, no_reprs, more_reprs}
use Rattle.ess_semantics.specs.Domains.{Domain}
use Rattle.ess_semantics.specs.Membership.{member}
use Rattle.ess_semantics.specs.Tables.{Tables}
use Rattle.ess_semantics.specs.Cells.{Cells, behind, cells_of, tables_over}
use Rattle.ess_semantics.specs.Layers.{Slot}
use Rattle.ess_semantics.specs.Representations.{width, value_of_cells, value_of_tables, layer}
use Rattle.ess_semantics.specs.Declarations.{axes_of}
use Rattle.ess_semantics.specs.Canonical.{somes, cells_or, canonical_slots, canonical_cells, tables_of_value}
use Rattle.ess_semantics.specs.CanonicalTest.{canonical}
use Rattle.ess_semantics.specs.Tidy.{over_axes}
use Rattle.ess_repr_laws.specs.CanonicalTables.{is_compound}
use Rattle.ess_repr_laws.proofs.CanonicalPlaces.{AllOf}
use Rattle.ess_repr_laws.proofs.Behind.{behind-none}
use Rattle.ess_repr_laws.proofs.ExactCells.{AllExact, exact-length, exact-tables, over-axes}
use Rattle.ess_repr_laws.proofs.SideBySide.{Along}
use Rattle.ess_repr_laws.proofs.PlacedSlots.{SlotExact}

-- A value is a member where it is there.
abbrev pub Inside : Domain → Option Value → Type 0
Inside e None = Unit {0}
Inside e (Some v) = member e v ≡ true

-- The values of an only child are its members.
abbrev pub ChildInside : List Domain → List (List (Option Value)) → Type 0
ChildInside (e ∷ []) (vs ∷ []) = AllOf vs (Inside e)
ChildInside es vss = Unit {0}

-- What is said where a test fails.
abbrev pub Unless : Bool → Type 0 → Type 0
Unless true T = Unit {0}
Unless false T = T

-- It is said where it holds.
pub unless : {T : Type 0} (b : Bool) → T → Unless b T
unless true t = tt
unless false t = t

-- The inner values of a layer with one child are members of the child's domain.
abbrev pub InnerInside : Repr → Domain → Value → Type 0
InnerInside (repr k (more_reprs r no_reprs)) d v =
    Unless (is_compound k) (elim (layer k d) as (λ o. Type 0) [ None ↦ Unit {0} | Some l ↦ ChildInside l.children (l.contents v) ])
InnerInside r d v = Unit {0}

-- Nothing is said of components.
pub compound-inner : (k : ReprKind) (rs : Reprs) (d : Domain) (v : Value) → is_compound k ≡ true → InnerInside (repr k rs) d v
compound-inner k no_reprs d v e = tt
compound-inner k (more_reprs r (more_reprs q rs)) d v e = tt
compound-inner k (more_reprs r no_reprs) d v e = subst (λ b. Unless b (elim (layer k d) as (λ o. Type 0) [ None ↦ Unit {0} | Some l ↦ ChildInside l.children (l.contents v) ])) (sym e) tt

-- The canonical cells of a value: they are there, exactly over the axes, they are canonical, and stand for the value. Inner
-- values are members.
pub record HasCells (r : Repr) (d : Domain) (v : Value) : Type 0 where
  pub cells : Cells
  pub there : canonical_cells r d v ≡ Some cells
  pub exact : AllExact (axes_of r d) cells
  pub passes : canonical r d cells ≡ true
  pub stands : value_of_cells r d cells ≡ Some v
  pub inner : InnerInside r d v

-- So for each member of a domain.
pub record MembersHaveCells (r : Repr) (d : Domain) : Type 0 where
  pub wide : length (axes_of r d) ≡ width r
  pub of_member : (v : Value) → member d v ≡ true → HasCells r d v

-- The same of tables.
pub record HasTables (r : Repr) (d : Domain) (v : Value) : Type 0 where
  pub tables : Tables
  pub cells : Cells
  pub made : tables ≡ tables_over (axes_of r d) cells
  pub ready : canonical r d cells ≡ true
  pub there : tables_of_value r d v ≡ Some tables
  pub over : over_axes [] (axes_of r d) tables ≡ true
  pub passes : canonical r d (cells_of tables) ≡ true
  pub stands : value_of_tables r d tables [] ≡ Some v

-- Canonical cells make canonical tables.
pub cells-tables : (r : Repr) (d : Domain) (v : Value) → HasCells r d v → HasTables r d v
cells-tables r d v h =
    let e = exact-tables (axes_of r d) h.cells h.exact in
    record {
      tables = tables_over (axes_of r d) h.cells;
      cells = h.cells;
      made = refl;
      ready = h.passes;
      there = ap (option_map (tables_over (axes_of r d))) h.there;
      over = over-axes (axes_of r d) h.cells (exact-length (axes_of r d) h.cells h.exact);
      passes = ap (canonical r d) e ∙ h.passes;
      stands = ap (value_of_cells r d) (behind-none (cells_of (tables_over (axes_of r d) h.cells)) ∙ e) ∙ h.stands;
    }

-- ---- parts of cells

-- The first cells of two lists.
pub take-front : (n : ℕ) (c c' : Cells) → length c ≡ n → take n (c ++ c') ≡ c
take-front zero [] c' e = refl
take-front zero (f ∷ fs) c' e = cc
take-front (suc n) [] c' e = cc
take-front (suc n) (f ∷ fs) c' e = let e' : length fs ≡ n = cc in ap (λ l. f ∷ l) (take-front n fs c' e')

-- The cells behind them.
pub drop-front : (n : ℕ) (c c' : Cells) → length c ≡ n → drop n (c ++ c') ≡ c'
drop-front zero [] c' e = refl
drop-front zero (f ∷ fs) c' e = cc
drop-front (suc n) [] c' e = cc
drop-front (suc n) (f ∷ fs) c' e = let e' : length fs ≡ n = cc in drop-front n fs c' e'

-- All cells are the first ones.
pub take-whole : (n : ℕ) (c : Cells) → length c ≡ n → take n c ≡ c
take-whole n c e = ap (take n) (sym (append-nil c)) ∙ take-front n c [] e

-- Nothing is behind them.
pub drop-whole : (n : ℕ) (c : Cells) → length c ≡ n → drop n c ≡ []
drop-whole n c e = ap (drop n) (sym (append-nil c)) ∙ drop-front n c [] e

-- A list of images is as long.
pub map-long : {A B : Type 0} (f : A → B) (xs : List A) → length (map f xs) ≡ length xs
map-long f [] = refl
map-long f (x ∷ xs) = ap suc (map-long f xs)

-- ---- slots

-- the slot holds canonical cells that stand for its value
abbrev pub GoodSlot : Repr → Domain → Slot → Type 0
GoodSlot r e s = AllExact (axes_of r e) s.1 × (canonical r e s.1 ≡ true) × (value_of_cells r e s.1 ≡ Some s.0)

-- The same where there is a slot.
abbrev pub Good : Repr → Domain → Option Slot → Type 0
Good r e None = Unit {0}
Good r e (Some s) = GoodSlot r e s

-- a slot with good cells for a value that is there
abbrev pub Kept : Repr → Domain → Option Value → Option Slot → Type 0
Kept r e None None = Unit {0}
Kept r e (Some v) (Some s) = (s.0 ≡ v) × GoodSlot r e s
Kept r e _ _ = ⊥

-- The slots of values, each with canonical cells, where the values are members.
pub record Slots (r : Repr) (e : Domain) (vs : List (Option Value)) : Type 0 where
  pub slots : List (Option Slot)
  pub there : canonical_slots vs (canonical_cells r e) ≡ Some slots
  pub kept : Along vs slots (Kept r e)
  pub inside : AllOf vs (Inside e)

-- Members have slots.
pub slots-there : (r : Repr) (e : Domain) → ((v : Value) → member e v ≡ true → HasCells r e v) → (vs : List (Option Value)) → AllOf vs (Inside e) → Slots r e vs
slots-there r e of_member [] h = record { slots = []; there = refl; kept = tt; inside = tt }
slots-there r e of_member (None ∷ vs) h =
    let x = slots-there r e of_member vs h.1 in
    record { slots = None ∷ x.slots; there = ap (option_map (λ ss. None ∷ ss)) x.there; kept = (tt, x.kept); inside = h }
slots-there r e of_member (Some v ∷ vs) h =
    let x = slots-there r e of_member vs h.1 in
    let y = of_member v h.0 in
    record {
      slots = Some (v, y.cells) ∷ x.slots;
      there = ap (λ o. and_then o (λ c. option_map (λ ss. Some (v, c) ∷ ss) (canonical_slots vs (canonical_cells r e)))) y.there ∙ ap (option_map (λ ss. Some (v, y.cells) ∷ ss)) x.there;
      kept = ((refl, (y.exact, y.passes, y.stands)), x.kept);
      inside = h;
    }

-- Slots for values are good.
pub kept-good : (r : Repr) (e : Domain) (vs : List (Option Value)) (ss : List (Option Slot)) → Along vs ss (Kept r e) → AllOf ss (Good r e)
kept-good r e [] [] h = tt
kept-good r e (None ∷ vs) (None ∷ ss) h = (tt, kept-good r e vs ss h.1)
kept-good r e (Some v ∷ vs) (Some s ∷ ss) h = (h.0.1, kept-good r e vs ss h.1)
kept-good r e (None ∷ vs) (Some s ∷ ss) h = absurd h.0
kept-good r e (Some v ∷ vs) (None ∷ ss) h = absurd h.0
kept-good r e [] (s ∷ ss) h = absurd h
kept-good r e (v ∷ vs) [] h = absurd h

-- the values of slots
abbrev pub values_in : List (Option Slot) → List Value
values_in ss = map (λ s. s.0) (somes ss)

-- The values in them are those values.
pub kept-values : (r : Repr) (e : Domain) (vs : List (Option Value)) (ss : List (Option Slot)) → Along vs ss (Kept r e) → values_in ss ≡ somes vs
kept-values r e [] [] h = refl
kept-values r e (None ∷ vs) (None ∷ ss) h = kept-values r e vs ss h.1
kept-values r e (Some v ∷ vs) (Some s ∷ ss) h = ap (λ w. w ∷ values_in ss) h.0.0 ∙ ap (λ l. v ∷ l) (kept-values r e vs ss h.1)
kept-values r e (None ∷ vs) (Some s ∷ ss) h = absurd h.0
kept-values r e (Some v ∷ vs) (None ∷ ss) h = absurd h.0
kept-values r e [] (s ∷ ss) h = absurd h
kept-values r e (v ∷ vs) [] h = absurd h

-- A good slot has exactly the cells of its axes.
pub good-exact : (r : Repr) (e : Domain) (s : Option Slot) → Good r e s → SlotExact (axes_of r e) s
good-exact r e None h = tt
good-exact r e (Some s) h = h.0

-- the places of the slots that are there
abbrev pub picked : {A B : Type 0} → List A → List (Option B) → List A
picked [] ss = []
picked (p ∷ ps) [] = []
picked (p ∷ ps) (None ∷ ss) = picked ps ss
picked (p ∷ ps) (Some s ∷ ss) = p ∷ picked ps ss

-- the values at these places are those of the slots
pub picked-values : (r : Repr) (e : Domain) (z inner : Cells) (ps : List (List ℤ)) (ss : List (Option Slot)) → AllOf ss (Good r e) → Along ps ss (λ p s. behind p inner ≡ cells_or z s) →
    each_of (picked ps ss) (λ j. value_of_cells r e (behind j inner)) ≡ Some (values_in ss)
picked-values r e z inner [] [] g h = refl
picked-values r e z inner (p ∷ ps) (None ∷ ss) g h = picked-values r e z inner ps ss g.1 h.1
picked-values r e z inner (p ∷ ps) (Some s ∷ ss) g h =
    ap (λ o. and_then o (λ y. option_map (λ ys. y ∷ ys) (each_of (picked ps ss) (λ j. value_of_cells r e (behind j inner))))) (ap (value_of_cells r e) h.0 ∙ g.0.2)
    ∙ ap (option_map (λ ys. s.0 ∷ ys)) (picked-values r e z inner ps ss g.1 h.1)
picked-values r e z inner [] (s ∷ ss) g h = absurd h
picked-values r e z inner (p ∷ ps) [] g h = absurd h

-- The law of constraints over scalars, ranges and nested sets, stated at a function that does nothing.
use Rattle.std.specs.Prelude.{◌≡◌, ℕ, ◌+◌, ◌≤◌, ◌^◌, Bool, true, false, List, [], ℤ, Option, Some, None}
use Rattle.std.specs.List.{list_all}
use Rattle.ess_semantics.specs.Values.{Text, Value, number, truth}
use Rattle.ess_semantics.specs.Names.{look}
use Rattle.ess_semantics.specs.Kinds.{fits}
use Rattle.ess_semantics.specs.Trees.{Mark, Repr, Ex, Exs, cell_ex, seen_ex, no_exs, Dom, set_dom}
use Rattle.ess_semantics.specs.Meaning.{Env, meaning}
use Rattle.ess_semantics.specs.Meets.{Meets}
use Rattle.ess_semantics.specs.Scoped.{Scoped}
use Rattle.ess_refine_laws.specs.SpellingEnds.{numbers_of_tree}
use Rattle.ess_values_along_laws.specs.Valued.{Valued}
use Rattle.ess_nested_laws.specs.NestedDomains.{is_nested_dom}
use Rattle.conjure_model_laws.specs.ToldApart.{reserved, told}
use Rattle.conjure_model_laws.specs.Shown.{Shows, in_place}
use Rattle.conjure_model_laws.specs.IsBuiltFrom.{constraint_tree}
use Rattle.conjure_model_laws.specs.Printed.{binders}
use Rattle.ess_depth_laws.specs.Below.{HasNamesBelow}
use Rattle.ess_seen_laws.specs.Seen.{Kind, kind_of, Keeps, Seen}
use Rattle.ess_setwise_laws.specs.Setwise.{setwise_mark}

-- ---- what is shown

-- A view of a set, with members of this kind, that is kept by these tables.
pub record IsSetView (cells : Text → Option (Bool × List ℕ)) (e : Ex) (k : Kind) : Type 0 where
  pub way : Repr
  pub attributes : List Mark
  pub sizes : Exs
  pub inner : Dom
  pub tables : List Text
  pub is : e ≡ seen_ex way (set_dom attributes sizes inner) tables no_exs
  pub nested : is_nested_dom (set_dom attributes sizes inner) ≡ true
  pub fit : fits way (set_dom attributes sizes inner) ≡ true
  pub kept : Keeps cells [] way (set_dom attributes sizes inner) tables
  pub kind : kind_of inner ≡ k

-- For each scalar a single cell with its mark is shown, and for each set views; for reserved names nothing is.
pub record ShowsSets (sh : Shows) (marks : Text → Option Bool) (sets : Text → Option Kind)
    (cells : Text → Option (Bool × List ℕ)) : Type 0 where
  pub single : (a : Text) (m : Bool) → marks a ≡ Some m →
      (n : Text) × (in_place sh.first a ≡ cell_ex m n no_exs) × (cells n ≡ Some (m, []))
  pub first : (a : Text) (k : Kind) → sets a ≡ Some k → IsSetView cells (in_place sh.first a) k
  pub last : (a : Text) (k : Kind) → sets a ≡ Some k → IsSetView cells (in_place sh.last a) k
  pub spares_first : (j : ℕ) → look sh.first (reserved j) ≡ None
  pub spares_last : (j : ℕ) → look sh.last (reserved j) ≡ None

-- Cells have the values of names.
pub record HoldsNames (sh : Shows) (names : Text → Option Bool) (env there : Env) : Type 0 where
  pub holds : (a : Text) (m : Bool) → names a ≡ Some m → meaning (in_place sh.first a) there ≡ look env.vals a

-- Views have the values of sets.
pub record HoldsSets (sh : Shows) (sets : Text → Option Kind) (env there : Env) : Type 0 where
  pub first : (a : Text) (k : Kind) → sets a ≡ Some k → meaning (in_place sh.first a) there ≡ look env.vals a
  pub last : (a : Text) (k : Kind) → sets a ≡ Some k → meaning (in_place sh.last a) there ≡ look env.vals a

-- A value of a mark: a truth value or a number.
pub data HasMark : Bool → Value → Type 0 where
  a_truth : {b : Bool} → HasMark true (truth b)
  a_number : {k : ℤ} → HasMark false (number k)

-- Cells of scalars have values of their marks.
pub record HoldsScalars (sh : Shows) (marks : Text → Option Bool) (env : Env) : Type 0 where
  pub holds : (a : Text) (m : Bool) → marks a ≡ Some m → (v : Value) × HasMark m v × (meaning (in_place sh.first a) env ≡ Some v)

-- Tables meet the structures of the views of sets.
pub record MeetsSets (sh : Shows) (sets : Text → Option Kind) (env : Env) : Type 0 where
  pub first : (a : Text) (k : Kind) → sets a ≡ Some k → Meets (in_place sh.first a) env
  pub last : (a : Text) (k : Kind) → sets a ≡ Some k → Meets (in_place sh.last a) env

-- The views of sets spell such numbers alone, in their domains.
pub record SpellsSets (sh : Shows) (sets : Text → Option Kind) (q : ℤ → Bool) : Type 0 where
  pub first : (a : Text) (k : Kind) → sets a ≡ Some k → list_all q (numbers_of_tree (in_place sh.first a)) ≡ true
  pub last : (a : Text) (k : Kind) → sets a ≡ Some k → list_all q (numbers_of_tree (in_place sh.last a)) ≡ true

-- ---- the tree over tables

-- No name.
abbrev pub none : Text → Bool
none a = false

-- Over tables the constraint e, with this mark, is a tree over views without free names, in which no bound name hides another one. Its
-- names are reserved ones below the next one. It spells the numbers of e and those of domains of views. It means what e means where cells and
-- views have the values of names. Where tables meet the structures of views it meets its structures; and where cells have values of their
-- marks too, each part of it has a value.
pub record IsSeenOverTables (sh : Shows) (marks : Text → Option Bool) (sets : Text → Option Kind) (cells : Text → Option (Bool × List ℕ))
    (e : Ex) (m : Bool) : Type 0 where
  pub seen : Seen cells [] (constraint_tree sh e) m
  pub scoped : Scoped none none none (constraint_tree sh e)
  pub names : HasNamesBelow (told e [] sh.next).1 (constraint_tree sh e)
  pub spells : (q : ℤ → Bool) → SpellsSets sh sets q → list_all q (numbers_of_tree e) ≡ true →
      list_all q (numbers_of_tree (constraint_tree sh e)) ≡ true
  pub means : (env there : Env) → HoldsNames sh marks env there → HoldsSets sh sets env there →
      meaning (constraint_tree sh e) there ≡ meaning e env
  pub meets : (env : Env) → MeetsSets sh sets env → Meets (constraint_tree sh e) env
  pub valued : (env : Env) → HoldsScalars sh marks env → MeetsSets sh sets env → Valued false (constraint_tree sh e) env

-- So it is of each constraint of the class, as long as there are reserved names.
abbrev pub SetwiseTreesAreSeen : Type 0
SetwiseTreesAreSeen = (sh : Shows) (marks : Text → Option Bool) (sets : Text → Option Kind) (cells : Text → Option (Bool × List ℕ)) →
    ShowsSets sh marks sets cells → (e : Ex) (m : Bool) → setwise_mark marks sets e ≡ Some m → sh.next + binders e ≤ 2 ^ 64 →
    IsSeenOverTables sh marks sets cells e m

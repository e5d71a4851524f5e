-- Laws of what is written for trees in which nothing abstract is left: where earlier lines declare its tables with their marks it is an
-- expression of a model. Each is stated at a function that does nothing.
use Rattle.std.specs.Prelude.{◌≡◌, ℕ, Bool, true, List, [], Option, Some}
use Rattle.ess_semantics.specs.Values.{Text}
use Rattle.ess_semantics.specs.Trees.{Ex}
use Rattle.ess_semantics.specs.Refined.{is_refined}
use Rattle.ess_grammar.specs.Models.{Scope, is_truth_table}
use Rattle.eprime_lowering_laws.specs.Lowerable.{is_lowerable}
use Rattle.ess_flat_laws.specs.Flat.{Flat, none_marked}
use Rattle.ess_bare_laws.specs.Bare.{Bare}
use Rattle.ess_bare_laws.specs.Lean.{Ended}
use Rattle.ess_bare_written_laws.specs.Laws.{as_written}
use Rattle.ess_seen_laws.specs.Seen.{counted_axes, Seen}
use Rattle.ess_lowered_laws.specs.Ranges.{RangesFit}

-- Earlier lines declare s: each of these tables holds truth values there where its mark says so, and numbers elsewhere.
abbrev pub Declares : Scope → (Text → Option (Bool × ℕ)) → Type 0
Declares s cells = (n : Text) (b : Bool) (k : ℕ) → cells n ≡ Some (b, k) → is_truth_table s n ≡ b

-- The same of single cells.
abbrev pub DeclaresSingle : Scope → (Text → Option Bool) → Type 0
DeclaresSingle s cells = (n : Text) (b : Bool) → cells n ≡ Some b → is_truth_table s n ≡ b

-- What is written for an expression of a model is one.
abbrev pub WrittenTreesStayLowerable : Type 0
WrittenTreesStayLowerable = (s : Scope) (taken : List Text) (e : Ex) → is_lowerable s e ≡ true → is_lowerable s (as_written taken e) ≡ true

-- So is what is written for a tree that rules end in, where its ranges have their bounds and its tables are declared.
abbrev pub EndedTreesAreLowered : Type 0
EndedTreesAreLowered = (cells : Text → Option (Bool × ℕ)) (taken : List Text) (e : Ex) (m : Bool) → Ended cells [] e m → RangesFit e →
    (s : Scope) → Declares s cells → is_lowerable s (as_written taken e) ≡ true

-- The same of bare trees.
abbrev pub BareTreesAreLowered : Type 0
BareTreesAreLowered = (cells : Text → Option (Bool × ℕ)) (taken : List Text) (e : Ex) (m : Bool) → Bare cells [] e m → RangesFit e →
    (s : Scope) → Declares s cells → is_lowerable s (as_written taken e) ≡ true

-- The same of flat total trees over single cells: they have no ranges.
abbrev pub FlatTreesAreLowered : Type 0
FlatTreesAreLowered = (cells : Text → Option Bool) (taken : List Text) (e : Ex) (m : Bool) → Flat none_marked cells e m →
    (s : Scope) → DeclaresSingle s cells → is_lowerable s (as_written taken e) ≡ true

-- In trees over views ranges have their bounds. So what is written for a refined one is an expression of a model where its tables are
-- declared.
pub record SeenTreesAreLowered : Type 0 where
  pub fit : (cells : Text → Option (Bool × List ℕ)) (e : Ex) (m : Bool) → Seen cells [] e m → RangesFit e
  pub lowered : (cells : Text → Option (Bool × List ℕ)) (taken : List Text) (e : Ex) (m : Bool) → Seen cells [] e m →
      is_refined e ≡ true → (s : Scope) → Declares s (counted_axes cells) → is_lowerable s (as_written taken e) ≡ true

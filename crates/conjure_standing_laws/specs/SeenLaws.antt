-- The law of rules along chains in trees over views of sets, stated at a function that does nothing.
use Rattle.std.specs.Prelude.{◌≡◌, ℕ, ◌≤◌, ◌^◌, Bool, true, false, [], ℤ, pos, Option, IsTrue, List}
use Rattle.std.specs.List.{list_all}
use Rattle.ess_semantics.specs.Values.{Text}
use Rattle.ess_semantics.specs.Trees.{Ex}
use Rattle.ess_semantics.specs.Refined.{is_refined}
use Rattle.ess_semantics.specs.Meaning.{Env, meaning}
use Rattle.ess_semantics.specs.Meets.{Meets}
use Rattle.ess_refine_laws.specs.SpellingEnds.{numbers_of_tree}
use Rattle.ess_values_along_laws.specs.Valued.{Valued}
use Rattle.ess_bare_laws.specs.Lean.{Ended}
use Rattle.ess_seen_laws.specs.Seen.{counted_axes, Seen}
use Rattle.ess_seen_laws.specs.Filled.{AreFilled}
use Rattle.ess_seen_names_laws.specs.Laws.{IsNamed}
use Rattle.conjure_modelling.specs.ess_rules.Ruled.{IsRuled}
use Rattle.conjure_modelling.specs.ess_refine.Chains.{Leads}

-- A tree over views of sets with this mark, around which no name is bound. No bound name hides another one, and all are reserved ones below
-- the n-th.
pub record IsSeenWhole (cells : Text → Option (Bool × List ℕ)) (n : ℕ) (e : Ex) (m : Bool) : Type 0 where
  pub seen : Seen cells [] e m
  pub named : IsNamed n e

-- The second tree is such a tree too, behind the reserved names below the k-th. It means the same wherever tables of numbers have
-- one at each slot, tables meet the structures of the first one, and each part of that has a value where its context holds; and then
-- the same is so of the second one. It spells no other numbers but 0, 1 and 2. Where nothing abstract is left in it, it is one that
-- rules end in.
pub record StaysSeen (cells : Text → Option (Bool × List ℕ)) (k : ℕ) (old last : Ex) (m : Bool) : Type 0 where
  pub whole : IsSeenWhole cells k last m
  pub kept : (env : Env) → IsTrue env.positions → AreFilled cells env → Meets old env → Valued false old env →
      (meaning old env ≡ meaning last env) × Meets last env × Valued false last env
  pub spells : (q : ℤ → Bool) → q (pos 0) ≡ true → q (pos 1) ≡ true → q (pos 2) ≡ true → list_all q (numbers_of_tree old) ≡ true →
      list_all q (numbers_of_tree last) ≡ true
  pub ended : is_refined last ≡ true → Ended (counted_axes cells) [] last m

-- So it is along each chain of rules, whichever they are, while there are numbers for the names that they take.
abbrev pub SeenTreesStaySeen : Type 0
SeenTreesStaySeen = (cells : Text → Option (Bool × List ℕ)) (n k : ℕ) (old last : Ex) (m : Bool) → IsSeenWhole cells n old m →
    Leads IsRuled n [] old last k → k ≤ 2 ^ 64 → StaysSeen cells k old last m

-- The law of rules along chains in bare trees, stated at a function that does nothing.
use Rattle.std.specs.Prelude.{◌≡◌, ℕ, ◌≤◌, Bool, true, false, [], ℤ, Option}
use Rattle.std.specs.List.{list_all}
use Rattle.ess_semantics.specs.Values.{Text}
use Rattle.ess_semantics.specs.Trees.{Ex}
use Rattle.ess_semantics.specs.Scoped.{Scoped}
use Rattle.ess_semantics.specs.Meaning.{Env, meaning}
use Rattle.ess_refine_laws.specs.SpellingEnds.{numbers_of_tree}
use Rattle.ess_values_along_laws.specs.Valued.{Valued}
use Rattle.conjure_model_laws.specs.Printed.{binders}
use Rattle.ess_bare_laws.specs.Bare.{Bare}
use Rattle.ess_lowered_laws.specs.Ranges.{RangesFit}
use Rattle.conjure_modelling.specs.ess_rules.Ruled.{IsRuled}
use Rattle.conjure_modelling.specs.ess_refine.Chains.{Leads}

-- The second tree is bare as the first one: with the same mark, and without names that are bound around it. It means the same wherever each
-- part of the first one has a value where its context holds, and has such values; it keeps scopes, spells no other numbers, and binds no
-- more names. Its ranges have their bounds where those of the first one have them.
pub record StaysBare (cells : Text → Option (Bool × ℕ)) (old last : Ex) (m : Bool) : Type 0 where
  pub bare : Bare cells [] last m
  pub kept : (env : Env) → Valued false old env → (meaning old env ≡ meaning last env) × Valued false last env
  pub scoped : (z s o : Text → Bool) → Scoped z s o old → Scoped z s o last
  pub spells : (q : ℤ → Bool) → list_all q (numbers_of_tree old) ≡ true → list_all q (numbers_of_tree last) ≡ true
  pub binds : binders last ≤ binders old
  pub fits : RangesFit old → RangesFit last

-- So it is along each chain of rules, whichever they are and whatever names they take. Nothing is asked of the tables.
abbrev pub BareTreesStayBare : Type 0
BareTreesStayBare = (cells : Text → Option (Bool × ℕ)) (n k : ℕ) (old last : Ex) (m : Bool) → Bare cells [] old m →
    Leads IsRuled n [] old last k → StaysBare cells old last m

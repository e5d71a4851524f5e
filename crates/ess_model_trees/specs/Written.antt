-- What is written for a tree over tables. The rules that lead to it count the reserved names.
use Rattle.std.specs.Prelude.{◌≡◌, ℕ, ◌<◌, ◌^◌, true, false, List, [], Option, Some, None}
use Rattle.ess_semantics.specs.Values.{Text}
use Rattle.ess_semantics.specs.Trees.{Ex}
use Rattle.ess_semantics.specs.Refined.{is_refined}
use Rattle.ess_grammar.specs.Models.{Scope}
use Rattle.ess_simplify_laws.specs.Simplifying.{simplified}
use Rattle.ess_keys_laws.specs.Keyed.{nothing_around, keyed}
use Rattle.eprime_lowering_laws.specs.Lowerable.{is_lowerable}
use Rattle.conjure_model_laws.specs.ToldApart.{told}
use Rattle.conjure_model_laws.specs.Shown.{Shows}
use Rattle.conjure_model_laws.specs.Printed.{printed}
use Rattle.ess_refine.specs.ess_rules.Ruled.{IsRuled}
use Rattle.ess_refine.specs.Chains.{Leads}
use Rattle.ess_refine.specs.Refinements.{IsGivenUp}

-- What is written for a tree in which nothing abstract is left: simplified, with plain keys, and simplified again; its bound names are
-- printed, none as a name that is taken.
abbrev pub written_for : List Text → Ex → Ex
written_for taken e = printed taken (simplified (keyed nothing_around (simplified e))) []

-- `new` is written for `old`: rules lead to a tree in which nothing abstract is left, with reserved names from the n-th on and none
-- from the m-th on, and it is what is written for that one. Fewer than 2^62 reserved names are taken.
pub record IsWrittenBy (taken : List Text) (n : ℕ) (old new : Ex) (m : ℕ) : Type 0 where
  pub last : Ex
  pub leads : Leads IsRuled n [] old last m
  pub few : m < 2 ^ 62
  pub refined : is_refined last ≡ true
  pub writes : new ≡ written_for taken last

-- Rules lead from `old` to a tree at which refining was given up. Fewer than 2^62 reserved names are taken.
pub record IsStuckBy (n : ℕ) (old : Ex) (m : ℕ) : Type 0 where
  pub last : Ex
  pub leads : Leads IsRuled n [] old last m
  pub few : m < 2 ^ 62
  pub given_up : IsGivenUp last m

-- What comes of printing: what is written for `old`, or nothing, where refining was given up.
abbrev pub Prints : List Text → ℕ → Ex → Option Ex → ℕ → Type 0
Prints taken n old (Some new) m = IsWrittenBy taken n old new m
Prints taken n old None m = IsStuckBy n old m

-- The same with reserved names from the n-th on, however many.
abbrev pub PrintsFrom : List Text → ℕ → Ex → Option Ex → Type 0
PrintsFrom taken n old new = (m : ℕ) × Prints taken n old new m

-- What is written for `old` is no expression of a model where earlier lines declare s.
pub record IsUnlowered (s : Scope) (taken : List Text) (n : ℕ) (old : Ex) (m : ℕ) : Type 0 where
  pub new : Ex
  pub written : IsWrittenBy taken n old new m
  pub not_lowerable : is_lowerable s new ≡ false

-- Nothing is written for `old`: refining it was given up, or nothing abstract is left of it, and what is written for that is no expression
-- of a model where earlier lines declare s.
pub data IsNotWrittenBy (s : Scope) (taken : List Text) (n : ℕ) (old : Ex) (m : ℕ) : Type 0 where
  stuck : IsStuckBy n old m → IsNotWrittenBy s taken n old m
  unlowered : IsUnlowered s taken n old m → IsNotWrittenBy s taken n old m

-- What comes of writing: an expression of a model, or nothing.
abbrev pub Comes : Scope → List Text → ℕ → Ex → Option Ex → ℕ → Type 0
Comes s taken n old (Some new) m = IsWrittenBy taken n old new m × (is_lowerable s new ≡ true)
Comes s taken n old None m = IsNotWrittenBy s taken n old m

-- The same with reserved names from the n-th on, however many.
abbrev pub ComesFrom : Scope → List Text → ℕ → Ex → Option Ex → Type 0
ComesFrom s taken n old new = (m : ℕ) × Comes s taken n old new m

-- The number of the reserved name behind those that bound names of an expression over tables become.
abbrev pub next_behind : Shows → Ex → ℕ
next_behind sh e = (told e [] sh.next).1

-- What is written for any text, and why nothing is. A text of the small grammar that has no list of representations has its own way.
use Rattle.std.specs.Prelude.{◌≡◌, ℕ, ◌⊎◌, List, Option, Some, None}
use Rattle.conjure_cli_laws.specs.SmallGrammar.{IsInSmallGrammar}
use Rattle.conjure_cli_laws.specs.ModelText.{IsModelOf}
use Rattle.conjure_modelling.specs.declared.refusal.ModelNo.{ModelNo}
use Rattle.conjure_modelling.specs.Modelled.{IsModelled, IsUnmodelled}

-- The text is one of the small grammar, and has no list.
abbrev pub IsSmallWay : Option (List ℕ) → List ℕ → Type 0
IsSmallWay None text = IsInSmallGrammar text
IsSmallWay (Some list) text = ⊥

-- The model of the text: that of the small grammar, else the one that is written for the specification.
abbrev pub IsModelFor : Option (List ℕ) → List ℕ → List ℕ → Type 0
IsModelFor list text model = ((list ≡ None) × IsModelOf text model) ⊎ ((IsSmallWay list text → ⊥) × IsModelled text list model)

-- Why there is none.
abbrev pub IsUnmodelledFor : Option (List ℕ) → List ℕ → ModelNo → Type 0
IsUnmodelledFor list text ModelNo.NoMemory = Unit {0}
IsUnmodelledFor list text why = (IsSmallWay list text → ⊥) × IsUnmodelled text list why

-- Models that the rules derive for texts, whatever their load.
use Rattle.std.specs.Prelude.{◌≡◌, None}
use Rattle.ess_semantics.specs.Values.{Text}
use Rattle.ess_semantics.specs.ModelTrees.{Model}
use Rattle.ess_grammar.specs.Tokens.{lexed, first_outside}
use Rattle.ess_grammar.specs.Texts.{Reads}
use Rattle.ess_grammar.specs.ModelTexts.{IsModel}

-- The text is the model m by the rules of models: they derive it and no other one, and no word of the text stands outside the subset. Load
-- is no part of it.
pub record IsModelText (text : Text) (m : Model) : Type 0 where
  pub reads : Reads text (IsModel m)
  pub inside : first_outside (lexed text) ≡ None
  pub only : (n : Model) → Reads text (IsModel n) → n ≡ m

-- It is none: where no word of it stands outside the subset, the rules derive no model for it.
abbrev pub IsNoModelText : Text → Type 0
IsNoModelText text = first_outside (lexed text) ≡ None → (m : Model) → Reads text (IsModel m) → ⊥

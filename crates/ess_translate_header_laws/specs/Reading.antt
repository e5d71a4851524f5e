-- The lines of a header behind the first one.
use Rattle.std.specs.Prelude.{◌≡◌, List, ◌++◌}
use Rattle.ess_semantics.specs.Values.{Text}
use Rattle.ess_semantics.specs.Names.{Names}
use Rattle.ess_semantics.specs.Trees.{Repr, Stm}
use Rattle.ess_grammar.specs.HeaderTexts.{StatementLines}
use Rattle.ess_translate_header_laws.specs.Headers.{AreWithinLimits}

-- The first of these lines are those of the statements and representations, each within the limits; other lines may stand behind them.
pub record AreLinesOf (ss : List Stm) (cs : Names (List Repr)) (lines : List Text) : Type 0 where
  pub own : List Text
  pub others : List Text
  pub all : lines ≡ own ++ others
  pub read : StatementLines ss cs own
  pub limits : AreWithinLimits own

-- They are those of none.
abbrev pub AreNoLines : List Text → Type 0
AreNoLines lines = (ss : List Stm) (cs : Names (List Repr)) → AreLinesOf ss cs lines → ⊥

-- The header of a model as lines of text, which stand in it as comments behind `$ `: its version, one line for each statement
-- of the specification but constraints and objectives, one line for the representations of each given and find, and an end.
-- Lines are those of a header where the rules derive them, however deeply they are nested: what load is read is said by readers.
use Rattle.std.specs.Prelude.{List, [], ◌∷◌, codes}
use Rattle.ess_semantics.specs.declared.words.Op2.{Op2}
use Rattle.ess_semantics.specs.Values.{Text}
use Rattle.ess_semantics.specs.Names.{Names}
use Rattle.ess_semantics.specs.Trees.{Repr, Stm}
use Rattle.ess_semantics.specs.ModelTrees.{Header, Model}
use Rattle.ess_grammar.specs.Words.{Token, name, operator}
use Rattle.ess_grammar.specs.Statements.{Statement}
use Rattle.ess_grammar.specs.Representations.{Representation}
use Rattle.ess_grammar.specs.Texts.{Reads}
use Rattle.ess_grammar.specs.ModelTexts.{ReadsModel}

-- One or more representations with ` + ` between, to the end.
pub data Choices : List Repr → List Token → Type 0 where
  last_choice : {r : Repr} {ts : List Token} → Representation r ts [] → Choices (r ∷ []) ts
  next_choice : {r : Repr} {rs : List Repr} {ts us : List Token} → Representation r ts (operator Op2.Plus ∷ us) → Choices rs us →
      Choices (r ∷ rs) ts

-- The tokens of the line for the representations of a name: `repr s Occurrence`.
pub data RepresentationLine : Text → List Repr → List Token → Type 0 where
  representation_line : {a : Text} {rs : List Repr} {ts : List Token} → Choices rs ts →
      RepresentationLine a rs (name (codes "repr") ∷ name a ∷ ts)

-- The lines for the representations, and the end.
pub data RepresentationLines : Names (List Repr) → List Text → Type 0 where
  end_line : RepresentationLines [] (codes "end-header" ∷ [])
  next_representation_line : {a : Text} {rs : List Repr} {cs : Names (List Repr)} {l : Text} {ls : List Text} →
      Reads l (RepresentationLine a rs) → RepresentationLines cs ls → RepresentationLines ((a, rs) ∷ cs) (l ∷ ls)

-- The lines for the statements, each of one alone, and those behind them.
pub data StatementLines : List Stm → Names (List Repr) → List Text → Type 0 where
  no_more_statements : {cs : Names (List Repr)} {ls : List Text} → RepresentationLines cs ls → StatementLines [] cs ls
  next_statement_line : {s : Stm} {ss : List Stm} {cs : Names (List Repr)} {l : Text} {ls : List Text} →
      Reads l (λ ts. Statement (s ∷ []) ts []) → StatementLines ss cs ls → StatementLines (s ∷ ss) cs (l ∷ ls)

-- The lines are a header. Which statements and representations it may have is said elsewhere.
pub data IsHeader : Header → List Text → Type 0 where
  header : {ss : List Stm} {cs : Names (List Repr)} {ls : List Text} → StatementLines ss cs ls →
      IsHeader (record { statements = ss; reprs = cs }) (codes "conjure-header 1" ∷ ls)

-- The text is a model with its header.
abbrev pub ReadsModelWithHeader : Text → Header → Model → Type 0
ReadsModelWithHeader text h m = (ls : List Text) × IsHeader h ls × ReadsModel text ls m

-- Laws of the machine, each stated at a function that does nothing, so that its proof is checked with the code.
use Rattle.std.specs.Prelude.{◌≡◌, List, ◌∷◌, ◌++◌, Some, None}
use Rattle.ess_semantics.specs.Names.{Names}
use Rattle.ess_semantics.specs.Trees.{Ex}
use Rattle.ess_grammar.specs.Words.{Token, word, letting_word}
use Rattle.ess_grammar.specs.CellTexts.{IsCells}
use Rattle.eprime_read_cells_laws.specs.CellMachine.{CellsState, cells_state_after, cells_start, read_cell_tokens}

-- Each list of tokens is at most one text of cells, by the rules alone.
abbrev pub OneReading : Type 0
OneReading = (ts : List Token) (bs cs : Names Ex) → IsCells bs ts → IsCells cs ts → bs ≡ cs

-- What the rules derive, the machine reads.
abbrev pub ReadsDerivedCells : Type 0
ReadsDerivedCells = (ts : List Token) (cs : Names Ex) → IsCells cs ts → read_cell_tokens ts ≡ Some cs

-- What the machine reads, the rules derive.
abbrev pub DerivesReadCells : Type 0
DerivesReadCells = (ts : List Token) (cs : Names Ex) → read_cell_tokens ts ≡ Some cs → IsCells cs ts

-- Where the machine stops, no text of cells begins with the tokens up to there.
abbrev pub StopsForGood : Type 0
StopsForGood = (ts us : List Token) (cs : Names Ex) → cells_state_after ts cells_start ≡ None → IsCells cs (ts ++ us) → ⊥

-- Before each `letting` that the machine takes stands a whole text of cells.
abbrev pub WholeBeforeLettings : Type 0
WholeBeforeLettings = (ts us : List Token) (s : CellsState) → cells_state_after (ts ++ word letting_word ∷ us) cells_start ≡ Some s → (cs : Names Ex) × IsCells cs ts

-- What the texts of the files decide, where a parameter or cells are translated.
use Rattle.std.specs.Prelude.{◌≡◌, ℕ, ◌+◌, ◌≤◌, ◌⊎◌, List, length, Option, Some, None, IfSome}
use Rattle.ess_semantics.specs.Names.{Names}
use Rattle.ess_semantics.specs.Trees.{Stm, Ex}
use Rattle.ess_semantics.specs.Tables.{Table}
use Rattle.ess_semantics.specs.Assignments.{Assignment}
use Rattle.ess_semantics.specs.ModelTrees.{Header, Model}
use Rattle.ess_io.specs.Trees.{start_of_file}
use Rattle.ess_grammar.specs.CellTexts.{IsCells}
use Rattle.ess_translate.specs.Texts.{Spells}
use Rattle.ess_translate_files.specs.ModelFiles.{IsModelFile}
use Rattle.ess_translate_files.specs.GivenFiles.{IsGiven, IsLargeFor}
use Rattle.ess_translate_solutions.specs.CellFiles.{IsSolved, IsLargeOver}
use Rattle.conjure_cli.specs.Seen.{FilesSeen, SinkSeen, limit}
use Rattle.conjure_cli.specs.Ending.{NoFault}

-- The texts are a model E with the header H, and a file F of a parameter p with the given tables q, and no number that they ask for
-- lies outside 64 bits.
pub record AreGoodSources (model param : List ℕ) (H : Header) (E : Model) (F : List Stm) (p : Assignment) (q : Names Table) : Type 0 where
  pub file : IsModelFile model H E
  pub given : IsGiven H E param F p q
  pub small : IsLargeFor H E p → ⊥

-- The text is one of cells, and no number that the model asks for over them lies outside 64 bits.
pub record AreGoodCells (E : Model) (q : Names Table) (text : List ℕ) (cs : Names Ex) : Type 0 where
  pub spells : Spells IsCells text cs
  pub small : IsLargeOver E q text → ⊥

-- The text is one of cells that stand for a solution.
abbrev pub IsSolvable : Header → Model → Assignment → Names Table → List ℕ → Type 0
IsSolvable H E p q text = (bytes : List ℕ) × IsSolved H E p q text bytes

-- The status is 0 where the cells stand for a solution, and else 1, but for want of memory.
pub record AreCellsDecided (status : ℕ) (H : Header) (E : Model) (p : Assignment) (q : Names Table) (text : List ℕ) : Type 0 where
  pub solved : IsSolvable H E p q text → (status ≡ 0) ⊎ (status ≡ 6)
  pub unsolved : (IsSolvable H E p q text → ⊥) → (status ≡ 1) ⊎ (status ≡ 6)

-- Where the sources are good and within the limit, a parameter is translated, but for want of memory.
abbrev pub IsGivenDecided : ℕ → List ℕ → List ℕ → Type 0
IsGivenDecided status model param =
    length model ≤ limit → length param ≤ limit → (H : Header) (E : Model) (F : List Stm) (p : Assignment) (q : Names Table)
    → AreGoodSources model param H E F p q → (status ≡ 0) ⊎ (status ≡ 6)

-- Where the cells are good too, they decide.
abbrev pub IsSolvedDecided : ℕ → List ℕ → List ℕ → List ℕ → Type 0
IsSolvedDecided status model param text =
    length model ≤ limit → length param ≤ limit → length text ≤ limit
    → (H : Header) (E : Model) (F : List Stm) (p : Assignment) (q : Names Table) (cs : Names Ex)
    → AreGoodSources model param H E F p q → AreGoodCells E q text cs → AreCellsDecided status H E p q text

-- Where a told tree has the files and no fault came, their texts decide.
abbrev pub TranslationDecides : ℕ → List ℕ → List ℕ → Option (List ℕ) → FilesSeen → FilesSeen → SinkSeen → SinkSeen → Type 0
TranslationDecides status m p None before after out_before out_after = IfSome before.tree (λ tree.
    IfSome (start_of_file tree m (limit + 1)) (λ model. IfSome (start_of_file tree p (limit + 1)) (λ param.
    NoFault before after out_before out_after → IsGivenDecided status model param)))
TranslationDecides status m p (Some c) before after out_before out_after = IfSome before.tree (λ tree.
    IfSome (start_of_file tree m (limit + 1)) (λ model. IfSome (start_of_file tree p (limit + 1)) (λ param.
    IfSome (start_of_file tree c (limit + 1)) (λ cells.
    NoFault before after out_before out_after → IsSolvedDecided status model param cells))))

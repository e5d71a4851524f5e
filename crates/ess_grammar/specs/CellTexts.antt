-- Texts of cells by rules: the parameters and solutions of Essence Prime (the Conjure manual, chapter on its output). A value
-- is a number with or without `-`, a truth value, or a list with or without its index domain, whose ranges have numbers.
use Rattle.std.specs.Prelude.{ℕ, pos, true, false, List, [], ◌∷◌}
use Rattle.ess_semantics.specs.declared.words.Op1.{Op1}
use Rattle.ess_semantics.specs.declared.words.Op2.{Op2}
use Rattle.ess_semantics.specs.Values.{Text}
use Rattle.ess_semantics.specs.Names.{Names}
use Rattle.ess_semantics.specs.Trees.{matrix_literal, Ends, one_value, both_ends, Ex, Exs, number_ex, truth_ex, matrix_ex, no_exs, more_exs, int_dom, plain_node}
use Rattle.ess_grammar.specs.Words.{Token, number, name, prime_word, word, operator, symbol, language_word, letting_word, be_word, int_word, true_word, false_word, open_round, close_round, open_square, close_square, comma, semicolon, dot, dots}
use Rattle.ess_grammar.specs.Grammar.{one_ex, unary_ex}
use Rattle.ess_grammar.specs.Texts.{Reads}

-- A number, or `-` before one.
pub data CellNumber : Ex → List Token → List Token → Type 0 where
  plain_number : {n : ℕ} {us : List Token} → CellNumber (number_ex (pos n)) (number n ∷ us) us
  minus_number : {n : ℕ} {us : List Token} → CellNumber (unary_ex Op1.Minus (number_ex (pos n))) (operator Op2.Minus ∷ number n ∷ us) us

-- A range of one number or with two.
pub data CellRange : Ends → Exs → Exs → List Token → List Token → Type 0 where
  number_range : {a : Ex} {fs : Exs} {ts us : List Token} → CellNumber a ts us → CellRange one_value fs (more_exs a fs) ts us
  numbers_range : {a b : Ex} {fs : Exs} {ts us vs : List Token} → CellNumber a ts (symbol dots ∷ us) → CellNumber b us vs →
      CellRange both_ends fs (more_exs a (more_exs b fs)) ts vs

-- One or more ranges with commas between.
pub data CellRanges : List Ends → Exs → List Token → List Token → Type 0 where
  last_cell_range : {r : Ends} {es : Exs} {ts us : List Token} → CellRange r no_exs es ts us → CellRanges (r ∷ []) es ts us
  next_cell_range : {r : Ends} {rs : List Ends} {es fs : Exs} {ts us vs : List Token} → CellRange r fs es ts (symbol comma ∷ us) →
      CellRanges rs fs us vs →
      CellRanges (r ∷ rs) es ts vs

mutual
  -- A value, as the expression that it is read as.
  pub data CellValue : Ex → List Token → List Token → Type 0 where
    number_value : {e : Ex} {ts us : List Token} → CellNumber e ts us → CellValue e ts us
    true_value : {us : List Token} → CellValue (truth_ex true) (word true_word ∷ us) us
    false_value : {us : List Token} → CellValue (truth_ex false) (word false_word ∷ us) us
    empty_value : {us : List Token} → CellValue (plain_node matrix_literal no_exs) (symbol open_square ∷ symbol close_square ∷ us) us
    list_value : {es : Exs} {ts us : List Token} → CellValues es ts (symbol close_square ∷ us) →
        CellValue (plain_node matrix_literal es) (symbol open_square ∷ ts) us
    indexed_value : {es is : Exs} {rs : List Ends} {ts us vs : List Token} →
        CellValues es ts (symbol semicolon ∷ word int_word ∷ symbol open_round ∷ us) →
        CellRanges rs is us (symbol close_round ∷ symbol close_square ∷ vs) →
        CellValue (matrix_ex es (int_dom rs is)) (symbol open_square ∷ ts) vs

  -- One or more values with commas between.
  pub data CellValues : Exs → List Token → List Token → Type 0 where
    last_value : {e : Ex} {ts us : List Token} → CellValue e ts us → CellValues (one_ex e) ts us
    next_value : {e : Ex} {es : Exs} {ts us vs : List Token} → CellValue e ts (symbol comma ∷ us) → CellValues es us vs →
        CellValues (more_exs e es) ts vs

-- Any number of lettings, each with its word, to the end. A name may stand twice.
pub data CellLettings : Names Ex → List Token → Type 0 where
  no_cells : CellLettings [] []
  more_cells : {a : Text} {e : Ex} {cs : Names Ex} {ts us : List Token} → CellValue e ts us → CellLettings cs us →
      CellLettings ((a, e) ∷ cs) (word letting_word ∷ name a ∷ word be_word ∷ ts)

-- The language line, with any two numbers, or none.
pub data PrimeLine : List Token → List Token → Type 0 where
  no_prime_line : {ts : List Token} → PrimeLine ts ts
  prime_line : {m n : ℕ} {ts : List Token} → PrimeLine (word language_word ∷ prime_word ∷ number m ∷ symbol dot ∷ number n ∷ ts) ts

-- The tokens are a text of cells with these values of names.
pub data IsCells : Names Ex → List Token → Type 0 where
  cells : {cs : Names Ex} {ts us : List Token} → PrimeLine ts us → CellLettings cs us → IsCells cs ts

-- The text is one of cells.
abbrev pub ReadsCells : Text → Names Ex → Type 0
ReadsCells text cs = Reads text (IsCells cs)

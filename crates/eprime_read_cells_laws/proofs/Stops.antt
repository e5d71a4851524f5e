-- Where the machine stops, no text of cells goes on, and where it takes the word `letting`, a whole one stands before.
use Rattle.std.proofs.Common.{◌≡◌, refl, sym, subst, List, [], ◌∷◌, ◌++◌, Option, Some, None}
use Rattle.ess_semantics.specs.Values.{Text}
use Rattle.ess_semantics.specs.Names.{Names}
use Rattle.ess_semantics.specs.Trees.{Ends, Ex}
use Rattle.ess_grammar.specs.Words.{Token, word, letting_word}
use Rattle.ess_grammar.specs.CellTexts.{IsCells}
use Rattle.eprime_read_cells_laws.specs.CellMachine.{RangeStage, low_wanted, low_digits_wanted, low_read, high_wanted, high_digits_wanted, range_read, close_wanted, Stage, value_wanted, first_wanted, digits_wanted, item_read, int_wanted, open_wanted, in_ranges, Mode, nothing_read, prime_wanted, major_wanted, dot_wanted, minor_wanted, letting_wanted, name_wanted, be_wanted, in_value, CellsState, step_ranges, step_value, cells_step_at, cells_step, finish_at, from_cells, cells_run, cells_state_after, cells_start}
use Rattle.eprime_read_cells_laws.proofs.Complete.{cells-complete}
use Rattle.eprime_read_cells_laws.proofs.Sound.{cells-sound}

stopped-at : (ts us : List Token) (r : Option CellsState) → ((s : CellsState) → cells_state_after ts s ≡ None → cells_run (ts ++ us) s ≡ None) →
    from_cells (cells_state_after ts) r ≡ None → from_cells (cells_run (ts ++ us)) r ≡ None
stopped-at ts us None k h = refl
stopped-at ts us (Some s) k h = k s h

stopped : (ts us : List Token) (s : CellsState) → cells_state_after ts s ≡ None → cells_run (ts ++ us) s ≡ None
stopped [] us s h = cc
stopped (t ∷ ts) us s h = stopped-at ts us (cells_step t s) (λ q k. stopped ts us q k) h

-- No text of cells begins with tokens at which the machine has stopped.
pub no-cells : (ts us : List Token) (cs : Names Ex) → cells_state_after ts cells_start ≡ None → IsCells cs (ts ++ us) → ⊥
no-cells ts us cs h d = let k = stopped ts us cells_start h in let c = cells-complete (ts ++ us) cs d in cc

-- ---- the word `letting`

-- It stands in no range,
ranges-stop : (cs : Names Ex) (a : Text) (fs : List (List Ex)) (rs : List Ends) (is : List Ex) (s : RangeStage) → step_ranges (word letting_word) cs a fs rs is s ≡ None
ranges-stop cs a fs rs is low_wanted = refl
ranges-stop cs a fs rs is low_digits_wanted = refl
ranges-stop cs a fs rs is (low_read low) = refl
ranges-stop cs a fs rs is (high_wanted low) = refl
ranges-stop cs a fs rs is (high_digits_wanted low) = refl
ranges-stop cs a fs rs is range_read = refl
ranges-stop cs a fs rs is close_wanted = refl

-- and in no value.
values-stop : (cs : Names Ex) (a : Text) (fs : List (List Ex)) (s : Stage) → step_value (word letting_word) cs a fs s ≡ None
values-stop cs a fs value_wanted = refl
values-stop cs a fs first_wanted = refl
values-stop cs a fs digits_wanted = refl
values-stop cs a fs item_read = refl
values-stop cs a fs int_wanted = refl
values-stop cs a fs open_wanted = refl
values-stop cs a fs (in_ranges rs is s) = ranges-stop cs a fs rs is s

-- A state, if there is one, comes only where the text may end.
abbrev OnlyWhole : Names Ex → Mode → Option CellsState → Type 0
OnlyWhole cs m None = Unit {0}
OnlyWhole cs m (Some s) = finish_at cs m ≡ Some cs

whole-at : (cs : Names Ex) (m : Mode) → OnlyWhole cs m (cells_step_at (word letting_word) cs m)
whole-at cs nothing_read = refl
whole-at cs prime_wanted = tt
whole-at cs major_wanted = tt
whole-at cs dot_wanted = tt
whole-at cs minor_wanted = tt
whole-at cs letting_wanted = refl
whole-at cs name_wanted = tt
whole-at cs (be_wanted a) = tt
whole-at cs (in_value a fs s) = subst (λ o. OnlyWhole cs (in_value a fs s) o) (sym (values-stop cs a fs s)) tt

-- The values of names that stand before.
abbrev Read : List Token → CellsState → Type 0
Read ts s = (cs : Names Ex) × (cells_run ts s ≡ Some cs)

whole-end : (us : List Token) (s q : CellsState) (r : Option CellsState) → OnlyWhole s.done s.mode r → from_cells (cells_state_after us) r ≡ Some q → Read [] s
whole-end us s q None k h = cc
whole-end us s q (Some p) k h = (s.done, k)

from-read : (ts us : List Token) (q : CellsState) (r : Option CellsState) → ((s : CellsState) → cells_state_after (ts ++ word letting_word ∷ us) s ≡ Some q → Read ts s) →
    from_cells (cells_state_after (ts ++ word letting_word ∷ us)) r ≡ Some q → (cs : Names Ex) × (from_cells (cells_run ts) r ≡ Some cs)
from-read ts us q None f h = cc
from-read ts us q (Some s) f h = f s h

read-before : (ts us : List Token) (s q : CellsState) → cells_state_after (ts ++ word letting_word ∷ us) s ≡ Some q → Read ts s
read-before [] us s q h = whole-end us s q (cells_step (word letting_word) s) (whole-at s.done s.mode) h
read-before (t ∷ ts) us s q h = from-read ts us q (cells_step t s) (λ p k. read-before ts us p q k) h

-- Before a `letting` that the machine takes stands a whole text of cells.
pub whole-before : (ts us : List Token) (s : CellsState) → cells_state_after (ts ++ word letting_word ∷ us) cells_start ≡ Some s → (cs : Names Ex) × IsCells cs ts
whole-before ts us s h = let x = read-before ts us cells_start s h in (x.0, cells-sound ts x.0 x.1)

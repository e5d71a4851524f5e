-- The laws of the machine of texts of cells, as the clauses of readers want them.
use Rattle.std.proofs.Common.{◌≡◌, refl, sym, ap, ◌∙◌, Bool, true, false, List, [], ◌∷◌, ◌++◌, Option, Some, None}
use Rattle.ess_semantics.specs.Values.{Text}
use Rattle.ess_semantics.specs.Names.{Names}
use Rattle.ess_semantics.specs.Trees.{Ends, Ex}
use Rattle.ess_grammar.specs.Words.{Token, Word, word, language_word, given_word, find_word, letting_word, be_word, where_word, such_word, minimising_word, maximising_word, int_word, true_word, false_word}
use Rattle.ess_grammar.specs.CellTexts.{IsCells}
use Rattle.ess_parse_laws.specs.StatementEnds.{begins_statement}
use Rattle.eprime_read_cells_laws.specs.CellMachine.{RangeStage, low_wanted, low_digits_wanted, low_read, high_wanted, high_digits_wanted, range_read, close_wanted, Stage, value_wanted, first_wanted, digits_wanted, item_read, int_wanted, open_wanted, in_ranges, Mode, nothing_read, prime_wanted, major_wanted, dot_wanted, minor_wanted, letting_wanted, name_wanted, be_wanted, in_value, CellsState, step_ranges, step_value_wanted, step_int_wanted, step_value, step_letting_wanted, step_nothing_read, step_be, cells_step_at, cells_step, cells_finish, from_cells, cells_run, cells_state_after, cells_start}
use Rattle.eprime_read_cells_laws.proofs.Complete.{cells-complete}
use Rattle.eprime_read_cells_laws.proofs.Sound.{cells-sound}
use Rattle.eprime_read_cells_laws.proofs.Stops.{no-cells, whole-before}
use Rattle.ess_parse.proofs.Runs.{from_state, state_behind, tree_of, IsMachineFor, never-behind}

-- ---- runs

then-same : {B : Type 0} (r : Option CellsState) (j k : CellsState → Option B) → ((s : CellsState) → j s ≡ k s) → from_state j r ≡ from_cells k r
then-same None j k f = refl
then-same (Some s) j k f = f s

tree-same : (ts : List Token) (s : CellsState) → tree_of cells_step cells_finish ts s ≡ cells_run ts s
tree-same [] s = refl
tree-same (t ∷ ts) s = then-same (cells_step t s) (tree_of cells_step cells_finish ts) (cells_run ts) (tree-same ts)

behind-same : (ts : List Token) (s : CellsState) → state_behind cells_step ts s ≡ cells_state_after ts s
behind-same [] s = refl
behind-same (t ∷ ts) s = then-same (cells_step t s) (state_behind cells_step ts) (cells_state_after ts) (behind-same ts)

-- ---- words that no text of cells has

-- Whether a word may stand in a text of cells.
abbrev may_stand : Word → Bool
may_stand language_word = true
may_stand letting_word = true
may_stand be_word = true
may_stand int_word = true
may_stand true_word = true
may_stand false_word = true
may_stand w = false

ranges-stop : (w : Word) (cs : Names Ex) (a : Text) (fs : List (List Ex)) (rs : List Ends) (is : List Ex) (s : RangeStage) → step_ranges (word w) cs a fs rs is s ≡ None
ranges-stop w cs a fs rs is low_wanted = refl
ranges-stop w cs a fs rs is low_digits_wanted = refl
ranges-stop w cs a fs rs is (low_read low) = refl
ranges-stop w cs a fs rs is (high_wanted low) = refl
ranges-stop w cs a fs rs is (high_digits_wanted low) = refl
ranges-stop w cs a fs rs is range_read = refl
ranges-stop w cs a fs rs is close_wanted = refl

wanted-stops : (w : Word) → may_stand w ≡ false → (cs : Names Ex) (a : Text) (fs : List (List Ex)) → step_value_wanted (word w) cs a fs ≡ None
wanted-stops true_word h cs a fs = cc
wanted-stops false_word h cs a fs = cc
wanted-stops w h cs a fs = refl

int-stops : (w : Word) → may_stand w ≡ false → (cs : Names Ex) (a : Text) (fs : List (List Ex)) → step_int_wanted (word w) cs a fs ≡ None
int-stops int_word h cs a fs = cc
int-stops w h cs a fs = refl

values-stop : (w : Word) → may_stand w ≡ false → (cs : Names Ex) (a : Text) (fs : List (List Ex)) (s : Stage) → step_value (word w) cs a fs s ≡ None
values-stop w h cs a fs value_wanted = wanted-stops w h cs a fs
values-stop w h cs a fs first_wanted = wanted-stops w h cs a ([] ∷ fs)
values-stop w h cs a fs digits_wanted = refl
values-stop w h cs a fs item_read = refl
values-stop w h cs a fs int_wanted = int-stops w h cs a fs
values-stop w h cs a fs open_wanted = refl
values-stop w h cs a fs (in_ranges rs is s) = ranges-stop w cs a fs rs is s

letting-stops : (w : Word) → may_stand w ≡ false → (cs : Names Ex) → step_letting_wanted (word w) cs ≡ None
letting-stops letting_word h cs = cc
letting-stops w h cs = refl

nothing-stops : (w : Word) → may_stand w ≡ false → (cs : Names Ex) → step_nothing_read (word w) cs ≡ None
nothing-stops language_word h cs = cc
nothing-stops letting_word h cs = cc
nothing-stops w h cs = refl

be-stops : (w : Word) → may_stand w ≡ false → (cs : Names Ex) (a : Text) → step_be (word w) cs a ≡ None
be-stops be_word h cs a = cc
be-stops w h cs a = refl

stops : (w : Word) → may_stand w ≡ false → (cs : Names Ex) (m : Mode) → cells_step_at (word w) cs m ≡ None
stops w h cs nothing_read = nothing-stops w h cs
stops w h cs prime_wanted = refl
stops w h cs major_wanted = refl
stops w h cs dot_wanted = refl
stops w h cs minor_wanted = refl
stops w h cs letting_wanted = letting-stops w h cs
stops w h cs name_wanted = refl
stops w h cs (be_wanted a) = be-stops w h cs a
stops w h cs (in_value a fs s) = values-stop w h cs a fs s

-- No run goes past such a word.
never : (w : Word) → may_stand w ≡ false → (ts us : List Token) (s : CellsState) → state_behind cells_step (ts ++ word w ∷ us) cells_start ≡ Some s → ⊥
never w h ts us s k = never-behind cells_step (word w) (λ q. stops w h q.done q.mode) ts us cells_start s k

-- Before a word that begins a statement stands a whole text, since it is `letting`.
whole : (ts us : List Token) (w : Word) (s : CellsState) → begins_statement w ≡ true → state_behind cells_step (ts ++ word w ∷ us) cells_start ≡ Some s → (cs : Names Ex) × IsCells cs ts
whole ts us letting_word s b h = whole-before ts us s (sym (behind-same (ts ++ word letting_word ∷ us) cells_start) ∙ h)
whole ts us given_word s b h = absurd (never given_word refl ts us s h)
whole ts us find_word s b h = absurd (never find_word refl ts us s h)
whole ts us where_word s b h = absurd (never where_word refl ts us s h)
whole ts us such_word s b h = absurd (never such_word refl ts us s h)
whole ts us minimising_word s b h = absurd (never minimising_word refl ts us s h)
whole ts us maximising_word s b h = absurd (never maximising_word refl ts us s h)
whole ts us w s b h = cc

-- The machine answers exactly what the rules derive, and stops for good.
pub cell-laws : IsMachineFor cells_step cells_finish cells_start IsCells
cell-laws = record {
  derives = λ ts a h. cells-sound ts a (sym (tree-same ts cells_start) ∙ h);
  reads = λ ts a d. tree-same ts cells_start ∙ cells-complete ts a d;
  stops = λ ts us a h d. no-cells ts us a (sym (behind-same ts cells_start) ∙ h) d;
  whole = whole;
}

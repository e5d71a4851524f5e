-- The laws of the machine of files of lettings.
use Rattle.std.proofs.Common.{◌≡◌, refl, sym, ap, ◌∙◌, Bool, true, false, ◌&&◌, List, [], ◌∷◌, ◌++◌, Option, Some, None}
use Rattle.std.specs.List.{list_all}
use Rattle.ess_semantics.specs.Trees.{Stm}
use Rattle.ess_grammar.specs.Words.{Token, word}
use Rattle.ess_grammar.specs.Readable.{is_plain_letting}
use Rattle.ess_grammar.specs.Statements.{IsLettingsFile}
use Rattle.ess_grammar.proofs.LettingsFiles.{are_plain, file-specification}
use Rattle.ess_parse_laws.specs.Frames.{Frame}
use Rattle.ess_parse_laws.specs.Modes.{Answer, Mode, State}
use Rattle.ess_parse_laws.specs.Machine.{then_run, then_state_after}
use Rattle.ess_parse_laws.specs.Lettings.{is_type_word, lettings_step, lettings_run, lettings_state_after, read_lettings}
use Rattle.ess_parse_laws.proofs.LettingsRuns.{lettings-complete, lettings-sound, no-file}
use Rattle.ess_parse_laws.proofs.WholeTexts.{whole-file}
use Rattle.ess_parse.specs.Machines.{LettingsState, behind_token, step_lettings, statements_of, only_lettings, lettings_of, finish_lettings, start_lettings}
use Rattle.ess_parse.proofs.Runs.{from_state, state_behind, tree_of, IsMachineFor}
use Rattle.ess_parse.proofs.StateLaws.{is-specification}

then-tree : (t : Token) (r : Option State) (j : LettingsState → Option (List Stm)) (k : Mode → List Frame → Option Answer) →
    ((s : State) → j (record { behind_type = is_type_word t; state = s }) ≡ lettings_of (k s.mode s.frames)) → from_state j (behind_token t r) ≡ lettings_of (then_run r k)
then-tree t None j k f = refl
then-tree t (Some s) j k f = f s

tree-same : (ts : List Token) (s : LettingsState) → tree_of step_lettings finish_lettings ts s ≡ lettings_of (lettings_run s.behind_type ts s.state.mode s.state.frames)
tree-same [] s = refl
tree-same (t ∷ ts) s =
    then-tree t (lettings_step s.behind_type t s.state.mode s.state.frames) (tree_of step_lettings finish_lettings ts) (lettings_run (is_type_word t) ts)
    (λ q. tree-same ts (record { behind_type = is_type_word t; state = q }))

-- The state behind tokens, without the flag.
abbrev without_flag : Option LettingsState → Option State
without_flag None = None
without_flag (Some s) = Some s.state

then-behind : (t : Token) (r : Option State) (j : LettingsState → Option LettingsState) (k : Mode → List Frame → Option State) →
    ((s : State) → without_flag (j (record { behind_type = is_type_word t; state = s })) ≡ k s.mode s.frames) → without_flag (from_state j (behind_token t r)) ≡ then_state_after r k
then-behind t None j k f = refl
then-behind t (Some s) j k f = f s

behind-same : (ts : List Token) (s : LettingsState) → without_flag (state_behind step_lettings ts s) ≡ lettings_state_after s.behind_type ts s.state.mode s.state.frames
behind-same [] s = refl
behind-same (t ∷ ts) s =
    then-behind t (lettings_step s.behind_type t s.state.mode s.state.frames) (state_behind step_lettings ts) (lettings_state_after (is_type_word t) ts)
    (λ q. behind-same ts (record { behind_type = is_type_word t; state = q }))

only-same : (b : Bool) (rs ss : List Stm) → (elim b [ true ↦ Some rs | false ↦ None ]) ≡ Some ss → rs ≡ ss
only-same true rs ss h = cc
only-same false rs ss h = cc

all-lettings : (o : Option (List Stm)) (ss : List Stm) → only_lettings o ≡ Some ss → o ≡ Some ss
all-lettings None ss h = cc
all-lettings (Some rs) ss h = ap (λ qs. Some qs) (only-same (list_all is_plain_letting rs) rs ss h)

all-plain : (ss : List Stm) → list_all is_plain_letting ss ≡ are_plain ss
all-plain [] = refl
all-plain (s ∷ ss) = ap (λ b. is_plain_letting s && b) (all-plain ss)

plain-lettings : (ss : List Stm) → are_plain ss ≡ true → only_lettings (Some ss) ≡ Some ss
plain-lettings ss h = ap (λ b. elim b [ true ↦ Some ss | false ↦ None ]) (all-plain ss ∙ h)

-- The laws.
pub lettings-laws : IsMachineFor step_lettings finish_lettings start_lettings IsLettingsFile
lettings-laws = record {
  derives = λ ts ss h.
      lettings-sound ts ss (is-specification (read_lettings ts) ss (all-lettings (statements_of (read_lettings ts)) ss (sym (tree-same ts start_lettings) ∙ h)));
  reads = λ ts ss d. tree-same ts start_lettings ∙ ap lettings_of (lettings-complete d) ∙ plain-lettings ss (file-specification d).1;
  stops = λ ts us ss h d. no-file ts us ss (sym (behind-same ts start_lettings) ∙ ap without_flag h) d;
  whole = λ ts us w s b h. whole-file ts us w s.state b (sym (behind-same (ts ++ word w ∷ us) start_lettings) ∙ ap without_flag h);
}

-- Files of lettings, as parameters and solutions are: the machine of specifications, over tokens that such a file may have.
-- The words of other statements occur in no expression, so a file of lettings is a specification without them, without
-- `domain` and without `type of`.
use Rattle.std.specs.Prelude.{Bool, true, false, ◌&&◌, not, List, [], ◌∷◌, Option, Some, None}
use Rattle.ess_grammar.specs.Words.{Token, word, given_word, find_word, where_word, such_word, minimising_word, maximising_word, domain_word, type_word, of_word}
use Rattle.ess_parse_laws.specs.Frames.{Frame}
use Rattle.ess_parse_laws.specs.Modes.{Mode, State, Answer, nothing_read}
use Rattle.ess_parse_laws.specs.Machine.{step, finish, then_run, then_state_after}

-- Whether the token is the word `type`.
abbrev pub is_type_word : Token → Bool
is_type_word (word type_word) = true
is_type_word _ = false

-- Whether the token may stand in a file of lettings, behind the word `type` (true) or not.
abbrev pub may_stand : Bool → Token → Bool
may_stand behind_type (word given_word) = false
may_stand behind_type (word find_word) = false
may_stand behind_type (word where_word) = false
may_stand behind_type (word such_word) = false
may_stand behind_type (word minimising_word) = false
may_stand behind_type (word maximising_word) = false
may_stand behind_type (word domain_word) = false
may_stand behind_type (word of_word) = not behind_type
may_stand behind_type _ = true

-- Whether all these tokens may stand there.
abbrev pub all_may_stand : Bool → List Token → Bool
all_may_stand behind_type [] = true
all_may_stand behind_type (t ∷ ts) = may_stand behind_type t && all_may_stand (is_type_word t) ts

-- One step: that of the machine where the token may stand.
abbrev pub lettings_step : Bool → Token → Mode → List Frame → Option State
lettings_step behind_type t m fs = elim (may_stand behind_type t) [ true ↦ step t m fs | false ↦ None ]

-- The answer of a run over all the tokens from a mode and frames.
abbrev pub lettings_run : Bool → List Token → Mode → List Frame → Option Answer
lettings_run behind_type [] m fs = finish m fs
lettings_run behind_type (t ∷ ts) m fs = then_run (lettings_step behind_type t m fs) (lettings_run (is_type_word t) ts)

-- The state behind these tokens, from a mode and frames. None: the reader has stopped at one of them.
abbrev pub lettings_state_after : Bool → List Token → Mode → List Frame → Option State
lettings_state_after behind_type [] m fs = Some (record { mode = m; frames = fs })
lettings_state_after behind_type (t ∷ ts) m fs = then_state_after (lettings_step behind_type t m fs) (lettings_state_after (is_type_word t) ts)

-- The lettings that the tokens are.
abbrev pub read_lettings : List Token → Option Answer
read_lettings ts = lettings_run false ts nothing_read []

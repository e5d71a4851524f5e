-- How a run of the program ends: why, with which status, and what it leaves.
use Rattle.std.specs.Prelude.{◌≡◌, ℕ, ◌+◌, ◌≤◌, ◌⊎◌, List, [], ◌∷◌, ◌++◌, codes, length, Option, None, IfSome}
use Rattle.ess_io.specs.Counts.{Rose}
use Rattle.ess_io.specs.Trees.{file_at, start_of_file, with_file, LeavesPrefix}
use Rattle.ess_io.specs.Sinks.{grown, GrewByPrefix}
use Rattle.ess_semantics.specs.Trees.{Stm}
use Rattle.ess_translate.specs.Answers.{IsEssence}
use Rattle.conjure_modelling.specs.declared.refusal.ModelNo.{ModelNo}
use Rattle.conjure_modelling.specs.Modelled.{TakesList}
use Rattle.conjure_standing_laws.specs.Standing.{IsFlatText}
use Rattle.conjure_cli.specs.Whole.{IsSmallWay, IsModelFor, IsUnmodelledFor}
use Rattle.conjure_cli.specs.Seen.{FilesSeen, SinkSeen, limit, ReadGives, IsAbsent, LeavesLine}
use Rattle.conjure_cli.specs.declared.ending.Ending.{Ending}
use Rattle.conjure_cli.specs.declared.ending.Ending.TheVariants.{Done, Usage, Missing, Unreadable, TooLong, NotYet, Unwritable, OutputFailed, NoMemory}

-- the file of a model in its folder
abbrev pub model_in : List ℕ → List ℕ
model_in folder = folder ++ codes "/model000001.eprime"

-- the file of a model where no folder is given
abbrev pub model_file : List ℕ
model_file = codes "conjure-output/model000001.eprime"

-- The status of the program.
abbrev pub status_of : Ending → ℕ
status_of Done = 0
status_of Usage = 2
status_of NotYet = 3
status_of Missing = 4
status_of Unreadable = 4
status_of Unwritable = 4
status_of OutputFailed = 4
status_of TooLong = 5
status_of NoMemory = 6

-- What is said of an ending. The file is the one that was to be read, and the place that of the model.
abbrev pub told_of : List ℕ → List ℕ → Ending → List ℕ
told_of file place Done = []
told_of file place Usage = codes "usage: modelling, translate-parameter, translate-solution, validate-solution, selftest"
told_of file place NotYet = file ++ codes ": not supported yet"
told_of file place Missing = file ++ codes ": no such file"
told_of file place Unreadable = file ++ codes ": cannot be read"
told_of file place Unwritable = place ++ codes ": cannot be written"
told_of file place OutputFailed = codes "standard output: cannot be written"
told_of file place TooLong = file ++ codes ": longer than 16777216 bytes"
told_of file place NoMemory = codes "out of memory"

-- The line on `err`.
abbrev pub err_line : List ℕ → List ℕ → Ending → List ℕ
err_line file place ending = codes "conjure: " ++ told_of file place ending ++ 10 ∷ []

-- The line on `out`.
abbrev pub out_line : List ℕ → List ℕ
out_line place = codes "wrote " ++ place ++ 10 ∷ []

-- a text within the limit for which a model is written, with a list of representations or without one
abbrev pub IsReadable : Option (List ℕ) → List ℕ → Type 0
IsReadable list text = (length text ≤ limit) × ((model : List ℕ) × IsModelFor list text model)

-- a text within the limit for which none is written, for this reason
abbrev pub IsUnreadable : Option (List ℕ) → ModelNo → List ℕ → Type 0
IsUnreadable list why text = (length text ≤ limit) × IsUnmodelledFor list text why

-- Why a run over a file ends so.
abbrev pub CauseOf : Ending → Option (List ℕ) → List ℕ → FilesSeen → FilesSeen → SinkSeen → SinkSeen → Type 0
CauseOf Done list file before after out_before out_after = ReadGives before.tree file (IsReadable list)
CauseOf Usage list file before after out_before out_after = ⊥
CauseOf Missing list file before after out_before out_after = Rose before.misses after.misses × IsAbsent before after file
CauseOf Unreadable list file before after out_before out_after = Rose before.faults after.faults
CauseOf TooLong list file before after out_before out_after = ReadGives before.tree file (λ text. length text ≡ limit + 1)
CauseOf NotYet list file before after out_before out_after = ReadGives before.tree file (IsUnreadable list ModelNo.NotYet)
CauseOf Unwritable list file before after out_before out_after =
    Rose before.faults after.faults × ReadGives before.tree file (IsReadable list)
CauseOf OutputFailed list file before after out_before out_after =
    Rose out_before.faults out_after.faults × ReadGives before.tree file (IsReadable list)
CauseOf NoMemory list file before after out_before out_after =
    IfSome before.tree (λ tree. ¬ ((file_at tree file ≡ None) × (¬ Rose before.faults after.faults)))

-- the model of what was read, and how the tree is left
abbrev pub LeavesModel : Option (List ℕ) → List ℕ → FilesSeen → FilesSeen → (List ℕ → Type 0) → Type 0
LeavesModel list file before after P = ReadGives before.tree file (λ text. (model : List ℕ) × IsModelFor list text model × P model)

-- What a run leaves of the files. A refusal touches none.
abbrev pub LeavesFiles : Ending → Option (List ℕ) → List ℕ → List ℕ → FilesSeen → FilesSeen → Type 0
LeavesFiles Done list file place before after = LeavesModel list file before after (λ model. after.tree ≡ with_file before.tree place model)
LeavesFiles OutputFailed list file place before after =
    LeavesModel list file before after (λ model. after.tree ≡ with_file before.tree place model)
LeavesFiles Unwritable list file place before after = LeavesModel list file before after (LeavesPrefix before.tree after.tree place)
LeavesFiles NoMemory list file place before after =
    (after.tree ≡ before.tree) ⊎ LeavesModel list file before after (LeavesPrefix before.tree after.tree place)
LeavesFiles ending list file place before after = after.tree ≡ before.tree

-- What a run leaves on `out`: its line, a prefix of it after a fault, or nothing new.
abbrev pub LeavesOut : Ending → List ℕ → SinkSeen → SinkSeen → Type 0
LeavesOut Done place before after = after.bytes ≡ grown before.bytes (out_line place)
LeavesOut OutputFailed place before after = GrewByPrefix before.bytes after.bytes (out_line place)
LeavesOut ending place before after = after.bytes ≡ before.bytes

-- What a run leaves on `err`: nothing new where the work is done, else its line, or a prefix of it where a fault came.
abbrev pub LeavesErr : Ending → List ℕ → List ℕ → SinkSeen → SinkSeen → Type 0
LeavesErr Done file place before after = after.bytes ≡ before.bytes
LeavesErr ending file place before after = LeavesLine (err_line file place ending) before after

-- ---- What follows, without the ending.

-- a status of a refusal
abbrev pub IsRefusal : ℕ → Type 0
IsRefusal status = (status ≡ 2) ⊎ (status ≡ 3) ⊎ (status ≡ 5)

-- no fault of the files and of `out` came in between
abbrev pub NoFault : FilesSeen → FilesSeen → SinkSeen → SinkSeen → Type 0
NoFault before after out_before out_after = (¬ Rose before.faults after.faults) × (¬ Rose out_before.faults out_after.faults)

-- Where a file that isn't in a told tree is to be refined, and no fault came: the status is 4.
abbrev pub MissingIsFour : ℕ → List ℕ → FilesSeen → FilesSeen → Type 0
MissingIsFour status file before after =
    IfSome before.tree (λ tree. file_at tree file ≡ None → (¬ Rose before.faults after.faults) → status ≡ 4)

-- Where a told tree has the file and no fault came: the status is 5 where more is read than the limit; 0 where the text is one of the
-- small grammar and no list of representations is given; else 3 or 5 where it is no well typed specification; else 3 where the list
-- isn't taken; else 0, or 3 where a part of the model can't be written yet, which is never so of a text of scalars with flat and
-- total constraints. In place of each, 6 may come.
pub record IsDecided (list : Option (List ℕ)) (status : ℕ) (text : List ℕ) : Type 0 where
  pub long : length text ≡ limit + 1 → (status ≡ 5) ⊎ (status ≡ 6)
  pub small : length text ≤ limit → IsSmallWay list text → (status ≡ 0) ⊎ (status ≡ 6)
  pub refused : length text ≤ limit → (¬ IsSmallWay list text) → (¬ ((S : List Stm) × IsEssence text S))
      → (status ≡ 3) ⊎ (status ≡ 5) ⊎ (status ≡ 6)
  pub unlisted : length text ≤ limit → (¬ IsSmallWay list text) → (S : List Stm) → IsEssence text S → (¬ TakesList S list)
      → (status ≡ 3) ⊎ (status ≡ 6)
  pub taken : length text ≤ limit → (¬ IsSmallWay list text) → (S : List Stm) → IsEssence text S
      → (status ≡ 0) ⊎ (status ≡ 3) ⊎ (status ≡ 6)
  pub has_model : length text ≤ limit → IsFlatText list text → (S : List Stm) → IsEssence text S → TakesList S list
      → (status ≡ 0) ⊎ (status ≡ 6)

abbrev pub TextDecides : ℕ → Option (List ℕ) → List ℕ → FilesSeen → FilesSeen → SinkSeen → SinkSeen → Type 0
TextDecides status list file before after out_before out_after =
    IfSome before.tree (λ tree. IfSome (start_of_file tree file (limit + 1)) (λ text.
    NoFault before after out_before out_after → IsDecided list status text))

-- What the words ask for, and how often files are read for it.
use Rattle.std.specs.Prelude.{◌≡◌, ℕ, zero, suc, ◌≤◌, Bool, false, true, not, ◌&&◌, ◌⊎◌, List, [], ◌∷◌, codes, if◌then◌else◌, bytes_eq, nat_eq, Option, Some, None, option_map, is_none}
use Rattle.ess_io.specs.Counts.{raised}
use Rattle.conjure_cli_words.specs.Commands.{command_of}
use Rattle.conjure_cli_words.specs.declared.command.Command.{Command}
use Rattle.conjure_cli_words.specs.declared.command.Command.TheVariants.{Modelling, Parameter, Solution, Validate, Selftest}
use Rattle.conjure_cli.specs.Ending.{model_in}

-- the first byte is a hyphen
abbrev pub begins_with_dash : List ℕ → Bool
begins_with_dash [] = false
begins_with_dash (b ∷ word) = nat_eq b 45

-- The words are `modelling FILE`, where FILE doesn't begin with `-`; then this is FILE. To read these words takes no memory.
abbrev pub file_named : List (List ℕ) → Option (List ℕ)
file_named [] = None
file_named (command ∷ []) = None
file_named (command ∷ file ∷ []) = if bytes_eq command (codes "modelling") && not (begins_with_dash file) then Some file else None
file_named (command ∷ file ∷ more ∷ words) = None

-- the words aren't `modelling FILE`: to read them, and to name the model's file, may take memory
abbrev pub takes_memory : List (List ℕ) → Bool
takes_memory words = is_none (file_named words)

-- What a run is to do: to refine a file and write its model to a place, with a list of representations or without one; to judge a
-- solution, by the files of a specification, a parameter and the solution; to translate for the model of a file the parameter of another
-- one, or under it the cells of a third one, and write the translation to a place; or to run the self-test with a number.
pub data Task : Type 0 where
  refine : List ℕ → List ℕ → Option (List ℕ) → Task
  judge : List ℕ → List ℕ → List ℕ → Task
  translate : List ℕ → List ℕ → Option (List ℕ) → List ℕ → Task
  test : ℕ → Task

-- the task of a command
abbrev pub task_of : Command → Task
task_of (Modelling folder file options) = refine file (model_in folder) options.use_repr
task_of (Parameter model from to) = translate model from None to
task_of (Solution model param from to) = translate model param (Some from) to
task_of (Validate essence param solution) = judge essence param solution
task_of (Selftest number) = test number

-- the task that the words ask for, where they fit
abbrev pub asked : List (List ℕ) → Option Task
asked words = option_map task_of (command_of words)

-- the count of reads behind k more
abbrev pub reads_more : ℕ → ℕ → ℕ
reads_more zero before = before
reads_more (suc k) before = raised (reads_more k before)

-- at most n reads were made
abbrev pub ReadsUpTo : ℕ → ℕ → ℕ → Type 0
ReadsUpTo n before after = (k : ℕ) × (k ≤ n) × (after ≡ reads_more k before)

-- How many reads were made in all: the file that is to be refined is read once, the files to be judged or translated at most once each,
-- and nothing else is read. Where the words take memory, want of it may come before the read.
abbrev pub ReadsAfter : Option Task → Bool → ℕ → ℕ → ℕ → Type 0
ReadsAfter None takes status before after = after ≡ before
ReadsAfter (Some (test n)) takes status before after = after ≡ before
ReadsAfter (Some (judge essence param solution)) takes status before after = ReadsUpTo 3 before after
ReadsAfter (Some (translate model param cells place)) takes status before after = ReadsUpTo 3 before after
ReadsAfter (Some (refine file place list)) false status before after = after ≡ raised before
ReadsAfter (Some (refine file place list)) true status before after = (after ≡ raised before) ⊎ ((after ≡ before) × (status ≡ 6))

-- the file that is told; the self-test has none
abbrev pub name_told : Option Task → List ℕ
name_told None = []
name_told (Some (refine file place list)) = file
name_told (Some (judge essence param solution)) = essence
name_told (Some (translate model param cells place)) = model
name_told (Some (test n)) = []

-- the place of what is written
abbrev pub place_told : Option Task → List ℕ
place_told (Some (refine file place list)) = place
place_told (Some (translate model param cells place)) = place
place_told _ = []

-- Why a run that refines a file ends so, and what it leaves.
use Rattle.std.specs.Prelude.{◌≡◌, ℕ, ◌⊎◌, List, [], Option}
use Rattle.conjure_modelling.specs.declared.refusal.ModelNo.{ModelNo}
use Rattle.conjure_cli.specs.Seen.{FilesSeen, SinkSeen, ReadGives, LeavesLine}
use Rattle.conjure_cli.specs.Ending.{CauseOf, IsUnreadable, LeavesFiles, LeavesOut, LeavesErr}
use Rattle.conjure_cli.specs.Reasons.{refusal_line, item_line}
use Rattle.conjure_cli.specs.Judging.{StopTold}
use Rattle.conjure_cli.specs.declared.ending.Ending.{Ending}
use Rattle.conjure_cli.specs.declared.outcome.Outcome.{Outcome}

-- Why it ends so: as any run may, or since the text or an item of the list is refused.
abbrev pub CauseTo : Outcome → Option (List ℕ) → List ℕ → FilesSeen → FilesSeen → SinkSeen → SinkSeen → Type 0
CauseTo (Outcome.Plain ending) list file before after out_before out_after = CauseOf ending list file before after out_before out_after
CauseTo (Outcome.Refused why) list file before after out_before out_after =
    ReadGives before.tree file (IsUnreadable list (ModelNo.Specification why))
CauseTo (Outcome.BadItem k) list file before after out_before out_after =
    ReadGives before.tree file (IsUnreadable list (ModelNo.BadRepresentation k))
CauseTo (Outcome.Judged v) list file before after out_before out_after = ⊥

-- What it leaves of the files.
abbrev pub FilesTo : Outcome → Option (List ℕ) → List ℕ → List ℕ → FilesSeen → FilesSeen → Type 0
FilesTo (Outcome.Plain ending) list file place before after = LeavesFiles ending list file place before after
FilesTo outcome list file place before after = after.tree ≡ before.tree

-- What it leaves on `out`.
abbrev pub OutTo : Outcome → List ℕ → SinkSeen → SinkSeen → Type 0
OutTo (Outcome.Plain ending) place before after = LeavesOut ending place before after
OutTo outcome place before after = after.bytes ≡ before.bytes

-- What it leaves on `err`: nothing new where the work is done, else the outcome's line.
abbrev pub ErrTo : Outcome → List ℕ → List ℕ → SinkSeen → SinkSeen → Type 0
ErrTo (Outcome.Plain ending) file place before after = LeavesErr ending file place before after
ErrTo (Outcome.Refused why) file place before after = LeavesLine (refusal_line file why) before after
ErrTo (Outcome.BadItem k) file place before after = LeavesLine (item_line k) before after
ErrTo (Outcome.Judged v) file place before after = ⊥

-- A run over a file comes to this outcome, but for what is said on `err`.
pub record Ran (outcome : Outcome) (list : Option (List ℕ)) (file place : List ℕ) (before after : FilesSeen)
    (out_before out_after : SinkSeen) : Type 0 where
  pub cause : CauseTo outcome list file before after out_before out_after
  pub files : FilesTo outcome list file place before after
  pub out : OutTo outcome place out_before out_after

-- ---- what is told

-- What was told of a refused item, or that memory ran out on the way.
abbrev pub ItemTold : ℕ → Outcome → SinkSeen → SinkSeen → Type 0
ItemTold k told before after =
    ((told ≡ Outcome.BadItem k) × LeavesLine (item_line k) before after) ⊎ ((told
    ≡ Outcome.Plain Ending.NoMemory) × LeavesErr Ending.NoMemory [] [] before after)

-- What was told of a run that refines a file; one that isn't told isn't plain.
abbrev pub RefinedTold : Outcome → Outcome → List ℕ → List ℕ → SinkSeen → SinkSeen → Type 0
RefinedTold (Outcome.Plain ending) told file place before after =
    (told ≡ Outcome.Plain ending) × LeavesErr ending file place before after
RefinedTold (Outcome.Judged v) told file place before after = Unit {0}
RefinedTold (Outcome.Refused why) told file place before after = StopTold (Outcome.Refused why) told file before after
RefinedTold (Outcome.BadItem k) told file place before after = ItemTold k told before after

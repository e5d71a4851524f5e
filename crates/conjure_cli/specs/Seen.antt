-- What files and sinks are seen to be, what is read of a file, and how a line is left on a sink.
use Rattle.std.specs.Prelude.{◌≡◌, ℕ, ◌+◌, ◌≤◌, ◌⊎◌, List, length, Option, Some, None, IfSome, IsSomeAnd}
use Rattle.ess_io.specs.Counts.{Rose}
use Rattle.ess_io.specs.Trees.{Tree, file_at, start_of_file}
use Rattle.ess_io.specs.Sinks.{grown, GrewByPrefix}

-- how many bytes a file may have
abbrev pub limit : ℕ
limit = 16777216

-- What files and sinks are seen to be at a moment. What isn't told is `None`.
pub record FilesSeen : Type 0 where
  pub tree : Option Tree
  pub faults : ℕ
  pub misses : ℕ

pub record SinkSeen : Type 0 where
  pub bytes : Option (List ℕ)
  pub faults : ℕ

abbrev pub files_at : Option Tree → ℕ → ℕ → FilesSeen
files_at tree faults misses = record { tree = tree; faults = faults; misses = misses }

abbrev pub sink_at : Option (List ℕ) → ℕ → SinkSeen
sink_at bytes faults = record { bytes = bytes; faults = faults }

-- Where the tree is told, the file is in it, and P holds of what is read of it: at most one byte more than the limit.
abbrev pub ReadGives : Option Tree → List ℕ → (List ℕ → Type 0) → Type 0
ReadGives tree file P = IfSome tree (λ files. IsSomeAnd (start_of_file files file (limit + 1)) P)

-- the file isn't in a told tree, and no fault came in between
abbrev pub IsAbsent : FilesSeen → FilesSeen → List ℕ → Type 0
IsAbsent before after file = IfSome before.tree (λ tree. (file_at tree file ≡ None) × (¬ Rose before.faults after.faults))

-- the start of the file was read, where the tree is told
abbrev pub WasRead : Option Tree → List ℕ → List ℕ → Type 0
WasRead tree file text = IfSome tree (λ files. start_of_file files file (limit + 1) ≡ Some text)

-- the whole file was read, which is within the limit
pub record Took (tree : Option Tree) (file text : List ℕ) : Type 0 where
  pub was : WasRead tree file text
  pub short : length text ≤ limit

-- what is seen later: the same tree, and counts that haven't fallen
pub record IsLater (before after : FilesSeen) : Type 0 where
  pub tree : after.tree ≡ before.tree
  pub faults : before.faults ≤ after.faults
  pub misses : before.misses ≤ after.misses

-- a line was appended to a sink, or a prefix of it where a fault came
abbrev pub LeavesLine : List ℕ → SinkSeen → SinkSeen → Type 0
LeavesLine line before after = (after.bytes
    ≡ grown before.bytes line) ⊎ (Rose before.faults after.faults × GrewByPrefix before.bytes after.bytes line)

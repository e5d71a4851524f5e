-- What a sink in memory is, as contracts see it.
use Rattle.std.specs.Prelude.{ℕ, ◌-◌, Bool, ◌||◌, nat_le, List, ◌++◌, length, take, min}
use Rattle.ess_io.specs.Counts.{raised}
use Rattle.ess_io.specs.Calls.{is_next_listed}

-- A sink in memory, some of whose calls are to fail.
pub record SinkMemory : Type 0 where
  -- the bytes that it took
  pub held : List ℕ
  -- the numbers of the calls that fail
  pub fails : List ℕ
  -- the most bytes that one call takes
  pub step : ℕ
  -- the most bytes that it takes in all
  pub room : ℕ
  -- how many calls with a number were made
  pub made : ℕ
  -- how many calls failed
  pub faults : ℕ

-- the next call with a piece that isn't empty is to fail: its number is listed, or no room is left
abbrev pub is_failing : SinkMemory → Bool
is_failing sink = is_next_listed sink.fails sink.made || nat_le sink.room (length sink.held)

-- how many bytes a call takes of a piece of this length: what one call takes at most, the piece, or the room left
abbrev pub count_taken : SinkMemory → ℕ → ℕ
count_taken sink len = min sink.step (min len (sink.room - length sink.held))

-- the sink after a call that took the first bytes of a piece
abbrev pub after_taking : SinkMemory → List ℕ → SinkMemory
after_taking sink piece = record sink { held = sink.held ++ take (count_taken sink (length piece)) piece; made = raised sink.made }

-- the sink after a call that failed
abbrev pub after_failing : SinkMemory → SinkMemory
after_failing sink = record sink { made = raised sink.made; faults = raised sink.faults }

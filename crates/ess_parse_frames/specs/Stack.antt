-- The frames of a stack that was taken apart.
use Rattle.std.specs.Prelude.{List, [], ◌∷◌, Option, Some, None}
use Rattle.ess_parse_laws.specs.Frames as machine
use Rattle.ess_parse_frames.specs.Views.{view_frame, view_frames}
use Rattle.ess_parse_frames.specs.declared.stack.Top.{Top}

-- The frames of the machine, the innermost first.
abbrev pub frames_of : Option Top → List machine.Frame
frames_of None = []
frames_of (Some t) = view_frame t.frame ∷ view_frames t.frames

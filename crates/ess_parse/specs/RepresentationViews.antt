-- What the reader of representations stands for.
use Rattle.std.specs.Prelude.{List, [], ◌∷◌}
use Rattle.ess_semantics.specs.Trees.{Reprs, no_reprs, more_reprs}
use Rattle.ess_core.specs.declared.representations.Repr.{Repr}
use Rattle.ess_core.specs.TreeViews.{pure_repr}
use Rattle.ess_parse_laws.specs.RepresentationMachine.{ReprFrame, children_frame, ReprMode, kind_wanted, kind_read, repr_read, ReprState}
use Rattle.ess_parse.specs.declared.representations.machine.Frame.{Frame}
use Rattle.ess_parse.specs.declared.representations.machine.Mode.{Mode}
use Rattle.ess_parse.specs.declared.representations.machine.Machine.{Machine}

-- Children in reverse, before others.
abbrev pub reversed_onto : List Repr → Reprs → Reprs
reversed_onto [] acc = acc
reversed_onto (r ∷ rs) acc = reversed_onto rs (more_reprs (pure_repr r) acc)

-- A kind with its children, the last one first.
abbrev pub view_frame : Frame → ReprFrame
view_frame f = children_frame f.kind (reversed_onto f.children no_reprs)

-- Frames in reverse, before others.
abbrev pub frames_onto : List Frame → List ReprFrame → List ReprFrame
frames_onto [] acc = acc
frames_onto (f ∷ fs) acc = frames_onto fs (view_frame f ∷ acc)

-- The frames from the innermost to the outermost.
abbrev pub view_frames : List Frame → List ReprFrame
view_frames fs = frames_onto fs []

-- The mode.
abbrev pub view_mode : Mode → ReprMode
view_mode Mode.KindWanted = kind_wanted
view_mode (Mode.KindRead k) = kind_read k
view_mode (Mode.ReprRead r) = repr_read (pure_repr r)

-- The state.
abbrev pub view_machine : Machine → ReprState
view_machine m = record { mode = view_mode m.mode; frames = view_frames m.frames }

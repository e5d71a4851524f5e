-- A machine of its own for representations: their rules are those of `ess_grammar`, Representations.
use Rattle.std.specs.Prelude.{List, [], ◌∷◌, Option, Some, None}
use Rattle.ess_semantics.specs.declared.words.ReprKind.{ReprKind}
use Rattle.ess_semantics.specs.Trees.{Repr, Reprs, repr, no_reprs, more_reprs}
use Rattle.ess_grammar.specs.Words.{Token, name, symbol, open_square, close_square, comma}
use Rattle.ess_grammar.specs.Representations.{kind_of}

-- A kind that has children in brackets, and those that are read, in reverse.
pub data ReprFrame : Type 0 where
  children_frame : ReprKind → Reprs → ReprFrame

-- What is wanted next, or what was just read: the name of a kind, or a representation with its brackets.
pub data ReprMode : Type 0 where
  kind_wanted : ReprMode
  kind_read : ReprKind → ReprMode
  repr_read : Repr → ReprMode

-- A state: a mode, and the frames from the innermost to the outermost.
pub record ReprState : Type 0 where
  pub mode : ReprMode
  pub frames : List ReprFrame

-- This state as an answer of a step.
abbrev pub at_repr_state : ReprMode → List ReprFrame → Option ReprState
at_repr_state m fs = Some (record { mode = m; frames = fs })

-- The representations of the first list in reverse, before those of the second.
abbrev pub reverse_reprs : Reprs → Reprs → Reprs
reverse_reprs no_reprs rs = rs
reverse_reprs (more_reprs q qs) rs = reverse_reprs qs (more_reprs q rs)

-- A token behind a whole representation: another child follows, or the brackets are closed.
abbrev pub repr_then : Token → Repr → List ReprFrame → Option ReprState
repr_then (symbol comma) r (children_frame k rs ∷ fs) = at_repr_state kind_wanted (children_frame k (more_reprs r rs) ∷ fs)
repr_then (symbol close_square) r (children_frame k rs ∷ fs) = at_repr_state (repr_read (repr k (reverse_reprs rs (more_reprs r no_reprs)))) fs
repr_then _ r fs = None

-- A token where the name of a kind is wanted.
abbrev pub step_kind_wanted : Token → List ReprFrame → Option ReprState
step_kind_wanted (name a) fs = elim (kind_of a) [ Some k ↦ at_repr_state (kind_read k) fs | None ↦ None ]
step_kind_wanted _ fs = None

-- A token behind the name of a kind: brackets, or else the kind has no children.
abbrev pub step_kind_read : Token → ReprKind → List ReprFrame → Option ReprState
step_kind_read (symbol open_square) k fs = at_repr_state kind_wanted (children_frame k no_reprs ∷ fs)
step_kind_read t k fs = repr_then t (repr k no_reprs) fs

-- One step of the machine. None: no representation begins with the tokens up to and with this one.
abbrev pub repr_step : Token → ReprMode → List ReprFrame → Option ReprState
repr_step t kind_wanted fs = step_kind_wanted t fs
repr_step t (kind_read k) fs = step_kind_read t k fs
repr_step t (repr_read r) fs = repr_then t r fs

-- The answer at the end of the tokens.
abbrev pub repr_finish : ReprMode → List ReprFrame → Option Repr
repr_finish (kind_read k) [] = Some (repr k no_reprs)
repr_finish (repr_read r) [] = Some r
repr_finish _ fs = None

-- What a run answers from a state, if there is one.
abbrev pub then_repr_run : Option ReprState → (ReprMode → List ReprFrame → Option Repr) → Option Repr
then_repr_run None k = None
then_repr_run (Some r) k = k r.mode r.frames

-- The answer of a run over all the tokens from a mode and frames.
abbrev pub repr_run : List Token → ReprMode → List ReprFrame → Option Repr
repr_run [] m fs = repr_finish m fs
repr_run (t ∷ ts) m fs = then_repr_run (repr_step t m fs) (repr_run ts)

-- The state of a run from a state, if there is one.
abbrev pub then_repr_state_after : Option ReprState → (ReprMode → List ReprFrame → Option ReprState) → Option ReprState
then_repr_state_after None k = None
then_repr_state_after (Some r) k = k r.mode r.frames

-- The state behind these tokens, from a mode and frames. None: the machine has stopped at one of them.
abbrev pub repr_state_after : List Token → ReprMode → List ReprFrame → Option ReprState
repr_state_after [] m fs = Some (record { mode = m; frames = fs })
repr_state_after (t ∷ ts) m fs = then_repr_state_after (repr_step t m fs) (repr_state_after ts)

-- The representation that the tokens are.
abbrev pub read_representation : List Token → Option Repr
read_representation ts = repr_run ts kind_wanted []

-- The laws of the machine of representations.
use Rattle.std.proofs.Common.{◌≡◌, refl, sym, ◌∙◌, List, [], ◌∷◌, Option, Some, None}
use Rattle.ess_semantics.specs.Trees.{Repr}
use Rattle.ess_grammar.specs.Words.{Token, Word, word}
use Rattle.ess_grammar.specs.Representations.{IsRepresentation}
use Rattle.ess_parse_laws.specs.RepresentationMachine.{ReprFrame, ReprMode, kind_wanted, kind_read, repr_read, ReprState, repr_step, then_repr_run, repr_run, then_repr_state_after, repr_state_after}
use Rattle.ess_parse_laws.proofs.RepresentationRuns.{representation-complete, representation-sound, no-representation}
use Rattle.ess_parse.specs.Machines.{step_representation, finish_representation, start_representation}
use Rattle.ess_parse.proofs.Runs.{from_state, state_behind, tree_of, IsMachineFor, never-behind}

then-tree : (r : Option ReprState) (j : ReprState → Option Repr) (k : ReprMode → List ReprFrame → Option Repr) → ((s : ReprState) → j s ≡ k s.mode s.frames) → from_state j r ≡ then_repr_run r k
then-tree None j k f = refl
then-tree (Some s) j k f = f s

tree-same : (ts : List Token) (s : ReprState) → tree_of step_representation finish_representation ts s ≡ repr_run ts s.mode s.frames
tree-same [] s = refl
tree-same (t ∷ ts) s = then-tree (step_representation t s) (tree_of step_representation finish_representation ts) (repr_run ts) (tree-same ts)

then-behind : (r : Option ReprState) (j : ReprState → Option ReprState) (k : ReprMode → List ReprFrame → Option ReprState) → ((s : ReprState) → j s ≡ k s.mode s.frames) → from_state j r ≡ then_repr_state_after r k
then-behind None j k f = refl
then-behind (Some s) j k f = f s

behind-same : (ts : List Token) (s : ReprState) → state_behind step_representation ts s ≡ repr_state_after ts s.mode s.frames
behind-same [] s = refl
behind-same (t ∷ ts) s = then-behind (step_representation t s) (state_behind step_representation ts) (repr_state_after ts) (behind-same ts)

-- The machine stops at each word.
word-stops : (w : Word) (m : ReprMode) (fs : List ReprFrame) → repr_step (word w) m fs ≡ None
word-stops w kind_wanted fs = refl
word-stops w (kind_read k) fs = refl
word-stops w (repr_read r) fs = refl

pub representation-laws : IsMachineFor step_representation finish_representation start_representation IsRepresentation
representation-laws = record {
  derives = λ ts a h. representation-sound ts a (sym (tree-same ts start_representation) ∙ h);
  reads = λ ts a d. tree-same ts start_representation ∙ representation-complete d;
  stops = λ ts us a h d. no-representation ts us a (sym (behind-same ts start_representation) ∙ h) d;
  whole = λ ts us w s b h. absurd (never-behind step_representation (word w) (λ r. word-stops w r.mode r.frames) ts us start_representation s h);
}

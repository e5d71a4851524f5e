-- Frames put on and taken off.
use Rattle.std.proofs.Common.{◌≡◌, refl, List, [], ◌∷◌, ◌++◌, map}
use Rattle.ess_parse_laws.specs.Reversed.{reverse_list}
use Rattle.ess_parse_frames.specs.Views.{view_frame, view_frames}
use Rattle.ess_parse_frames.specs.declared.frames.Frame.{Frame}

-- an item at the end of a list comes first in its reverse
pub reverse_push : {A B : Type 0} (f : A → B) (xs : List A) (x : A) (before : List B) → reverse_list (map f (xs ++ x ∷ [])) before ≡ f x ∷ reverse_list (map f xs) before
reverse_push f [] x before = refl
reverse_push f (y ∷ xs) x before = reverse_push f xs x (f y ∷ before)

pub frames_none : view_frames [] ≡ []
unfolding view_frames
frames_none = refl

pub frames_push : (fs : List Frame) (f : Frame) → view_frames (fs ++ f ∷ []) ≡ view_frame f ∷ view_frames fs
unfolding view_frames
frames_push fs f = reverse_push view_frame fs f []

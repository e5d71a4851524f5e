-- Frames read from the innermost outwards, without taking them off.
use Rattle.std.proofs.Common.{◌≡◌, refl, sym, ap, ◌∙◌, ℕ, ◌+◌, ◌-◌, ◌<◌, List, [], ◌∷◌, length, take, get_or, Some, None, slice_get, arith}
use Rattle.std.proofs.lemmas.List.{take_more, take_all}
use Rattle.std.proofs.lemmas.Option.{get_or_from_slice_get, slice_get_within, slice_get-get_or}
use Rattle.ess_parse_frames.specs.declared.frames.Frame.{Frame}
use Rattle.ess_parse_frames.specs.Views.{view_frame, view_frames}
use Rattle.ess_parse_frames.proofs.StackLaws.{frames_push}

-- the frame at a depth is the innermost of those up to it
pub frames_at : (fs : List Frame) (i : ℕ) (f : Frame) → i < length fs → f ≡ get_or fs i f → view_frames (take (i + 1) fs) ≡ view_frame f ∷ view_frames (take i fs)
frames_at fs i f h e = ap view_frames (take_more fs i f h) ∙ frames_push (take i fs) (get_or fs i f) ∙ ap (λ g. view_frame g ∷ view_frames (take i fs)) (sym e)

pub frames_all : (fs : List Frame) → view_frames (take (length fs) fs) ≡ view_frames fs
frames_all fs = ap view_frames (take_all (length fs) fs (omega arith))

-- the last frame is the innermost
pub frames_last : (fs : List Frame) (f : Frame) → slice_get fs (length fs - 1) ≡ Some f → view_frames fs ≡ view_frame f ∷ view_frames (take (length fs - 1) fs)
frames_last fs f h =
    let w : length fs - 1 < length fs = slice_get_within fs (length fs - 1) f h in
    let s : (length fs - 1) + 1 ≡ length fs = omega arith in
    sym (ap (λ n. view_frames (take n fs)) s ∙ frames_all fs) ∙ frames_at fs (length fs - 1) f w (sym (get_or_from_slice_get fs (length fs - 1) f f h))

pub no_last_frame : (fs : List Frame) → slice_get fs (length fs - 1) ≡ None → fs ≡ []
no_last_frame [] h = refl
no_last_frame (f ∷ fs) h = let e : slice_get (f ∷ fs) (length (f ∷ fs) - 1) ≡ Some (get_or (f ∷ fs) (length (f ∷ fs) - 1) f) = slice_get-get_or (f ∷ fs) (length (f ∷ fs) - 1) f (omega arith) in cc

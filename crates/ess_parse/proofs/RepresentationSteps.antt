-- Steps of the reader of representations, as steps of the machine.
use Rattle.std.proofs.Common.{◌≡◌, refl, sym, ap, ◌∙◌, Bool, true, false, List, [], ◌∷◌, ◌++◌, map, None}
use Rattle.ess_semantics.specs.declared.words.ReprKind.{ReprKind}
use Rattle.ess_semantics.specs.Trees as pure
use Rattle.ess_semantics.specs.Trees.{no_reprs, more_reprs, repr}
use Rattle.ess_semantics.specs.Choice.{reprs_of}
use Rattle.ess_core.specs.declared.representations.Repr.{Repr, roll-Repr}
use Rattle.ess_core.specs.declared.representations.Repr.TheFolds.{fold-roll-Repr}
use Rattle.ess_core.specs.TreeViews.{repr_step, pure_repr}
use Rattle.ess_grammar.specs.Words.{symbol, comma, close_square}
use Rattle.ess_parse_laws.specs.RepresentationMachine.{ReprFrame, children_frame, ReprMode, kind_wanted, repr_read, at_repr_state, reverse_reprs, repr_then, repr_finish}
use Rattle.ess_parse.specs.declared.representations.machine.Frame.{Frame}
use Rattle.ess_parse.specs.RepresentationViews.{reversed_onto, view_frame, frames_onto, view_frames}

-- A frame pushed.
pub frames-push : (fs : List Frame) (f : Frame) (acc : List ReprFrame) → frames_onto (fs ++ f ∷ []) acc ≡ view_frame f ∷ frames_onto fs acc
frames-push [] f acc = refl
frames-push (g ∷ fs) f acc = frames-push fs f (view_frame g ∷ acc)

-- A child pushed.
pub children-push : (cs : List Repr) (r : Repr) (acc : pure.Reprs) → reversed_onto (cs ++ r ∷ []) acc ≡ more_reprs (pure_repr r) (reversed_onto cs acc)
children-push [] r acc = refl
children-push (c ∷ cs) r acc = children-push cs r (more_reprs (pure_repr c) acc)

-- All children in their order.
pub children-in-order : (cs : List Repr) (r : Repr) (acc : pure.Reprs) →
    reverse_reprs (reversed_onto cs acc) (more_reprs (pure_repr r) no_reprs) ≡ reverse_reprs acc (reprs_of (map pure_repr (cs ++ r ∷ [])))
children-in-order [] r acc = refl
children-in-order (c ∷ cs) r acc = children-in-order cs r (more_reprs (pure_repr c) acc)

-- A comma behind a child.
pub next-child : (old fs new : List Frame) (f g : Frame) (r : Repr) → old ≡ fs ++ f ∷ [] → new ≡ fs ++ g ∷ [] → g.kind ≡ f.kind → g.children ≡ f.children ++ r ∷ [] →
    repr_then (symbol comma) (pure_repr r) (view_frames old) ≡ at_repr_state kind_wanted (view_frames new)
next-child old fs new f g r o n k c =
    ap (λ gs. repr_then (symbol comma) (pure_repr r) gs) (ap view_frames o ∙ frames-push fs f [])
    ∙ ap (λ rs. at_repr_state kind_wanted (children_frame f.kind rs ∷ view_frames fs)) (sym (ap (λ rs. reversed_onto rs no_reprs) c ∙ children-push f.children r no_reprs))
    ∙ ap (λ j. at_repr_state kind_wanted (children_frame j (reversed_onto g.children no_reprs) ∷ view_frames fs)) (sym k)
    ∙ ap (at_repr_state kind_wanted) (sym (ap view_frames n ∙ frames-push fs g []))

-- A closing bracket behind the last child.
pub closed-children : (old fs : List Frame) (f : Frame) (r : Repr) (cs : List Repr) → old ≡ fs ++ f ∷ [] → cs ≡ f.children ++ r ∷ [] →
    repr_then (symbol close_square) (pure_repr r) (view_frames old) ≡ at_repr_state (repr_read (pure_repr (roll-Repr (record { kind = f.kind; children = cs })))) (view_frames fs)
closed-children old fs f r cs o c =
    ap (λ gs. repr_then (symbol close_square) (pure_repr r) gs) (ap view_frames o ∙ frames-push fs f [])
    ∙ ap (λ rs. at_repr_state (repr_read (repr f.kind rs)) (view_frames fs)) (children-in-order f.children r no_reprs ∙ ap (λ rs. reprs_of (map pure_repr rs)) (sym c))
    ∙ ap (λ q. at_repr_state (repr_read q) (view_frames fs)) (sym (fold-roll-Repr pure.Repr repr_step (record { kind = f.kind; children = cs })))

-- The first child begins.
pub first-child : (fs new : List Frame) (g : Frame) (k : ReprKind) → new ≡ fs ++ g ∷ [] → g.kind ≡ k → g.children ≡ [] →
    at_repr_state kind_wanted (children_frame k no_reprs ∷ view_frames fs) ≡ at_repr_state kind_wanted (view_frames new)
first-child fs new g k n i c =
    ap (λ rs. at_repr_state kind_wanted (children_frame k rs ∷ view_frames fs)) (sym (ap (λ rs. reversed_onto rs no_reprs) c))
    ∙ ap (λ j. at_repr_state kind_wanted (children_frame j (reversed_onto g.children no_reprs) ∷ view_frames fs)) (sym i)
    ∙ ap (at_repr_state kind_wanted) (sym (ap view_frames n ∙ frames-push fs g []))

abbrev is_some_frame : List ReprFrame → Bool
is_some_frame [] = false
is_some_frame (f ∷ fs) = true

some-frames : (fs : List Frame) (f : ReprFrame) (acc : List ReprFrame) → is_some_frame (frames_onto fs (f ∷ acc)) ≡ true
some-frames [] f acc = refl
some-frames (g ∷ fs) f acc = some-frames fs (view_frame g) (f ∷ acc)

unfinished-at : (m : ReprMode) (fs : List ReprFrame) → is_some_frame fs ≡ true → repr_finish m fs ≡ None
unfinished-at m [] h = cc
unfinished-at kind_wanted (f ∷ fs) h = refl
unfinished-at _ (f ∷ fs) h = refl

-- Where brackets are open, nothing is whole.
pub unfinished : (m : ReprMode) (fs : List Frame) → (fs ≡ [] → ⊥) → repr_finish m (view_frames fs) ≡ None
unfinished m [] h = absurd (h refl)
unfinished m (f ∷ fs) h = unfinished-at m (view_frames (f ∷ fs)) (some-frames fs (view_frame f) [])

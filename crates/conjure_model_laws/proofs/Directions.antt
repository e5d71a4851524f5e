-- The objective of a specification has its direction also with lettings put in and resolved.
use Rattle.std.proofs.Common.{◌≡◌, refl, List, [], ◌∷◌}
use Rattle.ess_semantics.specs.Names.{Names}
use Rattle.ess_semantics.specs.Trees.{Ex, Stm, given, given_enum, let_ex, let_dom, let_enum, let_unnamed, needs, find, such_that, minimise, maximise}
use Rattle.ess_semantics.specs.Types.{Ty}
use Rattle.ess_semantics.specs.Lettings.{Lettings, no_lettings, put_stm, put_all, types_after, lettings_after}
use Rattle.ess_semantics.specs.Prepared.{resolve_all, prepared}
use Rattle.ess_semantics.specs.ModelTrees.{Goal, no_goal, least, greatest, goal_of, same_direction}

least-alike : (h : Goal) (e f : Ex) → same_direction h (least e) ≡ same_direction h (least f)
least-alike no_goal e f = refl
least-alike (least g) e f = refl
least-alike (greatest g) e f = refl

greatest-alike : (h : Goal) (e f : Ex) → same_direction h (greatest e) ≡ same_direction h (greatest f)
greatest-alike no_goal e f = refl
greatest-alike (least g) e f = refl
greatest-alike (greatest g) e f = refl

direction-put : (S : List Stm) (l : Lettings) (g : Names Ty) (h : Goal) →
    same_direction h (goal_of (resolve_all (put_all S l g) g)) ≡ same_direction h (goal_of S)
direction-put [] l g h = refl
direction-put (minimise e ∷ S) l g h = least-alike h _ e
direction-put (maximise e ∷ S) l g h = greatest-alike h _ e
direction-put (given x d ∷ S) l g h =
    let t : Stm = put_stm (given x d) l g in direction-put S (lettings_after t l) (types_after t g) h
direction-put (given_enum t ∷ S) l g h =
    let t : Stm = put_stm (given_enum t) l g in direction-put S (lettings_after t l) (types_after t g) h
direction-put (let_ex x e ∷ S) l g h =
    let t : Stm = put_stm (let_ex x e) l g in direction-put S (lettings_after t l) (types_after t g) h
direction-put (let_dom x d ∷ S) l g h =
    let t : Stm = put_stm (let_dom x d) l g in direction-put S (lettings_after t l) (types_after t g) h
direction-put (let_enum t ns ∷ S) l g h =
    let t : Stm = put_stm (let_enum t ns) l g in direction-put S (lettings_after t l) (types_after t g) h
direction-put (let_unnamed t e ∷ S) l g h =
    let t : Stm = put_stm (let_unnamed t e) l g in direction-put S (lettings_after t l) (types_after t g) h
direction-put (needs e ∷ S) l g h =
    let t : Stm = put_stm (needs e) l g in direction-put S (lettings_after t l) (types_after t g) h
direction-put (find x d ∷ S) l g h =
    let t : Stm = put_stm (find x d) l g in direction-put S (lettings_after t l) (types_after t g) h
direction-put (such_that e ∷ S) l g h =
    let t : Stm = put_stm (such_that e) l g in direction-put S (lettings_after t l) (types_after t g) h

-- An objective has the direction of the prepared one where it has that of the written one.
pub direction-kept : (S : List Stm) (h : Goal) → same_direction h (goal_of (prepared S)) ≡ same_direction h (goal_of S)
direction-kept S h = direction-put S no_lettings [] h

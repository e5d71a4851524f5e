-- What a representation stands for, by how many children it has.
use Rattle.std.proofs.Common.{◌≡◌, refl, sym, ap, ◌∙◌, true, false, List, [], ◌∷◌, map}
use Rattle.ess_semantics.specs.declared.words.ReprKind.{ReprKind}
use Rattle.ess_semantics.specs.Choice.{reprs_of}
use Rattle.ess_semantics.specs.Trees as pure
use Rattle.ess_semantics.specs.Trees.{repr, no_reprs, more_reprs}
use Rattle.ess_core.specs.declared.representations.Repr.{Repr}
use Rattle.ess_core.specs.declared.representations.Repr.TheViews.{out-Repr}
use Rattle.ess_core.specs.TreeViews.{pure_repr}
use Rattle.ess_core.proofs.RepresentationEquations.{pure_repr_is}

-- Any number of them.
all-are : (x : Repr) (k : ReprKind) (cs : List Repr) → (out-Repr x).kind ≡ k → (out-Repr x).children ≡ cs →
    pure_repr x ≡ repr k (reprs_of (map pure_repr cs))
all-are x k cs h i =
    pure_repr_is x ∙ ap (λ j. repr j (reprs_of (map pure_repr (out-Repr x).children))) h ∙ ap (λ l. repr k (reprs_of (map pure_repr l))) i

-- No child.
pub none_is : (x : Repr) (k : ReprKind) → (out-Repr x).kind ≡ k → (out-Repr x).children ≡ [] → pure_repr x ≡ repr k no_reprs
none_is x k h i = all-are x k [] h i

-- One child.
pub one_is : (x : Repr) (k : ReprKind) (c d : Repr) → (out-Repr x).kind ≡ k → (out-Repr x).children ≡ c ∷ [] → c ≡ d →
    pure_repr x ≡ repr k (more_reprs (pure_repr d) no_reprs)
one_is x k c d h i j = all-are x k (c ∷ []) h i ∙ ap (λ y. repr k (more_reprs (pure_repr y) no_reprs)) j

-- No child, one, and more, as they come out of a row.
pub is_alone : (x : Repr) → (out-Repr x).children ≡ [] → pure_repr x ≡ repr (out-Repr x).kind no_reprs
is_alone x i = all-are x (out-Repr x).kind [] refl i

pub is_over_one : (x : Repr) (c : Repr) (rs : List Repr) → (out-Repr x).children ≡ c ∷ rs → rs ≡ [] →
    pure_repr x ≡ repr (out-Repr x).kind (more_reprs (pure_repr c) no_reprs)
is_over_one x c rs i j = all-are x (out-Repr x).kind (c ∷ []) refl (i ∙ ap (λ l. c ∷ l) j)

pub is_over_many : (x : Repr) (c b : Repr) (rs ss : List Repr) → (out-Repr x).children ≡ c ∷ rs → rs ≡ b ∷ ss →
    pure_repr x ≡ repr (out-Repr x).kind (more_reprs (pure_repr c) (more_reprs (pure_repr b) (reprs_of (map pure_repr ss))))
is_over_many x c b rs ss i j = all-are x (out-Repr x).kind (c ∷ b ∷ ss) refl (i ∙ ap (λ l. c ∷ l) j)

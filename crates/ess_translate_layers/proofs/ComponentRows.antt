-- Rows of components from the i-th on: the i-th, and the others.
use Rattle.std.proofs.Common.{◌≡◌, sym, ap, ◌∙◌, ℕ, ◌+◌, ◌<◌, List, ◌∷◌, map, length, drop, get_or}
use Rattle.std.proofs.lemmas.List.{at_drop_more}
use Rattle.ess_semantics.specs.Trees as pure
use Rattle.ess_semantics.specs.Trees.{more_reprs}
use Rattle.ess_semantics.specs.Choice.{reprs_of}
use Rattle.ess_core.specs.declared.representations.Repr.{Repr}
use Rattle.ess_core.specs.declared.values.Val.{Val}
use Rattle.ess_core.specs.TreeViews.{pure_repr}
use Rattle.ess_core.specs.ValueViews.{pure_val}
use Rattle.ess_eval_domains.specs.declared.closed.Closed.{Closed}
use Rattle.ess_eval_domains.specs.ClosedViews.{pure_closed}

-- The representations of children.
abbrev pub trees : List Repr → pure.Reprs
trees rs = reprs_of (map pure_repr rs)

-- The representations.
pub trees-more : (rs : List Repr) (i : ℕ) (x e : Repr) → i < length rs → x ≡ get_or rs i e →
    trees (drop i rs) ≡ more_reprs (pure_repr x) (trees (drop (i + 1) rs))
trees-more rs i x e h is = at_drop_more trees rs i e h ∙ ap (λ q. more_reprs (pure_repr q) (trees (drop (i + 1) rs))) (sym is)

-- The domains.
pub parts-more : (ds : List Closed) (i : ℕ) (d b : Closed) → i < length ds → d ≡ get_or ds i b →
    map pure_closed (drop i ds) ≡ pure_closed d ∷ map pure_closed (drop (i + 1) ds)
parts-more ds i d b h is = at_drop_more (map pure_closed) ds i b h ∙ ap (λ q. pure_closed q ∷ map pure_closed (drop (i + 1) ds)) (sym is)

-- The values.
pub vals-more : (vs : List Val) (i : ℕ) (v b : Val) → i < length vs → v ≡ get_or vs i b →
    map pure_val (drop i vs) ≡ pure_val v ∷ map pure_val (drop (i + 1) vs)
vals-more vs i v b h is = at_drop_more (map pure_val) vs i b h ∙ ap (λ q. pure_val q ∷ map pure_val (drop (i + 1) vs)) (sym is)

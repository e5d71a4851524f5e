-- The view of a scalar is a cell, any other one is what its tables stand for.
use Rattle.std.proofs.Common.{◌≡◌, refl, ap, ◌∙◌, Bool, List, [], ◌∷◌, Some, None}
use Rattle.ess_semantics.specs.declared.words.ReprKind.{ReprKind}
use Rattle.ess_semantics.specs.Lists.{or_default}
use Rattle.ess_semantics.specs.Values.{Text}
use Rattle.ess_semantics.specs.Names.{keys}
use Rattle.ess_semantics.specs.Trees.{Repr, repr, Dom, cell_ex, seen_ex, no_exs}
use Rattle.ess_semantics.specs.TableNames.{Named}
use Rattle.ess_semantics.specs.Meaning.{is_bool_dom}
use Rattle.ess_semantics.specs.Plans.{Side, value_plan}
use Rattle.conjure_model_laws.specs.Shown.{view_by}
use Rattle.ess_model_views.specs.Scalars.{scalar_cell}

-- A cell.
pub cell_viewed : (c : Dom) (f : Side) (x : Text) (r : Repr) (d : Dom) (ns : List Named) (b : Bool) (n : Text)
    → Some n ≡ scalar_cell r ns → b ≡ is_bool_dom d → cell_ex b n no_exs ≡ view_by c (value_plan f x r d ns)
cell_viewed c f x (repr ReprKind.Atom rs) d [] b n e p = cc
cell_viewed c f x (repr ReprKind.Atom rs) d (m ∷ ns) b n e p =
    ap (λ o. cell_ex b (or_default o n) no_exs) e ∙ ap (λ b. cell_ex b m.0 no_exs) p
cell_viewed c f x r d ns b n e p = cc

-- What tables stand for.
pub seen_viewed : (c : Dom) (f : Side) (x : Text) (r : Repr) (d : Dom) (ns : List Named) → None ≡ scalar_cell r ns
    → seen_ex r c (keys ns) no_exs ≡ view_by c (value_plan f x r d ns)
seen_viewed c f x (repr ReprKind.Atom rs) d [] e = refl
seen_viewed c f x (repr ReprKind.Atom rs) d (m ∷ ns) e = cc
seen_viewed c f x r d ns e = refl

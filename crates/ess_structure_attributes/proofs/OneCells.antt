-- Representations whose views are one cell.
use Rattle.std.proofs.Common.{◌≡◌, refl, ap, ◌∙◌, true, false, List, [], ◌∷◌, map}
use Rattle.ess_semantics.specs.declared.words.ReprKind.{ReprKind}
use Rattle.ess_semantics.specs.Choice.{reprs_of}
use Rattle.ess_semantics.specs.Trees.{Reprs, repr}
use Rattle.ess_core.specs.declared.representations.Repr.{Repr}
use Rattle.ess_core.specs.declared.representations.Repr.TheViews.{out-Repr}
use Rattle.ess_core.specs.TreeViews.{pure_repr}
use Rattle.ess_core.proofs.RepresentationEquations.{pure_repr_is}
use Rattle.ess_repr_laws.specs.FunctionParts.{is_one_cell}
use Rattle.ess_structure_attributes.specs.SizeKeys.{is_atom_kind}

atom-alone : (k : ReprKind) → is_atom_kind k ≡ true → is_one_cell (repr k (reprs_of [])) ≡ true
atom-alone ReprKind.Atom h = refl
atom-alone _ h = cc

-- An atom without children.
pub one_cell : (x : Repr) → is_atom_kind (out-Repr x).kind ≡ true → (out-Repr x).children ≡ [] → is_one_cell (pure_repr x) ≡ true
one_cell x h i =
    ap is_one_cell (pure_repr_is x) ∙ ap (λ l. is_one_cell (repr (out-Repr x).kind (reprs_of (map pure_repr l)))) i
    ∙ atom-alone (out-Repr x).kind h

over-some : (k : ReprKind) (c : Repr) (cs : List Repr) → is_one_cell (repr k (reprs_of (map pure_repr (c ∷ cs)))) ≡ false
over-some ReprKind.Atom c cs = refl
over-some _ c cs = refl

-- A representation with children.
pub many_cells : (x : Repr) (c : Repr) (cs : List Repr) → (out-Repr x).children ≡ c ∷ cs → is_one_cell (pure_repr x) ≡ false
many_cells x c cs i =
    ap is_one_cell (pure_repr_is x) ∙ ap (λ l. is_one_cell (repr (out-Repr x).kind (reprs_of (map pure_repr l)))) i
    ∙ over-some (out-Repr x).kind c cs

other : (k : ReprKind) (rs : Reprs) → is_atom_kind k ≡ false → is_one_cell (repr k rs) ≡ false
other ReprKind.Atom rs h = cc
other _ rs h = refl

-- A representation of another kind.
pub no_atom : (x : Repr) → is_atom_kind (out-Repr x).kind ≡ false → is_one_cell (pure_repr x) ≡ false
no_atom x h = ap is_one_cell (pure_repr_is x) ∙ other (out-Repr x).kind (reprs_of (map pure_repr (out-Repr x).children)) h

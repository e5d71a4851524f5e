-- Worked examples of the tables and the structure of one layer.
use Rattle.std.proofs.Common.{◌≡◌, refl, true, false, [], ◌∷◌, pos, codes}
use Rattle.ess_semantics.specs.declared.words.ReprKind.{ReprKind}
use Rattle.ess_semantics.specs.Trees.{repr, no_reprs, no_exs, number_ex, truth_ex, bool_dom, matrix_dom, set_dom, no_doms, more_doms, seen_ex, more_reprs}
use Rattle.ess_repr_laws.specs.StructureParts.{own_shape, each_ex}
use Rattle.conjure_model_laws.specs.ToldApart.{reserved}
use Rattle.ess_structure_layers.specs.Layers.{own_shapes, layer_structure, view_over}

-- Flags are over the slots, a marker is one number, and a matrix has no table of its own.
flags_over_slots : own_shapes ReprKind.ExplicitVarSizeWithFlags (codes "f" ∷ codes "m" ∷ []) (bool_dom ∷ [])
    ≡ own_shape (codes "f" ∷ []) true (bool_dom ∷ []) ∷ []
flags_over_slots = refl

marker_alone : own_shapes ReprKind.ExplicitVarSizeWithMarker (codes "m" ∷ []) (bool_dom ∷ []) ≡ own_shape (codes "m" ∷ []) false [] ∷ []
marker_alone = refl

no_table : own_shapes ReprKind.Matrix (codes "m" ∷ []) (bool_dom ∷ []) ≡ []
no_table = refl

-- Each item of a matrix is canonical.
each_item : layer_structure ReprKind.Matrix (repr ReprKind.Atom no_reprs) (matrix_dom (more_doms bool_dom no_doms) bool_dom) (codes "m" ∷ [])
    7 no_exs (bool_dom ∷ []) [] (truth_ex true) ≡ each_ex reserved 7 (bool_dom ∷ []) (truth_ex true)
each_item = refl

-- A kind of sets isn't one for bool.
no_set : layer_structure ReprKind.Explicit (repr ReprKind.Atom no_reprs) bool_dom (codes "m" ∷ []) 7 no_exs [] [] (truth_ex true) ≡ truth_ex false
no_set = refl

-- The view of a layer over an atom.
view_of_layer : view_over ReprKind.Function1D (repr ReprKind.Atom no_reprs) bool_dom (codes "f" ∷ []) no_exs
    ≡ seen_ex (repr ReprKind.Function1D (more_reprs (repr ReprKind.Atom no_reprs) no_reprs)) bool_dom (codes "f" ∷ []) no_exs
view_of_layer = refl

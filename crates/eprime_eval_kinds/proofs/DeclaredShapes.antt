-- The shapes of declarations are those of their pure tables, whatever earlier lines declare; and what a shape tells of a name.
use Rattle.std.proofs.Common.{◌≡◌, refl, sym, ap, ◌∙◌, subst, ℕ, ◌+◌, ◌<◌, Bool, List, [], ◌∷◌, ◌++◌, append_assoc, map, length, take, get_or}
use Rattle.std.proofs.lemmas.List.{map-append, take_more, length-map}
use Rattle.ess_semantics.specs.Trees as pure
use Rattle.ess_semantics.specs.Meaning.{is_bool_dom}
use Rattle.ess_semantics.specs.DeclaredTables.{TableDecl}
use Rattle.ess_semantics.specs.ModelTrees.{all_decls}
use Rattle.ess_grammar.specs.Models.{Scope, empty_scope, with_given, with_find}
use Rattle.eprime_tree.specs.declared.expressions.PDom.{PDom}
use Rattle.eprime_tree.specs.declared.expressions.PEx.{PEx}
use Rattle.eprime_tree.specs.declared.expressions.PGen.{PGen}
use Rattle.eprime_tree.specs.declared.expressions.PList.{PList}
use Rattle.eprime_tree.specs.declared.expressions.PRange.{PRange}
use Rattle.eprime_tree.specs.declared.expressions.PDom.TheOpen.{PDom-F}
use Rattle.eprime_tree.specs.declared.expressions.PDom.TheFolds.{fold-roll-PDom}
use Rattle.eprime_tree.specs.declared.expressions.PDom.TheViews.{out-PDom, roll-PDom, roll-out-PDom}
use Rattle.eprime_tree.specs.declared.models.PDecl.{PDecl}
use Rattle.eprime_tree.specs.declared.models.PModel.{PModel}
use Rattle.eprime_tree.specs.Views.{Item, Bounds, ex_step, list_step, gen_step, dom_step, range_step, pure_dom, pure_decl, pure_decls, pure_model, scope_of_givens}
use Rattle.eprime_eval_kinds.specs.declared.declared.Shape.{Shape}
use Rattle.eprime_eval_kinds.specs.Shapes.{shape_of, decl_shape, names_of}

-- ---- declarations of a model

bool-layer : (s t : Scope) (x : PDom-F PDom PEx PGen PList PRange)
    → is_bool_dom (pure_dom s (roll-PDom x)) ≡ is_bool_dom (pure_dom t (roll-PDom x))
bool-layer s t PDom-F.Bool =
    ap is_bool_dom (fold-roll-PDom pure.Dom pure.Ex Item pure.Ex Bounds dom_step (ex_step s) gen_step list_step range_step PDom-F.Bool)
    ∙ sym (ap is_bool_dom (fold-roll-PDom pure.Dom pure.Ex Item pure.Ex Bounds dom_step
    (ex_step t) gen_step list_step range_step PDom-F.Bool))
bool-layer s t (PDom-F.Int rs) =
    ap is_bool_dom (fold-roll-PDom pure.Dom pure.Ex Item pure.Ex Bounds dom_step (ex_step s) gen_step list_step range_step (PDom-F.Int rs))
    ∙ sym (ap is_bool_dom (fold-roll-PDom pure.Dom pure.Ex Item pure.Ex Bounds dom_step (ex_step t) gen_step list_step range_step
    (PDom-F.Int rs)))

bool-anywhere : (s t : Scope) (d : PDom) → is_bool_dom (pure_dom s d) ≡ is_bool_dom (pure_dom t d)
bool-anywhere s t d = subst (λ d. is_bool_dom (pure_dom s d) ≡ is_bool_dom (pure_dom t d)) (roll-out-PDom d) (bool-layer s t (out-PDom d))

abbrev shape_with : PDecl → ℕ → Bool → Shape
shape_with d n b = record { name = d.name; axes = n; truth = b }

decl-shape : (s : Scope) (d : PDecl) → shape_of (pure_decl s d) ≡ decl_shape d
decl-shape s d =
    ap (λ n. shape_with d n (is_bool_dom (pure_dom s d.cell)))
    (length-map d.axes (pure_dom s) ∙ sym (length-map d.axes (pure_dom empty_scope)))
    ∙ ap (shape_with d (length (map (pure_dom empty_scope) d.axes))) (bool-anywhere s empty_scope d.cell)

-- The shapes of declarations don't depend on what earlier lines declare.
pub shapes_of_decls : (add : Scope → TableDecl → Scope) (s : Scope) (ds : List PDecl)
    → map shape_of (pure_decls add s ds) ≡ map decl_shape ds
shapes_of_decls add s [] = refl
shapes_of_decls add s (d ∷ ds) =
    ap (λ x. x ∷ map shape_of (pure_decls add (add s (pure_decl s d)) ds)) (decl-shape s d)
    ∙ ap (λ l. decl_shape d ∷ l) (shapes_of_decls add (add s (pure_decl s d)) ds)

-- The shapes of what a model declares.
pub shapes_of_model : (m : PModel) → map shape_of (all_decls (pure_model m)) ≡ map decl_shape (m.givens ++ m.finds)
shapes_of_model m =
    map-append shape_of (pure_decls with_given empty_scope m.givens) (pure_decls with_find (scope_of_givens m) m.finds)
    ∙ ap (λ l. l ++ map shape_of (pure_decls with_find (scope_of_givens m) m.finds)) (shapes_of_decls with_given empty_scope m.givens)
    ∙ ap (λ l. map decl_shape m.givens ++ l) (shapes_of_decls with_find (scope_of_givens m) m.finds)
    ∙ sym (map-append decl_shape m.givens m.finds)

-- Their names are those of the declarations.
pub names_of_shapes : (ds : List TableDecl) → names_of (map shape_of ds) ≡ map (λ d. d.name) ds
names_of_shapes [] = refl
names_of_shapes (d ∷ ds) = ap (λ l. d.name ∷ l) (names_of_shapes ds)

-- One shape more.
pub shapes_more : (old now new : List Shape) (ds : List PDecl) (n : ℕ) (d : PDecl) → n < length ds → d ≡ get_or ds n d
    → now ≡ old ++ map decl_shape (take n ds) → new ≡ now ++ decl_shape d ∷ []
    → new ≡ old ++ map decl_shape (take (n + 1) ds)
shapes_more old now new ds n d lt at p q =
    q ∙ ap (λ l. l ++ decl_shape d ∷ []) p ∙ append_assoc old (map decl_shape (take n ds)) (decl_shape d ∷ [])
    ∙ ap (λ l. old ++ l) (sym (map-append decl_shape (take n ds) (d ∷ [])))
    ∙ ap (λ l. old ++ map decl_shape l) (sym (take_more ds n d lt ∙ ap (λ y. take n ds ++ y ∷ []) (sym at)))

-- The axes are as many as were written.
pub axes_counted : (d : PDecl) → length d.axes ≡ (decl_shape d).axes
axes_counted d = sym (length-map d.axes (pure_dom empty_scope))

-- What is found of matrices, cells, views and comprehensions, from what is found of the parts in it.
use Rattle.std.proofs.Common.{◌≡◌, sym, ap, ◌∙◌, Bool, true, List, [], Option, option_map}
use Rattle.std.specs.Prelude.{if◌then◌else◌}
use Rattle.ess_semantics.specs.Lists.{and_then}
use Rattle.ess_semantics.specs.Values.{Text, a_matrix}
use Rattle.ess_semantics.specs.Names.{look}
use Rattle.ess_semantics.specs.Trees.{Repr, Ex, Exs, Gens, Dom, matrix_ex, comp_ex, cell_ex, seen_ex}
use Rattle.ess_semantics.specs.Types.{Ty, compound2, bool_ty, join_all, type_of_dom}
use Rattle.ess_semantics.specs.Typing.{number_cell_ty}
use Rattle.ess_semantics.specs.Kinds.{is_atom}
use Rattle.ess_semantics.specs.Scopes.{Scope}
use Rattle.ess_types_judging_laws.specs.Found.{Found, both, at_place}
use Rattle.ess_types_judging_laws.specs.Judged.{Judged, judged, judged_all, judged_dom}
use Rattle.ess_types_judging_laws.specs.Combined.{operands_found, Gathered, gathered, nothing_gathered, comp_judged}
use Rattle.ess_types_judging_laws.specs.Accumulated.{Several, several, over_parts}
use Rattle.ess_types_judging_laws.proofs.Layers.{judged_matrix, judged_cell, judged_view, judged_comp}
use Rattle.ess_types_judging_laws.proofs.Accumulated.{several-tys, several-found}
use Rattle.ess_types_judging.specs.Forms.{typed_part, beside, matrix_over}

-- ---- matrices, cells, views

-- A matrix literal whose items have these types, of which f is found.
abbrev matrix_from : Dom → Option (List Ty) → Found → Found → Judged
matrix_from d o f g =
    beside (over_parts (and_then o (λ ts. option_map (compound2 a_matrix (type_of_dom d)) (join_all ts))) (is_atom d) f) g

pub matrix_judged_over : (es : Exs) (d : Dom) (s : Scope) → judged (matrix_ex es d) s
    ≡ matrix_over d (several (judged_all es s)) (judged_dom d s)
matrix_judged_over es d s =
    judged_matrix es d s
    ∙ ap (λ o. matrix_from d o (operands_found true [] (judged_all es s)) (judged_dom d s)) (sym (several-tys (judged_all es s)))
    ∙ ap (λ f. matrix_from d (several (judged_all es s)).tys f (judged_dom d s)) (several-found true (judged_all es s))

pub cell_judged_over : (b : Bool) (n : Text) (es : Exs) (s : Scope) →
    judged (cell_ex b n es) s ≡ typed_part (if b then bool_ty else number_cell_ty (look s.tys n))
    (at_place true (several (judged_all es s)).found)
cell_judged_over b n es s =
    judged_cell b n es s
    ∙ ap (typed_part (if b then bool_ty else number_cell_ty (look s.tys n))) (several-found true (judged_all es s))

pub view_judged_over : (r : Repr) (d : Dom) (ns : List Text) (es : Exs) (s : Scope) →
    judged (seen_ex r d ns es) s ≡ typed_part (type_of_dom d) (both (judged_dom d s) (at_place true (several (judged_all es s)).found))
view_judged_over r d ns es s =
    judged_view r d ns es s ∙ ap (λ f. typed_part (type_of_dom d) (both (judged_dom d s) f)) (several-found true (judged_all es s))

-- A matrix literal, where v is found of its items and f of its index domain.
pub matrix_by : (es : Exs) (d : Dom) (s : Scope) (v : Several) (f : Found) → v ≡ several (judged_all es s) → f ≡ judged_dom d s →
    matrix_over d v f ≡ judged (matrix_ex es d) s
matrix_by es d s v f p q = ap (λ x. matrix_over d x f) p ∙ ap (matrix_over d (several (judged_all es s))) q
    ∙ sym (matrix_judged_over es d s)

-- A cell of type t, where v is found of its indices.
pub cell_by : (b : Bool) (n : Text) (es : Exs) (s : Scope) (t : Ty) (v : Several) (f : Found) →
    t ≡ (if b then bool_ty else number_cell_ty (look s.tys n)) → v ≡ several (judged_all es s) → f ≡ at_place true v.found →
    typed_part t f ≡ judged (cell_ex b n es) s
cell_by b n es s t v f p q r =
    ap (λ x. typed_part x f) p ∙ ap (typed_part (if b then bool_ty else number_cell_ty (look s.tys n))) (r
    ∙ ap (λ x. at_place true x.found) q)
    ∙ sym (cell_judged_over b n es s)

-- A view of type t, where v is found of its indices and f of its domain.
pub view_by : (x : Ex) (r : Repr) (d : Dom) (ns : List Text) (es : Exs) (s : Scope) (t : Ty) (v : Several) (f g h : Found) →
    x ≡ seen_ex r d ns es →
    t ≡ type_of_dom d → v ≡ several (judged_all es s) → f ≡ judged_dom d s → g ≡ at_place true v.found → h ≡ both f g →
    typed_part t h ≡ judged x s
view_by x r d ns es s t v f g h e p q k l m =
    ap (λ y. typed_part y h) p
    ∙ ap (typed_part (type_of_dom d)) (m ∙ ap (λ y. both y g) k ∙ ap (both (judged_dom d s)) (l ∙ ap (λ y. at_place true y.found) q))
    ∙ sym (view_judged_over r d ns es s) ∙ ap (λ y. judged y s) (sym e)

-- ---- comprehensions

-- A comprehension, where g is gathered of its generators and k is found of its body.
pub comp_judged_over : (e : Ex) (gs : Gens) (s : Scope) (g : Gathered) (k : Judged) → g ≡ gathered gs (nothing_gathered s) →
    k ≡ judged e g.scope →
    comp_judged g k ≡ judged (comp_ex e gs) s
comp_judged_over e gs s g k p q =
    ap (comp_judged g) q ∙ ap (λ a. comp_judged a (judged e a.scope)) p ∙ sym (judged_comp e gs s)

-- Declared tables of converted parts.
use Rattle.std.proofs.Common.{◌≡◌, sym, ap, refl, ◌∙◌, Bool, true, false, ◌&&◌, List, [], ◌∷◌, map, Option}
use Rattle.std.specs.List.{list_all}
use Rattle.ess_semantics.specs.Values.{Text}
use Rattle.ess_semantics.specs.Lists.{when, each_of}
use Rattle.ess_semantics.specs.Kinds.{dom_list, doms_of}
use Rattle.ess_semantics.specs.Trees as pure
use Rattle.ess_semantics.specs.DeclaredTables.{TableDecl}
use Rattle.ess_grammar.specs.Models.{Scope, dom_with_cells, is_model_dom}
use Rattle.ess_core.specs.TreeViews.{pure_dom}
use Rattle.ess_core.specs.declared.domains.Dom.{Dom}
use Rattle.ess_core.specs.declared.domains.Dom.TheVariants as dom
use Rattle.ess_core.proofs.DomainEquations.{pure_matrix}
use Rattle.eprime_read_convert.specs.Converted.{model_dom, table_model, table_of_parts}
use Rattle.eprime_read_convert.proofs.ModelNodes.{each-when}

list-of : (ds : List pure.Dom) → dom_list (doms_of ds) ≡ ds
list-of [] = refl
list-of (d ∷ ds) = ap (λ ds. d ∷ ds) (list-of ds)

all-mapped : (s : Scope) (ds : List pure.Dom) → list_all (is_model_dom s true []) (map (dom_with_cells s []) ds) ≡ list_all (λ d. is_model_dom s true [] (dom_with_cells s [] d)) ds
all-mapped s [] = refl
all-mapped s (d ∷ ds) = ap (λ b. is_model_dom s true [] (dom_with_cells s [] d) && b) (all-mapped s ds)

parts-when : (a : Text) (b c : Bool) (ds : List pure.Dom) (d : pure.Dom) → table_of_parts a (when b ds) (when c d) ≡ when (b && c) (record { name = a; axes = ds; cell = d })
parts-when a true true ds d = refl
parts-when a true false ds d = refl
parts-when a false c ds d = refl

table-when : (s : Scope) (a : Text) (ds : List pure.Dom) (d : pure.Dom) → table_of_parts a (each_of ds (model_dom s true [])) (model_dom s true [] d)
    ≡ when (list_all (is_model_dom s true []) (map (dom_with_cells s []) ds) && is_model_dom s true [] (dom_with_cells s [] d)) (record { name = a; axes = map (dom_with_cells s []) ds; cell = dom_with_cells s [] d })
table-when s a ds d =
    ap (λ o. table_of_parts a o (model_dom s true [] d)) (each-when (λ d. is_model_dom s true [] (dom_with_cells s [] d)) (dom_with_cells s []) ds)
    ∙ parts-when a (list_all (λ d. is_model_dom s true [] (dom_with_cells s [] d)) ds) (is_model_dom s true [] (dom_with_cells s [] d)) (map (dom_with_cells s []) ds) (dom_with_cells s [] d)
    ∙ ap (λ b. when (b && is_model_dom s true [] (dom_with_cells s [] d)) (record { name = a; axes = map (dom_with_cells s []) ds; cell = dom_with_cells s [] d })) (sym (all-mapped s ds))

matrix-table : (s : Scope) (a : Text) (ds : List pure.Dom) (d : pure.Dom) → table_of_parts a (each_of ds (model_dom s true [])) (model_dom s true [] d) ≡ table_model s a (pure.matrix_dom (doms_of ds) d)
matrix-table s a ds d =
    table-when s a ds d
    ∙ ap (λ ds. when (list_all (is_model_dom s true []) (map (dom_with_cells s []) ds) && is_model_dom s true [] (dom_with_cells s [] d)) (record { name = a; axes = map (dom_with_cells s []) ds; cell = dom_with_cells s [] d })) (sym (list-of ds))

-- The table of a matrix.
pub matrix_declared : (s : Scope) (a : Text) (d : Dom) (ds es : List Dom) (c x : Dom) (g : List Text) (o : Option (List pure.Dom)) (q : Option pure.Dom) (r : Option TableDecl) → d ≡ dom.Matrix ds c → es ≡ ds → x ≡ c → g ≡ [] →
    o ≡ each_of (map pure_dom es) (model_dom s true g) → q ≡ model_dom s true g (pure_dom x) → r ≡ table_of_parts a o q → r ≡ table_model s a (pure_dom d)
matrix_declared s a d ds es c x g o q r hd he hx hg ho hq hr =
    hr
    ∙ ap (λ o. table_of_parts a o q) (ho ∙ ap (λ g. each_of (map pure_dom es) (model_dom s true g)) hg ∙ ap (λ es. each_of (map pure_dom es) (model_dom s true [])) he)
    ∙ ap (table_of_parts a (each_of (map pure_dom ds) (model_dom s true []))) (hq ∙ ap (λ g. model_dom s true g (pure_dom x)) hg ∙ ap (λ x. model_dom s true [] (pure_dom x)) hx)
    ∙ matrix-table s a (map pure_dom ds) (pure_dom c)
    ∙ ap (table_model s a) (sym (ap pure_dom hd ∙ pure_matrix ds c))

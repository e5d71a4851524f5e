-- A list of items is that of the definitions.
use Rattle.std.proofs.Common.{◌≡◌, refl, sym, ap, ◌∙◌, true, false, if◌then◌else◌, List, [], ◌∷◌, map, Some, None, option_map}
use Rattle.std.specs.List.{list_any}
use Rattle.ess_semantics.specs.Values.{Text, a_matrix}
use Rattle.ess_semantics.specs.Trees.{matrix_literal, plain_node}
use Rattle.ess_semantics.specs.Types.{Ty, any_ty, compound2, join_all}
use Rattle.ess_semantics.specs.OperatorTypes.{type_of_list}
use Rattle.ess_semantics.specs.ModelMeaning.{is_nothing, kinded_node, nothing, broken}
use Rattle.eprime_tree.specs.Views.{exs_of}
use Rattle.eprime_eval_kinds.specs.declared.lists.KindedRow.{KindedRow}
use Rattle.eprime_eval_kinds.specs.declared.tree.Kind.{Kind}
use Rattle.eprime_eval_kinds.specs.declared.tree.KList.{KList}
use Rattle.eprime_eval_kinds.specs.declared.tree.KList.TheVariants as klist
use Rattle.eprime_eval_kinds.specs.KindedViews.{pure_kex, pure_klist, pure_kind}
use Rattle.eprime_eval_kinds.specs.KindedLists.{pure_row, index_of}
use Rattle.eprime_eval_kinds.proofs.KindedEquations.{pure_klist_items}
use Rattle.eprime_eval_kinds.proofs.NodeForms.{node_empty}
use Rattle.eprime_eval_kinds.proofs.Empties.{some_empty}

list-type : (ts : List Ty) → type_of_list ts ≡ option_map (compound2 a_matrix (index_of ts)) (join_all ts)
list-type [] = refl
list-type (t ∷ ts) = refl

-- Items that agree and have something.
pub items_stand : (names : List Text) (r : KindedRow) (l : KList) (i t : Kind) → false ≡ list_any (λ e. is_nothing (pure_kex [] e)) r.items
    → Some (pure_kind t) ≡ join_all (map pure_kind r.kinds) → pure_kind i ≡ index_of (map pure_kind r.kinds) → l ≡ klist.Items r.items
    → (pure_klist names l, compound2 a_matrix (pure_kind i) (pure_kind t))
    ≡ kinded_node matrix_literal (pure_row names r).0 [] (type_of_list (pure_row names r).1)
items_stand names r l i t n j k p =
    ap (λ x. (pure_klist names x, compound2 a_matrix (pure_kind i) (pure_kind t))) p
    ∙ ap (λ x. (x, compound2 a_matrix (pure_kind i) (pure_kind t))) (pure_klist_items names r.items)
    ∙ ap (λ b. if b then broken any_ty else
    (plain_node matrix_literal (exs_of (map (pure_kex names) r.items)), compound2 a_matrix (pure_kind i) (pure_kind t)))
    (n ∙ some_empty names r.items)
    ∙ sym (ap (kinded_node matrix_literal (exs_of (map (pure_kex names) r.items)) []) (list-type (map pure_kind r.kinds)
    ∙ ap (option_map (compound2 a_matrix (index_of (map pure_kind r.kinds)))) (sym j)
    ∙ ap (λ u. Some (compound2 a_matrix u (pure_kind t))) (sym k)))

-- An item that has nothing.
pub items_empty : (names : List Text) (r : KindedRow) → true ≡ list_any (λ e. is_nothing (pure_kex [] e)) r.items
    → nothing ≡ kinded_node matrix_literal (pure_row names r).0 [] (type_of_list (pure_row names r).1)
items_empty names r n =
    sym (node_empty matrix_literal (exs_of (map (pure_kex names) r.items)) (type_of_list (map pure_kind r.kinds)) any_ty refl
    (sym (some_empty names r.items) ∙ sym n))

-- Items that don't agree.
pub items_misfit : (names : List Text) (r : KindedRow) → None ≡ join_all (map pure_kind r.kinds)
    → nothing ≡ kinded_node matrix_literal (pure_row names r).0 [] (type_of_list (pure_row names r).1)
items_misfit names r j =
    sym (ap (kinded_node matrix_literal (exs_of (map (pure_kex names) r.items)) [])
    (list-type (map pure_kind r.kinds) ∙ ap (option_map (compound2 a_matrix (index_of (map pure_kind r.kinds)))) (sym j)))

-- Nodes of resolved trees: their marks are those of their types, and what they index is no `[]`.
use Rattle.std.proofs.Common.{◌≡◌, refl, sym, ap, ◌∙◌, Bool, true, false, ◌||◌, List, [], ◌∷◌, Option, Some, None}
use Rattle.std.specs.Prelude.{is_some}
use Rattle.ess_semantics.specs.Lists.{and_then, all_some}
use Rattle.ess_semantics.specs.Values.{a_function}
use Rattle.ess_semantics.specs.Names.{Names}
use Rattle.ess_semantics.specs.Trees.{Op, unary, binary, word, index, application, matrix_literal, is_truth_op, Ex, Exs, number_ex, truth_ex, name_ex, node_ex, matrix_ex, comp_ex, cell_ex, seen_ex, no_exs, more_exs}
use Rattle.ess_semantics.specs.Types.{Ty, compound2, is_bool}
use Rattle.ess_semantics.specs.OperatorTypes.{type_of_op}
use Rattle.ess_semantics.specs.Typing.{Static, statics, type_of_node, type_of, types_of}
use Rattle.ess_semantics.specs.Resolving.{resolved_steps, resolved_op, kept_operands, resolve, resolve_exs}
use Rattle.ess_types_laws.proofs.ResolvedTypes.{comp-resolved}
use Rattle.ess_guard_types_laws.specs.HasTypes.{fits_mark, is_empty_list, indexes_items}
use Rattle.ess_guard_judged_laws.specs.IndexedItems.{is_nothing}
use Rattle.ess_guard_judged_laws.proofs.TruthTypes.{is-truth}

-- ---- marks

-- The mark of a node that has the type o still, where the mark says whether the type is bool.
pub fits : (b : Bool) (o p : Option Ty) → p ≡ o → is_some o ≡ true → b ≡ is_bool o → fits_mark b p ≡ true
fits true o p e h q = ap is_bool e ∙ sym q
fits false o p e h q = ap is_some e ∙ h

-- What has a truth value by its operator has the type bool.
operator-bool : (op : Op) (ss : List Static) (us : List (Option Ty)) → is_truth_op op ≡ true → is_some (type_of_node op ss us) ≡ true →
    is_bool (type_of_node op ss us) ≡ true
operator-bool (unary o) ss us k h = go (all_some us) h
  where
    at : (ts : List Ty) (r : Option Ty) → type_of_op (unary o) ts ≡ r → is_some r ≡ true → is_bool r ≡ true
    at ts None e h = cc
    at ts (Some t) e h = ap (λ u. is_bool (Some u)) (is-truth (unary o) ts k t e)

    go : (a : Option (List Ty)) → is_some (and_then a (type_of_op (unary o))) ≡ true → is_bool (and_then a (type_of_op (unary o))) ≡ true
    go None h = cc
    go (Some ts) h = at ts (type_of_op (unary o) ts) refl h
operator-bool (binary o) ss us k h = go (all_some us) h
  where
    at : (ts : List Ty) (r : Option Ty) → type_of_op (binary o) ts ≡ r → is_some r ≡ true → is_bool r ≡ true
    at ts None e h = cc
    at ts (Some t) e h = ap (λ u. is_bool (Some u)) (is-truth (binary o) ts k t e)

    go : (a : Option (List Ty)) → is_some (and_then a (type_of_op (binary o))) ≡ true → is_bool (and_then a (type_of_op (binary o))) ≡ true
    go None h = cc
    go (Some ts) h = at ts (type_of_op (binary o) ts) refl h
operator-bool (word f) ss us k h = go (all_some us) h
  where
    at : (ts : List Ty) (r : Option Ty) → type_of_op (word f) ts ≡ r → is_some r ≡ true → is_bool r ≡ true
    at ts None e h = cc
    at ts (Some t) e h = ap (λ u. is_bool (Some u)) (is-truth (word f) ts k t e)

    go : (a : Option (List Ty)) → is_some (and_then a (type_of_op (word f))) ≡ true → is_bool (and_then a (type_of_op (word f))) ≡ true
    go None h = cc
    go (Some ts) h = at ts (type_of_op (word f) ts) refl h
operator-bool _ ss us k h = cc

-- The mark that resolving gives says whether the type is bool.
pub mark-says : (op : Op) (ss : List Static) (us : List (Option Ty)) → is_some (type_of_node op ss us) ≡ true →
    (is_truth_op op || is_bool (type_of_node op ss us)) ≡ is_bool (type_of_node op ss us)
mark-says op ss us h = go (is_truth_op op) refl
  where
    go : (c : Bool) → is_truth_op op ≡ c → (c || is_bool (type_of_node op ss us)) ≡ is_bool (type_of_node op ss us)
    go true k = sym (operator-bool op ss us k h)
    go false k = refl

-- ---- indices

-- No `[]`, whatever its mark is.
not-empty : (b : Bool) (op : Op) (es : Exs) → is_nothing (node_ex b op es) ≡ false → is_empty_list (node_ex b op es) ≡ false
not-empty true op es h = refl
not-empty false matrix_literal no_exs h = cc
not-empty false matrix_literal (more_exs e es) h = refl
not-empty false _ es h = refl

literal-stays : (b c : Bool) (es : Exs) (g : Names Ty) → is_nothing (node_ex b matrix_literal es) ≡ false →
    is_nothing (node_ex c matrix_literal (resolve_exs es g)) ≡ false
literal-stays b c no_exs g h = cc
literal-stays b c (more_exs e es) g h = refl

applied : (b : Bool) (us : List (Option Ty)) (es : Exs) → is_nothing (node_ex b (resolved_op application us) es) ≡ false
applied b (Some (compound2 a_function a c) ∷ u ∷ []) es = refl
applied b _ es = refl

-- What isn't `[]` is no `[]` once it is resolved.
pub something-resolved : (e : Ex) (g : Names Ty) → is_nothing e ≡ false → is_empty_list (resolve e g) ≡ false
something-resolved (number_ex n) g h = refl
something-resolved (truth_ex b) g h = refl
something-resolved (name_ex a) g h = refl
something-resolved (node_ex b (index qs) es) g h =
    not-empty (is_bool (type_of (node_ex b (index qs) es) g)) (index (resolved_steps qs (statics es) (types_of es g)))
    (kept_operands qs (resolved_steps qs (statics es) (types_of es g)) (resolve_exs es g)) refl
something-resolved (node_ex b application es) g h =
    not-empty (is_bool (type_of (node_ex b application es) g)) (resolved_op application (types_of es g)) (resolve_exs es g)
    (applied (is_bool (type_of (node_ex b application es) g)) (types_of es g) (resolve_exs es g))
something-resolved (node_ex b matrix_literal es) g h =
    not-empty (is_bool (type_of (node_ex b matrix_literal es) g)) matrix_literal (resolve_exs es g)
    (literal-stays b (is_bool (type_of (node_ex b matrix_literal es) g)) es g h)
something-resolved (node_ex b op es) g h =
    not-empty (is_truth_op op || is_bool (type_of (node_ex b op es) g)) op (resolve_exs es g) refl
something-resolved (matrix_ex es d) g h = refl
something-resolved (comp_ex e gs) g h = ap is_empty_list (comp-resolved e gs g)
something-resolved (cell_ex b n es) g h = refl
something-resolved (seen_ex r d ns es) g h = refl

no-index : (us : List (Option Ty)) (es : Exs) → indexes_items (resolved_op application us) es ≡ true
no-index (Some (compound2 a_function a c) ∷ u ∷ []) es = refl
no-index _ es = refl

-- So it is with the operator of a node that isn't an index.
pub application-indexes : (us : List (Option Ty)) (es : Exs) → indexes_items (resolved_op application us) es ≡ true
application-indexes = no-index

-- The types behind the steps of an index with lettings put in, one step at a time.
use Rattle.std.proofs.Common.{◌≡◌, refl, sym, ap, ◌∙◌, Bool, true, List, [], ◌∷◌, ◌++◌, map, Option, Some, None}
use Rattle.std.proofs.lemmas.List.{map_push, append_assoc, append-nil}
use Rattle.ess_semantics.specs.Lists.{is_some_and}
use Rattle.ess_semantics.specs.Names.{Names}
use Rattle.ess_semantics.specs.Values.{a_tuple, a_matrix, a_set, a_mset, a_function, a_relation, a_partition, a_record}
use Rattle.ess_semantics.specs.Types as pure
use Rattle.ess_semantics.specs.Types.{any_ty, bool_ty, int_ty, named_ty, compound}
use Rattle.ess_semantics.specs.Trees as tree
use Rattle.ess_semantics.specs.Trees.{index, node_ex, more_exs}
use Rattle.ess_semantics.specs.Typing.{Static, a_number, a_name, other, static, statics, type_behind, type_of_node, type_of, types_of}
use Rattle.ess_semantics.specs.Lettings.{is_record_or_tuple}
use Rattle.ess_core.specs.declared.expressions.Step.{Step}
use Rattle.ess_core.specs.TreeViews.{With, words_of, within, exs_of, pure_step}
use Rattle.ess_types_names.specs.Tables.{Types, pure_table}
use Rattle.ess_types_lettings.specs.Paths.{path_behind}

-- ---- one step by a value

-- The type behind a value of a record or a tuple doesn't depend on the value's type.
pub behind_kept : (t : Option pure.Ty) (s : Static) (u : Option pure.Ty) → is_some_and t is_record_or_tuple ≡ true
    → type_behind t s u ≡ type_behind t s None
behind_kept (Some (compound a_tuple ts)) (a_number k) u h = refl
behind_kept (Some (compound a_tuple ts)) (a_name a) u h = refl
behind_kept (Some (compound a_tuple ts)) other u h = refl
behind_kept (Some (compound (a_record fs) ts)) (a_number k) u h = refl
behind_kept (Some (compound (a_record fs) ts)) (a_name a) u h = refl
behind_kept (Some (compound (a_record fs) ts)) other u h = refl
behind_kept None s u h = refl
behind_kept (Some any_ty) s u h = cc
behind_kept (Some bool_ty) s u h = cc
behind_kept (Some int_ty) s u h = cc
behind_kept (Some (named_ty a)) s u h = cc
behind_kept (Some (compound a_matrix ts)) s u h = cc
behind_kept (Some (compound a_set ts)) s u h = cc
behind_kept (Some (compound a_mset ts)) s u h = cc
behind_kept (Some (compound a_function ts)) s u h = cc
behind_kept (Some (compound a_relation ts)) s u h = cc
behind_kept (Some (compound a_partition ts)) s u h = cc

-- ---- several steps

-- A step leads from a place of type u to type v, where s is true.
abbrev pub Leads : Bool → Option pure.Ty → Step → Option pure.Ty → Names pure.Ty → Type 0
Leads s u y v g = s ≡ true → (ws : List (With tree.Step)) → path_behind u (pure_step y ∷ ws) g ≡ path_behind v ws g

-- The same of an equal step in an equal table.
pub leads_at : (s : Bool) (u v : Option pure.Ty) (y d : Step) (k m : Types) → k ≡ m → y ≡ d → Leads s u d v (pure_table k)
    → Leads s u y v (pure_table m)
leads_at s u v y d k m e is p h ws =
    ap (λ z. path_behind u (pure_step z ∷ ws) (pure_table m)) is
    ∙ sym (ap (λ z. path_behind u (pure_step d ∷ ws) (pure_table z)) e)
    ∙ p h ws
    ∙ ap (λ z. path_behind v ws (pure_table z)) e

-- One step more leads on, where the types behind the steps are asked (o) and so that behind this one is found (s).
pub path_more : (ys zs : List Step) (y : Step) (t u v : Option pure.Ty) (g : Names pure.Ty) (o s : Bool)
    → (o ≡ true → (ws : List (With tree.Step)) → path_behind t (map pure_step ys ++ ws) g ≡ path_behind u ws g)
    → Leads s u y v g → zs ≡ ys ++ y ∷ [] → (o ≡ true → s ≡ true) → o ≡ true → (ws : List (With tree.Step))
    → path_behind t (map pure_step zs ++ ws) g ≡ path_behind v ws g
path_more ys zs y t u v g o s p q r f h ws =
    ap (λ x. path_behind t (map pure_step x ++ ws) g) r
    ∙ ap (λ x. path_behind t (x ++ ws) g) (map_push pure_step ys y)
    ∙ ap (λ x. path_behind t x g) (append_assoc (map pure_step ys) (pure_step y ∷ []) ws)
    ∙ p h (pure_step y ∷ ws)
    ∙ q (f h) ws

no-steps : (u : Option pure.Ty) (g : Names pure.Ty) → path_behind u [] g ≡ u
no-steps None g = refl
no-steps (Some u) g = refl

-- All steps lead to the type behind them.
pub path_all : (ys : List Step) (t u : Option pure.Ty) (g : Names pure.Ty) (o : Bool)
    → (o ≡ true → (ws : List (With tree.Step)) → path_behind t (map pure_step ys ++ ws) g ≡ path_behind u ws g)
    → o ≡ true → u ≡ path_behind t (map pure_step ys) g
path_all ys t u g o h p =
    sym (ap (λ x. path_behind t x g) (sym (append-nil (map pure_step ys))) ∙ h p [] ∙ no-steps u g)

-- The type of an index is that behind its steps.
pub index_typed : (b : Bool) (f : tree.Ex) (rs : List (With tree.Step)) (t u : Option pure.Ty) (g : Names pure.Ty)
    → t ≡ type_of f g → u ≡ path_behind t rs g → u ≡ type_of (node_ex b (index (words_of rs)) (more_exs f (exs_of (within rs)))) g
index_typed b f rs t u g p q = q ∙ ap (λ x. path_behind x rs g) p ∙ go (type_of f g)
  where
    go : (x : Option pure.Ty)
        → path_behind x rs g
        ≡ type_of_node (index (words_of rs)) (static f ∷ statics (exs_of (within rs))) (x ∷ types_of (exs_of (within rs)) g)
    go None = refl
    go (Some x) = refl

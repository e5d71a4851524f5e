-- What is found of an index, step by step.
use Rattle.std.proofs.Common.{◌≡◌, refl, sym, ap, ◌∙◌, ℕ, ◌+◌, ◌<◌, ◌≤◌, Bool, true, false, if◌then◌else◌, List, [], ◌∷◌, map, drop, length, get_or, Option, Some, None}
use Rattle.std.proofs.lemmas.List.{at_drop_more, at_drop_all}
use Rattle.ess_semantics.specs.Lists.{and_then, is_some_and}
use Rattle.ess_semantics.specs.Values.{Text}
use Rattle.ess_semantics.specs.Trees as pure
use Rattle.ess_semantics.specs.Trees.{by_value, to_component, to_field, index, node_ex, more_exs}
use Rattle.ess_semantics.specs.Types.{Ty}
use Rattle.ess_semantics.specs.Typing.{Static, static, statics, a_number, a_name, step_ty, part_ty, type_behind, part_behind, path_ty, type_of_node}
use Rattle.ess_semantics.specs.Lettings.{is_record, field_steps}
use Rattle.ess_semantics.specs.Scopes.{Scope}
use Rattle.ess_core.specs.TreeViews.{With, words_of, within, exs_of, pure_step}
use Rattle.ess_core.specs.declared.expressions.Step.{Step}
use Rattle.ess_types_judging_laws.specs.Found.{Found, both, at_place}
use Rattle.ess_types_judging_laws.specs.Judged.{Judged, types_in, judged, judged_all}
use Rattle.ess_types_judging_laws.specs.Combined.{operands_found}
use Rattle.ess_types_judging_laws.specs.Accumulated.{over_parts}
use Rattle.ess_types_judging_laws.specs.Reached.{Reached, behind_value, reached_first}
use Rattle.ess_types_judging_laws.proofs.Truths.{both_assoc, both_well}
use Rattle.ess_types_judging_laws.proofs.Layers.{judged_node}
use Rattle.ess_types_judging.specs.Indexing.{index_on, index_end}
use Rattle.ess_types_judging.specs.ScopeViews.{pure_scope}
use Rattle.ess_types_judging.specs.declared.scope.Scope as code

index-type : (o : Option Ty) (qs : List pure.Step) (s : Static) (ss : List Static) (us : List (Option Ty)) →
    type_of_node (index qs) (s ∷ ss) (o ∷ us) ≡ and_then o (λ t. path_ty t qs ss us)
index-type None qs s ss us = refl
index-type (Some t) qs s ss us = refl

-- A part that has type t, of whose parts f is found.
abbrev over : Option Ty → Found → Judged
over t f = over_parts t true f

-- What is found in steps behind a place of type o.
abbrev rest : Option Ty → List (With pure.Step) → Scope → Found
rest o ws s =
    operands_found true
    (field_steps o (words_of ws) (statics (exs_of (within ws))) (types_in (judged_all (exs_of (within ws)) s)))
    (judged_all (exs_of (within ws)) s)

-- Before the first step.
pub index_first : (b : Bool) (e : pure.Ex) (ws : List (With pure.Step)) (s : Scope) →
    judged (node_ex b (index (words_of ws)) (more_exs e (exs_of (within ws)))) s ≡ index_on (reached_first (judged e s)) ws s
index_first b e ws s =
    judged_node b (index (words_of ws)) (more_exs e (exs_of (within ws))) s
    ∙ ap (λ t. over t (both (at_place true (judged e s).found) (rest (judged e s).ty ws s)))
    (index-type (judged e s).ty (words_of ws) (static e) (statics (exs_of (within ws))) (types_in (judged_all (exs_of (within ws)) s)))

-- Behind the last.
pub index_last : (p : Reached) (s : Scope) → index_on p [] s ≡ over_parts p.ty true p.found
index_last p s = ap (λ t. over t (both p.found (operands_found true [] []))) (go p.ty) ∙ ap (over p.ty) (both_well p.found)
  where
    go : (o : Option Ty) → and_then o (λ t. Some t) ≡ o
    go None = refl
    go (Some t) = refl

steps-type : (o t : Option Ty) (f : Ty → Option Ty) (g : Ty → Option Ty) → and_then o f ≡ t →
    and_then o (λ x. and_then (f x) g) ≡ and_then t g
steps-type None t f g e = ap (λ u. and_then u g) e
steps-type (Some x) t f g e = ap (λ u. and_then u g) e

-- Behind a step by a value.
pub index_value : (p : Reached) (e : pure.Ex) (ws : List (With pure.Step)) (s : Scope) →
    index_on p ((by_value, e ∷ []) ∷ ws) s ≡ index_on (behind_value e (judged e s) p) ws s
index_value p e ws s =
    ap (λ t. over t (both p.found (operands_found true (is_some_and p.ty is_record ∷ bs) (judged e s ∷ js))))
    (steps-type p.ty (type_behind p.ty (static e) (judged e s).ty) (λ x. step_ty x (static e) (judged e s).ty)
    (λ v. path_ty v (words_of ws) (statics (exs_of (within ws))) (types_in js)) refl)
    ∙ ap (over (and_then (type_behind p.ty (static e) (judged e s).ty)
    (λ v. path_ty v (words_of ws) (statics (exs_of (within ws))) (types_in js))))
    (go (is_some_and p.ty is_record))
  where
    js : List Judged
    js = judged_all (exs_of (within ws)) s

    bs : List Bool
    bs = field_steps (type_behind p.ty (static e) (judged e s).ty) (words_of ws) (statics (exs_of (within ws))) (types_in js)

    go : (b : Bool) →
        both p.found (operands_found true (b ∷ bs) (judged e s ∷ js))
        ≡ both (if b then p.found else both p.found (at_place true (judged e s).found)) (operands_found true bs js)
    go true = refl
    go false = sym (both_assoc p.found (at_place true (judged e s).found) (operands_found true bs js))

-- Behind a step to a component.
pub index_component : (p : Reached) (k : ℕ) (ws : List (With pure.Step)) (s : Scope) →
    index_on p ((to_component k, []) ∷ ws) s ≡ index_on (record p { ty = part_behind p.ty (a_number k) }) ws s
index_component p k ws s =
    ap (λ t. over t (both p.found (rest (part_behind p.ty (a_number k)) ws s)))
    (steps-type p.ty (part_behind p.ty (a_number k)) (λ x. part_ty x (a_number k))
    (λ v. path_ty v (words_of ws) (statics (exs_of (within ws))) (types_in (judged_all (exs_of (within ws)) s))) refl)

-- Behind a step to a field.
pub index_field : (p : Reached) (a : Text) (ws : List (With pure.Step)) (s : Scope) →
    index_on p ((to_field a, []) ∷ ws) s ≡ index_on (record p { ty = part_behind p.ty (a_name a) }) ws s
index_field p a ws s =
    ap (λ t. over t (both p.found (rest (part_behind p.ty (a_name a)) ws s)))
    (steps-type p.ty (part_behind p.ty (a_name a)) (λ x. part_ty x (a_name a))
    (λ v. path_ty v (words_of ws) (statics (exs_of (within ws))) (types_in (judged_all (exs_of (within ws)) s))) refl)

-- ---- the steps of a row

-- What is found of an index, where p is reached before the steps of a row.
abbrev pub on_steps : Reached → List Step → Scope → Judged
on_steps p ss s = index_on p (map pure_step ss) s

pub steps_more : (p q : Reached) (ss : List Step) (s : Scope) (i : ℕ) (x : Step) → i < length ss → x ≡ get_or ss i x →
    ((ws : List (With pure.Step)) → index_on p (pure_step x ∷ ws) s ≡ index_on q ws s) →
    on_steps p (drop i ss) s ≡ on_steps q (drop (i + 1) ss) s
steps_more p q ss s i x h is f =
    at_drop_more (λ l. on_steps p l s) ss i x h ∙ ap (λ y. on_steps p (y ∷ drop (i + 1) ss) s) (sym is)
    ∙ f (map pure_step (drop (i + 1) ss))

pub steps_all : (p : Reached) (ss : List Step) (s : Scope) (i : ℕ) → length ss ≤ i → on_steps p (drop i ss) s ≡ index_end p
steps_all p ss s i h = at_drop_all (λ l. on_steps p l s) ss i h ∙ index_last p s

-- An index, where j is found of its place, p is reached before its steps and q behind them.
pub index_by : (b : Bool) (e : pure.Ex) (ws : List (With pure.Step)) (s t : code.Scope) (j : Judged) (p q : Reached) → t ≡ s →
    j ≡ judged e (pure_scope s) → p ≡ reached_first j → index_on p ws (pure_scope t) ≡ index_end q →
    index_end q ≡ judged (node_ex b (index (words_of ws)) (more_exs e (exs_of (within ws)))) (pure_scope s)
index_by b e ws s t j p q h f g k =
    sym k ∙ ap (λ z. index_on p ws (pure_scope z)) h ∙ ap (λ r. index_on r ws (pure_scope s)) (g ∙ ap reached_first f)
    ∙ sym (index_first b e ws (pure_scope s))

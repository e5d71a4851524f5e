-- What is found of operands one after another is what is found of all of them.
use Rattle.std.proofs.Common.{◌≡◌, refl, sym, ap, ◌∙◌, Bool, true, false, ◌&&◌, ◌||◌, not, List, [], ◌∷◌, ◌++◌, Option, Some, None, option_map}
use Rattle.std.specs.Prelude.{is_some}
use Rattle.std.specs.List.{list_all}
use Rattle.std.proofs.lemmas.List.{append_assoc, append-nil}
use Rattle.ess_semantics.specs.Lists.{and_then, all_some, is_some_and}
use Rattle.ess_semantics.specs.Trees.{Op, index, record_literal, Ex, Exs, node_ex, Dom}
use Rattle.ess_semantics.specs.Types.{Ty}
use Rattle.ess_semantics.specs.OperatorTypes.{type_of_op}
use Rattle.ess_semantics.specs.Typing.{Static, statics, type_of_node}
use Rattle.ess_semantics.specs.Scopes.{Scope}
use Rattle.ess_semantics.specs.ExpressionJudgements.{compares, is_ordered_ty, is_list, forgets_order}
use Rattle.ess_types_judging_laws.specs.Found.{Found, all_well, both, at_place}
use Rattle.ess_types_judging_laws.specs.Judged.{Judged, types_in, judged, judged_all}
use Rattle.ess_types_judging_laws.specs.Combined.{flags_of, operands_found, node_fits, node_judged, layer, types_are_ints, dom_layer, numbered_layer}
use Rattle.ess_types_judging_laws.specs.Accumulated.{Several, none_yet, added, several_on, several, over_parts, typed_fits, plain_judged, is_index, Numbers, no_number, with_number, numbers_on, numbers, layer_over, layer_with}
use Rattle.ess_types_judging_laws.proofs.Truths.{and_assoc, and_true, both_assoc, both_well}
use Rattle.ess_types_judging_laws.proofs.Layers.{judged_node}

-- ---- types

-- Types behind others.
abbrev behind : Option (List Ty) → Option (List Ty) → Option (List Ty)
behind o p = and_then o (λ ts. option_map (λ us. ts ++ us) p)

behind-one : (o : Option (List Ty)) (t : Option Ty) (p : Option (List Ty)) →
    behind (and_then o (λ ts. option_map (λ x. ts ++ x ∷ []) t)) p ≡ behind o (and_then t (λ x. option_map (λ us. x ∷ us) p))
behind-one None t p = refl
behind-one (Some ts) None p = refl
behind-one (Some ts) (Some x) None = refl
behind-one (Some ts) (Some x) (Some us) = ap Some (append_assoc ts (x ∷ []) us)

behind-nothing : (o : Option (List Ty)) → behind o (Some []) ≡ o
behind-nothing None = refl
behind-nothing (Some ts) = ap Some (append-nil ts)

tys-on : (js : List Judged) (v : Several) → (several_on js v).tys ≡ behind v.tys (all_some (types_in js))
tys-on [] v = sym (behind-nothing v.tys)
tys-on (j ∷ js) v = tys-on js (added v j) ∙ behind-one v.tys j.ty (all_some (types_in js))

unbehind : (p : Option (List Ty)) → behind (Some []) p ≡ p
unbehind None = refl
unbehind (Some us) = refl

-- The types that were found, where each is there.
pub several-tys : (js : List Judged) → (several js).tys ≡ all_some (types_in js)
several-tys js = tys-on js none_yet ∙ unbehind (all_some (types_in js))

-- ---- the rest

placed-both : (c : Bool) (f g : Found) → both (at_place c f) (at_place c g) ≡ at_place c (both f g)
placed-both true f g = refl
placed-both false f g = refl

found-on : (c : Bool) (js : List Judged) (v : Several) → both (at_place c v.found) (operands_found c [] js) ≡ at_place c (several_on js v).found
found-on c [] v = both_well (at_place c v.found)
found-on c (j ∷ js) v =
    sym (both_assoc (at_place c v.found) (at_place c j.found) (operands_found c [] js))
    ∙ ap (λ f. both f (operands_found c [] js)) (placed-both c v.found j.found) ∙ found-on c js (added v j)

placed-well : (c : Bool) (f : Found) → f ≡ both (at_place c all_well) f
placed-well true f = refl
placed-well false f = refl

-- What is found of operands at a place.
pub several-found : (c : Bool) (js : List Judged) → operands_found c [] js ≡ at_place c (several js).found
several-found c js = placed-well c (operands_found c [] js) ∙ found-on c js none_yet

-- ---- nodes

all-ordered : (us : List (Option Ty)) (s : Scope) →
    list_all (λ t. is_some_and t (λ u. is_ordered_ty u s)) us ≡ is_some_and (all_some us) (λ ts. list_all (λ u. is_ordered_ty u s) ts)
all-ordered [] s = refl
all-ordered (None ∷ us) s = refl
all-ordered (Some t ∷ us) s = ap (λ b. is_ordered_ty t s && b) (all-ordered us s) ∙ go (all_some us)
  where
    go : (o : Option (List Ty)) → is_ordered_ty t s && is_some_and o (λ ts. list_all (λ u. is_ordered_ty u s) ts)
        ≡ is_some_and (option_map (λ ts. t ∷ ts) o) (λ ts. list_all (λ u. is_ordered_ty u s) ts)
    go (Some ts) = refl
    go None = and-no (is_ordered_ty t s)
      where
        and-no : (b : Bool) → b && false ≡ false
        and-no true = refl
        and-no false = refl

fits-typed : (op : Op) (us : List (Option Ty)) (s : Scope) → node_fits op us s ≡ typed_fits op (all_some us) s
fits-typed (record_literal fs) us s = refl
fits-typed (index qs) us s = refl
fits-typed op us s = ap (λ b. not (compares op) || b) (all-ordered us s)

no-flags : (op : Op) (ss : List Static) (us : List (Option Ty)) → is_index op ≡ false → flags_of op ss us ≡ []
no-flags (index qs) ss us h = cc
no-flags _ ss us h = refl

type-plain : (op : Op) (ss : List Static) (us : List (Option Ty)) → is_index op ≡ false → type_of_node op ss us ≡ and_then (all_some us) (type_of_op op)
type-plain (index qs) ss us h = cc
type-plain _ ss us h = refl

-- A node but an index is judged by what is found of its operands.
pub node-plain : (op : Op) (ss : List Static) (js : List Judged) (s : Scope) → is_index op ≡ false →
    node_judged op ss js s ≡ plain_judged op (several js) s
node-plain op ss js s h =
    ap (λ t. over t (node_fits op us s) (operands_found c (flags_of op ss us) js)) (type-plain op ss us h)
    ∙ ap (λ bs. over (and_then (all_some us) (type_of_op op)) (node_fits op us s) (operands_found c bs js)) (no-flags op ss us h)
    ∙ ap (λ b. over (and_then (all_some us) (type_of_op op)) b (operands_found c [] js)) (fits-typed op us s)
    ∙ ap (λ f. over (and_then (all_some us) (type_of_op op)) (typed_fits op (all_some us) s) f) (several-found c js)
    ∙ ap (λ o. over (and_then o (type_of_op op)) (typed_fits op o s) (at_place c (several js).found)) (sym (several-tys js))
  where
    us : List (Option Ty)
    us = types_in js

    c : Bool
    c = not (forgets_order op)

    over : Option Ty → Bool → Found → Judged
    over t b f = over_parts t b f

pub judged_plain : (b : Bool) (op : Op) (es : Exs) (s : Scope) → is_index op ≡ false →
    judged (node_ex b op es) s ≡ plain_judged op (several (judged_all es s)) s
judged_plain b op es s h = judged_node b op es s ∙ node-plain op (statics es) (judged_all es s) s h

-- ---- numbers

ints-on : (js : List Judged) (v : Numbers) → (numbers_on js v).ints ≡ v.ints && types_are_ints (types_in js)
ints-on [] v = sym (and_true v.ints)
ints-on (j ∷ js) v = ints-on js (with_number v j) ∙ and_assoc v.ints _ (types_are_ints (types_in js))

numbers-found-on : (js : List Judged) (v : Numbers) (w : Several) → v.found ≡ w.found → (numbers_on js v).found ≡ (several_on js w).found
numbers-found-on [] v w e = e
numbers-found-on (j ∷ js) v w e = numbers-found-on js (with_number v j) (added w j) (ap (λ f. both f j.found) e)

fixed-on : (js : List Judged) (v : Numbers) → (numbers_on js v).found.fixed ≡ v.found.fixed && list_all (λ j. j.found.fixed) js
fixed-on [] v = sym (and_true v.found.fixed)
fixed-on (j ∷ js) v = fixed-on js (with_number v j) ∙ and_assoc v.found.fixed j.found.fixed (list_all (λ j. j.found.fixed) js)

-- A layer of a domain by what is found of its numbers.
pub numbered_by : (d : Dom) (js : List Judged) (s : Scope) → numbered_layer d js s ≡ layer_with d (numbers js) s
numbered_by d js s =
    ap (λ b. both (layer_over d b (list_all (λ j. j.found.fixed) js) s) (operands_found true [] js)) (sym (ints-on js no_number))
    ∙ ap (λ b. both (layer_over d (numbers js).ints b s) (operands_found true [] js)) (sym (fixed-on js no_number))
    ∙ ap (both (layer_over d (numbers js).ints (numbers js).found.fixed s))
    (several-found true js ∙ ap (at_place true) (sym (numbers-found-on js no_number none_yet refl)))

-- One without numbers.
pub unnumbered_by : (d : Dom) (s : Scope) → dom_layer d [] s ≡ layer_over d true true s
unnumbered_by d s = refl

-- The types of the members of domains with several parts.
use Rattle.std.proofs.Common.{◌≡◌, refl, sym, ap, ◌∙◌, ℕ, ◌+◌, ◌<◌, List, [], ◌∷◌, length, map, drop, get_or}
use Rattle.std.proofs.lemmas.List.{at_drop_more}
use Rattle.ess_semantics.specs.Values.{Text, a_matrix, a_record}
use Rattle.ess_semantics.specs.Names.{keys}
use Rattle.ess_semantics.specs.Kinds.{doms_of}
use Rattle.ess_semantics.specs.Types as pure
use Rattle.ess_semantics.specs.Types.{compound, compound2, tys_of, more_tys, type_of_dom, types_of_doms, nested_ty}
use Rattle.ess_semantics.specs.OperatorTypes.{record_ty}
use Rattle.ess_core.specs.TreeViews.{pure_dom, pure_doms, pure_field_dom, field_values}
use Rattle.ess_core.specs.TypeViews.{pure_ty, pure_tys, pure_field_ty}
use Rattle.ess_types_operators.specs.Paired.{record_of}
use Rattle.ess_core.specs.declared.types.Ty.{Ty}
use Rattle.ess_core.specs.declared.types.FieldTy.{FieldTy}
use Rattle.ess_core.specs.declared.domains.Dom.{Dom}
use Rattle.ess_core.specs.declared.domains.FieldDom.{FieldDom}

dom-types : (ds : List Dom) → types_of_doms (pure_doms ds) ≡ tys_of (map (λ d. type_of_dom (pure_dom d)) ds)
dom-types [] = refl
dom-types (d ∷ ds) = ap (more_tys (type_of_dom (pure_dom d))) (dom-types ds)

pub all_types : (ds : List Dom) (ts : List Ty) → map pure_ty ts ≡ map (λ d. type_of_dom (pure_dom d)) ds → pure_tys ts ≡ types_of_doms (pure_doms ds)
all_types ds ts e = ap tys_of e ∙ sym (dom-types ds)

-- A field with the type of its domain's members.
abbrev typed : FieldDom → Text × pure.Ty
typed f = ((pure_field_dom f).0, type_of_dom (pure_field_dom f).1)

names-kept : (fs : List FieldDom) → keys (map typed fs) ≡ keys (map pure_field_dom fs)
names-kept [] = refl
names-kept (f ∷ fs) = ap (λ l. (pure_field_dom f).0 ∷ l) (names-kept fs)

field-types : (fs : List FieldDom) → tys_of (map {A = Text × pure.Ty} (λ f. f.1) (map typed fs)) ≡ types_of_doms (doms_of (field_values (map pure_field_dom fs)))
field-types [] = refl
field-types (f ∷ fs) = ap (more_tys (type_of_dom (pure_field_dom f).1)) (field-types fs)

pub record_types : (fs : List FieldDom) (ts : List FieldTy) → map pure_field_ty ts ≡ map (λ f. ((pure_field_dom f).0, type_of_dom (pure_field_dom f).1)) fs
    → record_ty (map pure_field_ty ts) ≡ type_of_dom (record_of (map pure_field_dom fs))
record_types fs ts e =
    ap record_ty e ∙ ap (λ ns. compound (a_record ns) (tys_of (map {A = Text × pure.Ty} (λ f. f.1) (map typed fs)))) (names-kept fs)
    ∙ ap (compound (a_record (keys (map pure_field_dom fs)))) (field-types fs)

pub nested_more : (ds : List Dom) (i : ℕ) (d : Dom) (t : pure.Ty) → i < length ds → d ≡ get_or ds i d
    → nested_ty (pure_doms (drop i ds)) t ≡ compound2 a_matrix (type_of_dom (pure_dom d)) (nested_ty (pure_doms (drop (i + 1) ds)) t)
nested_more ds i d t h is =
    at_drop_more (λ l. nested_ty (pure_doms l) t) ds i d h
    ∙ ap (λ e. compound2 a_matrix (type_of_dom (pure_dom e)) (nested_ty (pure_doms (drop (i + 1) ds)) t)) (sym is)

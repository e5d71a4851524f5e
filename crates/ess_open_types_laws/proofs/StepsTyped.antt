-- Indices step by step, and relations that are applied, keep types and marks.
use Rattle.std.proofs.Common.{◌≡◌, refl, sym, ap, ◌∙◌, subst, Bool, true, false, List, [], ◌∷◌, Option, Some, None, option_map}
use Rattle.std.specs.Prelude.{is_some}
use Rattle.ess_semantics.specs.declared.words.Op2.{Op2}
use Rattle.ess_semantics.specs.Lists.{and_then, all_some}
use Rattle.ess_semantics.specs.Values.{a_tuple, a_relation}
use Rattle.ess_semantics.specs.Names.{Names}
use Rattle.ess_semantics.specs.Trees.{Step, by_value, to_component, to_field, binary, application, index, tuple_literal, Ex, Exs, node_ex, no_exs, more_exs, ex2, from}
use Rattle.ess_semantics.specs.Types.{Ty, Tys, any_ty, bool_ty, int_ty, named_ty, compound, no_tys, more_tys, tys_of, is_bool, join, joins, fit}
use Rattle.ess_semantics.specs.OperatorTypes.{type_of_op, type_of_application, asked_ty}
use Rattle.ess_semantics.specs.Typing.{Static, a_number, a_name, other, static, statics, step_ty, part_ty, path_ty, type_of_node, type_of, types_of}
use Rattle.ess_rules_laws.specs.IndexSteps.{step_apart}
use Rattle.ess_guard_types_laws.proofs.JoinedTypes.{turned}
use Rattle.ess_refine_laws.specs.TypesStay.{KeepsType}
use Rattle.ess_refine_laws.specs.MarksStay.{MarkFits}
use Rattle.ess_refine_types_laws.proofs.TypeParts.{two-to, given-is, given-to}
use Rattle.ess_refine_types_laws.proofs.TypesOfListed.{heads, all-is}
use Rattle.ess_rules_marks_laws.proofs.Grows.{as_it_is, a_node, none_grow, more_grow, all-are}
use Rattle.ess_open_rules_laws.specs.OpenRules.{is_relation_ty, related}
use Rattle.ess_open_types_laws.specs.OpeningsTyped.{has_arguments}
use Rattle.ess_open_types_laws.proofs.TypesBehind.{BothKept, both-when, by-growth}

no : {A : Type 0} → false ≡ true → A
no h = cc

-- ---- indices

-- What has a step is no truth value.
stepped-on : (v : Ty) (q : Step) (qs : List Step) (ss : List Static) (us : List (Option Ty)) (t : Ty) →
    path_ty v (q ∷ qs) ss us ≡ Some t → is_bool (Some v) ≡ false
stepped-on bool_ty by_value qs (s ∷ ss) (u ∷ us) t r = cc
stepped-on bool_ty by_value qs (s ∷ ss) [] t r = cc
stepped-on bool_ty by_value qs [] us t r = cc
stepped-on bool_ty (to_component k) qs ss us t r = cc
stepped-on bool_ty (to_field a) qs ss us t r = cc
stepped-on any_ty q qs ss us t r = refl
stepped-on int_ty q qs ss us t r = refl
stepped-on (named_ty a) q qs ss us t r = refl
stepped-on (compound k ts) q qs ss us t r = refl

module _ (q : Step) (qs : List Step) (ss : List Static) (us : List (Option Ty)) (t : Ty) where
  -- The other steps from what the first one reaches, which is no truth value.
  abbrev StepsOn : Option Ty → Type 0
  StepsOn o = (type_of_node (index (q ∷ qs)) (other ∷ ss) (o ∷ us) ≡ Some t) × ((ps : List Step) → MarkFits false (index ps) o)

  steps-on : (o : Option Ty) → and_then o (λ v. path_ty v (q ∷ qs) ss us) ≡ Some t → StepsOn (and_then o (λ v. path_ty v [] [] []))
  steps-on None r = (cc, λ ps. cc)
  steps-on (Some v) r = (r, λ ps. sym (stepped-on v q qs ss us t r))

  value-on : (o : Option Ty) (sm si : Static) (u : Option Ty) →
      type_of_node (index (by_value ∷ q ∷ qs)) (sm ∷ si ∷ ss) (o ∷ u ∷ us) ≡ Some t →
      StepsOn (type_of_node (index (by_value ∷ [])) (sm ∷ si ∷ []) (o ∷ u ∷ []))
  value-on None sm si u r = (cc, λ ps. cc)
  value-on (Some p) sm si u r = steps-on (step_ty p si u) r

  component-on : (o : Option Ty) (sm : Static) (k : _) →
      type_of_node (index (to_component k ∷ q ∷ qs)) (sm ∷ ss) (o ∷ us) ≡ Some t →
      StepsOn (type_of_node (index (to_component k ∷ [])) (sm ∷ []) (o ∷ []))
  component-on None sm k r = (cc, λ ps. cc)
  component-on (Some p) sm k r = steps-on (part_ty p (a_number k)) r

  field-on : (o : Option Ty) (sm : Static) (a : _) →
      type_of_node (index (to_field a ∷ q ∷ qs)) (sm ∷ ss) (o ∷ us) ≡ Some t →
      StepsOn (type_of_node (index (to_field a ∷ [])) (sm ∷ []) (o ∷ []))
  field-on None sm a r = (cc, λ ps. cc)
  field-on (Some p) sm a r = steps-on (part_ty p (a_name a)) r

module _ (g : Names Ty) where
  -- A node of an index whose type stays.
  index-mark : (b : Bool) (ps qs : List Step) (es fs : Exs) (t : Ty) → type_of (node_ex b (index ps) es) g ≡ Some t →
      type_of (node_ex b (index qs) fs) g ≡ Some t → MarkFits b (index ps) (type_of (node_ex b (index ps) es) g) →
      MarkFits b (index qs) (type_of (node_ex b (index qs) fs) g)
  index-mark b ps qs es fs t p q h =
      let n : MarkFits b (index ps) (Some t) = subst (λ o. MarkFits b (index ps) o) p h in
      subst (λ o. MarkFits b (index qs) o) (sym q) n

  pub steps : (P : Type 0) (e : Ex) → BothKept g P e (step_apart e)
  steps P (node_ex b (index (by_value ∷ q ∷ qs)) (more_exs m (more_exs i es))) = (
    λ t r. (value-on q qs (statics es) (types_of es g) t (type_of m g) (static m) (static i) (type_of i g) r).0,
    λ p t r h.
        let v = value-on q qs (statics es) (types_of es g) t (type_of m g) (static m) (static i) (type_of i g) r in (
          index-mark b (by_value ∷ q ∷ qs) (q ∷ qs) (more_exs m (more_exs i es))
              (more_exs (node_ex false (index (by_value ∷ [])) (more_exs m (more_exs i no_exs))) es) t r v.0 h.0,
          ((v.1 (by_value ∷ []), (h.1.0, (h.1.1.0, tt))), h.1.1.1),
        ),
  )
  steps P (node_ex b (index (to_component k ∷ q ∷ qs)) (more_exs m es)) = (
    λ t r. (component-on q qs (statics es) (types_of es g) t (type_of m g) (static m) k r).0,
    λ p t r h.
        let v = component-on q qs (statics es) (types_of es g) t (type_of m g) (static m) k r in (
          index-mark b (to_component k ∷ q ∷ qs) (q ∷ qs) (more_exs m es)
              (more_exs (node_ex false (index (to_component k ∷ [])) (more_exs m no_exs)) es) t r v.0 h.0,
          ((v.1 (to_component k ∷ []), (h.1.0, tt)), h.1.1),
        ),
  )
  steps P (node_ex b (index (to_field a ∷ q ∷ qs)) (more_exs m es)) = (
    λ t r. (field-on q qs (statics es) (types_of es g) t (type_of m g) (static m) a r).0,
    λ p t r h.
        let v = field-on q qs (statics es) (types_of es g) t (type_of m g) (static m) a r in (
          index-mark b (to_field a ∷ q ∷ qs) (q ∷ qs) (more_exs m es)
              (more_exs (node_ex false (index (to_field a ∷ [])) (more_exs m no_exs)) es) t r v.0 h.0,
          ((v.1 (to_field a ∷ []), (h.1.0, tt)), h.1.1),
        ),
  )
  steps P _ = tt

-- ---- relations

of-map : (f : Tys → Ty) (o : Option Tys) → is_some (option_map f o) ≡ true → is_some o ≡ true
of-map f None h = h
of-map f (Some x) h = refl

to-map : (f : Tys → Ty) (o : Option Tys) → is_some o ≡ true → is_some (option_map f o) ≡ true
to-map f None h = h
to-map f (Some x) h = refl

-- What is applied, and the tuple of the arguments.
relation-asks : (h u : Ty) (us : List Ty) (t : Ty) → is_relation_ty (Some h) ≡ true → type_of_application h (u ∷ us) ≡ Some t →
    (and_then (asked_ty h) (λ m. fit (compound a_tuple (tys_of (u ∷ us))) m bool_ty) ≡ Some bool_ty) × (t ≡ bool_ty)
relation-asks (compound a_relation no_tys) u us t i q = (refl, cc)
relation-asks (compound a_relation (more_tys c cs)) u us t i q =
    let r = given-is (join (compound a_relation (more_tys c cs)) (compound a_relation (more_tys u (tys_of us)))) bool_ty t q in (
      given-to (join (compound a_tuple (more_tys u (tys_of us))) (compound a_tuple (more_tys c cs))) bool_ty
          (turned (compound a_tuple (more_tys c cs)) (compound a_tuple (more_tys u (tys_of us)))
          (to-map (compound a_tuple) (joins (more_tys c cs) (more_tys u (tys_of us)))
          (of-map (compound a_relation) (joins (more_tys c cs) (more_tys u (tys_of us))) r.0))),
      r.1,
    )
relation-asks _ u us t i q = no i

module _ (g : Names Ty) where
  relation-type : (r a : Ex) (as' : Exs) → is_relation_ty (type_of r g) ≡ true →
      KeepsType g (node_ex true application (more_exs r (more_exs a as')))
      (ex2 true Op2.Member (node_ex false tuple_literal (more_exs a as')) r)
  relation-type r a as' i t q =
      let n = all-is (all_some (types_of (more_exs r (more_exs a as')) g)) (type_of_op application) t q in
      let d = heads (type_of r g) (all_some (types_of (more_exs a as') g)) n.0 n.1 in
      let c = heads (type_of a g) (all_some (types_of as' g)) d.1 d.3 in
      let k : type_of_application d.0 (c.0 ∷ c.1) ≡ Some t =
      ap (type_of_application d.0) c.4 ∙ ap (type_of_op application) d.4 ∙ n.2 in
      let w = relation-asks d.0 c.0 c.1 t (subst (λ o. is_relation_ty o ≡ true) d.2 i) k in
      two-to (type_of (node_ex false tuple_literal (more_exs a as')) g) (type_of r g) (type_of_op (binary Op2.Member))
      (compound a_tuple (tys_of (c.0 ∷ c.1))) d.0 bool_ty
      (ap (λ o. and_then o (type_of_op tuple_literal)) (d.3 ∙ ap Some (sym c.4))) d.2 w.0 ∙ ap Some (sym w.1)

  pub relation : (P : Type 0) (e : Ex) → has_arguments e ≡ true → BothKept g P e (related g e)
  relation P (node_ex true application (more_exs r (more_exs a as'))) h = both-when g P (is_relation_ty (type_of r g))
      (node_ex true application (more_exs r (more_exs a as'))) (ex2 true Op2.Member (node_ex false tuple_literal (more_exs a as')) r) (λ i.
      by-growth g P (node_ex true application (more_exs r (more_exs a as')))
      (ex2 true Op2.Member (node_ex false tuple_literal (more_exs a as')) r) (relation-type r a as' i) (λ p m.
      a_node refl (more_grow (a_node refl (all-are g (more_exs a as') m.1.1)) (more_grow (as_it_is m.1.0) none_grow))))
  relation P (node_ex true application (more_exs r no_exs)) h = no h
  relation P _ h = tt

-- What is asked of each part of a judged tree gives it the right marks once it is resolved.
use Rattle.std.proofs.Common.{◌≡◌, refl, sym, ap, ◌∙◌, subst, Bool, true, false, ◌&&◌, ◌||◌, List, [], ◌∷◌, Option, Some, None, option_map}
use Rattle.std.specs.Prelude.{is_some}
use Rattle.ess_semantics.specs.Lists.{and_then, is_some_and}
use Rattle.ess_semantics.specs.Values.{a_function, a_matrix}
use Rattle.ess_semantics.specs.Names.{Names}
use Rattle.ess_semantics.specs.Trees.{Step, by_value, to_component, to_field, Op, index, application, is_truth_op, Ex, Exs, number_ex, truth_ex, name_ex, node_ex, matrix_ex, comp_ex, cell_ex, seen_ex, no_exs, more_exs, Gens, no_gens, over, from, cond, Dom, Doms, bool_dom, int_dom, name_dom, tuple_dom, record_dom, matrix_dom, set_dom, mset_dom, function_dom, relation_dom, partition_dom, no_doms, more_doms}
use Rattle.ess_semantics.specs.Types.{Ty, bool_ty, int_ty, compound2, is_bool, join, or_any, type_of_dom, bind_types}
use Rattle.ess_semantics.specs.OperatorTypes.{member_ty}
use Rattle.ess_semantics.specs.Typing.{a_number, a_name, static, statics, type_behind, part_behind, path_ty, type_of, types_of, types_under, source_ty}
use Rattle.ess_semantics.specs.Lettings.{is_record, field_steps}
use Rattle.ess_semantics.specs.Scopes.{Scope, with_bound, Asked, every, every_operand, every_under, every_dom, every_doms}
use Rattle.ess_semantics.specs.ExpressionJudgements.{ex_fits, part_fits}
use Rattle.ess_semantics.specs.Resolving.{step_at, steps_from, kept_indices, resolved_op, resolve, resolve_exs, resolve_dom, resolve_doms}
use Rattle.ess_semantics.specs.NamesAt.{names_behind}
use Rattle.ess_semantics.proofs.Tests.{and-left, and-right}
use Rattle.ess_types_laws.specs.SoundParts.{relation_has_parts, sound_parts}
use Rattle.ess_types_laws.proofs.ResolvedSteps.{kept-none}
use Rattle.ess_types_laws.proofs.ResolvedTypes.{gens_resolved, comp-resolved, dom-type, type-resolved}
use Rattle.ess_types_laws.proofs.Resolved.{source-resolved, behind-resolved}
use Rattle.ess_types_laws.proofs.FixedIndices.{Leads, node-leads, value-leads, component-leads, field-leads, some-there, value-flag}
use Rattle.ess_refine_laws.specs.MarksStay.{MarkFits, HasMarks, HaveMarks, GensHaveMarks, DomHasMarks, DomsHaveMarks}
use Rattle.ess_refine_types_laws.specs.MarksOfJudged.{JudgedTreesHaveMarks}

-- ---- nodes

-- The mark of a node that has the type o still.
fits : (b : Bool) (op : Op) (o p : Option Ty) → p ≡ o → is_some o ≡ true → b ≡ (is_truth_op op || is_bool o) → MarkFits b op p
fits b op None p e h q = cc
fits b op (Some t) p e h q = subst (λ z. MarkFits b op z) (sym e) q

-- What becomes of an application gives a truth value by its type alone.
no-truth : (us : List (Option Ty)) → is_truth_op (resolved_op application us) ≡ false
no-truth (Some (compound2 a_function a b) ∷ u ∷ []) = refl
no-truth _ = refl

-- ---- generators

comp-under : (o : Option (Names Ty)) (f : Names Ty → Option Ty) → is_some (and_then o f) ≡ true → is_some o ≡ true
comp-under None f h = h
comp-under (Some g) f h = refl

source-there : (o : Option Ty) (f : Ty → Option (Names Ty)) → is_some (and_then o f) ≡ true →
    (is_some o ≡ true) × (is_some (f (or_any o)) ≡ true)
source-there None f h = cc
source-there (Some t) f h = (refl, h)

cond-there : (o : Option Ty) (x : Option (Names Ty)) → is_some (and_then o (λ t. and_then (join t bool_ty) (λ u. x))) ≡ true → is_some x ≡ true
cond-there None x h = cc
cond-there (Some t) x h = go (join t bool_ty) h
  where
    go : (o : Option Ty) → is_some (and_then o (λ u. x)) ≡ true → is_some x ≡ true
    go None h = cc
    go (Some u) h = h

-- ---- steps

-- What is asked of the operands behind the first, which may be a field, and of the first.
tail-asked : (q : Asked) (b : Bool) (bs : List Bool) (e : Ex) (es : Exs) (s : Scope) → every_operand q (b ∷ bs) (more_exs e es) s ≡ true →
    every_operand q bs es s ≡ true
tail-asked q true bs e es s h = h
tail-asked q false bs e es s h = and-right (every q e s) (every_operand q bs es s) h

head-asked : (q : Asked) (b : Bool) (bs : List Bool) (e : Ex) (es : Exs) (s : Scope) → b ≡ false →
    every_operand q (b ∷ bs) (more_exs e es) s ≡ true → every q e s ≡ true
head-asked q true bs e es s f h = cc
head-asked q false bs e es s f h = and-left (every q e s) (every_operand q bs es s) h

-- What stands at a step is left where it is by a value, and then it is no field.
step-marks : (g : Names Ty) (t : Option Ty) (qs rs : List Step) (e : Ex) (es : Exs) → is_some (type_behind t (static e) (type_of e g)) ≡ true →
    (is_some_and t is_record ≡ false → HasMarks (resolve e g) g) → (r : Step) → step_at t (static e) ≡ r →
    HaveMarks (kept_indices qs rs es) g →
    HaveMarks (kept_indices (by_value ∷ qs) (r ∷ rs) (more_exs (resolve e g) es)) g
step-marks g t qs rs e es i k by_value r w = (k (value-flag t (static e) (type_of e g) r i), w)
step-marks g t qs rs e es i k (to_component n) r w = w
step-marks g t qs rs e es i k (to_field x) r w = w

-- Each operand of which it is asked has its marks.
abbrev EachMarks : Asked → Scope → Exs → Type 0
EachMarks q s no_exs = Unit {0}
EachMarks q s (more_exs e es) = (every q e s ≡ true → HasMarks (resolve e s.tys) s.tys) × EachMarks q s es

module _ (q : Asked) (s : Scope) where
  all-marks : (es : Exs) → EachMarks q s es → every_operand q [] es s ≡ true → HaveMarks (resolve_exs es s.tys) s.tys
  all-marks no_exs k a = tt
  all-marks (more_exs e es) k a =
      (k.0 (and-left (every q e s) (every_operand q [] es s) a), all-marks es k.1 (and-right (every q e s) (every_operand q [] es s) a))

  -- The operands that are left of steps which lead somewhere.
  steps-marks : (t : Option Ty) (qs : List Step) (es : Exs) → Leads s.tys t qs es → EachMarks q s es →
      every_operand q (field_steps t qs (statics es) (types_of es s.tys)) es s ≡ true →
      HaveMarks (kept_indices qs (steps_from t qs (statics es) (types_of es s.tys)) (resolve_exs es s.tys)) s.tys
  steps-marks t [] es i k a = all-marks es k a
  steps-marks t (by_value ∷ qs) no_exs i k a = subst (λ z. HaveMarks z s.tys) (sym (kept-none qs qs)) tt
  steps-marks t (by_value ∷ qs) (more_exs e es) i k a =
      let v : Option Ty = type_behind t (static e) (type_of e s.tys) in
      let bs : List Bool = field_steps v qs (statics es) (types_of es s.tys) in
      step-marks s.tys t qs (steps_from v qs (statics es) (types_of es s.tys)) e (resolve_exs es s.tys)
      (some-there v (λ p. path_ty p qs (statics es) (types_of es s.tys)) (value-leads s.tys t qs e es i))
      (λ n. k.0 (head-asked q (is_some_and t is_record) bs e es s n a)) (step_at t (static e)) refl
      (steps-marks v qs es (value-leads s.tys t qs e es i) k.1 (tail-asked q (is_some_and t is_record) bs e es s a))
  steps-marks t (to_component n ∷ qs) es i k a = steps-marks (part_behind t (a_number n)) qs es (component-leads s.tys t n qs es i) k a
  steps-marks t (to_field x ∷ qs) es i k a = steps-marks (part_behind t (a_name x)) qs es (field-leads s.tys t x qs es i) k a

-- ---- trees

module _ (q : Asked) (typed : (x : Ex) (z : Scope) → q.of_ex x z ≡ true → is_some (type_of x z.tys) ≡ true) where
  mutual
    judged-marks : (e : Ex) (s : Scope) → every q e s ≡ true → HasMarks (resolve e s.tys) s.tys
    judged-marks (number_ex n) s h = tt
    judged-marks (truth_ex b) s h = tt
    judged-marks (name_ex a) s h = tt
    judged-marks (node_ex b (index qs) no_exs) s h =
        absurd (never (typed (node_ex b (index qs) no_exs) s (and-left (q.of_ex (node_ex b (index qs) no_exs) s) true h)))
      where
        never : false ≡ true → ⊥
        never e = cc
    judged-marks (node_ex b (index qs) (more_exs e es)) s h =
        let i = typed (node_ex b (index qs) (more_exs e es)) s (and-left (q.of_ex (node_ex b (index qs) (more_exs e es)) s) _ h) in
        let a = and-right (q.of_ex (node_ex b (index qs) (more_exs e es)) s) _ h in (
          fits (is_bool (type_of (node_ex b (index qs) (more_exs e es)) s.tys))
              (index (steps_from (type_of e s.tys) qs (statics es) (types_of es s.tys)))
              (type_of (node_ex b (index qs) (more_exs e es)) s.tys)
              (type_of (resolve (node_ex b (index qs) (more_exs e es)) s.tys) s.tys)
              (type-resolved (node_ex b (index qs) (more_exs e es)) s.tys) i refl,
          (
            judged-marks e s (and-left (every q e s)
                (every_operand q (field_steps (type_of e s.tys) qs (statics es) (types_of es s.tys)) es s) a),
            steps-marks q s (type_of e s.tys) qs es
                (node-leads (type_of e s.tys) qs (static e) (statics es) (types_of es s.tys) i) (each-marks es s)
                (and-right (every q e s) (every_operand q (field_steps (type_of e s.tys) qs (statics es) (types_of es s.tys)) es s) a),
          ),
        )
    judged-marks (node_ex b application es) s h = (
      fits (is_bool (type_of (node_ex b application es) s.tys)) (resolved_op application (types_of es s.tys))
          (type_of (node_ex b application es) s.tys) (type_of (resolve (node_ex b application es) s.tys) s.tys)
          (type-resolved (node_ex b application es) s.tys)
          (typed (node_ex b application es) s (and-left (q.of_ex (node_ex b application es) s) (every_operand q [] es s) h))
          (ap (λ c. c || is_bool (type_of (node_ex b application es) s.tys)) (sym (no-truth (types_of es s.tys)))),
      operands-marks es s (and-right (q.of_ex (node_ex b application es) s) (every_operand q [] es s) h),
    )
    judged-marks (node_ex b op es) s h = (
      fits (is_truth_op op || is_bool (type_of (node_ex b op es) s.tys)) op (type_of (node_ex b op es) s.tys)
          (type_of (resolve (node_ex b op es) s.tys) s.tys) (type-resolved (node_ex b op es) s.tys)
          (typed (node_ex b op es) s (and-left (q.of_ex (node_ex b op es) s) (every_operand q [] es s) h)) refl,
      operands-marks es s (and-right (q.of_ex (node_ex b op es) s) (every_operand q [] es s) h),
    )
    judged-marks (matrix_ex es d) s h =
        let l = and-left (q.of_ex (matrix_ex es d) s && every_operand q [] es s) (every_dom q d s) h in (
          operands-marks es s (and-right (q.of_ex (matrix_ex es d) s) (every_operand q [] es s) l),
          dom-marks d s (and-right (q.of_ex (matrix_ex es d) s && every_operand q [] es s) (every_dom q d s) h),
        )
    judged-marks (comp_ex e gs) s h =
        let i = typed (comp_ex e gs) s (and-left (q.of_ex (comp_ex e gs) s) (every_under q gs s (every q e)) h) in
        let r = gens-marks gs s (every q e)
        (comp-under (types_under gs s.tys) (λ n. option_map (compound2 a_matrix int_ty) (type_of e n)) i)
        (and-right (q.of_ex (comp_ex e gs) s) (every_under q gs s (every q e)) h) in
        let w = judged-marks e r.1.0 r.1.2 in
        subst (λ x. HasMarks x s.tys) (sym (comp-resolved e gs s.tys)) (
          r.0,
          subst (λ n. HasMarks (resolve e (names_behind gs s.tys)) n) (sym (behind-resolved gs s.tys))
              (subst (λ n. HasMarks (resolve e n) n) r.1.1 w),
        )
    judged-marks (cell_ex b n es) s h = operands-marks es s (and-right (q.of_ex (cell_ex b n es) s) (every_operand q [] es s) h)
    judged-marks (seen_ex rep d ns es) s h =
        let l = and-left (q.of_ex (seen_ex rep d ns es) s && every_dom q d s) (every_operand q [] es s) h in (
          dom-marks d s (and-right (q.of_ex (seen_ex rep d ns es) s) (every_dom q d s) l),
          operands-marks es s (and-right (q.of_ex (seen_ex rep d ns es) s && every_dom q d s) (every_operand q [] es s) h),
        )

    operands-marks : (es : Exs) (s : Scope) → every_operand q [] es s ≡ true → HaveMarks (resolve_exs es s.tys) s.tys
    operands-marks no_exs s h = tt
    operands-marks (more_exs e es) s h = (
      judged-marks e s (and-left (every q e s) (every_operand q [] es s) h),
      operands-marks es s (and-right (every q e s) (every_operand q [] es s) h),
    )

    each-marks : (es : Exs) (s : Scope) → EachMarks q s es
    each-marks no_exs s = tt
    each-marks (more_exs e es) s = ((λ a. judged-marks e s a), each-marks es s)

    gens-marks : (gs : Gens) (s : Scope) (k : Scope → Bool) → is_some (types_under gs s.tys) ≡ true → every_under q gs s k ≡ true →
        GensHaveMarks (gens_resolved gs s.tys) s.tys × ((z : Scope) × (z.tys ≡ names_behind gs s.tys) × (k z ≡ true))
    gens-marks no_gens s k i h = (tt, (s, refl, h))
    gens-marks (over p d gs) s k i h =
        let r = gens-marks gs (with_bound false p (type_of_dom d) s) k i
        (and-right (every_dom q d s && q.of_generator d s && q.of_pattern p (type_of_dom d) s)
        (every_under q gs (with_bound false p (type_of_dom d) s) k) h) in
        let l = and-left (every_dom q d s) (q.of_generator d s)
        (and-left (every_dom q d s && q.of_generator d s) (q.of_pattern p (type_of_dom d) s)
        (and-left (every_dom q d s && q.of_generator d s && q.of_pattern p (type_of_dom d) s)
        (every_under q gs (with_bound false p (type_of_dom d) s) k) h)) in (
          (
            dom-marks d s l,
            subst (λ u. GensHaveMarks (gens_resolved gs (bind_types p (type_of_dom d) s.tys)) (bind_types p u s.tys)) (sym (dom-type d s.tys))
                r.0,
          ),
          r.1,
        )
    gens-marks (from p e gs) s k i h =
        let m = source-there (and_then (type_of e s.tys) member_ty) (λ t. types_under gs (bind_types p t s.tys)) i in
        let r = gens-marks gs (with_bound (q.draws_on_finds e s) p (source_ty e s.tys) s) k m.1
        (and-right (every q e s && q.of_pattern p (source_ty e s.tys) s)
        (every_under q gs (with_bound (q.draws_on_finds e s) p (source_ty e s.tys) s) k) h) in
        let l = and-left (every q e s && q.of_pattern p (source_ty e s.tys) s)
        (every_under q gs (with_bound (q.draws_on_finds e s) p (source_ty e s.tys) s) k) h in (
          (
            ap (λ o. is_some (and_then o member_ty)) (type-resolved e s.tys) ∙ m.0,
            judged-marks e s (and-left (every q e s) (q.of_pattern p (source_ty e s.tys) s) l),
            subst (λ u. GensHaveMarks (gens_resolved gs (bind_types p (source_ty e s.tys) s.tys)) (bind_types p u s.tys))
                (sym (source-resolved e s.tys)) r.0,
          ),
          r.1,
        )
    gens-marks (cond e gs) s k i h =
        let r = gens-marks gs s k (cond-there (type_of e s.tys) (types_under gs s.tys) i) (and-right (every q e s) (every_under q gs s k) h) in
        ((judged-marks e s (and-left (every q e s) (every_under q gs s k) h), r.0), r.1)

    dom-marks : (d : Dom) (s : Scope) → every_dom q d s ≡ true → DomHasMarks (resolve_dom d s.tys) s.tys
    dom-marks bool_dom s h = tt
    dom-marks (int_dom rs es) s h = operands-marks es s (and-right (q.of_dom (int_dom rs es) s) (every_operand q [] es s) h)
    dom-marks (name_dom a) s h = tt
    dom-marks (tuple_dom ds) s h = doms-marks ds s (and-right (q.of_dom (tuple_dom ds) s) (every_doms q ds s) h)
    dom-marks (record_dom fs ds) s h = doms-marks ds s (and-right (q.of_dom (record_dom fs ds) s) (every_doms q ds s) h)
    dom-marks (matrix_dom is d) s h =
        let l = and-left (q.of_dom (matrix_dom is d) s && every_doms q is s) (every_dom q d s) h in (
          doms-marks is s (and-right (q.of_dom (matrix_dom is d) s) (every_doms q is s) l),
          dom-marks d s (and-right (q.of_dom (matrix_dom is d) s && every_doms q is s) (every_dom q d s) h),
        )
    dom-marks (set_dom ms es d) s h =
        let l = and-left (q.of_dom (set_dom ms es d) s && every_operand q [] es s) (every_dom q d s) h in (
          operands-marks es s (and-right (q.of_dom (set_dom ms es d) s) (every_operand q [] es s) l),
          dom-marks d s (and-right (q.of_dom (set_dom ms es d) s && every_operand q [] es s) (every_dom q d s) h),
        )
    dom-marks (mset_dom ms es d) s h =
        let l = and-left (q.of_dom (mset_dom ms es d) s && every_operand q [] es s) (every_dom q d s) h in (
          operands-marks es s (and-right (q.of_dom (mset_dom ms es d) s) (every_operand q [] es s) l),
          dom-marks d s (and-right (q.of_dom (mset_dom ms es d) s && every_operand q [] es s) (every_dom q d s) h),
        )
    dom-marks (function_dom ms es d c) s h =
        let l = and-left (q.of_dom (function_dom ms es d c) s && every_operand q [] es s && every_dom q d s) (every_dom q c s) h in
        let k = and-left (q.of_dom (function_dom ms es d c) s && every_operand q [] es s) (every_dom q d s) l in (
          operands-marks es s (and-right (q.of_dom (function_dom ms es d c) s) (every_operand q [] es s) k),
          dom-marks d s (and-right (q.of_dom (function_dom ms es d c) s && every_operand q [] es s) (every_dom q d s) l),
          dom-marks c s (and-right (q.of_dom (function_dom ms es d c) s && every_operand q [] es s && every_dom q d s) (every_dom q c s) h),
        )
    dom-marks (relation_dom ms es ds) s h =
        let l = and-left (q.of_dom (relation_dom ms es ds) s && every_operand q [] es s) (every_doms q ds s) h in (
          operands-marks es s (and-right (q.of_dom (relation_dom ms es ds) s) (every_operand q [] es s) l),
          doms-marks ds s (and-right (q.of_dom (relation_dom ms es ds) s && every_operand q [] es s) (every_doms q ds s) h),
        )
    dom-marks (partition_dom ms es d) s h =
        let l = and-left (q.of_dom (partition_dom ms es d) s && every_operand q [] es s) (every_dom q d s) h in (
          operands-marks es s (and-right (q.of_dom (partition_dom ms es d) s) (every_operand q [] es s) l),
          dom-marks d s (and-right (q.of_dom (partition_dom ms es d) s && every_operand q [] es s) (every_dom q d s) h),
        )

    doms-marks : (ds : Doms) (s : Scope) → every_doms q ds s ≡ true → DomsHaveMarks (resolve_doms ds s.tys) s.tys
    doms-marks no_doms s h = tt
    doms-marks (more_doms d ds) s h =
        (dom-marks d s (and-left (every_dom q d s) (every_doms q ds s) h), doms-marks ds s (and-right (every_dom q d s) (every_doms q ds s) h))

-- The judgement of types asks for a type.
typed-part : (x : Ex) (z : Scope) → ex_fits x z && relation_has_parts x z ≡ true → is_some (type_of x z.tys) ≡ true
typed-part x z h = and-left (is_some (type_of x z.tys)) (part_fits x z) (and-left (ex_fits x z) (relation_has_parts x z) h)

pub judged-trees-have-marks : JudgedTreesHaveMarks
judged-trees-have-marks e s h = judged-marks sound_parts typed-part e s h

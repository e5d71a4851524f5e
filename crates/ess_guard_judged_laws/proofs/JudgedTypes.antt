-- What is asked of each part of a judged tree gives each part a type once it is resolved.
use Rattle.std.proofs.Common.{◌≡◌, refl, sym, ap, ◌∙◌, subst, Bool, true, false, ◌&&◌, ◌||◌, not, List, [], ◌∷◌, Option, Some, None, option_map}
use Rattle.std.specs.Prelude.{is_some}
use Rattle.std.specs.List.{list_all}
use Rattle.ess_semantics.specs.Lists.{and_then, is_some_and}
use Rattle.ess_semantics.specs.Values.{a_matrix}
use Rattle.ess_semantics.specs.Names.{Names}
use Rattle.ess_semantics.specs.Trees.{Step, by_value, to_component, to_field, index, application, is_truth_op, Ex, Exs, number_ex, truth_ex, name_ex, node_ex, matrix_ex, comp_ex, cell_ex, seen_ex, no_exs, more_exs, Gens, no_gens, over, from, cond, Dom, Doms, bool_dom, int_dom, name_dom, tuple_dom, record_dom, matrix_dom, set_dom, mset_dom, function_dom, relation_dom, partition_dom, no_doms, more_doms}
use Rattle.ess_semantics.specs.Types.{Ty, bool_ty, int_ty, compound2, is_bool, join, or_any, type_of_dom, bind_types}
use Rattle.ess_semantics.specs.OperatorTypes.{member_ty}
use Rattle.ess_semantics.specs.Typing.{a_number, a_name, static, statics, type_behind, part_behind, path_ty, type_of, types_of, types_under, source_ty}
use Rattle.ess_semantics.specs.Lettings.{is_record, field_steps}
use Rattle.ess_semantics.specs.Scopes.{Scope, with_bound, Asked, every, every_operand, every_under, every_dom, every_doms}
use Rattle.ess_semantics.specs.DomainJudgements.{are_ints, numbers_of}
use Rattle.ess_semantics.specs.Resolving.{step_at, steps_from, kept_indices, resolve, resolve_exs, resolve_dom, resolve_doms}
use Rattle.ess_semantics.specs.NamesAt.{names_behind}
use Rattle.ess_semantics.proofs.Tests.{and-left, and-right}
use Rattle.ess_types_laws.proofs.ResolvedSteps.{kept-none}
use Rattle.ess_types_laws.proofs.ResolvedTypes.{gens_resolved, comp-resolved, dom-type, type-resolved}
use Rattle.ess_types_laws.proofs.Resolved.{source-resolved, behind-resolved}
use Rattle.ess_types_laws.proofs.FixedIndices.{Leads, node-leads, value-leads, component-leads, field-leads, some-there, value-flag}
use Rattle.ess_guard_types_laws.specs.HasTypes.{agrees, HasTypes, HaveTypes, GensHaveTypes, AreNumbers, DomHasTypes, DomsHaveTypes}
use Rattle.ess_guard_judged_laws.specs.IndexedItems.{is_nothing, indexes_something}
use Rattle.ess_guard_judged_laws.proofs.NodeTypes.{fits, mark-says, something-resolved, application-indexes}

-- ---- generators

comp-under : (o : Option (Names Ty)) (f : Names Ty → Option Ty) → is_some (and_then o f) ≡ true → is_some o ≡ true
comp-under None f h = cc
comp-under (Some g) f h = refl

source-there : (o : Option Ty) (f : Ty → Option (Names Ty)) → is_some (and_then o f) ≡ true →
    (is_some o ≡ true) × (is_some (f (or_any o)) ≡ true)
source-there None f h = cc
source-there (Some t) f h = (refl, h)

-- A condition agrees with bool.
cond-there : (o : Option Ty) (x : Option (Names Ty)) → is_some (and_then o (λ t. and_then (join t bool_ty) (λ u. x))) ≡ true →
    (agrees o bool_ty ≡ true) × (is_some x ≡ true)
cond-there None x h = cc
cond-there (Some t) x h = go (join t bool_ty) h
  where
    go : (o : Option Ty) → is_some (and_then o (λ u. x)) ≡ true → (is_some o ≡ true) × (is_some x ≡ true)
    go None h = cc
    go (Some u) h = (refl, h)

-- ---- steps

-- What is asked of the operands behind the first, which may be a field, and of the first.
tail-asked : (q : Asked) (b : Bool) (bs : List Bool) (e : Ex) (es : Exs) (s : Scope) → every_operand q (b ∷ bs) (more_exs e es) s ≡ true →
    every_operand q bs es s ≡ true
tail-asked q true bs e es s h = h
tail-asked q false bs e es s h = and-right (every q e s) (every_operand q bs es s) h

head-asked : (q : Asked) (b : Bool) (bs : List Bool) (e : Ex) (es : Exs) (s : Scope) → b ≡ false →
    every_operand q (b ∷ bs) (more_exs e es) s ≡ true → every q e s ≡ true
head-asked q true bs e es s f h = cc
head-asked q false bs e es s f h = and-left (every q e s) (every_operand q bs es s) h

-- What stands at a step is left where it is by a value, and then it is no field.
step-types : (g : Names Ty) (t : Option Ty) (qs rs : List Step) (e : Ex) (es : Exs) →
    is_some (type_behind t (static e) (type_of e g)) ≡ true →
    (is_some_and t is_record ≡ false → HasTypes (resolve e g) g) → (r : Step) → step_at t (static e) ≡ r →
    HaveTypes (kept_indices qs rs es) g →
    HaveTypes (kept_indices (by_value ∷ qs) (r ∷ rs) (more_exs (resolve e g) es)) g
step-types g t qs rs e es i k by_value r w = (k (value-flag t (static e) (type_of e g) r i), w)
step-types g t qs rs e es i k (to_component n) r w = w
step-types g t qs rs e es i k (to_field x) r w = w

-- Each operand of which it is asked has a type.
abbrev EachTypes : Asked → Scope → Exs → Type 0
EachTypes q s no_exs = Unit {0}
EachTypes q s (more_exs e es) = (every q e s ≡ true → HasTypes (resolve e s.tys) s.tys) × EachTypes q s es

module _ (q : Asked) (s : Scope) where
  all-types : (es : Exs) → EachTypes q s es → every_operand q [] es s ≡ true → HaveTypes (resolve_exs es s.tys) s.tys
  all-types no_exs k a = tt
  all-types (more_exs e es) k a =
      (k.0 (and-left (every q e s) (every_operand q [] es s) a), all-types es k.1 (and-right (every q e s) (every_operand q [] es s) a))

  -- The operands that are left of steps which lead somewhere.
  steps-types : (t : Option Ty) (qs : List Step) (es : Exs) → Leads s.tys t qs es → EachTypes q s es →
      every_operand q (field_steps t qs (statics es) (types_of es s.tys)) es s ≡ true →
      HaveTypes (kept_indices qs (steps_from t qs (statics es) (types_of es s.tys)) (resolve_exs es s.tys)) s.tys
  steps-types t [] es i k a = all-types es k a
  steps-types t (by_value ∷ qs) no_exs i k a = subst (λ z. HaveTypes z s.tys) (sym (kept-none qs qs)) tt
  steps-types t (by_value ∷ qs) (more_exs e es) i k a =
      let v : Option Ty = type_behind t (static e) (type_of e s.tys) in
      let bs : List Bool = field_steps v qs (statics es) (types_of es s.tys) in
      step-types s.tys t qs (steps_from v qs (statics es) (types_of es s.tys)) e (resolve_exs es s.tys)
      (some-there v (λ p. path_ty p qs (statics es) (types_of es s.tys)) (value-leads s.tys t qs e es i))
      (λ n. k.0 (head-asked q (is_some_and t is_record) bs e es s n a)) (step_at t (static e)) refl
      (steps-types v qs es (value-leads s.tys t qs e es i) k.1 (tail-asked q (is_some_and t is_record) bs e es s a))
  steps-types t (to_component n ∷ qs) es i k a = steps-types (part_behind t (a_number n)) qs es (component-leads s.tys t n qs es i) k a
  steps-types t (to_field x ∷ qs) es i k a = steps-types (part_behind t (a_name x)) qs es (field-leads s.tys t x qs es i) k a

-- ---- trees

not-nothing : (b : Bool) → not b ≡ true → b ≡ false
not-nothing true h = cc
not-nothing false h = refl

module _ (q : Asked) (typed : (x : Ex) (z : Scope) → q.of_ex x z ≡ true → is_some (type_of x z.tys) ≡ true)
    (items : (x : Ex) (z : Scope) → q.of_ex x z ≡ true → indexes_something x z ≡ true)
    (ints : (d : Dom) (z : Scope) → q.of_dom d z ≡ true → are_ints (numbers_of d) z ≡ true) where
  mutual
    pub judged-types : (e : Ex) (s : Scope) → every q e s ≡ true → HasTypes (resolve e s.tys) s.tys
    judged-types (number_ex n) s h = tt
    judged-types (truth_ex b) s h = tt
    judged-types (name_ex a) s h = typed (name_ex a) s h
    judged-types (node_ex b (index qs) no_exs) s h =
        absurd (never (typed (node_ex b (index qs) no_exs) s (and-left (q.of_ex (node_ex b (index qs) no_exs) s) true h)))
      where
        never : false ≡ true → ⊥
        never e = cc
    judged-types (node_ex b (index qs) (more_exs e es)) s h =
        let i = typed (node_ex b (index qs) (more_exs e es)) s (and-left (q.of_ex (node_ex b (index qs) (more_exs e es)) s) _ h) in
        let a = and-right (q.of_ex (node_ex b (index qs) (more_exs e es)) s) _ h in (
          fits (is_bool (type_of (node_ex b (index qs) (more_exs e es)) s.tys)) (type_of (node_ex b (index qs) (more_exs e es)) s.tys)
              (type_of (resolve (node_ex b (index qs) (more_exs e es)) s.tys) s.tys)
              (type-resolved (node_ex b (index qs) (more_exs e es)) s.tys) i refl,
          ap not (something-resolved e s.tys (not-nothing (is_nothing e)
              (items (node_ex b (index qs) (more_exs e es)) s (and-left (q.of_ex (node_ex b (index qs) (more_exs e es)) s) _ h)))),
          (
            judged-types e s (and-left (every q e s)
                (every_operand q (field_steps (type_of e s.tys) qs (statics es) (types_of es s.tys)) es s) a),
            steps-types q s (type_of e s.tys) qs es
                (node-leads (type_of e s.tys) qs (static e) (statics es) (types_of es s.tys) i) (each-types es s)
                (and-right (every q e s) (every_operand q (field_steps (type_of e s.tys) qs (statics es) (types_of es s.tys)) es s) a),
          ),
        )
    judged-types (node_ex b application es) s h = (
      fits (is_bool (type_of (node_ex b application es) s.tys)) (type_of (node_ex b application es) s.tys)
          (type_of (resolve (node_ex b application es) s.tys) s.tys) (type-resolved (node_ex b application es) s.tys)
          (typed (node_ex b application es) s (and-left (q.of_ex (node_ex b application es) s) (every_operand q [] es s) h)) refl,
      application-indexes (types_of es s.tys) (resolve_exs es s.tys),
      operands-types es s (and-right (q.of_ex (node_ex b application es) s) (every_operand q [] es s) h),
    )
    judged-types (node_ex b op es) s h = (
      fits (is_truth_op op || is_bool (type_of (node_ex b op es) s.tys)) (type_of (node_ex b op es) s.tys)
          (type_of (resolve (node_ex b op es) s.tys) s.tys) (type-resolved (node_ex b op es) s.tys)
          (typed (node_ex b op es) s (and-left (q.of_ex (node_ex b op es) s) (every_operand q [] es s) h))
          (mark-says op (statics es) (types_of es s.tys)
          (typed (node_ex b op es) s (and-left (q.of_ex (node_ex b op es) s) (every_operand q [] es s) h))),
      refl,
      operands-types es s (and-right (q.of_ex (node_ex b op es) s) (every_operand q [] es s) h),
    )
    judged-types (matrix_ex es d) s h =
        let l = and-left (q.of_ex (matrix_ex es d) s && every_operand q [] es s) (every_dom q d s) h in (
          ap is_some (type-resolved (matrix_ex es d) s.tys)
              ∙ typed (matrix_ex es d) s (and-left (q.of_ex (matrix_ex es d) s) (every_operand q [] es s) l),
          operands-types es s (and-right (q.of_ex (matrix_ex es d) s) (every_operand q [] es s) l),
          dom-types d s (and-right (q.of_ex (matrix_ex es d) s && every_operand q [] es s) (every_dom q d s) h),
        )
    judged-types (comp_ex e gs) s h =
        let i = typed (comp_ex e gs) s (and-left (q.of_ex (comp_ex e gs) s) (every_under q gs s (every q e)) h) in
        let r = gens-types gs s (every q e)
        (comp-under (types_under gs s.tys) (λ n. option_map (compound2 a_matrix int_ty) (type_of e n)) i)
        (and-right (q.of_ex (comp_ex e gs) s) (every_under q gs s (every q e)) h) in
        let w = judged-types e r.1.0 r.1.2 in
        subst (λ x. HasTypes x s.tys) (sym (comp-resolved e gs s.tys)) (
          r.0,
          subst (λ n. HasTypes (resolve e (names_behind gs s.tys)) n) (sym (behind-resolved gs s.tys))
              (subst (λ n. HasTypes (resolve e n) n) r.1.1 w),
        )
    judged-types (cell_ex b n es) s h = operands-types es s (and-right (q.of_ex (cell_ex b n es) s) (every_operand q [] es s) h)
    judged-types (seen_ex rep d ns es) s h =
        let l = and-left (q.of_ex (seen_ex rep d ns es) s && every_dom q d s) (every_operand q [] es s) h in (
          dom-types d s (and-right (q.of_ex (seen_ex rep d ns es) s) (every_dom q d s) l),
          operands-types es s (and-right (q.of_ex (seen_ex rep d ns es) s && every_dom q d s) (every_operand q [] es s) h),
        )

    operands-types : (es : Exs) (s : Scope) → every_operand q [] es s ≡ true → HaveTypes (resolve_exs es s.tys) s.tys
    operands-types no_exs s h = tt
    operands-types (more_exs e es) s h = (
      judged-types e s (and-left (every q e s) (every_operand q [] es s) h),
      operands-types es s (and-right (every q e s) (every_operand q [] es s) h),
    )

    -- Numbers of a domain.
    numbers-types : (es : Exs) (s : Scope) → are_ints es s ≡ true → every_operand q [] es s ≡ true → AreNumbers (resolve_exs es s.tys) s.tys
    numbers-types no_exs s f h = tt
    numbers-types (more_exs e es) s f h =
        let a = list_all (λ t. is_some_and t (λ u. is_some (join u int_ty))) (types_of es s.tys) in (
          ap (λ o. agrees o int_ty) (type-resolved e s.tys) ∙ and-left (is_some_and (type_of e s.tys) (λ u. is_some (join u int_ty))) a f,
          judged-types e s (and-left (every q e s) (every_operand q [] es s) h),
          numbers-types es s (and-right (is_some_and (type_of e s.tys) (λ u. is_some (join u int_ty))) a f)
              (and-right (every q e s) (every_operand q [] es s) h),
        )

    each-types : (es : Exs) (s : Scope) → EachTypes q s es
    each-types no_exs s = tt
    each-types (more_exs e es) s = ((λ a. judged-types e s a), each-types es s)

    gens-types : (gs : Gens) (s : Scope) (k : Scope → Bool) → is_some (types_under gs s.tys) ≡ true → every_under q gs s k ≡ true →
        GensHaveTypes (gens_resolved gs s.tys) s.tys × ((z : Scope) × (z.tys ≡ names_behind gs s.tys) × (k z ≡ true))
    gens-types no_gens s k i h = (tt, (s, refl, h))
    gens-types (over p d gs) s k i h =
        let r = gens-types gs (with_bound false p (type_of_dom d) s) k i
        (and-right (every_dom q d s && q.of_generator d s && q.of_pattern p (type_of_dom d) s)
        (every_under q gs (with_bound false p (type_of_dom d) s) k) h) in
        let l = and-left (every_dom q d s) (q.of_generator d s)
        (and-left (every_dom q d s && q.of_generator d s) (q.of_pattern p (type_of_dom d) s)
        (and-left (every_dom q d s && q.of_generator d s && q.of_pattern p (type_of_dom d) s)
        (every_under q gs (with_bound false p (type_of_dom d) s) k) h)) in (
          (
            dom-types d s l,
            subst (λ u. GensHaveTypes (gens_resolved gs (bind_types p (type_of_dom d) s.tys)) (bind_types p u s.tys))
                (sym (dom-type d s.tys))
                r.0,
          ),
          r.1,
        )
    gens-types (from p e gs) s k i h =
        let m = source-there (and_then (type_of e s.tys) member_ty) (λ t. types_under gs (bind_types p t s.tys)) i in
        let r = gens-types gs (with_bound (q.draws_on_finds e s) p (source_ty e s.tys) s) k m.1
        (and-right (every q e s && q.of_pattern p (source_ty e s.tys) s)
        (every_under q gs (with_bound (q.draws_on_finds e s) p (source_ty e s.tys) s) k) h) in
        let l = and-left (every q e s && q.of_pattern p (source_ty e s.tys) s)
        (every_under q gs (with_bound (q.draws_on_finds e s) p (source_ty e s.tys) s) k) h in (
          (
            ap (λ o. is_some (and_then o member_ty)) (type-resolved e s.tys) ∙ m.0,
            judged-types e s (and-left (every q e s) (q.of_pattern p (source_ty e s.tys) s) l),
            subst (λ u. GensHaveTypes (gens_resolved gs (bind_types p (source_ty e s.tys) s.tys)) (bind_types p u s.tys))
                (sym (source-resolved e s.tys)) r.0,
          ),
          r.1,
        )
    gens-types (cond e gs) s k i h =
        let c = cond-there (type_of e s.tys) (types_under gs s.tys) i in
        let r = gens-types gs s k c.1 (and-right (every q e s) (every_under q gs s k) h) in (
          (
            ap (λ o. agrees o bool_ty) (type-resolved e s.tys) ∙ c.0,
            judged-types e s
                (and-left (every q e s) (every_under q gs s k) h),
            r.0,
          ),
          r.1,
        )

    pub dom-types : (d : Dom) (s : Scope) → every_dom q d s ≡ true → DomHasTypes (resolve_dom d s.tys) s.tys
    dom-types bool_dom s h = tt
    dom-types (int_dom rs es) s h =
        numbers-types es s (ints (int_dom rs es) s (and-left (q.of_dom (int_dom rs es) s) (every_operand q [] es s) h))
        (and-right (q.of_dom (int_dom rs es) s) (every_operand q [] es s) h)
    dom-types (name_dom a) s h = tt
    dom-types (tuple_dom ds) s h = doms-types ds s (and-right (q.of_dom (tuple_dom ds) s) (every_doms q ds s) h)
    dom-types (record_dom fs ds) s h = doms-types ds s (and-right (q.of_dom (record_dom fs ds) s) (every_doms q ds s) h)
    dom-types (matrix_dom is d) s h =
        let l = and-left (q.of_dom (matrix_dom is d) s && every_doms q is s) (every_dom q d s) h in (
          doms-types is s (and-right (q.of_dom (matrix_dom is d) s) (every_doms q is s) l),
          dom-types d s (and-right (q.of_dom (matrix_dom is d) s && every_doms q is s) (every_dom q d s) h),
        )
    dom-types (set_dom ms es d) s h =
        let l = and-left (q.of_dom (set_dom ms es d) s && every_operand q [] es s) (every_dom q d s) h in (
          numbers-types es s (ints (set_dom ms es d) s (and-left (q.of_dom (set_dom ms es d) s) (every_operand q [] es s) l))
              (and-right (q.of_dom (set_dom ms es d) s) (every_operand q [] es s) l),
          dom-types d s (and-right (q.of_dom (set_dom ms es d) s && every_operand q [] es s) (every_dom q d s) h),
        )
    dom-types (mset_dom ms es d) s h =
        let l = and-left (q.of_dom (mset_dom ms es d) s && every_operand q [] es s) (every_dom q d s) h in (
          numbers-types es s (ints (mset_dom ms es d) s (and-left (q.of_dom (mset_dom ms es d) s) (every_operand q [] es s) l))
              (and-right (q.of_dom (mset_dom ms es d) s) (every_operand q [] es s) l),
          dom-types d s (and-right (q.of_dom (mset_dom ms es d) s && every_operand q [] es s) (every_dom q d s) h),
        )
    dom-types (function_dom ms es d c) s h =
        let l = and-left (q.of_dom (function_dom ms es d c) s && every_operand q [] es s && every_dom q d s) (every_dom q c s) h in
        let k = and-left (q.of_dom (function_dom ms es d c) s && every_operand q [] es s) (every_dom q d s) l in (
          numbers-types es s (ints (function_dom ms es d c) s (and-left (q.of_dom (function_dom ms es d c) s) (every_operand q [] es s) k))
              (and-right (q.of_dom (function_dom ms es d c) s) (every_operand q [] es s) k),
          dom-types d s (and-right (q.of_dom (function_dom ms es d c) s && every_operand q [] es s) (every_dom q d s) l),
          dom-types c s (and-right (q.of_dom (function_dom ms es d c) s && every_operand q [] es s && every_dom q d s) (every_dom q c s) h),
        )
    dom-types (relation_dom ms es ds) s h =
        let l = and-left (q.of_dom (relation_dom ms es ds) s && every_operand q [] es s) (every_doms q ds s) h in (
          numbers-types es s (ints (relation_dom ms es ds) s (and-left (q.of_dom (relation_dom ms es ds) s) (every_operand q [] es s) l))
              (and-right (q.of_dom (relation_dom ms es ds) s) (every_operand q [] es s) l),
          doms-types ds s (and-right (q.of_dom (relation_dom ms es ds) s && every_operand q [] es s) (every_doms q ds s) h),
        )
    dom-types (partition_dom ms es d) s h =
        let l = and-left (q.of_dom (partition_dom ms es d) s && every_operand q [] es s) (every_dom q d s) h in (
          numbers-types es s (ints (partition_dom ms es d) s (and-left (q.of_dom (partition_dom ms es d) s) (every_operand q [] es s) l))
              (and-right (q.of_dom (partition_dom ms es d) s) (every_operand q [] es s) l),
          dom-types d s (and-right (q.of_dom (partition_dom ms es d) s && every_operand q [] es s) (every_dom q d s) h),
        )

    doms-types : (ds : Doms) (s : Scope) → every_doms q ds s ≡ true → DomsHaveTypes (resolve_doms ds s.tys) s.tys
    doms-types no_doms s h = tt
    doms-types (more_doms d ds) s h = (
      dom-types d s (and-left (every_dom q d s) (every_doms q ds s) h),
      doms-types ds s
          (and-right (every_dom q d s) (every_doms q ds s) h),
    )

-- What is fixed mentions no find: a judged expression that is fixed has, resolved, no free name that depends on a find. A field
-- that stands as an index is no name, and resolving makes it a step.
use Rattle.std.proofs.Common.{◌≡◌, refl, sym, ap, Bool, true, false, not, List, [], ◌∷◌, subst, ◌&&◌, ◌++◌}
use Rattle.std.specs.Prelude.{is_some, if◌then◌else◌}
use Rattle.ess_semantics.specs.Values.{Text}
use Rattle.ess_semantics.specs.Names.{is_among}
use Rattle.ess_semantics.specs.Trees.{index, Ex, Exs, more_exs, number_ex, truth_ex, name_ex, node_ex, matrix_ex, comp_ex, cell_ex, seen_ex, no_exs, Gens, no_gens, over, from, cond, Dom, Doms, bool_dom, int_dom, name_dom, tuple_dom, record_dom, matrix_dom, set_dom, mset_dom, function_dom, relation_dom, partition_dom, no_doms, more_doms}
use Rattle.ess_semantics.specs.Types.{Ty, pattern_names, type_of_dom, bind_types}
use Rattle.ess_semantics.specs.Typing.{static, statics, type_of, types_of, source_ty}
use Rattle.ess_semantics.specs.Lettings.{field_steps}
use Rattle.ess_semantics.specs.Scopes.{names_but, Scope, Asked, every, every_operand, every_under, every_dom, every_doms, is_fixed}
use Rattle.ess_semantics.specs.Scoped.{with_names}
use Rattle.ess_semantics.specs.Resolving.{resolve, resolve_exs, resolve_dom, resolve_doms}
use Rattle.ess_semantics.proofs.Tests.{and-left, and-right, not-true}
use Rattle.ess_semantics.specs.ExpressionJudgements.{ex_fits, part_fits}
use Rattle.ess_types_laws.specs.SoundParts.{relation_has_parts, sound_parts}
use Rattle.ess_semantics.specs.FreeNames.{with_bound_names, FreeNamesAre, FreeNamesAreExs, FreeNamesAreGens, FreeNamesAreDom, FreeNamesAreDoms}
use Rattle.ess_semantics.specs.NamesAt.{names_behind}
use Rattle.ess_types_laws.proofs.ResolvedTypes.{gens_resolved, comp-resolved}
use Rattle.ess_types_laws.proofs.FixedIndices.{HoldsBut, bound-holds, node-leads, fixed_parts, depending, two-of-three, EachFree, steps-free}

-- Behind generators: a scope with the names that they bind, in which both are asked of what stands under them, and what holds
-- of its names that don't depend on finds.
record Behind (gs : Gens) (s : Scope) (u : Text → Bool) (k l : Scope → Bool) : Type 0 where
  scope : Scope
  ms : List Text
  ns : List Text
  types : scope.tys ≡ names_behind gs s.tys
  first : k (depending ms scope) ≡ true
  second : l (depending ns scope) ≡ true
  holds : HoldsBut ns (with_bound_names u (gens_resolved gs s.tys))

module _ (q : Asked) (typed : (x : Ex) (z : Scope) → q.of_ex x z ≡ true → is_some (type_of x z.tys) ≡ true) where
  mutual
    -- A judged expression that is fixed has, resolved, only free names that depend on no find.
    pub fixed-free : (e : Ex) (s : Scope) (ms ns : List Text) (u : Text → Bool) → HoldsBut ns u → every q e (depending ms s) ≡ true →
        every fixed_parts e (depending ns s) ≡ true → FreeNamesAre u (resolve e s.tys)
    fixed-free (number_ex n) s ms ns u h a f = tt
    fixed-free (truth_ex b) s ms ns u h a f = tt
    fixed-free (name_ex x) s ms ns u h a f = h x (not-true (is_among ns x) f)
    fixed-free (node_ex b (index qs) no_exs) s ms ns u h a f = tt
    fixed-free (node_ex b (index qs) (more_exs e es)) s ms ns u h a f =
        let bs : List Bool = field_steps (type_of e s.tys) qs (statics es) (types_of es s.tys) in
        let o = and-right (q.of_ex (node_ex b (index qs) (more_exs e es)) (depending ms s)) (every_operand q (false ∷ bs)
        (more_exs e es) (depending ms s)) a in
        let i = typed (node_ex b (index qs) (more_exs e es)) (depending ms s)
        (and-left (q.of_ex (node_ex b (index qs) (more_exs e es)) (depending ms s)) (every_operand q (false ∷ bs) (more_exs e es)
        (depending ms s)) a) in (
          fixed-free e s ms ns u h (and-left (every q e (depending ms s)) (every_operand q bs es (depending ms s)) o)
              (and-left (every fixed_parts e (depending ns s)) (every_operand fixed_parts bs es (depending ns s)) f),
          steps-free q s ms ns u (type_of e s.tys) qs es (node-leads (type_of e s.tys) qs (static e) (statics es) (types_of es s.tys) i)
              (each-free es s ms ns u h)
              (and-right (every q e (depending ms s)) (every_operand q bs es (depending ms s)) o)
              (and-right (every fixed_parts e (depending ns s)) (every_operand fixed_parts bs es (depending ns s)) f),
        )
    fixed-free (node_ex b op es) s ms ns u h a f =
        operands-free es s ms ns u h (and-right (q.of_ex (node_ex b op es) (depending ms s)) (every_operand q [] es (depending ms s)) a) f
    fixed-free (matrix_ex es d) s ms ns u h a f =
        let l = and-left (q.of_ex (matrix_ex es d) (depending ms s) && every_operand q [] es (depending ms s))
        (every_dom q d (depending ms s)) a in (
          operands-free es s ms ns u h (and-right (q.of_ex (matrix_ex es d) (depending ms s)) (every_operand q [] es (depending ms s)) l)
              (and-left (every_operand fixed_parts [] es (depending ns s)) (every_dom fixed_parts d (depending ns s)) f),
          dom-free d s ms ns u h (and-right (q.of_ex (matrix_ex es d) (depending ms s) && every_operand q [] es (depending ms s))
              (every_dom q d (depending ms s)) a)
              (and-right (every_operand fixed_parts [] es (depending ns s)) (every_dom fixed_parts d (depending ns s)) f),
        )
    fixed-free (comp_ex e gs) s ms ns u h a f =
        let r = gens-free gs s ms ns u h (every q e) (every fixed_parts e)
        (and-right (q.of_ex (comp_ex e gs) (depending ms s)) (every_under q gs (depending ms s) (every q e)) a) f in
        let w = fixed-free e r.1.scope r.1.ms r.1.ns (with_bound_names u (gens_resolved gs s.tys)) r.1.holds r.1.first r.1.second in
        subst (FreeNamesAre u) (sym (comp-resolved e gs s.tys))
        (r.0, subst (λ n. FreeNamesAre (with_bound_names u (gens_resolved gs s.tys)) (resolve e n)) r.1.types w)
    fixed-free (cell_ex b n es) s ms ns u h a f =
        operands-free es s ms ns u h (and-right (q.of_ex (cell_ex b n es) (depending ms s)) (every_operand q [] es (depending ms s)) a) f
    fixed-free (seen_ex r d ks es) s ms ns u h a f =
        let l = and-left (q.of_ex (seen_ex r d ks es) (depending ms s) && every_dom q d (depending ms s))
        (every_operand q [] es (depending ms s)) a in (
          dom-free d s ms ns u h (and-right (q.of_ex (seen_ex r d ks es) (depending ms s)) (every_dom q d (depending ms s)) l)
              (and-left (every_dom fixed_parts d (depending ns s)) (every_operand fixed_parts [] es (depending ns s)) f),
          operands-free es s ms ns u h
              (and-right (q.of_ex (seen_ex r d ks es) (depending ms s) && every_dom q d (depending ms s))
              (every_operand q [] es (depending ms s)) a)
              (and-right (every_dom fixed_parts d (depending ns s)) (every_operand fixed_parts [] es (depending ns s)) f),
        )

    operands-free : (es : Exs) (s : Scope) (ms ns : List Text) (u : Text → Bool) → HoldsBut ns u →
        every_operand q [] es (depending ms s) ≡ true →
        every_operand fixed_parts [] es (depending ns s) ≡ true → FreeNamesAreExs u (resolve_exs es s.tys)
    operands-free no_exs s ms ns u h a f = tt
    operands-free (more_exs e es) s ms ns u h a f = (
      fixed-free e s ms ns u h (and-left (every q e (depending ms s)) (every_operand q [] es (depending ms s)) a)
          (and-left (every fixed_parts e (depending ns s)) (every_operand fixed_parts [] es (depending ns s)) f),
      operands-free es s ms ns u h (and-right (every q e (depending ms s)) (every_operand q [] es (depending ms s)) a)
          (and-right (every fixed_parts e (depending ns s)) (every_operand fixed_parts [] es (depending ns s)) f),
    )

    each-free : (es : Exs) (s : Scope) (ms ns : List Text) (u : Text → Bool) → HoldsBut ns u → EachFree q s ms ns u es
    each-free no_exs s ms ns u h = tt
    each-free (more_exs e es) s ms ns u h = (λ a f. fixed-free e s ms ns u h a f, each-free es s ms ns u h)

    gens-free : (gs : Gens) (s : Scope) (ms ns : List Text) (u : Text → Bool) → HoldsBut ns u → (k l : Scope → Bool) →
        every_under q gs (depending ms s) k ≡ true → every_under fixed_parts gs (depending ns s) l ≡ true →
        FreeNamesAreGens u (gens_resolved gs s.tys) × Behind gs s u k l
    gens-free no_gens s ms ns u h k l a f = (tt, record { scope = s; ms = ms; ns = ns; types = refl; first = a; second = f; holds = h })
    gens-free (over p d gs) s ms ns u h k l a f =
        let y : Scope = depending ms s in
        let x : Scope = depending ns s in
        let t : Ty = type_of_dom d in
        let b : Scope = record s { tys = bind_types p (type_of_dom d) s.tys } in
        let a0 = and-left (every_dom q d y && q.of_generator d y && q.of_pattern p t y)
        (every_under q gs (depending (names_but (pattern_names p) ms) b) k) a in
        let r = gens-free gs b (names_but (pattern_names p) ms) (names_but (pattern_names p) ns) (with_names u p) (bound-holds p ns u h) k l
        (and-right (every_dom q d y && q.of_generator d y && q.of_pattern p t y)
        (every_under q gs (depending (names_but (pattern_names p) ms) b) k) a)
        (and-right (every_dom fixed_parts d x && true && true) (every_under fixed_parts gs (depending (names_but (pattern_names p) ns)
        b) l) f) in (
          (
            dom-free d s ms ns u h (and-left (every_dom q d y) (q.of_generator d y) (and-left (every_dom q d y && q.of_generator d y)
                (q.of_pattern p t y) a0))
                (and-left (every_dom fixed_parts d x) true (and-left (every_dom fixed_parts d x && true) true
                (and-left (every_dom fixed_parts d x && true && true)
                (every_under fixed_parts gs (depending (names_but (pattern_names p) ns) b) l) f))),
            r.0,
          ),
          record { scope = r.1.scope; ms = r.1.ms; ns = r.1.ns; types = r.1.types; first = r.1.first; second = r.1.second; holds = r.1.holds },
        )
    gens-free (from p e gs) s ms ns u h k l a f =
        let y : Scope = depending ms s in
        let x : Scope = depending ns s in
        let t : Ty = source_ty e s.tys in
        let b : Scope = record s { tys = bind_types p (source_ty e s.tys) s.tys } in
        let c : List Text = if q.draws_on_finds e y then pattern_names p ++ ms else names_but (pattern_names p) ms in
        let a0 = and-left (every q e y && q.of_pattern p t y) (every_under q gs (depending c b) k) a in
        let r = gens-free gs b c (names_but (pattern_names p) ns) (with_names u p) (bound-holds p ns u h) k l
        (and-right (every q e y && q.of_pattern p t y) (every_under q gs (depending c b) k) a)
        (and-right (every fixed_parts e x && true) (every_under fixed_parts gs (depending (names_but (pattern_names p) ns) b) l) f) in (
          (
            fixed-free e s ms ns u h (and-left (every q e y) (q.of_pattern p t y) a0)
                (and-left (every fixed_parts e x) true
                (and-left (every fixed_parts e x && true) (every_under fixed_parts gs (depending (names_but (pattern_names p) ns) b) l) f)),
            r.0,
          ),
          record { scope = r.1.scope; ms = r.1.ms; ns = r.1.ns; types = r.1.types; first = r.1.first; second = r.1.second; holds = r.1.holds },
        )
    gens-free (cond e gs) s ms ns u h k l a f =
        let y : Scope = depending ms s in
        let x : Scope = depending ns s in
        let r = gens-free gs s ms ns u h k l (and-right (every q e y) (every_under q gs y k) a) (and-right (every fixed_parts e x)
        (every_under fixed_parts gs x l) f) in (
          (
            fixed-free e s ms ns u h (and-left (every q e y) (every_under q gs y k) a) (and-left (every fixed_parts e x)
                (every_under fixed_parts gs x l) f),
            r.0,
          ),
          record { scope = r.1.scope; ms = r.1.ms; ns = r.1.ns; types = r.1.types; first = r.1.first; second = r.1.second; holds = r.1.holds },
        )

    dom-free : (d : Dom) (s : Scope) (ms ns : List Text) (u : Text → Bool) → HoldsBut ns u → every_dom q d (depending ms s) ≡ true →
        every_dom fixed_parts d (depending ns s) ≡ true → FreeNamesAreDom u (resolve_dom d s.tys)
    dom-free bool_dom s ms ns u h a f = tt
    dom-free (int_dom rs es) s ms ns u h a f =
        operands-free es s ms ns u h (and-right (q.of_dom (int_dom rs es) (depending ms s)) (every_operand q [] es (depending ms s)) a) f
    dom-free (name_dom x) s ms ns u h a f = tt
    dom-free (tuple_dom ds) s ms ns u h a f =
        doms-free ds s ms ns u h (and-right (q.of_dom (tuple_dom ds) (depending ms s)) (every_doms q ds (depending ms s)) a) f
    dom-free (record_dom fs ds) s ms ns u h a f =
        doms-free ds s ms ns u h (and-right (q.of_dom (record_dom fs ds) (depending ms s)) (every_doms q ds (depending ms s)) a) f
    dom-free (matrix_dom is d) s ms ns u h a f =
        let y : Scope = depending ms s in
        let x : Scope = depending ns s in (
          doms-free is s ms ns u h (and-right (q.of_dom (matrix_dom is d) y) (every_doms q is y)
              (and-left (q.of_dom (matrix_dom is d) y && every_doms q is y) (every_dom q d y) a))
              (and-left (every_doms fixed_parts is x) (every_dom fixed_parts d x) f),
          dom-free d s ms ns u h (and-right (q.of_dom (matrix_dom is d) y && every_doms q is y) (every_dom q d y) a)
              (and-right (every_doms fixed_parts is x) (every_dom fixed_parts d x) f),
        )
    dom-free (set_dom ks es d) s ms ns u h a f =
        two-of-three (q.of_dom (set_dom ks es d) (depending ms s)) (every_operand q [] es (depending ms s)) (every_dom q d (depending ms s))
        (every_operand fixed_parts [] es (depending ns s)) (every_dom fixed_parts d (depending ns s))
        (FreeNamesAreExs u (resolve_exs es s.tys)) (FreeNamesAreDom u (resolve_dom d s.tys))
        (λ b g. operands-free es s ms ns u h b g) (λ b g. dom-free d s ms ns u h b g) a f
    dom-free (mset_dom ks es d) s ms ns u h a f =
        two-of-three (q.of_dom (mset_dom ks es d) (depending ms s)) (every_operand q [] es (depending ms s))
        (every_dom q d (depending ms s))
        (every_operand fixed_parts [] es (depending ns s)) (every_dom fixed_parts d (depending ns s))
        (FreeNamesAreExs u (resolve_exs es s.tys)) (FreeNamesAreDom u (resolve_dom d s.tys))
        (λ b g. operands-free es s ms ns u h b g) (λ b g. dom-free d s ms ns u h b g) a f
    dom-free (function_dom ks es d c) s ms ns u h a f =
        let y : Scope = depending ms s in
        let x : Scope = depending ns s in
        let r = two-of-three (q.of_dom (function_dom ks es d c) y) (every_operand q [] es y) (every_dom q d y)
        (every_operand fixed_parts [] es x) (every_dom fixed_parts d x)
        (FreeNamesAreExs u (resolve_exs es s.tys)) (FreeNamesAreDom u (resolve_dom d s.tys))
        (λ b g. operands-free es s ms ns u h b g) (λ b g. dom-free d s ms ns u h b g)
        (and-left (q.of_dom (function_dom ks es d c) y && every_operand q [] es y && every_dom q d y) (every_dom q c y) a)
        (and-left (every_operand fixed_parts [] es x && every_dom fixed_parts d x) (every_dom fixed_parts c x) f) in (
          r.0,
          r.1,
          dom-free c s ms ns u h (and-right (q.of_dom (function_dom ks es d c) y && every_operand q [] es y && every_dom q d y)
              (every_dom q c y) a)
              (and-right (every_operand fixed_parts [] es x && every_dom fixed_parts d x) (every_dom fixed_parts c x) f),
        )
    dom-free (relation_dom ks es ds) s ms ns u h a f =
        let y : Scope = depending ms s in
        let x : Scope = depending ns s in (
          operands-free es s ms ns u h (and-right (q.of_dom (relation_dom ks es ds) y) (every_operand q [] es y)
              (and-left (q.of_dom (relation_dom ks es ds) y && every_operand q [] es y) (every_doms q ds y) a))
              (and-left (every_operand fixed_parts [] es x) (every_doms fixed_parts ds x) f),
          doms-free ds s ms ns u h (and-right (q.of_dom (relation_dom ks es ds) y && every_operand q [] es y) (every_doms q ds y) a)
              (and-right (every_operand fixed_parts [] es x) (every_doms fixed_parts ds x) f),
        )
    dom-free (partition_dom ks es d) s ms ns u h a f =
        two-of-three (q.of_dom (partition_dom ks es d) (depending ms s)) (every_operand q [] es (depending ms s))
        (every_dom q d (depending ms s))
        (every_operand fixed_parts [] es (depending ns s)) (every_dom fixed_parts d (depending ns s))
        (FreeNamesAreExs u (resolve_exs es s.tys)) (FreeNamesAreDom u (resolve_dom d s.tys))
        (λ b g. operands-free es s ms ns u h b g) (λ b g. dom-free d s ms ns u h b g) a f

    doms-free : (ds : Doms) (s : Scope) (ms ns : List Text) (u : Text → Bool) → HoldsBut ns u → every_doms q ds (depending ms s) ≡ true →
        every_doms fixed_parts ds (depending ns s) ≡ true → FreeNamesAreDoms u (resolve_doms ds s.tys)
    doms-free no_doms s ms ns u h a f = tt
    doms-free (more_doms d ds) s ms ns u h a f = (
      dom-free d s ms ns u h (and-left (every_dom q d (depending ms s)) (every_doms q ds (depending ms s)) a)
          (and-left (every_dom fixed_parts d (depending ns s)) (every_doms fixed_parts ds (depending ns s)) f),
      doms-free ds s ms ns u h (and-right (every_dom q d (depending ms s)) (every_doms q ds (depending ms s)) a)
          (and-right (every_dom fixed_parts d (depending ns s)) (every_doms fixed_parts ds (depending ns s)) f),
    )

-- ---- the judgement of types

judged-some : (x : Ex) (z : Scope) → ex_fits x z && relation_has_parts x z ≡ true → is_some (type_of x z.tys) ≡ true
judged-some x z h = and-left (is_some (type_of x z.tys)) (part_fits x z) (and-left (ex_fits x z) (relation_has_parts x z) h)

-- A judged expression that is fixed has, resolved, no free name that depends on a find.
pub fixed-judged : (e : Ex) (s : Scope) → every sound_parts e s ≡ true → is_fixed e s ≡ true →
    FreeNamesAre (λ a. not (is_among s.depends_on_finds a)) (resolve e s.tys)
fixed-judged e s h f =
    fixed-free sound_parts judged-some e s s.depends_on_finds s.depends_on_finds (λ a. not (is_among s.depends_on_finds a))
    (λ a q. ap not q) h f

-- A judged expression whose names are known uses, once it is resolved, only names in scope and types in scope. A field that stands as an
-- index is no name, and resolving makes it a step.
use Rattle.std.proofs.Common.{◌≡◌, refl, sym, Bool, true, false, List, [], ◌∷◌, subst, ◌&&◌, ◌++◌}
use Rattle.std.specs.Prelude.{is_some, if◌then◌else◌}
use Rattle.ess_semantics.specs.Values.{Text}
use Rattle.ess_semantics.specs.Trees.{index, Ex, Exs, more_exs, number_ex, truth_ex, name_ex, node_ex, matrix_ex, comp_ex, cell_ex, seen_ex, no_exs, Gens, no_gens, over, from, cond, Dom, Doms, bool_dom, int_dom, name_dom, tuple_dom, record_dom, matrix_dom, set_dom, mset_dom, function_dom, relation_dom, partition_dom, no_doms, more_doms}
use Rattle.ess_semantics.specs.Types.{Ty, pattern_names, type_of_dom, bind_types}
use Rattle.ess_semantics.specs.Typing.{static, statics, type_of, types_of, source_ty}
use Rattle.ess_semantics.specs.Lettings.{field_steps}
use Rattle.ess_semantics.specs.Scopes.{names_but, Scope, Asked, every, every_operand, every_under, every_dom, every_doms}
use Rattle.ess_semantics.specs.Scoped.{with_names}
use Rattle.ess_semantics.specs.Resolving.{resolve, resolve_exs, resolve_dom, resolve_doms}
use Rattle.ess_semantics.proofs.Tests.{and-left, and-right}
use Rattle.ess_semantics.specs.FreeNames.{with_bound_names}
use Rattle.ess_semantics.specs.NamesAt.{names_behind}
use Rattle.ess_types_laws.proofs.ResolvedTypes.{gens_resolved, comp-resolved}
use Rattle.ess_types_laws.proofs.FixedIndices.{node-leads, depending, two-of-three}
use Rattle.conjure_settled_laws.proofs.UsedNames.{UsesAre, UsesAreExs, UsesAreGens, UsesAreDom, UsesAreDoms}
use Rattle.conjure_settled_laws.proofs.KnownIndices.{known_parts, Covers, bound-covers, EachUses, steps-use}

-- Behind generators: a scope with the names that they bind, in which both are asked of what stands under them, and which covers what is
-- used.
record Behind (v : Text → Bool) (gs : Gens) (s : Scope) (u : Text → Bool) (k l : Scope → Bool) : Type 0 where
  scope : Scope
  ms : List Text
  ns : List Text
  types : scope.tys ≡ names_behind gs s.tys
  first : k (depending ms scope) ≡ true
  second : l (depending ns scope) ≡ true
  holds : Covers v scope (with_bound_names u (gens_resolved gs s.tys))

module _ (v : Text → Bool) (q : Asked) (typed : (x : Ex) (z : Scope) → q.of_ex x z ≡ true → is_some (type_of x z.tys) ≡ true) where
  mutual
    -- A judged expression whose names are known uses, resolved, only names in scope, and types in scope.
    pub known-uses : (e : Ex) (s : Scope) (ms ns : List Text) (u : Text → Bool) → Covers v s u → every q e (depending ms s) ≡ true →
        every known_parts e (depending ns s) ≡ true → UsesAre v u (resolve e s.tys)
    known-uses (number_ex n) s ms ns u h a f = tt
    known-uses (truth_ex b) s ms ns u h a f = tt
    known-uses (name_ex x) s ms ns u h a f = h.names x f
    known-uses (node_ex b (index qs) no_exs) s ms ns u h a f = tt
    known-uses (node_ex b (index qs) (more_exs e es)) s ms ns u h a f =
        let bs : List Bool = field_steps (type_of e s.tys) qs (statics es) (types_of es s.tys) in
        let o = and-right (q.of_ex (node_ex b (index qs) (more_exs e es)) (depending ms s)) (every_operand q (false ∷ bs)
        (more_exs e es) (depending ms s)) a in
        let i = typed (node_ex b (index qs) (more_exs e es)) (depending ms s)
        (and-left (q.of_ex (node_ex b (index qs) (more_exs e es)) (depending ms s)) (every_operand q (false ∷ bs) (more_exs e es)
        (depending ms s)) a) in (
          known-uses e s ms ns u h (and-left (every q e (depending ms s)) (every_operand q bs es (depending ms s)) o)
              (and-left (every known_parts e (depending ns s)) (every_operand known_parts bs es (depending ns s)) f),
          steps-use v q s ms ns u (type_of e s.tys) qs es (node-leads (type_of e s.tys) qs (static e) (statics es) (types_of es s.tys) i)
              (each-uses es s ms ns u h)
              (and-right (every q e (depending ms s)) (every_operand q bs es (depending ms s)) o)
              (and-right (every known_parts e (depending ns s)) (every_operand known_parts bs es (depending ns s)) f),
        )
    known-uses (node_ex b op es) s ms ns u h a f =
        operands-use es s ms ns u h (and-right (q.of_ex (node_ex b op es) (depending ms s)) (every_operand q [] es (depending ms s)) a) f
    known-uses (matrix_ex es d) s ms ns u h a f =
        let l = and-left (q.of_ex (matrix_ex es d) (depending ms s) && every_operand q [] es (depending ms s))
        (every_dom q d (depending ms s)) a in (
          operands-use es s ms ns u h (and-right (q.of_ex (matrix_ex es d) (depending ms s)) (every_operand q [] es (depending ms s)) l)
              (and-left (every_operand known_parts [] es (depending ns s)) (every_dom known_parts d (depending ns s)) f),
          dom-uses d s ms ns u h (and-right (q.of_ex (matrix_ex es d) (depending ms s) && every_operand q [] es (depending ms s))
              (every_dom q d (depending ms s)) a)
              (and-right (every_operand known_parts [] es (depending ns s)) (every_dom known_parts d (depending ns s)) f),
        )
    known-uses (comp_ex e gs) s ms ns u h a f =
        let r = gens-use gs s ms ns u h (every q e) (every known_parts e)
        (and-right (q.of_ex (comp_ex e gs) (depending ms s)) (every_under q gs (depending ms s) (every q e)) a) f in
        let w = known-uses e r.1.scope r.1.ms r.1.ns (with_bound_names u (gens_resolved gs s.tys)) r.1.holds r.1.first r.1.second in
        subst (UsesAre v u) (sym (comp-resolved e gs s.tys))
        (r.0, subst (λ n. UsesAre v (with_bound_names u (gens_resolved gs s.tys)) (resolve e n)) r.1.types w)
    known-uses (cell_ex b n es) s ms ns u h a f =
        operands-use es s ms ns u h (and-right (q.of_ex (cell_ex b n es) (depending ms s)) (every_operand q [] es (depending ms s)) a) f
    known-uses (seen_ex r d ks es) s ms ns u h a f =
        let l = and-left (q.of_ex (seen_ex r d ks es) (depending ms s) && every_dom q d (depending ms s))
        (every_operand q [] es (depending ms s)) a in (
          dom-uses d s ms ns u h (and-right (q.of_ex (seen_ex r d ks es) (depending ms s)) (every_dom q d (depending ms s)) l)
              (and-left (every_dom known_parts d (depending ns s)) (every_operand known_parts [] es (depending ns s)) f),
          operands-use es s ms ns u h
              (and-right (q.of_ex (seen_ex r d ks es) (depending ms s) && every_dom q d (depending ms s))
              (every_operand q [] es (depending ms s)) a)
              (and-right (every_dom known_parts d (depending ns s)) (every_operand known_parts [] es (depending ns s)) f),
        )

    operands-use : (es : Exs) (s : Scope) (ms ns : List Text) (u : Text → Bool) → Covers v s u →
        every_operand q [] es (depending ms s) ≡ true →
        every_operand known_parts [] es (depending ns s) ≡ true → UsesAreExs v u (resolve_exs es s.tys)
    operands-use no_exs s ms ns u h a f = tt
    operands-use (more_exs e es) s ms ns u h a f = (
      known-uses e s ms ns u h (and-left (every q e (depending ms s)) (every_operand q [] es (depending ms s)) a)
          (and-left (every known_parts e (depending ns s)) (every_operand known_parts [] es (depending ns s)) f),
      operands-use es s ms ns u h (and-right (every q e (depending ms s)) (every_operand q [] es (depending ms s)) a)
          (and-right (every known_parts e (depending ns s)) (every_operand known_parts [] es (depending ns s)) f),
    )

    each-uses : (es : Exs) (s : Scope) (ms ns : List Text) (u : Text → Bool) → Covers v s u → EachUses v q s ms ns u es
    each-uses no_exs s ms ns u h = tt
    each-uses (more_exs e es) s ms ns u h = (λ a f. known-uses e s ms ns u h a f, each-uses es s ms ns u h)

    gens-use : (gs : Gens) (s : Scope) (ms ns : List Text) (u : Text → Bool) → Covers v s u → (k l : Scope → Bool) →
        every_under q gs (depending ms s) k ≡ true → every_under known_parts gs (depending ns s) l ≡ true →
        UsesAreGens v u (gens_resolved gs s.tys) × Behind v gs s u k l
    gens-use no_gens s ms ns u h k l a f = (tt, record { scope = s; ms = ms; ns = ns; types = refl; first = a; second = f; holds = h })
    gens-use (over p d gs) s ms ns u h k l a f =
        let y : Scope = depending ms s in
        let x : Scope = depending ns s in
        let t : Ty = type_of_dom d in
        let b : Scope = record s { tys = bind_types p (type_of_dom d) s.tys } in
        let a0 = and-left (every_dom q d y && q.of_generator d y && q.of_pattern p t y)
        (every_under q gs (depending (names_but (pattern_names p) ms) b) k) a in
        let r = gens-use gs b (names_but (pattern_names p) ms) (names_but (pattern_names p) ns) (with_names u p)
        (bound-covers v p (type_of_dom d) s u h) k l
        (and-right (every_dom q d y && q.of_generator d y && q.of_pattern p t y)
        (every_under q gs (depending (names_but (pattern_names p) ms) b) k) a)
        (and-right (every_dom known_parts d x && true && true) (every_under known_parts gs (depending (names_but (pattern_names p) ns)
        b) l) f) in (
          (
            dom-uses d s ms ns u h (and-left (every_dom q d y) (q.of_generator d y) (and-left (every_dom q d y && q.of_generator d y)
                (q.of_pattern p t y) a0))
                (and-left (every_dom known_parts d x) true (and-left (every_dom known_parts d x && true) true
                (and-left (every_dom known_parts d x && true && true)
                (every_under known_parts gs (depending (names_but (pattern_names p) ns) b) l) f))),
            r.0,
          ),
          record {
            scope = r.1.scope;
            ms = r.1.ms;
            ns = r.1.ns;
            types = r.1.types;
            first = r.1.first;
            second = r.1.second;
            holds = r.1.holds;
          },
        )
    gens-use (from p e gs) s ms ns u h k l a f =
        let y : Scope = depending ms s in
        let x : Scope = depending ns s in
        let t : Ty = source_ty e s.tys in
        let b : Scope = record s { tys = bind_types p (source_ty e s.tys) s.tys } in
        let c : List Text = if q.draws_on_finds e y then pattern_names p ++ ms else names_but (pattern_names p) ms in
        let a0 = and-left (every q e y && q.of_pattern p t y) (every_under q gs (depending c b) k) a in
        let r = gens-use gs b c (names_but (pattern_names p) ns) (with_names u p) (bound-covers v p (source_ty e s.tys) s u h) k l
        (and-right (every q e y && q.of_pattern p t y) (every_under q gs (depending c b) k) a)
        (and-right (every known_parts e x && true) (every_under known_parts gs (depending (names_but (pattern_names p) ns) b) l) f) in (
          (
            known-uses e s ms ns u h (and-left (every q e y) (q.of_pattern p t y) a0)
                (and-left (every known_parts e x) true
                (and-left (every known_parts e x && true) (every_under known_parts gs (depending (names_but (pattern_names p) ns) b) l) f)),
            r.0,
          ),
          record {
            scope = r.1.scope;
            ms = r.1.ms;
            ns = r.1.ns;
            types = r.1.types;
            first = r.1.first;
            second = r.1.second;
            holds = r.1.holds;
          },
        )
    gens-use (cond e gs) s ms ns u h k l a f =
        let y : Scope = depending ms s in
        let x : Scope = depending ns s in
        let r = gens-use gs s ms ns u h k l (and-right (every q e y) (every_under q gs y k) a) (and-right (every known_parts e x)
        (every_under known_parts gs x l) f) in (
          (
            known-uses e s ms ns u h (and-left (every q e y) (every_under q gs y k) a) (and-left (every known_parts e x)
                (every_under known_parts gs x l) f),
            r.0,
          ),
          record {
            scope = r.1.scope;
            ms = r.1.ms;
            ns = r.1.ns;
            types = r.1.types;
            first = r.1.first;
            second = r.1.second;
            holds = r.1.holds;
          },
        )

    pub dom-uses : (d : Dom) (s : Scope) (ms ns : List Text) (u : Text → Bool) → Covers v s u → every_dom q d (depending ms s) ≡ true →
        every_dom known_parts d (depending ns s) ≡ true → UsesAreDom v u (resolve_dom d s.tys)
    dom-uses bool_dom s ms ns u h a f = tt
    dom-uses (int_dom rs es) s ms ns u h a f =
        operands-use es s ms ns u h (and-right (q.of_dom (int_dom rs es) (depending ms s)) (every_operand q [] es (depending ms s)) a) f
    dom-uses (name_dom x) s ms ns u h a f = h.types x f
    dom-uses (tuple_dom ds) s ms ns u h a f =
        doms-use ds s ms ns u h (and-right (q.of_dom (tuple_dom ds) (depending ms s)) (every_doms q ds (depending ms s)) a) f
    dom-uses (record_dom fs ds) s ms ns u h a f =
        doms-use ds s ms ns u h (and-right (q.of_dom (record_dom fs ds) (depending ms s)) (every_doms q ds (depending ms s)) a) f
    dom-uses (matrix_dom is d) s ms ns u h a f =
        let y : Scope = depending ms s in
        let x : Scope = depending ns s in (
          doms-use is s ms ns u h (and-right (q.of_dom (matrix_dom is d) y) (every_doms q is y)
              (and-left (q.of_dom (matrix_dom is d) y && every_doms q is y) (every_dom q d y) a))
              (and-left (every_doms known_parts is x) (every_dom known_parts d x) f),
          dom-uses d s ms ns u h (and-right (q.of_dom (matrix_dom is d) y && every_doms q is y) (every_dom q d y) a)
              (and-right (every_doms known_parts is x) (every_dom known_parts d x) f),
        )
    dom-uses (set_dom ks es d) s ms ns u h a f =
        two-of-three (q.of_dom (set_dom ks es d) (depending ms s)) (every_operand q [] es (depending ms s)) (every_dom q d (depending ms s))
        (every_operand known_parts [] es (depending ns s)) (every_dom known_parts d (depending ns s))
        (UsesAreExs v u (resolve_exs es s.tys)) (UsesAreDom v u (resolve_dom d s.tys))
        (λ b g. operands-use es s ms ns u h b g) (λ b g. dom-uses d s ms ns u h b g) a f
    dom-uses (mset_dom ks es d) s ms ns u h a f =
        two-of-three (q.of_dom (mset_dom ks es d) (depending ms s)) (every_operand q [] es (depending ms s))
        (every_dom q d (depending ms s))
        (every_operand known_parts [] es (depending ns s)) (every_dom known_parts d (depending ns s))
        (UsesAreExs v u (resolve_exs es s.tys)) (UsesAreDom v u (resolve_dom d s.tys))
        (λ b g. operands-use es s ms ns u h b g) (λ b g. dom-uses d s ms ns u h b g) a f
    dom-uses (function_dom ks es d c) s ms ns u h a f =
        let y : Scope = depending ms s in
        let x : Scope = depending ns s in
        let r = two-of-three (q.of_dom (function_dom ks es d c) y) (every_operand q [] es y) (every_dom q d y)
        (every_operand known_parts [] es x) (every_dom known_parts d x)
        (UsesAreExs v u (resolve_exs es s.tys)) (UsesAreDom v u (resolve_dom d s.tys))
        (λ b g. operands-use es s ms ns u h b g) (λ b g. dom-uses d s ms ns u h b g)
        (and-left (q.of_dom (function_dom ks es d c) y && every_operand q [] es y && every_dom q d y) (every_dom q c y) a)
        (and-left (every_operand known_parts [] es x && every_dom known_parts d x) (every_dom known_parts c x) f) in (
          r.0,
          r.1,
          dom-uses c s ms ns u h (and-right (q.of_dom (function_dom ks es d c) y && every_operand q [] es y && every_dom q d y)
              (every_dom q c y) a)
              (and-right (every_operand known_parts [] es x && every_dom known_parts d x) (every_dom known_parts c x) f),
        )
    dom-uses (relation_dom ks es ds) s ms ns u h a f =
        let y : Scope = depending ms s in
        let x : Scope = depending ns s in (
          operands-use es s ms ns u h (and-right (q.of_dom (relation_dom ks es ds) y) (every_operand q [] es y)
              (and-left (q.of_dom (relation_dom ks es ds) y && every_operand q [] es y) (every_doms q ds y) a))
              (and-left (every_operand known_parts [] es x) (every_doms known_parts ds x) f),
          doms-use ds s ms ns u h (and-right (q.of_dom (relation_dom ks es ds) y && every_operand q [] es y) (every_doms q ds y) a)
              (and-right (every_operand known_parts [] es x) (every_doms known_parts ds x) f),
        )
    dom-uses (partition_dom ks es d) s ms ns u h a f =
        two-of-three (q.of_dom (partition_dom ks es d) (depending ms s)) (every_operand q [] es (depending ms s))
        (every_dom q d (depending ms s))
        (every_operand known_parts [] es (depending ns s)) (every_dom known_parts d (depending ns s))
        (UsesAreExs v u (resolve_exs es s.tys)) (UsesAreDom v u (resolve_dom d s.tys))
        (λ b g. operands-use es s ms ns u h b g) (λ b g. dom-uses d s ms ns u h b g) a f

    doms-use : (ds : Doms) (s : Scope) (ms ns : List Text) (u : Text → Bool) → Covers v s u → every_doms q ds (depending ms s) ≡ true →
        every_doms known_parts ds (depending ns s) ≡ true → UsesAreDoms v u (resolve_doms ds s.tys)
    doms-use no_doms s ms ns u h a f = tt
    doms-use (more_doms d ds) s ms ns u h a f = (
      dom-uses d s ms ns u h (and-left (every_dom q d (depending ms s)) (every_doms q ds (depending ms s)) a)
          (and-left (every_dom known_parts d (depending ns s)) (every_doms known_parts ds (depending ns s)) f),
      doms-use ds s ms ns u h (and-right (every_dom q d (depending ms s)) (every_doms q ds (depending ms s)) a)
          (and-right (every_dom known_parts d (depending ns s)) (every_doms known_parts ds (depending ns s)) f),
    )

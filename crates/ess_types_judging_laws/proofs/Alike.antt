-- What is asked of parts without a look at the names that depend on finds is the same whatever these names are.
use Rattle.std.proofs.Common.{◌≡◌, refl, Bool, true, false, if◌then◌else◌, List, [], ◌∷◌, ◌++◌}
use Rattle.ess_semantics.specs.Values.{Text}
use Rattle.ess_semantics.specs.Trees.{Pat, Ex, Exs, number_ex, truth_ex, name_ex, node_ex, matrix_ex, comp_ex, cell_ex, seen_ex, no_exs, more_exs, Gens, no_gens, over, from, cond, Dom, Doms, bool_dom, int_dom, name_dom, tuple_dom, record_dom, matrix_dom, set_dom, mset_dom, function_dom, relation_dom, partition_dom, no_doms, more_doms}
use Rattle.ess_semantics.specs.Types.{Ty, type_of_dom, pattern_names, bind_types}
use Rattle.ess_semantics.specs.Typing.{source_ty}
use Rattle.ess_semantics.specs.Lettings.{field_flags}
use Rattle.ess_semantics.specs.Scopes.{Scope, Asked, names_but, every, every_operand, every_under, every_dom, every_doms}
use Rattle.ess_types_judging_laws.proofs.Truths.{and_same}

-- The scope with these names as those that depend on finds.
abbrev pub depending : List Text → Scope → Scope
depending ns s = record s { depends_on_finds = ns }

-- The names that depend on finds with those that a pattern binds.
abbrev pub drawn : Bool → Pat → List Text → List Text
drawn b p ns = if b then pattern_names p ++ ns else names_but (pattern_names p) ns

-- Both ask the same of each part, in scopes that differ in the names that depend on finds alone.
pub record Alike (q r : Asked) : Type 0 where
  pub exs : (e : Ex) (s : Scope) (ms ns : List Text) → q.of_ex e (depending ms s) ≡ r.of_ex e (depending ns s)
  pub doms : (d : Dom) (s : Scope) (ms ns : List Text) → q.of_dom d (depending ms s) ≡ r.of_dom d (depending ns s)
  pub generators : (d : Dom) (s : Scope) (ms ns : List Text) → q.of_generator d (depending ms s) ≡ r.of_generator d (depending ns s)
  pub patterns : (p : Pat) (t : Ty) (s : Scope) (ms ns : List Text) → q.of_pattern p t (depending ms s) ≡ r.of_pattern p t (depending ns s)

module _ (q r : Asked) (h : Alike q r) where
  mutual
    -- They ask the same of the parts of an expression.
    pub alike : (e : Ex) (s : Scope) (ms ns : List Text) → every q e (depending ms s) ≡ every r e (depending ns s)
    alike (number_ex n) s ms ns = h.exs (number_ex n) s ms ns
    alike (truth_ex b) s ms ns = h.exs (truth_ex b) s ms ns
    alike (name_ex a) s ms ns = h.exs (name_ex a) s ms ns
    alike (node_ex b op es) s ms ns =
        and_same _ _ _ _ (h.exs (node_ex b op es) s ms ns) (operands-alike (field_flags op es s.tys) es s ms ns)
    alike (matrix_ex es d) s ms ns =
        and_same _ _ _ _ (and_same _ _ _ _ (h.exs (matrix_ex es d) s ms ns) (operands-alike [] es s ms ns)) (dom-alike d s ms ns)
    alike (comp_ex e gs) s ms ns =
        and_same _ _ _ _ (h.exs (comp_ex e gs) s ms ns) (under-alike gs s ms ns (every q e) (every r e) (λ z xs ys. alike e z xs ys))
    alike (cell_ex b n es) s ms ns = and_same _ _ _ _ (h.exs (cell_ex b n es) s ms ns) (operands-alike [] es s ms ns)
    alike (seen_ex x d ks es) s ms ns =
        and_same _ _ _ _ (and_same _ _ _ _ (h.exs (seen_ex x d ks es) s ms ns) (dom-alike d s ms ns)) (operands-alike [] es s ms ns)

    -- The same of operands.
    pub operands-alike : (bs : List Bool) (es : Exs) (s : Scope) (ms ns : List Text) →
        every_operand q bs es (depending ms s) ≡ every_operand r bs es (depending ns s)
    operands-alike bs no_exs s ms ns = refl
    operands-alike [] (more_exs e es) s ms ns = and_same _ _ _ _ (alike e s ms ns) (operands-alike [] es s ms ns)
    operands-alike (true ∷ bs) (more_exs e es) s ms ns = operands-alike bs es s ms ns
    operands-alike (false ∷ bs) (more_exs e es) s ms ns = and_same _ _ _ _ (alike e s ms ns) (operands-alike bs es s ms ns)

    -- The same of generators.
    pub under-alike : (gs : Gens) (s : Scope) (ms ns : List Text) (k l : Scope → Bool) →
        ((z : Scope) (xs ys : List Text) → k (depending xs z) ≡ l (depending ys z)) →
        every_under q gs (depending ms s) k ≡ every_under r gs (depending ns s) l
    under-alike no_gens s ms ns k l c = c s ms ns
    under-alike (over p d gs) s ms ns k l c =
        and_same _ _ _ _
        (and_same _ _ _ _ (and_same _ _ _ _ (dom-alike d s ms ns) (h.generators d s ms ns)) (h.patterns p (type_of_dom d) s ms ns))
        (under-alike gs (record s { tys = bind_types p (type_of_dom d) s.tys }) (drawn false p ms) (drawn false p ns) k l c)
    under-alike (from p e gs) s ms ns k l c =
        and_same _ _ _ _ (and_same _ _ _ _ (alike e s ms ns) (h.patterns p (source_ty e s.tys) s ms ns))
        (under-alike gs (record s { tys = bind_types p (source_ty e s.tys) s.tys }) (drawn (q.draws_on_finds e (depending ms s)) p ms)
        (drawn (r.draws_on_finds e (depending ns s)) p ns) k l c)
    under-alike (cond e gs) s ms ns k l c = and_same _ _ _ _ (alike e s ms ns) (under-alike gs s ms ns k l c)

    -- The same of a domain.
    pub dom-alike : (d : Dom) (s : Scope) (ms ns : List Text) → every_dom q d (depending ms s) ≡ every_dom r d (depending ns s)
    dom-alike bool_dom s ms ns = h.doms bool_dom s ms ns
    dom-alike (int_dom rs es) s ms ns = and_same _ _ _ _ (h.doms (int_dom rs es) s ms ns) (operands-alike [] es s ms ns)
    dom-alike (name_dom a) s ms ns = h.doms (name_dom a) s ms ns
    dom-alike (tuple_dom ds) s ms ns = and_same _ _ _ _ (h.doms (tuple_dom ds) s ms ns) (doms-alike ds s ms ns)
    dom-alike (record_dom fs ds) s ms ns = and_same _ _ _ _ (h.doms (record_dom fs ds) s ms ns) (doms-alike ds s ms ns)
    dom-alike (matrix_dom is d) s ms ns =
        and_same _ _ _ _ (and_same _ _ _ _ (h.doms (matrix_dom is d) s ms ns) (doms-alike is s ms ns)) (dom-alike d s ms ns)
    dom-alike (set_dom ks es d) s ms ns =
        and_same _ _ _ _ (and_same _ _ _ _ (h.doms (set_dom ks es d) s ms ns) (operands-alike [] es s ms ns)) (dom-alike d s ms ns)
    dom-alike (mset_dom ks es d) s ms ns =
        and_same _ _ _ _ (and_same _ _ _ _ (h.doms (mset_dom ks es d) s ms ns) (operands-alike [] es s ms ns)) (dom-alike d s ms ns)
    dom-alike (function_dom ks es d c) s ms ns =
        and_same _ _ _ _
        (and_same _ _ _ _ (and_same _ _ _ _ (h.doms (function_dom ks es d c) s ms ns) (operands-alike [] es s ms ns)) (dom-alike d s ms ns))
        (dom-alike c s ms ns)
    dom-alike (relation_dom ks es ds) s ms ns =
        and_same _ _ _ _ (and_same _ _ _ _ (h.doms (relation_dom ks es ds) s ms ns) (operands-alike [] es s ms ns)) (doms-alike ds s ms ns)
    dom-alike (partition_dom ks es d) s ms ns =
        and_same _ _ _ _ (and_same _ _ _ _ (h.doms (partition_dom ks es d) s ms ns) (operands-alike [] es s ms ns)) (dom-alike d s ms ns)

    -- The same of several domains.
    pub doms-alike : (ds : Doms) (s : Scope) (ms ns : List Text) → every_doms q ds (depending ms s) ≡ every_doms r ds (depending ns s)
    doms-alike no_doms s ms ns = refl
    doms-alike (more_doms d ds) s ms ns = and_same _ _ _ _ (dom-alike d s ms ns) (doms-alike ds s ms ns)

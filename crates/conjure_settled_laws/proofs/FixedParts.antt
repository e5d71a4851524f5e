-- What is fixed means the same whatever the finds are: under envs that agree on the names that depend on none.
use Rattle.std.proofs.Common.{◌≡◌, refl, sym, ap, ◌∙◌, Bool, true, false, ◌&&◌, not, [], is_some}
use Rattle.std.specs.List.{list_all}
use Rattle.ess_semantics.specs.Values.{Text}
use Rattle.ess_semantics.specs.Names.{look, is_among}
use Rattle.ess_semantics.specs.Trees.{Ex, Exs, no_exs, more_exs, Dom, Doms, bool_dom, int_dom, name_dom, tuple_dom, record_dom, matrix_dom, set_dom, mset_dom, function_dom, relation_dom, partition_dom, no_doms, more_doms}
use Rattle.ess_semantics.specs.Typing.{type_of}
use Rattle.ess_semantics.specs.Scopes.{Scope, Asked, every, every_operand, every_dom, every_doms, is_fixed}
use Rattle.ess_semantics.specs.DomainJudgements.{dom_is_enumerable, is_enumerable, listed_domains, all_fixed}
use Rattle.ess_semantics.specs.Resolving.{resolve, resolve_exs, resolve_dom, resolve_doms}
use Rattle.ess_semantics.specs.FreeNames.{FreeNamesAre, FreeNamesAreExs, FreeNamesAreDom, FreeNamesAreDoms}
use Rattle.ess_semantics.specs.Meaning.{Env, meaning, domain_of}
use Rattle.ess_semantics.proofs.Tests.{and-left, and-right, not-true}
use Rattle.ess_rules_laws.proofs.Simulation.{E}
use Rattle.ess_rules_laws.proofs.Agreement.{AgreeOn}
use Rattle.ess_rules_laws.proofs.FreeNames.{meaning-free, domain-free}
use Rattle.ess_types_laws.proofs.FixedNames.{fixed-free}

-- The name depends on no find.
abbrev pub off_finds : Scope → Text → Bool
off_finds s a = not (is_among s.depends_on_finds a)

-- The two are equal but for the values of names that depend on finds.
pub record SameGivens (s : Scope) (env other : Env) : Type 0 where
  pub positions : env.positions ≡ other.positions
  pub cells : env.cells ≡ other.cells
  pub types : env.types ≡ other.types
  pub vals : (a : Text) → is_among s.depends_on_finds a ≡ false → look env.vals a ≡ look other.vals a

agree : (s : Scope) (env other : Env) → SameGivens s env other → AgreeOn (off_finds s) env.vals other.vals
agree s env other h a i = h.vals a (not-true (is_among s.depends_on_finds a) i)

-- The env with the positions, types and cells of another is that one.
at-other : {A : Type 0} (f : Env → A) (s : Scope) (env other : Env) → SameGivens s env other →
    f (E env.positions env.types env.cells other.vals) ≡ f other
at-other f s env other h =
    ap (λ b. f (E b env.types env.cells other.vals)) h.positions
    ∙ ap (λ t. f (E other.positions t env.cells other.vals)) h.types
    ∙ ap (λ c. f (E other.positions other.types c other.vals)) h.cells

module _ (q : Asked) (typed : (x : Ex) (z : Scope) → q.of_ex x z ≡ true → is_some (type_of x z.tys) ≡ true) where
  free : (e : Ex) (s : Scope) → every q e s ≡ true → is_fixed e s ≡ true → FreeNamesAre (off_finds s) (resolve e s.tys)
  free e s a f = fixed-free q typed e s s.depends_on_finds s.depends_on_finds (off_finds s) (λ a i. ap not i) a f

  -- An expression that is fixed means the same.
  pub fixed-same : (e : Ex) (s : Scope) (env other : Env) → every q e s ≡ true → is_fixed e s ≡ true → SameGivens s env other →
      meaning (resolve e s.tys) env ≡ meaning (resolve e s.tys) other
  fixed-same e s env other a f h =
      meaning-free env.positions env.types env.cells (resolve e s.tys) (off_finds s) env.vals other.vals (free e s a f)
      (agree s env other h)
      ∙ at-other (meaning (resolve e s.tys)) s env other h

  all-free : (es : Exs) (s : Scope) → every_operand q [] es s ≡ true → all_fixed es s ≡ true →
      FreeNamesAreExs (off_finds s) (resolve_exs es s.tys)
  all-free no_exs s a f = tt
  all-free (more_exs e es) s a f = (
    free e s (and-left (every q e s) (every_operand q [] es s) a) (and-left (is_fixed e s) (all_fixed es s) f),
    all-free es s (and-right (every q e s) (every_operand q [] es s) a) (and-right (is_fixed e s) (all_fixed es s) f),
  )

  -- r asks that the numbers of a domain are fixed.
  module _ (r : Asked) (fixes : (d : Dom) (z : Scope) → r.of_dom d z ≡ true → dom_is_enumerable d z ≡ true) where
    numbers : (d : Dom) (es : Exs) (s : Scope) → r.of_dom d s ≡ true →
        (dom_is_enumerable d s ≡ (list_all is_enumerable (listed_domains d) && all_fixed es s)) →
        every_operand q [] es s ≡ true → FreeNamesAreExs (off_finds s) (resolve_exs es s.tys)
    numbers d es s h i a =
        all-free es s a (and-right (list_all is_enumerable (listed_domains d)) (all_fixed es s) (sym i ∙ fixes d s h))

    -- One layer over a member's domain.
    layer-free : (x : Dom) (es : Exs) (d : Dom) (s : Scope) →
        (dom_is_enumerable x s ≡ (list_all is_enumerable (listed_domains x) && all_fixed es s)) →
        q.of_dom x s && every_operand q [] es s ≡ true → r.of_dom x s && every_operand r [] es s ≡ true →
        FreeNamesAreDom (off_finds s) (resolve_dom d s.tys) →
        FreeNamesAreExs (off_finds s) (resolve_exs es s.tys) × FreeNamesAreDom (off_finds s) (resolve_dom d s.tys)
    layer-free x es d s i a f g = (
      numbers x es s (and-left (r.of_dom x s) (every_operand r [] es s) f) i (and-right (q.of_dom x s) (every_operand q [] es s) a),
      g,
    )

    mutual
      dom-free : (d : Dom) (s : Scope) → every_dom q d s ≡ true → every_dom r d s ≡ true →
          FreeNamesAreDom (off_finds s) (resolve_dom d s.tys)
      dom-free bool_dom s a f = tt
      dom-free (int_dom rs es) s a f =
          let d : Dom = int_dom rs es in
          numbers d es s (and-left (r.of_dom d s) (every_operand r [] es s) f) refl (and-right (q.of_dom d s) (every_operand q [] es s) a)
      dom-free (name_dom x) s a f = tt
      dom-free (tuple_dom ds) s a f =
          doms-free ds s (and-right (q.of_dom (tuple_dom ds) s) (every_doms q ds s) a)
          (and-right (r.of_dom (tuple_dom ds) s) (every_doms r ds s) f)
      dom-free (record_dom fs ds) s a f =
          doms-free ds s (and-right (q.of_dom (record_dom fs ds) s) (every_doms q ds s) a)
          (and-right (r.of_dom (record_dom fs ds) s) (every_doms r ds s) f)
      dom-free (matrix_dom is d) s a f = (
        doms-free is s (and-right (q.of_dom (matrix_dom is d) s) (every_doms q is s)
            (and-left (q.of_dom (matrix_dom is d) s && every_doms q is s) (every_dom q d s) a))
            (and-right (r.of_dom (matrix_dom is d) s) (every_doms r is s)
            (and-left (r.of_dom (matrix_dom is d) s && every_doms r is s) (every_dom r d s) f)),
        dom-free d s (and-right (q.of_dom (matrix_dom is d) s && every_doms q is s) (every_dom q d s) a)
            (and-right (r.of_dom (matrix_dom is d) s && every_doms r is s) (every_dom r d s) f),
      )
      dom-free (set_dom ks es d) s a f =
          layer-free (set_dom ks es d) es d s refl (and-left _ (every_dom q d s) a) (and-left _ (every_dom r d s) f)
          (dom-free d s (and-right (q.of_dom (set_dom ks es d) s && every_operand q [] es s) (every_dom q d s) a)
          (and-right (r.of_dom (set_dom ks es d) s && every_operand r [] es s) (every_dom r d s) f))
      dom-free (mset_dom ks es d) s a f =
          layer-free (mset_dom ks es d) es d s refl (and-left _ (every_dom q d s) a) (and-left _ (every_dom r d s) f)
          (dom-free d s (and-right (q.of_dom (mset_dom ks es d) s && every_operand q [] es s) (every_dom q d s) a)
          (and-right (r.of_dom (mset_dom ks es d) s && every_operand r [] es s) (every_dom r d s) f))
      dom-free (function_dom ks es d c) s a f =
          let x : Dom = function_dom ks es d c in
          let b = and-left (q.of_dom x s && every_operand q [] es s && every_dom q d s) (every_dom q c s) a in
          let g = and-left (r.of_dom x s && every_operand r [] es s && every_dom r d s) (every_dom r c s) f in
          let l = layer-free x es d s refl (and-left (q.of_dom x s && every_operand q [] es s) (every_dom q d s) b)
          (and-left (r.of_dom x s && every_operand r [] es s) (every_dom r d s) g)
          (dom-free d s (and-right (q.of_dom x s && every_operand q [] es s) (every_dom q d s) b)
          (and-right (r.of_dom x s && every_operand r [] es s) (every_dom r d s) g)) in (
            l.0,
            l.1,
            dom-free c s (and-right (q.of_dom x s && every_operand q [] es s && every_dom q d s) (every_dom q c s) a)
                (and-right (r.of_dom x s && every_operand r [] es s && every_dom r d s) (every_dom r c s) f),
          )
      dom-free (relation_dom ks es ds) s a f =
          let x : Dom = relation_dom ks es ds in (
            numbers x es s (and-left (r.of_dom x s) (every_operand r [] es s)
                (and-left (r.of_dom x s && every_operand r [] es s) (every_doms r ds s) f)) refl
                (and-right (q.of_dom x s) (every_operand q [] es s)
                (and-left (q.of_dom x s && every_operand q [] es s) (every_doms q ds s) a)),
            doms-free ds s (and-right (q.of_dom x s && every_operand q [] es s) (every_doms q ds s) a)
                (and-right (r.of_dom x s && every_operand r [] es s) (every_doms r ds s) f),
          )
      dom-free (partition_dom ks es d) s a f =
          layer-free (partition_dom ks es d) es d s refl (and-left _ (every_dom q d s) a) (and-left _ (every_dom r d s) f)
          (dom-free d s (and-right (q.of_dom (partition_dom ks es d) s && every_operand q [] es s) (every_dom q d s) a)
          (and-right (r.of_dom (partition_dom ks es d) s && every_operand r [] es s) (every_dom r d s) f))

      doms-free : (ds : Doms) (s : Scope) → every_doms q ds s ≡ true → every_doms r ds s ≡ true →
          FreeNamesAreDoms (off_finds s) (resolve_doms ds s.tys)
      doms-free no_doms s a f = tt
      doms-free (more_doms d ds) s a f = (
        dom-free d s (and-left (every_dom q d s) (every_doms q ds s) a) (and-left (every_dom r d s) (every_doms r ds s) f),
        doms-free ds s (and-right (every_dom q d s) (every_doms q ds s) a) (and-right (every_dom r d s) (every_doms r ds s) f),
      )

    -- A domain whose numbers are fixed is the same.
    pub domain-same : (d : Dom) (s : Scope) (env other : Env) → every_dom q d s ≡ true → every_dom r d s ≡ true → SameGivens s env other →
        domain_of (resolve_dom d s.tys) env ≡ domain_of (resolve_dom d s.tys) other
    domain-same d s env other a f h =
        domain-free env.positions env.types env.cells (resolve_dom d s.tys) (off_finds s) env.vals other.vals (dom-free d s a f)
        (agree s env other h)
        ∙ at-other (domain_of (resolve_dom d s.tys)) s env other h

-- In a resolved tree of which each part meets the judgement of types, literals stand where types allow them.
use Rattle.std.proofs.Common.{◌≡◌, refl, sym, ap, ◌∙◌, subst, Bool, true, false, ◌&&◌, List, [], ◌∷◌, Option, Some, None, is_some}
use Rattle.std.specs.List.{list_all}
use Rattle.ess_semantics.specs.Lists.{is_some_and, is_none_or}
use Rattle.ess_semantics.specs.Constants.{drops_items}
use Rattle.ess_semantics.specs.Names.{Names}
use Rattle.ess_semantics.specs.Trees.{Step, by_value, to_component, to_field, index, Ex, Exs, number_ex, truth_ex, name_ex, node_ex, matrix_ex, comp_ex, cell_ex, seen_ex, no_exs, more_exs, Gens, no_gens, over, from, cond, Dom, Doms, bool_dom, int_dom, name_dom, tuple_dom, record_dom, matrix_dom, set_dom, mset_dom, function_dom, relation_dom, partition_dom, no_doms, more_doms, Stm}
use Rattle.ess_semantics.specs.Types.{Ty, is_bool, type_of_dom}
use Rattle.ess_semantics.specs.Typing.{a_number, a_name, static, statics, type_behind, part_behind, path_ty, type_of, types_of, source_ty}
use Rattle.ess_semantics.specs.Lettings.{is_record, field_steps}
use Rattle.ess_semantics.specs.NamesAt.{names_behind}
use Rattle.ess_semantics.specs.Scopes.{Scope, with_bound, every, every_operand, every_under, every_dom, every_doms}
use Rattle.ess_semantics.specs.Resolving.{step_at, steps_from, kept_indices, resolve, resolve_exs, resolve_dom, resolve_doms}
use Rattle.ess_semantics.specs.ExpressionJudgements.{ex_fits, part_fits, pattern_fits}
use Rattle.ess_semantics.specs.DomainJudgements.{dom_fits}
use Rattle.ess_semantics.specs.Judgements.{expression_of, domain_in, every_of_stm, place_fits, order_is_fit}
use Rattle.ess_semantics.proofs.Tests.{and-left, and-right}
use Rattle.ess_types_laws.proofs.ResolvedSteps.{kept-none}
use Rattle.ess_types_laws.proofs.ResolvedTypes.{gens_resolved, comp-resolved}
use Rattle.ess_types_laws.proofs.FixedIndices.{Leads, node-leads, value-leads, component-leads, field-leads, some-there, value-flag}
use Rattle.ess_guard_laws.specs.LiteralsFit.{LiteralsFit, AllLiteralsFit, GensLiteralsFit, DomLiteralsFit, DomsLiteralsFit}
use Rattle.ess_repr_structure_laws.specs.Laws.{JudgedLiteralsFit}
use Rattle.ess_repr_structure_laws.proofs.LiteralMarks.{is_folded, AllFolded, folded-operands, stands-anywhere, node-fits}
use Rattle.ess_repr_structure_laws.proofs.OrderlyJudged.{of-domain}
use Rattle.ess_repr_structure_laws.proofs.SoundTogether.{typed}

-- ---- indices

tail-asked : (b : Bool) (bs : List Bool) (e : Ex) (es : Exs) (s : Scope) → every_operand typed (b ∷ bs) (more_exs e es) s ≡ true →
    every_operand typed bs es s ≡ true
tail-asked true bs e es s h = h
tail-asked false bs e es s h = and-right (every typed e s) (every_operand typed bs es s) h

head-asked : (b : Bool) (bs : List Bool) (e : Ex) (es : Exs) (s : Scope) → b ≡ false →
    every_operand typed (b ∷ bs) (more_exs e es) s ≡ true → every typed e s ≡ true
head-asked true bs e es s f h = cc
head-asked false bs e es s f h = and-left (every typed e s) (every_operand typed bs es s) h

-- One step more: what stands at it is left where it is by a value, and then it is no field.
step-fit : (g : Names Ty) (t : Option Ty) (qs rs : List Step) (e : Ex) (es : Exs) →
    is_some (type_behind t (static e) (type_of e g)) ≡ true → (is_some_and t is_record ≡ false → LiteralsFit false (resolve e g)) →
    (r : Step) → step_at t (static e) ≡ r → AllLiteralsFit false (kept_indices qs rs es) →
    AllLiteralsFit false (kept_indices (by_value ∷ qs) (r ∷ rs) (more_exs (resolve e g) es))
step-fit g t qs rs e es i k by_value r w = (k (value-flag t (static e) (type_of e g) r i), w)
step-fit g t qs rs e es i k (to_component n) r w = w
step-fit g t qs rs e es i k (to_field x) r w = w

-- Each operand that is judged has, resolved, literals that fit.
abbrev EachFits : Scope → Exs → Type 0
EachFits s no_exs = Unit {0}
EachFits s (more_exs e es) = (every typed e s ≡ true → LiteralsFit false (resolve e s.tys)) × EachFits s es

all-fit : (s : Scope) (es : Exs) → EachFits s es → every_operand typed [] es s ≡ true → AllLiteralsFit false (resolve_exs es s.tys)
all-fit s no_exs k a = tt
all-fit s (more_exs e es) k a = (
  k.0 (and-left (every typed e s) (every_operand typed [] es s) a),
  all-fit s es k.1
      (and-right (every typed e s) (every_operand typed [] es s) a),
)

-- The operands that are left of steps which lead somewhere are so.
steps-fit : (s : Scope) (t : Option Ty) (qs : List Step) (es : Exs) → Leads s.tys t qs es → EachFits s es →
    every_operand typed (field_steps t qs (statics es) (types_of es s.tys)) es s ≡ true →
    AllLiteralsFit false (kept_indices qs (steps_from t qs (statics es) (types_of es s.tys)) (resolve_exs es s.tys))
steps-fit s t [] es i k a = all-fit s es k a
steps-fit s t (by_value ∷ qs) no_exs i k a = subst (AllLiteralsFit false) (sym (kept-none qs qs)) tt
steps-fit s t (by_value ∷ qs) (more_exs e es) i k a =
    let v : Option Ty = type_behind t (static e) (type_of e s.tys) in
    let bs : List Bool = field_steps v qs (statics es) (types_of es s.tys) in
    step-fit s.tys t qs (steps_from v qs (statics es) (types_of es s.tys)) e (resolve_exs es s.tys)
    (some-there v (λ p. path_ty p qs (statics es) (types_of es s.tys)) (value-leads s.tys t qs e es i))
    (λ n. k.0 (head-asked (is_some_and t is_record) bs e es s n a)) (step_at t (static e)) refl
    (steps-fit s v qs es (value-leads s.tys t qs e es i) k.1 (tail-asked (is_some_and t is_record) bs e es s a))
steps-fit s t (to_component n ∷ qs) es i k a = steps-fit s (part_behind t (a_number n)) qs es (component-leads s.tys t n qs es i) k a
steps-fit s t (to_field x ∷ qs) es i k a = steps-fit s (part_behind t (a_name x)) qs es (field-leads s.tys t x qs es i) k a

-- ---- trees

has-type : (e : Ex) (s : Scope) (b : Bool) → ex_fits e s && b ≡ true → is_some (type_of e s.tys) ≡ true
has-type e s b h = and-left (is_some (type_of e s.tys)) (part_fits e s) (and-left (ex_fits e s) b h)

-- Behind generators: a scope with the names that they bind, in which the same is asked of what stands under them.
record Behind (gs : Gens) (s : Scope) (k : Scope → Bool) : Type 0 where
  scope : Scope
  types : scope.tys ≡ names_behind gs s.tys
  asked : k scope ≡ true

-- Operands in a place, where the first of them all is folded, and the others are.
first-folded : (u : Option Ty) (us : List (Option Ty)) → AllFolded (u ∷ us) → is_folded u ≡ true
first-folded u us h = and-left (is_folded u) (list_all is_folded us) h

rest-folded : (u : Option Ty) (us : List (Option Ty)) → AllFolded (u ∷ us) → AllFolded us
rest-folded u us h = and-right (is_folded u) (list_all is_folded us) h

-- A layer with numbers and one inner domain.
layer-fit : (f a b : Bool) (A B : Type 0) → (a ≡ true → A) → (b ≡ true → B) → (f && a) && b ≡ true → A × B
layer-fit f a b A B g k h = (g (and-right f a (and-left (f && a) b h)), k (and-right (f && a) b h))

mutual
  -- The literals of a judged expression, resolved, stand where types allow them; inside a fold where its type is folded.
  pub literals-fit : (e : Ex) (s : Scope) (inside : Bool) → every typed e s ≡ true → (inside ≡ true → is_folded (type_of e s.tys) ≡ true) →
      LiteralsFit inside (resolve e s.tys)
  literals-fit (number_ex n) s inside h f = tt
  literals-fit (truth_ex b) s inside h f = tt
  literals-fit (name_ex a) s inside h f = tt
  literals-fit (node_ex b (index qs) no_exs) s inside h f =
      (stands-anywhere inside (is_bool (type_of (node_ex b (index qs) no_exs) s.tys)) (index qs) refl, tt)
  literals-fit (node_ex b (index qs) (more_exs e es)) s inside h f =
      let bs : List Bool = field_steps (type_of e s.tys) qs (statics es) (types_of es s.tys) in
      let o = and-right (ex_fits (node_ex b (index qs) (more_exs e es)) s) (every_operand typed (false ∷ bs) (more_exs e es) s) h in
      let i = has-type (node_ex b (index qs) (more_exs e es)) s (every_operand typed (false ∷ bs) (more_exs e es) s) h in (
        stands-anywhere inside (is_bool (type_of (node_ex b (index qs) (more_exs e es)) s.tys))
            (index (steps_from (type_of e s.tys) qs (statics es) (types_of es s.tys))) refl,
        (
          literals-fit e s false (and-left (every typed e s) (every_operand typed bs es s) o) (λ z. cc),
          steps-fit s (type_of e s.tys) qs es (node-leads (type_of e s.tys) qs (static e) (statics es) (types_of es s.tys) i)
              (each-fits es s)
              (and-right (every typed e s) (every_operand typed bs es s) o),
        ),
      )
  literals-fit (node_ex b op es) s inside h f =
      node-fits inside op (resolve_exs es s.tys) (statics es) (types_of es s.tys)
      (has-type (node_ex b op es) s (every_operand typed [] es s) h) f
      (operands-fit es s (drops_items op) (and-right (ex_fits (node_ex b op es) s) (every_operand typed [] es s) h)
      (λ d. folded-operands op (statics es) (types_of es s.tys) d (has-type (node_ex b op es) s (every_operand typed [] es s) h)))
      refl
  literals-fit (matrix_ex es d) s inside h f =
      let l = and-left (ex_fits (matrix_ex es d) s && every_operand typed [] es s) (every_dom typed d s) h in (
        operands-fit es s false (and-right (ex_fits (matrix_ex es d) s) (every_operand typed [] es s) l) (λ z. cc),
        dom-fit d s (and-right (ex_fits (matrix_ex es d) s && every_operand typed [] es s) (every_dom typed d s) h),
      )
  literals-fit (comp_ex e gs) s inside h f =
      let r = gens-fit gs s (every typed e) (and-right (ex_fits (comp_ex e gs) s) (every_under typed gs s (every typed e)) h) in
      let w = literals-fit e r.1.scope false r.1.asked (λ z. cc) in
      subst (LiteralsFit inside) (sym (comp-resolved e gs s.tys)) (subst (λ n. LiteralsFit false (resolve e n)) r.1.types w, r.0)
  literals-fit (cell_ex b n es) s inside h f =
      operands-fit es s false (and-right (ex_fits (cell_ex b n es) s) (every_operand typed [] es s) h) (λ z. cc)
  literals-fit (seen_ex r d ns es) s inside h f = tt

  operands-fit : (es : Exs) (s : Scope) (inside : Bool) → every_operand typed [] es s ≡ true →
      (inside ≡ true → AllFolded (types_of es s.tys)) → AllLiteralsFit inside (resolve_exs es s.tys)
  operands-fit no_exs s inside h f = tt
  operands-fit (more_exs e es) s inside h f = (
    literals-fit e s inside (and-left (every typed e s) (every_operand typed [] es s) h)
        (λ z. first-folded (type_of e s.tys) (types_of es s.tys) (f z)),
    operands-fit es s inside (and-right (every typed e s) (every_operand typed [] es s) h)
        (λ z. rest-folded (type_of e s.tys) (types_of es s.tys) (f z)),
  )

  each-fits : (es : Exs) (s : Scope) → EachFits s es
  each-fits no_exs s = tt
  each-fits (more_exs e es) s = (λ a. literals-fit e s false a (λ z. cc), each-fits es s)

  gens-fit : (gs : Gens) (s : Scope) (k : Scope → Bool) → every_under typed gs s k ≡ true →
      GensLiteralsFit (gens_resolved gs s.tys) × Behind gs s k
  gens-fit no_gens s k h = (tt, record { scope = s; types = refl; asked = h })
  gens-fit (over p d gs) s k h =
      let z : Scope = with_bound false p (type_of_dom d) s in
      let u : Bool = pattern_fits p (type_of_dom d) in
      let r = gens-fit gs z k (and-right ((every_dom typed d s && true) && u) (every_under typed gs z k) h) in (
        (
          dom-fit d s (and-left (every_dom typed d s) true (and-left (every_dom typed d s && true) u
              (and-left ((every_dom typed d s && true) && u) (every_under typed gs z k) h))),
          r.0,
        ),
        record { scope = r.1.scope; types = r.1.types; asked = r.1.asked },
      )
  gens-fit (from p e gs) s k h =
      let z : Scope = with_bound (typed.draws_on_finds e s) p (source_ty e s.tys) s in
      let u : Bool = pattern_fits p (source_ty e s.tys) in
      let r = gens-fit gs z k (and-right (every typed e s && u) (every_under typed gs z k) h) in (
        (
          literals-fit e s false (and-left (every typed e s) u (and-left (every typed e s && u) (every_under typed gs z k) h)) (λ z. cc),
          r.0,
        ),
        record { scope = r.1.scope; types = r.1.types; asked = r.1.asked },
      )
  gens-fit (cond e gs) s k h =
      let r = gens-fit gs s k (and-right (every typed e s) (every_under typed gs s k) h) in (
        (literals-fit e s false (and-left (every typed e s) (every_under typed gs s k) h) (λ z. cc), r.0),
        record { scope = r.1.scope; types = r.1.types; asked = r.1.asked },
      )

  pub dom-fit : (d : Dom) (s : Scope) → every_dom typed d s ≡ true → DomLiteralsFit (resolve_dom d s.tys)
  dom-fit bool_dom s h = tt
  dom-fit (int_dom rs es) s h = operands-fit es s false (and-right (dom_fits (int_dom rs es) s) (every_operand typed [] es s) h) (λ z. cc)
  dom-fit (name_dom a) s h = tt
  dom-fit (tuple_dom ds) s h = doms-fit ds s (and-right (dom_fits (tuple_dom ds) s) (every_doms typed ds s) h)
  dom-fit (record_dom fs ds) s h = doms-fit ds s (and-right (dom_fits (record_dom fs ds) s) (every_doms typed ds s) h)
  dom-fit (matrix_dom is d) s h =
      let f = dom_fits (matrix_dom is d) s in (
        doms-fit is s (and-right f (every_doms typed is s) (and-left (f && every_doms typed is s) (every_dom typed d s) h)),
        dom-fit d s (and-right (f && every_doms typed is s) (every_dom typed d s) h),
      )
  dom-fit (set_dom ms es d) s h =
      layer-fit (dom_fits (set_dom ms es d) s) (every_operand typed [] es s) (every_dom typed d s)
      (AllLiteralsFit false (resolve_exs es s.tys))
      (DomLiteralsFit (resolve_dom d s.tys)) (λ u. operands-fit es s false u (λ z. cc)) (λ u. dom-fit d s u) h
  dom-fit (mset_dom ms es d) s h =
      layer-fit (dom_fits (mset_dom ms es d) s) (every_operand typed [] es s) (every_dom typed d s)
      (AllLiteralsFit false (resolve_exs es s.tys))
      (DomLiteralsFit (resolve_dom d s.tys)) (λ u. operands-fit es s false u (λ z. cc)) (λ u. dom-fit d s u) h
  dom-fit (function_dom ms es d c) s h =
      let f = dom_fits (function_dom ms es d c) s in
      let r = layer-fit f (every_operand typed [] es s) (every_dom typed d s) (AllLiteralsFit false (resolve_exs es s.tys))
      (DomLiteralsFit (resolve_dom d s.tys)) (λ u. operands-fit es s false u (λ z. cc)) (λ u. dom-fit d s u)
      (and-left (f && every_operand typed [] es s && every_dom typed d s) (every_dom typed c s) h) in
      (r.0, r.1, dom-fit c s (and-right (f && every_operand typed [] es s && every_dom typed d s) (every_dom typed c s) h))
  dom-fit (relation_dom ms es ds) s h =
      let f = dom_fits (relation_dom ms es ds) s in (
        operands-fit es s false (and-right f (every_operand typed [] es s)
            (and-left (f && every_operand typed [] es s) (every_doms typed ds s) h)) (λ z. cc),
        doms-fit ds s (and-right (f && every_operand typed [] es s) (every_doms typed ds s) h),
      )
  dom-fit (partition_dom ms es d) s h =
      layer-fit (dom_fits (partition_dom ms es d) s) (every_operand typed [] es s) (every_dom typed d s)
      (AllLiteralsFit false (resolve_exs es s.tys))
      (DomLiteralsFit (resolve_dom d s.tys)) (λ u. operands-fit es s false u (λ z. cc)) (λ u. dom-fit d s u) h

  doms-fit : (ds : Doms) (s : Scope) → every_doms typed ds s ≡ true → DomsLiteralsFit (resolve_doms ds s.tys)
  doms-fit no_doms s h = tt
  doms-fit (more_doms d ds) s h = (
    dom-fit d s (and-left (every_dom typed d s) (every_doms typed ds s) h),
    doms-fit ds s
        (and-right (every_dom typed d s) (every_doms typed ds s) h),
  )

-- ---- statements

of-expression : (t : Stm) (s : Scope) (e : Ex) → expression_of t ≡ Some e → every_of_stm typed t s ≡ true → every typed e s ≡ true
of-expression t s e q h =
    sym (ap (λ o. is_none_or o (λ x. every typed x s)) q)
    ∙ and-left (is_none_or (expression_of t) (λ x. every typed x s)) (is_none_or (domain_in t) (λ x. every_dom typed x s)) h

-- So it is with the expression and the domain of a judged statement.
pub stated-literals : JudgedLiteralsFit
stated-literals = record {
  expressions = λ w t s e q h. literals-fit e s false (of-expression t s e q (and-left (every_of_stm typed t s) (place_fits t s)
      (and-left (every_of_stm typed t s && place_fits t s) (order_is_fit t s) h))) (λ z. cc);
  domains = λ w t s d q h. dom-fit d s (of-domain typed t s d q (and-left (every_of_stm typed t s) (place_fits t s)
      (and-left (every_of_stm typed t s && place_fits t s) (order_is_fit t s) h)));
}

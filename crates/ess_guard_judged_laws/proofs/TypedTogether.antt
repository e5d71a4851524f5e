-- What the judgement of types asks of each part, and that no part is an index of `[]`: both together.
use Rattle.std.proofs.Common.{◌≡◌, refl, Bool, true, false, ◌&&◌, List, [], ◌∷◌}
use Rattle.ess_semantics.specs.Trees.{Ex, Exs, number_ex, truth_ex, name_ex, node_ex, matrix_ex, comp_ex, cell_ex, seen_ex, no_exs, more_exs, Gens, no_gens, over, from, cond, Dom, Doms, bool_dom, int_dom, name_dom, tuple_dom, record_dom, matrix_dom, set_dom, mset_dom, function_dom, relation_dom, partition_dom, no_doms, more_doms}
use Rattle.ess_semantics.specs.Types.{type_of_dom}
use Rattle.ess_semantics.specs.Typing.{source_ty}
use Rattle.ess_semantics.specs.Lettings.{field_flags}
use Rattle.ess_semantics.specs.Scopes.{Scope, Asked, asking, with_bound, every, every_under, every_dom, every_doms, every_operand}
use Rattle.ess_semantics.specs.DomainJudgements.{dom_fits}
use Rattle.ess_semantics.proofs.Tests.{and-left, and-right, and-both}
use Rattle.ess_semantics.specs.ExpressionJudgements.{ex_fits, pattern_fits}
use Rattle.ess_guard_judged_laws.specs.IndexedItems.{indexes_something, indexing}

-- What is asked by the judgement of types.
abbrev pub typed : Asked
typed = record asking { of_ex = ex_fits; of_dom = dom_fits; of_pattern = λ p u z. pattern_fits p u }

-- Both.
abbrev pub typed_parts : Asked
typed_parts = record asking {
  of_ex = λ e s. ex_fits e s && indexes_something e s;
  of_dom = dom_fits;
  of_pattern = λ p u z. pattern_fits p u;
}

-- A layer with numbers and one inner domain.
layer : (f a b x y : Bool) → (f && a) && b ≡ true → (a ≡ true → x ≡ true) → (b ≡ true → y ≡ true) → (f && x) && y ≡ true
layer f a b x y h g k =
    and-both (f && x) y (and-both f x (and-left f a (and-left (f && a) b h)) (g (and-right f a (and-left (f && a) b h))))
    (k (and-right (f && a) b h))

mutual
  pub both-ex : (e : Ex) (s : Scope) → every typed e s ≡ true → every indexing e s ≡ true → every typed_parts e s ≡ true
  both-ex (number_ex n) s h k = and-both (ex_fits (number_ex n) s) true h k
  both-ex (truth_ex b) s h k = and-both (ex_fits (truth_ex b) s) true h k
  both-ex (name_ex a) s h k = and-both (ex_fits (name_ex a) s) true h k
  both-ex (node_ex b op es) s h k =
      let e : Ex = node_ex b op es in
      let fs : List Bool = field_flags op es s.tys in
      and-both (ex_fits e s && indexes_something e s) (every_operand typed_parts fs es s)
      (and-both (ex_fits e s) (indexes_something e s) (and-left (ex_fits e s) (every_operand typed fs es s) h)
      (and-left (indexes_something e s) (every_operand indexing fs es s) k))
      (both-operands fs es s (and-right (ex_fits e s) (every_operand typed fs es s) h)
      (and-right (indexes_something e s) (every_operand indexing fs es s) k))
  both-ex (matrix_ex es d) s h k =
      let e : Ex = matrix_ex es d in
      let h' = and-left (ex_fits e s && every_operand typed [] es s) (every_dom typed d s) h in
      let k' = and-left (true && every_operand indexing [] es s) (every_dom indexing d s) k in
      and-both ((ex_fits e s && true) && every_operand typed_parts [] es s) (every_dom typed_parts d s)
      (and-both (ex_fits e s && true) (every_operand typed_parts [] es s)
      (and-both (ex_fits e s) true (and-left (ex_fits e s) (every_operand typed [] es s) h') refl)
      (both-operands [] es s (and-right (ex_fits e s) (every_operand typed [] es s) h') k'))
      (both-dom d s (and-right (ex_fits e s && every_operand typed [] es s) (every_dom typed d s) h)
      (and-right (every_operand indexing [] es s) (every_dom indexing d s) k))
  both-ex (comp_ex e gs) s h k =
      let x : Ex = comp_ex e gs in
      and-both (ex_fits x s && true) (every_under typed_parts gs s (every typed_parts e))
      (and-both (ex_fits x s) true (and-left (ex_fits x s) (every_under typed gs s (every typed e)) h) refl)
      (both-under gs s (every typed e) (every indexing e) (every typed_parts e) (both-ex e)
      (and-right (ex_fits x s) (every_under typed gs s (every typed e)) h) k)
  both-ex (cell_ex b n es) s h k =
      let e : Ex = cell_ex b n es in
      and-both (ex_fits e s && true) (every_operand typed_parts [] es s)
      (and-both (ex_fits e s) true (and-left (ex_fits e s) (every_operand typed [] es s) h) refl)
      (both-operands [] es s (and-right (ex_fits e s) (every_operand typed [] es s) h) k)
  both-ex (seen_ex r d ns es) s h k =
      let e : Ex = seen_ex r d ns es in
      let h' = and-left (ex_fits e s && every_dom typed d s) (every_operand typed [] es s) h in
      let k' = and-left (every_dom indexing d s) (every_operand indexing [] es s) k in
      and-both ((ex_fits e s && true) && every_dom typed_parts d s) (every_operand typed_parts [] es s)
      (and-both (ex_fits e s && true) (every_dom typed_parts d s)
      (and-both (ex_fits e s) true (and-left (ex_fits e s) (every_dom typed d s) h') refl)
      (both-dom d s (and-right (ex_fits e s) (every_dom typed d s) h') k'))
      (both-operands [] es s (and-right (ex_fits e s && every_dom typed d s) (every_operand typed [] es s) h)
      (and-right (every_dom indexing d s) (every_operand indexing [] es s) k))

  both-operands : (fs : List Bool) (es : Exs) (s : Scope) → every_operand typed fs es s ≡ true → every_operand indexing fs es s ≡ true →
      every_operand typed_parts fs es s ≡ true
  both-operands fs no_exs s h k = refl
  both-operands [] (more_exs e es) s h k =
      and-both (every typed_parts e s) (every_operand typed_parts [] es s)
      (both-ex e s (and-left (every typed e s) (every_operand typed [] es s) h)
      (and-left (every indexing e s) (every_operand indexing [] es s) k))
      (both-operands [] es s (and-right (every typed e s) (every_operand typed [] es s) h)
      (and-right (every indexing e s) (every_operand indexing [] es s) k))
  both-operands (true ∷ fs) (more_exs e es) s h k = both-operands fs es s h k
  both-operands (false ∷ fs) (more_exs e es) s h k =
      and-both (every typed_parts e s) (every_operand typed_parts fs es s)
      (both-ex e s (and-left (every typed e s) (every_operand typed fs es s) h)
      (and-left (every indexing e s) (every_operand indexing fs es s) k))
      (both-operands fs es s (and-right (every typed e s) (every_operand typed fs es s) h)
      (and-right (every indexing e s) (every_operand indexing fs es s) k))

  both-under : (gs : Gens) (s : Scope) (a b c : Scope → Bool) → ((z : Scope) → a z ≡ true → b z ≡ true → c z ≡ true) → every_under typed gs
      s a ≡ true → every_under indexing gs s b ≡ true →
      every_under typed_parts gs s c ≡ true
  both-under no_gens s a b c f h k = f s h k
  both-under (over p d gs) s a b c f h k =
      let z = with_bound false p (type_of_dom d) s in
      let u = pattern_fits p (type_of_dom d) in
      let h1 = and-left ((every_dom typed d s && true) && u) (every_under typed gs z a) h in
      let k1 = and-left ((every_dom indexing d s && true) && true) (every_under indexing gs z b) k in
      and-both ((every_dom typed_parts d s && true) && u) (every_under typed_parts gs z c)
      (and-both (every_dom typed_parts d s && true) u
      (and-both (every_dom typed_parts d s) true (both-dom d s
      (and-left (every_dom typed d s) true (and-left (every_dom typed d s && true) u h1))
      (and-left (every_dom indexing d s) true (and-left (every_dom indexing d s && true) true k1))) refl)
      (and-right (every_dom typed d s && true) u h1))
      (both-under gs z a b c f (and-right ((every_dom typed d s && true) && u) (every_under typed gs z a) h)
      (and-right ((every_dom indexing d s && true) && true) (every_under indexing gs z b) k))
  both-under (from p e gs) s a b c f h k =
      let z = with_bound (typed.draws_on_finds e s) p (source_ty e s.tys) s in
      let u = pattern_fits p (source_ty e s.tys) in
      let h1 = and-left (every typed e s && u) (every_under typed gs z a) h in
      let k1 = and-left (every indexing e s && true) (every_under indexing gs z b) k in
      and-both (every typed_parts e s && u) (every_under typed_parts gs z c)
      (and-both (every typed_parts e s) u (both-ex e s (and-left (every typed e s) u h1) (and-left (every indexing e s) true k1))
      (and-right (every typed e s) u h1))
      (both-under gs z a b c f (and-right (every typed e s && u) (every_under typed gs z a) h)
      (and-right (every indexing e s && true) (every_under indexing gs z b) k))
  both-under (cond e gs) s a b c f h k =
      and-both (every typed_parts e s) (every_under typed_parts gs s c)
      (both-ex e s (and-left (every typed e s) (every_under typed gs s a) h)
      (and-left (every indexing e s) (every_under indexing gs s b) k))
      (both-under gs s a b c f (and-right (every typed e s) (every_under typed gs s a) h)
      (and-right (every indexing e s) (every_under indexing gs s b) k))

  pub both-dom : (d : Dom) (s : Scope) → every_dom typed d s ≡ true → every_dom indexing d s ≡ true → every_dom typed_parts d s ≡ true
  both-dom bool_dom s h k = h
  both-dom (int_dom rs es) s h k =
      and-both (dom_fits (int_dom rs es) s) (every_operand typed_parts [] es s)
      (and-left (dom_fits (int_dom rs es) s) (every_operand typed [] es s) h)
      (both-operands [] es s (and-right (dom_fits (int_dom rs es) s) (every_operand typed [] es s) h) k)
  both-dom (name_dom a) s h k = h
  both-dom (tuple_dom ds) s h k =
      and-both (dom_fits (tuple_dom ds) s) (every_doms typed_parts ds s) (and-left (dom_fits (tuple_dom ds) s) (every_doms typed ds s) h)
      (both-doms ds s (and-right (dom_fits (tuple_dom ds) s) (every_doms typed ds s) h) k)
  both-dom (record_dom gs ds) s h k =
      and-both (dom_fits (record_dom gs ds) s) (every_doms typed_parts ds s)
      (and-left (dom_fits (record_dom gs ds) s) (every_doms typed ds s) h)
      (both-doms ds s (and-right (dom_fits (record_dom gs ds) s) (every_doms typed ds s) h) k)
  both-dom (matrix_dom is d) s h k =
      let f = dom_fits (matrix_dom is d) s in
      let h1 = and-left (f && every_doms typed is s) (every_dom typed d s) h in
      and-both (f && every_doms typed_parts is s) (every_dom typed_parts d s)
      (and-both f (every_doms typed_parts is s) (and-left f (every_doms typed is s) h1)
      (both-doms is s (and-right f (every_doms typed is s) h1) (and-left (every_doms indexing is s) (every_dom indexing d s) k)))
      (both-dom d s (and-right (f && every_doms typed is s) (every_dom typed d s) h)
      (and-right (every_doms indexing is s) (every_dom indexing d s) k))
  both-dom (set_dom ms es d) s h k =
      layer (dom_fits (set_dom ms es d) s) (every_operand typed [] es s) (every_dom typed d s) (every_operand typed_parts [] es s)
      (every_dom typed_parts d s) h
      (λ u. both-operands [] es s u (and-left (every_operand indexing [] es s) (every_dom indexing d s) k))
      (λ u. both-dom d s u (and-right (every_operand indexing [] es s) (every_dom indexing d s) k))
  both-dom (mset_dom ms es d) s h k =
      layer (dom_fits (mset_dom ms es d) s) (every_operand typed [] es s) (every_dom typed d s) (every_operand typed_parts [] es s)
      (every_dom typed_parts d s) h
      (λ u. both-operands [] es s u (and-left (every_operand indexing [] es s) (every_dom indexing d s) k))
      (λ u. both-dom d s u (and-right (every_operand indexing [] es s) (every_dom indexing d s) k))
  both-dom (function_dom ms es d c) s h k =
      let f = dom_fits (function_dom ms es d c) s in
      let h1 = and-left (f && every_operand typed [] es s && every_dom typed d s) (every_dom typed c s) h in
      let k1 = and-left (every_operand indexing [] es s && every_dom indexing d s) (every_dom indexing c s) k in
      and-both (f && every_operand typed_parts [] es s && every_dom typed_parts d s) (every_dom typed_parts c s)
      (layer f (every_operand typed [] es s) (every_dom typed d s) (every_operand typed_parts [] es s) (every_dom typed_parts d s) h1
      (λ u. both-operands [] es s u (and-left (every_operand indexing [] es s) (every_dom indexing d s) k1))
      (λ u. both-dom d s u (and-right (every_operand indexing [] es s) (every_dom indexing d s) k1)))
      (both-dom c s (and-right (f && every_operand typed [] es s && every_dom typed d s) (every_dom typed c s) h)
      (and-right (every_operand indexing [] es s && every_dom indexing d s) (every_dom indexing c s) k))
  both-dom (relation_dom ms es ds) s h k =
      let f = dom_fits (relation_dom ms es ds) s in
      let h1 = and-left (f && every_operand typed [] es s) (every_doms typed ds s) h in
      and-both (f && every_operand typed_parts [] es s) (every_doms typed_parts ds s)
      (and-both f (every_operand typed_parts [] es s) (and-left f (every_operand typed [] es s) h1)
      (both-operands [] es s (and-right f (every_operand typed [] es s) h1)
      (and-left (every_operand indexing [] es s) (every_doms indexing ds s) k)))
      (both-doms ds s (and-right (f && every_operand typed [] es s) (every_doms typed ds s) h)
      (and-right (every_operand indexing [] es s) (every_doms indexing ds s) k))
  both-dom (partition_dom ms es d) s h k =
      layer (dom_fits (partition_dom ms es d) s) (every_operand typed [] es s) (every_dom typed d s) (every_operand typed_parts [] es s)
      (every_dom typed_parts d s) h
      (λ u. both-operands [] es s u (and-left (every_operand indexing [] es s) (every_dom indexing d s) k))
      (λ u. both-dom d s u (and-right (every_operand indexing [] es s) (every_dom indexing d s) k))

  both-doms : (ds : Doms) (s : Scope) → every_doms typed ds s ≡ true → every_doms indexing ds s ≡ true → every_doms typed_parts ds s ≡
      true
  both-doms no_doms s h k = refl
  both-doms (more_doms d ds) s h k =
      and-both (every_dom typed_parts d s) (every_doms typed_parts ds s)
      (both-dom d s (and-left (every_dom typed d s) (every_doms typed ds s) h)
      (and-left (every_dom indexing d s) (every_doms indexing ds s) k))
      (both-doms ds s (and-right (every_dom typed d s) (every_doms typed ds s) h)
      (and-right (every_dom indexing d s) (every_doms indexing ds s) k))

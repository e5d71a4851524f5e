-- Whether an expression is fixed is the same where the names that are bound over a source that depends on finds are known to
-- do so: such a source isn't fixed itself.
use Rattle.std.proofs.Common.{◌≡◌, refl, ap, ◌∙◌, Bool, true, false, ◌&&◌, not, List, [], ◌∷◌}
use Rattle.ess_semantics.specs.Trees.{Ex, Exs, number_ex, truth_ex, name_ex, node_ex, matrix_ex, comp_ex, cell_ex, seen_ex, no_exs, more_exs, Gens, no_gens, over, from, cond, Dom, Doms, bool_dom, int_dom, name_dom, tuple_dom, record_dom, matrix_dom, set_dom, mset_dom, function_dom, relation_dom, partition_dom, no_doms, more_doms}
use Rattle.ess_semantics.specs.Types.{type_of_dom}
use Rattle.ess_semantics.specs.Typing.{source_ty}
use Rattle.ess_semantics.specs.Lettings.{field_flags}
use Rattle.ess_semantics.specs.Scopes.{Scope, Asked, with_bound, every, every_operand, every_under, every_dom, every_doms, asking, depends_on_no_find}
use Rattle.ess_types_judging_laws.specs.Judged.{no_finds}
use Rattle.ess_types_judging_laws.proofs.Truths.{and_same}

-- No find is mentioned, and names that depend on a find are known.
abbrev pub no_known_finds : Asked
no_known_finds = record asking { of_ex = depends_on_no_find }

source-fixed : (a b : Bool) (f g : Bool → Bool) → a ≡ b → ((x : Bool) → f x ≡ g x) → (a && true) && f false ≡ (b && true) && g (not a)
source-fixed true b f g p c = ap (λ x. (x && true) && f false) p ∙ ap (λ x. (b && true) && x) (c false)
source-fixed false b f g p c = ap (λ x. (x && true) && g true) p

mutual
  -- An expression is fixed.
  pub fixed-known : (e : Ex) (s : Scope) → every no_finds e s ≡ every no_known_finds e s
  fixed-known (number_ex n) s = refl
  fixed-known (truth_ex b) s = refl
  fixed-known (name_ex a) s = refl
  fixed-known (node_ex b op es) s = operands-known (field_flags op es s.tys) es s
  fixed-known (matrix_ex es d) s = and_same _ _ _ _ (operands-known [] es s) (dom-known d s)
  fixed-known (comp_ex e gs) s = under-known gs s (every no_finds e) (every no_known_finds e) (λ z. fixed-known e z)
  fixed-known (cell_ex b n es) s = operands-known [] es s
  fixed-known (seen_ex x d ks es) s = and_same _ _ _ _ (dom-known d s) (operands-known [] es s)

  -- The same of operands.
  pub operands-known : (bs : List Bool) (es : Exs) (s : Scope) → every_operand no_finds bs es s ≡ every_operand no_known_finds bs es s
  operands-known bs no_exs s = refl
  operands-known [] (more_exs e es) s = and_same _ _ _ _ (fixed-known e s) (operands-known [] es s)
  operands-known (true ∷ bs) (more_exs e es) s = operands-known bs es s
  operands-known (false ∷ bs) (more_exs e es) s = and_same _ _ _ _ (fixed-known e s) (operands-known bs es s)

  -- The same of generators.
  pub under-known : (gs : Gens) (s : Scope) (k l : Scope → Bool) → ((z : Scope) → k z ≡ l z) →
      every_under no_finds gs s k ≡ every_under no_known_finds gs s l
  under-known no_gens s k l c = c s
  under-known (over p d gs) s k l c =
      and_same _ _ _ _ (and_same _ true _ true (and_same _ true _ true (dom-known d s) refl) refl)
      (under-known gs (with_bound false p (type_of_dom d) s) k l c)
  under-known (from p e gs) s k l c =
      source-fixed (every no_finds e s) (every no_known_finds e s) (λ x. every_under no_finds gs (with_bound x p (source_ty e s.tys) s) k)
      (λ x. every_under no_known_finds gs (with_bound x p (source_ty e s.tys) s) l) (fixed-known e s)
      (λ x. under-known gs (with_bound x p (source_ty e s.tys) s) k l c)
  under-known (cond e gs) s k l c = and_same _ _ _ _ (fixed-known e s) (under-known gs s k l c)

  -- The same of a domain.
  pub dom-known : (d : Dom) (s : Scope) → every_dom no_finds d s ≡ every_dom no_known_finds d s
  dom-known bool_dom s = refl
  dom-known (int_dom rs es) s = operands-known [] es s
  dom-known (name_dom a) s = refl
  dom-known (tuple_dom ds) s = doms-known ds s
  dom-known (record_dom fs ds) s = doms-known ds s
  dom-known (matrix_dom is d) s = and_same _ _ _ _ (doms-known is s) (dom-known d s)
  dom-known (set_dom ks es d) s = and_same _ _ _ _ (operands-known [] es s) (dom-known d s)
  dom-known (mset_dom ks es d) s = and_same _ _ _ _ (operands-known [] es s) (dom-known d s)
  dom-known (function_dom ks es d c) s =
      and_same _ _ _ _ (and_same _ _ _ _ (operands-known [] es s) (dom-known d s)) (dom-known c s)
  dom-known (relation_dom ks es ds) s = and_same _ _ _ _ (operands-known [] es s) (doms-known ds s)
  dom-known (partition_dom ks es d) s = and_same _ _ _ _ (operands-known [] es s) (dom-known d s)

  -- The same of several domains.
  pub doms-known : (ds : Doms) (s : Scope) → every_doms no_finds ds s ≡ every_doms no_known_finds ds s
  doms-known no_doms s = refl
  doms-known (more_doms d ds) s = and_same _ _ _ _ (dom-known d s) (doms-known ds s)

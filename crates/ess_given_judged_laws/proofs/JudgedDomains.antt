-- Numbers of a judged domain are fixed at its place.
use Rattle.std.proofs.Common.{◌≡◌, refl, sym, ap, ◌∙◌, Bool, true, ◌&&◌, not, [], is_some}
use Rattle.std.specs.List.{list_all}
use Rattle.ess_semantics.specs.Values.{Text}
use Rattle.ess_semantics.specs.Names.{is_among}
use Rattle.ess_semantics.specs.Trees.{Ex, Exs, no_exs, more_exs, Dom, Doms, bool_dom, int_dom, name_dom, tuple_dom, record_dom, matrix_dom, set_dom, mset_dom, function_dom, relation_dom, partition_dom, no_doms, more_doms}
use Rattle.ess_semantics.specs.Typing.{type_of}
use Rattle.ess_semantics.specs.Scopes.{Scope, Asked, asking, every, every_operand, every_dom, every_doms, is_fixed}
use Rattle.ess_semantics.specs.DomainJudgements.{dom_fits, dom_is_enumerable, is_finite, is_enumerable, listed_domains, all_fixed}
use Rattle.ess_semantics.specs.ExpressionJudgements.{ex_fits, part_fits, pattern_fits}
use Rattle.ess_semantics.specs.Resolving.{resolve, resolve_exs, resolve_dom, resolve_doms}
use Rattle.ess_semantics.proofs.Tests.{and-left, and-right, and-both, not-true}
use Rattle.ess_types_laws.proofs.FixedNames.{fixed-free}
use Rattle.conjure_laws.specs.PlainTrees.{Plain, PlainAll, PlainDom, PlainDoms}
use Rattle.ess_chain_names_laws.specs.NamesHave.{NamesHave, AllNamesHave, DomNamesHave, DomsNamesHave}
use Rattle.ess_given_conditions_laws.specs.InScope.{is_fixed_in, are_fixed_in, is_dom_fixed_in, are_doms_fixed_in}
use Rattle.ess_given_judged_laws.specs.JudgedGiven.{HasGivens}
use Rattle.ess_given_judged_laws.proofs.FreeFixed.{free-fixed}

-- What is asked of types, and of domains.
abbrev pub fit : Asked
fit = record asking { of_ex = ex_fits; of_dom = dom_fits; of_pattern = λ p u z. pattern_fits p u }

abbrev pub listed : Asked
listed = record asking { of_dom = dom_is_enumerable; of_generator = λ d z. is_finite d && is_enumerable d }

pub typed : (x : Ex) (z : Scope) → ex_fits x z ≡ true → is_some (type_of x z.tys) ≡ true
typed x z h = and-left (is_some (type_of x z.tys)) (part_fits x z) h

module _ (t w : Text → Bool) where
  off-finds : (s : Scope) (u : Text → Bool) → HasGivens w s u → (a : Text) → not (is_among s.depends_on_finds a) ≡ true → w a ≡ true →
      u a ≡ true
  off-finds s u h a i k = h a (not-true (is_among s.depends_on_finds a) i) k

  -- An expression that is fixed in the scope.
  pub fixed-in : (e : Ex) (s : Scope) (u : Text → Bool) → HasGivens w s u → every fit e s ≡ true → is_fixed e s ≡ true →
      NamesHave w (resolve e s.tys) → Plain (resolve e s.tys) → is_fixed_in t u (resolve e s.tys) ≡ true
  fixed-in e s u h a f n p = free-fixed t w (resolve e s.tys) (λ x. not (is_among s.depends_on_finds x)) u (off-finds s u h)
      (fixed-free fit typed e s s.depends_on_finds s.depends_on_finds (λ x. not (is_among s.depends_on_finds x)) (λ x i. ap not i) a f) n p

  all-in : (es : Exs) (s : Scope) (u : Text → Bool) → HasGivens w s u → every_operand fit [] es s ≡ true → all_fixed es s ≡ true →
      AllNamesHave w (resolve_exs es s.tys) → PlainAll (resolve_exs es s.tys) → are_fixed_in t u (resolve_exs es s.tys) ≡ true
  all-in no_exs s u h a f n p = refl
  all-in (more_exs e es) s u h a f n p = and-both (is_fixed_in t u (resolve e s.tys)) (are_fixed_in t u (resolve_exs es s.tys))
      (fixed-in e s u h (and-left (every fit e s) (every_operand fit [] es s) a) (and-left (is_fixed e s) (all_fixed es s) f) n.0 p.0)
      (all-in es s u h (and-right (every fit e s) (every_operand fit [] es s) a) (and-right (is_fixed e s) (all_fixed es s) f) n.1 p.1)

  -- The numbers of a domain that is judged.
  numbers : (d : Dom) (es : Exs) (s : Scope) (u : Text → Bool) → HasGivens w s u →
      (dom_is_enumerable d s ≡ (list_all is_enumerable (listed_domains d) && all_fixed es s)) → dom_is_enumerable d s ≡ true →
      every_operand fit [] es s ≡ true → AllNamesHave w (resolve_exs es s.tys) → PlainAll (resolve_exs es s.tys) →
      are_fixed_in t u (resolve_exs es s.tys) ≡ true
  numbers d es s u h i f a n p =
      all-in es s u h a (and-right (list_all is_enumerable (listed_domains d)) (all_fixed es s) (sym i ∙ f)) n p

  -- The numbers of one layer, from what is asked of it.
  layer : (x : Dom) (es : Exs) (s : Scope) (u : Text → Bool) → HasGivens w s u →
      (dom_is_enumerable x s ≡ (list_all is_enumerable (listed_domains x) && all_fixed es s)) →
      dom_fits x s && every_operand fit [] es s ≡ true → dom_is_enumerable x s && every_operand listed [] es s ≡ true →
      AllNamesHave w (resolve_exs es s.tys) → PlainAll (resolve_exs es s.tys) → are_fixed_in t u (resolve_exs es s.tys) ≡ true
  layer x es s u h i a f n p = numbers x es s u h i (and-left (dom_is_enumerable x s) (every_operand listed [] es s) f)
      (and-right (dom_fits x s) (every_operand fit [] es s) a) n p

  mutual
    -- A domain that is judged.
    pub dom-judged : (d : Dom) (s : Scope) (u : Text → Bool) → HasGivens w s u → every_dom fit d s ≡ true → every_dom listed d s ≡ true →
        DomNamesHave w (resolve_dom d s.tys) → PlainDom (resolve_dom d s.tys) → is_dom_fixed_in t u (resolve_dom d s.tys) ≡ true
    dom-judged bool_dom s u h a f n p = refl
    dom-judged (int_dom rs es) s u h a f n p = layer (int_dom rs es) es s u h refl a f n p
    dom-judged (name_dom x) s u h a f n p = refl
    dom-judged (tuple_dom ds) s u h a f n p = doms-judged ds s u h (and-right (dom_fits (tuple_dom ds) s) (every_doms fit ds s) a)
        (and-right (dom_is_enumerable (tuple_dom ds) s) (every_doms listed ds s) f) n p
    dom-judged (record_dom fs ds) s u h a f n p = doms-judged ds s u h (and-right (dom_fits (record_dom fs ds) s) (every_doms fit ds s) a)
        (and-right (dom_is_enumerable (record_dom fs ds) s) (every_doms listed ds s) f) n p
    dom-judged (matrix_dom is d) s u h a f n p =
        let x : Dom = matrix_dom is d in
        and-both (are_doms_fixed_in t u (resolve_doms is s.tys)) (is_dom_fixed_in t u (resolve_dom d s.tys))
        (doms-judged is s u h (and-right (dom_fits x s) (every_doms fit is s)
        (and-left (dom_fits x s && every_doms fit is s) (every_dom fit d s) a))
        (and-right (dom_is_enumerable x s) (every_doms listed is s)
        (and-left (dom_is_enumerable x s && every_doms listed is s) (every_dom listed d s) f)) n.0 p.0)
        (dom-judged d s u h (and-right (dom_fits x s && every_doms fit is s) (every_dom fit d s) a)
        (and-right (dom_is_enumerable x s && every_doms listed is s) (every_dom listed d s) f) n.1 p.1)
    dom-judged (set_dom ks es d) s u h a f n p =
        let x : Dom = set_dom ks es d in
        and-both (are_fixed_in t u (resolve_exs es s.tys)) (is_dom_fixed_in t u (resolve_dom d s.tys))
        (layer x es s u h refl (and-left (dom_fits x s && every_operand fit [] es s) (every_dom fit d s) a)
        (and-left (dom_is_enumerable x s && every_operand listed [] es s) (every_dom listed d s) f) n.0 p.0)
        (dom-judged d s u h (and-right (dom_fits x s && every_operand fit [] es s) (every_dom fit d s) a)
        (and-right (dom_is_enumerable x s && every_operand listed [] es s) (every_dom listed d s) f) n.1 p.1)
    dom-judged (mset_dom ks es d) s u h a f n p =
        let x : Dom = mset_dom ks es d in
        and-both (are_fixed_in t u (resolve_exs es s.tys)) (is_dom_fixed_in t u (resolve_dom d s.tys))
        (layer x es s u h refl (and-left (dom_fits x s && every_operand fit [] es s) (every_dom fit d s) a)
        (and-left (dom_is_enumerable x s && every_operand listed [] es s) (every_dom listed d s) f) n.0 p.0)
        (dom-judged d s u h (and-right (dom_fits x s && every_operand fit [] es s) (every_dom fit d s) a)
        (and-right (dom_is_enumerable x s && every_operand listed [] es s) (every_dom listed d s) f) n.1 p.1)
    dom-judged (function_dom ks es d c) s u h a f n p =
        let x : Dom = function_dom ks es d c in
        let b = and-left (dom_fits x s && every_operand fit [] es s && every_dom fit d s) (every_dom fit c s) a in
        let g = and-left (dom_is_enumerable x s && every_operand listed [] es s && every_dom listed d s) (every_dom listed c s) f in
        and-both (are_fixed_in t u (resolve_exs es s.tys))
        (is_dom_fixed_in t u (resolve_dom d s.tys) && is_dom_fixed_in t u (resolve_dom c s.tys))
        (layer x es s u h refl (and-left (dom_fits x s && every_operand fit [] es s) (every_dom fit d s) b)
        (and-left (dom_is_enumerable x s && every_operand listed [] es s) (every_dom listed d s) g) n.0 p.0)
        (and-both (is_dom_fixed_in t u (resolve_dom d s.tys)) (is_dom_fixed_in t u (resolve_dom c s.tys))
        (dom-judged d s u h (and-right (dom_fits x s && every_operand fit [] es s) (every_dom fit d s) b)
        (and-right (dom_is_enumerable x s && every_operand listed [] es s) (every_dom listed d s) g) n.1 p.1)
        (dom-judged c s u h (and-right (dom_fits x s && every_operand fit [] es s && every_dom fit d s) (every_dom fit c s) a)
        (and-right (dom_is_enumerable x s && every_operand listed [] es s && every_dom listed d s) (every_dom listed c s) f) n.2 p.2))
    dom-judged (relation_dom ks es ds) s u h a f n p =
        let x : Dom = relation_dom ks es ds in
        and-both (are_fixed_in t u (resolve_exs es s.tys)) (are_doms_fixed_in t u (resolve_doms ds s.tys))
        (layer x es s u h refl (and-left (dom_fits x s && every_operand fit [] es s) (every_doms fit ds s) a)
        (and-left (dom_is_enumerable x s && every_operand listed [] es s) (every_doms listed ds s) f) n.0 p.0)
        (doms-judged ds s u h (and-right (dom_fits x s && every_operand fit [] es s) (every_doms fit ds s) a)
        (and-right (dom_is_enumerable x s && every_operand listed [] es s) (every_doms listed ds s) f) n.1 p.1)
    dom-judged (partition_dom ks es d) s u h a f n p =
        let x : Dom = partition_dom ks es d in
        and-both (are_fixed_in t u (resolve_exs es s.tys)) (is_dom_fixed_in t u (resolve_dom d s.tys))
        (layer x es s u h refl (and-left (dom_fits x s && every_operand fit [] es s) (every_dom fit d s) a)
        (and-left (dom_is_enumerable x s && every_operand listed [] es s) (every_dom listed d s) f) n.0 p.0)
        (dom-judged d s u h (and-right (dom_fits x s && every_operand fit [] es s) (every_dom fit d s) a)
        (and-right (dom_is_enumerable x s && every_operand listed [] es s) (every_dom listed d s) f) n.1 p.1)

    doms-judged : (ds : Doms) (s : Scope) (u : Text → Bool) → HasGivens w s u → every_doms fit ds s ≡ true → every_doms listed ds s ≡ true →
        DomsNamesHave w (resolve_doms ds s.tys) → PlainDoms (resolve_doms ds s.tys) → are_doms_fixed_in t u (resolve_doms ds s.tys) ≡ true
    doms-judged no_doms s u h a f n p = refl
    doms-judged (more_doms d ds) s u h a f n p = and-both (is_dom_fixed_in t u (resolve_dom d s.tys))
        (are_doms_fixed_in t u (resolve_doms ds s.tys))
        (dom-judged d s u h (and-left (every_dom fit d s) (every_doms fit ds s) a)
        (and-left (every_dom listed d s) (every_doms listed ds s) f)
        n.0 p.0)
        (doms-judged ds s u h (and-right (every_dom fit d s) (every_doms fit ds s) a)
        (and-right (every_dom listed d s) (every_doms listed ds s) f)
        n.1 p.1)

-- What is shown depends on what is there for names alone.
use Rattle.std.proofs.Common.{◌≡◌, refl, sym, ap, ◌∙◌, Option, Some, None}
use Rattle.ess_semantics.specs.Lists.{or_default}
use Rattle.ess_semantics.specs.Values.{Text}
use Rattle.ess_semantics.specs.Names.{Names, look}
use Rattle.ess_semantics.specs.Trees.{Op, Ex, Exs, number_ex, truth_ex, name_ex, node_ex, matrix_ex, comp_ex, cell_ex, seen_ex, no_exs, more_exs, Gens, no_gens, over, from, cond, Dom, Doms, bool_dom, int_dom, name_dom, tuple_dom, record_dom, matrix_dom, set_dom, mset_dom, function_dom, relation_dom, partition_dom, no_doms, more_doms}
use Rattle.ess_repr_laws.specs.StructureParts.{upto}
use Rattle.conjure_model_laws.specs.Shown.{Shows, in_place, range_of_type, shown, shown_all, shown_gens, shown_dom, shown_doms}
use Rattle.ess_model_shown.specs.ShownParts.{member_name, with_last}
use Rattle.ess_model_shown.specs.Tables.{SameNames, SameShows}
use Rattle.ess_model_shown.proofs.ShownParts.{op_shown}

last-same : (us vs : Names Ex) → SameNames us vs → (o : Option Text) (es : Exs) → with_last us o es ≡ with_last vs o es
last-same us vs h None es = refl
last-same us vs h (Some a) no_exs = ap (λ o. more_exs (or_default o (name_ex a)) no_exs) (h a)
last-same us vs h (Some a) (more_exs e es) = ap (λ o. more_exs e (more_exs (or_default o (name_ex a)) no_exs)) (h a)

two : {A B C : Type 0} (f : A → B → C) {a c : A} {b d : B} → a ≡ c → b ≡ d → f a b ≡ f c d
two f {a} {c} {b} {d} p q = ap (λ x. f x b) p ∙ ap (f c) q

module _ (s t : Shows) (h : SameShows s t) where
  named : (a : Text) → in_place s.first a ≡ in_place t.first a
  named a = ap (λ o. or_default o (name_ex a)) (h.first a)

  ranged : (a : Text) → range_of_type s.sizes a ≡ range_of_type t.sizes a
  ranged a = ap (λ o. elim o [ Some e ↦ upto e | None ↦ name_dom a ]) (h.sizes a)

  mutual
    -- An expression.
    pub shown-same : (e : Ex) → shown s e ≡ shown t e
    shown-same (number_ex n) = refl
    shown-same (truth_ex b) = refl
    shown-same (name_ex a) = named a
    shown-same (node_ex b op es) =
        op_shown s b op es
        ∙ ap (λ fs. node_ex b op (with_last s.last (member_name op es) fs)) (all-same es)
        ∙ ap (λ fs. node_ex b op fs) (last-same s.last t.last h.last (member_name op es) (shown_all t es))
        ∙ sym (op_shown t b op es)
    shown-same (matrix_ex es d) = two matrix_ex (all-same es) (dom-same d)
    shown-same (comp_ex e gs) = two comp_ex (shown-same e) (gens-same gs)
    shown-same (cell_ex b n es) = ap (cell_ex b n) (all-same es)
    shown-same (seen_ex r d ns es) = refl

    all-same : (es : Exs) → shown_all s es ≡ shown_all t es
    all-same no_exs = refl
    all-same (more_exs e es) = two more_exs (shown-same e) (all-same es)

    gens-same : (gs : Gens) → shown_gens s gs ≡ shown_gens t gs
    gens-same no_gens = refl
    gens-same (over p d gs) = two (over p) (dom-same d) (gens-same gs)
    gens-same (from p e gs) = two (from p) (shown-same e) (gens-same gs)
    gens-same (cond e gs) = two cond (shown-same e) (gens-same gs)

    -- A domain.
    pub dom-same : (d : Dom) → shown_dom s d ≡ shown_dom t d
    dom-same bool_dom = refl
    dom-same (int_dom rs es) = ap (int_dom rs) (all-same es)
    dom-same (name_dom a) = ranged a
    dom-same (tuple_dom ds) = ap tuple_dom (doms-same ds)
    dom-same (record_dom fs ds) = ap (record_dom fs) (doms-same ds)
    dom-same (matrix_dom is d) = two matrix_dom (doms-same is) (dom-same d)
    dom-same (set_dom ms es d) = two (set_dom ms) (all-same es) (dom-same d)
    dom-same (mset_dom ms es d) = two (mset_dom ms) (all-same es) (dom-same d)
    dom-same (function_dom ms es d c) =
        two (λ es d. function_dom ms es d (shown_dom s c)) (all-same es) (dom-same d)
        ∙ ap (function_dom ms (shown_all t es) (shown_dom t d)) (dom-same c)
    dom-same (relation_dom ms es ds) = two (relation_dom ms) (all-same es) (doms-same ds)
    dom-same (partition_dom ms es d) = two (partition_dom ms) (all-same es) (dom-same d)

    doms-same : (ds : Doms) → shown_doms s ds ≡ shown_doms t ds
    doms-same no_doms = refl
    doms-same (more_doms d ds) = two more_doms (dom-same d) (doms-same ds)

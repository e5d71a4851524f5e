-- Views in the place of names leave comprehensions in order where order counts.
use Rattle.std.proofs.Common.{◌≡◌, refl, Bool, true, false}
use Rattle.ess_semantics.specs.declared.words.Op2.{Op2}
use Rattle.ess_semantics.specs.Values.{Text}
use Rattle.ess_semantics.specs.Trees.{binary, Ex, Exs, number_ex, truth_ex, name_ex, node_ex, matrix_ex, comp_ex, cell_ex, seen_ex, no_exs, more_exs, Gens, no_gens, over, from, cond}
use Rattle.ess_semantics.specs.ExpressionJudgements.{forgets_order}
use Rattle.conjure_model_laws.specs.Shown.{Shows, shown, shown_all, shown_gens}
use Rattle.ess_given_laws.specs.Given.{is_fixed}
use Rattle.ess_given_laws.proofs.FixedTrees.{both-so}
use Rattle.ess_given_judged_laws.specs.ShownGiven.{ShowsGiven}
use Rattle.ess_given_judged_laws.proofs.ShownGiven.{shown-trees-are-given}
use Rattle.ess_given_order_laws.specs.InOrder.{in_order, gens_in_order, Ordered, AllOrdered, GensOrdered}
use Rattle.ess_given_specifications_laws.specs.JudgedOrder.{ShowsOrdered}

module _ (u : Text → Bool) (sh : Shows) (g : ShowsGiven sh u) (s : ShowsOrdered sh u) where
  mutual
    in-shown : (e : Ex) → in_order u e ≡ true → in_order u (shown sh e) ≡ true
    in-shown (number_ex n) h = refl
    in-shown (truth_ex b) h = refl
    in-shown (name_ex a) h = (s.first a).0
    in-shown (node_ex b (binary Op2.Member) (more_exs e (more_exs (name_ex a) no_exs))) h = refl
    in-shown (node_ex b op es) h = refl
    in-shown (matrix_ex es d) h = refl
    in-shown (comp_ex e gs) h = gens-in-shown gs h
    in-shown (cell_ex b n es) h = refl
    in-shown (seen_ex r d ns es) h = refl

    gens-in-shown : (gs : Gens) → gens_in_order u gs ≡ true → gens_in_order u (shown_gens sh gs) ≡ true
    gens-in-shown no_gens h = refl
    gens-in-shown (over p d gs) h = gens-in-shown gs h
    gens-in-shown (from p e gs) h = both-so (in_order u e) (gens_in_order u gs) (in_order u (shown sh e))
        (gens_in_order u (shown_gens sh gs))
        (in-shown e) (gens-in-shown gs) h
    gens-in-shown (cond c gs) h = both-so (is_fixed u c) (gens_in_order u gs) (is_fixed u (shown sh c)) (gens_in_order u (shown_gens sh gs))
        (shown-trees-are-given.fixed u sh g c) (gens-in-shown gs) h

  mutual
    pub order-shown : (e : Ex) → Ordered u e → Ordered u (shown sh e)
    order-shown (number_ex n) h = tt
    order-shown (truth_ex b) h = tt
    order-shown (name_ex a) h = (s.first a).1
    order-shown (node_ex b (binary Op2.Member) (more_exs e (more_exs (name_ex a) no_exs))) h =
        ((in-shown e h.0.0, order-shown e h.0.1), (s.last a, tt))
    order-shown (node_ex b op es) h = all-shown es (forgets_order op) h
    order-shown (matrix_ex es d) h = all-shown es false h
    order-shown (comp_ex e gs) h = ((in-shown e h.0.0, order-shown e h.0.1), gens-order-shown gs h.1)
    order-shown (cell_ex b n es) h = all-shown es false h
    order-shown (seen_ex r d ns es) h = h

    all-shown : (es : Exs) (c : Bool) → AllOrdered u es c → AllOrdered u (shown_all sh es) c
    all-shown no_exs c h = tt
    all-shown (more_exs e es) true h = (order-shown e h.0, all-shown es true h.1)
    all-shown (more_exs e es) false h = ((in-shown e h.0.0, order-shown e h.0.1), all-shown es false h.1)

    gens-order-shown : (gs : Gens) → GensOrdered u gs → GensOrdered u (shown_gens sh gs)
    gens-order-shown no_gens h = tt
    gens-order-shown (over p d gs) h = gens-order-shown gs h
    gens-order-shown (from p e gs) h = (order-shown e h.0, gens-order-shown gs h.1)
    gens-order-shown (cond c gs) h = ((in-shown c h.0.0, order-shown c h.0.1), gens-order-shown gs h.1)

-- What an expression of a model needs beside being refined, as a proposition of its parts.
use Rattle.std.proofs.Common.{◌≡◌, refl, true, ◌&&◌}
use Rattle.ess_semantics.specs.Trees.{Ex, Exs, number_ex, truth_ex, name_ex, node_ex, matrix_ex, comp_ex, cell_ex, seen_ex, no_exs, more_exs, Gens, no_gens, over, from, cond, Dom, int_dom, name_dom}
use Rattle.ess_semantics.proofs.Tests.{and-left, and-right, and-both}
use Rattle.ess_grammar.specs.Readable.{fit_ranges}
use Rattle.ess_grammar.specs.Models.{Scope, is_truth_table, same_truth}
use Rattle.eprime_lowering_laws.specs.Formed.{has_operands, is_formed, are_formed, are_gens_formed}

module _ (s : Scope) where
  abbrev mutual
    -- Each operator in the tree has as many operands as it takes, each range its bounds, and each cell is a truth value where its table
    -- has truth values.
    pub IsFormed : Ex → Type 0
    IsFormed (number_ex n) = Unit {0}
    IsFormed (truth_ex b) = Unit {0}
    IsFormed (name_ex a) = Unit {0}
    IsFormed (node_ex b op es) = (has_operands op es ≡ true) × AreFormed es
    IsFormed (matrix_ex es d) = Unit {0}
    IsFormed (comp_ex e gs) = IsFormed e × GensFormed gs
    IsFormed (cell_ex b a es) = (same_truth b (is_truth_table s a) ≡ true) × AreFormed es
    IsFormed (seen_ex r d ns es) = Unit {0}

    -- The same of operands.
    pub AreFormed : Exs → Type 0
    AreFormed no_exs = Unit {0}
    AreFormed (more_exs e es) = IsFormed e × AreFormed es

    -- The same of generators and conditions.
    pub GensFormed : Gens → Type 0
    GensFormed no_gens = Unit {0}
    GensFormed (over p d gs) = DomFormed d × GensFormed gs
    GensFormed (from p e gs) = IsFormed e × GensFormed gs
    GensFormed (cond e gs) = IsFormed e × GensFormed gs

    -- The same of what a generator goes over: no named type.
    pub DomFormed : Dom → Type 0
    DomFormed (int_dom rs es) = (fit_ranges rs es ≡ true) × AreFormed es
    DomFormed (name_dom t) = ⊥
    DomFormed d = Unit {0}

  mutual
    -- The test tells it.
    pub told : (e : Ex) → is_formed s e ≡ true → IsFormed e
    told (number_ex n) h = tt
    told (truth_ex b) h = tt
    told (name_ex a) h = tt
    told (node_ex b op es) h =
        (and-left (has_operands op es) (are_formed s es) h, all-told es (and-right (has_operands op es) (are_formed s es) h))
    told (matrix_ex es d) h = tt
    told (comp_ex e gs) h =
        (told e (and-left (is_formed s e) (are_gens_formed s gs) h), gens-told gs (and-right (is_formed s e) (are_gens_formed s gs) h))
    told (cell_ex b a es) h =
        let t = same_truth b (is_truth_table s a) in (and-left t (are_formed s es) h, all-told es (and-right t (are_formed s es) h))
    told (seen_ex r d ns es) h = tt

    all-told : (es : Exs) → are_formed s es ≡ true → AreFormed es
    all-told no_exs h = tt
    all-told (more_exs e es) h =
        (told e (and-left (is_formed s e) (are_formed s es) h), all-told es (and-right (is_formed s e) (are_formed s es) h))

    gens-told : (gs : Gens) → are_gens_formed s gs ≡ true → GensFormed gs
    gens-told no_gens h = tt
    gens-told (over p (int_dom rs es) gs) h =
        let f = fit_ranges rs es in
        let k = and-left (f && are_formed s es) (are_gens_formed s gs) h in (
          (and-left f (are_formed s es) k, all-told es (and-right f (are_formed s es) k)),
          gens-told gs (and-right (f && are_formed s es) (are_gens_formed s gs) h),
        )
    gens-told (over p (name_dom t) gs) h = cc
    gens-told (over p d gs) h = (tt, gens-told gs h)
    gens-told (from p e gs) h =
        (told e (and-left (is_formed s e) (are_gens_formed s gs) h), gens-told gs (and-right (is_formed s e) (are_gens_formed s gs) h))
    gens-told (cond e gs) h =
        (told e (and-left (is_formed s e) (are_gens_formed s gs) h), gens-told gs (and-right (is_formed s e) (are_gens_formed s gs) h))

  mutual
    -- The test holds.
    pub tested : (e : Ex) → IsFormed e → is_formed s e ≡ true
    tested (number_ex n) h = refl
    tested (truth_ex b) h = refl
    tested (name_ex a) h = refl
    tested (node_ex b op es) h = and-both (has_operands op es) (are_formed s es) h.0 (all-tested es h.1)
    tested (matrix_ex es d) h = refl
    tested (comp_ex e gs) h = and-both (is_formed s e) (are_gens_formed s gs) (tested e h.0) (gens-tested gs h.1)
    tested (cell_ex b a es) h = and-both (same_truth b (is_truth_table s a)) (are_formed s es) h.0 (all-tested es h.1)
    tested (seen_ex r d ns es) h = refl

    all-tested : (es : Exs) → AreFormed es → are_formed s es ≡ true
    all-tested no_exs h = refl
    all-tested (more_exs e es) h = and-both (is_formed s e) (are_formed s es) (tested e h.0) (all-tested es h.1)

    gens-tested : (gs : Gens) → GensFormed gs → are_gens_formed s gs ≡ true
    gens-tested no_gens h = refl
    gens-tested (over p (int_dom rs es) gs) h =
        and-both (fit_ranges rs es && are_formed s es) (are_gens_formed s gs)
        (and-both (fit_ranges rs es) (are_formed s es) h.0.0 (all-tested es h.0.1)) (gens-tested gs h.1)
    gens-tested (over p (name_dom t) gs) h = absurd h.0
    gens-tested (over p d gs) h = gens-tested gs h.1
    gens-tested (from p e gs) h = and-both (is_formed s e) (are_gens_formed s gs) (tested e h.0) (gens-tested gs h.1)
    gens-tested (cond e gs) h = and-both (is_formed s e) (are_gens_formed s gs) (tested e h.0) (gens-tested gs h.1)

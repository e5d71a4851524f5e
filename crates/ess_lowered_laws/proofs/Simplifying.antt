-- An expression of a model stays one when it is simplified.
use Rattle.std.proofs.Common.{◌≡◌, true, false}
use Rattle.ess_semantics.specs.Trees.{name_pat, tuple_pat, Ex, Exs, number_ex, truth_ex, name_ex, node_ex, matrix_ex, comp_ex, cell_ex, seen_ex, no_exs, more_exs, Gens, no_gens, over, from, cond, Dom, bool_dom, int_dom}
use Rattle.ess_grammar.specs.Models.{Scope}
use Rattle.ess_simplify_laws.specs.Simplifying.{simplified, all_simplified, gens_simplified, dom_simplified}
use Rattle.eprime_lowering_laws.specs.Lowerable.{is_lowerable, are_lowerable_gens, is_lowerable_dom}
use Rattle.ess_lowered_laws.proofs.Alongside.{none_left, one_beside}
use Rattle.ess_lowered_laws.proofs.Kept.{both-kept, StaysLowerable, Stay, node-kept, items-kept, cell-kept, ranges-kept}
use Rattle.ess_lowered_laws.proofs.SimplerNodes.{simpler-kept, simpler-list}

module _ (s : Scope) where
  mutual
    -- Where it is a list it stays one too.
    pub simplified-kept : (e : Ex) → StaysLowerable s e (simplified e)
    simplified-kept (number_ex n) = record { whole = λ h. h; list = λ h. h }
    simplified-kept (truth_ex b) = record { whole = λ h. h; list = λ h. h }
    simplified-kept (name_ex a) = record { whole = λ h. h; list = λ h. h }
    simplified-kept (node_ex b op es) =
        let l = all-simplified es in record {
          whole = λ h. simpler-kept s b op (all_simplified es) (node-kept s b op l h);
          list = λ h. simpler-list s b op (all_simplified es) (items-kept s b op l h);
        }
    simplified-kept (matrix_ex es d) = record { whole = λ h. h; list = λ h. h }
    simplified-kept (comp_ex e gs) = record {
      whole = λ h. h;
      list = both-kept (is_lowerable s e) (are_lowerable_gens s gs) (is_lowerable s (simplified e))
          (are_lowerable_gens s (gens_simplified gs)) (simplified-kept e).whole (gens-simplified gs);
    }
    simplified-kept (cell_ex b n es) = record { whole = cell-kept s b n (all-simplified es); list = λ h. h }
    simplified-kept (seen_ex v d ns es) = record { whole = λ h. h; list = λ h. h }

    all-simplified : (es : Exs) → Stay s es (all_simplified es)
    all-simplified no_exs = none_left
    all-simplified (more_exs e es) = one_beside (simplified-kept e) (all-simplified es)

    gens-simplified : (gs : Gens) → are_lowerable_gens s gs ≡ true → are_lowerable_gens s (gens_simplified gs) ≡ true
    gens-simplified no_gens h = h
    gens-simplified (over (name_pat a) d gs) h =
        both-kept (is_lowerable_dom s false d) (are_lowerable_gens s gs) (is_lowerable_dom s false (dom_simplified d))
        (are_lowerable_gens s (gens_simplified gs)) (dom-simplified d) (gens-simplified gs) h
    gens-simplified (over (tuple_pat ps) d gs) h = h
    gens-simplified (from p e gs) h = h
    gens-simplified (cond e gs) h =
        both-kept (is_lowerable s e) (are_lowerable_gens s gs) (is_lowerable s (simplified e)) (are_lowerable_gens s (gens_simplified gs))
        (simplified-kept e).whole (gens-simplified gs) h

    dom-simplified : (d : Dom) → is_lowerable_dom s false d ≡ true → is_lowerable_dom s false (dom_simplified d) ≡ true
    dom-simplified (int_dom rs es) h = ranges-kept s rs (all-simplified es) h
    dom-simplified bool_dom h = h
    dom-simplified d h = cc

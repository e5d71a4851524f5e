-- An expression of a model stays one with printed names.
use Rattle.std.proofs.Common.{◌≡◌, true, false, List}
use Rattle.ess_semantics.specs.Values.{Text}
use Rattle.ess_semantics.specs.Names.{Names}
use Rattle.ess_semantics.specs.Trees.{name_pat, tuple_pat, Ex, Exs, number_ex, truth_ex, name_ex, node_ex, matrix_ex, comp_ex, cell_ex, seen_ex, no_exs, more_exs, Gens, no_gens, over, from, cond, Dom, int_dom}
use Rattle.ess_grammar.specs.Models.{Scope}
use Rattle.eprime_lowering_laws.specs.Lowerable.{is_lowerable, are_lowerable_gens, is_lowerable_dom}
use Rattle.conjure_model_laws.specs.Printed.{with_printed, printed_behind, printed, printed_all, printed_gens, printed_dom}
use Rattle.ess_lowered_laws.proofs.Alongside.{none_left, one_beside}
use Rattle.ess_lowered_laws.proofs.Kept.{both-kept, StaysLowerable, Stay, node-kept, items-kept, cell-kept, ranges-kept}

module _ (s : Scope) (taken : List Text) where
  mutual
    -- Where it is a list it stays one too.
    pub printed-kept : (e : Ex) (r : Names Text) → StaysLowerable s e (printed taken e r)
    printed-kept (number_ex n) r = record { whole = λ h. h; list = λ h. h }
    printed-kept (truth_ex b) r = record { whole = λ h. h; list = λ h. h }
    printed-kept (name_ex a) r = record { whole = λ h. h; list = λ h. h }
    printed-kept (node_ex b op es) r =
        let l = all-printed es r in record { whole = node-kept s b op l; list = items-kept s b op l }
    printed-kept (matrix_ex es d) r = record { whole = λ h. h; list = λ h. h }
    printed-kept (comp_ex e gs) r = record {
      whole = λ h. h;
      list = both-kept (is_lowerable s e) (are_lowerable_gens s gs) (is_lowerable s (printed taken e (printed_behind taken gs r)))
          (are_lowerable_gens s (printed_gens taken gs r)) (printed-kept e (printed_behind taken gs r)).whole (gens-printed gs r);
    }
    printed-kept (cell_ex b n es) r = record { whole = cell-kept s b n (all-printed es r); list = λ h. h }
    printed-kept (seen_ex v d ns es) r = record { whole = λ h. h; list = λ h. h }

    all-printed : (es : Exs) (r : Names Text) → Stay s es (printed_all taken es r)
    all-printed no_exs r = none_left
    all-printed (more_exs e es) r = one_beside (printed-kept e r) (all-printed es r)

    gens-printed : (gs : Gens) (r : Names Text) → are_lowerable_gens s gs ≡ true → are_lowerable_gens s (printed_gens taken gs r) ≡ true
    gens-printed no_gens r h = h
    gens-printed (over (name_pat a) d gs) r h =
        both-kept (is_lowerable_dom s false d) (are_lowerable_gens s gs) (is_lowerable_dom s false (printed_dom taken d r))
        (are_lowerable_gens s (printed_gens taken gs (with_printed taken a r))) (dom-printed d r)
        (gens-printed gs (with_printed taken a r)) h
    gens-printed (over (tuple_pat ps) d gs) r h = h
    gens-printed (from p e gs) r h = h
    gens-printed (cond e gs) r h =
        both-kept (is_lowerable s e) (are_lowerable_gens s gs) (is_lowerable s (printed taken e r))
        (are_lowerable_gens s (printed_gens taken gs r)) (printed-kept e r).whole (gens-printed gs r) h

    dom-printed : (d : Dom) (r : Names Text) → is_lowerable_dom s false d ≡ true → is_lowerable_dom s false (printed_dom taken d r) ≡ true
    dom-printed (int_dom rs es) r h = ranges-kept s rs (all-printed es r) h
    dom-printed d r h = h

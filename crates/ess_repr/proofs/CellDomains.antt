-- Domains of axes and cells as code makes them.
use Rattle.std.proofs.Common.{◌≡◌, refl, sym, ap, ◌∙◌, ℕ, ◌+◌, ◌<◌, ◌≤◌, List, [], ◌∷◌, ◌++◌, map, take, length, get_or, Option, Some, None, option_map}
use Rattle.std.proofs.lemmas.List.{map-append, take_more, take_all}
use Rattle.ess_semantics.specs.Trees.{both_ends, one_value, Dom, no_exs, more_exs, int_dom}
use Rattle.ess_semantics.specs.Kinds.{dom_list}
use Rattle.ess_core.specs.declared.domains.Dom as code
use Rattle.ess_core.specs.declared.expressions.Ex.{Ex}
use Rattle.ess_core.specs.TreeViews.{exs_of, span, pure_ex, pure_dom, pure_doms}
use Rattle.ess_repr_declare_laws.specs.SizeTerms.{zero_ex, next_ex, bound_or_0}
use Rattle.ess_repr_declare_laws.specs.DeclaredTrees.{axis_dom, with_dummy}
use Rattle.ess_repr.proofs.Present.{bound_there}

-- The int domain of a range with these bounds.
abbrev ranged : Option Ex → Option Ex → Dom
ranged l h = int_dom ((span (option_map pure_ex l) (option_map pure_ex h)).0 ∷ []) (exs_of (span (option_map pure_ex l) (option_map pure_ex h)).1)

-- A range with both bounds has its dummy behind them.
pub dummy_here : (d c : Dom) (l h : Option Ex) (a b : Ex) → l ≡ Some a → h ≡ Some b → d ≡ ranged l h →
    c ≡ int_dom (both_ends ∷ one_value ∷ []) (more_exs (pure_ex a) (more_exs (pure_ex b) (more_exs (next_ex (pure_ex b)) no_exs))) → c ≡ with_dummy d
dummy_here d c l h a b p q e r =
    r
    ∙ ap (λ x. int_dom (both_ends ∷ one_value ∷ []) (more_exs (pure_ex a) (more_exs (pure_ex b) (more_exs (next_ex x) no_exs)))) (sym (bound_there b))
    ∙ sym (ap with_dummy e ∙ ap (λ x. with_dummy (ranged x h)) p ∙ ap (λ x. with_dummy (ranged (Some a) x)) q)

-- A range with a lower bound alone has none.
pub no_dummy_above : (d : Dom) (l h : Option Ex) (a : Ex) → l ≡ Some a → h ≡ None → d ≡ ranged l h → d ≡ with_dummy d
no_dummy_above d l h a p q e = let f : d ≡ ranged (Some a) None = e ∙ ap (λ x. ranged x h) p ∙ ap (ranged (Some a)) q in f ∙ sym (ap with_dummy f)

-- Nor has one with an upper bound alone.
pub no_dummy_below : (d : Dom) (l h : Option Ex) (b : Ex) → l ≡ None → h ≡ Some b → d ≡ ranged l h → d ≡ with_dummy d
no_dummy_below d l h b p q e = let f : d ≡ ranged None (Some b) = e ∙ ap (λ x. ranged x h) p ∙ ap (ranged None) q in f ∙ sym (ap with_dummy f)

-- Without bounds, which no text has, the dummy is 1.
pub dummy_without_bounds : (d c : Dom) (l h : Option Ex) → l ≡ None → h ≡ None → d ≡ ranged l h →
    c ≡ int_dom (both_ends ∷ one_value ∷ []) (exs_of ((span None None).1 ++ next_ex zero_ex ∷ [])) → c ≡ with_dummy d
dummy_without_bounds d c l h p q e r = r ∙ sym (ap with_dummy (e ∙ ap (λ x. ranged x h) p ∙ ap (ranged None) q))

-- ---- several axes

-- The axis over a domain of the code.
abbrev pub axis_over : code.Dom → Dom
axis_over d = axis_dom (pure_dom d)

-- One axis more.
pub axes_more : (ds : List code.Dom) (i : ℕ) (as' bs : List code.Dom) (d a : code.Dom) → i < length ds → d ≡ get_or ds i d →
    pure_dom a ≡ axis_dom (pure_dom d) → bs ≡ as' ++ a ∷ [] → map pure_dom as' ≡ map axis_over (take i ds) →
    map pure_dom bs ≡ map axis_over (take (i + 1) ds)
axes_more ds i as' bs d a h is q r p =
    ap (map pure_dom) r ∙ map-append pure_dom as' (a ∷ []) ∙ ap (λ l. l ++ pure_dom a ∷ []) p
    ∙ ap (λ x. map axis_over (take i ds) ++ x ∷ []) q ∙ ap (λ x. map axis_over (take i ds) ++ axis_over x ∷ []) is
    ∙ sym (map-append axis_over (take i ds) (get_or ds i d ∷ [])) ∙ sym (ap (map axis_over) (take_more ds i d h))

-- All axes.
pub axes_all : (ds : List code.Dom) (i : ℕ) (as' : List code.Dom) → length ds ≤ i → map pure_dom as' ≡ map axis_over (take i ds) →
    map pure_dom as' ≡ map axis_dom (dom_list (pure_doms ds))
axes_all ds i as' h p = p ∙ ap (map axis_over) (take_all i ds h) ∙ each ds
  where
    each : (ds : List code.Dom) → map axis_over ds ≡ map axis_dom (dom_list (pure_doms ds))
    each [] = refl
    each (d ∷ ds) = ap (λ l. axis_over d ∷ l) (each ds)

-- A refined tree with printed names means the same, where the names that it uses and doesn't bind are none of those that it gets.
use Rattle.std.proofs.Common.{◌≡◌, refl, ap, ◌∙◌, ℕ, suc, ◌+◌, ◌≤◌, Bool, List, [], ◌∷◌, length, Option, option_map, arith}
use Rattle.ess_semantics.specs.Values.{Text, Value}
use Rattle.ess_semantics.specs.Names.{Names, look}
use Rattle.ess_semantics.specs.Trees.{name_pat, tuple_pat, Ex, Exs, number_ex, truth_ex, name_ex, node_ex, matrix_ex, comp_ex, cell_ex, seen_ex, no_exs, more_exs, Gens, no_gens, over, from, cond, Dom, bool_dom, int_dom, name_dom}
use Rattle.ess_semantics.specs.Operators.{value_of_node, false_where_undefined, list_value}
use Rattle.ess_semantics.specs.Domains.{integers}
use Rattle.ess_semantics.specs.Tables.{Table}
use Rattle.ess_semantics.specs.Scoped.{with_names}
use Rattle.ess_semantics.specs.FreeNames.{with_bound_names, FreeNamesAre, FreeNamesAreExs, FreeNamesAreGens, FreeNamesAreDom}
use Rattle.ess_semantics.specs.Meaning.{Env, TypeEntry, with_pat, collect, meaning, meanings, items_under, domain_of, members_in, spans_of, cell_in, indices}
use Rattle.ess_rules_laws.proofs.Simulation.{Vals, E, collect-same, and_then-same, where-same}
use Rattle.conjure_model_laws.specs.Printed.{printed_name, with_printed, printed_behind, printed, printed_all, printed_gens, printed_dom, binders, binders_of_all, binders_of_gens, binders_of_dom}
use Rattle.conjure_model_laws.proofs.Renames.{Differ, Renames, renames-bound}
use Rattle.conjure_model_laws.proofs.SingleNames.{Single, SingleAll, SingleGens, SingleDom}

first-of : (n a b lim : ℕ) → n + (a + b) ≤ lim → n + a ≤ lim
first-of n a b lim l = omega (arith, l)

second-of : (n a b lim : ℕ) → n + (a + b) ≤ lim → n + b ≤ lim
second-of n a b lim l = omega (arith, l)

module _ (taken : List Text) where
  -- No more names are bound behind generators than they have binders.
  behind-length : (gs : Gens) (r : Names Text) → SingleGens gs → length (printed_behind taken gs r) ≤ length r + binders_of_gens gs
  behind-length no_gens r w = omega arith
  behind-length (over (name_pat a) d gs) r w =
      let h = behind-length gs (with_printed taken a r) w.1 in
      let z : length (with_printed taken a r) ≡ suc (length r) = refl in omega (arith, h, z)
  behind-length (over (tuple_pat ps) d gs) r w = absurd w
  behind-length (from p e gs) r w = absurd w
  behind-length (cond e gs) r w = let h = behind-length gs r w.1 in omega (arith, h)

  module _ (lim : ℕ) (differ : Differ (printed_name taken) lim) where
    abbrev R : (Text → Bool) → Names Text → Vals → Vals → Type 0
    R u r g h = Renames (printed_name taken) lim u r (length r) g h

    module _ (pl : Bool) (ts : List TypeEntry) (cs : Names Table) where
      abbrev M : Vals → Env
      M g = E pl ts cs g

      mutual
        -- An expression.
        pub meaning-printed : (e : Ex) (u : Text → Bool) (r : Names Text) (g h : Vals) → Single e → FreeNamesAre u e →
            length r + binders e ≤ lim → R u r g h → meaning (printed taken e r) (M h) ≡ meaning e (M g)
        meaning-printed (number_ex m) u r g h w o l s = refl
        meaning-printed (truth_ex m) u r g h w o l s = refl
        meaning-printed (name_ex a) u r g h w o l s = (s a o).0
        meaning-printed (node_ex q op es) u r g h w o l s =
            ap (λ x. false_where_undefined q (value_of_node op x)) (meanings-printed es u r g h w o l s)
        meaning-printed (matrix_ex es d) u r g h w o l s = absurd w
        meaning-printed (comp_ex e gs) u r g h w o l s =
            let b = behind-length gs r w.1 in
            let m : length (printed_behind taken gs r) + binders e ≤ lim = omega (arith, b, l) in
            ap (option_map list_value) (items-printed gs u r g h (λ here. option_map (λ v. v ∷ []) (meaning e here))
            (λ here. option_map (λ v. v ∷ []) (meaning (printed taken e (printed_behind taken gs r)) here)) w.1 o.0
            (first-of (length r) (binders_of_gens gs) (binders e) lim l) s
            (λ g' h' s'. ap (option_map (λ v. v ∷ []))
            (meaning-printed e (with_bound_names u gs) (printed_behind taken gs r) g' h' w.0 o.1 m s')))
        meaning-printed (cell_ex q c es) u r g h w o l s =
            ap (λ x. false_where_undefined q (cell_in q (look cs c) (indices x))) (meanings-printed es u r g h w o l s)
        meaning-printed (seen_ex x d ns es) u r g h w o l s = absurd w

        meanings-printed : (es : Exs) (u : Text → Bool) (r : Names Text) (g h : Vals) → SingleAll es → FreeNamesAreExs u es →
            length r + binders_of_all es ≤ lim → R u r g h → meanings (printed_all taken es r) (M h) ≡ meanings es (M g)
        meanings-printed no_exs u r g h w o l s = refl
        meanings-printed (more_exs e es) u r g h w o l s =
            ap (λ x. x ∷ meanings (printed_all taken es r) (M h))
            (meaning-printed e u r g h w.0 o.0 (first-of (length r) (binders e) (binders_of_all es) lim l) s)
            ∙ ap (λ x. meaning e (M g) ∷ x)
            (meanings-printed es u r g h w.1 o.1 (second-of (length r) (binders e) (binders_of_all es) lim l) s)

        -- Generators, where what stands behind them means the same.
        pub items-printed : (gs : Gens) (u : Text → Bool) (r : Names Text) (g h : Vals) (x y : Env → Option (List Value)) →
            SingleGens gs → FreeNamesAreGens u gs → length r + binders_of_gens gs ≤ lim → R u r g h →
            ((g' h' : Vals) → R (with_bound_names u gs) (printed_behind taken gs r) g' h' → y (M h') ≡ x (M g')) →
            items_under (printed_gens taken gs r) (M h) y ≡ items_under gs (M g) x
        items-printed no_gens u r g h x y w o l s f = f g h s
        items-printed (over (name_pat a) d gs) u r g h x y w o l s f =
            let b = printed_name taken (length r) in
            let rest = printed_gens taken gs (with_printed taken a r) in
            let z : length (with_printed taken a r) ≡ suc (length r) = refl in
            and_then-same (members_in (domain_of (printed_dom taken d r) (M h))) (members_in (domain_of d (M g)))
            (λ vs. collect vs (λ v. items_under rest (with_pat (name_pat b) v (M h)) y))
            (λ vs. collect vs (λ v. items_under gs (with_pat (name_pat a) v (M g)) x))
            (ap members_in (domain-printed d u r g h w.0 o.0 (omega (arith, l)) s))
            (λ vs. collect-same vs (λ v. items_under rest (with_pat (name_pat b) v (M h)) y)
            (λ v. items_under gs (with_pat (name_pat a) v (M g)) x)
            (λ v. items-printed gs (with_names u (name_pat a)) (with_printed taken a r) ((a, v) ∷ g) ((b, v) ∷ h) x y w.1 o.1
            (omega (arith, l, z)) (renames-bound (printed_name taken) lim differ a v u r (length r) g h (omega (arith, l)) s) f))
        items-printed (over (tuple_pat ps) d gs) u r g h x y w o l s f = absurd w
        items-printed (from p e gs) u r g h x y w o l s f = absurd w
        items-printed (cond e gs) u r g h x y w o l s f =
            where-same (meaning (printed taken e r) (M h)) (meaning e (M g)) (items_under (printed_gens taken gs r) (M h) y)
            (items_under gs (M g) x)
            (meaning-printed e u r g h w.0 o.0 (first-of (length r) (binders e) (binders_of_gens gs) lim l) s)
            (items-printed gs u r g h x y w.1 o.1 (second-of (length r) (binders e) (binders_of_gens gs) lim l) s f)

        -- A domain.
        domain-printed : (d : Dom) (u : Text → Bool) (r : Names Text) (g h : Vals) → SingleDom d → FreeNamesAreDom u d →
            length r + binders_of_dom d ≤ lim → R u r g h → domain_of (printed_dom taken d r) (M h) ≡ domain_of d (M g)
        domain-printed bool_dom u r g h w o l s = refl
        domain-printed (int_dom rs es) u r g h w o l s = ap (λ x. option_map integers (spans_of rs x)) (meanings-printed es u r g h w o l s)
        domain-printed (name_dom a) u r g h w o l s = refl
        domain-printed _ u r g h w o l s = absurd w

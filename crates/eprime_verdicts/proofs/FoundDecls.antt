-- The declarations of a model whose domains have their meaning.
use Rattle.std.proofs.Common.{◌≡◌, refl, sym, ap, ◌∙◌, Bool, true, false, ◌&&◌, ◌||◌, List, [], ◌∷◌, ◌++◌, append-nil, map, ℤ, Option, Some, None, option_map, is_some, if◌then◌else◌}
use Rattle.std.specs.List.{list_all, list_any}
use Rattle.std.proofs.lemmas.List.{map-append}
use Rattle.std.proofs.lemmas.List.Folds.{list_all-append, list_any-append}
use Rattle.ess_semantics.specs.Lists.{and_then, each_of, is_some_and}
use Rattle.ess_semantics.specs.Values.{Text}
use Rattle.ess_semantics.specs.Order.{same_ints}
use Rattle.ess_semantics.specs.Names.{Names}
use Rattle.ess_semantics.specs.Tables as pure
use Rattle.ess_semantics.specs.Tables.{same_axes, is_filled, is_cell}
use Rattle.ess_semantics.specs.DeclaredTables.{TableDecl, axis_members}
use Rattle.ess_semantics.specs.ModelTrees.{Model, all_decls}
use Rattle.ess_semantics.specs.ModelMeaning.{model_domain}
use Rattle.ess_semantics.specs.Satisfaction.{axis_of, table_fits, domain_has_meaning, first_outside}
use Rattle.ess_grammar.specs.Models.{Scope, empty_scope, with_given, with_find}
use Rattle.ess_core.specs.declared.tables.NamedTable.{NamedTable}
use Rattle.ess_core.specs.TableViews.{pure_named_table}
use Rattle.eprime_tree.specs.declared.expressions.PDom.{PDom}
use Rattle.eprime_tree.specs.declared.models.PDecl.{PDecl}
use Rattle.eprime_tree.specs.declared.models.PModel.{PModel}
use Rattle.eprime_tree.specs.Views.{pure_dom, pure_decl, pure_decls, pure_model, scope_of_givens}
use Rattle.eprime_eval_kinds.specs.Shapes.{decl_shape, shape_of}
use Rattle.eprime_eval_kinds.proofs.DeclaredShapes.{shapes_of_model}
use Rattle.eprime_eval.specs.declared.under.Under.{Under}
use Rattle.eprime_eval.specs.declared.members.Closed.{Closed}
use Rattle.eprime_eval.specs.ClosedDomains.{pure_closed}
use Rattle.eprime_eval.specs.UnderTables.{IsUnder}
use Rattle.eprime_verdicts.specs.declared.domains.ClosedDecl.{ClosedDecl}
use Rattle.eprime_verdicts.specs.Denoting.{Denotes, AreDenoted, IsClosed, AreClosed}
use Rattle.eprime_verdicts.specs.ClosedDecls.{are_over, fits, outside_of}
use Rattle.eprime_verdicts.specs.ModelVerdicts.{AreFound}
use Rattle.eprime_verdicts.proofs.Denoting.{and-lost, or-won}

-- ---- declarations and tables as they are held

-- The declarations of a model with given tables alone,
pub under-given : (u : Under) (m : PModel) (q : List NamedTable) → IsUnder u (map decl_shape (m.givens ++ m.finds)) (map pure_named_table (q ++ []))
    → IsUnder u (map shape_of (all_decls (pure_model m))) (map pure_named_table q)
under-given u m q h =
    let a : map decl_shape (m.givens ++ m.finds) ≡ map shape_of (all_decls (pure_model m)) = sym (shapes_of_model m) in
    let b : map pure_named_table (q ++ []) ≡ map pure_named_table q = ap (map pure_named_table) (append-nil q) in
    rw (← a, ← b) h

-- and with found ones.
pub under-both : (u : Under) (m : PModel) (q c : List NamedTable) → IsUnder u (map decl_shape (m.givens ++ m.finds)) (map pure_named_table (q ++ c))
    → IsUnder u (map shape_of (all_decls (pure_model m))) (map pure_named_table q ++ map pure_named_table c)
under-both u m q c h =
    let a : map decl_shape (m.givens ++ m.finds) ≡ map shape_of (all_decls (pure_model m)) = sym (shapes_of_model m) in
    let b : map pure_named_table (q ++ c) ≡ map pure_named_table q ++ map pure_named_table c = map-append pure_named_table q c in
    rw (← a, ← b) h

-- ---- one declaration

over-step : (o : Option (List ℤ)) (r : Option (List (List ℤ))) (x : List ℤ) (xs : List (List ℤ)) (b : Bool) → is_some_and r (λ as'. same_axes as' xs) ≡ b
    → is_some_and (and_then o (λ y. option_map (λ ys. y ∷ ys) r)) (λ as'. same_axes as' (x ∷ xs)) ≡ is_some_and o (λ ns. same_ints ns x) && b
over-step None r x xs b h = refl
over-step (Some y) None x xs b h = sym (and-lost (same_ints y x) (sym h))
over-step (Some y) (Some ys) x xs b h = ap (λ c. same_ints y x && c) h

over-no : (o : Option (List ℤ)) (r : Option (List (List ℤ))) → is_some_and (and_then o (λ y. option_map (λ ys. y ∷ ys) r)) (λ as'. same_axes as' []) ≡ false
over-no None r = refl
over-no (Some y) None = refl
over-no (Some y) (Some ys) = refl

module _ (u : Under) (E : Model) (q : Names pure.Table) (h : IsUnder u (map shape_of (all_decls E)) q) where
  axis-is : (s : Scope) (d : PDom) (r : Closed) → Denotes u d r → axis_of (all_decls E) q (pure_dom s d) ≡ axis_members (Some (pure_closed r))
  axis-is s d r p = ap axis_members (p E q s h)

  -- Axes over the domains that they denote.
  over-denoted : (s : Scope) (ds : List PDom) (rs : List Closed) (xs : List (List ℤ)) → AreDenoted u ds rs
      → is_some_and (each_of (map (pure_dom s) ds) (axis_of (all_decls E) q)) (λ as'. same_axes as' xs) ≡ are_over rs xs
  over-denoted s [] [] [] p = refl
  over-denoted s [] [] (x ∷ xs) p = refl
  over-denoted s [] (r ∷ rs) xs p = absurd p
  over-denoted s (d ∷ ds) [] xs p = absurd p
  over-denoted s (d ∷ ds) (r ∷ rs) [] p = over-no (axis_of (all_decls E) q (pure_dom s d)) (each_of (map (pure_dom s) ds) (axis_of (all_decls E) q))
  over-denoted s (d ∷ ds) (r ∷ rs) (x ∷ xs) p =
      over-step (axis_of (all_decls E) q (pure_dom s d)) (each_of (map (pure_dom s) ds) (axis_of (all_decls E) q)) x xs (are_over rs xs) (over-denoted s ds rs xs p.1)
      ∙ ap (λ o. is_some_and o (λ ns. same_ints ns x) && are_over rs xs) (axis-is s d r p.0)

  -- Each of them has a meaning.
  axes-meant : (s : Scope) (ds : List PDom) (rs : List Closed) → AreDenoted u ds rs → list_all (λ a. is_some (model_domain (all_decls E) q a)) (map (pure_dom s) ds) ≡ true
  axes-meant s [] [] p = refl
  axes-meant s [] (r ∷ rs) p = absurd p
  axes-meant s (d ∷ ds) [] p = absurd p
  axes-meant s (d ∷ ds) (r ∷ rs) p =
      ap (λ o. is_some o && list_all (λ a. is_some (model_domain (all_decls E) q a)) (map (pure_dom s) ds)) (p.0 E q s h) ∙ axes-meant s ds rs p.1

  decl-meant : (s : Scope) (d : PDecl) (r : ClosedDecl) → IsClosed u d r → domain_has_meaning E q (pure_decl s d) ≡ true
  decl-meant s d r p =
      ap (λ b. b && is_some (model_domain (all_decls E) q (pure_dom s d.cell))) (axes-meant s d.axes r.axes p.axes) ∙ ap is_some (p.cell E q s h)

  -- A table fits a declaration where it fits the domains that it denotes.
  fits-closed : (s : Scope) (d : PDecl) (r : ClosedDecl) (t : pure.Table) → IsClosed u d r → table_fits (all_decls E) q (pure_decl s d) t ≡ fits r t
  fits-closed s d r t p =
      ap (λ b. is_filled t && b && is_some_and (model_domain (all_decls E) q (pure_dom s d.cell)) (λ c. list_all (is_cell c) t.items)) (over-denoted s d.axes r.axes t.axes p.axes)
      ∙ ap (λ o. is_filled t && are_over r.axes t.axes && is_some_and o (λ c. list_all (is_cell c) t.items)) (p.cell E q s h)

  -- ---- all of them

  decls-meant : (add : Scope → TableDecl → Scope) (s : Scope) (ds : List PDecl) (rs : List ClosedDecl) → AreClosed u ds rs → list_all (domain_has_meaning E q) (pure_decls add s ds) ≡ true
  decls-meant add s [] [] p = refl
  decls-meant add s [] (r ∷ rs) p = absurd p
  decls-meant add s (d ∷ ds) [] p = absurd p
  decls-meant add s (d ∷ ds) (r ∷ rs) p =
      ap (λ b. b && list_all (domain_has_meaning E q) (pure_decls add (add s (pure_decl s d)) ds)) (decl-meant s d r p.0)
      ∙ decls-meant add (add s (pure_decl s d)) ds rs p.1

  decls-outside : (add : Scope → TableDecl → Scope) (s : Scope) (ds : List PDecl) (rs : List ClosedDecl) (c : Names pure.Table) → AreClosed u ds rs
      → first_outside E q (pure_decls add s ds) c ≡ outside_of rs c
  decls-outside add s [] [] c p = refl
  decls-outside add s [] (r ∷ rs) c p = absurd p
  decls-outside add s (d ∷ ds) [] c p = absurd p
  decls-outside add s (d ∷ ds) (r ∷ rs) [] p = ap Some (sym (p.0).name)
  decls-outside add s (d ∷ ds) (r ∷ rs) (t ∷ ts) p =
      ap (λ b. if b then first_outside E q (pure_decls add (add s (pure_decl s d)) ds) ts else Some d.name) (fits-closed s d r t.1 p.0)
      ∙ ap (λ o. if fits r t.1 then o else Some d.name) (decls-outside add (add s (pure_decl s d)) ds rs ts p.1)
      ∙ ap (λ a. if fits r t.1 then outside_of rs ts else Some a) (sym (p.0).name)

-- The declarations of what is to be found, where all have a meaning.
pub found : (u : Under) (m : PModel) (q : Names pure.Table) (gs fs : List ClosedDecl) → IsUnder u (map shape_of (all_decls (pure_model m))) q
    → AreClosed u m.givens gs → AreClosed u m.finds fs → AreFound (pure_model m) q fs
found u m q gs fs h g f = record {
  meant =
      list_all-append (domain_has_meaning (pure_model m) q) (pure_model m).givens (pure_model m).finds
      ∙ ap (λ b. b && list_all (domain_has_meaning (pure_model m) q) (pure_model m).finds) (decls-meant u (pure_model m) q h with_given empty_scope m.givens gs g)
      ∙ decls-meant u (pure_model m) q h with_find (scope_of_givens m) m.finds fs f;
  outside = λ c. decls-outside u (pure_model m) q h with_find (scope_of_givens m) m.finds fs c f;
}

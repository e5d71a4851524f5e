-- Names in the place of ends of names, one by one.
use Rattle.std.proofs.Common.{◌≡◌, refl, sym, ap, ◌∙◌, ℕ, ◌+◌, ◌<◌, ◌≤◌, List, [], ◌∷◌, ◌++◌, length, map, drop, get_or, append_assoc}
use Rattle.std.proofs.lemmas.List.{at_drop_more, at_drop_all, append-nil, map_push}
use Rattle.ess_semantics.specs.Names.{keys}
use Rattle.ess_semantics.specs.Values.{Text}
use Rattle.ess_semantics.specs.DeclaredTables.{TableDecl}
use Rattle.ess_core_nodes.specs.NodeViews.{pure_dom}
use Rattle.ess_repr_declare_laws.specs.DeclaredTrees.{decl}
use Rattle.conjure_model_laws.specs.IsBuiltFrom.{with_whole_names}
use Rattle.ess_declared_trees.specs.declared.tables.Declared.{Declared}
use Rattle.ess_declared_trees.specs.TableViews.{pure_declared}
use Rattle.ess_translate_plans.specs.declared.plans.TableName.{TableName}
use Rattle.ess_translate_plans.specs.Views.{pure_table_name}

-- These tables with these names.
abbrev pub named_tables : List TableName → List Declared → List TableDecl
named_tables ns ts = with_whole_names (keys (map pure_table_name ns)) (map pure_declared ts)

module _ (ns : List TableName) (ts : List Declared) (i : ℕ) where
  next-named : (n : TableName) (t : Declared) → i < length ns → i < length ts → n ≡ get_or ns i n → t ≡ get_or ts i t →
      named_tables (drop i ns) (drop i ts)
      ≡ decl n.name (map pure_dom t.axes) (pure_dom t.cell) ∷ named_tables (drop (i + 1) ns) (drop (i + 1) ts)
  next-named n t h k p q =
      at_drop_more (λ x. named_tables x (drop i ts)) ns i n h ∙ ap (λ x. named_tables (x ∷ drop (i + 1) ns) (drop i ts)) (sym p)
      ∙ at_drop_more (λ x. named_tables (n ∷ drop (i + 1) ns) x) ts i t k
      ∙ ap (λ x. named_tables (n ∷ drop (i + 1) ns) (x ∷ drop (i + 1) ts)) (sym q)

  -- From one name to the next one.
  pub one_name_more : (n : TableName) (t new : Declared) (done all : List Declared) (whole : List TableDecl) → i < length ns → i < length ts
      → n ≡ get_or ns i n → t ≡ get_or ts i t → pure_declared new ≡ decl n.name (map pure_dom t.axes) (pure_dom t.cell)
      → all ≡ done ++ new ∷ [] → map pure_declared done ++ named_tables (drop i ns) (drop i ts) ≡ whole
      → map pure_declared all ++ named_tables (drop (i + 1) ns) (drop (i + 1) ts) ≡ whole
  one_name_more n t new done all whole h k p q e a c =
      let rest : List TableDecl = named_tables (drop (i + 1) ns) (drop (i + 1) ts) in
      ap (λ l. map pure_declared l ++ rest) a ∙ ap (λ l. l ++ rest) (map_push pure_declared done new)
      ∙ append_assoc (map pure_declared done) (pure_declared new ∷ []) rest
      ∙ ap (λ x. map pure_declared done ++ x ∷ rest) e
      ∙ ap (λ l. map pure_declared done ++ l) (sym (next-named n t h k p q)) ∙ c

  -- No name is left.
  pub no_name_left : (done whole : List TableDecl) → length ns ≤ i → done ++ named_tables (drop i ns) (drop i ts) ≡ whole → done ≡ whole
  no_name_left done whole h c =
      sym (append-nil done) ∙ ap (λ x. done ++ x) (sym (at_drop_all (λ x. named_tables x (drop i ts)) ns i h)) ∙ c

  no-table : (ms : List Text) → with_whole_names ms [] ≡ []
  no-table [] = refl
  no-table (m ∷ ms) = refl

  -- No table is left.
  pub no_table_left : (done whole : List TableDecl) → length ts ≤ i → done ++ named_tables (drop i ns) (drop i ts) ≡ whole → done ≡ whole
  no_table_left done whole h c =
      sym (append-nil done)
      ∙ ap (λ x. done ++ x) (sym (at_drop_all (λ x. named_tables (drop i ns) x) ts i h ∙ no-table (keys (map pure_table_name (drop i ns))))) ∙ c

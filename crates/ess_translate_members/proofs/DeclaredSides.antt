-- What the declared tables of a model say of its declarations, side by side.
use Rattle.std.proofs.Common.{◌≡◌, refl, sym, ap, ◌∙◌, subst, ℤ, Bool, true, false, ◌||◌, List, [], ◌∷◌, ◌++◌, map, Option, Some, None, option_map, is_some, Result, Ok, Err}
use Rattle.std.specs.Result.{IsErrAnd}
use Rattle.std.specs.List.{list_all, list_any}
use Rattle.std.proofs.lemmas.List.Folds.{list_any-append}
use Rattle.ess_semantics.specs.Lists.{and_then, each_of, is_some_and}
use Rattle.ess_semantics.specs.Order.{same_ints}
use Rattle.ess_semantics.specs.Names.{Names}
use Rattle.ess_semantics.specs.Trees.{Dom}
use Rattle.ess_semantics.specs.Domains.{Domain}
use Rattle.ess_semantics.specs.Tables as pure
use Rattle.ess_semantics.specs.Tables.{is_cell, code}
use Rattle.ess_semantics.specs.Declarations.{Declaration}
use Rattle.ess_semantics.specs.DeclaredTables.{TableDecl, axis_members, SameMembers, DeclaredAs}
use Rattle.ess_semantics.specs.Assignments.{Assignment, nothing_given, env_of}
use Rattle.ess_semantics.specs.ModelTrees.{Header, Model, all_decls}
use Rattle.ess_semantics.specs.ModelMeaning.{model_domain}
use Rattle.ess_semantics.specs.LargeModels.{decl_is_large, declares_large}
use Rattle.ess_semantics.specs.Satisfaction.{domain_has_meaning}
use Rattle.ess_semantics.specs.Plans as pure_plans
use Rattle.ess_semantics.specs.Plans.{givens_side, finds_side, declared_under}
use Rattle.ess_semantics.proofs.Tests.{and-left, and-right, and-both}
use Rattle.ess_semantics.proofs.Orders.{same_ints-equal, same_ints-itself}
use Rattle.ess_grammar.specs.Models.{Scope, empty_scope, with_given, with_find}
use Rattle.ess_core.specs.declared.tables.NamedTable.{NamedTable}
use Rattle.ess_core.specs.TableViews.{pure_named_table}
use Rattle.eprime_tree.specs.declared.expressions.PDom.{PDom}
use Rattle.eprime_tree.specs.declared.models.PDecl.{PDecl}
use Rattle.eprime_tree.specs.declared.models.PModel.{PModel}
use Rattle.eprime_tree.specs.Views.{pure_dom, pure_decl, pure_decls, pure_model, scope_of_givens}
use Rattle.eprime_eval_kinds.specs.Shapes.{decl_shape, shape_of}
use Rattle.eprime_eval.specs.declared.under.Under.{Under}
use Rattle.eprime_eval.specs.declared.members.Closed.{Closed}
use Rattle.eprime_eval.specs.ClosedDomains.{pure_closed as pure_cells}
use Rattle.eprime_eval.specs.UnderTables.{IsUnder}
use Rattle.eprime_verdicts.specs.Denoting.{InModels, Denotes, AreDenoted}
use Rattle.eprime_verdicts.specs.ClosedDecls.{has_axis, are_over}
use Rattle.eprime_verdicts.proofs.FoundDecls.{under-given}
use Rattle.ess_translate_members_laws.specs.CellForms.{plain}
use Rattle.ess_translate_members_laws.specs.PlanDomains.{plan_closed, tables_of_side}
use Rattle.ess_translate_members_laws.specs.DeclaresMembers.{DeclaresMembers}
use Rattle.ess_translate_members_laws.proofs.SideTables.{side-tables, declared-plain, declared-form}
use Rattle.ess_translate_cells.specs.declared.closing.ClosedTable.{ClosedTable}
use Rattle.ess_translate_cells.specs.ClosedTables.{AreClosedTables, Decides, AreTables}
use Rattle.ess_translate_members.specs.Sides.{SidesDeclared}

-- ---- one declaration

-- Each of some axes is there.
each-there : (o : Option (List ℤ)) (r : Option (List (List ℤ))) (a : List ℤ) (as' : List (List ℤ)) → o ≡ Some a → r ≡ Some as' →
    and_then o (λ y. option_map (λ ys. y ∷ ys) r) ≡ Some (a ∷ as')
each-there o r a as' p q = ap (λ x. and_then x (λ y. option_map (λ ys. y ∷ ys) r)) p ∙ ap (λ x. option_map (λ ys. a ∷ ys) x) q

-- So is the first, and the others.
abbrev Parts : Option (List ℤ) → Option (List (List ℤ)) → List (List ℤ) → Type 0
Parts o r [] = ⊥
Parts o r (a ∷ as') = (o ≡ Some a) × (r ≡ Some as')

each-parts : (o : Option (List ℤ)) (r : Option (List (List ℤ))) (bs : List (List ℤ)) →
    and_then o (λ y. option_map (λ ys. y ∷ ys) r) ≡ Some bs → Parts o r bs
each-parts None r bs e = cc
each-parts (Some a) None bs e = cc
each-parts (Some a) (Some as') [] e = cc
each-parts (Some a) (Some as') (b ∷ bs) e = let x : a ≡ b = cc in let y : as' ≡ bs = cc in (ap (λ z. Some z) x, ap (λ z. Some z) y)

axis-is : (d : Closed) (a : List ℤ) → has_axis d a ≡ true → axis_members (Some (pure_cells d)) ≡ Some a
axis-is d a h = go (axis_members (Some (pure_cells d))) h
  where
    go : (o : Option (List ℤ)) → is_some_and o (λ ns. same_ints ns a) ≡ true → o ≡ Some a
    go None h = cc
    go (Some ns) h = ap (λ l. Some l) (same_ints-equal ns a h)

is-axis : (d : Closed) (a : List ℤ) → axis_members (Some (pure_cells d)) ≡ Some a → has_axis d a ≡ true
is-axis d a h = ap (λ o. is_some_and o (λ ns. same_ints ns a)) h ∙ same_ints-itself a

module _ (u : Under) (E : Model) (q : Names pure.Table) (h : IsUnder u (map shape_of (all_decls E)) q) where
  abbrev here : Dom → Option Domain
  here d = model_domain (all_decls E) q d

  axis-here : (s : Scope) (d : PDom) (r : Closed) → Denotes u d r → axis_members (here (pure_dom s d)) ≡ axis_members (Some (pure_cells r))
  axis-here s d r p = ap axis_members (p E q s h)

  -- Axes over the domains that they denote.
  over-axes : (s : Scope) (ds : List PDom) (rs : List Closed) (as' : List (List ℤ)) → AreDenoted u ds rs → are_over rs as' ≡ true →
      each_of (map (pure_dom s) ds) (λ a. axis_members (here a)) ≡ Some as'
  over-axes s [] [] [] p e = refl
  over-axes s [] [] (a ∷ as') p e = cc
  over-axes s [] (r ∷ rs) as' p e = absurd p
  over-axes s (d ∷ ds) [] as' p e = absurd p
  over-axes s (d ∷ ds) (r ∷ rs) [] p e = cc
  over-axes s (d ∷ ds) (r ∷ rs) (a ∷ as') p e =
      each-there (axis_members (here (pure_dom s d))) (each_of (map (pure_dom s) ds) (λ a. axis_members (here a))) a as'
      (axis-here s d r p.0 ∙ axis-is r a (and-left (has_axis r a) (are_over rs as') e))
      (over-axes s ds rs as' p.1 (and-right (has_axis r a) (are_over rs as') e))

  axes-over : (s : Scope) (ds : List PDom) (rs : List Closed) (as' : List (List ℤ)) → AreDenoted u ds rs →
      each_of (map (pure_dom s) ds) (λ a. axis_members (here a)) ≡ Some as' → are_over rs as' ≡ true
  axes-over s [] [] [] p e = refl
  axes-over s [] [] (a ∷ as') p e = cc
  axes-over s [] (r ∷ rs) as' p e = absurd p
  axes-over s (d ∷ ds) [] as' p e = absurd p
  axes-over s (d ∷ ds) (r ∷ rs) [] p e =
      absurd (each-parts (axis_members (here (pure_dom s d))) (each_of (map (pure_dom s) ds) (λ a. axis_members (here a))) [] e)
  axes-over s (d ∷ ds) (r ∷ rs) (a ∷ as') p e =
      let w = each-parts (axis_members (here (pure_dom s d))) (each_of (map (pure_dom s) ds) (λ a. axis_members (here a))) (a ∷ as') e in
      and-both (has_axis r a) (are_over rs as') (is-axis r a (sym (axis-here s d r p.0) ∙ w.0)) (axes-over s ds rs as' p.1 w.1)

  cells-here : (s : Scope) (d : PDom) (r : Closed) (e : Domain) → Denotes u d r → SameMembers (Some (pure_cells r)) e →
      SameMembers (here (pure_dom s d)) e
  cells-here s d r e p m = subst (λ o. SameMembers o e) (sym (p E q s h)) m

  here-cells : (s : Scope) (d : PDom) (r : Closed) (e : Domain) → Denotes u d r → SameMembers (here (pure_dom s d)) e →
      SameMembers (Some (pure_cells r)) e
  here-cells s d r e p m = subst (λ o. SameMembers o e) (p E q s h) m

  -- ---- all of them

  pub tables-declared : (add : Scope → TableDecl → Scope) (s : Scope) (ds : List PDecl) (rs : List ClosedTable) (xs : List Declaration) →
      AreClosedTables u ds rs → AreTables rs xs → DeclaredAs here (pure_decls add s ds) xs
  tables-declared add s [] [] [] p t = tt
  tables-declared add s [] [] (x ∷ xs) p t = absurd t
  tables-declared add s [] (r ∷ rs) xs p t = absurd p
  tables-declared add s (d ∷ ds) [] xs p t = absurd p
  tables-declared add s (d ∷ ds) (r ∷ rs) [] p t = absurd t
  tables-declared add s (d ∷ ds) (r ∷ rs) (x ∷ xs) p t = (
    over-axes s d.axes r.axes x.axes (p.0).axes (t.0).axes,
    cells-here s d.cell r.cell x.cell (p.0).cell (t.0).cell,
    tables-declared add (add s (pure_decl s d)) ds rs xs p.1 t.1,
  )

  pub declared-tables : (add : Scope → TableDecl → Scope) (s : Scope) (ds : List PDecl) (rs : List ClosedTable) (xs : List Declaration) →
      AreClosedTables u ds rs → DeclaredAs here (pure_decls add s ds) xs → AreTables rs xs
  declared-tables add s [] [] [] p t = tt
  declared-tables add s [] [] (x ∷ xs) p t = absurd t
  declared-tables add s [] (r ∷ rs) xs p t = absurd p
  declared-tables add s (d ∷ ds) [] xs p t = absurd p
  declared-tables add s (d ∷ ds) (r ∷ rs) [] p t = absurd t
  declared-tables add s (d ∷ ds) (r ∷ rs) (x ∷ xs) p t = (
    record { axes = axes-over s d.axes r.axes x.axes (p.0).axes t.0; cell = here-cells s d.cell r.cell x.cell (p.0).cell t.1 },
    declared-tables add (add s (pure_decl s d)) ds rs xs p.1 t.2,
  )

-- ---- declarations without a meaning

axis-meant : (o : Option Domain) (a : List ℤ) → axis_members o ≡ Some a → is_some o ≡ true
axis-meant None a e = cc
axis-meant (Some d) a e = refl

axes-meant : (f : Dom → Option Domain) (as' : List Dom) (bs : List (List ℤ)) → each_of as' (λ a. axis_members (f a)) ≡ Some bs →
    list_all (λ a. is_some (f a)) as' ≡ true
axes-meant f [] bs e = refl
axes-meant f (a ∷ as') [] e = absurd (each-parts (axis_members (f a)) (each_of as' (λ a. axis_members (f a))) [] e)
axes-meant f (a ∷ as') (b ∷ bs) e =
    let w = each-parts (axis_members (f a)) (each_of as' (λ a. axis_members (f a))) (b ∷ bs) e in
    and-both (is_some (f a)) (list_all (λ a. is_some (f a)) as') (axis-meant (f a) b w.0) (axes-meant f as' bs w.1)

cell-meant : (o : Option Domain) (e : Domain) → SameMembers o e → is_some o ≡ true
cell-meant None e m = absurd m
cell-meant (Some d) e m = refl

all-meant : (E : Model) (q : Names pure.Table) (ts : List TableDecl) (xs : List Declaration) →
    DeclaredAs (model_domain (all_decls E) q) ts xs →
    list_all (domain_has_meaning E q) ts ≡ true
all-meant E q [] [] h = refl
all-meant E q [] (x ∷ xs) h = absurd h
all-meant E q (t ∷ ts) [] h = absurd h
all-meant E q (t ∷ ts) (x ∷ xs) h =
    and-both (domain_has_meaning E q t) (list_all (domain_has_meaning E q) ts)
    (and-both (list_all (λ a. is_some (model_domain (all_decls E) q a)) t.axes) (is_some (model_domain (all_decls E) q t.cell))
    (axes-meant (model_domain (all_decls E) q) t.axes x.axes h.0) (cell-meant (model_domain (all_decls E) q t.cell) x.cell h.1))
    (all-meant E q ts xs h.2)

-- ---- errors that go up

-- The error that went up is the one that came.
pub same_error : {T E : Type 0} (r : Result T E) (cause stop : E) → IsErrAnd r (λ up. up ≡ cause) → r ≡ Err stop → cause ≡ stop
same_error (Ok x) cause stop is e = cc
same_error (Err up) cause stop is e = let same : up ≡ stop = cc in sym is ∙ same

-- ---- one side

no-false : false ≡ true → ⊥
no-false x = cc

-- Declared tables decide what declarations have.
pub side_decided : (u : Under) (ds : List PDecl) (rs : List ClosedTable) (xs : List Declaration) (b : Bool) → AreClosedTables u ds rs →
    Decides b (AreTables rs xs) → InModels u (λ E q s. (add : Scope → TableDecl → Scope) →
    Decides b (DeclaredAs (model_domain (all_decls E) q) (pure_decls add s ds) xs))
side_decided u ds rs xs b p d E q s h add = record {
  yes = λ z. tables-declared u E q h add s ds rs xs p (d.yes z);
  no = λ z t. d.no z (declared-tables u E q h add s ds rs xs p t);
}

-- Without a meaning nothing is declared.
pub side_undefined : (u : Under) (ds : List PDecl) (xs : List Declaration) →
    InModels u (λ E q s. (add : Scope → TableDecl → Scope) → list_all (domain_has_meaning E q) (pure_decls add s ds) ≡ false) →
    InModels u (λ E q s. (add : Scope → TableDecl → Scope) →
    Decides false (DeclaredAs (model_domain (all_decls E) q) (pure_decls add s ds) xs))
side_undefined u ds xs p E q s h add = record {
  yes = λ z. absurd (no-false z);
  no = λ z t. no-false (sym (p E q s h add) ∙ all-meant E q (pure_decls add s ds) xs t);
}

-- ---- both sides

-- The givens decide where they aren't declared, else the finds.
pub givens_fail : (u : Under) (m : PModel) (q : Names pure.Table) (ps : List pure_plans.Plan) (os : List (Option Domain)) (b : Bool) →
    b ≡ false →
    InModels u (λ E q s. (add : Scope → TableDecl → Scope) →
    Decides b (DeclaredAs (model_domain (all_decls E) q) (pure_decls add s m.givens) (tables_of_side givens_side ps os))) →
    IsUnder u (map shape_of (all_decls (pure_model m))) q → Decides false (SidesDeclared (pure_model m) q ps os)
givens_fail u m q ps os b e g h = record {
  yes = λ z. absurd (no-false z);
  no = λ z t. (g (pure_model m) q empty_scope h with_given).no e t.givens;
}

pub finds_decide : (u : Under) (m : PModel) (q : Names pure.Table) (ps : List pure_plans.Plan) (os : List (Option Domain)) (a b : Bool) →
    a ≡ true →
    InModels u (λ E q s. (add : Scope → TableDecl → Scope) →
    Decides a (DeclaredAs (model_domain (all_decls E) q) (pure_decls add s m.givens) (tables_of_side givens_side ps os))) →
    InModels u (λ E q s. (add : Scope → TableDecl → Scope) →
    Decides b (DeclaredAs (model_domain (all_decls E) q) (pure_decls add s m.finds) (tables_of_side finds_side ps os))) →
    IsUnder u (map shape_of (all_decls (pure_model m))) q → Decides b (SidesDeclared (pure_model m) q ps os)
finds_decide u m q ps os a b e g f h = record {
  yes = λ z. record {
    givens = (g (pure_model m) q empty_scope h with_given).yes e;
    finds = (f (pure_model m) q (scope_of_givens m) h with_find).yes z;
  };
  no = λ z t. (f (pure_model m) q (scope_of_givens m) h with_find).no z t.finds;
}

or-left : (a b : Bool) → a ≡ true → a || b ≡ true
or-left true b e = refl
or-left false b e = cc

or-right : (a b : Bool) → b ≡ true → a || b ≡ true
or-right true b e = refl
or-right false b e = e

pub givens_large : (u : Under) (m : PModel) (q : Names pure.Table) →
    InModels u (λ E q s. (add : Scope → TableDecl → Scope) → list_any (decl_is_large (all_decls E) q) (pure_decls add s m.givens) ≡ true) →
    IsUnder u (map shape_of (all_decls (pure_model m))) q → declares_large (pure_model m) q ≡ true
givens_large u m q g h =
    list_any-append (decl_is_large (all_decls (pure_model m)) q) (pure_model m).givens (pure_model m).finds
    ∙ or-left _ (list_any (decl_is_large (all_decls (pure_model m)) q) (pure_model m).finds) (g (pure_model m) q empty_scope h with_given)

pub finds_large : (u : Under) (m : PModel) (q : Names pure.Table) →
    InModels u (λ E q s. (add : Scope → TableDecl → Scope) → list_any (decl_is_large (all_decls E) q) (pure_decls add s m.finds) ≡ true) →
    IsUnder u (map shape_of (all_decls (pure_model m))) q → declares_large (pure_model m) q ≡ true
finds_large u m q f h =
    list_any-append (decl_is_large (all_decls (pure_model m)) q) (pure_model m).givens (pure_model m).finds
    ∙ or-right (list_any (decl_is_large (all_decls (pure_model m)) q) (pure_model m).givens) _ (f (pure_model m) q
    (scope_of_givens m) h with_find)

-- ---- a header

-- Over the domains of its plans, a header's sides are declared where its members are.
side-under : (H : Header) (E : Model) (p : Assignment) (q : Names pure.Table) (f : pure_plans.Side) (ps : List pure_plans.Plan)
    (os : List (Option Domain)) →
    ps ≡ pure_plans.plans H.statements H.reprs →
    os ≡ map (plan_closed (env_of H.statements p nothing_given)) (pure_plans.plans H.statements H.reprs) →
    map plain (declared_under f H.statements H.reprs p) ≡ tables_of_side f ps os
side-under H E p q f ps os a b =
    side-tables f H.statements H.reprs p ∙ ap (λ l. tables_of_side f (pure_plans.plans H.statements H.reprs) l) (sym b)
    ∙ ap (λ l. tables_of_side f l os) (sym a)

pub by_sides : (H : Header) (E : Model) (p : Assignment) (q : Names pure.Table) (ps : List pure_plans.Plan) (os : List (Option Domain))
    (b : Bool) →
    ps ≡ pure_plans.plans H.statements H.reprs →
    os ≡ map (plan_closed (env_of H.statements p nothing_given)) (pure_plans.plans H.statements H.reprs) →
    Decides b (SidesDeclared E q ps os) → Decides b (DeclaresMembers H E p q)
by_sides H E p q ps os b a o d = record { yes = λ z. members (d.yes z); no = λ z m. d.no z (sides m) }
  where
    members : SidesDeclared E q ps os → DeclaresMembers H E p q
    members s = record {
      givens = declared-plain (model_domain (all_decls E) q) E.givens (declared_under givens_side H.statements H.reprs p)
          (subst (DeclaredAs (model_domain (all_decls E) q) E.givens) (sym (side-under H E p q givens_side ps os a o)) s.givens);
      finds = declared-plain (model_domain (all_decls E) q) E.finds (declared_under finds_side H.statements H.reprs p)
          (subst (DeclaredAs (model_domain (all_decls E) q) E.finds) (sym (side-under H E p q finds_side ps os a o)) s.finds);
    }

    sides : DeclaresMembers H E p q → SidesDeclared E q ps os
    sides m = record {
      givens = subst (DeclaredAs (model_domain (all_decls E) q) E.givens) (side-under H E p q givens_side ps os a o)
          (declared-form (model_domain (all_decls E) q) E.givens (declared_under givens_side H.statements H.reprs p) m.givens);
      finds = subst (DeclaredAs (model_domain (all_decls E) q) E.finds) (side-under H E p q finds_side ps os a o)
          (declared-form (model_domain (all_decls E) q) E.finds (declared_under finds_side H.statements H.reprs p) m.finds);
    }

-- The declarations of a model with given tables alone.
pub with_given_alone : (u : Under) (m : PModel) (q : List NamedTable) →
    IsUnder u (map decl_shape (m.givens ++ m.finds)) (map pure_named_table (q ++ [])) →
    IsUnder u (map shape_of (all_decls (pure_model m))) (map pure_named_table q)
with_given_alone u m q h = under-given u m q h

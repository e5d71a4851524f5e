-- A plan of nested sets fits its domain, and declares the tables of its representation.
use Rattle.std.proofs.Common.{◌≡◌, refl, sym, ap, ◌∙◌, subst, List, [], ◌∷◌, ◌++◌, map, true, false, Some, option_map, ◌&&◌}
use Rattle.ess_semantics.specs.Lists.{and_then, each_of}
use Rattle.ess_semantics.specs.Values.{Text}
use Rattle.ess_semantics.specs.Names.{Names, keys}
use Rattle.ess_semantics.specs.Trees.{Repr, repr, no_reprs, Ex, no_exs, Dom, set_dom, Stm}
use Rattle.ess_semantics.specs.Domains.{Domain}
use Rattle.ess_semantics.specs.Tables.{Table}
use Rattle.ess_semantics.specs.Kinds.{fits}
use Rattle.ess_semantics.specs.Contexts.{Each}
use Rattle.ess_semantics.specs.TableNames.{table_names, named_tables, free_name}
use Rattle.ess_semantics.specs.Declarations.{Declaration, declarations}
use Rattle.ess_semantics.specs.DeclaredTables.{TableDecl, decl_name, axis_members, SameMembers, DeclaredAs, Declares}
use Rattle.ess_semantics.specs.Meaning.{domain_of}
use Rattle.ess_semantics.specs.Positions.{domain_with_positions}
use Rattle.ess_semantics.specs.ModelMeaning.{env_of_tables, model_domain}
use Rattle.ess_semantics.specs.Plans.{Side, value_plan}
use Rattle.ess_repr_laws.proofs.MembersHaveTables.{roomy-covered}
use Rattle.ess_repr_laws.proofs.PlanDomains.{plan-roomy}
use Rattle.ess_repr_laws.specs.TypedDomains.{Typed}
use Rattle.ess_repr_declare_laws.specs.DeclaredTrees.{decl, trees_below, named_trees, declared_trees}
use Rattle.ess_repr_members_laws.specs.Fields.{Fielded}
use Rattle.ess_repr_members_laws.proofs.DeclaredMembers.{trees-declare}
use Rattle.ess_semantics.proofs.Tests.{and-both}
use Rattle.ess_semantics.specs.declared.words.ReprKind.{ReprKind}
use Rattle.conjure_laws.specs.SetsOfAtoms.{TypeKind}
use Rattle.conjure_laws.proofs.SetPlans.{Occ}
use Rattle.ess_nested_laws.specs.NestedDomains.{is_nested_dom}
use Rattle.ess_mixed_models_laws.specs.MixedSpecifications.{is_member_dom, is_occurrence_alone}
use Rattle.ess_mixed_models_laws.proofs.NamedKinds.{no-yes}
use Rattle.ess_nested_laws.proofs.NestedForms.{WrittenAtom, written_truths, written_numbers, NestedSet, of_atoms, of_sets, nested-form, kept-as}
use Rattle.ess_nested_laws.proofs.NestedDenoted.{written_domain, nested-denoted, nested-natural, nested-typed, nested-sound, nested-fitting}
use Rattle.ess_nested_tables_laws.proofs.TableBounds.{DomHas, DeclHas}
use Rattle.ess_nested_tables_laws.proofs.ReckonedTables.{Numeral, tables-numeral, dom-stays}
use Rattle.conjure_laws.specs.Premises.{here, PlanFits}
use Rattle.conjure_laws.specs.Fields.{HasFields}
use Rattle.conjure_laws.proofs.TableCounts.{names-wide, named-long, declared-long}
use Rattle.conjure_model_laws.specs.IsBuiltFrom.{with_whole_names}

-- ---- fields

atom-fields : {d : Dom} → WrittenAtom d → HasFields d
atom-fields written_truths = tt
atom-fields written_numbers = tt

nested-fields : {d : Dom} → NestedSet d → HasFields d
nested-fields (of_atoms s a) = atom-fields a
nested-fields (of_sets s n) = nested-fields n

atom-fielded : {d : Dom} → WrittenAtom d → Fielded d
atom-fielded written_truths = tt
atom-fielded written_numbers = tt

nested-fielded : {d : Dom} → NestedSet d → Fielded d
nested-fielded (of_atoms s a) = atom-fielded a
nested-fielded (of_sets s n) = nested-fielded n

one : {d e : Domain} → Some d ≡ Some e → d ≡ e
one c = cc

-- A plan of nested sets fits.
pub nested-plan-fits : (S : List Stm) (f : Side) (x : Text) (r : Repr) (d : Dom) (taken : List Text) → NestedSet d → fits r d ≡ true →
    PlanFits S (value_plan f x r d (named_tables x (table_names r d) taken))
nested-plan-fits S f x r d taken n h p e P q =
    let g = nested-fitting n r h in
    let room = plan-roomy r d (here S p) (domain_with_positions e) g.well g.known g.fit (ap (option_map domain_with_positions) q) in
    let a = named-long x (table_names r d) taken ∙ names-wide r d (nested-fields n) h in
    let b = declared-long r (domain_with_positions e) (roomy-covered r (domain_with_positions e) room) in
    (record { typed = subst Typed (one (sym (nested-denoted n (here S p)) ∙ q)) (nested-typed n); roomy = room }, a ∙ sym b)

-- ---- declared tables

named-again : (x : Text) (ts : List TableDecl) (taken : List Text) →
    with_whole_names (keys (map decl_name (named_trees x ts taken))) ts ≡ named_trees x ts taken
named-again x [] taken = refl
named-again x (t ∷ ts) taken =
    let a : Text = free_name taken (x ++ t.name) in ap (λ l. decl a t.axes t.cell ∷ l) (named-again x ts (a ∷ taken))

module _ (r : Repr) (d : Dom) (x : Text) (taken : List Text) (n : NestedSet d) (h : fits r d ≡ true) where
  -- The tables of the representation have these names.
  pub nested-declares : Declares r d x taken (declared_trees r d x taken)
  nested-declares = trees-declare r d x taken (nested-sound n) (nested-fielded n) h

  -- The tables of the plan are they.
  pub nested-trees : with_whole_names (keys (named_tables x (table_names r d) taken)) (trees_below false r d) ≡ declared_trees r d x taken
  nested-trees =
      ap (λ l. with_whole_names (keys l) (trees_below false r d)) (sym nested-declares.names) ∙ named-again x (trees_below false r d) taken

-- Tables with other names have the same axes and cells.
pub renamed-have : (Q : Ex → Type 0) (ns : List Text) (ts : List TableDecl) → Each ts (DeclHas Q) →
    Each (with_whole_names ns ts) (DeclHas Q)
renamed-have Q [] ts h = tt
renamed-have Q (a ∷ ns) [] h = tt
renamed-have Q (a ∷ ns) (t ∷ ts) h = (h.0, renamed-have Q ns ts h.1)

-- ---- those told apart from sets by which members occur

occurrence-is : (r : Repr) → is_occurrence_alone (r ∷ []) ≡ true → r ≡ Occ
occurrence-is (repr ReprKind.Occurrence no_reprs) h = refl
occurrence-is r h = absurd (no-yes h)

atoms-alone : (ks : Names TypeKind) {A : Dom} → NestedSet (set_dom [] no_exs A) → fits Occ (set_dom [] no_exs A) ≡ true →
    is_member_dom ks A ≡ true
atoms-alone ks (of_atoms s written_truths) f = refl
atoms-alone ks (of_atoms s written_numbers) f = refl
atoms-alone ks (of_sets s (of_atoms t a)) f = absurd (no-yes f)
atoms-alone ks (of_sets s (of_sets t n)) f = absurd (no-yes f)

-- Nested sets that have no attributes and are kept as the members that occur are none of those told apart.
pub nested-apart : (ks : Names TypeKind) (A : Dom) (r : Repr) → is_nested_dom (set_dom [] no_exs A) ≡ true →
    fits r (set_dom [] no_exs A) ≡ true → is_member_dom ks A && is_occurrence_alone (r ∷ []) ≡ false →
    is_occurrence_alone (r ∷ []) ≡ true → ⊥
nested-apart ks A r n f k c =
    let q = atoms-alone ks (nested-form 250 (set_dom [] no_exs A) n)
    (ap (λ r. fits r (set_dom [] no_exs A)) (sym (occurrence-is r c)) ∙ f) in
    let z : false ≡ true = sym k ∙ and-both (is_member_dom ks A) (is_occurrence_alone (r ∷ [])) q c in no-yes z

-- ---- in a model

module _ (ds : List TableDecl) (q : Names Table) where
  axes-same : (as' : List Dom) → Each as' (DomHas Numeral) →
      each_of as' (λ a. axis_members (model_domain ds q a)) ≡ each_of as' (λ a. axis_members (domain_of a (env_of_tables q)))
  axes-same [] h = refl
  axes-same (a ∷ as') h =
      ap (λ z. and_then (axis_members (domain_of z (env_of_tables q))) (λ y. option_map (λ ys. y ∷ ys)
      (each_of as' (λ a. axis_members (model_domain ds q a))))) (dom-stays ds a h.0)
      ∙ ap (λ z. and_then (axis_members (domain_of a (env_of_tables q))) (λ y. option_map (λ ys. y ∷ ys) z)) (axes-same as' h.1)

  -- Tables whose bounds are arithmetic of numerals declare in a model what they declare.
  declared-same : (ts : List TableDecl) (es : List Declaration) → Each ts (DeclHas Numeral) →
      DeclaredAs (λ a. domain_of a (env_of_tables q)) ts es → DeclaredAs (model_domain ds q) ts es
  declared-same [] [] n h = tt
  declared-same [] (e ∷ es) n h = absurd h
  declared-same (t ∷ ts) [] n h = absurd h
  declared-same (t ∷ ts) (e ∷ es) n h = (
    axes-same t.axes n.0.0 ∙ h.0,
    subst (λ z. SameMembers (domain_of z (env_of_tables q)) e.cell) (sym (dom-stays ds t.cell n.0.1)) h.1,
    declared-same ts es n.1 h.2,
  )

  -- So do those of nested sets.
  pub nested-declared-as : (r : Repr) (d : Dom) (x : Text) (taken : List Text) → NestedSet d → fits r d ≡ true →
      DeclaredAs (model_domain ds q) (with_whole_names (keys (named_tables x (table_names r d) taken)) (trees_below false r d))
      (declarations r (written_domain d))
  nested-declared-as r d x taken n h =
      let ns : List Text = keys (named_tables x (table_names r d) taken) in
      declared-same (with_whole_names ns (trees_below false r d)) (declarations r (written_domain d))
      (renamed-have Numeral ns (trees_below false r d) (tables-numeral false (kept-as n r h)))
      (subst (λ l. DeclaredAs (λ a. domain_of a (env_of_tables q)) l (declarations r (written_domain d)))
      (sym (nested-trees r d x taken n h))
      ((nested-declares r d x taken n h).members (env_of_tables q) (written_domain d) (nested-denoted n (env_of_tables q))
      (nested-natural n)))

-- Tables that match fit the declarations of the model, have their structures and channels, and stand for the values.
use Rattle.std.proofs.Common.{◌≡◌, refl, sym, ap, ◌∙◌, true, List, [], ◌∷◌, map, filter, Some, option_map}
use Rattle.std.specs.List.{list_all}
use Rattle.ess_semantics.specs.Lists.{append_all, zip, is_some_and, list_or_none}
use Rattle.ess_semantics.specs.Values.{Text, Value}
use Rattle.ess_semantics.specs.Order.{same}
use Rattle.ess_semantics.specs.Names.{Names, keys, all_distinct}
use Rattle.ess_semantics.specs.Trees.{Repr, Ex, Dom, Stm}
use Rattle.ess_semantics.specs.Tables.{Table, Tables}
use Rattle.ess_semantics.specs.Declarations.{declarations}
use Rattle.ess_semantics.specs.TableNames.{Named}
use Rattle.ess_semantics.specs.DeclaredTables.{decl_name}
use Rattle.ess_semantics.specs.Meaning.{Env, domain_of, tables_in}
use Rattle.ess_semantics.specs.Assignments.{Assignment, value_of}
use Rattle.ess_semantics.specs.Plans.{Options, Plan, size_plan, value_plan, names_of_plan, plans, plans_for, table_list, declared_by_plan, declared_under, plan_stands, value_names, type_names, Stands, is_plan_of, finds_side, Side, stands_for_member, givens_side}
use Rattle.conjure_laws.specs.Premises.{is_on, Instance, here, tables_are, PlanHolds}
use Rattle.conjure_laws.specs.ModelPremises.{StructureMeans, ChannelMeans, ChannelsMean, Rules, Base}
use Rattle.ess_semantics.specs.ModelTrees.{Model, all_decls}
use Rattle.ess_semantics.specs.Satisfaction.{tables_fit, rule_holds}
use Rattle.ess_semantics.proofs.Orders.{same-itself}
use Rattle.ess_semantics.proofs.Texts.{same_text-equal}
use Rattle.ess_semantics.specs.Contexts.{Each}
use Rattle.conjure_laws.proofs.Lists.{each-map, list-of-each, at-item, all-items, in-filtered, in-filter, along-map, along-both, along-left, left-of, tests-along, along-over}
use Rattle.conjure_laws.specs.Members.{In}
use Rattle.conjure_laws.specs.SideBySide.{Along}
use Rattle.conjure_laws.proofs.NamedTables.{AsMany, chunks-named, chunks-zip, chunks-keys, all-join, are-fit}
use Rattle.conjure_laws.proofs.FreeNames.{names-differ}
use Rattle.conjure_laws.proofs.Matching.{Matched, PlanMatch, Match, match-long}
use Rattle.ess_semantics.specs.Positions.{domain_with_positions, with_positions}
use Rattle.conjure_laws.proofs.NamedValues.{one-of}
use Rattle.ess_repr_laws.proofs.PlansStand.{canonical-stands}

module _ (S : List Stm) (o : Options) (E : Model) (L : Base S o E) (p : Assignment) (q : Names Table) (I : Instance S o p q) where
  abbrev Z : Env
  Z = here S p

  abbrev Ps : List Plan
  Ps = plans_for finds_side S o

  -- Each plan's tables are found by their names.
  pub matched-named : (a : Assignment) (c : Names Table) (m : Matched S o p a c) →
      Along Ps m.tss (λ P ts. PlanMatch S p a P ts × (tables_in c (keys (names_of_plan P)) ≡ Some ts))
  matched-named a c m =
      let l : Along Ps m.tss AsMany = along-map Ps m.tss (PlanMatch S p a) AsMany (match-long S p a) m.each in
      along-both Ps m.tss (PlanMatch S p a) (λ P ts. tables_in c (keys (names_of_plan P)) ≡ Some ts) _ (λ P ts x y. (x, y)) m.each
      (chunks-named c (ap all_distinct (ap keys m.all ∙ chunks-keys Ps m.tss l) ∙ names-differ finds_side S o) [] Ps m.tss l m.all)

  -- Its tables are found by their names, and match.
  abbrev pub Found : Assignment → Names Table → Plan → Type 0
  Found a c P = (ts : Tables) × PlanMatch S p a P ts × (tables_in c (keys (names_of_plan P)) ≡ Some ts)

  -- So are those of each plan.
  pub matched-found : (a : Assignment) (c : Names Table) → Matched S o p a c → Each Ps (Found a c)
  matched-found a c m = left-of Ps m.tss (Found a c) _ (λ P ts h. (ts, h.0, h.1)) (matched-named a c m)

  -- The names are those of the plans.
  pub matched-keys : (a : Assignment) (c : Names Table) → Matched S o p a c → keys c ≡ keys (table_list finds_side S o)
  matched-keys a c m = ap keys m.all ∙ chunks-keys Ps m.tss (along-map Ps m.tss (PlanMatch S p a) AsMany (match-long S p a) m.each)

  declared-are : (a : Assignment) (P : Plan) (ts : Tables) → PlanMatch S p a P ts → tables_are (declared_by_plan Z P) ts ≡ true
  declared-are a (size_plan t n) ts m = absurd m
  declared-are a (value_plan f x r d ns) ts m = ap (λ o. tables_are
      (list_or_none (option_map (declarations r) (option_map domain_with_positions o))) ts) m.closed ∙ m.are

  -- Tables that match fit the declarations.
  pub matched-fit : (a : Assignment) (c : Names Table) → Matched S o p a c → tables_fit (all_decls E) q E.finds c ≡ true
  matched-fit a c m =
      let ts : Tables = append_all m.tss in
      let t : tables_are (declared_under finds_side S o p) ts ≡ true =
      all-join (declared_by_plan Z) Ps m.tss (along-map Ps m.tss (PlanMatch S p a) _ (declared-are a) m.each) in
      let z : zip (keys (map decl_name E.finds)) ts ≡ c =
      ap (λ l. zip (keys l) ts) L.declares.find_names ∙ chunks-zip Ps m.tss
      (along-map Ps m.tss (PlanMatch S p a) AsMany (match-long S p a) m.each) ∙ sym m.all in
      ap (tables_fit (all_decls E) q E.finds) (sym z) ∙ are-fit (all_decls E) q E.finds (declared_under finds_side S o p) ts
      (L.declares.find_domains p q I) t

  -- Its tables are canonical, and stand for its value.
  pub match-holds : (a : Assignment) (c : Names Table) (f : Side) (x : Text) (r : Repr) (d : Dom) (ns : List Named) (ts : Tables)
      (m : Match S p a x r d ns ts) → tables_in c (keys ns) ≡ Some ts → PlanHolds S p c (value_plan f x r d ns) (with_positions m.v)
  match-holds a c f x r d ns ts m n = (
    domain_with_positions m.e,
    ts,
    record { closed = ap (option_map domain_with_positions) m.closed; named = n; are = m.are },
    m.passes,
    m.stands,
  )

  structure-holds : (a : Assignment) (c : Names Table) → tables_fit (all_decls E) q E.finds c ≡ true → (P : Plan) (rs : List Ex) →
      Found a c P → StructureMeans S o E P rs → list_all (rule_holds E q c) rs ≡ true
  structure-holds a c t (size_plan u n) rs F h = absurd F.1
  structure-holds a c t (value_plan f x r d ns) rs F h =
      h p q c (domain_with_positions F.1.e) F.0 I t (record {
        closed = ap (option_map domain_with_positions) F.1.closed;
        named = F.2;
        are = F.1.are;
      })
      ∙ F.1.passes

  -- Structures hold of tables that match.
  pub matched-structures : (R : Rules S o E) (a : Assignment) (c : Names Table) → Matched S o p a c →
      list_all (rule_holds E q c) (append_all R.structures) ≡ true
  matched-structures R a c m =
      tests-along (rule_holds E q c) Ps R.structures
      (along-left Ps R.structures (Found a c) (StructureMeans S o E) _ (structure-holds a c (matched-fit a c m)) (matched-found a c m)
      R.structures_mean)

  -- A plan holds for the value of a find.
  abbrev HoldsFor : Assignment → Names Table → Text → Plan → Type 0
  HoldsFor a c x P = (v : Value) × PlanHolds S p c P (with_positions v) × (value_of a x ≡ Some v)

  group-holds : (a : Assignment) (c : Names Table) → Matched S o p a c → (x : Text) →
      Each (filter (is_plan_of x) (plans S o)) (HoldsFor a c x)
  group-holds a c m x = all-items (HoldsFor a c x) (filter (is_plan_of x) (plans S o))
      (λ P i. let h = in-filter (is_plan_of x) P (plans S o) i in go P h.0 h.1)
    where
      go : (P : Plan) → In P (plans S o) → is_plan_of x P ≡ true → HoldsFor a c x P
      go (size_plan t n) i e = cc
      go (value_plan givens_side y r d ns) i e = cc
      go (value_plan finds_side y r d ns) i e =
          let F = at-item (Found a c) Ps (value_plan finds_side y r d ns) (matched-found a c m)
          (in-filtered (is_on finds_side) (value_plan finds_side y r d ns) (plans S o) i refl) in
          (F.1.v, match-holds a c finds_side y r d ns F.0 F.1 F.2, ap (value_of a) (sym (same_text-equal y x e)) ∙ F.1.value)

  channels-hold : (a : Assignment) (c : Names Table) → tables_fit (all_decls E) q E.finds c ≡ true →
      (x : Text) (G : List Plan) (css : List (List Ex)) → Each G (HoldsFor a c x) → ChannelsMean S o E G css →
      list_all (rule_holds E q c) (append_all css) ≡ true
  channels-hold a c t x [] css H h = absurd h
  channels-hold a c t x (P ∷ Qs) css H h =
      tests-along (rule_holds E q c) Qs css (along-left Qs css (HoldsFor a c x) (ChannelMeans S o E P) _ (λ Q rs k j.
      j p q c (with_positions H.0.0) (with_positions k.0) I t H.0.1 k.1
      ∙ ap (λ w. same (with_positions H.0.0) (with_positions w)) (one-of k.0 H.0.0 (value_of a x) k.2 H.0.2)
      ∙ same-itself (with_positions H.0.0)) H.1 h)

  -- Channels hold of tables that match.
  pub matched-channels : (R : Rules S o E) (a : Assignment) (c : Names Table) → Matched S o p a c →
      list_all (rule_holds E q c) (append_all (map append_all R.channels)) ≡ true
  matched-channels R a c m =
      tests-along (rule_holds E q c) (value_names finds_side S) (map append_all R.channels)
      (along-over append_all (value_names finds_side S) R.channels (λ x l. list_all (rule_holds E q c) l ≡ true)
      (along-map (value_names finds_side S) R.channels (λ x css. ChannelsMean S o E (filter (is_plan_of x) (plans S o)) css) _
      (λ x css h. channels-hold a c (matched-fit a c m) x (filter (is_plan_of x) (plans S o)) css (group-holds a c m x) h)
      R.channels_mean))

  -- The canonical tables of a member stand for it.
  match-stands : (a : Assignment) (x : Text) (r : Repr) (d : Dom) (ns : List Named) (ts : Tables) (m : Match S p a x r d ns ts) →
      stands_for_member r m.e ts m.v ≡ true
  match-stands a x r d ns ts m = canonical-stands r m.e m.fit.typed m.fit.roomy m.v m.inside ts m.there

  plan-stands : (a : Assignment) (c : Names Table) (P : Plan) → Found a c P → plan_stands Z a c P ≡ true
  plan-stands a c (size_plan t n) F = absurd F.1
  plan-stands a c (value_plan f x r d ns) F =
      ap (λ o. is_some_and o (λ v. is_some_and (domain_of d Z) (λ e. is_some_and (tables_in c (keys ns))
      (λ ts. stands_for_member r e ts v)))) F.1.value
      ∙ ap (λ o. is_some_and o (λ e. is_some_and (tables_in c (keys ns)) (λ ts. stands_for_member r e ts F.1.v))) F.1.closed
      ∙ ap (λ o. is_some_and o (λ ts. stands_for_member r F.1.e ts F.1.v)) F.2
      ∙ match-stands a x r d ns F.0 F.1

  -- Tables that match stand for the values.
  pub matched-stands : (a : Assignment) (c : Names Table) → Matched S o p a c → keys a.vals ≡ value_names finds_side S →
      keys a.types ≡ type_names finds_side S → Stands S o p a c
  matched-stands a c m n t = record {
    names = n;
    types = t;
    tables = matched-keys a c m;
    each_stands = list-of-each Ps (plan_stands Z a c) (each-map Ps (Found a c) _ (plan-stands a c) (matched-found a c m));
  }

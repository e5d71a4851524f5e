-- Tables that fit the declarations and have their structures are canonical, plan by plan, and stand for members.
use Rattle.std.proofs.Common.{◌≡◌, sym, ap, ◌∙◌, subst, true, List, [], length, Some, option_map}
use Rattle.std.specs.List.{list_all}
use Rattle.ess_semantics.specs.Lists.{append_all, and_then, zip, is_some_and, list_or_none}
use Rattle.ess_semantics.specs.Values.{Text, Value}
use Rattle.ess_semantics.specs.Names.{Names, keys, all_distinct}
use Rattle.ess_semantics.specs.Trees.{Repr, Ex, Dom, Stm}
use Rattle.ess_semantics.specs.Domains.{Domain}
use Rattle.ess_semantics.specs.Membership.{member}
use Rattle.ess_semantics.specs.Tables.{Table, Tables}
use Rattle.ess_semantics.specs.Cells.{cells_of}
use Rattle.ess_semantics.specs.Representations.{value_of_cells, value_of_tables}
use Rattle.ess_semantics.specs.Declarations.{declarations}
use Rattle.ess_semantics.specs.CanonicalTest.{canonical}
use Rattle.ess_semantics.specs.TableNames.{Named}
use Rattle.ess_semantics.specs.Meaning.{Env, domain_of, tables_in}
use Rattle.ess_semantics.specs.Assignments.{Assignment, value_of}
use Rattle.ess_semantics.specs.Plans.{Options, Plan, size_plan, value_plan, names_of_plan, plans, plans_for, table_list, declared_by_plan, declared_under, same_value, value_by_plan, finds_side, Side, value_with_types}
use Rattle.conjure_laws.specs.Premises.{Instance, here, tables_are, RepresentationFits, PlanHolds}
use Rattle.conjure_laws.specs.ModelPremises.{StructureMeans, Rules, Base}
use Rattle.ess_semantics.specs.ModelTrees.{Model, all_decls}
use Rattle.ess_semantics.specs.Satisfaction.{tables_fit, rule_holds}
use Rattle.ess_semantics.proofs.Tests.{and-left, some-and, and-both}
use Rattle.ess_semantics.proofs.Orders.{same-itself}
use Rattle.ess_semantics.specs.Contexts.{Each}
use Rattle.conjure_laws.proofs.Lists.{all-items, along-map, along-both, along-left, left-of, length-along, along-tests}
use Rattle.conjure_laws.specs.Members.{In}
use Rattle.ess_repr_laws.specs.CanonicalTables.{Right}
use Rattle.ess_repr_laws.proofs.CanonicalForms.{right}
use Rattle.conjure_laws.specs.SideBySide.{Along}
use Rattle.conjure_laws.proofs.NamedTables.{chunks, AsMany, chunks-named, chunks-zip, chunks-keys, all-split, are-long, are-over, fit-are}
use Rattle.conjure_laws.proofs.FreeNames.{names-differ}
use Rattle.ess_semantics.specs.Positions.{domain_with_positions, with_positions}
use Rattle.conjure_laws.proofs.Matching.{Match, FindPlan, closed, find-plan, fits, stands-at}
use Rattle.ess_repr_laws.proofs.MembersWithPositions.{members-matched}
use Rattle.ess_repr_laws.proofs.MembersHaveTables.{roomy-covered, one-form}
use Rattle.ess_repr_laws.proofs.PlansStand.{stood-back}
use Rattle.ess_semantics.specs.Tidy.{is_orderly}

module _ (S : List Stm) (o : Options) (E : Model) (L : Base S o E) (p : Assignment) (q : Names Table) (I : Instance S o p q) where
  abbrev Z : Env
  Z = here S p

  abbrev Ps : List Plan
  Ps = plans_for finds_side S o

  -- ---- from tables to members

  -- The tables of a plan are over the declared axes and domains, canonical, and stand for a member.
  pub record Held (c : Names Table) (r : Repr) (d : Dom) (ns : List Named) (ts : Tables) : Type 0 where
    pub e : Domain
    pub v : Value
    pub closed : domain_of d Z ≡ Some e
    pub named : tables_in c (keys ns) ≡ Some ts
    pub fit : RepresentationFits r e
    pub are : tables_are (declarations r (domain_with_positions e)) ts ≡ true
    pub long : length ns ≡ length ts
    pub passes : canonical r (domain_with_positions e) (cells_of ts) ≡ true
    pub stands : value_of_cells r (domain_with_positions e) (cells_of ts) ≡ Some (with_positions v)
    pub inside : member e v ≡ true

  -- The same by the plan.
  abbrev pub PlanHeld : Names Table → Plan → Tables → Type 0
  PlanHeld c (size_plan t n) ts = ⊥
  PlanHeld c (value_plan f x r d ns) ts = Held c r d ns ts

  -- Its tables are canonical, for the value with positions.
  pub held-holds : (c : Names Table) (f : Side) (x : Text) (r : Repr) (d : Dom) (ns : List Named) (ts : Tables)
      (H : Held c r d ns ts) →
      PlanHolds S p c (value_plan f x r d ns) (with_positions H.v)
  held-holds c f x r d ns ts H = (
    domain_with_positions H.e,
    ts,
    record { closed = ap (option_map domain_with_positions) H.closed; named = H.named; are = H.are },
    H.passes,
    H.stands,
  )

  -- The value with types comes back from them.
  pub held-value : (c : Names Table) (f : Side) (x : Text) (r : Repr) (d : Dom) (ns : List Named) (ts : Tables)
      (H : Held c r d ns ts) →
      value_by_plan Z c (value_plan f x r d ns) ≡ Some H.v
  held-value c f x r d ns ts H =
      ap (λ o. and_then o (λ e. and_then (tables_in c (keys ns)) (λ ts. value_with_types r e ts))) H.closed
      ∙ ap (λ o. and_then o (λ ts. value_with_types r H.e ts)) H.named
      ∙ stood-back r H.e H.fit.typed ts H.v
      (and-both (member H.e H.v) (same_value (with_positions H.v) (value_of_tables r (domain_with_positions H.e) ts [])) H.inside
      (ap (same_value (with_positions H.v)) (stands-at r (domain_with_positions H.e) ts ∙ H.stands)
      ∙ same-itself (with_positions H.v)))

  -- They match an assignment that gives the value.
  pub held-match : (c : Names Table) (a : Assignment) (x : Text) (r : Repr) (d : Dom) (ns : List Named) (ts : Tables)
      (H : Held c r d ns ts) →
      value_of a x ≡ Some H.v → Match S p a x r d ns ts
  held-match c a x r d ns ts H w =
      let m = members-matched H.e H.fit.typed in
      let t = one-form r (domain_with_positions H.e) H.fit.roomy (with_positions H.v) (m.up H.v H.inside) in
      let one : ts ≡ t.tables =
      t.only ts (are-over (declarations r (domain_with_positions H.e)) ts H.are) H.passes
      (stands-at r (domain_with_positions H.e) ts ∙ H.stands) in
      record {
        e = H.e;
        v = H.v;
        closed = H.closed;
        value = w;
        fit = H.fit;
        inside = H.inside;
        there = t.there ∙ ap (λ y. Some y) (sym one);
        passes = H.passes;
        stands = H.stands;
        are = H.are;
        long = H.long;
      }

  -- ---- what the rules say of tables that fit

  -- The tables are as the plan declares them.
  record Shape (r : Repr) (d : Dom) (ns : List Named) (ts : Tables) : Type 0 where
    e : Domain
    closed : domain_of d Z ≡ Some e
    fit : RepresentationFits r e
    are : tables_are (declarations r (domain_with_positions e)) ts ≡ true
    long : length ns ≡ length ts

  abbrev PlanShape : Plan → Tables → Type 0
  PlanShape (size_plan t n) ts = ⊥
  PlanShape (value_plan f x r d ns) ts = Shape r d ns ts

  plan-shape : (P : Plan) (ts : Tables) → FindPlan S o E L p q I P → tables_are (declared_by_plan Z P) ts ≡ true → PlanShape P ts
  plan-shape P ts F t =
      let c = closed S o E L p q I F.x F.d F.declared in
      let f = fits S o E L p q I finds_side F.x F.r F.d F.ns c.0 (subst (λ P. In P (plans S o)) F.is F.planned) c.1 in
      let b : tables_are (declarations F.r (domain_with_positions c.0)) ts ≡ true =
      sym (ap (λ y. tables_are (declared_by_plan Z y) ts) F.is
      ∙ ap (λ y. tables_are (list_or_none (option_map (declarations F.r) (option_map domain_with_positions y))) ts) c.1) ∙ t in
      subst (λ y. PlanShape y ts) (sym F.is) (record {
        e = c.0;
        closed = c.1;
        fit = f.0;
        are = b;
        long = f.1
            ∙ are-long (declarations F.r (domain_with_positions c.0)) ts b;
      })

  shape-long : (P : Plan) (ts : Tables) → PlanShape P ts → AsMany P ts
  shape-long (size_plan t n) ts m = absurd m
  shape-long (value_plan f x r d ns) ts m = m.long

  -- The rules of a plan's structure hold.
  abbrev Structured : Names Table → Plan → Type 0
  Structured c P = (rs : List Ex) × StructureMeans S o E P rs × (list_all (rule_holds E q c) rs ≡ true)

  plan-held : (c : Names Table) → tables_fit (all_decls E) q E.finds c ≡ true → (P : Plan) (ts : Tables) → Structured c P →
      PlanShape P ts × (tables_in c (keys (names_of_plan P)) ≡ Some ts) → PlanHeld c P ts
  plan-held c t (size_plan u n) ts s h = h.0
  plan-held c t (value_plan f x r d ns) ts s h =
      let e : Domain = domain_with_positions h.0.e in
      let k : canonical r e (cells_of ts) ≡ true =
      sym (s.1 p q c e ts I t (record { closed = ap (option_map domain_with_positions) h.0.closed; named = h.1; are = h.0.are }))
      ∙ s.2 in
      let g : Right r e = right r e (roomy-covered r e h.0.fit.roomy) in
      let w = some-and (value_of_cells r e (cells_of ts)) (member e)
      (and-left (is_some_and (value_of_cells r e (cells_of ts)) (member e)) (is_orderly r e (cells_of ts)) (g.tidies (cells_of ts) k))
      in
      let m = members-matched h.0.e h.0.fit.typed in
      let v = m.back w.0 w.2 in
      record {
        e = h.0.e;
        v = v.0;
        closed = h.0.closed;
        named = h.1;
        fit = h.0.fit;
        are = h.0.are;
        long = h.0.long;
        passes = k;
        stands = w.1 ∙ ap (λ u. Some u) (sym v.2);
        inside = v.1;
      }

  -- Tables that fit and have their structures.
  pub record AllHeld (c : Names Table) : Type 0 where
    pub tss : List Tables
    pub each : Along Ps tss (PlanHeld c)
    pub all : c ≡ append_all (chunks Ps tss)

  -- Where the rules of structures hold, tables that fit are so.
  pub all-held : (R : Rules S o E) (c : Names Table) → tables_fit (all_decls E) q E.finds c ≡ true →
      list_all (rule_holds E q c) (append_all R.structures) ≡ true → AllHeld c
  all-held R c t s =
      let r = fit-are (all_decls E) q E.finds (declared_under finds_side S o p) c (L.declares.find_domains p q I) t in
      let u = all-split (declared_by_plan Z) Ps r.0 r.2 in
      let shapes : Along Ps u.0 PlanShape = along-left Ps u.0 (FindPlan S o E L p q I)
      (λ P us. tables_are (declared_by_plan Z P) us ≡ true)
      PlanShape plan-shape (all-items (FindPlan S o E L p q I) Ps (find-plan S o E L p q I)) u.2 in
      let l : Along Ps u.0 AsMany = along-map Ps u.0 PlanShape AsMany shape-long shapes in
      let a : c ≡ append_all (chunks Ps u.0) = r.1 ∙ ap (λ y. zip (keys y) r.0) L.declares.find_names
      ∙ ap (zip (keys (table_list finds_side S o))) u.1 ∙ chunks-zip Ps u.0 l in
      let n = chunks-named c (ap all_distinct (ap keys a ∙ chunks-keys Ps u.0 l) ∙ names-differ finds_side S o) [] Ps u.0 l a in
      let st : Each Ps (Structured c) = left-of Ps R.structures (Structured c) _ (λ P rs h. (rs, h.0, h.1))
      (along-both Ps R.structures (StructureMeans S o E) (λ P rs. list_all (rule_holds E q c) rs ≡ true)
      (λ P rs. StructureMeans S o E P rs × (list_all (rule_holds E q c) rs ≡ true)) (λ P rs h k. (h, k))
      R.structures_mean (along-tests (rule_holds E q c) Ps R.structures
      (length-along Ps R.structures (StructureMeans S o E) R.structures_mean) s)) in
      record {
        tss = u.0;
        each = along-left Ps u.0 (Structured c) (λ P ts. PlanShape P ts × (tables_in c (keys (names_of_plan P)) ≡ Some ts))
            (PlanHeld c)
            (plan-held c t) st
            (along-both Ps u.0 PlanShape (λ P ts. tables_in c (keys (names_of_plan P)) ≡ Some ts) _ (λ P ts x y. (x, y)) shapes n);
        all = a;
      }

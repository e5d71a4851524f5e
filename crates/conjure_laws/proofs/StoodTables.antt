-- Tables that fit, with their structures and channels, match the values that they stand for: members, and no others.
use Rattle.std.proofs.Common.{◌≡◌, refl, sym, ap, ◌∙◌, subst, true, false, not, List, [], ◌∷◌, map, filter, Some, is_some}
use Rattle.std.specs.List.{list_all}
use Rattle.ess_semantics.specs.Lists.{append_all, and_then, when, is_some_and}
use Rattle.ess_semantics.specs.Values.{Text, Value}
use Rattle.ess_semantics.specs.Names.{Names, look, keys, is_among, all_distinct}
use Rattle.ess_semantics.specs.Trees.{Repr, Ex, Dom, Stm, find}
use Rattle.ess_semantics.specs.Domains.{Domain}
use Rattle.ess_semantics.specs.Membership.{member}
use Rattle.ess_semantics.specs.Tables.{Table, Tables}
use Rattle.ess_semantics.specs.TableNames.{Named}
use Rattle.ess_semantics.specs.Meaning.{Env, domain_of, tables_in}
use Rattle.ess_semantics.specs.Prepared.{prepared}
use Rattle.ess_semantics.specs.Assignments.{Assignment, value_of}
use Rattle.ess_semantics.specs.Parameters.{is_member}
use Rattle.ess_semantics.specs.Solutions.{InDomains, finds}
use Rattle.ess_semantics.specs.Plans.{Options, Plan, size_plan, value_plan, plans, plans_for, same_value, plan_stands, value_names, Stands, is_plan_of, value_by_plan, common_value, values_stood_for, finds_side, stands_for_member, value_with_types, givens_side}
use Rattle.conjure_laws.specs.Premises.{is_on, Instance, here, PlanHolds}
use Rattle.conjure_laws.specs.ModelPremises.{ChannelMeans, ChannelsMean, Rules, Base}
use Rattle.ess_semantics.specs.ModelTrees.{Model, all_decls}
use Rattle.ess_semantics.specs.Satisfaction.{tables_fit, rule_holds}
use Rattle.ess_semantics.proofs.Tests.{some-and}
use Rattle.ess_semantics.proofs.Orders.{same-equal, same-itself}
use Rattle.ess_semantics.proofs.Texts.{same_text-equal, same_text-itself}
use Rattle.ess_semantics.specs.Contexts.{Each}
use Rattle.conjure_laws.proofs.Lists.{each-of-list, each-map, list-of-each, at-item, all-items, in-filtered, in-filter, along-both, along-left, left-of, length-along, along-tests, over-along, map-length}
use Rattle.conjure_laws.specs.Members.{In}
use Rattle.conjure_laws.specs.SideBySide.{Along}
use Rattle.conjure_laws.proofs.NamedTables.{in-among}
use Rattle.conjure_laws.proofs.Statements.{finds-prepared, plan-is-found, find-is-named, name-is-find, found-has-plan, one-domain}
use Rattle.conjure_laws.proofs.PlacedStatements.{members-placed}
use Rattle.ess_semantics.specs.Positions.{with_positions}
use Rattle.conjure_laws.proofs.HeldTables.{PlanHeld, held-holds, held-value, Held, held-match, all-held}
use Rattle.conjure_laws.proofs.Matching.{Matched, Match, FindPlan, PlanMatch, find-plan}
use Rattle.conjure_laws.proofs.NamedValues.{look-made, keys-made, no-keys, one-of, no-extra, one-map}
use Rattle.conjure_laws.proofs.MatchedTables.{Found, matched-found}
use Rattle.ess_repr_laws.proofs.PlansStand.{stood-back, one-member, canonical-stands}
use Rattle.ess_repr_laws.specs.TypedDomains.{Typed}

module _ (S : List Stm) (o : Options) (E : Model) (L : Base S o E) (p : Assignment) (q : Names Table) (I : Instance S o p q) where
  abbrev Z : Env
  Z = here S p

  abbrev Ps : List Plan
  Ps = plans_for finds_side S o

  -- The assignment that tables stand for.
  abbrev pub stood : Names Table → Assignment
  stood c = record { types = []; vals = values_stood_for S o p c }

  -- ---- values

  -- The tables of a plan of the find x are canonical, for a member v of its domain e, which comes back.
  record Holding (c : Names Table) (x : Text) (P : Plan) : Type 0 where
    d : Dom
    e : Domain
    v : Value
    holds : PlanHolds S p c P (with_positions v)
    value : value_by_plan Z c P ≡ Some v
    declared : In (find x d) (prepared S)
    closed : domain_of d Z ≡ Some e
    typed : Typed e
    inside : member e v ≡ true

  -- A plan has tables that are canonical.
  abbrev HeldPlan : Names Table → Plan → Type 0
  HeldPlan c P = (ts : Tables) × PlanHeld S o E L p q I c P ts

  group-holding : (c : Names Table) → Each Ps (HeldPlan c) → (x : Text) → Each (filter (is_plan_of x) (plans S o)) (Holding c x)
  group-holding c H x = all-items (Holding c x) (filter (is_plan_of x) (plans S o))
      (λ P i. let h = in-filter (is_plan_of x) P (plans S o) i in go P h.0 h.1)
    where
      go : (P : Plan) → In P (plans S o) → is_plan_of x P ≡ true → Holding c x P
      go (size_plan t n) i e = cc
      go (value_plan givens_side y r d ns) i e = cc
      go (value_plan finds_side y r d ns) i e =
          let h = at-item (HeldPlan c) Ps (value_plan finds_side y r d ns) H
          (in-filtered (is_on finds_side) (value_plan finds_side y r d ns) (plans S o) i refl) in
          record {
            d = d;
            e = h.1.e;
            v = h.1.v;
            holds = held-holds S o E L p q I c finds_side y r d ns h.0 h.1;
            value = held-value S o E L p q I c finds_side y r d ns h.0 h.1;
            declared = subst (λ z. In (find z d) (prepared S)) (same_text-equal y x e) (plan-is-found S o y r d ns i);
            closed = h.1.closed;
            typed = h.1.fit.typed;
            inside = h.1.inside;
          }

  -- The common value is that of each plan.
  common-is : (c : Names Table) (P : Plan) (Qs : List Plan) (v : Value) → value_by_plan Z c P ≡ Some v →
      Each Qs (λ Q. value_by_plan Z c Q ≡ Some v) → common_value Z c (P ∷ Qs) ≡ Some v
  common-is c P Qs v pv w =
      let a : list_all (λ u. same_value v (value_by_plan Z c u)) Qs ≡ true =
      list-of-each Qs (λ u. same_value v (value_by_plan Z c u))
      (each-map Qs (λ Q. value_by_plan Z c Q ≡ Some v) (λ Q. same_value v (value_by_plan Z c Q) ≡ true)
      (λ Q y. ap (same_value v) y ∙ same-itself v) w) in
      ap (λ y. and_then y (λ u. when (list_all (λ z. same_value u (value_by_plan Z c z)) Qs) u)) pv ∙ ap (λ b. when b v) a

  -- Plans of one find whose values with positions are one stand for one value.
  channel-value : (c : Names Table) → tables_fit (all_decls E) q E.finds c ≡ true →
      (x : Text) (P : Plan) (h : Holding c x P) (Q : Plan) (rs : List Ex) →
      Holding c x Q → ChannelMeans S o E P Q rs × (list_all (rule_holds E q c) rs ≡ true) → value_by_plan Z c Q ≡ Some h.v
  channel-value c t x P h Q rs y z =
      let s : with_positions h.v ≡ with_positions y.v =
      same-equal (with_positions h.v) (with_positions y.v)
      (sym (z.0 p q c (with_positions h.v) (with_positions y.v) I t h.holds y.holds) ∙ z.1) in
      let k : h.d ≡ y.d =
      one-domain (prepared S) (ap all_distinct (finds-prepared S) ∙ L.ground.settled.distinct) x h.d y.d h.declared y.declared in
      let u : h.e ≡ y.e = one-of h.e y.e (domain_of h.d Z) h.closed (ap (λ d. domain_of d Z) k ∙ y.closed) in
      let v : h.v ≡ y.v = one-member h.e h.typed h.v y.v h.inside (subst (λ e. member e y.v ≡ true) (sym u) y.inside) s in
      y.value ∙ ap (λ w. Some w) (sym v)

  -- All plans of a find stand for one value where its channels hold.
  one-value : (c : Names Table) → tables_fit (all_decls E) q E.finds c ≡ true → (x : Text) (G : List Plan) (css : List (List Ex)) →
      Each G (Holding c x) → ChannelsMean S o E G css → list_all (rule_holds E q c) (append_all css) ≡ true →
      Each G (λ P. common_value Z c G ≡ value_by_plan Z c P)
  one-value c t x [] css H h k = tt
  one-value c t x (P ∷ Qs) css H h k =
      let v : Value = H.0.v in
      let pv : value_by_plan Z c P ≡ Some v = H.0.value in
      let both : Along Qs css (λ Q rs. ChannelMeans S o E P Q rs × (list_all (rule_holds E q c) rs ≡ true)) =
      along-both Qs css (ChannelMeans S o E P) (λ Q rs. list_all (rule_holds E q c) rs ≡ true)
      (λ Q rs. ChannelMeans S o E P Q rs × (list_all (rule_holds E q c) rs ≡ true)) (λ Q rs y z. (y, z)) h
      (along-tests (rule_holds E q c) Qs css (length-along Qs css (ChannelMeans S o E P) h) k) in
      let w : Each Qs (λ Q. value_by_plan Z c Q ≡ Some v) =
      left-of Qs css (λ Q. value_by_plan Z c Q ≡ Some v) (λ Q rs. value_by_plan Z c Q ≡ Some v) (λ Q rs y. y)
      (along-left Qs css (Holding c x) (λ Q rs. ChannelMeans S o E P Q rs × (list_all (rule_holds E q c) rs ≡ true))
      (λ Q rs. value_by_plan Z c Q ≡ Some v) (channel-value c t x P H.0) H.1 both) in
      let m : common_value Z c (P ∷ Qs) ≡ Some v = common-is c P Qs v pv w in (
        m ∙ sym pv,
        each-map Qs (λ Q. value_by_plan Z c Q ≡ Some v) (λ Q. common_value Z c (P ∷ Qs) ≡ value_by_plan Z c Q) (λ Q y. m ∙ sym y)
            w,
      )

  -- Each plan of a find gives its value.
  pub stood-value : (R : Rules S o E) (c : Names Table) → tables_fit (all_decls E) q E.finds c ≡ true →
      list_all (rule_holds E q c) (append_all (map append_all R.channels)) ≡ true → Each Ps (HeldPlan c) →
      (x : Text) (r : Repr) (d : Dom) (ns : List Named) → In (value_plan finds_side x r d ns) (plans S o) →
      value_of (stood c) x ≡ value_by_plan Z c (value_plan finds_side x r d ns)
  stood-value R c t k H x r d ns i =
      let n : In x (value_names finds_side S) = subst (In x) (finds-prepared S)
      (find-is-named (prepared S) x d (plan-is-found S o x r d ns i)) in
      let w = at-item (λ x. (css : List (List Ex)) × ChannelsMean S o E (filter (is_plan_of x) (plans S o)) css ×
      (list_all (rule_holds E q c) (append_all css) ≡ true)) (value_names finds_side S) x
      (left-of (value_names finds_side S) R.channels (λ x. (css : List (List Ex)) × ChannelsMean S o E
      (filter (is_plan_of x) (plans S o))
      css × (list_all (rule_holds E q c) (append_all css) ≡ true))
      (λ x css. ChannelsMean S o E (filter (is_plan_of x) (plans S o)) css × (list_all (rule_holds E q c) (append_all css) ≡ true))
      (λ x css y. (css, y.0, y.1))
      (along-both (value_names finds_side S) R.channels (λ x css. ChannelsMean S o E (filter (is_plan_of x) (plans S o)) css)
      (λ x css. list_all (rule_holds E q c) (append_all css) ≡ true)
      (λ x css. ChannelsMean S o E (filter (is_plan_of x) (plans S o)) css × (list_all (rule_holds E q c) (append_all css) ≡ true))
      (λ x css y z. (y, z)) R.channels_mean
      (over-along append_all (value_names finds_side S) R.channels (λ x l. list_all (rule_holds E q c) l ≡ true)
      (along-tests (rule_holds E q c) (value_names finds_side S) (map append_all R.channels)
      (length-along (value_names finds_side S) R.channels _ R.channels_mean ∙ sym (map-length append_all R.channels)) k)))) n in
      ap (λ y. and_then y (λ z. z)) (look-made (λ x. common_value Z c (filter (is_plan_of x) (plans S o))) (value_names finds_side S)
      x n)
      ∙ at-item (λ P. common_value Z c (filter (is_plan_of x) (plans S o)) ≡ value_by_plan Z c P) (filter (is_plan_of x) (plans S o))
      (value_plan finds_side x r d ns)
      (one-value c t x (filter (is_plan_of x) (plans S o)) w.0 (group-holding c H x) w.1 w.2)
      (in-filtered (is_plan_of x) (value_plan finds_side x r d ns) (plans S o) i (same_text-itself x))

  abbrev FitAndRules : Rules S o E → Names Table → Type 0
  FitAndRules R c = (tables_fit (all_decls E) q E.finds c ≡ true) × (list_all (rule_holds E q c) (append_all R.structures) ≡ true) ×
      (list_all (rule_holds E q c) (append_all (map append_all R.channels)) ≡ true)

  -- Tables that fit, with their structures and channels, match what they stand for.
  pub stood-matched : (R : Rules S o E) (c : Names Table) → FitAndRules R c → Matched S o p (stood c) c
  stood-matched R c f =
      let h = all-held S o E L p q I R c f.0 f.1 in
      let H : Each Ps (HeldPlan c) = left-of Ps h.tss (HeldPlan c) (PlanHeld S o E L p q I c) (λ P ts y. (ts, y)) h.each in
      record {
        tss = h.tss;
        each = along-left Ps h.tss (FindPlan S o E L p q I) (PlanHeld S o E L p q I c) (PlanMatch S p (stood c))
            (λ P ts F y. go H P ts F y)
            (all-items (FindPlan S o E L p q I) Ps (find-plan S o E L p q I)) h.each;
        all = h.all;
      }
    where
      at : Each Ps (HeldPlan c) → (x : Text) (r : Repr) (d : Dom) (ns : List Named) (ts : Tables) →
          In (value_plan finds_side x r d ns) (plans S o) → Held S o E L p q I c r d ns ts → Match S p (stood c) x r d ns ts
      at H x r d ns ts i y =
          held-match S o E L p q I c (stood c) x r d ns ts y
          (stood-value R c f.0 f.2 H x r d ns i ∙ held-value S o E L p q I c finds_side x r d ns ts y)

      go : Each Ps (HeldPlan c) → (P : Plan) (ts : Tables) → FindPlan S o E L p q I P → PlanHeld S o E L p q I c P ts →
          PlanMatch S p (stood c) P ts
      go H P ts F y =
          subst (λ P. PlanMatch S p (stood c) P ts) (sym F.is)
          (at H F.x F.r F.d F.ns ts (subst (λ P. In P (plans S o)) F.is F.planned)
          (subst (λ P. PlanHeld S o E L p q I c P ts) F.is y))

  -- Its names are those of the finds.
  pub stood-keys : (c : Names Table) → keys (stood c).vals ≡ value_names finds_side S
  stood-keys c = keys-made (λ x. common_value Z c (filter (is_plan_of x) (plans S o))) (value_names finds_side S)

  found-match : (a : Assignment) (c : Names Table) → Matched S o p a c → (x : Text) (d : Dom) → In (find x d) (prepared S) →
      (r : Repr) × (ns : List Named) × In (value_plan finds_side x r d ns) Ps × Found S o E L p q I a c
      (value_plan finds_side x r d ns)
  found-match a c m x d i =
      let g = found-has-plan S o L.ground.chosen x d i in
      let j = in-filtered (is_on finds_side) (value_plan finds_side x g.0 d g.1) (plans S o) g.2 refl in
      (g.0, g.1, j, at-item (Found S o E L p q I a c) Ps (value_plan finds_side x g.0 d g.1) (matched-found S o E L p q I a c m) j)

  -- The values that tables stand for are members of the finds' domains.
  pub stood-members : (c : Names Table) → Matched S o p (stood c) c → InDomains S p (stood c)
  stood-members c m = record {
    all_finds = list-of-each (finds S) _ (all-items (λ x. is_among (keys (stood c).vals) x ≡ true) (finds S)
        (λ x i. ap (λ l. is_among l x) (stood-keys c) ∙ in-among (value_names finds_side S) x i));
    nothing_else = ap (λ y. not (is_some y)) (no-extra (finds S) (stood c).vals [] known
        (all-items (λ k. false ≡ false) (keys (stood c).vals) (λ k i. refl))
        (ap all_distinct (stood-keys c) ∙ L.ground.settled.distinct));
    are_members = members-placed S p (stood c) (L.ground.settled.settled p (stood c) I.param)
        (λ x d i. go x d (found-match (stood c) c m x d i));
  }
    where
      known : Each (keys (stood c).vals) (λ k. is_among (finds S) k ≡ true)
      known = all-items (λ k. is_among (finds S) k ≡ true) (keys (stood c).vals)
          (λ k i. in-among (finds S) k (subst (In k) (stood-keys c) i))

      go : (x : Text) (d : Dom) → ((r : Repr) × (ns : List Named) × In (value_plan finds_side x r d ns) Ps × Found S o E L p q I
          (stood c) c
          (value_plan finds_side x r d ns)) → is_some_and (value_of (stood c) x) (is_member d Z) ≡ true
      go x d h = ap (λ y. is_some_and y (is_member d Z)) h.3.1.value ∙ ap (λ y. is_some_and y (λ e. member e h.3.1.v)) h.3.1.closed
          ∙ h.3.1.inside

  -- What tables stand for by a plan is the value of its name.
  stands-value : (b : Assignment) (c : Names Table) (x : Text) (r : Repr) (d : Dom) (ns : List Named) (e : Domain) → Typed e →
      domain_of d Z ≡ Some e →
      plan_stands Z b c (value_plan finds_side x r d ns) ≡ true → value_of b x ≡ value_by_plan Z c (value_plan finds_side x r d ns)
  stands-value b c x r d ns e y k s =
      let v = some-and (value_of b x) (λ v. is_some_and (domain_of d Z)
      (λ e. is_some_and (tables_in c (keys ns)) (λ ts. stands_for_member r e ts v))) s in
      let t = some-and (tables_in c (keys ns)) (λ ts. stands_for_member r e ts v.0)
      (sym (ap (λ o. is_some_and o (λ e. is_some_and (tables_in c (keys ns)) (λ ts. stands_for_member r e ts v.0))) k) ∙ v.2) in
      v.1 ∙ sym (stood-back r e y t.0 v.0 t.2)
      ∙ sym (ap (λ o. and_then o (λ e. and_then (tables_in c (keys ns)) (λ ts. value_with_types r e ts))) k
      ∙ ap (λ o. and_then o (λ ts. value_with_types r e ts)) t.1)

  -- Tables that match give the value by the plan.
  match-value : (c : Names Table) (x : Text) (r : Repr) (d : Dom) (ns : List Named) (ts : Tables)
      (m : Match S p (stood c) x r d ns ts) →
      tables_in c (keys ns) ≡ Some ts → value_by_plan Z c (value_plan finds_side x r d ns) ≡ Some m.v
  match-value c x r d ns ts m n =
      ap (λ o. and_then o (λ e. and_then (tables_in c (keys ns)) (λ ts. value_with_types r e ts))) m.closed
      ∙ ap (λ o. and_then o (λ ts. value_with_types r m.e ts)) n
      ∙ stood-back r m.e m.fit.typed ts m.v (canonical-stands r m.e m.fit.typed m.fit.roomy m.v m.inside ts m.there)

  -- Tables that match stand for nothing else.
  pub stood-once : (c : Names Table) → Matched S o p (stood c) c → (b : Assignment) → Stands S o p b c → b ≡ stood c
  stood-once c m b s =
      ap (λ ts. record { types = ts; vals = b.vals }) (no-keys b.types s.types)
      ∙ ap (λ vs. record { types = []; vals = vs }) (one-map b.vals (stood c).vals (s.names ∙ sym (stood-keys c))
      (ap all_distinct s.names ∙ L.ground.settled.distinct)
      (all-items (λ x. (v : Value) × (and_then (look b.vals x) (λ o. o) ≡ Some v) ×
      (and_then (look (stood c).vals x) (λ o. o) ≡ Some v))
      (keys b.vals) (λ x i. go x (name-is-find (prepared S) x (subst (In x) (s.names ∙ sym (finds-prepared S)) i)))))
    where
      go : (x : Text) → ((d : Dom) × In (find x d) (prepared S)) →
          (v : Value) × (value_of b x ≡ Some v) × (value_of (stood c) x ≡ Some v)
      go x k =
          let h = found-match (stood c) c m x k.0 k.1 in
          let hb = stands-value b c x h.0 k.0 h.1 h.3.1.e h.3.1.fit.typed h.3.1.closed
          (at-item (λ P. plan_stands Z b c P ≡ true) Ps (value_plan finds_side x h.0 k.0 h.1)
          (each-of-list Ps (plan_stands Z b c) s.each_stands) h.2) in
          let hv = match-value c x h.0 k.0 h.1 h.3.0 h.3.1 h.3.2 in
          (h.3.1.v, hb ∙ hv, h.3.1.value)

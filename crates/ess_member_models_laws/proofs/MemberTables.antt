-- The table of a find under a parameter and canonical tables: declared over the members of its domain.
use Rattle.std.proofs.Common.{◌≡◌, refl, sym, ap, ◌∙◌, subst, ℕ, Bool, true, false, List, [], ◌∷◌, ◌++◌, map, length, pos, inl, inr, Some, option_map}
use Rattle.ess_semantics.specs.Lists.{list_or_none}
use Rattle.ess_semantics.specs.Values.{Text, Value, number}
use Rattle.ess_semantics.specs.Names.{Names, look, keys, is_among}
use Rattle.ess_semantics.specs.Trees.{both_ends, number_ex, no_exs, more_exs, Dom, int_dom, Stm, find}
use Rattle.ess_semantics.specs.Domains.{Domain, integers, sets, between, member_list}
use Rattle.ess_semantics.specs.Tables.{Table, Tables, one_cell}
use Rattle.ess_semantics.specs.Layers.{codes_of}
use Rattle.ess_semantics.specs.Declarations.{declarations}
use Rattle.ess_semantics.specs.Positions.{domain_with_positions}
use Rattle.ess_semantics.specs.Contexts.{Each}
use Rattle.ess_semantics.specs.DeclaredTables.{TableDecl, decl_name}
use Rattle.ess_semantics.specs.Meaning.{domain_of, cell_in, is_bool_dom, members_in, spans_of}
use Rattle.ess_semantics.specs.Assignments.{Assignment}
use Rattle.ess_semantics.specs.Plans.{Plan, size_plan, value_plan, names_of_plans, plans, plans_for, givens_side, finds_side}
use Rattle.ess_semantics.specs.ModelTrees.{Model, all_decls}
use Rattle.ess_semantics.specs.ModelMeaning.{kinded_dom, model_domain, env_of_tables, as_bound}
use Rattle.ess_semantics.proofs.MemberLists.{atom-listed}
use Rattle.conjure_laws.specs.Members.{In}
use Rattle.conjure_laws.specs.Premises.{Instance, is_on, tables_are}
use Rattle.conjure_laws.specs.ModelPremises.{Canonical}
use Rattle.conjure_laws.specs.SetsOfAtoms.{Atom, range, boolean, typed, Lit, num, truth_lit, value_name, Line, sets_of, spec, TypeKind, fixed, sized, none_declared, after_all}
use Rattle.conjure_laws.specs.ModelsOfSets.{no_options, table_of, size_name, axis_for, decl_of, model_of}
use Rattle.conjure_laws.proofs.Lists.{at-item, all-items, in-filter, in-filtered}
use Rattle.conjure_laws.proofs.Lookups.{look-left}
use Rattle.conjure_laws.proofs.NamedTables.{among-in, in-among}
use Rattle.conjure_laws.proofs.FreeNames.{all-names-differ}
use Rattle.conjure_laws.proofs.Givens.{cross, given-keys, given-plan}
use Rattle.conjure_laws.proofs.Matching.{canonical-matched}
use Rattle.conjure_laws.proofs.MatchedTables.{Found, matched-found}
use Rattle.conjure_laws.proofs.Occurrence.{one-row}
use Rattle.conjure_laws.proofs.Statements.{plan-is-found, one-domain}
use Rattle.conjure_laws.proofs.SetScopes.{Fine, prepared-itself, look-past, count_of}
use Rattle.conjure_laws.proofs.SetFacts.{AtomFact, LitFact}
use Rattle.conjure_laws.proofs.SetNames.{finds-new}
use Rattle.conjure_laws.proofs.SetPlans.{PlanFact, Occ, size_fact, occ_fact, some-facts, ground, dom_at, pos_at, atom-with, dom-closed, decl-names, size-of}
use Rattle.conjure_laws.proofs.SetCells.{only-table, skip-decls, declared-size}
use Rattle.conjure_laws.proofs.SetDeclarations.{base, sizes-int, named-size, unfound}
use Rattle.conjure_laws.proofs.SetValues.{planned, one-atom}
use Rattle.ess_member_rules_laws.specs.ess_member_trees_laws.Memberships.{at_number, at_cell, Axis, truths, numbers}
use Rattle.ess_member_rules_laws.specs.WrittenForms.{IsNumber, Alike, as_numbers, as_truths, IsTable}
use Rattle.ess_member_models_laws.proofs.Lines.{each-number, found-line}
use Rattle.ess_member_models_laws.specs.MemberModels.{shown_literal, axis_at, table_decl}

module _ (T : List Line) (ok : Fine none_declared T) where
  abbrev S' : List Stm
  S' = spec T

  abbrev ks : Names TypeKind
  ks = (after_all T none_declared).types

  abbrev vs : Names (Text × ℕ)
  vs = (after_all T none_declared).values

  abbrev Ps : List Plan
  Ps = plans S' no_options

  abbrev E : Model
  E = model_of T

  abbrev Gs : List Plan
  Gs = plans_for givens_side S' no_options

  abbrev Fs : List Plan
  Fs = plans_for finds_side S' no_options

  -- The axis is a range or that of truth values.
  pub axis-is : (A : Atom) → AtomFact T ok A → Axis (axis_at T A)
  axis-is (range a b) f = numbers at_number at_number
  axis-is boolean f = truths
  axis-is (typed t) f = subst (λ o. Axis (axis_for Ps t o)) (sym f.1) (go f.0)
    where
      go : (k : TypeKind) → Axis (axis_for Ps t (Some k))
      go (fixed n) = numbers at_number at_number
      go sized = numbers at_number at_cell

  -- The literal is of its kind.
  alike : (p : Assignment) (A : Atom) (f : AtomFact T ok A) (l : Lit) → LitFact T ok l A →
      Alike (member_list (pos_at T ok p A f)) (axis_at T A) (shown_literal vs l)
  alike p (range a b) f (num k) g = as_numbers
      (each-number (record { low = Some a; high = Some b } ∷ []) (member_list (pos_at T ok p (range a b) f))
      (atom-listed (pos_at T ok p (range a b) f) tt).members)
  alike p boolean f (truth_lit b) g = as_truths ((false, refl), ((true, refl), tt))
  alike p (typed t) f (value_name n) g =
      subst (λ o. Alike (member_list (pos_at T ok p (typed t) f)) (axis_for Ps t o) (shown_literal vs (value_name n))) (sym f.1)
      (go f.0 (each-number (record { low = Some (pos 1); high = Some (pos (count_of p t f.0)) } ∷ [])
      (member_list (pos_at T ok p (typed t) f)) (atom-listed (pos_at T ok p (typed t) f) tt).members))
    where
      go : {ms : List Value} (k : TypeKind) → Each ms IsNumber → Alike ms (axis_for Ps t (Some k)) (shown_literal vs (value_name n))
      go (fixed m) h = as_numbers h
      go sized h = as_numbers h
  alike p boolean f (num k) g = absurd g
  alike p (typed t) f (num k) g = absurd g
  alike p (range a b) f (truth_lit c) g = absurd g
  alike p (typed t) f (truth_lit c) g = absurd g
  alike p (range a b) f (value_name n) g = absurd g
  alike p boolean f (value_name n) g = absurd g

  -- The axis has the members with positions.
  axis-members : (p : Assignment) (q c : Names Table) → Instance S' no_options p q → (A : Atom) (f : AtomFact T ok A) →
      members_in (model_domain (all_decls E) (q ++ c) (axis_at T A)) ≡ Some (member_list (pos_at T ok p A f))
  axis-members p q c I (range a b) f = refl
  axis-members p q c I boolean f = refl
  axis-members p q c I (typed t) f =
      ap (λ o. members_in (model_domain (all_decls E) (q ++ c) (axis_for Ps t o))) f.1 ∙ go f.0 f.1
    where
      go : (k : TypeKind) → look ks t ≡ Some k → members_in (model_domain (all_decls E) (q ++ c) (axis_for Ps t (Some k)))
          ≡ Some (member_list (between (pos 1) (pos (count_of p t k))))
      go (fixed n) e = refl
      go sized e =
          let n : Text = size_name Ps t in
          let i = size-of T ok t e in
          let g = given-plan S' no_options (ground T ok) p q I (size_plan t n) i in
          let tb = look-left q c n (one_cell (pos (length g.1.0)))
          (only-table (look q n) g.0 (one_cell (pos (length g.1.0))) g.1.2 g.2) in
          let k = declared-size (map (decl_of ks Ps) Gs) (map (decl_of ks Ps) Fs)
          (sizes-int T ok Gs (some-facts T ok (is_on givens_side)) (unfound T ok)) n (named-size T ok Gs t n i) in
          let m : model_domain (all_decls E) (q ++ c) (axis_for Ps t (Some sized)) ≡ Some (between (pos 1) (pos (length g.1.0))) =
          ap (λ c'. domain_of (int_dom (both_ends ∷ []) (more_exs (number_ex (pos 1)) (more_exs (as_bound c') no_exs)))
          (env_of_tables (q ++ c))) k
          ∙ ap (λ o. option_map integers (spans_of (both_ends ∷ []) (Some (number (pos 1)) ∷ cell_in false o (Some []) ∷ []))) tb in
          ap members_in m
          ∙ ap (λ o. Some (member_list (between (pos 1) (pos (length (list_or_none o)))))) (sym g.1.1)

  -- ---- the table of a find

  sets-bool : (Qs : List Plan) → Each Qs (PlanFact T ok) → Each Qs (λ P. is_on finds_side P ≡ true) →
      Each (map (decl_of ks Ps) Qs) (λ d. (length d.axes ≡ 1) × (is_bool_dom d.cell ≡ true))
  sets-bool [] h n = tt
  sets-bool (P ∷ Qs) h n = (go P h.0 n.0, sets-bool Qs h.1 n.1)
    where
      go : (P : Plan) → PlanFact T ok P → is_on finds_side P ≡ true →
          (length (decl_of ks Ps P).axes ≡ 1) × (is_bool_dom (decl_of ks Ps P).cell ≡ true)
      go P (size_fact t n e) f = let z : false ≡ true = ap (is_on finds_side) (sym e) ∙ f in cc
      go P (occ_fact x A n e a) f = subst (λ P. (length (decl_of ks Ps P).axes ≡ 1) × (is_bool_dom (decl_of ks Ps P).cell ≡ true))
          (sym e) (refl, refl)

  named-set : (Qs : List Plan) (x : Text) (d : Dom) (n : Text) → In (value_plan finds_side x Occ d ((n, 1) ∷ [])) Qs →
      In n (map (λ d. d.name) (map (decl_of ks Ps) Qs))
  named-set [] x d n i = absurd i
  named-set (P ∷ Qs) x d n (inl e) = inl (ap (λ P. (decl_of ks Ps P).name) e)
  named-set (P ∷ Qs) x d n (inr i) = inr (named-set Qs x d n i)

  decl-keys : (Qs : List Plan) → Each Qs (PlanFact T ok) → map (λ d. d.name) (map (decl_of ks Ps) Qs) ≡ keys (names_of_plans Qs)
  decl-keys Qs h = names (map (decl_of ks Ps) Qs) ∙ ap keys (decl-names T ok Qs h)
    where
      names : (ds : List TableDecl) → map (λ d. d.name) ds ≡ keys (map decl_name ds)
      names [] = refl
      names (d ∷ ds) = ap (λ l. d.name ∷ l) (names ds)

  -- A found table's name is none of a given table.
  not-given : (n : Text) → In n (keys (names_of_plans Fs)) → is_among (keys (names_of_plans Gs)) n ≡ false
  not-given n i = go (is_among (keys (names_of_plans Gs)) n) refl
    where
      go : (b : Bool) → is_among (keys (names_of_plans Gs)) n ≡ b → is_among (keys (names_of_plans Gs)) n ≡ false
      go false q = q
      go true q = let z : true ≡ false = sym (in-among (keys (names_of_plans Fs)) n i)
          ∙ cross Ps (all-names-differ S' no_options) n (among-in (keys (names_of_plans Gs)) n q) in cc

  -- One table over the members.
  one-table : (p : Assignment) (A : Atom) (f : AtomFact T ok A) (e : Domain) (ts : Tables) →
      Some (sets [] (dom_at T ok p A f)) ≡ Some e → tables_are (declarations Occ (domain_with_positions e)) ts ≡ true →
      (t : Table) × (ts ≡ t ∷ []) × (t.axes ≡ codes_of (pos_at T ok p A f) ∷ [])
  one-table p A f e ts q are =
      let z : e ≡ sets [] (dom_at T ok p A f) = cc in
      let r = one-row (pos_at T ok p A f) (atom-with T ok p A f).0 [] ts
      (subst (λ e. tables_are (declarations Occ (domain_with_positions e)) ts ≡ true) z are) in
      (r.t, r.is, r.axes)

  -- Declarations of the model as the program declares it.
  abbrev pub new_decls : List TableDecl
  new_decls = map (decl_of ks Ps) Gs ++ map (table_decl T) Fs

  -- The axis is the same under these.
  pub kinded-same : (p : Assignment) (A : Atom) → AtomFact T ok A → kinded_dom new_decls (axis_at T A) []
      ≡ kinded_dom (all_decls E) (axis_at T A) []
  kinded-same p (range a b) f = refl
  kinded-same p boolean f = refl
  kinded-same p (typed t) f = subst (λ o. kinded_dom new_decls (axis_for Ps t o) []
      ≡ kinded_dom (all_decls E) (axis_for Ps t o) []) (sym f.1)
      (go f.0 f.1)
    where
      go : (k : TypeKind) → look ks t ≡ Some k → kinded_dom new_decls (axis_for Ps t (Some k)) []
          ≡ kinded_dom (all_decls E) (axis_for Ps t (Some k)) []
      go (fixed n) e = refl
      go sized e =
          let n : Text = size_name Ps t in
          let i = size-of T ok t e in
          let h = sizes-int T ok Gs (some-facts T ok (is_on givens_side)) (unfound T ok) in
          let j = named-size T ok Gs t n i in
          ap (λ c. int_dom (both_ends ∷ []) (more_exs (number_ex (pos 1)) (more_exs (as_bound c) no_exs)))
          (declared-size (map (decl_of ks Ps) Gs) (map (table_decl T) Fs) h n j
          ∙ sym (declared-size (map (decl_of ks Ps) Gs) (map (decl_of ks Ps) Fs) h n j))

  new-bool : (Qs : List Plan) → Each Qs (PlanFact T ok) → Each Qs (λ P. is_on finds_side P ≡ true) →
      Each (map (table_decl T) Qs) (λ d. (length d.axes ≡ 1) × (is_bool_dom d.cell ≡ true))
  new-bool [] h n = tt
  new-bool (P ∷ Qs) h n = (go P h.0 n.0, new-bool Qs h.1 n.1)
    where
      go : (P : Plan) → PlanFact T ok P → is_on finds_side P ≡ true →
          (length (table_decl T P).axes ≡ 1) × (is_bool_dom (table_decl T P).cell ≡ true)
      go P (size_fact t n e) f = let z : false ≡ true = ap (is_on finds_side) (sym e) ∙ f in cc
      go P (occ_fact x A n e a) f = subst (λ P. (length (table_decl T P).axes ≡ 1) × (is_bool_dom (table_decl T P).cell ≡ true))
          (sym e) (refl, refl)

  new-named : (Qs : List Plan) (x : Text) (d : Dom) (n : Text) → In (value_plan finds_side x Occ d ((n, 1) ∷ [])) Qs →
      In n (map (λ d. d.name) (map (table_decl T) Qs))
  new-named [] x d n i = absurd i
  new-named (P ∷ Qs) x d n (inl e) = inl (ap (λ P. (table_decl T P).name) e)
  new-named (P ∷ Qs) x d n (inr i) = inr (new-named Qs x d n i)

  -- A table of a find, declared both ways.
  pub record BothTables (l : Lit) (x : Text) (A : Atom) (tc : Names Table) : Type 0 where
    pub t : Table
    pub ms : List Value
    pub old : IsTable (all_decls E) tc (table_of Ps x) (axis_at T A) (shown_literal vs l) t ms
    pub new : IsTable new_decls tc (table_of Ps x) (axis_at T A) (shown_literal vs l) t ms

  -- The table of a find of a membership.
  pub is-table : (l : Lit) (x : Text) (A : Atom) → In (find x (sets_of A)) S' → LitFact T ok l A → (p a : Assignment) (q c : Names Table) →
      Instance S' no_options p q → Canonical S' no_options p a c →
      BothTables l x A (q ++ c)
  is-table l x A j g p a q c I C =
      let n : Text = table_of Ps x in
      let pl = planned T ok x (sets_of A) j in
      let P : Plan = value_plan finds_side x Occ (sets_of pl.0) ((n, 1) ∷ []) in
      let i : In P Fs = in-filtered (is_on finds_side) P Ps pl.2 refl in
      let F = at-item (Found S' no_options E (base T ok) p q I a c) Fs P
      (matched-found S' no_options E (base T ok) p q I a c
      (canonical-matched S' no_options E (base T ok) p q I a c C.members C.tables)) i in
      let fi : In (find x (sets_of pl.0)) S' = subst (In (find x (sets_of pl.0))) (prepared-itself T)
      (plan-is-found S' no_options x Occ (sets_of pl.0) ((n, 1) ∷ []) pl.2) in
      let same_atom : pl.0 ≡ A = one-atom T ok pl.0 A (one-domain (spec T) (finds-new T none_declared ok).1 x (sets_of pl.0)
      (sets_of A) fi j) in
      let r = one-table p pl.0 pl.1 F.1.e F.0 (sym (dom-closed T ok p pl.0 pl.1) ∙ F.1.closed) F.1.are in
      let nk : In n (keys (names_of_plans Fs)) = subst (In n) (decl-keys Fs (some-facts T ok (is_on finds_side)))
      (named-set Fs x (sets_of pl.0) n i) in
      let ng : is_among (keys (names_of_plans Gs)) n ≡ false = not-given n nk in
      let w = found-line (map (decl_of ks Ps) Fs) n (sets-bool Fs (some-facts T ok (is_on finds_side))
      (all-items (λ P. is_on finds_side P ≡ true) Fs (λ P i. (in-filter (is_on finds_side) P Ps i).1))) (named-set Fs x
      (sets_of pl.0) n i) in
      let v = found-line (map (table_decl T) Fs) n (new-bool Fs (some-facts T ok (is_on finds_side))
      (all-items (λ P. is_on finds_side P ≡ true) Fs (λ P i. (in-filter (is_on finds_side) P Ps i).1))) (new-named Fs x
      (sets_of pl.0) n i) in
      let none_given = ap (λ l. is_among l n) (decl-keys Gs (some-facts T ok (is_on givens_side))) ∙ ng in
      let fd = look-past q c n (ap (λ l. is_among l n) (given-keys S' no_options (ground T ok) p q I) ∙ ng)
      ∙ only-table (look c n) F.0 r.0 r.1 F.2 in
      let al = alike p pl.0 pl.1 l (subst (LitFact T ok l) (sym same_atom) g) in
      subst (λ B. BothTables l x B (q ++ c)) same_atom (record {
        t = r.0;
        ms = member_list (pos_at T ok p pl.0 pl.1);
        old = record {
          line = w.line;
          declared = skip-decls (map (decl_of ks Ps) Gs) (map (decl_of ks Ps) Fs) n none_given ∙ w.declared;
          one_axis = w.one_axis;
          truths = w.bits;
          found = fd;
          axis = r.2;
          members = axis-members p q c I pl.0 pl.1;
          alike = al;
        };
        new = record {
          line = v.line;
          declared = skip-decls (map (decl_of ks Ps) Gs) (map (table_decl T) Fs) n none_given ∙ v.declared;
          one_axis = v.one_axis;
          truths = v.bits;
          found = fd;
          axis = r.2;
          members = ap (λ D. members_in (domain_of D (env_of_tables (q ++ c)))) (kinded-same p pl.0 pl.1) ∙ axis-members p q c I pl.0 pl.1;
          alike = al;
        };
      })

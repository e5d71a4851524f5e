-- A model with the declarations of sets and a rule written for each membership stands for its specification.
use Rattle.std.proofs.Common.{◌≡◌, refl, sym, ap, ◌∙◌, subst, ℕ, true, false, not, List, [], ◌∷◌, ◌++◌, map, filter, inl, inr, Some, option_map}
use Rattle.ess_semantics.specs.Lists.{append_all}
use Rattle.ess_semantics.specs.Values.{Text}
use Rattle.ess_semantics.specs.Names.{Names}
use Rattle.ess_semantics.specs.Trees.{Ex, number_ex, Dom, bool_dom, Stm, find}
use Rattle.ess_semantics.specs.Contexts.{Each}
use Rattle.ess_semantics.specs.Meaning.{is_true}
use Rattle.ess_semantics.specs.Assignments.{Assignment}
use Rattle.ess_semantics.specs.Tables.{Tables}
use Rattle.ess_semantics.specs.Judgements.{is_well_typed}
use Rattle.ess_semantics.specs.Prepared.{prepared}
use Rattle.ess_semantics.specs.Occurrences.{parts_of}
use Rattle.ess_semantics.specs.Constants.{parts_of_decl}
use Rattle.ess_semantics.specs.Plans.{Plan, value_plan, plans, plans_for, value_names, is_plan_of, givens_side, finds_side}
use Rattle.ess_semantics.specs.ModelTrees.{no_goal, Model, all_decls, header_of}
use Rattle.ess_semantics.specs.ModelMeaning.{model_value}
use Rattle.ess_semantics.specs.Models.{Models, IsExact, is_flat, with_cells, constraints_of}
use Rattle.ess_semantics.specs.Domains.{Domain, sets}
use Rattle.ess_semantics.specs.Cells.{cells_of}
use Rattle.ess_semantics.specs.CanonicalTest.{canonical}
use Rattle.ess_semantics.specs.Declarations.{declarations}
use Rattle.ess_semantics.specs.Positions.{domain_with_positions}
use Rattle.ess_semantics.specs.LargeModels.{declares_large}
use Rattle.conjure_laws.specs.Members.{In}
use Rattle.conjure_laws.specs.SideBySide.{Along}
use Rattle.conjure_laws.specs.Premises.{is_on, tables_are}
use Rattle.conjure_laws.specs.ModelPremises.{StructureMeans, ChannelsMean, RuleMeans, Layers, spelled, Texts}
use Rattle.conjure_laws.specs.SetsOfAtoms.{Atom, Lit, num, truth_lit, value_name, Line, enum, given_type, unnamed, set_find, holds_lit, sets_of, membership, spec, TypeKind, none_declared, after_all}
use Rattle.conjure_laws.specs.ModelsOfSets.{no_options, table_of, decl_of, number_of, rule_of, rules_of, model_of}
use Rattle.conjure_laws.proofs.Lists.{at-item, in-filtered, in-right, each-map, each-append}
use Rattle.conjure_laws.proofs.Occurrence.{occurrence-structure}
use Rattle.conjure_laws.proofs.SetCells.{nones}
use Rattle.conjure_laws.proofs.Reduction.{models, exact}
use Rattle.conjure_laws.proofs.Statements.{plan-is-found, one-domain}
use Rattle.conjure_laws.proofs.SetScopes.{Fine, prepared-itself}
use Rattle.conjure_laws.proofs.SetFacts.{AtomFact, Facts, LitFact}
use Rattle.conjure_laws.proofs.SetNames.{finds-new}
use Rattle.conjure_laws.proofs.SetsSettled.{facts}
use Rattle.conjure_laws.proofs.SetPlans.{Occ, PlanFact, size_fact, occ_fact, some-facts, pos_at, atom-with, dom-closed}
use Rattle.conjure_laws.proofs.SetChannels.{none, none_of, channels-mean, goals}
use Rattle.conjure_laws.proofs.SetDeclarations.{base, unfound}
use Rattle.conjure_laws.proofs.SetValues.{planned as find-planned, one-atom}
use Rattle.conjure_laws.proofs.SetRules.{layers, layers-rules}
use Rattle.conjure_laws.proofs.SetTexts.{texts}
use Rattle.conjure_laws.proofs.SmallSets.{domains-small}
use Rattle.conjure_laws.proofs.WellTypedSets.{well-typed-fine}
use Rattle.ess_member_rules_laws.specs.WrittenForms.{at_number, by_number}
use Rattle.ess_member_rules_laws.proofs.Means.{value}
use Rattle.ess_member_models_laws.specs.MemberModels.{shown_literal, axis_at, table_decl, IsRuleOf, AreRulesOf, IsMemberModel}
use Rattle.ess_member_models_laws.proofs.MemberTables.{new_decls as decls_as_declared, is-table}
use Rattle.ess_member_models_laws.proofs.TurnedTables.{finds-turned, givens-turned, new-names, spelled-turned, new-small, not-no}
use Rattle.ess_member_models_laws.proofs.MemberTexts.{rule-spelled}

in-map : {A B : Type 0} (f : A → B) (a : A) (xs : List A) → In a xs → In (f a) (map f xs)
in-map f a [] i = absurd i
in-map f a (x ∷ xs) (inl e) = inl (ap f e)
in-map f a (x ∷ xs) (inr i) = inr (in-map f a xs i)

module _ (T : List Line) (ok : Fine none_declared T) where
  abbrev S' : List Stm
  S' = spec T

  abbrev ks : Names TypeKind
  ks = (after_all T none_declared).types

  abbrev vs : Names (Text × ℕ)
  vs = (after_all T none_declared).values

  abbrev Ps : List Plan
  Ps = plans S' no_options

  abbrev E : Model
  E = model_of T

  abbrev Gs : List Plan
  Gs = plans_for givens_side S' no_options

  abbrev Fs : List Plan
  Fs = plans_for finds_side S' no_options

  -- The model with other rules.
  abbrev with_rules : List Ex → Model
  with_rules rs = record { givens = (model_of T).givens; finds = map (table_decl T) Fs; goal = no_goal; rules = rs }

  -- ---- one membership

  lit-at : (l : Lit) (x : Text) (A B : Atom) → In (find x (sets_of A)) S' → In (find x (sets_of B)) S' → LitFact T ok l A → LitFact T ok l B
  lit-at l x A B i j g = subst (LitFact T ok l)
      (one-atom T ok A B (one-domain (spec T) (finds-new T none_declared ok).1 x (sets_of A) (sets_of B) i j)) g

  number-rule : (n : Text) (D : Dom) (l : Lit) → at_number n D (shown_literal vs l) ≡ at_number n D (number_ex (number_of vs l))
  number-rule n D (num k) = refl
  number-rule n D (truth_lit true) = refl
  number-rule n D (truth_lit false) = refl
  number-rule n D (value_name a) = refl

  rule-means : (rs : List Ex) (l : Lit) (x : Text) (r : Ex) → (A : Atom) × In (find x (sets_of A)) S' × LitFact T ok l A →
      IsRuleOf T l x r →
      RuleMeans S' no_options E (membership l x) (rule_of vs Ps l x) → RuleMeans S' no_options (with_rules rs) (membership l x) r
  rule-means rs l x r cf R h p a q c I C =
      let w = is-table T ok l x R.atom R.found (lit-at l x cf.0 R.atom cf.1 R.found cf.2) p a q c I C in
      ap is_true (value (decls_as_declared T ok) (q ++ c) (table_of Ps x) (axis_at T R.atom) (shown_literal vs l) w.t w.ms w.new r R.written
      ∙ sym (value (all_decls E) (q ++ c) (table_of Ps x) (axis_at T R.atom) (shown_literal vs l) w.t w.ms w.old
      (at_number (table_of Ps x) (axis_at T R.atom) (shown_literal vs l)) by_number))
      ∙ ap (λ e. is_true (model_value (all_decls E) (q ++ c) e)) (number-rule (table_of Ps x) (axis_at T R.atom) l)
      ∙ h p a q c I C

  rules-mean : (rs ss : List Ex) (U : List Line) → Facts T ok U → AreRulesOf T U ss →
      Along (constraints_of (spec U)) (rules_of vs Ps U) (RuleMeans S' no_options E) →
      Along (constraints_of (spec U)) ss (RuleMeans S' no_options (with_rules rs))
  rules-mean rs [] [] f w h = tt
  rules-mean rs (s ∷ ss) [] f w h = absurd w
  rules-mean rs ss (enum t ns ∷ U) f w h = rules-mean rs ss U f w h
  rules-mean rs ss (given_type t ∷ U) f w h = rules-mean rs ss U f w h
  rules-mean rs ss (unnamed t n ∷ U) f w h = rules-mean rs ss U f w h
  rules-mean rs ss (set_find x A ∷ U) f w h = rules-mean rs ss U f.1 w h
  rules-mean rs [] (holds_lit l x ∷ U) f w h = absurd w
  rules-mean rs (s ∷ ss) (holds_lit l x ∷ U) f w h = (rule-means rs l x s f.0 w.0 h.0, rules-mean rs ss U f.1 w.1 h.1)

  old-rules : Along (constraints_of (spec T)) (rules_of vs Ps T) (RuleMeans S' no_options E)
  old-rules = subst (λ U. Along (constraints_of U) (rules_of vs Ps T) (RuleMeans S' no_options E)) (prepared-itself T)
      (subst (λ rs. Along (constraints_of (prepared S')) rs (RuleMeans S' no_options E)) (layers-rules T ok) (layers T ok).rules.rules_mean)

  -- ---- the layers of the model

  -- Structures need no rules.
  structure : (rs : List Ex) (P : Plan) → PlanFact T ok P → StructureMeans S' no_options (with_rules rs) P []
  structure rs P (size_fact t n e) = subst (λ P. StructureMeans S' no_options (with_rules rs) P []) (sym e) tt
  structure rs P (occ_fact x A n e f) = subst (λ P. StructureMeans S' no_options (with_rules rs) P []) (sym e) (λ p q c d ts I t h.
      go p d ts (sym (ap (option_map domain_with_positions) (dom-closed T ok p A f)) ∙ h.closed) h.are)
    where
      go : (p : Assignment) (d : Domain) (ts : Tables) → Some (sets [] (pos_at T ok p A f)) ≡ Some d →
          tables_are (declarations Occ d) ts ≡ true → true ≡ canonical Occ d (cells_of ts)
      go p d ts c h =
          let z : sets [] (pos_at T ok p A f) ≡ d = cc in
          subst (λ d. tables_are (declarations Occ d) ts ≡ true → true ≡ canonical Occ d (cells_of ts)) z
          (λ h. sym (occurrence-structure (pos_at T ok p A f) (atom-with T ok p A f).0 ts h)) h

  channels-turned : (rs : List Ex) (Qs : List Plan) (css : List (List Ex)) → ChannelsMean S' no_options E Qs css → css ≡ [] →
      ChannelsMean S' no_options (with_rules rs) Qs css
  channels-turned rs [] css h e = absurd h
  channels-turned rs (P ∷ []) [] h e = tt
  channels-turned rs (P ∷ Q ∷ Qs) [] h e = absurd h
  channels-turned rs (P ∷ Qs) (cs ∷ css) h e = cc

  each-channel : (rs : List Ex) (xs : List Text) → Along xs (map (λ x. none_of) xs)
      (λ x css. ChannelsMean S' no_options E (filter (is_plan_of x) Ps) css) → Along xs (map (λ x. none_of) xs)
      (λ x css. ChannelsMean S' no_options (with_rules rs) (filter (is_plan_of x) Ps) css)
  each-channel rs [] h = tt
  each-channel rs (x ∷ xs) h = (channels-turned rs (filter (is_plan_of x) Ps) [] h.0 refl, each-channel rs xs h.1)

  no-rules : {A : Type 0} (xs : List A) → append_all (map (λ x. none) xs) ≡ none
  no-rules [] = refl
  no-rules (x ∷ xs) = no-rules xs

  no-channels : {A : Type 0} (xs : List A) → append_all (map append_all (map (λ x. none_of) xs)) ≡ none
  no-channels [] = refl
  no-channels (x ∷ xs) = no-channels xs

  in-order : (rs : List Ex) → rs ≡ (append_all (map (λ x. none) Fs) ++ append_all
      (map append_all (map (λ x. none_of) (value_names finds_side S'))) ++ none) ++ rs
  in-order rs =
      sym (ap (λ l. (l ++ append_all (map append_all (map (λ x. none_of) (value_names finds_side S'))) ++ none) ++ rs) (no-rules Fs)
      ∙ ap (λ l. (l ++ none) ++ rs) (no-channels (value_names finds_side S')))

  abbrev new_layers : (rs : List Ex) → AreRulesOf T T rs → Layers S' no_options (with_rules rs)
  new_layers rs w =
      let b = base T ok in
      let g = goals T ok in
      record {
        base = record {
          ground = b.ground;
          declares = record {
            given_names = b.declares.given_names;
            find_names = new-names T ok Fs (some-facts T ok (is_on finds_side)) ∙ b.declares.find_names;
            given_domains = λ p q I. givens-turned T ok p q Gs (some-facts T ok (is_on givens_side)) (unfound T ok) _
                (b.declares.given_domains p q I);
            find_domains = λ p q I. finds-turned T ok p q Fs (some-facts T ok (is_on finds_side)) _ (b.declares.find_domains p q I);
          };
        };
        rules = record {
          structures = map (λ x. none) Fs;
          channels = map (λ x. none_of) (value_names finds_side S');
          goals = none;
          rules = rs;
          all = in-order rs;
          structures_mean = nones Fs (StructureMeans S' no_options (with_rules rs))
              (each-map Fs (PlanFact T ok) (λ P. StructureMeans S' no_options (with_rules rs) P []) (structure rs)
              (some-facts T ok (is_on finds_side)));
          channels_mean = each-channel rs (value_names finds_side S') (channels-mean T ok);
          goals_mean = record { has_value = g.has_value; value = g.value };
          rules_mean = subst (λ l. Along (constraints_of l) rs (RuleMeans S' no_options (with_rules rs))) (sym (prepared-itself T))
              (rules-mean rs rs T (facts T ok) w old-rules);
        };
      }

  -- ---- its text

  abbrev old_texts : Texts S' no_options (header_of S' no_options) E (rules_of vs Ps T)
  old_texts = texts T ok (λ p q I u v. domains-small T ok p q I v)

  decl-spelled : (l : Lit) (x : Text) (A : Atom) → In (find x (sets_of A)) S' → (B : Atom) → In (find x (sets_of B)) S' → (n : Text) →
      spelled S' (parts_of_decl (record { name = n; axes = axis_at T A ∷ []; cell = bool_dom })) ≡ true
  decl-spelled l x A i B j n =
      let pl = find-planned T ok x (sets_of A) i in
      let P : Plan = value_plan finds_side x Occ (sets_of pl.0) ((table_of Ps x, 1) ∷ []) in
      let fi : In (find x (sets_of pl.0)) S' = subst (In (find x (sets_of pl.0))) (prepared-itself T)
      (plan-is-found S' no_options x Occ (sets_of pl.0) ((table_of Ps x, 1) ∷ []) pl.2) in
      let same : pl.0 ≡ A = one-atom T ok pl.0 A (one-domain (spec T) (finds-new T none_declared ok).1 x (sets_of pl.0) (sets_of A) fi i) in
      subst (λ B. spelled S' (parts_of_decl (record { name = n; axes = axis_at T B ∷ []; cell = bool_dom })) ≡ true) same
      (at-item (λ d. spelled S' (parts_of_decl d) ≡ true) (all_decls E) (decl_of ks Ps P) old_texts.decls
      (in-right (decl_of ks Ps P) (map (decl_of ks Ps) Gs) (map (decl_of ks Ps) Fs)
      (in-map (decl_of ks Ps) P Fs (in-filtered (is_on finds_side) P Ps pl.2 refl))))

  atom-of : (x : Text) (A : Atom) → In (find x (sets_of A)) S' → AtomFact T ok A
  atom-of x A i =
      let pl = find-planned T ok x (sets_of A) i in
      let fi : In (find x (sets_of pl.0)) S' = subst (In (find x (sets_of pl.0))) (prepared-itself T)
      (plan-is-found S' no_options x Occ (sets_of pl.0) ((table_of Ps x, 1) ∷ []) pl.2) in
      subst (AtomFact T ok) (one-atom T ok pl.0 A (one-domain (spec T) (finds-new T none_declared ok).1 x (sets_of pl.0)
      (sets_of A) fi i)) pl.1

  rules-spelled : (ss : List Ex) (U : List Line) → Facts T ok U → AreRulesOf T U ss →
      Each (rules_of vs Ps U) (λ r. spelled S' (parts_of r) ≡ true) → Each ss (λ r. spelled S' (parts_of r) ≡ true)
  rules-spelled [] [] f w h = tt
  rules-spelled (s ∷ ss) [] f w h = absurd w
  rules-spelled ss (enum t ns ∷ U) f w h = rules-spelled ss U f w h
  rules-spelled ss (given_type t ∷ U) f w h = rules-spelled ss U f w h
  rules-spelled ss (unnamed t n ∷ U) f w h = rules-spelled ss U f w h
  rules-spelled ss (set_find x A ∷ U) f w h = rules-spelled ss U f.1 w h
  rules-spelled [] (holds_lit l x ∷ U) f w h = absurd w
  rules-spelled (s ∷ ss) (holds_lit l x ∷ U) f w h = (
    rule-spelled T ok (table_of Ps x) x w.0.atom (atom-of x w.0.atom w.0.found) l
        (lit-at l x f.0.0 w.0.atom f.0.1 w.0.found f.0.2) s
        (decl-spelled l x w.0.atom w.0.found w.0.atom w.0.found (table_of Ps x)) h.0 w.0.written,
    rules-spelled ss U f.1 w.1 h.1,
  )

  none-flat : (ss : List Ex) (U : List Line) → AreRulesOf T U ss →
      Along (constraints_of (spec U)) ss (λ e r. is_flat Ps e ≡ true → r ≡ with_cells Ps e)
  none-flat [] [] w = tt
  none-flat (s ∷ ss) [] w = absurd w
  none-flat ss (enum t ns ∷ U) w = none-flat ss U w
  none-flat ss (given_type t ∷ U) w = none-flat ss U w
  none-flat ss (unnamed t n ∷ U) w = none-flat ss U w
  none-flat ss (set_find x A ∷ U) w = none-flat ss U w
  none-flat [] (holds_lit l x ∷ U) w = absurd w
  none-flat (s ∷ ss) (holds_lit l x ∷ U) w = (λ h. let z : false ≡ true = h in cc, none-flat ss U w.1)

  each-left : {A : Type 0} (P : A → Type 0) (xs ys : List A) → Each (xs ++ ys) P → Each xs P
  each-left P [] ys h = tt
  each-left P (x ∷ xs) ys h = (h.0, each-left P xs ys h.1)

  each-right : {A : Type 0} (P : A → Type 0) (xs ys : List A) → Each (xs ++ ys) P → Each ys P
  each-right P [] ys h = h
  each-right P (x ∷ xs) ys h = each-right P xs ys h.1

  new-texts : (rs : List Ex) → AreRulesOf T T rs → Texts S' no_options (header_of S' no_options) (with_rules rs) rs
  new-texts rs w = record {
    header = refl;
    direction = old_texts.direction;
    decls = each-append (λ d. spelled S' (parts_of_decl d) ≡ true) (map (decl_of ks Ps) Gs) (map (table_decl T) Fs)
        (each-left (λ d. spelled S' (parts_of_decl d) ≡ true) (map (decl_of ks Ps) Gs) (map (decl_of ks Ps) Fs) old_texts.decls)
        (spelled-turned T ok Fs (some-facts T ok (is_on finds_side))
        (each-right (λ d. spelled S' (parts_of_decl d) ≡ true) (map (decl_of ks Ps) Gs) (map (decl_of ks Ps) Fs) old_texts.decls));
    goal = refl;
    spells = rules-spelled rs T (facts T ok) w old_texts.spells;
    flat = none-flat rs T w;
    small = λ p q I u v. ap not (new-small T ok p q (not-no T ok (declares_large E q) (old_texts.small p q I u v)));
  }

  -- ---- the model

  right-with : (rs : List Ex) → AreRulesOf T T rs →
      Models S' no_options (header_of S' no_options) (with_rules rs) × IsExact S' no_options (with_rules rs)
  right-with rs w = (
    models S' no_options (with_rules rs) (new_layers rs w) (header_of S' no_options) (new-texts rs w),
    exact S' no_options (with_rules rs) (new_layers rs w),
  )

  same-model : (M : Model) → IsMemberModel T M → M ≡ with_rules M.rules
  same-model M h =
      ap (λ gs. record { givens = gs; finds = M.finds; goal = M.goal; rules = M.rules }) h.givens
      ∙ ap (λ fs. record { givens = (model_of T).givens; finds = fs; goal = M.goal; rules = M.rules }) h.finds
      ∙ ap (λ g. record { givens = (model_of T).givens; finds = map (table_decl T) Fs; goal = g; rules = M.rules }) h.goal

  right : (M : Model) → IsMemberModel T M → Models S' no_options (header_of S' no_options) M × IsExact S' no_options M
  right M h = subst (λ M. Models S' no_options (header_of S' no_options) M × IsExact S' no_options M) (sym (same-model M h))
      (right-with M.rules h.rules)

-- So it is of each well typed specification.
pub member-models : (T : List Line) (M : Model) → is_well_typed (spec T) ≡ true → IsMemberModel T M →
    Models (spec T) no_options (header_of (spec T) no_options) M × IsExact (spec T) no_options M
member-models T M t h = right T (well-typed-fine T t) M h

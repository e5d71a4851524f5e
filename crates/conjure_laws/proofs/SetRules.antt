-- The rules of a specification of sets say what its constraints say: a cell is true where its value is in the set. So all layers stand.
use Rattle.std.proofs.Common.{◌≡◌, refl, sym, ap, ◌∙◌, subst, ℕ, Bool, true, false, List, [], ◌∷◌, ◌++◌, map, length, ℤ, inl, inr, Some}
use Rattle.ess_semantics.specs.declared.words.Op2.{Op2}
use Rattle.ess_semantics.specs.Lists.{append_all}
use Rattle.ess_semantics.specs.Values.{Text, items_of}
use Rattle.ess_semantics.specs.Names.{Names, look, keys, is_among}
use Rattle.ess_semantics.specs.Trees.{binary, Exs, number_ex, no_exs, more_exs, Dom, Stm, find}
use Rattle.ess_semantics.specs.Types.{int_ty}
use Rattle.ess_semantics.specs.Tables.{cell_at}
use Rattle.ess_semantics.specs.Operators.{false_where_undefined, value_of_node}
use Rattle.ess_semantics.specs.Meaning.{meaning, is_true, cell_in, empty_env, is_bool_dom}
use Rattle.ess_semantics.specs.Assignments.{env_of}
use Rattle.ess_semantics.specs.Contexts.{Each}
use Rattle.conjure_laws.proofs.Lists.{at-item, all-items, in-filter, in-filtered}
use Rattle.conjure_laws.specs.Members.{In}
use Rattle.conjure_laws.specs.SideBySide.{Along}
use Rattle.conjure_laws.specs.Premises.{is_on}
use Rattle.conjure_laws.specs.ModelPremises.{RuleMeans, Layers}
use Rattle.conjure_laws.proofs.NamedTables.{among-in, in-among}
use Rattle.conjure_laws.proofs.FreeNames.{all-names-differ}
use Rattle.ess_semantics.specs.DeclaredTables.{TableDecl, decl_name}
use Rattle.ess_semantics.specs.Plans.{Plan, value_plan, names_of_plans, plans, plans_for, value_names, givens_side, finds_side}
use Rattle.ess_semantics.specs.ModelTrees.{Model}
use Rattle.ess_semantics.specs.ModelMeaning.{kinded_cell, env_of_tables}
use Rattle.ess_semantics.specs.Models.{constraints_of}
use Rattle.conjure_laws.specs.SetsOfAtoms.{Atom, Lit, Line, enum, given_type, unnamed, set_find, holds_lit, sets_of, membership, spec, TypeKind, none_declared, after_all}
use Rattle.conjure_laws.specs.ModelsOfSets.{no_options, table_of, decl_of, number_of, rule_of, rules_of, model_of}
use Rattle.conjure_laws.proofs.SetScopes.{Fine, prepared-itself, look-past}
use Rattle.conjure_laws.proofs.SetFacts.{Facts, LitFact, start}
use Rattle.conjure_laws.proofs.SetPlans.{PlanFact, Occ, size_fact, decl-names, occ_fact, some-facts, ground}
use Rattle.conjure_laws.proofs.Givens.{cross, given-keys}
use Rattle.conjure_laws.proofs.SetChannels.{none, none_of, structures-mean, channels-mean, goals}
use Rattle.conjure_laws.proofs.Matching.{canonical-matched}
use Rattle.ess_repr_laws.proofs.Chosen.{on}
use Rattle.conjure_laws.proofs.MatchedTables.{Found, matched-found}
use Rattle.conjure_laws.proofs.SetsSettled.{facts}
use Rattle.ess_semantics.specs.Collections.{holds}
use Rattle.conjure_laws.proofs.Statements.{plan-is-found, one-domain}
use Rattle.conjure_laws.proofs.SetNames.{finds-new}
use Rattle.conjure_laws.proofs.SetCells.{only-table, skip-decls, declared-cell, bool-cell, truth-is}
use Rattle.conjure_laws.proofs.SetDeclarations.{base}
use Rattle.conjure_laws.proofs.SetValues.{planned, one-atom, number-is, match-cell, find-value}

module _ (T : List Line) (ok : Fine none_declared T) where
  abbrev S' : List Stm
  S' = spec T

  abbrev ks : Names TypeKind
  ks = (after_all T none_declared).types

  abbrev vs : Names (Text × ℕ)
  vs = (after_all T none_declared).values

  abbrev Ps : List Plan
  Ps = plans S' no_options

  abbrev E : Model
  E = model_of T

  abbrev Gs : List Plan
  Gs = plans_for givens_side S' no_options

  abbrev Fs : List Plan
  Fs = plans_for finds_side S' no_options

  -- ---- constraints

  sets-bool : (Qs : List Plan) → Each Qs (PlanFact T ok) → Each Qs (λ P. is_on finds_side P ≡ true) →
      Each (map (decl_of ks Ps) Qs) (λ d. (length d.axes ≡ 1) × (is_bool_dom d.cell ≡ true))
  sets-bool [] h n = tt
  sets-bool (P ∷ Qs) h n = (go P h.0 n.0, sets-bool Qs h.1 n.1)
    where
      go : (P : Plan) → PlanFact T ok P → is_on finds_side P ≡ true →
          (length (decl_of ks Ps P).axes ≡ 1) × (is_bool_dom (decl_of ks Ps P).cell ≡ true)
      go P (size_fact t n e) f = let z : false ≡ true = ap (is_on finds_side) (sym e) ∙ f in cc
      go P (occ_fact x A n e a) f = subst (λ P. (length (decl_of ks Ps P).axes ≡ 1) × (is_bool_dom (decl_of ks Ps P).cell ≡ true))
          (sym e)
          (refl, refl)

  named-set : (Qs : List Plan) (x : Text) (d : Dom) (n : Text) → In (value_plan finds_side x Occ d ((n, 1) ∷ [])) Qs →
      In n (map (λ d. d.name) (map (decl_of ks Ps) Qs))
  named-set [] x d n i = absurd i
  named-set (P ∷ Qs) x d n (inl e) = inl (ap (λ P. (decl_of ks Ps P).name) e)
  named-set (P ∷ Qs) x d n (inr i) = inr (named-set Qs x d n i)

  decl-keys : (Qs : List Plan) → Each Qs (PlanFact T ok) → map (λ d. d.name) (map (decl_of ks Ps) Qs) ≡ keys (names_of_plans Qs)
  decl-keys Qs h = names (map (decl_of ks Ps) Qs) ∙ ap keys (decl-names T ok Qs h)
    where
      names : (ds : List TableDecl) → map (λ d. d.name) ds ≡ keys (map decl_name ds)
      names [] = refl
      names (d ∷ ds) = ap (λ l. d.name ∷ l) (names ds)

  -- A found table's name is none of a given table.
  not-given : (n : Text) → In n (keys (names_of_plans Fs)) → is_among (keys (names_of_plans Gs)) n ≡ false
  not-given n i = go (is_among (keys (names_of_plans Gs)) n) refl
    where
      go : (b : Bool) → is_among (keys (names_of_plans Gs)) n ≡ b → is_among (keys (names_of_plans Gs)) n ≡ false
      go false q = q
      go true q = let z : true ≡ false = sym (in-among (keys (names_of_plans Fs)) n i)
          ∙ cross Ps (all-names-differ S' no_options) n (among-in (keys (names_of_plans Gs)) n q) in cc

  -- The rule of a constraint says what the constraint says.
  rule-means : (l : Lit) (x : Text) → (A : Atom) × In (find x (sets_of A)) S' × LitFact T ok l A →
      RuleMeans S' no_options E (membership l x) (rule_of vs Ps l x)
  rule-means l x cf p a q c I C =
      let n : Text = table_of Ps x in
      let k : ℤ = number_of vs l in
      let es : Exs = more_exs (number_ex k) no_exs in
      let pl = planned T ok x (sets_of cf.0) cf.1 in
      let P : Plan = value_plan finds_side x Occ (sets_of pl.0) ((n, 1) ∷ []) in
      let i : In P Fs = in-filtered (is_on finds_side) P Ps pl.2 refl in
      let F = at-item (Found S' no_options E (base T ok) p q I a c) Fs P
      (matched-found S' no_options E (base T ok) p q I a c
      (canonical-matched S' no_options E (base T ok) p q I a c C.members C.tables))
      i in
      let fi : In (find x (sets_of pl.0)) S' = subst (In (find x (sets_of pl.0))) (prepared-itself T)
      (plan-is-found S' no_options x Occ (sets_of pl.0) ((n, 1) ∷ []) pl.2) in
      let same_atom : cf.0 ≡ pl.0 = one-atom T ok cf.0 pl.0 (one-domain (spec T) (finds-new T none_declared ok).1 x (sets_of cf.0)
      (sets_of pl.0)
      cf.1 fi) in
      let w = number-is T ok l pl.0 pl.1 (subst (LitFact T ok l) same_atom cf.2) p a I.param in
      let r = match-cell T ok p a x pl.0 pl.1 n F.0 F.1 w.0 w.1 in
      let t : look c n ≡ Some r.0 = only-table (look c n) F.0 r.0 r.1 F.2 in
      let v : look (env_of S' p a).vals x ≡ Some F.1.v =
      find-value T ok T none_declared (λ p a. empty_env) (start T ok) p a I.param x (sets_of cf.0) F.1.v cf.1 F.1.value in
      let nk : In n (keys (names_of_plans Fs)) = subst (In n) (decl-keys Fs (some-facts T ok (is_on finds_side)))
      (named-set Fs x (sets_of pl.0) n i) in
      let ng : is_among (keys (names_of_plans Gs)) n ≡ false = not-given n nk in
      ap (λ o. is_true (meaning (kinded_cell n es (int_ty ∷ []) o).0 (env_of_tables (q ++ c))))
      (skip-decls (map (decl_of ks Ps) Gs) (map (decl_of ks Ps) Fs) n
      (ap (λ l. is_among l n) (decl-keys Gs (some-facts T ok (is_on givens_side))) ∙ ng))
      ∙ ap (λ e. is_true (meaning e (env_of_tables (q ++ c))))
      (declared-cell (map (decl_of ks Ps) Fs) (sets-bool Fs (some-facts T ok (is_on finds_side))
      (all-items (λ P. is_on finds_side P ≡ true) Fs (λ P i. (in-filter (is_on finds_side) P Ps i).1))) n k
      (named-set Fs x (sets_of pl.0) n i))
      ∙ ap (λ o. is_true (false_where_undefined true (cell_in true o (Some (k ∷ [])))))
      (look-past q c n (ap (λ l. is_among l n) (given-keys S' no_options (ground T ok) p q I) ∙ ng) ∙ t)
      ∙ bool-cell (cell_at r.0 (k ∷ [])) ∙ ap (λ z. on (cell_at r.0 (z ∷ []))) (sym w.2) ∙ r.2
      ∙ sym (truth-is (holds (items_of F.1.v) w.0))
      ∙ sym (ap (λ o. is_true (false_where_undefined true (value_of_node (binary Op2.Member) (o ∷ look (env_of S' p a).vals x ∷ []))))
      w.3
      ∙ ap (λ o. is_true (false_where_undefined true (value_of_node (binary Op2.Member) (Some w.0 ∷ o ∷ [])))) v)

  rules-along : (U : List Line) → Facts T ok U → Along (constraints_of (spec U)) (rules_of vs Ps U) (RuleMeans S' no_options E)
  rules-along [] f = tt
  rules-along (enum t ns ∷ U) f = rules-along U f
  rules-along (given_type t ∷ U) f = rules-along U f
  rules-along (unnamed t n ∷ U) f = rules-along U f
  rules-along (set_find x A ∷ U) f = rules-along U f.1
  rules-along (holds_lit l x ∷ U) f = (rule-means l x f.0, rules-along U f.1)

  no-rules : {A : Type 0} (xs : List A) → append_all (map (λ x. none) xs) ≡ none
  no-rules [] = refl
  no-rules (x ∷ xs) = no-rules xs

  no-channels : {A : Type 0} (xs : List A) → append_all (map append_all (map (λ x. none_of) xs)) ≡ none
  no-channels [] = refl
  no-channels (x ∷ xs) = no-channels xs

  in-order : rules_of vs Ps T ≡ (append_all (map (λ x. none) Fs) ++ append_all
      (map append_all (map (λ x. none_of) (value_names finds_side S'))) ++ none) ++ rules_of vs Ps T
  in-order =
      sym (ap (λ l. (l ++ append_all (map append_all (map (λ x. none_of) (value_names finds_side S'))) ++ none) ++ rules_of vs Ps T)
      (no-rules Fs)
      ∙ ap (λ l. (l ++ none) ++ rules_of vs Ps T) (no-channels (value_names finds_side S')))

  -- The layers, without a premise.
  pub layers : Layers S' no_options E
  layers = record {
    base = base T ok;
    rules = record {
      structures = map (λ x. none) Fs;
      channels = map (λ x. none_of) (value_names finds_side S');
      goals = none;
      rules = rules_of vs Ps T;
      all = in-order;
      structures_mean = structures-mean T ok;
      channels_mean = channels-mean T ok;
      goals_mean = goals T ok;
      rules_mean = subst (λ l. Along (constraints_of l) (rules_of vs Ps T) (RuleMeans S' no_options E)) (sym (prepared-itself T))
          (rules-along T (facts T ok));
    };
  }

  -- Their rules are the cells of the constraints.
  pub layers-rules : layers.rules.rules ≡ rules_of vs Ps T
  unfolding layers
  layers-rules = refl

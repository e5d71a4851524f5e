-- Bounds of declarations name cells of givens that earlier lines declare: so each domain is one of a model in its scope.
use Rattle.std.proofs.Common.{◌≡◌, refl, sym, ap, ◌∙◌, subst, Bool, true, false, ◌&&◌, ◌||◌, not, if◌then◌else◌, List, [], ◌∷◌, ◌++◌, inl, inr, map, filter, Option, Some, None}
use Rattle.std.specs.List.{list_all}
use Rattle.ess_semantics.specs.Values.{Text}
use Rattle.ess_semantics.specs.Order.{same_text}
use Rattle.ess_semantics.specs.Names.{look, is_among, all_distinct, without}
use Rattle.ess_semantics.specs.Trees.{Dom, Stm, given, let_ex, let_dom, needs, find, such_that, minimise, maximise}
use Rattle.ess_semantics.specs.Contexts.{Each}
use Rattle.ess_semantics.specs.Meaning.{is_bool_dom}
use Rattle.ess_semantics.specs.Plans.{Options, Side, givens_side, finds_side, Plan, value_plan, chosen_reprs, plans_from}
use Rattle.ess_semantics.specs.Models.{scalar_cell}
use Rattle.ess_semantics.proofs.Tests.{and-left, and-right, not-true, or-left-no, or-right-no}
use Rattle.ess_semantics.proofs.Texts.{same_text-equal, same_text-itself}
use Rattle.ess_grammar.specs.Readable.{is_name_token}
use Rattle.ess_grammar.specs.Models.{Scope, with_given, with_find}
use Rattle.conjure_laws.specs.Members.{In}
use Rattle.conjure_laws.specs.Premises.{is_on}
use Rattle.ess_flat_models_laws.specs.FlatSpecifications.{given_mark, mark_among, is_scalar_dom, is_atom_alone, is_flat_statement, are_bounded}
use Rattle.ess_flat_models_laws.specs.FlatModels.{dom_with_cells, decl_of}
use Rattle.ess_flat_models_laws.proofs.ScalarDomains.{Atom, is_shape, shape-of}
use Rattle.ess_flat_models_laws.proofs.FlatPlans.{AtomPlan, cell_name, plans-of-one}
use Rattle.ess_flat_models_laws.proofs.FlatNames.{no-yes, scalar-step}
use Rattle.ess_flat_models_laws.proofs.FlatDeclared.{bool-stays}
use Rattle.ess_flat_models_laws.proofs.FlatTexts.{scalar-simple}
use Rattle.ess_flat_models_laws.proofs.SimpleTrees.{is_simple_dom, DomNumbers, NumbersAre}
use Rattle.ess_flat_texts_laws.proofs.SpelledTrees.{HasToken}
use Rattle.ess_flat_texts_laws.proofs.PreparedTokens.{IsNamed}
use Rattle.ess_flat_texts_laws.proofs.LongerNames.{token-free}
use Rattle.ess_flat_texts_laws.proofs.SpelledDeclarations.{GivenThere, dom-model, names_of, AreDomains, other-name}

nothing-behind : (x : Text) → x ++ [] ≡ x
nothing-behind [] = refl
nothing-behind (b ∷ x) = ap (λ l. b ∷ l) (nothing-behind x)

-- The name of a cell is a token.
name-spelled : (x : Text) (taken : List Text) → is_name_token x ≡ true → is_name_token (cell_name x taken) ≡ true
name-spelled x taken h = token-free taken (x ++ []) (subst (λ z. is_name_token z ≡ true) (sym (nothing-behind x)) h)

module _ (Ps : List Plan) where
  -- A name with this cell, where names have these marks: the bounds of its domain have them, and its numbers are such as tokens have.
  pub record BoundedCell (g : Text → Option Bool) (d : Dom) (n : Text) : Type 0 where
    pub bounded : is_scalar_dom g d ≡ true
    pub token : is_name_token n ≡ true
    pub numbers : DomNumbers HasToken d

  -- Plans of single cells, whose bounds name givens among these names and those of earlier plans.
  pub data BoundedPlans : List Text → List Plan → Type 0 where
    no_more : {xs : List Text} → BoundedPlans xs []
    one_given : {xs : List Text} {x : Text} {d : Dom} {n : Text} {Qs : List Plan} → BoundedCell (mark_among xs (given_mark Ps)) d n →
        BoundedPlans (x ∷ xs) Qs → BoundedPlans xs (value_plan givens_side x Atom d ((n, 0) ∷ []) ∷ Qs)
    one_find : {xs : List Text} {x : Text} {d : Dom} {n : Text} {Qs : List Plan} → BoundedCell (mark_among xs (given_mark Ps)) d n →
        BoundedPlans xs Qs → BoundedPlans xs (value_plan finds_side x Atom d ((n, 0) ∷ []) ∷ Qs)

  -- Names of givens that are numbers among these have cells that earlier lines declare.
  pub record SeenCells (xs : List Text) (s : Scope) : Type 0 where
    pub seen : (a : Text) → is_among xs a ≡ true → given_mark Ps a ≡ Some false →
        (n : Text) × (scalar_cell Ps a ≡ Some (false, n)) × GivenThere s n

  among-seen : (xs : List Text) (s : Scope) → SeenCells xs s → (a : Text) → mark_among xs (given_mark Ps) a ≡ Some false →
      (n : Text) × (scalar_cell Ps a ≡ Some (false, n)) × GivenThere s n
  among-seen xs s w a e = go (is_among xs a) refl e
    where
      go : (b : Bool) → is_among xs a ≡ b → (if b then given_mark Ps a else None) ≡ Some false →
          (n : Text) × (scalar_cell Ps a ≡ Some (false, n)) × GivenThere s n
      go true q e = w.seen a q e
      go false q e = cc

  -- The first plan of another given is among these.
  pub record FirstBehind (xs : List Text) (Qs : List Plan) : Type 0 where
    pub behind : (a : Text) → is_among xs a ≡ false → given_mark Ps a ≡ Some false →
        (given_mark Qs a ≡ Some false) × (scalar_cell Qs a ≡ scalar_cell Ps a)

  none : {b : Bool} → None ≡ Some b → ⊥
  none q = cc

  behind-given : (xs : List Text) (x : Text) (d : Dom) (n : Text) (Qs : List Plan) → is_shape d ≡ true →
      FirstBehind xs (value_plan givens_side x Atom d ((n, 0) ∷ []) ∷ Qs) → FirstBehind (x ∷ xs) Qs
  behind-given xs x d n Qs s w = record {
    behind = λ a i m. go a (or-left-no (same_text x a) (is_among xs a) i)
        (w.behind a (or-right-no (same_text x a) (is_among xs a) i) m);
  }
    where
      go : (a : Text) → same_text x a ≡ false →
          (given_mark (value_plan givens_side x Atom d ((n, 0) ∷ []) ∷ Qs) a ≡ Some false)
          × (scalar_cell (value_plan givens_side x Atom d ((n, 0) ∷ []) ∷ Qs) a ≡ scalar_cell Ps a) →
          (given_mark Qs a ≡ Some false) × (scalar_cell Qs a ≡ scalar_cell Ps a)
      go a q r = (
        sym (ap (λ c. if c then Some (is_bool_dom d) else given_mark Qs a) q) ∙ r.0,
        sym (scalar-step givens_side x d n Qs a s ∙ ap (λ c. if c then Some (is_bool_dom d, n) else scalar_cell Qs a) q) ∙ r.1,
      )

  behind-find : (xs : List Text) (x : Text) (d : Dom) (n : Text) (Qs : List Plan) → is_shape d ≡ true →
      FirstBehind xs (value_plan finds_side x Atom d ((n, 0) ∷ []) ∷ Qs) → FirstBehind xs Qs
  behind-find xs x d n Qs s w = record { behind = λ a i m. go a (same_text x a) refl (w.behind a i m) }
    where
      go : (a : Text) (c : Bool) → same_text x a ≡ c →
          (given_mark (value_plan finds_side x Atom d ((n, 0) ∷ []) ∷ Qs) a ≡ Some false)
          × (scalar_cell (value_plan finds_side x Atom d ((n, 0) ∷ []) ∷ Qs) a ≡ scalar_cell Ps a) →
          (given_mark Qs a ≡ Some false) × (scalar_cell Qs a ≡ scalar_cell Ps a)
      go a true q r = absurd (none (sym (ap (λ c. if c then None else given_mark Qs a) q) ∙ r.0))
      go a false q r = (
        sym (ap (λ c. if c then None else given_mark Qs a) q) ∙ r.0,
        sym (scalar-step finds_side x d n Qs a s ∙ ap (λ c. if c then Some (is_bool_dom d, n) else scalar_cell Qs a) q) ∙ r.1,
      )

  -- ---- scopes that grow

  -- A new name is none that is declared.
  other : (s : Scope) (n k : Text) → look s.tables n ≡ None → look s.tables k ≡ Some false → same_text n k ≡ false
  other s n k e f = go (same_text n k) refl
    where
      go : (c : Bool) → same_text n k ≡ c → same_text n k ≡ false
      go false q = q
      go true q = absurd (none (sym e ∙ ap (look s.tables) (same_text-equal n k q) ∙ f))

  there-behind : (s : Scope) (n : Text) (c : Dom) (k : Text) → look s.tables n ≡ None → GivenThere s k →
      GivenThere (with_given s (record { name = n; axes = []; cell = c })) k
  there-behind s n c k e w = record {
    token = w.token;
    table = ap (λ b. if b then Some (is_bool_dom c) else look s.tables k) (other s n k e w.table) ∙ w.table;
    given = w.given;
  }

  there-found : (s : Scope) (n : Text) (c : Dom) (k : Text) → look s.tables n ≡ None → GivenThere s k →
      GivenThere (with_find s (record { name = n; axes = []; cell = c })) k
  there-found s n c k e w =
      let o = other s n k e w.table in record {
        token = w.token;
        table = ap (λ b. if b then Some (is_bool_dom c) else look s.tables k) o ∙ w.table;
        given = ap (λ b. b || is_among s.finds k) o ∙ w.given;
      }

  some-mark : (b m : Bool) → Some b ≡ Some m → b ≡ m
  some-mark b m e = cc

  first-cell : (b c : Bool × Text) → Some b ≡ Some c → b ≡ c
  first-cell b c e = cc

  -- A given more, whose cell no earlier line declares.
  seen-more : (xs : List Text) (s : Scope) (x : Text) (d : Dom) (n : Text) (Qs : List Plan) → is_shape d ≡ true →
      is_name_token n ≡ true → s.finds ≡ [] → look s.tables n ≡ None → SeenCells xs s →
      FirstBehind xs (value_plan givens_side x Atom d ((n, 0) ∷ []) ∷ Qs) →
      SeenCells (x ∷ xs) (with_given s (decl_of Ps (value_plan givens_side x Atom d ((n, 0) ∷ []))))
  seen-more xs s x d n Qs h t f e w b = record { seen = λ a i m. go a (is_among xs a) refl i m }
    where
      here : (a : Text) → same_text x a ≡ true → given_mark Ps a ≡ Some false →
          (given_mark (value_plan givens_side x Atom d ((n, 0) ∷ []) ∷ Qs) a ≡ Some false)
          × (scalar_cell (value_plan givens_side x Atom d ((n, 0) ∷ []) ∷ Qs) a ≡ scalar_cell Ps a) →
          (k : Text) × (scalar_cell Ps a ≡ Some (false, k))
          × GivenThere (with_given s (decl_of Ps (value_plan givens_side x Atom d ((n, 0) ∷ [])))) k
      here a q m r =
          let z = some-mark (is_bool_dom d) false (sym (ap (λ c. if c then Some (is_bool_dom d) else given_mark Qs a) q) ∙ r.0) in (
            n,
            sym r.1 ∙ scalar-step givens_side x d n Qs a h ∙ ap (λ c. if c then Some (is_bool_dom d, n) else scalar_cell Qs a) q
                ∙ ap (λ u. Some (u, n)) z,
            record {
              token = t;
              table = ap (λ c. if c then Some (is_bool_dom (dom_with_cells Ps d)) else look s.tables n) (same_text-itself n)
                  ∙ ap (λ u. Some u) (bool-stays Ps d ∙ z);
              given = ap (λ l. is_among l n) f;
            },
          )

      go : (a : Text) (c : Bool) → is_among xs a ≡ c → same_text x a || is_among xs a ≡ true → given_mark Ps a ≡ Some false →
          (k : Text) × (scalar_cell Ps a ≡ Some (false, k))
          × GivenThere (with_given s (decl_of Ps (value_plan givens_side x Atom d ((n, 0) ∷ [])))) k
      go a true q i m =
          let r = w.seen a q m in (r.0, r.1, there-behind s n (dom_with_cells Ps d) r.0 e r.2)
      go a false q i m = here a (either (same_text x a) (is_among xs a) q i) m (b.behind a q m)
        where
          either : (u v : Bool) → v ≡ false → u || v ≡ true → u ≡ true
          either true v q i = refl
          either false v q i = absurd (no-yes (sym q ∙ i))

  new : (ns : List Text) (n k : Text) → not (is_among ns n) && all_distinct ns ≡ true → In k ns → same_text n k ≡ false
  new ns n k d i = other-name n ns k (not-true (is_among ns n) (and-left (not (is_among ns n)) (all_distinct ns) d)) i

  -- So the domains of givens are those of a model.
  pub givens-domains : {xs : List Text} {Qs : List Plan} → BoundedPlans xs Qs → (s : Scope) → s.finds ≡ [] → SeenCells xs s →
      FirstBehind xs Qs → all_distinct (names_of (map (decl_of Ps) (filter (is_on givens_side) Qs))) ≡ true →
      ((b : Text) → In b (names_of (map (decl_of Ps) (filter (is_on givens_side) Qs))) → look s.tables b ≡ None) →
      AreDomains with_given s (map (decl_of Ps) (filter (is_on givens_side) Qs))
  givens-domains no_more s f w b d e = tt
  givens-domains (one_find {xs = xs} {x = x} {d = c} {n = n} {Qs = Qs} v r) s f w b d e =
      givens-domains r s f w (behind-find xs x c n Qs (shape-of (mark_among xs (given_mark Ps)) c v.bounded) b) d e
  givens-domains (one_given {xs = xs} {x = x} {d = c} {n = n} {Qs = Qs} v r) s f w b d e =
      let ns : List Text = names_of (map (decl_of Ps) (filter (is_on givens_side) Qs)) in
      let h = shape-of (mark_among xs (given_mark Ps)) c v.bounded in
      let u = e n (inl refl) in (
        dom-model (mark_among xs (given_mark Ps)) Ps s (among-seen xs s w) c v.bounded v.numbers,
        givens-domains r (with_given s (decl_of Ps (value_plan givens_side x Atom c ((n, 0) ∷ [])))) f
            (seen-more xs s x c n Qs h v.token f u w b) (behind-given xs x c n Qs h b) (and-right (not (is_among ns n)) (all_distinct ns) d)
            (λ k i. ap (λ q. if q then Some (is_bool_dom (dom_with_cells Ps c)) else look s.tables k) (new ns n k d i) ∙ e k (inr i)),
      )

  -- The domains of these plans are those of a model behind each scope in which all givens that are numbers have their cells.
  abbrev AllDomains : List Plan → Type 0
  AllDomains Qs = (t : Scope) →
      ((a : Text) → given_mark Ps a ≡ Some false → (n : Text) × (scalar_cell Ps a ≡ Some (false, n)) × GivenThere t n) →
      all_distinct (names_of (map (decl_of Ps) Qs)) ≡ true →
      ((b : Text) → In b (names_of (map (decl_of Ps) Qs)) → look t.tables b ≡ None) → AreDomains with_find t (map (decl_of Ps) Qs)

  -- Those of finds are.
  pub finds-domains : (Qs : List Plan) → Each Qs AtomPlan →
      ((f : Side) (x : Text) (d : Dom) (n : Text) → In (value_plan f x Atom d ((n, 0) ∷ [])) Qs → BoundedCell (given_mark Ps) d n) →
      (s : Scope) →
      ((a : Text) → given_mark Ps a ≡ Some false → (n : Text) × (scalar_cell Ps a ≡ Some (false, n)) × GivenThere s n) →
      all_distinct (names_of (map (decl_of Ps) Qs)) ≡ true →
      ((b : Text) → In b (names_of (map (decl_of Ps) Qs)) → look s.tables b ≡ None) → AreDomains with_find s (map (decl_of Ps) Qs)
  finds-domains [] w v s g d e = tt
  finds-domains (P ∷ Qs) w v s g d e =
      let a = w.0 in
      subst (λ P. all_distinct (names_of (map (decl_of Ps) (P ∷ Qs))) ≡ true →
      ((b : Text) → In b (names_of (map (decl_of Ps) (P ∷ Qs))) → look s.tables b ≡ None) →
      AreDomains with_find s (map (decl_of Ps) (P ∷ Qs)))
      (sym a.is) (at a.f a.x a.d a.n (v a.f a.x a.d a.n (inl (sym a.is)))
      (λ t. finds-domains Qs w.1 (λ f y b m i. v f y b m (inr i)) t)) d e
    where
      at : (f : Side) (x : Text) (c : Dom) (n : Text) → BoundedCell (given_mark Ps) c n → AllDomains Qs →
          all_distinct (names_of (map (decl_of Ps) (value_plan f x Atom c ((n, 0) ∷ []) ∷ Qs))) ≡ true →
          ((b : Text) → In b (names_of (map (decl_of Ps) (value_plan f x Atom c ((n, 0) ∷ []) ∷ Qs))) → look s.tables b ≡ None) →
          AreDomains with_find s (map (decl_of Ps) (value_plan f x Atom c ((n, 0) ∷ []) ∷ Qs))
      at f x c n k later d e =
          let ns : List Text = names_of (map (decl_of Ps) Qs) in
          let u = e n (inl refl) in (
            dom-model (given_mark Ps) Ps s g c k.bounded k.numbers,
            later (with_find s (record { name = n; axes = []; cell = dom_with_cells Ps c }))
                (λ a m. let r = g a m in (r.0, r.1, there-found s n (dom_with_cells Ps c) r.0 u r.2))
                (and-right (not (is_among ns n)) (all_distinct ns) d)
                (λ b i. ap (λ q. if q then Some (is_bool_dom (dom_with_cells Ps c)) else look s.tables b) (new ns n b d i) ∙ e b (inr i)),
          )

  -- ---- plans of statements

  module _ (o : Options) where
    abbrev flat : Stm → Bool
    flat = is_flat_statement Ps o

    rest : (s : Stm) (T : List Stm) → list_all flat (s ∷ T) ≡ true → list_all flat T ≡ true
    rest s T h = and-right (flat s) (list_all flat T) h

    -- The cell of a name that a statement of the class declares.
    one-cell : (x : Text) (d : Dom) (taken : List Text) (g : Text → Option Bool) → is_scalar_dom g d ≡ true → is_name_token x ≡ true →
        (is_simple_dom d ≡ true → DomNumbers HasToken d) → BoundedCell g d (cell_name x taken)
    one-cell x d taken g b n r = record { bounded = b; token = name-spelled x taken n; numbers = r (scalar-simple g d b) }

    -- The plans of statements of the class whose bounds name earlier givens.
    pub plans-bounded : (T : List Stm) (declared done xs : List Text) → list_all flat T ≡ true → are_bounded Ps xs T ≡ true →
        Each T IsNamed → Each T (NumbersAre HasToken) → BoundedPlans xs (plans_from T o declared done)
    plans-bounded [] declared done xs h b n r = no_more
    plans-bounded (given x d ∷ T) declared done xs h b n r =
        let i = and-left (flat (given x d)) (list_all flat T) h in
        let p : Bool = is_scalar_dom (mark_among xs (given_mark Ps)) d in
        let q : Bool = are_bounded Ps (x ∷ xs) T in
        subst (BoundedPlans xs) (sym (plans-of-one Ps o givens_side x d T declared done
        (and-right (is_scalar_dom (given_mark Ps) d) (is_atom_alone (chosen_reprs o x d)) i)))
        (one_given (one-cell x d (without x declared ++ done) (mark_among xs (given_mark Ps)) (and-left p q b) n.0 r.0)
        (plans-bounded T declared (cell_name x (without x declared ++ done) ∷ done) (x ∷ xs) (rest (given x d) T h) (and-right p q b)
        n.1 r.1))
    plans-bounded (find x d ∷ T) declared done xs h b n r =
        let i = and-left (flat (find x d)) (list_all flat T) h in
        let p : Bool = is_scalar_dom (mark_among xs (given_mark Ps)) d in
        let q : Bool = are_bounded Ps xs T in
        subst (BoundedPlans xs) (sym (plans-of-one Ps o finds_side x d T declared done
        (and-right (is_scalar_dom (given_mark Ps) d) (is_atom_alone (chosen_reprs o x d)) i)))
        (one_find (one-cell x d (without x declared ++ done) (mark_among xs (given_mark Ps)) (and-left p q b) n.0 r.0)
        (plans-bounded T declared (cell_name x (without x declared ++ done) ∷ done) xs (rest (find x d) T h) (and-right p q b) n.1 r.1))
    plans-bounded (let_ex x e ∷ T) declared done xs h b n r = plans-bounded T declared done xs (rest (let_ex x e) T h) b n.1 r.1
    plans-bounded (let_dom x d ∷ T) declared done xs h b n r = plans-bounded T declared done xs (rest (let_dom x d) T h) b n.1 r.1
    plans-bounded (needs e ∷ T) declared done xs h b n r = plans-bounded T declared done xs (rest (needs e) T h) b n.1 r.1
    plans-bounded (such_that e ∷ T) declared done xs h b n r = plans-bounded T declared done xs (rest (such_that e) T h) b n.1 r.1
    plans-bounded (minimise e ∷ T) declared done xs h b n r = plans-bounded T declared done xs (rest (minimise e) T h) b n.1 r.1
    plans-bounded (maximise e ∷ T) declared done xs h b n r = plans-bounded T declared done xs (rest (maximise e) T h) b n.1 r.1
    plans-bounded (s ∷ T) declared done xs h b n r = absurd (no-yes h)

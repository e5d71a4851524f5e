-- What is built of a specification of the class, part by part: declared cells with their domains, in whose bounds cells stand for names,
-- and no structures and channels.
use Rattle.std.proofs.Common.{◌≡◌, refl, sym, ap, ◌∙◌, subst, ℕ, Bool, true, false, List, [], ◌∷◌, ◌++◌, inl, inr, map, Option, Some, None}
use Rattle.ess_semantics.specs.declared.words.Op1.{Op1}
use Rattle.ess_semantics.specs.declared.words.Op2.{Op2}
use Rattle.ess_semantics.specs.Lists.{append_all, or_default}
use Rattle.ess_semantics.specs.Values.{Text}
use Rattle.ess_semantics.specs.Names.{look}
use Rattle.ess_semantics.specs.Trees.{Ex, Exs, truth_ex, no_exs, more_exs, ex1, ex2, Dom, bool_dom, int_dom}
use Rattle.ess_semantics.specs.Contexts.{Each}
use Rattle.ess_semantics.specs.DeclaredTables.{TableDecl}
use Rattle.ess_semantics.specs.Meaning.{empty_env}
use Rattle.ess_semantics.specs.Plans.{Side, Plan, value_plan}
use Rattle.ess_semantics.specs.Models.{scalar_cell, with_cells, all_with_cells}
use Rattle.ess_grammar.specs.Models.{Scope}
use Rattle.ess_simplify_laws.specs.Simplifying.{simplified}
use Rattle.conjure_laws.specs.Members.{In}
use Rattle.conjure_laws.specs.SideBySide.{Along}
use Rattle.conjure_model_laws.specs.ToldApart.{told}
use Rattle.conjure_model_laws.specs.Shown.{Shows}
use Rattle.conjure_model_laws.specs.IsBuiltFrom.{with_whole_names, declared_of}
use Rattle.ess_repr_declare_laws.specs.DeclaredTrees.{trees_below}
use Rattle.ess_flat_laws.specs.Flat.{Flat, none_marked, truth as truth_is}
use Rattle.ess_flat_models_laws.specs.FlatSpecifications.{given_mark, is_scalar_dom}
use Rattle.ess_flat_models_laws.specs.FlatModels.{dom_with_cells, decl_of}
use Rattle.ess_flat_models_laws.proofs.Reckoned.{Reckoned, digits, of_name, of_cell, minus, bar, plus, less, times, AllReckoned, reckoned-flat, reckoned-simple, cells-reckoned, bounds-reckoned}
use Rattle.ess_flat_models_laws.proofs.ScalarDomains.{Atom, is_shape}
use Rattle.ess_flat_models_laws.proofs.FlatPlans.{AtomPlan}
use Rattle.ess_flat_models_laws.proofs.FlatSimplified.{simpler}
use Rattle.ess_flat_models_laws.proofs.FlatNames.{no-yes}
use Rattle.conjure_modelling.specs.ess_model_trees.Written.{ComesFrom}
use Rattle.conjure_modelling.specs.ess_model_written.Answered.{AllCome, AllUsed, IsUsed}
use Rattle.conjure_modelling.specs.ess_model_written.RulesWritten.{TreeComes, unless_true}
use Rattle.conjure_modelling.specs.ess_model_written.DeclarationsWritten.{BoundComes, BoundsAreWritten, DomIsWritten, DeclIsWritten}
use Rattle.conjure_modelling.specs.ess_model_written.Coming.{DeclsAreWritten, none_written, one_written}
use Rattle.conjure_standing_laws.proofs.FlatChains.{comes-flat}

-- ---- trees without names and cells

bare-simple : (e : Ex) (m : Bool) → Flat none_marked none_marked e m → Flat none_marked none_marked (simplified e) m
bare-simple e m f = (simpler none_marked empty_env (λ n b h. absurd (no h)) f).flat
  where
    no : {b : Bool} → None ≡ Some b → ⊥
    no h = cc

-- ---- bounds over cells

-- Nothing is bound in what is built of numbers and cells.
pub told-reckoned : (g c : Text → Option Bool) {e : Ex} → Reckoned g c e → (k : ℕ) → told e [] k ≡ (e, k)
told-reckoned g c digits k = refl
told-reckoned g c (of_name h) k = refl
told-reckoned g c (of_cell h) k = refl
told-reckoned g c (minus w) k = ap (λ q. (ex1 false Op1.Minus q.0, q.1)) (told-reckoned g c w k)
told-reckoned g c (bar w) k = ap (λ q. (ex1 false Op1.Bar q.0, q.1)) (told-reckoned g c w k)
told-reckoned g c (plus {x = x} {y = y} w v) k =
    ap (λ q. let u : Ex × ℕ = told y [] q.1 in (ex2 false Op2.Plus q.0 u.0, u.1)) (told-reckoned g c w k)
    ∙ ap (λ u. (ex2 false Op2.Plus x u.0, u.1)) (told-reckoned g c v k)
told-reckoned g c (less {x = x} {y = y} w v) k =
    ap (λ q. let u : Ex × ℕ = told y [] q.1 in (ex2 false Op2.Minus q.0 u.0, u.1)) (told-reckoned g c w k)
    ∙ ap (λ u. (ex2 false Op2.Minus x u.0, u.1)) (told-reckoned g c v k)
told-reckoned g c (times {x = x} {y = y} w v) k =
    ap (λ q. let u : Ex × ℕ = told y [] q.1 in (ex2 false Op2.Times q.0 u.0, u.1)) (told-reckoned g c w k)
    ∙ ap (λ u. (ex2 false Op2.Times x u.0, u.1)) (told-reckoned g c v k)

-- ---- declarations

-- These are the plans, their givens that are numbers have such cells, and simplifying leaves flat trees over these flat.
module _ (Ps : List Plan) (cells : Text → Option Bool)
    (given-cells : (a : Text) → given_mark Ps a ≡ Some false → (n : Text) × (scalar_cell Ps a ≡ Some (false, n)) × (cells n ≡ Some false))
    (simple : (e : Ex) (m : Bool) → Flat none_marked cells e m → Flat none_marked cells (simplified e) m) where
  -- A bound with cells in the place of names is written as it is.
  bound-written : (s : Scope) (taken : List Text) (k : ℕ) (e f : Ex) → Reckoned (given_mark Ps) none_marked e →
      BoundComes s taken k (with_cells Ps e) (Some f) → f ≡ with_cells Ps e
  bound-written s taken k e f w v =
      let r = cells-reckoned (given_mark Ps) Ps cells given-cells w in
      comes-flat cells simple s taken k (with_cells Ps e) f false (reckoned-flat none_marked cells r)
      (subst (λ q. ComesFrom s taken q.1 q.0 (Some f)) (told-reckoned none_marked cells r k) v)
      ∙ ap simplified (reckoned-simple none_marked cells r) ∙ reckoned-simple none_marked cells r

  bounds-written : (s : Scope) (taken : List Text) (k : ℕ) (es fs : Exs) → AllReckoned (given_mark Ps) es →
      BoundsAreWritten s taken k (all_with_cells Ps es) fs → fs ≡ all_with_cells Ps es
  bounds-written s taken k no_exs no_exs w v = refl
  bounds-written s taken k no_exs (more_exs f fs) w v = absurd v
  bounds-written s taken k (more_exs e es) no_exs w v = absurd v
  bounds-written s taken k (more_exs e es) (more_exs f fs) w v =
      ap (λ z. more_exs z fs) (bound-written s taken k e f w.0 v.0)
      ∙ ap (more_exs (with_cells Ps e)) (bounds-written s taken k es fs w.1 v.1)

  -- So is a scalar's domain.
  dom-written : (s : Scope) (taken : List Text) (k : ℕ) (d e : Dom) → is_scalar_dom (given_mark Ps) d ≡ true →
      DomIsWritten s taken k (dom_with_cells Ps d) e → e ≡ dom_with_cells Ps d
  dom-written s taken k bool_dom bool_dom h w = refl
  dom-written s taken k (int_dom rs es) (int_dom ss fs) h w =
      ap (λ z. int_dom z fs) (sym w.0)
      ∙ ap (int_dom rs) (bounds-written s taken k es fs (bounds-reckoned (given_mark Ps) rs es h) w.1)
  dom-written s taken k bool_dom e h w = absurd w
  dom-written s taken k (int_dom rs es) e h w = absurd w
  dom-written s taken k d e h w = absurd (no-yes h)

  no-axes : (s : Scope) (taken : List Text) (k : ℕ) (as' : List Dom) → Along [] as' (DomIsWritten s taken k) → as' ≡ []
  no-axes s taken k [] w = refl
  no-axes s taken k (a ∷ as') w = absurd w

  -- So is the declaration of a cell.
  pub decl-written : (s : Scope) (taken : List Text) (k : ℕ) (n : Text) (d : Dom) (u : TableDecl) → is_scalar_dom (given_mark Ps) d ≡ true →
      DeclIsWritten s taken k (record { name = n; axes = []; cell = dom_with_cells Ps d }) u →
      u ≡ record { name = n; axes = []; cell = dom_with_cells Ps d }
  decl-written s taken k n d u h w =
      ap (λ z. record { name = z; axes = u.axes; cell = u.cell }) (sym w.0)
      ∙ ap (λ z. record { name = n; axes = z; cell = u.cell }) (no-axes s taken k u.axes w.1)
      ∙ ap (λ z. record { name = n; axes = []; cell = z }) (dom-written s taken k d u.cell h w.2)

  -- What is declared of a plan.
  pub declared-at : (sh : Shows) (f : Side) (x : Text) (d : Dom) (n : Text) → is_shape d ≡ true →
      look sh.doms x ≡ Some (dom_with_cells Ps d) →
      declared_of sh (value_plan f x Atom d ((n, 0) ∷ [])) ≡ record { name = n; axes = []; cell = dom_with_cells Ps d } ∷ []
  declared-at sh f x bool_dom n h e =
      ap (λ o. with_whole_names (n ∷ []) (trees_below false Atom (or_default o bool_dom))) e
  declared-at sh f x (int_dom rs es) n h e =
      ap (λ o. with_whole_names (n ∷ []) (trees_below false Atom (or_default o (int_dom rs es)))) e
  declared-at sh f x d n h e = absurd (no-yes h)

  -- The domain of each of these plans is one of scalars.
  abbrev pub Bounded : List Plan → Type 0
  Bounded Qs = (f : Side) (x : Text) (d : Dom) (n : Text) → In (value_plan f x Atom d ((n, 0) ∷ [])) Qs →
      is_scalar_dom (given_mark Ps) d ≡ true

  module _ (add : Scope → TableDecl → Scope) (taken : List Text) (k : ℕ) (sh : Shows) where
    one-by-one : (s : Scope) (D : TableDecl) (ts : List TableDecl) (Qs : List Plan) (gs : List TableDecl) →
        ((u : TableDecl) → DeclIsWritten s taken k D u → u ≡ D) →
        ((s : Scope) (gs : List TableDecl) → DeclsAreWritten add taken k s ts gs → gs ≡ map (decl_of Ps) Qs) →
        DeclsAreWritten add taken k s (D ∷ ts) gs → gs ≡ D ∷ map (decl_of Ps) Qs
    one-by-one s D ts Qs gs f g (one_written {u = u} {us = us} w v) = ap (λ z. z ∷ us) (f u w) ∙ ap (λ l. D ∷ l) (g (add s u) us v)

    none-by-none : (s : Scope) (gs : List TableDecl) → DeclsAreWritten add taken k s [] gs → gs ≡ []
    none-by-none s gs none_written = refl

    -- The declarations that are written for plans of scalars.
    pub decls-written : (Qs : List Plan) → Each Qs AtomPlan → Bounded Qs → Each Qs (λ P. declared_of sh P ≡ decl_of Ps P ∷ []) → (s : Scope)
        (gs : List TableDecl) →
        DeclsAreWritten add taken k s (append_all (map (declared_of sh) Qs)) gs → gs ≡ map (decl_of Ps) Qs
    decls-written [] h b d s gs w = none-by-none s gs w
    decls-written (P ∷ Qs) h b d s gs w =
        let a = h.0 in
        let v = subst (λ l. DeclsAreWritten add taken k s (l ++ append_all (map (declared_of sh) Qs)) gs)
        (d.0 ∙ ap (λ P. decl_of Ps P ∷ []) a.is) w in
        one-by-one s (record { name = a.n; axes = []; cell = dom_with_cells Ps a.d }) (append_all (map (declared_of sh) Qs)) Qs gs
        (λ u z. decl-written s taken k a.n a.d u (b a.f a.x a.d a.n (inl (sym a.is))) z)
        (decls-written Qs h.1 (λ f x c n i. b f x c n (inr i)) d.1) v
        ∙ ap (λ P. decl_of Ps P ∷ map (decl_of Ps) Qs) (sym a.is)

-- ---- rules

module _ (s : Scope) (taken : List Text) (k : ℕ) where
  -- Of `true` there comes no rule.
  none-used : (c : Ex) (row : List Ex) → c ≡ truth_ex true → IsUsed (TreeComes s taken k) unless_true c row → row ≡ []
  none-used c row e w =
      let z : w.new ≡ truth_ex true = comes-flat none_marked bare-simple s taken k (truth_ex true) w.new true truth_is
      (subst (λ c. TreeComes s taken k c (Some w.new)) e w.comes) in
      w.is ∙ ap unless_true z

  rows-none : (cs : List Ex) → Each cs (λ c. c ≡ truth_ex true) → (rows : List (List Ex)) →
      Along cs rows (IsUsed (TreeComes s taken k) unless_true) → append_all rows ≡ []
  rows-none [] h [] w = refl
  rows-none (c ∷ cs) h (r ∷ rows) w = ap (λ l. l ++ append_all rows) (none-used c r h.0 w.0) ∙ rows-none cs h.1 rows w.1
  rows-none [] h (r ∷ rows) w = absurd w
  rows-none (c ∷ cs) h [] w = absurd w

  -- Structures of scalars need no rules.
  pub none-written : (cs es : List Ex) → Each cs (λ c. c ≡ truth_ex true) → AllUsed (TreeComes s taken k) unless_true cs es → es ≡ []
  none-written cs es h w = w.all ∙ rows-none cs h w.rows w.each

-- Nothing comes of nothing.
pub none-come : (C : Ex → Option Ex → Type 0) (cs es : List Ex) → cs ≡ [] → AllCome C cs es → es ≡ []
none-come C cs es e w = go es (subst (λ l. Along l es (λ c e. C c (Some e))) e w.each)
  where
    go : (es : List Ex) → Along [] es (λ c e. C c (Some e)) → es ≡ []
    go [] w = refl
    go (x ∷ es) w = absurd w

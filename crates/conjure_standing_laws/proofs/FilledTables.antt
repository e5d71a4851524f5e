-- Over the tables of an instance each declared table of numbers has a number at each slot of its axes: those of finds are over their axes,
-- and those of givens are single cells.
use Rattle.std.proofs.Common.{◌≡◌, refl, sym, ap, ◌∙◌, subst, ℕ, Bool, true, false, ◌||◌, if◌then◌else◌, List, [], ◌∷◌, ◌++◌, ◌⊎◌, inl, inr, map, length, ℤ, pos, Option, Some, None, option_map}
use Rattle.ess_semantics.specs.Lists.{append_all, all_some}
use Rattle.ess_semantics.specs.Values.{Text, Value}
use Rattle.ess_semantics.specs.Order.{same_text}
use Rattle.ess_semantics.specs.Names.{Names, look, keys, is_among}
use Rattle.ess_semantics.specs.Trees.{cell_ex, no_exs, Stm}
use Rattle.ess_semantics.specs.Tables.{Table, Tables, one_cell, cell_at}
use Rattle.ess_semantics.specs.DeclaredTables.{TableDecl, decl_name}
use Rattle.ess_semantics.specs.Meaning.{Env, meaning, is_bool_dom, cell_in, cell_value, tables_in}
use Rattle.ess_semantics.specs.ModelMeaning.{declaration_of, env_of_tables}
use Rattle.ess_semantics.specs.Satisfaction.{tables_fit}
use Rattle.ess_semantics.specs.Assignments.{Assignment}
use Rattle.ess_semantics.specs.Judgements.{fault}
use Rattle.ess_semantics.specs.Plans.{Options, givens_side, finds_side, Plan, size_plan, plans, plans_for}
use Rattle.ess_semantics.specs.ModelTrees.{Model, no_goal}
use Rattle.ess_semantics.proofs.Texts.{same_text-equal}
use Rattle.conjure_laws.specs.Members.{In}
use Rattle.conjure_laws.specs.Premises.{Instance, is_on}
use Rattle.conjure_laws.specs.ModelPremises.{Base, Canonical}
use Rattle.conjure_laws.specs.Views.{over_tables}
use Rattle.conjure_laws.proofs.Givens.{given-keys, given-plan}
use Rattle.conjure_laws.proofs.Lists.{at-item, in-filter}
use Rattle.conjure_laws.proofs.Lookups.{look-left, look-right}
use Rattle.conjure_laws.proofs.MatchedTables.{matched-fit}
use Rattle.conjure_laws.proofs.Matching.{canonical-matched}
use Rattle.ess_flat_models_laws.proofs.FlatDeclared.{bool-stays}
use Rattle.ess_seen_laws.specs.Filled.{AreSlots, no_slot, HasCell, AreFilled}
use Rattle.ess_mixed_models_laws.specs.MixedSpecifications.{kinds, are_mixed_statements}
use Rattle.ess_mixed_models_laws.specs.MixedModels.{mixed_decl, mixed_decls}
use Rattle.ess_mixed_models_laws.proofs.NamedKinds.{no-yes, no-some}
use Rattle.ess_mixed_models_laws.proofs.MixedPlans.{PlanFact, size_fact, atom_fact, set_fact, nested_fact, all-facts}
use Rattle.ess_mixed_models_laws.proofs.MixedCells.{decls, givens-named}
use Rattle.ess_mixed_models_laws.proofs.MixedLayers.{model_with, base, givens-single}
use Rattle.ess_mixed_models_laws.proofs.ScalarValues.{plan-has}
use Rattle.ess_mixed_views_laws.proofs.AxisSizes.{axis_size}
use Rattle.ess_mixed_views_laws.proofs.FilledAxes.{cell-there, table-of, has-cell}

-- ---- declared tables

-- What a declaration says of a table: whether it holds truth values, and how many slots each axis has.
abbrev pub size_of : TableDecl → Bool × List ℕ
size_of t = (is_bool_dom t.cell, map axis_size t.axes)

-- The same of the declared table of this name.
abbrev pub sized_cells : List TableDecl → Text → Option (Bool × List ℕ)
sized_cells ds n = option_map size_of (declaration_of ds n)

-- A declared table of two lists is one of the first, or none of these and one of the second.
either-list : (gs fs : List TableDecl) (n : Text) (t : TableDecl) → declaration_of (gs ++ fs) n ≡ Some t →
    (declaration_of gs n ≡ Some t) ⊎ ((is_among (keys (map decl_name gs)) n ≡ false) × (declaration_of fs n ≡ Some t))
either-list [] fs n t e = inr (refl, e)
either-list (g ∷ gs) fs n t e = go (same_text g.name n) refl e (either-list gs fs n t)
  where
    go : (b : Bool) → same_text g.name n ≡ b → (if b then Some g else declaration_of (gs ++ fs) n) ≡ Some t →
        (declaration_of (gs ++ fs) n ≡ Some t →
        (declaration_of gs n ≡ Some t) ⊎ ((is_among (keys (map decl_name gs)) n ≡ false) × (declaration_of fs n ≡ Some t))) →
        ((if b then Some g else declaration_of gs n) ≡ Some t)
        ⊎ ((b || is_among (keys (map decl_name gs)) n ≡ false) × (declaration_of fs n ≡ Some t))
    go true z e r = inl e
    go false z e r = r e

-- The table of a plan.
record PlanOf (decl : Plan → TableDecl) (Qs : List Plan) (n : Text) (t : TableDecl) : Type 0 where
  plan : Plan
  planned : In plan Qs
  is : decl plan ≡ t
  name : t.name ≡ n

plan-of : (decl : Plan → TableDecl) (Qs : List Plan) (n : Text) (t : TableDecl) → declaration_of (map decl Qs) n ≡ Some t →
    PlanOf decl Qs n t
plan-of decl [] n t e = absurd (no-some e)
plan-of decl (Q ∷ Qs) n t e = go (same_text (decl Q).name n) refl e (plan-of decl Qs n t)
  where
    same : (x y : TableDecl) → Some x ≡ Some y → x ≡ y
    same x y e = cc

    go : (b : Bool) → same_text (decl Q).name n ≡ b → (if b then Some (decl Q) else declaration_of (map decl Qs) n) ≡ Some t →
        (declaration_of (map decl Qs) n ≡ Some t → PlanOf decl Qs n t) → PlanOf decl (Q ∷ Qs) n t
    go true z e r = let s = same (decl Q) t e in
        record { plan = Q; planned = inl refl; is = s; name = ap (λ t. t.name) (sym s) ∙ same_text-equal (decl Q).name n z }
    go false z e r = let w = r e in record { plan = w.plan; planned = inr w.planned; is = w.is; name = w.name }

-- ---- single cells

-- A cell that has a value as a number is there.
valued-cell : (env : Env) (n : Text) (b : Bool) (v : Value) → b ≡ false → meaning (cell_ex b n no_exs) env ≡ Some v → HasCell env n []
valued-cell env n true v z e = cc
valued-cell env n false v z e = go (look env.cells n) refl e
  where
    at : (T : Table) (o : Option ℤ) → look env.cells n ≡ Some T → cell_at T [] ≡ o → option_map (cell_value false) o ≡ Some v →
        HasCell env n []
    at T None q k e = absurd (no-some e)
    at T (Some x) q k e = record { table = T; found = q; cell = x; there = k }

    go : (o : Option Table) → look env.cells n ≡ o → cell_in false o (Some []) ≡ Some v → HasCell env n []
    go None q e = absurd (no-some e)
    go (Some T) q e = at T (cell_at T []) q refl e

-- So is a table of one cell.
one-there : (q : Names Table) (n : Text) (ts : Tables) (z : ℤ) → tables_in q (n ∷ []) ≡ Some ts → ts ≡ one_cell z ∷ [] →
    look q n ≡ Some (one_cell z)
one-there q n ts z e k = go (look q n) e
  where
    same : (x y : Table) → Some (x ∷ []) ≡ Some (y ∷ []) → x ≡ y
    same x y e = cc

    go : (o : Option Table) → all_some (o ∷ []) ≡ Some ts → o ≡ Some (one_cell z)
    go None e = absurd (no-some e)
    go (Some T) e = ap (λ t. Some t) (same T (one_cell z) (e ∙ ap (λ l. Some l) k))

module _ (S : List Stm) (o : Options) (h : are_mixed_statements S o ≡ true) (f : fault S ≡ None) where
  abbrev Ps : List Plan
  Ps = plans S o

  abbrev Gs : List Plan
  Gs = plans_for givens_side S o

  abbrev Fs : List Plan
  Fs = plans_for finds_side S o

  abbrev M : Model
  M = model_with S o h no_goal []

  abbrev B : Base S o M
  B = base S o h f no_goal []

  abbrev decl : Plan → TableDecl
  decl P = mixed_decl (kinds S) Ps P

  abbrev found : List TableDecl
  found = append_all (map (mixed_decls (kinds S) Ps) Fs)

  module _ (p a : Assignment) (q c : Names Table) (I : Instance S o p q) (C : Canonical S o p a c) where
    abbrev there : Env
    there = over_tables S p (q ++ c)

    -- ---- of givens

    abbrev HasCells : TableDecl → Type 0
    HasCells t = is_bool_dom t.cell ≡ false → (is : List ℤ) → AreSlots (map axis_size t.axes) is → HasCell there t.name is

    single : (n : Text) → HasCell there n [] → (is : List ℤ) → AreSlots [] is → HasCell there n is
    single n w [] no_slot = w
    single n w (i ∷ is) s = elim s [ ]

    of-size : (t n : Text) → In (size_plan t n) Gs → HasCell there n []
    of-size t n i =
        let w = given-plan S o B.ground p q I (size_plan t n) i in
        let z : ℤ = pos (length w.1.0) in
        record {
          table = one_cell z;
          found = look-left q c n (one_cell z) (one-there q n w.0 z w.2 w.1.2);
          cell = z;
          there = refl;
        }

    of-given : (P : Plan) → In P Gs → In P Ps → PlanFact S o P → HasCells (decl P)
    of-given P i j (size_fact t n e) =
        subst (λ P. HasCells (decl P)) (sym e) (λ b is s. single n (of-size t n (subst (λ P. In P Gs) e i)) is s)
    of-given P i j (atom_fact w) =
        subst (λ P. HasCells (decl P)) (sym w.is) (λ b is s. single w.n
        (let v = plan-has S o h f no_goal [] p a q c I C w.f w.x w.d w.n (subst (λ P. In P Ps) w.is j) w.scalar in
        let u = valued-cell (env_of_tables (q ++ c)) w.n (is_bool_dom w.d) v.v (sym (bool-stays Ps w.d) ∙ b) v.held in
        record { table = u.table; found = u.found; cell = u.cell; there = u.there }) is s)
    of-given P i j (set_fact x A n e m k) =
        subst (λ P. HasCells (decl P)) (sym e) (λ b is s. absurd (no-yes (sym b)))
    of-given P i j (nested_fact x r d taken e n g k m) = absurd (no-yes (sym (givens-single S o h f P i) ∙ k))

    -- ---- of finds

    fit : tables_fit (decls S o h) q found c ≡ true
    fit = matched-fit S o M B p q I a c (canonical-matched S o M B p q I a c C.members C.tables)

    -- A name that no given table has isn't found among these.
    not-given : (n : Text) → is_among (keys (map decl_name (map decl Gs))) n ≡ false → is_among (keys q) n ≡ false
    not-given n k = ap (λ l. is_among l n) (given-keys S o B.ground p q I ∙ ap keys (sym (givens-named S o h))) ∙ k

    of-find : (n : Text) (t : TableDecl) → is_among (keys (map decl_name (map decl Gs))) n ≡ false → declaration_of found n ≡ Some t →
        (is : List ℤ) → AreSlots (map axis_size t.axes) is → HasCell there n is
    of-find n t k e is s =
        let w = table-of (decls S o h) q found c fit n t e in
        has-cell there n is w.table (look-right q c n (not-given n k) ∙ w.found) (cell-there (decls S o h) q t w.table is w.over s)

    -- ---- of all

    of-declared : (n : Text) (t : TableDecl) → declaration_of (decls S o h) n ≡ Some t → is_bool_dom t.cell ≡ false → (is : List ℤ) →
        AreSlots (map axis_size t.axes) is → HasCell there n is
    of-declared n t e b is s = go (either-list (map decl Gs) found n t e)
      where
        go : (declaration_of (map decl Gs) n ≡ Some t)
            ⊎ ((is_among (keys (map decl_name (map decl Gs))) n ≡ false) × (declaration_of found n ≡ Some t)) → HasCell there n is
        go (inl e) =
            let w = plan-of decl Gs n t e in
            let j = (in-filter (is_on givens_side) w.plan Ps w.planned).0 in
            subst (λ n. HasCell there n is) w.name
            (subst HasCells w.is (of-given w.plan w.planned j (at-item (PlanFact S o) Ps w.plan (all-facts S o h) j)) b is s)
        go (inr k) = of-find n t k.0 k.1 is s

    -- So it is of each declared table of numbers.
    pub tables-filled : AreFilled (sized_cells (decls S o h)) there
    tables-filled n ks e is s = go (declaration_of (decls S o h) n) refl e
      where
        same : (x y : Bool × List ℕ) → Some x ≡ Some y → x ≡ y
        same x y e = cc

        go : (r : Option TableDecl) → declaration_of (decls S o h) n ≡ r → option_map size_of r ≡ Some (false, ks) → HasCell there n is
        go None d e = absurd (no-some e)
        go (Some t) d e =
            let z = same (size_of t) (false, ks) e in
            of-declared n t d (ap (λ y. y.0) z) is (subst (λ l. AreSlots l is) (sym (ap (λ y. y.1) z)) s)

-- The declared cells of a model of the class: each plan's cell is declared with its mark, and each declared cell is a plan's.
use Rattle.std.proofs.Common.{◌≡◌, refl, sym, ap, ◌∙◌, subst, Bool, true, false, if◌then◌else◌, List, [], ◌∷◌, ◌++◌, ◌⊎◌, inl, inr, map, Option, Some, None, option_map}
use Rattle.ess_semantics.specs.Values.{Text}
use Rattle.ess_semantics.specs.Order.{same_text}
use Rattle.ess_semantics.specs.Names.{keys, is_among}
use Rattle.ess_semantics.specs.Trees.{cell_ex, no_exs, Dom, int_dom, Stm}
use Rattle.ess_semantics.specs.DeclaredTables.{TableDecl, decl_name}
use Rattle.ess_semantics.specs.Meaning.{is_bool_dom}
use Rattle.ess_semantics.specs.Plans.{Options, Side, givens_side, finds_side, Plan, value_plan, plans, plans_for, names_of_plans}
use Rattle.ess_semantics.specs.ModelTrees.{Model, all_decls}
use Rattle.ess_semantics.specs.ModelMeaning.{kinded_cell, cell_kind, declaration_of}
use Rattle.ess_semantics.specs.Models.{scalar_cell}
use Rattle.conjure_laws.specs.Members.{In}
use Rattle.conjure_laws.specs.Premises.{is_on}
use Rattle.conjure_laws.proofs.Lists.{at-item, in-filter, in-filtered}
use Rattle.conjure_laws.proofs.NamedTables.{among-in, in-among}
use Rattle.conjure_laws.proofs.FreeNames.{all-names-differ, names-differ}
use Rattle.conjure_laws.proofs.Givens.{cross}
use Rattle.conjure_laws.proofs.SetCells.{skip-decls}
use Rattle.ess_flat_models_laws.specs.FlatSpecifications.{given_mark, scalar_mark, are_flat_statements}
use Rattle.ess_flat_models_laws.specs.FlatModels.{dom_with_cells, decl_of, flat_model}
use Rattle.ess_flat_models_laws.proofs.ScalarDomains.{Atom, is_shape}
use Rattle.ess_flat_models_laws.proofs.FlatPlans.{AtomPlan, all-atoms, some-atoms}
use Rattle.ess_flat_models_laws.proofs.FlatLayers.{decl-names}
use Rattle.ess_flat_models_laws.proofs.FlatNames.{scalar-plan, given-plan, found-decl, declared-in, name-of}

none-behind : (ds : List TableDecl) (n : Text) → declaration_of (ds ++ []) n ≡ declaration_of ds n
none-behind [] n = refl
none-behind (d ∷ ds) n = ap (λ o. if same_text d.name n then Some d else o) (none-behind ds n)

names-are : (ds : List TableDecl) → map (λ d. d.name) ds ≡ keys (map decl_name ds)
names-are [] = refl
names-are (d ∷ ds) = ap (λ l. d.name ∷ l) (names-are ds)

-- Whether a domain is bool stays with cells.
pub bool-stays : (Cs : List Plan) (d : Dom) → is_bool_dom (dom_with_cells Cs d) ≡ is_bool_dom d
bool-stays Cs (int_dom rs es) = refl
bool-stays Cs d = refl

module _ (S : List Stm) (o : Options) (h : are_flat_statements S o ≡ true) where
  abbrev Ps : List Plan
  Ps = plans S o

  abbrev Gs : List Plan
  Gs = plans_for givens_side S o

  abbrev Fs : List Plan
  Fs = plans_for finds_side S o

  abbrev E : Model
  E = flat_model S o

  -- The marks of declared cells.
  abbrev pub cells : Text → Option Bool
  cells n = option_map (λ d. is_bool_dom d.cell) (declaration_of (all_decls E) n)

  -- A found cell's name is none of a given one's.
  not-given : (n : Text) → In n (keys (names_of_plans Fs)) → is_among (map (λ d. d.name) (map (decl_of Ps) Gs)) n ≡ false
  not-given n i =
      ap (λ l. is_among l n) (names-are (map (decl_of Ps) Gs) ∙ ap keys (decl-names Ps Gs (some-atoms S o h (is_on givens_side))))
      ∙ go (is_among (keys (names_of_plans Gs)) n) refl
    where
      go : (b : Bool) → is_among (keys (names_of_plans Gs)) n ≡ b → is_among (keys (names_of_plans Gs)) n ≡ false
      go false q = q
      go true q = let z : true ≡ false = sym (in-among (keys (names_of_plans Fs)) n i)
          ∙ cross Ps (all-names-differ S o) n (among-in (keys (names_of_plans Gs)) n q) in cc

  -- Each plan's cell is declared.
  pub declared-cell : (f : Side) (x : Text) (d : Dom) (n : Text) → In (value_plan f x Atom d ((n, 0) ∷ [])) Ps →
      declaration_of (all_decls E) n ≡ Some (decl_of Ps (value_plan f x Atom d ((n, 0) ∷ [])))
  declared-cell givens_side x d n i = declared-in Ps Gs (some-atoms S o h (is_on givens_side)) (map (decl_of Ps) Fs) givens_side x d n
      (names-differ givens_side S o) (in-filtered (is_on givens_side) (value_plan givens_side x Atom d ((n, 0) ∷ [])) Ps i refl)
  declared-cell finds_side x d n i =
      let j = in-filtered (is_on finds_side) (value_plan finds_side x Atom d ((n, 0) ∷ [])) Ps i refl in
      skip-decls (map (decl_of Ps) Gs) (map (decl_of Ps) Fs) n (not-given n (name-of finds_side x d n Fs j))
      ∙ sym (none-behind (map (decl_of Ps) Fs) n)
      ∙ declared-in Ps Fs (some-atoms S o h (is_on finds_side)) [] finds_side x d n (names-differ finds_side S o) j

  -- Names have cells of their marks.
  pub placed-names : (a : Text) (m : Bool) → scalar_mark Ps a ≡ Some m → (n : Text) × (scalar_cell Ps a ≡ Some (m, n)) × (cells n ≡ Some m)
  placed-names a m e =
      let r = scalar-plan Ps (all-atoms S o h) a m e in (
        r.n,
        r.cell,
        ap (option_map (λ d. is_bool_dom d.cell)) (declared-cell r.f a r.d r.n r.planned)
            ∙ ap (λ b. Some b) (bool-stays Ps r.d ∙ r.mark),
      )

  -- A declared cell is that of a plan.
  pub record Planned (n : Text) (b : Bool) : Type 0 where
    pub f : Side
    pub x : Text
    pub d : Dom
    pub planned : In (value_plan f x Atom d ((n, 0) ∷ [])) Ps
    pub scalar : is_shape d ≡ true
    pub mark : is_bool_dom d ≡ b

  of-plan : (P : Plan) → AtomPlan P → In P Ps → (n : Text) (b : Bool) (D : TableDecl) → decl_of Ps P ≡ D → D.name ≡ n →
      is_bool_dom D.cell ≡ b → Planned n b
  of-plan P w i n b D e k m =
      let q : decl_of Ps (value_plan w.f w.x Atom w.d ((w.n, 0) ∷ [])) ≡ D = ap (decl_of Ps) (sym w.is) ∙ e in
      let r : w.n ≡ n = ap (λ z. z.name) q ∙ k in record {
        f = w.f;
        x = w.x;
        d = w.d;
        planned = subst (λ z. In (value_plan w.f w.x Atom w.d ((z, 0) ∷ [])) Ps) r (subst (λ P. In P Ps) w.is i);
        scalar = w.scalar;
        mark = sym (bool-stays Ps w.d) ∙ ap (λ z. is_bool_dom z.cell) q ∙ m;
      }

  pub planned : (n : Text) (b : Bool) → cells n ≡ Some b → Planned n b
  planned n b e = go (declaration_of (all_decls E) n) refl e
    where
      some-is : (a : Bool) → Some a ≡ Some b → a ≡ b
      some-is a q = cc

      no : None ≡ Some b → ⊥
      no q = cc

      go : (r : Option TableDecl) → declaration_of (all_decls E) n ≡ r → option_map (λ d. is_bool_dom d.cell) r ≡ Some b → Planned n b
      go None q m = absurd (no m)
      go (Some D) q m = at (found-decl Ps Gs (map (decl_of Ps) Fs) n D q)
        where
          mark : is_bool_dom D.cell ≡ b
          mark = some-is (is_bool_dom D.cell) m

          behind : ((P : Plan) × In P Fs × (decl_of Ps P ≡ D) × (D.name ≡ n)) ⊎ (declaration_of [] n ≡ Some D) → Planned n b
          behind (inl r) = of-plan r.0 (at-item AtomPlan Fs r.0 (some-atoms S o h (is_on finds_side)) r.1)
              (in-filter (is_on finds_side) r.0 Ps r.1).0 n b D r.2 r.3 mark
          behind (inr r) = absurd (none r)
            where
              none : None ≡ Some D → ⊥
              none q = cc

          at : ((P : Plan) × In P Gs × (decl_of Ps P ≡ D) × (D.name ≡ n)) ⊎ (declaration_of (map (decl_of Ps) Fs) n ≡ Some D) → Planned n b
          at (inl r) = of-plan r.0 (at-item AtomPlan Gs r.0 (some-atoms S o h (is_on givens_side)) r.1)
              (in-filter (is_on givens_side) r.0 Ps r.1).0 n b D r.2 r.3 mark
          at (inr r) = behind (found-decl Ps Fs [] n D (none-behind (map (decl_of Ps) Fs) n ∙ r))

  -- Names of givens that are numbers have cells that are numbers.
  pub given-cells : (a : Text) → given_mark Ps a ≡ Some false → (n : Text) × (scalar_cell Ps a ≡ Some (false, n)) × (cells n ≡ Some false)
  given-cells a e =
      let r = given-plan Ps (all-atoms S o h) a false e in (
        r.n,
        r.cell,
        ap (option_map (λ d. is_bool_dom d.cell)) (declared-cell givens_side a r.d r.n r.planned)
            ∙ ap (λ b. Some b) (bool-stays Ps r.d ∙ r.mark),
      )

  -- Models have such cells with their marks.
  pub cells-kinded : (n : Text) (b : Bool) → cells n ≡ Some b →
      kinded_cell n no_exs [] (declaration_of (all_decls E) n) ≡ (cell_ex b n no_exs, cell_kind b)
  cells-kinded n b e =
      let r = planned n b e in
      ap (kinded_cell n no_exs []) (declared-cell r.f r.x r.d n r.planned)
      ∙ ap (λ z. (cell_ex z n no_exs, cell_kind z)) (bool-stays Ps r.d ∙ r.mark)

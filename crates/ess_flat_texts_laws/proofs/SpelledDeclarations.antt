-- Declarations of single cells that are a model's: their names are tokens, and their domains are of numbers made of such as tokens have and
-- of givens that earlier lines declare. In the scope behind them each has its mark.
use Rattle.std.proofs.Common.{◌≡◌, refl, sym, ap, ◌∙◌, subst, Bool, true, false, ◌&&◌, not, if◌then◌else◌, List, [], ◌∷◌, inl, inr, map, Option, Some, None, is_some}
use Rattle.std.specs.List.{list_all}
use Rattle.ess_semantics.specs.Values.{Text}
use Rattle.ess_semantics.specs.Order.{same_text}
use Rattle.ess_semantics.specs.Names.{look, is_among, all_distinct}
use Rattle.ess_semantics.specs.Trees.{Ends, one_value, both_ends, low_end, high_end, Ex, Exs, cell_ex, no_exs, more_exs, Dom, bool_dom, int_dom}
use Rattle.ess_semantics.specs.Contexts.{Each}
use Rattle.ess_semantics.specs.DeclaredTables.{TableDecl}
use Rattle.ess_semantics.specs.Meaning.{is_bool_dom}
use Rattle.ess_semantics.specs.Plans.{Plan}
use Rattle.ess_semantics.specs.Models.{scalar_cell, cell_for, with_cells, all_with_cells}
use Rattle.ess_semantics.proofs.Tests.{and-left, and-right, and-both, not-true, or-left-no, or-right-no}
use Rattle.ess_semantics.proofs.Texts.{same_text-equal, same_text-itself}
use Rattle.ess_grammar.specs.Readable.{is_name_token, fit_ranges}
use Rattle.ess_grammar.specs.Models.{Scope, is_plain_cell, is_model_ex, are_model_exs, is_model_dom, are_model_tables, scope_behind}
use Rattle.conjure_laws.specs.Members.{In}
use Rattle.conjure_laws.proofs.NamedTables.{in-among}
use Rattle.ess_flat_laws.specs.Flat.{none_marked}
use Rattle.ess_flat_models_laws.specs.FlatSpecifications.{is_reckoned, are_ranges, is_scalar_dom}
use Rattle.ess_flat_models_laws.specs.FlatModels.{dom_with_cells}
use Rattle.ess_flat_models_laws.proofs.Reckoned.{Reckoned, digits, of_name, of_cell, minus, bar, plus, less, times, AllReckoned, bounds-reckoned}
use Rattle.ess_flat_models_laws.proofs.FlatValues.{AllNumbers, NumbersOfAll}
use Rattle.ess_flat_models_laws.proofs.SimpleTrees.{DomNumbers}
use Rattle.ess_flat_texts_laws.proofs.SpelledTrees.{HasToken}

no-yes : false ≡ true → ⊥
no-yes q = cc

-- ---- domains

-- Ranges have as many bounds as they ask for, with cells too.
ranges-fit : (g : Text → Option Bool) (Ps : List Plan) (rs : List Ends) (es : Exs) → are_ranges g rs es ≡ true →
    fit_ranges rs (all_with_cells Ps es) ≡ true
ranges-fit g Ps [] no_exs h = refl
ranges-fit g Ps (one_value ∷ rs) (more_exs a es) h = ranges-fit g Ps rs es (and-right (is_reckoned g a) (are_ranges g rs es) h)
ranges-fit g Ps (both_ends ∷ rs) (more_exs a (more_exs b es)) h =
    ranges-fit g Ps rs es (and-right (is_reckoned g b) (are_ranges g rs es)
    (and-right (is_reckoned g a) (is_reckoned g b && are_ranges g rs es) h))
ranges-fit g Ps (low_end ∷ rs) (more_exs a es) h = ranges-fit g Ps rs es (and-right (is_reckoned g a) (are_ranges g rs es) h)
ranges-fit g Ps (high_end ∷ rs) (more_exs b es) h = ranges-fit g Ps rs es (and-right (is_reckoned g b) (are_ranges g rs es) h)
ranges-fit g Ps rs es h = absurd (no-yes h)

-- Earlier lines declare a given with this name, a number.
pub record GivenThere (s : Scope) (n : Text) : Type 0 where
  pub token : is_name_token n ≡ true
  pub table : look s.tables n ≡ Some false
  pub given : is_among s.finds n ≡ false

-- So it may stand in a bound.
given-model : (s : Scope) (n : Text) → GivenThere s n → is_model_ex s false [] (cell_ex false n no_exs) ≡ true
given-model s n w =
    and-both (is_name_token n && not (is_among s.finds n)) (is_plain_cell [] n false (look s.tables n))
    (and-both (is_name_token n) (not (is_among s.finds n)) w.token (ap not w.given)) (ap (is_plain_cell [] n false) w.table)

-- Names that are numbers have cells that earlier lines declare as givens.
module _ (g : Text → Option Bool) (Ps : List Plan) (s : Scope)
    (c : (a : Text) → g a ≡ Some false → (n : Text) × (scalar_cell Ps a ≡ Some (false, n)) × GivenThere s n) where
  no-cell : None ≡ Some false → ⊥
  no-cell h = cc

  abbrev M : Ex → Bool
  M = is_model_ex s false []

  two-model : (x y : Ex) → M x ≡ true → M y ≡ true → M x && M y ≡ true
  two-model x y h k = and-both (M x) (M y) h k

  -- A bound with cells is an expression of a model.
  reckoned-model : {e : Ex} → Reckoned g none_marked e → AllNumbers HasToken e → M (with_cells Ps e) ≡ true
  reckoned-model digits n = n
  reckoned-model (of_name {a = a} h) n =
      let r = c a h in subst (λ o. M (cell_for a o) ≡ true) (sym r.1) (given-model s r.0 r.2)
  reckoned-model (of_cell h) n = absurd (no-cell h)
  reckoned-model (minus w) n = reckoned-model w n.0
  reckoned-model (bar w) n = reckoned-model w n.0
  reckoned-model (plus {x = x} {y = y} w v) n =
      two-model (with_cells Ps x) (with_cells Ps y) (reckoned-model w n.0) (reckoned-model v n.1.0)
  reckoned-model (less {x = x} {y = y} w v) n =
      two-model (with_cells Ps x) (with_cells Ps y) (reckoned-model w n.0) (reckoned-model v n.1.0)
  reckoned-model (times {x = x} {y = y} w v) n =
      two-model (with_cells Ps x) (with_cells Ps y) (reckoned-model w n.0) (reckoned-model v n.1.0)

  bounds-model : (es : Exs) → AllReckoned g es → NumbersOfAll HasToken es → are_model_exs s false [] (all_with_cells Ps es) ≡ true
  bounds-model no_exs w n = refl
  bounds-model (more_exs e es) w n =
      and-both (M (with_cells Ps e)) (are_model_exs s false [] (all_with_cells Ps es)) (reckoned-model w.0 n.0) (bounds-model es w.1 n.1)

  -- A scalar's domain whose numbers tokens have is one of a model, with cells in the place of names.
  pub dom-model : (d : Dom) → is_scalar_dom g d ≡ true → DomNumbers HasToken d → is_model_dom s true [] (dom_with_cells Ps d) ≡ true
  dom-model bool_dom h n = refl
  dom-model (int_dom rs es) h n =
      and-both (fit_ranges rs (all_with_cells Ps es)) (are_model_exs s false [] (all_with_cells Ps es)) (ranges-fit g Ps rs es h)
      (bounds-model es (bounds-reckoned g rs es h) n)
  dom-model d h n = absurd (no-yes h)

-- ---- declarations

-- The declaration is of a cell with a name token.
pub record SpelledDecl (D : TableDecl) : Type 0 where
  pub token : is_name_token D.name ≡ true
  pub axes : D.axes ≡ []

-- Domains of declarations are those of a model, each in the scope behind the earlier ones.
abbrev pub AreDomains : (Scope → TableDecl → Scope) → Scope → List TableDecl → Type 0
AreDomains add s [] = Unit {0}
AreDomains add s (D ∷ ds) = (is_model_dom s true [] D.cell ≡ true) × AreDomains add (add s D) ds

-- The names of declarations.
abbrev pub names_of : List TableDecl → List Text
names_of ds = map (λ d. d.name) ds

-- A scope with a declaration more.
abbrev pub Adds : (Scope → TableDecl → Scope) → Type 0
Adds add = (s : Scope) (D : TableDecl) (a : Text) →
    look (add s D).tables a ≡ (if same_text D.name a then Some (is_bool_dom D.cell) else look s.tables a)

pub other-name : (a : Text) (ns : List Text) (b : Text) → is_among ns a ≡ false → In b ns → same_text a b ≡ false
other-name a ns b h i = go (same_text a b) refl
  where
    go : (c : Bool) → same_text a b ≡ c → same_text a b ≡ false
    go false q = q
    go true q = let z : false ≡ true = sym h ∙ ap (is_among ns) (same_text-equal a b q) ∙ in-among ns b i in cc

module _ (add : Scope → TableDecl → Scope) (adds : Adds add) where
  -- Declarations with names that differ and are new are those of a model.
  pub tables-model : (ds : List TableDecl) (s : Scope) → Each ds SpelledDecl → AreDomains add s ds → all_distinct (names_of ds) ≡ true →
      ((a : Text) → In a (names_of ds) → look s.tables a ≡ None) → are_model_tables add s ds ≡ true
  tables-model [] s h k d f = refl
  tables-model (D ∷ ds) s h k d f =
      let w = h.0 in
      let A : Bool = is_name_token D.name in
      let B : Bool = not (is_some (look s.tables D.name)) in
      let C : Bool = list_all (is_model_dom s true []) D.axes in
      let G : Bool = is_model_dom s true [] D.cell in
      let first = not-true (is_among (names_of ds) D.name) (and-left (not (is_among (names_of ds) D.name)) (all_distinct (names_of ds)) d) in
      and-both (A && B && C && G) (are_model_tables add (add s D) ds)
      (and-both (A && B && C) G
      (and-both (A && B) C
      (and-both A B w.token (ap (λ o. not (is_some o)) (f D.name (inl refl))))
      (ap (list_all (is_model_dom s true [])) w.axes)) k.0)
      (tables-model ds (add s D) h.1 k.1 (and-right (not (is_among (names_of ds) D.name)) (all_distinct (names_of ds)) d)
      (λ a i. adds s D a ∙ ap (λ c. if c then Some (is_bool_dom D.cell) else look s.tables a) (other-name D.name (names_of ds) a first i)
      ∙ f a (inr i)))

  -- Behind them other names are as before.
  pub scope-other : (ds : List TableDecl) (s : Scope) (a : Text) → is_among (names_of ds) a ≡ false →
      look (scope_behind add s ds).tables a ≡ look s.tables a
  scope-other [] s a h = refl
  scope-other (D ∷ ds) s a h =
      scope-other ds (add s D) a (or-right-no (same_text D.name a) (is_among (names_of ds) a) h) ∙ adds s D a
      ∙ ap (λ c. if c then Some (is_bool_dom D.cell) else look s.tables a) (or-left-no (same_text D.name a) (is_among (names_of ds) a) h)

  -- Each has its mark.
  pub scope-found : (ds : List TableDecl) (s : Scope) (D : TableDecl) → In D ds → all_distinct (names_of ds) ≡ true →
      look (scope_behind add s ds).tables D.name ≡ Some (is_bool_dom D.cell)
  scope-found [] s D i d = absurd i
  scope-found (C ∷ ds) s D (inl e) d =
      scope-other ds (add s C) D.name (subst (λ z. is_among (names_of ds) z.name ≡ false) (sym e)
      (not-true (is_among (names_of ds) C.name) (and-left (not (is_among (names_of ds) C.name)) (all_distinct (names_of ds)) d)))
      ∙ adds s C D.name
      ∙ ap (λ z. if same_text z.name D.name then Some (is_bool_dom z.cell) else look s.tables D.name) (sym e)
      ∙ ap (λ c. if c then Some (is_bool_dom D.cell) else look s.tables D.name) (same_text-itself D.name)
  scope-found (C ∷ ds) s D (inr i) d =
      scope-found ds (add s C) D i (and-right (not (is_among (names_of ds) C.name)) (all_distinct (names_of ds)) d)

-- What declarations of cells declare: behind them each name that is declared is a cell with its mark.
use Rattle.std.proofs.Common.{◌≡◌, refl, sym, ap, ◌∙◌, subst, true≢false, Bool, true, false, if◌then◌else◌, List, [], ◌∷◌, inl, inr, Option, Some, None, is_some}
use Rattle.ess_semantics.specs.Values.{Text}
use Rattle.ess_semantics.specs.Order.{same_text}
use Rattle.ess_semantics.specs.Names.{look}
use Rattle.ess_semantics.specs.Contexts.{Each}
use Rattle.ess_semantics.specs.DeclaredTables.{TableDecl}
use Rattle.ess_semantics.specs.Meaning.{is_bool_dom}
use Rattle.ess_semantics.proofs.Texts.{same_text-equal, same_text-itself}
use Rattle.ess_grammar.specs.Models.{Scope, empty_scope, scope_behind, is_truth_table}
use Rattle.conjure_laws.specs.Members.{In}
use Rattle.ess_flat_models_laws.specs.FlatSpecifications.{is_of_numbers}
use Rattle.ess_flat_texts_laws.proofs.SpelledDeclarations.{Adds}
use Rattle.ess_lowered_laws.specs.Laws.{DeclaresSingle}

-- ---- what is declared

module _ (add : Scope → TableDecl → Scope) (adds : Adds add) where
  more-there : (s : Scope) (D : TableDecl) (n : Text) → is_some (look s.tables n) ≡ true → is_some (look (add s D).tables n) ≡ true
  more-there s D n h = ap is_some (adds s D n) ∙ go (same_text D.name n)
    where
      go : (c : Bool) → is_some (if c then Some (is_bool_dom D.cell) else look s.tables n) ≡ true
      go true = refl
      go false = h

  -- What is declared stays so behind further declarations.
  pub still-there : (ds : List TableDecl) (s : Scope) (n : Text) → is_some (look s.tables n) ≡ true →
      is_some (look (scope_behind add s ds).tables n) ≡ true
  still-there [] s n h = h
  still-there (D ∷ ds) s n h = still-there ds (add s D) n (more-there s D n h)

  here-there : (s : Scope) (D : TableDecl) → is_some (look (add s D).tables D.name) ≡ true
  here-there s D =
      ap is_some (adds s D D.name ∙ ap (λ c. if c then Some (is_bool_dom D.cell) else look s.tables D.name) (same_text-itself D.name))

  -- Behind declarations the name of each is declared.
  pub found-there : (ds : List TableDecl) (s : Scope) (D : TableDecl) → In D ds →
      is_some (look (scope_behind add s ds).tables D.name) ≡ true
  found-there [] s D i = absurd i
  found-there (C ∷ ds) s D (inl e) =
      still-there ds (add s C) D.name (subst (λ z. is_some (look (add s C).tables z.name) ≡ true) (sym e) (here-there s C))
  found-there (C ∷ ds) s D (inr i) = found-there ds (add s C) D i

-- ---- marks

-- The marks of cells.
module _ (cells : Text → Option Bool) where
  -- The declaration is of a cell with its mark.
  abbrev pub HasMark : TableDecl → Type 0
  HasMark D = cells D.name ≡ Some (is_bool_dom D.cell)

  -- Each name that s declares is a cell with its mark.
  pub record HasMarks (s : Scope) : Type 0 where
    pub marks : (n : Text) (b : Bool) → look s.tables n ≡ Some b → cells n ≡ Some b

  no-mark : {b : Bool} → None ≡ Some b → ⊥
  no-mark q = cc

  -- So it is before the first line.
  pub empty-marks : HasMarks empty_scope
  empty-marks = record { marks = λ n b h. absurd (no-mark h) }

  module _ (add : Scope → TableDecl → Scope) (adds : Adds add) where
    one-more : (s : Scope) (D : TableDecl) → HasMarks s → HasMark D → HasMarks (add s D)
    one-more s D w e = record { marks = λ n b h. go n b (same_text D.name n) refl (sym (adds s D n) ∙ h) }
      where
        go : (n : Text) (b c : Bool) → same_text D.name n ≡ c →
            (if same_text D.name n then Some (is_bool_dom D.cell) else look s.tables n) ≡ Some b → cells n ≡ Some b
        go n b true q h =
            ap cells (sym (same_text-equal D.name n q)) ∙ e
            ∙ sym (ap (λ c. if c then Some (is_bool_dom D.cell) else look s.tables n) q) ∙ h
        go n b false q h = w.marks n b (sym (ap (λ c. if c then Some (is_bool_dom D.cell) else look s.tables n) q) ∙ h)

    -- And behind declarations of cells.
    pub marks-behind : (ds : List TableDecl) (s : Scope) → HasMarks s → Each ds HasMark → HasMarks (scope_behind add s ds)
    marks-behind [] s w h = w
    marks-behind (D ∷ ds) s w h = marks-behind ds (add s D) (one-more s D w h.0) h.1

  some-is : (b c : Bool) → Some b ≡ Some c → b ≡ c
  some-is b c q = cc

  -- A cell whose name is declared is so with its mark.
  pub marked-table : (s : Scope) → HasMarks s → (n : Text) (b : Bool) → is_some (look s.tables n) ≡ true → cells n ≡ Some b →
      is_truth_table s n ≡ b
  marked-table s w n b h e = go (look s.tables n) refl h
    where
      go : (o : Option Bool) → look s.tables n ≡ o → is_some o ≡ true → is_truth_table s n ≡ b
      go None q i = absurd (true≢false (sym i))
      go (Some c) q i = ap (λ o. elim o [ Some b ↦ b | None ↦ false ]) q ∙ some-is c b (sym (w.marks n c q) ∙ e)

  -- ---- numbers alone

  -- Those of the cells that are numbers.
  abbrev pub number_cells : Text → Option Bool
  number_cells n = if is_of_numbers (cells n) then Some false else None

  -- A number is one of them.
  pub number-cell : (n : Text) → cells n ≡ Some false → number_cells n ≡ Some false
  number-cell n e = ap (λ o. if is_of_numbers o then Some false else None) e

  no-number : (c b : Bool) → (if c then Some false else None) ≡ Some b → (c ≡ true) × (b ≡ false)
  no-number true b e = (refl, some-is b false (sym e))
  no-number false b e = absurd (no-mark e)

  -- These aren't declared as truth values, also where none is declared.
  pub numbers-declared : (s : Scope) → HasMarks s → DeclaresSingle s number_cells
  numbers-declared s w n b e = go (look s.tables n) refl
    where
      r : (is_of_numbers (cells n) ≡ true) × (b ≡ false)
      r = no-number (is_of_numbers (cells n)) b e

      go : (o : Option Bool) → look s.tables n ≡ o → is_truth_table s n ≡ b
      go None q = ap (λ o. elim o [ Some b ↦ b | None ↦ false ]) q ∙ sym r.1
      go (Some true) q = absurd (true≢false (sym r.0 ∙ ap is_of_numbers (w.marks n true q)))
      go (Some false) q = ap (λ o. elim o [ Some b ↦ b | None ↦ false ]) q ∙ sym r.1

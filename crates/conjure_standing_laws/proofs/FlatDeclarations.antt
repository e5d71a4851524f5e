-- The declaration of a scalar's cell stands: its domain has the bounds that its ranges ask for, and something comes of each bound, also
-- where the cells in it aren't declared yet.
use Rattle.std.proofs.Common.{◌≡◌, refl, sym, ap, ◌∙◌, subst, ℕ, Bool, true, false, List, [], ◌∷◌, Option, Some, None}
use Rattle.ess_semantics.specs.Values.{Text}
use Rattle.ess_semantics.specs.Trees.{Ends, one_value, both_ends, low_end, high_end, Ex, Exs, no_exs, more_exs, Dom, bool_dom, int_dom}
use Rattle.ess_semantics.specs.DeclaredTables.{TableDecl}
use Rattle.ess_semantics.specs.Meaning.{is_bool_dom}
use Rattle.ess_semantics.specs.Plans.{Plan}
use Rattle.ess_semantics.specs.Models.{scalar_cell, with_cells, all_with_cells}
use Rattle.ess_semantics.proofs.Tests.{and-right}
use Rattle.ess_grammar.specs.Readable.{fit_ranges}
use Rattle.ess_simplify_laws.specs.Simplifying.{simplified}
use Rattle.ess_flat_laws.specs.Flat.{Flat, none_marked}
use Rattle.ess_flat_models_laws.specs.FlatSpecifications.{given_mark, is_reckoned, are_ranges, is_scalar_dom}
use Rattle.ess_flat_models_laws.specs.FlatModels.{dom_with_cells}
use Rattle.ess_flat_models_laws.proofs.Reckoned.{Reckoned, AllReckoned, reckoned-flat, cells-reckoned, bounds-reckoned}
use Rattle.ess_flat_models_laws.proofs.FlatDeclared.{bool-stays}
use Rattle.ess_flat_models_laws.proofs.FlatNames.{no-yes}
use Rattle.conjure_modelling.specs.ess_model_trees.Written.{ComesFrom}
use Rattle.conjure_modelling.specs.ess_model_written.DeclarationsWritten.{DeclIsWritten}
use Rattle.conjure_standing_laws.proofs.FlatComes.{flat-comes}
use Rattle.conjure_standing_laws.proofs.BuiltParts.{told-reckoned, decl-written}
use Rattle.conjure_standing_laws.proofs.DeclaredScopes.{HasMark, number_cells, number-cell, numbers-declared}
use Rattle.conjure_standing_laws.proofs.StandingDeclarations.{BoundStands, AllStand, DomStands, truths, ranges, TableStands, DeclStands}

-- These are the plans, and their givens that are numbers have such cells.
module _ (Ps : List Plan) (cells : Text → Option Bool)
    (given-cells : (a : Text) → given_mark Ps a ≡ Some false →
    (n : Text) × (scalar_cell Ps a ≡ Some (false, n)) × (cells n ≡ Some false)) where
  -- The declaration of a cell with its mark, in whose domain cells stand for givens.
  pub record ScalarDecl (D : TableDecl) : Type 0 where
    pub n : Text
    pub d : Dom
    pub is : D ≡ record { name = n; axes = []; cell = dom_with_cells Ps d }
    pub scalar : is_scalar_dom (given_mark Ps) d ≡ true
    pub mark : cells n ≡ Some (is_bool_dom d)

  decl-mark : (D : TableDecl) → ScalarDecl D → HasMark cells D
  decl-mark D w = subst (HasMark cells) (sym w.is) (w.mark ∙ ap (λ b. Some b) (sym (bool-stays Ps w.d)))

  given-numbers : (a : Text) → given_mark Ps a ≡ Some false →
      (n : Text) × (scalar_cell Ps a ≡ Some (false, n)) × (number_cells cells n ≡ Some false)
  given-numbers a m = let r = given-cells a m in (r.0, r.1, number-cell cells r.0 r.2)

  -- Ranges with cells have the bounds that they ask for.
  ranges-fit : (rs : List Ends) (es : Exs) → are_ranges (given_mark Ps) rs es ≡ true → fit_ranges rs (all_with_cells Ps es) ≡ true
  ranges-fit [] no_exs h = refl
  ranges-fit (one_value ∷ rs) (more_exs a es) h = ranges-fit rs es (and-right (is_reckoned (given_mark Ps) a) _ h)
  ranges-fit (both_ends ∷ rs) (more_exs a (more_exs b es)) h =
      ranges-fit rs es (and-right (is_reckoned (given_mark Ps) b) _ (and-right (is_reckoned (given_mark Ps) a) _ h))
  ranges-fit (low_end ∷ rs) (more_exs a es) h = ranges-fit rs es (and-right (is_reckoned (given_mark Ps) a) _ h)
  ranges-fit (high_end ∷ rs) (more_exs b es) h = ranges-fit rs es (and-right (is_reckoned (given_mark Ps) b) _ h)
  ranges-fit rs es h = absurd (no-yes h)

  module _ (taken : List Text) (k : ℕ) where
    bound-stands : (e : Ex) → Reckoned (given_mark Ps) none_marked e → BoundStands cells taken k (with_cells Ps e)
    bound-stands e r =
        let c = cells-reckoned (given_mark Ps) Ps (number_cells cells) given-numbers r in
        record {
          comes = λ s w v. flat-comes (number_cells cells) s taken (numbers-declared cells s w) k (with_cells Ps e) false
              (reckoned-flat none_marked (number_cells cells) c)
              (subst (λ q. ComesFrom s taken q.1 q.0 None) (told-reckoned none_marked (number_cells cells) c k) v);
        }

    bounds-stand : (es : Exs) → AllReckoned (given_mark Ps) es → AllStand cells taken k (all_with_cells Ps es)
    bounds-stand no_exs r = tt
    bounds-stand (more_exs e es) r = (bound-stands e r.0, bounds-stand es r.1)

    dom-stands : (d : Dom) → is_scalar_dom (given_mark Ps) d ≡ true → DomStands cells taken k (dom_with_cells Ps d)
    dom-stands bool_dom h = truths
    dom-stands (int_dom rs es) h = ranges (ranges-fit rs es h) (bounds-stand es (bounds-reckoned (given_mark Ps) rs es h))
    dom-stands d h = absurd (no-yes h)

    -- Something comes of its bounds.
    pub table-stands : (D : TableDecl) → ScalarDecl D → TableStands cells taken k D
    table-stands D w = subst (TableStands cells taken k) (sym w.is) (record { axes = tt; cell = dom-stands w.d w.scalar })

    -- Where simplifying leaves flat trees over these cells flat, it stands.
    pub scalar-stands : ((e : Ex) (m : Bool) → Flat none_marked cells e m → Flat none_marked cells (simplified e) m) → (D : TableDecl) →
        ScalarDecl D → DeclStands cells taken k D
    scalar-stands simple D w = record {
      table = table-stands D w;
      same = λ s u v. decl-written Ps cells given-cells simple s taken k w.n w.d u w.scalar
          (subst (λ D. DeclIsWritten s taken k D u) w.is v) ∙ sym w.is;
      mark = decl-mark D w;
    }

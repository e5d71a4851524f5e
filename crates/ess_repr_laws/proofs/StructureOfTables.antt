-- Over tables in the declared domains the structure constraint means that the cells are canonical.
use Rattle.std.proofs.Common.{◌≡◌, refl, sym, ap, ◌∙◌, subst, true, ◌&&◌, ◌∷◌, ℕ, ◌<◌, true, false, List, [], length, Some}
use Rattle.ess_semantics.specs.Values.{Text, truth}
use Rattle.ess_semantics.specs.Order.{same_text}
use Rattle.ess_semantics.specs.Trees.{Repr, no_exs, Dom}
use Rattle.ess_semantics.specs.Domains.{Domain}
use Rattle.ess_semantics.specs.Tables.{Tables, volume, cell_at, is_filled, same_axes}
use Rattle.ess_semantics.specs.Cells.{cells_of}
use Rattle.ess_semantics.specs.Representations.{width}
use Rattle.ess_semantics.specs.Declarations.{declarations, axes_of, Declaration}
use Rattle.ess_semantics.specs.CanonicalTest.{canonical}
use Rattle.ess_semantics.specs.Meaning.{Env, meaning}
use Rattle.ess_semantics.specs.Tidy.{over_axes}
use Rattle.ess_repr_laws.specs.StructureParts.{Terms}
use Rattle.ess_repr_laws.specs.Structure.{shapes, structure}
use Rattle.ess_repr_laws.specs.CanonicalTables.{TablesFit}
use Rattle.ess_repr_laws.specs.Laws.{ShapesAreOfTables}
use Rattle.ess_repr_laws.specs.StructureMeaning.{Bound, M, Placed, axes_members}
use Rattle.ess_repr_laws.specs.StructureReady.{Ready}
use Rattle.ess_repr_laws.proofs.AxesOfTables.{axes-differ}
use Rattle.ess_repr_laws.proofs.Behind.{behind-none}
use Rattle.ess_repr_laws.proofs.ExactCells.{Exact, AllExact, exact-items}
use Rattle.ess_repr_laws.proofs.RowsOfCells.{axes_in}
use Rattle.ess_repr_laws.proofs.StructureFits.{Fit}
use Rattle.ess_semantics.proofs.Tests.{and-left, and-right}
use Rattle.std.proofs.lemmas.Bool.{eqb-true}
use Rattle.ess_repr_laws.proofs.TablesWithin.{tables-within}
use Rattle.ess_repr_laws.proofs.StructureAll.{structures}

-- Filled tables over the declared axes are there exactly over these.
pub tables-exact : (ds : List Declaration) (ts : Tables) → over_axes [] (axes_in ds) ts ≡ true → TablesFit ds ts → AllExact (axes_in ds) (cells_of ts)
tables-exact [] [] o f = tt
tables-exact [] (t ∷ ts) o f = absurd f
tables-exact (d ∷ ds) [] o f = absurd f
tables-exact (d ∷ ds) (t ∷ ts) o f =
    let one = and-left (is_filled t && same_axes t.axes d.axes) (over_axes [] (axes_in ds) ts) o in
    let full = eqb-true (length t.items) (volume t.axes) (and-left (is_filled t) (same_axes t.axes d.axes) one) in
    (subst (λ a. Exact a (cell_at t)) f.0 (exact-items t.axes t.items full), tables-exact ds ts (and-right (is_filled t && same_axes t.axes d.axes) (over_axes [] (axes_in ds) ts) o) f.2)

module _ (env0 : Env) (q : ℕ → Text) (q-apart : (m l : ℕ) → l < m → same_text (q m) (q l) ≡ false) (terms : Terms) where
  -- Of tables over the declared axes with items in the declared domains.
  pub structure-of-tables : (r : Repr) (d : Dom) (e : Domain) → Ready env0 q q-apart terms r d e → (ns : List Text) (ts : Tables) (l : ℕ) (bs : Bound env0 q q-apart) → length ts ≡ width r →
      Placed env0 q q-apart (shapes q terms r d ns) (axes_members r e) ts → over_axes [] (axes_of r e) ts ≡ true → TablesFit (declarations r e) ts →
      meaning (structure q terms r d ns l no_exs) (M env0 q q-apart bs) ≡ Some (truth (canonical r e (cells_of ts)))
  structure-of-tables r d e h ns ts l bs w p o f =
      let s = structures env0 q q-apart terms r d e h in
      let c = tables-within (declarations r e) ts (axes-differ r e s.covered) o f in
      s.means false ns ts l no_exs [] bs p (subst (Fit (declarations r e)) (sym (behind-none (cells_of ts))) (c, tables-exact (declarations r e) ts o f)) (λ cs g. refl) ∙ ap (λ x. Some (truth (canonical r e x))) (behind-none (cells_of ts))

-- The shapes of a view are those of its tables.
pub shapes-of-tables : ShapesAreOfTables
shapes-of-tables = record {
  long = λ env0 q apart terms r d e h. let s = structures env0 q apart terms r d e h in s.long;
  placed = λ env0 q apart terms r d e h. let s = structures env0 q apart terms r d e h in s.found;
}

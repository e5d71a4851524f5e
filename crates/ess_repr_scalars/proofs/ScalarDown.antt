-- The tables of atoms and matrices are those of their layers.
use Rattle.std.proofs.Common.{◌≡◌, refl, sym, ap, ◌∙◌, ℕ, true, List, [], ◌∷◌, ◌++◌, map, length, Option, Some, None, append-nil, subst}
use Rattle.std.specs.List.{list_all}
use Rattle.ess_semantics.specs.declared.words.ReprKind.{ReprKind}
use Rattle.ess_semantics.specs.Values.{Text, Value}
use Rattle.ess_semantics.specs.Trees.{Reprs, repr, no_reprs, more_reprs}
use Rattle.ess_semantics.specs.Domains as pure
use Rattle.ess_semantics.specs.Domains.{Domain, Domains, booleans, integers, named, matrices, relations, domain_list}
use Rattle.ess_semantics.specs.Tables.{Tables, code, one_cell}
use Rattle.ess_semantics.specs.Cells.{Axes}
use Rattle.ess_semantics.specs.Layers.{codes_of, some_each}
use Rattle.ess_semantics.specs.Canonical.{somes}
use Rattle.ess_semantics.specs.ScalarLayers.{elements}
use Rattle.ess_semantics.specs.Declarations.{axes_of}
use Rattle.ess_semantics.specs.OneLayer.{layer_tables}
use Rattle.ess_semantics.specs.Tidy.{over_axes}
use Rattle.ess_repr_laws.specs.Rooms.{Covered}
use Rattle.ess_repr_laws.proofs.AxesOfTables.{axes-differ}
use Rattle.ess_repr_laws.proofs.CanonicalPlaces.{all-of-list}
use Rattle.ess_repr_rows_laws.specs.RowLayers.{all_used}
use Rattle.ess_repr_rows_laws.specs.Stacking.{stacked}
use Rattle.ess_repr_rows_laws.proofs.ArgumentLayers.{matrix-rows}
use Rattle.ess_repr_rows_laws.proofs.OwnLayers.{atom-rows}
use Rattle.ess_repr_layers_laws.specs.LayerCalls.{PartsOver, TablesReady}
use Rattle.ess_eval_domains.specs.declared.closed.Span.{Span}
use Rattle.ess_eval_domains.specs.declared.closed.Closed.{Closed}
use Rattle.ess_eval_domains.specs.declared.closed.Closed.TheVariants as variant
use Rattle.ess_eval_domains.specs.ClosedViews.{pure_span, pure_closed, pure_closeds}
use Rattle.ess_eval_domains.proofs.ClosedEquations.{pure_closed_bool, pure_closed_int, pure_closed_named, pure_closed_matrix}
use Rattle.ess_repr_scalars.specs.ScalarForms.{over_scalars, for_atom, for_matrix}
use Rattle.ess_repr_scalars.proofs.ScalarParts.{somes-each}

-- The tables of an atom.
abbrev cell : Value → Tables
cell v = one_cell (code v) ∷ []

bool-tables : (k : ReprKind) (rs : Reprs) (v : Value) (tss : List Tables) → Covered (repr k rs) booleans → for_atom k (Some (cell v)) ≡ layer_tables (repr k rs) booleans v tss
bool-tables ReprKind.Atom no_reprs v tss c = sym (atom-rows booleans refl v tss)
bool-tables ReprKind.Atom (more_reprs r rs) v tss c = absurd c
bool-tables _ rs v tss c = refl

int-tables : (k : ReprKind) (rs : Reprs) (ss : List pure.Span) (v : Value) (tss : List Tables) → Covered (repr k rs) (integers ss) → for_atom k (Some (cell v)) ≡ layer_tables (repr k rs) (integers ss) v tss
int-tables ReprKind.Atom no_reprs ss v tss c = sym (atom-rows (integers ss) refl v tss)
int-tables ReprKind.Atom (more_reprs r rs) ss v tss c = absurd c
int-tables _ rs ss v tss c = refl

named-tables : (k : ReprKind) (rs : Reprs) (t : Text) (n : ℕ) (v : Value) (tss : List Tables) → Covered (repr k rs) (named t n) → for_atom k (Some (cell v)) ≡ layer_tables (repr k rs) (named t n) v tss
named-tables ReprKind.Atom no_reprs t n v tss c = sym (atom-rows (named t n) refl v tss)
named-tables ReprKind.Atom (more_reprs r rs) t n v tss c = absurd c
named-tables _ rs t n v tss c = refl

-- What is asked of the tables of a domain.
abbrev Asked : ReprKind → Domain → Value → List Axes → List Tables → Option Tables → Type 0
Asked k d v ass tss o = (rs : Reprs) → Covered (repr k rs) d → TablesReady k rs d v ass tss → o ≡ over_scalars d (layer_tables (repr k rs) d v tss)

module _ (k : ReprKind) (v : Value) (ass : List Axes) (tss : List Tables) (o : Option Tables) where
  pub of_bool : o ≡ for_atom k (Some (one_cell (code v) ∷ [])) → (rs : Reprs) → Covered (repr k rs) (pure_closed variant.Bool) → TablesReady k rs (pure_closed variant.Bool) v ass tss →
      o ≡ over_scalars (pure_closed variant.Bool) (layer_tables (repr k rs) (pure_closed variant.Bool) v tss)
  of_bool e = subst (λ d. Asked k d v ass tss o) (sym pure_closed_bool) (λ rs c t. e ∙ bool-tables k rs v tss c)

  pub of_int : (ss : List Span) → o ≡ for_atom k (Some (one_cell (code v) ∷ [])) → (rs : Reprs) → Covered (repr k rs) (pure_closed (variant.Int ss)) → TablesReady k rs (pure_closed (variant.Int ss)) v ass tss →
      o ≡ over_scalars (pure_closed (variant.Int ss)) (layer_tables (repr k rs) (pure_closed (variant.Int ss)) v tss)
  of_int ss e = subst (λ d. Asked k d v ass tss o) (sym (pure_closed_int ss)) (λ rs c t. e ∙ int-tables k rs (map pure_span ss) v tss c)

  pub of_named : (t : Text) (n : ℕ) → o ≡ for_atom k (Some (one_cell (code v) ∷ [])) → (rs : Reprs) → Covered (repr k rs) (pure_closed (variant.Named t n)) → TablesReady k rs (pure_closed (variant.Named t n)) v ass tss →
      o ≡ over_scalars (pure_closed (variant.Named t n)) (layer_tables (repr k rs) (pure_closed (variant.Named t n)) v tss)
  of_named t n e = subst (λ d. Asked k d v ass tss o) (sym (pure_closed_named t n)) (λ rs c q. e ∙ named-tables k rs t n v tss c)

-- ---- matrices

matrix-tables : (k : ReprKind) (ds : Domains) (e : Domain) (v : Value) (ass : List Axes) (tss : List Tables) (rs : Reprs) → Covered (repr k rs) (matrices ds e) →
    TablesReady k rs (matrices ds e) v ass tss → for_matrix k (Some (stacked (map codes_of (domain_list ds)) ass (all_used tss))) ≡ layer_tables (repr k rs) (matrices ds e) v tss
matrix-tables ReprKind.Matrix ds e v ass tss (more_reprs r no_reprs) c t =
    let x = axes-differ (repr ReprKind.RelationAsMatrix no_reprs) (relations [] ds) c.0 in
    let p : PartsOver r e (length (somes (some_each (elements ds v)) ++ [])) ass tss = t in
    ap (λ l. Some (stacked (map codes_of (domain_list ds)) l (all_used tss))) (sym p.axes)
    ∙ sym (matrix-rows r tss v ds e x.0 (axes-differ r e c.2) (all-of-list tss (over_axes [] (axes_of r e)) (ap (λ l. list_all (over_axes [] l) tss) p.axes ∙ p.over))
    (p.count ∙ ap length (append-nil (somes (some_each (elements ds v))) ∙ somes-each (elements ds v))))
matrix-tables ReprKind.Matrix ds e v ass tss no_reprs c t = absurd c
matrix-tables ReprKind.Matrix ds e v ass tss (more_reprs r (more_reprs q rs)) c t = absurd c
matrix-tables _ ds e v ass tss rs c t = refl

pub of_matrix : (k : ReprKind) (v : Value) (ass : List Axes) (tss : List Tables) (o : Option Tables) (is : List Closed) (d : Closed) →
    o ≡ for_matrix k (Some (stacked (map codes_of (domain_list (pure_closeds is))) ass (all_used tss))) → (rs : Reprs) → Covered (repr k rs) (pure_closed (variant.Matrix is d)) →
    TablesReady k rs (pure_closed (variant.Matrix is d)) v ass tss → o ≡ over_scalars (pure_closed (variant.Matrix is d)) (layer_tables (repr k rs) (pure_closed (variant.Matrix is d)) v tss)
of_matrix k v ass tss o is d e =
    subst (λ d. Asked k d v ass tss o) (sym (pure_closed_matrix is d)) (λ rs c t. e ∙ matrix-tables k (pure_closeds is) (pure_closed d) v ass tss rs c t)

-- The cells of a layer's own tables, form by form of the domain.
use Rattle.std.proofs.Common.{◌≡◌, refl, sym, ap, ◌∙◌, ℕ, ℤ, Bool, true, false, if◌then◌else◌, List, [], ◌∷◌, ◌++◌, map, pos, ◌+ℤ◌, Some, None}
use Rattle.ess_semantics.specs.declared.words.ReprKind.{ReprKind}
use Rattle.ess_semantics.specs.Values.{Text}
use Rattle.ess_semantics.specs.Domains as pure
use Rattle.ess_semantics.specs.Domains.{Domain, Domains, booleans, integers, named, tuples, records, matrices, sets, msets, functions, relations, partitions, between}
use Rattle.ess_semantics.specs.Sizes.{bound}
use Rattle.ess_semantics.specs.SetLayers.{dummy_of, with_number}
use Rattle.ess_semantics.specs.Declarations.{widened}
use Rattle.ess_eval_domains.specs.declared.closed.Closed.{Closed}
use Rattle.ess_eval_domains.specs.declared.closed.Closed.TheVariants as variant
use Rattle.ess_eval_domains.specs.declared.closed.FieldClosed.{FieldClosed}
use Rattle.ess_eval_domains.specs.declared.closed.Attribute.{Attribute}
use Rattle.ess_eval_domains.specs.declared.closed.Span.{Span}
use Rattle.ess_eval_domains.specs.ClosedViews.{pure_closed, pure_closeds, pure_span, pure_attributes, record_domain, pure_field_closed}
use Rattle.ess_eval_domains.proofs.ClosedEquations.{pure_closed_int, pure_closed_named, pure_closed_tuple, pure_closed_rec, pure_closed_matrix, pure_closed_set, pure_closed_mset, pure_closed_function, pure_closed_relation, pure_closed_partition}
use Rattle.eprime_eval_scalars.specs.declared.running.Run.{Run}
use Rattle.eprime_eval_scalars.specs.Runs.{pure_run}
use Rattle.ess_translate_members_laws.specs.CellForms.{cell_form}
use Rattle.ess_translate_members_laws.specs.LayerCells.{own_cells}
use Rattle.ess_translate_cells.specs.OwnCells.{dummy_cells, high_alone, component_cells}
use Rattle.ess_translate_cells.proofs.Widened.{wide}

-- ---- no cells

tuple-cells : (out : Bool) (k : ReprKind) (ds : Domains) → [] ≡ own_cells out k (tuples ds)
tuple-cells out ReprKind.Tuple ds = refl
tuple-cells out _ ds = refl

record-cells : (out : Bool) (k : ReprKind) (fs : List Text) (ds : Domains) → [] ≡ own_cells out k (records fs ds)
record-cells out ReprKind.Rec fs ds = refl
record-cells out _ fs ds = refl

matrix-cells : (out : Bool) (k : ReprKind) (is : Domains) (d : Domain) → [] ≡ own_cells out k (matrices is d)
matrix-cells out ReprKind.Matrix is d = refl
matrix-cells out _ is d = refl

pub no_cells_of_tuple : (out : Bool) (k : ReprKind) (ds : List Closed) → [] ≡ own_cells out k (pure_closed (variant.Tuple ds))
no_cells_of_tuple out k ds = tuple-cells out k (pure_closeds ds) ∙ sym (ap (own_cells out k) (pure_closed_tuple ds))

pub no_cells_of_record : (out : Bool) (k : ReprKind) (fs : List FieldClosed) → [] ≡ own_cells out k (pure_closed (variant.Rec fs))
no_cells_of_record out k fs = record-cells out k _ _ ∙ sym (ap (own_cells out k) (pure_closed_rec fs))

pub no_cells_of_matrix : (out : Bool) (k : ReprKind) (is : List Closed) (d : Closed) →
    [] ≡ own_cells out k (pure_closed (variant.Matrix is d))
no_cells_of_matrix out k is d = matrix-cells out k _ _ ∙ sym (ap (own_cells out k) (pure_closed_matrix is d))

pub ruleset no_cells = (no_cells_of_tuple, no_cells_of_record, no_cells_of_matrix)

-- ---- numbers that can be widened

-- As cells of a table that widens.
wide-form : (out : Bool) (ss : List pure.Span) →
    wide out ss ≡ cell_form (if (if out then true else false) then widened (integers ss) else integers ss)
wide-form true [] = refl
wide-form true (s ∷ ss) = refl
wide-form false ss = refl

pub cells_of_int : (out : Bool) (ss : List pure.Span) → own_cells out ReprKind.Atom (integers ss) ≡ wide out ss ∷ []
cells_of_int out ss = ap (λ c. c ∷ []) (sym (wide-form out ss))

pub cells_of_named : (out : Bool) (t : Text) (n : ℕ) →
    own_cells out ReprKind.Atom (named t n) ≡ (if out then widened (between (pos 1) (pos n)) else between (pos 1) (pos n)) ∷ []
cells_of_named out t n = ap (λ c. c ∷ []) (sym (wide-form out (record { low = Some (pos 1); high = Some (pos n) } ∷ [])))

pub cells_of_parts : (out : Bool) (ks : List pure.Attribute) (d : Domain) →
    own_cells out ReprKind.PartitionOccurrence (partitions ks d)
    ≡ between (pos 0) (pos (bound d)) ∷ (if out then widened (between (pos 1) (pos (bound d))) else between (pos 1) (pos (bound d))) ∷ []
cells_of_parts true ks d = refl
cells_of_parts false ks d = refl

pub cells_of_dummy : (out : Bool) (ks : List pure.Attribute) (d : Domain) →
    own_cells out ReprKind.ExplicitVarSizeWithDummy (sets ks d) ≡ dummy_cells out d ∷ []
cells_of_dummy true ks d = refl
cells_of_dummy false ks d = refl

pub cells_of_components : (out : Bool) (ks : List pure.Attribute) (d c : Domain) →
    own_cells out ReprKind.FunctionNDPartial (functions ks d c) ≡ component_cells d
cells_of_components true ks (tuples ds) c = refl
cells_of_components false ks (tuples ds) c = refl
cells_of_components out ks _ c = refl

-- ---- dummies

pub dummy_of_bool : (out : Bool) → (if out then widened (between (pos 0) (pos 1)) else between (pos 0) (pos 1)) ≡ dummy_cells out booleans
dummy_of_bool true = refl
dummy_of_bool false = refl

int-dummy : (out : Bool) (ss us : List pure.Span) → integers us ≡ with_number (dummy_of (integers ss)) (integers ss) →
    wide out us ≡ dummy_cells out (integers ss)
int-dummy out ss us e = wide-cell out us ∙ ap (λ d. cell_form (if out then widened d else d)) e
  where
    wide-cell : (out : Bool) (us : List pure.Span) → wide out us ≡ cell_form (if out then widened (integers us) else integers us)
    wide-cell true [] = refl
    wide-cell true (s ∷ ss) = refl
    wide-cell false ss = refl

pub dummy_of_int : (out : Bool) (ss : List Span) (us : List pure.Span) →
    integers us ≡ with_number (dummy_of (integers (map pure_span ss))) (integers (map pure_span ss)) →
    wide out us ≡ dummy_cells out (pure_closed (variant.Int ss))
dummy_of_int out ss us e = int-dummy out (map pure_span ss) us e ∙ sym (ap (dummy_cells out) (pure_closed_int ss))

pub dummy_of_named : (out : Bool) (t : Text) (n : ℕ) (us : List pure.Span) →
    us ≡ record { low = Some (pos 1); high = Some (pos n) } ∷ record { low = Some (pos n +ℤ pos 1); high = Some (pos n +ℤ pos 1) } ∷ [] →
    wide out us ≡ dummy_cells out (pure_closed (variant.Named t n))
dummy_of_named true t n us e = ap (wide true) e ∙ sym (ap (dummy_cells true) (pure_closed_named t n))
dummy_of_named false t n us e = ap (wide false) e ∙ sym (ap (dummy_cells false) (pure_closed_named t n))

pub dummy_there : (ss : List pure.Span) (rs us : List Run) (r : Run) (b n : ℤ) → map pure_run rs ≡ ss → high_alone ss ≡ Some b →
    n ≡ b +ℤ pos 1 →
    pure_run r ≡ record { low = Some n; high = Some n } → us ≡ rs ++ r ∷ [] →
    integers (map pure_run us) ≡ with_number (dummy_of (integers ss)) (integers ss)
dummy_there ss rs us r b n p h e q u = ap (λ l. integers (map pure_run l)) u ∙ go ss rs p h
  where
    go : (ss : List pure.Span) (rs : List Run) → map pure_run rs ≡ ss → high_alone ss ≡ Some b →
        integers (map pure_run (rs ++ r ∷ [])) ≡ with_number (dummy_of (integers ss)) (integers ss)
    go [] rs p h = cc
    go (s ∷ t ∷ ss) rs p h = cc
    go (s ∷ []) [] p h = cc
    go (s ∷ []) (x ∷ y ∷ rs) p h = cc
    go (s ∷ []) (x ∷ []) p h =
        let z : pure_run x ≡ s = cc in
        ap (λ w. integers (w ∷ pure_run r ∷ [])) z ∙ ap (λ w. integers (s ∷ w ∷ [])) (q
        ∙ ap (λ m. record { low = Some m; high = Some m }) e)
        ∙ sym (ap (λ o. with_number (elim o [ None ↦ None | Some k ↦ Some (k +ℤ pos 1) ]) (integers (s ∷ []))) h)

pub dummy_nowhere : (ss : List pure.Span) (rs : List Run) → map pure_run rs ≡ ss → high_alone ss ≡ None →
    integers (map pure_run rs) ≡ with_number (dummy_of (integers ss)) (integers ss)
dummy_nowhere ss rs p h = ap integers p ∙ go ss h
  where
    go : (ss : List pure.Span) → high_alone ss ≡ None → integers ss ≡ with_number (dummy_of (integers ss)) (integers ss)
    go [] h = refl
    go (s ∷ []) h = sym (ap (λ o. with_number (elim o [ None ↦ None | Some k ↦ Some (k +ℤ pos 1) ]) (integers (s ∷ []))) h)
    go (s ∷ t ∷ ss) h = refl

pub ruleset dummy_forms = (dummy_of_bool, dummy_of_int, dummy_of_named)

-- A domain that is no atom has no dummy, and its slots no numbers.
abbrev IsNone : Domain → Type 0
IsNone booleans = ⊥
IsNone (integers ss) = ⊥
IsNone (named t n) = ⊥
IsNone d = Unit {0}

none-dummy : (out : Bool) (d : Domain) → IsNone d → between (pos 1) (pos 0) ≡ dummy_cells out d
none-dummy out booleans h = absurd h
none-dummy out (integers ss) h = absurd h
none-dummy out (named t n) h = absurd h
none-dummy true _ h = refl
none-dummy false _ h = refl

pub no_dummy_tuple : (out : Bool) (ds : List Closed) → between (pos 1) (pos 0) ≡ dummy_cells out (pure_closed (variant.Tuple ds))
no_dummy_tuple out ds = none-dummy out (tuples (pure_closeds ds)) tt ∙ sym (ap (dummy_cells out) (pure_closed_tuple ds))

pub no_dummy_rec : (out : Bool) (fs : List FieldClosed) → between (pos 1) (pos 0) ≡ dummy_cells out (pure_closed (variant.Rec fs))
no_dummy_rec out fs = none-dummy out (record_domain (map pure_field_closed fs)) tt ∙ sym (ap (dummy_cells out) (pure_closed_rec fs))

pub no_dummy_matrix : (out : Bool) (is : List Closed) (d : Closed) →
    between (pos 1) (pos 0) ≡ dummy_cells out (pure_closed (variant.Matrix is d))
no_dummy_matrix out is d = none-dummy out (matrices (pure_closeds is) (pure_closed d)) tt
    ∙ sym (ap (dummy_cells out) (pure_closed_matrix is d))

pub no_dummy_set : (out : Bool) (ks : List Attribute) (d : Closed) →
    between (pos 1) (pos 0) ≡ dummy_cells out (pure_closed (variant.Set ks d))
no_dummy_set out ks d = none-dummy out (sets (pure_attributes ks) (pure_closed d)) tt ∙ sym (ap (dummy_cells out) (pure_closed_set ks d))

pub no_dummy_mset : (out : Bool) (ks : List Attribute) (d : Closed) →
    between (pos 1) (pos 0) ≡ dummy_cells out (pure_closed (variant.MSet ks d))
no_dummy_mset out ks d = none-dummy out (msets (pure_attributes ks) (pure_closed d)) tt ∙ sym (ap (dummy_cells out) (pure_closed_mset ks d))

pub no_dummy_function : (out : Bool) (ks : List Attribute) (d c : Closed) →
    between (pos 1) (pos 0) ≡ dummy_cells out (pure_closed (variant.Function ks d c))
no_dummy_function out ks d c = none-dummy out (functions (pure_attributes ks) (pure_closed d) (pure_closed c)) tt
    ∙ sym (ap (dummy_cells out) (pure_closed_function ks d c))

pub no_dummy_relation : (out : Bool) (ks : List Attribute) (ds : List Closed) →
    between (pos 1) (pos 0) ≡ dummy_cells out (pure_closed (variant.Relation ks ds))
no_dummy_relation out ks ds = none-dummy out (relations (pure_attributes ks) (pure_closeds ds)) tt
    ∙ sym (ap (dummy_cells out) (pure_closed_relation ks ds))

pub no_dummy_partition : (out : Bool) (ks : List Attribute) (d : Closed) →
    between (pos 1) (pos 0) ≡ dummy_cells out (pure_closed (variant.Partition ks d))
no_dummy_partition out ks d = none-dummy out (partitions (pure_attributes ks) (pure_closed d)) tt
    ∙ sym (ap (dummy_cells out) (pure_closed_partition ks d))

pub ruleset no_dummy = (
  no_dummy_tuple,
  no_dummy_rec,
  no_dummy_matrix,
  no_dummy_set,
  no_dummy_mset,
  no_dummy_function,
  no_dummy_relation,
  no_dummy_partition,
)

-- The values of atoms and matrices are those of their layers.
use Rattle.std.proofs.Common.{◌≡◌, refl, sym, ap, ◌∙◌, subst, ℕ, suc, ◌+◌, ◌*◌, ◌<◌, ◌≤◌, true, ◌&&◌, List, [], ◌∷◌, ◌++◌, map, length, take, get_or, Option, Some, None, option_map}
use Rattle.std.proofs.lemmas.Bool.{eqb-true}
use Rattle.std.proofs.lemmas.List.{take_more, take_all, map-append}
use Rattle.ess_semantics.specs.declared.words.ReprKind.{ReprKind}
use Rattle.ess_semantics.specs.Lists.{and_then, each_of, only_of}
use Rattle.ess_semantics.specs.Values.{Text, Value, matrix, of_list}
use Rattle.ess_semantics.specs.Trees.{Reprs, repr, no_reprs, more_reprs}
use Rattle.ess_semantics.specs.Domains as pure
use Rattle.ess_semantics.specs.Domains.{Domain, Domains, booleans, integers, named, matrices, no_domains, more_domains, domain_list, member_list}
use Rattle.ess_semantics.specs.Tables.{Table, Tables, item_in, atom_value, cell_at, is_filled, same_axes, volume}
use Rattle.ess_semantics.specs.Cells.{Axes}
use Rattle.ess_semantics.specs.ScalarLayers.{in_lists_of, count_of_places, nested_of}
use Rattle.ess_semantics.specs.Declarations.{axes_of}
use Rattle.ess_semantics.specs.OneLayer.{layer_value}
use Rattle.ess_semantics.specs.Tidy.{over_axes}
use Rattle.ess_semantics.proofs.Tests.{and-left, and-right}
use Rattle.ess_repr_laws.specs.Rooms.{Covered}
use Rattle.ess_repr_rows_laws.proofs.Stacked.{axes-equal}
use Rattle.ess_eval_domains.specs.declared.closed.Span.{Span}
use Rattle.ess_eval_domains.specs.declared.closed.Closed.{Closed}
use Rattle.ess_eval_domains.specs.declared.closed.Closed.TheVariants as variant
use Rattle.ess_eval_domains.specs.ClosedViews.{pure_span, pure_closed, pure_closeds}
use Rattle.ess_eval_domains.proofs.ClosedEquations.{pure_closed_bool, pure_closed_int, pure_closed_named, pure_closed_matrix}
use Rattle.ess_core.specs.declared.values.Val.{Val}
use Rattle.ess_core.specs.ValueViews.{pure_val}
use Rattle.ess_repr_scalars.specs.ScalarForms.{over_scalars, for_atom, for_matrix, atom_in}
use Rattle.ess_repr_scalars.specs.NestedMatrices.{places_in, nested_in}

-- ---- atoms

-- the only cell of the first table
cell-of : (t : Table) (us : Tables) → over_axes [] ([] ∷ []) (t ∷ us) ≡ true → only_of t.items ≡ cell_at t []
cell-of t us h =
    let one = and-left (is_filled t && same_axes t.axes []) (over_axes [] [] us) h in
    ap (λ a. item_in a t.items []) (sym (axes-equal t.axes [] (and-right (is_filled t) (same_axes t.axes []) one)))

bool-value : (k : ReprKind) (rs : Reprs) (ts : Tables) (vs : List Value) → Covered (repr k rs) booleans → over_axes [] (axes_of (repr k rs) booleans) ts ≡ true →
    for_atom k (atom_in booleans ts) ≡ layer_value k booleans ts vs
bool-value ReprKind.Atom no_reprs [] vs c o = cc
bool-value ReprKind.Atom no_reprs (t ∷ us) vs c o = ap (λ q. and_then q (atom_value booleans)) (cell-of t us o)
bool-value ReprKind.Atom (more_reprs r rs) ts vs c o = absurd c
bool-value _ rs ts vs c o = refl

int-value : (k : ReprKind) (rs : Reprs) (ss : List pure.Span) (ts : Tables) (vs : List Value) → Covered (repr k rs) (integers ss) → over_axes [] (axes_of (repr k rs) (integers ss)) ts ≡ true →
    for_atom k (atom_in (integers ss) ts) ≡ layer_value k (integers ss) ts vs
int-value ReprKind.Atom no_reprs ss [] vs c o = cc
int-value ReprKind.Atom no_reprs ss (t ∷ us) vs c o = ap (λ q. and_then q (atom_value (integers ss))) (cell-of t us o)
int-value ReprKind.Atom (more_reprs r rs) ss ts vs c o = absurd c
int-value _ rs ss ts vs c o = refl

named-value : (k : ReprKind) (rs : Reprs) (a : Text) (n : ℕ) (ts : Tables) (vs : List Value) → Covered (repr k rs) (named a n) → over_axes [] (axes_of (repr k rs) (named a n)) ts ≡ true →
    for_atom k (atom_in (named a n) ts) ≡ layer_value k (named a n) ts vs
named-value ReprKind.Atom no_reprs a n [] vs c o = cc
named-value ReprKind.Atom no_reprs a n (t ∷ us) vs c o = ap (λ q. and_then q (atom_value (named a n))) (cell-of t us o)
named-value ReprKind.Atom (more_reprs r rs) a n ts vs c o = absurd c
named-value _ rs a n ts vs c o = refl

-- What is asked of the value of tables.
abbrev Asked : ReprKind → Domain → Tables → List Value → Option Value → Type 0
Asked k d ts vs o = (rs : Reprs) → Covered (repr k rs) d → over_axes [] (axes_of (repr k rs) d) ts ≡ true → o ≡ over_scalars d (layer_value k d ts vs)

module _ (k : ReprKind) (ts : Tables) (vs : List Value) (o : Option Value) where
  pub of_bool : o ≡ for_atom k (atom_in (pure_closed variant.Bool) ts) → (rs : Reprs) → Covered (repr k rs) (pure_closed variant.Bool) →
      over_axes [] (axes_of (repr k rs) (pure_closed variant.Bool)) ts ≡ true → o ≡ over_scalars (pure_closed variant.Bool) (layer_value k (pure_closed variant.Bool) ts vs)
  of_bool e =
      subst (λ d. Asked k d ts vs o) (sym pure_closed_bool) (λ rs c h. e ∙ ap (λ d. for_atom k (atom_in d ts)) pure_closed_bool ∙ bool-value k rs ts vs c h)

  pub of_int : (ss : List Span) → o ≡ for_atom k (atom_in (pure_closed (variant.Int ss)) ts) → (rs : Reprs) → Covered (repr k rs) (pure_closed (variant.Int ss)) →
      over_axes [] (axes_of (repr k rs) (pure_closed (variant.Int ss))) ts ≡ true → o ≡ over_scalars (pure_closed (variant.Int ss)) (layer_value k (pure_closed (variant.Int ss)) ts vs)
  of_int ss e =
      subst (λ d. Asked k d ts vs o) (sym (pure_closed_int ss))
      (λ rs c h. e ∙ ap (λ d. for_atom k (atom_in d ts)) (pure_closed_int ss) ∙ int-value k rs (map pure_span ss) ts vs c h)

  pub of_named : (a : Text) (n : ℕ) → o ≡ for_atom k (atom_in (pure_closed (variant.Named a n)) ts) → (rs : Reprs) → Covered (repr k rs) (pure_closed (variant.Named a n)) →
      over_axes [] (axes_of (repr k rs) (pure_closed (variant.Named a n))) ts ≡ true → o ≡ over_scalars (pure_closed (variant.Named a n)) (layer_value k (pure_closed (variant.Named a n)) ts vs)
  of_named a n e =
      subst (λ d. Asked k d ts vs o) (sym (pure_closed_named a n))
      (λ rs c h. e ∙ ap (λ d. for_atom k (atom_in d ts)) (pure_closed_named a n) ∙ named-value k rs a n ts vs c h)

-- ---- matrices

long : (ds : Domains) → count_of_places ds ≡ places_in (map member_list (domain_list ds))
long no_domains = refl
long (more_domains d ds) = ap (λ n. length (member_list d) * n) (long ds)

each-same : (f g : List Value → Option Value) → ((vs : List Value) → f vs ≡ g vs) → (vss : List (List Value)) → each_of vss f ≡ each_of vss g
each-same f g h [] = refl
each-same f g h (vs ∷ vss) =
    ap (λ o. and_then o (λ y. option_map (λ ys. y ∷ ys) (each_of vss f))) (h vs) ∙ ap (λ o. and_then (g vs) (λ y. option_map (λ ys. y ∷ ys) o)) (each-same f g h vss)

-- Nested matrices by the members of their index domains.
nested-in : (ds : Domains) (vs : List Value) → nested_in (map member_list (domain_list ds)) vs ≡ nested_of ds vs
nested-in no_domains vs = refl
nested-in (more_domains d ds) vs =
    ap (option_map (λ ys. matrix (of_list (member_list d)) (of_list ys)))
    (ap (λ n. each_of (in_lists_of (length (member_list d)) n vs) (nested_in (map member_list (domain_list ds)))) (sym (long ds))
    ∙ each-same (nested_in (map member_list (domain_list ds))) (nested_of ds) (nested-in ds) (in_lists_of (length (member_list d)) (count_of_places ds) vs))

matrix-value : (k : ReprKind) (ds : Domains) (e : Domain) (ts : Tables) (vs : List Value) → for_matrix k (nested_in (map member_list (domain_list ds)) vs) ≡ layer_value k (matrices ds e) ts vs
matrix-value ReprKind.Matrix ds e ts vs = nested-in ds vs
matrix-value _ ds e ts vs = refl

pub of_matrix : (k : ReprKind) (ts : Tables) (vs : List Value) (o : Option Value) (is : List Closed) (d : Closed) →
    o ≡ for_matrix k (nested_in (map member_list (domain_list (pure_closeds is))) vs) → (rs : Reprs) → Covered (repr k rs) (pure_closed (variant.Matrix is d)) →
    over_axes [] (axes_of (repr k rs) (pure_closed (variant.Matrix is d))) ts ≡ true → o ≡ over_scalars (pure_closed (variant.Matrix is d)) (layer_value k (pure_closed (variant.Matrix is d)) ts vs)
of_matrix k ts vs o is d e =
    subst (λ d. Asked k d ts vs o) (sym (pure_closed_matrix is d)) (λ rs c h. e ∙ matrix-value k (pure_closeds is) (pure_closed d) ts vs)

pub matrix_found : (k : ReprKind) (mss : List (List Val)) (ds : List Domain) (vs : List Val) (o : Option Val) → k ≡ ReprKind.Matrix → map (map pure_val) mss ≡ map member_list ds →
    option_map pure_val o ≡ nested_in (map (map pure_val) mss) (map pure_val vs) → option_map pure_val o ≡ for_matrix k (nested_in (map member_list ds) (map pure_val vs))
matrix_found k mss ds vs o h e p = p ∙ ap (λ l. nested_in l (map pure_val vs)) e ∙ ap (λ j. for_matrix j (nested_in (map member_list ds) (map pure_val vs))) (sym h)

-- ---- members of the index domains

-- The members of a domain.
abbrev pub list_for : Closed → List Value
list_for d = member_list (pure_closed d)

pub lists_more : (ds : List Closed) (i : ℕ) (mss mss' : List (List Val)) (d : Closed) (ms : List Val) → i < length ds → d ≡ get_or ds i d → map pure_val ms ≡ member_list (pure_closed d) →
    mss' ≡ mss ++ ms ∷ [] → map (map pure_val) mss ≡ map list_for (take i ds) → map (map pure_val) mss' ≡ map list_for (take (i + 1) ds)
lists_more ds i mss mss' d ms h is e g p =
    ap (map (map pure_val)) g ∙ map-append (map pure_val) mss (ms ∷ []) ∙ ap (λ l. l ++ map pure_val ms ∷ []) p
    ∙ ap (λ x. map list_for (take i ds) ++ x ∷ []) (e ∙ ap list_for is)
    ∙ sym (map-append list_for (take i ds) (get_or ds i d ∷ [])) ∙ sym (ap (map list_for) (take_more ds i d h))

all-lists : (ds : List Closed) → map list_for ds ≡ map member_list (domain_list (pure_closeds ds))
all-lists [] = refl
all-lists (d ∷ ds) = ap (λ l. list_for d ∷ l) (all-lists ds)

pub lists_all : (ds : List Closed) (i : ℕ) (mss : List (List Val)) → length ds ≤ i → map (map pure_val) mss ≡ map list_for (take i ds) →
    map (map pure_val) mss ≡ map member_list (domain_list (pure_closeds ds))
lists_all ds i mss h p = p ∙ ap (map list_for) (take_all i ds h) ∙ all-lists ds

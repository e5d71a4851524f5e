-- The parts of atoms and matrices are the inner values of their layers.
use Rattle.std.proofs.Common.{◌≡◌, refl, sym, ap, ◌∙◌, ℕ, zero, suc, List, [], ◌∷◌, ◌++◌, map, length, Option, Some, None, option_map, append-nil}
use Rattle.ess_semantics.specs.declared.words.ReprKind.{ReprKind}
use Rattle.ess_semantics.specs.Lists.{append_all}
use Rattle.ess_semantics.specs.Values.{Text, Value, to_list, matrix}
use Rattle.ess_semantics.specs.Domains as pure
use Rattle.ess_semantics.specs.Domains.{Domain, Domains, booleans, integers, named, matrices, no_domains, more_domains, domain_list}
use Rattle.ess_semantics.specs.Layers.{some_each}
use Rattle.ess_semantics.specs.ScalarLayers.{elements}
use Rattle.ess_semantics.specs.Representations.{layer}
use Rattle.ess_semantics.specs.Canonical.{somes}
use Rattle.ess_semantics.specs.OneLayer.{inner_values}
use Rattle.ess_core.specs.declared.values.Val.{Val}
use Rattle.ess_core.specs.ValueViews.{pure_val}
use Rattle.ess_eval_domains.specs.declared.closed.Span.{Span}
use Rattle.ess_eval_domains.specs.declared.closed.Closed.{Closed}
use Rattle.ess_eval_domains.specs.declared.closed.Closed.TheVariants as variant
use Rattle.ess_eval_domains.specs.ClosedViews.{pure_span, pure_closed, pure_closeds}
use Rattle.ess_eval_domains.proofs.ClosedEquations.{pure_closed_bool, pure_closed_int, pure_closed_named, pure_closed_matrix}
use Rattle.ess_repr_scalars.specs.ScalarForms.{over_scalars, for_atom, for_matrix}
use Rattle.ess_repr_scalars.specs.NestedMatrices.{elements_at}

-- What a layer answers of its inner values.
abbrev pub inner_of : ReprKind → Domain → Value → Option (List Value)
inner_of k d v = option_map (λ l. inner_values l v) (layer k d)

bool-parts : (k : ReprKind) (v : Value) → for_atom k (Some []) ≡ inner_of k booleans v
bool-parts ReprKind.Atom v = refl
bool-parts _ v = refl

int-parts : (k : ReprKind) (ss : List pure.Span) (v : Value) → for_atom k (Some []) ≡ inner_of k (integers ss) v
int-parts ReprKind.Atom ss v = refl
int-parts _ ss v = refl

named-parts : (k : ReprKind) (t : Text) (n : ℕ) (v : Value) → for_atom k (Some []) ≡ inner_of k (named t n) v
named-parts ReprKind.Atom t n v = refl
named-parts _ t n v = refl

pub of_bool : (k : ReprKind) (v : Value) (o : Option (List Value)) → o ≡ for_atom k (Some []) →
    o ≡ over_scalars (pure_closed variant.Bool) (option_map (λ l. inner_values l v) (layer k (pure_closed variant.Bool)))
of_bool k v o e = e ∙ bool-parts k v ∙ ap (λ d. over_scalars d (inner_of k d v)) (sym pure_closed_bool)

pub of_int : (k : ReprKind) (v : Value) (ss : List Span) (o : Option (List Value)) → o ≡ for_atom k (Some []) →
    o ≡ over_scalars (pure_closed (variant.Int ss)) (option_map (λ l. inner_values l v) (layer k (pure_closed (variant.Int ss))))
of_int k v ss o e = e ∙ int-parts k (map pure_span ss) v ∙ ap (λ d. over_scalars d (inner_of k d v)) (sym (pure_closed_int ss))

pub of_named : (k : ReprKind) (v : Value) (t : Text) (n : ℕ) (o : Option (List Value)) → o ≡ for_atom k (Some []) →
    o ≡ over_scalars (pure_closed (variant.Named t n)) (option_map (λ l. inner_values l v) (layer k (pure_closed (variant.Named t n))))
of_named k v t n o e = e ∙ named-parts k t n v ∙ ap (λ d. over_scalars d (inner_of k d v)) (sym (pure_closed_named t n))

-- ---- matrices

pub somes-each : (vs : List Value) → somes (some_each vs) ≡ vs
somes-each [] = refl
somes-each (v ∷ vs) = ap (λ l. v ∷ l) (somes-each vs)

map-same : (f g : Value → List Value) → ((v : Value) → f v ≡ g v) → (vs : List Value) → map f vs ≡ map g vs
map-same f g h [] = refl
map-same f g h (v ∷ vs) = ap (λ x. x ∷ map f vs) (h v) ∙ ap (λ l. g v ∷ l) (map-same f g h vs)

-- The elements by the depth alone.
pub elements-at : (ds : Domains) (v : Value) → elements ds v ≡ elements_at (length (domain_list ds)) v
elements-at no_domains v = refl
elements-at (more_domains d ds) (matrix is xs) = ap append_all (map-same (elements ds) (elements_at (length (domain_list ds))) (elements-at ds) (to_list xs))
elements-at (more_domains d ds) _ = refl

matrix-parts : (k : ReprKind) (ds : Domains) (e : Domain) (v : Value) → for_matrix k (Some (elements ds v)) ≡ inner_of k (matrices ds e) v
matrix-parts ReprKind.Matrix ds e v = ap Some (sym (somes-each (elements ds v)) ∙ sym (append-nil (somes (some_each (elements ds v)))))
matrix-parts _ ds e v = refl

depth : (is : List Closed) → length (domain_list (pure_closeds is)) ≡ length is
depth [] = refl
depth (d ∷ is) = ap suc (depth is)

pub deep : (k : ReprKind) (v : Value) (is : List Closed) (n : ℕ) (r : List Value) → k ≡ ReprKind.Matrix → n ≡ length is → r ≡ elements_at n v →
    Some r ≡ for_matrix k (Some (elements (pure_closeds is) v))
deep k v is n r q h e =
    ap Some (e ∙ ap (λ m. elements_at m v) (h ∙ sym (depth is)) ∙ sym (elements-at (pure_closeds is) v)) ∙ ap (λ j. for_matrix j (Some (elements (pure_closeds is) v))) (sym q)

pub of_matrix : (k : ReprKind) (v : Value) (is : List Closed) (d : Closed) (o : Option (List Value)) → o ≡ for_matrix k (Some (elements (pure_closeds is) v)) →
    o ≡ over_scalars (pure_closed (variant.Matrix is d)) (option_map (λ l. inner_values l v) (layer k (pure_closed (variant.Matrix is d))))
of_matrix k v is d o e = e ∙ matrix-parts k (pure_closeds is) (pure_closed d) v ∙ ap (λ d. over_scalars d (inner_of k d v)) (sym (pure_closed_matrix is d))

pub at_matrix : (k : ReprKind) (v : Value) (is : List Closed) (d x : Closed) (o : Option (List Value)) → x ≡ variant.Matrix is d → o ≡ for_matrix k (Some (elements (pure_closeds is) v)) →
    o ≡ over_scalars (pure_closed x) (option_map (λ l. inner_values l v) (layer k (pure_closed x)))
at_matrix k v is d x o h e = of_matrix k v is d o e ∙ ap (λ y. over_scalars (pure_closed y) (inner_of k (pure_closed y) v)) (sym h)

-- Domains with positions, variant by variant.
use Rattle.std.proofs.Common.{◌≡◌, refl, sym, ap, ◌∙◌, ℕ, ℤ, pos, ◌+◌, ◌<◌, ◌≤◌, List, [], ◌∷◌, ◌++◌, map, take, length, get_or, Some}
use Rattle.ess_semantics.specs.Values.{Text}
use Rattle.ess_semantics.specs.Names.{Names, keys}
use Rattle.ess_semantics.specs.Domains.{Domain, integers, named, tuples, records, matrices, sets, msets, functions, relations, partitions, more_domains}
use Rattle.ess_semantics.specs.Positions.{domain_with_positions, domains_with_positions}
use Rattle.ess_eval_domains.specs.declared.closed.Span.{Span}
use Rattle.ess_eval_domains.specs.declared.closed.Attribute.{Attribute}
use Rattle.ess_eval_domains.specs.declared.closed.Closed.{Closed}
use Rattle.ess_eval_domains.specs.declared.closed.FieldClosed.{FieldClosed}
use Rattle.ess_eval_domains.specs.declared.closed.Closed.TheVariants as variant
use Rattle.ess_eval_domains.specs.declared.closed.Closed.TheViews.{out-FieldClosed}
use Rattle.ess_eval_domains.specs.ClosedViews.{pure_span, pure_attributes, domains_of, record_domain, pure_closed, pure_closeds, pure_field_closed}
use Rattle.ess_eval_domains.proofs.ClosedEquations.{pure_closed_bool, pure_closed_int, pure_closed_named, pure_closed_tuple, pure_closed_rec, pure_closed_matrix, pure_closed_set, pure_closed_mset, pure_closed_function, pure_closed_relation, pure_closed_partition, pure_field_closed_is}
use Rattle.ess_repr_positions.specs.Placed.{placed_closed, placed_field_closed}
use Rattle.ess_repr_positions.proofs.MadeRows.{made-more, made-all}

-- ---- lists

listed : (ds : List Closed) → domains_of (map placed_closed ds) ≡ domains_with_positions (pure_closeds ds)
listed [] = refl
listed (d ∷ ds) = ap (more_domains (placed_closed d)) (listed ds)

-- ---- variants

pub bool_placed : pure_closed variant.Bool ≡ domain_with_positions (pure_closed variant.Bool)
bool_placed = pure_closed_bool ∙ ap domain_with_positions (sym pure_closed_bool)

pub int_placed : (ss rs : List Span) → rs ≡ ss → pure_closed (variant.Int rs) ≡ domain_with_positions (pure_closed (variant.Int ss))
int_placed ss rs e = pure_closed_int rs ∙ ap (λ l. integers (map pure_span l)) e ∙ ap domain_with_positions (sym (pure_closed_int ss))

pub numbers_made : (t : Text) (n : ℕ) (last : ℤ) (ss : List Span) → last ≡ pos n →
    ss ≡ record { low = Some (pos 1); high = Some last } ∷ [] → pure_closed (variant.Int ss) ≡ domain_with_positions (named t n)
numbers_made t n last ss e p =
    pure_closed_int ss ∙ ap (λ l. integers (map pure_span l)) p ∙ ap (λ k. integers (record { low = Some (pos 1); high = Some k } ∷ [])) e

pub named_placed : (t : Text) (n : ℕ) (d : Closed) → pure_closed d ≡ domain_with_positions (named t n) →
    pure_closed d ≡ domain_with_positions (pure_closed (variant.Named t n))
named_placed t n d p = p ∙ ap domain_with_positions (sym (pure_closed_named t n))

pub tuple_placed : (ds es : List Closed) → map pure_closed es ≡ map placed_closed ds →
    pure_closed (variant.Tuple es) ≡ domain_with_positions (pure_closed (variant.Tuple ds))
tuple_placed ds es p =
    pure_closed_tuple es ∙ ap (λ l. tuples (domains_of l)) p ∙ ap tuples (listed ds) ∙ ap domain_with_positions (sym (pure_closed_tuple ds))

pub matrix_placed : (is js : List Closed) (d e : Closed) → map pure_closed js ≡ map placed_closed is → pure_closed e ≡ placed_closed d →
    pure_closed (variant.Matrix js e) ≡ domain_with_positions (pure_closed (variant.Matrix is d))
matrix_placed is js d e p q =
    pure_closed_matrix js e ∙ ap (λ l. matrices (domains_of l) (pure_closed e)) p ∙ ap (λ l. matrices l (pure_closed e)) (listed is)
    ∙ ap (matrices (domains_with_positions (pure_closeds is))) q ∙ ap domain_with_positions (sym (pure_closed_matrix is d))

pub set_placed : (ks ls : List Attribute) (d e : Closed) → ls ≡ ks → pure_closed e ≡ placed_closed d →
    pure_closed (variant.Set ls e) ≡ domain_with_positions (pure_closed (variant.Set ks d))
set_placed ks ls d e p q =
    pure_closed_set ls e ∙ ap (λ l. sets (pure_attributes l) (pure_closed e)) p ∙ ap (sets (pure_attributes ks)) q
    ∙ ap domain_with_positions (sym (pure_closed_set ks d))

pub mset_placed : (ks ls : List Attribute) (d e : Closed) → ls ≡ ks → pure_closed e ≡ placed_closed d →
    pure_closed (variant.MSet ls e) ≡ domain_with_positions (pure_closed (variant.MSet ks d))
mset_placed ks ls d e p q =
    pure_closed_mset ls e ∙ ap (λ l. msets (pure_attributes l) (pure_closed e)) p ∙ ap (msets (pure_attributes ks)) q
    ∙ ap domain_with_positions (sym (pure_closed_mset ks d))

pub partition_placed : (ks ls : List Attribute) (d e : Closed) → ls ≡ ks → pure_closed e ≡ placed_closed d →
    pure_closed (variant.Partition ls e) ≡ domain_with_positions (pure_closed (variant.Partition ks d))
partition_placed ks ls d e p q =
    pure_closed_partition ls e ∙ ap (λ l. partitions (pure_attributes l) (pure_closed e)) p ∙ ap (partitions (pure_attributes ks)) q
    ∙ ap domain_with_positions (sym (pure_closed_partition ks d))

pub function_placed : (ks ls : List Attribute) (d e c b : Closed) → ls ≡ ks → pure_closed e ≡ placed_closed d → pure_closed b ≡ placed_closed c →
    pure_closed (variant.Function ls e b) ≡ domain_with_positions (pure_closed (variant.Function ks d c))
function_placed ks ls d e c b p q r =
    pure_closed_function ls e b ∙ ap (λ l. functions (pure_attributes l) (pure_closed e) (pure_closed b)) p
    ∙ ap (λ x. functions (pure_attributes ks) x (pure_closed b)) q ∙ ap (functions (pure_attributes ks) (placed_closed d)) r
    ∙ ap domain_with_positions (sym (pure_closed_function ks d c))

pub relation_placed : (ks ls : List Attribute) (ds es : List Closed) → ls ≡ ks → map pure_closed es ≡ map placed_closed ds →
    pure_closed (variant.Relation ls es) ≡ domain_with_positions (pure_closed (variant.Relation ks ds))
relation_placed ks ls ds es p q =
    pure_closed_relation ls es ∙ ap (λ l. relations (pure_attributes l) (pure_closeds es)) p
    ∙ ap (λ l. relations (pure_attributes ks) (domains_of l)) q ∙ ap (relations (pure_attributes ks)) (listed ds)
    ∙ ap domain_with_positions (sym (pure_closed_relation ks ds))

-- ---- fields

-- A field with its domain's positions.
abbrev field_at : Text × Domain → Text × Domain
field_at f = (f.0, domain_with_positions f.1)

fields-placed : (fs : Names Domain) → record_domain (map field_at fs) ≡ domain_with_positions (record_domain fs)
fields-placed fs = ap (λ ns. records ns (domains_of (map (λ f. f.1) (map field_at fs)))) (names fs) ∙ ap (records (keys fs)) (parts fs)
  where
    names : (fs : Names Domain) → keys (map field_at fs) ≡ keys fs
    names [] = refl
    names (f ∷ fs) = ap (λ l. f.0 ∷ l) (names fs)

    parts : (fs : Names Domain) → domains_of (map (λ f. f.1) (map field_at fs)) ≡ domains_with_positions (domains_of (map (λ f. f.1) fs))
    parts [] = refl
    parts (f ∷ fs) = ap (more_domains (domain_with_positions f.1)) (parts fs)

mapped : (fs : List FieldClosed) → map placed_field_closed fs ≡ map field_at (map pure_field_closed fs)
mapped [] = refl
mapped (f ∷ fs) = ap (λ l. placed_field_closed f ∷ l) (mapped fs)

pub rec_placed : (fs gs : List FieldClosed) → map pure_field_closed gs ≡ map placed_field_closed fs →
    pure_closed (variant.Rec gs) ≡ domain_with_positions (pure_closed (variant.Rec fs))
rec_placed fs gs p =
    pure_closed_rec gs ∙ ap record_domain (p ∙ mapped fs) ∙ fields-placed (map pure_field_closed fs)
    ∙ ap domain_with_positions (sym (pure_closed_rec fs))

pub field_placed : (f g : FieldClosed) (d : Closed) → (out-FieldClosed g).name ≡ (out-FieldClosed f).name → (out-FieldClosed g).domain ≡ d →
    pure_closed d ≡ domain_with_positions (pure_closed (out-FieldClosed f).domain) → pure_field_closed g ≡ placed_field_closed f
field_placed f g d n e p =
    pure_field_closed_is g ∙ ap (λ x. (x, pure_closed (out-FieldClosed g).domain)) n
    ∙ ap (λ x. ((out-FieldClosed f).name, x)) (ap pure_closed e ∙ p) ∙ ap field_at (sym (pure_field_closed_is f))

-- ---- rows

pub closeds_more : (ds : List Closed) (i : ℕ) (d e : Closed) (xs ys : List Closed) → i < length ds → d ≡ get_or ds i d →
    pure_closed e ≡ domain_with_positions (pure_closed d) → ys ≡ xs ++ e ∷ [] → map pure_closed xs ≡ map placed_closed (take i ds) →
    map pure_closed ys ≡ map placed_closed (take (i + 1) ds)
closeds_more = made-more pure_closed placed_closed

pub closeds_all : (ds : List Closed) (i : ℕ) (xs : List Closed) → length ds ≤ i → map pure_closed xs ≡ map placed_closed (take i ds) →
    map pure_closed xs ≡ map placed_closed ds
closeds_all = made-all pure_closed placed_closed

pub fields_more : (fs : List FieldClosed) (i : ℕ) (f g : FieldClosed) (xs ys : List FieldClosed) → i < length fs → f ≡ get_or fs i f →
    pure_field_closed g ≡ placed_field_closed f → ys ≡ xs ++ g ∷ [] → map pure_field_closed xs ≡ map placed_field_closed (take i fs) →
    map pure_field_closed ys ≡ map placed_field_closed (take (i + 1) fs)
fields_more = made-more pure_field_closed placed_field_closed

pub fields_all : (fs : List FieldClosed) (i : ℕ) (xs : List FieldClosed) → length fs ≤ i →
    map pure_field_closed xs ≡ map placed_field_closed (take i fs) → map pure_field_closed xs ≡ map placed_field_closed fs
fields_all = made-all pure_field_closed placed_field_closed

-- Each variant.
pub ruleset kinds = (
  int_placed,
  named_placed,
  tuple_placed,
  rec_placed,
  matrix_placed,
  set_placed,
  mset_placed,
  function_placed,
  relation_placed,
  partition_placed,
)

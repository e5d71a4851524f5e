-- A layer over a domain with positions has the axes and the cells' numbers of the layer over the domain, and children with positions.
use Rattle.std.proofs.Common.{◌≡◌, refl, sym, ap, ◌∙◌, ℕ, ◌*◌, Bool, true, false, if◌then◌else◌, List, [], ◌∷◌, map, pos, ◌+ℤ◌, Option, Some, None}
use Rattle.ess_semantics.specs.declared.words.ReprKind.{ReprKind}
use Rattle.ess_semantics.specs.declared.words.Key.{Key}
use Rattle.ess_semantics.specs.Lists.{or_default, or_else}
use Rattle.ess_semantics.specs.Numbers.{one_to}
use Rattle.ess_semantics.specs.Domains.{Attribute, Domain, Domains, booleans, integers, named, tuples, records, matrices, sets, msets, functions, relations, partitions, no_domains, more_domains, domain_list, between, attribute, has}
use Rattle.ess_semantics.specs.Sizes.{size_attributes, greatest_size, occurrences, bound, slots_of_set, slots_of_mset, child_relation, child_parts}
use Rattle.ess_semantics.specs.Layers.{Layer, OwnTable, codes_of, up_to, fixed_table, widened_table}
use Rattle.ess_semantics.specs.Representations.{layer}
use Rattle.ess_semantics.specs.Declarations.{Declaration, widened, declared_own, leaves_out}
use Rattle.ess_semantics.specs.Positions.{domain_with_positions, domains_with_positions}
use Rattle.ess_repr_laws.proofs.DeclaredWithPositions.{bound-with, codes-with}
use Rattle.ess_translate_members_laws.specs.CellForms.{cell_form, plain}

-- ---- parts

axes-with : (ds : Domains) → map codes_of (domain_list (domains_with_positions ds)) ≡ map codes_of (domain_list ds)
axes-with no_domains = refl
axes-with (more_domains d ds) =
    ap (λ a. a ∷ map codes_of (domain_list (domains_with_positions ds))) (codes-with d) ∙ ap (λ l. codes_of d ∷ l) (axes-with ds)

list-with : (ds : Domains) → domain_list (domains_with_positions ds) ≡ map domain_with_positions (domain_list ds)
list-with no_domains = refl
list-with (more_domains d ds) = ap (λ l. domain_with_positions d ∷ l) (list-with ds)

set-slots : (ks : List Attribute) (d : Domain) → slots_of_set ks (domain_with_positions d) ≡ slots_of_set ks d
set-slots ks d = ap (or_default (greatest_size ks)) (bound-with d)

mset-slots : (ks : List Attribute) (d : Domain) → slots_of_mset ks (domain_with_positions d) ≡ slots_of_mset ks d
mset-slots ks d = ap (λ b. or_default (greatest_size ks) (occurrences ks * b)) (bound-with d)

slots-axis : {n m : ℕ} → n ≡ m → one_to n ∷ [] ≡ one_to m ∷ []
slots-axis e = ap (λ k. one_to k ∷ []) e

parts-child : (ks : List Attribute) (d : Domain) → child_parts ks (domain_with_positions d) ≡ domain_with_positions (child_parts ks d)
parts-child ks d = ap (λ b. sets (sizes b) (sets inner (domain_with_positions d))) (bound-with d)
  where
    sizes : ℕ → List Attribute
    sizes b = size_attributes (attribute Key.NumParts ks) (attribute Key.MinNumParts ks)
        (if has Key.NumParts ks then attribute Key.MaxNumParts ks else or_else (attribute Key.MaxNumParts ks) (Some b))

    inner : List Attribute
    inner = size_attributes (attribute Key.PartSize ks) (attribute Key.MinPartSize ks) (attribute Key.MaxPartSize ks)

relation-child : (ks : List Attribute) (d c : Domain) →
    child_relation ks (domain_with_positions d) (domain_with_positions c) ≡ domain_with_positions (child_relation ks d c)
relation-child ks d c =
    ap (λ b. relations (sizes b (has Key.Total ks)) (more_domains (domain_with_positions d) (more_domains
    (domain_with_positions c) no_domains))) (bound-with d)
  where
    sizes : ℕ → Bool → List Attribute
    sizes b total =
        if total then size_attributes (Some b) (attribute Key.MinSize ks) (attribute Key.MaxSize ks)
        else size_attributes (attribute Key.Size ks) (attribute Key.MinSize ks)
        (if has Key.Size ks then attribute Key.MaxSize ks else or_else (attribute Key.MaxSize ks) (Some b))

-- ---- layers

-- A layer's own tables, with cells as numbers.
abbrev pub plain_own : Bool → List OwnTable → List Declaration
plain_own out ts = map (λ t. plain (declared_own out t)) ts

-- The layers of a domain and of the domain with positions are alike, or there is none for both.
abbrev pub Same : Option Layer → Option Layer → Type 0
Same None None = Unit {0}
Same (Some l) (Some m) = ((out : Bool) → plain_own out m.own ≡ plain_own out l.own) × (m.children ≡ map domain_with_positions l.children)
    × (m.axes ≡ l.axes) × (leaves_out m.in_use ≡ leaves_out l.in_use)
Same o q = ⊥

as-declared : {us ts : List OwnTable} → us ≡ ts → (out : Bool) → plain_own out us ≡ plain_own out ts
as-declared e out = ap (plain_own out) e

-- The slots of a domain that is no atom hold no number.
slots-same : (d e : Domain) (n m : ℕ) → n ≡ m → widened d ≡ d → widened e ≡ e → cell_form d ≡ cell_form e →
    (out : Bool) → plain_own out (widened_table (one_to n ∷ []) d ∷ []) ≡ plain_own out (widened_table (one_to m ∷ []) e ∷ [])
slots-same d e n m q u v h true =
    ap (λ c. record { axes = one_to n ∷ []; cell = cell_form c } ∷ []) u ∙ ap (λ c. record { axes = one_to n ∷ []; cell = c } ∷ []) h
    ∙ ap (λ c. record { axes = one_to n ∷ []; cell = cell_form c } ∷ []) (sym v)
    ∙ ap (λ k. record { axes = one_to k ∷ []; cell = cell_form (widened e) } ∷ []) q
slots-same d e n m q u v h false =
    ap (λ c. record { axes = one_to n ∷ []; cell = c } ∷ []) h ∙ ap (λ k. record { axes = one_to k ∷ []; cell = cell_form e } ∷ []) q

dummy-same : (ks : List Attribute) (d : Domain) →
    Same (layer ReprKind.ExplicitVarSizeWithDummy (sets ks d)) (layer ReprKind.ExplicitVarSizeWithDummy (sets ks (domain_with_positions d)))
dummy-same ks booleans = ((λ out. refl), refl, refl, refl)
dummy-same ks (integers ss) = ((λ out. refl), refl, refl, refl)
dummy-same ks (named t n) = (
  as-declared (ap (λ k. widened_table (one_to k ∷ [])
      (integers (record { low = Some (pos 1); high = Some (pos n) } ∷ record {
        low = Some (pos n +ℤ pos 1);
        high = Some
            (pos n +ℤ pos 1);
      } ∷ [])) ∷ [])
      (set-slots ks (named t n))),
  refl,
  refl,
  refl,
)
dummy-same ks (tuples ds) = (
  slots-same (domain_with_positions (tuples ds)) (tuples ds) _ _ (set-slots ks
      (tuples ds)) refl refl refl,
  refl,
  refl,
  refl,
)
dummy-same ks (records fs ds) = (
  slots-same (domain_with_positions (records fs ds)) (records fs ds) _ _ (set-slots ks
      (records fs ds)) refl refl refl,
  refl,
  refl,
  refl,
)
dummy-same ks (matrices is d) = (
  slots-same (domain_with_positions (matrices is d)) (matrices is d) _ _ (set-slots ks
      (matrices is d)) refl refl refl,
  refl,
  refl,
  refl,
)
dummy-same ks (sets ls d) = (
  slots-same (domain_with_positions (sets ls d)) (sets ls d) _ _ (set-slots ks
      (sets ls d)) refl refl refl,
  refl,
  refl,
  refl,
)
dummy-same ks (msets ls d) = (
  slots-same (domain_with_positions (msets ls d)) (msets ls d) _ _ (set-slots ks
      (msets ls d)) refl refl refl,
  refl,
  refl,
  refl,
)
dummy-same ks (functions ls d c) = (
  slots-same (domain_with_positions (functions ls d c)) (functions ls d c) _ _ (set-slots ks
      (functions ls d c)) refl refl refl,
  refl,
  refl,
  refl,
)
dummy-same ks (relations ls ds) = (
  slots-same (domain_with_positions (relations ls ds)) (relations ls ds) _ _ (set-slots ks
      (relations ls ds)) refl refl refl,
  refl,
  refl,
  refl,
)
dummy-same ks (partitions ls d) = (
  slots-same (domain_with_positions (partitions ls d)) (partitions ls d) _ _ (set-slots ks
      (partitions ls d)) refl refl refl,
  refl,
  refl,
  refl,
)

-- Each kind over each domain.
pub layers-same : (k : ReprKind) (d : Domain) → Same (layer k d) (layer k (domain_with_positions d))
layers-same ReprKind.Atom booleans = ((λ out. refl), refl, refl, refl)
layers-same ReprKind.Atom (integers ss) = ((λ out. refl), refl, refl, refl)
layers-same ReprKind.Atom (named t n) = ((λ out. refl), refl, refl, refl)
layers-same ReprKind.Tuple (tuples ds) = ((λ out. refl), list-with ds, refl, refl)
layers-same ReprKind.Rec (records fs ds) = ((λ out. refl), list-with ds, refl, refl)
layers-same ReprKind.Matrix (matrices is d) = ((λ out. refl), refl, axes-with is, refl)
layers-same ReprKind.Occurrence (sets ks d) = (as-declared (ap (λ a. fixed_table (a ∷ []) booleans ∷ []) (codes-with d)), refl, refl, refl)
layers-same ReprKind.Explicit (sets ks d) = ((λ out. refl), refl, slots-axis (set-slots ks d), refl)
layers-same ReprKind.ExplicitVarSizeWithMarker (sets ks d) =
    (as-declared (ap (λ n. fixed_table [] (up_to n) ∷ []) (set-slots ks d)), refl, slots-axis (set-slots ks d), refl)
layers-same ReprKind.ExplicitVarSizeWithFlags (sets ks d) =
    (as-declared (ap (λ n. fixed_table (one_to n ∷ []) booleans ∷ []) (set-slots ks d)), refl, slots-axis (set-slots ks d), refl)
layers-same ReprKind.ExplicitVarSizeWithDummy (sets ks d) = dummy-same ks d
layers-same ReprKind.MSetOccurrence (msets ks d) =
    (as-declared (ap (λ a. fixed_table (a ∷ []) (up_to (occurrences ks)) ∷ []) (codes-with d)), refl, refl, refl)
layers-same ReprKind.MSetExplicitWithRepetition (msets ks d) =
    (as-declared (ap (λ n. fixed_table [] (up_to n) ∷ []) (mset-slots ks d)), refl, slots-axis (mset-slots ks d), refl)
layers-same ReprKind.MSetExplicitWithFlags (msets ks d) = (
  as-declared (ap (λ n. fixed_table (one_to n ∷ []) (up_to (occurrences ks)) ∷ []) (mset-slots ks d)),
  refl,
  slots-axis
      (mset-slots ks d),
  refl,
)
layers-same ReprKind.Function1D (functions ks d c) = ((λ out. refl), refl, ap (λ a. a ∷ []) (codes-with d), refl)
layers-same ReprKind.Function1DPartial (functions ks d c) =
    (as-declared (ap (λ a. fixed_table (a ∷ []) booleans ∷ []) (codes-with d)), refl, ap (λ a. a ∷ []) (codes-with d), refl)
layers-same ReprKind.FunctionND (functions ks (tuples ds) c) = ((λ out. refl), refl, axes-with ds, refl)
layers-same ReprKind.FunctionNDPartial (functions ks (tuples ds) c) =
    (as-declared (ap (λ a. fixed_table a booleans ∷ []) (axes-with ds)), refl, axes-with ds, refl)
layers-same ReprKind.FunctionAsRelation (functions ks d c) = ((λ out. refl), ap (λ x. x ∷ []) (relation-child ks d c), refl, refl)
layers-same ReprKind.RelationAsMatrix (relations ks ds) = (
  as-declared (ap (λ a. fixed_table a booleans ∷ [])
      (axes-with ds)),
  refl,
  refl,
  refl,
)
layers-same ReprKind.RelationAsSet (relations ks ds) = ((λ out. refl), refl, refl, refl)
layers-same ReprKind.PartitionOccurrence (partitions ks d) = (
  as-declared (ap (λ n. fixed_table [] (up_to n) ∷ widened_table (codes_of (domain_with_positions d) ∷ []) (between (pos 1)
      (pos n)) ∷ []) (bound-with d)
      ∙ ap (λ a. fixed_table [] (up_to (bound d)) ∷ widened_table (a ∷ []) (between (pos 1) (pos (bound d))) ∷ [])
      (codes-with d)),
  refl,
  refl,
  refl,
)
layers-same ReprKind.PartitionAsSet (partitions ks d) = ((λ out. refl), ap (λ x. x ∷ []) (parts-child ks d), refl, refl)
layers-same _ d = tt

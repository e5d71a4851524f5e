-- A representation declares the same tables for a domain and for the domain with positions.
use Rattle.std.proofs.Common.{◌≡◌, refl, sym, ap, ◌∙◌, subst, ℕ, suc, ◌*◌, ◌^◌, Bool, false, ◌||◌, if◌then◌else◌, List, [], ◌∷◌, ◌++◌, map, length, pos, ◌+ℤ◌, Option, Some, None, option_map}
use Rattle.ess_semantics.specs.declared.words.ReprKind.{ReprKind}
use Rattle.ess_semantics.specs.declared.words.Key.{Key}
use Rattle.ess_semantics.specs.Lists.{list_or_none, or_default, or_else}
use Rattle.ess_semantics.specs.Values.{Value, number, truth, item, node}
use Rattle.ess_semantics.specs.Numbers.{one_to}
use Rattle.ess_semantics.specs.Trees.{Repr, Reprs, repr, no_reprs, more_reprs}
use Rattle.ess_semantics.specs.Domains.{Attribute, Domain, Domains, booleans, integers, named, tuples, records, matrices, sets, msets, functions, relations, partitions, no_domains, more_domains, domain_list, members, member_list, between, attribute, has}
use Rattle.ess_semantics.specs.Tables.{code}
use Rattle.ess_semantics.specs.Cells.{Axes}
use Rattle.ess_semantics.specs.Sizes.{size_attributes, greatest_size, occurrences, bound, product_bound, slots_of_set, slots_of_mset, child_relation, child_parts}
use Rattle.ess_semantics.specs.Layers.{Layer, codes_of, up_to, fixed_table, widened_table}
use Rattle.ess_semantics.specs.Representations.{layer}
use Rattle.ess_semantics.specs.Declarations.{Declaration, declared_own, under, leaves_out, declarations_below, declarations_of_children, declarations}
use Rattle.ess_semantics.specs.Atoms.{IsAtom}
use Rattle.ess_semantics.specs.Positions.{with_positions, domain_with_positions, domains_with_positions}
use Rattle.ess_repr_laws.specs.Rooms.{HasDummy, Covered, AllCovered}
use Rattle.ess_repr_laws.proofs.FittingCells.{view}
use Rattle.ess_repr_laws.proofs.ListsOfPositions.{with_each, length-with}
use Rattle.ess_repr_laws.proofs.BoundedLists.{items-length}
use Rattle.ess_repr_laws.proofs.MembersOfPositions.{members-with}

-- ---- bounds and axes

-- The members of a domain with positions as a list.
listed : (d : Domain) → member_list (domain_with_positions d) ≡ with_each (member_list d)
listed d = ap list_or_none (members-with d) ∙ go (members d)
  where
    go : (o : Option (List Value)) → list_or_none (option_map with_each o) ≡ with_each (list_or_none o)
    go None = refl
    go (Some vs) = refl

mutual
  -- The bound is the same.
  pub bound-with : (d : Domain) → bound (domain_with_positions d) ≡ bound d
  bound-with booleans = refl
  bound-with (integers ss) = refl
  bound-with (named t n) = ap length (listed (named t n)) ∙ length-with (member_list (named t n)) ∙ items-length t 1 n
  bound-with (tuples ds) = product-with ds
  bound-with (records fs ds) = product-with ds
  bound-with (matrices is d) =
      ap (λ b. suc b ^ product_bound (domains_with_positions is)) (bound-with d) ∙ ap (λ a. suc (bound d) ^ a) (product-with is)
  bound-with (sets ks d) = ap (λ b. 2 ^ b) (bound-with d)
  bound-with (msets ks d) = ap (λ b. suc (occurrences ks) ^ b) (bound-with d)
  bound-with (functions ks d c) =
      ap (λ b. suc b ^ bound (domain_with_positions d)) (bound-with c) ∙ ap (λ a. suc (bound c) ^ a) (bound-with d)
  bound-with (relations ks ds) = ap (λ b. 2 ^ b) (product-with ds)
  bound-with (partitions ks d) = ap (λ b. suc b ^ b) (bound-with d)

  product-with : (ds : Domains) → product_bound (domains_with_positions ds) ≡ product_bound ds
  product-with no_domains = refl
  product-with (more_domains d ds) =
      ap (λ b. b * product_bound (domains_with_positions ds)) (bound-with d) ∙ ap (λ p. bound d * p) (product-with ds)

code-with : (v : Value) → code (with_positions v) ≡ code v
code-with (number n) = refl
code-with (truth b) = refl
code-with (item t k) = refl
code-with (node k vs) = refl

-- The numbers of an axis are the same.
pub codes-with : (d : Domain) → codes_of (domain_with_positions d) ≡ codes_of d
codes-with d = ap (map code) (listed d) ∙ go (member_list d)
  where
    go : (vs : List Value) → map code (with_each vs) ≡ map code vs
    go [] = refl
    go (v ∷ vs) = ap (λ n. n ∷ map code (with_each vs)) (code-with v) ∙ ap (λ l. code v ∷ l) (go vs)

axes-with : (ds : Domains) → map codes_of (domain_list (domains_with_positions ds)) ≡ map codes_of (domain_list ds)
axes-with no_domains = refl
axes-with (more_domains d ds) =
    ap (λ a. a ∷ map codes_of (domain_list (domains_with_positions ds))) (codes-with d) ∙ ap (λ l. codes_of d ∷ l) (axes-with ds)

list-with : (ds : Domains) → domain_list (domains_with_positions ds) ≡ map domain_with_positions (domain_list ds)
list-with no_domains = refl
list-with (more_domains d ds) = ap (λ l. domain_with_positions d ∷ l) (list-with ds)

-- ---- layers

-- Both layers are there, with the same tables and axes, and children with positions.
abbrev Same : Option Layer → Option Layer → Type 0
Same (Some l) (Some m) =
    (m.own ≡ l.own) × (m.children ≡ map domain_with_positions l.children) × (m.axes ≡ l.axes) × (leaves_out m.in_use ≡ leaves_out l.in_use)
Same o q = ⊥

set-slots : (ks : List Attribute) (d : Domain) → slots_of_set ks (domain_with_positions d) ≡ slots_of_set ks d
set-slots ks d = ap (or_default (greatest_size ks)) (bound-with d)

mset-slots : (ks : List Attribute) (d : Domain) → slots_of_mset ks (domain_with_positions d) ≡ slots_of_mset ks d
mset-slots ks d = ap (λ b. or_default (greatest_size ks) (occurrences ks * b)) (bound-with d)

slots-axis : {n m : ℕ} → n ≡ m → one_to n ∷ [] ≡ one_to m ∷ []
slots-axis e = ap (λ k. one_to k ∷ []) e

atom-same : (d : Domain) → IsAtom d → Same (layer ReprKind.Atom d) (layer ReprKind.Atom (domain_with_positions d))
atom-same booleans a = (refl, refl, refl, refl)
atom-same (integers ss) a = (refl, refl, refl, refl)
atom-same (named t n) a = (refl, refl, refl, refl)
atom-same _ a = absurd a

dummy-same : (d : Domain) (ks : List Attribute) → HasDummy d →
    Same (layer ReprKind.ExplicitVarSizeWithDummy (sets ks d)) (layer ReprKind.ExplicitVarSizeWithDummy (sets ks (domain_with_positions d)))
dummy-same (integers ss) ks h = (refl, refl, refl, refl)
dummy-same (named t n) ks h =
    (ap (λ k. widened_table (one_to k ∷ []) (integers (record { low = Some (pos 1); high = Some (pos n) } ∷ record { low = Some (pos n +ℤ pos 1); high = Some (pos n +ℤ pos 1) } ∷ [])) ∷ []) (set-slots ks (named t n)), refl, refl, refl)
dummy-same _ ks h = absurd h

parts-child : (ks : List Attribute) (d : Domain) → child_parts ks (domain_with_positions d) ≡ domain_with_positions (child_parts ks d)
parts-child ks d = ap (λ b. sets (sizes b) (sets inner (domain_with_positions d))) (bound-with d)
  where
    sizes : ℕ → List Attribute
    sizes b = size_attributes (attribute Key.NumParts ks) (attribute Key.MinNumParts ks)
        (if has Key.NumParts ks then attribute Key.MaxNumParts ks else or_else (attribute Key.MaxNumParts ks) (Some b))

    inner : List Attribute
    inner = size_attributes (attribute Key.PartSize ks) (attribute Key.MinPartSize ks) (attribute Key.MaxPartSize ks)

relation-child : (ks : List Attribute) (d c : Domain) →
    child_relation ks (domain_with_positions d) (domain_with_positions c) ≡ domain_with_positions (child_relation ks d c)
relation-child ks d c =
    ap (λ b. relations (sizes b (has Key.Total ks)) (more_domains (domain_with_positions d) (more_domains (domain_with_positions c) no_domains))) (bound-with d)
  where
    sizes : ℕ → Bool → List Attribute
    sizes b total =
        if total then size_attributes (Some b) (attribute Key.MinSize ks) (attribute Key.MaxSize ks)
        else size_attributes (attribute Key.Size ks) (attribute Key.MinSize ks)
        (if has Key.Size ks then attribute Key.MaxSize ks else or_else (attribute Key.MaxSize ks) (Some b))

-- Each kind over its domain.
same : (k : ReprKind) (rs : Reprs) (d : Domain) → Covered (repr k rs) d → Same (layer k d) (layer k (domain_with_positions d))
same ReprKind.Atom no_reprs d h = atom-same d h
same ReprKind.Tuple rs (tuples ds) h = (refl, list-with ds, refl, refl)
same ReprKind.Rec rs (records fs ds) h = (refl, list-with ds, refl, refl)
same ReprKind.Matrix (more_reprs r no_reprs) (matrices is d) h = (refl, refl, axes-with is, refl)
same ReprKind.Occurrence no_reprs (sets ks d) h = (ap (λ a. fixed_table (a ∷ []) booleans ∷ []) (codes-with d), refl, refl, refl)
same ReprKind.Explicit (more_reprs r no_reprs) (sets ks d) h = (refl, refl, slots-axis (set-slots ks d), refl)
same ReprKind.ExplicitVarSizeWithMarker (more_reprs r no_reprs) (sets ks d) h =
    (ap (λ n. fixed_table [] (up_to n) ∷ []) (set-slots ks d), refl, slots-axis (set-slots ks d), refl)
same ReprKind.ExplicitVarSizeWithFlags (more_reprs r no_reprs) (sets ks d) h =
    (ap (λ n. fixed_table (one_to n ∷ []) booleans ∷ []) (set-slots ks d), refl, slots-axis (set-slots ks d), refl)
same ReprKind.ExplicitVarSizeWithDummy no_reprs (sets ks d) h = dummy-same d ks h
same ReprKind.MSetOccurrence no_reprs (msets ks d) h =
    (ap (λ a. fixed_table (a ∷ []) (up_to (occurrences ks)) ∷ []) (codes-with d), refl, refl, refl)
same ReprKind.MSetExplicitWithRepetition (more_reprs r no_reprs) (msets ks d) h =
    (ap (λ n. fixed_table [] (up_to n) ∷ []) (mset-slots ks d), refl, slots-axis (mset-slots ks d), refl)
same ReprKind.MSetExplicitWithFlags (more_reprs r no_reprs) (msets ks d) h =
    (ap (λ n. fixed_table (one_to n ∷ []) (up_to (occurrences ks)) ∷ []) (mset-slots ks d), refl, slots-axis (mset-slots ks d), refl)
same ReprKind.Function1D (more_reprs r no_reprs) (functions ks d c) h = (refl, refl, ap (λ a. a ∷ []) (codes-with d), refl)
same ReprKind.Function1DPartial (more_reprs r no_reprs) (functions ks d c) h =
    (ap (λ a. fixed_table (a ∷ []) booleans ∷ []) (codes-with d), refl, ap (λ a. a ∷ []) (codes-with d), refl)
same ReprKind.FunctionND (more_reprs r no_reprs) (functions ks (tuples ds) c) h = (refl, refl, axes-with ds, refl)
same ReprKind.FunctionNDPartial (more_reprs r no_reprs) (functions ks (tuples ds) c) h =
    (ap (λ a. fixed_table a booleans ∷ []) (axes-with ds), refl, axes-with ds, refl)
same ReprKind.FunctionAsRelation (more_reprs r no_reprs) (functions ks d c) h = (refl, ap (λ x. x ∷ []) (relation-child ks d c), refl, refl)
same ReprKind.RelationAsMatrix no_reprs (relations ks ds) h = (ap (λ a. fixed_table a booleans ∷ []) (axes-with ds), refl, refl, refl)
same ReprKind.RelationAsSet (more_reprs r no_reprs) (relations ks ds) h = (refl, refl, refl, refl)
same ReprKind.PartitionOccurrence no_reprs (partitions ks d) h = (
  ap (λ n. fixed_table [] (up_to n) ∷ widened_table (codes_of (domain_with_positions d) ∷ []) (between (pos 1) (pos n)) ∷ []) (bound-with d)
      ∙ ap (λ a. fixed_table [] (up_to (bound d)) ∷ widened_table (a ∷ []) (between (pos 1) (pos (bound d))) ∷ [])
      (codes-with d),
  refl,
  refl,
  refl,
)
same ReprKind.PartitionAsSet (more_reprs r no_reprs) (partitions ks d) h = (refl, ap (λ x. x ∷ []) (parts-child ks d), refl, refl)
same _ rs d h = absurd h

-- ---- all layers

-- The tables of one layer, given those of its children.
abbrev layer_declared : Bool → Reprs → Option Layer → List Declaration
layer_declared out rs o =
    elim o [ None ↦ [] | Some l ↦ map (declared_own out) l.own ++ declarations_of_children (out || leaves_out l.in_use) rs l.children l.axes ]

layer-same : (out : Bool) (rs : Reprs) (l : Layer) (o : Option Layer) → Same (Some l) o →
    ((b : Bool) (as' : Axes) → declarations_of_children b rs (map domain_with_positions l.children) as' ≡ declarations_of_children b rs l.children as') →
    layer_declared out rs o ≡ layer_declared out rs (Some l)
layer-same out rs l None s ih = absurd s
layer-same out rs l (Some m) s ih =
    ap (λ t. map (declared_own out) t ++ declarations_of_children (out || leaves_out m.in_use) rs m.children m.axes) s.0
    ∙ ap (λ b. map (declared_own out) l.own ++ declarations_of_children (out || b) rs m.children m.axes) s.3
    ∙ ap (λ es. map (declared_own out) l.own ++ declarations_of_children (out || leaves_out l.in_use) rs es m.axes) s.1
    ∙ ap (λ a. map (declared_own out) l.own ++ declarations_of_children (out || leaves_out l.in_use) rs (map domain_with_positions l.children) a) s.2
    ∙ ap (λ t. map (declared_own out) l.own ++ t) (ih (out || leaves_out l.in_use) l.axes)

mutual
  declared-below : (out : Bool) (r : Repr) (d : Domain) → Covered r d →
      declarations_below out r (domain_with_positions d) ≡ declarations_below out r d
  declared-below out (repr k rs) d h =
      let w = view k rs d h in
      layer-same out rs w.l (layer k (domain_with_positions d))
      (subst (λ o. Same o (layer k (domain_with_positions d))) w.at (same k rs d h))
      (λ b as'. children-declared b rs w.l.children as' w.inner)
      ∙ sym (ap (layer_declared out rs) w.at)

  children-declared : (out : Bool) (rs : Reprs) (es : List Domain) (as' : Axes) → AllCovered rs es →
      declarations_of_children out rs (map domain_with_positions es) as' ≡ declarations_of_children out rs es as'
  children-declared out no_reprs [] as' h = refl
  children-declared out no_reprs (e ∷ es) as' h = absurd h
  children-declared out (more_reprs r rs) [] as' h = refl
  children-declared out (more_reprs r rs) (e ∷ es) as' h =
      ap (λ t. under as' t ++ declarations_of_children out rs (map domain_with_positions es) as') (declared-below out r e h.0)
      ∙ ap (λ t. under as' (declarations_below out r e) ++ t) (children-declared out rs es as' h.1)

-- The declared tables are the same.
pub declared-with : (r : Repr) (d : Domain) → Covered r d → declarations r (domain_with_positions d) ≡ declarations r d
declared-with r d h = declared-below false r d h

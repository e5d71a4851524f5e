-- Laws of canonical tables, each stated at a function that does nothing, so that its proof is checked with the code.
use Rattle.std.specs.Prelude.{◌≡◌, ℕ, ◌<◌, true, false, List, [], ◌∷◌, length, drop, Option, Some}
use Rattle.ess_semantics.specs.declared.words.ReprKind.{ReprKind}
use Rattle.ess_semantics.specs.Lists.{and_then, each_of}
use Rattle.ess_semantics.specs.Values.{Text, Value, truth}
use Rattle.ess_semantics.specs.Order.{same_text}
use Rattle.ess_semantics.specs.Trees.{Repr, repr, no_reprs, more_reprs, no_exs, Dom, Stm}
use Rattle.ess_semantics.specs.Domains.{Domain}
use Rattle.ess_semantics.specs.Membership.{member}
use Rattle.ess_semantics.specs.Tables.{Tables}
use Rattle.ess_semantics.specs.Cells.{cells_of}
use Rattle.ess_semantics.specs.Kinds.{fits}
use Rattle.ess_semantics.specs.Representations.{layer, width, own_width, value_of_cells, value_of_tables}
use Rattle.ess_semantics.specs.Declarations.{declarations, axes_of}
use Rattle.ess_semantics.specs.Canonical.{tables_of_value}
use Rattle.ess_semantics.specs.CanonicalTest.{canonical}
use Rattle.ess_semantics.specs.Tidy.{over_axes}
use Rattle.ess_semantics.specs.Layers.{Layer}
use Rattle.ess_semantics.specs.OneLayer.{inner_values, layer_tables, inner_tables, layer_value}
use Rattle.ess_semantics.specs.Meaning.{Env, meaning, domain_of, is_bool_dom}
use Rattle.ess_semantics.specs.Positions.{with_positions, domain_with_positions, with_types}
use Rattle.ess_semantics.specs.Scopes.{Scope}
use Rattle.ess_semantics.specs.DomainJudgements.{is_finite, is_enumerable, needs_known_slots}
use Rattle.ess_semantics.specs.Judgements.{ill_typed, not_finite, not_enumerable, open_given, domain_in, found_domain, given_domain, meets}
use Rattle.ess_semantics.specs.Plans.{plan_domain, stands_for_member, value_with_types}
use Rattle.ess_repr_laws.specs.Channel.{Seen, SaysSame}
use Rattle.ess_repr_laws.specs.Finite.{Enumerated, Bounded, Finite, Enumerable}
use Rattle.ess_repr_laws.specs.Rooms.{Covered, Roomy}
use Rattle.ess_repr_laws.specs.WellFormed.{Well}
use Rattle.ess_repr_laws.specs.TypedDomains.{OneType, SameOrder, Typed, has_plain_relations}
use Rattle.ess_repr_laws.specs.CanonicalTables.{TablesFit, Right, OneForm, is_compound}
use Rattle.ess_repr_laws.specs.StructureParts.{Terms}
use Rattle.ess_repr_laws.specs.Structure.{shapes, structure}
use Rattle.ess_repr_laws.specs.StructureMeaning.{Bound, M, FoundBy, Placed, axes_members}
use Rattle.ess_repr_laws.specs.StructureReady.{Ready}

-- The representation is one for the domain expression, which is well formed and needs slots of a known number.
pub record Fitting (r : Repr) (d : Dom) : Type 0 where
  pub well : Well d
  pub known : needs_known_slots d ≡ true
  pub fit : fits r d ≡ true

-- Each member of a domain has exactly one list of canonical tables, where the representation has room. It has room where it
-- fits the expression: for the members of the domain that the expression denotes, and for those of a plan's domain.
pub record MembersHaveCanonicalTables : Type 0 where
  pub room : (r : Repr) (d : Dom) (env : Env) (e : Domain) → Fitting r d → domain_of d env ≡ Some e → Roomy r e
  pub plan_room : (r : Repr) (d : Dom) (env : Env) (e : Domain) → Fitting r d → plan_domain d env ≡ Some e → Roomy r e
  pub one_form : (r : Repr) (e : Domain) → Roomy r e → (v : Value) → member e v ≡ true → OneForm r e v

-- A domain that is judged to be well typed, with enumerable domains where members are listed, is well formed. A find's and a
-- given's needs slots of a known number.
pub record JudgedDomainsAreWell : Type 0 where
  pub well : (w t : Stm) (s : Scope) (d : Dom) → domain_in t ≡ Some d → meets ill_typed w t s ≡ true → meets not_enumerable w t s ≡ true →
      Well d
  pub found : (w t : Stm) (s : Scope) (d : Dom) → found_domain t ≡ Some d → meets not_finite w t s ≡ true → needs_known_slots d ≡ true
  pub given : (w t : Stm) (s : Scope) (d : Dom) → given_domain t ≡ Some d → meets open_given w t s ≡ true → needs_known_slots d ≡ true

-- Of the tables over the declared axes whose cells are canonical at most one list stands for a value.
abbrev pub CanonicalTablesAreOne : Type 0
CanonicalTablesAreOne =
    (r : Repr) (e : Domain) → Covered r e → (ts ts' : Tables) → over_axes [] (axes_of r e) ts ≡ true → over_axes []
    (axes_of r e) ts' ≡ true →
    canonical r e (cells_of ts) ≡ true → canonical r e (cells_of ts') ≡ true → value_of_cells r e (cells_of ts) ≡ value_of_cells r e
    (cells_of ts') →
    ts ≡ ts'

-- Canonical cells stand for a value, are one for each value, and are tidy. For this no room is needed.
pub record CanonicalCellsAreRight : Type 0 where
  pub covered : (r : Repr) (e : Domain) → Roomy r e → Covered r e
  pub right : (r : Repr) (e : Domain) → Covered r e → Right r e

-- The bound of a finite domain is right, and the members of an enumerable one are listed. A finite or enumerable expression
-- denotes such a domain.
pub record BoundsAreRight : Type 0 where
  pub bounded : (e : Domain) → Finite e → Bounded e
  pub listed : (e : Domain) → Enumerable e → Enumerated e
  pub finite : (d : Dom) (env : Env) (e : Domain) → Well d → is_finite d ≡ true → domain_of d env ≡ Some e → Finite e
  pub enumerable : (d : Dom) (env : Env) (e : Domain) → Well d → is_enumerable d ≡ true → domain_of d env ≡ Some e → Enumerable e

-- Positions stand for the values of named types: the members of the domain with positions are exactly the values with positions
-- of members, each of one member alone, whose types come back. Members of domains of one type stand in the same order. So in
-- a typed domain; what a well-formed expression denotes is one where no relation asks anything of pairs.
pub record PositionsStandForTypes : Type 0 where
  pub typed : (d : Dom) (env : Env) (e : Domain) → Well d → domain_of d env ≡ Some e → has_plain_relations e ≡ true → Typed e
  pub members : (e : Domain) → Typed e → (v : Value) → member e v ≡ true → member (domain_with_positions e) (with_positions v) ≡ true
  pub each_is_one : (e : Domain) → Typed e → (w : Value) → member (domain_with_positions e) w ≡ true →
      (v : Value) × (member e v ≡ true) × (with_positions v ≡ w)
  pub types_back : (e : Domain) → Typed e → (v : Value) → member e v ≡ true → with_types e (with_positions v) ≡ Some v
  pub one_to_one : (e : Domain) → Typed e → (v w : Value) → member e v ≡ true → member e w ≡ true → with_positions v ≡ with_positions w →
      v ≡ w
  pub same_order : (d e : Domain) → OneType d e → SameOrder d e

-- A representation declares the same tables for a plan's domain and for the domain with types. Tables that stand for a member of
-- a plan's domain stand for a member of the domain with types, which comes back from them. The canonical tables of a member
-- stand for it.
pub record PlansStandForMembers : Type 0 where
  pub declared : (r : Repr) (e : Domain) → Covered r e → declarations r (domain_with_positions e) ≡ declarations r e
  pub stands : (r : Repr) (e : Domain) → Typed e → (ts : Tables) (w : Value) → value_of_tables r (domain_with_positions e) ts [] ≡ Some w →
      member (domain_with_positions e) w ≡ true → (v : Value) × (stands_for_member r e ts v ≡ true)
  pub comes_back : (r : Repr) (e : Domain) → Typed e → (ts : Tables) (v : Value) → stands_for_member r e ts v ≡ true →
      value_with_types r e ts ≡ Some v
  pub canonical : (r : Repr) (e : Domain) → Typed e → Roomy r (domain_with_positions e) → (v : Value) → member e v ≡ true → (ts : Tables) →
      tables_of_value r (domain_with_positions e) (with_positions v) ≡ Some ts → stands_for_member r e ts v ≡ true

-- One layer with one child, which is none of components. Down: the canonical tables of a member are the layer's, made of those of
-- its inner values, which stand under a child with room. Up: the value that tables stand for is the layer's, made of the values
-- of the slots in use.
pub record LayersAreComposed : Type 0 where
  pub room : (k : ReprKind) (r : Repr) (d e : Domain) (l : Layer) → is_compound k ≡ false → Roomy (repr k (more_reprs r no_reprs)) d →
      layer k d ≡ Some l → l.children ≡ e ∷ [] → Roomy r e
  pub down : (k : ReprKind) (r : Repr) (d e : Domain) (l : Layer) (v : Value) (vs : List (Option Value)) (tss : List Tables) →
      is_compound k ≡ false → Roomy (repr k (more_reprs r no_reprs)) d → Roomy r e → member d v ≡ true →
      layer k d ≡ Some l → l.children ≡ e ∷ [] → l.contents v ≡ vs ∷ [] → each_of (inner_values l v) (tables_of_value r e) ≡ Some tss →
      layer_tables (repr k (more_reprs r no_reprs)) d v tss ≡ tables_of_value (repr k (more_reprs r no_reprs)) d v
  pub up : (k : ReprKind) (r : Repr) (d e : Domain) (l : Layer) (ts : Tables) →
      layer k d ≡ Some l → l.children ≡ e ∷ [] → length (drop (own_width k) ts) ≡ width r →
      value_of_tables (repr k (more_reprs r no_reprs)) d ts [] ≡
      and_then (inner_tables k d ts) (λ tss. and_then (each_of tss (λ t. value_of_tables r e t [])) (layer_value k d ts))

-- The structure constraint of a view, over tables on the declared axes with items in the declared domains, means that the cells
-- are canonical. So for atoms, tuples, records and matrices; for sets kept as the members that occur, or in slots that are all in
-- use, up to a marker, with flags, or with a dummy; for multisets by how often each member occurs, or in slots with these numbers
-- or up to a marker; for functions with a value or a flag and a value for each argument, or as relations; for relations as
-- matrices or as sets; and for partitions as sets or by the number of each member's part; with all attributes, in any nesting. So for
-- every kind.
abbrev pub StructuresMeanCanonical : Type 0
StructuresMeanCanonical =
    (env0 : Env) (q : ℕ → Text) (apart : (m l : ℕ) → l < m → same_text (q m) (q l) ≡ false) (terms : Terms) →
    (r : Repr) (d : Dom) (e : Domain) → Ready env0 q apart terms r d e → (ns : List Text) (ts : Tables) (l : ℕ)
    (bs : Bound env0 q apart) →
    length ts ≡ width r → Placed env0 q apart (shapes q terms r d ns) (axes_members r e) ts → over_axes [] (axes_of r e) ts ≡ true →
    TablesFit (declarations r e) ts → meaning (structure q terms r d ns l no_exs) (M env0 q apart bs) ≡ Some
    (truth (canonical r e (cells_of ts)))

-- A view has as many shapes as tables, and tables that are found by their names are those of the shapes.
pub record ShapesAreOfTables : Type 0 where
  pub long : (env0 : Env) (q : ℕ → Text) (apart : (m l : ℕ) → l < m → same_text (q m) (q l) ≡ false) (terms : Terms) →
      (r : Repr) (d : Dom) (e : Domain) → Ready env0 q apart terms r d e → (ns : List Text) → length (shapes q terms r d ns) ≡ width r
  pub placed : (env0 : Env) (q : ℕ → Text) (apart : (m l : ℕ) → l < m → same_text (q m) (q l) ≡ false) (terms : Terms) →
      (r : Repr) (d : Dom) (e : Domain) → Ready env0 q apart terms r d e → (ns : List Text) (ts : Tables) → length ns ≡ width r →
      FoundBy env0 q apart ns ts → Placed env0 q apart (shapes q terms r d ns) (axes_members r e) ts

-- Two views of a domain, by their representations and tables: their channel says that they stand for one value. So of each domain but bool.
abbrev pub ChannelsSaySame : Type 0
ChannelsSaySame =
    (env : Env) (d : Dom) (e : Domain) (r s : Repr) (ns ms : List Text) (ts us : Tables) → is_bool_dom d ≡ false →
    Seen env d e ns ts → Seen env d e ms us → SaysSame env d e r s ns ms ts us

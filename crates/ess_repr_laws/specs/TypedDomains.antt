-- What the closed domains of well-typed expressions have: index domains are atoms, and attributes of pairs are asked of
-- relations between values of one type.
use Rattle.std.specs.Prelude.{◌≡◌, Bool, true, false, ◌&&◌, not}
use Rattle.std.specs.List.{list_any}
use Rattle.ess_semantics.specs.Domains.{Attribute, numbered, flagged, Domain, Domains, booleans, integers, named, tuples, records, matrices, sets, msets, functions, relations, partitions, no_domains, more_domains}
use Rattle.ess_semantics.specs.Values.{Value}
use Rattle.ess_semantics.specs.Order.{order}
use Rattle.ess_semantics.specs.Membership.{member}
use Rattle.ess_semantics.specs.Atoms.{AreAtoms}
use Rattle.ess_semantics.specs.Positions.{with_positions}

abbrev mutual
  -- The values of both domains have one type: ranges and attributes may differ, and numbers of values.
  pub OneType : Domain → Domain → Type 0
  OneType booleans booleans = Unit {0}
  OneType (integers ss) (integers rs) = Unit {0}
  OneType (named t n) (named u m) = t ≡ u
  OneType (tuples ds) (tuples es) = AllOneType ds es
  OneType (records fs ds) (records gs es) = AllOneType ds es
  OneType (matrices is d) (matrices js e) = AreAtoms is × AreAtoms js × AllOneType is js × OneType d e
  OneType (sets ks d) (sets ls e) = OneType d e
  OneType (msets ks d) (msets ls e) = OneType d e
  OneType (functions ks d c) (functions ls e f) = OneType d e × OneType c f
  OneType (relations ks ds) (relations ls es) = AllOneType ds es
  OneType (partitions ks d) (partitions ls e) = OneType d e
  OneType _ e = ⊥

  -- So do those of the domains of both lists, one by one.
  pub AllOneType : Domains → Domains → Type 0
  AllOneType no_domains no_domains = Unit {0}
  AllOneType (more_domains d ds) (more_domains e es) = OneType d e × AllOneType ds es
  AllOneType _ es = ⊥

-- Whether the attribute stands without a number.
abbrev pub is_unnumbered : Attribute → Bool
is_unnumbered (flagged k) = true
is_unnumbered (numbered k n) = false

-- Members of both domains stand in the order of their values with positions. Where the domains have one type, they do.
abbrev pub SameOrder : Domain → Domain → Type 0
SameOrder d e = (v w : Value) → member d v ≡ true → member e w ≡ true → order (with_positions v) (with_positions w) ≡ order v w

-- There are two components, whose members stand so among one another.
abbrev pub ArePairs : Domains → Type 0
ArePairs (more_domains d (more_domains e no_domains)) = SameOrder d e × SameOrder e d
ArePairs ds = ⊥

abbrev mutual
  -- Index domains are atoms, and attributes without a number stand at relations of such pairs alone.
  pub Typed : Domain → Type 0
  Typed (tuples ds) = AllTyped ds
  Typed (records fs ds) = AllTyped ds
  Typed (matrices is d) = AreAtoms is × Typed d
  Typed (sets ks d) = Typed d
  Typed (msets ks d) = Typed d
  Typed (functions ks d c) = Typed d × Typed c
  Typed (relations ks ds) = (list_any is_unnumbered ks ≡ true → ArePairs ds) × AllTyped ds
  Typed (partitions ks d) = Typed d
  Typed d = Unit {0}

  -- The same of several domains.
  pub AllTyped : Domains → Type 0
  AllTyped no_domains = Unit {0}
  AllTyped (more_domains d ds) = Typed d × AllTyped ds

abbrev mutual
  -- No relation has an attribute without a number.
  pub has_plain_relations : Domain → Bool
  has_plain_relations (tuples ds) = have_plain_relations ds
  has_plain_relations (records fs ds) = have_plain_relations ds
  has_plain_relations (matrices is d) = has_plain_relations d
  has_plain_relations (sets ks d) = has_plain_relations d
  has_plain_relations (msets ks d) = has_plain_relations d
  has_plain_relations (functions ks d c) = has_plain_relations d && has_plain_relations c
  has_plain_relations (relations ks ds) = not (list_any is_unnumbered ks) && have_plain_relations ds
  has_plain_relations (partitions ks d) = has_plain_relations d
  has_plain_relations d = true

  -- The same of several domains.
  pub have_plain_relations : Domains → Bool
  have_plain_relations no_domains = true
  have_plain_relations (more_domains d ds) = has_plain_relations d && have_plain_relations ds

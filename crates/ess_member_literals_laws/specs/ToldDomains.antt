-- Domains whose members have literals: those of the grammar, where no record has a field twice. And names of values of named
-- types.
use Rattle.std.specs.Prelude.{◌≡◌, ℕ, Bool, true, ◌&&◌, List, Some, nat_le}
use Rattle.ess_semantics.specs.Values.{Text, item}
use Rattle.ess_semantics.specs.Names.{all_distinct}
use Rattle.ess_semantics.specs.Trees.{Dom, Doms, tuple_dom, record_dom, matrix_dom, set_dom, mset_dom, function_dom, relation_dom, partition_dom, no_doms, more_doms}
use Rattle.ess_semantics.specs.Meaning.{TypeEntry, type_entry}
use Rattle.ess_semantics.specs.Literals.{item_of_name}
use Rattle.ess_grammar.specs.Readable.{are_name_tokens, names_rise, some_doms, fit_domains}
use Rattle.ess_types_laws.specs.ProperDomains.{each_is_atom}

-- Whether these are the fields of a record: name tokens in order, none twice, one for each component.
abbrev pub are_fields : List Text → Doms → Bool
are_fields fs ds = some_doms ds && are_name_tokens fs && fit_domains fs ds && names_rise fs && all_distinct fs

abbrev mutual
  -- Tuples, records and relations have components, records have their fields, and index domains are atoms.
  pub IsTold : Dom → Type 0
  IsTold (tuple_dom ds) = (some_doms ds ≡ true) × AreTold ds
  IsTold (record_dom fs ds) = (are_fields fs ds ≡ true) × AreTold ds
  IsTold (matrix_dom is d) = (each_is_atom is ≡ true) × IsTold d
  IsTold (set_dom ms es d) = IsTold d
  IsTold (mset_dom ms es d) = IsTold d
  IsTold (function_dom ms es d c) = IsTold d × IsTold c
  IsTold (relation_dom ms es ds) = (some_doms ds ≡ true) × AreTold ds
  IsTold (partition_dom ms es d) = IsTold d
  IsTold d = Unit {0}

  -- The same of several domains.
  pub AreTold : Doms → Type 0
  AreTold no_doms = Unit {0}
  AreTold (more_doms d ds) = IsTold d × AreTold ds

-- The names are those of the values of these types: each is read as its value.
abbrev pub NamesItems : (Text → ℕ → Text) → List TypeEntry → Type 0
NamesItems name_of ts = (t : Text) (e : TypeEntry) (k : ℕ) → type_entry ts t ≡ Some e → nat_le 1 k ≡ true → nat_le k e.count ≡ true →
    item_of_name ts (name_of t k) ≡ Some (item t k)

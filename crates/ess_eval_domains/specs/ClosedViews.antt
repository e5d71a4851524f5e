-- The pure domain that a closed domain stands for.
use Rattle.std.specs.Prelude.{List, [], ◌∷◌, map}
use Rattle.ess_semantics.specs.Values.{Text}
use Rattle.ess_semantics.specs.Names.{Names, keys}
use Rattle.ess_semantics.specs.Domains as pure
use Rattle.ess_semantics.specs.Domains.{numbered, flagged, Domain, Domains, booleans, integers, named, tuples, records, matrices, sets, msets, functions, relations, partitions, no_domains, more_domains}
use Rattle.ess_eval_domains.specs.declared.closed.Span.{Span}
use Rattle.ess_eval_domains.specs.declared.closed.Attribute.{Attribute}
use Rattle.ess_eval_domains.specs.declared.closed.Attribute.TheVariants.{Numbered, Flagged}
use Rattle.ess_eval_domains.specs.declared.closed.Closed.{Closed}
use Rattle.ess_eval_domains.specs.declared.closed.FieldClosed.{FieldClosed}
use Rattle.ess_eval_domains.specs.declared.closed.Closed.TheOpen.{Closed-F, FieldClosed-F}
use Rattle.ess_eval_domains.specs.declared.closed.Closed.TheFolds.{fold-Closed, fold-FieldClosed}

-- The pure range of a range.
abbrev pub pure_span : Span → pure.Span
pure_span s = record { low = s.low; high = s.high }

-- The pure attribute of an attribute.
abbrev pub pure_attribute : Attribute → pure.Attribute
pure_attribute (Numbered k n) = numbered k n
pure_attribute (Flagged k) = flagged k

-- The pure attributes of several attributes.
abbrev pub pure_attributes : List Attribute → List pure.Attribute
pure_attributes ks = map pure_attribute ks

-- Several domains.
abbrev pub domains_of : List Domain → Domains
domains_of [] = no_domains
domains_of (d ∷ ds) = more_domains d (domains_of ds)

-- Records by their fields.
abbrev pub record_domain : Names Domain → Domain
record_domain fs = records (keys fs) (domains_of (map (λ f. f.1) fs))

-- A domain, with the pure domains of its parts in their places.
abbrev pub closed_step : Closed-F Domain (Text × Domain) → Domain
closed_step Closed-F.Bool = booleans
closed_step (Closed-F.Int ss) = integers (map pure_span ss)
closed_step (Closed-F.Named t n) = named t n
closed_step (Closed-F.Tuple ds) = tuples (domains_of ds)
closed_step (Closed-F.Rec fs) = record_domain fs
closed_step (Closed-F.Matrix is d) = matrices (domains_of is) d
closed_step (Closed-F.Set ks d) = sets (pure_attributes ks) d
closed_step (Closed-F.MSet ks d) = msets (pure_attributes ks) d
closed_step (Closed-F.Function ks d c) = functions (pure_attributes ks) d c
closed_step (Closed-F.Relation ks ds) = relations (pure_attributes ks) (domains_of ds)
closed_step (Closed-F.Partition ks d) = partitions (pure_attributes ks) d

-- A field with its name.
abbrev pub field_closed_step : FieldClosed-F Domain (Text × Domain) → Text × Domain
field_closed_step f = (f.name, f.domain)

-- The pure domain of a closed domain.
abbrev pub pure_closed : Closed → Domain
pure_closed = fold-Closed Domain (Text × Domain) closed_step field_closed_step

-- The pure field of a field.
abbrev pub pure_field_closed : FieldClosed → Text × Domain
pure_field_closed = fold-FieldClosed Domain (Text × Domain) closed_step field_closed_step

-- The pure domains of several domains.
abbrev pub pure_closeds : List Closed → Domains
pure_closeds ds = domains_of (map pure_closed ds)

-- Of domains with a representation: what they denote, and that slots have a size where all are in use.
use Rattle.std.proofs.Common.{◌≡◌, refl, ℕ, Bool, true, false, ◌||◌, if◌then◌else◌, List, ◌⊎◌, inl, inr, Option, Some, None}
use Rattle.ess_semantics.specs.declared.words.Key.{Key}
use Rattle.ess_semantics.specs.Lists.{or_else}
use Rattle.ess_semantics.specs.Trees.{Repr, Mark, Exs, Dom, set_dom}
use Rattle.ess_semantics.specs.Domains.{same_key, attribute}
use Rattle.ess_semantics.specs.Kinds.{has_key}
use Rattle.ess_semantics.specs.Membership.{no_negative_attribute}
use Rattle.ess_semantics.specs.Sizes.{greatest_size}
use Rattle.ess_semantics.specs.Meaning.{Env, domain_of}
use Rattle.ess_nested_laws.proofs.NestedForms.{no-yes, Sizes, no_sizes, one_size, WrittenAtom, written_numbers, NestedSet, of_atoms, of_sets, KeptAs, as_atom, by_occurrence, with_a_dummy, in_slots, with_a_marker, with_flags}
use Rattle.ess_nested_laws.proofs.NestedDenoted.{written_attributes, written_domain, atom-denoted, nested-denoted, atom-natural, nested-natural}

-- Sets of such are nested sets.
pub sets-of : {ms : List Mark} {es : Exs} {d : Dom} → Sizes ms es → WrittenAtom d ⊎ NestedSet d → NestedSet (set_dom ms es d)
sets-of s (inl a) = of_atoms s a
sets-of s (inr n) = of_sets s n

-- It is one of atoms, or of nested sets.
pub kept-inside : {r : Repr} {d : Dom} → KeptAs r d → WrittenAtom d ⊎ NestedSet d
kept-inside (as_atom a) = inl a
kept-inside (by_occurrence s a) = inr (of_atoms s a)
kept-inside (with_a_dummy s) = inr (of_atoms s written_numbers)
kept-inside (in_slots s k w) = inr (sets-of s (kept-inside w))
kept-inside (with_a_marker s w) = inr (sets-of s (kept-inside w))
kept-inside (with_flags s w) = inr (sets-of s (kept-inside w))

pub kept-denoted : {r : Repr} {d : Dom} → KeptAs r d → (env : Env) → domain_of d env ≡ Some (written_domain d)
kept-denoted {d = d} w env = go (kept-inside w)
  where
    go : WrittenAtom d ⊎ NestedSet d → domain_of d env ≡ Some (written_domain d)
    go (inl a) = atom-denoted a env
    go (inr n) = nested-denoted n env

pub kept-natural : {r : Repr} {d : Dom} → KeptAs r d → no_negative_attribute (written_domain d) ≡ true
kept-natural {d = d} w = go (kept-inside w)
  where
    go : WrittenAtom d ⊎ NestedSet d → no_negative_attribute (written_domain d) ≡ true
    go (inl a) = atom-natural a
    go (inr n) = nested-natural n

size-there : {ms : List Mark} {es : Exs} → Sizes ms es → has_key Key.Size ms ≡ true →
    attribute Key.Size (written_attributes ms es) ≡ None → ⊥
size-there no_sizes h e = no-yes h
size-there (one_size {k = k} {n = n} {ms = ms} {es = es} q s) h e = go (same_key Key.Size k) h e (size-there s)
  where
    go : (b : Bool) → b || has_key Key.Size ms ≡ true →
        (if b then Some n else attribute Key.Size (written_attributes ms es)) ≡ None →
        (has_key Key.Size ms ≡ true → attribute Key.Size (written_attributes ms es) ≡ None → ⊥) → ⊥
    go true h e f = cc
    go false h e f = f h e

-- With a size the number of slots is written.
pub slots-written : {ms : List Mark} {es : Exs} → Sizes ms es → has_key Key.Size ms ≡ true →
    greatest_size (written_attributes ms es) ≡ None → ⊥
slots-written {ms = ms} {es = es} s h e = size-there s h (first (attribute Key.Size (written_attributes ms es)) e)
  where
    first : (o : Option ℕ) → or_else o (attribute Key.MaxSize (written_attributes ms es)) ≡ None → o ≡ None
    first None e = refl
    first (Some n) e = e

-- A domain of nested sets denotes the same closed domain in each env, in which nothing is named and no attribute is below 0. It is well
-- formed and typed.
use Rattle.std.proofs.Common.{◌≡◌, refl, ap, ◌∙◌, ℕ, true, List, [], ◌∷◌, pos, Some, option_map, int_le, arith}
use Rattle.std.proofs.lemmas.Bool.{le-leb}
use Rattle.std.specs.List.{list_all}
use Rattle.ess_semantics.specs.declared.words.Key.{Key}
use Rattle.ess_semantics.specs.Lists.{and_then}
use Rattle.ess_semantics.specs.Trees.{Repr, both_ends, Mark, valued, Exs, number_ex, no_exs, more_exs, Dom, int_dom, set_dom}
use Rattle.ess_semantics.specs.Domains.{Attribute, numbered, Domain, booleans, sets, between}
use Rattle.ess_semantics.specs.Attributes.{each_number_holds}
use Rattle.ess_semantics.specs.Membership.{no_negative_attribute}
use Rattle.ess_semantics.specs.Kinds.{fits}
use Rattle.ess_semantics.specs.DomainJudgements.{is_finite, needs_known_slots}
use Rattle.ess_semantics.specs.Meaning.{Env, meanings, attributes_of, domain_of}
use Rattle.ess_semantics.specs.Positions.{domain_with_positions}
use Rattle.ess_semantics.proofs.Tests.{and-both}
use Rattle.ess_repr_laws.specs.WellFormed.{is_numbered, is_right, Well}
use Rattle.ess_repr_laws.specs.TypedDomains.{Typed}
use Rattle.ess_repr_laws.specs.Laws.{Fitting}
use Rattle.ess_repr_declare_laws.specs.Laws.{are_numbered, Sound}
use Rattle.ess_nested_laws.specs.NestedDomains.{is_size_key}
use Rattle.ess_nested_laws.proofs.NestedForms.{no-yes, Sizes, no_sizes, one_size, WrittenAtom, written_truths, written_numbers, NestedSet, of_atoms, of_sets}

-- ---- the closed domain

-- The attributes that are written.
abbrev pub written_attributes : List Mark → Exs → List Attribute
written_attributes (valued k ∷ ms) (more_exs (number_ex n) es) = numbered k n ∷ written_attributes ms es
written_attributes ms es = []

-- The domain that such a domain denotes.
abbrev pub written_domain : Dom → Domain
written_domain (int_dom (both_ends ∷ []) (more_exs (number_ex a) (more_exs (number_ex b) no_exs))) = between a b
written_domain (set_dom ms es d) = sets (written_attributes ms es) (written_domain d)
written_domain d = booleans

-- It has these attributes in each env.
pub sizes-denoted : {ms : List Mark} {es : Exs} → Sizes ms es → (env : Env) →
    attributes_of ms (meanings es env) ≡ Some (written_attributes ms es)
sizes-denoted no_sizes env = refl
sizes-denoted (one_size {k = k} {n = n} h s) env = ap (option_map (λ ks. numbered k (pos n) ∷ ks)) (sizes-denoted s env)

-- So do atoms.
pub atom-denoted : {d : Dom} → WrittenAtom d → (env : Env) → domain_of d env ≡ Some (written_domain d)
atom-denoted written_truths env = refl
atom-denoted written_numbers env = refl

set-of : {ms : List Mark} {es : Exs} (d : Dom) → Sizes ms es → (env : Env) → domain_of d env ≡ Some (written_domain d) →
    domain_of (set_dom ms es d) env ≡ Some (written_domain (set_dom ms es d))
set-of {ms = ms} {es = es} d s env e =
    ap (λ z. and_then z (λ ks. option_map (sets ks) (domain_of d env))) (sizes-denoted s env)
    ∙ ap (option_map (sets (written_attributes ms es))) e

-- The domain denotes it in each env.
pub nested-denoted : {d : Dom} → NestedSet d → (env : Env) → domain_of d env ≡ Some (written_domain d)
nested-denoted (of_atoms {d = d} s a) env = set-of d s env (atom-denoted a env)
nested-denoted (of_sets {d = d} s n) env = set-of d s env (nested-denoted n env)

-- ---- of the closed domain

pub atom-placed : {d : Dom} → WrittenAtom d → domain_with_positions (written_domain d) ≡ written_domain d
atom-placed written_truths = refl
atom-placed written_numbers = refl

-- Nothing is named in it.
pub nested-placed : {d : Dom} → NestedSet d → domain_with_positions (written_domain d) ≡ written_domain d
nested-placed (of_atoms {ms = ms} {es = es} s a) = ap (sets (written_attributes ms es)) (atom-placed a)
nested-placed (of_sets {ms = ms} {es = es} s n) = ap (sets (written_attributes ms es)) (nested-placed n)

low : (n : ℕ) → int_le (pos 0) (pos n) ≡ true
low n = le-leb 0 n (omega arith)

sizes-natural : {ms : List Mark} {es : Exs} → Sizes ms es → each_number_holds (written_attributes ms es) (λ k n. int_le (pos 0) n) ≡ true
sizes-natural no_sizes = refl
sizes-natural (one_size {n = n} {ms = ms} {es = es} h s) =
    and-both (int_le (pos 0) (pos n)) (each_number_holds (written_attributes ms es) (λ k n. int_le (pos 0) n)) (low n) (sizes-natural s)

pub atom-natural : {d : Dom} → WrittenAtom d → no_negative_attribute (written_domain d) ≡ true
atom-natural written_truths = refl
atom-natural written_numbers = refl

-- No attribute is below 0.
pub nested-natural : {d : Dom} → NestedSet d → no_negative_attribute (written_domain d) ≡ true
nested-natural (of_atoms {ms = ms} {es = es} {d = d} s a) =
    and-both (each_number_holds (written_attributes ms es) (λ k n. int_le (pos 0) n)) (no_negative_attribute (written_domain d))
    (sizes-natural s) (atom-natural a)
nested-natural (of_sets {ms = ms} {es = es} {d = d} s n) =
    and-both (each_number_holds (written_attributes ms es) (λ k n. int_le (pos 0) n)) (no_negative_attribute (written_domain d))
    (sizes-natural s) (nested-natural n)

pub atom-typed : {d : Dom} → WrittenAtom d → Typed (written_domain d)
atom-typed written_truths = tt
atom-typed written_numbers = tt

-- It is typed.
pub nested-typed : {d : Dom} → NestedSet d → Typed (written_domain d)
nested-typed (of_atoms s a) = atom-typed a
nested-typed (of_sets s n) = nested-typed n

-- ---- of the tree

size-right : (k : Key) → is_size_key k ≡ true → is_numbered k ≡ true
size-right Key.Size h = refl
size-right Key.MinSize h = refl
size-right Key.MaxSize h = refl
size-right k h = absurd (no-yes h)

sizes-right : {ms : List Mark} {es : Exs} → Sizes ms es → list_all is_right ms ≡ true
sizes-right no_sizes = refl
sizes-right (one_size {k = k} {ms = ms} h s) = and-both (is_numbered k) (list_all is_right ms) (size-right k h) (sizes-right s)

sizes-numbered : {ms : List Mark} {es : Exs} → Sizes ms es → are_numbered ms es ≡ true
sizes-numbered no_sizes = refl
sizes-numbered (one_size h s) = sizes-numbered s

pub atom-sound : {d : Dom} → WrittenAtom d → Sound d
atom-sound written_truths = tt
atom-sound written_numbers = tt

-- The tree is sound, with a number for each attribute.
pub nested-sound : {d : Dom} → NestedSet d → Sound d
nested-sound (of_atoms s a) = (sizes-right s, sizes-numbered s, atom-sound a)
nested-sound (of_sets s n) = (sizes-right s, sizes-numbered s, nested-sound n)

pub atom-well : {d : Dom} → WrittenAtom d → Well d
atom-well written_truths = tt
atom-well written_numbers = tt

-- It is well formed.
pub nested-well : {d : Dom} → NestedSet d → Well d
nested-well (of_atoms s a) = (sizes-right s, atom-well a)
nested-well (of_sets s n) = (sizes-right s, nested-well n)

atom-finite : {d : Dom} → WrittenAtom d → is_finite d ≡ true
atom-finite written_truths = refl
atom-finite written_numbers = refl

nested-finite : {d : Dom} → NestedSet d → is_finite d ≡ true
nested-finite (of_atoms s a) = atom-finite a
nested-finite (of_sets s n) = nested-finite n

-- A representation that fits is fitting.
pub nested-fitting : {d : Dom} → NestedSet d → (r : Repr) → fits r d ≡ true → Fitting r d
nested-fitting n r h = record { well = nested-well n; known = known n; fit = h }
  where
    known : {d : Dom} → NestedSet d → needs_known_slots d ≡ true
    known (of_atoms s a) = nested-finite (of_atoms s a)
    known (of_sets s n) = nested-finite (of_sets s n)

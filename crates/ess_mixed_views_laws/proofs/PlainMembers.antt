-- Members of nested sets over numbers and truth values are their own values with positions, and the domains of such sets meet all that is
-- asked of them.
use Rattle.std.proofs.Common.{◌≡◌, refl, ap, ◌∙◌, Bool, true, false, ◌&&◌, List, [], ◌∷◌, length, pos, Some}
use Rattle.std.specs.List.{list_all}
use Rattle.ess_semantics.specs.Values.{Value, Values, node, nil, cons, a_set, to_list, itself}
use Rattle.ess_semantics.specs.Trees.{Mark, Exs, Dom}
use Rattle.ess_semantics.specs.Collections.{rises}
use Rattle.ess_semantics.specs.Attributes.{set_attributes_hold}
use Rattle.ess_semantics.specs.Membership.{member}
use Rattle.ess_semantics.specs.Domains.{Domain, sets}
use Rattle.ess_semantics.specs.Meaning.{Env}
use Rattle.ess_semantics.specs.Meets.{MeetsAll, MeetsDom}
use Rattle.ess_semantics.specs.Positions.{with_positions, all_with_positions}
use Rattle.ess_semantics.proofs.Tests.{and-left, and-right}
use Rattle.ess_repr_laws.proofs.TypesBack.{boolean-back, integer-back}
use Rattle.ess_nested_laws.proofs.NestedForms.{Sizes, no_sizes, one_size, WrittenAtom, written_truths, written_numbers, NestedSet, of_atoms, of_sets}
use Rattle.ess_nested_laws.proofs.NestedDenoted.{written_attributes, written_domain}

-- ---- members

-- All that the test holds of are their own values with positions.
abbrev Own : (Value → Bool) → Type 0
Own p = (v : Value) → p v ≡ true → with_positions v ≡ v

all-own : (p : Value → Bool) → Own p → (vs : Values) → list_all p (to_list vs) ≡ true → all_with_positions vs ≡ vs
all-own p g nil h = refl
all-own p g (cons v vs) h =
    ap (λ z. cons z (all_with_positions vs)) (g v (and-left (p v) (list_all p (to_list vs)) h))
    ∙ ap (cons v) (all-own p g vs (and-right (p v) (list_all p (to_list vs)) h))

set-own : (ms : List Mark) (es : Exs) (e : Domain) → Own (λ v. member e v) → Own (member (sets (written_attributes ms es) e))
set-own ms es e g (node a_set xs) h =
    let r : Bool = rises itself (to_list xs) in
    let l : Bool = list_all (λ v. member e v) (to_list xs) in
    let s : Bool = set_attributes_hold (written_attributes ms es) (length (to_list xs)) in
    ap (node a_set) (all-own (λ v. member e v) g xs (and-right r l (and-left (r && l) s h)))
set-own ms es e g v h = cc

atom-own : {d : Dom} → WrittenAtom d → Own (member (written_domain d))
atom-own written_truths = boolean-back
atom-own (written_numbers {a = a} {b = b}) = integer-back (record { low = Some (pos a); high = Some (pos b) } ∷ [])

-- A member of such a domain.
pub nested-own : {d : Dom} → NestedSet d → (v : Value) → member (written_domain d) v ≡ true → with_positions v ≡ v
nested-own (of_atoms {ms = ms} {es = es} {d = d} s a) = set-own ms es (written_domain d) (atom-own a)
nested-own (of_sets {ms = ms} {es = es} {d = d} s n) = set-own ms es (written_domain d) (nested-own n)

-- ---- what is met

sizes-met : {ms : List Mark} {es : Exs} → Sizes ms es → (env : Env) → MeetsAll false es env
sizes-met no_sizes env = tt
sizes-met (one_size h s) env = (tt, sizes-met s env)

atom-met : {d : Dom} → WrittenAtom d → (env : Env) → MeetsDom d env
atom-met written_truths env = tt
atom-met written_numbers env = (tt, (tt, tt))

-- Written numbers meet all.
pub nested-met : {d : Dom} → NestedSet d → (env : Env) → MeetsDom d env
nested-met (of_atoms s a) env = (sizes-met s env, atom-met a env)
nested-met (of_sets s n) env = (sizes-met s env, nested-met n env)

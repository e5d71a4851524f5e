-- What the parts of a statement fail, test after test.
use Rattle.std.specs.Prelude.{ℕ, Bool, not, List, [], ◌∷◌, ℤ, pos, int_le, Option, is_some}
use Rattle.ess_semantics.specs.Lists.{is_some_and, is_empty}
use Rattle.ess_semantics.specs.Values.{Text, Value}
use Rattle.ess_semantics.specs.Domains.{Domain}
use Rattle.ess_semantics.specs.Membership.{member, no_negative_attribute}
use Rattle.ess_semantics.specs.Parameters.{ParamVerdict, no_meaning, below_0, not_member, false_need, first_unmet}
use Rattle.ess_domains.specs.declared.faults.Fault.{Fault}
use Rattle.ess_domains.specs.declared.faults.Fault.TheVariants.{NoMeaning, BelowZero, NotMember, Needs}

-- The verdict that a fault at the k-th statement is.
abbrev pub told : ℕ → Fault → ParamVerdict
told k NoMeaning = no_meaning k
told k BelowZero = below_0 k
told k NotMember = not_member k
told k Needs = false_need k

-- What a domain fails.
abbrev pub domain_verdict : ℕ → Option Domain → Option ParamVerdict
domain_verdict k o = first_unmet ((is_some o, no_meaning k) ∷ (is_some_and o no_negative_attribute, below_0 k) ∷ [])

-- What a domain and the value of its given fail.
abbrev pub given_verdict : ℕ → Option Domain → Option Value → Option ParamVerdict
given_verdict k o v =
    first_unmet ((is_some o, no_meaning k) ∷ (is_some_and o no_negative_attribute, below_0 k) ∷
    (is_some_and v (λ w. is_some_and o (λ e. member e w)), not_member k) ∷ [])

-- What the names of a given type's values fail.
abbrev pub type_verdict : ℕ → Option (List Text) → Option ParamVerdict
type_verdict k o = first_unmet ((is_some_and o (λ ns. not (is_empty ns)), not_member k) ∷ [])

-- What the size of an unnamed type fails.
abbrev pub size_verdict : ℕ → Option ℤ → Option ParamVerdict
size_verdict k o = first_unmet ((is_some o, no_meaning k) ∷ (is_some_and o (λ n. int_le (pos 0) n), below_0 k) ∷ [])

-- What a `where` fails.
abbrev pub need_verdict : ℕ → Bool → Option ParamVerdict
need_verdict k b = first_unmet ((b, false_need k) ∷ [])

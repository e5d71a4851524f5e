-- Laws of literals of members, each stated at a function that does nothing, so that its proof is checked with the code.
use Rattle.std.specs.Prelude.{◌≡◌, ℕ, true, Some, IsTrue}
use Rattle.ess_semantics.specs.Values.{Text, Value}
use Rattle.ess_semantics.specs.Trees.{Dom}
use Rattle.ess_semantics.specs.Types.{type_of_dom}
use Rattle.ess_semantics.specs.Domains.{Domain}
use Rattle.ess_semantics.specs.Membership.{member}
use Rattle.ess_semantics.specs.Meaning.{Env, domain_of}
use Rattle.ess_semantics.specs.Literals.{literal_value}
use Rattle.ess_grammar.specs.ValueTexts.{literal_of}
use Rattle.ess_print_laws.specs.Spelled.{is_spelled}
use Rattle.ess_values_laws.specs.Spellable.{numbers_fit, parts_fit, have_name_tokens}
use Rattle.ess_values_laws.specs.Laws.{HasItemNames}
use Rattle.ess_member_literals_laws.specs.ToldDomains.{IsTold, NamesItems}

-- A member of a domain is printed as a literal of the domain's type that has it, where the names are those of the values of named
-- types. Its tuples and records have parts.
abbrev pub MembersHaveLiterals : Type 0
MembersHaveLiterals = (name_of : Text → ℕ → Text) (d : Dom) (e : Domain) (v : Value) (env : Env) → HasItemNames env →
    NamesItems name_of env.types → IsTold d → domain_of d env ≡ Some e → member e v ≡ true →
    (literal_value (literal_of name_of v) (type_of_dom d) env ≡ Some v) × (parts_fit v ≡ true)

-- It is spelled where its numbers fit, and types and their values have name tokens as names.
abbrev pub MembersAreSpelled : Type 0
MembersAreSpelled = (name_of : Text → ℕ → Text) (d : Dom) (e : Domain) (v : Value) (env : Env) → HasItemNames env →
    NamesItems name_of env.types → IsTrue (have_name_tokens env.types) → IsTold d → domain_of d env ≡ Some e → member e v ≡ true →
    IsTrue (numbers_fit v) → IsTrue (is_spelled name_of v)

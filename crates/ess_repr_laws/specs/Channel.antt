-- The constraint that two views stand for one value: views of one domain, each by its own representation and names of tables.
use Rattle.std.specs.Prelude.{◌≡◌, Bool, true, List, [], Some}
use Rattle.ess_semantics.specs.declared.words.Op2.{Op2}
use Rattle.ess_semantics.specs.Values.{Text, Value, truth}
use Rattle.ess_semantics.specs.Order.{same}
use Rattle.ess_semantics.specs.Domains.{Domain}
use Rattle.ess_semantics.specs.Trees.{Repr, Ex, seen_ex, no_exs, Dom, ex2}
use Rattle.ess_semantics.specs.Tables.{Tables}
use Rattle.ess_semantics.specs.Representations.{value_of_tables}
use Rattle.ess_semantics.specs.Meaning.{Env, meaning, domain_of, tables_in}

-- What the tables with these names stand for.
abbrev pub whole_view : Repr → Dom → List Text → Ex
whole_view r d ns = seen_ex r d ns no_exs

-- The views are equal.
abbrev pub channel : Dom → Repr → List Text → Repr → List Text → Ex
channel d r ns s ms = ex2 true Op2.Eq (whole_view r d ns) (whole_view s d ms)

-- The tables with these names, under a representation of the domain.
pub record Seen (env : Env) (d : Dom) (e : Domain) (ns : List Text) (ts : Tables) : Type 0 where
  pub denotes : domain_of d env ≡ Some e
  pub found : tables_in env.cells ns ≡ Some ts

-- Both lists of tables stand for this value.
pub record BothStandFor (r s : Repr) (e : Domain) (ts us : Tables) (v : Value) : Type 0 where
  pub first : value_of_tables r e ts [] ≡ Some v
  pub second : value_of_tables s e us [] ≡ Some v

-- The channel is true exactly where both views stand for one value, and is false elsewhere; where both stand for values it says
-- whether these are the same. Bool has one representation alone, so it isn't asked of it.
pub record SaysSame (env : Env) (d : Dom) (e : Domain) (r s : Repr) (ns ms : List Text) (ts us : Tables) : Type 0 where
  pub only_same : meaning (channel d r ns s ms) env ≡ Some (truth true) → (v : Value) × BothStandFor r s e ts us v
  pub same_is : (v : Value) → BothStandFor r s e ts us v → meaning (channel d r ns s ms) env ≡ Some (truth true)
  pub of_values : (v w : Value) → value_of_tables r e ts [] ≡ Some v → value_of_tables s e us [] ≡ Some w →
      meaning (channel d r ns s ms) env ≡ Some (truth (same v w))
  pub settled : (b : Bool) × (meaning (channel d r ns s ms) env ≡ Some (truth b))

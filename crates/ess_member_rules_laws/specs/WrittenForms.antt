-- What is written for a refined tree of a membership: the cell at the value, or a fold over the domain.
use Rattle.std.specs.Prelude.{◌≡◌, true, false, List, [], ◌∷◌, length, map, ℤ, Bool, Some}
use Rattle.ess_semantics.specs.declared.words.Op2.{Op2}
use Rattle.ess_semantics.specs.declared.words.Fun.{Fun}
use Rattle.ess_semantics.specs.Values.{Text, Value, number, truth}
use Rattle.ess_semantics.specs.Names.{Names, look}
use Rattle.ess_semantics.specs.Trees.{Ends, name_pat, Ex, Exs, number_ex, truth_ex, name_ex, no_gens, over, cond, Dom, bool_dom, int_dom, ex2, fun1}
use Rattle.ess_semantics.specs.Tables.{Table, code}
use Rattle.ess_semantics.specs.Contexts.{Each}
use Rattle.ess_semantics.specs.DeclaredTables.{TableDecl}
use Rattle.ess_semantics.specs.Meaning.{members_in, is_bool_dom}
use Rattle.ess_semantics.specs.ModelMeaning.{declaration_of, model_domain}
use Rattle.ess_keys_laws.specs.KeyForms.{number_of_truth}
use Rattle.ess_member_trees_laws.specs.Memberships.{cell_at, is_it, some_of}

-- A name as an index: a truth value as a number.
abbrev pub index_of : Dom → Text → Ex
index_of bool_dom y = fun1 false Fun.ToInt (name_ex y)
index_of d y = name_ex y

-- A literal as a number.
abbrev pub literal_number : Ex → Ex
literal_number (truth_ex b) = number_of_truth b
literal_number e = e

-- The set is kept by the table n over the domain A; L is asked to be a member.
module _ (n : Text) (A : Dom) (L : Ex) where
  -- The cell at the value.
  abbrev pub at_number : Ex
  at_number = cell_at n A L (literal_number L)

  -- `or([y = L | y : A, n[y]])`.
  abbrev pub where_index : Text → Ex
  where_index y = some_of n A L (is_it n A L y) (over (name_pat y) A (cond (cell_at n A L (index_of A y)) no_gens))

  -- `or([n[y] /\ y = L | y : A])`.
  abbrev pub with_index : Text → Ex
  with_index y = some_of n A L (ex2 true Op2.And (cell_at n A L (index_of A y)) (is_it n A L y)) (over (name_pat y) A no_gens)

  -- What may be written, with y for the bound name.
  pub data Written (y : Text) : Ex → Type 0 where
    by_number : Written y at_number
    by_condition : Written y (where_index y)
    by_conjunction : Written y (with_index y)

-- ---- the table

-- A number.
abbrev pub IsNumber : Value → Type 0
IsNumber v = (k : ℤ) × (v ≡ number k)

-- A truth value.
abbrev pub IsTruth : Value → Type 0
IsTruth v = (b : Bool) × (v ≡ truth b)

-- The literal is of the kind of the members.
pub data Alike (ms : List Value) : Dom → Ex → Type 0 where
  as_numbers : {rs : List Ends} {es : Exs} {k : ℤ} → Each ms IsNumber → Alike ms (int_dom rs es) (number_ex k)
  as_truths : {b : Bool} → Each ms IsTruth → Alike ms bool_dom (truth_ex b)

-- Declarations declare n as truth values over one axis; among the tables it is t, over the members of the domain.
pub record IsTable (ds : List TableDecl) (tc : Names Table) (n : Text) (A : Dom) (L : Ex) (t : Table) (ms : List Value) : Type 0 where
  pub line : TableDecl
  pub declared : declaration_of ds n ≡ Some line
  pub one_axis : length line.axes ≡ 1
  pub truths : is_bool_dom line.cell ≡ true
  pub found : look tc n ≡ Some t
  pub axis : t.axes ≡ map code ms ∷ []
  pub members : members_in (model_domain ds tc A) ≡ Some ms
  pub alike : Alike ms A L

-- Plans one after the other: each given and find asks for the tables of each of its representations, each given enumerated type for the
-- cell of its number of values; each gets names that are free beside all before it.
use Rattle.std.specs.Prelude.{◌≡◌, ℕ, suc, true, Bool, if◌then◌else◌, List, [], ◌∷◌, ◌++◌, map, codes, Option, Some, None}
use Rattle.ess_semantics.specs.Values.{Text}
use Rattle.ess_semantics.specs.Names.{Names, keys, without, is_among}
use Rattle.ess_semantics.specs.Trees.{Repr, Dom, Doms, tuple_dom, record_dom, matrix_dom, set_dom, mset_dom, function_dom, relation_dom, partition_dom, no_doms, more_doms, Stm, given, given_enum, find}
use Rattle.ess_semantics.specs.Kinds.{fits}
use Rattle.ess_semantics.specs.TableNames.{table_names, free_name, named_tables}
use Rattle.ess_semantics.specs.Plans.{Side, givens_side, finds_side, Plan, size_plan, value_plan, names_of_plan}
use Rattle.ess_repr_declare_laws.specs.Laws.{are_numbered, Sound}

-- ---- what is asked for

-- The cell for the number of values of a given enumerated type, or the tables of a representation of a given's or find's domain.
pub data Request : Type 0 where
  size_of : Text → Request
  tables_of : Side → Text → Repr → Dom → Request

-- The representations of the first name that is left.
abbrev pub first_reprs : Names (List Repr) → List Repr
first_reprs [] = []
first_reprs (r ∷ rs) = r.1

-- Those of the later names.
abbrev pub later_reprs : Names (List Repr) → Names (List Repr)
later_reprs [] = []
later_reprs (r ∷ rs) = rs

-- The tables of several representations.
abbrev pub all_tables_of : Side → Text → Dom → List Repr → List Request
all_tables_of f x d rs = map (λ r. tables_of f x r d) rs

-- What a statement asks for, where these representations are left.
abbrev pub requests_of_stm : Stm → Names (List Repr) → List Request
requests_of_stm (given x d) rs = all_tables_of givens_side x d (first_reprs rs)
requests_of_stm (given_enum t) rs = size_of t ∷ []
requests_of_stm (find x d) rs = all_tables_of finds_side x d (first_reprs rs)
requests_of_stm s rs = []

-- The representations that are left behind a statement.
abbrev pub left_behind : Stm → Names (List Repr) → Names (List Repr)
left_behind (given x d) rs = later_reprs rs
left_behind (find x d) rs = later_reprs rs
left_behind s rs = rs

-- What statements ask for, where the names with domains have these representations in order.
abbrev pub requests : List Stm → Names (List Repr) → List Request
requests [] rs = []
requests (s ∷ ss) rs = requests_of_stm s rs ++ requests ss (left_behind s rs)

-- ---- plans

-- The names that a table of x can't have: those that are declared for something else, or for anything at all.
abbrev pub declared_beside : Bool → Text → List Text → List Text
declared_beside all x declared = if all then declared else without x declared

-- The plan for a request, where names are declared and earlier tables have names.
abbrev pub plan_for : Request → List Text → List Text → Plan
plan_for (size_of t) declared done = size_plan t (free_name (declared ++ done) (t ++ codes "_Size"))
plan_for (tables_of f x r d) declared done = value_plan f x r d (named_tables x (table_names r d) (without x declared ++ done))

-- The plans for several requests in order.
abbrev pub plans_for_all : List Request → List Text → List Text → List Plan
plans_for_all [] declared done = []
plans_for_all (q ∷ qs) declared done =
    let p : Plan = plan_for q declared done in
    p ∷ plans_for_all qs declared (keys (names_of_plan p) ++ done)

-- ---- what requests are right

abbrev mutual
  -- Each attribute that has a number stands with it, at each depth, as in each tree that is read.
  pub HasNumbers : Dom → Type 0
  HasNumbers (tuple_dom ds) = AllHaveNumbers ds
  HasNumbers (record_dom fs ds) = AllHaveNumbers ds
  HasNumbers (matrix_dom is d) = HasNumbers d
  HasNumbers (set_dom ms es d) = (are_numbered ms es ≡ true) × HasNumbers d
  HasNumbers (mset_dom ms es d) = (are_numbered ms es ≡ true) × HasNumbers d
  HasNumbers (function_dom ms es d c) = (are_numbered ms es ≡ true) × HasNumbers d × HasNumbers c
  HasNumbers (relation_dom ms es ds) = (are_numbered ms es ≡ true) × AllHaveNumbers ds
  HasNumbers (partition_dom ms es d) = (are_numbered ms es ≡ true) × HasNumbers d
  HasNumbers d = Unit {0}

  -- The same of several domains.
  pub AllHaveNumbers : Doms → Type 0
  AllHaveNumbers no_doms = Unit {0}
  AllHaveNumbers (more_doms d ds) = HasNumbers d × AllHaveNumbers ds

-- The representation fits the domain, which is sound.
abbrev pub IsRightRequest : Request → Type 0
IsRightRequest (size_of t) = Unit {0}
IsRightRequest (tables_of f x r d) = (fits r d ≡ true) × Sound d

-- ---- lists of names that have the same members

-- A name is in one list where it is in the other.
abbrev pub SameNames : List Text → List Text → Type 0
SameNames ns ms = (a : Text) → is_among ns a ≡ is_among ms a

-- ---- names that are taken

-- The first of the names that is taken.
abbrev pub first_among : List Text → List Text → Option Text
first_among taken [] = None
first_among taken (n ∷ ns) = if is_among taken n then Some n else first_among taken ns

-- How many of the names that are taken aren't avoided.
abbrev pub left_out : List Text → List Text → ℕ
left_out [] avoided = 0
left_out (t ∷ ts) avoided = if is_among avoided t then left_out ts avoided else suc (left_out ts avoided)

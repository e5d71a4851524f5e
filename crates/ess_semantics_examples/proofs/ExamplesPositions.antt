-- Worked examples of plans over named types: the domain with positions, the tables that are declared, and what they stand for.
use Rattle.std.specs.Prelude.{◌≡◌, refl, ℕ, true, false, List, [], ◌∷◌, map, pos, Some, None, codes}
use Rattle.ess_semantics.specs.declared.words.ReprKind.{ReprKind}
use Rattle.ess_semantics.specs.Names.{Names}
use Rattle.ess_semantics.specs.Values.{Text, Value, number, item}
use Rattle.ess_semantics.specs.Collections.{set_of}
use Rattle.ess_semantics.specs.Trees.{name_dom, Stm, let_enum, find, seen_ex, no_exs}
use Rattle.ess_semantics.specs.Domains.{booleans, sets, between}
use Rattle.ess_semantics.specs.Tables.{Table}
use Rattle.ess_semantics.specs.Declarations.{widened}
use Rattle.ess_semantics.specs.Choice.{alone, over_child}
use Rattle.ess_semantics.specs.Meaning.{Env, domain_of, meaning}
use Rattle.ess_semantics.specs.Positions.{with_positions, with_tables}
use Rattle.ess_semantics.specs.Assignments.{nothing_given, env_of}
use Rattle.ess_semantics.specs.Plans.{Options, plan_domain, plan_stands, plans, declared_under, Stands, canonical_tables, values_stood_for, finds_side}
use Rattle.ess_semantics.proofs.Shorthands.{set, gives1}

abbrev E : Text
E = codes "E"

abbrev s : Text
s = codes "s"

-- letting E be new type enum {a, b, c} / find s : set of E
abbrev set_of_letters : List Stm
set_of_letters = let_enum E (codes "a" ∷ codes "b" ∷ codes "c" ∷ []) ∷ find s (set (name_dom E)) ∷ []

-- kept as an occurrence table, and as a marker with slots
abbrev both : Options
both = (s, alone ReprKind.Occurrence ∷ over_child ReprKind.ExplicitVarSizeWithMarker (alone ReprKind.Atom) ∷ []) ∷ []

-- as a marker with slots alone
abbrev slots : Options
slots = (s, over_child ReprKind.ExplicitVarSizeWithMarker (alone ReprKind.Atom) ∷ []) ∷ []

abbrev letters : List ℕ → Value
letters ks = set_of (map (item E) ks)

abbrev line : Text → List ℕ → Text × Table
line x is = (x, record { axes = map pos (1 ∷ 2 ∷ 3 ∷ []) ∷ []; items = map pos is })

abbrev cell : Text → ℕ → Text × Table
cell x k = (x, record { axes = []; items = pos k ∷ [] })

-- the tables for {a, c}
abbrev a_and_c : Names Table
a_and_c =
    line (codes "s_Occurrence") (1 ∷ 0 ∷ 1 ∷ []) ∷
    cell (codes "s_ExplicitVarSizeWithMarker_Marker") 2 ∷
    line (codes "s_ExplicitVarSizeWithMarker_Values") (1 ∷ 3 ∷ 0 ∷ []) ∷ []

abbrev here : Env
here = env_of set_of_letters nothing_given nothing_given

-- a plan's domain is the one that a view over tables has
one_domain : plan_domain (set (name_dom E)) here ≡ domain_of (set (name_dom E)) (with_tables here a_and_c)
one_domain = refl

with_positions_is : plan_domain (set (name_dom E)) here ≡ Some (sets [] (between (pos 1) (pos 3)))
with_positions_is = refl

-- a view has the value with positions
seen : meaning (seen_ex (alone ReprKind.Occurrence) (set (name_dom E)) (codes "s_Occurrence" ∷ []) no_exs) (with_tables here a_and_c) ≡ Some (with_positions (letters (1 ∷ 3 ∷ [])))
seen = refl

canonical : canonical_tables finds_side set_of_letters both nothing_given (gives1 s (letters (3 ∷ 1 ∷ []))) ≡ Some a_and_c
canonical = refl

stands : Stands set_of_letters both nothing_given (gives1 s (letters (1 ∷ 3 ∷ []))) a_and_c
stands = record { names = refl; types = refl; tables = refl; each_stands = refl }

-- the tables stand for values of the type, and not for numbers
no_numbers : map (plan_stands here (gives1 s (set_of (number (pos 1) ∷ number (pos 3) ∷ []))) a_and_c) (plans set_of_letters both) ≡ false ∷ false ∷ []
no_numbers = refl

-- nor for another set
no_others : map (plan_stands here (gives1 s (letters (1 ∷ 2 ∷ []))) a_and_c) (plans set_of_letters both) ≡ false ∷ false ∷ []
no_others = refl

types_come_back : values_stood_for set_of_letters both nothing_given a_and_c ≡ (s, Some (letters (1 ∷ 3 ∷ []))) ∷ []
types_come_back = refl

-- a position outside the type has no value
no_value : values_stood_for set_of_letters slots nothing_given (cell (codes "s_ExplicitVarSizeWithMarker_Marker") 1 ∷ line (codes "s_ExplicitVarSizeWithMarker_Values") (4 ∷ 0 ∷ 0 ∷ []) ∷ []) ≡ (s, None) ∷ []
no_value = refl

cells_are_declared : map (λ d. d.cell) (declared_under finds_side set_of_letters both nothing_given) ≡
    booleans ∷ between (pos 0) (pos 3) ∷ widened (between (pos 1) (pos 3)) ∷ []
cells_are_declared = refl

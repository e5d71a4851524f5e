-- Words that worked examples of tables are written in, and all tables that a representation may hold over a tiny domain,
-- in which each cell takes each member of its declared domain.
use Rattle.std.specs.Prelude.{ℕ, Bool, true, false, ◌&&◌, List, [], ◌∷◌, ◌++◌, map, length, filter, replicate, ℤ, pos}
use Rattle.std.specs.List.{list_all}
use Rattle.ess_semantics.specs.declared.words.ReprKind.{ReprKind}
use Rattle.ess_semantics.specs.Lists.{is_some_and}
use Rattle.ess_semantics.specs.declared.words.Key.{Key}
use Rattle.ess_semantics.specs.Values.{a_function, Value, number, node, of_list}
use Rattle.ess_semantics.specs.Order.{same, same_ints}
use Rattle.ess_semantics.specs.Collections.{holds, set_of}
use Rattle.ess_semantics.specs.Trees.{Repr, repr, no_reprs, more_reprs}
use Rattle.ess_semantics.specs.Choice.{alone}
use Rattle.ess_semantics.specs.Domains.{Attribute, numbered, flagged, Domain, Domains, no_domains, more_domains, between, lists_of}
use Rattle.ess_semantics.specs.Membership.{member}
use Rattle.ess_semantics.specs.Tables.{Table, Tables, volume}
use Rattle.ess_semantics.specs.Cells.{cells_of}
use Rattle.ess_semantics.specs.Layers.{codes_of}
use Rattle.ess_semantics.specs.Representations.{value_of_tables}
use Rattle.ess_semantics.specs.Declarations.{Declaration, declarations}
use Rattle.ess_semantics.specs.Canonical.{tables_of_value}
use Rattle.ess_semantics.specs.CanonicalTest.{canonical}
use Rattle.ess_semantics.specs.Tidy.{tidy}

-- ---- shorthands

abbrev pub n : ℕ → Value
n k = number (pos k)

abbrev pub upto : ℕ → Domain
upto k = between (pos 1) (pos k)

abbrev pub with : Key → ℕ → List Attribute
with k m = numbered k (pos m) ∷ []

abbrev pub ints : List ℕ → List ℤ
ints = map pos

abbrev pub of1 : ReprKind → Repr → Repr
of1 k r = repr k (more_reprs r no_reprs)

abbrev pub of2 : ReprKind → Repr → Repr → Repr
of2 k r s = repr k (more_reprs r (more_reprs s no_reprs))

abbrev pub atom : Repr
atom = alone ReprKind.Atom

abbrev pub both : Domain → Domain → Domains
both a b = more_domains a (more_domains b no_domains)

abbrev pub one : ℕ → Table
one k = record { axes = []; items = pos k ∷ [] }

abbrev pub table : List ℕ → List ℕ → Table
table as' is = record { axes = ints as' ∷ []; items = ints is }

abbrev pub table2 : List ℕ → List ℕ → List ℕ → Table
table2 as' bs is = record { axes = ints as' ∷ ints bs ∷ []; items = ints is }

abbrev pub key : Key → List Attribute
key k = flagged k ∷ []

abbrev pub set : List ℕ → Value
set ks = set_of (map n ks)

-- all lists of some of the values, in order
abbrev pub some_of : List Value → List (List Value)
some_of [] = [] ∷ []
some_of (v ∷ vs) = some_of vs ++ map (λ l. v ∷ l) (some_of vs)

abbrev pub function : List Value → Value
function ps = node a_function (of_list ps)

-- ---- all tables

-- all tables of one declaration
abbrev pub all_of_declaration : Declaration → List Table
all_of_declaration t = map (λ is. record { axes = t.axes; items = is }) (lists_of (replicate (volume t.axes) (codes_of t.cell)))

-- all tables of a representation
abbrev pub all_maps : Repr → Domain → List Tables
all_maps r d = lists_of (map all_of_declaration (declarations r d))

abbrev pub same_items : Tables → Tables → Bool
same_items [] [] = true
same_items (t ∷ ts) (u ∷ us) = same_ints t.items u.items && same_items ts us
same_items _ _ = false

abbrev pub is_canonical : Repr → Domain → Tables → Bool
is_canonical r d ts = canonical r d (cells_of ts)

-- the canonical tables of a value are canonical and tidy, and stand for it
abbrev pub fits_value : Repr → Domain → Value → Bool
fits_value r d v = is_some_and (tables_of_value r d v) (λ ts. is_canonical r d ts && tidy r d ts [] && is_some_and (value_of_tables r d ts []) (same v))

-- canonical tables stand for one of the values, and are its canonical tables
abbrev pub fits_tables : Repr → Domain → List Value → Tables → Bool
fits_tables r d vs ts =
    is_some_and (value_of_tables r d ts []) (λ v. holds vs v && member d v && is_some_and (tables_of_value r d v) (same_items ts))

-- how many tables there are, how many of them are canonical, and whether these are exactly the canonical tables of the
-- values, each of which is a member
abbrev pub checked : Repr → Domain → List Value → ℕ × ℕ × Bool
checked r d vs =
    let maps : List Tables = all_maps r d in
    let good : List Tables = filter (is_canonical r d) maps in
    (length maps, length good, list_all (fits_value r d) vs && list_all (fits_tables r d vs) good && list_all (member d) vs)

-- without the number of all tables
abbrev pub counts : ℕ × ℕ × Bool → ℕ × Bool
counts x = (x.1, x.2)

-- Worked examples: what rules of kinds count on, numbers of parts, places below, and children of canonical cells.
use Rattle.std.specs.Prelude.{◌≡◌, refl, if◌then◌else◌, true, false, ℤ, [], ◌∷◌, Some, None, pos, codes}
use Rattle.ess_semantics.specs.declared.words.Op1.{Op1}
use Rattle.ess_semantics.specs.declared.words.ReprKind.{ReprKind}
use Rattle.ess_semantics.specs.Values.{Value, number, truth}
use Rattle.ess_semantics.specs.Order.{same}
use Rattle.ess_semantics.specs.Trees.{both_ends, repr, no_reprs, more_reprs, Ex, number_ex, name_ex, seen_ex, no_exs, more_exs, Dom, bool_dom, int_dom, mset_dom, ex1}
use Rattle.ess_semantics.specs.Meaning.{empty_env}
use Rattle.ess_refine_laws.specs.AllRules.{Supply}
use Rattle.ess_kind_rules_laws.specs.KindRules.{size_at_the_marker, cell_of_an_atom}
use Rattle.ess_kinds_kept_laws.specs.MultisetAsks.{CountAsks}
use Rattle.ess_kinds_kept_laws.specs.ViewAsks.{ViewAsks}
use Rattle.ess_kinds_kept_laws.specs.LookupAsks.{OrAsks, LookupAsks}
use Rattle.ess_kinds_kept_laws.specs.CanonicalChildren.{canonical_in}
use Rattle.ess_kinds_kept_laws.specs.KindAsks.{KindAsks}
use Rattle.ess_kinds_kept_laws.proofs.SlottedNumbers.{positive, spread_slots}
use Rattle.ess_kinds_kept_laws.proofs.PartNumbering.{Parts}
use Rattle.ess_kinds_kept_laws.proofs.PlacesBelow.{below_count, at_place}
use Rattle.ess_semantics.specs.Collections.{set_of}

-- `int(1..n)`.
abbrev up_to : Ex → Dom
up_to n = int_dom (both_ends ∷ []) (more_exs (number_ex (pos 1)) (more_exs n no_exs))

abbrev supply : Supply
supply = record { one = codes "#1"; other = codes "#2"; third = codes "#3"; parts = []; index_domain = λ e. bool_dom; copy = λ e. e }

-- A view of a multiset in slots up to a marker, whose size asks nothing.
abbrev repeated : Ex
repeated = seen_ex (repr ReprKind.MSetExplicitWithRepetition (more_reprs (repr ReprKind.Atom no_reprs) no_reprs))
    (mset_dom [] no_exs (up_to (number_ex (pos 3)))) (codes "m" ∷ codes "v" ∷ []) no_exs

size_asks_nothing : CountAsks (number_ex (pos 2)) repeated empty_env ≡ Unit {0}
size_asks_nothing = refl

-- Nor does the size at a marker, or the number of parts; a cell of numbers doesn't either.
marker_asks_nothing : KindAsks supply [] size_at_the_marker (ex1 false Op1.Bar repeated) empty_env ≡ Unit {0}
marker_asks_nothing = refl

atom_asks_nothing : KindAsks supply [] cell_of_an_atom
    (seen_ex (repr ReprKind.Atom no_reprs) (up_to (number_ex (pos 3))) (codes "x" ∷ []) no_exs) empty_env ≡ Unit {0}
atom_asks_nothing = refl

-- A name has no listing by kind, and asks nothing.
name_asks_nothing : ViewAsks (codes "x") (codes "y") [] (name_ex (codes "a")) empty_env ≡ Unit {0}
name_asks_nothing = refl

-- Of two the first that is there asks.
first_asks : OrAsks (Some true) (λ b. b ≡ true) (false ≡ true) ≡ (true ≡ true)
first_asks = refl

second_asks : OrAsks {A = Ex} None (λ b. false ≡ true) (true ≡ true) ≡ (true ≡ true)
second_asks = refl

-- With no names nothing is looked up, and nothing asked.
no_names : LookupAsks [] (codes "x") [] (name_ex (codes "a")) empty_env ≡ Unit {0}
no_names = refl

-- Numbers 0, 2 and 1 of slots beside the values of the two in use.
in_use_twice : spread_slots (λ n v. v ∷ []) (0 ∷ 2 ∷ 1 ∷ []) (number (pos 7) ∷ number (pos 8) ∷ []) ≡ number (pos 7) ∷ number (pos 8) ∷ []
in_use_twice = refl

out_of_use : positive (Some 0) ≡ false
out_of_use = refl

-- Of 1, 2 and 3 with the numbers 1, 2 and 1 the parts are {1, 3} and {2}.
abbrev numbers : Value → ℤ
numbers v = if same v (number (pos 2)) then pos 2 else pos 1

two_parts : Parts (number (pos 1) ∷ number (pos 2) ∷ number (pos 3) ∷ []) numbers 2 ≡
    set_of (number (pos 1) ∷ number (pos 3) ∷ []) ∷ set_of (number (pos 2) ∷ []) ∷ []
two_parts = refl

-- Of 4, 6 and 9 one is below 6, so the item at 6 is the one at place 1.
one_below : below_count (number (pos 4) ∷ number (pos 6) ∷ number (pos 9) ∷ []) (number (pos 6)) ≡ 1
one_below = refl

at_one : at_place (truth true ∷ truth false ∷ truth true ∷ []) 0 1 ≡ truth false ∷ []
at_one = refl

-- Without a domain no cells are canonical.
nowhere : canonical_in (repr ReprKind.Atom no_reprs) None (Some []) (Some []) ≡ false
nowhere = refl

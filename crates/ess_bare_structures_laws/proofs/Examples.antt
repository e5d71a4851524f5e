-- Worked examples: a view of nested sets, the tables that are declared for it, and a structure whose bound names are told apart.
use Rattle.std.proofs.Common.{◌≡◌, refl, ℕ, Bool, true, false, if◌then◌else◌, List, [], ◌∷◌, ℤ, pos, Option, Some, arith}
use Rattle.std.specs.Prelude.{codes}
use Rattle.std.specs.Fmt.{digits}
use Rattle.ess_semantics.specs.declared.words.Fun.{Fun}
use Rattle.ess_semantics.specs.declared.words.Key.{Key}
use Rattle.ess_semantics.specs.declared.words.Op2.{Op2}
use Rattle.ess_semantics.specs.declared.words.ReprKind.{ReprKind}
use Rattle.ess_semantics.specs.Values.{Text, truth}
use Rattle.ess_semantics.specs.Order.{same_text}
use Rattle.ess_semantics.specs.Trees.{both_ends, valued, Repr, repr, no_reprs, more_reprs, name_pat, Ex, Exs, number_ex, truth_ex, name_ex, comp_ex, cell_ex, no_exs, more_exs, no_gens, over, Dom, int_dom, set_dom, ex2, fun1}
use Rattle.ess_semantics.specs.Domains.{numbered, sets, between}
use Rattle.ess_semantics.specs.Meaning.{Env, empty_env, meaning}
use Rattle.ess_repr_laws.specs.StructureParts.{and_ex}
use Rattle.conjure_model_laws.specs.ToldApart.{reserved}
use Rattle.ess_bare_structures_laws.specs.Laws.{told_structure, TablesFound, IsNestedView}

abbrev one : Ex → Exs
one e = more_exs e no_exs

-- `int(1..3)`
abbrev to_three : Dom
to_three = int_dom (both_ends ∷ []) (more_exs (number_ex (pos 1)) (one (number_ex (pos 3))))

-- ---- names told apart

-- How many members of int(1..3) occur, by this name.
abbrev occurring : Text → Ex
occurring x = fun1 false Fun.Sum (comp_ex (fun1 false Fun.ToInt (cell_ex true (codes "a") (more_exs (name_ex x) no_exs)))
    (over (name_pat x) to_three no_gens))

-- `set (size 2) of int(1..3)` by the members that occur: two of them do. They are counted twice, each time by a name of its own.
pub of-occurrence : told_structure (repr ReprKind.Occurrence no_reprs)
    (set_dom (valued Key.Size ∷ []) (more_exs (number_ex (pos 2)) no_exs) to_three) (codes "a" ∷ []) 2
    ≡ and_ex (and_ex (ex2 true Op2.Le (number_ex (pos 2)) (occurring (reserved 2)))
    (ex2 true Op2.Le (occurring (reserved 3)) (number_ex (pos 2))))
    (truth_ex true)
unfolding digits
of-occurrence = refl

-- ---- a view

-- `set of set (maxSize 2) of int(1..3)`, in slots with flags, each in slots with a marker.
abbrev inner : Dom
inner = set_dom (valued Key.MaxSize ∷ []) (more_exs (number_ex (pos 2)) no_exs) to_three

abbrev outer : Dom
outer = set_dom [] no_exs inner

abbrev kept : Repr
kept = repr ReprKind.ExplicitVarSizeWithFlags (more_reprs (repr ReprKind.ExplicitVarSizeWithMarker (more_reprs (repr ReprKind.Atom no_reprs)
    no_reprs)) no_reprs)

abbrev names : List Text
names = codes "f" ∷ codes "m" ∷ codes "v" ∷ []

-- A flag for each slot, a marker for each slot, and a number for each slot of each slot.
abbrev marks : Text → Option (Bool × ℕ)
marks n = if same_text n (codes "f") then Some (true, 1) else (if same_text n (codes "m") then Some (false, 1) else Some (false, 2))

pub of-view : IsNestedView marks kept outer names 2
of-view = record { nested = refl; fit = refl; named = refl; low = omega arith; marked = (refl, (refl, (refl, tt))) }

-- ---- tables

-- `set (maxSize 2) of int(1..3)` with a marker over two slots.
abbrev slots : Repr
slots = repr ReprKind.ExplicitVarSizeWithMarker (more_reprs (repr ReprKind.Atom no_reprs) no_reprs)

abbrev slots_env : ℤ → List ℤ → Env
slots_env m zs =
    record empty_env {
      cells = (codes "m", record { axes = []; items = m ∷ [] }) ∷
          (codes "v", record { axes = (pos 1 ∷ pos 2 ∷ []) ∷ []; items = zs }) ∷ [];
    }

pub of-tables : TablesFound (slots_env (pos 1) (pos 3 ∷ pos 0 ∷ [])) slots inner (codes "m" ∷ codes "v" ∷ [])
    (sets (numbered Key.MaxSize (pos 2) ∷ []) (between (pos 1) (pos 3)))
    (record { axes = []; items = pos 1 ∷ [] } ∷ record { axes = (pos 1 ∷ pos 2 ∷ []) ∷ []; items = pos 3 ∷ pos 0 ∷ [] } ∷ [])
of-tables = record { denotes = refl; named = refl; over = refl; fit = (refl, refl, (refl, refl, tt)) }

-- The slot out of use holds 0, so the tables are canonical; else they aren't.
pub of-canonical : meaning (told_structure slots inner (codes "m" ∷ codes "v" ∷ []) 2) (slots_env (pos 1) (pos 3 ∷ pos 0 ∷ []))
    ≡ Some (truth true)
unfolding digits
of-canonical = refl

pub of-other : meaning (told_structure slots inner (codes "m" ∷ codes "v" ∷ []) 2) (slots_env (pos 1) (pos 3 ∷ pos 1 ∷ []))
    ≡ Some (truth false)
unfolding digits
of-other = refl

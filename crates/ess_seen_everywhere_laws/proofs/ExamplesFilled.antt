-- Worked examples: a table of numbers with two slots is filled, and numbers over it have a value whatever conditions hold.
use Rattle.std.proofs.Common.{◌≡◌, refl, sym, ap, subst, ℕ, zero, suc, ◌≤◌, Bool, true, false, if◌then◌else◌, List, [], ◌∷◌, ℤ, pos, Option, Some, None, arith}
use Rattle.std.specs.Prelude.{codes}
use Rattle.ess_semantics.specs.declared.words.Op2.{Op2}
use Rattle.ess_semantics.specs.declared.words.Fun.{Fun}
use Rattle.ess_semantics.specs.Values.{Text, number}
use Rattle.ess_semantics.specs.Order.{same_text}
use Rattle.ess_semantics.specs.Names.{look}
use Rattle.ess_semantics.specs.Tables.{Table}
use Rattle.ess_semantics.specs.Refined.{is_refined}
use Rattle.ess_semantics.specs.Trees.{name_pat, Ex, number_ex, name_ex, comp_ex, cell_ex, no_exs, more_exs, no_gens, over, ex2, fun1}
use Rattle.ess_semantics.specs.Meaning.{Env, meaning}
use Rattle.ess_rules_laws.specs.SlotListings.{slots_dom}
use Rattle.ess_rules_laws.specs.SourceRules.{list_of}
use Rattle.ess_refine_laws.specs.Everywhere.{everywhere}
use Rattle.ess_seen_laws.specs.ess_bare_laws.Lean.{of_sum}
use Rattle.ess_seen_laws.specs.Seen.{Seen, figure, folded, so_many, at_slot, no_place, through_slots, at_end}
use Rattle.ess_seen_laws.specs.Filled.{AreSlots, no_slot, more_slots, HasCell, AreFilled}
use Rattle.ess_seen_everywhere_laws.specs.Laws.{IsFilled}

-- ---- a table with two slots

abbrev T : Text
T = codes "t"

abbrev I : Text
I = codes "i"

abbrev numbers : Bool × List ℕ
numbers = (false, 2 ∷ [])

abbrev cells : Text → Option (Bool × List ℕ)
cells = look ((T, numbers) ∷ [])

abbrev axes_of : Option (Bool × List ℕ) → List ℕ
axes_of (Some c) = c.1
axes_of None = []

abbrev table : Table
table = record { axes = (pos 1 ∷ pos 2 ∷ []) ∷ []; items = pos 5 ∷ pos 7 ∷ [] }

abbrev here : Env
here = record { positions = true; types = []; vals = []; cells = (T, table) ∷ [] }

-- It has 5 in slot 1, 7 in slot 2, and nothing in slot 3.
first_slot : meaning (cell_ex false T (more_exs (number_ex (pos 1)) no_exs)) here ≡ Some (number (pos 5))
first_slot = refl

no_third_slot : meaning (cell_ex false T (more_exs (number_ex (pos 3)) no_exs)) here ≡ None
no_third_slot = refl

in-slots : (n : Text) (is : List ℤ) → look here.cells n ≡ Some table → AreSlots (2 ∷ []) is → HasCell here n is
in-slots n _ q (more_slots {i = i} l u no_slot) = go i l u
  where
    go : (i : ℕ) → 1 ≤ i → i ≤ 2 → HasCell here n (pos i ∷ [])
    go zero l u = let f : ⊥ = omega arith in absurd f
    go (suc zero) l u = record { table = table; found = q; cell = pos 5; there = refl }
    go (suc (suc zero)) l u = record { table = table; found = q; cell = pos 7; there = refl }
    go (suc (suc (suc i))) l u = let f : ⊥ = omega arith in absurd f

-- So it is filled.
is-filled : AreFilled cells here
is-filled n ks q is s = go (same_text T n) refl q
  where
    go : (y : Bool) → same_text T n ≡ y → (if y then Some numbers else None) ≡ Some (false, ks) → HasCell here n is
    go true e q = in-slots n is (ap (λ z. if z then Some table else None) e)
        (subst (λ z. AreSlots z is) (sym (ap axes_of q)) s)
    go false e q = cc

no_names : IsFilled cells [] here
no_names = record { typed = λ a t v q. cc; slots = λ a b q. cc; filled = is-filled }

-- ---- a sum over the slots

-- `sum([t[i] | i : int(1..2)])`.
abbrev total : Ex
total = fun1 false Fun.Sum (comp_ex (cell_ex false T (more_exs (name_ex I) no_exs)) (over (name_pat I) (slots_dom (number_ex (pos 2))) no_gens))

total_is_seen : Seen cells [] total false
total_is_seen = folded of_sum (through_slots so_many at_end) (figure refl (at_slot refl no_place))

total_is_refined : is_refined total ≡ true
total_is_refined = refl

twelve : meaning total here ≡ Some (number (pos 12))
twelve = refl

-- ---- powers

-- `2 ** (1 - 0 + 2)` becomes `2 ** max([1 - 0 + 2, 0])`, the same number; `2 ** 3` stays.
abbrev three : Ex
three = ex2 false Op2.Plus (ex2 false Op2.Minus (number_ex (pos 1)) (number_ex (pos 0))) (number_ex (pos 2))

at_least_0 : everywhere (ex2 false Op2.Pow (number_ex (pos 2)) three) ≡
    ex2 false Op2.Pow (number_ex (pos 2)) (fun1 false Fun.Max (list_of (more_exs three (more_exs (number_ex (pos 0)) no_exs))))
at_least_0 = refl

eight : meaning (everywhere (ex2 false Op2.Pow (number_ex (pos 2)) three)) here ≡ Some (number (pos 8))
eight = refl

stays : everywhere (ex2 false Op2.Pow (number_ex (pos 2)) (number_ex (pos 3))) ≡ ex2 false Op2.Pow (number_ex (pos 2)) (number_ex (pos 3))
stays = refl

-- The number that is there everywhere is such a tree over views again: of numbers of slots an exponent alone becomes `max([t, 0])`.
use Rattle.std.proofs.Common.{◌≡◌, refl, sym, ap, ◌∙◌, subst, ℕ, Bool, true, false, if◌then◌else◌, List, pos, Option}
use Rattle.std.specs.Prelude.{◌^◌}
use Rattle.ess_semantics.specs.declared.words.Op1.{Op1}
use Rattle.ess_semantics.specs.declared.words.Op2.{Op2}
use Rattle.ess_semantics.specs.Values.{Text}
use Rattle.ess_semantics.specs.Names.{Names}
use Rattle.ess_semantics.specs.Trees.{Ex, Exs, number_ex, ex1, ex2, Gens, Dom}
use Rattle.ess_refine_laws.specs.Everywhere.{is_positive, base, exponent, raised, everywhere, everywhere_exs, everywhere_gens, everywhere_dom}
use Rattle.ess_flat_laws.specs.Flat.{denied, negative, absolute, sum, difference, product}
use Rattle.ess_seen_laws.specs.ess_bare_laws.Lean.{of_all, of_some, of_sum}
use Rattle.ess_seen_laws.specs.Seen.{Kind, Bound, united, shared, lessened, Counted, so_many, from_to, from_0, subsets, none_below, SetTerm, view, drawn, combined, Seen, number, truth, named, counted, figure, flag, atom, one, two, chosen, folded, of_items, size, within, set_within, compared, Listed, last_item, item_before, Going, at_end, through, through_slots, among, where_holds, Range, truths, numbers}

-- ---- numbers of slots

-- A power of 2 is one, and the same.
pub raised-counted : {n : ℕ} (t : Ex) → Counted t n → Counted (raised (number_ex (pos 2)) t) (2 ^ n)
raised-counted {n = n} t c = go (is_positive t)
  where
    go : (b : Bool) → Counted (if b then ex2 false Op2.Pow (number_ex (pos 2)) t
        else ex2 false Op2.Pow (base (number_ex (pos 2)) t) (exponent t)) (2 ^ n)
    go true = subsets c
    go false = subsets (none_below c)

-- A number of slots that is there everywhere is the same number.
pub counted-everywhere : {e : Ex} {n : ℕ} → Counted e n → Counted (everywhere e) n
counted-everywhere so_many = so_many
counted-everywhere (from_to q) = from_to q
counted-everywhere from_0 = from_0
counted-everywhere (subsets {t = t} c) = raised-counted (everywhere t) (counted-everywhere c)
counted-everywhere (none_below c) = none_below (counted-everywhere c)

module _ (cells : Text → Option (Bool × List ℕ)) where
  -- Sets are left as they are.
  pub set-everywhere : {r : Names Bound} {s : Ex} {k : Kind} → SetTerm cells r s k → everywhere s ≡ s
  set-everywhere (view n f k p) = refl
  set-everywhere (drawn q) = refl
  set-everywhere (combined united u v) = refl
  set-everywhere (combined shared u v) = refl
  set-everywhere (combined {s = s} {t = t} lessened u v) =
      ap (λ z. ex2 false Op2.Minus z (everywhere t)) (set-everywhere u) ∙ ap (λ z. ex2 false Op2.Minus s z) (set-everywhere v)

  mutual
    -- The number that is there everywhere is a tree of the same mark. Truth values are left as they are.
    pub seen-everywhere : {r : Names Bound} {e : Ex} {m : Bool} → Seen cells r e m → Seen cells r (everywhere e) m
    seen-everywhere number = number
    seen-everywhere truth = truth
    seen-everywhere (named q k) = named q k
    seen-everywhere (counted c) = counted (counted-everywhere c)
    seen-everywhere (figure q p) = figure q p
    seen-everywhere (flag q i) = flag q i
    seen-everywhere (atom k p) = atom k p
    seen-everywhere (one denied f) = one denied f
    seen-everywhere (one negative f) = one negative (seen-everywhere f)
    seen-everywhere (one absolute f) = one absolute (seen-everywhere f)
    seen-everywhere (two {b = true} o f g) = two o f g
    seen-everywhere (two {b = false} sum f g) = two sum (seen-everywhere f) (seen-everywhere g)
    seen-everywhere (two {b = false} difference f g) = two difference (seen-everywhere f) (seen-everywhere g)
    seen-everywhere (two {b = false} product f g) = two product (seen-everywhere f) (seen-everywhere g)
    seen-everywhere (chosen f) = chosen f
    seen-everywhere (folded of_all g f) = folded of_all g f
    seen-everywhere (folded of_some g f) = folded of_some g f
    seen-everywhere (folded of_sum g f) = folded of_sum (going-everywhere g) (seen-everywhere f)
    seen-everywhere (of_items of_all l) = of_items of_all l
    seen-everywhere (of_items of_some l) = of_items of_some l
    seen-everywhere (of_items of_sum l) = of_items of_sum (listed-everywhere l)
    seen-everywhere {r = r} (size s) = subst (λ z. Seen cells r (ex1 false Op1.Bar z) false) (sym (set-everywhere s)) (size s)
    seen-everywhere (within f s) = within f s
    seen-everywhere (set_within u v) = set_within u v
    seen-everywhere (compared c u v) = compared c u v

    -- Each item that is there everywhere.
    pub listed-everywhere : {r : Names Bound} {es : Exs} {m : Bool} → Listed cells r es m → Listed cells r (everywhere_exs es) m
    listed-everywhere (last_item f) = last_item (seen-everywhere f)
    listed-everywhere (item_before f l) = item_before (seen-everywhere f) (listed-everywhere l)

    -- Generators with bounds that are there everywhere bind the same names.
    pub going-everywhere : {r t : Names Bound} {gs : Gens} → Going cells r gs t → Going cells r (everywhere_gens gs) t
    going-everywhere at_end = at_end
    going-everywhere (through n g) = through (range-everywhere n) (going-everywhere g)
    going-everywhere (through_slots c g) = through_slots (counted-everywhere c) (going-everywhere g)
    going-everywhere (among s g) = among s (going-everywhere g)
    going-everywhere (where_holds f g) = where_holds f (going-everywhere g)

    range-everywhere : {r : Names Bound} {d : Dom} {m : Bool} → Range cells r d m → Range cells r (everywhere_dom d) m
    range-everywhere truths = truths
    range-everywhere (numbers f g) = numbers (seen-everywhere f) (seen-everywhere g)

-- Worked examples of what these rules count on.
use Rattle.std.proofs.Common.{◌≡◌, refl, ap, subst, ◌≤◌, length, [], ◌∷◌, Some, None, arith}
use Rattle.ess_semantics.specs.Values.{Value, items_of}
use Rattle.ess_semantics.specs.Names.{Names}
use Rattle.ess_semantics.specs.Types.{int_ty}
use Rattle.ess_semantics.specs.Meaning.{Env, meaning}
use Rattle.ess_semantics.proofs.Shorthands.{n, v, es1, at}
use Rattle.ess_rules_laws.specs.SourceRules.{list_of}
use Rattle.ess_numbered_laws.specs.Bounds.{IsBound}
use Rattle.ess_numbered_laws.specs.CountedLaws.{IsList, TermAsks, WithinAsks}
use Rattle.ess_numbered_laws.proofs.ExamplesCounted.{q, k, names, with_cell, uneven, three, products}

-- An env where the cell has 1, and names have these values.
abbrev here : Names Value → Env
here vs = record (with_cell 1) { vals = vs }

-- `[[1, 2], [3]][k]` is the list `[1, 2]` there.
is_list : (vs : Names Value) → IsList (uneven k) (here vs)
is_list vs = record { items = v 1 ∷ v 2 ∷ []; value = refl }

-- `sum([2, 1])` is a bound of it.
has_most : (vs : Names Value) (u : Value) → meaning (uneven k) (here vs) ≡ Some u → length (items_of u) ≤ 3
has_most vs u e = subst (λ m. length (items_of m) ≤ 3)
    (ap (λ m. elim m [ Some z ↦ z | None ↦ u ]) e) (let z : 2 ≤ 3 = omega arith in z)

is_bound : (vs : Names Value) → IsBound three (uneven k) (here vs)
is_bound vs = record { number = 3; value = refl; enough = has_most vs; met = ((tt, (tt, tt)), tt) }

-- So the term has what its rule counts on.
term_has : TermAsks names [] (uneven k) (with_cell 1)
term_has = ((((tt, (tt, tt)), ((tt, tt), tt)), (tt, tt)), λ c. (is_list [], is_bound [], λ b. cc))

-- And so has it behind a name of a number, and an item behind the name, at each of its values.
behind_has : (vs : Names Value) → TermAsks names ((q, int_ty) ∷ []) (uneven k) (here vs)
behind_has vs = ((((tt, (tt, tt)), ((tt, tt), tt)), (tt, tt)), λ c. (is_list vs, is_bound vs, λ b. cc))

item_has : WithinAsks names [] (at (products (uneven k)) (n 3)) (with_cell 1)
item_has = (behind_has _, (behind_has _, tt))

-- Without a term that is counted nothing is asked but that the name is new.
nothing_asked : WithinAsks names [] (at (products (list_of (es1 (n 3)))) (n 3)) (with_cell 1)
nothing_asked = (((tt, tt), λ c. cc), (((tt, tt), λ c. cc), tt))

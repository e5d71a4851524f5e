-- Worked examples of sets whose items are offered once.
use Rattle.std.specs.Prelude.{◌≡◌, refl, true, false, pos, [], ◌∷◌, codes, Some, None}
use Rattle.ess_semantics.specs.declared.words.Op1.{Op1}
use Rattle.ess_semantics.specs.declared.words.Op2.{Op2}
use Rattle.ess_semantics.specs.Lists.{and_then}
use Rattle.ess_semantics.specs.Values.{Text, number}
use Rattle.ess_semantics.specs.Trees.{set_literal, name_pat, Ex, node_ex, comp_ex, ex1, no_gens, over, from, cond}
use Rattle.ess_semantics.specs.Meaning.{empty_env}
use Rattle.ess_semantics.proofs.Shorthands.{N, n, es2, bi, upto, set}
use Rattle.ess_rules_laws.specs.InclusionRules.{every}
use Rattle.ess_rules_laws.specs.Listings.{all_listed}
use Rattle.ess_refine_laws.specs.ItemsOnce.{set_of_items, items_once}

abbrev j : Text
j = codes "j"

abbrev k : Text
k = codes "k"

abbrev y : Text
y = codes "y"

abbrev z : Text
z = codes "z"

abbrev w : Text
w = codes "w"

-- `toSet([j / 2 | j : int(1..4)])`: 0, 1, 1, 2.
abbrev halves : Ex
halves = set_of_items (bi Op2.Div (N j) (n 2)) (over (name_pat j) (upto 4) no_gens)

-- A new name runs over the domain, and the old one over the values before it.
halves_offer : items_once y z w halves ≡ Some (record {
  gens = over (name_pat w) (upto 4) (from (name_pat y) (set_of_items (bi Op2.Div (N w) (n 2)) no_gens) (cond (every z
      (comp_ex (bi Op2.Div (N j) (n 2)) (over (name_pat j) (upto 4) (cond (bi Op2.Lt (N j) (N w)) no_gens)))
      (ex1 true Op1.Not (bi Op2.Eq (N z) (N y)))) no_gens));
  item = N y;
} ∷ [])
halves_offer = refl

-- 1 is new at 2, and not at 3.
each_once : and_then (items_once y z w halves) (λ l. all_listed l empty_env) ≡ Some (number (pos 0) ∷ number (pos 1) ∷ number (pos 2) ∷ [])
each_once = refl

-- `toSet([k | j : int(1..3), k : int(1..j), k >= 2])`: 2 at 2, and 2 and 3 at 3, of which 2 isn't new.
abbrev later : Ex
later = set_of_items (N k) (over (name_pat j) (upto 3) (over (name_pat k) (upto 3)
    (cond (bi Op2.Le (N k) (N j)) (cond (bi Op2.Ge (N k) (n 2)) no_gens))))

new_ones : and_then (items_once y z w later) (λ l. all_listed l empty_env) ≡ Some (number (pos 2) ∷ number (pos 3) ∷ [])
new_ones = refl

-- Without a generator it is the item; a condition goes before the rest.
alone : and_then (items_once y z w (set_of_items (n 7) no_gens)) (λ l. all_listed l empty_env) ≡ Some (number (pos 7) ∷ [])
alone = refl

none : and_then (items_once y z w (set_of_items (n 7) (cond (bi Op2.Lt (n 2) (n 1)) no_gens))) (λ l. all_listed l empty_env) ≡ Some []
none = refl

-- Over a set nothing is offered: which value is earlier isn't said by `<`.
over_sets : items_once y z w (set_of_items (N j) (over (name_pat j) (set (upto 2)) no_gens)) ≡ None
over_sets = refl

over_a_source : items_once y z w (set_of_items (N j) (from (name_pat j) (node_ex false set_literal (es2 (n 1) (n 2))) no_gens)) ≡ None
over_a_source = refl

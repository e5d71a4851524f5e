-- Worked examples of items by number, over several generators and under conditions.
use Rattle.std.specs.Prelude.{◌≡◌, refl, Bool, true, false, ℕ, [], ◌∷◌, codes, Some, None}
use Rattle.ess_semantics.specs.declared.words.Op2.{Op2}
use Rattle.ess_semantics.specs.declared.words.Fun.{Fun}
use Rattle.ess_semantics.specs.Values.{Text, truth}
use Rattle.ess_semantics.specs.Trees.{by_value, to_component, index, name_pat, Ex, truth_ex, node_ex, comp_ex, Gens, no_gens, over, cond, bool_dom}
use Rattle.ess_semantics.specs.Meaning.{empty_env, meaning}
use Rattle.ess_semantics.proofs.Shorthands.{N, n, v, es1, es2, bi, fn, range, upto, at}
use Rattle.ess_ordered_laws.specs.NumberedItems.{numbered_lookup}
use Rattle.ess_ordered_laws.specs.Laws.{NumberedApart}
use Rattle.ess_ordered_laws.proofs.ExamplesOrdered.{q, r, a, b, c, z, alone_means, over_item_means, tuple}

-- `[q + r | q : int(1..2), r : int(1..q)]`.
abbrev sums : Ex
sums = comp_ex (bi Op2.Plus (N q) (N r)) (over (name_pat q) (upto 2) (over (name_pat r) (range (n 1) (N q)) no_gens))

-- How many items the values of q before a bring: `sum([1 | q : int(1..2), q < a, r : int(1..q)])`.
abbrev before_a : Ex
before_a = fn Fun.Sum (comp_ex (n 1)
    (over (name_pat q) (upto 2) (cond (bi Op2.Lt (N q) (N a)) (over (name_pat r) (range (n 1) (N q)) no_gens))))

-- The third is looked up by `[a + b | a : int(1..2), b : int(1..a), b = 3 - ..]`.
two_generators : numbered_lookup z (a ∷ b ∷ []) (at sums (n 3)) ≡ Some (record {
  gens = over (name_pat a) (upto 2) (over (name_pat b) (range (n 1) (N a)) (cond (bi Op2.Eq (N b) (bi Op2.Minus (n 3) before_a)) no_gens));
  item = bi Op2.Plus (N a) (N b);
} ∷ [])
two_generators = refl

-- The items are 2, 3 and 4.
each_sum : (alone_means (at sums (n 1)) ≡ Some (v 2)) × (alone_means (at sums (n 2)) ≡ Some (v 3))
    × (alone_means (at sums (n 3)) ≡ Some (v 4)) × (meaning (at sums (n 1)) empty_env ≡ Some (v 2))
    × (meaning (at sums (n 2)) empty_env ≡ Some (v 3)) × (meaning (at sums (n 3)) empty_env ≡ Some (v 4))
each_sum = (refl, refl, refl, refl, refl, refl)

-- There is no fourth. A sum over none is 0: so the rule asks for a number that is there.
no_fourth : (meaning (at sums (n 4)) empty_env ≡ None) × (alone_means (at sums (n 4)) ≡ Some (v 0))
    × (meaning (at sums (n 0)) empty_env ≡ None) × (alone_means (at sums (n 0)) ≡ Some (v 0))
no_fourth = (refl, refl, refl, refl)

-- Its names are told apart as the law counts on: a and b stand nowhere in it, and neither q nor r in its own domain.
sums_apart : NumberedApart z (a ∷ b ∷ []) (at sums (n 3))
sums_apart = (
  tt,
  ((refl, (refl, tt)), (refl, (tt, (refl, tt)), tt)),
  (tt, (tt, tt)),
  (tt, (tt, tt)),
  refl,
  ((refl, (refl, tt)), (refl, (tt, (refl, tt)), tt)),
  (
    (tt, (((tt, (refl, (tt, (tt, tt)), ((refl, (refl, tt)), (refl, (tt, (refl, tt)), tt)))), tt), tt)),
    ((refl, (refl, tt)), tt),
    (tt, (refl, tt)),
    (tt, (refl, tt)),
    refl,
    ((refl, (refl, tt)), tt),
    tt,
  ),
)

-- Two names are too few for a condition behind a generator, three are enough: `[a | a : int(1..5), a > 2, 2 - .. = 1]`.
abbrev above_two : Ex
above_two = comp_ex (N q) (over (name_pat q) (upto 5) (cond (bi Op2.Gt (N q) (n 2)) no_gens))

abbrev above_before_a : Ex
above_before_a = fn Fun.Sum (comp_ex (n 1)
    (over (name_pat q) (upto 5) (cond (bi Op2.Lt (N q) (N a)) (cond (bi Op2.Gt (N q) (n 2)) no_gens))))

under_a_condition : (numbered_lookup z (a ∷ b ∷ []) (at above_two (n 2)) ≡ None)
    × (numbered_lookup z (a ∷ b ∷ c ∷ []) (at above_two (n 2)) ≡ Some (record {
      gens = over (name_pat a) (upto 5)
          (cond (bi Op2.Gt (N a) (n 2)) (cond (bi Op2.Eq (bi Op2.Minus (n 2) above_before_a) (n 1)) no_gens));
      item = N a;
    } ∷ []))
under_a_condition = (refl, refl)

-- The second is 4; there are three.
conditions_mean : (meaning (at above_two (n 2)) empty_env ≡ Some (v 4)) × (alone_means (at above_two (n 2)) ≡ Some (v 4))
    × (alone_means (at above_two (n 3)) ≡ Some (v 5)) × (meaning (at above_two (n 4)) empty_env ≡ None)
conditions_mean = (refl, refl, refl, refl)

-- A condition before the generator that bounds it: `[q | q : int(1..3), q > 1, r : int(q..3)]` is `[2, 2, 3]`.
abbrev between_two : Ex
between_two = comp_ex (N q)
    (over (name_pat q) (upto 3) (cond (bi Op2.Gt (N q) (n 1)) (over (name_pat r) (range (N q) (n 3)) no_gens)))

conditions_between : (meaning (at between_two (n 2)) empty_env ≡ Some (v 2)) × (alone_means (at between_two (n 2)) ≡ Some (v 2))
    × (meaning (at between_two (n 3)) empty_env ≡ Some (v 3)) × (alone_means (at between_two (n 3)) ≡ Some (v 3))
conditions_between = (refl, refl, refl, refl)

-- Truth values: out of range both are false.
abbrev true_at : Gens → ℕ → Ex
true_at gs k = node_ex true (index (by_value ∷ [])) (es2 (comp_ex (truth_ex true) gs) (n k))

abbrev two_with : Gens → Gens
two_with gs = over (name_pat q) (upto 2) gs

abbrev under : Bool → Gens
under t = cond (truth_ex t) no_gens

of_truth : (meaning (true_at (two_with (under true)) 1) empty_env ≡ Some (truth true))
    × (alone_means (true_at (two_with (under true)) 1) ≡ Some (truth true))
    × (meaning (true_at (two_with (under true)) 3) empty_env ≡ Some (truth false))
    × (alone_means (true_at (two_with (under true)) 3) ≡ Some (truth false))
of_truth = (refl, refl, refl, refl)

-- Conditions alone: `[true | true][1]`, `[true | false][1]` and `[true | true][2]`.
conditions_alone : (alone_means (true_at (under true) 1) ≡ Some (truth true)) × (alone_means (true_at (under false) 1) ≡ Some (truth false))
    × (alone_means (true_at (under true) 2) ≡ Some (truth false)) × (meaning (true_at (under true) 1) empty_env ≡ Some (truth true))
    × (meaning (true_at (under false) 1) empty_env ≡ Some (truth false)) × (meaning (true_at (under true) 2) empty_env ≡ Some (truth false))
conditions_alone = (refl, refl, refl, refl, refl, refl)

-- Names over truth values: `[toInt(q) + r | q : bool, r : int(3..4)]` is `[3, 4, 4, 5]`.
abbrev over_truths : Ex
over_truths = comp_ex (bi Op2.Plus (fn Fun.ToInt (N q)) (N r)) (over (name_pat q) bool_dom (over (name_pat r) (range (n 3) (n 4)) no_gens))

truths_mean : (alone_means (at over_truths (n 2)) ≡ Some (v 4)) × (alone_means (at over_truths (n 4)) ≡ Some (v 5))
    × (meaning (at over_truths (n 2)) empty_env ≡ Some (v 4)) × (meaning (at over_truths (n 4)) empty_env ≡ Some (v 5))
truths_mean = (refl, refl, refl, refl)

-- `[(q, r) | q : int(1..2), r : int(1..2)][3] = (2, 1)`, and of its second component.
abbrev all_pairs : Ex
all_pairs = comp_ex (tuple (N q) (N r)) (two_with (over (name_pat r) (upto 2) no_gens))

tuples_mean : (meaning (bi Op2.Eq (at all_pairs (n 3)) (tuple (n 2) (n 1))) empty_env ≡ Some (truth true))
    × (over_item_means (bi Op2.Eq (at all_pairs (n 3)) (tuple (n 2) (n 1))) ≡ Some (truth true))
    × (over_item_means (bi Op2.Eq (tuple (n 2) (n 1)) (at all_pairs (n 3))) ≡ Some (truth true))
    × (over_item_means (bi Op2.Eq (at all_pairs (n 2)) (tuple (n 2) (n 1))) ≡ Some (truth false))
    × (over_item_means (bi Op2.Eq (at all_pairs (n 5)) (tuple (n 2) (n 1))) ≡ Some (truth false))
tuples_mean = (refl, refl, refl, refl, refl)

second_component : (meaning (node_ex false (index (to_component 2 ∷ [])) (es1 (at all_pairs (n 2)))) empty_env ≡ Some (v 2))
    × (alone_means (node_ex false (index (to_component 2 ∷ [])) (es1 (at all_pairs (n 2)))) ≡ Some (v 2))
second_component = (refl, refl)

-- A domain without values on the way: `[q | q : int(1..3), r : int(2..q)]` is `[2, 3, 3]`.
abbrev some_empty : Ex
some_empty = comp_ex (N q) (over (name_pat q) (upto 3) (over (name_pat r) (range (n 2) (N q)) no_gens))

empty_means : (alone_means (at some_empty (n 1)) ≡ Some (v 2)) × (alone_means (at some_empty (n 3)) ≡ Some (v 3))
    × (meaning (at some_empty (n 1)) empty_env ≡ Some (v 2)) × (meaning (at some_empty (n 3)) empty_env ≡ Some (v 3))
empty_means = (refl, refl, refl, refl)

-- Three generators: `[q * r * x | q : int(1..2), r : int(1..2), x : int(2..3)]` is `[2, 3, 4, 6, 4, 6, 8, 12]`.
abbrev x : Text
x = codes "x"

abbrev products : Ex
products = comp_ex (bi Op2.Times (N q) (bi Op2.Times (N r) (N x)))
    (two_with (over (name_pat r) (upto 2) (over (name_pat x) (range (n 2) (n 3)) no_gens)))

products_mean : (alone_means (at products (n 2)) ≡ Some (v 3)) × (alone_means (at products (n 5)) ≡ Some (v 4))
    × (alone_means (at products (n 8)) ≡ Some (v 12)) × (meaning (at products (n 2)) empty_env ≡ Some (v 3))
    × (meaning (at products (n 5)) empty_env ≡ Some (v 4)) × (meaning (at products (n 8)) empty_env ≡ Some (v 12))
products_mean = (refl, refl, refl, refl, refl, refl)

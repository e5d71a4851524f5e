-- Worked examples of what rewriting keeps and leaves: free names, the form of simplified trees, what looks into views, and
-- what a rule at a root promises.
use Rattle.std.specs.Prelude.{◌≡◌, refl, true, false, not, [], ◌∷◌, codes, Option, Some, None, is_some}
use Rattle.ess_semantics.specs.declared.words.Op1.{Op1}
use Rattle.ess_semantics.specs.declared.words.Op2.{Op2}
use Rattle.ess_semantics.specs.declared.words.Fun.{Fun}
use Rattle.ess_semantics.specs.declared.words.ReprKind.{ReprKind}
use Rattle.ess_semantics.specs.Values.{Text, Value}
use Rattle.ess_semantics.specs.Order.{same_text}
use Rattle.ess_semantics.specs.Operators.{value_of_node, false_where_undefined}
use Rattle.ess_semantics.specs.Trees.{binary, word, name_pat, Repr, Ex, truth_ex, node_ex, comp_ex, seen_ex, no_exs, no_gens, over, from}
use Rattle.ess_semantics.specs.Choice.{alone, over_child}
use Rattle.ess_semantics.specs.Meaning.{empty_env, meaning}
use Rattle.ess_semantics.specs.Substitution.{NamesAre}
use Rattle.ess_semantics.specs.FreeNames.{FreeNamesAre}
use Rattle.ess_semantics.specs.Simplified.{is_simplified, Simplifies, at_first, at_later}
use Rattle.ess_semantics.specs.LooksLeft.{below, is_child, into_a_part, LooksLeft}
use Rattle.ess_semantics.specs.Kept.{KeptAtRoot}
use Rattle.ess_semantics.proofs.Shorthands.{N, n, es1, es2, un, bi, fn, upto, set, v}

abbrev x : Text
x = codes "x"

abbrev i : Text
i = codes "i"

-- ---- free names

-- `or([x = i | i : int(1..2)])`
abbrev some_is_x : Ex
some_is_x = fn Fun.Or (comp_ex (bi Op2.Eq (N x) (N i)) (over (name_pat i) (upto 2) no_gens))

-- i is used, and isn't free
i_is_bound : FreeNamesAre (λ a. not (same_text i a)) some_is_x
i_is_bound = ((((tt, (tt, tt)), tt), (refl, (refl, tt))), tt)

i_is_used : NamesAre (λ a. not (same_text i a)) (λ a. true) some_is_x → ⊥
i_is_used h = no h.0.0.1.0
  where
    no : false ≡ true → ⊥
    no e = cc

x_is_free : FreeNamesAre (λ a. not (same_text x a)) some_is_x → ⊥
x_is_free h = no h.0.1.0
  where
    no : false ≡ true → ⊥
    no e = cc

-- a value of i changes nothing
value_of_i : meaning some_is_x (record empty_env { vals = (i, v 7) ∷ (x, v 2) ∷ [] }) ≡ meaning some_is_x (record empty_env { vals = (x, v 2) ∷ [] })
value_of_i = refl

-- ---- simplified trees

abbrev a_lt_b : Ex
a_lt_b = bi Op2.Lt (N x) (N i)

double_negation : is_simplified (un Op1.Not (un Op1.Not a_lt_b)) ≡ false
double_negation = refl

true_in_a_conjunction : is_simplified (fn Fun.And (comp_ex (bi Op2.And (truth_ex true) a_lt_b) no_gens)) ≡ false
true_in_a_conjunction = refl

-- `!(x < i)`, and `true` alone or in a comparison, may stay
negation_of_a_comparison : is_simplified (un Op1.Not a_lt_b) ≡ true
negation_of_a_comparison = refl

true_alone : is_simplified (bi Op2.Eq (truth_ex true) (N x)) ≡ true
true_alone = refl

-- `true -> !(!(x < i))` becomes `x < i`
simplifies : Simplifies (bi Op2.Implies (truth_ex true) (un Op1.Not (un Op1.Not a_lt_b))) a_lt_b
simplifies = record {
  form = refl;
  no_larger = refl;
  nodes = (
    (λ e. at_later (at_later (at_later (at_later (at_first refl))))),
    ((λ e. at_later (at_later (at_later (at_later (at_later (at_first refl)))))), ((λ e. at_later (at_later (at_later (at_later (at_later (at_later (at_first refl))))))), tt)),
  );
}

-- ---- what is left below a root

-- a set of sets kept as a table over slots, and the set in its slot i
abbrev inner : Repr
inner = alone ReprKind.Occurrence

abbrev view_of_sets : Ex
view_of_sets = seen_ex (over_child ReprKind.Explicit inner) (set (set (upto 3))) (x ∷ []) no_exs

abbrev slot : Ex
slot = seen_ex inner (set (upto 3)) (x ∷ []) (es1 (N i))

-- `or([2 in t | t <- view])`, and the same over slots
abbrev t : Text
t = codes "t"

abbrev over_view : Ex
over_view = comp_ex (bi Op2.Member (n 2) (N t)) (from (name_pat t) view_of_sets no_gens)

abbrev over_slots : Ex
over_slots = comp_ex (bi Op2.Member (n 2) slot) (over (name_pat i) (upto 2) no_gens)

looks_into_a_slot : LooksLeft over_view over_slots
looks_into_a_slot = ((λ w e. into_a_part inner (over_child ReprKind.Explicit inner) refl refl (below is_child)), ((λ w e. cc), ((λ w e. cc), ((λ w e. cc), ((λ w e. cc), ((λ w e. cc), ((λ w e. cc), ((λ w e. cc), tt))))))))

-- ---- what a rule at a root promises

-- `[3 - i | i : int(1..2)]` has the items of `[i | i : int(1..2)]` in another order
abbrev upwards : Ex
upwards = comp_ex (N i) (over (name_pat i) (upto 2) no_gens)

abbrev downwards : Ex
downwards = comp_ex (bi Op2.Minus (n 3) (N i)) (over (name_pat i) (upto 2) no_gens)

not_where_order_counts : KeptAtRoot true (λ env. Unit {0}) upwards downwards → ⊥
not_where_order_counts h = let e : meaning upwards empty_env ≡ meaning downwards empty_env = (h empty_env tt ((tt, (tt, tt)), (tt, (tt, tt)))).0 in cc

-- an application promises that structures are met only where it has a value
abbrev of_x : Ex
of_x = node_ex false (word Fun.Image) (es2 (N x) (n 1))

abbrev beside_view : Ex
beside_view = bi Op2.Union of_x view_of_sets

nothing_is_asked : KeptAtRoot true (λ env. meaning of_x env ≡ None) of_x beside_view
nothing_is_asked env p m = (go (meaning of_x env) p, λ s. absurd (no (meaning of_x env) p s))
  where
    no : (o : Option Value) → o ≡ None → is_some o ≡ true → ⊥
    no None e s = cc
    no (Some w) e s = cc

    go : (o : Option Value) → o ≡ None → o ≡ false_where_undefined false (value_of_node (binary Op2.Union) (o ∷ meaning view_of_sets env ∷ []))
    go None e = refl
    go (Some w) e = cc

-- Worked examples of what rules keep: rewrites that are kept and rewrites that aren't, and a generator over a view that
-- becomes one over the members of its domain.
use Rattle.std.specs.Prelude.{◌≡◌, refl, true, false, not, [], ◌∷◌, codes, Option, Some, None, IsTrue}
use Rattle.std.proofs.Common.{ap, arith}
use Rattle.std.proofs.lemmas.Int.{ints}
use Rattle.ess_semantics.specs.declared.words.Op2.{Op2}
use Rattle.ess_semantics.specs.declared.words.Fun.{Fun}
use Rattle.ess_semantics.specs.Values.{Text, Value, number, truth}
use Rattle.ess_semantics.specs.Names.{look}
use Rattle.ess_semantics.specs.Types.{int_ty}
use Rattle.ess_semantics.specs.TypeMembers.{is_of_type}
use Rattle.ess_semantics.specs.Order.{same}
use Rattle.ess_semantics.specs.Collections.{set_of}
use Rattle.ess_semantics.specs.Trees.{binary, name_pat, Ex, truth_ex, comp_ex, cell_ex, seen_ex, no_exs, no_gens, over, from, cond}
use Rattle.ess_semantics.specs.declared.words.ReprKind.{ReprKind}
use Rattle.ess_semantics.specs.Choice.{alone}
use Rattle.ess_semantics.specs.Operators.{value_of_node, false_where_undefined}
use Rattle.ess_semantics.specs.Meaning.{Env, empty_env, meaning}
use Rattle.ess_semantics.specs.Meets.{Meets}
use Rattle.ess_semantics.specs.Kept.{Kept, KeptWhere, KeptAtRoot}
use Rattle.ess_semantics.specs.Typed.{Typed}
use Rattle.ess_semantics.specs.ModelMeaning.{env_of_tables}
use Rattle.ess_semantics.proofs.Shorthands.{N, n, es1, bi, fn, upto, set, v}
use Rattle.ess_semantics.proofs.ExamplesModels.{s_occ, bits, i}
use Rattle.ess_rules_laws.proofs.Permutations.{same_list, swap, count-perm}
use Rattle.ess_rules_laws.proofs.SameItems.{root-kept}
use Rattle.ess_rules_laws.proofs.Unordered.{sum-unordered}
use Rattle.ess_rules_laws.proofs.Listing.{Listed, listed-kept}

abbrev x : Text
x = codes "x"

abbrev is_one : Ex
is_one = bi Op2.Eq (N x) (n 1)

-- where no name has a type any env will do
untyped : (env : Env) → Typed [] env
untyped env a t w e f = cc

-- `true /\ x = 1` is `x = 1`
true_is_dropped : Kept [] (bi Op2.And (truth_ex true) is_one) is_one
true_is_dropped env p m = (refl, (m.1 refl).0)

-- `x = 1` isn't `true`
not_always : Kept [] is_one (truth_ex true) → ⊥
not_always h = let e : Some (truth false) ≡ Some (truth true) = (h empty_env (untyped empty_env) (tt, (tt, tt))).0 in cc

-- but it is where x is 1
where_x_is_one : KeptWhere (λ env. meaning (N x) env ≡ Some (v 1)) is_one (truth_ex true)
where_x_is_one env p m = (ap (λ o. false_where_undefined true (value_of_node (binary Op2.Eq) (o ∷ Some (v 1) ∷ []))) p, tt)

-- `x + 0` is x where x is a number, and isn't where x is `true`
abbrev and_0 : Ex
and_0 = bi Op2.Plus (N x) (n 0)

where_x_is_a_number : Kept ((x, int_ty) ∷ []) and_0 (N x)
where_x_is_a_number env p m = (go (look env.vals x) refl, tt)
  where
    sum : (w : Value) → IsTrue (is_of_type int_ty env w) → value_of_node (binary Op2.Plus) (Some w ∷ Some (v 0) ∷ []) ≡ Some w
    sum (number k) t = ap (λ z. Some (number z)) (omega (arith, ints))
    sum _ t = cc

    go : (o : Option Value) → look env.vals x ≡ o → false_where_undefined false (value_of_node (binary Op2.Plus) (o ∷ Some (v 0) ∷ [])) ≡ o
    go None q = refl
    go (Some w) q = sum w (p x int_ty w refl q)

not_where_x_is_true : KeptWhere (λ env. Unit {0}) and_0 (N x) → ⊥
not_where_x_is_true h = let e : Some (v 0) ≡ Some (truth true) = (h (record empty_env { vals = (x, truth true) ∷ [] }) tt (tt, (tt, tt))).0 in cc

-- `[3 - x | x : int(1..2)]` has the items of `[x | x : int(1..2)]` in another order: so a rule may put it there under `sum`
abbrev upwards : Ex
upwards = comp_ex (N x) (over (name_pat x) (upto 2) no_gens)

abbrev downwards : Ex
downwards = comp_ex (bi Op2.Minus (n 3) (N x)) (over (name_pat x) (upto 2) no_gens)

in_another_order : KeptAtRoot false (λ env. Unit {0}) upwards downwards
in_another_order env p m = (count-perm (swap {x = v 1} {y = v 2} {xs = []}), ((tt, (tt, tt)), ((tt, (tt, tt)), ((tt, (tt, tt)), tt))))

kept_under_sum : KeptWhere (λ env. Unit {0}) (fn Fun.Sum upwards) (fn Fun.Sum downwards)
kept_under_sum = root-kept (λ env. Unit {0}) Fun.Sum refl false (N x) (bi Op2.Minus (n 3) (N x)) (over (name_pat x) (upto 2) no_gens) (over (name_pat x) (upto 2) no_gens) in_another_order

-- a view of a set of int(1..3), kept as a table of truth values
abbrev view : Ex
view = seen_ex (alone ReprKind.Occurrence) (set (upto 3)) (s_occ ∷ []) no_exs

-- `true` and `true \/ 9 in s` mean the same, but tables need not meet the structure of s
view_out_of_nowhere : Kept [] (truth_ex true) (bi Op2.Or (truth_ex true) (bi Op2.Member (n 9) view)) → ⊥
view_out_of_nowhere h = no (h (env_of_tables []) (untyped (env_of_tables [])) tt).1
  where
    no : Meets (bi Op2.Or (truth_ex true) (bi Op2.Member (n 9) view)) (env_of_tables []) → ⊥
    no m = cc

-- ---- the members of the view, listed

abbrev env : Env
env = env_of_tables (bits 1 0 1)

abbrev in_use : Ex
in_use = cell_ex true s_occ (es1 (N i))

listed : Listed env.positions env.types env.cells [] i view (upto 3) in_use (N i)
listed = record {
  value = set_of (v 1 ∷ v 3 ∷ []);
  us = v 1 ∷ v 2 ∷ v 3 ∷ [];
  t = λ u. not (same u (v 2));
  val = λ u. u;
  seen = refl;
  members = refl;
  tested = (refl, (refl, (refl, tt)));
  item = ((λ e. (refl, tt)), ((λ e. (refl, tt)), ((λ e. (refl, tt)), tt)));
  items = same_list;
  dom_meets = (tt, (tt, tt));
  test_meets = ((tt, tt), ((tt, tt), ((tt, tt), tt)));
}

-- `sum([i | i <- s])` is `sum([i | i : int(1..3), s_Occurrence[i]])`
abbrev before : Ex
before = fn Fun.Sum (comp_ex (N i) (from (name_pat i) view no_gens))

abbrev after : Ex
after = fn Fun.Sum (comp_ex (N i) (over (name_pat i) (upto 3) (cond in_use no_gens)))

sum_over_members : (meaning before env ≡ meaning after env) × Meets after env
sum_over_members =
    listed-kept env.positions env.types env.cells [] i view (upto 3) in_use (N i) listed no_gens (N i) (λ a. true) refl refl tt refl
    false Fun.Sum sum-unordered (((refl, (tt, (tt, (tt, tt))), tt), (tt, (tt, tt))), tt)

sum_is_4 : meaning after env ≡ Some (v 4)
sum_is_4 = refl

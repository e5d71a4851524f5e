-- Worked examples: a root with its source told apart, the names that rules take, the matrices that are compared, and the rules that are
-- asked.
use Rattle.std.proofs.Common.{◌≡◌, refl, true, false, List, [], ◌∷◌, length, Option, Some, None, pos, codes}
use Rattle.std.specs.Prelude.{is_some}
use Rattle.std.specs.List.{list_any}
use Rattle.std.specs.Fmt.{digits}
use Rattle.ess_semantics.specs.declared.words.Fun.{Fun}
use Rattle.ess_semantics.specs.declared.words.Op2.{Op2}
use Rattle.ess_semantics.specs.Trees.{
  name_pat,
  matrix_literal,
  Ex,
  number_ex,
  name_ex,
  node_ex,
  comp_ex,
  no_exs,
  more_exs,
  Gens,
  no_gens,
  over,
  from,
  cond,
  bool_dom,
  tuple_dom,
  no_doms,
  ex2,
  fun1,
}
use Rattle.ess_semantics.specs.Names.{Names}
use Rattle.ess_semantics.specs.Types.{Ty}
use Rattle.ess_semantics.proofs.Tests.{or-left-no, or-right-no}
use Rattle.ess_refine_laws.specs.AllRules.{over_a_source, over_a_term, least_under_a_condition}
use Rattle.conjure_model_laws.specs.ToldApart.{reserved}
use Rattle.ess_ordered_laws.specs.OrderedRules.{source_by_indices}
use Rattle.ess_rules.specs.Ruled.{
  Ruling,
  reserved_from,
  supply_at,
  behind_names,
  new_source,
  with_new_source,
  plainly,
  gathering,
  in_order,
  ruled,
  root_of,
  behind_root,
  behind_ruling,
  both_told,
  folds_asked,
  source_rules_asked,
  rules_asked,
  NoneOf,
  NoneFires,
}

abbrev x : Ex
x = name_ex (codes "x")

abbrev b : Ex
b = name_ex (codes "b")

-- [y | y : bool], with a name for y.
abbrev truths : Ex → Gens → Ex
truths y gs = comp_ex y gs

abbrev source : Ex
source = truths (name_ex (codes "y")) (over (name_pat (codes "y")) bool_dom no_gens)

abbrev source_anew : Ex
source_anew = truths (name_ex (reserved 7)) (over (name_pat (reserved 7)) bool_dom no_gens)

-- and([x | b, z : bool, x <- [y | y : bool], x <- [y | y : bool]]): only the first source is told apart.
abbrev fold_over : Ex → Ex
fold_over s =
    fun1 true Fun.And (comp_ex x (cond b (over (name_pat (codes "z")) bool_dom
    (from (name_pat (codes "x")) s (from (name_pat (codes "x")) source no_gens)))))

first_source : with_new_source 7 (fold_over source) ≡ (fold_over source_anew, 8)
first_source = refl

-- A comprehension that isn't under a word has its source told apart too; another root stays.
alone : with_new_source 7 (comp_ex x (from (name_pat (codes "x")) source no_gens))
    ≡ (comp_ex x (from (name_pat (codes "x")) source_anew no_gens), 8)
alone = refl

stays : with_new_source 7 source ≡ (source, 7)
stays = refl

another_root : with_new_source 7 (ex2 true Op2.Eq source source) ≡ (ex2 true Op2.Eq source source, 7)
another_root = refl

-- A generator over tuples isn't plain: what stands behind it stays.
tuples_first : (gs : Gens) → new_source 7 (over (name_pat (codes "t")) (tuple_dom no_doms) gs)
    ≡ (over (name_pat (codes "t")) (tuple_dom no_doms) gs, 7)
tuples_first gs = refl

-- A rule that puts the source in is used where it is told apart, any other one at the root itself.
put_in : root_of 7 (plainly over_a_source) (fold_over source) ≡ fold_over source_anew
put_in = refl

behind_put_in : behind_root 7 (plainly over_a_source) (fold_over source) ≡ 8
behind_put_in = refl

put_nothing_in : root_of 7 (plainly over_a_term) (fold_over source) ≡ fold_over source
put_nothing_in = refl

-- Three reserved names from the fifth on.
three_names : reserved_from 5 3 ≡ (codes "#5" ∷ codes "#6" ∷ codes "#7" ∷ [])
unfolding digits
three_names = refl

-- Only `min` and `max` under a condition take names behind those of the supply.
no_copy : behind_names 7 over_a_term (fold_over source) ≡ 7
no_copy = refl

no_condition : behind_names 7 least_under_a_condition (fun1 false Fun.Min source) ≡ 7
no_condition = refl

-- A list literal tells its index domain, a name does not.
told_by_both : both_told (ex2 true Op2.Eq (node_ex false matrix_literal (more_exs b no_exs)) (node_ex false matrix_literal no_exs)) ≡ true
told_by_both = refl

told_by_one : both_told (ex2 true Op2.Eq (node_ex false matrix_literal (more_exs b no_exs)) x) ≡ false
told_by_one = refl

-- A comprehension over a domain tells it, one over a source doesn't before the source is opened.
told_over_a_domain : both_told (ex2 true Op2.Eq source (node_ex false matrix_literal no_exs)) ≡ true
told_over_a_domain = refl

told_over_a_source :
    both_told (ex2 true Op2.Eq (comp_ex x (from (name_pat (codes "x")) source no_gens)) (node_ex false matrix_literal no_exs)) ≡ false
told_over_a_source = refl

-- The rule that gathers conditions takes no names, and is used at the root itself.
gathered_here : (root_of 7 gathering (fold_over source) ≡ fold_over source) × (behind_ruling 7 gathering (fold_over source) ≡ 7)
gathered_here = (refl, refl)

-- So it is with those of comprehensions whose items have an order: they put no source in.
ordered_here : (root_of 7 (in_order source_by_indices) source ≡ source) × (behind_ruling 7 (in_order source_by_indices) source ≡ 7)
ordered_here = (refl, refl)

-- ---- what is asked

-- So many rules are asked of every root, those that put a source in among them.
asked : (length rules_asked ≡ 86) × (length source_rules_asked ≡ 6)
asked = (refl, refl)

-- Where a test says of each rule that it makes nothing, none fires.
none_tested : (f : Ruling → Ex → Option Ex) (g : Names Ty) (a : Ex) (rs : List Ruling) → list_any (λ r. is_some (f r a)) rs ≡ false
    → NoneOf f g rs a
none_tested f g a [] h = tt
none_tested f g a (r ∷ rs) h = (
  λ m. nothing (f r a) (or-left-no (is_some (f r a)) (list_any (λ r. is_some (f r a)) rs) h),
  none_tested f g a rs (or-right-no (is_some (f r a)) (list_any (λ r. is_some (f r a)) rs) h),
)
  where
    nothing : (o : Option Ex) → is_some o ≡ false → o ≡ None
    nothing None k = refl
    nothing (Some b) k = cc

-- None of them fires at a name, at a number, or at a sum of both.
at_a_name : NoneFires 5 [] x
at_a_name = record {
  count = 0;
  none = none_tested (λ r e. ruled (supply_at 5 0) [] r (root_of 8 r e)) [] x rules_asked refl;
}

at_a_sum : NoneFires 5 [] (ex2 false Op2.Plus x (number_ex (pos 3)))
at_a_sum = record {
  count = 0;
  none = none_tested (λ r e. ruled (supply_at 5 0) [] r (root_of 8 r e)) [] (ex2 false Op2.Plus x (number_ex (pos 3))) rules_asked refl;
}

-- One fires at `and([])`.
one_fires : list_any (λ r. is_some (ruled (supply_at 5 0) [] r (fun1 true Fun.And (node_ex false matrix_literal no_exs)))) folds_asked
    ≡ true
one_fires = refl

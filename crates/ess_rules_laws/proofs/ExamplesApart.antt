-- Worked examples of expressions that are apart by their form.
use Rattle.std.specs.Prelude.{◌≡◌, refl, true, false, [], ◌∷◌, codes, Some}
use Rattle.ess_semantics.specs.declared.words.Op2.{Op2}
use Rattle.ess_semantics.specs.Trees.{tuple_literal, set_literal, function_literal, truth_ex, node_ex, more_exs, no_gens, cond}
use Rattle.ess_semantics.proofs.Shorthands.{N, n, es1, es2, bi}
use Rattle.ess_rules_laws.specs.FunctionMembershipRules.{pair_ex}
use Rattle.ess_rules_laws.specs.Apart.{are_apart}
use Rattle.ess_rules_laws.specs.Listings.{each_first}
use Rattle.ess_rules_laws.specs.AlternativeLookups.{pairs_by_cases}
use Rattle.ess_rules_laws.proofs.NoneOf.{is_other}

-- 1 and 2
two_numerals : are_apart (n 1) (n 2) ≡ true
two_numerals = refl

-- 1 and 1
one_numeral : are_apart (n 1) (n 1) ≡ false
one_numeral = refl

two_truth_values : are_apart (truth_ex true) (truth_ex false) ≡ true
two_truth_values = refl

one_truth_value : are_apart (truth_ex false) (truth_ex false) ≡ false
one_truth_value = refl

-- `(a, 1)` and `(a, 2)`: the second components differ.
second_component :
    are_apart (node_ex false tuple_literal (es2 (N (codes "a")) (n 1))) (node_ex false tuple_literal (es2 (N (codes "a")) (n 2))) ≡ true
second_component = refl

-- `(a, 1)` and `(b, 1)`
names_in_tuples :
    are_apart (node_ex false tuple_literal (es2 (N (codes "a")) (n 1))) (node_ex false tuple_literal (es2 (N (codes "b")) (n 1))) ≡ false
names_in_tuples = refl

-- The form doesn't tell of a name, of sets and of terms that are to be computed.
name_and_numeral : are_apart (N (codes "a")) (n 1) ≡ false
name_and_numeral = refl

sets : are_apart (node_ex false set_literal (es1 (n 1))) (node_ex false set_literal (es1 (n 2))) ≡ false
sets = refl

-- ---- conditions that are left out

-- Of `{1, 2, a}` the second item is another than the first one, and the third may be any of them.
three_items : each_first [] (more_exs (n 1) (es2 (n 2) (N (codes "a")))) ≡
    record { gens = no_gens; item = n 1 } ∷ record { gens = no_gens; item = n 2 } ∷ record {
      gens = cond (is_other (n 2) (N (codes "a"))) (cond (is_other (n 1) (N (codes "a"))) no_gens);
      item = N (codes "a");
    } ∷ []
three_items = refl

-- `function(1 --> 5, 2 --> 6)(a)` is 5 where a is 1, and 6 where a is 2.
two_results : pairs_by_cases (node_ex false function_literal (es2 (pair_ex (n 1) (n 5)) (pair_ex (n 2) (n 6)))) (N (codes "a")) ≡
    Some (record { gens = cond (bi Op2.Eq (N (codes "a")) (n 1)) no_gens; item = n 5 } ∷
    record { gens = cond (bi Op2.Eq (N (codes "a")) (n 2)) no_gens; item = n 6 } ∷ [])
two_results = refl

-- `function(b --> 5, 2 --> 6)(a)` is 6 where a is 2 and isn't b.
after_a_name : pairs_by_cases (node_ex false function_literal (es2 (pair_ex (N (codes "b")) (n 5)) (pair_ex (n 2) (n 6)))) (N (codes "a")) ≡
    Some (record { gens = cond (bi Op2.Eq (N (codes "a")) (N (codes "b"))) no_gens; item = n 5 } ∷ record {
      gens = cond (bi Op2.Eq (N (codes "a")) (n 2)) (cond (is_other (N (codes "b")) (N (codes "a"))) no_gens);
      item = n 6;
    } ∷ [])
after_a_name = refl

-- `function(1 --> 5, b --> 6)(3)` is 6 where 3 is b: 1 is another number.
at_a_numeral : pairs_by_cases (node_ex false function_literal (es2 (pair_ex (n 1) (n 5)) (pair_ex (N (codes "b")) (n 6)))) (n 3) ≡
    Some (record { gens = cond (bi Op2.Eq (n 3) (n 1)) no_gens; item = n 5 } ∷
    record { gens = cond (bi Op2.Eq (n 3) (N (codes "b"))) no_gens; item = n 6 } ∷ [])
at_a_numeral = refl

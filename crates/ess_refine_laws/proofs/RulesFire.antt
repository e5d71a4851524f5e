-- A rule that fires is one of all rules.
use Rattle.std.proofs.Common.{◌≡◌, refl, ap, ◌∙◌, ℕ, zero, suc, true, if◌then◌else◌, List, [], ◌∷◌, Option, Some, None}
use Rattle.std.specs.Prelude.{is_some}
use Rattle.ess_semantics.specs.declared.words.Op2.{Op2}
use Rattle.ess_semantics.specs.Lists.{or_else, item_number}
use Rattle.ess_semantics.specs.Values.{a_matrix}
use Rattle.ess_semantics.specs.Names.{Names}
use Rattle.ess_semantics.specs.Trees.{Ex, ex2, Dom}
use Rattle.ess_semantics.specs.Types.{Ty, no_tys, more_tys, compound}
use Rattle.ess_semantics.specs.Typing.{type_of}
use Rattle.ess_rules_laws.specs.InclusionRules.{unequal}
use Rattle.ess_rules_laws.specs.MatrixRules.{both_matrices, lies_in, equal_each_at, equal_items}
use Rattle.ess_rules_laws.specs.Progress.{is_abstract, Fires, by_unequal, by_turned, by_strictly, by_often, by_member, by_size, by_frequency, by_together, by_fold, by_list, by_lists, by_components, by_fields, by_sets, by_msets, by_functions, by_partitions, by_matrices}
use Rattle.ess_refine_laws.specs.AllRules.{Rule, over_a_term, not_equal, turned, strictly, equal_tuples, equal_records, equal_sets, equal_multisets, equal_functions, equal_partitions, equal_matrices_at, included_multisets, in_a_term, size, frequency, together, list_of_a_term, lists_on_both_sides, Supply, matrices_at, rewrite, all_rules, first_rewrite, rule_at}

first-there : (s : Supply) (g : Names Ty) (e f : Ex) (r : Rule) (rs : List Rule) (n : ℕ) → item_number rs n ≡ Some r →
    rewrite s g r e ≡ Some f → is_some (first_rewrite s g rs e) ≡ true
first-there s g e f r [] n i q = cc
first-there s g e f r (u ∷ rs) zero i q = ap (λ o. is_some (or_else o (first_rewrite s g rs e)))
    (ap (λ o. elim o [ None ↦ rewrite s g u e | Some t ↦ rewrite s g t e ]) i ∙ q)
first-there s g e f r (u ∷ rs) (suc n) i q = go (rewrite s g u e) (first-there s g e f r rs n i q)
  where
    go : (o : Option Ex) → is_some (first_rewrite s g rs e) ≡ true → is_some (or_else o (first_rewrite s g rs e)) ≡ true
    go None h = h
    go (Some a) h = refl

-- The rule with this many before it fires.
pub fires-by : (s : Supply) (g : Names Ty) (e : Ex) {f : Ex} (r : Rule) (n : ℕ) → item_number all_rules n ≡ Some r →
    rewrite s g r e ≡ Some f → is_some (rule_at s g e) ≡ true
fires-by s g e {f = f} r n i q = first-there s g e f r all_rules n i q

both-there : (o p : Option Ty) (F G : Ty → Ty → Ex) (f : Ex) → both_matrices o p F ≡ Some f →
    (h : Ex) × (both_matrices o p G ≡ Some h)
both-there (Some (compound a_matrix (more_tys i (more_tys t no_tys)))) (Some (compound a_matrix (more_tys j
    (more_tys u no_tys)))) F G f q = (G t u, refl)
both-there _ _ F G f q = cc

matrices-there : (s : Supply) (g : Names Ty) (d : Dom) (e f : Ex) → equal_items d g s.one e ≡ Some f → (h : Ex)
    × (matrices_at s g e ≡ Some h)
matrices-there s g d (ex2 true Op2.Eq a b) f q =
    both-there (type_of a g) (type_of b g) (λ t u. equal_each_at s.one d t u a b)
    (λ t u. ex2 true Op2.And (ex2 true Op2.And (lies_in s.one s.other (s.index_domain a) (s.index_domain b))
    (lies_in s.one s.other (s.index_domain b) (s.index_domain a))) (equal_each_at s.one (s.index_domain a) t u a b)) f q
matrices-there s g d _ f q = cc

unequal-there : (s : Supply) (g : Names Ty) (e f : Ex) → unequal e ≡ Some f → is_abstract g e ≡ true → is_some (rule_at s g e) ≡ true
unequal-there s g (ex2 true Op2.Ne a b) f q h =
    fires-by s g (ex2 true Op2.Ne a b) not_equal 15 refl (ap (λ c. if c then unequal (ex2 true Op2.Ne a b) else None) h)
unequal-there s g _ f q h = cc

-- What fires at an operator that looks into a container.
pub fires-at : (s : Supply) (g : Names Ty) {d : Dom} (e : Ex) → is_abstract g e ≡ true → Fires g s.one d e → is_some (rule_at s g e) ≡ true
fires-at s g e h (by_unequal {f = f} q) = unequal-there s g e f q h
fires-at s g e h (by_turned q) = fires-by s g e turned 16 refl q
fires-at s g e h (by_strictly q) = fires-by s g e strictly 17 refl q
fires-at s g e h (by_often q) = fires-by s g e included_multisets 27 refl q
fires-at s g e h (by_member q) = fires-by s g e in_a_term 33 refl q
fires-at s g e h (by_size q) = fires-by s g e size 35 refl q
fires-at s g e h (by_frequency q) = fires-by s g e frequency 38 refl q
fires-at s g e h (by_together q) = fires-by s g e together 39 refl q
fires-at s g e h (by_fold q) = fires-by s g e over_a_term 12 refl q
fires-at s g e h (by_list q) = fires-by s g e list_of_a_term 42 refl q
fires-at s g e h (by_lists q) = fires-by s g e lists_on_both_sides 43 refl q
fires-at s g e h (by_components q) = fires-by s g e equal_tuples 18 refl q
fires-at s g e h (by_fields q) = fires-by s g e equal_records 19 refl q
fires-at s g e h (by_sets q) = fires-by s g e equal_sets 20 refl q
fires-at s g e h (by_msets q) = fires-by s g e equal_multisets 21 refl q
fires-at s g e h (by_functions q) = fires-by s g e equal_functions 22 refl q
fires-at s g e h (by_partitions q) = fires-by s g e equal_partitions 23 refl q
fires-at s g {d = d} e h (by_matrices {f = f} q) = let r = matrices-there s g d e f q in fires-by s g e equal_matrices_at 25 refl r.1

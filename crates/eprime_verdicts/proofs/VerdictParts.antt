-- The verdict on tables from what each test of it says.
use Rattle.std.proofs.Common.{◌≡◌, refl, sym, ap, ◌∙◌, ℕ, ◌↔◌, Bool, true, false, not, List, [], ◌∷◌, map, min, Option, Some, None, option_map, if◌then◌else◌}
use Rattle.std.specs.List.{list_all}
use Rattle.ess_semantics.specs.Values.{Text}
use Rattle.ess_semantics.specs.Order.{same_text}
use Rattle.ess_semantics.specs.Names.{Names, keys, is_among}
use Rattle.ess_semantics.specs.Tables as pure
use Rattle.ess_semantics.specs.DeclaredTables.{TableDecl}
use Rattle.ess_semantics.specs.ModelTrees.{Model, all_decls}
use Rattle.ess_semantics.specs.Satisfaction.{ModelVerdict, satisfied, missing_table, extra_table, outside_domain, false_rule, undefined, domain_has_meaning, first_missing_table, first_extra_table, first_outside, first_false, model_verdict, Sat}
use Rattle.ess_semantics.proofs.SatisfiedTables.{verdict-Sat, Sat-verdict}
use Rattle.ess_grammar.specs.Models.{Scope, with_find}
use Rattle.eprime_tree.specs.declared.models.PDecl.{PDecl}
use Rattle.eprime_tree.specs.declared.models.PModel.{PModel}
use Rattle.eprime_tree.specs.Views.{pure_decl, pure_decls, pure_model, scope_of_givens}
use Rattle.eprime_verdicts.specs.declared.domains.ClosedDecl.{ClosedDecl}
use Rattle.eprime_verdicts.specs.declared.satisfying.PVerdict.{PVerdict}
use Rattle.eprime_verdicts.specs.declared.satisfying.PVerdict.TheVariants.{Yes, OutOfDomain, Missing, Extra, False}
use Rattle.eprime_verdicts.specs.NamesInOrder.{declared_names, missing_of, extra_of}
use Rattle.eprime_verdicts.specs.ClosedDecls.{outside_of}
use Rattle.eprime_verdicts.specs.ModelVerdicts.{AreFound, IsVerdict}

-- ---- tests by names

missing-is : (add : Scope → TableDecl → Scope) (s : Scope) (ds : List PDecl) (c : Names pure.Table)
    → first_missing_table (pure_decls add s ds) c ≡ missing_of (declared_names ds) (keys c)
missing-is add s [] c = refl
missing-is add s (d ∷ ds) c = ap (λ o. if is_among (keys c) d.name then o else Some d.name) (missing-is add (add s (pure_decl s d)) ds c)

extra-is : (add : Scope → TableDecl → Scope) (s : Scope) (ds : List PDecl) (c : Names pure.Table)
    → first_extra_table (pure_decls add s ds) c ≡ extra_of (declared_names ds) (keys c)
extra-is add s [] [] = refl
extra-is add s [] (t ∷ ts) = refl
extra-is add s (d ∷ ds) [] = refl
extra-is add s (d ∷ ds) (t ∷ ts) = ap (λ o. if same_text d.name t.0 then o else Some t.0) (extra-is add (add s (pure_decl s d)) ds ts)

-- ---- the verdict

-- The verdict where each declared domain has a meaning.
abbrev verdict_by : Option Text → Option Text → Option Text → Option ℕ → ModelVerdict
verdict_by m x o f =
    elim m [
      | Some a ↦ missing_table a
      | None ↦ elim x [
        | Some a ↦ extra_table a
        | None ↦ elim o [ Some a ↦ outside_domain a | None ↦ elim f [ Some k ↦ false_rule k | None ↦ satisfied ] ]
      ]
    ]

abbrev verdict_where : Bool → ModelVerdict → ModelVerdict
verdict_where b v = if not b then undefined else v

-- The verdict of a model, by the code's tests.
verdict-parts : (m : PModel) (q c : Names pure.Table) (rs : List ClosedDecl) → AreFound (pure_model m) q rs
    → model_verdict (pure_model m) q c
    ≡ verdict_by (missing_of (declared_names m.finds) (keys c)) (extra_of (declared_names m.finds) (keys c)) (outside_of rs c) (first_false (pure_model m) q c 1 (pure_model m).rules)
verdict-parts m q c rs h =
    ap (λ b. verdict_where b (verdict_by (first_missing_table (pure_model m).finds c) (first_extra_table (pure_model m).finds c) (first_outside (pure_model m) q (pure_model m).finds c) (first_false (pure_model m) q c 1 (pure_model m).rules))) h.meant
    ∙ ap (λ o. verdict_by o (first_extra_table (pure_model m).finds c) (first_outside (pure_model m) q (pure_model m).finds c) (first_false (pure_model m) q c 1 (pure_model m).rules)) (missing-is with_find (scope_of_givens m) m.finds c)
    ∙ ap (λ o. verdict_by (missing_of (declared_names m.finds) (keys c)) o (first_outside (pure_model m) q (pure_model m).finds c) (first_false (pure_model m) q c 1 (pure_model m).rules)) (extra-is with_find (scope_of_givens m) m.finds c)
    ∙ ap (λ o. verdict_by (missing_of (declared_names m.finds) (keys c)) (extra_of (declared_names m.finds) (keys c)) o (first_false (pure_model m) q c 1 (pure_model m).rules)) (h.outside c)

module _ (m : PModel) (q c : Names pure.Table) (rs : List ClosedDecl) (h : AreFound (pure_model m) q rs) where
  -- A declared name that no table has,
  pub is_missing : (a : Text) → Some a ≡ missing_of (declared_names m.finds) (keys c) → model_verdict (pure_model m) q c ≡ missing_table a
  is_missing a e =
      verdict-parts m q c rs h
      ∙ ap (λ o. verdict_by o (extra_of (declared_names m.finds) (keys c)) (outside_of rs c) (first_false (pure_model m) q c 1 (pure_model m).rules)) (sym e)

  -- else a table out of its place,
  pub is_extra : (a : Text) → None ≡ missing_of (declared_names m.finds) (keys c) → Some a ≡ extra_of (declared_names m.finds) (keys c)
      → model_verdict (pure_model m) q c ≡ extra_table a
  is_extra a e f =
      verdict-parts m q c rs h
      ∙ ap (λ o. verdict_by o (extra_of (declared_names m.finds) (keys c)) (outside_of rs c) (first_false (pure_model m) q c 1 (pure_model m).rules)) (sym e)
      ∙ ap (λ o. verdict_by None o (outside_of rs c) (first_false (pure_model m) q c 1 (pure_model m).rules)) (sym f)

  -- else one that doesn't fit its declaration,
  pub is_outside : (a : Text) → None ≡ missing_of (declared_names m.finds) (keys c) → None ≡ extra_of (declared_names m.finds) (keys c) → Some a ≡ outside_of rs c
      → model_verdict (pure_model m) q c ≡ outside_domain a
  is_outside a e f g =
      verdict-parts m q c rs h
      ∙ ap (λ o. verdict_by o (extra_of (declared_names m.finds) (keys c)) (outside_of rs c) (first_false (pure_model m) q c 1 (pure_model m).rules)) (sym e)
      ∙ ap (λ o. verdict_by None o (outside_of rs c) (first_false (pure_model m) q c 1 (pure_model m).rules)) (sym f)
      ∙ ap (λ o. verdict_by None None o (first_false (pure_model m) q c 1 (pure_model m).rules)) (sym g)

  -- else what the constraints say.
  by-rules : None ≡ missing_of (declared_names m.finds) (keys c) → None ≡ extra_of (declared_names m.finds) (keys c) → None ≡ outside_of rs c
      → model_verdict (pure_model m) q c ≡ verdict_by None None None (first_false (pure_model m) q c 1 (pure_model m).rules)
  by-rules e f g =
      verdict-parts m q c rs h
      ∙ ap (λ o. verdict_by o (extra_of (declared_names m.finds) (keys c)) (outside_of rs c) (first_false (pure_model m) q c 1 (pure_model m).rules)) (sym e)
      ∙ ap (λ o. verdict_by None o (outside_of rs c) (first_false (pure_model m) q c 1 (pure_model m).rules)) (sym f)
      ∙ ap (λ o. verdict_by None None o (first_false (pure_model m) q c 1 (pure_model m).rules)) (sym g)

  false-at : (o : Option ℕ) (n : ℕ) → option_map (λ k. min k 4294967295) o ≡ Some n → model_verdict (pure_model m) q c ≡ verdict_by None None None o
      → IsVerdict (False n) (model_verdict (pure_model m) q c)
  false-at None n e f = cc
  false-at (Some k) n e f = (k, f, sym (let s : min k 4294967295 ≡ n = cc in s))

  pub is_false : (n : ℕ) → None ≡ missing_of (declared_names m.finds) (keys c) → None ≡ extra_of (declared_names m.finds) (keys c) → None ≡ outside_of rs c
      → option_map (λ k. min k 4294967295) (first_false (pure_model m) q c 1 (pure_model m).rules) ≡ Some n → IsVerdict (False n) (model_verdict (pure_model m) q c)
  is_false n e f g k = false-at (first_false (pure_model m) q c 1 (pure_model m).rules) n k (by-rules e f g)

  none-false : (o : Option ℕ) → option_map (λ k. min k 4294967295) o ≡ None → verdict_by None None None o ≡ satisfied
  none-false None e = refl
  none-false (Some k) e = cc

  pub is_satisfied : None ≡ missing_of (declared_names m.finds) (keys c) → None ≡ extra_of (declared_names m.finds) (keys c) → None ≡ outside_of rs c
      → option_map (λ k. min k 4294967295) (first_false (pure_model m) q c 1 (pure_model m).rules) ≡ None → model_verdict (pure_model m) q c ≡ satisfied
  is_satisfied e f g k = by-rules e f g ∙ none-false (first_false (pure_model m) q c 1 (pure_model m).rules) k

  -- The answer is yes exactly where the tables satisfy the model.
  pub yes_where_satisfied : (v : PVerdict) → IsVerdict v (model_verdict (pure_model m) q c) → (v ≡ Yes) ↔ Sat (pure_model m) q c
  yes_where_satisfied v k = (there v k, λ s. back v k (Sat-verdict (pure_model m) q c s h.meant))
    where
      there : (v : PVerdict) → IsVerdict v (model_verdict (pure_model m) q c) → v ≡ Yes → Sat (pure_model m) q c
      there Yes k e = verdict-Sat (pure_model m) q c k
      there (OutOfDomain a) k e = cc
      there (Missing a) k e = cc
      there (Extra a) k e = cc
      there (False n) k e = cc

      back : (v : PVerdict) → IsVerdict v (model_verdict (pure_model m) q c) → model_verdict (pure_model m) q c ≡ satisfied → v ≡ Yes
      back Yes k e = refl
      back (OutOfDomain a) k e = let no : outside_domain a ≡ satisfied = sym k ∙ e in cc
      back (Missing a) k e = let no : missing_table a ≡ satisfied = sym k ∙ e in cc
      back (Extra a) k e = let no : extra_table a ≡ satisfied = sym k ∙ e in cc
      back (False n) k e = let no : false_rule k.0 ≡ satisfied = sym k.1 ∙ e in cc

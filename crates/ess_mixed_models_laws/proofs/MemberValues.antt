-- What is written for a membership says over tables whether the cell of the value is true, whatever the bound name is.
use Rattle.std.proofs.Common.{◌≡◌, refl, sym, ap, ◌∙◌, subst, Bool, true, false, ◌&&◌, if◌then◌else◌, ℕ, List, [], ◌∷◌, ℤ, pos, Some, None, option_map}
use Rattle.std.specs.List.{list_any}
use Rattle.ess_semantics.specs.declared.words.Op2.{Op2}
use Rattle.ess_semantics.specs.declared.words.Fun.{Fun}
use Rattle.ess_semantics.specs.Lists.{and_then}
use Rattle.ess_semantics.specs.Values.{Text, Value, number, truth}
use Rattle.ess_semantics.specs.Order.{same_int}
use Rattle.ess_semantics.specs.Names.{Names, look}
use Rattle.ess_semantics.specs.Trees.{binary, word, name_pat, Ex, Exs, number_ex, truth_ex, name_ex, no_gens, over, cond, Dom, bool_dom, int_dom, ex2}
use Rattle.ess_semantics.specs.Tables.{Table, code, item_in, cell_at as at_index}
use Rattle.ess_semantics.specs.Contexts.{Each}
use Rattle.ess_semantics.specs.DeclaredTables.{TableDecl}
use Rattle.ess_semantics.specs.Operators.{as_truth, false_where_undefined, value_of_node}
use Rattle.ess_semantics.specs.Meaning.{Env, meaning, collect, where_true, cell_in, cell_value, indices}
use Rattle.ess_semantics.specs.ModelMeaning.{kinded_dom, env_of_tables, model_value}
use Rattle.ess_semantics.proofs.Texts.{same_text-itself}
use Rattle.ess_semantics.proofs.Connectives.{any-means, and-means, bits, collect-bits, any-bits}
use Rattle.ess_member_shows_laws.specs.ess_member_trees_laws.Memberships.{cell_at, is_it, some_of}
use Rattle.ess_member_shows_laws.specs.ess_member_rules_laws.WrittenForms.{index_of, at_number, Written, by_number, by_condition, by_conjunction, IsNumber, IsTruth, Alike, as_numbers, as_truths, IsTable}
use Rattle.ess_mixed_models_laws.proofs.MemberTests.{each-map-in, any-one, not-there, kept, any-kept, collect-kept}
use Rattle.ess_mixed_models_laws.proofs.MemberKinds.{kind-with, kind-where, kind-number}

-- The number of a literal.
abbrev pub literal_code : Ex → ℤ
literal_code (number_ex k) = k
literal_code (truth_ex b) = code (truth b)
literal_code e = pos 0

module _ (c : ℕ) (cs : Text) (ds : List TableDecl) (tc : Names Table) (n : Text) (A : Dom) (L : Ex) (t : Table) (ms : List Value)
    (T : IsTable ds tc n A L t ms) where
  abbrev bound : Text
  bound = c ∷ cs

  abbrev env : Env
  env = env_of_tables tc

  abbrev here : Value → Env
  here v = record env { vals = (bound, v) ∷ [] }

  -- Whether the cell is true.
  abbrev pub F : ℤ → Bool
  F k = as_truth (option_map (cell_value true) (at_index t (k ∷ [])))

  abbrev pub k : ℤ
  k = literal_code L

  cell-there : (js : List ℤ) → false_where_undefined true (cell_in true (look tc n) (Some js))
      ≡ Some (truth (as_truth (option_map (cell_value true) (at_index t js))))
  cell-there js = ap (λ o. false_where_undefined true (cell_in true o (Some js))) T.found

  number-means : {ms : List Value} {B : Dom} {K : Ex} → Alike ms B K → meaning (at_number n B K) env ≡ Some (truth (F (literal_code K)))
  number-means (as_numbers {k = k} h) = cell-there (k ∷ [])
  number-means (as_truths {b = true} h) = cell-there (pos 1 ∷ [])
  number-means (as_truths {b = false} h) = cell-there (pos 0 ∷ [])

  bound-value : (v : Value) → meaning (name_ex bound) (here v) ≡ Some v
  bound-value v = ap (λ b. if b then Some v else None) (same_text-itself bound)

  -- At each member the cell and the comparison are truth values.
  abbrev Both : Dom → Ex → Value → Type 0
  Both B K v = (meaning (cell_at n B K (index_of B bound)) (here v) ≡ Some (truth (F (code v))))
      × (meaning (is_it n B K bound) (here v) ≡ Some (truth (same_int (code v) (literal_code K))))

  same-value : (K : Ex) (v w : Value) → meaning K (here v) ≡ Some w →
      meaning (ex2 true Op2.Eq (name_ex bound) K) (here v)
      ≡ false_where_undefined true (value_of_node (binary Op2.Eq) (Some v ∷ Some w ∷ []))
  same-value K v w e =
      ap (λ o. false_where_undefined true (value_of_node (binary Op2.Eq) (o ∷ meaning K (here v) ∷ []))) (bound-value v)
      ∙ ap (λ o. false_where_undefined true (value_of_node (binary Op2.Eq) (Some v ∷ o ∷ []))) e

  at-number : (rs : _) (es : Exs) (k : ℤ) (v : Value) → IsNumber v → Both (int_dom rs es) (number_ex k) v
  at-number rs es k v w =
      let s = same-value (number_ex k) v _ refl in (
        ap (λ o. false_where_undefined true (cell_in true (look tc n) (indices (o ∷ [])))) (bound-value v) ∙ first v w,
        s ∙ second v w,
      )
    where
      first : (v : Value) → IsNumber v → false_where_undefined true (cell_in true (look tc n) (indices (Some v ∷ [])))
          ≡ Some (truth (F (code v)))
      first v w = subst (λ v. false_where_undefined true (cell_in true (look tc n) (indices (Some v ∷ [])))
          ≡ Some (truth (F (code v)))) (sym w.1)
          (cell-there (w.0 ∷ []))

      second : (v : Value) → IsNumber v → false_where_undefined true (value_of_node (binary Op2.Eq) (Some v ∷ Some (number k) ∷ []))
          ≡ Some (truth (same_int (code v) k))
      second v w = subst (λ v. false_where_undefined true (value_of_node (binary Op2.Eq) (Some v ∷ Some (number k) ∷ []))
          ≡ Some (truth (same_int (code v) k))) (sym w.1) refl

  at-truth : (b : Bool) (v : Value) → IsTruth v → Both bool_dom (truth_ex b) v
  at-truth b v w = (
    ap (λ o. false_where_undefined true (cell_in true (look tc n) (indices
        (false_where_undefined false (value_of_node (word Fun.ToInt) (o ∷ [])) ∷ [])))) (bound-value v) ∙ first v w,
    same-value (truth_ex b) v _ refl ∙ second v w,
  )
    where
      one : (c : Bool) → false_where_undefined true (cell_in true (look tc n) (indices
          (false_where_undefined false (value_of_node (word Fun.ToInt) (Some (truth c) ∷ [])) ∷ []))) ≡ Some (truth (F (code (truth c))))
      one true = cell-there (pos 1 ∷ [])
      one false = cell-there (pos 0 ∷ [])

      first : (v : Value) → IsTruth v → false_where_undefined true (cell_in true (look tc n) (indices
          (false_where_undefined false (value_of_node (word Fun.ToInt) (Some v ∷ [])) ∷ []))) ≡ Some (truth (F (code v)))
      first v w = subst (λ v. false_where_undefined true (cell_in true (look tc n) (indices
          (false_where_undefined false (value_of_node (word Fun.ToInt) (Some v ∷ [])) ∷ [])))
          ≡ Some (truth (F (code v)))) (sym w.1) (one w.0)

      two : (c b : Bool) → false_where_undefined true (value_of_node (binary Op2.Eq) (Some (truth c) ∷ Some (truth b) ∷ []))
          ≡ Some (truth (same_int (code (truth c)) (code (truth b))))
      two true true = refl
      two true false = refl
      two false true = refl
      two false false = refl

      second : (v : Value) → IsTruth v → false_where_undefined true (value_of_node (binary Op2.Eq) (Some v ∷ Some (truth b) ∷ []))
          ≡ Some (truth (same_int (code v) (code (truth b))))
      second v w = subst (λ v. false_where_undefined true (value_of_node (binary Op2.Eq) (Some v ∷ Some (truth b) ∷ []))
          ≡ Some (truth (same_int (code v) (code (truth b))))) (sym w.1) (two w.0 b)

  each-both : {B : Dom} {K : Ex} {us : List Value} → Alike us B K → Each us (Both B K)
  each-both (as_numbers {rs = rs} {es = es} {k = k} h) = each-map-in _ (at-number rs es k) h
  each-both (as_truths {b = b} h) = each-map-in _ (at-truth b) h

  abbrev f : Value → Bool
  f v = F (code v) && same_int (code v) k

  -- At one number.
  at-one : list_any f ms ≡ F k
  at-one = any-one F k ms ∙ go (list_any (λ v. same_int (code v) k) ms) refl
    where
      and-yes : (b : Bool) → b && true ≡ b
      and-yes true = refl
      and-yes false = refl

      and-none : (b : Bool) → b ≡ false → b && false ≡ b
      and-none true e = let z : true ≡ false = e in cc
      and-none false e = refl

      go : (b : Bool) → list_any (λ v. same_int (code v) k) ms ≡ b → F k && b ≡ F k
      go true e = and-yes (F k)
      go false e = and-none (F k)
          (ap (λ as'. as_truth (option_map (cell_value true) (at_index (record { axes = as'; items = t.items }) (k ∷ [])))) T.axis
          ∙ ap (λ o. as_truth (option_map (cell_value true) (and_then o (λ c. item_in [] c [])))) (not-there ms 1 t.items k e))

  with-means : (body : Ex) → Each ms (λ v. meaning body (here v) ≡ Some (truth (f v))) →
      meaning (some_of n A L body (over (name_pat bound) (kinded_dom ds A []) no_gens)) env ≡ Some (truth (F k))
  with-means body h =
      any-means env body (over (name_pat bound) (kinded_dom ds A []) no_gens) (bits f ms)
      (ap (λ o. and_then o (λ vs. collect vs (λ v. option_map (λ w. w ∷ []) (meaning body (here v))))) T.members
      ∙ collect-bits ms (λ v. option_map (λ w. w ∷ []) (meaning body (here v))) f
      (each-map-in ms (λ v e. ap (option_map (λ w. w ∷ [])) e) h))
      ∙ ap (λ b. Some (truth b)) (any-bits f ms ∙ at-one)

  both-means : (v : Value) → Both A L v → meaning (ex2 true Op2.And (cell_at n A L (index_of A bound)) (is_it n A L bound)) (here v)
      ≡ Some (truth (f v))
  both-means v w = and-means (here v) (cell_at n A L (index_of A bound)) (is_it n A L bound) (F (code v)) (same_int (code v) k) w.0 w.1

  where-means : meaning (some_of n A L (is_it n A L bound) (over (name_pat bound) (kinded_dom ds A []) (cond (cell_at n A L
      (index_of A bound)) no_gens))) env
      ≡ Some (truth (F k))
  where-means =
      any-means env (is_it n A L bound) (over (name_pat bound) (kinded_dom ds A []) (cond (cell_at n A L (index_of A bound)) no_gens))
      (kept (λ v. F (code v)) (λ v. same_int (code v) k) ms)
      (ap (λ o. and_then o (λ vs. collect vs (λ v. where_true (meaning (cell_at n A L (index_of A bound)) (here v))
      (λ u. option_map (λ w. w ∷ []) (meaning (is_it n A L bound) (here v)))))) T.members
      ∙ collect-kept ms (λ v. meaning (cell_at n A L (index_of A bound)) (here v)) (λ v. meaning (is_it n A L bound) (here v)) (λ v. F
      (code v))
      (λ v. same_int (code v) k) (each-both T.alike))
      ∙ ap (λ b. Some (truth b)) (any-kept (λ v. F (code v)) (λ v. same_int (code v) k) ms ∙ at-one)

  -- What each form says.
  pub value : (r : Ex) → Written n A L bound r → model_value ds tc r ≡ Some (truth (F k))
  value r by_number =
      ap (λ e. meaning e env) (kind-number c cs ds n T.line T.declared T.one_axis T.truths T.alike) ∙ number-means T.alike
  value r by_condition =
      ap (λ e. meaning e env) (kind-where c cs ds n T.line T.declared T.one_axis T.truths T.alike) ∙ where-means
  value r by_conjunction =
      ap (λ e. meaning e env) (kind-with c cs ds n T.line T.declared T.one_axis T.truths T.alike)
      ∙ with-means (ex2 true Op2.And (cell_at n A L (index_of A bound)) (is_it n A L bound)) (each-map-in ms both-means (each-both T.alike))

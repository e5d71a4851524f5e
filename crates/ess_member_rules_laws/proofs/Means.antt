-- What is written for a membership says over tables what the cell of the value says.
use Rattle.std.proofs.Common.{◌≡◌, refl, sym, ap, ◌∙◌, subst, Bool, true, false, ◌&&◌, ◌||◌, if◌then◌else◌, ℕ, nat_eq, List, [], ◌∷◌, ◌++◌, length, map, take, drop, codes, ℤ, pos, Option, Some, None, option_map}
use Rattle.std.specs.List.{list_any}
use Rattle.ess_semantics.specs.declared.words.Op2.{Op2}
use Rattle.ess_semantics.specs.declared.words.Fun.{Fun}
use Rattle.ess_semantics.specs.Lists.{and_then}
use Rattle.ess_semantics.specs.Values.{Text, Value, truth, a_matrix}
use Rattle.ess_semantics.specs.Order.{same_int}
use Rattle.ess_semantics.specs.Names.{Names, look}
use Rattle.ess_semantics.specs.Trees.{binary, word, name_pat, Ex, Exs, number_ex, truth_ex, name_ex, comp_ex, cell_ex, no_exs, more_exs, Gens, no_gens, over, cond, Dom, bool_dom, int_dom, ex2, fun1}
use Rattle.ess_semantics.specs.Types.{bool_ty, int_ty, compound2}
use Rattle.ess_semantics.specs.Typing.{statics, type_of_node}
use Rattle.ess_semantics.specs.Tables.{Table, code, chunk, item_in, cell_at as at_index}
use Rattle.ess_semantics.specs.Contexts.{Each}
use Rattle.ess_semantics.specs.DeclaredTables.{TableDecl}
use Rattle.ess_semantics.specs.Operators.{as_truth, any_true, false_where_undefined}
use Rattle.ess_semantics.specs.Meaning.{Env, meaning, collect, where_true, cell_in, cell_value, is_bool_dom, is_true}
use Rattle.ess_semantics.specs.ModelMeaning.{Kinded, kinded, kinded_dom, kinded_cell, kinded_node, cell_kind, broken, declaration_of, env_of_tables, model_value}
use Rattle.ess_semantics.proofs.Orders.{same_int-equal}
use Rattle.ess_semantics.proofs.Connectives.{any-means, and-means, bits, collect-bits, any-bits}
use Rattle.ess_member_trees_laws.specs.Memberships.{cell_at, is_it, some_of}
use Rattle.ess_member_rules_laws.specs.WrittenForms.{index_of, at_number, where_index, with_index, Written, by_number, by_condition, by_conjunction, IsNumber, IsTruth, Alike, as_numbers, as_truths, IsTable}

-- The bound name.
abbrev q : Text
q = codes "q1"

-- ---- lists

each-map-in : {P Q : Value → Type 0} (vs : List Value) → ((v : Value) → P v → Q v) → Each vs P → Each vs Q
each-map-in [] f h = tt
each-map-in (v ∷ vs) f h = (f v h.0, each-map-in vs f h.1)

-- What is true at one number alone.
any-one : (F : ℤ → Bool) (k : ℤ) (vs : List Value) →
    list_any (λ v. F (code v) && same_int (code v) k) vs ≡ F k && list_any (λ v. same_int (code v) k) vs
any-one F k [] = and-no (F k)
  where
    and-no : (b : Bool) → false ≡ b && false
    and-no true = refl
    and-no false = refl
any-one F k (v ∷ vs) = go (same_int (code v) k) refl (any-one F k vs)
  where
    here : (b c : Bool) → b && true || b && c ≡ b && (true || c)
    here true c = refl
    here false c = refl

    past : (b c : Bool) → b && false || c ≡ c
    past true c = refl
    past false c = refl

    go : (b : Bool) → same_int (code v) k ≡ b →
        list_any (λ v. F (code v) && same_int (code v) k) vs ≡ F k && list_any (λ v. same_int (code v) k) vs →
        F (code v) && same_int (code v) k || list_any (λ v. F (code v) && same_int (code v) k) vs
        ≡ F k && (same_int (code v) k || list_any (λ v. same_int (code v) k) vs)
    go true e h =
        ap (λ b. F (code v) && b || list_any (λ v. F (code v) && same_int (code v) k) vs) e
        ∙ ap (λ j. F j && true || list_any (λ v. F (code v) && same_int (code v) k) vs) (same_int-equal (code v) k e)
        ∙ ap (λ b. F k && true || b) h ∙ here (F k) (list_any (λ v. same_int (code v) k) vs)
        ∙ ap (λ b. F k && (b || list_any (λ v. same_int (code v) k) vs)) (sym e)
    go false e h =
        ap (λ b. F (code v) && b || list_any (λ v. F (code v) && same_int (code v) k) vs) e
        ∙ past (F (code v)) (list_any (λ v. F (code v) && same_int (code v) k) vs) ∙ h
        ∙ ap (λ b. F k && (b || list_any (λ v. same_int (code v) k) vs)) (sym e)

-- No item stands at a number that isn't in the axis.
not-there : (vs : List Value) (n : ℕ) (is : List ℤ) (k : ℤ) → list_any (λ v. same_int (code v) k) vs ≡ false →
    chunk (map code vs) n is k ≡ None
not-there [] n is k h = refl
not-there (v ∷ vs) n is k h = go (same_int (code v) k) h (λ h. not-there vs n (drop n is) k h)
  where
    go : (b : Bool) → b || list_any (λ v. same_int (code v) k) vs ≡ false →
        (list_any (λ v. same_int (code v) k) vs ≡ false → chunk (map code vs) n (drop n is) k ≡ None) →
        (if b then Some (take n is) else chunk (map code vs) n (drop n is) k) ≡ None
    go true h f = let z : true ≡ false = h in cc
    go false h f = f h

-- The truth values of a test where another one holds.
abbrev kept : (Value → Bool) → (Value → Bool) → List Value → List Value
kept f g [] = []
kept f g (v ∷ vs) = if f v then truth (g v) ∷ kept f g vs else kept f g vs

any-kept : (f g : Value → Bool) (vs : List Value) → any_true (kept f g vs) ≡ list_any (λ v. f v && g v) vs
any-kept f g [] = refl
any-kept f g (v ∷ vs) = go (f v) (any-kept f g vs)
  where
    go : (b : Bool) → any_true (kept f g vs) ≡ list_any (λ v. f v && g v) vs →
        any_true (if b then truth (g v) ∷ kept f g vs else kept f g vs) ≡ b && g v || list_any (λ v. f v && g v) vs
    go true h = ap (λ b. g v || b) h
    go false h = h

collect-kept : (vs : List Value) (C B : Value → Option Value) (f g : Value → Bool) →
    Each vs (λ v. (C v ≡ Some (truth (f v))) × (B v ≡ Some (truth (g v)))) →
    collect vs (λ v. where_true (C v) (λ u. option_map (λ w. w ∷ []) (B v))) ≡ Some (kept f g vs)
collect-kept [] C B f g h = refl
collect-kept (v ∷ vs) C B f g h =
    ap (λ o. and_then (where_true o (λ u. option_map (λ w. w ∷ []) (B v)))
    (λ xs. option_map (λ ys. xs ++ ys) (collect vs (λ v. where_true (C v) (λ u. option_map (λ w. w ∷ []) (B v)))))) h.0.0
    ∙ ap (λ o. and_then (where_true (Some (truth (f v))) (λ u. option_map (λ w. w ∷ []) o))
    (λ xs. option_map (λ ys. xs ++ ys) (collect vs (λ v. where_true (C v) (λ u. option_map (λ w. w ∷ []) (B v)))))) h.0.1
    ∙ ap (λ o. and_then (where_true (Some (truth (f v))) (λ u. Some (truth (g v) ∷ []))) (λ xs. option_map (λ ys. xs ++ ys) o))
    (collect-kept vs C B f g h.1)
    ∙ go (f v)
  where
    go : (b : Bool) → and_then (where_true (Some (truth b)) (λ u. Some (truth (g v) ∷ []))) (λ xs. option_map (λ ys. xs ++ ys) (Some
        (kept f g vs)))
        ≡ Some (if b then truth (g v) ∷ kept f g vs else kept f g vs)
    go true = refl
    go false = refl

-- ---- kinds

module _ (ds : List TableDecl) (n : Text) (line : TableDecl) (declared : declaration_of ds n ≡ Some line) (one : length line.axes ≡ 1)
    (bits : is_bool_dom line.cell ≡ true) where
  -- A cell at a number.
  kind-cell : (e : Ex) → kinded_cell n (more_exs e no_exs) (int_ty ∷ []) (declaration_of ds n)
      ≡ (cell_ex true n (more_exs e no_exs), bool_ty)
  kind-cell e =
      ap (kinded_cell n (more_exs e no_exs) (int_ty ∷ [])) declared
      ∙ ap (λ k. if nat_eq 1 k && true then (cell_ex (is_bool_dom line.cell) n (more_exs e no_exs), cell_kind (is_bool_dom line.cell))
      else broken (cell_kind (is_bool_dom line.cell))) one
      ∙ ap (λ b. (cell_ex b n (more_exs e no_exs), cell_kind b)) bits

  module _ (A : Dom) (L : Ex) where
    -- The body with this cell.
    abbrev body_with : Kinded → Kinded
    body_with c = kinded_node (binary Op2.And) (more_exs c.0 (more_exs (is_it n A L q) no_exs)) (c.1 ∷ bool_ty ∷ [])
        (type_of_node (binary Op2.And) (statics (more_exs c.0 (more_exs (is_it n A L q) no_exs))) (Some c.1 ∷ Some bool_ty ∷ []))

    abbrev fold_with : Gens → Kinded → Kinded
    fold_with gs b = kinded_node (word Fun.Or) (more_exs (comp_ex b.0 gs) no_exs) (compound2 a_matrix int_ty b.1 ∷ [])
        (type_of_node (word Fun.Or) (statics (more_exs (comp_ex b.0 gs) no_exs)) (Some (compound2 a_matrix int_ty b.1) ∷ []))

    abbrev D : Dom
    D = kinded_dom ds A []

    abbrev cond_with : Kinded → Kinded
    cond_with c = fold_with (over (name_pat q) D (cond c.0 no_gens)) (is_it n A L q, bool_ty)

  -- What is written, by its kinds.
  kind-with : {ms : List Value} {A : Dom} {L : Ex} → Alike ms A L → (kinded ds (with_index n A L q) []).0
      ≡ some_of n A L (ex2 true Op2.And (cell_at n A L (index_of A q)) (is_it n A L q)) (over (name_pat q) (D A L) no_gens)
  kind-with {A = A} {L = L} (as_numbers h) =
      ap (λ c. (fold_with A L (over (name_pat q) (D A L) no_gens) (body_with A L c)).0) (kind-cell (name_ex q))
  kind-with {A = A} {L = L} (as_truths h) =
      ap (λ c. (fold_with A L (over (name_pat q) (D A L) no_gens) (body_with A L c)).0) (kind-cell (fun1 false Fun.ToInt (name_ex q)))

  kind-where : {ms : List Value} {A : Dom} {L : Ex} → Alike ms A L → (kinded ds (where_index n A L q) []).0
      ≡ some_of n A L (is_it n A L q) (over (name_pat q) (D A L) (cond (cell_at n A L (index_of A q)) no_gens))
  kind-where {A = A} {L = L} (as_numbers h) = ap (λ c. (cond_with A L c).0) (kind-cell (name_ex q))
  kind-where {A = A} {L = L} (as_truths h) = ap (λ c. (cond_with A L c).0) (kind-cell (fun1 false Fun.ToInt (name_ex q)))

  kind-number : {ms : List Value} {A : Dom} {L : Ex} → Alike ms A L → (kinded ds (at_number n A L) []).0 ≡ at_number n A L
  kind-number (as_numbers {k = k} h) = ap (λ c. c.0) (kind-cell (number_ex k))
  kind-number (as_truths {b = true} h) = ap (λ c. c.0) (kind-cell (number_ex (pos 1)))
  kind-number (as_truths {b = false} h) = ap (λ c. c.0) (kind-cell (number_ex (pos 0)))

-- ---- meaning

-- The number of a literal.
abbrev pub literal_code : Ex → ℤ
literal_code (number_ex k) = k
literal_code (truth_ex b) = code (truth b)
literal_code e = pos 0

module _ (ds : List TableDecl) (tc : Names Table) (n : Text) (A : Dom) (L : Ex) (t : Table) (ms : List Value)
    (T : IsTable ds tc n A L t ms) where
  abbrev env : Env
  env = env_of_tables tc

  abbrev here : Value → Env
  here v = record env { vals = (q, v) ∷ [] }

  -- Whether the cell is true.
  abbrev pub F : ℤ → Bool
  F k = as_truth (option_map (cell_value true) (at_index t (k ∷ [])))

  abbrev pub k : ℤ
  k = literal_code L

  cell-there : (js : List ℤ) → false_where_undefined true (cell_in true (look tc n) (Some js))
      ≡ Some (truth (as_truth (option_map (cell_value true) (at_index t js))))
  cell-there js = ap (λ o. false_where_undefined true (cell_in true o (Some js))) T.found

  number-means : {ms : List Value} {B : Dom} {K : Ex} → Alike ms B K → meaning (at_number n B K) env ≡ Some (truth (F (literal_code K)))
  number-means (as_numbers {k = k} h) = cell-there (k ∷ [])
  number-means (as_truths {b = true} h) = cell-there (pos 1 ∷ [])
  number-means (as_truths {b = false} h) = cell-there (pos 0 ∷ [])

  -- At each member the cell and the comparison are truth values.
  abbrev Both : Dom → Ex → Value → Type 0
  Both B K v = (meaning (cell_at n B K (index_of B q)) (here v) ≡ Some (truth (F (code v))))
      × (meaning (is_it n B K q) (here v) ≡ Some (truth (same_int (code v) (literal_code K))))

  at-number : (rs : _) (es : Exs) (k : ℤ) (v : Value) → IsNumber v → Both (int_dom rs es) (number_ex k) v
  at-number rs es k v w = subst (Both (int_dom rs es) (number_ex k)) (sym w.1) (cell-there (w.0 ∷ []), refl)

  at-truth : (b : Bool) (v : Value) → IsTruth v → Both bool_dom (truth_ex b) v
  at-truth b v w = subst (Both bool_dom (truth_ex b)) (sym w.1) (go w.0 b)
    where
      go : (c b : Bool) → Both bool_dom (truth_ex b) (truth c)
      go true true = (cell-there (pos 1 ∷ []), refl)
      go true false = (cell-there (pos 1 ∷ []), refl)
      go false true = (cell-there (pos 0 ∷ []), refl)
      go false false = (cell-there (pos 0 ∷ []), refl)

  each-both : {B : Dom} {K : Ex} {us : List Value} → Alike us B K → Each us (Both B K)
  each-both (as_numbers {rs = rs} {es = es} {k = k} h) = each-map-in _ (at-number rs es k) h
  each-both (as_truths {b = b} h) = each-map-in _ (at-truth b) h

  abbrev f : Value → Bool
  f v = F (code v) && same_int (code v) k

  -- At one number.
  at-one : list_any f ms ≡ F k
  at-one = any-one F k ms ∙ go (list_any (λ v. same_int (code v) k) ms) refl
    where
      and-yes : (b : Bool) → b && true ≡ b
      and-yes true = refl
      and-yes false = refl

      and-none : (b : Bool) → b ≡ false → b && false ≡ b
      and-none true e = let z : true ≡ false = e in cc
      and-none false e = refl

      go : (b : Bool) → list_any (λ v. same_int (code v) k) ms ≡ b → F k && b ≡ F k
      go true e = and-yes (F k)
      go false e = and-none (F k)
          (ap (λ as'. as_truth (option_map (cell_value true) (at_index (record { axes = as'; items = t.items }) (k ∷ [])))) T.axis
          ∙ ap (λ o. as_truth (option_map (cell_value true) (and_then o (λ c. item_in [] c [])))) (not-there ms 1 t.items k e))

  with-means : (body : Ex) → Each ms (λ v. meaning body (here v) ≡ Some (truth (f v))) →
      meaning (some_of n A L body (over (name_pat q) (kinded_dom ds A []) no_gens)) env ≡ Some (truth (F k))
  with-means body h =
      any-means env body (over (name_pat q) (kinded_dom ds A []) no_gens) (bits f ms)
      (ap (λ o. and_then o (λ vs. collect vs (λ v. option_map (λ w. w ∷ []) (meaning body (here v))))) T.members
      ∙ collect-bits ms (λ v. option_map (λ w. w ∷ []) (meaning body (here v))) f
      (each-map-in ms (λ v e. ap (option_map (λ w. w ∷ [])) e) h))
      ∙ ap (λ b. Some (truth b)) (any-bits f ms ∙ at-one)

  both-means : (v : Value) → Both A L v → meaning (ex2 true Op2.And (cell_at n A L (index_of A q)) (is_it n A L q)) (here v)
      ≡ Some (truth (f v))
  both-means v w = and-means (here v) (cell_at n A L (index_of A q)) (is_it n A L q) (F (code v)) (same_int (code v) k) w.0 w.1

  where-means : meaning (some_of n A L (is_it n A L q) (over (name_pat q) (kinded_dom ds A []) (cond (cell_at n A L
      (index_of A q)) no_gens))) env
      ≡ Some (truth (F k))
  where-means =
      any-means env (is_it n A L q) (over (name_pat q) (kinded_dom ds A []) (cond (cell_at n A L (index_of A q)) no_gens))
      (kept (λ v. F (code v)) (λ v. same_int (code v) k) ms)
      (ap (λ o. and_then o (λ vs. collect vs (λ v. where_true (meaning (cell_at n A L (index_of A q)) (here v))
      (λ u. option_map (λ w. w ∷ []) (meaning (is_it n A L q) (here v)))))) T.members
      ∙ collect-kept ms (λ v. meaning (cell_at n A L (index_of A q)) (here v)) (λ v. meaning (is_it n A L q) (here v)) (λ v. F (code v))
      (λ v. same_int (code v) k) (each-both T.alike))
      ∙ ap (λ b. Some (truth b)) (any-kept (λ v. F (code v)) (λ v. same_int (code v) k) ms ∙ at-one)

  number-value : model_value ds tc (at_number n A L) ≡ Some (truth (F k))
  number-value = ap (λ e. meaning e env) (kind-number ds n T.line T.declared T.one_axis T.truths T.alike) ∙ number-means T.alike

  -- What each form says.
  pub value : (r : Ex) → Written n A L q r → model_value ds tc r ≡ Some (truth (F k))
  value r by_number = number-value
  value r by_condition = ap (λ e. meaning e env) (kind-where ds n T.line T.declared T.one_axis T.truths T.alike) ∙ where-means
  value r by_conjunction =
      ap (λ e. meaning e env) (kind-with ds n T.line T.declared T.one_axis T.truths T.alike)
      ∙ with-means (ex2 true Op2.And (cell_at n A L (index_of A q)) (is_it n A L q)) (each-map-in ms both-means (each-both T.alike))

  -- Each form says what the cell says.
  pub means : (r : Ex) → Written n A L q r → is_true (model_value ds tc r) ≡ is_true (model_value ds tc (at_number n A L))
  means r w = ap is_true (value r w ∙ sym number-value)

-- What is written for a membership by its kinds, where its table is declared as truth values over one axis.
use Rattle.std.proofs.Common.{◌≡◌, ap, ◌∙◌, true, false, ◌&&◌, if◌then◌else◌, ℕ, nat_eq, List, [], ◌∷◌, length, pos, Some, None}
use Rattle.ess_semantics.specs.declared.words.Op2.{Op2}
use Rattle.ess_semantics.specs.declared.words.Fun.{Fun}
use Rattle.ess_semantics.specs.Values.{Text, Value, a_matrix}
use Rattle.ess_semantics.specs.Trees.{binary, word, name_pat, Ex, number_ex, truth_ex, name_ex, comp_ex, cell_ex, no_exs, more_exs, Gens, no_gens, over, cond, Dom, ex2, fun1}
use Rattle.ess_semantics.specs.Types.{Ty, bool_ty, int_ty, compound2, type_of_dom}
use Rattle.ess_semantics.specs.Typing.{statics, type_of_node}
use Rattle.ess_semantics.specs.DeclaredTables.{TableDecl}
use Rattle.ess_semantics.specs.Meaning.{is_bool_dom}
use Rattle.ess_semantics.specs.ModelMeaning.{Kinded, kinded, kinded_dom, kinded_name, kinded_cell, kinded_node, cell_kind, broken, declaration_of}
use Rattle.ess_semantics.proofs.Texts.{same_text-itself}
use Rattle.ess_member_shows_laws.specs.ess_member_trees_laws.Memberships.{cell_at, is_it, some_of}
use Rattle.ess_member_shows_laws.specs.ess_member_rules_laws.WrittenForms.{index_of, at_number, where_index, with_index, Alike, as_numbers, as_truths}

-- The bound name is not empty.
module _ (c : ℕ) (cs : Text) where
  abbrev q : Text
  q = c ∷ cs

  -- ---- kinds

  module _ (ds : List TableDecl) (n : Text) (line : TableDecl) (declared : declaration_of ds n ≡ Some line) (one : length line.axes ≡ 1)
      (bits : is_bool_dom line.cell ≡ true) where
    -- The bound name has its kind.
    bound-kind : (t : Ty) → kinded ds (name_ex q) ((q, t) ∷ []) ≡ (name_ex q, t)
    bound-kind t = ap (λ b. kinded_name q (if b then Some t else None)) (same_text-itself q)

    -- A cell at a number.
    kind-cell : (e : Ex) → kinded_cell n (more_exs e no_exs) (int_ty ∷ []) (declaration_of ds n)
        ≡ (cell_ex true n (more_exs e no_exs), bool_ty)
    kind-cell e =
        ap (kinded_cell n (more_exs e no_exs) (int_ty ∷ [])) declared
        ∙ ap (λ k. if nat_eq 1 k && true then (cell_ex (is_bool_dom line.cell) n (more_exs e no_exs), cell_kind (is_bool_dom line.cell))
        else broken (cell_kind (is_bool_dom line.cell))) one
        ∙ ap (λ b. (cell_ex b n (more_exs e no_exs), cell_kind b)) bits

    -- The cell at the bound name.
    cell-of : Kinded → Kinded
    cell-of k = kinded_cell n (more_exs k.0 no_exs) (k.1 ∷ []) (declaration_of ds n)

    chosen-of : Kinded → Kinded
    chosen-of k = kinded_node (word Fun.ToInt) (more_exs k.0 no_exs) (k.1 ∷ [])
        (type_of_node (word Fun.ToInt) (statics (more_exs k.0 no_exs)) (Some k.1 ∷ []))

    same-of : Kinded → Kinded → Kinded
    same-of k l = kinded_node (binary Op2.Eq) (more_exs k.0 (more_exs l.0 no_exs)) (k.1 ∷ l.1 ∷ [])
        (type_of_node (binary Op2.Eq) (statics (more_exs k.0 (more_exs l.0 no_exs))) (Some k.1 ∷ Some l.1 ∷ []))

    both-of : Kinded → Kinded → Kinded
    both-of k l = kinded_node (binary Op2.And) (more_exs k.0 (more_exs l.0 no_exs)) (k.1 ∷ l.1 ∷ [])
        (type_of_node (binary Op2.And) (statics (more_exs k.0 (more_exs l.0 no_exs))) (Some k.1 ∷ Some l.1 ∷ []))

    fold-of : Gens → Kinded → Kinded
    fold-of gs b = kinded_node (word Fun.Or) (more_exs (comp_ex b.0 gs) no_exs) (compound2 a_matrix int_ty b.1 ∷ [])
        (type_of_node (word Fun.Or) (statics (more_exs (comp_ex b.0 gs) no_exs)) (Some (compound2 a_matrix int_ty b.1) ∷ []))

    index-cell : {ms : List Value} {A : Dom} {L : Ex} → Alike ms A L →
        kinded ds (cell_at n A L (index_of A q)) ((q, type_of_dom A) ∷ []) ≡ (cell_at n A L (index_of A q), bool_ty)
    unfolding cell-of chosen-of
    index-cell (as_numbers h) = ap cell-of (bound-kind int_ty) ∙ kind-cell (name_ex q)
    index-cell (as_truths h) = ap (λ k. cell-of (chosen-of k)) (bound-kind bool_ty) ∙ kind-cell (fun1 false Fun.ToInt (name_ex q))

    it-kind : {ms : List Value} {A : Dom} {L : Ex} → Alike ms A L →
        kinded ds (is_it n A L q) ((q, type_of_dom A) ∷ []) ≡ (is_it n A L q, bool_ty)
    unfolding same-of
    it-kind (as_numbers {k = k} h) = ap (λ z. same-of z (number_ex k, int_ty)) (bound-kind int_ty)
    it-kind (as_truths {b = b} h) = ap (λ z. same-of z (truth_ex b, bool_ty)) (bound-kind bool_ty)

    abbrev D : Dom → Dom
    D A = kinded_dom ds A []

    -- What is written, by its kinds.
    pub kind-with : {ms : List Value} {A : Dom} {L : Ex} → Alike ms A L → (kinded ds (with_index n A L q) []).0
        ≡ some_of n A L (ex2 true Op2.And (cell_at n A L (index_of A q)) (is_it n A L q)) (over (name_pat q) (D A) no_gens)
    unfolding both-of fold-of
    kind-with {A = A} {L = L} h =
        ap (λ k. (fold-of (over (name_pat q) (D A) no_gens) (both-of k (kinded ds (is_it n A L q) ((q, type_of_dom A) ∷ [])))).0)
        (index-cell h)
        ∙ ap (λ k. (fold-of (over (name_pat q) (D A) no_gens) (both-of (cell_at n A L (index_of A q), bool_ty) k)).0) (it-kind h)

    -- The same with a condition.
    pub kind-where : {ms : List Value} {A : Dom} {L : Ex} → Alike ms A L → (kinded ds (where_index n A L q) []).0
        ≡ some_of n A L (is_it n A L q) (over (name_pat q) (D A) (cond (cell_at n A L (index_of A q)) no_gens))
    unfolding fold-of
    kind-where {A = A} {L = L} h =
        ap (λ k. (fold-of (over (name_pat q) (D A) (cond k.0 no_gens)) (kinded ds (is_it n A L q) ((q, type_of_dom A) ∷ []))).0)
        (index-cell h)
        ∙ ap (λ k. (fold-of (over (name_pat q) (D A) (cond (cell_at n A L (index_of A q)) no_gens)) k).0) (it-kind h)

    -- The same of a cell.
    pub kind-number : {ms : List Value} {A : Dom} {L : Ex} → Alike ms A L → (kinded ds (at_number n A L) []).0 ≡ at_number n A L
    kind-number (as_numbers {k = k} h) = ap (λ c. c.0) (kind-cell (number_ex k))
    kind-number (as_truths {b = true} h) = ap (λ c. c.0) (kind-cell (number_ex (pos 1)))
    kind-number (as_truths {b = false} h) = ap (λ c. c.0) (kind-cell (number_ex (pos 0)))

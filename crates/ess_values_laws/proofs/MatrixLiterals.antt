-- Matrices that a literal has are printed as literals that have them, with the index domain of their indices.
use Rattle.std.proofs.Common.{◌≡◌, refl, ap, ◌∙◌, subst, ℕ, suc, true, false, if◌then◌else◌, List, [], ◌∷◌, length, Option, Some, None, nat_eq, arith}
use Rattle.ess_semantics.specs.Lists.{and_then, all_some, when, is_empty}
use Rattle.ess_semantics.specs.Values.{a_matrix, Value, of_list, matrix}
use Rattle.ess_semantics.specs.Trees.{Dom, matrix_literal}
use Rattle.ess_semantics.specs.Types.{Ty, any_ty, int_ty, compound2, type_of_dom, join_all}
use Rattle.ess_semantics.specs.OperatorTypes.{type_of_op}
use Rattle.ess_semantics.specs.Operators.{list_value, numbers_from}
use Rattle.ess_semantics.specs.Meaning.{Env, members_in, domain_of, matrix_value}
use Rattle.ess_semantics.specs.Literals.{is_literal_index, types_of_literals}
use Rattle.ess_grammar.specs.ValueTexts.{index_literal, literals_of}
use Rattle.ess_values_laws.specs.ItemNames.{item_name}
use Rattle.ess_values_laws.proofs.Options.{then-some, map-some, when-some}
use Rattle.ess_values_laws.proofs.TypeOrder.{within-itself}
use Rattle.ess_values_laws.proofs.Printed.{Printed, PrintedEach, together}
use Rattle.ess_values_laws.proofs.IndexDomains.{IndexPrinted, index-printed, list-index-printed}

module _ (env : Env) where
  -- without items, whatever its indices' type
  no-items-printed : (i s : Ty) → Printed env (matrix (of_list []) (of_list [])) (compound2 a_matrix i s)
  no-items-printed i s = record { u = compound2 a_matrix any_ty any_ty; typed = refl; valued = refl; within = (refl, (tt, (tt, tt))); parts = λ h. refl }

  -- with items
  items-printed : (is : List Value) (x : Value) (xs : List Value) (ts : List Ty) (i s : Ty) → PrintedEach env (x ∷ xs) ts → join_all ts ≡ Some s →
      IndexPrinted env i is → nat_eq (length is) (length (x ∷ xs)) ≡ true → Printed env (matrix (of_list is) (of_list (x ∷ xs))) (compound2 a_matrix i s)
  items-printed is x xs ts i s p q d l =
      let j = together env (x ∷ xs) ts s p q (x ∷ xs) (λ y h. h) (λ y h. h) in
      let e = index_literal (of_list is) in
      let types = all_some (types_of_literals (literals_of (item_name env.types) (of_list (x ∷ xs))) env) in
      record {
        u = compound2 a_matrix i j.w;
        typed =
            ap (λ b. if b then and_then types (λ us. and_then (join_all us) (λ t. Some (compound2 a_matrix (type_of_dom e) t))) else None) d.literal
            ∙ ap (λ o. and_then o (λ us. and_then (join_all us) (λ t. Some (compound2 a_matrix (type_of_dom e) t)))) j.types
            ∙ ap (λ o. and_then o (λ t. Some (compound2 a_matrix (type_of_dom e) t))) j.join
            ∙ ap (λ t. Some (compound2 a_matrix t j.w)) d.type;
        valued =
            ap (λ o. and_then o (matrix_value (members_in (domain_of e env)))) j.values
            ∙ ap (λ o. matrix_value o (x ∷ xs)) d.members ∙ ap (λ b. when b (matrix (of_list is) (of_list (x ∷ xs)))) l;
        within = (refl, (within-itself i, (j.within, tt)));
        parts = λ h. refl;
      }

  equal-numbers : (m n : ℕ) → nat_eq m n ≡ true → m ≡ n
  equal-numbers m n e = grind arith

  numbers-equal : (m n : ℕ) → m ≡ n → nat_eq m n ≡ true
  numbers-equal m n e = grind arith

  no-indices : (is : List Value) → nat_eq (length is) 0 ≡ true → [] ≡ is
  no-indices [] e = refl
  no-indices (i ∷ is) e = let f = equal-numbers (length (i ∷ is)) 0 e in absurd (omega arith)

  pub some-indices : (is : List Value) (n : ℕ) → nat_eq (length is) (suc n) ≡ true → is_empty is ≡ false
  some-indices [] n e = let f = equal-numbers 0 (suc n) e in absurd (omega arith)
  some-indices (i ∷ is) n e = refl

  indexed-printed : (is xs : List Value) (ts : List Ty) (i s : Ty) → PrintedEach env xs ts → join_all ts ≡ Some s → (is_empty is ≡ false → IndexPrinted env i is) →
      nat_eq (length is) (length xs) ≡ true → Printed env (matrix (of_list is) (of_list xs)) (compound2 a_matrix i s)
  indexed-printed is [] ts i s p q d l = subst (λ js. Printed env (matrix (of_list js) (of_list [])) (compound2 a_matrix i s)) (no-indices is l) (no-items-printed i s)
  indexed-printed is (x ∷ xs) ts i s p q d l = items-printed is x xs ts i s p q (d (some-indices is (length xs) l)) l

  -- with an index domain
  pub matrix-literal-printed : env.positions ≡ false → (d : Dom) (xs : List Value) (ts : List Ty) (t : Ty) (v : Value) → PrintedEach env xs ts → is_literal_index d ≡ true →
      and_then (join_all ts) (λ s. Some (compound2 a_matrix (type_of_dom d) s)) ≡ Some t → matrix_value (members_in (domain_of d env)) xs ≡ Some v → Printed env v t
  matrix-literal-printed n d xs ts t v p l e f = go (members_in (domain_of d env)) refl f
    where
      go : (o : Option (List Value)) → members_in (domain_of d env) ≡ o → matrix_value o xs ≡ Some v → Printed env v t
      go None q f = cc
      go (Some is) q f =
          let s = then-some (join_all ts) (λ s. Some (compound2 a_matrix (type_of_dom d) s)) t e in
          let h = when-some (nat_eq (length is) (length xs)) (matrix (of_list is) (of_list xs)) v f in
          let g : compound2 a_matrix (type_of_dom d) s.0 ≡ t = let k = s.2 in cc in
          subst (λ w. Printed env w t) h.1 (subst (Printed env (matrix (of_list is) (of_list xs))) g
          (indexed-printed is xs ts (type_of_dom d) s.0 p s.1 (index-printed env d is n l q) h.0))

  -- ---- lists

  from-length : (k : ℕ) (xs : List Value) → length (numbers_from k xs) ≡ length xs
  from-length k [] = refl
  from-length k (x ∷ xs) = ap suc (from-length (suc k) xs)

  list-length : (k : ℕ) (xs : List Value) → nat_eq (length (numbers_from k xs)) (length xs) ≡ true
  list-length k xs = numbers-equal (length (numbers_from k xs)) (length xs) (from-length k xs)

  pub list-literal-printed : (xs : List Value) (ts : List Ty) (t : Ty) → PrintedEach env xs ts → type_of_op matrix_literal ts ≡ Some t → Printed env (list_value xs) t
  list-literal-printed [] [] t p e = let f : compound2 a_matrix any_ty any_ty ≡ t = cc in subst (Printed env (list_value [])) f (no-items-printed any_ty any_ty)
  list-literal-printed [] (t ∷ ts) u p e = absurd p
  list-literal-printed (x ∷ xs) [] u p e = absurd p
  list-literal-printed (x ∷ xs) (t ∷ ts) u p e =
      let s = map-some (join_all (t ∷ ts)) (compound2 a_matrix int_ty) u e in
      subst (Printed env (list_value (x ∷ xs))) s.2
      (items-printed (numbers_from 1 (x ∷ xs)) x xs (t ∷ ts) int_ty s.0 p s.1 (list-index-printed env x xs) (list-length 1 (x ∷ xs)))

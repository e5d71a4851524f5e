-- Matrices of values whose own literal has them: the indices are all members of an atom, and the literal names a domain of them.
use Rattle.std.proofs.Common.{◌≡◌, refl, sym, ap, ◌∙◌, subst, ℕ, suc, Bool, true, false, ◌&&◌, List, [], ◌∷◌, length, nat_eq, Option, Some, None, option_map, arith}
use Rattle.std.specs.List.{list_all}
use Rattle.ess_semantics.specs.Lists.{and_then, when, is_empty, is_some_and, list_or_none}
use Rattle.ess_semantics.specs.Values.{Text, a_matrix, Value, number, truth, item, node, Values, nil, cons, to_list, of_list, matrix, itself}
use Rattle.ess_semantics.specs.Order.{orders}
use Rattle.ess_semantics.specs.Collections.{rises}
use Rattle.ess_semantics.specs.Trees.{Dom, Doms, bool_dom, int_dom, name_dom, tuple_dom, record_dom, matrix_dom, set_dom, mset_dom, function_dom, relation_dom, partition_dom, no_doms, more_doms}
use Rattle.ess_semantics.specs.Types.{Ty, any_ty, int_ty, compound2, type_of_dom, nested_ty}
use Rattle.ess_semantics.specs.Domains.{Span, Domain, Domains, integers, no_domains, more_domains, members}
use Rattle.ess_semantics.specs.Membership.{same_list, member, nested_matrix}
use Rattle.ess_semantics.specs.Kinds.{is_atom}
use Rattle.ess_semantics.specs.Meaning.{Env, domain_of, members_in, matrix_value, meanings, spans_of, domains_of}
use Rattle.ess_semantics.proofs.Orders.{orders_exact, equal-of, to_list-of_list, of_list-to_list}
use Rattle.ess_semantics.proofs.MemberLists.{integers-listed}
use Rattle.ess_semantics.proofs.Tests.{and-left, and-right, some-and}
use Rattle.ess_grammar.specs.ValueTexts.{index_literal}
use Rattle.ess_types_laws.specs.ProperDomains.{each_is_atom}
use Rattle.ess_types_laws.proofs.SoundParts.{some-then, some-map}
use Rattle.ess_values_laws.proofs.TypeOrder.{Within, within-itself}
use Rattle.ess_values_laws.proofs.IntervalRuns.{AllNumbers}
use Rattle.ess_values_laws.proofs.IndexDomains.{IndexPrinted, index-printed, numbers-printed, all-numbers}
use Rattle.ess_values_laws.proofs.MatrixLiterals.{matrix-literal-printed, list-literal-printed}
use Rattle.ess_member_literals_laws.proofs.PartLiterals.{AreFit, HasLiteral, literal-at, EachHas, each-has, types-of}

-- Two lists that count as equal are equal.
one-list : (xs : List Value) (ys : Values) → same_list xs (to_list ys) ≡ true → xs ≡ to_list ys
one-list xs ys e =
    sym (to_list-of_list xs)
    ∙ ap to_list (orders_exact (of_list xs) (of_list (to_list ys)) (equal-of (orders (of_list xs) (of_list (to_list ys))) e))
    ∙ to_list-of_list (to_list ys)

equal-numbers : (m n : ℕ) → nat_eq m n ≡ true → m ≡ n
equal-numbers m n e = grind arith

module _ (env : Env) (name_of : Text → ℕ → Text) (plain : env.positions ≡ false) where
  -- ---- index domains

  numbers-indexed : (vs : List Value) → AllNumbers vs → rises itself vs ≡ true → is_empty vs ≡ false → IndexPrinted env int_ty vs
  numbers-indexed [] h r e = cc
  numbers-indexed (number n ∷ vs) h r e = numbers-printed env n vs h r
  numbers-indexed (truth b ∷ vs) h r e = absurd h
  numbers-indexed (item t k ∷ vs) h r e = absurd h
  numbers-indexed (node k us ∷ vs) h r e = absurd h

  ints-indexed : (o : Option (List Span)) (vs : List Value) → members_in (option_map integers o) ≡ Some vs → is_empty vs ≡ false →
      IndexPrinted env int_ty vs
  ints-indexed None vs m e = cc
  ints-indexed (Some ss) vs m e =
      let i = integers-listed ss in
      numbers-indexed vs (all-numbers env ss vs (ap (λ o. list_all (member (integers ss)) (list_or_none o)) (sym m) ∙ i.members))
      (ap (λ o. rises itself (list_or_none o)) (sym m) ∙ i.sorted) e

  -- The members of an atom are the indices of a literal.
  atom-indexed : (i : Dom) (vs : List Value) → is_atom i ≡ true → members_in (domain_of i env) ≡ Some vs → is_empty vs ≡ false →
      IndexPrinted env (type_of_dom i) vs
  atom-indexed bool_dom vs a m e = index-printed env bool_dom vs plain refl m e
  atom-indexed (name_dom t) vs a m e = index-printed env (name_dom t) vs plain refl m e
  atom-indexed (int_dom rs es) vs a m e = ints-indexed (spans_of rs (meanings es env)) vs m e
  atom-indexed (tuple_dom ds) vs a m e = cc
  atom-indexed (record_dom fs ds) vs a m e = cc
  atom-indexed (matrix_dom is d) vs a m e = cc
  atom-indexed (set_dom ms es d) vs a m e = cc
  atom-indexed (mset_dom ms es d) vs a m e = cc
  atom-indexed (function_dom ms es d c) vs a m e = cc
  atom-indexed (relation_dom ms es ds) vs a m e = cc
  atom-indexed (partition_dom ms es d) vs a m e = cc

  -- ---- one index

  some-more : (xs : List Value) (n : ℕ) → length xs ≡ suc n → is_empty xs ≡ false
  some-more [] n e = absurd (omega arith)
  some-more (x ∷ xs) n e = refl

  no-more : (xs : Values) → length (to_list xs) ≡ 0 → nil ≡ xs
  no-more nil e = refl
  no-more (cons x xs) e = absurd (omega arith)

  with-items : (ix xs : Values) (i t : Ty) → is_empty (to_list ix) ≡ false → IndexPrinted env i (to_list ix) →
      nat_eq (length (to_list ix)) (length (to_list xs)) ≡ true → EachHas env name_of (to_list xs) t →
      AreFit env name_of xs → HasLiteral env name_of (matrix ix xs) (compound2 a_matrix i t)
  with-items ix xs i t e d l h f =
      let s = types-of env name_of (to_list xs) t h in
      let c : Dom = index_literal (of_list (to_list ix)) in
      literal-at env name_of (matrix (of_list (to_list ix)) (of_list (to_list xs))) (matrix ix xs) (compound2 a_matrix (type_of_dom c) s.w)
      (compound2 a_matrix i t)
      (matrix-literal-printed env plain c (to_list xs) s.ts (compound2 a_matrix (type_of_dom c) s.w)
      (matrix (of_list (to_list ix)) (of_list (to_list xs))) s.printed d.literal
      (ap (λ o. and_then o (λ u. Some (compound2 a_matrix (type_of_dom c) u))) s.join)
      (ap (λ o. matrix_value o (to_list xs)) d.members
      ∙ ap (λ b. when b (matrix (of_list (to_list ix)) (of_list (to_list xs)))) l))
      (ap (λ is. matrix is (of_list (to_list xs))) (of_list-to_list ix) ∙ ap (matrix ix) (of_list-to_list xs))
      (refl, (subst (λ u. Within u i) (sym d.type) (within-itself i), (s.within, tt))) f

  -- Without items the literal says nothing of the indices.
  without-items : (i t : Ty) → HasLiteral env name_of (matrix nil nil) (compound2 a_matrix i t)
  without-items i t =
      literal-at env name_of (matrix nil nil) (matrix nil nil) (compound2 a_matrix any_ty any_ty) (compound2 a_matrix i t)
      (list-literal-printed env [] [] (compound2 a_matrix any_ty any_ty) tt refl) refl (refl, (tt, (tt, tt))) (refl, tt)

  all-fit : (xs : Values) (t : Ty) → EachHas env name_of (to_list xs) t → AreFit env name_of xs
  all-fit xs t h = subst (AreFit env name_of) (of_list-to_list xs) (types-of env name_of (to_list xs) t h).fits

  indexed : (i : Dom) (ix xs : Values) (t : Ty) → is_atom i ≡ true → members_in (domain_of i env) ≡ Some (to_list ix) →
      nat_eq (length (to_list ix)) (length (to_list xs)) ≡ true → EachHas env name_of (to_list xs) t →
      HasLiteral env name_of (matrix ix xs) (compound2 a_matrix (type_of_dom i) t)
  indexed i nil nil t a m l h = without-items (type_of_dom i) t
  indexed i nil (cons x xs) t a m l h = let e = equal-numbers 0 (length (to_list (cons x xs))) l in absurd (omega arith)
  indexed i (cons j js) xs t a m l h =
      with-items (cons j js) xs (type_of_dom i) t refl (atom-indexed i (to_list (cons j js)) a m refl) l h (all-fit xs t h)

  -- ---- several indices

  one-index : (i : Dom) (is : Doms) (c : Domain) (cs : Domains) (t : Ty) (f : Value → Bool) → is_atom i ≡ true →
      domain_of i env ≡ Some c → ((w : Value) → nested_matrix cs f w ≡ true → HasLiteral env name_of w (nested_ty is t)) → (v : Value) →
      nested_matrix (more_domains c cs) f v ≡ true → HasLiteral env name_of v (nested_ty (more_doms i is) t)
  one-index i is c cs t f a e h (matrix ix xs) m =
      let A = is_some_and (members c) (λ vs. same_list vs (to_list ix)) in
      let B = nat_eq (length (to_list ix)) (length (to_list xs)) in
      let C = list_all (nested_matrix cs f) (to_list xs) in
      let l = and-left (A && B) C m in
      let r = some-and (members c) (λ vs. same_list vs (to_list ix)) (and-left A B l) in
      indexed i ix xs (nested_ty is t) a (ap members_in e ∙ r.1 ∙ ap Some (one-list r.0 ix r.2)) (and-right A B l)
      (each-has env name_of (nested_matrix cs f) (to_list xs) (nested_ty is t) h (and-right (A && B) C m))
  one-index i is c cs t f a e h _ m = cc

  -- A matrix over atoms, whose elements have their literals.
  pub matrix-has : (is : Doms) (js : Domains) (t : Ty) (f : Value → Bool) → ((v : Value) → f v ≡ true → HasLiteral env name_of v t) →
      each_is_atom is ≡ true → domains_of is env ≡ Some js → (v : Value) → nested_matrix js f v ≡ true → HasLiteral env name_of v (nested_ty is t)
  matrix-has no_doms js t f h a e v m = let q : no_domains ≡ js = cc in h v (subst (λ j. nested_matrix j f v ≡ true) (sym q) m)
  matrix-has (more_doms i is) js t f h a e v m =
      let x = some-then (domain_of i env) (λ x. option_map (more_domains x) (domains_of is env)) js e in
      let y = some-map (domains_of is env) (more_domains x.0) js x.2 in
      one-index i is x.0 y.0 t f (and-left (is_atom i) (each_is_atom is) a) x.1
      (matrix-has is y.0 t f h (and-right (is_atom i) (each_is_atom is) a) y.1) v
      (subst (λ j. nested_matrix j f v ≡ true) (sym y.2) m)

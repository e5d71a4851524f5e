-- The index domain of a matrix literal is printed as one of the same type and members.
use Rattle.std.proofs.Common.{◌≡◌, refl, sym, ap, ◌∙◌, subst, ℕ, zero, suc, true, false, List, [], ◌∷◌, ℤ, pos, Option, Some, None, option_map, arith}
use Rattle.std.specs.List.{list_all}
use Rattle.std.specs.Ordering.{is_lt}
use Rattle.std.specs.Cmp.{int_cmp_is}
use Rattle.std.proofs.lemmas.Int.{ints}
use Rattle.std.specs.declared.cmp.Ordering.TheVariants.{Less}
use Rattle.ess_semantics.specs.Lists.{is_empty, list_or_none}
use Rattle.ess_semantics.specs.Values.{Text, Value, number, truth, item, node, of_list, itself}
use Rattle.ess_semantics.specs.Order.{below}
use Rattle.ess_semantics.specs.Collections.{rises, sorted_once}
use Rattle.ess_semantics.specs.Operators.{numbers_from}
use Rattle.ess_semantics.specs.Trees.{Dom, bool_dom, int_dom, name_dom, tuple_dom, record_dom, matrix_dom, set_dom, mset_dom, function_dom, relation_dom, partition_dom}
use Rattle.ess_semantics.specs.Types.{Ty, bool_ty, int_ty, named_ty, type_of_dom}
use Rattle.ess_semantics.specs.Domains.{Span, integers, items_from}
use Rattle.ess_semantics.specs.Membership.{member}
use Rattle.ess_semantics.specs.Meaning.{Env, TypeEntry, type_entry, named_domain, members_in, domain_of, meanings, spans_of}
use Rattle.ess_semantics.specs.Literals.{is_literal_index}
use Rattle.ess_semantics.proofs.Tests.{and-right, and-both}
use Rattle.ess_semantics.proofs.Sorting.{sorted_once-itself}
use Rattle.ess_semantics.proofs.MemberLists.{integers-listed}
use Rattle.ess_grammar.specs.ValueTexts.{runs_of, index_literal}
use Rattle.ess_values_laws.proofs.IntervalRuns.{AllNumbers, runs-members, runs-int-members, runs-literal-index, spans-of-runs, before-some}

module _ (env : Env) where
  -- The printed index domain is one of a literal, of type i, and has these members.
  pub record IndexPrinted (i : Ty) (vs : List Value) : Type 0 where
    pub literal : is_literal_index (index_literal (of_list vs)) ≡ true
    pub type : type_of_dom (index_literal (of_list vs)) ≡ i
    pub members : members_in (domain_of (index_literal (of_list vs)) env) ≡ Some vs

  -- of numbers
  pub numbers-printed : (n : ℤ) (vs : List Value) → AllNumbers vs → rises itself (number n ∷ vs) ≡ true → IndexPrinted int_ty (number n ∷ vs)
  numbers-printed n vs h r =
      let ws = number n ∷ vs in
      let rs = runs_of (of_list ws) in
      let some = before-some n (runs_of (of_list vs)) in
      record {
        literal = runs-literal-index rs some;
        type = refl;
        members =
            ap (λ o. members_in (option_map integers o)) (spans-of-runs rs env) ∙ runs-int-members rs some
            ∙ ap (λ l. Some (sorted_once l)) (runs-members ws h) ∙ ap Some (sorted_once-itself ws r);
      }

  pub all-numbers : (ss : List Span) (vs : List Value) → list_all (member (integers ss)) vs ≡ true → AllNumbers vs
  all-numbers ss [] h = tt
  all-numbers ss (number n ∷ vs) h = all-numbers ss vs (and-right (member (integers ss) (number n)) (list_all (member (integers ss)) vs) h)
  all-numbers ss (truth b ∷ vs) h = cc
  all-numbers ss (item t k ∷ vs) h = cc
  all-numbers ss (node k us ∷ vs) h = cc

  some-numbers : (vs : List Value) → is_empty vs ≡ false → AllNumbers vs → rises itself vs ≡ true → IndexPrinted int_ty vs
  some-numbers [] e h r = cc
  some-numbers (number n ∷ vs) e h r = numbers-printed n vs h r
  some-numbers (truth b ∷ vs) e h r = absurd h
  some-numbers (item t k ∷ vs) e h r = absurd h
  some-numbers (node k us ∷ vs) e h r = absurd h

  -- of a named type
  items-printed : (a : Text) (n : ℕ) → members_in (domain_of (name_dom a) env) ≡ Some (items_from a 1 n) → is_empty (items_from a 1 n) ≡ false → IndexPrinted (named_ty a) (items_from a 1 n)
  items-printed a zero e h = cc
  items-printed a (suc n) e h = record { literal = refl; type = refl; members = e }

  named-printed : (a : Text) (o : Option TypeEntry) (vs : List Value) → members_in (named_domain false a o) ≡ Some vs → is_empty vs ≡ false → members_in (domain_of (name_dom a) env) ≡ Some vs → IndexPrinted (named_ty a) vs
  named-printed a None vs e h m = cc
  named-printed a (Some t) vs e h m =
      let f : items_from a 1 t.count ≡ vs = cc in
      subst (IndexPrinted (named_ty a)) f (items-printed a t.count (m ∙ ap Some (sym f)) (ap is_empty f ∙ h))

  -- Each index domain of a literal with members.
  pub index-printed : (d : Dom) (vs : List Value) → env.positions ≡ false → is_literal_index d ≡ true → members_in (domain_of d env) ≡ Some vs → is_empty vs ≡ false → IndexPrinted (type_of_dom d) vs
  index-printed bool_dom vs p l e h = let f : truth false ∷ truth true ∷ [] ≡ vs = cc in subst (IndexPrinted bool_ty) f (record { literal = refl; type = refl; members = refl })
  index-printed (name_dom a) vs p l e h =
      named-printed a (type_entry env.types a) vs (ap (λ b. members_in (named_domain b a (type_entry env.types a))) (sym p) ∙ e) h e
  index-printed (int_dom rs es) vs p l e h = go (spans_of rs (meanings es env)) e
    where
      go : (o : Option (List Span)) → members_in (option_map integers o) ≡ Some vs → IndexPrinted int_ty vs
      go None e = cc
      go (Some ss) e =
          let i = integers-listed ss in
          some-numbers vs h (all-numbers ss vs (ap (λ o. list_all (member (integers ss)) (list_or_none o)) (sym e) ∙ i.members))
          (ap (λ o. rises itself (list_or_none o)) (sym e) ∙ i.sorted)
  index-printed (tuple_dom ds) vs p l e h = cc
  index-printed (record_dom ns ds) vs p l e h = cc
  index-printed (matrix_dom ds d) vs p l e h = cc
  index-printed (set_dom ms es d) vs p l e h = cc
  index-printed (mset_dom ms es d) vs p l e h = cc
  index-printed (function_dom ms es c d) vs p l e h = cc
  index-printed (relation_dom ms es ds) vs p l e h = cc
  index-printed (partition_dom ms es d) vs p l e h = cc

  -- ---- the indices of a list

  next-number : (k : ℕ) → below (number (pos k)) (number (pos (suc k))) ≡ true
  next-number k = ap is_lt (sym (int_cmp_is (pos k) (pos (suc k)) Less (omega (arith, ints))))

  numbers-rise : (k : ℕ) (xs : List Value) → rises itself (numbers_from k xs) ≡ true
  numbers-rise k [] = refl
  numbers-rise k (x ∷ []) = refl
  numbers-rise k (x ∷ y ∷ ys) =
      and-both (below (number (pos k)) (number (pos (suc k)))) (rises itself (numbers_from (suc k) (y ∷ ys))) (next-number k) (numbers-rise (suc k) (y ∷ ys))

  numbers-all : (k : ℕ) (xs : List Value) → AllNumbers (numbers_from k xs)
  numbers-all k [] = tt
  numbers-all k (x ∷ xs) = numbers-all (suc k) xs

  pub list-index-printed : (x : Value) (xs : List Value) → IndexPrinted int_ty (numbers_from 1 (x ∷ xs))
  list-index-printed x xs = numbers-printed (pos 1) (numbers_from 2 xs) (numbers-all 2 xs) (numbers-rise 1 (x ∷ xs))

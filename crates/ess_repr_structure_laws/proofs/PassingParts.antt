-- Tests that each part of an expression passes: what operands and domains have, and what follows for sizes.
use Rattle.std.proofs.Common.{◌≡◌, refl, sym, ap, ◌∙◌, Bool, true, false, ◌||◌, not, List, [], ◌∷◌, ◌++◌, ℤ, pos}
use Rattle.std.specs.List.{list_all, list_any}
use Rattle.std.proofs.lemmas.List.Folds.{list_all-append}
use Rattle.ess_semantics.specs.Values.{Text}
use Rattle.ess_semantics.specs.Occurrences.{parts_of, parts_of_all, parts_of_dom, parts_of_doms}
use Rattle.ess_semantics.specs.Trees.{Op, name_pat, Ex, Exs, number_ex, node_ex, comp_ex, no_exs, more_exs, no_gens, over, Dom, Doms, bool_dom, int_dom, name_dom, tuple_dom, record_dom, matrix_dom, set_dom, mset_dom, function_dom, relation_dom, partition_dom, no_doms, more_doms}
use Rattle.ess_semantics.specs.declared.words.Fun.{Fun}
use Rattle.ess_semantics.specs.Trees.{word, matrix_literal}
use Rattle.ess_semantics.proofs.Tests.{and-left, and-right, and-both, or-left-no, or-right-no, not-true}
use Rattle.ess_repr_laws.specs.StructureParts.{add_ex}
use Rattle.ess_repr_declare_laws.specs.SizeTerms.{zero_ex, unused_name}
use Rattle.ess_repr_structure_laws.proofs.BuiltStructures as B
use Rattle.ess_repr_structure_laws.proofs.BuiltSizes.{SizesOf}
use Rattle.ess_repr_structure_laws.proofs.MetParts.{Any}

-- ---- lists

module _ {A : Type 0} (f : A → Bool) where
  pub all-left : (xs ys : List A) → list_all f (xs ++ ys) ≡ true → list_all f xs ≡ true
  all-left xs ys h = and-left (list_all f xs) (list_all f ys) (sym (list_all-append f xs ys) ∙ h)

  pub all-right : (xs ys : List A) → list_all f (xs ++ ys) ≡ true → list_all f ys ≡ true
  all-right xs ys h = and-right (list_all f xs) (list_all f ys) (sym (list_all-append f xs ys) ∙ h)

  pub all-both : (xs ys : List A) → list_all f xs ≡ true → list_all f ys ≡ true → list_all f (xs ++ ys) ≡ true
  all-both xs ys g h = list_all-append f xs ys ∙ and-both (list_all f xs) (list_all f ys) g h

  -- What passes one test passes another that follows from it.
  pub all-more : (g : A → Bool) → ((x : A) → f x ≡ true → g x ≡ true) → (xs : List A) → list_all f xs ≡ true → list_all g xs ≡ true
  all-more g h [] e = refl
  all-more g h (x ∷ xs) e = and-both (g x) (list_all g xs) (h x (and-left (f x) (list_all f xs) e)) (all-more g h xs (and-right (f x)
      (list_all f xs) e))

-- That none has a property, and that each hasn't.
pub none-all : {A : Type 0} (p : A → Bool) (xs : List A) → list_any p xs ≡ false → list_all (λ x. not (p x)) xs ≡ true
none-all p [] h = refl
none-all p (x ∷ xs) h =
    and-both (not (p x)) (list_all (λ x. not (p x)) xs) (ap not (or-left-no (p x) (list_any p xs) h))
    (none-all p xs (or-right-no (p x) (list_any p xs) h))

pub all-none : {A : Type 0} (p : A → Bool) (xs : List A) → list_all (λ x. not (p x)) xs ≡ true → list_any p xs ≡ false
all-none p [] h = refl
all-none p (x ∷ xs) h =
    ap (λ b. b || list_any p xs) (not-true (p x) (and-left (not (p x)) (list_all (λ x. not (p x)) xs) h))
    ∙ all-none p xs (and-right (not (p x)) (list_all (λ x. not (p x)) xs) h)

-- ---- parts

module _ (f : Ex → Bool) where
  -- Each part of the expression passes the test.
  abbrev pub Passes : Ex → Type 0
  Passes e = list_all f (parts_of e) ≡ true

  pub operands-pass : (es : Exs) → B.AllHave Passes es → list_all f (parts_of_all es) ≡ true
  operands-pass no_exs a = refl
  operands-pass (more_exs e es) a = all-both f (parts_of e) (parts_of_all es) a.0 (operands-pass es a.1)

  mutual
    pub dom-passes : (d : Dom) → B.DomHas Passes d → list_all f (parts_of_dom d) ≡ true
    dom-passes bool_dom h = refl
    dom-passes (int_dom rs es) h = operands-pass es h
    dom-passes (name_dom a) h = refl
    dom-passes (tuple_dom ds) h = doms-pass ds h
    dom-passes (record_dom fs ds) h = doms-pass ds h
    dom-passes (matrix_dom is d) h = all-both f _ _ (doms-pass is h.0) (dom-passes d h.1)
    dom-passes (set_dom ms es d) h = all-both f _ _ (operands-pass es h.0) (dom-passes d h.1)
    dom-passes (mset_dom ms es d) h = all-both f _ _ (operands-pass es h.0) (dom-passes d h.1)
    dom-passes (function_dom ms es d c) h = all-both f _ _ (all-both f _ _ (operands-pass es h.0) (dom-passes d h.1)) (dom-passes c h.2)
    dom-passes (relation_dom ms es ds) h = all-both f _ _ (operands-pass es h.0) (doms-pass ds h.1)
    dom-passes (partition_dom ms es d) h = all-both f _ _ (operands-pass es h.0) (dom-passes d h.1)

    doms-pass : (ds : Doms) → B.DomsHave Passes ds → list_all f (parts_of_doms ds) ≡ true
    doms-pass no_doms h = refl
    doms-pass (more_doms d ds) h = all-both f _ _ (dom-passes d h.0) (doms-pass ds h.1)

  -- And the other way round.
  pub passing-operands : (es : Exs) → list_all f (parts_of_all es) ≡ true → B.AllHave Passes es
  passing-operands no_exs h = tt
  passing-operands (more_exs e es) h = (
    all-left f (parts_of e) (parts_of_all es) h,
    passing-operands es (all-right f (parts_of e) (parts_of_all es) h),
  )

  mutual
    pub passing-dom : (d : Dom) → list_all f (parts_of_dom d) ≡ true → B.Good Passes Any d
    passing-dom bool_dom h = tt
    passing-dom (int_dom rs es) h = (tt, passing-operands es h)
    passing-dom (name_dom a) h = tt
    passing-dom (tuple_dom ds) h = passing-doms ds h
    passing-dom (record_dom fs ds) h = passing-doms ds h
    passing-dom (matrix_dom is d) h = (
      passing-doms is (all-left f (parts_of_doms is) (parts_of_dom d) h),
      passing-dom d
          (all-right f (parts_of_doms is) (parts_of_dom d) h),
    )
    passing-dom (set_dom ms es d) h = (
      passing-operands es (all-left f (parts_of_all es) (parts_of_dom d) h),
      passing-dom d
          (all-right f (parts_of_all es) (parts_of_dom d) h),
    )
    passing-dom (mset_dom ms es d) h = (
      tt,
      passing-operands es (all-left f (parts_of_all es) (parts_of_dom d) h),
      passing-dom d (all-right f (parts_of_all es) (parts_of_dom d) h),
    )
    passing-dom (function_dom ms es d c) h =
        let k = all-left f (parts_of_all es ++ parts_of_dom d) (parts_of_dom c) h in (
          passing-operands es (all-left f (parts_of_all es) (parts_of_dom d) k),
          passing-dom d (all-right f (parts_of_all es) (parts_of_dom d) k),
          passing-dom c (all-right f (parts_of_all es ++ parts_of_dom d) (parts_of_dom c) h),
        )
    passing-dom (relation_dom ms es ds) h = (
      passing-operands es (all-left f (parts_of_all es) (parts_of_doms ds) h),
      passing-doms ds (all-right f (parts_of_all es) (parts_of_doms ds) h),
    )
    passing-dom (partition_dom ms es d) h = (
      passing-operands es (all-left f (parts_of_all es) (parts_of_dom d) h),
      passing-dom d
          (all-right f (parts_of_all es) (parts_of_dom d) h),
    )

    passing-doms : (ds : Doms) → list_all f (parts_of_doms ds) ≡ true → B.AllGood Passes Any ds
    passing-doms no_doms h = tt
    passing-doms (more_doms d ds) h = (
      passing-dom d (all-left f (parts_of_dom d) (parts_of_doms ds) h),
      passing-doms ds
          (all-right f (parts_of_dom d) (parts_of_doms ds) h),
    )

  -- One more index.
  pub index-added : (is : Exs) (e : Ex) → list_all f (parts_of_all is) ≡ true → Passes e → list_all f (parts_of_all (add_ex is e)) ≡ true
  index-added no_exs e h p = all-both f (parts_of e) [] p refl
  index-added (more_exs x is) e h p =
      all-both f (parts_of x) (parts_of_all (add_ex is e)) (all-left f (parts_of x) (parts_of_all is) h)
      (index-added is e (all-right f (parts_of x) (parts_of_all is) h) p)

-- ---- sizes

-- What numbers, operators and lists over a domain have, sizes have.
pub sizes-by : (P : Ex → Type 0) → ((n : ℤ) → P (number_ex n)) → ((b : Bool) (op : Op) (es : Exs) → B.AllHave P es → P (node_ex b op es)) →
    ((e : Ex) (a : Text) (d : Dom) → P e → B.DomHas P d → P (comp_ex e (over (name_pat a) d no_gens))) → SizesOf P
sizes-by P numbers nodes lists = record {
  zero = numbers (pos 0);
  one = numbers (pos 1);
  two = numbers (pos 2);
  nodes = λ b op es u a. nodes b op es a;
  most = λ a h. nodes false (word Fun.Max) _ (
    nodes false matrix_literal (more_exs zero_ex (more_exs a no_exs))
        (numbers (pos 0), (h, tt)),
    tt,
  );
  listed = λ d h. nodes false (word Fun.Sum) _ (lists (number_ex (pos 1)) unused_name d (numbers (pos 1)) h, tt);
}

-- The numbers of domains of sets and of sizes of types that have lettings put in are those of the statements as they were written: a
-- letting's numbers stand in the letting.
use Rattle.std.proofs.Common.{◌≡◌, refl, sym, ap, ◌∙◌, subst, Bool, true, false, ◌&&◌, if◌then◌else◌, List, [], ◌∷◌, inl, inr, map, ℤ, Option, Some, None}
use Rattle.ess_semantics.specs.Lists.{append_all}
use Rattle.ess_semantics.specs.Values.{Text}
use Rattle.ess_semantics.specs.Order.{same_text}
use Rattle.ess_semantics.specs.Names.{Names, look}
use Rattle.ess_semantics.specs.Trees.{Op, unary, binary, word, Ex, Exs, number_ex, truth_ex, name_ex, node_ex, matrix_ex, comp_ex, cell_ex, seen_ex, no_exs, more_exs, Gens, no_gens, over, from, cond, Dom, bool_dom, int_dom, name_dom, set_dom, Stm, given, given_enum, let_ex, let_dom, let_enum, let_unnamed, needs, find, such_that, minimise, maximise}
use Rattle.ess_semantics.specs.Types.{Ty, type_of_dom, bind_types}
use Rattle.ess_semantics.specs.Typing.{source_ty}
use Rattle.ess_semantics.specs.Contexts.{Each}
use Rattle.ess_semantics.specs.Occurrences.{parts_of, parts_of_all, parts_of_dom}
use Rattle.ess_semantics.specs.Constants.{operand_count, counts_of_op, constants_of_part, constants_of_stm}
use Rattle.ess_semantics.specs.Lettings.{Lettings, no_lettings, lettings_after, put_name, put_dom_name, put_operands, put_ex, put_exs, put_gens, put_dom, put_stm, put_all, types_after}
use Rattle.ess_semantics.specs.Resolving.{resolve, resolve_exs, resolve_dom}
use Rattle.ess_semantics.specs.Prepared.{resolve_stm, resolve_all, prepared}
use Rattle.ess_semantics.proofs.Tests.{and-left, and-right, and-both}
use Rattle.conjure_laws.specs.Members.{In}
use Rattle.conjure_laws.proofs.Lists.{in-left, in-right}
use Rattle.ess_flat_models_laws.proofs.FlatValues.{AllNumbers, NumbersOfAll}
use Rattle.ess_flat_models_laws.proofs.SimpleTrees.{no, maps-append, is_simple_op, is_simple, are_simple, is_simple_dom, DomNumbers, simple-before, all-before, numbers-resolved, all-resolved}

-- Whether it is a domain of scalars, or of sets of any nesting over them with attributes that are arithmetic.
abbrev pub is_ranged : Dom → Bool
is_ranged (set_dom ms es d) = are_simple es && is_ranged d
is_ranged d = is_simple_dom d

module _ (Q : ℤ → Type 0) where
  -- The numbers of such a domain.
  abbrev pub RangeNumbers : Dom → Type 0
  RangeNumbers (set_dom ms es d) = NumbersOfAll Q es × RangeNumbers d
  RangeNumbers d = DomNumbers Q d

  -- Those of the domain of a find, and of the size of a type.
  abbrev pub RangesAre : Stm → Type 0
  RangesAre (find x d) = is_ranged d ≡ true → RangeNumbers d
  RangesAre (let_unnamed t e) = is_simple e ≡ true → AllNumbers Q e
  RangesAre s = Unit {0}

  -- ---- lettings

  -- The numbers of flat lettings.
  record LetNumbers (l : Lettings) : Type 0 where
    pub exs : (a : Text) (e : Ex) → look l.exs a ≡ Some e → is_simple e ≡ true → AllNumbers Q e
    pub doms : (a : Text) (d : Dom) → look l.doms a ≡ Some d → is_ranged d ≡ true → RangeNumbers d

  operands-put : (op : Op) (es fs : Exs) (g : Names Ty) → is_simple_op op ≡ true → put_operands op es fs g ≡ fs
  operands-put (unary o) es fs g h = refl
  operands-put (binary o) es fs g h = refl
  operands-put (word f) es fs g h = refl
  operands-put op es fs g h = absurd (no h)

  name-put : (a : Text) (o : Option Ex) → ((e : Ex) → o ≡ Some e → is_simple e ≡ true → AllNumbers Q e) →
      is_simple (put_name o a) ≡ true → AllNumbers Q (put_name o a)
  name-put a None f h = tt
  name-put a (Some e) f h = f e refl h

  dom-name-put : (a : Text) (o : Option Dom) → ((d : Dom) → o ≡ Some d → is_ranged d ≡ true → RangeNumbers d) →
      is_ranged (put_dom_name o a) ≡ true → RangeNumbers (put_dom_name o a)
  dom-name-put a None f h = tt
  dom-name-put a (Some d) f h = f d refl h

  gens-put : (gs : Gens) (l : Lettings) (g : Names Ty) (k : Gens → Names Ty → Ex) →
      ((hs : Gens) (h : Names Ty) → is_simple (k hs h) ≡ false) → is_simple (put_gens gs l g k) ≡ false
  gens-put no_gens l g k f = f no_gens g
  gens-put (over p d gs) l g k f =
      gens-put gs l (bind_types p (type_of_dom (put_dom d l g)) g) (λ hs h. k (over p (put_dom d l g) hs) h)
      (λ hs h. f (over p (put_dom d l g) hs) h)
  gens-put (from p e gs) l g k f =
      gens-put gs l (bind_types p (source_ty (put_ex e l g) g) g) (λ hs h. k (from p (put_ex e l g) hs) h)
      (λ hs h. f (from p (put_ex e l g) hs) h)
  gens-put (cond e gs) l g k f = gens-put gs l g (λ hs h. k (cond (put_ex e l g) hs) h) (λ hs h. f (cond (put_ex e l g) hs) h)

  -- Each constant of these parts has the property.
  abbrev Constants : List Ex → Type 0
  Constants ps = (k : ℤ) → In k (append_all (map constants_of_part ps)) → Q k

  mutual
    numbers-put : (e : Ex) (l : Lettings) (g : Names Ty) → LetNumbers l → is_simple (put_ex e l g) ≡ true → Constants (parts_of e) →
        AllNumbers Q (put_ex e l g)
    numbers-put (number_ex n) l g w h c = c n (inl refl)
    numbers-put (truth_ex b) l g w h c = tt
    numbers-put (name_ex a) l g w h c = name-put a (look l.exs a) (w.exs a) h
    numbers-put (node_ex b op es) l g w h c =
        let u : Bool = are_simple (put_operands op es (put_exs es l g) g) in
        let q = operands-put op es (put_exs es l g) g (and-left (is_simple_op op) u h) in
        let n = all-put es l g w (ap are_simple (sym q) ∙ and-right (is_simple_op op) u h)
        (λ k i. c k (in-right k (counts_of_op op (operand_count es)) (append_all (map constants_of_part (parts_of_all es))) i)) in
        back (put_operands op es (put_exs es l g) g) (put_exs es l g) q n
      where
        back : (es fs : Exs) → es ≡ fs → NumbersOfAll Q fs → NumbersOfAll Q es
        back es fs q n = subst (NumbersOfAll Q) (sym q) n
    numbers-put (matrix_ex es d) l g w h c = tt
    numbers-put (comp_ex e gs) l g w h c =
        absurd (no (sym (gens-put gs l g (λ hs h. comp_ex (put_ex e l h) hs) (λ hs h. refl)) ∙ h))
    numbers-put (cell_ex b n es) l g w h c = tt
    numbers-put (seen_ex r d ns es) l g w h c = tt

    all-put : (es : Exs) (l : Lettings) (g : Names Ty) → LetNumbers l → are_simple (put_exs es l g) ≡ true → Constants (parts_of_all es) →
        NumbersOfAll Q (put_exs es l g)
    all-put no_exs l g w h c = tt
    all-put (more_exs e es) l g w h c = (
      numbers-put e l g w (and-left (is_simple (put_ex e l g)) (are_simple (put_exs es l g)) h)
          (λ k i. c k (subst (In k) (sym (maps-append constants_of_part (parts_of e) (parts_of_all es)))
          (in-left k (append_all (map constants_of_part (parts_of e))) (append_all (map constants_of_part (parts_of_all es))) i))),
      all-put es l g w (and-right (is_simple (put_ex e l g)) (are_simple (put_exs es l g)) h)
          (λ k i. c k (subst (In k) (sym (maps-append constants_of_part (parts_of e) (parts_of_all es)))
          (in-right k (append_all (map constants_of_part (parts_of e))) (append_all (map constants_of_part (parts_of_all es))) i))),
    )

  dom-put : (d : Dom) (l : Lettings) (g : Names Ty) → LetNumbers l → is_ranged (put_dom d l g) ≡ true → Constants (parts_of_dom d) →
      RangeNumbers (put_dom d l g)
  dom-put bool_dom l g w h c = tt
  dom-put (int_dom rs es) l g w h c = all-put es l g w h c
  dom-put (name_dom a) l g w h c = dom-name-put a (look l.doms a) (w.doms a) h
  dom-put (set_dom ms es d) l g w h c =
      let a : Bool = are_simple (put_exs es l g) in
      let b : Bool = is_ranged (put_dom d l g) in
      let e = maps-append constants_of_part (parts_of_all es) (parts_of_dom d) in (
        all-put es l g w (and-left a b h) (λ k i. c k (subst (In k) (sym e)
            (in-left k (append_all (map constants_of_part (parts_of_all es))) (append_all (map constants_of_part (parts_of_dom d))) i))),
        dom-put d l g w (and-right a b h) (λ k i. c k (subst (In k) (sym e)
            (in-right k (append_all (map constants_of_part (parts_of_all es))) (append_all (map constants_of_part (parts_of_dom d))) i))),
      )
  dom-put d l g w h c = absurd (no h)

  dom-before : (d : Dom) (g : Names Ty) → is_ranged (resolve_dom d g) ≡ true → is_ranged d ≡ true
  dom-before bool_dom g h = refl
  dom-before (int_dom rs es) g h = all-before Q es g h
  dom-before (set_dom ms es d) g h =
      let a : Bool = are_simple (resolve_exs es g) in
      let b : Bool = is_ranged (resolve_dom d g) in
      and-both (are_simple es) (is_ranged d) (all-before Q es g (and-left a b h)) (dom-before d g (and-right a b h))
  dom-before d g h = absurd (no h)

  dom-resolved : (d : Dom) (g : Names Ty) → is_ranged (resolve_dom d g) ≡ true → RangeNumbers d → RangeNumbers (resolve_dom d g)
  dom-resolved bool_dom g h m = tt
  dom-resolved (int_dom rs es) g h m = all-resolved Q es g h m
  dom-resolved (set_dom ms es d) g h m =
      let a : Bool = are_simple (resolve_exs es g) in
      let b : Bool = is_ranged (resolve_dom d g) in
      (all-resolved Q es g (and-left a b h) m.0, dom-resolved d g (and-right a b h) m.1)
  dom-resolved d g h m = absurd (no h)

  -- ---- statements

  of-ex : (e : Ex) (l : Lettings) (g : Names Ty) → LetNumbers l → Constants (parts_of e) → is_simple (resolve (put_ex e l g) g) ≡ true →
      AllNumbers Q (resolve (put_ex e l g) g)
  of-ex e l g w c h = numbers-resolved Q (put_ex e l g) g h (numbers-put e l g w (simple-before Q (put_ex e l g) g h) c)

  of-dom : (d : Dom) (l : Lettings) (g : Names Ty) → LetNumbers l → Constants (parts_of_dom d) →
      is_ranged (resolve_dom (put_dom d l g) g) ≡ true → RangeNumbers (resolve_dom (put_dom d l g) g)
  of-dom d l g w c h = dom-resolved (put_dom d l g) g h (dom-put d l g w (dom-before (put_dom d l g) g h) c)

  of-statement : (s : Stm) (l : Lettings) (g : Names Ty) → LetNumbers l → ((k : ℤ) → In k (constants_of_stm s) → Q k) →
      RangesAre (resolve_stm (put_stm s l g) g)
  of-statement (find x d) l g w c = of-dom d l g w c
  of-statement (let_unnamed t e) l g w c = of-ex e l g w c
  of-statement (given x d) l g w c = tt
  of-statement (needs e) l g w c = tt
  of-statement (such_that e) l g w c = tt
  of-statement (minimise e) l g w c = tt
  of-statement (maximise e) l g w c = tt
  of-statement (given_enum t) l g w c = tt
  of-statement (let_ex x e) l g w c = tt
  of-statement (let_dom x d) l g w c = tt
  of-statement (let_enum t ns) l g w c = tt

  one-more : {A : Type 0} (P : A → Type 0) (x a : Text) (e f : A) (ks : Names A) → P e → (look ks a ≡ Some f → P f) →
      (if same_text x a then Some e else look ks a) ≡ Some f → P f
  one-more {A} P x a e f ks p q h = go (same_text x a) h
    where
      same : (e f : A) → Some e ≡ Some f → e ≡ f
      same e f z = cc

      go : (b : Bool) → (if b then Some e else look ks a) ≡ Some f → P f
      go true z = subst P (same e f z) p
      go false z = q z

  let-more : (s : Stm) (l : Lettings) (g : Names Ty) → LetNumbers l → ((k : ℤ) → In k (constants_of_stm s) → Q k) →
      LetNumbers (lettings_after (put_stm s l g) l)
  let-more (let_ex x e) l g w c = record {
    exs = λ a f q. one-more (λ f. is_simple f ≡ true →
        AllNumbers Q f) x a (put_ex e l g) f l.exs (λ h. numbers-put e l g w h c) (w.exs a f) q;
    doms = w.doms;
  }
  let-more (let_dom x d) l g w c = record {
    exs = w.exs;
    doms = λ a f q. one-more (λ f. is_ranged f ≡ true → RangeNumbers f) x a (put_dom d l g) f l.doms (λ h. dom-put d l g w h c)
        (w.doms a f) q;
  }
  let-more (given x d) l g w c = w
  let-more (find x d) l g w c = w
  let-more (needs e) l g w c = w
  let-more (such_that e) l g w c = w
  let-more (minimise e) l g w c = w
  let-more (maximise e) l g w c = w
  let-more (given_enum t) l g w c = w
  let-more (let_enum t ns) l g w c = w
  let-more (let_unnamed t e) l g w c = w

  all-statements : (T : List Stm) (l : Lettings) (g : Names Ty) → LetNumbers l →
      ((s : Stm) → In s T → (k : ℤ) → In k (constants_of_stm s) → Q k) → Each (resolve_all (put_all T l g) g) RangesAre
  all-statements [] l g w c = tt
  all-statements (s ∷ T) l g w c =
      let t : Stm = put_stm s l g in (
        of-statement s l g w (c s (inl refl)),
        all-statements T (lettings_after t l) (types_after t g) (let-more s l g w (c s (inl refl))) (λ u i. c u (inr i)),
      )

  -- So it is of all.
  pub prepared-ranges : (S : List Stm) → ((s : Stm) → In s S → (k : ℤ) → In k (constants_of_stm s) → Q k) → Each (prepared S) RangesAre
  prepared-ranges S c =
      all-statements S no_lettings [] (record { exs = λ a e q. absurd (none q); doms = λ a d q. absurd (no-dom q) }) c
    where
      none : {e : Ex} → None ≡ Some e → ⊥
      none q = cc

      no-dom : {d : Dom} → None ≡ Some d → ⊥
      no-dom q = cc

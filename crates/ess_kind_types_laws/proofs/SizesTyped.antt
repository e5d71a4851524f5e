-- Sizes of domains are ints, and have marks.
use Rattle.std.proofs.Common.{◌≡◌, refl, sym, ap, subst, Bool, false, ◌||◌, List, [], ◌∷◌, Some}
use Rattle.ess_semantics.specs.declared.words.Op2.{Op2}
use Rattle.ess_semantics.specs.declared.words.Fun.{Fun}
use Rattle.ess_semantics.specs.Values.{a_matrix}
use Rattle.ess_semantics.specs.Names.{Names}
use Rattle.ess_semantics.specs.Trees.{Op, binary, word, is_truth_op, matrix_literal, Mark, Ex, Exs, node_ex, ex2, no_exs, more_exs, Dom, Doms, bool_dom, int_dom, name_dom, tuple_dom, record_dom, matrix_dom, set_dom, mset_dom, function_dom, relation_dom, partition_dom, no_doms, more_doms}
use Rattle.ess_semantics.specs.Types.{Ty, int_ty, compound2, is_bool}
use Rattle.ess_semantics.specs.OperatorTypes.{type_of_op}
use Rattle.ess_semantics.specs.Typing.{type_of}
use Rattle.ess_repr_declare_laws.specs.SizeTerms.{zero_ex, at_least_0_ex, slots_ex, dummy_ex}
use Rattle.ess_refine_laws.specs.MarksStay.{MarkFits, HasMarks, HaveMarks, DomHasMarks, DomsHaveMarks}
use Rattle.ess_refine_types_laws.proofs.TypeParts.{one-to, two-to}
use Rattle.ess_kind_sizes_laws.proofs.SizesHave.{SizeParts, AllHave, NumbersHave, AllNumbersHave, set-slots-have, dummy-has}
use Rattle.ess_kind_types_laws.specs.SetsTyped.{AllInts, IntsIn, AllIntsIn}

module _ (g : Names Ty) where
  -- ---- types

  -- The expression is an int; nothing more is asked of domains.
  abbrev pub Int : Ex → Type 0
  Int e = type_of e g ≡ Some int_ty

  -- Nothing of domains.
  abbrev pub AnyDom : Dom → Type 0
  AnyDom d = Unit {0}

  -- An operator on two ints that gives one.
  two-ints : (o : Op2) (a b : Ex) → type_of_op (binary o) (int_ty ∷ int_ty ∷ []) ≡ Some int_ty → Int a → Int b → Int (ex2 false o a b)
  two-ints o a b q h k = two-to (type_of a g) (type_of b g) (type_of_op (binary o)) int_ty int_ty int_ty h k q

  two-listed : (a : Ex) → Int a →
      type_of (node_ex false matrix_literal (more_exs zero_ex (more_exs a no_exs))) g ≡ Some (compound2 a_matrix int_ty int_ty)
  two-listed a h =
      two-to (Some int_ty) (type_of a g) (type_of_op matrix_literal) int_ty int_ty (compound2 a_matrix int_ty int_ty) refl h refl

  most-int : (a : Ex) → Int a → Int (at_least_0_ex a)
  most-int a h =
      one-to (type_of (node_ex false matrix_literal (more_exs zero_ex (more_exs a no_exs))) g) (type_of_op (word Fun.Max))
      (compound2 a_matrix int_ty int_ty) int_ty (two-listed a h) refl

  pub sizes-int : SizeParts Int AnyDom
  sizes-int = record {
    zero = refl;
    one = refl;
    two = refl;
    sums = λ a b h k. two-ints Op2.Plus a b refl h k;
    differences = λ a b h k. two-ints Op2.Minus a b refl h k;
    products = λ a b h k. two-ints Op2.Times a b refl h k;
    powers = λ a b h k. two-ints Op2.Pow a b refl h k;
    most = most-int;
    listed = λ d h. refl;
  }

  pub each-int : (es : Exs) → AllInts g es → AllHave Int AnyDom es
  each-int no_exs h = tt
  each-int (more_exs e es) h = (h.0, each-int es h.1)

  mutual
    pub numbers-int : (d : Dom) → IntsIn g d → NumbersHave Int AnyDom d
    numbers-int bool_dom h = tt
    numbers-int (int_dom rs es) h = (each-int es h, tt)
    numbers-int (name_dom a) h = tt
    numbers-int (tuple_dom ds) h = all-int ds h
    numbers-int (record_dom fs ds) h = all-int ds h
    numbers-int (matrix_dom is d) h = (all-int is h.0, numbers-int d h.1)
    numbers-int (set_dom ms es d) h = (each-int es h.0, numbers-int d h.1)
    numbers-int (mset_dom ms es d) h = (each-int es h.0, numbers-int d h.1)
    numbers-int (function_dom ms es d c) h = (each-int es h.0, numbers-int d h.1, numbers-int c h.2)
    numbers-int (relation_dom ms es ds) h = (each-int es h.0, all-int ds h.1)
    numbers-int (partition_dom ms es d) h = (each-int es h.0, numbers-int d h.1)

    all-int : (ds : Doms) → AllIntsIn g ds → AllNumbersHave Int AnyDom ds
    all-int no_doms h = tt
    all-int (more_doms d ds) h = (numbers-int d h.0, all-int ds h.1)

  -- The slots of a set are an int.
  pub slots-int : (ms : List Mark) (es : Exs) (d : Dom) → IntsIn g (set_dom ms es d) → Int (slots_ex (set_dom ms es d))
  slots-int ms es d h = set-slots-have Int AnyDom sizes-int ms es d (each-int es h.0) (numbers-int d h.1)

  -- And so is a dummy.
  pub dummy-int : (d : Dom) → IntsIn g d → Int (dummy_ex d)
  dummy-int d h = dummy-has Int AnyDom sizes-int d (numbers-int d h)

  -- ---- marks

  -- The mark of a node whose type is known.
  pub mark-at : (b : Bool) (op : Op) (es : Exs) (t : Ty) → type_of (node_ex b op es) g ≡ Some t → b ≡ (is_truth_op op || is_bool (Some t)) →
      MarkFits b op (type_of (node_ex b op es) g)
  mark-at b op es t q h = subst (λ o. MarkFits b op o) (sym q) h

  -- The expression is an int and has marks.
  pub record MarkedInt (e : Ex) : Type 0 where
    pub int : Int e
    pub marks : HasMarks e g

  -- A domain that has marks.
  abbrev pub MarkedDom : Dom → Type 0
  MarkedDom d = DomHasMarks d g

  two-marked : (o : Op2) (a b : Ex) → type_of_op (binary o) (int_ty ∷ int_ty ∷ []) ≡ Some int_ty → is_truth_op (binary o) ≡ false →
      MarkedInt a → MarkedInt b → MarkedInt (ex2 false o a b)
  two-marked o a b q i h k =
      let t : Int (ex2 false o a b) = two-ints o a b q h.int k.int in
      record {
        int = t;
        marks = (
          mark-at false (binary o) (more_exs a (more_exs b no_exs)) int_ty t (ap (λ z. z || false) (sym i)),
          (h.marks, (k.marks, tt)),
        );
      }

  most-marked : (a : Ex) → MarkedInt a → MarkedInt (at_least_0_ex a)
  most-marked a h = record {
    int = most-int a h.int;
    marks = (
      mark-at false (word Fun.Max) (more_exs (node_ex false matrix_literal (more_exs zero_ex (more_exs a no_exs))) no_exs) int_ty
          (most-int a h.int) refl,
      (
        (
          mark-at false matrix_literal (more_exs zero_ex (more_exs a no_exs)) (compound2 a_matrix int_ty int_ty) (two-listed a h.int) refl,
          (tt, (h.marks, tt)),
        ),
        tt,
      ),
    );
  }

  pub sizes-marked : SizeParts MarkedInt MarkedDom
  sizes-marked = record {
    zero = record { int = refl; marks = tt };
    one = record { int = refl; marks = tt };
    two = record { int = refl; marks = tt };
    sums = λ a b h k. two-marked Op2.Plus a b refl refl h k;
    differences = λ a b h k. two-marked Op2.Minus a b refl refl h k;
    products = λ a b h k. two-marked Op2.Times a b refl refl h k;
    powers = λ a b h k. two-marked Op2.Pow a b refl refl h k;
    most = most-marked;
    listed = λ d h. record { int = refl; marks = (refl, (((h, tt), tt), tt)) };
  }

  pub each-marked : (es : Exs) → AllInts g es → HaveMarks es g → AllHave MarkedInt MarkedDom es
  each-marked no_exs h k = tt
  each-marked (more_exs e es) h k = (record { int = h.0; marks = k.0 }, each-marked es h.1 k.1)

  mutual
    pub numbers-marked : (d : Dom) → IntsIn g d → DomHasMarks d g → NumbersHave MarkedInt MarkedDom d
    numbers-marked bool_dom h k = tt
    numbers-marked (int_dom rs es) h k = (each-marked es h k, k)
    numbers-marked (name_dom a) h k = tt
    numbers-marked (tuple_dom ds) h k = all-marked ds h k
    numbers-marked (record_dom fs ds) h k = all-marked ds h k
    numbers-marked (matrix_dom is d) h k = (all-marked is h.0 k.0, numbers-marked d h.1 k.1)
    numbers-marked (set_dom ms es d) h k = (each-marked es h.0 k.0, numbers-marked d h.1 k.1)
    numbers-marked (mset_dom ms es d) h k = (each-marked es h.0 k.0, numbers-marked d h.1 k.1)
    numbers-marked (function_dom ms es d c) h k = (each-marked es h.0 k.0, numbers-marked d h.1 k.1, numbers-marked c h.2 k.2)
    numbers-marked (relation_dom ms es ds) h k = (each-marked es h.0 k.0, all-marked ds h.1 k.1)
    numbers-marked (partition_dom ms es d) h k = (each-marked es h.0 k.0, numbers-marked d h.1 k.1)

    all-marked : (ds : Doms) → AllIntsIn g ds → DomsHaveMarks ds g → AllNumbersHave MarkedInt MarkedDom ds
    all-marked no_doms h k = tt
    all-marked (more_doms d ds) h k = (numbers-marked d h.0 k.0, all-marked ds h.1 k.1)

  -- So they have marks.
  pub slots-marked : (ms : List Mark) (es : Exs) (d : Dom) → IntsIn g (set_dom ms es d) → DomHasMarks (set_dom ms es d) g →
      HasMarks (slots_ex (set_dom ms es d)) g
  slots-marked ms es d h k =
      let m : MarkedInt (slots_ex (set_dom ms es d)) =
      set-slots-have MarkedInt MarkedDom sizes-marked ms es d (each-marked es h.0 k.0) (numbers-marked d h.1 k.1) in m.marks

  -- And so has a dummy.
  pub dummy-marked : (d : Dom) → IntsIn g d → DomHasMarks d g → HasMarks (dummy_ex d) g
  dummy-marked d h k =
      let m : MarkedInt (dummy_ex d) = dummy-has MarkedInt MarkedDom sizes-marked d (numbers-marked d h k) in m.marks

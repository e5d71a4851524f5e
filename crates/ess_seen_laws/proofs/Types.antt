-- Types of trees over views: of scalars those of their marks, of sets those of their kinds.
use Rattle.std.proofs.Common.{◌≡◌, refl, ap, ◌∙◌, ℕ, Bool, true, false, List, [], ◌∷◌, Option, Some, option_map}
use Rattle.ess_semantics.specs.declared.words.Op1.{Op1}
use Rattle.ess_semantics.specs.declared.words.Op2.{Op2}
use Rattle.ess_semantics.specs.declared.words.Fun.{Fun}
use Rattle.ess_semantics.specs.Lists.{and_then, all_some}
use Rattle.ess_semantics.specs.Values.{Text, a_set, a_matrix}
use Rattle.ess_semantics.specs.Names.{Names}
use Rattle.ess_semantics.specs.Trees.{unary, binary, word, matrix_literal, Ex, Exs, comp_ex, Gens, Dom}
use Rattle.ess_semantics.specs.Types.{Ty, any_ty, bool_ty, int_ty, compound, no_tys, more_tys, compound1, compound2, join, join_all, type_of_dom, or_any}
use Rattle.ess_semantics.specs.OperatorTypes.{type_of_op, member_ty, subtracted, united as united_ty, included as included_ty}
use Rattle.ess_semantics.specs.Typing.{type_of, types_of, types_under, source_ty}
use Rattle.ess_semantics.specs.NamesAt.{names_behind}
use Rattle.ess_rules_laws.specs.SourceRules.{list_of}
use Rattle.ess_bare_laws.specs.ess_flat_laws.Flat.{OneOp, denied, negative, absolute, TwoOp, both, either, implied, agreeing, equal, unequal, below, at_most, above, at_least, sum, difference, product}
use Rattle.ess_bare_laws.specs.Lean.{FoldWord, of_all, of_some, of_sum}
use Rattle.ess_seen_laws.specs.Seen.{Kind, scalars, sets_of, kind_ty, Bound, from_a_set, bound_types, Combines, united, shared, lessened, Compares, alike, apart, included, properly_included, including, properly_including, Counted, so_many, from_to, from_0, subsets, none_below, as_an_atom, SetTerm, view, drawn, combined, Seen, number, truth, named, counted, figure, flag, atom, one, two, chosen, folded, of_items, size, within, set_within, compared, Listed, last_item, item_before, Going, at_end, through, through_slots, among, where_holds, Range, truths, numbers}
use Rattle.ess_seen_laws.specs.SeenParts.{Items, gone_through, items_listed}
use Rattle.ess_seen_laws.proofs.Lookups.{look-bound, number-cell}
use Rattle.ess_seen_laws.proofs.Written.{keeps-written, written-type, atom-type}

-- The type of a scalar.
abbrev pub mark : Bool → Ty
mark m = kind_ty (scalars m)

-- ---- operators

one-type : {b m : Bool} {o : Op1} → OneOp b o m → and_then (all_some (Some (mark m) ∷ [])) (type_of_op (unary o)) ≡ Some (mark b)
one-type denied = refl
one-type negative = refl
one-type absolute = refl

two-type : {b m k : Bool} {o : Op2} → TwoOp b o m k →
    and_then (all_some (Some (mark m) ∷ Some (mark k) ∷ [])) (type_of_op (binary o)) ≡ Some (mark b)
two-type both = refl
two-type either = refl
two-type implied = refl
two-type agreeing = refl
two-type (equal {m = true}) = refl
two-type (equal {m = false}) = refl
two-type (unequal {m = true}) = refl
two-type (unequal {m = false}) = refl
two-type (below {m = true}) = refl
two-type (below {m = false}) = refl
two-type (at_most {m = true}) = refl
two-type (at_most {m = false}) = refl
two-type (above {m = true}) = refl
two-type (above {m = false}) = refl
two-type (at_least {m = true}) = refl
two-type (at_least {m = false}) = refl
two-type sum = refl
two-type difference = refl
two-type product = refl

fold-type : {m : Bool} {f : Fun} → FoldWord m f →
    and_then (all_some (Some (compound2 a_matrix int_ty (mark m)) ∷ [])) (type_of_op (word f)) ≡ Some (mark m)
fold-type of_all = refl
fold-type of_some = refl
fold-type of_sum = refl

-- ---- operators on sets

-- The type of a kind agrees with itself.
pub kind-join : (k : Kind) → join (kind_ty k) (kind_ty k) ≡ Some (kind_ty k)
kind-join (scalars true) = refl
kind-join (scalars false) = refl
kind-join (sets_of k) = ap (λ o. option_map (compound a_set) (and_then o (λ v. option_map (more_tys v) (Some no_tys)))) (kind-join k)

-- `in`, of members of a kind.
member-type : (k : Kind) →
    and_then (all_some (Some (kind_ty k) ∷ Some (compound1 a_set (kind_ty k)) ∷ [])) (type_of_op (binary Op2.Member)) ≡ Some bool_ty
member-type k = ap (option_map (λ v. bool_ty)) (kind-join k)

-- What makes a set of two.
combined-type : {o : Op2} → Combines o → (k : Kind) →
    and_then (all_some (Some (compound1 a_set (kind_ty k)) ∷ Some (compound1 a_set (kind_ty k)) ∷ [])) (type_of_op (binary o)) ≡
    Some (compound1 a_set (kind_ty k))
combined-type united k = ap (λ o. and_then o united_ty) (kind-join (sets_of k))
combined-type shared k = ap (λ o. and_then o united_ty) (kind-join (sets_of k))
combined-type lessened k = ap (λ o. and_then o subtracted) (kind-join (sets_of k))

-- What compares two sets.
compared-type : {o : Op2} → Compares o → (k : Kind) →
    and_then (all_some (Some (compound1 a_set (kind_ty k)) ∷ Some (compound1 a_set (kind_ty k)) ∷ [])) (type_of_op (binary o)) ≡
    Some bool_ty
compared-type alike k = ap (option_map (λ v. bool_ty)) (kind-join (sets_of k))
compared-type apart k = ap (option_map (λ v. bool_ty)) (kind-join (sets_of k))
compared-type included k = ap (λ o. and_then o included_ty) (kind-join (sets_of k))
compared-type properly_included k = ap (λ o. and_then o included_ty) (kind-join (sets_of k))
compared-type including k = ap (λ o. and_then o included_ty) (kind-join (sets_of k))
compared-type properly_including k = ap (λ o. and_then o included_ty) (kind-join (sets_of k))

-- ---- lists of items

-- These are types of one item or several, each that of the mark.
abbrev pub ItemTypes : List (Option Ty) → Bool → Type 0
ItemTypes os m = (ts : List Ty) × (all_some os ≡ Some (mark m ∷ ts)) × (join_all (mark m ∷ ts) ≡ Some (mark m))

any-join : (m : Bool) → join (mark m) any_ty ≡ Some (mark m)
any-join true = refl
any-join false = refl

last-types : (o : Option Ty) (m : Bool) → o ≡ Some (mark m) → ItemTypes (o ∷ []) m
last-types o m q = ([], ap (λ v. all_some (v ∷ [])) q, any-join m)

before-types : (o : Option Ty) (os : List (Option Ty)) (m : Bool) → o ≡ Some (mark m) → ItemTypes os m → ItemTypes (o ∷ os) m
before-types o os m q t = (
  mark m ∷ t.0,
  ap (λ v. all_some (v ∷ os)) q ∙ ap (option_map (λ ts. mark m ∷ ts)) t.1,
  ap (λ v. and_then v (join (mark m))) t.2 ∙ kind-join (scalars m),
)

-- The type of their list.
listed-ty : (os : List (Option Ty)) (m : Bool) → ItemTypes os m →
    and_then (all_some os) (type_of_op matrix_literal) ≡ Some (compound2 a_matrix int_ty (mark m))
listed-ty os m t = ap (λ o. and_then o (type_of_op matrix_literal)) t.1 ∙ ap (option_map (compound2 a_matrix int_ty)) t.2

-- ---- operands

-- One operand, and two, of these types.
at-one : (f : List Ty → Option Ty) (t : Option Ty) (u : Ty) → t ≡ Some u →
    and_then (all_some (t ∷ [])) f ≡ and_then (all_some (Some u ∷ [])) f
at-one f t u q = ap (λ o. and_then (all_some (o ∷ [])) f) q

at-two : (f : List Ty → Option Ty) (t : Option Ty) (u : Ty) (v : Option Ty) (w : Ty) → t ≡ Some u → v ≡ Some w →
    and_then (all_some (t ∷ v ∷ [])) f ≡ and_then (all_some (Some u ∷ Some w ∷ [])) f
at-two f t u v w q p =
    ap (λ o. and_then (all_some (o ∷ v ∷ [])) f) q ∙ ap (λ o. and_then (all_some (Some u ∷ o ∷ [])) f) p

-- A comprehension, by what its generators bind.
list-type : (o : Option (Names Ty)) (h : Names Ty) (e : Ex) (t : Ty) → o ≡ Some h → type_of e h ≡ Some t →
    and_then o (λ g. option_map (compound2 a_matrix int_ty) (type_of e g)) ≡ Some (compound2 a_matrix int_ty t)
list-type o h e t q p =
    ap (λ v. and_then v (λ g. option_map (compound2 a_matrix int_ty) (type_of e g))) q ∙ ap (option_map (compound2 a_matrix int_ty)) p

-- A source, by the type of the set.
under-type : (o : Option Ty) (k : Kind) (f : Ty → Option (Names Ty)) → o ≡ Some (compound1 a_set (kind_ty k)) →
    and_then (and_then o member_ty) f ≡ f (kind_ty k)
under-type o k f q = ap (λ v. and_then (and_then v member_ty) f) q

source-type : (o : Option Ty) (k : Kind) → o ≡ Some (compound1 a_set (kind_ty k)) → or_any (and_then o member_ty) ≡ kind_ty k
source-type o k q = ap (λ v. or_any (and_then v member_ty)) q

-- A condition, by its type.
where-type : (o : Option Ty) (n : Option (Names Ty)) → o ≡ Some bool_ty →
    and_then o (λ t. and_then (join t bool_ty) (λ u. n)) ≡ n
where-type o n q = ap (λ v. and_then v (λ t. and_then (join t bool_ty) (λ u. n))) q

-- The type of what a domain of a generator binds.
pub range-type : {cells : Text → Option (Bool × List ℕ)} (r : Names Bound) (d : Dom) (m : Bool) → Range cells r d m → type_of_dom d ≡ mark m
range-type r d m truths = refl
range-type r d m (numbers f g) = refl

-- A number of slots is a number.
pub counted-type : {e : Ex} {n : ℕ} → Counted e n → (g : Names Ty) → type_of e g ≡ Some int_ty
counted-type so_many g = refl
counted-type (from_to q) g = refl
counted-type from_0 g = refl
counted-type (subsets {t = t} c) g =
    at-two (type_of_op (binary Op2.Pow)) (Some int_ty) int_ty (type_of t g) int_ty refl (counted-type c g)
counted-type (none_below {t = t} c) g =
    at-one (type_of_op (word Fun.Max)) (and_then (all_some (type_of t g ∷ Some int_ty ∷ [])) (type_of_op matrix_literal))
    (compound2 a_matrix int_ty int_ty)
    (listed-ty (type_of t g ∷ Some int_ty ∷ []) false
    (before-types (type_of t g) (Some int_ty ∷ []) false (counted-type c g) (last-types (Some int_ty) false refl)))

module _ (cells : Text → Option (Bool × List ℕ)) where
  -- The type of a set is that of sets of its kind.
  pub set-type : {r : Names Bound} {e : Ex} {k : Kind} → SetTerm cells r e k →
      type_of e (bound_types r) ≡ Some (compound1 a_set (kind_ty k))
  set-type (view {d = d} n f k p) = ap Some (written-type (keeps-written k))
  set-type {r} (drawn {a = a} {k = k} q) = look-bound r a (from_a_set (sets_of k)) q
  set-type {r} (combined {o = o} {s = s} {t = t} {k = k} c u v) =
      at-two (type_of_op (binary o)) (type_of s (bound_types r)) (compound1 a_set (kind_ty k)) (type_of t (bound_types r))
      (compound1 a_set (kind_ty k)) (set-type u) (set-type v) ∙ combined-type c k

  mutual
    -- The type of a scalar is that of its mark.
    pub seen-type : {r : Names Bound} {e : Ex} {m : Bool} → Seen cells r e m → type_of e (bound_types r) ≡ Some (mark m)
    seen-type number = refl
    seen-type truth = refl
    seen-type {r} (named {a = a} {b = b} q k) = look-bound r a b q ∙ ap (λ j. Some (kind_ty j)) k
    seen-type {r} (counted c) = counted-type c (bound_types r)
    seen-type {r} (figure {n = n} q p) = ap Some (number-cell r n)
    seen-type (flag q i) = refl
    seen-type (atom {d = d} (as_an_atom h q) p) = ap Some (atom-type d h)
    seen-type {r} (one {m = k} {o = o} {x = x} w f) =
        at-one (type_of_op (unary o)) (type_of x (bound_types r)) (mark k) (seen-type f) ∙ one-type w
    seen-type {r} (two {m = i} {k = k} {o = o} {x = x} {y = y} w f g) =
        at-two (type_of_op (binary o)) (type_of x (bound_types r)) (mark i) (type_of y (bound_types r)) (mark k) (seen-type f) (seen-type g)
        ∙ two-type w
    seen-type {r} (chosen {x = x} f) = at-one (type_of_op (word Fun.ToInt)) (type_of x (bound_types r)) bool_ty (seen-type f)
    seen-type {r} (folded {t = t} {m = m} {f = w} {e = e} {gs = gs} v g f) =
        at-one (type_of_op (word w)) (type_of (comp_ex e gs) (bound_types r)) (compound2 a_matrix int_ty (mark m))
        (list-type (types_under gs (bound_types r)) (bound_types t) e (mark m) (going-under g) (seen-type f)) ∙ fold-type v
    seen-type {r} (of_items {m = m} {f = w} {es = es} v l) =
        at-one (type_of_op (word w)) (type_of (list_of es) (bound_types r)) (compound2 a_matrix int_ty (mark m))
        (listed-ty (types_of es (bound_types r)) m (listed-types l)) ∙ fold-type v
    seen-type {r} (size {k = k} {s = s} v) =
        at-one (type_of_op (unary Op1.Bar)) (type_of s (bound_types r)) (compound1 a_set (kind_ty k)) (set-type v)
    seen-type {r} (within {m = m} {a = a} {s = s} f v) =
        at-two (type_of_op (binary Op2.Member)) (type_of a (bound_types r)) (mark m) (type_of s (bound_types r)) (compound1 a_set (mark m))
        (seen-type f) (set-type v) ∙ member-type (scalars m)
    seen-type {r} (set_within {k = k} {a = a} {s = s} u v) =
        at-two (type_of_op (binary Op2.Member)) (type_of a (bound_types r)) (kind_ty (sets_of k)) (type_of s (bound_types r))
        (compound1 a_set (kind_ty (sets_of k))) (set-type u) (set-type v) ∙ member-type (sets_of k)
    seen-type {r} (compared {o = o} {k = k} {s = s} {t = t} c u v) =
        at-two (type_of_op (binary o)) (type_of s (bound_types r)) (compound1 a_set (kind_ty k)) (type_of t (bound_types r))
        (compound1 a_set (kind_ty k)) (set-type u) (set-type v) ∙ compared-type c k

    -- The types of items.
    pub listed-types : {r : Names Bound} {es : Exs} {m : Bool} → Listed cells r es m → ItemTypes (types_of es (bound_types r)) m
    listed-types {r} (last_item {m = m} {e = e} f) = last-types (type_of e (bound_types r)) m (seen-type f)
    listed-types {r} (item_before {m = m} {e = e} {es = es} f l) =
        before-types (type_of e (bound_types r)) (types_of es (bound_types r)) m (seen-type f) (listed-types l)

    -- Generators bind names of these types.
    pub going-under : {r t : Names Bound} {gs : Gens} → Going cells r gs t → types_under gs (bound_types r) ≡ Some (bound_types t)
    going-under at_end = refl
    going-under {r} (through {m = m} {a = a} {d = d} {gs = gs} n g) =
        ap (λ t. types_under gs ((a, t) ∷ bound_types r)) (range-type r d m n) ∙ going-under g
    going-under (through_slots c g) = going-under g
    going-under {r} (among {k = k} {a = a} {s = s} {gs = gs} v g) =
        under-type (type_of s (bound_types r)) k (λ t. types_under gs ((a, t) ∷ bound_types r)) (set-type v) ∙ going-under g
    going-under {r} (where_holds {c = c} {gs = gs} f g) =
        where-type (type_of c (bound_types r)) (types_under gs (bound_types r)) (seen-type f) ∙ going-under g

  -- The type of a list is that of lists of its items.
  pub items-type : {r : Names Bound} {e : Ex} {m : Bool} → Items cells r e m →
      type_of e (bound_types r) ≡ Some (compound2 a_matrix int_ty (mark m))
  items-type {r} (gone_through {t = t} {m = m} {e = e} {gs = gs} g f) =
      list-type (types_under gs (bound_types r)) (bound_types t) e (mark m) (going-under g) (seen-type f)
  items-type {r} (items_listed {m = m} {es = es} l) = listed-ty (types_of es (bound_types r)) m (listed-types l)

  -- So are the types of names behind generators.
  pub going-behind : {r t : Names Bound} {gs : Gens} → Going cells r gs t → names_behind gs (bound_types r) ≡ bound_types t
  going-behind at_end = refl
  going-behind {r} (through {m = m} {a = a} {d = d} {gs = gs} n g) =
      ap (λ t. names_behind gs ((a, t) ∷ bound_types r)) (range-type r d m n) ∙ going-behind g
  going-behind (through_slots c g) = going-behind g
  going-behind {r} (among {k = k} {a = a} {s = s} {gs = gs} v g) =
      ap (λ t. names_behind gs ((a, t) ∷ bound_types r)) (source-type (type_of s (bound_types r)) k (set-type v)) ∙ going-behind g
  going-behind (where_holds f g) = going-behind g

  -- What a source gives to a name is of the kind of its members.
  pub source-said : {r : Names Bound} {e : Ex} {k : Kind} → SetTerm cells r e k → source_ty e (bound_types r) ≡ kind_ty k
  source-said {r} {e} {k} s = source-type (type_of e (bound_types r)) k (set-type s)

-- Words of lists, and signs between them, of matrices without their index domains keep types and marks.
use Rattle.std.proofs.Common.{◌≡◌, refl, sym, ap, ◌∙◌, subst, Bool, true, false, ◌&&◌, ◌||◌, if◌then◌else◌, List, [], ◌∷◌, Option, Some, None, option_map}
use Rattle.std.specs.Prelude.{is_some}
use Rattle.ess_semantics.specs.declared.words.Op2.{Op2}
use Rattle.ess_semantics.specs.declared.words.Fun.{Fun}
use Rattle.ess_semantics.specs.Lists.{and_then, all_some}
use Rattle.ess_semantics.specs.Values.{a_matrix}
use Rattle.ess_semantics.specs.Names.{Names}
use Rattle.ess_semantics.specs.Trees.{binary, word, matrix_literal, Ex, matrix_ex, ex2, fun1}
use Rattle.ess_semantics.specs.Types.{Ty, any_ty, int_ty, compound, compound2, no_tys, more_tys, join, join_all, type_of_dom}
use Rattle.ess_semantics.specs.OperatorTypes.{type_of_op, type_of_list, compared, lex_compared}
use Rattle.ess_semantics.specs.Typing.{type_of, types_of}
use Rattle.ess_semantics.proofs.Tests.{and-left, and-right}
use Rattle.ess_rules_laws.specs.FoldRules.{is_fold}
use Rattle.ess_rules_laws.specs.SourceRules.{list_of}
use Rattle.ess_rules_laws.specs.ListRules.{is_lex, is_of_list}
use Rattle.ess_guard_types_laws.proofs.JoinedTypes.{Agree}
use Rattle.ess_refine_laws.specs.TypesStay.{KeepsType}
use Rattle.ess_refine_laws.specs.MarksStay.{MarkFits, HasMarks}
use Rattle.ess_refine_types_laws.proofs.TypeParts.{one-is, one-to, two-is, two-to}
use Rattle.ess_rules_types_laws.specs.TypesOfOthers.{is_numeric}
use Rattle.ess_open_rules_laws.specs.OpenSources.{is_placed, plain_list, listed_plainly}
use Rattle.ess_refine_laws.specs.AllRules.{Supply}
use Rattle.ess_open_rules_laws.specs.OpenRules.{without_its_indices}
use Rattle.ess_open_types_laws.specs.OpeningsTyped.{is_list_ty, ComparesLists, OpeningsTyped}
use Rattle.ess_open_types_laws.proofs.TypesBehind.{KeepsBoth, BothKept, both-when}

no : {A : Type 0} → false ≡ true → A
no h = cc

-- ---- lists

-- The list of what is a matrix has items of one type with its.
abbrev AsList : Option Ty → Ty → Type 0
AsList o t = (i : Ty) × (j : Ty) × (e : Ty) × (t ≡ compound2 a_matrix i e) × (is_numeric (Some j) ≡ true)
    × (o ≡ Some (compound2 a_matrix j e))

made-list : (D : Ty) (ts : List Ty) (u : Ty) (o : Option Ty) → option_map (compound2 a_matrix D) o ≡ Some u →
    AsList (option_map (compound2 a_matrix int_ty) o) u
made-list D ts u None q = (any_ty, any_ty, any_ty, cc, refl, cc)
made-list D ts u (Some e) q = (D, int_ty, e, cc, refl, refl)

as-list : (D : Ty) (o : Option (List Ty)) (u : Ty) → and_then o (λ ts. option_map (compound2 a_matrix D) (join_all ts)) ≡ Some u →
    AsList (and_then o type_of_list) u
as-list D None u q = (any_ty, any_ty, any_ty, cc, refl, cc)
as-list D (Some []) u q = (D, any_ty, any_ty, cc, refl, refl)
as-list D (Some (t ∷ ts)) u q = made-list D (t ∷ ts) u (join_all (t ∷ ts)) q

-- ---- words

-- A word of lists doesn't read their indices.
word-of-list : (f : Fun) → is_fold f || is_of_list f ≡ true → (i j e : Ty) →
    type_of_op (word f) (compound2 a_matrix i e ∷ []) ≡ type_of_op (word f) (compound2 a_matrix j e ∷ [])
word-of-list Fun.And h i j e = refl
word-of-list Fun.Or h i j e = refl
word-of-list Fun.Sum h i j e = refl
word-of-list Fun.Product h i j e = refl
word-of-list Fun.Min h i j e = refl
word-of-list Fun.Max h i j e = refl
word-of-list Fun.AllDiff h i j e = refl
word-of-list _ h i j e = no h

-- ---- signs

sign-type : (o : Op2) → is_lex o ≡ true → (a b : Ty) → type_of_op (binary o) (a ∷ b ∷ []) ≡ and_then (join a b) lex_compared
sign-type Op2.LexLt h a b = refl
sign-type Op2.LexLe h a b = refl
sign-type Op2.LexGt h a b = refl
sign-type Op2.LexGe h a b = refl
sign-type _ h a b = no h

-- Index types that are numbers agree.
numbers-agree : (i j : Ty) → is_numeric (Some i) ≡ true → is_numeric (Some j) ≡ true → Agree i j
numbers-agree int_ty int_ty h k = refl
numbers-agree int_ty any_ty h k = refl
numbers-agree any_ty j h k = refl
numbers-agree _ _ h k = cc

-- The parts of two matrices.
abbrev two_joined : Option Ty → Option Ty → Option Ty
two_joined o p = option_map (compound a_matrix) (and_then o (λ v. option_map (more_tys v) (and_then p (λ w. option_map (more_tys w)
    (Some no_tys)))))

items-compared : (o p : Option Ty) (t : Ty) → and_then (two_joined o p) lex_compared ≡ Some t → and_then p compared ≡ Some t
items-compared None p t q = cc
items-compared (Some v) None t q = cc
items-compared (Some v) (Some w) t q = q

lists-compared : (o p : Option Ty) (t : Ty) → is_some o ≡ true → and_then p compared ≡ Some t →
    and_then (two_joined o p) lex_compared ≡ Some t
lists-compared None p t h q = cc
lists-compared (Some v) None t h q = cc
lists-compared (Some v) (Some w) t h q = q

-- A type of a list or of a matrix by its items, and that of it as a list.
data Plainer : Ty → Ty → Type 0 where
  of_nothing : Plainer any_ty any_ty
  of_items : {i j e : Ty} → is_numeric (Some j) ≡ true → Plainer (compound2 a_matrix i e) (compound2 a_matrix j e)

is-list : (u : Ty) → is_list_ty (Some u) ≡ true → Plainer u u
is-list any_ty h = of_nothing
is-list (compound2 a_matrix i e) h = of_items h
is-list _ h = no h

plainly-compared : (a b c d t : Ty) → Plainer a c → Plainer b d → and_then (join a b) lex_compared ≡ Some t →
    and_then (join c d) lex_compared ≡ Some t
plainly-compared a b c d t of_nothing of_nothing q = q
plainly-compared a b c d t of_nothing (of_items h) q = q
plainly-compared a b c d t (of_items h) of_nothing q = q
plainly-compared a b c d t (of_items {i = i} {j = j} {e = e} h) (of_items {i = k} {j = l} {e = f} n) q =
    lists-compared (join j l) (join e f) t (numbers-agree j l h n) (items-compared (join i k) (join e f) t q)

module _ (g : Names Ty) where
  -- ---- operands

  plainer : (x : Ex) (u : Ty) → type_of x g ≡ Some u → ComparesLists g x → (v : Ty) × (type_of (plain_list x) g ≡ Some v) × Plainer u v
  plainer (matrix_ex es d) u q h =
      let r = as-list (type_of_dom d) (all_some (types_of es g)) u q in
      (compound2 a_matrix r.1 r.2, r.5, subst (λ z. Plainer z (compound2 a_matrix r.1 r.2)) (sym r.3) (of_items r.4))
  plainer x u q h = (u, q, is-list u (subst (λ o. is_list_ty o ≡ true) q h))

  plain-marks : (x : Ex) (u : Ty) → type_of x g ≡ Some u → HasMarks x g → HasMarks (plain_list x) g
  plain-marks (matrix_ex es d) u q h =
      let r = as-list (type_of_dom d) (all_some (types_of es g)) u q in (subst (λ o. MarkFits false matrix_literal o) (sym r.5) refl, h.0)
  plain-marks x u q h = h

  -- ---- roots

  module _ (P : Type 0) where
    word-both : (m : Bool) (f : Fun) (t : Ex) → (is_fold f || is_of_list f) && is_placed t ≡ true →
        KeepsBoth g P (fun1 m f t) (fun1 m f (plain_list t))
    word-both m f (matrix_ex es d) c = (
      typed,
      λ p v q h.
          let r = one-is (type_of (matrix_ex es d) g) (type_of_op (word f)) v q in
          (subst (λ o. MarkFits m (word f) o) (q ∙ sym (typed v q)) h.0, (plain-marks (matrix_ex es d) r.0 r.1 h.1.0, tt)),
    )
      where
        typed : KeepsType g (fun1 m f (matrix_ex es d)) (fun1 m f (list_of es))
        typed v q =
            let r = one-is (type_of (matrix_ex es d) g) (type_of_op (word f)) v q in
            let l = as-list (type_of_dom d) (all_some (types_of es g)) r.0 r.1 in
            one-to (type_of (list_of es) g) (type_of_op (word f)) (compound2 a_matrix l.1 l.2) v l.5
            (word-of-list f (and-left (is_fold f || is_of_list f) true c) l.1 l.0 l.2
            ∙ ap (λ z. type_of_op (word f) (z ∷ [])) (sym l.3) ∙ r.2)
    word-both m f t c = no (and-right (is_fold f || is_of_list f) (is_placed t) c)

    sign-both : (o : Op2) (a b : Ex) → is_lex o ≡ true → ComparesLists g a → ComparesLists g b →
        KeepsBoth g P (ex2 true o a b) (ex2 true o (plain_list a) (plain_list b))
    sign-both o a b i ka kb = (
      typed,
      λ p t q h.
          let r = two-is (type_of a g) (type_of b g) (type_of_op (binary o)) t q in (
            subst (λ z. MarkFits true (binary o) z) (q ∙ sym (typed t q)) h.0,
            (plain-marks a r.0 r.2 h.1.0, (plain-marks b r.1 r.3 h.1.1.0, tt)),
          ),
    )
      where
        typed : KeepsType g (ex2 true o a b) (ex2 true o (plain_list a) (plain_list b))
        typed t q =
            let r = two-is (type_of a g) (type_of b g) (type_of_op (binary o)) t q in
            let x = plainer a r.0 r.2 ka in
            let y = plainer b r.1 r.3 kb in
            two-to (type_of (plain_list a) g) (type_of (plain_list b) g) (type_of_op (binary o)) x.0 y.0 t x.1 y.1
            (sign-type o i x.0 y.0
            ∙ plainly-compared r.0 r.1 x.0 y.0 t x.2 y.2 (sym (sign-type o i r.0 r.1) ∙ r.4))

    pub plainly : (s : Supply) (e : Ex) → OpeningsTyped s g without_its_indices e → BothKept g P e (listed_plainly e)
    plainly s (ex2 true o a b) h = both-when g P (is_lex o && (is_placed a || is_placed b)) (ex2 true o a b)
        (ex2 true o (plain_list a) (plain_list b))
        (λ c. sign-both o a b (and-left (is_lex o) (is_placed a || is_placed b) c) h.0 h.1)
    plainly s (fun1 m f t) h = both-when g P ((is_fold f || is_of_list f) && is_placed t) (fun1 m f t) (fun1 m f (plain_list t))
        (word-both m f t)
    plainly s _ h = tt

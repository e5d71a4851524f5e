-- What keeps types and marks, and so does behind generators, in two parts, and under a word.
use Rattle.std.proofs.Common.{◌≡◌, refl, sym, ap, ◌∙◌, subst, Bool, true, false, if◌then◌else◌, ◌∷◌, Option, Some, None, option_map}
use Rattle.ess_semantics.specs.declared.words.Fun.{Fun}
use Rattle.ess_semantics.specs.Lists.{and_then}
use Rattle.ess_semantics.specs.Values.{a_matrix}
use Rattle.ess_semantics.specs.Names.{Names}
use Rattle.ess_semantics.specs.Trees.{word, Ex, comp_ex, fun1, Gens, no_gens, over, from, cond}
use Rattle.ess_semantics.specs.Types.{Ty, int_ty, compound2}
use Rattle.ess_semantics.specs.OperatorTypes.{type_of_op}
use Rattle.ess_semantics.specs.Typing.{type_of, types_under}
use Rattle.ess_semantics.specs.NamesAt.{names_behind}
use Rattle.ess_types_laws.proofs.ResolvedTypes.{behind-types}
use Rattle.ess_rules_laws.specs.SpliceRules.{append_gens}
use Rattle.ess_refine_laws.specs.TypesStay.{KeepsType}
use Rattle.ess_refine_laws.specs.MarksStay.{MarkFits, HasMarks}
use Rattle.ess_refine_types_laws.proofs.TypeParts.{one-is, one-to}
use Rattle.ess_rules_types_laws.proofs.PutListed.{append-types}
use Rattle.ess_rules_marks_laws.proofs.Grows.{Grows, grown}
use Rattle.ess_put_marks_laws.proofs.MarksOfListed.{append-behind, append-marks, before-marks}
use Rattle.ess_open_rules_laws.specs.OpenGenerators.{Opened, with_first, opened_here, is_plain_over, at_first_open}

-- ---- both

-- The second tree has the type of the first one and, where that has a type and P holds, its marks.
abbrev pub KeepsBoth : Names Ty → Type 0 → Ex → Ex → Type 0
KeepsBoth g P a b = KeepsType g a b × (P → (t : Ty) → type_of a g ≡ Some t → HasMarks a g → HasMarks b g)

-- So it is with what a rule answers.
abbrev pub BothKept : Names Ty → Type 0 → Ex → Option Ex → Type 0
BothKept g P e None = Unit {0}
BothKept g P e (Some f) = KeepsBoth g P e f

pub both-when : (g : Names Ty) (P : Type 0) (c : Bool) (e f : Ex) → (c ≡ true → KeepsBoth g P e f) →
    BothKept g P e (if c then Some f else None)
both-when g P true e f h = h refl
both-when g P false e f h = tt

pub both-if : (g : Names Ty) (P : Type 0) (c : Bool) (e : Ex) (o : Option Ex) → BothKept g P e o → BothKept g P e (if c then o else None)
both-if g P true e o h = h
both-if g P false e o h = tt

-- Marks of what grows.
pub by-growth : (g : Names Ty) (P : Type 0) (e f : Ex) → KeepsType g e f → (P → HasMarks e g → Grows g f) → KeepsBoth g P e f
by-growth g P e f k m = (k, λ p t q h. grown g f (m p h) t (k t q))

-- A word of what keeps both.
pub at-word : (g : Names Ty) (P : Type 0) (m : Bool) (f : Fun) (c d : Ex) → KeepsBoth g P c d → KeepsBoth g P (fun1 m f c) (fun1 m f d)
at-word g P m f c d k = (
  typed,
  λ p v q h.
      let r = one-is (type_of c g) (type_of_op (word f)) v q in
      (subst (λ o. MarkFits m (word f) o) (q ∙ sym (typed v q)) h.0, (k.1 p r.0 r.1 h.1.0, tt)),
)
  where
    typed : KeepsType g (fun1 m f c) (fun1 m f d)
    typed v q =
        let r = one-is (type_of c g) (type_of_op (word f)) v q in one-to (type_of d g) (type_of_op (word f)) r.0 v (k.0 r.0 r.1) r.2

-- ---- behind generators

-- The type of a comprehension behind generators, and theirs.
pub inner-type : (gs : Gens) (e : Ex) (hs : Gens) (g : Names Ty) (v : Ty) → type_of (comp_ex e (append_gens gs hs)) g ≡ Some v →
    (types_under gs g ≡ Some (names_behind gs g)) × (type_of (comp_ex e hs) (names_behind gs g) ≡ Some v)
inner-type gs e hs g v q = go (types_under gs g) refl (sym (ap (λ o. and_then o L) (append-types gs hs g)) ∙ q)
  where
    L : Names Ty → Option Ty
    L h = option_map (compound2 a_matrix int_ty) (type_of e h)

    go : (o : Option (Names Ty)) → types_under gs g ≡ o → and_then (and_then o (types_under hs)) L ≡ Some v →
        (types_under gs g ≡ Some (names_behind gs g)) × (type_of (comp_ex e hs) (names_behind gs g) ≡ Some v)
    go None i p = (cc, cc)
    go (Some h) i p =
        let n : names_behind gs g ≡ h = behind-types gs g h i in
        (i ∙ ap Some (sym n), subst (λ k. type_of (comp_ex e hs) k ≡ Some v) (sym n) p)

pub outer-type : (gs : Gens) (e : Ex) (hs : Gens) (g : Names Ty) (v : Ty) → types_under gs g ≡ Some (names_behind gs g) →
    type_of (comp_ex e hs) (names_behind gs g) ≡ Some v → type_of (comp_ex e (append_gens gs hs)) g ≡ Some v
outer-type gs e hs g v i q =
    ap (λ o. and_then o (λ h. option_map (compound2 a_matrix int_ty) (type_of e h))) (append-types gs hs g)
    ∙ ap (λ o. and_then (and_then o (types_under hs)) (λ h. option_map (compound2 a_matrix int_ty) (type_of e h))) i ∙ q

-- The marks of a comprehension behind generators, and theirs.
pub inner-marks : (gs : Gens) (e : Ex) (hs : Gens) (g : Names Ty) → HasMarks (comp_ex e (append_gens gs hs)) g →
    HasMarks (comp_ex e hs) (names_behind gs g)
inner-marks gs e hs g m = ((before-marks gs hs g m.0).1, subst (HasMarks e) (append-behind gs hs g) m.1)

pub outer-marks : (gs : Gens) (e f : Ex) (hs ks : Gens) (g : Names Ty) → HasMarks (comp_ex e (append_gens gs hs)) g →
    HasMarks (comp_ex f ks) (names_behind gs g) → HasMarks (comp_ex f (append_gens gs ks)) g
outer-marks gs e f hs ks g m n =
    (append-marks gs ks g (before-marks gs hs g m.0).0 n.0, subst (HasMarks f) (sym (append-behind gs ks g)) n.1)

-- What keeps both behind generators does so with them.
pub both-behind : (gs : Gens) (e f : Ex) (hs ks : Gens) (g : Names Ty) (P : Type 0) →
    KeepsBoth (names_behind gs g) P (comp_ex e hs) (comp_ex f ks) →
    KeepsBoth g P (comp_ex e (append_gens gs hs)) (comp_ex f (append_gens gs ks))
both-behind gs e f hs ks g P k = (
  λ v q. let i = inner-type gs e hs g v q in outer-type gs f ks g v i.0 (k.0 v i.1),
  λ p v q m. let i = inner-type gs e hs g v q in outer-marks gs e f hs ks g m (k.1 p v i.1 (inner-marks gs e hs g m)),
)

-- ---- generators in two parts

-- Both parts are the generators.
pub two-parts : (gs : Gens) (t : Opened) → at_first_open gs ≡ Some t → gs ≡ append_gens t.before t.after
two-parts no_gens t q = cc
two-parts (over p d gs) t q = go (is_plain_over p d) q (λ u e. two-parts gs u e)
  where
    inner : (o : Option Opened) → at_first_open gs ≡ o → option_map (with_first (over p d)) o ≡ Some t →
        ((u : Opened) → at_first_open gs ≡ Some u → gs ≡ append_gens u.before u.after) → over p d gs ≡ append_gens t.before t.after
    inner None e q h = cc
    inner (Some u) e q h = subst (λ z. over p d gs ≡ append_gens z.before z.after) (let z : with_first (over p d) u ≡ t = cc in z)
        (ap (over p d) (h u e))

    go : (b : Bool) → (if b then option_map (with_first (over p d)) (at_first_open gs) else Some (opened_here (over p d gs))) ≡ Some t →
        ((u : Opened) → at_first_open gs ≡ Some u → gs ≡ append_gens u.before u.after) → over p d gs ≡ append_gens t.before t.after
    go true q h = inner (at_first_open gs) refl q h
    go false q h = subst (λ z. over p d gs ≡ append_gens z.before z.after) (let z : opened_here (over p d gs) ≡ t = cc in z) refl
two-parts (from p e gs) t q =
    subst (λ z. from p e gs ≡ append_gens z.before z.after) (let z : opened_here (from p e gs) ≡ t = cc in z) refl
two-parts (cond c gs) t q = go (at_first_open gs) refl q (λ u e. two-parts gs u e)
  where
    go : (o : Option Opened) → at_first_open gs ≡ o → option_map (with_first (cond c)) o ≡ Some t →
        ((u : Opened) → at_first_open gs ≡ Some u → gs ≡ append_gens u.before u.after) → cond c gs ≡ append_gens t.before t.after
    go None e q h = cc
    go (Some u) e q h = subst (λ z. cond c gs ≡ append_gens z.before z.after) (let z : with_first (cond c) u ≡ t = cc in z)
        (ap (cond c) (h u e))

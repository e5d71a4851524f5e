-- What an operand offers in order picks values of its type, and has marks; and such an operand says nothing to an index.
use Rattle.std.proofs.Common.{◌≡◌, refl, sym, ap, ◌∙◌, subst, ℕ, zero, suc, Bool, true, false, if◌then◌else◌, List, [], ◌∷◌, Option, Some, None, option_map}
use Rattle.std.specs.Prelude.{is_some}
use Rattle.ess_semantics.specs.Lists.{and_then, or_else}
use Rattle.ess_semantics.specs.Values.{Text}
use Rattle.ess_semantics.specs.Names.{Names}
use Rattle.ess_semantics.specs.Trees.{name_pat, Ex, Exs, number_ex, truth_ex, name_ex, node_ex, matrix_ex, comp_ex, cell_ex, seen_ex, no_exs, more_exs, Gens, from}
use Rattle.ess_semantics.specs.Types.{Ty, or_any}
use Rattle.ess_semantics.specs.OperatorTypes.{member_ty}
use Rattle.ess_semantics.specs.Typing.{other, static, type_of}
use Rattle.ess_rules_laws.specs.LiteralRules.{nth}
use Rattle.ess_rules_laws.specs.Listings.{Alternative}
use Rattle.ess_rules_laws.specs.ListedSources.{laid_out}
use Rattle.ess_refine_laws.specs.MarksStay.{HasMarks, HaveMarks}
use Rattle.ess_refine_laws.specs.AllRules.{Supply, OfSome}
use Rattle.ess_refine_types_laws.specs.MarksOfContainers.{IsNewTo}
use Rattle.ess_refine_types_laws.proofs.TypeParts.{list-over}
use Rattle.ess_put_marks_laws.specs.MarksOfTerms.{EachMarked}
use Rattle.ess_ordered_laws.specs.NumberedItems.{ordered_lookup}
use Rattle.ess_ordered_laws.specs.OrderedRules.{keeps_order, operand_lookup}
use Rattle.ess_ordered_laws.specs.PickedSources.{is_untold, source_lookup, each_source}
use Rattle.ess_open_types_laws.specs.OpeningsTyped.{EachPicksAlike}
use Rattle.ess_ordered_types_laws.specs.OrderedTyped.{untold_lookup, OperandFits, OperandMarked}
use Rattle.ess_ordered_types_laws.proofs.SourcesTyped.{named-source}

no : {A : Type 0} → false ≡ true → A
no h = cc

-- ---- what offers something in order says nothing to an index

item-says-nothing : (z : Text) (ys : List Text) (t : Ex) (l : List Alternative) → ordered_lookup z ys t ≡ Some l → static t ≡ other
item-says-nothing z [] t l q = no (let i : false ≡ true = cc in i)
item-says-nothing z (y ∷ ys) (number_ex n) l q = no (let i : false ≡ true = cc in i)
item-says-nothing z (y ∷ ys) (name_ex a) l q = no (let i : false ≡ true = cc in i)
item-says-nothing z (y ∷ ys) (truth_ex b) l q = refl
item-says-nothing z (y ∷ ys) (node_ex b op es) l q = refl
item-says-nothing z (y ∷ ys) (matrix_ex es d) l q = refl
item-says-nothing z (y ∷ ys) (comp_ex e gs) l q = refl
item-says-nothing z (y ∷ ys) (cell_ex b n es) l q = refl
item-says-nothing z (y ∷ ys) (seen_ex r d ns es) l q = refl

first-alone : (c : Bool) (o : Option (List Alternative)) (l : List Alternative) → or_else o (if c then None else None) ≡ Some l → o ≡ Some l
first-alone c (Some k) l q = q
first-alone true None l q = q
first-alone false None l q = q

module _ (s : Supply) (g : Names Ty) where
  -- So an operand that offers something does.
  pub operand-says-nothing : (e t : Ex) (l : List Alternative) → operand_lookup s g e t ≡ Some l → static t ≡ other
  operand-says-nothing e (number_ex n) l q =
      item-says-nothing s.third s.parts (number_ex n) l (first-alone (keeps_order e) (ordered_lookup s.third s.parts (number_ex n)) l q)
  operand-says-nothing e (name_ex a) l q =
      item-says-nothing s.third s.parts (name_ex a) l (first-alone (keeps_order e) (ordered_lookup s.third s.parts (name_ex a)) l q)
  operand-says-nothing e (truth_ex b) l q = refl
  operand-says-nothing e (node_ex b op es) l q = refl
  operand-says-nothing e (matrix_ex es d) l q = refl
  operand-says-nothing e (comp_ex i gs) l q = refl
  operand-says-nothing e (cell_ex b n es) l q = refl
  operand-says-nothing e (seen_ex r d ns es) l q = refl

-- ---- comprehensions over what is picked

module _ (g : Names Ty) (x y : Text) (e u : Ex) (hs : Gens) (new : IsNewTo x (comp_ex e (from (name_pat y) u hs))) (v : Ty)
    (q : type_of (comp_ex e (from (name_pat y) u hs)) g ≡ Some v) where
  sources-alike : (l : List Alternative) → EachPicksAlike g u l →
      EachPicksAlike g (comp_ex e (from (name_pat y) u hs)) (each_source x y l e hs)
  sources-alike [] h = tt
  sources-alike (a ∷ l) h =
      let j = named-source g x y e u hs new v q in (
        ap (λ o. and_then o member_ty)
            (list-over g x (laid_out a) (comp_ex e (from (name_pat y) (name_ex x) hs)) j.0 v (h.0 ∙ j.1) j.2) ∙ sym q,
        sources-alike l h.1,
      )

  sources-marked : HasMarks (comp_ex e (from (name_pat y) u hs)) g → (l : List Alternative) → EachPicksAlike g u l → EachMarked g l →
      EachMarked g (each_source x y l e hs)
  sources-marked m [] h k = tt
  sources-marked m (a ∷ l) h k =
      let j = named-source g x y e u hs new v q in (
        (
          (ap is_some (h.0 ∙ j.1), k.0, tt),
          subst (λ t. HasMarks (comp_ex e (from (name_pat y) (name_ex x) hs)) ((x, t) ∷ g)) (sym (ap or_any (h.0 ∙ j.1))) (j.3 m),
        ),
        sources-marked m l h.1 k.1,
      )

-- ---- operands

comp-offers-none : (z : Text) (ys : List Text) (e : Ex) (gs : Gens) → ordered_lookup z ys (comp_ex e gs) ≡ None
comp-offers-none z [] e gs = refl
comp-offers-none z (y ∷ ys) e gs = refl

-- What is told of what a lookup offers.
of-some : (P : List Alternative → Type 0) (o : Option (List Alternative)) (l : List Alternative) → o ≡ Some l → OfSome o P → P l
of-some P o l q h = subst (λ z. OfSome z P) q h

-- What is offered where the comprehension is over an untold source.
untold-is : (o : Option (List Alternative)) → o ≡ None → (c d : Bool) (w : Option (List Alternative))
    (F : List Alternative → List Alternative) (l : List Alternative) →
    or_else o (if c then (if d then option_map F w else None) else None) ≡ Some l →
    (k : List Alternative) × ((if d then w else None) ≡ Some k) × (F k ≡ l)
untold-is (Some k) i c d w F l q = no (let j : false ≡ true = cc in j)
untold-is None i true true (Some k) F l q = (k, refl, (let j : F k ≡ l = cc in j))
untold-is None i true true None F l q = no (let j : false ≡ true = cc in j)
untold-is None i true false w F l q = no (let j : false ≡ true = cc in j)
untold-is None i false d w F l q = no (let j : false ≡ true = cc in j)

pub nth-marks : (g : Names Ty) (es : Exs) (k : ℕ) (t : Ex) → nth es k ≡ Some t → HaveMarks es g → HasMarks t g
nth-marks g (more_exs a es) (suc zero) t q m = subst (λ z. HasMarks z g) (let i : a ≡ t = cc in i) m.0
nth-marks g (more_exs a es) (suc (suc k)) t q m = nth-marks g es (suc k) t q m.1
nth-marks g (more_exs a es) zero t q m = no (let i : false ≡ true = cc in i)
nth-marks g no_exs k t q m = no (let i : false ≡ true = cc in i)

module _ (s : Supply) (g : Names Ty) (e : Ex) where
  -- What it offers has its type.
  pub operand-alike : (t : Ex) (v : Ty) → type_of t g ≡ Some v → (l : List Alternative) → operand_lookup s g e t ≡ Some l →
      OperandFits s g t → EachPicksAlike g t l
  operand-alike (comp_ex i (from (name_pat y) u hs)) v p l q h =
      let r = untold-is (ordered_lookup s.third s.parts (comp_ex i (from (name_pat y) u hs)))
      (comp-offers-none s.third s.parts i (from (name_pat y) u hs)) (keeps_order e) (is_untold s g u) (source_lookup s g u)
      (λ k. each_source s.other y k i hs) l q in
      subst (EachPicksAlike g (comp_ex i (from (name_pat y) u hs))) r.2
      (sources-alike g s.other y i u hs h.0 v p r.0 (of-some (EachPicksAlike g u) (untold_lookup s g u) r.0 r.1 h.1))
  operand-alike t v p l q h = of-some (EachPicksAlike g t) (ordered_lookup s.third s.parts t) l
      (first-alone (keeps_order e) (ordered_lookup s.third s.parts t) l q) h

  -- And marks.
  pub operand-marked : (t : Ex) (v : Ty) → type_of t g ≡ Some v → (l : List Alternative) → operand_lookup s g e t ≡ Some l →
      OperandFits s g t → OperandMarked s g t → HasMarks t g → EachMarked g l
  operand-marked (comp_ex i (from (name_pat y) u hs)) v p l q h k m =
      let r = untold-is (ordered_lookup s.third s.parts (comp_ex i (from (name_pat y) u hs)))
      (comp-offers-none s.third s.parts i (from (name_pat y) u hs)) (keeps_order e) (is_untold s g u) (source_lookup s g u)
      (λ k. each_source s.other y k i hs) l q in
      subst (EachMarked g) r.2
      (sources-marked g s.other y i u hs h.0 v p m r.0 (of-some (EachPicksAlike g u) (untold_lookup s g u) r.0 r.1 h.1)
      (of-some (EachMarked g) (untold_lookup s g u) r.0 r.1 k))
  operand-marked t v p l q h k m = of-some (EachMarked g) (ordered_lookup s.third s.parts t) l
      (first-alone (keeps_order e) (ordered_lookup s.third s.parts t) l q) k

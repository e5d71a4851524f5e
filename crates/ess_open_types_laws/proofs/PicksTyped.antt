-- Scalars over what they pick, and picked scalars by themselves, keep types and marks.
use Rattle.std.proofs.Common.{◌≡◌, refl, sym, ap, ◌∙◌, subst, ℕ, zero, suc, ◌+◌, arith, Bool, true, false, not, ◌&&◌, ◌||◌, if◌then◌else◌, List, [], ◌∷◌, Option, Some, None}
use Rattle.std.specs.Prelude.{is_some}
use Rattle.ess_semantics.specs.declared.words.Fun.{Fun}
use Rattle.ess_semantics.specs.Lists.{and_then}
use Rattle.ess_semantics.specs.Values.{Text, a_matrix}
use Rattle.ess_semantics.specs.Order.{same_text}
use Rattle.ess_semantics.specs.Names.{Names}
use Rattle.ess_semantics.specs.Trees.{index, Op, word, name_pat, Ex, Exs, number_ex, truth_ex, name_ex, node_ex, matrix_ex, comp_ex, cell_ex, seen_ex, no_exs, more_exs, no_gens, from}
use Rattle.ess_semantics.specs.Types.{Ty, int_ty, compound2, or_any}
use Rattle.ess_semantics.specs.OperatorTypes.{type_of_op, member_ty}
use Rattle.ess_semantics.specs.Typing.{other, static, type_of, source_ty}
use Rattle.ess_semantics.specs.Contexts.{Ins, hole, in_operand, in_first, in_later, fill_exs}
use Rattle.ess_semantics.specs.NamesAt.{names_at_exs}
use Rattle.ess_semantics.proofs.Tests.{and-left}
use Rattle.ess_rules_laws.specs.LiteralRules.{nth}
use Rattle.ess_rules_laws.specs.Lookups.{put_nth, is_plain, picking}
use Rattle.ess_rules_laws.specs.AlternativeLookups.{each_picked, picking_each, select_each, select_whole_each}
use Rattle.ess_rules_laws.specs.Listings.{Alternative}
use Rattle.ess_rules_laws.specs.ListedSources.{laid_out}
use Rattle.ess_rules_laws.proofs.Agreement.{look-itself}
use Rattle.ess_refine_laws.specs.TypesStay.{KeepsType}
use Rattle.ess_refine_laws.specs.MarksStay.{HasMarks}
use Rattle.ess_refine_laws.specs.AllRules.{Supply, OfSome}
use Rattle.ess_refine_laws.proofs.TypesStay.{types-stay}
use Rattle.ess_refine_laws.proofs.MarksStay.{marks-stay}
use Rattle.ess_refine_types_laws.specs.MarksOfContainers.{UsesNames, AllUseNames, IsNewTo}
use Rattle.ess_refine_types_laws.proofs.MarksBehind.{fewer, marks-behind}
use Rattle.ess_refine_types_laws.proofs.TypeNames.{type-behind}
use Rattle.ess_refine_types_laws.proofs.TypeParts.{one-to, list-over, some-over}
use Rattle.ess_refine_types_laws.proofs.TypesOfListed.{AllOf, some-true, sum-type}
use Rattle.ess_rules_marks_laws.proofs.Grows.{Grows, as_it_is, a_node, a_comp, EachGrows, none_grow, more_grow, no_gens_grow, from_grows}
use Rattle.ess_put_marks_laws.specs.MarksOfTerms.{EachMarked}
use Rattle.ess_kind_rules_laws.specs.TermLookups.{picks, looked_up}
use Rattle.ess_open_rules_laws.specs.OpenRules.{is_compound_ty, compares_values, first_picked, gives_scalar, over_a_pick, pick_alone}
use Rattle.ess_open_types_laws.specs.OpeningsTyped.{scalar_ty, GivesScalar, EachPicksAlike, OfFirstPicked}
use Rattle.ess_open_types_laws.proofs.TypesBehind.{KeepsBoth, BothKept, both-when, both-if, by-growth}
use Rattle.ess_open_types_laws.proofs.OperandsTyped.{operand-typed}

no : {A : Type 0} → false ≡ true → A
no h = cc

-- ---- the operand that is picked first

abbrev number_or : Option (ℕ × Ex) → ℕ
number_or None = zero
number_or (Some p) = p.0

abbrev tree_or : Ex → Option (ℕ × Ex) → Ex
tree_or e None = e
tree_or e (Some p) = p.1

-- It stands at its number, and picks a value.
first-nth : (any : Bool) (g : Names Ty) (j : ℕ) (es : Exs) (k : ℕ) (e : Ex) → first_picked any g (suc j) es ≡ Some (k, e) →
    (i : ℕ) × (k ≡ suc (j + i)) × (nth es (suc i) ≡ Some e) × (picks e ≡ true)
first-nth any g j no_exs k e q = (zero, cc, cc, cc)
first-nth any g j (more_exs a es) k e q =
    go (picks a && (any || is_compound_ty (type_of a g))) refl q (λ p. first-nth any g (suc j) es k e p)
  where
    go : (b : Bool) → picks a && (any || is_compound_ty (type_of a g)) ≡ b →
        (if b then Some (suc j, a) else first_picked any g (suc (suc j)) es) ≡ Some (k, e) →
        (first_picked any g (suc (suc j)) es ≡ Some (k, e) →
        (i : ℕ) × (k ≡ suc (suc j + i)) × (nth es (suc i) ≡ Some e) × (picks e ≡ true)) →
        (i : ℕ) × (k ≡ suc (j + i)) × (nth (more_exs a es) (suc i) ≡ Some e) × (picks e ≡ true)
    go true p q h =
        let s : a ≡ e = ap (tree_or a) q in (
          zero,
          sym (ap number_or q) ∙ (let n : suc j ≡ suc (j + zero) = omega arith in n),
          ap Some s,
          subst (λ z. picks z ≡ true) s (and-left (picks a) (any || is_compound_ty (type_of a g)) p),
        )
    go false p q h =
        let t = h q in (suc t.0, t.1 ∙ (let n : suc (suc j + t.0) ≡ suc (j + suc t.0) = omega arith in n), t.2, t.3)

-- What picks a value says nothing to an index.
pick-says-nothing : (e : Ex) → picks e ≡ true → static e ≡ other
pick-says-nothing (node_ex b op es) h = refl
pick-says-nothing (number_ex n) h = no h
pick-says-nothing (truth_ex b) h = no h
pick-says-nothing (name_ex a) h = no h
pick-says-nothing (matrix_ex es d) h = no h
pick-says-nothing (comp_ex e gs) h = no h
pick-says-nothing (cell_ex b n es) h = no h
pick-says-nothing (seen_ex r d ns es) h = no h

-- The place of an operand.
record Place (es : Exs) (k : ℕ) (t : Ex) : Type 0 where
  pub around : Ins
  pub before : fill_exs around t ≡ es
  pub after : (b : Ex) → fill_exs around b ≡ put_nth es k b
  pub names : (g : Names Ty) → names_at_exs around g ≡ g

place-at : (es : Exs) (k : ℕ) (t : Ex) → nth es k ≡ Some t → Place es k t
place-at (more_exs a es) (suc zero) t q = record {
  around = in_first hole es;
  before = ap (λ z. more_exs z es) (let z : t ≡ a = cc in z);
  after = λ b. refl;
  names = λ g. refl;
}
place-at (more_exs a es) (suc (suc n)) t q =
    let p : Place es (suc n) t = place-at es (suc n) t q in
    record {
      around = in_later a p.around;
      before = ap (more_exs a) p.before;
      after = λ b. ap (more_exs a) (p.after b);
      names = p.names;
    }
place-at (more_exs a es) zero t q = no (let i : false ≡ true = cc in i)
place-at no_exs k t q = no (let i : false ≡ true = cc in i)

nth-uses : (u : Text → Bool) (es : Exs) (k : ℕ) (t : Ex) → nth es k ≡ Some t → AllUseNames u es → UsesNames u t
nth-uses u (more_exs a es) (suc zero) t q h = subst (UsesNames u) (let z : a ≡ t = cc in z) h.0
nth-uses u (more_exs a es) (suc (suc n)) t q h = nth-uses u es (suc n) t q h.1
nth-uses u (more_exs a es) zero t q h = no (let i : false ≡ true = cc in i)
nth-uses u no_exs k t q h = no (let i : false ≡ true = cc in i)

module _ (g : Names Ty) (x : Text) where
  -- ---- each alternative

  module _ (t e : Ex) (u : Ty) (p : type_of t g ≡ Some u) where
    picking-type : (b : Bool) (l : Ex) → and_then (type_of l g) member_ty ≡ type_of t g → type_of e ((x, u) ∷ g) ≡ Some (scalar_ty b) →
        type_of (picking b x l e) g ≡ Some (scalar_ty b)
    picking-type true l h q = some-over g x l e u (h ∙ p) q
    picking-type false l h q = one-to (type_of (comp_ex e (from (name_pat x) l no_gens)) g) (type_of_op (word Fun.Sum))
        (compound2 a_matrix int_ty int_ty) int_ty (list-over g x l e u int_ty (h ∙ p) q) refl

    each-type : (b : Bool) (l : List Alternative) → EachPicksAlike g t l → type_of e ((x, u) ∷ g) ≡ Some (scalar_ty b) →
        AllOf g (scalar_ty b) (each_picked b x l e)
    each-type b [] h q = tt
    each-type b (a ∷ l) h q = (picking-type b (laid_out a) h.0 q, each-type b l h.1 q)

    all-type : (b : Bool) (l : List Alternative) → EachPicksAlike g t l → type_of e ((x, u) ∷ g) ≡ Some (scalar_ty b) →
        type_of (picking_each b x l e) g ≡ Some (scalar_ty b)
    all-type true l h q = some-true g (each_picked true x l e) (each-type true l h q)
    all-type false l h q = sum-type g (each_picked false x l e) (each-type false l h q)

    picking-grows : (b : Bool) (l : Ex) → and_then (type_of l g) member_ty ≡ type_of t g → HasMarks l g → HasMarks e ((x, u) ∷ g) →
        Grows g (picking b x l e)
    picking-grows b l h m n = go b
      where
        body : Grows ((x, source_ty l g) ∷ g) e
        body = as_it_is (subst (λ v. HasMarks e ((x, v) ∷ g)) (ap or_any (sym (h ∙ p))) n)

        go : (b : Bool) → Grows g (picking b x l e)
        go true = a_node refl (more_grow (a_comp (from_grows (as_it_is m) no_gens_grow) body) none_grow)
        go false = a_node refl (more_grow (a_comp (from_grows (as_it_is m) no_gens_grow) body) none_grow)

    each-grows : (b : Bool) (l : List Alternative) → EachPicksAlike g t l → EachMarked g l → HasMarks e ((x, u) ∷ g) →
        EachGrows g (each_picked b x l e)
    each-grows b [] h m n = none_grow
    each-grows b (a ∷ l) h m n = more_grow (picking-grows b (laid_out a) h.0 m.0 n) (each-grows b l h.1 m.1 n)

    all-grows : (b : Bool) (l : List Alternative) → EachPicksAlike g t l → EachMarked g l → HasMarks e ((x, u) ∷ g) →
        Grows g (picking_each b x l e)
    all-grows true l h m n = a_node refl (more_grow (a_node refl (each-grows true l h m n)) none_grow)
    all-grows false l h m n = a_node refl (more_grow (a_node refl (each-grows false l h m n)) none_grow)

  -- ---- the operand's name in its place

  module _ (b : Bool) (op : Op) (es : Exs) (k : ℕ) (t : Ex) (n : nth es k ≡ Some t) (s : static t ≡ other)
      (new : IsNewTo x (node_ex b op es)) (u : Ty) (p : type_of t g ≡ Some u) where
    around : Place es k t
    around = place-at es k t n

    named-keeps : KeepsType ((x, u) ∷ g) t (name_ex x)
    named-keeps v q =
        look-itself x u g ∙ sym (type-behind x u t g (fewer (λ a. not (same_text x a)) t (nth-uses (λ a. not (same_text x a)) es k t n new))
        ∙ p) ∙ q

    put-type : (v : Ty) → type_of (node_ex b op es) g ≡ Some v →
        type_of (node_ex b op (put_nth es k (name_ex x))) ((x, u) ∷ g) ≡ Some v
    put-type v q =
        subst (λ z. type_of (node_ex b op z) ((x, u) ∷ g) ≡ Some v) (around.after (name_ex x))
        (types-stay.at_a_part (in_operand b op around.around) ((x, u) ∷ g) t (name_ex x) s
        (subst (λ h. KeepsType h t (name_ex x)) (sym (around.names ((x, u) ∷ g))) named-keeps) v
        (subst (λ z. type_of (node_ex b op z) ((x, u) ∷ g) ≡ Some v) (sym around.before)
        (type-behind x u (node_ex b op es) g (fewer (λ a. not (same_text x a)) (node_ex b op es) new) ∙ q)))

    put-marks : HasMarks (node_ex b op es) g → HasMarks (node_ex b op (put_nth es k (name_ex x))) ((x, u) ∷ g)
    put-marks m =
        subst (λ z. HasMarks (node_ex b op z) ((x, u) ∷ g)) (around.after (name_ex x))
        (marks-stay.at_a_part (in_operand b op around.around) ((x, u) ∷ g) t (name_ex x) s
        (subst (λ h. KeepsType h t (name_ex x)) (sym (around.names ((x, u) ∷ g))) named-keeps) (λ c. tt)
        (subst (λ z. HasMarks (node_ex b op z) ((x, u) ∷ g)) (sym around.before) (marks-behind x u (node_ex b op es) g new m)))

  -- ---- roots

  -- A root over the alternatives of its operand, which says nothing to an index.
  pub over-operand : (b : Bool) (op : Op) (es : Exs) (k : ℕ) (t : Ex) (l : List Alternative) → nth es k ≡ Some t → static t ≡ other →
      IsNewTo x (node_ex b op es) → GivesScalar g (node_ex b op es) → EachPicksAlike g t l →
      KeepsBoth g (EachMarked g l) (node_ex b op es) (picking_each b x l (node_ex b op (put_nth es k (name_ex x))))
  over-operand b op es k t l n s new sc h =
      let u = operand-typed g b op es k t n s (scalar_ty b) sc in
      by-growth g (EachMarked g l) (node_ex b op es) (picking_each b x l (node_ex b op (put_nth es k (name_ex x))))
      (λ v q. all-type t (node_ex b op (put_nth es k (name_ex x))) u.0 u.1 b l h (put-type b op es k t n s new u.0 u.1 (scalar_ty b) sc)
      ∙ sym sc ∙ q)
      (λ p m. all-grows t (node_ex b op (put_nth es k (name_ex x))) u.0 u.1 b l h p (put-marks b op es k t n s new u.0 u.1 m))

  -- A root by itself.
  pub alone : (b : Bool) (op : Op) (es : Exs) (l : List Alternative) → GivesScalar g (node_ex b op es) →
      EachPicksAlike g (node_ex b op es) l → KeepsBoth g (EachMarked g l) (node_ex b op es) (picking_each b x l (name_ex x))
  alone b op es l sc h = by-growth g (EachMarked g l) (node_ex b op es) (picking_each b x l (name_ex x))
      (λ v q. all-type (node_ex b op es) (name_ex x) (scalar_ty b) sc b l h (look-itself x (scalar_ty b) g) ∙ sym sc ∙ q)
      (λ p m. all-grows (node_ex b op es) (name_ex x) (scalar_ty b) sc b l h p tt)

module _ (s : Supply) (g : Names Ty) where
  pub over-pick : (e : Ex) → IsNewTo s.one e → GivesScalar g e → OfFirstPicked s g e (λ t l. EachPicksAlike g t l) →
      BothKept g (OfFirstPicked s g e (λ t l. EachMarked g l)) e (over_a_pick s g e)
  over-pick (node_ex b op es) new sc h =
      both-if g (OfFirstPicked s g (node_ex b op es) (λ t l. EachMarked g l)) (gives_scalar g (node_ex b op es)) (node_ex b op es)
      (and_then (first_picked (compares_values b op) g 1 es)
      (λ p. and_then (looked_up g s.third s.parts p.1) (λ l. select_each s.one p.0 l (node_ex b op es))))
      (at (first_picked (compares_values b op) g 1 es) refl h)
    where
      found : (k : ℕ) (t : Ex) → nth es k ≡ Some t → picks t ≡ true → (o : Option (List Alternative)) → OfSome o (EachPicksAlike g t) →
          BothKept g (OfSome o (EachMarked g)) (node_ex b op es) (and_then o (λ l. select_each s.one k l (node_ex b op es)))
      found k t n i None a = tt
      found k t n i (Some l) a = both-when g (EachMarked g l) (is_plain op && is_some (nth es k)) (node_ex b op es)
          (picking_each b s.one l (node_ex b op (put_nth es k (name_ex s.one))))
          (λ c. over-operand g s.one b op es k t l n (pick-says-nothing t i) new sc a)

      at : (o : Option (ℕ × Ex)) → first_picked (compares_values b op) g 1 es ≡ o →
          OfSome o (λ p. OfSome (looked_up g s.third s.parts p.1) (EachPicksAlike g p.1)) →
          BothKept g (OfSome o (λ p. OfSome (looked_up g s.third s.parts p.1) (EachMarked g))) (node_ex b op es)
          (and_then o (λ p. and_then (looked_up g s.third s.parts p.1) (λ l. select_each s.one p.0 l (node_ex b op es))))
      at None q a = tt
      at (Some (k, t)) q a =
          let n = first-nth (compares_values b op) g 0 es k t q in
          let i : nth es k ≡ Some t = ap (nth es) (n.1 ∙ (let w : suc (0 + n.0) ≡ suc n.0 = omega arith in w)) ∙ n.2 in
          found k t i n.3 (looked_up g s.third s.parts t) a
  over-pick _ new sc h = tt

  pub pick-alone : (e : Ex) → GivesScalar g e → OfSome (looked_up g s.third s.parts e) (EachPicksAlike g e) →
      BothKept g (OfSome (looked_up g s.third s.parts e) (EachMarked g)) e (pick_alone s g e)
  pick-alone e sc h =
      both-if g (OfSome (looked_up g s.third s.parts e) (EachMarked g)) (picks e && gives_scalar g e) e
      (and_then (looked_up g s.third s.parts e) (λ l. select_whole_each s.one l e)) (at e sc (looked_up g s.third s.parts e) h)
    where
      at : (e : Ex) → GivesScalar g e → (o : Option (List Alternative)) → OfSome o (EachPicksAlike g e) →
          BothKept g (OfSome o (EachMarked g)) e (and_then o (λ l. select_whole_each s.one l e))
      at e sc None h = tt
      at (node_ex b op es) sc (Some l) h = alone g s.one b op es l sc h
      at (number_ex n) sc (Some l) h = tt
      at (truth_ex b) sc (Some l) h = tt
      at (name_ex a) sc (Some l) h = tt
      at (matrix_ex es d) sc (Some l) h = tt
      at (comp_ex x gs) sc (Some l) h = tt
      at (cell_ex b n es) sc (Some l) h = tt
      at (seen_ex r d ns es) sc (Some l) h = tt

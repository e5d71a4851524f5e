-- Rules of what is picked out of a term keep types and marks.
use Rattle.std.proofs.Common.{◌≡◌, refl, sym, ap, ◌∙◌, subst, ℕ, suc, Bool, true, false, List, [], ◌∷◌, Some, Option, None, zero, if◌then◌else◌, not, ◌&&◌}
use Rattle.std.specs.Prelude.{is_some}
use Rattle.ess_semantics.specs.declared.words.Fun.{Fun}
use Rattle.ess_semantics.specs.Contexts.{Ins, hole, in_operand, in_first, in_later, fill_exs}
use Rattle.ess_semantics.specs.Lists.{and_then}
use Rattle.ess_semantics.specs.Names.{look, Names}
use Rattle.ess_semantics.specs.NamesAt.{names_at_exs}
use Rattle.ess_semantics.specs.OperatorTypes.{type_of_op, member_ty}
use Rattle.ess_semantics.specs.Order.{same_text}
use Rattle.ess_semantics.specs.Trees.{Ex, Exs, name_ex, word, number_ex, name_pat, comp_ex, no_exs, more_exs, no_gens, node_ex, from, Op}
use Rattle.ess_semantics.specs.Types.{Ty, compound2, int_ty, or_any}
use Rattle.ess_semantics.specs.Typing.{source_ty, type_of, static, other}
use Rattle.ess_semantics.specs.Values.{Text, a_matrix}
use Rattle.ess_kind_rules_laws.specs.KindRules.{KindRule, of_what_is_picked, picked, first_picked, kind_rewrite}
use Rattle.ess_kind_rules_laws.specs.TermLookups.{picks, looked_up}
use Rattle.ess_put_marks_laws.proofs.MarksOfTerms.{fold-fit}
use Rattle.ess_put_marks_laws.specs.MarksOfTerms.{EachMarked}
use Rattle.ess_refine_laws.proofs.TypesStay.{types-stay}
use Rattle.ess_refine_laws.specs.AllRules.{Supply, OfSome}
use Rattle.ess_refine_laws.specs.MarksStay.{MarkFits, HasMarks, HaveMarks}
use Rattle.ess_refine_laws.specs.TypesStay.{KeepsType}
use Rattle.ess_refine_types_laws.proofs.MarksBehind.{marks-behind, fewer}
use Rattle.ess_refine_types_laws.proofs.TypeNames.{type-behind}
use Rattle.ess_refine_types_laws.proofs.TypeParts.{one-to, some-over, no, list-over}
use Rattle.ess_refine_types_laws.proofs.TypesOfListed.{AllOf}
use Rattle.ess_refine_types_laws.specs.MarksOfContainers.{IsNewTo, UsesNames, AllUseNames}
use Rattle.ess_rules_laws.proofs.Agreement.{look-itself}
use Rattle.ess_rules_laws.specs.AlternativeLookups.{select_each, select_whole_each, each_picked, fold_word, picking_each}
use Rattle.ess_rules_laws.specs.ListedSources.{laid_out}
use Rattle.ess_rules_laws.specs.Listings.{Alternative}
use Rattle.ess_rules_laws.specs.LiteralRules.{nth}
use Rattle.ess_rules_laws.specs.Lookups.{is_plain, put_nth, picking}
use Rattle.ess_rules_laws.specs.Progress.{is_parted}
use Rattle.ess_rules_laws.specs.SourceRules.{is_marked}
use Rattle.ess_rules_marks_laws.proofs.Grows.{Grows, as_it_is, a_node, a_comp, none_grow, more_grow, no_gens_grow, from_grows, EachGrows, grown}
use Rattle.ess_rules_types_laws.proofs.TypesOfSources.{folded, list-gives}
use Rattle.ess_kinds_typed_laws.specs.PicksTyped.{PickAlike, scalar_ty, OperandFits, PickRulesKeepMarks, is_of_picks, PicksTyped, PicksMarked, PickRulesKeepTypes}

-- ---- an operand in its place

-- The place of the k-th operand.
abbrev place_of : Exs → ℕ → Ins
place_of (more_exs a es) (suc zero) = in_first hole es
place_of (more_exs a es) (suc (suc n)) = in_later a (place_of es (suc n))
place_of es k = in_first hole no_exs

-- The operands with it, and with another one.
old-filled : (es : Exs) (k : ℕ) (t : Ex) → nth es k ≡ Some t → fill_exs (place_of es k) t ≡ es
old-filled no_exs k t q = cc
old-filled (more_exs a es) zero t q = cc
old-filled (more_exs a es) (suc zero) t q = let i : a ≡ t = cc in ap (λ z. more_exs z es) (sym i)
old-filled (more_exs a es) (suc (suc n)) t q = ap (more_exs a) (old-filled es (suc n) t q)

new-filled : (es : Exs) (k : ℕ) (t u : Ex) → nth es k ≡ Some t → fill_exs (place_of es k) u ≡ put_nth es k u
new-filled no_exs k t u q = cc
new-filled (more_exs a es) zero t u q = cc
new-filled (more_exs a es) (suc zero) t u q = refl
new-filled (more_exs a es) (suc (suc n)) t u q = ap (more_exs a) (new-filled es (suc n) t u q)

names-there : (es : Exs) (k : ℕ) (g : Names Ty) → names_at_exs (place_of es k) g ≡ g
names-there no_exs k g = refl
names-there (more_exs a es) zero g = refl
names-there (more_exs a es) (suc zero) g = refl
names-there (more_exs a es) (suc (suc n)) g = names-there es (suc n) g

picks-something : (t : Ex) → picks t ≡ true → static t ≡ other
picks-something (number_ex n) h = cc
picks-something (name_ex a) h = cc
picks-something _ h = refl

-- A node whose k-th operand is a name of its type has its type.
pub put-typed : (g : Names Ty) (b : Bool) (op : Op) (es : Exs) (k : ℕ) (t : Ex) (x : Text) (v : Ty) → nth es k ≡ Some t →
    picks t ≡ true → type_of t g ≡ Some v → look g x ≡ Some v →
    KeepsType g (node_ex b op es) (node_ex b op (put_nth es k (name_ex x)))
put-typed g b op es k t x v n p i j u q =
    ap (λ z. type_of (node_ex b op z) g) (sym (new-filled es k t (name_ex x) n))
    ∙ types-stay.at_a_part (in_operand b op (place_of es k)) g t (name_ex x) (picks-something t p)
    (subst (λ h. KeepsType h t (name_ex x)) (sym (names-there es k g)) (λ w r. j ∙ sym i ∙ r)) u
    (ap (λ z. type_of (node_ex b op z) g) (old-filled es k t n) ∙ q)

-- It has marks where the operands have them.
put-marked : (g : Names Ty) (es : Exs) (k : ℕ) (x : Text) → HaveMarks es g → HaveMarks (put_nth es k (name_ex x)) g
put-marked g no_exs k x h = tt
put-marked g (more_exs a es) zero x h = h
put-marked g (more_exs a es) (suc zero) x h = (tt, h.1)
put-marked g (more_exs a es) (suc (suc n)) x h = (h.0, put-marked g es (suc n) x h.1)

nothing : {A : Type 0} (t : Ex) → None ≡ Some t → A
nothing t q = cc

-- The k-th of operands uses names that they use.
nth-uses : (u : Text → Bool) (es : Exs) (k : ℕ) (t : Ex) → nth es k ≡ Some t → AllUseNames u es → UsesNames u t
nth-uses u no_exs k t q h = nothing t q
nth-uses u (more_exs a es) zero t q h = nothing t q
nth-uses u (more_exs a es) (suc zero) t q h = let i : a ≡ t = cc in subst (UsesNames u) i h.0
nth-uses u (more_exs a es) (suc (suc n)) t q h = nth-uses u es (suc n) t q h.1

-- ---- what picks

folds-scalars : (b : Bool) → is_marked b (fold_word b) ≡ true
folds-scalars true = refl
folds-scalars false = refl

same-scalar : (b : Bool) → folded b ≡ scalar_ty b
same-scalar true = refl
same-scalar false = refl

module _ (g : Names Ty) where
  -- What picks the item of a lookup.
  picking-typed : (b : Bool) (x : Text) (l e : Ex) (v : Ty) → and_then (type_of l g) member_ty ≡ Some v →
      type_of e ((x, v) ∷ g) ≡ Some (scalar_ty b) → type_of (picking b x l e) g ≡ Some (folded b)
  picking-typed true x l e v p q = some-over g x l e v p q
  picking-typed false x l e v p q =
      one-to (type_of (comp_ex e (from (name_pat x) l no_gens)) g) (type_of_op (word Fun.Sum)) (compound2 a_matrix int_ty int_ty) int_ty
      (list-over g x l e v int_ty p q) refl

  each-picking : (b : Bool) (x : Text) (l : List Alternative) (e : Ex) (v : Ty) → PickAlike g v l →
      type_of e ((x, v) ∷ g) ≡ Some (scalar_ty b) → AllOf g (folded b) (each_picked b x l e)
  each-picking b x [] e v p q = tt
  each-picking b x (a ∷ l) e v p q = (picking-typed b x (laid_out a) e v p.0 q, each-picking b x l e v p.1 q)

  all-picking : (b : Bool) (x : Text) (l : List Alternative) (e : Ex) (v : Ty) → PickAlike g v l →
      type_of e ((x, v) ∷ g) ≡ Some (scalar_ty b) → type_of (picking_each b x l e) g ≡ Some (scalar_ty b)
  all-picking b x l e v p q =
      list-gives g b (fold_word b) (folds-scalars b) (each_picked b x l e) (each-picking b x l e v p q) ∙ ap Some (same-scalar b)

  picking-grows : (b : Bool) (x : Text) (l : List Alternative) (e : Ex) (v : Ty) → PickAlike g v l → EachMarked g l →
      Grows ((x, v) ∷ g) e → EachGrows g (each_picked b x l e)
  picking-grows b x [] e v p m k = none_grow
  picking-grows b x (a ∷ l) e v p m k =
      more_grow (one b (subst (λ o. Grows ((x, or_any o) ∷ g) e) (sym p.0) k)) (picking-grows b x l e v p.1 m.1 k)
    where
      one : (c : Bool) → Grows ((x, source_ty (laid_out a) g) ∷ g) e → Grows g (picking c x (laid_out a) e)
      one true j = a_node refl (more_grow (a_comp (from_grows (as_it_is m.0) no_gens_grow) j) none_grow)
      one false j = a_node refl (more_grow (a_comp (from_grows (as_it_is m.0) no_gens_grow) j) none_grow)

  all-grow : (b : Bool) (x : Text) (l : List Alternative) (e : Ex) (v : Ty) → PickAlike g v l → EachMarked g l →
      Grows ((x, v) ∷ g) e → Grows g (picking_each b x l e)
  all-grow b x l e v p m k =
      a_node (fold-fit b (fold_word b) (folds-scalars b)) (more_grow (a_node refl (picking-grows b x l e v p m k)) none_grow)

  -- ---- a picked scalar

  -- What is there, with its type and, where marks are there, its marks.
  pub record KeepsScalar (e f : Ex) (M : Type 0) : Type 0 where
    pub type_stays : KeepsType g e f
    pub marks_stay : M → HasMarks e g → HasMarks f g

  -- What is answered.
  abbrev pub ScalarKept : Ex → Option Ex → Type 0 → Type 0
  ScalarKept e None M = Unit {0}
  ScalarKept e (Some f) M = KeepsScalar e f M

  -- The root by what is picked of it, or within it.
  by-picking : (b : Bool) (op : Op) (es : Exs) (x : Text) (l : List Alternative) (e : Ex) (v : Ty) → PickAlike g v l →
      type_of (node_ex b op es) g ≡ Some (scalar_ty b) → type_of e ((x, v) ∷ g) ≡ Some (scalar_ty b) →
      (HasMarks (node_ex b op es) g → HasMarks e ((x, v) ∷ g)) →
      KeepsScalar (node_ex b op es) (picking_each b x l e) (EachMarked g l)
  by-picking b op es x l e v p i q k = record {
    type_stays = λ t j. all-picking b x l e v p q ∙ sym i ∙ j;
    marks_stay = λ m h. grown g (picking_each b x l e) (all-grow b x l e v p m (as_it_is (k h))) (scalar_ty b) (all-picking b x l e v p q);
  }

  whole-kept : (b : Bool) (op : Op) (es : Exs) (x : Text) (l : List Alternative) → PickAlike g (scalar_ty b) l →
      type_of (node_ex b op es) g ≡ Some (scalar_ty b) →
      KeepsScalar (node_ex b op es) (picking_each b x l (name_ex x)) (EachMarked g l)
  whole-kept b op es x l p i = by-picking b op es x l (name_ex x) (scalar_ty b) p i (look-itself x (scalar_ty b) g) (λ h. tt)

  operand-kept : (b : Bool) (op : Op) (es : Exs) (k : ℕ) (x : Text) (l : List Alternative) (t : Ex) → nth es k ≡ Some t →
      OperandFits g l t → IsNewTo x (node_ex b op es) →
      type_of (node_ex b op es) g ≡ Some (scalar_ty b) →
      KeepsScalar (node_ex b op es) (picking_each b x l (node_ex b op (put_nth es k (name_ex x)))) (EachMarked g l)
  operand-kept b op es k x l t n f u i =
      let v : Ty = f.1.0 in
      let h : Names Ty = (x, v) ∷ g in
      let j : type_of (node_ex b op es) h ≡ Some (scalar_ty b) =
      type-behind x v (node_ex b op es) g (fewer (λ a. not (same_text x a)) (node_ex b op es) u) ∙ i in
      let q : type_of (node_ex b op (put_nth es k (name_ex x))) h ≡ Some (scalar_ty b) =
      put-typed h b op es k t x v n f.0
      (type-behind x v t g (fewer (λ a. not (same_text x a)) t (nth-uses (λ a. not (same_text x a)) es k t n u)) ∙ f.1.1)
      (look-itself x v g)
      (scalar_ty b) j in
      by-picking b op es x l (node_ex b op (put_nth es k (name_ex x))) v f.1.2 i q
      (λ m. let r = marks-behind x v (node_ex b op es) g u m in
      (subst (λ o. MarkFits b op o) (j ∙ sym q) r.0, put-marked h es k x r.1))

  -- ---- the rules

  module _ (b : Bool) (op : Op) (es : Exs) (x : Text) (u : IsNewTo x (node_ex b op es))
      (i : type_of (node_ex b op es) g ≡ Some (scalar_ty b)) where
    at-operand : (k : ℕ) (l : List Alternative) (o : Option Ex) → nth es k ≡ o → (c : Bool) → OfSome o (OperandFits g l) →
        ScalarKept (node_ex b op es)
        (if c && is_some o then Some (picking_each b x l (node_ex b op (put_nth es k (name_ex x)))) else None) (EachMarked g l)
    at-operand k l None q true h = tt
    at-operand k l None q false h = tt
    at-operand k l (Some t) q true h = operand-kept b op es k x l t q h u i
    at-operand k l (Some t) q false h = tt

    at-lookup : (k : ℕ) (o : Option (List Alternative)) → OfSome o (λ l. OfSome (nth es k) (OperandFits g l)) →
        ScalarKept (node_ex b op es) (and_then o (λ l. select_each x k l (node_ex b op es))) (OfSome o (EachMarked g))
    at-lookup k None h = tt
    at-lookup k (Some l) h = at-operand k l (nth es k) refl (is_plain op) h

    at-picked : (L : Ex → Option (List Alternative)) (o : Option (ℕ × Ex)) →
        OfSome o (λ p. OfSome (L p.1) (λ l. OfSome (nth es p.0) (OperandFits g l))) →
        ScalarKept (node_ex b op es) (and_then o (λ p. and_then (L p.1) (λ l. select_each x p.0 l (node_ex b op es))))
        (OfSome o (λ p. OfSome (L p.1) (EachMarked g)))
    at-picked L None h = tt
    at-picked L (Some p) h = at-lookup p.0 (L p.1) h

  at-whole : (b : Bool) (op : Op) (es : Exs) (x : Text) → type_of (node_ex b op es) g ≡ Some (scalar_ty b) → (c : Bool)
      (o : Option (List Alternative)) → OfSome o (PickAlike g (scalar_ty b)) →
      ScalarKept (node_ex b op es) (if c then and_then o (λ l. select_whole_each x l (node_ex b op es)) else None)
      (OfSome o (EachMarked g))
  at-whole b op es x i false o h = tt
  at-whole b op es x i true None h = tt
  at-whole b op es x i true (Some l) h = whole-kept b op es x l h i

  each-kept : (s : Supply) (r : KindRule) (e : Ex) → is_of_picks r ≡ true → PicksTyped s g r e →
      ScalarKept e (kind_rewrite s g r e) (PicksMarked s g r e)
  each-kept s of_what_is_picked (node_ex b op es) j h =
      at-picked b op es s.one h.1 h.0 (looked_up g s.third (s.other ∷ s.parts)) (first_picked g 1 es) h.2
  each-kept s picked (node_ex b op es) j h =
      at-whole b op es s.one h.0 (picks (node_ex b op es) && not (is_parted (type_of (node_ex b op es) g)))
      (looked_up g s.third (s.other ∷ s.parts) (node_ex b op es)) h.1
  each-kept s of_what_is_picked _ j h = tt
  each-kept s picked _ j h = tt
  each-kept s _ e j h = no j

-- Types stay.
pub pick-rules-keep-types : PickRulesKeepTypes
pick-rules-keep-types s g r e f q i h =
    let k : KeepsScalar g e f (PicksMarked s g r e) = subst (λ z. ScalarKept g e z (PicksMarked s g r e)) q (each-kept g s r e i h) in
    k.type_stays

-- Marks stay.
pub pick-rules-keep-marks : PickRulesKeepMarks
pick-rules-keep-marks s g r e f q i h n m =
    let k : KeepsScalar g e f (PicksMarked s g r e) = subst (λ z. ScalarKept g e z (PicksMarked s g r e)) q (each-kept g s r e i h) in
    k.marks_stay n m

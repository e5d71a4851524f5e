-- A side of an equality or of a sign, by numbers, keeps types and marks.
use Rattle.std.proofs.Common.{◌≡◌, sym, ◌∙◌, subst, Bool, true, false, if◌then◌else◌, Option, Some, None, option_map}
use Rattle.std.specs.Prelude.{is_some}
use Rattle.ess_semantics.specs.declared.words.Op2.{Op2}
use Rattle.ess_semantics.specs.Lists.{or_else}
use Rattle.ess_semantics.specs.Names.{Names}
use Rattle.ess_semantics.specs.Trees.{binary, Ex, ex2}
use Rattle.ess_semantics.specs.Types.{Ty}
use Rattle.ess_semantics.specs.OperatorTypes.{type_of_op}
use Rattle.ess_semantics.specs.Typing.{type_of}
use Rattle.ess_refine_laws.specs.TypesStay.{KeepsType}
use Rattle.ess_refine_laws.specs.MarksStay.{MarkFits, HasMarks}
use Rattle.ess_refine_laws.specs.AllRules.{Supply}
use Rattle.ess_refine_types_laws.proofs.TypeParts.{two-is, two-to}
use Rattle.ess_numbered_laws.specs.MostItems.{most_items}
use Rattle.ess_numbered_laws.specs.CountedSources.{numbered_behind, sees_order, numbered_side, within_a_pair}
use Rattle.ess_numbered_laws.specs.NumberRules.{side_of_a_pair}
use Rattle.ess_open_types_laws.proofs.TypesBehind.{KeepsBoth, BothKept, both-if}
use Rattle.ess_ordered_types_laws.proofs.ItemsTyped.{either}
use Rattle.ess_numbered_types_laws.specs.NumberedTyped.{FirstOpenFits, FirstOpenBindsNone, NumberTyped, NumberMarked}
use Rattle.ess_numbered_types_laws.proofs.SourcesNumbered.{by-numbers-behind}

-- ---- pairs

-- A pair whose first side keeps its type and marks, and one whose second side does.
module _ (g : Names Ty) (P : Type 0) (o : Op2) (a b c : Ex) where
  pub at-first : KeepsBoth g P a c → KeepsBoth g P (ex2 true o a b) (ex2 true o c b)
  at-first k = (typed, marked)
    where
      typed : KeepsType g (ex2 true o a b) (ex2 true o c b)
      typed v q =
          let r = two-is (type_of a g) (type_of b g) (type_of_op (binary o)) v q in
          two-to (type_of c g) (type_of b g) (type_of_op (binary o)) r.0 r.1 v (k.0 r.0 r.2) r.3 r.4

      marked : P → (v : Ty) → type_of (ex2 true o a b) g ≡ Some v → HasMarks (ex2 true o a b) g → HasMarks (ex2 true o c b) g
      marked p v q m =
          let r = two-is (type_of a g) (type_of b g) (type_of_op (binary o)) v q in
          (subst (λ z. MarkFits true (binary o) z) (q ∙ sym (typed v q)) m.0, (k.1 p r.0 r.2 m.1.0, m.1.1))

  pub at-second : KeepsBoth g P b c → KeepsBoth g P (ex2 true o a b) (ex2 true o a c)
  at-second k = (typed, marked)
    where
      typed : KeepsType g (ex2 true o a b) (ex2 true o a c)
      typed v q =
          let r = two-is (type_of a g) (type_of b g) (type_of_op (binary o)) v q in
          two-to (type_of a g) (type_of c g) (type_of_op (binary o)) r.0 r.1 v r.2 (k.0 r.1 r.3) r.4

      marked : P → (v : Ty) → type_of (ex2 true o a b) g ≡ Some v → HasMarks (ex2 true o a b) g → HasMarks (ex2 true o a c) g
      marked p v q m =
          let r = two-is (type_of a g) (type_of b g) (type_of_op (binary o)) v q in
          (subst (λ z. MarkFits true (binary o) z) (q ∙ sym (typed v q)) m.0, (m.1.0, (k.1 p r.1 r.3 m.1.1.0, tt)))

-- What is made of an answer that keeps both.
pub kept-map : (g : Names Ty) (P : Type 0) (a e : Ex) (f : Ex → Ex) → ((c : Ex) → KeepsBoth g P a c → KeepsBoth g P e (f c)) →
    (o : Option Ex) → BothKept g P a o → BothKept g P e (option_map f o)
kept-map g P a e f k None h = tt
kept-map g P a e f k (Some c) h = k c h

-- ---- the rule

module _ (s : Supply) (g : Names Ty) where
  side : (a : Ex) → FirstOpenFits s g a → BothKept g (FirstOpenBindsNone a) a (numbered_side s g a)
  side a h = go (is_some (most_items s.third a)) (numbered_behind s g a) (by-numbers-behind s g a h)
    where
      go : (c : Bool) (o : Option Ex) → BothKept g (FirstOpenBindsNone a) a o → BothKept g (FirstOpenBindsNone a) a (if c then None else o)
      go true o k = tt
      go false o k = k

  -- The rule of either side.
  pub a-side : (e : Ex) → NumberTyped s g side_of_a_pair e → BothKept g (NumberMarked s g side_of_a_pair e) e (within_a_pair s g e)
  a-side (ex2 true o a b) h =
      both-if g (FirstOpenBindsNone a × FirstOpenBindsNone b) (sees_order o) (ex2 true o a b)
      (or_else (option_map (λ c. ex2 true o c b) (numbered_side s g a)) (option_map (λ c. ex2 true o a c) (numbered_side s g b)))
      (either s g (FirstOpenBindsNone a) (FirstOpenBindsNone b) (ex2 true o a b)
      (option_map (λ c. ex2 true o c b) (numbered_side s g a)) (option_map (λ c. ex2 true o a c) (numbered_side s g b))
      (kept-map g (FirstOpenBindsNone a) a (ex2 true o a b) (λ c. ex2 true o c b) (λ c. at-first g (FirstOpenBindsNone a) o a b c)
      (numbered_side s g a) (side a h.0))
      (kept-map g (FirstOpenBindsNone b) b (ex2 true o a b) (λ c. ex2 true o a c) (λ c. at-second g (FirstOpenBindsNone b) o a b c)
      (numbered_side s g b) (side b h.1)))
  a-side _ h = tt

-- Generators without conditions that read cells, and these conditions behind them: their types and marks.
use Rattle.std.proofs.Common.{◌≡◌, refl, sym, ap, ◌∙◌, subst, Bool, true, false, not, if◌then◌else◌, List, [], ◌∷◌, Option, Some, None}
use Rattle.std.specs.Prelude.{IsTrue, is_some}
use Rattle.ess_semantics.specs.declared.words.Op2.{Op2}
use Rattle.ess_semantics.specs.Lists.{and_then}
use Rattle.ess_semantics.specs.Values.{Text}
use Rattle.ess_semantics.specs.Names.{Names, look}
use Rattle.ess_semantics.specs.Occurrences.{has_cells}
use Rattle.ess_semantics.specs.Trees.{binary, Ex, Gens, no_gens, over, from, cond}
use Rattle.ess_semantics.specs.Types.{Ty, any_ty, bool_ty, int_ty, named_ty, compound, or_any, join, fit, type_of_dom, bind_types}
use Rattle.ess_semantics.specs.OperatorTypes.{type_of_op, member_ty}
use Rattle.ess_semantics.specs.Typing.{type_of, types_under, source_ty}
use Rattle.ess_semantics.specs.NamesAt.{names_behind}
use Rattle.ess_guard_types_laws.proofs.JoinedTypes.{Agree}
use Rattle.ess_rules_laws.specs.SpliceRules.{append_gens}
use Rattle.ess_refine_laws.specs.MarksStay.{HasMarks, GensHaveMarks}
use Rattle.ess_refine_types_laws.proofs.MarksBehind.{fewer, marks-same}
use Rattle.ess_refine_types_laws.proofs.TypeNames.{type-same}
use Rattle.ess_refine_types_laws.proofs.TypeParts.{two-to}
use Rattle.ess_rules_types_laws.proofs.NumbersEverywhere.{never}
use Rattle.ess_rules_types_laws.proofs.PutListed.{past-pattern}
use Rattle.ess_rules_marks_laws.proofs.Grows.{Grows, as_it_is, a_node, none_grow, more_grow, GensGrow, no_gens_grow, over_grows, from_grows, cond_grows}
use Rattle.ess_put_marks_laws.specs.MarksOfConditions.{GensBoundsNumbers}
use Rattle.ess_gathered_laws.specs.GatheredConditions.{cell_conditions, without_conditions, all_hold, BindOnly}
use Rattle.ess_ordered_types_laws.specs.GatheringTyped.{IsFreeOf, ConditionsApart}

-- ---- names behind generators

-- Names that generators don't bind have the types that they had.
past-bound : (r : Text → Bool) (gs : Gens) (g : Names Ty) (a : Text) → BindOnly r gs → r a ≡ false → look (names_behind gs g) a ≡ look g a
past-bound r no_gens g a h n = refl
past-bound r (over p d gs) g a h n =
    past-bound r gs (bind_types p (type_of_dom d) g) a h.1 n ∙ past-pattern r p (type_of_dom d) g a h.0 n
past-bound r (from p e gs) g a h n =
    past-bound r gs (bind_types p (source_ty e g) g) a h.1 n ∙ past-pattern r p (source_ty e g) g a h.0 n
past-bound r (cond c gs) g a h n = past-bound r gs g a h n

not-bound : (b : Bool) → IsTrue (not b) → b ≡ false
not-bound true h = cc
not-bound false h = refl

-- The generators without the conditions bind the same names.
pub without-behind : (gs : Gens) (g : Names Ty) → names_behind (without_conditions gs) g ≡ names_behind gs g
without-behind no_gens g = refl
without-behind (over p d gs) g = without-behind gs (bind_types p (type_of_dom d) g)
without-behind (from p e gs) g = without-behind gs (bind_types p (source_ty e g) g)
without-behind (cond c gs) g = go (has_cells c) (without-behind gs g)
  where
    go : (b : Bool) → names_behind (without_conditions gs) g ≡ names_behind gs g →
        names_behind (if b then without_conditions gs else cond c (without_conditions gs)) g ≡ names_behind gs g
    go true k = k
    go false k = k

-- ---- types of the parts

-- A condition and what is behind it.
pub record Condition (o : Option Ty) (p : Option (Names Ty)) (h : Names Ty) : Type 0 where
  pub truth : Ty
  pub typed : o ≡ Some truth
  pub is_truth : Agree truth bool_ty
  pub rest : p ≡ Some h

pub condition-is : (o : Option Ty) (p : Option (Names Ty)) (h : Names Ty) →
    and_then o (λ t. and_then (join t bool_ty) (λ u. p)) ≡ Some h → Condition o p h
condition-is None p h q = cc
condition-is (Some t) p h q = go (join t bool_ty) refl q
  where
    go : (j : Option Ty) → join t bool_ty ≡ j → and_then j (λ u. p) ≡ Some h → Condition (Some t) p h
    go None i q = cc
    go (Some u) i q = record { truth = t; typed = refl; is_truth = ap is_some i; rest = q }

-- A source and what is behind it.
pub behind-source : (o : Option Ty) (F : Ty → Option (Names Ty)) (h : Names Ty) → and_then o F ≡ Some h →
    (m : Ty) × (o ≡ Some m) × (F m ≡ Some h)
behind-source None F h q = (any_ty, cc, cc)
behind-source (Some m) F h q = (m, refl, q)

-- They have the types that they had.
pub without-types : (gs : Gens) (g h : Names Ty) → types_under gs g ≡ Some h → types_under (without_conditions gs) g ≡ Some h
without-types no_gens g h q = q
without-types (over p d gs) g h q = without-types gs (bind_types p (type_of_dom d) g) h q
without-types (from p e gs) g h q =
    let r = behind-source (and_then (type_of e g) member_ty) (λ m. types_under gs (bind_types p m g)) h q in
    ap (λ o. and_then o (λ m. types_under (without_conditions gs) (bind_types p m g))) r.1
    ∙ without-types gs (bind_types p r.0 g) h r.2
without-types (cond c gs) g h q =
    let r = condition-is (type_of c g) (types_under gs g) h q in go r (has_cells c) (without-types gs g h r.rest)
  where
    kept : (j : Option Ty) → is_some j ≡ true → types_under (without_conditions gs) g ≡ Some h →
        and_then j (λ u. types_under (without_conditions gs) g) ≡ Some h
    kept None i k = never i
    kept (Some u) i k = k

    go : Condition (type_of c g) (types_under gs g) h → (b : Bool) → types_under (without_conditions gs) g ≡ Some h →
        types_under (if b then without_conditions gs else cond c (without_conditions gs)) g ≡ Some h
    go r true k = k
    go r false k = ap (λ o. and_then o (λ t. and_then (join t bool_ty) (λ u. types_under (without_conditions gs) g))) r.typed
        ∙ kept (join r.truth bool_ty) r.is_truth k

-- ---- conditions behind all generators

-- Each condition has the type of truth values, and marks.
abbrev pub AllTruths : Names Ty → List Ex → Type 0
AllTruths h [] = Unit {0}
AllTruths h (c ∷ cs) = (t : Ty) × (type_of c h ≡ Some t) × Agree t bool_ty × AllTruths h cs

abbrev pub AllMarked : Names Ty → List Ex → Type 0
AllMarked h [] = Unit {0}
AllMarked h (c ∷ cs) = HasMarks c h × AllMarked h cs

module _ (c : Ex) (gs : Gens) (g : Names Ty) (f : IsFreeOf c gs) where
  moved-type : type_of c (names_behind gs g) ≡ type_of c g
  moved-type = type-same (λ a. not (f.0 a)) c (names_behind gs g) g (fewer (λ a. not (f.0 a)) c f.2)
      (λ a k. past-bound f.0 gs g a f.1 (not-bound (f.0 a) k))

  moved-marks : HasMarks c g → HasMarks c (names_behind gs g)
  moved-marks = marks-same (λ a. not (f.0 a)) c g (names_behind gs g) f.2
      (λ a k. sym (past-bound f.0 gs g a f.1 (not-bound (f.0 a) k)))

-- Where each uses no name that is bound behind it, conditions have them behind all generators.
pub all-truths : (gs : Gens) (g h : Names Ty) → types_under gs g ≡ Some h → ConditionsApart gs →
    AllTruths (names_behind gs g) (cell_conditions gs)
all-truths no_gens g h q a = tt
all-truths (over p d gs) g h q a = all-truths gs (bind_types p (type_of_dom d) g) h q a
all-truths (from p e gs) g h q a =
    let r = behind-source (and_then (type_of e g) member_ty) (λ m. types_under gs (bind_types p m g)) h q in
    all-truths gs (bind_types p (source_ty e g) g) h
    (subst (λ m. types_under gs (bind_types p m g) ≡ Some h) (sym (ap or_any r.1)) r.2) a
all-truths (cond c gs) g h q a =
    let r = condition-is (type_of c g) (types_under gs g) h q in go r (has_cells c) (λ i. a.0 i) (all-truths gs g h r.rest a.1)
  where
    go : Condition (type_of c g) (types_under gs g) h → (b : Bool) → (b ≡ true → IsFreeOf c gs) →
        AllTruths (names_behind gs g) (cell_conditions gs) →
        AllTruths (names_behind gs g) (if b then c ∷ cell_conditions gs else cell_conditions gs)
    go r true f k = (r.truth, moved-type c gs g (f refl) ∙ r.typed, r.is_truth, k)
    go r false f k = k

pub all-marked : (gs : Gens) (g : Names Ty) → GensHaveMarks gs g → ConditionsApart gs → AllMarked (names_behind gs g) (cell_conditions gs)
all-marked no_gens g m a = tt
all-marked (over p d gs) g m a = all-marked gs (bind_types p (type_of_dom d) g) m.1 a
all-marked (from p e gs) g m a = all-marked gs (bind_types p (source_ty e g) g) m.2 a
all-marked (cond c gs) g m a = go (has_cells c) (λ i. a.0 i) (all-marked gs g m.1 a.1)
  where
    go : (b : Bool) → (b ≡ true → IsFreeOf c gs) → AllMarked (names_behind gs g) (cell_conditions gs) →
        AllMarked (names_behind gs g) (if b then c ∷ cell_conditions gs else cell_conditions gs)
    go true f k = (moved-marks c gs g (f refl) m.0, k)
    go false f k = k

-- ---- the conjunction

both-truths : (t u : Ty) → Agree t bool_ty → Agree u bool_ty → and_then (join t u) (λ v. fit v bool_ty bool_ty) ≡ Some bool_ty
both-truths any_ty any_ty h k = refl
both-truths any_ty bool_ty h k = refl
both-truths bool_ty any_ty h k = refl
both-truths bool_ty bool_ty h k = refl
both-truths int_ty u h k = never h
both-truths (named_ty a) u h k = never h
both-truths (compound i ts) u h k = never h
both-truths any_ty int_ty h k = never k
both-truths any_ty (named_ty a) h k = never k
both-truths any_ty (compound i ts) h k = never k
both-truths bool_ty int_ty h k = never k
both-truths bool_ty (named_ty a) h k = never k
both-truths bool_ty (compound i ts) h k = never k

module _ (h : Names Ty) where
  -- The conjunction of such conditions is one.
  pub hold-type : (c : Ex) (cs : List Ex) → AllTruths h (c ∷ cs) → (t : Ty) × (type_of (all_hold c cs) h ≡ Some t) × Agree t bool_ty
  hold-type c [] k = (k.0, k.1, k.2)
  hold-type c (d ∷ ds) k =
      let r = hold-type d ds k.3 in (
        bool_ty,
        two-to (type_of c h) (type_of (all_hold d ds) h) (type_of_op (binary Op2.And)) k.0 r.0 bool_ty k.1 r.1
            (both-truths k.0 r.0 k.2 r.2),
        refl,
      )

  -- And grows from marked ones.
  pub hold-grows : (c : Ex) (cs : List Ex) → AllMarked h (c ∷ cs) → Grows h (all_hold c cs)
  hold-grows c [] k = as_it_is k.0
  hold-grows c (d ∷ ds) k = a_node refl (more_grow (as_it_is k.0) (more_grow (hold-grows d ds k.1) none_grow))

  -- Generators go on behind a condition.
  pub under-condition : (c : Ex) (t : Ty) → type_of c h ≡ Some t → Agree t bool_ty → types_under (cond c no_gens) h ≡ Some h
  under-condition c t q k = ap (λ o. and_then o (λ v. and_then (join v bool_ty) (λ u. Some h))) q ∙ go (join t bool_ty) k
    where
      go : (j : Option Ty) → is_some j ≡ true → and_then j (λ u. Some h) ≡ Some h
      go None i = never i
      go (Some u) i = refl

-- ---- generators

-- Generators without the conditions have their marks, and their bounds are numbers.
pub without-marks : (gs : Gens) (g : Names Ty) → GensHaveMarks gs g → GensHaveMarks (without_conditions gs) g
without-marks no_gens g m = tt
without-marks (over p d gs) g m = (m.0, without-marks gs (bind_types p (type_of_dom d) g) m.1)
without-marks (from p e gs) g m = (m.0, m.1, without-marks gs (bind_types p (source_ty e g) g) m.2)
without-marks (cond c gs) g m = go (has_cells c) (without-marks gs g m.1)
  where
    go : (b : Bool) → GensHaveMarks (without_conditions gs) g →
        GensHaveMarks (if b then without_conditions gs else cond c (without_conditions gs)) g
    go true k = k
    go false k = (m.0, k)

pub without-bounds : (gs : Gens) (g : Names Ty) → GensBoundsNumbers gs g → GensBoundsNumbers (without_conditions gs) g
without-bounds no_gens g m = tt
without-bounds (over p d gs) g m = (m.0, without-bounds gs (bind_types p (type_of_dom d) g) m.1)
without-bounds (from p e gs) g m = without-bounds gs (bind_types p (source_ty e g) g) m
without-bounds (cond c gs) g m = go (has_cells c) (without-bounds gs g m)
  where
    go : (b : Bool) → GensBoundsNumbers (without_conditions gs) g →
        GensBoundsNumbers (if b then without_conditions gs else cond c (without_conditions gs)) g
    go true k = k
    go false k = k

-- Generators that grow, before others.
pub append-grows : (ks hs : Gens) (g : Names Ty) → GensGrow g ks → GensGrow (names_behind ks g) hs → GensGrow g (append_gens ks hs)
append-grows no_gens hs g no_gens_grow k = k
append-grows (over p d ks) hs g (over_grows m r) k = over_grows m (append-grows ks hs (bind_types p (type_of_dom d) g) r k)
append-grows (from p e ks) hs g (from_grows m r) k = from_grows m (append-grows ks hs (bind_types p (source_ty e g) g) r k)
append-grows (cond e ks) hs g (cond_grows m r) k = cond_grows m (append-grows ks hs g r k)

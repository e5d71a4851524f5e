-- Repeats that don't count, folds of folds and sets of terms keep types and marks.
use Rattle.std.proofs.Common.{◌≡◌, refl, sym, ap, ◌∙◌, subst, Bool, true, false, if◌then◌else◌, [], ◌∷◌, Option, Some, None, option_map}
use Rattle.std.specs.Prelude.{is_some}
use Rattle.ess_semantics.specs.declared.words.Fun.{Fun}
use Rattle.ess_semantics.specs.Lists.{and_then, all_some}
use Rattle.ess_semantics.specs.Values.{Text, a_tuple, a_matrix, a_set, a_mset, a_function, a_relation, a_partition, a_record}
use Rattle.ess_semantics.specs.Names.{Names}
use Rattle.ess_semantics.specs.Trees.{word, Ex, name_ex, comp_ex, fun1, Gens, from}
use Rattle.ess_semantics.specs.Types.{Ty, any_ty, bool_ty, int_ty, named_ty, compound, compound1, compound2, or_any, bind_types}
use Rattle.ess_semantics.specs.OperatorTypes.{type_of_op, member_ty, to_set_ty}
use Rattle.ess_semantics.specs.Typing.{type_of, types_under, source_ty}
use Rattle.ess_semantics.specs.NamesAt.{names_behind}
use Rattle.ess_rules_laws.specs.SourceRules.{is_marked}
use Rattle.ess_rules_laws.specs.SpliceRules.{append_gens}
use Rattle.ess_rules_laws.specs.FoldRules.{is_laid_open}
use Rattle.ess_rules_laws.specs.ListRules.{members_list}
use Rattle.ess_refine_laws.specs.TypesStay.{KeepsType}
use Rattle.ess_refine_laws.specs.MarksStay.{HasMarks, GensHaveMarks}
use Rattle.ess_refine_laws.specs.ExtremeRules.{are_none}
use Rattle.ess_refine_laws.specs.AllRules.{Supply}
use Rattle.ess_refine_types_laws.proofs.TypeParts.{one-is, one-to, list-over, new-name}
use Rattle.ess_rules_types_laws.proofs.PutListed.{source-is}
use Rattle.ess_rules_types_laws.proofs.TypesOfSources.{folded, fold-gives}
use Rattle.ess_rules_marks_laws.proofs.Grows.{as_it_is, a_node, a_comp, none_grow, more_grow, no_gens_grow, from_grows, gens-are}
use Rattle.ess_put_marks_laws.proofs.MarksOfTerms.{fold-fit}
use Rattle.ess_open_rules_laws.specs.OpenGenerators.{Opened, at_first_open, folds_nested, nested}
use Rattle.ess_open_rules_laws.specs.OpenSources.{forgets_repeats, loose_source, seen_loosely, set_of_term}
use Rattle.ess_open_types_laws.proofs.TypesBehind.{KeepsBoth, BothKept, by-growth, at-word, inner-type, both-behind, inner-marks, two-parts}
use Rattle.ess_put_marks_laws.proofs.MarksOfListed.{before-marks}

no : {A : Type 0} → false ≡ true → A
no h = cc

-- ---- sets made of terms

made-back : (o : Option Ty) (m : Ty) → option_map (compound1 a_set) o ≡ Some m →
    (e : Ty) × (o ≡ Some e) × (m ≡ compound1 a_set e)
made-back None m q = (any_ty, cc, cc)
made-back (Some e) m q = (e, refl, cc)

-- What is made into a set has the members of it.
pub made-set : (u v : Ty) → to_set_ty u ≡ Some v → (m : Ty) × (member_ty u ≡ Some m) × (v ≡ compound1 a_set m)
made-set any_ty v q = made-back (Some any_ty) v q
made-set (compound a_tuple ts) v q = made-back (member_ty (compound a_tuple ts)) v q
made-set (compound (a_record fs) ts) v q = made-back (member_ty (compound (a_record fs) ts)) v q
made-set (compound a_matrix ts) v q = made-back (member_ty (compound a_matrix ts)) v q
made-set (compound a_mset ts) v q = made-back (member_ty (compound a_mset ts)) v q
made-set (compound a_function ts) v q = made-back (member_ty (compound a_function ts)) v q
made-set (compound a_relation ts) v q = made-back (member_ty (compound a_relation ts)) v q
made-set (compound a_set ts) v q = (any_ty, cc, cc)
made-set (compound a_partition ts) v q = (any_ty, cc, cc)
made-set bool_ty v q = (any_ty, cc, cc)
made-set int_ty v q = (any_ty, cc, cc)
made-set (named_ty a) v q = (any_ty, cc, cc)

module _ (g : Names Ty) where
  members-type : (x : Text) (t : Ex) → KeepsType g (fun1 false Fun.ToSet t) (fun1 false Fun.ToSet (members_list x t))
  members-type x t v q =
      let r = one-is (type_of t g) (type_of_op (word Fun.ToSet)) v q in
      let m = made-set r.0 v r.2 in
      one-to (type_of (members_list x t) g) (type_of_op (word Fun.ToSet)) (compound2 a_matrix int_ty m.0) v
      (list-over g x t (name_ex x) m.0 m.0 (ap (λ o. and_then o member_ty) r.1 ∙ m.1) (new-name g x m.0)) (ap Some (sym m.2))

  pub term-set : (P : Type 0) (s : Supply) (e : Ex) → BothKept g P e (set_of_term s e)
  term-set P s (fun1 false Fun.ToSet t) = go (is_laid_open t)
    where
      go : (c : Bool) → BothKept g P (fun1 false Fun.ToSet t) (if c then None else Some (fun1 false Fun.ToSet (members_list s.one t)))
      go true = tt
      go false = by-growth g P (fun1 false Fun.ToSet t) (fun1 false Fun.ToSet (members_list s.one t)) (members-type s.one t) (λ p h.
          a_node refl (more_grow (a_comp (from_grows (as_it_is h.1.0) no_gens_grow) (as_it_is tt)) none_grow))
  term-set P s _ = tt

-- ---- repeats

-- The members of a set made of another term are of the type of that's.
loose-members : (o : Option Ty) (m : Ty) → and_then (and_then (all_some (o ∷ [])) (type_of_op (word Fun.ToSet))) member_ty ≡ Some m →
    and_then o member_ty ≡ Some m
loose-members None m q = cc
loose-members (Some u) m q = go (to_set_ty u) refl q
  where
    go : (o : Option Ty) → to_set_ty u ≡ o → and_then o member_ty ≡ Some m → member_ty u ≡ Some m
    go None i p = cc
    go (Some v) i p = let d = made-set u v i in d.1 ∙ (let z : Some d.0 ≡ Some m = ap member_ty (sym d.2) ∙ p in z)

module _ (g : Names Ty) (P : Type 0) where
  loose-both : (e : Ex) (gs hs : Gens) → loose_source gs ≡ Some hs → KeepsBoth g P (comp_ex e gs) (comp_ex e hs)
  loose-both e (from p (fun1 false Fun.ToSet t) ks) hs q =
      subst (λ z. KeepsBoth g P (comp_ex e (from p (fun1 false Fun.ToSet t) ks)) (comp_ex e z))
      (let z : from p t ks ≡ hs = cc in z) (typed, marked)
    where
      L : Names Ty → Option Ty
      L h = option_map (compound2 a_matrix int_ty) (type_of e h)

      S : Ex
      S = fun1 false Fun.ToSet t

      typed : KeepsType g (comp_ex e (from p (fun1 false Fun.ToSet t) ks)) (comp_ex e (from p t ks))
      typed v r =
          let d = source-is (and_then (type_of S g) member_ty) (λ m. types_under ks (bind_types p m g)) L v r in
          ap (λ o. and_then (and_then o (λ m. types_under ks (bind_types p m g))) L) (loose-members (type_of t g) d.0 d.1) ∙ d.2

      marked : P → (v : Ty) → type_of (comp_ex e (from p (fun1 false Fun.ToSet t) ks)) g ≡ Some v →
          HasMarks (comp_ex e (from p (fun1 false Fun.ToSet t) ks)) g → HasMarks (comp_ex e (from p t ks)) g
      marked w v r h =
          let d = source-is (and_then (type_of S g) member_ty) (λ m. types_under ks (bind_types p m g)) L v r in
          let i : source_ty S g ≡ source_ty t g = ap or_any (d.1 ∙ sym (loose-members (type_of t g) d.0 d.1)) in (
            (
              ap is_some (loose-members (type_of t g) d.0 d.1),
              h.0.1.1.0,
              subst (λ z. GensHaveMarks ks (bind_types p z g)) i h.0.2,
            ),
            subst (λ z. HasMarks e (names_behind ks (bind_types p z g))) i h.1,
          )
  loose-both e _ hs q = no (let i : false ≡ true = cc in i)

module _ (g : Names Ty) (P : Type 0) where
  pub loosely : (e : Ex) → BothKept g P e (seen_loosely e)
  loosely (fun1 m f (comp_ex e gs)) = go (forgets_repeats m f) (at_first_open gs) refl
    where
      part : (t : Opened) → at_first_open gs ≡ Some t → (o : Option Gens) → loose_source t.after ≡ o →
          BothKept g P (fun1 m f (comp_ex e gs)) (option_map (λ hs. fun1 m f (comp_ex e (append_gens t.before hs))) o)
      part t i None l = tt
      part t i (Some hs) l = subst (λ z. KeepsBoth g P (fun1 m f (comp_ex e z)) (fun1 m f (comp_ex e (append_gens t.before hs))))
          (sym (two-parts gs t i))
          (at-word g P m f (comp_ex e (append_gens t.before t.after)) (comp_ex e (append_gens t.before hs))
          (both-behind t.before e e t.after hs g P (loose-both (names_behind t.before g) P e t.after hs l)))

      go : (c : Bool) (o : Option Opened) → at_first_open gs ≡ o → BothKept g P (fun1 m f (comp_ex e gs))
          (if c then and_then o (λ t. option_map (λ hs. fun1 m f (comp_ex e (append_gens t.before hs))) (loose_source t.after)) else None)
      go false o i = tt
      go true None i = tt
      go true (Some t) i = part t i (loose_source t.after) refl
  loosely _ = tt

-- ---- folds of folds

fold-again : (m : Bool) (f : Fun) → is_marked m f ≡ true →
    type_of_op (word f) (compound2 a_matrix int_ty (folded m) ∷ []) ≡ Some (folded m)
fold-again true Fun.And i = refl
fold-again true Fun.Or i = refl
fold-again false Fun.Sum i = refl
fold-again false Fun.Product i = refl
fold-again true _ i = cc
fold-again false _ i = cc

module _ (g : Names Ty) (P : Type 0) where
  nested-both : (m : Bool) (f : Fun) (e : Ex) (gs hs : Gens) → is_marked m f ≡ true →
      KeepsBoth g P (fun1 m f (comp_ex e (append_gens gs hs))) (fun1 m f (comp_ex (fun1 m f (comp_ex e hs)) gs))
  nested-both m f e gs hs i = by-growth g P (fun1 m f (comp_ex e (append_gens gs hs))) (fun1 m f (comp_ex (fun1 m f (comp_ex e hs)) gs))
      (λ v q.
      let r = one-is (type_of (comp_ex e (append_gens gs hs)) g) (type_of_op (word f)) v q in
      let w = fold-gives m f i r.0 v r.2 in
      let d = inner-type gs e hs g r.0 r.1 in
      let k : type_of (fun1 m f (comp_ex e hs)) (names_behind gs g) ≡ Some (folded m) =
      one-to (type_of (comp_ex e hs) (names_behind gs g)) (type_of_op (word f)) r.0 (folded m) d.1 (r.2 ∙ ap Some w) in
      one-to (type_of (comp_ex (fun1 m f (comp_ex e hs)) gs) g) (type_of_op (word f)) (compound2 a_matrix int_ty (folded m)) v
      (ap (λ o. and_then o (λ h. option_map (compound2 a_matrix int_ty) (type_of (fun1 m f (comp_ex e hs)) h))) d.0
      ∙ ap (option_map (compound2 a_matrix int_ty)) k) (fold-again m f i ∙ ap Some (sym w)))
      (λ p h. a_node (fold-fit m f i) (more_grow (a_comp (gens-are g gs (before-marks gs hs g h.1.0.0).0)
      (a_node (fold-fit m f i) (more_grow (as_it_is (inner-marks gs e hs g h.1.0)) none_grow))) none_grow))

  pub folds : (e : Ex) → BothKept g P e (nested e)
  folds (fun1 m f (comp_ex e gs)) = go (is_marked m f) refl (at_first_open gs) refl
    where
      part : is_marked m f ≡ true → (t : Opened) → at_first_open gs ≡ Some t → (c : Bool) →
          BothKept g P (fun1 m f (comp_ex e gs))
          (if c then None else Some (fun1 m f (comp_ex (fun1 m f (comp_ex e t.after)) t.before)))
      part i t j true = tt
      part i t j false = subst (λ z. KeepsBoth g P (fun1 m f (comp_ex e z)) (fun1 m f (comp_ex (fun1 m f (comp_ex e t.after)) t.before)))
          (sym (two-parts gs t j)) (nested-both m f e t.before t.after i)

      go : (c : Bool) → is_marked m f ≡ c → (o : Option Opened) → at_first_open gs ≡ o →
          BothKept g P (fun1 m f (comp_ex e gs)) (if c then and_then o (folds_nested m f e) else None)
      go false i o j = tt
      go true i None j = tt
      go true i (Some t) j = part i t j (are_none t.before)
  folds _ = tt

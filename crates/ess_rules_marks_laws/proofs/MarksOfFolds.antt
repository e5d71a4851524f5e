-- Rules of folds and of literals keep marks.
use Rattle.std.proofs.Common.{◌≡◌, refl, sym, ap, subst, ℕ, zero, suc, pos, Bool, true, false, not, ◌&&◌, ◌||◌, if◌then◌else◌, List, [], ◌∷◌, Option, Some, None, option_map}
use Rattle.std.specs.Prelude.{is_some}
use Rattle.ess_semantics.specs.declared.words.Op2.{Op2}
use Rattle.ess_semantics.specs.declared.words.Fun.{Fun}
use Rattle.ess_semantics.specs.Lists.{and_then, all_some}
use Rattle.ess_semantics.specs.Values.{Text, a_set, a_mset, a_function, a_relation, a_partition, a_matrix, a_tuple, a_record}
use Rattle.ess_semantics.specs.Order.{same_text}
use Rattle.ess_semantics.specs.Names.{Names}
use Rattle.ess_semantics.specs.Trees.{to_component, to_field, binary, word, index, tuple_literal, matrix_literal, mset_literal, set_literal, record_literal, Pat, name_pat, Ex, Exs, name_ex, node_ex, comp_ex, ex2, fun1, no_exs, more_exs, Gens, no_gens, from, cond, number_ex}
use Rattle.ess_semantics.specs.Types.{Ty, any_ty, bool_ty, int_ty, named_ty, compound, compound1, or_any, bind_types}
use Rattle.ess_semantics.specs.OperatorTypes.{type_of_op, member_ty}
use Rattle.ess_semantics.specs.Typing.{type_of, source_ty}
use Rattle.ess_semantics.specs.NamesAt.{names_behind}
use Rattle.ess_rules_laws.specs.FoldRules.{fold_alone, fold_nothing, fold_one, fold_bare, is_fold, is_laid_open, fold_term}
use Rattle.ess_rules_laws.specs.LooseRules.{fold_loosely}
use Rattle.ess_rules_laws.specs.LiteralRules.{nth, component_listed, extreme_listed}
use Rattle.ess_rules_laws.specs.FieldLiterals.{field_term, field_listed}
use Rattle.ess_rules_laws.specs.ListRules.{members_list, is_of_list, list_term, is_lex, as_members, lex_both}
use Rattle.ess_rules_laws.specs.ChoiceRules.{choice_shorter}
use Rattle.ess_refine_laws.specs.MarksStay.{HasMarks, HaveMarks, GensHaveMarks}
use Rattle.ess_rules_marks_laws.proofs.DecidedOps.{is_decided, fit-of}
use Rattle.ess_rules_marks_laws.proofs.Grows.{Grows, as_it_is, a_node, a_comp, none_grow, more_grow, no_gens_grow, from_grows, mark-is, gens-are, all-are, MarksGrow, grows-when}

-- ---- sources

set-members : (p : Option Ty) → and_then (option_map (compound1 a_set) p) member_ty ≡ p
set-members None = refl
set-members (Some t) = refl

-- The set of the members of a term has these members.
source-of-set : (o : Option Ty) → is_some (and_then (and_then (all_some (o ∷ [])) (type_of_op (word Fun.ToSet))) member_ty) ≡ true →
    and_then o member_ty ≡ and_then (and_then (all_some (o ∷ [])) (type_of_op (word Fun.ToSet))) member_ty
source-of-set None h = refl
source-of-set (Some any_ty) h = refl
source-of-set (Some (compound a_mset ts)) h = sym (set-members (member_ty (compound a_mset ts)))
source-of-set (Some (compound a_function ts)) h = sym (set-members (member_ty (compound a_function ts)))
source-of-set (Some (compound a_relation ts)) h = sym (set-members (member_ty (compound a_relation ts)))
source-of-set (Some (compound a_matrix ts)) h = sym (set-members (member_ty (compound a_matrix ts)))
source-of-set (Some (compound a_set ts)) h = cc
source-of-set (Some (compound a_partition ts)) h = cc
source-of-set (Some (compound a_tuple ts)) h = refl
source-of-set (Some (compound (a_record fs) ts)) h = refl
source-of-set (Some bool_ty) h = refl
source-of-set (Some int_ty) h = refl
source-of-set (Some (named_ty a)) h = refl

module _ (g : Names Ty) where
  -- A comprehension over a term that has the members of the old one.
  over-members : (e : Ex) (p : Pat) (s t : Ex) (hs : Gens) → and_then (type_of s g) member_ty ≡ and_then (type_of t g) member_ty →
      HasMarks s g → GensHaveMarks hs (bind_types p (source_ty t g) g) → HasMarks e (names_behind hs (bind_types p (source_ty t g) g)) →
      Grows g (comp_ex e (from p s hs))
  over-members e p s t hs q h k l =
      let i : source_ty t g ≡ source_ty s g = ap or_any (sym q) in
      a_comp (from_grows (as_it_is h) (gens-are (bind_types p (source_ty s g) g) hs (subst (λ v. GensHaveMarks hs (bind_types p v g)) i k)))
      (as_it_is (subst (λ v. HasMarks e (names_behind hs (bind_types p v g))) i l))

  -- ---- folds

  pub nothing : (e : Ex) → MarksGrow g e (fold_nothing e)
  nothing (fun1 true Fun.And (node_ex false matrix_literal no_exs)) = λ h. as_it_is tt
  nothing (fun1 true Fun.Or (node_ex false matrix_literal no_exs)) = λ h. as_it_is tt
  nothing (fun1 false Fun.Sum (node_ex false matrix_literal no_exs)) = λ h. as_it_is tt
  nothing (fun1 false Fun.Product (node_ex false matrix_literal no_exs)) = λ h. as_it_is tt
  nothing _ = tt

  pub one-item : (e : Ex) → MarksGrow g e (fold_one e)
  one-item (fun1 true Fun.And (node_ex false matrix_literal (more_exs a no_exs))) = λ h. as_it_is h.1.0.1.0
  one-item (fun1 true Fun.Or (node_ex false matrix_literal (more_exs a no_exs))) = λ h. as_it_is h.1.0.1.0
  one-item (fun1 false Fun.Sum (node_ex false matrix_literal (more_exs a no_exs))) = λ h. as_it_is h.1.0.1.0
  one-item (fun1 false Fun.Product (node_ex false matrix_literal (more_exs a no_exs))) = λ h. as_it_is h.1.0.1.0
  one-item _ = tt

  pub bare : (e : Ex) → MarksGrow g e (fold_bare e)
  bare (fun1 true Fun.And (comp_ex e no_gens)) = λ h. as_it_is h.1.0.1
  bare (fun1 true Fun.Or (comp_ex e no_gens)) = λ h. as_it_is h.1.0.1
  bare (fun1 false Fun.Sum (comp_ex e no_gens)) = λ h. as_it_is h.1.0.1
  bare (fun1 false Fun.Product (comp_ex e no_gens)) = λ h. as_it_is h.1.0.1
  bare _ = tt

  -- The members of a term as a list.
  pub members-grow : (x : Text) (s : Ex) → HasMarks s g → Grows g (members_list x s)
  members-grow x s h = a_comp (from_grows (as_it_is h) no_gens_grow) (as_it_is tt)

  fold-decided : (f : Fun) → is_fold f ≡ true → is_decided (word f) ≡ true
  fold-decided Fun.And i = refl
  fold-decided Fun.Or i = refl
  fold-decided Fun.Sum i = refl
  fold-decided Fun.Product i = refl
  fold-decided _ i = cc

  pub term : (x : Text) (e : Ex) → MarksGrow g e (fold_term x e)
  term x (fun1 b f l) = go (is_fold f) refl (is_laid_open l)
    where
      go : (c : Bool) → is_fold f ≡ c → (d : Bool) → MarksGrow g (fun1 b f l)
          (if c then (if d then None else Some (fun1 b f (comp_ex (name_ex x) (from (name_pat x) l no_gens)))) else None)
      go true i true = tt
      go true i false = λ h. a_node (fit-of b (word f) (fold-decided f i) (mark-is g b (word f) (more_exs l no_exs) (fold-decided f i) h))
          (more_grow (members-grow x l h.1.0) none_grow)
      go false i d = tt
  term x _ = tt

  pub loosely : (e : Ex) → MarksGrow g e (fold_loosely e)
  loosely (fun1 true Fun.And (comp_ex e (from p (fun1 false Fun.ToSet s) hs))) = λ h.
      a_node refl (more_grow (over-members e p s (fun1 false Fun.ToSet s) hs (source-of-set (type_of s g) h.1.0.0.0) h.1.0.0.1.1.0
      h.1.0.0.2 h.1.0.1) none_grow)
  loosely (fun1 true Fun.Or (comp_ex e (from p (fun1 false Fun.ToSet s) hs))) = λ h.
      a_node refl (more_grow (over-members e p s (fun1 false Fun.ToSet s) hs (source-of-set (type_of s g) h.1.0.0.0) h.1.0.0.1.1.0
      h.1.0.0.2 h.1.0.1) none_grow)
  loosely _ = tt

  pub alone : (e : Ex) → MarksGrow g e (fold_alone e)
  alone (fun1 true Fun.And (comp_ex e (cond c no_gens))) = λ h. a_node refl (more_grow (as_it_is h.1.0.0.0) (more_grow
      (as_it_is h.1.0.1) none_grow))
  alone (fun1 true Fun.Or (comp_ex e (cond c no_gens))) = λ h. a_node refl (more_grow (as_it_is h.1.0.0.0) (more_grow
      (as_it_is h.1.0.1) none_grow))
  alone _ = tt

  -- ---- literals

  abbrev GrowsIn : Option Ex → Type 0
  GrowsIn None = Unit {0}
  GrowsIn (Some e) = Grows g e

  nth-grows : (es : Exs) (k : ℕ) → HaveMarks es g → GrowsIn (nth es k)
  nth-grows no_exs k h = tt
  nth-grows (more_exs e es) zero h = nth-none es zero h.1
    where
      nth-none : (es : Exs) (k : ℕ) → HaveMarks es g → GrowsIn (nth (more_exs e es) zero)
      nth-none es k h = tt
  nth-grows (more_exs e es) (suc zero) h = as_it_is h.0
  nth-grows (more_exs e es) (suc (suc k)) h = nth-grows es (suc k) h.1

  from-part : (e : Ex) (o : Option Ex) → (HasMarks e g → GrowsIn o) → MarksGrow g e o
  from-part e None h = tt
  from-part e (Some f) h = h

  pub component : (e : Ex) → MarksGrow g e (component_listed e)
  component (node_ex b (index (to_component k ∷ [])) (more_exs (node_ex false tuple_literal es) no_exs)) =
      from-part (node_ex b (index (to_component k ∷ [])) (more_exs (node_ex false tuple_literal es) no_exs)) (nth es k)
      (λ h. nth-grows es k h.1.0.1)
  component _ = tt

  field-grows : (fs : List Text) (es : Exs) (a : Text) → HaveMarks es g → GrowsIn (field_term fs es a)
  field-grows [] es a h = tt
  field-grows (f ∷ fs) no_exs a h = tt
  field-grows (f ∷ fs) (more_exs e es) a h = go (same_text f a) (field-grows fs es a h.1)
    where
      go : (c : Bool) → GrowsIn (field_term fs es a) → GrowsIn (if c then Some e else field_term fs es a)
      go true k = as_it_is h.0
      go false k = k

  pub field : (e : Ex) → MarksGrow g e (field_listed e)
  field (node_ex b (index (to_field a ∷ [])) (more_exs (node_ex false (record_literal fs) es) no_exs)) =
      from-part (node_ex b (index (to_field a ∷ [])) (more_exs (node_ex false (record_literal fs) es) no_exs)) (field_term fs es a)
      (λ h. field-grows fs es a h.1.0.1)
  field _ = tt

  -- ---- lists

  extreme-grows : (m : Bool) (f : Fun) (l : Ex) (es : Exs) → is_decided (word f) ≡ true → HasMarks (fun1 m f l) g → HaveMarks es g →
      Grows g (fun1 m f (node_ex false matrix_literal es))
  extreme-grows m f l es d h k =
      a_node (fit-of m (word f) d (mark-is g m (word f) (more_exs l no_exs) d h)) (more_grow (a_node refl (all-are g es k)) none_grow)

  pub least-listed : (e : Ex) → MarksGrow g e (extreme_listed e)
  least-listed (fun1 m Fun.Min (node_ex false set_literal es)) = λ h. extreme-grows m Fun.Min
      (node_ex false set_literal es) es refl h h.1.0.1
  least-listed (fun1 m Fun.Max (node_ex false set_literal es)) = λ h. extreme-grows m Fun.Max
      (node_ex false set_literal es) es refl h h.1.0.1
  least-listed (fun1 m Fun.Min (node_ex false mset_literal es)) = λ h. extreme-grows m Fun.Min
      (node_ex false mset_literal es) es refl h h.1.0.1
  least-listed (fun1 m Fun.Max (node_ex false mset_literal es)) = λ h. extreme-grows m Fun.Max
      (node_ex false mset_literal es) es refl h h.1.0.1
  least-listed _ = tt

  list-decided : (f : Fun) → is_of_list f ≡ true → is_decided (word f) ≡ true
  list-decided Fun.Min i = refl
  list-decided Fun.Max i = refl
  list-decided Fun.AllDiff i = refl
  list-decided _ i = cc

  pub list-of-term : (x : Text) (e : Ex) → MarksGrow g e (list_term x e)
  list-of-term x (fun1 b f s) = go (is_of_list f) refl (is_laid_open s)
    where
      go : (c : Bool) → is_of_list f ≡ c → (d : Bool) →
          MarksGrow g (fun1 b f s) (if c && not d then Some (fun1 b f (members_list x s)) else None)
      go true i true = tt
      go true i false = λ h. a_node (fit-of b (word f) (list-decided f i) (mark-is g b (word f) (more_exs s no_exs) (list-decided f i) h))
          (more_grow (members-grow x s h.1.0) none_grow)
      go false i d = tt
  list-of-term x _ = tt

  as-members : (x : Text) (s : Ex) → HasMarks s g → Grows g (as_members x s)
  as-members x s h = go (is_laid_open s)
    where
      go : (c : Bool) → Grows g (if c then s else members_list x s)
      go true = as_it_is h
      go false = members-grow x s h

  pub both-lists : (x : Text) (e : Ex) → MarksGrow g e (lex_both x e)
  both-lists x (ex2 true o a b) = grows-when g (is_lex o && (not (is_laid_open a) || not (is_laid_open b))) (ex2 true o a b)
      (ex2 true o (as_members x a) (as_members x b)) (λ c h.
      a_node (fit-of true (binary o) refl (mark-is g true (binary o) (more_exs a (more_exs b no_exs)) refl h)) (more_grow
      (as-members x a h.1.0) (more_grow (as-members x b h.1.1.0) none_grow)))
  both-lists x _ = tt

  -- ---- choices

  pub shorter : (e : Ex) → MarksGrow g e (choice_shorter e)
  shorter (ex2 false Op2.Times (fun1 false Fun.ToInt c) (fun1 false Fun.ToInt d)) = λ h.
      a_node refl (more_grow (a_node refl (more_grow (as_it_is h.1.0.1.0) (more_grow (as_it_is h.1.1.0.1.0) none_grow))) none_grow)
  shorter (ex2 false Op2.Times (fun1 false Fun.ToInt c) (number_ex (pos (suc zero)))) = λ h. as_it_is h.1.0
  shorter _ = tt

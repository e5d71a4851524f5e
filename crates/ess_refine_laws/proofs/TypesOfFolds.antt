-- What rules make of folds, lists and literals has the type that they rewrite.
use Rattle.std.proofs.Common.{◌≡◌, refl, ap, ◌∙◌, Bool, true, false, if◌then◌else◌, [], ◌∷◌, Option, Some, None, option_map}
use Rattle.ess_semantics.specs.declared.words.Op2.{Op2}
use Rattle.ess_semantics.specs.declared.words.Fun.{Fun}
use Rattle.ess_semantics.specs.Lists.{and_then}
use Rattle.ess_semantics.specs.Values.{Text, a_record, a_function, a_matrix, a_tuple}
use Rattle.ess_semantics.specs.Names.{Names}
use Rattle.ess_semantics.specs.Trees.{word, matrix_literal, name_pat, Ex, name_ex, node_ex, comp_ex, fun1, no_exs, more_exs, no_gens, from, cond, binary}
use Rattle.ess_semantics.specs.Types.{Ty, compound, compound2}
use Rattle.ess_semantics.specs.Typing.{type_of}
use Rattle.ess_rules_laws.specs.FoldRules.{is_fold, is_laid_open, fold_alone, fold_nothing, fold_one, fold_bare, fold_term}
use Rattle.ess_rules_laws.specs.LooseRules.{fold_loosely}
use Rattle.ess_refine_laws.specs.AllRules.{over_one, over_one_binding}
use Rattle.ess_semantics.specs.Lists.{all_some}
use Rattle.ess_semantics.specs.Values.{a_set, a_mset, a_relation, a_partition}
use Rattle.ess_semantics.specs.Trees.{Op}
use Rattle.ess_semantics.specs.Types.{any_ty, bool_ty, int_ty, named_ty, compound1, join, bind_types}
use Rattle.ess_semantics.specs.OperatorTypes.{type_of_op, member_ty, type_of_list}
use Rattle.ess_semantics.specs.Typing.{types_under}
use Rattle.ess_rules_laws.specs.Progress.{is_told}
use Rattle.ess_rules_laws.specs.ListRules.{members_list}
use Rattle.ess_rules_laws.proofs.Agreement.{look-itself}
use Rattle.ess_refine_laws.specs.TypesStay.{KeepsType}
use Rattle.ess_refine_laws.specs.AllRules.{over_one, over_one_binding}
use Rattle.ess_refine_laws.specs.TypesOfRules.{TypeTold}

-- ---- types of nodes

-- The type of a node on one operand and on two, by the types of these.
abbrev pub one_type : Op → Option Ty → Option Ty
one_type op o = and_then (all_some (o ∷ [])) (type_of_op op)

abbrev pub two_type : Op → Option Ty → Option Ty → Option Ty
two_type op o p = and_then (all_some (o ∷ p ∷ [])) (type_of_op op)

-- The type of a list of such items.
abbrev pub list_of_type : Option Ty → Option Ty
list_of_type o = option_map (compound2 a_matrix int_ty) o

-- What the first one is, where it is there, the second is too.
abbrev pub Stays : {A : Type 0} → Option A → Option A → Type 0
Stays {A = A} o p = (t : A) → o ≡ Some t → p ≡ Some t

pub then-stays : {A B : Type 0} (o p : Option A) (F : A → Option B) → Stays o p → Stays (and_then o F) (and_then p F)
then-stays None p F h t e = cc
then-stays (Some u) p F h t e = ap (λ q. and_then q F) (h u refl) ∙ e

pub one-stays : (op : Op) (o p : Option Ty) → Stays o p → Stays (one_type op o) (one_type op p)
one-stays op None p h t e = cc
one-stays op (Some u) p h t e = ap (λ z. one_type op z) (h u refl) ∙ e

-- Whether the type is of truth values, or that of an empty literal's members.
abbrev is_truth_like : Option Ty → Bool
is_truth_like (Some bool_ty) = true
is_truth_like (Some any_ty) = true
is_truth_like t = false

module _ (g : Names Ty) where
  -- What a rule answers has the type of the root.
  abbrev pub TypeKept : Ex → Option Ex → Type 0
  TypeKept e None = Unit {0}
  TypeKept e (Some f) = KeepsType g e f

  pub when : (c : Bool) (e f : Ex) → KeepsType g e f → TypeKept e (if c then Some f else None)
  when true e f h = h
  when false e f h = tt

  -- ---- folds

  pub nothing : (e : Ex) → TypeKept e (fold_nothing e)
  nothing (fun1 true Fun.And (node_ex false matrix_literal no_exs)) = λ t q. q
  nothing (fun1 true Fun.Or (node_ex false matrix_literal no_exs)) = λ t q. q
  nothing (fun1 false Fun.Sum (node_ex false matrix_literal no_exs)) = λ t q. q
  nothing (fun1 false Fun.Product (node_ex false matrix_literal no_exs)) = λ t q. q
  nothing _ = tt

  one-truth : (o : Option Ty) → is_told o ≡ true → Stays (one_type (word Fun.And) (and_then (all_some (o ∷ [])) type_of_list)) o
  one-truth None k t q = cc
  one-truth (Some any_ty) k t q = cc
  one-truth (Some bool_ty) k t q = q
  one-truth (Some int_ty) k t q = cc
  one-truth (Some (named_ty a)) k t q = cc
  one-truth (Some (compound c ts)) k t q = cc

  one-number : (o : Option Ty) → is_told o ≡ true → Stays (one_type (word Fun.Sum) (and_then (all_some (o ∷ [])) type_of_list)) o
  one-number None k t q = cc
  one-number (Some any_ty) k t q = cc
  one-number (Some bool_ty) k t q = cc
  one-number (Some int_ty) k t q = q
  one-number (Some (named_ty a)) k t q = cc
  one-number (Some (compound c ts)) k t q = cc

  pub one-item : (e : Ex) → TypeTold g over_one e → TypeKept e (fold_one e)
  one-item (fun1 true Fun.And (node_ex false matrix_literal (more_exs a no_exs))) k = one-truth (type_of a g) k
  one-item (fun1 true Fun.Or (node_ex false matrix_literal (more_exs a no_exs))) k = one-truth (type_of a g) k
  one-item (fun1 false Fun.Sum (node_ex false matrix_literal (more_exs a no_exs))) k = one-number (type_of a g) k
  one-item (fun1 false Fun.Product (node_ex false matrix_literal (more_exs a no_exs))) k = one-number (type_of a g) k
  one-item _ k = tt

  bare-truth : (o : Option Ty) → is_told o ≡ true → Stays (one_type (word Fun.And) (list_of_type o)) o
  bare-truth None k t q = cc
  bare-truth (Some any_ty) k t q = cc
  bare-truth (Some bool_ty) k t q = q
  bare-truth (Some int_ty) k t q = cc
  bare-truth (Some (named_ty a)) k t q = cc
  bare-truth (Some (compound c ts)) k t q = cc

  bare-number : (o : Option Ty) → is_told o ≡ true → Stays (one_type (word Fun.Sum) (list_of_type o)) o
  bare-number None k t q = cc
  bare-number (Some any_ty) k t q = cc
  bare-number (Some bool_ty) k t q = cc
  bare-number (Some int_ty) k t q = q
  bare-number (Some (named_ty a)) k t q = cc
  bare-number (Some (compound c ts)) k t q = cc

  pub bare : (e : Ex) → TypeTold g over_one_binding e → TypeKept e (fold_bare e)
  bare (fun1 true Fun.And (comp_ex e no_gens)) k = bare-truth (type_of e g) k
  bare (fun1 true Fun.Or (comp_ex e no_gens)) k = bare-truth (type_of e g) k
  bare (fun1 false Fun.Sum (comp_ex e no_gens)) k = bare-number (type_of e g) k
  bare (fun1 false Fun.Product (comp_ex e no_gens)) k = bare-number (type_of e g) k
  bare _ k = tt

  -- Under a condition.
  both-truths : (o p : Option Ty) → is_truth_like o ≡ true →
      Stays (one_type (word Fun.And) (list_of_type p)) (two_type (binary Op2.Implies) o p)
  both-truths o None k t q = cc
  both-truths (Some any_ty) (Some any_ty) k t q = q
  both-truths (Some any_ty) (Some bool_ty) k t q = q
  both-truths (Some any_ty) (Some _) k t q = cc
  both-truths (Some bool_ty) (Some any_ty) k t q = q
  both-truths (Some bool_ty) (Some bool_ty) k t q = q
  both-truths (Some bool_ty) (Some _) k t q = cc
  both-truths None (Some p) k t q = cc
  both-truths (Some int_ty) (Some p) k t q = cc
  both-truths (Some (named_ty a)) (Some p) k t q = cc
  both-truths (Some (compound c ts)) (Some p) k t q = cc

  conditioned : (o : Option Ty) (P : Names Ty → Option Ty) →
      Stays (one_type (word Fun.And) (and_then (and_then o (λ t. and_then (join t bool_ty) (λ u. Some g))) (λ h. list_of_type (P h))))
      (two_type (binary Op2.Implies) o (P g))
  conditioned None P t q = cc
  conditioned (Some any_ty) P t q = both-truths (Some any_ty) (P g) refl t q
  conditioned (Some bool_ty) P t q = both-truths (Some bool_ty) (P g) refl t q
  conditioned (Some int_ty) P t q = cc
  conditioned (Some (named_ty a)) P t q = cc
  conditioned (Some (compound c ts)) P t q = cc

  pub alone : (e : Ex) → TypeKept e (fold_alone e)
  alone (fun1 true Fun.And (comp_ex e (cond c no_gens))) = conditioned (type_of c g) (λ h. type_of e h)
  alone (fun1 true Fun.Or (comp_ex e (cond c no_gens))) = conditioned (type_of c g) (λ h. type_of e h)
  alone _ = tt

  -- ---- members

  -- The members of a set.
  set-members : (m : Option Ty) → Stays (and_then (option_map (compound1 a_set) m) member_ty) m
  set-members None t q = cc
  set-members (Some u) t q = q

  -- The members of `toSet(s)` are those of s.
  made-members : (o : Option Ty) → Stays (and_then (one_type (word Fun.ToSet) o) member_ty) (and_then o member_ty)
  made-members None t q = cc
  made-members (Some any_ty) t q = q
  made-members (Some bool_ty) t q = cc
  made-members (Some int_ty) t q = cc
  made-members (Some (named_ty a)) t q = cc
  made-members (Some (compound a_tuple ts)) t q = cc
  made-members (Some (compound a_set ts)) t q = cc
  made-members (Some (compound a_partition ts)) t q = cc
  made-members (Some (compound (a_record fs) ts)) t q = cc
  made-members (Some (compound a_matrix ts)) t q = set-members (member_ty (compound a_matrix ts)) t q
  made-members (Some (compound a_mset ts)) t q = set-members (member_ty (compound a_mset ts)) t q
  made-members (Some (compound a_function ts)) t q = set-members (member_ty (compound a_function ts)) t q
  made-members (Some (compound a_relation ts)) t q = set-members (member_ty (compound a_relation ts)) t q

  pub loosely : (e : Ex) → TypeKept e (fold_loosely e)
  loosely (fun1 true Fun.And (comp_ex e (from p (fun1 false Fun.ToSet s) hs))) =
      one-stays (word Fun.And) _ _ (then-stays _ _ _ (then-stays _ _ (λ t. types_under hs (bind_types p t g)) (made-members (type_of s g))))
  loosely (fun1 true Fun.Or (comp_ex e (from p (fun1 false Fun.ToSet s) hs))) =
      one-stays (word Fun.Or) _ _ (then-stays _ _ _ (then-stays _ _ (λ t. types_under hs (bind_types p t g)) (made-members (type_of s g))))
  loosely _ = tt

  -- The members of a term as a list.
  pub members-typed : (x : Text) (s : Ex) → type_of (members_list x s) g ≡ list_of_type (and_then (type_of s g) member_ty)
  members-typed x s = go (and_then (type_of s g) member_ty)
    where
      go : (m : Option Ty) →
          and_then (and_then m (λ t. Some ((x, t) ∷ g))) (λ h. list_of_type (type_of (name_ex x) h)) ≡ list_of_type m
      go None = refl
      go (Some u) = ap list_of_type (look-itself x u g)

  folded : (f : Fun) → is_fold f ≡ true → (o : Option Ty) →
      Stays (one_type (word f) o) (one_type (word f) (list_of_type (and_then o member_ty)))
  folded f k None t q = cc
  folded Fun.And k (Some any_ty) t q = q
  folded Fun.Or k (Some any_ty) t q = q
  folded Fun.Sum k (Some any_ty) t q = q
  folded Fun.Product k (Some any_ty) t q = q
  folded Fun.And k (Some (compound2 a_matrix i e)) t q = q
  folded Fun.Or k (Some (compound2 a_matrix i e)) t q = q
  folded Fun.Sum k (Some (compound2 a_matrix i e)) t q = q
  folded Fun.Product k (Some (compound2 a_matrix i e)) t q = q
  folded Fun.And k (Some _) t q = cc
  folded Fun.Or k (Some _) t q = cc
  folded Fun.Sum k (Some _) t q = cc
  folded Fun.Product k (Some _) t q = cc
  folded _ k (Some u) t q = cc

  pub term : (x : Text) (e : Ex) → TypeKept e (fold_term x e)
  term x (fun1 b f l) = go (is_fold f) refl (is_laid_open l)
    where
      go : (c : Bool) → is_fold f ≡ c → (d : Bool) → TypeKept (fun1 b f l)
          (if c then (if d then None else Some (fun1 b f (comp_ex (name_ex x) (from (name_pat x) l no_gens)))) else None)
      go true k true = tt
      go true k false = λ t q. ap (λ o. one_type (word f) o) (members-typed x l) ∙ folded f k (type_of l g) t q
      go false k d = tt
  term x _ = tt

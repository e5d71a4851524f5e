-- Some rule fires at each operator that looks into a container.
use Rattle.std.proofs.Common.{◌≡◌, refl, sym, ap, ◌∙◌, Bool, true, false, ◌&&◌, ◌||◌, not, if◌then◌else◌, List, [], ◌∷◌, Option, Some, None, option_map}
use Rattle.std.specs.Prelude.{is_some}
use Rattle.ess_semantics.specs.declared.words.Op1.{Op1}
use Rattle.ess_semantics.specs.declared.words.Op2.{Op2}
use Rattle.ess_semantics.specs.declared.words.Fun.{Fun}
use Rattle.ess_semantics.specs.Lists.{and_then, all_some}
use Rattle.ess_semantics.specs.Values.{Text, Kind, a_tuple, a_matrix, a_set, a_mset, a_function, a_relation, a_partition, a_record}
use Rattle.ess_semantics.specs.Order.{same_texts}
use Rattle.ess_semantics.specs.Names.{Names}
use Rattle.ess_semantics.specs.Trees.{unary, binary, word, Ex, node_ex, ex1, ex2, fun1, no_exs, more_exs, Dom}
use Rattle.ess_semantics.specs.Types.{Ty, Tys, no_tys, more_tys, compound, compound2, join, joins, is_open}
use Rattle.ess_semantics.specs.OperatorTypes.{type_of_op, included}
use Rattle.ess_semantics.specs.Typing.{type_of}
use Rattle.ess_semantics.proofs.Tests.{and-left, and-right, and-both}
use Rattle.ess_rules_laws.specs.FoldRules.{is_fold, is_laid_open}
use Rattle.ess_rules_laws.specs.InclusionRules.{both_sets, both_msets, both_functions}
use Rattle.ess_rules_laws.specs.PartitionRules.{both_partitions}
use Rattle.ess_rules_laws.specs.ComponentRules.{has_text, are_fields, equal_where, components, equal_where_fields}
use Rattle.ess_rules_laws.specs.SizeRules.{is_counted}
use Rattle.ess_rules_laws.specs.MatrixRules.{both_matrices, equal_each_at}
use Rattle.ess_rules_laws.specs.ListRules.{is_of_list, is_lex}
use Rattle.ess_rules_laws.specs.Progress.{Fires, by_unequal, by_turned, by_strictly, by_often, by_member, by_size, by_frequency, by_together, by_fold, by_list, by_lists, by_components, by_fields, by_sets, by_msets, by_functions, by_partitions, by_matrices, is_parted, looks_into, OperatorsHaveRules}

no : {A : Type 0} → false ≡ true → A
no h = cc

-- A rule under a test that holds.
so : {A : Type 0} (c : Bool) (f : A) → c ≡ true → (if c then Some f else None) ≡ Some f
so true f h = refl
so false f h = no h

-- The same of a test within another one.
twice : {A : Type 0} (c e : Bool) (f : A) → c ≡ true → e ≡ false → (if c then (if e then None else Some f) else None) ≡ Some f
twice true false f h k = refl
twice true true f h k = no (sym k)
twice false e f h k = no h

-- ---- types that agree

-- Where the types of lists agree fields that differ belong to both.
record-fields : (fs : List Text) (ts us : Tys) → are_fields fs ts ts ≡ true → is_some (joins ts us) ≡ true → are_fields fs ts us ≡ true
record-fields [] no_tys no_tys h j = refl
record-fields (f ∷ fs) (more_tys t ts) (more_tys u us) h j =
    and-both (not (has_text fs f)) (are_fields fs ts us) (and-left (not (has_text fs f)) (are_fields fs ts ts) h)
    (record-fields fs ts us (and-right (not (has_text fs f)) (are_fields fs ts ts) h) (rest (join t u) (joins ts us) j))
  where
    rest : (o : Option Ty) (p : Option Tys) → is_some (and_then o (λ v. option_map (more_tys v) p)) ≡ true → is_some p ≡ true
    rest None p j = no j
    rest (Some v) None j = no j
    rest (Some v) (Some vs) j = refl
record-fields _ _ _ h j = cc

mapped : {A B : Type 0} (f : A → B) (o : Option A) → is_some (option_map f o) ≡ true → is_some o ≡ true
mapped f None h = no h
mapped f (Some x) h = refl

-- The same of two records whose types agree.
records-agree : (fs hs : List Text) (ts us : Tys) → are_fields fs ts ts ≡ true →
    is_some (join (compound (a_record fs) ts) (compound (a_record hs) us)) ≡ true →
    same_texts fs hs && are_fields fs ts us ≡ true
records-agree fs hs ts us h j = go (same_texts fs hs) j
  where
    closed : (ts us : Tys) → are_fields fs ts ts ≡ true →
        is_some (if is_open (a_record fs) ts then Some us else (if is_open (a_record fs) us then Some ts else joins ts us)) ≡ true →
        is_some (joins ts us) ≡ true
    closed no_tys no_tys h k = refl
    closed no_tys (more_tys u us) h k = k
    closed (more_tys t ts) no_tys h k = k
    closed (more_tys t ts) (more_tys u us) h k = k

    go : (b : Bool) → is_some
        (if b then option_map (compound (a_record fs))
        (if is_open (a_record fs) ts then Some us else (if is_open (a_record fs) us then Some ts else joins ts us)) else None) ≡ true →
        b && are_fields fs ts us ≡ true
    go true k = record-fields fs ts us h (closed ts us h (mapped (compound (a_record fs)) _ k))
    go false k = no k

-- No type of another kind is included in one.
not-included : (k : Kind) → is_some (included (compound k no_tys)) ≡ false → (o : Option Tys) →
    is_some (and_then (option_map (compound k) o) included) ≡ true → false ≡ true
not-included k q None t = t
not-included a_tuple q (Some ts) t = t
not-included a_matrix q (Some ts) t = t
not-included a_function q (Some ts) t = t
not-included a_partition q (Some ts) t = t
not-included (a_record fs) q (Some ts) t = t
not-included a_set q (Some ts) t = cc
not-included a_mset q (Some ts) t = cc
not-included a_relation q (Some ts) t = cc

-- ---- two operands

module _ (g : Names Ty) (x : Text) (d : Dom) (a b : Ex) where
  -- An equation of compound values.
  equation : (o p : Option Ty) → type_of a g ≡ o → type_of b g ≡ p → is_parted o ≡ true → is_parted p ≡ true →
      is_some (and_then (all_some (o ∷ p ∷ [])) (type_of_op (binary Op2.Eq))) ≡ true → Fires g x d (ex2 true Op2.Eq a b)
  equation (Some (compound a_tuple ts)) (Some (compound a_tuple us)) q r h k t =
      by_components (ap (λ z. equal_where (components z) (components (type_of b g)) a b) q
      ∙ ap (λ z. equal_where (Some ts) (components z) a b) r)
  equation (Some (compound (a_record fs) ts)) (Some (compound (a_record hs) us)) q r h k t =
      by_fields (ap (λ z. equal_where_fields z (type_of b g) a b) q
      ∙ ap (λ z. equal_where_fields (Some (compound (a_record fs) ts)) z a b) r
      ∙ so (same_texts fs hs && are_fields fs ts us) _
      (records-agree fs hs ts us h (mapped _ (join (compound (a_record fs) ts) (compound (a_record hs) us)) t)))
  equation (Some (compound2 a_matrix i t)) (Some (compound2 a_matrix j u)) q r h k z =
      by_matrices (ap (λ o. both_matrices o (type_of b g) (λ t u. equal_each_at x d t u a b)) q
      ∙ ap (λ o. both_matrices (Some (compound2 a_matrix i t)) o (λ t u. equal_each_at x d t u a b)) r)
  equation (Some (compound a_set ts)) (Some (compound a_set us)) q r h k t = by_sets
      (so _ _ (ap (λ z. both_sets z (type_of b g)) q ∙ ap (both_sets (Some (compound a_set ts))) r))
  equation (Some (compound a_relation ts)) (Some (compound a_relation us)) q r h k t =
      by_sets (so _ _ (ap (λ z. both_sets z (type_of b g)) q ∙ ap (both_sets (Some (compound a_relation ts))) r))
  equation (Some (compound a_mset ts)) (Some (compound a_mset us)) q r h k t = by_msets
      (so _ _ (ap (λ z. both_msets z (type_of b g)) q ∙ ap (both_msets (Some (compound a_mset ts))) r))
  equation (Some (compound a_function ts)) (Some (compound a_function us)) q r h k t =
      by_functions (so _ _ (ap (λ z. both_functions z (type_of b g)) q ∙ ap (both_functions (Some (compound a_function ts))) r))
  equation (Some (compound a_partition ts)) (Some (compound a_partition us)) q r h k t =
      by_partitions (so _ _ (ap (λ z. both_partitions z (type_of b g)) q ∙ ap (both_partitions (Some (compound a_partition ts))) r))
  equation _ _ q r h k t = cc

  -- A strict inclusion.
  strict : (o p : Option Ty) → is_parted o ≡ true → is_parted p ≡ true →
      is_some (and_then (all_some (o ∷ p ∷ [])) (type_of_op (binary Op2.Subset))) ≡ true →
      both_sets o p || both_msets o p ≡ true
  strict (Some (compound a_set ts)) (Some (compound a_set us)) h k t = refl
  strict (Some (compound a_relation ts)) (Some (compound a_relation us)) h k t = refl
  strict (Some (compound a_mset ts)) (Some (compound a_mset us)) h k t = refl
  strict (Some (compound a_tuple ts)) (Some (compound a_tuple us)) h k t = no (not-included a_tuple refl _ t)
  strict (Some (compound (a_record fs) ts)) (Some (compound (a_record hs) us)) h k t = no (record-included (same_texts fs hs) t)
    where
      record-included : (b : Bool) →
          is_some (and_then (if b then option_map (compound (a_record fs))
          (if is_open (a_record fs) ts then Some us else (if is_open (a_record fs) us then Some ts else joins ts us)) else None) included)
          ≡ true →
          false ≡ true
      record-included true t = not-included (a_record fs) refl _ t
      record-included false t = t
  strict (Some (compound2 a_matrix i t)) (Some (compound2 a_matrix j u)) h k z = no
      (not-included a_matrix refl (joins (more_tys i (more_tys t no_tys)) (more_tys j (more_tys u no_tys))) z)
  strict (Some (compound a_function ts)) (Some (compound a_function us)) h k t = no (not-included a_function refl _ t)
  strict (Some (compound a_partition ts)) (Some (compound a_partition us)) h k t = no (not-included a_partition refl _ t)
  strict _ _ h k t = cc

  -- A sign that compares lists.
  lists : (o : Op2) → is_lex o && (not (is_laid_open a) || not (is_laid_open b)) ≡ true → Fires g x d (ex2 true o a b)
  lists o h = by_lists (so (is_lex o && (not (is_laid_open a) || not (is_laid_open b))) _ h)

  two : (o : Op2) → looks_into g o a b ≡ true → is_some (type_of (ex2 true o a b) g) ≡ true → Fires g x d (ex2 true o a b)
  two Op2.Eq h t = equation (type_of a g) (type_of b g) refl refl (and-left (is_parted (type_of a g)) _ h)
      (and-right (is_parted (type_of a g)) _ h) t
  two Op2.Ne h t = by_unequal refl
  two Op2.Subset h t = by_strictly
      (so _ _ (strict (type_of a g) (type_of b g) (and-left (is_parted (type_of a g)) _ h) (and-right (is_parted (type_of a g)) _ h) t))
  two Op2.SubsetEq h t = by_often refl
  two Op2.Supset h t = by_turned refl
  two Op2.SupsetEq h t = by_turned refl
  two Op2.Member h t = by_member refl
  two Op2.LexLt h t = lists Op2.LexLt h
  two Op2.LexLe h t = lists Op2.LexLe h
  two Op2.LexGt h t = lists Op2.LexGt h
  two Op2.LexGe h t = lists Op2.LexGe h
  two _ h t = no h

-- ---- one operand

-- What has a size and parts is counted.
counted : (o : Option Ty) → is_parted o ≡ true → is_some (and_then (all_some (o ∷ [])) (type_of_op (unary Op1.Bar))) ≡ true →
    is_counted o ≡ true
counted (Some (compound a_set ts)) h t = refl
counted (Some (compound a_mset ts)) h t = refl
counted (Some (compound a_function ts)) h t = refl
counted (Some (compound a_relation ts)) h t = refl
counted _ h t = cc

of-words : (g : Names Ty) (x : Text) (d : Dom) (m : Bool) (f : Fun) (l : Ex) →
    (is_fold f || is_of_list f) && not (is_laid_open l) ≡ true → Fires g x d (fun1 m f l)
of-words g x d m f l h = go (is_fold f) refl (and-left (is_fold f || is_of_list f) _ h) (is_laid_open l) refl
    (and-right (is_fold f || is_of_list f) _ h)
  where
    go : (s : Bool) → is_fold f ≡ s → s || is_of_list f ≡ true → (t : Bool) → is_laid_open l ≡ t → not t ≡ true → Fires g x d (fun1 m f l)
    go s q h true r k = no k
    go true q h false r k = by_fold (twice (is_fold f) (is_laid_open l) _ q r)
    go false q h false r k = by_list
        (so (is_of_list f && not (is_laid_open l)) _ (and-both (is_of_list f) (not (is_laid_open l)) h (ap not r)))

-- Some rule fires.
pub operators-have : OperatorsHaveRules
operators-have g x d (ex2 true o a b) h t = two g x d a b o h t
operators-have g x d (ex1 false Op1.Bar a) h t = by_size (so _ _ (counted (type_of a g) h t))
operators-have g x d (node_ex false (word Fun.Freq) (more_exs m (more_exs a no_exs))) h t = by_frequency refl
operators-have g x d (node_ex true (word Fun.Together) (more_exs s (more_exs p no_exs))) h t = by_together refl
operators-have g x d (fun1 m f l) h t = of-words g x d m f l h
operators-have g x d _ h t = no h

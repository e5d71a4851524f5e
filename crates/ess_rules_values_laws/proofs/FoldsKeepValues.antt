-- Rules on folds, on lists, and on components and fields of literals keep values.
use Rattle.std.proofs.Common.{◌≡◌, refl, subst, ℕ, zero, suc, Bool, true, false, ◌&&◌, ◌||◌, not, if◌then◌else◌, List, [], ◌∷◌, Some, None}
use Rattle.std.specs.Prelude.{IsTrue, is_some}
use Rattle.ess_semantics.specs.declared.words.Op2.{Op2}
use Rattle.ess_semantics.specs.declared.words.Fun.{Fun}
use Rattle.ess_semantics.specs.Values.{Text}
use Rattle.ess_semantics.specs.Order.{same_text}
use Rattle.ess_semantics.specs.Trees.{to_component, to_field, index, tuple_literal, record_literal, matrix_literal, name_pat, Ex, Exs, name_ex, node_ex, comp_ex, ex2, fun1, no_exs, more_exs, no_gens, from, cond}
use Rattle.ess_semantics.specs.Meaning.{Env, meaning}
use Rattle.ess_guard_laws.specs.Supplied.{Unless}
use Rattle.ess_rules_laws.specs.FoldRules.{is_fold, is_laid_open, fold_alone, fold_nothing, fold_one, fold_bare, fold_term}
use Rattle.ess_rules_laws.specs.LiteralRules.{nth, component_listed}
use Rattle.ess_rules_laws.specs.FieldLiterals.{field_term, field_listed}
use Rattle.ess_rules_laws.specs.ListRules.{members_list, is_of_list, is_lex, list_term, as_members, lex_both}
use Rattle.ess_values_along_laws.specs.Valued.{Valued, AllValued}
use Rattle.ess_rules_values_laws.proofs.ValuedForms.{and-no, anywhere, comp-valued, name-valued, Kept, when, under}

module _ (env : Env) where
  -- ---- folds

  -- A fold over nothing.
  pub nothing : (w : Bool) (e : Ex) → Valued w e env → Kept env w e (fold_nothing e)
  nothing w (fun1 true Fun.And (node_ex false matrix_literal no_exs)) h = λ q. tt
  nothing w (fun1 true Fun.Or (node_ex false matrix_literal no_exs)) h = λ q. tt
  nothing w (fun1 false Fun.Sum (node_ex false matrix_literal no_exs)) h = λ q. tt
  nothing w (fun1 false Fun.Product (node_ex false matrix_literal no_exs)) h = λ q. tt
  nothing w _ h = tt

  and-twice : (w : Bool) → (w && false) && false ≡ false
  and-twice w = and-no (w && false)

  -- A fold over one item.
  pub one-item : (w : Bool) (e : Ex) → Valued w e env → Kept env w e (fold_one e)
  one-item w (fun1 true Fun.And (node_ex false matrix_literal (more_exs a no_exs))) h = λ q. anywhere false w a env refl h.1.0.1.0
  one-item w (fun1 true Fun.Or (node_ex false matrix_literal (more_exs a no_exs))) h = λ q. anywhere false w a env refl h.1.0.1.0
  one-item w (fun1 false Fun.Sum (node_ex false matrix_literal (more_exs a no_exs))) h =
      λ q. anywhere ((w && false) && false) w a env (and-twice w) h.1.0.1.0
  one-item w (fun1 false Fun.Product (node_ex false matrix_literal (more_exs a no_exs))) h =
      λ q. anywhere ((w && false) && false) w a env (and-twice w) h.1.0.1.0
  one-item w _ h = tt

  -- A fold over one item that binds nothing.
  pub bare : (w : Bool) (e : Ex) → Valued w e env → Kept env w e (fold_bare e)
  bare w (fun1 true Fun.And (comp_ex e no_gens)) h = λ q. anywhere false w e env refl h.1.0.1
  bare w (fun1 true Fun.Or (comp_ex e no_gens)) h = λ q. anywhere false w e env refl h.1.0.1
  bare w (fun1 false Fun.Sum (comp_ex e no_gens)) h = λ q. anywhere false w e env refl h.1.0.1
  bare w (fun1 false Fun.Product (comp_ex e no_gens)) h = λ q. anywhere false w e env refl h.1.0.1
  bare w _ h = tt

  -- A fold over a condition alone.
  pub alone : (w : Bool) (e : Ex) → Valued w e env → Kept env w e (fold_alone e)
  alone w (fun1 true Fun.And (comp_ex e (cond c no_gens))) h = λ q. (tt, (h.1.0.1.0, λ t. (h.1.0.1.1 t, tt)))
  alone w (fun1 true Fun.Or (comp_ex e (cond c no_gens))) h = λ q. (tt, (h.1.0.1.0, λ t. (h.1.0.1.1 t, tt)))
  alone w _ h = tt

  -- A word on a term becomes one on a comprehension over it.
  word-valued : (b : Bool) (f : Fun) (w : Bool) (x : Text) (l : Ex) → Valued w (fun1 b f l) env →
      meaning (fun1 b f l) env ≡ meaning (fun1 b f (members_list x l)) env → Valued w (fun1 b f (members_list x l)) env
  word-valued true f w x l h q = (tt, (comp-valued env x l (name_ex x) false h.1.0 (λ v. name-valued env x v false), tt))
  word-valued false f w x l h q = (
    subst (λ z. Unless (w && false) (IsTrue (is_some z))) q h.0,
    (comp-valued env x l (name_ex x) (w && false) (subst (λ z. Valued z l env) (and-no w) h.1.0) (λ v. name-valued env x v false), tt),
  )

  -- A fold over a term.
  pub over-term : (w : Bool) (x : Text) (e : Ex) → Valued w e env → Kept env w e (fold_term x e)
  over-term w x (fun1 b f l) h = under env w (is_fold f) (fun1 b f l) _ (go (is_laid_open l))
    where
      go : (c : Bool) → Kept env w (fun1 b f l) (if c then None else Some (fun1 b f (comp_ex (name_ex x) (from (name_pat x) l no_gens))))
      go true = tt
      go false = λ q. word-valued b f w x l h q
  over-term w x _ h = tt

  -- A list of a term.
  pub list-of-term : (w : Bool) (x : Text) (e : Ex) → Valued w e env → Kept env w e (list_term x e)
  list-of-term w x (fun1 b f l) h = go (is_of_list f && not (is_laid_open l))
    where
      go : (c : Bool) → Kept env w (fun1 b f l) (if c then Some (fun1 b f (members_list x l)) else None)
      go true = λ q. word-valued b f w x l h q
      go false = tt
  list-of-term w x _ h = tt

  members-valued : (x : Text) (l : Ex) → Valued false l env → Valued false (as_members x l) env
  members-valued x l h = go (is_laid_open l)
    where
      go : (c : Bool) → Valued false (if c then l else members_list x l) env
      go true = h
      go false = comp-valued env x l (name_ex x) false h (λ v. name-valued env x v false)

  -- Lists on both sides.
  pub both-lists : (w : Bool) (x : Text) (e : Ex) → Valued w e env → Kept env w e (lex_both x e)
  both-lists w x (ex2 true o a b) h = go o h
    where
      go : (o : Op2) → Valued w (ex2 true o a b) env → Kept env w (ex2 true o a b)
          (if is_lex o && (not (is_laid_open a) || not (is_laid_open b)) then Some (ex2 true o (as_members x a) (as_members x b)) else None)
      go Op2.LexLt h = when env w (not (is_laid_open a) || not (is_laid_open b)) (ex2 true Op2.LexLt a b) _
          (tt, (members-valued x a h.1.0, (members-valued x b h.1.1.0, tt)))
      go Op2.LexLe h = when env w (not (is_laid_open a) || not (is_laid_open b)) (ex2 true Op2.LexLe a b) _
          (tt, (members-valued x a h.1.0, (members-valued x b h.1.1.0, tt)))
      go Op2.LexGt h = when env w (not (is_laid_open a) || not (is_laid_open b)) (ex2 true Op2.LexGt a b) _
          (tt, (members-valued x a h.1.0, (members-valued x b h.1.1.0, tt)))
      go Op2.LexGe h = when env w (not (is_laid_open a) || not (is_laid_open b)) (ex2 true Op2.LexGe a b) _
          (tt, (members-valued x a h.1.0, (members-valued x b h.1.1.0, tt)))
      go _ h = tt
  both-lists w x _ h = tt

  -- ---- components and fields

  nth-valued : (es : Exs) (k : ℕ) (z w : Bool) (e : Ex) → z ≡ false → AllValued false z es env → Kept env w e (nth es k)
  nth-valued no_exs k z w e q h = tt
  nth-valued (more_exs a es) zero z w e q h = tt
  nth-valued (more_exs a es) (suc zero) z w e q h = λ r. anywhere z w a env q h.0
  nth-valued (more_exs a es) (suc (suc k)) z w e q h = nth-valued es (suc k) z w e q h.1

  -- A component of a tuple.
  pub component : (w : Bool) (e : Ex) → Valued w e env → Kept env w e (component_listed e)
  component w (node_ex true (index (to_component k ∷ [])) (more_exs (node_ex false tuple_literal es) no_exs)) h =
      nth-valued es k false w (node_ex true (index (to_component k ∷ [])) (more_exs (node_ex false tuple_literal es) no_exs)) refl h.1.0.1
  component w (node_ex false (index (to_component k ∷ [])) (more_exs (node_ex false tuple_literal es) no_exs)) h =
      nth-valued es k ((w && false) && false) w
      (node_ex false (index (to_component k ∷ [])) (more_exs (node_ex false tuple_literal es) no_exs)) (and-twice w) h.1.0.1
  component w _ h = tt

  field-valued : (fs : List Text) (es : Exs) (a : Text) (z w : Bool) (e : Ex) → z ≡ false → AllValued false z es env →
      Kept env w e (field_term fs es a)
  field-valued [] es a z w e q h = tt
  field-valued (f ∷ fs) no_exs a z w e q h = tt
  field-valued (f ∷ fs) (more_exs x es) a z w e q h = go (same_text f a) (field-valued fs es a z w e q h.1)
    where
      go : (b : Bool) → Kept env w e (field_term fs es a) → Kept env w e (if b then Some x else field_term fs es a)
      go true k = λ r. anywhere z w x env q h.0
      go false k = k

  -- A field of a record.
  pub field : (w : Bool) (e : Ex) → Valued w e env → Kept env w e (field_listed e)
  field w (node_ex true (index (to_field a ∷ [])) (more_exs (node_ex false (record_literal fs) es) no_exs)) h =
      field-valued fs es a false w (node_ex true (index (to_field a ∷ [])) (more_exs (node_ex false
      (record_literal fs) es) no_exs)) refl h.1.0.1
  field w (node_ex false (index (to_field a ∷ [])) (more_exs (node_ex false (record_literal fs) es) no_exs)) h =
      field-valued fs es a ((w && false) && false) w
      (node_ex false (index (to_field a ∷ [])) (more_exs (node_ex false (record_literal fs) es) no_exs)) (and-twice w) h.1.0.1
  field w _ h = tt

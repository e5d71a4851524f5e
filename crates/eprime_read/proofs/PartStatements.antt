-- Parts of models by their statements.
use Rattle.std.proofs.Common.{◌≡◌, refl, sym, ap, ◌∙◌, subst, true, List, [], ◌∷◌, map, Option, Some, None, IsTrue}
use Rattle.std.specs.Option.{option_map}
use Rattle.ess_semantics.specs.Values.{Text}
use Rattle.ess_semantics.specs.Lists.{and_then, each_of}
use Rattle.ess_semantics.specs.Trees as pure
use Rattle.ess_semantics.specs.Trees.{Stm, given, given_enum, let_ex, let_dom, let_enum, let_unnamed, needs, find, such_that, minimise, maximise}
use Rattle.ess_semantics.specs.ModelTrees.{Model, least, greatest}
use Rattle.ess_grammar.specs.Words.{given_word, find_word, minimising_word, maximising_word}
use Rattle.ess_grammar.specs.Models.{Scope}
use Rattle.ess_grammar.specs.Readable.{is_name_token, ReadableEx, ReadableDom, ReadableStm, ReadableStms}
use Rattle.ess_core.specs.declared.statements.Stm as core
use Rattle.ess_core.specs.StatementViews.{pure_stm}
use Rattle.eprime_read_laws.specs.ModelMachine.{more_given, more_find, with_objective, readable, constraint_before, constraints_of, with_part}
use Rattle.eprime_read_convert.specs.Converted.{model_ex}
use Rattle.eprime_read.specs.Statements.{only, given_in, find_in, least_in, greatest_in, constraint_in, model_rules}

-- ---- one statement alone

only-map : (ss : List core.Stm) → only (map pure_stm ss) ≡ option_map pure_stm (only ss)
only-map [] = refl
only-map (s ∷ []) = refl
only-map (s ∷ t ∷ ss) = refl

given-only : (m : Model) (ss : List Stm) → with_part given_word m ss ≡ and_then (and_then (only ss) given_in) (λ p. readable (more_given m p.0 p.1))
given-only m [] = refl
given-only m (given a d ∷ []) = refl
given-only m (s ∷ []) = refl
given-only m (given a d ∷ t ∷ ss) = refl
given-only m (s ∷ t ∷ ss) = refl

find-only : (m : Model) (ss : List Stm) → with_part find_word m ss ≡ and_then (and_then (only ss) find_in) (λ p. readable (more_find m p.0 p.1))
find-only m [] = refl
find-only m (find a d ∷ []) = refl
find-only m (s ∷ []) = refl
find-only m (find a d ∷ t ∷ ss) = refl
find-only m (s ∷ t ∷ ss) = refl

least-only : (m : Model) (ss : List Stm) → with_part minimising_word m ss ≡ and_then (and_then (only ss) least_in) (λ e. readable (with_objective m (least e)))
least-only m [] = refl
least-only m (minimise e ∷ []) = refl
least-only m (s ∷ []) = refl
least-only m (minimise e ∷ t ∷ ss) = refl
least-only m (s ∷ t ∷ ss) = refl

greatest-only : (m : Model) (ss : List Stm) → with_part maximising_word m ss ≡ and_then (and_then (only ss) greatest_in) (λ e. readable (with_objective m (greatest e)))
greatest-only m [] = refl
greatest-only m (maximise e ∷ []) = refl
greatest-only m (s ∷ []) = refl
greatest-only m (maximise e ∷ t ∷ ss) = refl
greatest-only m (s ∷ t ∷ ss) = refl

-- The parts by the statement that is alone.
pub given_by : (m : Model) (ss : List core.Stm) → with_part given_word m (map pure_stm ss) ≡ and_then (and_then (option_map pure_stm (only ss)) given_in) (λ p. readable (more_given m p.0 p.1))
given_by m ss = given-only m (map pure_stm ss) ∙ ap (λ o. and_then (and_then o given_in) (λ p. readable (more_given m p.0 p.1))) (only-map ss)

pub find_by : (m : Model) (ss : List core.Stm) → with_part find_word m (map pure_stm ss) ≡ and_then (and_then (option_map pure_stm (only ss)) find_in) (λ p. readable (more_find m p.0 p.1))
find_by m ss = find-only m (map pure_stm ss) ∙ ap (λ o. and_then (and_then o find_in) (λ p. readable (more_find m p.0 p.1))) (only-map ss)

pub least_by : (m : Model) (ss : List core.Stm) → with_part minimising_word m (map pure_stm ss) ≡ and_then (and_then (option_map pure_stm (only ss)) least_in) (λ e. readable (with_objective m (least e)))
least_by m ss = least-only m (map pure_stm ss) ∙ ap (λ o. and_then (and_then o least_in) (λ e. readable (with_objective m (least e)))) (only-map ss)

pub greatest_by : (m : Model) (ss : List core.Stm) → with_part maximising_word m (map pure_stm ss) ≡ and_then (and_then (option_map pure_stm (only ss)) greatest_in) (λ e. readable (with_objective m (greatest e)))
greatest_by m ss = greatest-only m (map pure_stm ss) ∙ ap (λ o. and_then (and_then o greatest_in) (λ e. readable (with_objective m (greatest e)))) (only-map ss)

-- ---- what is readable

pub only_readable : (ss : List core.Stm) (s : core.Stm) → ReadableStms (map pure_stm ss) → only ss ≡ Some s → ReadableStm (pure_stm s)
only_readable [] s r h = cc
only_readable (t ∷ []) s r h = let e : t ≡ s = cc in subst (λ q. ReadableStm (pure_stm q)) e r.0
only_readable (t ∷ u ∷ ss) s r h = cc

-- A name and a domain of the grammar.
abbrev pub ReadableNamed : Text × pure.Dom → Type 0
ReadableNamed p = IsTrue (is_name_token p.0) × ReadableDom p.1

same-some : {A : Type 0} (P : A → Type 0) (x y : A) → P x → Some x ≡ Some y → P y
same-some P x y h k = let e : x ≡ y = cc in subst P e h

pub given_readable : (s : Stm) (p : Text × pure.Dom) → ReadableStm s → given_in s ≡ Some p → ReadableNamed p
given_readable (given a d) p r h = same-some ReadableNamed (a, d) p r h
given_readable _ p r h = cc

pub find_readable : (s : Stm) (p : Text × pure.Dom) → ReadableStm s → find_in s ≡ Some p → ReadableNamed p
find_readable (find a d) p r h = same-some ReadableNamed (a, d) p r h
find_readable _ p r h = cc

pub least_readable : (s : Stm) (e : pure.Ex) → ReadableStm s → least_in s ≡ Some e → ReadableEx e
least_readable (minimise f) e r h = same-some ReadableEx f e r h
least_readable _ e r h = cc

pub greatest_readable : (s : Stm) (e : pure.Ex) → ReadableStm s → greatest_in s ≡ Some e → ReadableEx e
greatest_readable (maximise f) e r h = same-some ReadableEx f e r h
greatest_readable _ e r h = cc

pub constraint_readable : (s : Stm) (e : pure.Ex) → ReadableStm s → constraint_in s ≡ Some e → ReadableEx e
constraint_readable (such_that f) e r h = same-some ReadableEx f e r h
constraint_readable _ e r h = cc

-- ---- constraints one by one

none-then : {A B : Type 0} (o : Option A) (f : A → Option B) → ((x : A) → f x ≡ None) → and_then o f ≡ None
none-then None f h = refl
none-then (Some x) f h = h x

-- A constraint that is converted, before others.
abbrev rule_before : Scope → Option pure.Ex → Option (List pure.Ex) → Option (List pure.Ex)
rule_before s q o = and_then (and_then q (model_ex s true [])) (λ x. option_map (λ xs. x ∷ xs) o)

first-rule : (s : Scope) (e : pure.Ex) (o : Option (List pure.Ex)) → and_then (constraint_before e o) (λ es. each_of es (model_ex s true [])) ≡ rule_before s (Some e) (and_then o (λ es. each_of es (model_ex s true [])))
first-rule s e None = sym (none-then (model_ex s true [] e) (λ x. option_map (λ xs. x ∷ xs) None) (λ x. refl))
first-rule s e (Some es) = refl

-- Each statement by itself, and all together.
pub rules_by : (s : Scope) (ss : List Stm) → and_then (constraints_of ss) (λ es. each_of es (model_ex s true [])) ≡ model_rules s ss
rules_by s [] = refl
rules_by s (such_that e ∷ ss) = first-rule s e (constraints_of ss) ∙ ap (rule_before s (Some e)) (rules_by s ss)
rules_by s (_ ∷ ss) = refl

-- Laws of tasks: what the words ask for, and how often files are read for it.
use Rattle.std.proofs.Common.{◌≡◌, refl, sym, ap, ◌∙◌, subst, ℕ, zero, suc, ◌≤◌, inl, inr, List, [], ◌∷◌, ◌++◌, arith, Bool, true, false, not, if◌then◌else◌, ◌&&◌, Option, Some, None, option_map}
use Rattle.std.specs.Prelude.{codes, option_and_then, bytes_eq, nat_eq, is_none}
use Rattle.ess_io.specs.Counts.{raised}
use Rattle.conjure_cli_words.specs.Items.{plain, item, operand, look_of, items_of_word, items_from}
use Rattle.conjure_cli_words.specs.Forms.{fitting, read_as}
use Rattle.conjure_cli_words.specs.Commands.{modelling_form, modelling_of}
use Rattle.conjure_cli.specs.Ending.{model_file}
use Rattle.conjure_cli.specs.Tasks.{begins_with_dash, file_named, takes_memory, Task, refine, judge, translate, test, task_of, asked, reads_more, ReadsUpTo, ReadsAfter}

-- ---- what the words ask for

chosen : {A : Type 0} (b : Bool) (x y : A) → b ≡ true → (if b then x else y) ≡ x
chosen true x y is = refl
chosen false x y is = let h : false ≡ true = is in cc

looks_plain : (word : List ℕ) → begins_with_dash word ≡ false → look_of word ≡ plain
looks_plain [] is = refl
looks_plain (x ∷ xs) is = cases (nat_eq x 45) refl is
  where
    cases : (b : Bool) → nat_eq x 45 ≡ b → b ≡ false → look_of (x ∷ xs) ≡ plain
    cases true at is = let h : true ≡ false = is in cc
    cases false at is = rw at refl

-- one plain word is read as the operand of `modelling`
one_operand : (word : List ℕ) → look_of word ≡ plain → read_as modelling_form (word ∷ []) ≡ Some (operand word ∷ [])
one_operand word look =
    ap (λ l. option_and_then (fitting modelling_form) (items_of_word (modelling_form.optional ++ modelling_form.required) item l word []
    (items_from (modelling_form.optional ++ modelling_form.required) []))) look

-- the words `modelling FILE` ask for a model in the folder that isn't given
pub named_is_asked : (words : List (List ℕ)) (file : List ℕ) → file_named words ≡ Some file
    → asked words ≡ Some (refine file model_file None)
named_is_asked [] file is = let h : None ≡ Some file = is in cc
named_is_asked (command ∷ []) file is = let h : None ≡ Some file = is in cc
named_is_asked (command ∷ name ∷ []) file is = cases (bytes_eq command (codes "modelling")) (begins_with_dash name) refl refl is
  where
    cases : (b c : Bool) → bytes_eq command (codes "modelling") ≡ b → begins_with_dash name ≡ c
        → (if b && not c then Some name else None) ≡ Some file
        → asked (command ∷ name ∷ []) ≡ Some (refine file model_file None)
    cases false c at dash is = let h : None ≡ Some file = is in cc
    cases true true at dash is = let h : None ≡ Some file = is in cc
    cases true false at dash is =
        ap (option_map task_of) (chosen (bytes_eq command (codes "modelling")) (option_map modelling_of (read_as modelling_form (name ∷ []))) _ at)
        ∙ ap (λ items. option_map task_of (option_map modelling_of items)) (one_operand name (looks_plain name dash))
        ∙ ap (option_map (λ f. refine f model_file None)) is
named_is_asked (command ∷ name ∷ more ∷ words) file is = let h : None ≡ Some file = is in cc

-- the words aren't `modelling FILE`
pub takes_else : (words : List (List ℕ)) → file_named words ≡ None → takes_memory words ≡ true
takes_else words is = ap is_none is

-- ---- the reads

pub reads_over : (task : Option Task) (takes : Bool) (list : Option (List ℕ)) (file place : List ℕ) (status before after : ℕ)
    → task ≡ Some (refine file place list)
    → after ≡ raised before → ReadsAfter task takes status before after
reads_over task takes list file place status before after is once = subst (λ t. ReadsAfter t takes status before after) (sym is)
    (cases takes)
  where
    cases : (takes : Bool) → ReadsAfter (Some (refine file place list)) takes status before after
    cases false = once
    cases true = inl once

pub reads_test : (task : Option Task) (n status before : ℕ) → task ≡ Some (test n) → ReadsAfter task true status before before
reads_test task n status before is = subst (λ t. ReadsAfter t true status before before) (sym is) refl

pub reads_usage : (task : Option Task) (status before : ℕ) → task ≡ None → ReadsAfter task true status before before
reads_usage task status before is = subst (λ t. ReadsAfter t true status before before) (sym is) refl

pub reads_memory : (task : Option Task) (before : ℕ) → ReadsAfter task true 6 before before
reads_memory None before = refl
reads_memory (Some (test n)) before = refl
reads_memory (Some (judge e p s)) before = (0, omega arith, refl)
reads_memory (Some (translate m p c place)) before = (0, omega arith, refl)
reads_memory (Some (refine file place list)) before = inr (refl, refl)

-- the reads of the words `modelling FILE`
pub reads_named : (words : List (List ℕ)) (file : List ℕ) (status before after : ℕ) → file_named words ≡ Some file → after ≡ raised before
    → ReadsAfter (asked words) (takes_memory words) status before after
reads_named words file status before after is once =
    reads_over (asked words) (takes_memory words) None file model_file status before after (named_is_asked words file is) once

-- the reads of the files that are judged
pub reads_one : (before one : ℕ) → one ≡ raised before → (k : ℕ) × (k ≤ 3) × (one ≡ reads_more k before)
reads_one before one is = (1, omega arith, is)

pub reads_two : (before one two : ℕ) → one ≡ raised before → two ≡ raised one → (k : ℕ) × (k ≤ 3) × (two ≡ reads_more k before)
reads_two before one two is more = (2, omega arith, more ∙ ap raised is)

pub reads_three : (before one two three : ℕ) → one ≡ raised before → two ≡ raised one → three ≡ raised two
    → (k : ℕ) × (k ≤ 3) × (three ≡ reads_more k before)
reads_three before one two three is more last = (3, omega arith, last ∙ ap raised (more ∙ ap raised is))

-- the reads of the files that are translated
pub one_read : (n before one : ℕ) → one ≡ raised before → ReadsUpTo (suc n) before one
one_read n before one is = (1, omega arith, is)

pub more_reads : (n before one two : ℕ) → one ≡ raised before → ReadsUpTo n one two → ReadsUpTo (suc n) before two
more_reads n before one two is h = (suc h.0, omega (arith, h.1), h.2 ∙ ap (reads_more h.0) is ∙ behind h.0)
  where
    behind : (k : ℕ) → reads_more k (raised before) ≡ raised (reads_more k before)
    behind zero = refl
    behind (suc k) = ap raised (behind k)

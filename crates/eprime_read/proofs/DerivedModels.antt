-- What a run over a text tells of the models that the rules derive for it.
use Rattle.std.proofs.Common.{◌≡◌, refl, sym, ap, ◌∙◌, subst, None, Ok, Err}
use Rattle.std.specs.declared.result.Result.{Result}
use Rattle.ess_semantics.specs.Values.{Text}
use Rattle.ess_semantics.specs.ModelTrees.{Model}
use Rattle.ess_grammar.specs.Tokens.{lexed, first_outside}
use Rattle.ess_grammar.specs.Places.{end_place}
use Rattle.ess_grammar.specs.Texts.{Reads}
use Rattle.ess_grammar.specs.ModelTexts.{IsModel}
use Rattle.ess_lex.specs.Lexing.{refusal}
use Rattle.ess_parse.specs.declared.refusal.ReadNo.{ReadNo}
use Rattle.ess_parse.specs.Refusals.{refused_first}
use Rattle.ess_parse.specs.Runs.{IsAnswer, IsReading, run_over, unless_refused}
use Rattle.ess_parse.proofs.Runs.{tree_of, all_tokens, all-these, these-all, ok-tree, tree-ok}
use Rattle.eprime_read_laws.specs.ModelMachine.{at_begin, model_step, model_finish}
use Rattle.eprime_tree.specs.Views.{pure_model}
use Rattle.eprime_tree.specs.declared.models.PModel.{PModel}
use Rattle.eprime_read.specs.Derived.{IsModelText, IsNoModelText}
use Rattle.eprime_read.proofs.ModelLaws.{model_laws}

-- What the run over the text answers.
abbrev run_answer : Text → Result Model ReadNo
run_answer text = run_over model_step model_finish (end_place text) (lexed text) at_begin

-- The run is the answer to a text that isn't refused first.
pub run_alone : (text : Text) (r : Result PModel ReadNo) → refused_first text ≡ None → IsAnswer pure_model (run_answer text) r
    → IsReading model_step model_finish at_begin pure_model text r
run_alone text r e h = subst (λ o. IsAnswer pure_model (unless_refused o (run_answer text)) r) (sym e) h

-- The run over a text for which a model is derived.
run-ok : (text : Text) (m : Model) → Reads text (IsModel m) → run_answer text ≡ Ok m
run-ok text m d =
    let x = these-all (lexed text) d.0 d.1 in
    tree-ok model_step model_finish (end_place text) (lexed text) at_begin m x.unrefused
    (ap (λ ts. tree_of model_step model_finish ts at_begin) x.these ∙ model_laws.reads d.0 m d.2)

one-answer : (x : Result Model ReadNo) (m n : Model) → x ≡ Ok m → x ≡ Ok n → n ≡ m
one-answer x m n h k = let e : Ok m ≡ Ok n = sym h ∙ k in cc

-- A model that is answered is derived, and no other one.
pub is_derived : (text : Text) (m : PModel) → refusal (lexed text) ≡ None → first_outside (lexed text) ≡ None
    → IsAnswer {T = PModel} pure_model (run_answer text) (Ok m) → IsModelText text (pure_model m)
is_derived text m u i h = record {
  reads = (
    all_tokens (lexed text),
    all-these (lexed text) u,
    model_laws.derives (all_tokens (lexed text)) (pure_model m)
        (ok-tree model_step model_finish (end_place text) (lexed text) at_begin (pure_model m) u h),
  );
  inside = i;
  only = λ n d. one-answer (run_answer text) (pure_model m) n h (run-ok text n d);
}

no-answer : (x : Result Model ReadNo) (m : Model) (why : ReadNo) → x ≡ Ok m → x ≡ Err why → ⊥
no-answer x m why h k = let e : Ok m ≡ Err why = sym h ∙ k in cc

-- Where the run is refused, none is, but for want of memory.
pub not_derived : (text : Text) (why : ReadNo) → (why ≡ ReadNo.NoMemory → ⊥)
    → IsAnswer {T = PModel} pure_model (run_answer text) (Err why) → IsNoModelText text
not_derived text ReadNo.NoMemory n h = absurd (n refl)
not_derived text (ReadNo.BadByte p) n h = λ i m d. no-answer (run_answer text) m (ReadNo.BadByte p) (run-ok text m d) h
not_derived text (ReadNo.WideNumber p) n h = λ i m d. no-answer (run_answer text) m (ReadNo.WideNumber p) (run-ok text m d) h
not_derived text (ReadNo.Unsupported p) n h = λ i m d. no-answer (run_answer text) m (ReadNo.Unsupported p) (run-ok text m d) h
not_derived text (ReadNo.TooDeep p) n h = λ i m d. no-answer (run_answer text) m (ReadNo.TooDeep p) (run-ok text m d) h
not_derived text (ReadNo.Syntax p) n h = λ i m d. no-answer (run_answer text) m (ReadNo.Syntax p) (run-ok text m d) h

-- Where the lexer refuses the text, or a word stands outside the subset, it is no model.
pub refused_text : (text : Text) → (refusal (lexed text) ≡ None → first_outside (lexed text) ≡ None → ⊥) → IsNoModelText text
refused_text text n i m d = n (these-all (lexed text) d.0 d.1).unrefused i

-- The laws of the machine of models, as readers want them.
use Rattle.std.proofs.Common.{◌≡◌, refl, sym, ap, ◌∙◌, List, [], ◌∷◌, ◌++◌, Option, Some, None, Ok, Err, IsTrue, IfOk}
use Rattle.std.specs.List.{list_all}
use Rattle.std.specs.declared.result.Result.{Result}
use Rattle.ess_semantics.specs.Values.{Text}
use Rattle.ess_semantics.specs.ModelTrees.{Model}
use Rattle.ess_grammar.specs.Words.{Token, word}
use Rattle.ess_grammar.specs.ModelTexts.{IsModel, header_lines}
use Rattle.ess_grammar.specs.Models.{is_readable_model}
use Rattle.eprime_tree.specs.ModelText.{is_head_line}
use Rattle.eprime_tree.specs.declared.models.PModel.{PModel}
use Rattle.eprime_tree.proofs.HeadLines.{header-head}
use Rattle.ess_parse.specs.declared.refusal.ReadNo.{ReadNo}
use Rattle.ess_parse.specs.Readers.{IsDerived, IsReadable}
use Rattle.ess_parse.proofs.Runs.{from_state, state_behind, tree_of, IsMachineFor}
use Rattle.eprime_read_laws.specs.ModelMachine.{Stage, at_begin, model_step, model_finish, then_model, model_run, then_stage, stage_after}
use Rattle.eprime_read_laws.proofs.Complete.{complete-model}
use Rattle.eprime_read_laws.proofs.Tails.{sound-model}
use Rattle.eprime_read_laws.proofs.Stops.{no-model, whole-model}

then-tree : (o : Option Stage) (j k : Stage → Option Model) → ((s : Stage) → j s ≡ k s) → from_state j o ≡ then_model o k
then-tree None j k f = refl
then-tree (Some s) j k f = f s

tree-same : (ts : List Token) (s : Stage) → tree_of model_step model_finish ts s ≡ model_run ts s
tree-same [] s = refl
tree-same (t ∷ ts) s = then-tree (model_step t s) (tree_of model_step model_finish ts) (model_run ts) (tree-same ts)

then-behind : (o : Option Stage) (j k : Stage → Option Stage) → ((s : Stage) → j s ≡ k s) → from_state j o ≡ then_stage o k
then-behind None j k f = refl
then-behind (Some s) j k f = f s

behind-same : (ts : List Token) (s : Stage) → state_behind model_step ts s ≡ stage_after ts s
behind-same [] s = refl
behind-same (t ∷ ts) s = then-behind (model_step t s) (state_behind model_step ts) (stage_after ts) (behind-same ts)

-- The laws.
pub model_laws : IsMachineFor model_step model_finish at_begin IsModel
model_laws = record {
  derives = λ ts m h. sound-model ts m (sym (tree-same ts at_begin) ∙ h);
  reads = λ ts m d. tree-same ts at_begin ∙ complete-model ts m d;
  stops = λ ts us m h d. no-model ts us m (sym (behind-same ts at_begin) ∙ h) d;
  whole = λ ts us w s b h. whole-model ts us w s b (sym (behind-same (ts ++ word w ∷ us) at_begin) ∙ h);
}

-- A model that is answered is readable.
pub models_readable : {T : Type 0} (view : T → Model) (text : Text) (r : Result T ReadNo) → IsDerived IsModel view text r → IsReadable (λ m. IsTrue (is_readable_model m)) view r
models_readable view text (Ok t) d = (d.2).readable
models_readable view text (Err why) d = tt

-- The lines of a header that is answered are lines that a header may have.
pub lines_are : (text : Text) (r : Result PModel ReadNo) → IfOk r (λ m. m.head ≡ header_lines text) → IfOk r (λ m. IsTrue (list_all is_head_line m.head))
lines_are text (Ok m) h = ap (list_all is_head_line) h ∙ header-head text
lines_are text (Err why) h = tt

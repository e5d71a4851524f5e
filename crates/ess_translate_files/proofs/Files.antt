-- What is known of a model's file when its header and its model are read.
use Rattle.std.proofs.Common.{◌≡◌, refl, sym, ap, ◌∙◌, subst, true, List, inl, inr}
use Rattle.std.specs.Prelude.{Ok, Err, IfOk, IfErr, IsTrue}
use Rattle.std.specs.declared.result.Result.{Result}
use Rattle.ess_semantics.specs.Values.{Text}
use Rattle.ess_semantics.specs.ModelTrees as pure
use Rattle.ess_grammar.specs.ModelTexts.{IsModel}
use Rattle.ess_grammar.specs.Models.{is_readable_model}
use Rattle.ess_parse.specs.declared.refusal.ReadNo.{ReadNo}
use Rattle.ess_parse.specs.Readers.{IsReadable}
use Rattle.eprime_tree.specs.declared.models.PModel.{PModel}
use Rattle.eprime_tree.specs.Views.{pure_model}
use Rattle.ess_translate_header_laws.specs.Headers.{HasHeader}
use Rattle.ess_translate_header.specs.declared.headers.Header.{Header}
use Rattle.ess_translate_header.specs.Views.{pure_header}
use Rattle.ess_translate_plans.specs.Views.{IsReadHeader}
use Rattle.ess_translate_given_laws.specs.Ready.{Ready}
use Rattle.ess_translate_ready_laws.proofs.ReadyHeaders.{headers-are-ready}
use Rattle.ess_translate_tables_laws.specs.HeaderTables.{DeclaresTables}
use Rattle.ess_translate.specs.declared.refusal.Which.{Which}
use Rattle.ess_translate.specs.declared.refusal.TransNo.{TransNo}
use Rattle.ess_translate.specs.Texts.{Spells, IsRefusedFor, IsReadAs}
use Rattle.ess_translate.specs.Refusals.{read_no}
use Rattle.ess_translate_files.specs.ModelFiles.{IsModelFile, IsNoModelFile}
use Rattle.ess_translate_files.specs.Refusals.{is_bad_or_memory}
use Rattle.ess_translate_files.specs.Wholes.{file_header, file_model, IsWhole}
use Rattle.ess_translate_files.specs.declared.models.ModelFile.{ModelFile}

-- A model that is read is a readable tree.
pub readable-answer : (r : Result PModel ReadNo) → IsReadable (λ m. IsTrue (is_readable_model m)) pure_model r →
    IfOk r (λ m. is_readable_model (pure_model m) ≡ true)
readable-answer (Ok m) h = h
readable-answer (Err why) h = tt

-- The header with which a text begins is ready for parameters.
pub header_ready : (text : Text) (h : Header) → HasHeader text (pure_header h) → Ready (pure_header h).statements
header_ready text h H = headers-are-ready text (pure_header h) H

-- The file of a header and a model behind it.
pub file_read : (text : Text) (h : Header) (m : PModel) (f : ModelFile) → HasHeader text (pure_header h) →
    Spells IsModel text (pure_model m) → f.header ≡ h → f.model ≡ m → IsWhole f → IsModelFile text (file_header f) (file_model f)
file_read text h m f H s a b w = record {
  header = subst (λ g. HasHeader text (pure_header g)) (sym a) H;
  spells = subst (λ g. Spells IsModel text (pure_model g)) (sym b) s;
  tables = w.tables;
}

-- The file that is answered, where one is.
pub file_in : (text : Text) (h : Header) (m : PModel) (r : Result ModelFile TransNo) → HasHeader text (pure_header h) →
    Spells IsModel text (pure_model m) → IfOk r (λ f. f.header ≡ h) → IfOk r (λ f. f.model ≡ m) → IfOk r IsWhole →
    IfOk r (λ f. IsModelFile text (file_header f) (file_model f))
file_in text h m (Ok f) H s a b w = file_read text h m f H s a b w
file_in text h m (Err why) H s a b w = tt

-- A text whose model is refused behind its header.
pub model_refused : (text : Text) (h : Header) (why : ReadNo) → HasHeader text (pure_header h) →
    IsReadAs {T = PModel} IsModel pure_model text (Err why) →
    IsNoModelFile text (read_no Which.Model why)
model_refused text h ReadNo.NoMemory H r = tt
model_refused text h (ReadNo.BadByte p) H r = (pure_header h, H, r)
model_refused text h (ReadNo.WideNumber p) H r = (pure_header h, H, r)
model_refused text h (ReadNo.Unsupported p) H r = (pure_header h, H, r)
model_refused text h (ReadNo.TooDeep p) H r = (pure_header h, H, r)
model_refused text h (ReadNo.Syntax p) H r = (pure_header h, H, r)

-- A text whose model declares other tables than its header's.
pub other_tables : (text : Text) (h : Header) (m : PModel) (why : TransNo) → HasHeader text (pure_header h) →
    Spells IsModel text (pure_model m) →
    is_bad_or_memory why ≡ true → (why ≡ TransNo.HeaderBad → DeclaresTables (pure_header h) (pure_model m) → ⊥) → IsNoModelFile text why
other_tables text h m TransNo.HeaderBad H s e f = inr (pure_header h, pure_model m, H, s, f refl)
other_tables text h m TransNo.NoMemory H s e f = tt
other_tables text h m (TransNo.Read file why) H s e f = cc
other_tables text h m (TransNo.Typing why) H s e f = cc
other_tables text h m (TransNo.InvalidParameter why) H s e f = cc
other_tables text h m (TransNo.TooManyCells x k) H s e f = cc
other_tables text h m (TransNo.Unsatisfied v) H s e f = cc
other_tables text h m (TransNo.NotRepresented x) H s e f = cc
other_tables text h m TransNo.Big H s e f = cc

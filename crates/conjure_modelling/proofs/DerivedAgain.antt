-- What is known of the text that is written for a model: it is this model by the rules of models, and its header stands in it.
use Rattle.std.proofs.Common.{◌≡◌, refl, sym, ap, ◌∙◌, subst, inl, inr, Bool, true, false, true≢false, List, Option, Some, None}
use Rattle.std.specs.Prelude.{Ok, Err, IfOk, IfErr, IfSome, IsTrue}
use Rattle.std.specs.Option.{MatchOption}
use Rattle.std.specs.declared.result.Result.{Result}
use Rattle.std.specs.List.{list_all}
use Rattle.ess_semantics.specs.Values.{Text}
use Rattle.ess_semantics.specs.Names.{Names}
use Rattle.ess_semantics.specs.Trees.{Stm, Repr}
use Rattle.ess_semantics.specs.Judgements.{fault}
use Rattle.ess_semantics.specs.ModelTrees.{header_of}
use Rattle.ess_grammar.specs.Readable.{ReadableStms}
use Rattle.ess_grammar.specs.Models.{is_readable_model}
use Rattle.ess_grammar.specs.ModelTexts.{ReadsModel, header_lines}
use Rattle.ess_grammar.specs.HeaderTexts.{IsHeader}
use Rattle.eprime_read.specs.Derived.{IsModelText, IsNoModelText}
use Rattle.eprime_tree.specs.declared.models.PModel.{PModel}
use Rattle.eprime_tree.specs.Views.{pure_model}
use Rattle.eprime_tree.specs.ModelText.{model_text, is_head_line}
use Rattle.eprime_tree.proofs.HeaderLines.{header-back}
use Rattle.eprime_tree.proofs.WholeModels.{text-read, model-read, model-inside}
use Rattle.eprime_equality.specs.SameModels.{AreOneModel}
use Rattle.ess_models.specs.Modelled.{IsModelOf, IsTextOf}
use Rattle.ess_translate_header_laws.specs.Headers.{AreWithinLimits, HasHeader}
use Rattle.ess_translate_header_laws.specs.WrittenLines.{header_texts, ReadableHeader, AreShallow}
use Rattle.ess_translate_header_laws.proofs.ModelHeaders.{begins-with-its-header}
use Rattle.ess_translate_header_laws.proofs.WrittenLines.{written_headers, written_within}
use Rattle.conjure_modelling.specs.declared.refusal.ModelNo.{ModelNo}
use Rattle.conjure_modelling.specs.Represented.{have_reprs}
use Rattle.conjure_modelling.specs.Modelled.{IsUnreadable, IsWritten, IsUnwritten}
use Rattle.conjure_modelling.proofs.HeaderLines.{head_lines}
use Rattle.conjure_modelling.proofs.HeaderOurs.{ours, readable_header}
use Rattle.ess_translate_header_laws.specs.Laws.{HeadersStayTyped}

-- ---- the model

-- A text that is read as the model is it.
pub is_it : (text : Text) (m n : PModel) → IsModelText text (pure_model m) → AreOneModel m n → IsModelText text (pure_model n)
is_it text m n h one = subst (IsModelText text) one.model h

-- The lines of the header of a model are read of its text.
pub head_again : (text : Text) (m : PModel) → text ≡ model_text m.head (pure_model m) → IsTrue (list_all is_head_line m.head)
    → header_lines text ≡ m.head
head_again text m is lines = ap header_lines is ∙ header-back m.head (pure_model m) lines

unless : (b : Bool) → (b ≡ true → ⊥) → b ≡ false
unless true f = absurd (f refl)
unless false f = refl

-- Where its text is another model, it is none that a text has.
pub is_other : (text : Text) (m n : PModel) → text ≡ model_text n.head (pure_model n) → IsTrue (list_all is_head_line n.head)
    → IsModelText text (pure_model m) → m.head ≡ header_lines text → (AreOneModel m n → ⊥) → is_readable_model (pure_model n) ≡ false
is_other text m n is lines h head differ =
    unless (is_readable_model (pure_model n)) (λ r. differ (record {
      head = head ∙ head_again text n is lines;
      model = sym (h.only (pure_model n) (model-read text n is r lines).1);
    }))

-- Nor is it where its text is no model.
pub is_none : (text : Text) (n : PModel) → text ≡ model_text n.head (pure_model n) → IsTrue (list_all is_head_line n.head)
    → IsNoModelText text → is_readable_model (pure_model n) ≡ false
is_none text n is lines h =
    unless (is_readable_model (pure_model n))
    (λ r. h (model-inside text n is r lines) (pure_model n) (model-read text n is r lines).1)

-- What is known of an answer, where it is a model: it is the text's, with the lines of its header.
pub answered_model : (text : Text) (o : Option PModel) (m : PModel) → o ≡ Some m
    → MatchOption o (IsNoModelText text) (λ m. IsModelText text (pure_model m)) → IsModelText text (pure_model m)
answered_model text o m e h = subst (λ o. MatchOption o (IsNoModelText text) (λ m. IsModelText text (pure_model m))) e h

pub answered_head : (text : Text) (o : Option PModel) (m : PModel) → o ≡ Some m
    → IfSome o (λ m. m.head ≡ header_lines text) → m.head ≡ header_lines text
answered_head text o m e h = subst (λ o. IfSome o (λ m. m.head ≡ header_lines text)) e h

-- And where it is none.
pub answered_none : (text : Text) (o : Option PModel) → o ≡ None
    → MatchOption o (IsNoModelText text) (λ m. IsModelText text (pure_model m)) → IsNoModelText text
answered_none text o e h = subst (λ o. MatchOption o (IsNoModelText text) (λ m. IsModelText text (pure_model m))) e h

-- Models that a test tells apart are two.
pub told_apart : (b : Bool) (m n : PModel) → (AreOneModel m n → IsTrue b) → b ≡ false → AreOneModel m n → ⊥
told_apart b m n h e one = true≢false (sym (h one) ∙ e)

-- ---- what is written

-- The lines of the header of a model that is built are such as texts have.
pub built_lines : (S : List Stm) (rs : Names (List Repr)) (m : PModel) → ReadableStms S → IsModelOf S rs m
    → IsTrue (list_all is_head_line m.head)
built_lines S rs m readable built = subst (λ h. IsTrue (list_all is_head_line h)) (sym built.head) (head_lines S rs readable)

-- The text of a model that is built spells it.
abbrev spelled_by : (S : List Stm) (rs : Names (List Repr)) (m : PModel) (text : Text) → IsModelOf S rs m
    → text ≡ model_text m.head (pure_model m) → IsTextOf S rs text
spelled_by S rs m text built is =
    let spells : text ≡ model_text (header_texts (header_of S rs)) (pure_model m) =
    is ∙ ap (λ h. model_text h (pure_model m)) built.head in record {
      fit = built.fit;
      model = pure_model m;
      built = built.built;
      spells = spells;
      read = λ r l. subst (λ t. ReadsModel t (header_texts (header_of S rs)) (pure_model m)) (sym spells)
          (text-read (header_texts (header_of S rs)) (pure_model m) r l);
    }

module _ (stay : HeadersStayTyped) (S : List Stm) (rs : Names (List Repr)) (m : PModel) (readable : ReadableStms S) (typed : fault S ≡ None)
    (have : have_reprs rs ≡ true) (built : IsModelOf S rs m) where
  header-readable : ReadableHeader (header_of S rs)
  header-readable = readable_header stay S rs typed built.fit readable have

  module _ (text : Text) (is : text ≡ model_text m.head (pure_model m)) (d : IsModelText text (pure_model m)) where
    head : header_lines text ≡ header_texts (header_of S rs)
    head = head_again text m is (built_lines S rs m readable built) ∙ built.head

    -- The text begins with the header where no line of it is nested too deeply.
    begins : AreShallow (header_lines text) → HasHeader text (header_of S rs)
    begins shallow = (
      begins-with-its-header text (header_of S rs) (pure_model m)
          (header_texts (header_of S rs), written_headers (header_of S rs) header-readable, (head, d.reads))
          (subst AreWithinLimits (sym head) (written_within (header_of S rs) header-readable (subst AreShallow head shallow))),
      ours stay S rs typed built.fit,
    )

    -- It is written.
    pub is_written : IsWritten S rs text
    is_written = record {
      spelled = spelled_by S rs m text built is;
      derived = d;
      head = head;
      header = subst (IsHeader (header_of S rs)) (sym head) (written_headers (header_of S rs) header-readable);
      ours = ours stay S rs typed built.fit;
      read = λ shallow. record { reads = d.reads; limits = (d.inside, shallow); only = d.only };
      begins = begins;
    }

  -- So is what is answered for it.
  pub all_written : {T : Type 0} (f : T → Text) (r : Result T ModelNo) → IfOk r (λ t. f t ≡ model_text m.head (pure_model m))
      → IfOk r (λ t. IsModelText (f t) (pure_model m)) → IfOk r (λ t. IsWritten S rs (f t))
  all_written f (Ok t) is d = is_written (f t) is d
  all_written f (Err why) is d = tt

-- One that no text has isn't written.
pub is_unwritten : (S : List Stm) (rs : Names (List Repr)) (m : PModel) (why : ModelNo) → IsModelOf S rs m
    → IsUnreadable (pure_model m) why → IsUnwritten S rs why
is_unwritten S rs m ModelNo.NotYet built none = inl (inr (record { model = pure_model m; built = built.built; unreadable = none }))
is_unwritten S rs m ModelNo.NoMemory built none = tt
is_unwritten S rs m (ModelNo.Specification w) built none = absurd none
is_unwritten S rs m (ModelNo.BadRepresentation k) built none = absurd none

-- Nor is what is answered in its place.
pub all_unwritten : {T : Type 0} (S : List Stm) (rs : Names (List Repr)) (m : PModel) (r : Result T ModelNo) → IsModelOf S rs m
    → IfErr r (IsUnreadable (pure_model m)) → IfErr r (IsUnwritten S rs)
all_unwritten S rs m (Ok t) built none = tt
all_unwritten S rs m (Err why) built none = is_unwritten S rs m why built none
